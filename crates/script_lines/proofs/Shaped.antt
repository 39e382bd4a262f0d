-- The rows of the calls whose lines have one shape, as one form for each shape.
use Rattle.std.proofs.Common.{◌≡◌, [], ◌∷◌, refl}
use Rattle.script_words.specs.Words.{a_client, a_place, an_iteration, a_time}
use Rattle.script_lines.specs.declared.call_shapes.HandleCall.{HandleCall}
use Rattle.script_lines.specs.declared.call_shapes.HandleCall.TheVariants as handle
use Rattle.script_lines.specs.declared.call_shapes.IterationCall.{IterationCall}
use Rattle.script_lines.specs.declared.call_shapes.IterationCall.TheVariants as iteration
use Rattle.script_lines.specs.declared.call_shapes.TimedCall.{TimedCall}
use Rattle.script_lines.specs.declared.call_shapes.TimedCall.TheVariants as timed
use Rattle.script_lines.specs.declared.lines.Line.TheVariants as lines
use Rattle.script_lines.specs.Shapes.{handle_op, handle_form, timed_op, timed_form, iteration_op, iteration_form}
use Rattle.script_lines.specs.Table.{just}

pub handle_form-is : (k : HandleCall) → handle_form k ≡ record { shape = just (a_client ∷ a_place ∷ []); line = λ v. lines.Call v.0 (handle_op k v.1.0) }
handle_form-is handle.Close = refl
handle_form-is handle.Active = refl
handle_form-is handle.Status = refl

pub timed_form-is : (k : TimedCall) → timed_form k ≡ record { shape = just (a_client ∷ a_place ∷ a_time ∷ []); line = λ v. lines.Call v.0 (timed_op k v.1.0 v.1.1.0) }
timed_form-is timed.Retain = refl
timed_form-is timed.Sync = refl

pub iteration_form-is : (k : IterationCall) → iteration_form k ≡ record { shape = just (a_client ∷ an_iteration ∷ []); line = λ v. lines.Call v.0 (iteration_op k v.1.0) }
iteration_form-is iteration.Next = refl
iteration_form-is iteration.EndIter = refl
