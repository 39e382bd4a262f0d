-- The calls whose lines have one shape: what each makes of its words.
use Rattle.std.specs.Prelude.{ℕ, ◌*◌, ◌%◌, ◌==◌, ◌&&◌, Bool, ℤ, nat_le, nat_lt}
use Rattle.ckpt_types.specs.Limits.{line_elements_max}
use Rattle.ckpt_types.specs.declared.operation.Op.{Op}
use Rattle.ckpt_types.specs.declared.operation.Op.TheVariants as ops
use Rattle.ckpt_types.specs.declared.words.FirstWord.TheVariants as words
use Rattle.ckpt_types.specs.declared.words.OpWord.{OpWord}
use Rattle.ckpt_types.specs.declared.words.OpWord.TheVariants as calls
use Rattle.script_lines.specs.declared.call_shapes.HandleCall.{HandleCall}
use Rattle.script_lines.specs.declared.call_shapes.HandleCall.TheVariants as handle
use Rattle.script_lines.specs.declared.call_shapes.IterationCall.{IterationCall}
use Rattle.script_lines.specs.declared.call_shapes.IterationCall.TheVariants as iteration
use Rattle.script_lines.specs.declared.call_shapes.TimedCall.{TimedCall}
use Rattle.script_lines.specs.declared.call_shapes.TimedCall.TheVariants as timed
use Rattle.script_lines.specs.Table.{Form, form}

-- a call of the handle at a place
abbrev pub handle_op : HandleCall → ℕ → Op
handle_op handle.Close h = ops.Close h
handle_op handle.Active h = ops.Active h
handle_op handle.Status h = ops.Status h

-- the first word of its line
abbrev pub handle_word : HandleCall → OpWord
handle_word handle.Close = calls.Close
handle_word handle.Active = calls.Active
handle_word handle.Status = calls.Status

-- the form of its line, which is a row of the table
abbrev pub handle_form : HandleCall → Form
handle_form k = form (words.Op (handle_word k))

-- a call of the handle at a place, with a time
abbrev pub timed_op : TimedCall → ℕ → ℤ → Op
timed_op timed.Retain h t = ops.Retain h t
timed_op timed.Sync h t = ops.Sync h t

-- the first word of its line
abbrev pub timed_word : TimedCall → OpWord
timed_word timed.Retain = calls.Retain
timed_word timed.Sync = calls.Sync

-- the form of its line, which is a row of the table
abbrev pub timed_form : TimedCall → Form
timed_form k = form (words.Op (timed_word k))

-- a call of the iteration at a place
abbrev pub iteration_op : IterationCall → ℕ → Op
iteration_op iteration.Next i = ops.Next i
iteration_op iteration.EndIter i = ops.EndIter i

-- the first word of its line
abbrev pub iteration_word : IterationCall → OpWord
iteration_word iteration.Next = calls.Next
iteration_word iteration.EndIter = calls.EndIter

-- the form of its line, which is a row of the table
abbrev pub iteration_form : IterationCall → Form
iteration_form k = form (words.Op (iteration_word k))

-- so many words are those of elements, three for each
abbrev pub counts_groups : ℕ → Bool
counts_groups n = nat_lt 0 n && n % 3 == 0 && nat_le n (line_elements_max * 3)
