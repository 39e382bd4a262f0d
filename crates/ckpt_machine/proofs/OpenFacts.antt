-- What an open is: its refusals by a look, and the handle that it gives its client.
use Rattle.std.proofs.Common.{ℕ, ◌+◌, ◌<◌, length, List, Option, Some, None, sym, subst}
use Rattle.std.specs.Prelude.{IsSome}
use Rattle.ckpt_types.specs.declared.ais_error.AisError.{AisError}
use Rattle.ckpt_types.specs.declared.answers.Cause.{Cause}
use Rattle.ckpt_types.specs.declared.attributes.CreationAttributes.{CreationAttributes}
use Rattle.cluster_record.specs.declared.entries.Entry.{Entry}
use Rattle.ckpt_types.specs.Asks.{asked}
use Rattle.ckpt_types.specs.Limits.{handles_max}
use Rattle.cluster_record.specs.Calls.{client_of}
use Rattle.cluster_record.specs.LookUps.{creation_flags_of}
use Rattle.cluster_record.specs.Makings.{makings_of}
use Rattle.cluster_record.specs.RecordState.{entry_of}
use Rattle.ckpt_machine.specs.Invariant.{InvariantIn}
use Rattle.ckpt_machine.specs.Machine.{Machine, CallState}
use Rattle.ckpt_machine.specs.After.{with_given}
use Rattle.ckpt_machine.specs.Guards.{AsksToOpen}
use Rattle.ckpt_machine.specs.LookGuards.{MayExist, OpenLook, LookRefused}
use Rattle.ckpt_machine.specs.Shape.{Shape}
use Rattle.ckpt_machine.proofs.EndedTables.{given_keeps, given_stays}
use Rattle.ckpt_machine.proofs.Handles.{IsGivable}
use Rattle.ckpt_machine.proofs.PlainCalls.{ending}

-- a refusal that the record decides is one of the open
pub LookRefused-open : (m : Machine) (s : CallState) (name : List ℕ) (a : Option CreationAttributes) (error : AisError) (cause : Cause) → AsksToOpen s name a → OpenLook m s name a error cause → LookRefused m s (asked s.op) error cause
LookRefused-open m s name a error cause open_asks look = subst (λ ask. LookRefused m s ask error cause) (sym open_asks.asks) look

-- where a checkpoint is asked for, it is not missing
pub may_exist : (o : Option Entry) (a : Option CreationAttributes) → IsSome a → MayExist o a
may_exist None a asked = asked
may_exist (Some e) a asked = tt

-- a call that has ended gives its client a handle of a checkpoint that may be given, where there is room for it
pub given_ends : (n : Machine) (shapes : ℕ → Shape) (s : CallState) (k : ℕ) → InvariantIn shapes (ending s n) → IsGivable n.cluster s.call.actor k → length (n.tables s.call.actor).handles + makings_of (client_of s.call) n.cluster.entries < handles_max → InvariantIn shapes (ending s (with_given s k n))
given_ends n shapes s k ended can room = given_keeps (ending s n) shapes ended s.call.actor (asked s.op) k can room (given_stays n s k (creation_flags_of (entry_of k n.cluster.entries)))
