-- The end of an asynchronous call, in its client's table.
use Rattle.ckpt_types.specs.declared.answers.Outcome.{Outcome}
use Rattle.ckpt_types.specs.declared.identities.CallId.{CallId}
use Rattle.call_dispatch.specs.PendingCalls.{ended_in}
use Rattle.ckpt_machine.specs.After.{handle_opened}
use Rattle.client_calls.specs.TableState.{TableState}

-- it stands among its client's, till its callback is given
abbrev pub table_ended : CallId → Outcome → TableState → TableState
table_ended call end t = record t { pending = ended_in call (handle_opened end t.client) end t.pending }
