-- What a beginning looks at, of what the tables keep of its client, and what a call asks of its handle.
use Rattle.std.specs.Prelude.{Option, Bool}
use Rattle.ckpt_types.specs.declared.answers.Outcome.{Outcome}
use Rattle.client_handles.specs.declared.handle_view.HandleView.{HandleView}
use Rattle.ckpt_machine.specs.Beginning.{Standing, are_not_collocated, are_of_all, may_always, may_read, may_write, on_handle, sync_begin}
use Rattle.client_calls.specs.declared.beginning.Right.{Right}
use Rattle.client_calls.specs.declared.beginning.Right.TheVariants as rights
use Rattle.client_calls.specs.TableState.{TableState}

-- whether the client is live, the handle of the call's place, the callbacks that are registered, and the asynchronous calls that are not dispatched
abbrev pub standing : Bool → Option HandleView → TableState → Standing
standing live handle t = record { live = live; handle = handle; callbacks = t.client.callbacks; pending = t.pending }

-- what a call over a handle answers, by what it asks of that
abbrev pub by_right : Right → Option HandleView → Bool → Option Outcome
by_right rights.Any h bad = on_handle h bad may_always
by_right rights.Read h bad = on_handle h bad may_read
by_right rights.Write h bad = on_handle h bad may_write
by_right rights.Synchronize h bad = sync_begin h bad are_of_all
by_right rights.SetActive h bad = sync_begin h bad are_not_collocated
