use Rattle.std.proofs.Common.{ap, ◌∙◌}
use Rattle.client_handles.specs.ClientState.{released}
use Rattle.client_handles.proofs.HandleLaws.{named_handle-number, handle_at-refused}
use Rattle.client_handles.proofs.ClientLaws.{released-none}
use Rattle.client_handles.proofs.client.Client.drop_handle.Goals as goal

pub returns-in_err-handle-clause-dropped : goal.returns-in_err-handle-clause-dropped
returns-in_err-handle-clause-dropped c = released-none _ c.args.self.now c.in_err-handle.ensures.valid (handle_at-refused c.args.place c.args.self.now _ c.in_err-handle.ensures.answer)

pub returns-clause-dropped : goal.returns-clause-dropped
returns-clause-dropped c = c.release.ensures ∙ ap (λ n. released n c.args.self.now) (named_handle-number c.args.place c.args.self.now _ c.in_ok-handle.ensures.answer)
