use Rattle.std.proofs.Common.{◌≡◌, IsSome, Ok, refl, sym, ap, subst, ◌∙◌}
use Rattle.std.specs.Prelude.{Option}
use Rattle.std.specs.Option.{ok_or}
use Rattle.ckpt_types.specs.declared.ais_error.AisError.TheVariants.{BadHandle}
use Rattle.client_handles.specs.ClientState.{ClientState, handle_numbered, named_handle}
use Rattle.client_handles.specs.declared.handle_view.HandleView.{HandleView}
use Rattle.client_handles.proofs.HandleLaws.{handle_numbered-named}
use Rattle.client_calls.specs.TableState.{TableState}
use Rattle.client_calls.specs.TableView.{client_in}
use Rattle.client_calls.proofs.table.Table.start.Goals as goal

pub add_iteration-requires-clause-opened : goal.add_iteration-requires-clause-opened
add_iteration-requires-clause-opened c =
    let client : ClientState = c.args.self.now.client in
    let handle : HandleView = c.in-Some.handle in
    let named : Ok handle ≡ named_handle c.in-Iter.over client = ap (λ (o : Option HandleView). ok_or o BadHandle) (sym c.in-Some.is ∙ c.handle.ensures) in
    let opened : IsSome (handle_numbered handle.handle client.handles) = subst (λ (o : Option HandleView). IsSome o) (sym (handle_numbered-named c.in-Iter.over client handle named)) refl in
    let same : c.deref_mut.result.now ≡ client = c.deref_mut.ensures.value ∙ sym (ap client_in c.in-Some-client.is) ∙ ap (λ (t : TableState). t.client) c.self.view_is in
    subst (λ (s : ClientState). IsSome (handle_numbered handle.handle s.handles)) (sym same) opened
