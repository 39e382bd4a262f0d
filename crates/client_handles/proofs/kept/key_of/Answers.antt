use Rattle.std.proofs.Common.{◌≡◌, ℕ, Some, Contains, ap, inl, inr, ◌∙◌, refl, arith}
use Rattle.slab.specs.Slab.{get}
use Rattle.slab.proofs.SlabLemmas.{Contains-cons, Contains-cons_cases, Contains-entries}
use Rattle.client_handles.specs.declared.handle_view.HandleView.{HandleView}
use Rattle.client_handles.proofs.kept.key_of.Goals as goal

pub loop-key-init : goal.loop-key-init
loop-key-init c =
    let left = c.into_iter-key-iterator.ensures.into_iter_gives ∙ c.iter-key-items.ensures.rest in (
      tt,
      tt,
      λ key h found is. rw left ((Contains-entries c.args.handles.now key h).1 found),
      λ key h there. (Contains-entries c.args.handles.now key h).0 (rw left at there),
    )

pub loop-key-preserved : goal.loop-key-preserved
loop-key-preserved c =
    let at = c.in-Some.ensures.steps in (
      tt,
      tt,
      λ key h found is. elim (Contains-cons_cases _ _ _ (rw at at (c.loop-key.invariant.2 key h found is))) [
        | inl same ↦ absurd (c.if-handle-number.false (ap (λ (e : ℕ × HandleView). e.1.handle) same ∙ is))
        | inr rest ↦ rest
      ],
      λ key h there. c.loop-key.invariant.3 key h (rw at (Contains-cons _ _ _ there)),
    )

pub returns-then-handle-number-clause-found : goal.returns-then-handle-number-clause-found
returns-then-handle-number-clause-found c =
    let first : Contains c.loop-key.key-iterator (c.in-Some.key, c.in-Some.handle.now) = rw c.in-Some.ensures.steps (0, omega arith, refl) in
    let there : get c.args.handles.now c.in-Some.key ≡ Some c.in-Some.handle.now = c.loop-key.invariant.3 c.in-Some.key c.in-Some.handle.now first in
    rw there c.if-handle-number.true
