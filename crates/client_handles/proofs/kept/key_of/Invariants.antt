use Rattle.std.proofs.Common.{◌≡◌, ℕ, Some, Contains}
use Rattle.slab.specs.Slab.{get}
use Rattle.client_handles.specs.declared.handle_view.HandleView.{HandleView}
use Rattle.client_handles.proofs.kept.key_of.Given as goal

-- each handle of the number is among the entries that are left, and each entry left is the slab's
abbrev pub invariant-loop-key : goal.invariant-loop-key
invariant-loop-key l =
    (goal.iterator-loop-key).can_next l.key-iterator ×
    (goal.iterator-loop-key).is_finite l.key-iterator ×
    ((key : ℕ) (h : HandleView) → get l.handles key ≡ Some h → h.handle ≡ l.number → Contains l.key-iterator (key, h)) ×
    ((key : ℕ) (h : HandleView) → Contains l.key-iterator (key, h) → get l.handles key ≡ Some h)
