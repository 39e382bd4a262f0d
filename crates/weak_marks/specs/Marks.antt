-- The marks of a replica: the one weak write that is under way on it, and how far it is.
use Rattle.std.specs.Prelude.{◌≡◌, ◌≢◌, ℕ, ◌+◌, List, [], length, Option, Some, None, Result, Ok, Err, Bool, false, nat_lt, if◌then◌else◌, ℤ}
use Rattle.ckpt_types.specs.declared.calls.Held.{Held}
use Rattle.ckpt_types.specs.declared.identities.CallId.{CallId}
use Rattle.ckpt_types.specs.declared.update.IoElement.{IoElement}
use Rattle.ckpt_types.specs.declared.update.Update.{Update}
use Rattle.ckpt_types.specs.declared.update.Update.TheVariants as updates

-- a weak write: its call, the moment at which its elements are done, how many are, and the generation in which it began
pub record Marked : Type 0 where
  pub call : CallId
  pub update : Update
  pub moment : ℤ
  pub done : ℕ
  pub generation : ℕ

-- the elements of a write; any other update has none
abbrev pub elements_in : Update → List IoElement
elements_in (updates.Write elements) = elements
elements_in update = []

-- the call that made the marks, where they stand
abbrev pub call_of : Option Marked → Option CallId
call_of None = None
call_of (Some marked) = Some marked.call

-- the call made the marks that stand
abbrev pub IsMarkedBy : CallId → Option Marked → Type 0
IsMarkedBy by None = ⊥
IsMarkedBy by (Some marked) = marked.call ≡ by

-- ---- how far it is

-- an element is left that is not done
abbrev pub is_left : Marked → Bool
is_left marked = nat_lt marked.done (length (elements_in marked.update))

-- marks stand, with an element that is not done
abbrev pub is_left_of : Option Marked → Bool
is_left_of None = false
is_left_of (Some marked) = is_left marked

-- the place of the element that is done next, where one is left
abbrev pub next_place : Option Marked → Option ℕ
next_place None = None
next_place (Some marked) = if is_left marked then Some marked.done else None

-- the marks behind it: it counts as done
abbrev pub with_next_done : Option Marked → Option Marked
with_next_done None = None
with_next_done (Some marked) = if is_left marked then Some (record marked { done = marked.done + 1 }) else Some marked

-- ---- how it begins

-- the write of a call begins, unless the marks of another stand: an answer, and the marks behind it
abbrev pub IsBegin : Marked → Option Marked → Result (Unit {0}) Held → Option Marked → Type 0
IsBegin new None (Ok done) after = after ≡ Some new
IsBegin new None (Err held) after = ⊥
IsBegin new (Some marked) (Ok done) after = (marked.call ≡ new.call) × (after ≡ Some new)
IsBegin new (Some marked) (Err held) after = (marked.call ≢ new.call) × (held.by ≡ marked.call) × (after ≡ Some marked)
