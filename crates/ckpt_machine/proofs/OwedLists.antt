-- The callbacks that are owed for calls that have ended: without those that go with a handle, without those that are given, and how many there are.
use Rattle.std.proofs.Common.{◌≡◌, ℕ, ◌==◌, ◌&&◌, Bool, true, false, not, cond, List, [], ◌∷◌, length, map, drop, filter, min, ◌≤◌, Option, Some, None, unwrap_or, refl, sym, ap, ◌∙◌, arith}
use Rattle.std.proofs.Math.Nat.{min-le_left}
use Rattle.std.proofs.lemmas.List.{drop-map, length-map, length-take-le}
use Rattle.ckpt_types.specs.declared.calls.AsyncKind.{AsyncKind}
use Rattle.ckpt_types.specs.declared.calls.AsyncKind.TheVariants as kinds
use Rattle.ckpt_types.specs.Limits.{dispatch_one, dispatch_all}
use Rattle.call_dispatch.specs.PendingCalls.{PendingCalls, goes_over, is_sync, callback_of, dispatched, given_number, given_by}
use Rattle.call_dispatch.specs.declared.async_call.EndedCall.{EndedCall}
use Rattle.ckpt_machine.specs.Callbacks.{OwedCallback, refers_to, callbacks_in}

-- the handle over which a call of this kind goes, if it does
abbrev pub over_of : AsyncKind → ℕ → Option ℕ
over_of (kinds.Open place) handle = None
over_of kinds.Sync handle = Some handle

-- what is owed for a call that has ended
abbrev pub owed_of : EndedCall → OwedCallback
owed_of e = record { callback = callback_of e; over = over_of e.asked.kind e.asked.handle }

-- a call goes over a handle just where it refers to it
refers_alike : (handle other : ℕ) (kind : AsyncKind) → refers_to (over_of kind other) (Some handle) ≡ (is_sync kind && (other == handle))
refers_alike handle other (kinds.Open place) = refl
refers_alike handle other kinds.Sync = refl

pub owed_without : (handle : ℕ) (xs : List EndedCall) → map owed_of (filter (λ (e : EndedCall). not (goes_over handle e.asked)) xs) ≡ filter (λ (o : OwedCallback). not (refers_to o.over (Some handle))) (map owed_of xs)
owed_without handle [] = refl
owed_without handle (e ∷ xs) = by_test (goes_over handle e.asked) (owed_without handle xs) ∙ ap (λ b. cond (not b) (owed_of e ∷ owed_left) owed_left) (sym (refers_alike handle e.asked.handle e.asked.kind))
  where
    left : List EndedCall
    left = filter (λ (e : EndedCall). not (goes_over handle e.asked)) xs

    owed_left : List OwedCallback
    owed_left = filter (λ (o : OwedCallback). not (refers_to o.over (Some handle))) (map owed_of xs)

    by_test : (b : Bool) → map owed_of left ≡ owed_left → map owed_of (cond (not b) (e ∷ left) left) ≡ cond (not b) (owed_of e ∷ owed_left) owed_left
    by_test true rest = rest
    by_test false rest = ap (λ os. owed_of e ∷ os) rest

-- the callbacks of what is owed for them are theirs
pub callbacks_owed : (xs : List EndedCall) → callbacks_in (map owed_of xs) ≡ map callback_of xs
callbacks_owed [] = refl
callbacks_owed (e ∷ xs) = ap (λ cs. callback_of e ∷ cs) (callbacks_owed xs)

-- ---- what a dispatch gives

-- no more are given than there are
pub given_within : (flags : ℕ) (p : PendingCalls) → given_number flags p ≤ length p.finished
given_within flags p = by_test (flags == dispatch_one) (flags == dispatch_all)
  where
    by_test : (one all : Bool) → unwrap_or (cond one (Some (min (length p.finished) 1)) (cond all (Some (length p.finished)) None)) 0 ≤ length p.finished
    by_test true all = min-le_left (length p.finished) 1
    by_test false true = omega arith
    by_test false false = omega arith

-- what is owed behind it is what is left
pub given_left : (flags : ℕ) (p : PendingCalls) → map owed_of (dispatched (given_number flags p) p).finished ≡ drop (length (map callback_of (given_by flags p))) (map owed_of p.finished)
given_left flags p =
    let count : length (map callback_of (given_by flags p)) ≡ given_number flags p = length-map (given_by flags p) callback_of ∙ length-take-le (given_number flags p) p.finished (given_within flags p) in
    sym (drop-map owed_of (given_number flags p) p.finished) ∙ ap (λ n. drop n (map owed_of p.finished)) (sym count)
