-- An iteration that goes on: it is lent, and kept again with what stands behind the section that was given.
use Rattle.std.proofs.Common.{◌≡◌, ℕ, ◌<◌, ◌≤◌, ◌==◌, Bool, true, false, cond, List, [], ◌∷◌, Option, Some, None, Ok, slice_index, refl, sym, ap, ◌∙◌, arith}
use Rattle.std.specs.Option.{option_and_then}
use Rattle.std.proofs.lemmas.Bool.{eqb-true, ne_eqb}
use Rattle.std.proofs.lemmas.Option.{none-some, same_Some}
use Rattle.ckpt_types.specs.Reads.{NextGiven}
use Rattle.section_iter.specs.KeptIds.{KeptIds}
use Rattle.section_iter.specs.Next.{kept_after}
use Rattle.client_handles.specs.ClientState.{ClientState, iteration_number, kept_at, kept_iteration, with_kept, keeping, lent, returned, IsValid}
use Rattle.client_handles.specs.Numbered.{numbered, RiseWithin}
use Rattle.client_handles.specs.declared.begun.BegunIteration.{BegunIteration}
use Rattle.client_handles.proofs.IterationLaws.{kept_iteration-Ok}
use Rattle.ckpt_types.specs.Asks.{Next}
use Rattle.ckpt_machine.specs.Tables.{with_next, gone_on}

-- ---- lent and kept again

-- so it is with one iteration, whether it has the number or not
again_step : (kept : Option KeptIds) (number : ℕ) (it : BegunIteration) (b : Bool) → (it.number == number) ≡ b →
    cond (iteration_number (cond b (with_kept None it) it) == number) (with_kept kept (cond b (with_kept None it) it)) (cond b (with_kept None it) it) ≡ cond b (with_kept kept it) it
again_step kept number it true test = ap (λ b. cond b (with_kept kept it) (with_kept None it)) test
again_step kept number it false test = ap (λ b. cond b (with_kept kept it) it) test

-- what is kept again is all that is kept
keeping-again : (kept : Option KeptIds) (number : ℕ) (its : List BegunIteration) → keeping kept number (keeping None number its) ≡ keeping kept number its
keeping-again kept number [] = refl
keeping-again kept number (it ∷ its) =
    ap (λ x. x ∷ keeping kept number (keeping None number its)) (again_step kept number it (it.number == number) refl)
    ∙ ap (λ xs. cond (it.number == number) (with_kept kept it) it ∷ xs) (keeping-again kept number its)

-- it does not matter that it was lent before it was returned
pub returned-lent : (place : ℕ) (kept : KeptIds) (s : ClientState) → returned place kept (lent place s) ≡ returned place kept s
returned-lent place kept s = λ i. record s { iterations = keeping-again (Some kept) (slice_index s.iteration_places place) s.iterations i }

-- ---- returned as it was

-- an iteration with what it keeps already is the same
same_kept : (kept : Option KeptIds) (it : BegunIteration) → it.kept ≡ kept → with_kept kept it ≡ it
same_kept kept it is = λ i. record it { kept = sym is i }

-- where all numbers are higher nothing changes
keeping-low : (kept : Option KeptIds) (number first last : ℕ) (its : List BegunIteration) → number ≤ first → RiseWithin iteration_number first last its → keeping kept number its ≡ its
keeping-low kept number first last [] low rise = refl
keeping-low kept number first last (x ∷ its) low rise =
    let above : first < x.number = rise.0 in
    ap (λ b. cond b (with_kept kept x) x ∷ keeping kept number its) (ne_eqb x.number number (λ e. omega arith))
    ∙ ap (λ ys. x ∷ ys) (keeping-low kept number x.number last its (omega arith) rise.2)

-- the first one is the one that is found, or it has another number
same_step : (kept : Option KeptIds) (number last : ℕ) (x : BegunIteration) (its : List BegunIteration) (it : BegunIteration) → RiseWithin iteration_number x.number last its → it.kept ≡ kept → (numbered iteration_number number its ≡ Some it → keeping kept number its ≡ its) → (b : Bool) → (x.number == number) ≡ b → cond b (Some x) (numbered iteration_number number its) ≡ Some it →
    cond b (with_kept kept x) x ∷ keeping kept number its ≡ x ∷ its
same_step kept number last x its it rise is rest true test found =
    let same : x.number ≡ number = eqb-true x.number number test in
    ap (λ y. y ∷ keeping kept number its) (same_kept kept x (ap (λ (y : BegunIteration). y.kept) (same_Some x it found) ∙ is))
    ∙ ap (λ ys. x ∷ ys) (keeping-low kept number x.number last its (omega arith) rise)
same_step kept number last x its it rise is rest false test found = ap (λ ys. x ∷ ys) (rest found)

-- where numbers rise, only one has the number, and it keeps this already
keeping-same : (kept : Option KeptIds) (number first last : ℕ) (its : List BegunIteration) (it : BegunIteration) → RiseWithin iteration_number first last its → numbered iteration_number number its ≡ Some it → it.kept ≡ kept → keeping kept number its ≡ its
keeping-same kept number first last [] it rise found is = absurd (none-some it found)
keeping-same kept number first last (x ∷ its) it rise found is =
    same_step kept number last x its it rise.2 is (λ behind. keeping-same kept number x.number last its it rise.2 behind is) (x.number == number) refl found

-- with what it kept before, nothing has changed
pub returned-same : (place : ℕ) (kept : KeptIds) (s : ClientState) → IsValid s → Ok kept ≡ kept_iteration place s → returned place kept s ≡ s
returned-same place kept s is told =
    let (it, stands, keeps) = kept_iteration-Ok place s kept told in
    λ i. record s { iterations = keeping-same (Some kept) (slice_index s.iteration_places place) 0 s.last_iteration s.iterations it is.iterations.numbers stands keeps i }

-- ---- what the client keeps then

-- what is handed out is what is kept at the place
pub kept_at-told : (place : ℕ) (s : ClientState) (kept : KeptIds) → Ok kept ≡ kept_iteration place s → kept_at place s ≡ Some kept
kept_at-told place s kept told =
    let (it, stands, keeps) = kept_iteration-Ok place s kept told in
    ap (option_and_then (λ (x : BegunIteration). x.kept)) stands ∙ keeps

-- with nothing given it keeps what it kept
gone_step : (place : ℕ) (kept : KeptIds) (s : ClientState) → IsValid s → Ok kept ≡ kept_iteration place s → (next : Option NextGiven) → returned place (kept_after kept next) s ≡ with_next place (Some kept) next s
gone_step place kept s is told None = returned-same place kept s is told
gone_step place kept s is told (Some next) = refl

-- lent, and returned with what stands behind the section that was given, its iteration has gone on
pub gone_on-told : (place : ℕ) (kept : KeptIds) (next : Option NextGiven) (s : ClientState) → IsValid s → Ok kept ≡ kept_iteration place s → returned place (kept_after kept next) (lent place s) ≡ gone_on (Next place) next s
gone_on-told place kept next s is told =
    returned-lent place (kept_after kept next) s
    ∙ gone_step place kept s is told next
    ∙ ap (λ o. with_next place o next s) (sym (kept_at-told place s kept told))
