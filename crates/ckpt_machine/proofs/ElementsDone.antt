-- The elements of a write, each done alone: one more of them, and all.
use Rattle.std.proofs.Common.{◌≡◌, ℕ, zero, suc, ◌+◌, List, [], ◌∷◌, take, drop, Result, Ok, Err, ℤ, refl, ap, subst, sym, ◌∙◌, arith}
use Rattle.std.specs.Prelude.{IsOk}
use Rattle.ckpt_types.specs.declared.attributes.CreationAttributes.{CreationAttributes}
use Rattle.ckpt_types.specs.declared.update.IoElement.{IoElement}
use Rattle.ckpt_types.specs.declared.update.Update.{Update}
use Rattle.ckpt_types.specs.declared.update.Update.TheVariants as updates
use Rattle.ckpt_types.specs.Sections.{Section}
use Rattle.ckpt_types.specs.Updates.{Refusal, outcome}
use Rattle.weak_marks.specs.Marks.{elements_in}
use Rattle.replica.specs.Replicas.{or_same, first_written}
use Rattle.replica.proofs.WeakWrites.{one_by_one, one_by_one-outcome}
use Rattle.ckpt_machine.specs.Replays.{each_done}

-- behind some that are done, the first of the others makes them one more
each_done-suc : (a : CreationAttributes) (t : ℤ) (n : ℕ) (elements : List IoElement) (sections : List Section) → first_written a t (drop n elements) (each_done a t (take n elements) sections) ≡ each_done a t (take (suc n) elements) sections
each_done-suc a t zero [] sections = refl
each_done-suc a t zero (e ∷ elements) sections = refl
each_done-suc a t (suc n) [] sections = refl
each_done-suc a t (suc n) (e ∷ elements) sections = each_done-suc a t n elements (first_written a t (e ∷ elements) sections)

pub each_done-next : (a : CreationAttributes) (t : ℤ) (n : ℕ) (elements : List IoElement) (sections : List Section) → first_written a t (drop n elements) (each_done a t (take n elements) sections) ≡ each_done a t (take (n + 1) elements) sections
each_done-next a t n elements sections = each_done-suc a t n elements sections ∙ ap (λ k. each_done a t (take k elements) sections) (let next : suc n ≡ n + 1 = omega arith in next)

-- the replica does them so too
each_done-one_by_one : (a : CreationAttributes) (t : ℤ) (elements : List IoElement) (sections : List Section) → each_done a t elements sections ≡ one_by_one a t elements sections
each_done-one_by_one a t [] sections = refl
each_done-one_by_one a t (e ∷ elements) sections = each_done-one_by_one a t elements (first_written a t (e ∷ elements) sections)

-- all of them leave what the write leaves at once, where it has an outcome; a write of none would leave what is present, and they leave all
each_done-outcome : (a : CreationAttributes) (t : ℤ) (e : IoElement) (elements : List IoElement) (sections : List Section) → IsOk (outcome a (updates.Write (e ∷ elements)) t sections) → each_done a t (e ∷ elements) sections ≡ or_same (outcome a (updates.Write (e ∷ elements)) t sections) sections
each_done-outcome a t e elements sections fits = by_outcome (outcome a (updates.Write (e ∷ elements)) t sections) refl fits
  where
    by_outcome : (r : Result (List Section) Refusal) → outcome a (updates.Write (e ∷ elements)) t sections ≡ r → IsOk r → each_done a t (e ∷ elements) sections ≡ or_same r sections
    by_outcome (Ok last) is fits = each_done-one_by_one a t (e ∷ elements) sections ∙ one_by_one-outcome a t e elements sections last is
    by_outcome (Err why) is fits = absurd (cc fits)

-- an update that is a write of one element or more
pub each_done-write : (a : CreationAttributes) (t : ℤ) (update : Update) (e : IoElement) (elements : List IoElement) (sections : List Section) → update ≡ updates.Write (e ∷ elements) → IsOk (outcome a update t sections) → each_done a t (elements_in update) sections ≡ or_same (outcome a update t sections) sections
each_done-write a t update e elements sections write = subst (λ update. IsOk (outcome a update t sections) → each_done a t (elements_in update) sections ≡ or_same (outcome a update t sections) sections) (sym write) (each_done-outcome a t e elements sections)
