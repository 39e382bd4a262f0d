-- What counting one more label makes of the counts.
use Rattle.std.proofs.Common.{◌≡◌, ◌≢◌, ℕ, zero, suc, ◌+◌, ◌<◌, ◌≤◌, Bool, true, false, cond, List, [], ◌∷◌, ◌++◌, codes, length, get_or, take, replicate, Option, Some, None, slice_index, slice_set, nat_eq, count_by, flat_map, refl, sym, ap, subst, ◌∙◌, arith, length-set}
use Rattle.std.proofs.lemmas.Grind.{common_steps, get_or-set_at}
use Rattle.std.proofs.lemmas.List.Sums.{sum_by_more, count_by-le-length}
use Rattle.std.proofs.lemmas.List.{get_or-set_other}
use Rattle.ckpt_types.specs.AisError.{code_of}
use Rattle.ckpt_types.specs.declared.ais_error.AisError.{AisError}
use Rattle.run_labels.specs.declared.labels.Label.{Label}
use Rattle.load_summary.specs.Counts.{CountsCodes, counted_in}
use Rattle.load_summary.specs.Summary.{all_codes, code_line, code_lines, count_line, ends_call, ends_with, is_code, is_step, label_code, summary}
use Rattle.load_summary.proofs.Codes.{small_code}

-- ---- any count

pub count_next : {X : Type 0} (p : X → Bool) (xs : List X) (i : ℕ) (d : X) → i < length xs → count_by p (take (i + 1) xs) ≡ count_by p (take i xs) + cond (p (get_or xs i d)) 1 0
count_next p xs i d within = sum_by_more (λ x. cond (p x) 1 0) xs i d within

pub count_few : {X : Type 0} (p : X → Bool) (xs : List X) (i : ℕ) → count_by p (take i xs) ≤ length xs
count_few p xs i =
    let counted : count_by p (take i xs) ≤ length (take i xs) = count_by-le-length p (take i xs) in
    let front : length (take i xs) ≤ length xs = grind (arith, common_steps) in
    omega (arith, counted, front)

-- with one more where the label that is reached has it, the count is that of the labels up to it
pub one_more : {X : Type 0} (p : X → Bool) (xs : List X) (i : ℕ) (x : X) (count one : ℕ) → i < length xs → x ≡ get_or xs i x → count ≡ count_by p (take i xs) → one ≡ cond (p x) 1 0 → count + one ≡ count_by p (take (i + 1) xs)
one_more p xs i x count one within is so_far more =
    rw (so_far, more) (ap (λ y. count_by p (take i xs) + cond (p y) 1 0) is ∙ sym (count_next p xs i x within))

-- ---- the counts of codes

-- one more at a place, read at another or there
at_place : (counts : List ℕ) (i j : ℕ) (same : Bool) → nat_eq i j ≡ same → i < length counts → slice_index (slice_set counts i (slice_index counts i + 1)) j ≡ slice_index counts j + cond same 1 0
at_place counts i j true e within =
    let same : j ≡ i = grind (arith, common_steps, e) in
    get_or-set_at counts i j (slice_index counts i + 1) 0 same within ∙ ap (λ k. slice_index counts k + 1) (sym same)
at_place counts i j false e within =
    let other : j ≢ i = grind (arith, common_steps, e) in
    get_or-set_other counts i j (slice_index counts i + 1) 0 other ∙ omega arith

counted_at : (counts : List ℕ) (code : Option AisError) (error : AisError) → length counts ≡ 28 → slice_index (counted_in counts code) (code_of error) ≡ slice_index counts (code_of error) + cond (is_code error code) 1 0
counted_at counts None error many = omega arith
counted_at counts (Some told) error many =
    let small : code_of told < 28 = small_code told in
    at_place counts (code_of told) (code_of error) (nat_eq (code_of told) (code_of error)) refl (omega (arith, small, many))

counted_length : (counts : List ℕ) (code : Option AisError) → length (counted_in counts code) ≡ length counts
counted_length counts None = refl
counted_length counts (Some told) = length-set counts (code_of told) (slice_index counts (code_of told) + 1)

-- the label that is reached is counted with those before it
pub codes_next : (labels : List Label) (i : ℕ) (d : Label) (counts : List ℕ) → i < length labels → CountsCodes (take i labels) counts → CountsCodes (take (i + 1) labels) (counted_in counts (label_code (get_or labels i d)))
codes_next labels i d counts within so_far =
    let code : Option AisError = label_code (get_or labels i d) in
    record {
      length = counted_length counts code ∙ so_far.length;
      each = λ error. counted_at counts code error so_far.length ∙ ap (λ n. n + cond (is_code error code) 1 0) (so_far.each error) ∙ sym (count_next (ends_with error) labels i d within);
    }

pub codes_more : (labels : List Label) (i : ℕ) (label : Label) (before after : List ℕ) → i < length labels → label ≡ get_or labels i label → CountsCodes (take i labels) before → after ≡ counted_in before (label_code label) → CountsCodes (take (i + 1) labels) after
codes_more labels i label before after within is so_far more =
    subst (CountsCodes (take (i + 1) labels)) (sym (more ∙ ap (λ l. counted_in before (label_code l)) is)) (codes_next labels i label before within so_far)

-- nothing is counted of no labels
zeros : (n i : ℕ) → slice_index (replicate n 0) i ≡ 0
zeros zero i = refl
zeros (suc n) zero = refl
zeros (suc n) (suc i) = zeros n i

pub codes_start : (labels : List Label) (counts : List ℕ) → counts ≡ replicate 28 0 → CountsCodes (take 0 labels) counts
codes_start labels counts start = rw start (record { length = refl; each = λ error. zeros 28 (code_of error) })

-- ---- the lines

flat_map_equal : {X A : Type 0} (f g : X → List A) → ((x : X) → f x ≡ g x) → (xs : List X) → flat_map f xs ≡ flat_map g xs
flat_map_equal f g same [] = refl
flat_map_equal f g same (x ∷ xs) = rw (same x, flat_map_equal f g same xs) refl

-- the lines of counts are those of the labels that were counted
pub lines_counted : (log : List Label) (counts : List ℕ) → CountsCodes log counts → flat_map (λ error. code_line error (slice_index counts (code_of error))) all_codes ≡ code_lines log
lines_counted log counts counted = flat_map_equal _ _ (λ error. ap (code_line error) (counted.each error)) all_codes

-- the three parts, one behind another
pub summary_told : (log : List Label) (none front middle text lines : List ℕ) (calls steps : ℕ) → none ≡ [] → front ≡ none ++ count_line (codes "calls") calls → middle ≡ front ++ lines → text ≡ middle ++ count_line (codes "steps") steps
    → calls ≡ count_by ends_call log → lines ≡ code_lines log → steps ≡ count_by is_step log → text ≡ summary log
summary_told log none front middle text lines calls steps start one two three called coded stepped =
    rw (three, two, one, start, called, coded, stepped) refl
