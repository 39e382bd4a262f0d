-- Lines and words of a text.
use Rattle.std.proofs.Common.{◌≡◌, refl, sym, ◌∙◌, ap, ℕ, suc, ◌+◌, ◌-◌, ◌<◌, ◌≤◌, Bool, true, false, ◌==◌, List, [], ◌∷◌, length, take, drop, slice_index, arith}
use Rattle.std.proofs.lemmas.List.Sums.{position_or_len_is}
use Rattle.std.specs.List.{onto_first, position_or_len, before_first, after_first}
use Rattle.script_lang.specs.Grammar.{is_space, words_of, text_lines}
use Rattle.script_words.proofs.Places.{cut_there, nothing_cut}

abbrev newline : ℕ → Bool
newline b = b == 10

front : (b : ℕ) (bs : List ℕ) → onto_first b (text_lines bs) ≡ (b ∷ before_first newline bs) ∷ text_lines (after_first newline bs) → (t : Bool) → newline b ≡ t
    → text_lines (b ∷ bs) ≡ before_first newline (b ∷ bs) ∷ text_lines (after_first newline (b ∷ bs))
front b bs onto true h = rw h refl
front b bs onto false h =
    let k : 1 + position_or_len newline bs ≡ suc (position_or_len newline bs) = omega arith in
    let m : (1 + position_or_len newline bs) + 1 ≡ suc (position_or_len newline bs + 1) = omega arith in
    rw h (rw m (rw k onto))

-- the first line is what stands before the first newline
pub first_of_lines : (b : ℕ) (bs : List ℕ) → text_lines (b ∷ bs) ≡ before_first newline (b ∷ bs) ∷ text_lines (after_first newline (b ∷ bs))
first_of_lines b [] = front b [] refl (newline b) refl
first_of_lines b (c ∷ cs) = front b (c ∷ cs) (rw (first_of_lines c cs) refl) (newline b) refl

pub line_there : (text : List ℕ) (i : ℕ) → 0 < length text → i ≡ position_or_len newline text → i < length text
    → text_lines text ≡ take i text ∷ text_lines (take (length text - (i + 1)) (drop (i + 1) text))
line_there [] i some is within = absurd (omega (arith, some))
line_there (b ∷ bs) i some is within =
    let cut = cut_there newline (b ∷ bs) i is within in
    rw (cut.0, cut.1) (first_of_lines b bs)

pub last_line : (text : List ℕ) (i : ℕ) → 0 < length text → i ≡ position_or_len newline text → length text ≤ i → text_lines text ≡ text ∷ []
last_line [] i some is past = absurd (omega (arith, some))
last_line (b ∷ bs) i some is past =
    let cut = nothing_cut newline (b ∷ bs) i is past in
    let front : before_first newline (b ∷ bs) ≡ b ∷ bs = sym cut.0 in
    let back : after_first newline (b ∷ bs) ≡ [] = sym cut.1 in
    first_of_lines b bs ∙ rw (front, back) refl

-- WORDS, one cut off after the other

-- the first word is what stands before the first space
word_there : (w : List ℕ) → position_or_len is_space w < length w → words_of w ≡ before_first is_space w ∷ words_of (after_first is_space w)
word_there [] lt = absurd (omega (arith, lt))
word_there (b ∷ bs) lt = go (is_space b) refl (λ l. word_there bs l)
  where
    go : (t : Bool) → is_space b ≡ t → (position_or_len is_space bs < length bs → words_of bs ≡ before_first is_space bs ∷ words_of (after_first is_space bs))
        → words_of (b ∷ bs) ≡ before_first is_space (b ∷ bs) ∷ words_of (after_first is_space (b ∷ bs))
    go true h behind = rw h refl
    go false h behind =
        let more : 1 + position_or_len is_space bs < suc (length bs) = rw h at lt in
        let k : 1 + position_or_len is_space bs ≡ suc (position_or_len is_space bs) = omega arith in
        let m : (1 + position_or_len is_space bs) + 1 ≡ suc (position_or_len is_space bs + 1) = omega arith in
        rw h (rw m (rw k (ap (λ ws. onto_first b ws) (behind (omega (arith, more))))))

-- a line without a space is one word
last_word : (w : List ℕ) → length w ≤ position_or_len is_space w → words_of w ≡ w ∷ []
last_word [] le = refl
last_word (b ∷ bs) le = go (is_space b) refl (λ l. last_word bs l)
  where
    go : (t : Bool) → is_space b ≡ t → (length bs ≤ position_or_len is_space bs → words_of bs ≡ bs ∷ []) → words_of (b ∷ bs) ≡ (b ∷ bs) ∷ []
    go true h behind =
        let none : suc (length bs) ≤ 0 = rw h at le in
        absurd (omega (arith, none))
    go false h behind =
        let more : suc (length bs) ≤ 1 + position_or_len is_space bs = rw h at le in
        rw h (ap (λ ws. onto_first b ws) (behind (omega (arith, more))))

pub word_cut : (w : List ℕ) (i : ℕ) → i ≡ position_or_len is_space w → i < length w → words_of w ≡ take i w ∷ words_of (take (length w - (i + 1)) (drop (i + 1) w))
word_cut w i is within =
    let cut = cut_there is_space w i is within in
    rw (cut.0, cut.1) (word_there w (omega (arith, is, within)))

pub word_uncut : (w : List ℕ) (i : ℕ) → i ≡ position_or_len is_space w → length w ≤ i → words_of w ≡ w ∷ []
word_uncut w i is past = last_word w (omega (arith, is, past))

not_true : (b : Bool) → (b ≡ true → ⊥) → b ≡ false
not_true true h = absurd (h refl)
not_true false h = refl

-- the first place of a byte, as it is searched for
pub first_place : (byte : ℕ) (text : List ℕ) (i : ℕ) → i ≤ length text → ((k : ℕ) → k < i → (slice_index text k == byte) ≡ true → ⊥) → (i < length text → (slice_index text i == byte) ≡ true) → i ≡ position_or_len (λ b. b == byte) text
first_place byte text i le before at = sym (position_or_len_is (λ (b : ℕ). b == byte) text i 0 le (λ k lt. not_true (slice_index text k == byte) (before k lt)) at)
