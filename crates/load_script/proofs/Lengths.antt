-- How many lines a load has.
use Rattle.std.proofs.Common.{◌≡◌, ℕ, zero, suc, ◌+◌, ◌*◌, List, [], ◌∷◌, ◌++◌, map, length, refl, ap, ◌∙◌, arith, length-append}
use Rattle.std.proofs.lemmas.List.{length-map}
use Rattle.load_script.specs.Load.{numbers, generated, opening_lines, failure_lines, section_made, turn_written, turn_read}

length-numbers : (n : ℕ) → length (numbers n) ≡ n
length-numbers zero = refl
length-numbers (suc n) =
    let front : length (numbers n) ≡ n = length-numbers n in
    length-append (numbers n) (n ∷ []) ∙ omega (arith, front)

-- so many of what comes of the numbers from 0 on
length-map-numbers : {A : Type 0} (f : ℕ → A) (n : ℕ) → length (map f (numbers n)) ≡ n
length-map-numbers f n = length-map (numbers n) f ∙ length-numbers n

five_pieces : {A : Type 0} (a b c d e : List A) → length (a ++ b ++ c ++ d ++ e) ≡ length a + length b + length c + length d + length e
five_pieces a b c d e =
    length-append (a ++ b ++ c ++ d) e
    ∙ ap (λ n. n + length e) (length-append (a ++ b ++ c) d
    ∙ ap (λ n. n + length d) (length-append (a ++ b) c
    ∙ ap (λ n. n + length c) (length-append a b)))

-- beside its writes and reads it has 46 lines
pub length-generated : (turns : ℕ) → length (generated turns) ≡ 46 + 2 * turns
length-generated turns =
    let sections : length (map section_made (numbers 32)) ≡ 32 = length-map-numbers section_made 32 in
    let writes : length (map turn_written (numbers turns)) ≡ turns = length-map-numbers turn_written turns in
    let reads : length (map turn_read (numbers turns)) ≡ turns = length-map-numbers turn_read turns in
    five_pieces opening_lines (map section_made (numbers 32)) (map turn_written (numbers turns)) failure_lines (map turn_read (numbers turns))
    ∙ counted (length (map section_made (numbers 32))) (length (map turn_written (numbers turns))) (length (map turn_read (numbers turns))) sections writes reads where
      counted : (s w r : ℕ) → s ≡ 32 → w ≡ turns → r ≡ turns → 9 + s + w + 5 + r ≡ 46 + 2 * turns
      counted s w r some written read = omega (arith, some, written, read)
