-- Each line of a load is of a form that is built.
use Rattle.std.proofs.Common.{◌≡◌, ℕ, zero, suc, ◌+◌, ◌*◌, ◌/◌, ◌%◌, ◌<◌, ◌≤◌, ◌^◌, List, [], ◌∷◌, ◌++◌, map, length, drop, slice_index, pos, refl, sym, subst, codes, arith}
use Rattle.std.proofs.lemmas.List.{map_push}
use Rattle.std.proofs.lemmas.List.Elements.{All-nil, All-cons}
use Rattle.std.specs.List.{AllByRecursion}
use Rattle.ckpt_types.specs.Limits.{section_id_max}
use Rattle.ckpt_types.specs.declared.identities.ActorName.TheVariants as actors
use Rattle.script_lines.specs.declared.lines.Line.{Line}
use Rattle.script_lines.specs.declared.lines.Line.TheVariants as lines
use Rattle.script_lang.specs.BuiltScripts.{AreBuiltLines, IsBuiltLine, IsBuiltScript, IsIoElement, IsReadElement}
use Rattle.script_lang.specs.Grammar.{moment_behind}
use Rattle.load_script.specs.Load.{checkpoint_made, checkpoint_opened, client_comes, failure_lines, generated, load_max, numbers, one_written, opening_lines, section_made, section_name, turn_read, turn_written}
use Rattle.load_script.proofs.Lengths.{length-generated}
use Rattle.load_script.proofs.Names.{section_name-is}

-- the line is built at the moment 0, which stays
abbrev IsBuiltAtStart : Line → Type 0
IsBuiltAtStart line = IsBuiltLine (pos 0) line × (moment_behind (pos 0) line ≡ pos 0)

-- ---- lists of such lines

both : (xs ys : List Line) → AllByRecursion IsBuiltAtStart xs → AllByRecursion IsBuiltAtStart ys → AllByRecursion IsBuiltAtStart (xs ++ ys)
both [] ys front behind = behind
both (x ∷ xs) ys front behind = (front.0, both xs ys front.1 behind)

of_numbers : (line : ℕ → Line) (n : ℕ) → ((i : ℕ) → i < n → IsBuiltAtStart (line i)) → AllByRecursion IsBuiltAtStart (map line (numbers n))
of_numbers line zero each = tt
of_numbers line (suc n) each =
    subst (AllByRecursion IsBuiltAtStart) (sym (map_push line (numbers n) n))
    (both (map line (numbers n)) (line n ∷ []) (of_numbers line n (λ i below. each i (omega (arith, below)))) (each n (omega arith), tt))

are_built : (xs : List Line) → AllByRecursion IsBuiltAtStart xs → AreBuiltLines (pos 0) xs
are_built [] each = tt
are_built (x ∷ xs) each = (each.0.0, subst (λ t. AreBuiltLines t xs) (sym each.0.1) (are_built xs each.1))

-- ---- the lines

-- each is a byte
abbrev AreBytes : List ℕ → Type 0
AreBytes xs = (i : ℕ) → slice_index xs i < 256

short : (section : ℕ) → section < 32 → length (section_name section) ≤ section_id_max
short section few = subst (λ (name : List ℕ). length name ≤ section_id_max) (sym (section_name-is section few)) (omega arith)

three_bytes : (a b d : ℕ) → a < 256 → b < 256 → d < 256 → AreBytes (a ∷ b ∷ d ∷ [])
three_bytes a b d first second third zero = first
three_bytes a b d first second third (suc zero) = second
three_bytes a b d first second third (suc (suc zero)) = third
three_bytes a b d first second third (suc (suc (suc i))) = omega arith

of_bytes : (section : ℕ) → section < 32 → AreBytes (section_name section)
of_bytes section few =
    subst AreBytes (sym (section_name-is section few)) (three_bytes 115 (48 + section / 10) (48 + section % 10) (omega arith) (omega (arith, few)) (omega (arith, few)))

made : (section : ℕ) → section < 32 → IsBuiltAtStart (section_made section)
made section few = (((omega arith), (omega arith), ((of_bytes section few, short section few), omega arith)), refl)

written : (client section offset : ℕ) (bytes : List ℕ) → client < 100 → section < 32 → offset < 2 ^ 64 → IsBuiltAtStart (lines.Call client (one_written section offset bytes))
written client section offset bytes known few far =
    ((known, omega arith, (omega arith, omega arith, All-cons IsIoElement _ [] (far, short section few) (All-nil IsIoElement))), refl)

begun : IsBuiltAtStart (lines.Begin (actors.Client 0) (one_written 0 0 (codes "zz")))
begun = ((omega arith, omega arith, (omega arith, omega arith, All-cons IsIoElement _ [] (omega arith, short 0 (omega arith)) (All-nil IsIoElement))), refl)

turn_is_written : (turn : ℕ) → turn < load_max → IsBuiltAtStart (turn_written turn)
turn_is_written turn below = written (turn % 4) (7 * turn % 32) (13 * turn % 1000) _ (omega arith) (omega arith) (omega arith)

turn_is_read : (turn : ℕ) → turn < load_max → IsBuiltAtStart (turn_read turn)
turn_is_read turn below =
    ((omega arith, omega arith, (omega arith, omega arith, All-cons IsReadElement _ [] (omega arith, omega arith, short (5 * turn % 32) (omega arith)) (All-nil IsReadElement), omega arith)), refl)

comes : (client : ℕ) → client < 8 → IsBuiltAtStart (client_comes client)
comes client few = ((omega (arith, few), few, (omega arith, omega arith, omega arith, omega arith)), refl)

opened : (client : ℕ) → client < 8 → IsBuiltAtStart (checkpoint_opened client)
opened client few = ((omega (arith, few), omega arith, (omega arith, tt)), refl)

opens : IsBuiltAtStart checkpoint_made
opens = ((omega arith, omega arith, (omega arith, record { flags = omega arith; sections = omega arith; size = omega arith; section_size = omega arith; id_size = omega arith })), refl)

-- ---- the pieces, behind the line of the nodes

opening_built : AllByRecursion IsBuiltAtStart (drop 1 opening_lines)
opening_built = (
  comes 0 (omega arith),
  (
    comes 1 (omega arith),
    (
      comes 2 (omega arith),
      (
        comes 3 (omega arith),
        (opens, (opened 1 (omega arith), (opened 2 (omega arith), (opened 3 (omega arith), tt)))),
      ),
    ),
  ),
)

failure_built : AllByRecursion IsBuiltAtStart failure_lines
failure_built =
    (begun, (((omega arith, omega arith, omega arith), refl), ((omega arith, refl), ((omega arith, refl), ((omega arith, refl), tt)))))

all_built : (turns : ℕ) → turns ≤ load_max → AllByRecursion IsBuiltAtStart (drop 1 opening_lines ++ map section_made (numbers 32) ++ map turn_written (numbers turns) ++ failure_lines ++ map turn_read (numbers turns))
all_built turns few =
    let sections : List Line = map section_made (numbers 32) in
    let writes : List Line = map turn_written (numbers turns) in
    let reads : List Line = map turn_read (numbers turns) in
    let opening : List Line = drop 1 opening_lines in
    both (opening ++ sections ++ writes ++ failure_lines) reads (both (opening ++ sections ++ writes) failure_lines (both (opening ++ sections) writes (both opening sections
    opening_built (of_numbers section_made 32 made)) (of_numbers turn_written turns (λ i below. turn_is_written i (omega (arith, below, few))))) failure_built)
    (of_numbers turn_read turns (λ i below. turn_is_read i (omega (arith, below, few))))

-- A LOAD IS A SCRIPT OF WHAT IS BUILT
pub generated-built : (turns : ℕ) → turns ≤ load_max → IsBuiltScript (generated turns)
generated-built turns few =
    let many : length (generated turns) ≡ 46 + 2 * turns = length-generated turns in
    (((omega arith, omega arith), are_built (drop 1 opening_lines ++ map section_made (numbers 32) ++ map turn_written (numbers turns) ++ failure_lines ++ map turn_read (numbers turns)) (all_built turns few)), omega (arith, many, few))
