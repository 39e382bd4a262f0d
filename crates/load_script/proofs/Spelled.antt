-- A word that spells a number of turns is read as that number.
use Rattle.std.proofs.Common.{◌≡◌, ℕ, List, Result, Ok, Err, arith}
use Rattle.std.proofs.lemmas.Fmt.{parse-decimal}
use Rattle.std.specs.Str.Parse.{ParsesUnsigned}
use Rattle.load_script.specs.Load.{SpellsTurns}

read_as : {E : Type 0} (word : List ℕ) (turns : ℕ) (r : Result ℕ E) → ParsesUnsigned 32 10 word r → SpellsTurns word turns → r ≡ Ok turns
read_as word turns r read spells = parse-decimal 32 turns word r (omega (arith, spells.2)) (omega (arith, spells.2)) spells.0 read

-- what is not read spells none
pub none_read : {E : Type 0} (word : List ℕ) (turns : ℕ) (r : Result ℕ E) (e : E) → ParsesUnsigned 32 10 word r → r ≡ Err e → SpellsTurns word turns → ⊥
none_read word turns r e read is spells =
    let other = read_as word turns r read spells in
    absurd (cc)

-- and what is read is the number that the word spells
pub number_read : {E : Type 0} (word : List ℕ) (turns number : ℕ) (r : Result ℕ E) → ParsesUnsigned 32 10 word r → r ≡ Ok number → SpellsTurns word turns → number ≡ turns
number_read word turns number r read is spells =
    let other = read_as word turns r read spells in
    cc
