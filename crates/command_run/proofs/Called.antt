-- The words behind the program's name, read one after the other.
use Rattle.std.proofs.Common.{◌≡◌, ℕ, zero, suc, ◌+◌, ◌<◌, ◌≤◌, List, [], ◌∷◌, ◌++◌, map, length, take, drop, slice_get, Option, Some, None, IfSome, IsSomeAnd, string_bytes, sym, ap, ◌∙◌, refl, arith}
use Rattle.std.proofs.lemmas.List.{take_more, map_push, length-take-le, drop-append-le}
use Rattle.std.proofs.lemmas.Option.{slice_get_within, get_or_from_slice_get}
use Rattle.std.specs.declared.string.String.{String}
use Rattle.std.specs.declared.alloc.Global.{Global}
use Rattle.command_run.specs.declared.running.Status.{Status}
use Rattle.command_run.specs.declared.running.Status.TheVariants.{Ran, Usage, Script, ReadFault, WriteFault, NoMemory}
use Rattle.command_run.specs.Arguments.{IsWordAt, IsNoWord, HasNoWord, IsUsageWhere}

-- where it is known what the program was called with, the texts are the words from behind its name up to this number
abbrev pub HasTaken : Option (List (List ℕ)) → ℕ → List (String Global) → Type 0
HasTaken told number texts = IfSome told (λ called. map string_bytes texts ≡ drop 1 (take number called))

-- the next word was read
pub taken_more : (told : Option (List (List ℕ))) (number : ℕ) (texts : List (String Global)) (text : String Global) → 1 ≤ number → HasTaken told number texts
    → IfSome told (λ called. IsWordAt called number (Some text)) → HasTaken told (number + 1) (texts ++ text ∷ [])
taken_more None number texts text behind taken is = tt
taken_more (Some called) number texts text behind taken is =
    let word = string_bytes text in
    let within : number < length called = slice_get_within called number word is in
    let grown : take (number + 1) called ≡ take number called ++ word ∷ [] =
    take_more called number word within ∙ ap (λ next. take number called ++ next ∷ []) (get_or_from_slice_get called number word word is) in
    let len : length (take number called) ≡ number = length-take-le number called (omega (arith, within)) in
    let rest : drop 1 (take (number + 1) called) ≡ drop 1 (take number called) ++ word ∷ [] =
    ap (drop 1) grown ∙ drop-append-le 1 (take number called) (word ∷ []) (omega (arith, len, behind)) in
    map_push string_bytes texts text ∙ ap (λ words. words ++ word ∷ []) taken ∙ sym rest

-- a word of no command that stands at a place is one of the words
found : (words : List (List ℕ)) (at : ℕ) (word : Option (List ℕ)) → slice_get words at ≡ word → IsSomeAnd word IsNoWord → HasNoWord words
found words at None there is = absurd is
found words at (Some word) there is = (word, (at, slice_get_within words at word there, get_or_from_slice_get words at word word there), is)

-- and where that place is behind the name, one of those behind it
no_word : (called : List (List ℕ)) (number : ℕ) → 1 ≤ number → IsSomeAnd (slice_get called number) IsNoWord → HasNoWord (drop 1 called)
no_word [] number behind is = absurd is
no_word (name ∷ words) zero behind is = absurd (omega (arith, behind))
no_word (name ∷ words) (suc at) behind is = found words at (slice_get words at) refl is

-- what ends the reading of one word ends that of all
pub cause_of : (told : Option (List (List ℕ))) (number : ℕ) (status : Status) → 1 ≤ number → IsUsageWhere (IfSome told (λ called. IsSomeAnd (slice_get called number) IsNoWord)) status
    → IsUsageWhere (IfSome told (λ called. HasNoWord (drop 1 called))) status
cause_of None number Usage behind cause = tt
cause_of (Some called) number Usage behind cause = no_word called number behind cause
cause_of told number NoMemory behind cause = tt
cause_of told number Ran behind cause = absurd cause
cause_of told number (Script fault) behind cause = absurd cause
cause_of told number ReadFault behind cause = absurd cause
cause_of told number WriteFault behind cause = absurd cause
