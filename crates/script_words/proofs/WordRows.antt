-- Words of each class beside what they say, by computation: both ends of each range, and what is no word of the class.
use Rattle.std.proofs.Common.{◌≡◌, refl, ℕ, ◌^◌, ◌-◌, List, [], ◌∷◌, map, replicate, Result, Ok, Err, codes, true, false, pos, negsuc}
use Prim.Native.String.{String}
use Rattle.ckpt_types.specs.declared.calls.Version.{Version}
use Rattle.ckpt_types.specs.declared.identities.ActorName.TheVariants.{Client, Node}
use Rattle.ckpt_types.specs.declared.identities.Who.TheVariants.{Actor, Call}
use Rattle.ckpt_types.specs.declared.update.NewId.TheVariants.{Given, Generated}
use Rattle.script_words.specs.declared.reason.Reason.{Reason}
use Rattle.script_words.specs.declared.reason.Reason.TheVariants as reasons
use Rattle.script_words.specs.Words.{Class, a_client, a_node, a_place, an_iteration, a_ckpt, a_number, a_time, a_moment, some_bytes, an_id, a_new_id, a_version, the_callbacks, a_who, Meaning, read_word}
use Rattle.script_words.proofs.Computing.{script_words}

-- each word of the table, and what it says, or that it is not of the class
abbrev Say : (c : Class) → List (List ℕ × Result (Meaning c) Reason) → Type 0
Say c rows = map (λ r. read_word c r.0) rows ≡ map (λ r. r.1) rows

-- a word that says a number
abbrev says : String → ℕ → List ℕ × Result ℕ Reason
says word n = (codes word, Ok n)

-- a word that says no name
abbrev nothing : String → List ℕ × Result ℕ Reason
nothing word = (codes word, Err reasons.Word)

clients : Say a_client (
    says "c0" 0
    ∷ says "c99" 99
    ∷ nothing "c100"
    ∷ nothing "c00"
    ∷ nothing "c07"
    ∷ nothing "c"
    ∷ nothing "c-1"
    ∷ nothing "C1"
    ∷ nothing "n1"
    ∷ nothing ""
    ∷ [])
unfolding script_words
clients = refl

nodes : Say a_node (says "n0" 0 ∷ says "n7" 7 ∷ nothing "n8" ∷ nothing "c0" ∷ [])
unfolding script_words
nodes = refl

places : Say a_place (says "h0" 0 ∷ says "h99" 99 ∷ nothing "h100" ∷ nothing "i0" ∷ [])
unfolding script_words
places = refl

iterations : Say an_iteration (says "i0" 0 ∷ says "i99" 99 ∷ nothing "i100" ∷ nothing "h0" ∷ [])
unfolding script_words
iterations = refl

checkpoints : Say a_ckpt (says "K1" 1 ∷ says "K9999" 9999 ∷ nothing "K0" ∷ nothing "K10000" ∷ [])
unfolding script_words
checkpoints = refl

-- a word that says no number of the range
abbrev none : String → List ℕ × Result ℕ Reason
none word = (codes word, Err reasons.Number)

numbers_to_9 : Say (a_number 0 9) (says "0" 0 ∷ says "9" 9 ∷ none "10" ∷ none "00" ∷ none "" ∷ none "+1" ∷ [])
unfolding script_words
numbers_to_9 = refl

numbers_from_1 : Say (a_number 1 9) (none "0" ∷ [])
unfolding script_words
numbers_from_1 = refl

numbers_of_two_digits : Say (a_number 0 99) (none "1a" ∷ [])
unfolding script_words
numbers_of_two_digits = refl

numbers_of_64_bits : Say (a_number 0 (2 ^ 64 - 1)) (
    says "9999999999999999999" 9999999999999999999
    ∷ none "999999999999999999a"
    ∷ says "10000000000000000000" 10000000000000000000
    ∷ says "18446744073709551615" 18446744073709551615
    ∷ none "18446744073709551616"
    ∷ none "184467440737095516150"
    ∷ [])
unfolding script_words
numbers_of_64_bits = refl

times : Say a_time (
    (codes "0", Ok (pos 0))
    ∷ (codes "5", Ok (pos 5))
    ∷ (codes "-1", Ok (negsuc 0))
    ∷ (codes "end", Ok (pos 9223372036854775807))
    ∷ (codes "9223372036854775807", Ok (pos 9223372036854775807))
    ∷ (codes "9223372036854775808", Err reasons.Number)
    ∷ (codes "-9223372036854775808", Ok (negsuc 9223372036854775807))
    ∷ (codes "-9223372036854775809", Err reasons.Number)
    ∷ (codes "-0", Err reasons.Number)
    ∷ (codes "-01", Err reasons.Number)
    ∷ (codes "01", Err reasons.Number)
    ∷ (codes "-", Err reasons.Number)
    ∷ (codes "ends", Err reasons.Number)
    ∷ (codes "End", Err reasons.Number)
    ∷ (codes "", Err reasons.Number)
    ∷ [])
unfolding script_words
times = refl

moments : Say a_moment (
    (codes "0", Ok (pos 0))
    ∷ (codes "9223372036854775806", Ok (pos 9223372036854775806))
    ∷ (codes "9223372036854775807", Err reasons.Number)
    ∷ (codes "-1", Err reasons.Number)
    ∷ (codes "end", Err reasons.Number)
    ∷ [])
unfolding script_words
moments = refl

-- digits in either case, or printing bytes behind a quote
bytes : Say some_bytes (
    (codes "x", Ok [])
    ∷ (codes "x00", Ok (0 ∷ []))
    ∷ (codes "xaBcDEf09", Ok (0xab ∷ 0xcd ∷ 0xef ∷ 0x09 ∷ []))
    ∷ (codes "xfF0a", Ok (255 ∷ 10 ∷ []))
    ∷ (codes "'!", Ok (codes "!"))
    ∷ (codes "'~'x", Ok (codes "~'x"))
    ∷ (codes "xa", Err reasons.Bytes)
    ∷ (codes "xag", Err reasons.Bytes)
    ∷ (codes "X00", Err reasons.Bytes)
    ∷ (codes "'", Err reasons.Bytes)
    ∷ (39 ∷ 0x7f ∷ [], Err reasons.Bytes)
    ∷ (39 ∷ 0x1f ∷ [], Err reasons.Bytes)
    ∷ (codes "abc", Err reasons.Bytes)
    ∷ (codes "", Err reasons.Bytes)
    ∷ [])
unfolding script_words
bytes = refl

-- 256 bytes are an identifier, and 257 are none
identifiers : Say an_id (
    (39 ∷ replicate 256 97, Ok (replicate 256 97))
    ∷ (39 ∷ replicate 257 97, Err reasons.Bytes)
    ∷ [])
unfolding script_words
identifiers = refl

new_identifiers : Say a_new_id (
    (codes "gen", Ok Generated)
    ∷ (codes "'gen", Ok (Given (codes "gen")))
    ∷ (codes "x", Ok (Given []))
    ∷ (codes "x0fA0", Ok (Given (0x0f ∷ 0xa0 ∷ [])))
    ∷ (codes "x0", Err reasons.Bytes)
    ∷ (codes "'", Err reasons.Bytes)
    ∷ (39 ∷ 0x7f ∷ [], Err reasons.Bytes)
    ∷ (codes "genx", Err reasons.Bytes)
    ∷ [])
unfolding script_words
new_identifiers = refl

-- the version of these three parts
abbrev version : ℕ → ℕ → ℕ → Result Version Reason
version release major minor = Ok (record { release = release; major = major; minor = minor })

versions : Say a_version (
    (codes "A.0.0", version 65 0 0)
    ∷ (codes "Z.255.255", version 90 255 255)
    ∷ (codes "B.256.0", Err reasons.Word)
    ∷ (codes "B.0.256", Err reasons.Word)
    ∷ (codes "b.2.2", Err reasons.Word)
    ∷ (codes "[.2.2", Err reasons.Word)
    ∷ (codes "@.2.2", Err reasons.Word)
    ∷ (codes "B.2", Err reasons.Word)
    ∷ (codes "B.2.2.2", Err reasons.Word)
    ∷ (codes "B.02.2", Err reasons.Word)
    ∷ (codes "B..2", Err reasons.Word)
    ∷ (codes "BB.2.2", Err reasons.Word)
    ∷ (codes "B", Err reasons.Word)
    ∷ (codes "", Err reasons.Word)
    ∷ [])
unfolding script_words
versions = refl

callbacks : Say the_callbacks (
    (codes "none", Ok (record { opens = false; syncs = false }))
    ∷ (codes "open", Ok (record { opens = true; syncs = false }))
    ∷ (codes "sync", Ok (record { opens = false; syncs = true }))
    ∷ (codes "both", Ok (record { opens = true; syncs = true }))
    ∷ (codes "None", Err reasons.Word)
    ∷ [])
unfolding script_words
callbacks = refl

whose_steps : Say a_who (
    (codes "c5", Ok (Actor (Client 5)))
    ∷ (codes "n7", Ok (Actor (Node 7)))
    ∷ (codes "c99.4294967295", Ok (Call (record { actor = Client 99; number = 4294967295 })))
    ∷ (codes "c99.4294967296", Err reasons.Word)
    ∷ (codes "c0.0", Err reasons.Word)
    ∷ (codes "c0.01", Err reasons.Word)
    ∷ (codes "c0.", Err reasons.Word)
    ∷ (codes "c0.1.1", Err reasons.Word)
    ∷ (codes "c100.1", Err reasons.Word)
    ∷ (codes "n1.2", Err reasons.Word)
    ∷ (codes "n8", Err reasons.Word)
    ∷ (codes "", Err reasons.Word)
    ∷ [])
unfolding script_words
whose_steps = refl
