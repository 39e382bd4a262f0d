-- What the size at an identifier tells, and what a placed section makes of the bytes together.
use Rattle.std.proofs.Common.{◌≡◌, ℕ, ◌+◌, ◌<◌, List, Option, Some, None, option_map, Bool, true, false, cond, nat_lt, inl, inr, sym, ap, ◌∙◌, refl, arith}
use Rattle.std.specs.Option.{option_map_or}
use Rattle.std.proofs.lemmas.Bool.{lt-ltb, le-ltb, cases_lt}
use Rattle.std.proofs.lemmas.Option.{none-some, same_Some}
use Rattle.ckpt_types.specs.Sections.{Section, section_at, is_taken, Rises, with_section, memory_used, size_of}
use Rattle.ckpt_types.proofs.Presence.{section_at-named}
use Rattle.ckpt_types.proofs.Placing.{memory_used-with_section, memory_used-with_section_over}
use Rattle.ckpt_types.proofs.Options.{none_of}
use Rattle.update_rules.specs.Present.{size_at}

-- a size is that of what was found
found_size : (found : Option Section) (n : ℕ) → option_map size_of found ≡ Some n → (s : Section) × (found ≡ Some s) × (size_of s ≡ n)
found_size None n is = absurd (none-some n is)
found_size (Some s) n is = (s, refl, same_Some (size_of s) n is)

-- where there is a size there is a section, which has it
pub size_at-Some : (id : List ℕ) (sections : List Section) (n : ℕ) → size_at id sections ≡ Some n → (s : Section) × (section_at id sections ≡ Some s) × (size_of s ≡ n)
size_at-Some id sections n is = found_size (section_at id sections) n is

-- no size is nothing found
none_found : (found : Option Section) → option_map size_of found ≡ None → found ≡ None
none_found None is = refl
none_found (Some s) is = absurd (none-some (size_of s) (sym is))

-- where there is no size there is no section
pub size_at-None : (id : List ℕ) (sections : List Section) → size_at id sections ≡ None → section_at id sections ≡ None
size_at-None id sections is = none_found (section_at id sections) is

-- what is made of two tests is made of each outcome
pub two_conditions : {A B : Type 0} (f : A → B) (b c : Bool) (x y z : A) → f (cond b x (cond c y z)) ≡ cond b (f x) (cond c (f y) (f z))
two_conditions f true c x y z = refl
two_conditions f false true x y z = refl
two_conditions f false false x y z = refl

-- two tests give one answer where one holds just where the other does
pub nat_lt_alike : (a b c d : ℕ) → (a < b → c < d) → (c < d → a < b) → nat_lt a b ≡ nat_lt c d
nat_lt_alike a b c d there back =
    elim (cases_lt a b) [
      | inl lt ↦ lt-ltb a b lt ∙ sym (lt-ltb c d (there lt))
      | inr ge ↦ le-ltb a b ge ∙ sym (elim (cases_lt c d) as (λ _. nat_lt c d ≡ false) [ inl lt ↦ absurd (let h : a < b = back lt in omega arith) | inr le ↦ le-ltb c d le ])
    ]

-- the bytes together once one more section is placed
pub memory_used-with_section_free : (new : Section) (sections : List Section) → Rises sections → is_taken new.id sections ≡ false → memory_used (with_section new sections) ≡ memory_used sections + size_of new
memory_used-with_section_free new sections rises free =
    let nothing : option_map_or size_of (section_at new.id sections) 0 ≡ 0 = ap (λ o. option_map_or size_of o 0) (none_of (section_at new.id sections) free) in
    omega (arith, memory_used-with_section new sections rises, nothing)

-- the bytes together once a section takes the place of the one found
pub memory_used-in_place : (new s : Section) (id : List ℕ) (sections : List Section) → Rises sections → section_at id sections ≡ Some s → new.id ≡ s.id → memory_used (with_section new sections) + size_of s ≡ memory_used sections + size_of new
memory_used-in_place new s id sections rises there same =
    memory_used-with_section_over new s sections rises (ap (λ x. section_at x sections) (same ∙ section_at-named id sections s there) ∙ there)
