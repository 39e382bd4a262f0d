-- Worked examples of a table of names, each by computation. A table is a map over the names that are looked up.
use Rattle.std.proofs.Common.{◌≡◌, ℕ, List, [], ◌∷◌, ◌++◌, map, replicate, codes, Option, Some, None, refl}
use Rattle.name_table.specs.Table.{NamedCkpt, found, linked, name_taken_away}

-- what each of these names is linked to
abbrev each_found : List NamedCkpt → List (List ℕ) → List (Option ℕ)
each_found table names = map (λ name. found name table) names

-- ---- a name is no other that it begins

pub new_table_has_no_name : found (codes "a") [] ≡ None
new_table_has_no_name = refl

pub nor_one_to_take_out : name_taken_away (codes "a") [] ≡ []
nor_one_to_take_out = refl

abbrev a_and_abc : List NamedCkpt
a_and_abc = linked (codes "abc") 3 (linked (codes "a") 2 [])

pub one_between_is_absent : each_found a_and_abc (codes "a" ∷ codes "ab" ∷ codes "abc" ∷ []) ≡ Some 2 ∷ None ∷ Some 3 ∷ []
one_between_is_absent = refl

-- the one between is linked, and the shortest goes
abbrev ab_and_abc : List NamedCkpt
ab_and_abc = name_taken_away (codes "a") (linked (codes "ab") 4 a_and_abc)

pub prefix_goes_alone : each_found ab_and_abc (codes "a" ∷ codes "ab" ∷ codes "abc" ∷ []) ≡ None ∷ Some 4 ∷ Some 3 ∷ []
prefix_goes_alone = refl

pub name_goes_once : name_taken_away (codes "a") ab_and_abc ≡ ab_and_abc
name_goes_once = refl

-- ---- the empty name is a name, and a zero byte another

pub empty_name_is_absent_at_first : found [] [] ≡ None
empty_name_is_absent_at_first = refl

abbrev empty_alone : List NamedCkpt
empty_alone = linked [] 1 []

pub zero_byte_is_another : each_found empty_alone ([] ∷ (0 ∷ []) ∷ []) ≡ Some 1 ∷ None ∷ []
zero_byte_is_another = refl

-- one zero byte, and two of them; the empty name goes, and comes back
abbrev zeros : List NamedCkpt
zeros = name_taken_away [] (linked (0 ∷ 0 ∷ []) 6 (linked (0 ∷ []) 5 empty_alone))

pub zeros_stay : each_found zeros ([] ∷ (0 ∷ []) ∷ (0 ∷ 0 ∷ []) ∷ []) ≡ None ∷ Some 5 ∷ Some 6 ∷ []
zeros_stay = refl

pub it_comes_back_under_another_identity : found [] (linked [] 9 zeros) ≡ Some 9
it_comes_back_under_another_identity = refl

-- ---- names of 256 bytes are told by their last byte

abbrev long_name : ℕ → List ℕ
long_name last = replicate 255 120 ++ last ∷ []

abbrev one_long : List NamedCkpt
one_long = linked (long_name 97) 7 []

-- another last byte, and none
pub last_byte_counts : each_found one_long (long_name 97 ∷ long_name 98 ∷ replicate 255 120 ∷ []) ≡ Some 7 ∷ None ∷ None ∷ []
last_byte_counts = refl

-- a second name of the same checkpoint, whose first goes
pub second_name_of_a_checkpoint_stays : each_found (name_taken_away (long_name 97) (linked (long_name 98) 7 one_long)) (long_name 97 ∷ long_name 98 ∷ []) ≡ None ∷ Some 7 ∷ []
second_name_of_a_checkpoint_stays = refl
