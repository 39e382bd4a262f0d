-- What is found in a table: of a new one, after a name is linked or taken out, and in the map that keeps it.
use Rattle.std.proofs.Common.{◌≡◌, ◌≢◌, ℕ, List, [], ◌∷◌, ◌++◌, filter, find, Option, Some, None, option_map, Bool, true, false, cond, not, nat_eq, Decides, sym, ap, ◌∙◌, refl, true≢false}
use Rattle.std.specs.Cmp.Lexicographic.{pointwise, bytes_decides}
use Rattle.std.specs.Map.{lookup}
use Rattle.std.proofs.lemmas.Option.{none-some}
use Rattle.name_table.specs.Table.{NamedCkpt, is_called, found, linked, name_taken_away, EachOnce, OthersStay}
use Rattle.name_table.specs.Kept.{named_ckpt, table_of}

-- a checkpoint is called by its name and no other
pub is_called_decides : (name : List ℕ) (ckpt : NamedCkpt) → Decides (is_called name ckpt) (name ≡ ckpt.name)
is_called_decides name ckpt = bytes_decides name ckpt.name

-- each name is its own
pub is_called-own : (name : List ℕ) (identity : ℕ) → is_called name (record { name = name; identity = identity }) ≡ true
is_called-own name identity = (is_called_decides name (record { name = name; identity = identity })).1 refl

-- and no other name's
pub is_called-other : (other : List ℕ) (ckpt : NamedCkpt) → other ≢ ckpt.name → is_called other ckpt ≡ false
is_called-other other ckpt apart = by (is_called other ckpt) refl
  where
    by : (b : Bool) → is_called other ckpt ≡ b → is_called other ckpt ≡ false
    by true e = absurd (apart ((is_called_decides other ckpt).0 e))
    by false e = e

-- what is found at the first checkpoint and at those after it
identity_found : (b : Bool) (ckpt : NamedCkpt) (rest : Option NamedCkpt) → option_map (λ c. c.identity) (cond b (Some ckpt) rest) ≡ cond b (Some ckpt.identity) (option_map (λ c. c.identity) rest)
identity_found true ckpt rest = refl
identity_found false ckpt rest = refl

pub found-cons : (name : List ℕ) (ckpt : NamedCkpt) (table : List NamedCkpt) → found name (ckpt ∷ table) ≡ cond (is_called name ckpt) (Some ckpt.identity) (found name table)
found-cons name ckpt table = identity_found (is_called name ckpt) ckpt (find (is_called name) table)

-- what a map finds is found in its table
pub found_in_entries : (name : List ℕ) (entries : List (List ℕ × ℕ)) → found name (table_of entries) ≡ lookup (pointwise nat_eq name) entries
found_in_entries name [] = refl
found_in_entries name (e ∷ entries) = found-cons name (named_ckpt e) (table_of entries) ∙ ap (cond (is_called name (named_ckpt e)) (Some e.1)) (found_in_entries name entries)

-- a name that is absent is not that of the first checkpoint, and absent from the others
absent_at : (b : Bool) (identity : ℕ) (rest : Option ℕ) → cond b (Some identity) rest ≡ None → (b ≡ false) × (rest ≡ None)
absent_at true identity rest e = absurd (none-some _ (sym e))
absent_at false identity rest e = (refl, e)

pub absent-cons : (name : List ℕ) (ckpt : NamedCkpt) (table : List NamedCkpt) → found name (ckpt ∷ table) ≡ None → (is_called name ckpt ≡ false) × (found name table ≡ None)
absent-cons name ckpt table e = absent_at (is_called name ckpt) ckpt.identity (found name table) (sym (found-cons name ckpt table) ∙ e)

-- a name linked to a checkpoint is found so
pub found-linked : (name : List ℕ) (identity : ℕ) (table : List NamedCkpt) → found name table ≡ None → found name (linked name identity table) ≡ Some identity
found-linked name identity [] absent = found-cons name _ [] ∙ rw (is_called-own name identity) refl
found-linked name identity (ckpt ∷ table) absent =
    let (first, rest) = absent-cons name ckpt table absent in
    found-cons name ckpt _ ∙ rw first (found-linked name identity table rest)

-- and each other name as before
pub found-linked-other : (name : List ℕ) (identity : ℕ) (table : List NamedCkpt) → OthersStay name table (linked name identity table)
found-linked-other name identity [] other apart = found-cons other _ [] ∙ rw (is_called-other other (record { name = name; identity = identity }) apart) refl
found-linked-other name identity (ckpt ∷ table) other apart =
    found-cons other ckpt _ ∙ ap (cond (is_called other ckpt) (Some ckpt.identity)) (found-linked-other name identity table other apart) ∙ sym (found-cons other ckpt table)

-- a name that was taken out is not found
pub found-unlinked : (name : List ℕ) (table : List NamedCkpt) → found name (name_taken_away name table) ≡ None
found-unlinked name [] = refl
found-unlinked name (ckpt ∷ table) =
    let rest : found name (name_taken_away name table) ≡ None = found-unlinked name table in
    elim (is_called name ckpt) as (λ b. is_called name ckpt ≡ b → found name (cond (not b) (ckpt ∷ name_taken_away name table) (name_taken_away name table)) ≡ None) [
      | true ↦ λ e. rest
      | false ↦ λ e. found-cons name ckpt (name_taken_away name table) ∙ rw e rest
    ] refl

-- and each other name is found as before
pub found-unlinked-other : (name : List ℕ) (table : List NamedCkpt) → OthersStay name table (name_taken_away name table)
found-unlinked-other name [] other apart = refl
found-unlinked-other name (ckpt ∷ table) other apart =
    let rest : found other (name_taken_away name table) ≡ found other table = found-unlinked-other name table other apart in
    elim (is_called name ckpt) as (λ b. is_called name ckpt ≡ b → found other (cond (not b) (ckpt ∷ name_taken_away name table) (name_taken_away name table)) ≡ found other (ckpt ∷ table)) [
      | true ↦ λ e.
          let differs : other ≢ ckpt.name = λ same. apart (same ∙ sym ((is_called_decides name ckpt).0 e)) in
          rest ∙ sym (found-cons other ckpt table ∙ rw (is_called-other other ckpt differs) refl)
      | false ↦ λ e. found-cons other ckpt (name_taken_away name table) ∙ ap (cond (is_called other ckpt) (Some ckpt.identity)) rest ∙ sym (found-cons other ckpt table)
    ] refl

-- to take out a name that is absent changes nothing
pub unlinked-absent : (name : List ℕ) (table : List NamedCkpt) → found name table ≡ None → name_taken_away name table ≡ table
unlinked-absent name [] absent = refl
unlinked-absent name (ckpt ∷ table) absent =
    let (first, rest) = absent-cons name ckpt table absent in
    rw first (ap (λ t. ckpt ∷ t) (unlinked-absent name table rest))

-- a name that is absent stays absent where some are left out
pub absent-filter : (keeps : NamedCkpt → Bool) (name : List ℕ) (table : List NamedCkpt) → found name table ≡ None → found name (filter keeps table) ≡ None
absent-filter keeps name [] absent = refl
absent-filter keeps name (ckpt ∷ table) absent =
    let (first, after) = absent-cons name ckpt table absent in
    let rest : found name (filter keeps table) ≡ None = absent-filter keeps name table after in
    elim (keeps ckpt) as (λ b. found name (cond b (ckpt ∷ filter keeps table) (filter keeps table)) ≡ None) [ true ↦ found-cons name ckpt _ ∙ rw first rest | false ↦ rest ]

-- each name that stands once stands once where some are left out
pub EachOnce-filter : (keeps : NamedCkpt → Bool) (table : List NamedCkpt) → EachOnce table → EachOnce (filter keeps table)
EachOnce-filter keeps [] once = tt
EachOnce-filter keeps (ckpt ∷ table) once =
    let rest : EachOnce (filter keeps table) = EachOnce-filter keeps table once.1 in
    elim (keeps ckpt) as (λ b. EachOnce (cond b (ckpt ∷ filter keeps table) (filter keeps table))) [ true ↦ (absent-filter keeps ckpt.name table once.0, rest) | false ↦ rest ]

-- a name that is not a checkpoint's, either way round
not_called : (name : List ℕ) (ckpt : NamedCkpt) → is_called name ckpt ≡ false → ckpt.name ≢ name
not_called name ckpt e same = true≢false (sym ((is_called_decides name ckpt).1 (sym same)) ∙ e)

-- each name stands once, and one more that was absent
pub EachOnce-linked : (name : List ℕ) (identity : ℕ) (table : List NamedCkpt) → EachOnce table → found name table ≡ None → EachOnce (linked name identity table)
EachOnce-linked name identity [] once absent = (refl, tt)
EachOnce-linked name identity (ckpt ∷ table) once absent =
    let (first, rest) = absent-cons name ckpt table absent in
    (found-linked-other name identity table ckpt.name (not_called name ckpt first) ∙ once.0, EachOnce-linked name identity table once.1 rest)

-- a name that is absent is that of none in the table
pub absent-within : (name : List ℕ) (front : List NamedCkpt) (ckpt : NamedCkpt) (back : List NamedCkpt) → found name (front ++ ckpt ∷ back) ≡ None → is_called name ckpt ≡ false
absent-within name [] ckpt back absent = (absent-cons name ckpt back absent).0
absent-within name (first ∷ front) ckpt back absent = absent-within name front ckpt back (absent-cons name first (front ++ ckpt ∷ back) absent).1

-- where each name stands once, that of a checkpoint is absent from those before it
pub absent-before : (front : List NamedCkpt) (ckpt : NamedCkpt) (back : List NamedCkpt) → EachOnce (front ++ ckpt ∷ back) → found ckpt.name front ≡ None
absent-before [] ckpt back once = refl
absent-before (first ∷ front) ckpt back once =
    let differs : is_called ckpt.name first ≡ false = is_called-other ckpt.name first (not_called first.name ckpt (absent-within first.name front ckpt back once.0)) in
    found-cons ckpt.name first front ∙ rw differs (absent-before front ckpt back once.1)
