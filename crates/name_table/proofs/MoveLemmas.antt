-- The steps of a move of all names but one to another map, and of a copy.
use Rattle.std.proofs.Common.{◌≡◌, ℕ, ◌-◌, ◌<◌, ◌≤◌, List, [], ◌∷◌, ◌++◌, length, slice_range, None, true, cond, not, nat_eq, sym, ap, ◌∙◌, subst, arith, append_assoc, length-append}
use Rattle.std.specs.Cmp.Lexicographic.{pointwise}
use Rattle.std.specs.Map.{lookup}
use Rattle.std.proofs.lemmas.List.{map-append, length-map, take_all}
use Rattle.std.proofs.lemmas.List.Sums.{length-filter, count_by-le-length}
use Rattle.indexmap.specs.IndexMap.{IndexMap, get, insert_entry}
use Rattle.indexmap.proofs.CallerLemmas.{insert_entry-new}
use Rattle.name_table.specs.Table.{NamedCkpt, is_called, name_taken_away, EachOnce}
use Rattle.name_table.specs.Kept.{named_ckpt, table_of}
use Rattle.name_table.proofs.TableLemmas.{found_in_entries, EachOnce-filter, absent-before}

-- one more entry is one more name
pub table_of-push : (entries : List (List ℕ × ℕ)) (e : List ℕ × ℕ) → table_of (entries ++ e ∷ []) ≡ table_of entries ++ named_ckpt e ∷ []
table_of-push entries e = map-append named_ckpt entries (e ∷ [])

-- a name that is absent goes last
pub goes_last : {S : Type 0} (m : IndexMap (List ℕ) ℕ S) (name : List ℕ) (identity : ℕ) → get (pointwise nat_eq) m name ≡ None → insert_entry (pointwise nat_eq) m.entries name identity ≡ m.entries ++ (name, identity) ∷ []
goes_last m name identity absent = insert_entry-new (pointwise nat_eq) m name identity absent

-- from the first to the last it is the whole list
pub whole : {X : Type 0} (xs : List X) → slice_range xs 0 (length xs) ≡ xs
whole xs = take_all (length xs - 0) xs (omega arith)

-- not more names are left than there were
pub length-unlinked : (name : List ℕ) (table : List NamedCkpt) → length (name_taken_away name table) ≤ length table
length-unlinked name table = omega (arith, length-filter (λ ckpt. not (is_called name ckpt)) table, count_by-le-length (λ ckpt. not (is_called name ckpt)) table)

-- of all the entries some are done; now comes one of another name, and then the rest
module _ (name : List ℕ) (all done coming rest : List (List ℕ × ℕ)) (e : List ℕ × ℕ)
    (so_far : table_of done ++ name_taken_away name (table_of coming) ≡ name_taken_away name (table_of all))
    (comes : coming ≡ e ∷ rest) (other : not (pointwise nat_eq name e.0) ≡ true) where
  at_the_entry : table_of done ++ named_ckpt e ∷ name_taken_away name (table_of rest) ≡ name_taken_away name (table_of all)
  at_the_entry =
      let split : name_taken_away name (table_of coming) ≡ named_ckpt e ∷ name_taken_away name (table_of rest) = rw comes (ap (λ b. cond b (named_ckpt e ∷ name_taken_away name (table_of rest)) (name_taken_away name (table_of rest))) other) in
      ap (λ t. table_of done ++ t) (sym split) ∙ so_far

  -- there are more than are done
  pub fewer : length done < length all
  fewer = omega (arith, ap length at_the_entry, length-append (table_of done) (named_ckpt e ∷ name_taken_away name (table_of rest)), length-map done named_ckpt, length-map all named_ckpt, length-unlinked name (table_of all))

  -- its name is not among those done
  pub not_yet : EachOnce (table_of all) → lookup (pointwise nat_eq e.0) done ≡ None
  not_yet once =
      sym (found_in_entries e.0 done)
      ∙ absent-before (table_of done) (named_ckpt e) (name_taken_away name (table_of rest)) (subst EachOnce (sym at_the_entry) (EachOnce-filter _ (table_of all) once))

  -- then it is done too
  pub then_done : table_of (done ++ e ∷ []) ++ name_taken_away name (table_of rest) ≡ name_taken_away name (table_of all)
  then_done = ap (λ t. t ++ name_taken_away name (table_of rest)) (table_of-push done e) ∙ append_assoc (table_of done) (named_ckpt e ∷ []) (name_taken_away name (table_of rest)) ∙ at_the_entry

-- a table of which some names are copied, one comes now, and then the rest
pub copied_so_far : (copy : List NamedCkpt) (coming rest : List (List ℕ × ℕ)) (e : List ℕ × ℕ) (all : List (List ℕ × ℕ)) (table : List NamedCkpt)
    → copy ++ table_of coming ≡ table → coming ≡ e ∷ rest → table_of all ≡ table → copy ++ named_ckpt e ∷ table_of rest ≡ table_of all
copied_so_far copy coming rest e all table so_far comes seen = ap (λ es. copy ++ table_of es) (sym comes) ∙ so_far ∙ sym seen
