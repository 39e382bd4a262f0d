-- An entry from which references are taken keeps its identity, and all that the invariant looks at.
use Rattle.std.proofs.Common.{◌≡◌, ℕ, ◌-◌, List, length, Bool, true, false, cond, ◌==◌, ℤ, refl}
use Rattle.std.specs.Prelude.{slice_index, slice_set}
use Rattle.cluster_record.specs.declared.entries.Entry.{Entry}
use Rattle.cluster_record.specs.RecordState.{has_references, unreferred, released_all}
use Rattle.cluster_record.proofs.IdentityLaws.{KeepsIdentity}
use Rattle.ckpt_machine.specs.Later.{IsLaterEntry}
use Rattle.ckpt_machine.proofs.Joining.{same_nodes-later}
use Rattle.ckpt_machine.proofs.Moment.{IsLaterEntry-refl}
use Rattle.ckpt_machine.proofs.NodeLists.{length-slice_set}

-- whether any are left or not
left_identity : (e : Entry) (t : ℤ) (references : List ℕ) (none left : Bool) → (cond none e (cond left (record e { references = references }) (record e { references = references; idle = t }))).identity ≡ e.identity
left_identity e t references true left = refl
left_identity e t references false true = refl
left_identity e t references false false = refl

-- one of a client
pub released-identity : (c : ℕ) (t : ℤ) → KeepsIdentity (unreferred c t)
released-identity c t e = left_identity e t (slice_set e.references c (slice_index e.references c - 1)) (slice_index e.references c == 0) (has_references (record e { references = slice_set e.references c (slice_index e.references c - 1) }))

-- or all of a client
pub released_all-identity : (c : ℕ) (t : ℤ) → KeepsIdentity (released_all c t)
released_all-identity c t e = left_identity e t (slice_set e.references c 0) (slice_index e.references c == 0) (has_references (record e { references = slice_set e.references c 0 }))

-- ---- references that go

-- a last close changes nothing that the invariant looks at, nor does what is left where a client has no reference
fewer_later : (up : List ℕ) (e : Entry) (t : ℤ) (references : List ℕ) → length references ≡ length e.references → (none left : Bool) → IsLaterEntry up e (cond none e (cond left (record e { references = references }) (record e { references = references; idle = t })))
fewer_later up e t references same true left = IsLaterEntry-refl up e
fewer_later up e t references same false true = same_nodes-later up e _ refl refl refl refl refl refl same
fewer_later up e t references same false false = same_nodes-later up e _ refl refl refl refl refl refl same

module _ (up : List ℕ) (c : ℕ) (t : ℤ) (e : Entry) where
  abbrev one_less : List ℕ
  one_less = slice_set e.references c (slice_index e.references c - 1)

  abbrev none_of_it : List ℕ
  none_of_it = slice_set e.references c 0

  pub released-later : IsLaterEntry up e (unreferred c t e)
  released-later = fewer_later up e t one_less (length-slice_set e.references c (slice_index e.references c - 1)) (slice_index e.references c == 0) (has_references (record e { references = one_less }))

  pub released_all-later : IsLaterEntry up e (released_all c t e)
  released_all-later = fewer_later up e t none_of_it (length-slice_set e.references c 0) (slice_index e.references c == 0) (has_references (record e { references = none_of_it }))
