-- What is there of a checkpoint.
use Rattle.std.specs.Prelude.{◌≡◌, ℕ, ◌≤◌, List, [], ◌∷◌, length, Some, None, IfSome, true, false, ℤ}
use Rattle.ckpt_types.specs.Attributes.{is_malformed}
use Rattle.ckpt_types.specs.Limits.{client_numbers}
use Rattle.cluster_record.specs.declared.entries.Entry.{Entry}
use Rattle.cluster_record.specs.Placement.{is_all}
use Rattle.cluster_record.specs.RecordState.{RecordState, entry_of, no_nodes, stays}

-- each stays in a sweep at this moment
abbrev pub AllStay : ℤ → List Entry → Type 0
AllStay t [] = Unit {0}
AllStay t (e ∷ es) = (stays t e ≡ true) × AllStay t es

-- the updates of each checkpoint go to its active alone
abbrev pub AreApart : List Entry → Type 0
AreApart entries = (k : ℕ) (e : Entry) → entry_of k entries ≡ Some e → is_all e.attributes ≡ false

-- its identity was given, and what is there of it is not in the making: it is made, or gone
pub record WasMadeIn (last : ℕ) (entries : List Entry) (k : ℕ) : Type 0 where
  pub given : k ≤ last
  pub made : IfSome (entry_of k entries) (λ e. e.making ≡ None)

-- a checkpoint was made, as this record has it: it is made still, or gone
abbrev pub WasMade : RecordState → ℕ → Type 0
WasMade R k = WasMadeIn R.last_identity R.entries k

-- one in the making is as it was created
pub record IsMakingEntry (e : Entry) : Type 0 where
  pub complete : e.complete ≡ no_nodes
  pub generation : e.generation ≡ 1
  pub unled : e.active ≡ None
  pub free : e.hold ≡ None
  pub well_formed : is_malformed e.attributes ≡ false
  pub clients : length e.references ≡ client_numbers
