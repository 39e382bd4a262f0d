-- Whether each number of the record that rises can rise once more.
use Rattle.std.specs.Prelude.{ℕ, ◌-◌, ◌^◌, Bool, ◌&&◌, nat_lt}
use Rattle.std.specs.List.{list_all}
use Rattle.cluster_record.specs.declared.entries.Entry.{Entry}
use Rattle.cluster_record.specs.RecordState.{RecordState}

-- a number of 32 bits is not the greatest
abbrev pub may_rise : ℕ → Bool
may_rise n = nat_lt n (2 ^ 32 - 1)

-- neither an entry's generation, of 64 bits, nor a client's number of references to it is the greatest
abbrev pub entry_may_rise : Entry → Bool
entry_may_rise e = nat_lt e.generation (2 ^ 64 - 1) && list_all may_rise e.references

-- nor is the identity last given, nor the last incarnation of a node
abbrev pub numbers_left : RecordState → Bool
numbers_left R = may_rise R.last_identity && list_all entry_may_rise R.entries && list_all may_rise R.last_incarnations
