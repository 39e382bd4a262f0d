-- What a step changes of one entry.
use Rattle.std.specs.Prelude.{Option}
use Rattle.cluster_record.specs.declared.entries.Entry.{Entry}
use Rattle.cluster_record.specs.declared.entries.Change.{Change}
use Rattle.cluster_record.specs.declared.entries.Change.TheVariants.{Made, Referred, Released, Unnamed, Retaining, OnHold, Active, ReleasedAll, Unheld, Failed, Completed}
use Rattle.cluster_record.specs.Counts.{count_told}
use Rattle.cluster_record.specs.Failing.{entry_failed, unheld_by}
use Rattle.cluster_record.specs.Joining.{completed_on}
use Rattle.cluster_record.specs.RecordReady.{CanRefer, CanSetActive}
use Rattle.cluster_record.specs.RecordState.{made_with, opened_with, unreferred, unnamed, retaining, with_hold, with_active, released_all}

-- what each change makes of an entry
abbrev pub changed_by : Change → Entry → Entry
changed_by (Made up opener c) = made_with opener up c
changed_by (Referred up opener c) = opened_with opener up c
changed_by (Released c t) = unreferred c t
changed_by Unnamed = unnamed
changed_by (Retaining duration) = retaining duration
changed_by (OnHold call) = with_hold call
changed_by (Active r) = with_active r
changed_by (ReleasedAll c t) = released_all c t
changed_by (Unheld c) = unheld_by c
changed_by (Failed r counts) = λ e. entry_failed (count_told counts.now e.identity) r e
changed_by (Completed r n) = completed_on r n

-- a reference more wants a count of references that is not at its end, and an active a generation that is not, as do the failure of a node and one that is complete
abbrev pub CanChange : Change → Option Entry → Type 0
CanChange (Made up opener c) e = CanRefer c e
CanChange (Referred up opener c) e = CanRefer c e
CanChange (Released c t) e = Unit {0}
CanChange Unnamed e = Unit {0}
CanChange (Retaining duration) e = Unit {0}
CanChange (OnHold call) e = Unit {0}
CanChange (Active r) e = CanSetActive e
CanChange (ReleasedAll c t) e = Unit {0}
CanChange (Unheld c) e = Unit {0}
CanChange (Failed r counts) e = CanSetActive e
CanChange (Completed r n) e = CanSetActive e
