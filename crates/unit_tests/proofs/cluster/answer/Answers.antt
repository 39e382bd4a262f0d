use Rattle.std.proofs.Common.{ℕ, List}
use Rattle.std.specs.Prelude.{Option, Some, None}
use Rattle.cluster_record.specs.declared.entries.Entry.{Entry}
use Rattle.cluster_record.specs.LookUps.{identity_in}
use Rattle.cluster_record.specs.RecordReady.{CanRefer, CanReferAt}
use Rattle.cluster_record.specs.RecordState.{entry_of, named}
use Rattle.unit_tests.proofs.cluster.answer.Goals as goal

-- what holds of any checkpoint holds of the one of a name, where there is one
can_refer_at : (entries : List Entry) (client : ℕ) (found : Option ℕ) → ((client k : ℕ) → CanRefer client (entry_of k entries)) → CanReferAt client entries found
can_refer_at entries client None can = tt
can_refer_at entries client (Some k) can = can client k

pub open-requires-clause-references : goal.open-requires-clause-references
open-requires-clause-references c = can_refer_at c.args.record.now.entries c.args.ask.client (identity_in (named _ c.args.record.now.entries)) (c.numbers_left.ensures.references c.if-not-numbers_left.false)
