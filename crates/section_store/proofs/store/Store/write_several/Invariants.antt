use Rattle.std.proofs.Common.{◌≡◌, drop}
use Rattle.ckpt_types.specs.Updates.{elements_written}
use Rattle.section_store.proofs.PlannedUpdates.{WritesOn}
use Rattle.section_store.proofs.store.Store.write_several.Given as goal

abbrev pub invariant-loop-index : goal.invariant-loop-index
invariant-loop-index l = record {
  attributes : l.self.attributes ≡ l.initial.self.attributes;
  goes : WritesOn l.initial.self.attributes l.now l.index (drop l.index l.elements) l.self.sections l.plan (elements_written l.initial.self.attributes l.now 0 l.elements l.initial.self.sections);
}
