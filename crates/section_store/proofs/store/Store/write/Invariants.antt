use Rattle.std.proofs.Common.{◌≡◌, drop}
use Rattle.ckpt_types.specs.Updates.{elements_written}
use Rattle.section_store.proofs.store.Store.write.Given as goal

abbrev pub invariant-loop-element : goal.invariant-loop-element
invariant-loop-element l = record {
  attributes : l.self.attributes ≡ l.initial.self.attributes;
  going : elements_written l.initial.self.attributes l.now l.element-index (drop l.element-index l.elements) l.self.sections ≡ elements_written l.initial.self.attributes l.now 0 l.elements l.initial.self.sections;
}
