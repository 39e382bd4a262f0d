use Rattle.std.proofs.Common.{◌≡◌, drop}
use Rattle.replica.specs.Replicas.{all_corrupted}
use Rattle.replica.proofs.replica.corrupt_all.Given as goal

abbrev pub invariant-loop-element : goal.invariant-loop-element
invariant-loop-element l = record {
  attributes : l.store.attributes ≡ l.initial.store.attributes;
  going : all_corrupted (drop l.element-index l.elements) l.store.sections ≡ all_corrupted l.elements l.initial.store.sections;
}
