use Rattle.std.proofs.Common.{refl}
use Rattle.cluster_record.proofs.KeptLaws.{kept-times, kept-left}
use Rattle.cluster_record.proofs.record.Record.sweep.Goals as goal

pub invariant_of-self : goal.invariant_of-self
invariant_of-self c = kept-left c.self.inside _ _ c.self.invariant c.keep_only.ensures.items c.keep_only.ensures.capacity c.keep_only.ensures.names refl

pub keep_only-requires : goal.keep_only-requires
keep_only-requires c = kept-times c.self.inside c.self.invariant
