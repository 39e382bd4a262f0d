use Rattle.std.proofs.Common.{refl}
use Rattle.cluster_record.specs.Failing.{unheld_by}
use Rattle.cluster_record.proofs.EachChanged.{All-any}
use Rattle.cluster_record.proofs.EntryLaws.{unheld_by-kept}
use Rattle.cluster_record.proofs.KeptLaws.{kept-each}
use Rattle.cluster_record.proofs.record.Record.end_holds.Goals as goal

pub invariant_of-self : goal.invariant_of-self
invariant_of-self c = kept-each c.self.inside _ (unheld_by c.args.client) c.self.invariant (λ e. refl) (λ e. refl) (λ e is. unheld_by-kept c.self.inside.moment e is c.args.client) c.change_each.ensures.items c.change_each.ensures.capacity refl

pub change_each-requires : goal.change_each-requires
change_each-requires c = All-any _ (λ e. tt) _
