use Rattle.std.proofs.Common.{subst}
use Rattle.cluster_record.specs.Changes.{changed_by, CanChange}
use Rattle.cluster_record.specs.RecordState.{identity_of}
use Rattle.cluster_record.proofs.Places.{changes_at, changes_none}
use Rattle.cluster_record.proofs.AtKeys.{element_at}
use Rattle.cluster_record.proofs.entries.change_at.Goals as goal

pub change-requires : goal.change-requires
change-requires c = subst (CanChange c.args.change) (element_at identity_of c.args.identity c.args.entries.now c.place_of.result c.place_of.ensures.place c.in-Some.i c.index-entries-i.result c.in-Some.is) c.requires

pub returns-in-Some : goal.returns-in-Some
returns-in-Some c = changes_at identity_of c.args.identity (changed_by c.args.change) c.args.entries.now c.place_of.result c.place_of.ensures.place c.in-Some.i c.index-entries-i.result c.change.new.self c.in-Some.is c.change.ensures

pub returns-in_default : goal.returns-in_default
returns-in_default c = changes_none identity_of c.args.identity (changed_by c.args.change) c.args.entries.now c.place_of.result c.place_of.ensures.place c.in_default.is
