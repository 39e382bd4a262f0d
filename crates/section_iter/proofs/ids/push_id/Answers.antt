use Rattle.std.proofs.Common.{rules}
use Rattle.section_iter.proofs.IdsLemmas.{IsPushed, ids_in-pushed, AreIds-pushed}
use Rattle.section_iter.proofs.ids.push_id.Goals as goal

pub returns-clause-kept : goal.returns-clause-kept
returns-clause-kept c =
    let pushed : IsPushed c.args.ends.now.items c.args.bytes.now.items c.args.id c.push_reserved.new.self.items c.extend_reserved.new.bytes.items = search rules in
    AreIds-pushed _ _ _ _ _ c.requires.kept pushed (search rules)

pub returns-clause-ids : goal.returns-clause-ids
returns-clause-ids c =
    let pushed : IsPushed c.args.ends.now.items c.args.bytes.now.items c.args.id c.push_reserved.new.self.items c.extend_reserved.new.bytes.items = search rules in
    ids_in-pushed _ _ _ _ _ c.requires.kept pushed
