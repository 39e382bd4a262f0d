use Rattle.std.proofs.Common.{◌≡◌, ap, ◌∙◌, sym, to_z, of_z, w64}
use Rattle.ckpt_types.specs.Sections.{present}
use Rattle.section_store.proofs.Placed.{present-present}
use Rattle.section_store.proofs.store.Store.apply.Goals as goal

pub create-requires-clause-all_present : goal.create-requires-clause-all_present
create-requires-clause-all_present c =
    let t = to_z w64 (of_z w64 c.args.now) in
    let now : c.drop_absent.new.self.sections ≡ present t c.args.self.now.sections = ap (λ s. s.sections) c.drop_absent.ensures in
    ap (present t) now ∙ present-present t c.args.self.now.sections ∙ sym now
