use Rattle.std.proofs.Common.{◌++◌, ap, sym, take_all, ◌∙◌}
use Rattle.std.proofs.lemmas.List.{append-nil}
use Rattle.std.specs.List.{flat_map}
use Rattle.run_labels.specs.Shows.{shown_section_text}
use Rattle.run_labels.proofs.EachText.{append-flat_map-item}
use Rattle.run_labels.proofs.shows.append_sections.Goals as goal

pub loop-section-preserved : goal.loop-section-preserved
loop-section-preserved c =
    let section = c.section-item.result in
    c.in_ok-append_shown_section.ensures
    ∙ ap (λ out. out ++ shown_section_text section) c.loop-section.invariant
    ∙ append-flat_map-item shown_section_text c.args.out.now.items c.args.sections.now c.loop-section.section-index section c.loop-section-test.true c.section-item.is

pub loop-section-init : goal.loop-section-init
loop-section-init c = sym (append-nil c.args.out.now.items)

pub returns : goal.returns
returns c =
    c.loop-section.invariant
    ∙ ap (λ sections. c.args.out.now.items ++ flat_map shown_section_text sections) (take_all c.loop-section.section-index c.args.sections.now c.loop-section-test.false)
