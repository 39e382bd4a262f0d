use Rattle.std.proofs.Common.{FitsSigned, to_z, of_z, w64, sym, arith, rules}
use Rattle.std.proofs.lemmas.Int.{to_z-of_z}
use Rattle.std.proofs.lemmas.Result.{err_from_is_err_and}
use Rattle.ckpt_types.specs.Sections.{present}
use Rattle.ckpt_types.specs.Updates.{first_place}
use Rattle.update_rules.proofs.WriteLemmas.{write_stops, write_goes_on}
use Rattle.update_rules.proofs.writes.check_several.Goals as goal

pub returns-in_err-used : goal.returns-in_err-used
returns-in_err-used g c =
    let fits : FitsSigned w64 c.args.now = c.ranges.now in
    let p = err_from_is_err_and c.from_residual.result c.from_residual.ensures.1 in
    let t = to_z w64 (of_z w64 c.args.now) in
    let stops = write_stops (first_place c.args.elements.now (g.S.Sections.sections c.args.sections.now)) c.args.attrs.now t c.args.elements.now c.loop-place.place c.index-elements-place.result (present t (g.S.Sections.sections c.args.sections.now)) c.in_err-used.field-0.0 c.loop-place-test.true c.index-elements-place.is c.loop-place.invariant.rest c.in_err-used.ensures.bytes in
    rw (p.1, p.2) (sym (simp to_z-of_z at stops))

pub loop-place-preserved : goal.loop-place-preserved
loop-place-preserved g c =
    let t = to_z w64 (of_z w64 c.args.now) in
    let goes_on = write_goes_on (first_place c.args.elements.now (g.S.Sections.sections c.args.sections.now)) c.args.attrs.now t c.args.elements.now c.loop-place.place c.index-elements-place.result (present t (g.S.Sections.sections c.args.sections.now)) c.in_ok-used.used c.loop-place-test.true c.index-elements-place.is c.loop-place.invariant.rest c.in_ok-used.ensures.bytes in
    record { rest = goes_on.0; used = goes_on.1; small = omega (arith, c.in_ok-used.ensures.small) }

pub loop-place-init : goal.loop-place-init
loop-place-init g c = search rules
