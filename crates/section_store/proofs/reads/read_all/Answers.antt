use Rattle.std.proofs.Common.{◌≡◌, ◌+◌, ◌≤◌, suc, [], Ok, length, take, drop, sum_by, ap, ◌∙◌, sym, subst, arith}
use Rattle.std.specs.Result.{result_unwrap_or}
use Rattle.std.proofs.lemmas.List.{take_all}
use Rattle.ckpt_types.specs.Buffer.{with_piece}
use Rattle.ckpt_types.specs.Reads.{pieces_read}
use Rattle.section_store.specs.StoreState.{with_pieces}
use Rattle.section_store.proofs.Reading.{IfOk-unwrap_or, IfOk-from_unwrap_or, Ok-unwrap_or, pieces_read-drop, piece-fits, with_pieces-push, length-pieces_read}
use Rattle.section_store.proofs.reads.read_all.Goals as goal

pub push-requires-clause-room : goal.push-requires-clause-room
push-requires-clause-room c =
    let sections = c.args.kept.now.sections in
    let elements = c.args.elements.now in
    let all = result_unwrap_or (pieces_read 0 elements sections) [] in
    let i = c.loop-element.element-index in
    let on = pieces_read-drop elements sections all i c.element-item.result c.piece.result.now c.loop-element-test.true c.element-item.is c.loop-element.invariant.rest c.piece.ensures in
    let room = IfOk-unwrap_or (pieces_read 0 elements sections) (λ pieces. sum_by length pieces ≤ c.args.out.now.spare_bytes) [] c.requires.readable c.requires.room in
    subst (λ b. length c.piece.result.now ≤ b.spare_bytes) (sym c.loop-element.invariant.given) (piece-fits all i c.piece.result.now c.args.out.now.spare_bytes on.next room)

pub loop-element-preserved : goal.loop-element-preserved
loop-element-preserved c =
    let sections = c.args.kept.now.sections in
    let elements = c.args.elements.now in
    let all = result_unwrap_or (pieces_read 0 elements sections) [] in
    let i = c.loop-element.element-index in
    let piece = c.piece.result.now in
    let b = c.args.out.now in
    let on = pieces_read-drop elements sections all i c.element-item.result piece c.loop-element-test.true c.element-item.is c.loop-element.invariant.rest c.piece.ensures in
    let next : suc i ≡ i + 1 = omega arith in
    record {
      given = c.push.ensures ∙ ap (with_piece piece) c.loop-element.invariant.given ∙ with_pieces-push (take i all) piece b ∙ ap (λ ps. with_pieces ps b) (sym on.given) ∙ ap (λ m. with_pieces (take m all) b) next;
      rest = subst (λ m. pieces_read (i + 1) (drop m elements) sections ≡ Ok (drop m all)) next on.rest;
    }

pub returns : goal.returns
returns c =
    let sections = c.args.kept.now.sections in
    let elements = c.args.elements.now in
    let read = pieces_read 0 elements sections in
    let all = result_unwrap_or read [] in
    let len : length all ≡ length elements = length-pieces_read 0 elements sections all (Ok-unwrap_or read [] c.requires.readable) in
    let whole : take c.loop-element.element-index all ≡ all = take_all c.loop-element.element-index all (omega arith) in
    IfOk-from_unwrap_or read (λ pieces. c.loop-element.out ≡ with_pieces pieces c.args.out.now) [] (c.loop-element.invariant.given ∙ ap (λ ps. with_pieces ps c.args.out.now) whole)
