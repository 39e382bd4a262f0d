use Rattle.std.proofs.Common.{◌≡◌, Ok, [], take, drop}
use Rattle.std.specs.Result.{result_unwrap_or}
use Rattle.ckpt_types.specs.Reads.{pieces_read}
use Rattle.section_store.specs.StoreState.{with_pieces}
use Rattle.section_store.proofs.reads.read_all.Given as goal

abbrev pub invariant-loop-element : goal.invariant-loop-element
invariant-loop-element l =
    let all = result_unwrap_or (pieces_read 0 l.elements l.kept.sections) [] in
    record {
      given : l.out ≡ with_pieces (take l.element-index all) l.initial.out;
      rest : pieces_read l.element-index (drop l.element-index l.elements) l.kept.sections ≡ Ok (drop l.element-index all);
    }
