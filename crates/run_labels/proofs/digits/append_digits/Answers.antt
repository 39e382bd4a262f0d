use Rattle.std.proofs.Common.{◌++◌, ap, ◌∙◌}
use Rattle.hex.specs.Hex.{encode_lower}
use Rattle.run_labels.proofs.Encoded.{front_encoded}
use Rattle.run_labels.proofs.digits.append_digits.Goals as goal

pub loop-rest-preserved : goal.loop-rest-preserved
loop-rest-preserved c =
    let out = c.loop-rest.out.items in
    let new = c.append_block.new.out.items in
    let is = c.in_ok-append_block.ensures ∙ ap (λ xs. out ++ encode_lower xs) c.split_at.ensures.front in
    ap (λ xs. new ++ encode_lower xs) c.split_at.ensures.back ∙ front_encoded out new c.loop-rest.rest.now 16 is ∙ c.loop-rest.invariant
