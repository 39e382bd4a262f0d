use Rattle.std.proofs.Common.{rules, ◌≡◌, slice_index_or, drop, ◌∷◌}
use Rattle.script_lang.proofs.Plain.{client_said}
use Rattle.script_lang.proofs.quick.client_front.Goals as goal

pub returns-in-99 : goal.returns-in-99
returns-in-99 c =
    let is : c.args.text.now ≡ 99 ∷ slice_index_or c.args.text.now 1 0 ∷ 32 ∷ drop 3 c.args.text.now = search rules in
    client_said c.args.text.now (slice_index_or c.args.text.now 1 0) c.short_front.result is c.short_front.ensures
