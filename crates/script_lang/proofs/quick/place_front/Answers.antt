use Rattle.std.proofs.Common.{rules, ◌≡◌, slice_index_or, drop, ◌∷◌}
use Rattle.script_lang.proofs.Plain.{place_is}
use Rattle.script_lang.proofs.quick.place_front.Goals as goal

pub returns-in-104 : goal.returns-in-104
returns-in-104 c =
    let is : c.args.text.now ≡ 104 ∷ slice_index_or c.args.text.now 1 0 ∷ 32 ∷ drop 3 c.args.text.now = search rules in
    place_is c.args.text.now (slice_index_or c.args.text.now 1 0) c.short_front.result is c.short_front.ensures
