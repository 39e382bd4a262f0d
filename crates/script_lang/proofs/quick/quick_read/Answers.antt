use Rattle.std.proofs.Common.{◌≡◌, arith, ◌+◌}
use Rattle.script_lang.proofs.Plain.{read_behind}
use Rattle.script_lang.proofs.quick.quick_read.Goals as goal

pub returns : goal.returns
returns c =
    let all : 0 + c.in-Ok.len ≡ c.in-Ok.len = omega arith in
    rw (c.in_ok-elements.ensures, c.one.ensures) (read_behind c.args.text.now c.in-Some.front c.in-Ok-id.id c.in-Ok.len c.in-Some.ensures c.in-Ok-id.ensures c.in-Ok.ensures.exact, all)
