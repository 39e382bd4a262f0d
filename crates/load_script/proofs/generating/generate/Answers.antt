use Rattle.std.proofs.Common.{◌≡◌, ◌∙◌, ◌+◌, ◌*◌, sym, ap, subst, length, arith}
use Rattle.script_lang.specs.BuiltScripts.{IsBuiltScript}
use Rattle.load_script.proofs.Built.{generated-built}
use Rattle.load_script.proofs.Lengths.{length-generated}
use Rattle.load_script.proofs.generating.generate.Goals as goal

pub from_vec-requires : goal.from_vec-requires
from_vec-requires c =
    let many : length c.in_ok-lines.lines.items ≡ 46 + 2 * c.args.turns = ap (λ lines. length lines) c.in_ok-lines.ensures ∙ length-generated c.args.turns in
    omega (arith, many, c.requires.few)

pub returns-clause-built : goal.returns-clause-built
returns-clause-built c = subst IsBuiltScript (sym (c.from_vec.ensures ∙ c.in_ok-lines.ensures)) (generated-built c.args.turns c.requires.few)
