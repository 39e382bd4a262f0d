use Rattle.std.proofs.Common.{List, ℕ, subst, sym}
use Rattle.command_run.specs.Reading.{HasRead}
use Rattle.command_run.proofs.running.read_script.Goals as goal

-- the bytes are of this source
pub returns-in-Ok : goal.returns-in-Ok
returns-in-Ok g c =
    let left = g.S.Source.left in
    c.script_in.ensures _ _ _ _
    (subst (λ (bytes : List ℕ). HasRead (left c.args.source.now) (left c.read_all.new.source) bytes c.in-Ok.ended) (sym c.as_slice.ensures.value) c.in-Ok.ensures.read)
