use Rattle.std.proofs.Common.{◌≡◌, ap, ◌∙◌, length, FitsSigned, w64, arith}
use Rattle.std.proofs.lemmas.Int.{to_z-of_z}
use Rattle.ckpt_machine.specs.NodeListing.{nodes_listed}
use Rattle.world_core.proofs.showing.list_replicas.Goals as goal

pub returns : goal.returns
returns c =
    let fits : FitsSigned w64 c.args.now = c.ranges.now in
    let listed : c.loop-r.replicas.items ≡ nodes_listed c.args.nodes.now c.args.ckpt c.args.entry.now c.args.now c.loop-r.r = simp to_z-of_z at c.loop-r.invariant.listed in
    let all : c.loop-r.r ≡ length c.args.entry.now.complete = omega (arith, c.requires) in
    c.from_vec.ensures ∙ listed ∙ ap (nodes_listed c.args.nodes.now c.args.ckpt c.args.entry.now c.args.now) all
