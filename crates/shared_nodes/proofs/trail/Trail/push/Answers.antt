use Rattle.std.proofs.Common.{◌<◌, subst, sym}
use Rattle.std.specs.Prelude.{All}
use Rattle.shared_nodes.specs.Trails.{KeptTrail, tickets_of}
use Rattle.shared_nodes.proofs.Rising.{notes_rise}
use Rattle.shared_nodes.proofs.trail.Trail.push.Goals as goal

pub invariant_of-self : goal.invariant_of-self
invariant_of-self c = rw c.push_reserved.ensures.items (notes_rise c.self.inside.items.items _ c.self.invariant (subst (λ (t : KeptTrail). All (λ ticket. ticket < c.args.note.ticket) (tickets_of t.notes)) (sym c.self.view_is) c.requires.above))
