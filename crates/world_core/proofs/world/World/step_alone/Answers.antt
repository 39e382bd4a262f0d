use Rattle.std.proofs.Common.{sym, subst}
use Rattle.std.specs.Prelude.{◌<◌}
use Rattle.ckpt_types.specs.Limits.{client_numbers}
use Rattle.ckpt_types.specs.declared.identities.Who.TheVariants.{Call}
use Rattle.world_core.proofs.Named.{client_below, by_step, next_there}
use Rattle.world_core.proofs.world.World.step_alone.Goals as goal

pub get-requires : goal.get-requires
get-requires c = subst (λ n. n < client_numbers) (sym c.client_by-c.ensures) (client_below c.args.self.now c.args.call c.in-Some.hand.now c.requires.shown c.in-Some.ensures)

pub next-next-requires : goal.next-next-requires
next-next-requires c = subst (λ n. n < client_numbers) (sym c.client_by-c.ensures) (client_below c.args.self.now c.args.call c.in-Some.hand.now c.requires.shown c.in-Some.ensures)

pub take_next-requires-clause-next : goal.take_next-requires-clause-next
take_next-requires-clause-next c = next_there c.args.self.now (Call c.args.call) c.in-Some.hand.now c.client_by-c.result c.get.result.now c.next-next.result c.in-Some.ensures c.client_by-c.ensures c.get.ensures c.next-next.ensures

pub take_next-requires-clause-client : goal.take_next-requires-clause-client
take_next-requires-clause-client c = client_below c.args.self.now c.args.call c.in-Some.hand.now c.requires.shown c.in-Some.ensures

pub returns-clause-ok : goal.returns-clause-ok
returns-clause-ok c = by_step c.take_next.result c.args.log.now c.take_next.new.log (Call c.args.call) c.args.finish c.args.self.now c.take_next.new.self c.take_next.ensures.ok
