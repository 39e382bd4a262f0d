-- A client's call never comes to the completion of a node.
use Rattle.std.proofs.Common.{◌≡◌, ℕ, Option, ℤ, sym, ap, subst, ◌∙◌}
use Rattle.ckpt_types.specs.declared.identities.ActorName.TheVariants.{Client, Node}
use Rattle.ckpt_types.specs.declared.identities.Who.{Who}
use Rattle.node_msgs.specs.declared.next.Next.{Next}
use Rattle.node_msgs.specs.declared.next.Next.TheVariants.{Event}
use Rattle.node_msgs.specs.declared.next.RecordStep.{RecordStep}
use Rattle.node_msgs.specs.declared.next.RecordStep.TheVariants as events
use Rattle.cluster_record.specs.DueOnce as once
use Rattle.cluster_record.specs.RecordState.{entry_of}
use Rattle.ckpt_machine.specs.Drivers.{Driver}
use Rattle.ckpt_machine.specs.Drivers as drivers
use Rattle.ckpt_machine.specs.Facts.{IsCompletable, IsEventReady}
use Rattle.ckpt_machine.specs.Machine.{Machine, CallState}
use Rattle.ckpt_machine.proofs.OptionLemmas.{IsSomeAnd-at}
use Rattle.client_calls.specs.Names.{IsClientName}
use Rattle.world_core.specs.Happenings.{IsNext}
use Rattle.world_core.specs.Shows.{IsShown}
use Rattle.world_core.specs.declared.world.World.{World}
use Rattle.world_core.proofs.CallSteps.{known}
use Rattle.world_core.proofs.Held.{client_is, state_in}
use Rattle.world_core.proofs.RecordEvent.{event_asks}

-- a completion is ready of a node's call alone
node_completes : (m : Machine) (s : CallState) (x : Driver) (k r c : ℕ) (moment : Option ℤ) → IsEventReady m s x (events.Complete k r moment) → s.call.actor ≡ Client c → ⊥
node_completes m s (drivers.Copy copying) k r c moment ready client =
    let (e, there, can) = IsSomeAnd-at (entry_of k m.cluster.entries) (IsCompletable m s k r moment) ready.4 in
    let clash : Node r ≡ Client c = sym can.own ∙ client in
    cc clash
node_completes m s (drivers.Once (once.Enter q)) k r c moment ready client = ready
node_completes m s (drivers.Once once.Leave) k r c moment ready client = ready
node_completes m s (drivers.Once (once.Close j)) k r c moment ready client = ready
node_completes m s (drivers.Once (once.Unlink name)) k r c moment ready client = ready
node_completes m s (drivers.Once (once.Retain j duration)) k r c moment ready client = ready
node_completes m s (drivers.Open o) k r c moment ready client = ready
node_completes m s (drivers.Update u) k r c moment ready client = ready
node_completes m s (drivers.Active a) k r c moment ready client = ready
node_completes m s (drivers.Sync u) k r c moment ready client = ready

-- by whichever name a client's call is stepped, a completion is never next for it
pub no_completion : (w : World) (v : Who) (next : Next) (step : RecordStep) (k r : ℕ) (moment : Option ℤ) → next ≡ Event step → step ≡ events.Complete k r moment → IsNext w v next → IsClientName v → IsShown w → ⊥
no_completion w v next step k r moment next_is step_is is_next named shown =
    let h = shown.shows.history in
    let is = known w shown in
    let due : IsNext w v (Event (events.Complete k r moment)) = subst (IsNext w v) (next_is ∙ ap Event step_is) is_next in
    node_completes _ (state_in h v due.hand) due.hand.driver k r _ moment (event_asks w v (events.Complete k r moment) due.hand due.held due.next_is h is) (client_is w h v due.hand due.held is.facts named)
