-- A claim about the tables holds behind what a step changes, where it holds behind each change that a step makes of its client's.
use Rattle.std.proofs.Common.{◌≡◌, ℕ, List, Option, Some, None}
use Rattle.ckpt_types.specs.declared.answers.Outcome.{Outcome}
use Rattle.ckpt_types.specs.declared.identities.ActorName.{ActorName}
use Rattle.ckpt_types.specs.declared.sections.Choice.{Choice}
use Rattle.ckpt_types.specs.Asks.{asked}
use Rattle.ckpt_types.specs.Asks as asks
use Rattle.ckpt_types.specs.Reads.{NextGiven}
use Rattle.section_iter.specs.declared.room.Room.{Room}
use Rattle.client_handles.specs.ClientState.{ClientState, emptied}
use Rattle.node_msgs.specs.declared.details.Details.{Details}
use Rattle.node_msgs.specs.declared.steps.StepReply.{StepReply}
use Rattle.node_msgs.specs.declared.steps.StepReply.TheVariants as words
use Rattle.node_msgs.specs.declared.steps.Verb.{Verb}
use Rattle.node_msgs.specs.declared.steps.Verb.TheVariants as verbs
use Rattle.cluster_record.specs.Calls.{put_actor}
use Rattle.cluster_record.specs.Makings.{making_of}
use Rattle.cluster_record.specs.RecordState.{active_set}
use Rattle.ckpt_machine.specs.After.{changed, change_replica, record_step, on_ok, on_look, at_some, without_making}
use Rattle.ckpt_machine.specs.Guards.{AtNone, Row}
use Rattle.ckpt_machine.specs.Machine.{Machine, ReplicaState, CallState}
use Rattle.ckpt_machine.specs.Tables.{handle_given, started, gone_on, closing, registering}

-- what a row says that names neither a checkpoint nor a node
said_alone : (j q : Option ℕ) (P : Type 0) → AtNone j q P → P
said_alone None None P p = p
said_alone None (Some q) P p = absurd p
said_alone (Some j) q P p = absurd p

-- the tables with this change of one actor's
abbrev pub put_change : Machine → CallState → (ClientState → ClientState) → ActorName → ClientState
put_change m s change = put_actor m.tables s.call.actor (change (m.tables s.call.actor))

module _ (P : (ActorName → ClientState) → Type 0) (m : Machine) (s : CallState) (here : P m.tables)
    (registers : P (put_change m s (registering (asked s.op))))
    (gives : (k creation_flags : ℕ) → P (put_change m s (handle_given (asked s.op) k creation_flags)))
    (closes : P (put_change m s (closing (asked s.op))))
    (empties : asked s.op ≡ asks.Leave → P (put_change m s emptied))
    (starts : (room : Room) (chosen_by : Choice → List (List ℕ)) → P (put_change m s (started (asked s.op) room chosen_by)))
    (goes : (next : Option NextGiven) → P (put_change m s (gone_on (asked s.op) next)))
    (end : Option Outcome) (details : Details)
  where
    -- it holds of this state
    abbrev Holds : Machine → Type 0
    Holds n = P n.tables

    where_ok : (reply : StepReply) (n : Machine) → Holds n → Holds (on_ok reply m n)
    where_ok words.Ok n then = then
    where_ok reply n then = here

    where_some : (o : Option ℕ) (f : ℕ → Machine) → ((k : ℕ) → Holds (f k)) → Holds (at_some o m f)
    where_some None f then = here
    where_some (Some k) f then = then k

    where_both : (j q : Option ℕ) (f : ℕ → ℕ → Machine) → ((j q : ℕ) → Holds (f j q)) → Holds (at_some j m (λ j. at_some q m (f j)))
    where_both j q f then = where_some j _ (λ j. where_some q (f j) (then j))

    at_replica : (n : Machine) (k r : ℕ) (o : Option ReplicaState) (change : ReplicaState → ReplicaState) → Holds n → Holds (change_replica n k r o change)
    at_replica n k r None change then = then
    at_replica n k r (Some x) change then = then

    at_one : (j q : Option ℕ) (reply : StepReply) (change : ℕ → ℕ → ReplicaState → ReplicaState) → Holds (on_ok reply m (at_some j m (λ k. at_some q m (λ r. change_replica m k r (m.replicas k r) (change k r)))))
    at_one j q reply change = where_ok reply _ (where_both j q _ (λ k r. at_replica m k r (m.replicas k r) (change k r) here))

    where_look : (reply : StepReply) (done refused : Machine) → Holds done → Holds refused → Holds (on_look reply m done refused)
    where_look words.Done done refused then also = then
    where_look words.Refused done refused then also = also
    where_look reply done refused then also = here

    unmade : (k : Option ℕ) → Holds (without_making k m)
    unmade None = here
    unmade (Some k) = here

    left_behind : (j q : Option ℕ) (reply : StepReply) → Row m s verbs.Leave (record { verb = verbs.Leave; ckpt = j; node = q; reply = reply; end = end; details = details }) → Holds (changed m s verbs.Leave j q reply)
    left_behind j q words.Ok row = empties (said_alone j q _ row.0).0
    left_behind j q reply row = here

    -- whatever step is allowed
    pub changed_tables : (verb : Verb) (j q : Option ℕ) (reply : StepReply) → Row m s verb (record { verb = verb; ckpt = j; node = q; reply = reply; end = end; details = details }) → Holds (changed m s verb j q reply)
    changed_tables verbs.Enter j q reply row = where_ok reply _ (where_some q _ (λ r. registers))
    changed_tables verbs.Leave j q reply row = left_behind j q reply row
    changed_tables verbs.Create j q reply row = where_ok reply _ here
    changed_tables verbs.Reserve j q reply row = where_ok reply _ (where_both j q _ (λ k r. here))
    changed_tables verbs.Finish j q reply row = where_ok reply _ (where_some j _ (λ k. gives k _))
    changed_tables verbs.Undo j q reply row = where_ok reply _ (where_some j _ (λ k. here))
    changed_tables verbs.Open j q reply row = where_ok reply _ (where_some j _ (λ k. gives k _))
    changed_tables verbs.Close j q reply row = where_ok reply _ (where_some j _ (λ k. closes))
    changed_tables verbs.Unlink j q reply row = where_ok reply _ (where_some j _ (λ k. here))
    changed_tables verbs.Retain j q reply row = where_ok reply _ (where_some j _ (λ k. here))
    changed_tables verbs.Stage j q reply row = at_one j q reply _
    changed_tables verbs.Claim j q reply row = at_one j q reply _
    changed_tables verbs.Withdraw j q reply row = at_one j q reply _
    changed_tables verbs.Commit j q reply row = at_one j q reply _
    changed_tables verbs.Apply j q reply row = at_one j q reply _
    changed_tables verbs.Mark j q reply row = at_one j q reply _
    changed_tables verbs.Element j q reply row = at_one j q reply _
    changed_tables verbs.Unmark j q reply row = at_one j q reply _
    changed_tables verbs.Install j q reply row = at_one j q reply _
    changed_tables verbs.Iter j q reply row = where_ok reply _ (where_both j q _ (λ k r. starts s.kept.room _))
    changed_tables verbs.Next j q reply row = where_ok reply _ (where_both j q _ (λ k r. goes _))
    changed_tables verbs.Hold j q reply row = where_ok reply _ (where_some j _ (λ k. here))
    changed_tables verbs.Activate j q reply row = where_ok reply _ (where_both j q _ (λ k r. at_replica (record_step (active_set k r) m) k r ((record_step (active_set k r) m).replicas k r) _ here))
    changed_tables verbs.Complete j q reply row = where_ok reply _ (where_both j q _ (λ k r. here))
    changed_tables verbs.Look j q reply row = where_look reply _ _ closes (unmade (making_of s.call m.cluster))
    changed_tables verb j q reply row = here
