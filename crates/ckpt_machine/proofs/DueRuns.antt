-- A log is a run where each of its labels is due; and whether it is, by computation: what a call in hand tells of its next step is set against its label.
use Rattle.std.proofs.Common.{◌≡◌, ℕ, ◌<◌, ◌≤◌, inl, List, [], ◌∷◌, ◌++◌, map, Option, Some, None, Bool, true, false, not, ◌&&◌, if◌then◌else◌, nat_lt, refl, sym, ap, subst, ◌∙◌}
use Rattle.std.proofs.lemmas.Bool.{and_parts, ltb-true, not-true, false≢true}
use Rattle.std.proofs.lemmas.Option.{same_Some}
use Rattle.std.specs.Prelude.{is_some}
use Rattle.ckpt_types.specs.declared.ais_error.AisError.TheVariants.{TryAgain}
use Rattle.ckpt_types.specs.declared.answers.Answer.TheVariants as answers
use Rattle.ckpt_types.specs.declared.answers.Cause.TheVariants.{Holder}
use Rattle.ckpt_types.specs.declared.answers.Outcome.{Outcome}
use Rattle.ckpt_types.specs.declared.answers.Outcome.TheVariants.{Refused}
use Rattle.ckpt_types.specs.declared.identities.ActorName.{ActorName}
use Rattle.ckpt_types.specs.declared.identities.ActorName.TheVariants.{Client, Node}
use Rattle.ckpt_types.specs.declared.identities.CallId.{CallId}
use Rattle.ckpt_types.specs.declared.identities.Who.TheVariants.{Actor}
use Rattle.ckpt_types.specs.declared.operation.Op.{Op}
use Rattle.ckpt_types.specs.declared.words.OpWord.{OpWord}
use Rattle.ckpt_types.specs.Asks.{Ask, MayAsk, asked, IsBuiltAsk}
use Rattle.ckpt_types.specs.Asks as asks
use Rattle.ckpt_types.specs.Limits.{nodes_max, client_numbers, places_max}
use Rattle.ckpt_types.specs.OpWord.{word_of_op, stepped_as}
use Rattle.node_msgs.specs.Requests.{ckpt_of}
use Rattle.node_msgs.specs.Steps.{word_of, verb_of, event_verb}
use Rattle.node_msgs.specs.declared.details.Details.{Details}
use Rattle.node_msgs.specs.declared.details.Details.TheVariants as beside
use Rattle.node_msgs.specs.declared.next.Next.{Next}
use Rattle.node_msgs.specs.declared.next.Next.TheVariants.{Serve, Event, End}
use Rattle.node_msgs.specs.declared.next.RecordStep.{RecordStep}
use Rattle.node_msgs.specs.declared.replies.Reply.{Reply}
use Rattle.node_msgs.specs.declared.replies.Reply.TheVariants as replies
use Rattle.node_msgs.specs.declared.requests.Request.{Request}
use Rattle.node_msgs.specs.declared.requests.Request.TheVariants as requests
use Rattle.node_msgs.specs.declared.steps.StepReply.{StepReply}
use Rattle.node_msgs.specs.declared.steps.StepReply.TheVariants as words
use Rattle.node_msgs.specs.declared.steps.Verb.{Verb}
use Rattle.node_msgs.specs.declared.steps.Verb.TheVariants as verbs
use Rattle.node_core.specs.Nodes.{MayReserve}
use Rattle.node_core.specs.Seen.{record_seen}
use Rattle.node_core.specs.Serving.{reply_at}
use Rattle.run_labels.specs.declared.labels.Label.{Label}
use Rattle.run_labels.specs.declared.labels.Label.TheVariants as labels
use Rattle.cluster_record.specs.RecordState.{RecordState, is_up}
use Rattle.ckpt_machine.specs.After.{after}
use Rattle.ckpt_machine.specs.Beginning.{begin_end, callbacks_told}
use Rattle.ckpt_machine.specs.Driving.{driver_end, driver_taken, event_ckpt, event_node, event_refusal}
use Rattle.ckpt_machine.specs.NodeJoins.{join_answer, MayJoin}
use Rattle.ckpt_machine.specs.Due.{Told, IsDue, IsDueStep, IsDone, IsBegun, IsEventAnswer, MayAnswer, MayBegin, MayFail, driver_of, due, event_done, is_live_actor, payload_due, details_due, ended_details, step_told, kept_off, look_word, look_end, look_details, standing_of}
use Rattle.ckpt_machine.specs.Invariant.{Invariant}
use Rattle.ckpt_machine.specs.Listing.{listing_at}
use Rattle.ckpt_machine.specs.Machine.{Machine, CallState, empty_cluster}
use Rattle.ckpt_machine.specs.Propagation.{pull_answer, put_answer}
use Rattle.ckpt_machine.specs.Runs.{last_from, IsRunFrom, IsRun}
use Rattle.ckpt_machine.specs.Seen.{seen_at}
use Rattle.ckpt_machine.specs.Tables.{takes_copy}
use Rattle.ckpt_machine.proofs.Lawful.{lawful}
use Rattle.ckpt_machine.proofs.Runs.{IsRunFrom-back}
use Rattle.ckpt_machine.proofs.Start.{invariant_empty}

-- ---- what is due is a run

-- each label is due where it comes
abbrev pub AreDueFrom : Machine → List Label → Type 0
AreDueFrom m [] = Unit {0}
AreDueFrom m (l ∷ ls) = IsDue m l × AreDueFrom (after m l) ls

-- from a state with the invariant, labels that are due are allowed too
pub due_are_run : (m : Machine) (log : List Label) → Invariant m → AreDueFrom m log → IsRunFrom m log
due_are_run m [] inv dues = tt
due_are_run m (l ∷ ls) inv dues = let (allowed, behind) = lawful m l inv dues.0 in (allowed, dues.0, due_are_run (after m l) ls behind dues.1)

-- a log whose labels are due is a run
pub due_is_run : (log : List Label) → AreDueFrom empty_cluster log → IsRun log
due_is_run log dues = due_are_run empty_cluster log invariant_empty dues

-- ---- what a call tells of its next step

-- a reservation is done; any other answer is that of the one replica
abbrev answer_told : Machine → CallState → Request → ℕ → Reply
answer_told m s (requests.Reserve k) r = replies.Done answers.Nothing
answer_told m s request r = reply_at request (payload_due m s) (record_seen m.cluster (ckpt_of request) r) (seen_at m (ckpt_of request) r)

-- a step of this verb, there
abbrev step_at : Verb → Option ℕ → Option ℕ → StepReply → Told
step_at verb k r reply = record { verb = verb; ckpt = k; node = r; reply = reply; end = None; details = beside.Nothing }

-- a node serves it
abbrev served_told : Machine → CallState → ℕ → Request → Reply → Told
served_told m s r request answer =
    let t = step_at (verb_of request) (Some (ckpt_of request)) (Some r) (word_of answer) in
    let end = (let done = step_told m t in driver_end m.cluster s.op done answer (driver_taken done (driver_of s))) in
    record t { end = end; details = ended_details end (details_due m s request r) }

-- the record takes it, which ends its call so, refuses it, or marks keep it off; none is refused memory
abbrev event_told : Verb → Option ℕ → Option ℕ → Option CallId → Option Outcome → Option Outcome → Told
event_told verb k r (Some by) refusal finish = record (step_at verb k r (words.Held by)) { end = Some (Refused TryAgain (Holder by)) }
event_told verb k r None (Some end) finish = record (step_at verb k r words.Refused) { end = Some end }
event_told verb k r None None finish = record (step_at verb k r words.Ok) { end = finish }

-- what it tells, by what it does next
abbrev next_told : Machine → CallState → Next → Told
next_told m s (Serve r request) = served_told m s r request (answer_told m s request r)
next_told m s (Event step) =
    let k = event_ckpt m.cluster (driver_of s) step in
    let r = event_node (driver_of s) step in
    event_told (event_verb step) k r (kept_off m k step) (event_refusal m.cluster step (driver_of s)) (event_done m s step (step_at (event_verb step) k r words.Ok))
next_told m s (End o) = record (step_at verbs.Look None None (look_word o)) { end = Some (look_end s o); details = look_details s (look_end s o) }

may_tell : (m : Machine) (s : CallState) (request : Request) (r : ℕ) → MayAnswer m s request r (answer_told m s request r)
may_tell m s (requests.Reserve k) r = may_reserve (is_some (m.reserved k r) && not (takes_copy (asked s.op))) where
  may_reserve : (stands : Bool) → MayReserve stands (replies.Done answers.Nothing)
  may_reserve false = inl refl
  may_reserve true = refl
may_tell m s request r = refl

event_answers : (m : Machine) (s : CallState) (verb : Verb) (k r : Option ℕ) (by : Option CallId) (refusal : Option Outcome) (step : RecordStep)
    → let t = event_told verb k r by refusal (event_done m s step (step_at verb k r words.Ok)) in IsEventAnswer by refusal (event_done m s step t) step t
event_answers m s verb k r (Some by) refusal step = (refl, refl)
event_answers m s verb k r None (Some end) step = (refl, refl)
event_answers m s verb k r None None step = inl (refl, refl)

-- the parts of an event's label, whatever it answers
event_parts : (verb : Verb) (k r : Option ℕ) (by : Option CallId) (refusal finish : Option Outcome)
    → let t = event_told verb k r by refusal finish in (t.verb ≡ verb) × (t.ckpt ≡ k) × (t.node ≡ r) × (t.details ≡ beside.Nothing)
event_parts verb k r (Some by) refusal finish = (refl, refl, refl, refl)
event_parts verb k r None (Some end) finish = (refl, refl, refl, refl)
event_parts verb k r None None finish = (refl, refl, refl, refl)

-- what it tells is done
told_done : (m : Machine) (s : CallState) (next : Next) → IsDone m s next (next_told m s next)
told_done m s (Serve r request) =
    record { answer = answer_told m s request r; may = may_tell m s request r; verb = refl; ckpt = refl; node = refl; reply = refl; details = refl; end = refl }
told_done m s (Event step) =
    let k = event_ckpt m.cluster (driver_of s) step in
    let r = event_node (driver_of s) step in
    let by = kept_off m k step in
    let refusal = event_refusal m.cluster step (driver_of s) in
    let parts = event_parts (event_verb step) k r by refusal (event_done m s step (step_at (event_verb step) k r words.Ok)) in
    let answers = event_answers m s (event_verb step) k r by refusal step in
    record {
      verb = parts.0;
      ckpt = parts.1;
      node = parts.2;
      details = parts.3;
      answer = subst (λ c. IsEventAnswer (kept_off m c step) refusal (event_done m s step (next_told m s (Event step))) step (next_told m s (Event step))) (sym parts.1) answers;
    }
told_done m s (End o) = refl

-- ---- a label by computation

-- the label of what is told by a call in hand
abbrev label_told : Machine → Option CallState → Option Label
label_told m None = None
label_told m (Some s) = let t = next_told m s (due m s) in Some (labels.Stepped s.call (word_of_op s.op) t.verb t.ckpt t.node t.reply t.end t.details)

-- where a call may begin, and none of its client is in hand, this label tells it
abbrev label_begun : Bool → Option CallState → Label → Option Label
label_begun true None l = Some l
label_begun may hand l = None

-- a client that there is, of anything but a copying, and a node of that alone
abbrev may_ask : ActorName → Ask → Bool
may_ask (Client c) asks.Copy = false
may_ask (Client c) ask = nat_lt c client_numbers
may_ask (Node r) asks.Copy = nat_lt r nodes_max
may_ask (Node r) ask = false

-- a node or a place that there is, of an Initialize, an open, an update, a read, a close, a synchronisation or the setting of an active; an unlink, a
-- Finalize, a dispatch and a copying name neither
abbrev is_placed : Ask → Bool
is_placed (asks.Enter r version callbacks) = nat_lt r nodes_max
is_placed (asks.Open place name flags timeout a) = nat_lt place places_max
is_placed (asks.Change place update) = nat_lt place places_max
is_placed (asks.Read place elements) = nat_lt place places_max
is_placed (asks.Close place) = nat_lt place places_max
is_placed (asks.Unlink name) = true
is_placed (asks.Synchronize place timeout) = nat_lt place places_max
is_placed (asks.SetActive place) = nat_lt place places_max
is_placed asks.Leave = true
is_placed (asks.Dispatch flags) = true
is_placed asks.Copy = true
is_placed ask = false

-- an Initialize is of a client that is not live, on a node that is up; a copying is of a node that is up
abbrev may_begin : RecordState → ActorName → Ask → Bool
may_begin R a (asks.Enter r version callbacks) = not (is_live_actor a R) && is_up r R
may_begin R a asks.Copy = is_live_actor a R
may_begin R a ask = true

abbrev may_go : Machine → CallId → Op → Bool
may_go m call op = may_ask call.actor (asked op) && is_placed (asked op) && may_begin m.cluster call.actor (asked op)

-- a beginning has the next number of its client, and is answered by the first refusal, or OK, or goes on
abbrev began_told : Machine → CallId → Op → Option Outcome → Label
began_told m call op end =
    let first = record call { number = m.next call.actor } in
    labels.Began first op (begin_end (standing_of m call.actor op) (asked op)) (callbacks_told end (asked op) (m.pending call.actor))

-- the due label of this call, this failure, this join, this show, pull or put, whatever the label tells of it
abbrev pub due_label : Machine → Label → Option Label
due_label m (labels.Began call op end details) = label_begun (may_go m call op) (m.in_hand (Actor call.actor)) (began_told m call op end)
due_label m (labels.Stepped call op verb k r reply end details) = label_told m (m.in_hand (stepped_as call op))
due_label m (labels.Failed r was_up) = if nat_lt r nodes_max then Some (labels.Failed r (is_up r m.cluster)) else None
due_label m (labels.Joined r told) = if nat_lt r nodes_max then Some (labels.Joined r (join_answer r m.cluster)) else None
due_label m (labels.Shown k replicas) = Some (labels.Shown k (listing_at m k))
due_label m (labels.Pulled k reply) = Some (labels.Pulled k (pull_answer m k))
due_label m (labels.Put k r reply) = Some (labels.Put k r (put_answer m k r))
due_label m l = None

-- the due labels of a log, each where its label comes
abbrev pub due_labels : Machine → List Label → List (Option Label)
due_labels m [] = []
due_labels m (l ∷ ls) = due_label m l ∷ due_labels (after m l) ls

-- ---- a label that is the due one

-- what is told in a label of a step: its call, its word and the rest
abbrev Step : Type 0
Step = CallId × OpWord × Told

abbrev step_in : Label → Option Step
step_in (labels.Stepped call op verb k r reply end details) = Some (call, op, record (step_at verb k r reply) { end = end; details = details })
step_in l = None

-- and of a beginning: its number, its end and what is told beside it
abbrev Beginning : Type 0
Beginning = ℕ × Option Outcome × Details

abbrev beginning_in : Label → Option Beginning
beginning_in (labels.Began call op end details) = Some (call.number, end, details)
beginning_in l = None

step_due : (m : Machine) (call : CallId) (op : OpWord) (t : Told) (hand : Option CallState) → m.in_hand (stepped_as call op) ≡ hand
    → label_told m hand ≡ Some (labels.Stepped call op t.verb t.ckpt t.node t.reply t.end t.details) → IsDueStep m call op t
step_due m call op t None here told = absurd (cc told)
step_due m call op t (Some s) here told =
    let same = same_Some _ _ (ap step_in (same_Some _ _ told)) in
    let done = subst (IsDone m s (due m s)) (ap (λ (x : Step). x.2) same) (told_done m s (due m s)) in
    record { state = s; in_hand = here; call_is = ap (λ (x : Step). x.0) same; word = ap (λ (x : Step). x.1) same; done = done }

asker_is : (a : ActorName) (ask : Ask) → may_ask a ask ≡ true → MayAsk a ask
asker_is (Client c) asks.Copy is = absurd (false≢true is)
asker_is (Client c) ask is = ltb-true c client_numbers is
asker_is (Node r) asks.Copy is = ltb-true r nodes_max is
asker_is (Node r) ask is = absurd (false≢true is)

placed_is : (ask : Ask) → is_placed ask ≡ true → IsBuiltAsk ask
placed_is (asks.Enter r version callbacks) is = ltb-true r nodes_max is
placed_is (asks.Open place name flags timeout a) is = ltb-true place places_max is
placed_is (asks.Change place update) is = ltb-true place places_max is
placed_is (asks.Read place elements) is = ltb-true place places_max is
placed_is (asks.Close place) is = ltb-true place places_max is
placed_is (asks.Unlink name) is = tt
placed_is (asks.Synchronize place timeout) is = ltb-true place places_max is
placed_is (asks.SetActive place) is = ltb-true place places_max is
placed_is asks.Leave is = tt
placed_is (asks.Dispatch flags) is = tt
placed_is asks.Copy is = tt
placed_is ask is = absurd (false≢true is)

may_is : (R : RecordState) (a : ActorName) (ask : Ask) → may_begin R a ask ≡ true → MayBegin R a ask
may_is R a (asks.Enter r version callbacks) is =
    let (not_live, up) = and_parts (not (is_live_actor a R)) (is_up r R) is in
    (not-true (is_live_actor a R) not_live, up)
may_is R a asks.Copy is = is
may_is R a ask is = tt

begin_due : (m : Machine) (call : CallId) (op : Op) (end : Option Outcome) (details : Details) (may : Bool) (hand : Option CallState)
    → may_go m call op ≡ may → m.in_hand (Actor call.actor) ≡ hand
    → label_begun may hand (began_told m call op end) ≡ Some (labels.Began call op end details) → IsBegun m call op end details
begin_due m call op end details true None may none told =
    let same = same_Some _ _ (ap beginning_in (same_Some _ _ told)) in
    let (there, may_so) = and_parts (may_ask call.actor (asked op) && is_placed (asked op)) (may_begin m.cluster call.actor (asked op)) may in
    let (asker, placed) = and_parts (may_ask call.actor (asked op)) (is_placed (asked op)) there in
    record {
      asker = asker_is call.actor (asked op) asker;
      built = placed_is (asked op) placed;
      number = sym (ap (λ (x : Beginning). x.0) same);
      none_in_hand = none;
      may = may_is m.cluster call.actor (asked op) may_so;
      answer = inl (sym (ap (λ (x : Beginning). x.1) same));
      told = sym (ap (λ (x : Beginning). x.2) same);
    }
begin_due m call op end details true (Some s) may none told = absurd (cc told)
begin_due m call op end details false hand may none told = absurd (cc told)

failure_due : (m : Machine) (r : ℕ) (was_up below : Bool) → nat_lt r nodes_max ≡ below
    → (if below then Some (labels.Failed r (is_up r m.cluster)) else None) ≡ Some (labels.Failed r was_up) → MayFail m.cluster r was_up
failure_due m r was_up true below told = (ltb-true r nodes_max below, cc told)
failure_due m r was_up false below told = absurd (cc told)

join_due : (m : Machine) (r : ℕ) (answer : Option ℕ) (below : Bool) → nat_lt r nodes_max ≡ below
    → (if below then Some (labels.Joined r (join_answer r m.cluster)) else None) ≡ Some (labels.Joined r answer) → MayJoin m.cluster r answer
join_due m r answer true below told = (ltb-true r nodes_max below, cc told)
join_due m r answer false below told = absurd (cc told)

-- a label that is the due one is due
pub label_due : (m : Machine) (l : Label) → due_label m l ≡ Some l → IsDue m l
label_due m (labels.Began call op end details) is = begin_due m call op end details _ (m.in_hand (Actor call.actor)) refl refl is
label_due m (labels.Stepped call op verb k r reply end details) is = step_due m call op _ (m.in_hand (stepped_as call op)) refl is
label_due m (labels.Failed r was_up) is = failure_due m r was_up (nat_lt r nodes_max) refl is
label_due m (labels.Joined r answer) is = join_due m r answer (nat_lt r nodes_max) refl is
label_due m (labels.Shown k replicas) is = cc is
label_due m (labels.Pulled k reply) is = cc is
label_due m (labels.Put k r reply) is = cc is
label_due m l is = absurd (cc is)

labels_due : (m : Machine) (log : List Label) → due_labels m log ≡ map Some log → AreDueFrom m log
labels_due m [] are = tt
labels_due m (l ∷ ls) are =
    let first : due_label m l ≡ Some l = cc are in
    let rest : due_labels (after m l) ls ≡ map Some ls = cc are in
    (label_due m l first, labels_due (after m l) ls rest)

-- nodes come up, and each label behind that is the due one
abbrev pub IsPlayed : List Label → Type 0
IsPlayed (labels.Nodes n ∷ log) = (0 < n) × (n ≤ nodes_max) × (due_labels (after empty_cluster (labels.Nodes n)) log ≡ map Some log)
IsPlayed log = ⊥

-- such a log is a run
pub played_is_run : (log : List Label) → IsPlayed log → IsRun log
played_is_run (labels.Nodes n ∷ log) is = due_is_run (labels.Nodes n ∷ log) ((is.0, is.1, refl), labels_due (after empty_cluster (labels.Nodes n)) log is.2)
played_is_run log is = absurd is

-- ---- what is none

-- in a run, the label behind a front is due there
pub due_behind : (front : List Label) (l : Label) (back : List Label) → IsRun (front ++ l ∷ back) → IsDue (last_from empty_cluster front) l
due_behind front l back run = (IsRunFrom-back empty_cluster front (l ∷ back) run).1

-- a due step is of a call that is in hand
pub none_in_hand : (m : Machine) (call : CallId) (op : OpWord) (t : Told) → m.in_hand (stepped_as call op) ≡ None → IsDueStep m call op t → ⊥
none_in_hand m call op t none is = let some : None ≡ Some is.state = sym none ∙ is.in_hand in cc some

-- and is what that call does next
pub done_next : (m : Machine) (call : CallId) (op : OpWord) (t : Told) (s : CallState)
    → m.in_hand (stepped_as call op) ≡ Some s → IsDueStep m call op t → IsDone m s (due m s) t
done_next m call op t s here is = subst (λ s. IsDone m s (due m s) t) (sym (same_Some s is.state (sym here ∙ is.in_hand))) is.done

-- so where that is a request, the step is of its verb and its node
pub served_next : (m : Machine) (call : CallId) (op : OpWord) (t : Told) (s : CallState) (r : ℕ) (request : Request)
    → m.in_hand (stepped_as call op) ≡ Some s → due m s ≡ Serve r request → IsDueStep m call op t → (t.verb ≡ verb_of request) × (t.node ≡ Some r)
served_next m call op t s r request here serves is =
    let served = subst (λ next. IsDone m s next t) serves (done_next m call op t s here is) in
    (served.verb, served.node)

-- and where it is a step of the record, the step is of its verb
pub event_next : (m : Machine) (call : CallId) (op : OpWord) (t : Told) (s : CallState) (step : RecordStep)
    → m.in_hand (stepped_as call op) ≡ Some s → due m s ≡ Event step → IsDueStep m call op t → t.verb ≡ event_verb step
event_next m call op t s step here does is = (subst (λ next. IsDone m s next t) does (done_next m call op t s here is)).verb
