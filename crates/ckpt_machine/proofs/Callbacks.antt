-- In a run each callback is told once, in the order of the ends, to its client.
use Rattle.std.proofs.Common.{◌≤◌, not, ◌==◌, drop, map, cond, refl, sym, ap, subst, ◌∙◌, inl, inr, arith, ◌||◌, ◌-◌, suc, min, Result, Ok, Err, append_assoc, ◌≡◌, ◌⊎◌, ℕ, List, [], ◌∷◌, ◌++◌, length, take, Option, Some, None, Bool, true, false}
use Rattle.std.specs.Prelude.{Contains}
use Rattle.std.proofs.Math.Seq.{take-length}
use Rattle.std.proofs.lemmas.Bool.{eqb-true}
use Rattle.std.proofs.lemmas.List.{length-map, length-take-le, length-drop, take-append-drop, take-map, map-append}
use Rattle.std.proofs.lemmas.Option.{same_Some}
use Rattle.ckpt_types.specs.declared.answers.Answer.TheVariants as answers
use Rattle.ckpt_types.specs.declared.answers.Given.{Given}
use Rattle.ckpt_types.specs.declared.answers.Outcome.{Outcome}
use Rattle.ckpt_types.specs.declared.answers.Outcome.TheVariants.{Done}
use Rattle.ckpt_types.specs.declared.calls.Callback.{Callback}
use Rattle.ckpt_types.specs.declared.identities.ActorName.{ActorName}
use Rattle.ckpt_types.specs.declared.operation.Op.TheVariants as ops
use Rattle.ckpt_types.specs.declared.words.OpWord.{OpWord}
use Rattle.ckpt_types.specs.declared.words.OpWord.TheVariants as opwords
use Rattle.ckpt_types.specs.Limits.{dispatch_one, dispatch_all}
use Rattle.ckpt_types.specs.OpWord.{word_of_op}
use Rattle.ckpt_types.specs.Reads.{NextGiven, read, given}
use Rattle.ckpt_types.specs.Sections.{Section}
use Rattle.ckpt_types.specs.Updates.{Refusal}
use Rattle.node_msgs.specs.declared.details.Details.{Details}
use Rattle.node_msgs.specs.declared.details.Details.TheVariants as beside
use Rattle.node_msgs.specs.declared.next.Next.{Next}
use Rattle.node_msgs.specs.declared.next.Next.TheVariants.{Serve, Event, End}
use Rattle.node_msgs.specs.declared.requests.Request.{Request}
use Rattle.node_msgs.specs.declared.requests.Request.TheVariants as requests
use Rattle.node_msgs.specs.Requests.{ckpt_of}
use Rattle.run_labels.specs.declared.labels.Label.{Label}
use Rattle.run_labels.specs.declared.labels.Label.TheVariants as labels
use Rattle.stage_slot.specs.Slots.{Slot}
use Rattle.weak_marks.specs.Marks.{Marked}
use Rattle.replica.specs.Replicas.{Replica, outcome_on}
use Rattle.call_dispatch.specs.PendingCalls.{given_by, PendingCalls, no_pending, given_number, callback_of}
use Rattle.call_dispatch.specs.declared.async_call.AsyncCall.{AsyncCall}
use Rattle.call_dispatch.specs.declared.async_call.EndedCall.{EndedCall}
use Rattle.client_handles.specs.ClientState.{emptied, handle_at}
use Rattle.node_core.specs.Payloads.{Payload}
use Rattle.node_core.specs.Seen.{RecordSeen, record_seen}
use Rattle.node_core.specs.Serving.{made_id, id_told, told_id, slot_id, applied_id, read_details, next_details, details_of, details_at}
use Rattle.ckpt_machine.specs.After.{step_of, handle_opened, changed, after}
use Rattle.ckpt_machine.specs.Beginning.{dispatch_is_bad, given_of}
use Rattle.ckpt_machine.specs.Callbacks.{Owing, BegunCall, owing_behind, owing_in, GivesOwed, TellsNone, TellsOwed, CallbacksTold, callbacks_in, owed_in}
use Rattle.ckpt_machine.specs.Due.{Told, IsDone, ended_details, details_due, payload_due, look_details, look_end, due as due_next, IsDue}
use Rattle.ckpt_machine.specs.Failing.{is_of_node, failed_at}
use Rattle.ckpt_machine.specs.Guards.{Row, Allowed}
use Rattle.ckpt_machine.specs.Invariant.{Invariant}
use Rattle.ckpt_machine.specs.Laws.{OfEachRun}
use Rattle.ckpt_machine.specs.Machine.{who, empty_cluster, Machine, CallState}
use Rattle.ckpt_machine.specs.Runs.{last, IsRun}
use Rattle.ckpt_machine.specs.Seen.{seen_at}
use Rattle.ckpt_machine.specs.Synchronized.{Synchronizes}
use Rattle.ckpt_machine.proofs.BegunOnce.{next_after}
use Rattle.ckpt_machine.proofs.Copying.{after_pull, after_put}
use Rattle.ckpt_machine.proofs.Dropped.{held_as}
use Rattle.ckpt_machine.proofs.FailedCalls.{left_is, left_stays}
use Rattle.ckpt_machine.proofs.Histories.{run_history}
use Rattle.ckpt_machine.proofs.KeptLists.{among_none}
use Rattle.ckpt_machine.proofs.OwedBegun.{none_told, begin_tells}
use Rattle.ckpt_machine.proofs.OwedCalls.{HasBegunAs, Tells, begun_as_still, begun_in_still}
use Rattle.ckpt_machine.proofs.OwedLabels.{owing_in-push}
use Rattle.ckpt_machine.proofs.OwedLists.{given_within, callbacks_owed, owed_of}
use Rattle.ckpt_machine.proofs.OwedSteps.{step_tells}
use Rattle.ckpt_machine.proofs.PendingNames.{among_unfinished}
use Rattle.ckpt_machine.proofs.Runs.{last-push, run_more, run_before, run_front, along}
use Rattle.ckpt_machine.proofs.Synchronized.{synchronisations_tell}
use Rattle.ckpt_machine.proofs.UnderWay.{HasUnderWay, all_under_way}

-- ---- any label

module _ (m : Machine) (inv : Invariant m) (t : Owing) (has : Tells t m) where
  -- a node fails
  failed_tells : (r : ℕ) → Tells (owing_behind m t (labels.Failed r true)) (failed_at r m)
  failed_tells r = record {
    below = λ call b found. has.below call b (not_gone (is_of_node m.cluster r call.actor) (t.going call) b found);
    hands = λ w s left. (
        let (held, stays) = left_is m inv.shapes inv.holds r w s left in
        let own : is_of_node m.cluster r s.call.actor ≡ false = left_stays m inv.shapes inv.holds r s stays in
        let was = has.hands w s held in
        begun_in_still t then_owing m.tables (failed_at r m).tables s was (ap (λ b. cond b None (t.going s.call)) own ∙ was.found)
        (λ place is h at. ap (λ b. handle_at place (cond b (emptied (m.tables s.call.actor)) (m.tables s.call.actor))) own ∙ at));
    under_way = λ a c there. by_node a c (is_of_node m.cluster r a) refl there;
    owed = λ a. owed_then a (is_of_node m.cluster r a);
  }
    where
      then_owing : Owing
      then_owing = owing_behind m t (labels.Failed r true)

      not_gone : (gone : Bool) (o : Option BegunCall) (b : BegunCall) → cond gone None o ≡ Some b → o ≡ Some b
      not_gone true o b none = absurd (cc none)
      not_gone false o b there = there

      by_node : (a : ActorName) (c : AsyncCall) (gone : Bool) → is_of_node m.cluster r a ≡ gone → Contains (cond gone no_pending (m.pending a)).unfinished c → HasBegunAs then_owing c
      by_node a c true goes there = absurd (among_none c there)
      by_node a c false stays there =
          let was = has.under_way a c there in
          let actor : c.call.actor ≡ a = (inv.holds.calls.begun a c (among_unfinished (m.pending a) c there)).actor in
          begun_as_still t then_owing c was (ap (λ b. cond b None (t.going c.call)) (ap (is_of_node m.cluster r) actor ∙ stays) ∙ was.found)

      owed_then : (a : ActorName) (gone : Bool) → map owed_of (cond gone no_pending (m.pending a)).finished ≡ cond gone [] (t.owed a)
      owed_then a true = refl
      owed_then a false = has.owed a

-- WHATEVER THE LABEL IS, behind a front of a run
after_tells : (log : List Label) → IsRun log → (l : Label) → Allowed (last log) l → IsDue (last log) l → Tells (owing_in log) (last log) → Tells (owing_behind (last log) (owing_in log) l) (after (last log) l)
after_tells log run (labels.Began call op end details) allowed due has =
    let (inv, history) = run_history log run in
    begin_tells (last log) inv (owing_in log) has call op end details due (next_after (last log) (labels.Began call op end details) inv history allowed due)
after_tells log run (labels.Stepped call word verb k r reply end details) allowed due has =
    subst (λ o. Tells (owing_behind m t l) (step_of m o verb k r reply end)) (sym due.in_hand)
    (subst (λ d. Tells (owing_behind m t (labels.Stepped d word verb k r reply end details)) (step_of m (Some s) verb k r reply end)) due.call_is
    (step_tells m inv t has s held verb k r reply word end details row more opens_none under_way))
  where
    l : Label
    l = labels.Stepped call word verb k r reply end details

    m : Machine
    m = last log

    t : Owing
    t = owing_in log

    inv : Invariant m
    inv = (run_history log run).0

    s : CallState
    s = due.state

    held : m.in_hand (who s) ≡ Some s
    held = held_as m call word s due.in_hand due.call_is due.word

    row : Row m s verb (record { verb = verb; ckpt = k; node = r; reply = reply; end = end; details = details })
    row = subst (λ z. Row m z verb (record { verb = verb; ckpt = k; node = r; reply = reply; end = end; details = details })) (same_Some allowed.state s (sym allowed.in_hand ∙ due.in_hand)) allowed.row

    longer : IsRun (log ++ l ∷ [])
    longer = run_more log l run allowed due

    then_is : last (log ++ l ∷ []) ≡ step_of m (Some s) verb k r reply end
    then_is = last-push log l ∙ ap (λ o. step_of m o verb k r reply end) due.in_hand

    more : (a : ActorName) → m.next a ≤ (changed m s verb k r reply).next a
    more a = subst (λ o. m.next a ≤ (step_of m o verb k r reply end).next a) due.in_hand (next_after m l inv (run_history log run).1 allowed due a)

    under_way : HasUnderWay (step_of m (Some s) verb k r reply end)
    under_way = subst HasUnderWay then_is (all_under_way (log ++ l ∷ []) longer)

    -- a synchronisation that is answered OK tells what it has pulled
    opens_none : (e : Outcome) → end ≡ Some e → word_of_op s.op ≡ opwords.SyncAsync → handle_opened e ((changed m s verb k r reply).tables s.call.actor) ≡ None
    opens_none (Done answer) ends sync =
        let answers_ok = subst (λ (x : OpWord × Option Outcome). Synchronizes (labels.Stepped call x.0 verb k r reply x.1 details) call answer) (λ i. ((sym sync ∙ due.word) i, sym ends i)) (refl, refl) in
        let told = synchronisations_tell (log ++ l ∷ []) longer log [] l call answer refl answers_ok in
        ap (λ x. handle_opened (Done x) ((changed m s verb k r reply).tables s.call.actor)) told.answer_is
    opens_none e ends sync = refl
after_tells log run (labels.Failed r true) allowed due has = failed_tells (last log) (run_history log run).0 (owing_in log) has r
after_tells log run (labels.Failed r false) allowed due has = has
after_tells log run (labels.Word by word said) allowed due has = has
after_tells log run (labels.Nodes n) allowed due has = has
after_tells log run (labels.Moved moment) allowed due has = has
after_tells log run (labels.Joined r (Some incarnation)) allowed due has = has
after_tells log run (labels.Joined r None) allowed due has = has
after_tells log run (labels.Shown k replicas) allowed due has = has
after_tells log run (labels.Pulled k reply) allowed due has = after_pull (Tells (owing_in log)) (last log) k reply due has (λ x from none. has)
after_tells log run (labels.Put k r reply) allowed due has = after_put (Tells (owing_in log)) (last log) k r reply has (λ s x copied on. has)

-- so it is in every run
pub all_tells : (log : List Label) → IsRun log → Tells (owing_in log) (last log)
all_tells log run = along (λ log m. Tells (owing_in log) m) (λ front l before allowed due has. subst (λ t. Tells t (after (last front) l)) (sym (owing_in-push front l)) (after_tells front before l allowed due has)) [] log run (record {
  below = λ call b found. absurd (cc found);
  hands = λ w s held. absurd (cc held);
  under_way = λ a c there. absurd (among_none c there);
  owed = λ a. refl;
})

-- ---- which labels tell callbacks

-- what comes with a reply tells none
none_by_id : (id : Option (List ℕ)) → TellsNone (id_told id)
none_by_id None = tt
none_by_id (Some id) = tt

none_of_slot : (sections : List Section) (slot : Option Slot) → TellsNone (slot_id sections slot)
none_of_slot sections None = tt
none_of_slot sections (Some slot) = none_by_id (made_id slot.update slot.moment sections)

none_of_applied : (marks : Option Marked) (after : Result (List Section) Refusal) (told : Details) → TellsNone told → TellsNone (applied_id marks after told)
none_of_applied (Some marked) after told none = tt
none_of_applied None (Ok sections) told none = none
none_of_applied None (Err why) told none = tt

none_of_read : (pieces : Result (List (List ℕ)) Refusal) → TellsNone (read_details pieces)
none_of_read (Ok pieces) = tt
none_of_read (Err why) = tt

none_of_next : (next : Option NextGiven) → TellsNone (next_details next)
none_of_next None = tt
none_of_next (Some next) = tt

none_of : (request : Request) (p : Payload) (seen : RecordSeen) (x : Replica) → TellsNone (details_of request p seen x)
none_of (requests.Read k) p seen x = none_of_read (read p.elements seen.moment x.sections)
none_of (requests.Commit call k) p seen x = none_of_slot x.sections x.slot
none_of (requests.Apply call k) p seen x = none_of_applied x.marks (outcome_on x p.update seen.moment) (told_id p.update seen.moment x.sections) (none_by_id (made_id p.update seen.moment x.sections))
none_of (requests.Status k) p seen x = tt
none_of (requests.Next call k) p seen x = none_of_next (given p.ids seen.moment x.sections)
none_of request p seen x = tt

none_at : (request : Request) (p : Payload) (seen : RecordSeen) (x : Option Replica) → TellsNone (details_at request p seen x)
none_at request p seen None = tt
none_at request p seen (Some x) = none_of request p seen x

none_ended : (end : Option Outcome) (details : Details) → TellsNone details → TellsNone (ended_details end details)
none_ended None details none = tt
none_ended (Some end) details none = none

none_looked : (s : CallState) (o : Outcome) → TellsNone (look_details s o)
none_looked s (Done answers.Created) = none_by_id s.created
none_looked s o = tt

-- so no step tells any
none_stepped : (m : Machine) (s : CallState) (next : Next) (t : Told) → IsDone m s next t → TellsNone t.details
none_stepped m s (Serve r request) t done = subst TellsNone (sym done.details) (none_ended t.end (details_due m s request r) (none_at request (payload_due m s) (record_seen m.cluster (ckpt_of request) r) (seen_at m (ckpt_of request) r)))
none_stepped m s (Event step) t done = subst TellsNone (sym done.details) tt
none_stepped m s (End o) t done = subst TellsNone (sym (ap (λ (t : Told). t.details) done)) (none_looked s (look_end s o))

-- ---- what a dispatch gives

-- by which flags one is answered
flag_is : (flags : ℕ) → dispatch_is_bad flags ≡ false → (flags ≡ dispatch_one) ⊎ (flags ≡ dispatch_all)
flag_is flags good = by_test (flags == dispatch_one) refl (flags == dispatch_all) refl good
  where
    by_test : (one : Bool) → (flags == dispatch_one) ≡ one → (all : Bool) → (flags == dispatch_all) ≡ all → not (one || all) ≡ false → (flags ≡ dispatch_one) ⊎ (flags ≡ dispatch_all)
    by_test true is all none good = inl (eqb-true flags dispatch_one is)
    by_test false none true is good = inr (eqb-true flags dispatch_all is)
    by_test false none false neither good = absurd (cc good)

-- the calls whose callbacks one gives are the first, or all
given_first : (flags : ℕ) (p : PendingCalls) → flags ≡ dispatch_one → given_by flags p ≡ take 1 p.finished
given_first flags p is = ap (λ n. given_by n p) is ∙ by_list p.finished
  where
    by_list : (xs : List EndedCall) → take (min (length xs) 1) xs ≡ take 1 xs
    by_list [] = refl
    by_list (x ∷ xs) = ap (λ n. take n (x ∷ xs)) (let one : min (suc (length xs)) 1 ≡ 1 = omega arith in one)

given_all : (flags : ℕ) (p : PendingCalls) → flags ≡ dispatch_all → given_by flags p ≡ p.finished
given_all flags p is = ap (λ n. given_by n p) is ∙ take-length p.finished

-- a dispatch that is answered gives what is owed
gives_owed : (owed : List Callback) (p : PendingCalls) → owed ≡ map callback_of p.finished → (flags : ℕ) → dispatch_is_bad flags ≡ false → (given : Given) → given ≡ given_of flags p → (details : Details) → details ≡ beside.Callbacks (map callback_of (given_by flags p)) → GivesOwed owed flags (answers.Dispatched given) details
gives_owed owed p is flags good given counts details told = record {
  given = map callback_of (given_by flags p);
  left = map callback_of (drop (given_number flags p) p.finished);
  owed_is = is ∙ ap (map callback_of) (sym (take-append-drop (given_number flags p) p.finished)) ∙ map-append callback_of (given_by flags p) (drop (given_number flags p) p.finished);
  first_or_all = elim (flag_is flags good) [
    | inl one ↦ inl (one, ap (map callback_of) (given_first flags p one) ∙ sym (take-map callback_of 1 p.finished) ∙ ap (take 1) (sym is))
    | inr all ↦ inr (all, ap (map callback_of) (given_all flags p all) ∙ sym is)
  ];
  told = told;
  counted = ap answers.Dispatched (counts ∙ (λ i. record { given = sym (length-map (given_by flags p) callback_of) i; left = left_count i }));
}
  where
    left_count : length p.finished - length (given_by flags p) ≡ length (map callback_of (drop (given_number flags p) p.finished))
    left_count = ap (λ n. length p.finished - n) (length-take-le (given_number flags p) p.finished (given_within flags p)) ∙ sym (length-drop (given_number flags p) p.finished) ∙ sym (length-map (drop (given_number flags p) p.finished) callback_of)

-- ---- the law

-- behind a front of a run, a label tells what is owed
tells_owed : (log : List Label) → IsRun log → (l : Label) → Allowed (last log) l → IsDue (last log) l → TellsOwed log l
tells_owed log run (labels.Began call (ops.Dispatch flags) (Some (Done (answers.Dispatched given))) details) allowed due =
    gives_owed (callbacks_in (owed_in call.actor log)) ((last log).pending call.actor)
    (ap callbacks_in (sym ((all_tells log run).owed call.actor)) ∙ callbacks_owed ((last log).pending call.actor).finished)
    flags allowed.row.0.arguments given allowed.row.1 details due.told
tells_owed log run (labels.Began call (ops.Dispatch flags) (Some (Done answers.Nothing)) details) allowed due = absurd (let w = allowed.row.1 in cc w)
tells_owed log run (labels.Began call (ops.Dispatch flags) (Some (Done answer)) details) allowed due = absurd allowed.row
tells_owed log run (labels.Began call (ops.Dispatch flags) None details) allowed due = subst TellsNone (sym due.told) tt
tells_owed log run (labels.Began call (ops.Dispatch flags) (Some end) details) allowed due = subst TellsNone (sym due.told) tt
tells_owed log run (labels.Began call op end details) allowed due = subst TellsNone (sym (due.told ∙ none_told end op ((last log).pending call.actor) tt)) tt
tells_owed log run (labels.Stepped call word verb k r reply end details) allowed due = none_stepped (last log) due.state (due_next (last log) due.state) _ due.done
tells_owed log run l allowed due = tt

-- THE LAW: at each label of a run
pub callbacks_are_told : OfEachRun CallbacksTold
callbacks_are_told log run front back l is =
    let (before, allowed, due) = run_before empty_cluster front l (run_front log (front ++ l ∷ []) back (is ∙ sym (append_assoc front (l ∷ []) back)) run) in
    tells_owed front before l allowed due
