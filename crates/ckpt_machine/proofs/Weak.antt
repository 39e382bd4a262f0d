-- A weak write: its marks, its elements one after the other, and the end of its marks.
use Rattle.std.proofs.Common.{◌≡◌, ◌≢◌, ℕ, zero, suc, ◌+◌, ◌-◌, ◌<◌, ◌≤◌, List, ◌∷◌, length, Option, Some, None, Result, Ok, Err, Bool, true, false, cond, not, ◌||◌, ◌==◌, refl, sym, ap, subst, ◌∙◌, arith}
use Rattle.std.specs.List.{list_any}
use Rattle.std.specs.Prelude.{IsOk, IsSomeAnd, IfSome}
use Rattle.std.proofs.lemmas.Bool.{lt-ltb, le-ltb, eqb-true, eq-eqb}
use Rattle.std.proofs.lemmas.Option.{same_Some}
use Rattle.ckpt_types.specs.declared.ais_error.AisError.TheVariants.{TryAgain}
use Rattle.ckpt_types.specs.declared.answers.Answer.TheVariants as answers
use Rattle.ckpt_types.specs.declared.answers.Cause.TheVariants.{Holder}
use Rattle.ckpt_types.specs.declared.answers.Outcome.TheVariants.{Refused}
use Rattle.ckpt_types.specs.declared.identities.CallId.{CallId}
use Rattle.ckpt_types.specs.Asks.{update_asked, update_of}
use Rattle.ckpt_types.specs.Sections.{Section}
use Rattle.ckpt_types.specs.Updates.{Refusal, outcome}
use Rattle.weak_marks.specs.Marks.{Marked, elements_in, call_of, IsMarkedBy, is_left, is_left_of, with_next_done}
use Rattle.cluster_record.specs.declared.calls.ActiveKind.TheVariants as kinds
use Rattle.cluster_record.specs.declared.calls.MarksMade.{MarksMade}
use Rattle.cluster_record.specs.declared.entries.Entry.{Entry}
use Rattle.cluster_record.specs.DueActive.{ActiveState}
use Rattle.cluster_record.specs.Calls.{same_call}
use Rattle.cluster_record.specs.Places.{put, put2}
use Rattle.cluster_record.specs.RecordState.{entry_of}
use Rattle.cluster_record.specs.StepDone.{StepDone, done_of, counting, generation_in}
use Rattle.node_msgs.specs.declared.details.Details.TheVariants as beside
use Rattle.node_msgs.specs.declared.requests.Request.{Request}
use Rattle.node_msgs.specs.declared.requests.Request.TheVariants as requests
use Rattle.node_msgs.specs.declared.replies.Reply.TheVariants as replies
use Rattle.node_msgs.specs.declared.steps.StepReply.TheVariants as words
use Rattle.node_msgs.specs.declared.steps.Verb.{Verb}
use Rattle.node_msgs.specs.declared.steps.Verb.TheVariants as verbs
use Rattle.node_msgs.specs.declared.next.Next.TheVariants.{Serve}
use Rattle.node_core.specs.Seen.{record_seen}
use Rattle.node_core.specs.Serving.{reply_at, reply_unless, details_at}
use Rattle.ckpt_machine.specs.Drivers as drivers
use Rattle.ckpt_machine.specs.Driving.{driver_taken}
use Rattle.ckpt_machine.specs.ActiveGuards.{AreMarksOf, marks_in, HasMarkedIn}
use Rattle.ckpt_machine.specs.InHand.{are_present, is_enter, is_marked_by, MarksFit, IsInPlace, IsActiveIn, IsInHand}
use Rattle.ckpt_machine.specs.Invariant.{InvariantIn, Invariant}
use Rattle.ckpt_machine.specs.Left.{steps_left}
use Rattle.ckpt_machine.specs.Machine.{Machine, ReplicaState, CallState, who}
use Rattle.ckpt_machine.specs.Shape.{Shape, IsMarker}
use Rattle.ckpt_machine.specs.After.{change_replica, with_marks, with_next_element, next_element_written, without_marks, marks_ended, kept_behind, left_in_hand}
use Rattle.ckpt_machine.specs.Due.{Told, IsDone, IsServed, ended_details, driver_of, payload_due, details_due}
use Rattle.ckpt_machine.proofs.Actors.{same_call-refl, same_call-true}
use Rattle.ckpt_machine.proofs.CallsKept.{same_call-None, same_call-Some}
use Rattle.ckpt_machine.proofs.ActiveNode.{ActiveOf, active_seen}
use Rattle.ckpt_machine.proofs.ActiveSteps.{marked_so, active_keeps}
use Rattle.ckpt_machine.proofs.DueStep.{Goes}
use Rattle.ckpt_machine.proofs.OnTheActive.{at_active, apart, alone, spread, asks_of, asks_own, on_active, ends, refused_row, holder_live, held_row}
use Rattle.ckpt_machine.specs.Whose.{put_who}
use Rattle.ckpt_machine.proofs.Whose.{put_who-here, same_state}
use Rattle.ckpt_machine.proofs.StepLabels.{IsServed-told}

positive : (n : ℕ) → n ≢ 0 → 0 < n
positive zero not_none = absurd (not_none refl)
positive (suc n) not_none = omega arith

-- the marks of another call are not of the call
not_marked : (d c : CallId) → d ≢ c → (marks : Marked) → marks.call ≡ c → is_marked_by d (Some marks) ≡ false
not_marked d c other marks of_it = by_test (same_call marks.call d) refl
  where
    by_test : (b : Bool) → same_call marks.call d ≡ b → same_call marks.call d ≡ false
    by_test false is_not = is_not
    by_test true same = absurd (other (sym (same_call-true marks.call d same) ∙ of_it))

module _ (m : Machine) (shapes : ℕ → Shape) (inv : InvariantIn shapes m) (s : CallState) (call : CallId) (k n : ℕ) (made : Option MarksMade) (held : m.in_hand (who s) ≡ Some s) (at : ActiveOf m (shapes k).marks k) (no_hold : at.entry.hold ≡ None)
    (is : driver_of s ≡ drivers.Active (record { call = call; ckpt = k; kind = kinds.Weak n; marks = made })) where
  -- what drives it, with these marks
  abbrev driving : Option MarksMade → ActiveState
  driving made = record { call = call; ckpt = k; kind = kinds.Weak n; marks = made }

  its : IsActiveIn m shapes s (driving made)
  its = at_active m shapes inv s call k (kinds.Weak n) made held at refl is

  marks_are : at.replica.marks ≡ (shapes k).marks
  marks_are = (apart m shapes inv s call k (kinds.Weak n) made held at refl is).marks_are

  free : at.replica.slot ≡ None
  free = (apart m shapes inv s call k (kinds.Weak n) made held at refl is).free

  -- its write has so many elements
  elements_are : length (elements_in (update_of s.op)) ≡ n
  elements_are = let (place, elements, asks, weak, count) = asks_of m shapes inv s call k (kinds.Weak n) made held at refl is in ap (λ a. length (elements_in (update_asked a))) asks ∙ sym count

  -- ---- behind a step with which it goes on

  -- the step, as its call keeps it
  abbrev done : Verb → StepDone
  done verb = counting 0 (done_of m.cluster verb (Some k) (Some at.node) words.Ok)

  abbrev then_state : Verb → CallState
  then_state verb = record s { steps = done verb ∷ s.steps }

  module _ (verb : Verb) (y : ReplicaState) (marks : Marked) (w : MarksMade) (y_generation : y.generation ≡ at.entry.generation) (y_free : y.slot ≡ None) (y_marks : y.marks ≡ Some marks) (own : marks.call ≡ s.call) (update : marks.update ≡ update_of s.op)
      (left : marks.done + w.left ≡ length (elements_in marks.update)) (few : w.left ≤ n) (generation : w.generation ≡ at.entry.generation) (marked : HasMarkedIn (then_state verb) w.generation) (takes : driver_taken (done verb) (driver_of s) ≡ drivers.Active (driving (Some w)))
      (others : (d : CallId) → d ≢ s.call → is_marked_by d (shapes k).marks ≡ false) where
    abbrev then_machine : Machine
    then_machine = record m { replicas = put2 m.replicas k at.node (Some y); in_hand = put_who m.in_hand (who s) (Some (then_state verb)) }

    abbrev then_shapes : ℕ → Shape
    then_shapes = put shapes k (marked_so (shapes k) (Some marks))

    -- its marks are in hand
    marker_then : IsMarker then_machine k marks
    marker_then = record {
      state = then_state verb;
      in_hand = put_who-here m.in_hand (who s) (Some (then_state verb));
      call_is = sym own;
      driver = driving (Some w);
      driver_is = takes;
      ckpt = refl;
      made = w;
      made_is = refl;
      update = update;
      left = left;
    }

    shape_then : then_shapes k ≡ marked_so (shapes k) (Some marks)
    shape_then = ap (λ b. cond b (marked_so (shapes k) (Some marks)) (shapes k)) (eq-eqb k k refl)

    few_then : (before : Option MarksMade) → MarksFit (kinds.Weak n) before → MarksFit (kinds.Weak n) (Some w)
    few_then None fit = (fit, few)
    few_then (Some v) fit = (fit.0, few)

    present_then : (e : Entry) → entry_of k m.cluster.entries ≡ Some e → w.generation ≡ e.generation
    present_then e found = generation ∙ ap (λ (e : Entry). e.generation) (same_Some at.entry e (sym at.found ∙ found))

    here_then : IsActiveIn then_machine then_shapes (then_state verb) (driving (Some w))
    here_then = record {
      call = its.call;
      kind = its.kind;
      fit = few_then made its.fit;
      made = its.made;
      kept = its.kept;
      room = its.room;
      all = its.all;
      weak = its.weak;
      handle = its.handle;
      marks = λ e found. ap (λ (sh : Shape). is_marked_by s.call sh.marks) shape_then ∙ ap (λ c. same_call c s.call) own ∙ same_call-refl s.call ∙ sym (eq-eqb w.generation e.generation (present_then e found));
      generation = λ e found. let present = present_then e found in omega (arith, present);
      made_by = marked;
    }

    goes_on_keeps : Invariant then_machine
    goes_on_keeps =
        let hand = inv.hands (who s) s held in
        record {
          shapes = then_shapes;
          holds = active_keeps m shapes inv s (driving made) held is at.node at.entry at.found at.made (alone m shapes inv s call k (kinds.Weak n) made held at refl is) at.active no_hold y (Some marks) (record { free = y_free; marks_are = y_marks }) y_generation (Some (then_state verb))
              (λ d other. not_marked d s.call other marks own ∙ sym (others d other)) (same_call-Some s (then_state verb) refl refl)
              (λ v same. subst (IsMarker then_machine k) (same_Some marks v same) marker_then)
              (λ z same. subst (IsInHand then_machine then_shapes (who s)) (same_Some (then_state verb) z same) (record {
                whose = refl;
                asker = hand.asker;
                number = hand.number;
                built = hand.built;
                driven = hand.driven;
                live = λ others. hand.live (ap is_enter is);
                home = λ others. hand.home (ap is_enter is);
                here = subst (IsInPlace then_machine then_shapes (then_state verb)) (sym takes) here_then;
              }));
        }

  -- its own marks stand
  record OwnMarks (w : MarksMade) : Type 0 where
    marks : Marked
    stand : (shapes k).marks ≡ Some marks
    own : marks.call ≡ s.call
    update : marks.update ≡ update_of s.op
    left : marks.done + w.left ≡ length (elements_in marks.update)

  own_marks : (w : MarksMade) → made ≡ Some w → (w.generation == at.entry.generation) ≡ true → OwnMarks w
  own_marks w made_is present = by_marks (shapes k).marks refl (its.marks at.entry at.found ∙ ap (are_present at.entry) made_is ∙ present)
    where
      by_marks : (o : Option Marked) → (shapes k).marks ≡ o → is_marked_by s.call o ≡ true → OwnMarks w
      by_marks None none of_it = absurd (cc of_it)
      by_marks (Some marks) stand of_it =
          let own : marks.call ≡ s.call = same_call-true marks.call s.call of_it in
          let marker : IsMarker m k marks = (spread m shapes inv s call k (kinds.Weak n) made held at refl is).marked marks stand in
          let state : marker.state ≡ s = same_state m.in_hand m.pending m.next inv.calls marker.state s marker.in_hand held (marker.call_is ∙ own) in
          let both : drivers.Active marker.driver ≡ drivers.Active (driving made) = sym marker.driver_is ∙ ap driver_of state ∙ is in
          let driver : marker.driver ≡ driving made = cc both in
          let same : marker.made ≡ w = same_Some marker.made w (sym marker.made_is ∙ ap (λ (a : ActiveState). a.marks) driver ∙ made_is) in
          record {
            marks = marks;
            stand = stand;
            own = own;
            update = marker.update ∙ ap (λ (z : CallState). update_of z.op) state;
            left = ap (λ (v : MarksMade). marks.done + v.left) (sym same) ∙ marker.left;
          }

  -- ---- the marks are made

  module _ (none : made ≡ None) where
    abbrev to_mark : Request
    to_mark = requests.Mark call k

    -- the sections make this of the write
    abbrev Gives : Result (List Section) Refusal → Type 0
    Gives r = outcome at.entry.attributes (update_of s.op) m.cluster.moment at.replica.sections ≡ r

    answered : (t : Told) (served : IsServed m s at.node to_mark t) (o : Option Marked) (r : Result (List Section) Refusal) → (shapes k).marks ≡ o → Gives r → served.answer ≡ reply_unless (call_of o) (replies.Done answers.Nothing) r
    answered t served o r stand gives =
        served.may
        ∙ ap (reply_at to_mark (payload_due m s) (record_seen m.cluster k at.node)) (active_seen m (shapes k).marks k at)
        ∙ ap (λ (marks : Option Marked). reply_unless (call_of marks) (replies.Done answers.Nothing) (outcome at.entry.attributes (update_of s.op) m.cluster.moment at.replica.sections)) (marks_are ∙ stand)
        ∙ ap (reply_unless (call_of o) (replies.Done answers.Nothing)) gives

    nothing_told : details_due m s to_mark at.node ≡ beside.Nothing
    nothing_told = ap (details_at to_mark (payload_due m s) (record_seen m.cluster k at.node)) (active_seen m (shapes k).marks k at)

    -- the replica after it
    abbrev marked : ReplicaState
    marked = with_marks s.call (update_of s.op) m.cluster.moment at.replica

    abbrev new_marks : Marked
    new_marks = record { call = s.call; update = update_of s.op; moment = m.cluster.moment; done = 0; generation = at.replica.generation }

    abbrev new_made : MarksMade
    new_made = record { generation = at.entry.generation; left = n }

    mark_takes : driver_taken (done verbs.Mark) (driver_of s) ≡ drivers.Active (driving (Some new_made))
    mark_takes = ap (driver_taken (done verbs.Mark)) is ∙ ap (λ o. drivers.Active (driving (Some (record { generation = generation_in o; left = n })))) at.found

    holds_marked : (shapes k).marks ≡ None → Invariant (record m { replicas = put2 m.replicas k at.node (Some marked); in_hand = put_who m.in_hand (who s) (Some (then_state verbs.Mark)) })
    holds_marked unmarked = goes_on_keeps verbs.Mark marked new_marks new_made at.generation free refl refl refl (let e = elements_are in omega (arith, e)) (omega arith) refl (ap (λ b. b || list_any (marks_in at.entry.generation) s.steps) (eq-eqb (generation_in (entry_of k m.cluster.entries)) at.entry.generation (ap generation_in at.found))) mark_takes (λ d other. ap (is_marked_by d) unmarked)

    mark_by : (t : Told) → IsServed m s at.node to_mark t → (o : Option Marked) → (shapes k).marks ≡ o → (r : Result (List Section) Refusal) → Gives r → Goes m s (driver_of s) t
    mark_by t served None stand (Ok sections) gives = subst (Goes m s (driver_of s)) (sym (IsServed-told m s at.node to_mark t _ (replies.Done answers.Nothing) served is (answered t served None (Ok sections) stand gives))) (record {
      row = (
        _,
        update_of s.op,
        asks_own m shapes inv s call k (kinds.Weak n) made held at refl is,
        on_active m shapes inv s call k (kinds.Weak n) made held at refl is no_hold _ (record { unmarked = marks_are ∙ stand; fits = subst IsOk (sym gives) refl; answer = refl; told = refl }),
      );
      holds = subst (λ o. let n = change_replica m k at.node o (with_marks s.call (update_of s.op) m.cluster.moment) in Invariant (left_in_hand n (kept_behind m s n.cluster verbs.Mark (Some k) (Some at.node) words.Ok) None)) (sym at.there) (holds_marked stand);
      nearer = λ goes_on. subst (λ o. let n = change_replica m k at.node o (with_marks s.call (update_of s.op) m.cluster.moment) in
          steps_left n.cluster n.replicas (driver_taken (done_of n.cluster verbs.Mark (Some k) (Some at.node) words.Ok) (driver_of s)) < steps_left m.cluster m.replicas (driver_of s)) (sym at.there)
          (subst (λ d. steps_left m.cluster (put2 m.replicas k at.node (Some (with_marks s.call (update_of s.op) m.cluster.moment at.replica))) (driver_taken (done_of m.cluster verbs.Mark (Some k) (Some at.node) words.Ok) d) < steps_left m.cluster m.replicas d) (sym (is ∙ ap (λ o. drivers.Active (driving o)) none)) (omega arith));
    })
    mark_by t served None stand (Err why) gives = subst (Goes m s (driver_of s)) (sym (IsServed-told m s at.node to_mark t _ (replies.Refused why.error why.index) served is (answered t served None (Err why) stand gives))) (record {
      row = (_, update_of s.op, asks_own m shapes inv s call k (kinds.Weak n) made held at refl is, refused_row m shapes inv s call k (kinds.Weak n) made held at refl is none no_hold _ why stand gives refl nothing_told);
      holds = ends m shapes inv s call k (kinds.Weak n) made held at refl is none;
      nearer = λ none. absurd (cc none);
    })
    mark_by t served (Some marks) stand r gives =
        let told = IsServed-told m s at.node to_mark t _ (replies.Held marks.call) served is (answered t served (Some marks) r stand gives) in
        let live = holder_live m shapes inv s call k (kinds.Weak n) made held at refl is none marks stand in
        subst (Goes m s (driver_of s)) (sym (told ∙ (λ i. record { verb = verbs.Mark; ckpt = Some k; node = Some at.node; reply = words.Held marks.call; end = cond (live i) (Some (Refused TryAgain (Holder marks.call))) None; details = ended_details (cond (live i) (Some (Refused TryAgain (Holder marks.call))) None) (nothing_told i) }))) (record {
          row = (_, update_of s.op, asks_own m shapes inv s call k (kinds.Weak n) made held at refl is, held_row m shapes inv s call k (kinds.Weak n) made held at refl is none no_hold _ marks stand refl refl);
          holds = ends m shapes inv s call k (kinds.Weak n) made held at refl is none;
          nearer = λ none. absurd (cc none);
        })

    pub mark_goes : (t : Told) → IsServed m s at.node to_mark t → Goes m s (driver_of s) t
    mark_goes t served = mark_by t served (shapes k).marks refl (outcome at.entry.attributes (update_of s.op) m.cluster.moment at.replica.sections) refl

  -- ---- an element, and the end, where they are of the present generation

  module _ (w : MarksMade) (made_is : made ≡ Some w) (present : (w.generation == at.entry.generation) ≡ true) where
    abbrev its_own : OwnMarks w
    its_own = own_marks w made_is present

    -- they stand on the active
    stand_there : at.replica.marks ≡ Some its_own.marks
    stand_there = marks_are ∙ its_own.stand

    -- those of its write, with an element left or none
    are_marks : (left : Bool) → is_left its_own.marks ≡ left → IsSomeAnd at.replica.marks (AreMarksOf s.call (update_of s.op) left)
    are_marks left left_is = subst (λ o. IsSomeAnd o (AreMarksOf s.call (update_of s.op) left)) (sym stand_there) (record { call_is = its_own.own; update_is = its_own.update; left_is = left_is })

    -- no other call has marks
    others_unmarked : (d : CallId) → d ≢ s.call → is_marked_by d (shapes k).marks ≡ false
    others_unmarked d other = ap (is_marked_by d) its_own.stand ∙ not_marked d s.call other its_own.marks its_own.own

    few_left : w.left ≤ n
    few_left = (subst (MarksFit (kinds.Weak n)) made_is its.fit).1

    -- ---- an element

    module _ (some : (w.left == 0) ≡ false) where
      abbrev to_do : Request
      to_do = requests.Element call k

      left_some : w.left ≢ 0
      left_some is_none = (let v : true ≡ false = sym (eq-eqb w.left 0 is_none) ∙ some in cc v)

      left_is : is_left its_own.marks ≡ true
      left_is = let l = its_own.left in lt-ltb its_own.marks.done (length (elements_in its_own.marks.update)) (let above : 0 < w.left = positive w.left left_some in omega (arith, l, above))

      -- the replica after it
      abbrev written : ReplicaState
      written = next_element_written at.entry.attributes at.replica (Some its_own.marks)

      abbrev next_marks : Marked
      next_marks = record its_own.marks { done = its_own.marks.done + 1 }

      abbrev next_made : MarksMade
      next_made = record w { left = w.left - 1 }

      next_done : with_next_done (Some its_own.marks) ≡ Some next_marks
      next_done = ap (λ b. cond b (Some next_marks) (Some its_own.marks)) left_is

      element_takes : driver_taken (done verbs.Element) (driver_of s) ≡ drivers.Active (driving (Some next_made))
      element_takes = ap (driver_taken (done verbs.Element)) (is ∙ ap (λ o. drivers.Active (driving o)) made_is)

      element_is : with_next_element (entry_of k m.cluster.entries) at.replica ≡ written
      element_is = ap (λ o. with_next_element o at.replica) at.found ∙ ap (next_element_written at.entry.attributes at.replica) stand_there

      holds_written : Invariant (record m { replicas = put2 m.replicas k at.node (Some (with_next_element (entry_of k m.cluster.entries) at.replica)); in_hand = put_who m.in_hand (who s) (Some (then_state verbs.Element)) })
      holds_written = subst (λ y. Invariant (record m { replicas = put2 m.replicas k at.node (Some y); in_hand = put_who m.in_hand (who s) (Some (then_state verbs.Element)) })) (sym element_is)
          (goes_on_keeps verbs.Element written next_marks next_made at.generation free next_done its_own.own its_own.update (let l = its_own.left in let above = positive w.left left_some in omega (arith, l, above)) (let f = few_left in omega (arith, f))
          (eqb-true w.generation at.entry.generation present) (subst (λ o. IfSome o (λ (v : MarksMade). HasMarkedIn s v.generation)) made_is its.made_by) element_takes others_unmarked)

      element_goes : (t : Told) → IsServed m s at.node to_do t → Goes m s (driver_of s) t
      element_goes t served = subst (Goes m s (driver_of s)) (sym (IsServed-told m s at.node to_do t _ (replies.Done answers.Nothing) served is
          (served.may ∙ ap (reply_at to_do (payload_due m s) (record_seen m.cluster k at.node)) (active_seen m (shapes k).marks k at)))) (record {
            row = (_, update_of s.op, asks_own m shapes inv s call k (kinds.Weak n) made held at refl is, (on_active m shapes inv s call k (kinds.Weak n) made held at refl is no_hold (λ e x. IsSomeAnd x.marks (AreMarksOf s.call (update_of s.op) true)) (are_marks true left_is), refl, refl));
            holds = subst (λ o. let n = change_replica m k at.node o (with_next_element (entry_of k m.cluster.entries)) in Invariant (left_in_hand n (kept_behind m s n.cluster verbs.Element (Some k) (Some at.node) words.Ok) None)) (sym at.there) holds_written;
            nearer = λ goes_on. subst (λ o. let n = change_replica m k at.node o (with_next_element (entry_of k m.cluster.entries)) in
                steps_left n.cluster n.replicas (driver_taken (done_of n.cluster verbs.Element (Some k) (Some at.node) words.Ok) (driver_of s)) < steps_left m.cluster m.replicas (driver_of s)) (sym at.there)
                (subst (λ d. steps_left m.cluster (put2 m.replicas k at.node (Some (with_next_element (entry_of k m.cluster.entries) at.replica))) (driver_taken (done_of m.cluster verbs.Element (Some k) (Some at.node) words.Ok) d) < steps_left m.cluster m.replicas d) (sym (is ∙ ap (λ o. drivers.Active (driving o)) made_is)) (let above = positive w.left left_some in omega (arith, above)));
          })

    -- ---- the end of its marks

    module _ (no_more : (w.left == 0) ≡ true) where
      abbrev to_end : Request
      to_end = requests.Unmark call k

      none_left : is_left its_own.marks ≡ false
      none_left = let l = its_own.left in let zero : w.left ≡ 0 = eqb-true w.left 0 no_more in le-ltb its_own.marks.done (length (elements_in its_own.marks.update)) (omega (arith, l, zero))

      abbrev ended : ReplicaState
      ended = marks_ended at.replica (Some its_own.marks)

      holds_ended : Invariant (record m { replicas = put2 m.replicas k at.node (Some (without_marks at.replica)); in_hand = put_who m.in_hand (who s) None })
      holds_ended = subst (λ o. Invariant (record m { replicas = put2 m.replicas k at.node (Some (marks_ended at.replica o)); in_hand = put_who m.in_hand (who s) None })) (sym stand_there) (record {
        shapes = _;
        holds = active_keeps m shapes inv s (driving made) held is at.node at.entry at.found at.made (alone m shapes inv s call k (kinds.Weak n) made held at refl is) at.active no_hold ended None (record { free = free; marks_are = refl }) at.generation None
            (λ d other. sym (others_unmarked d other)) (same_call-None s) (λ marks none. absurd (cc none)) (λ z there. absurd (cc there));
      })

      unmark_goes : (t : Told) → IsServed m s at.node to_end t → Goes m s (driver_of s) t
      unmark_goes t served = subst (Goes m s (driver_of s)) (sym (IsServed-told m s at.node to_end t _ (replies.Done answers.Nothing) served is
          (served.may ∙ ap (reply_at to_end (payload_due m s) (record_seen m.cluster k at.node)) (active_seen m (shapes k).marks k at)))) (record {
            row = (_, update_of s.op, asks_own m shapes inv s call k (kinds.Weak n) made held at refl is, (on_active m shapes inv s call k (kinds.Weak n) made held at refl is no_hold (λ e x. IsSomeAnd x.marks (AreMarksOf s.call (update_of s.op) false)) (are_marks false none_left), refl, ap (details_at to_end (payload_due m s) (record_seen m.cluster k at.node)) (active_seen m (shapes k).marks k at)));
            holds = subst (λ o. let n = change_replica m k at.node o without_marks in Invariant (record n { in_hand = put_who n.in_hand (who s) None })) (sym at.there) holds_ended;
            nearer = λ none. absurd (cc none);
          })

    -- the next one, by how many elements are left
    next_goes : (b : Bool) → (w.left == 0) ≡ b → (t : Told) → IsDone m s (Serve at.node (cond b (requests.Unmark call k) (requests.Element call k))) t → Goes m s (driver_of s) t
    next_goes true none t served = unmark_goes none t served
    next_goes false some t served = element_goes some t served

    pub marked_goes : (t : Told) → IsDone m s (Serve at.node (cond (w.left == 0) (requests.Unmark call k) (requests.Element call k))) t → Goes m s (driver_of s) t
    marked_goes t served = next_goes (w.left == 0) refl t served

    -- what an element asks of the active, and the end of the marks
    pub marks_ready : (none : Bool) → (w.left == 0) ≡ none → IsMarkedBy call at.replica.marks × (is_left_of at.replica.marks ≡ not none)
    marks_ready none left = subst (λ o. IsMarkedBy call o × (is_left_of o ≡ not none)) (sym stand_there) (its_own.own ∙ sym its.call, by_left none left)
      where
        by_left : (b : Bool) → (w.left == 0) ≡ b → is_left its_own.marks ≡ not b
        by_left true none = none_left none
        by_left false some = left_is some
