-- The calls to the active: a read, a status, and iterations, each answered by it in one step; and updates.
use Rattle.std.proofs.Common.{◌≡◌, ℕ, inl, inr, List, Option, Some, None, Result, Ok, Err, Bool, true, false, cond, not, ◌&&◌, ◌==◌, refl, sym, ap, subst, ◌∙◌}
use Rattle.std.proofs.lemmas.Option.{same_Some}
use Rattle.std.specs.Prelude.{IsSome, is_some, IfSome}
use Rattle.ckpt_types.specs.declared.ais_error.AisError.{AisError}
use Rattle.ckpt_types.specs.declared.ais_error.AisError.TheVariants.{NoResources, NoSections, NotExist, TryAgain}
use Rattle.ckpt_types.specs.declared.answers.Answer.TheVariants as answers
use Rattle.ckpt_types.specs.declared.answers.Cause.{Cause}
use Rattle.ckpt_types.specs.declared.answers.Cause.TheVariants.{Plain, Index, Count, Holder, Generations}
use Rattle.ckpt_types.specs.declared.answers.Outcome.TheVariants.{Done, Refused}
use Rattle.ckpt_types.specs.declared.identities.CallId.{CallId}
use Rattle.ckpt_types.specs.declared.operation.Op.{Op}
use Rattle.ckpt_types.specs.declared.operation.Op.TheVariants as ops
use Rattle.ckpt_types.specs.declared.sections.Choice.{Choice}
use Rattle.ckpt_types.specs.Updates.{Refusal}
use Rattle.ckpt_types.specs.Reads.{read, status, NextGiven, given}
use Rattle.node_msgs.specs.declared.requests.Request.TheVariants as requests
use Rattle.node_msgs.specs.declared.replies.Reply.TheVariants as replies
use Rattle.node_msgs.specs.declared.next.Next.{Next}
use Rattle.node_msgs.specs.declared.next.Next.TheVariants.{Serve, End}
use Rattle.node_msgs.specs.declared.steps.StepReply.TheVariants as words
use Rattle.section_iter.specs.declared.room.Room.{Room}
use Rattle.cluster_record.specs.declared.calls.ActiveKind.{ActiveKind}
use Rattle.cluster_record.specs.declared.calls.ActiveKind.TheVariants as kinds
use Rattle.cluster_record.specs.declared.entries.Entry.{Entry}
use Rattle.cluster_record.specs.DueActive.{unless_changed, unless_on_hold, is_update, on_active, active_on, request_by, starts_iteration}
use Rattle.cluster_record.specs.declared.calls.MarksMade.{MarksMade}
use Rattle.cluster_record.specs.RecordState.{entry_of, attributes_now}
use Rattle.node_msgs.specs.declared.details.Details.TheVariants as beside
use Rattle.ckpt_types.specs.Asks.{Ask, asked, elements_asked, elements_of, is_async_ask}
use Rattle.ckpt_types.specs.Asks as asks
use Rattle.ckpt_machine.specs.Tables.{choice_of, started, gone_on}
use Rattle.ckpt_machine.specs.Drivers.{Driver, Rooms}
use Rattle.ckpt_machine.specs.Drivers as drivers
use Rattle.ckpt_machine.specs.Driving.{driver_next, kind_of_change, making_in, refused_cause}
use Rattle.ckpt_machine.specs.InHand.{active_kind, change_kind, is_marked_by, MarksFit, IsInPlace, IsActiveIn}
use Rattle.ckpt_machine.specs.Invariant.{IsGoodIn, InvariantIn, Invariant}
use Rattle.weak_marks.specs.Marks.{Marked}
use Rattle.ckpt_machine.specs.Machine.{Machine, CallState, who}
use Rattle.node_core.specs.Serving.{read_details, reply_at, details_at, done_or_refused, next_reply, next_details}
use Rattle.node_core.specs.Seen.{record_seen, entry_seen}
use Rattle.ckpt_machine.specs.After.{with_tables, given_at, chosen_at}
use Rattle.ckpt_machine.specs.Due.{Told, IsDone, IsServed, driver_of, rooms_of, ids_asked, payload_due, details_due}
use Rattle.ckpt_machine.specs.Seen.{seen, seen_at}
use Rattle.ckpt_machine.specs.LookGuards.{LookRefused, ChangeLook, ActiveLook, HasNoActive, NoActiveLook, OnLed}
use Rattle.ckpt_machine.specs.ActiveGuards.{IterOk, NextAnswer}
use Rattle.ckpt_machine.specs.Shape.{Shape, IsSpread}
use Rattle.ckpt_machine.proofs.ActiveNode.{AsksOf, by_kind, ActiveOf, active_of, active_seen, on_its_replica, active_next-there}
use Rattle.ckpt_machine.proofs.ActiveSteps.{holder_other, unmarked_ends}
use Rattle.ckpt_machine.proofs.Apply.{apply_goes}
use Rattle.ckpt_machine.proofs.EndedTables.{started_keeps, gone_on_keeps}
use Rattle.ckpt_machine.proofs.HeldBy.{its_hold, held_by}
use Rattle.ckpt_machine.proofs.PlainCalls.{is_plain, plain_ends, look_ends, look_goes}
use Rattle.ckpt_machine.proofs.DueStep.{Goes}
use Rattle.ckpt_machine.proofs.OptionLemmas.{IsSomeAnd-from}
use Rattle.ckpt_machine.proofs.StepLabels.{IsServed-told}
use Rattle.ckpt_machine.specs.Whose.{put_who}
use Rattle.ckpt_machine.proofs.Weak.{mark_goes, marked_goes}
use Rattle.ckpt_machine.proofs.AsyncCalls.{ended_idle}
use Rattle.ckpt_types.specs.declared.identities.Who.TheVariants.{Actor}

-- the cause of a refused read is the index, and that of a refused `next` is none
read_cause : (weak : Bool) (op : Op) (index : ℕ) → AsksOf weak kinds.Read (asked op) → refused_cause op index ≡ Index index
read_cause weak (ops.Read place elements) index is = refl
read_cause weak (ops.Write place update) index is = refl
read_cause weak op index is = absurd (cc (is.2))

next_cause : (weak : Bool) (op : Op) (index : ℕ) → AsksOf weak kinds.Next (asked op) → refused_cause op index ≡ Plain
next_cause weak (ops.Read place elements) index is = absurd (cc (is.1))
next_cause weak (ops.Write place update) index is = absurd (cc (is.1))
next_cause weak op index is = refl

-- where its checkpoint is gone, or has no active, the call is refused
LookRefused-active : (m : Machine) (s : CallState) (kind : ActiveKind) (ask : Ask) → active_kind s.kept.all s.kept.weak ask ≡ Some kind → NoActiveLook m s.kept.ckpt NotExist Plain → LookRefused m s ask NotExist Plain
LookRefused-active m s kind (asks.Change place update) is gone = by_all s.kept.all is gone
  where
    by_all : (all : Bool) → change_kind all (kind_of_change s.kept.weak update) ≡ Some kind → NoActiveLook m s.kept.ckpt NotExist Plain → ChangeLook all m s NotExist Plain
    by_all true is gone = absurd (cc is)
    by_all false is gone = gone
LookRefused-active m s kind (asks.Read place elements) is gone = gone
LookRefused-active m s kind (asks.Status place) is gone = gone
LookRefused-active m s kind (asks.Iterate iteration place chosen time) is gone = gone
LookRefused-active m s kind (asks.Next iteration) is gone = gone
LookRefused-active m s kind ask is gone = absurd (cc is)

-- an update is refused with what a look has for one of the active alone
LookRefused-update : (m : Machine) (s : CallState) (kind : ActiveKind) (ask : Ask) (error : AisError) (cause : Cause) → is_update kind ≡ true → active_kind s.kept.all s.kept.weak ask ≡ Some kind → ActiveLook m s error cause → LookRefused m s ask error cause
LookRefused-update m s kind (asks.Change place update) error cause updates is look = by_all s.kept.all is
  where
    by_all : (all : Bool) → change_kind all (kind_of_change s.kept.weak update) ≡ Some kind → ChangeLook all m s error cause
    by_all true is = absurd (cc is)
    by_all false is = look
LookRefused-update m s kind (asks.Read place elements) error cause updates is look = absurd (let w : false ≡ true = ap is_update (same_Some kinds.Read kind is) ∙ updates in cc w)
LookRefused-update m s kind (asks.Status place) error cause updates is look = absurd (let w : false ≡ true = ap is_update (same_Some kinds.Status kind is) ∙ updates in cc w)
LookRefused-update m s kind (asks.Iterate iteration place chosen time) error cause updates is look = absurd (let w : false ≡ true = ap is_update (same_Some (kinds.Iterate (choice_of chosen time)) kind is) ∙ updates in cc w)
LookRefused-update m s kind (asks.Next iteration) error cause updates is look = absurd (let w : false ≡ true = ap is_update (same_Some kinds.Next kind is) ∙ updates in cc w)
LookRefused-update m s kind ask error cause updates is look = absurd (cc is)

-- ---- any of them

-- what is asked of the active is no asynchronous call
active_plain : (all weak : Bool) (ask : Ask) (kind : ActiveKind) → active_kind all weak ask ≡ Some kind → is_async_ask ask ≡ false
active_plain all weak (asks.Open place name flags timeout a) kind is = absurd (cc is)
active_plain all weak (asks.Synchronize place timeout) kind is = absurd (cc is)
active_plain all weak ask kind is = refl

module _ (m : Machine) (shapes : ℕ → Shape) (inv : InvariantIn shapes m) (s : CallState) (call : CallId) (k : ℕ) (held : m.in_hand (who s) ≡ Some s) where
  abbrev driver : ActiveKind → Driver
  driver kind = drivers.Active (record { call = call; ckpt = k; kind = kind; marks = None })

  -- where its steps have led it
  at_made : (kind : ActiveKind) (made : Option MarksMade) → driver_of s ≡ drivers.Active (record { call = call; ckpt = k; kind = kind; marks = made }) → IsActiveIn m shapes s (record { call = call; ckpt = k; kind = kind; marks = made })
  at_made kind made is = subst (λ d. IsInPlace m shapes s d) is (inv.hands (who s) s held).here

  module _ (kind : ActiveKind) (is : driver_of s ≡ drivers.Active (record { call = call; ckpt = k; kind = kind; marks = None })) where
    pub at_active : IsActiveIn m shapes s (record { call = call; ckpt = k; kind = kind; marks = None })
    at_active = subst (λ d. IsInPlace m shapes s d) is (inv.hands (who s) s held).here

    -- it ends, and all else is as it was
    ends : Invariant (record m { in_hand = put_who m.in_hand (who s) None })
    ends = record { shapes = shapes; holds = plain_ends m shapes inv s held (ap (λ d. is_plain d s.snapshot) is) }

    -- its client waits for no call then
    gone : put_who m.in_hand (who s) None (Actor s.call.actor) ≡ None
    gone = ended_idle m s (active_plain s.kept.all s.kept.weak (asked s.op) kind at_active.kind)

    -- an iteration is started, or goes on
    ends_started : (room : Room) (chosen_by : Choice → List (List ℕ)) → Invariant (record (with_tables s.call.actor (started (asked s.op) room chosen_by) m) { in_hand = put_who m.in_hand (who s) None })
    ends_started room chosen_by = record { shapes = shapes; holds = started_keeps (record m { in_hand = put_who m.in_hand (who s) None }) shapes (plain_ends m shapes inv s held (ap (λ d. is_plain d s.snapshot) is)) s.call.actor gone (asked s.op) room chosen_by }

    ends_next : (next : Option NextGiven) → Invariant (record (with_tables s.call.actor (gone_on (asked s.op) next) m) { in_hand = put_who m.in_hand (who s) None })
    ends_next next = record { shapes = shapes; holds = gone_on_keeps (record m { in_hand = put_who m.in_hand (who s) None }) shapes (plain_ends m shapes inv s held (ap (λ d. is_plain d s.snapshot) is)) s.call.actor gone (asked s.op) next }

    -- what it asks for
    pub asks_of : AsksOf s.kept.weak kind (asked s.op)
    asks_of = by_kind s.kept.all s.kept.weak (asked s.op) kind at_active.kind

  -- no marks of it stand, or its checkpoint is gone: it is refused by a look, and all else is as it was
  unmarked_goes : (kind : ActiveKind) (made : Option MarksMade) → driver_of s ≡ drivers.Active (record { call = call; ckpt = k; kind = kind; marks = made }) → ((e : Entry) → entry_of k m.cluster.entries ≡ Some e → is_marked_by s.call (shapes k).marks ≡ false)
      → (error : AisError) (cause : Cause) (t : Told) → LookRefused m s (asked s.op) error cause → IsDone m s (End (Refused error cause)) t → Goes m s (driver_of s) t
  unmarked_goes kind made is unmarked error cause t look done = look_ends m shapes inv s held error cause t look (ap making_in is) (unmarked_ends m shapes inv s _ held is unmarked) done

  module _ (at : ActiveOf m (shapes k).marks k) where
    -- ---- a read

    module _ (is : driver_of s ≡ drivers.Active (record { call = call; ckpt = k; kind = kinds.Read; marks = None })) where
      asks_elements : asked s.op ≡ asks.Read (asks_of kinds.Read is).0 (elements_of s.op)
      asks_elements = let its = asks_of kinds.Read is in its.2 ∙ ap (asks.Read its.0) (sym (ap elements_asked its.2))

      -- the read gave this
      abbrev Gives : Result (List (List ℕ)) Refusal → Type 0
      Gives r = read (elements_of s.op) m.cluster.moment at.replica.sections ≡ r

      -- the node answers by it
      answered : (t : Told) (served : IsServed m s at.node (requests.Read k) t) (r : Result (List (List ℕ)) Refusal) → Gives r → served.answer ≡ done_or_refused (replies.Done answers.Pieces) r
      answered t served r gives = served.may ∙ ap (reply_at (requests.Read k) (payload_due m s) (record_seen m.cluster k at.node)) (active_seen m (shapes k).marks k at) ∙ ap (done_or_refused (replies.Done answers.Pieces)) gives

      -- with the details
      details : (r : Result (List (List ℕ)) Refusal) → Gives r → details_due m s (requests.Read k) at.node ≡ read_details r
      details r gives = ap (details_at (requests.Read k) (payload_due m s) (record_seen m.cluster k at.node)) (active_seen m (shapes k).marks k at) ∙ ap read_details gives

      -- the read, by what it gave
      read_by : (t : Told) → IsServed m s at.node (requests.Read k) t → (r : Result (List (List ℕ)) Refusal) → Gives r → Goes m s (driver_of s) t
      read_by t served (Ok bytes) gives = subst (Goes m s (driver_of s)) (sym (IsServed-told m s at.node (requests.Read k) t (driver kinds.Read) (replies.Done answers.Pieces) served is (answered t served (Ok bytes) gives))) (record {
        row = ((asks_of kinds.Read is).0, elements_of s.op, asks_elements, on_its_replica m (shapes k).marks k at _ (at.active, (bytes, gives, details (Ok bytes) gives, refl)));
        holds = ends kinds.Read is;
        nearer = λ none. absurd (cc none);
      })
      read_by t served (Err why) gives = subst (Goes m s (driver_of s)) (sym (IsServed-told m s at.node (requests.Read k) t (driver kinds.Read) (replies.Refused why.error why.index) served is (answered t served (Err why) gives))) (record {
        row = ((asks_of kinds.Read is).0, elements_of s.op, asks_elements, on_its_replica m (shapes k).marks k at _ (at.active, (why, gives, details (Err why) gives, ap (λ cause. Some (Refused why.error cause)) (read_cause s.kept.weak s.op why.index (asks_of kinds.Read is)))));
        holds = ends kinds.Read is;
        nearer = λ none. absurd (cc none);
      })

    -- ---- a status

    -- it tells the status
    status_told : details_due m s (requests.Status k) at.node ≡ beside.Status (status (attributes_now at.entry) m.cluster.moment at.replica.sections)
    status_told =
        ap (details_at (requests.Status k) (payload_due m s) (record_seen m.cluster k at.node)) (active_seen m (shapes k).marks k at)
        ∙ ap (λ o. details_at (requests.Status k) (payload_due m s) (record { moment = m.cluster.moment; entry = entry_seen at.node o }) (Some (seen k at.entry.attributes at.replica))) at.found

    status_goes : (is : driver_of s ≡ drivers.Active (record { call = call; ckpt = k; kind = kinds.Status; marks = None })) (t : Told) → IsServed m s at.node (requests.Status k) t → Goes m s (driver_of s) t
    status_goes is t served =
        subst (Goes m s (driver_of s)) (sym (IsServed-told m s at.node (requests.Status k) t (driver kinds.Status) (replies.Done answers.Status) served is
        (served.may ∙ ap (reply_at (requests.Status k) (payload_due m s) (record_seen m.cluster k at.node)) (active_seen m (shapes k).marks k at)))) (record {
          row = ((asks_of kinds.Status is).0, (asks_of kinds.Status is).1, on_its_replica m (shapes k).marks k at _ (record { active = at.active; answer = refl; told = status_told }));
          holds = ends kinds.Status is;
          nearer = λ none. absurd (cc none);
        })

    -- ---- an iteration is started

    module _ (choice : Choice) (is : driver_of s ≡ drivers.Active (record { call = call; ckpt = k; kind = kinds.Iterate choice; marks = None })) where
      iterate_goes : (t : Told) → (rooms_of m s).iterations ≡ true → IsServed m s at.node (requests.Iterate call k choice) t → Goes m s (driver_of s) t
      iterate_goes t has served =
          subst (Goes m s (driver_of s)) (sym (IsServed-told m s at.node (requests.Iterate call k choice) t (driver (kinds.Iterate choice)) (replies.Done answers.Nothing) served is
          (served.may ∙ ap (reply_at (requests.Iterate call k choice) (payload_due m s) (record_seen m.cluster k at.node)) (active_seen m (shapes k).marks k at)))) (record {
            row = (
              (let its = asks_of (kinds.Iterate choice) is in (its.0, its.1, its.2, its.3, its.4, on_its_replica m (shapes k).marks k at (IterOk m s at.node _) (record { active = at.active; room = has; answer = refl }))),
              ap (details_at (requests.Iterate call k choice) (payload_due m s) (record_seen m.cluster k at.node)) (active_seen m (shapes k).marks k at),
            );
            holds = ends_started (kinds.Iterate choice) is s.kept.room (λ choice. chosen_at choice m.cluster.moment (seen_at m k at.node));
            nearer = λ none. absurd (cc none);
          })

      -- or its client has as many as it may have
      iterate_full : (t : Told) → (rooms_of m s).iterations ≡ false → IsDone m s (End (Refused NoResources (Count 8))) t → Goes m s (driver_of s) t
      iterate_full t full done = look_goes m shapes inv s held (ap (λ d. is_plain d s.snapshot) is) NoResources (Count 8) t
          (subst (λ (a : Ask). LookRefused m s a NoResources (Count 8)) (sym (asks_of (kinds.Iterate choice) is).4) (
            IsSomeAnd-from s.kept.ckpt _ k (at_active (kinds.Iterate choice) is).kept (IsSomeAnd-from (entry_of k m.cluster.entries) _ at.entry at.found (ap is_some at.active)),
            full,
            refl,
          )) done

      iterate_by : (room : Bool) (t : Told) → (rooms_of m s).iterations ≡ room → IsDone m s (cond (not room) (End (Refused NoResources (Count 8))) (Serve at.node (requests.Iterate call k choice))) t → Goes m s (driver_of s) t
      iterate_by true t has done = iterate_goes t has done
      iterate_by false t full done = iterate_full t full done

    -- ---- an iteration goes on

    module _ (is : driver_of s ≡ drivers.Active (record { call = call; ckpt = k; kind = kinds.Next; marks = None })) where
      -- the replica gives this
      abbrev GivesNext : Option NextGiven → Type 0
      GivesNext next = given (ids_asked m s) m.cluster.moment at.replica.sections ≡ next

      -- the node answers by it
      next_answered : (t : Told) (served : IsServed m s at.node (requests.Next call k) t) (next : Option NextGiven) → GivesNext next → served.answer ≡ next_reply next
      next_answered t served next gives = served.may ∙ ap (reply_at (requests.Next call k) (payload_due m s) (record_seen m.cluster k at.node)) (active_seen m (shapes k).marks k at) ∙ ap next_reply gives

      -- with the identifier
      next_told : (next : Option NextGiven) → GivesNext next → details_due m s (requests.Next call k) at.node ≡ next_details next
      next_told next gives = ap (details_at (requests.Next call k) (payload_due m s) (record_seen m.cluster k at.node)) (active_seen m (shapes k).marks k at) ∙ ap next_details gives

      next_by : (t : Told) → IsServed m s at.node (requests.Next call k) t → (next : Option NextGiven) → GivesNext next → Goes m s (driver_of s) t
      next_by t served (Some next) gives = subst (Goes m s (driver_of s)) (sym (IsServed-told m s at.node (requests.Next call k) t (driver kinds.Next) (next_reply (Some next)) served is (next_answered t served (Some next) gives))) (record {
        row = (
          (asks_of kinds.Next is).0,
          (asks_of kinds.Next is).1,
          on_its_replica m (shapes k).marks k at _ (record {
            active = at.active;
            answer = subst (λ (g : Option NextGiven). NextAnswer g words.Ok (Some (Done answers.Section)) (details_due m s (requests.Next call k) at.node)) (sym gives) (refl, next_told (Some next) gives);
          }),
        );
        holds = ends_next kinds.Next is (given_at (ids_asked m s) m.cluster.moment (seen_at m k at.node));
        nearer = λ none. absurd (cc none);
      })
      next_by t served None gives = subst (Goes m s (driver_of s)) (sym (IsServed-told m s at.node (requests.Next call k) t (driver kinds.Next) (next_reply None) served is (next_answered t served None gives))) (record {
        row = (
          (asks_of kinds.Next is).0,
          (asks_of kinds.Next is).1,
          on_its_replica m (shapes k).marks k at _ (record {
            active = at.active;
            answer = subst (λ (g : Option NextGiven). NextAnswer g words.Refused (Some (Refused NoSections (refused_cause s.op 0))) (details_due m s (requests.Next call k) at.node)) (sym gives) (ap (λ cause. Some (Refused NoSections cause)) (next_cause s.kept.weak s.op 0 (asks_of kinds.Next is)), next_told None gives);
          }),
        );
        holds = ends kinds.Next is;
        nearer = λ none. absurd (cc none);
      })

    -- ---- any kind, where its checkpoint is

    fit_of : (kind : ActiveKind) (made : Option MarksMade) → driver_of s ≡ drivers.Active (record { call = call; ckpt = k; kind = kind; marks = made }) → MarksFit kind made
    fit_of kind made is = (at_made kind made is).fit

    -- an update meets a hold: no marks stand then
    on_hold_goes : (kind : ActiveKind) (made : Option MarksMade) → driver_of s ≡ drivers.Active (record { call = call; ckpt = k; kind = kind; marks = made }) → is_update kind ≡ true → (by : CallId) → at.entry.hold ≡ Some by → (t : Told) → IsDone m s (End (Refused TryAgain (Holder by))) t → Goes m s (driver_of s) t
    on_hold_goes kind made is updates by holds t done =
        let own = at_made kind made is in
        unmarked_goes kind made is (λ e found. ap (is_marked_by s.call) (its_hold m shapes inv k at.entry at.found at.made by holds).unmarked) TryAgain (Holder by) t
        (LookRefused-update m s kind (asked s.op) TryAgain (Holder by) updates own.kind (held_by m shapes inv k at.entry at.found at.made by holds s held (holder_other m shapes inv s _ held is k at.entry.active by) own.kept (λ e. IsSome e.active) (ap is_some at.active))) done

    by_hold : (kind : ActiveKind) (made : Option MarksMade) → driver_of s ≡ drivers.Active (record { call = call; ckpt = k; kind = kind; marks = made }) → is_update kind ≡ true → (next : Next) (t : Told) → (at.entry.hold ≡ None → IsDone m s next t → Goes m s (driver_of s) t)
        → (hold : Option CallId) → at.entry.hold ≡ hold → IsDone m s (unless_on_hold kind hold next) t → Goes m s (driver_of s) t
    by_hold kind made is updates next t goes None free done = goes free done
    by_hold kind made is updates next t goes (Some by) holds done = on_hold_goes kind made is updates by holds t (subst (λ b. IsDone m s (cond b (End (Refused TryAgain (Holder by))) next) t) updates done)

    -- the generation is another than that in which it made its marks: they are gone
    changed_goes : (n : ℕ) (w : MarksMade) → driver_of s ≡ drivers.Active (record { call = call; ckpt = k; kind = kinds.Weak n; marks = Some w }) → at.entry.hold ≡ None → (w.generation == at.entry.generation) ≡ false → (t : Told) → IsDone m s (End (Refused TryAgain (Generations w.generation at.entry.generation))) t → Goes m s (driver_of s) t
    changed_goes n w is free other t done =
        let own = at_made (kinds.Weak n) (Some w) is in
        unmarked_goes (kinds.Weak n) (Some w) is (λ e found. own.marks at.entry at.found ∙ other) TryAgain (Generations w.generation at.entry.generation) t
        (LookRefused-update m s (kinds.Weak n) (asked s.op) TryAgain (Generations w.generation at.entry.generation) refl own.kind (
          subst (λ o. OnLed m o (λ e. (e.hold ≡ None) × (e.generation ≡ at.entry.generation))) (sym own.kept) (IsSomeAnd-from (entry_of k m.cluster.entries) (λ e. IsSome e.active × ((e.hold ≡ None) × (e.generation ≡ at.entry.generation))) at.entry at.found (ap is_some at.active, (free, refl))),
          own.made_by,
          other,
        )) done

    -- what is no update goes on beside a hold
    not_held : (kind : ActiveKind) (hold : Option CallId) (next : Next) → is_update kind ≡ false → unless_on_hold kind hold next ≡ next
    not_held kind None next no_update = refl
    not_held kind (Some by) next no_update = ap (λ b. cond b (End (Refused TryAgain (Holder by))) next) no_update

    there_goes : (kind : ActiveKind) (made : Option MarksMade) → driver_of s ≡ drivers.Active (record { call = call; ckpt = k; kind = kind; marks = made }) → (rooms : Rooms) (t : Told) → rooms_of m s ≡ rooms
        → IsDone m s (cond (starts_iteration kind && not rooms.iterations) (End (Refused NoResources (Count 8))) (unless_on_hold kind at.entry.hold (unless_changed made at.entry.generation (Serve at.node (request_by call k kind made))))) t → Goes m s (driver_of s) t
    there_goes kinds.Read None is rooms t has done = read_by is t (subst (λ next. IsDone m s next t) (not_held kinds.Read at.entry.hold _ refl) done) (read (elements_of s.op) m.cluster.moment at.replica.sections) refl
    there_goes kinds.Status None is rooms t has done = status_goes is t (subst (λ next. IsDone m s next t) (not_held kinds.Status at.entry.hold _ refl) done)
    there_goes (kinds.Iterate choice) None is rooms t has done = iterate_by choice is rooms.iterations t (ap (λ (r : Rooms). r.iterations) has) (subst (λ next. IsDone m s (cond (not rooms.iterations) (End (Refused NoResources (Count 8))) next) t) (not_held (kinds.Iterate choice) at.entry.hold _ refl) done)
    there_goes kinds.Next None is rooms t has done = next_by is t (subst (λ next. IsDone m s next t) (not_held kinds.Next at.entry.hold _ refl) done) (given (ids_asked m s) m.cluster.moment at.replica.sections) refl
    there_goes kinds.Apply None is rooms t has done = by_hold kinds.Apply None is refl _ t (λ free done. apply_goes m shapes inv s call k held at free is t done) at.entry.hold refl done
    there_goes (kinds.Weak n) None is rooms t has done = by_hold (kinds.Weak n) None is refl _ t (λ free done. mark_goes m shapes inv s call k n None held at free is refl t done) at.entry.hold refl done
    there_goes (kinds.Weak n) (Some w) is rooms t has done =
        by_hold (kinds.Weak n) (Some w) is refl _ t (λ free done. by_generation free (w.generation == at.entry.generation) refl done) at.entry.hold refl done
      where
        by_generation : at.entry.hold ≡ None → (b : Bool) → (w.generation == at.entry.generation) ≡ b → IsDone m s (cond b (Serve at.node (request_by call k (kinds.Weak n) (Some w))) (End (Refused TryAgain (Generations w.generation at.entry.generation)))) t → Goes m s (driver_of s) t
        by_generation free true same done = marked_goes m shapes inv s call k n (Some w) held at free is w refl same t done
        by_generation free false other done = changed_goes n w is free other t done
    there_goes kind (Some w) is rooms t has done = absurd (fit_of kind (Some w) is)

  no_active : (ckpt : Option ℕ) → ckpt ≡ Some k → HasNoActive (entry_of k m.cluster.entries) → NoActiveLook m ckpt NotExist Plain
  no_active ckpt kept none = subst (λ o. NoActiveLook m o NotExist Plain) (sym kept) none

  -- its checkpoint is gone
  gone_goes : (kind : ActiveKind) (made : Option MarksMade) → driver_of s ≡ drivers.Active (record { call = call; ckpt = k; kind = kind; marks = made }) → entry_of k m.cluster.entries ≡ None → (t : Told) → IsDone m s (End (Refused NotExist Plain)) t → Goes m s (driver_of s) t
  gone_goes kind made is gone t done =
      let at = at_made kind made is in
      unmarked_goes kind made is (λ e found. absurd (let w : None ≡ Some e = sym gone ∙ found in cc w)) NotExist Plain t (LookRefused-active m s kind (asked s.op) at.kind (no_active s.kept.ckpt at.kept (subst (λ o. HasNoActive o) (sym gone) tt))) done

  -- it has no active, so no marks stand
  unled_goes : (kind : ActiveKind) (made : Option MarksMade) → driver_of s ≡ drivers.Active (record { call = call; ckpt = k; kind = kind; marks = made }) → (e : Entry) → entry_of k m.cluster.entries ≡ Some e → e.active ≡ None → (t : Told) → IsDone m s (End (Refused NotExist Plain)) t → Goes m s (driver_of s) t
  unled_goes kind made is e found none t done =
      let at = at_made kind made is in
      let made_is : e.making ≡ None = subst (λ o. IfSome o (λ (e : Entry). e.making ≡ None)) found at.made.made in
      let spread : IsSpread m k (shapes k) e = subst (IsGoodIn m k (shapes k) e) made_is (inv.entries k e found) in
      unmarked_goes kind made is (λ f there. by_marks (shapes k).marks refl spread) NotExist Plain t (LookRefused-active m s kind (asked s.op) at.kind (no_active s.kept.ckpt at.kept (subst (λ o. HasNoActive o) (sym found) none))) done
    where
      by_marks : (o : Option Marked) → (shapes k).marks ≡ o → IsSpread m k (shapes k) e → is_marked_by s.call o ≡ false
      by_marks None stand spread = refl
      by_marks (Some marks) stand spread = absurd (let w : false ≡ true = sym (ap is_some none) ∙ spread.led marks stand in cc w)

  -- the next step of a call to the active
  pub active_goes : (kind : ActiveKind) (made : Option MarksMade) → driver_of s ≡ drivers.Active (record { call = call; ckpt = k; kind = kind; marks = made }) → (rooms : Rooms) (t : Told) → rooms_of m s ≡ rooms
      → IsDone m s (driver_next m.cluster rooms (drivers.Active (record { call = call; ckpt = k; kind = kind; marks = made }))) t → Goes m s (driver_of s) t
  active_goes kind made is rooms t has done = by_entry (entry_of k m.cluster.entries) refl
    where
      by_entry : (o : Option Entry) → entry_of k m.cluster.entries ≡ o → Goes m s (driver_of s) t
      by_entry None gone = gone_goes kind made is gone t (subst (λ next. IsDone m s next t) (ap (active_on rooms.iterations (record { call = call; ckpt = k; kind = kind; marks = made })) gone) done)
      by_entry (Some e) found = elim (active_of m shapes k e inv (at_made kind made is).made found) [
        | inl none ↦ unled_goes kind made is e found none t (subst (λ next. IsDone m s next t) (ap (active_on rooms.iterations (record { call = call; ckpt = k; kind = kind; marks = made })) found ∙ ap (on_active rooms.iterations (record { call = call; ckpt = k; kind = kind; marks = made }) e.generation e.hold) none) done)
        | inr at ↦ there_goes at kind made is rooms t has (subst (λ next. IsDone m s next t) (active_next-there m (shapes k).marks k at call kind made rooms) done)
      ]
