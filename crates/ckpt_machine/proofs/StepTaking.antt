-- How a call takes what the record answers to its step is what the machine says of it, over one record alone.
use Rattle.std.proofs.Common.{◌≡◌, ℕ, List, [], ◌∷◌, ◌++◌, filter, Bool, true, false, cond, not, ◌==◌, nat_eq, ℤ, refl, sym, ap, subst, ◌∙◌, arith}
use Rattle.std.specs.Prelude.{Option, Some, None, IsSomeAnd, IfSome, IsTrue, slice_index, slice_set}
use Rattle.std.specs.Cmp.Lexicographic.{pointwise, bytes_decides}
use Rattle.std.specs.Option.{option_map}
use Rattle.std.proofs.lemmas.Bool.{eq-eqb, ne_eqb}
use Rattle.std.proofs.lemmas.Option.{same_Some}
use Rattle.ckpt_types.specs.declared.ais_error.AisError.TheVariants.{TryAgain, Exist}
use Rattle.ckpt_types.specs.declared.answers.Answer.TheVariants as answers
use Rattle.ckpt_types.specs.declared.answers.Cause.TheVariants as causes
use Rattle.ckpt_types.specs.declared.answers.Outcome.{Outcome}
use Rattle.ckpt_types.specs.declared.answers.Outcome.TheVariants.{Done, Refused, NoMemory}
use Rattle.ckpt_types.specs.declared.attributes.CreationAttributes.{CreationAttributes}
use Rattle.ckpt_types.specs.declared.identities.CallId.{CallId}
use Rattle.ckpt_types.specs.Asks.{asked}
use Rattle.node_msgs.specs.declared.next.Next.{Next}
use Rattle.node_msgs.specs.declared.next.Next.TheVariants.{Event, End}
use Rattle.node_msgs.specs.declared.next.RecordStep.{RecordStep}
use Rattle.node_msgs.specs.declared.next.RecordStep.TheVariants as events
use Rattle.node_msgs.specs.declared.replies.Reply.{Reply}
use Rattle.node_msgs.specs.declared.replies.Reply.TheVariants as replies
use Rattle.node_msgs.specs.declared.steps.StepReply.{StepReply}
use Rattle.node_msgs.specs.declared.steps.StepReply.TheVariants as words
use Rattle.node_msgs.specs.Steps.{event_verb}
use Rattle.cluster_record.specs.declared.calls.Making.{Making}
use Rattle.cluster_record.specs.declared.calls.PulledAt.{PulledAt}
use Rattle.cluster_record.specs.declared.calls.SyncKind.{SyncKind}
use Rattle.cluster_record.specs.declared.calls.SyncKind.TheVariants.{Synchronize, ActiveSet}
use Rattle.cluster_record.specs.declared.entries.Entry.{Entry}
use Rattle.cluster_record.specs.declared.opening.OpenAnswer.TheVariants as opening
use Rattle.cluster_record.specs.Calls.{same_call}
use Rattle.cluster_record.specs.declared.copying.CopyPhase.{CopyPhase}
use Rattle.cluster_record.specs.declared.copying.CopyPhase.TheVariants.{PulledActive, PulledStaged}
use Rattle.cluster_record.specs.DueCopy.{CopyState, copy_at, copy_next, copy_on, copy_outcome_by, copy_told_by, phase_next}
use Rattle.cluster_record.specs.DueOnce as once
use Rattle.cluster_record.specs.DueOpen.{OpenState, accepts, by_making, made_of, on_making, open_next, reserve_or_finish, targets_of}
use Rattle.cluster_record.specs.DueSync.{SyncState, first_unserved, install_next, kind_next, sync_next, sync_on, synchronize_next, unless_stale}
use Rattle.cluster_record.specs.Ends.{hold_in, is_own, made_in, making_next, making_outcome_by, making_told_by, open_outcome_by, opened_in, refused_end, set_unless_held, setting_end, sync_outcome_by, sync_told_by}
use Rattle.cluster_record.specs.Identities.{IdentitiesRise}
use Rattle.cluster_record.specs.LookUps.{at_ckpt, identity_in}
use Rattle.cluster_record.specs.Opening.{answer_by, answer_named, found_by, found_in}
use Rattle.cluster_record.specs.Joining.{completed_on}
use Rattle.cluster_record.specs.Placement.{adds, is_all}
use Rattle.cluster_record.specs.Places.{change_key}
use Rattle.cluster_record.specs.RecordState.{RecordState, can_be_held, can_lead, created_as, entry_of, home_of, identity_of, is_live, is_name, joined, named, new_entry, opened, opened_with, stays, swept, with_active, with_hold, generation_under}
use Rattle.cluster_record.specs.Refusals.{plainly}
use Rattle.cluster_record.specs.StepDone.{counting, done_of, first_lacking}
use Rattle.cluster_record.proofs.IdentityLaws.{KeepsIdentity, AllAbove-entry_of, entry_of-find}
use Rattle.cluster_record.proofs.CopyLaws.{Completes, IsCompletion, event-completes}
use Rattle.cluster_record.proofs.JoinLaws.{generation_by_active, rest_stays}
use Rattle.cluster_record.proofs.JoinLaws
use Rattle.cluster_record.proofs.NameLaws.{KeepsName}
use Rattle.ckpt_machine.specs.Drivers.{Driver, Rooms}
use Rattle.ckpt_machine.specs.Drivers as drivers
use Rattle.ckpt_machine.specs.Driving.{driver_next, driver_taken, event_ckpt, event_node, step_end, event_refusal, opened_end, refusal_in, takes_memory}
use Rattle.ckpt_machine.specs.Entries.{AllStay}
use Rattle.ckpt_machine.specs.Facts.{FitsOpen, HasLiveMaker, IsCompletable, IsEventReady, IsFinishable}
use Rattle.ckpt_machine.specs.After.{staged_moment}
use Rattle.ckpt_machine.specs.Due.{Told, counted_at, driver_of, event_done}
use Rattle.ckpt_machine.specs.Machine.{Machine, CallState}
use Rattle.ckpt_machine.proofs.Actors.{same_call-refl}
use Rattle.ckpt_machine.proofs.AskedFor.{DrivesFor}
use Rattle.ckpt_machine.proofs.Deadlines.{in_time-either}
use Rattle.ckpt_machine.proofs.EntryLists.{AllStay-change_key, AllStay-push, filter-stays, find_key-change_key, stays-referred}
use Rattle.ckpt_machine.proofs.Joining.{opened_with-identity}
use Rattle.ckpt_machine.proofs.OptionLemmas.{IsSomeAnd-at}
use Rattle.ckpt_machine.proofs.HeldIdentity.{with_active-identity, with_hold-identity}
use Rattle.ckpt_machine.specs.RecordAfter.{event_after}
use Rattle.ckpt_machine.specs.Granting.{event_granted, refusal_word}
use Rattle.ckpt_machine.specs.RecordReady.{IsGrantedAt, IsRefusedAs, IsRefusedWith}
use Rattle.ckpt_machine.specs.Taking.{driver_outcome, driver_told}
use Rattle.ckpt_machine.proofs.Readiness.{made_as}

-- ---- the entries behind a step

-- a name that no entry has is that of the one which comes with it
named_push : (name : List ℕ) (es : List Entry) (new : Entry) → named name es ≡ None → is_name name new.name ≡ true → named name (es ++ new ∷ []) ≡ Some new
named_push name [] new free own = ap (λ b. cond b (Some new) None) own
named_push name (x ∷ xs) new free own =
    elim (is_name name x.name) as (λ b. cond b (Some x) (named name xs) ≡ None → cond b (Some x) (named name (xs ++ new ∷ [])) ≡ Some new) [
      | true ↦ λ taken. absurd (cc taken)
      | false ↦ λ free. named_push name xs new free own
    ] free

own_name : (name : List ℕ) → pointwise nat_eq name name ≡ true
own_name name = (bytes_decides name name).1 refl

-- one that is changed keeps its name
named_change_key : (name : List ℕ) (k : ℕ) (f : Entry → Entry) → KeepsName f → (es : List Entry) (e : Entry) → IdentitiesRise es → named name es ≡ Some e → e.identity ≡ k → named name (change_key identity_of k f es) ≡ Some (f e)
named_change_key name k f keeps [] e rises was is = absurd (cc was)
named_change_key name k f keeps (x ∷ xs) e rises was is =
    elim (is_name name x.name) as (λ b. is_name name x.name ≡ b → cond b (Some x) (named name xs) ≡ Some e → named name (change_key identity_of k f (x ∷ xs)) ≡ Some (f e)) [
      | true ↦ λ own here.
          let at : x ≡ e = same_Some x e here in
          ap (λ b. named name (cond b (f x ∷ xs) (x ∷ change_key identity_of k f xs))) (eq-eqb x.identity k (ap (λ (y : Entry). y.identity) at ∙ is))
          ∙ ap (λ b. cond b (Some (f x)) (named name xs)) (ap (is_name name) (keeps x) ∙ own)
          ∙ ap (λ y. Some (f y)) at
      | false ↦ λ other there.
          let beyond = AllAbove-entry_of x.identity e.identity xs e rises.0 (entry_of-find _ xs e rises.1 there) in
          ap (λ b. named name (cond b (f x ∷ xs) (x ∷ change_key identity_of k f xs))) (ne_eqb x.identity k (λ same. omega (arith, same, beyond, is)))
          ∙ ap (λ b. cond b (Some x) (named name (change_key identity_of k f xs))) other
          ∙ named_change_key name k f keeps xs e rises.1 there is
    ] refl was

-- one entry is changed, and no sweep takes it
module _ (R : RecordState) (k : ℕ) (f : Entry → Entry) (same : KeepsIdentity f) (still : (x : Entry) → stays R.moment x ≡ true → stays R.moment (f x) ≡ true) (e : Entry) (there : entry_of k R.entries ≡ Some e) (rises : IdentitiesRise R.entries) (stay : AllStay R.moment R.entries) where
  abbrev then_entries : List Entry
  then_entries = change_key identity_of k f R.entries

  all_stay : filter (stays R.moment) then_entries ≡ then_entries
  all_stay = filter-stays R.moment then_entries (AllStay-change_key R.moment f k R.entries stay (λ x found was. still x was))

  entry_then : entry_of k then_entries ≡ Some (f e)
  entry_then = find_key-change_key identity_of k k f same R.entries e there ∙ ap (λ b. cond b (Some (f e)) (entry_of k R.entries)) (eq-eqb k k refl)

  entry_changed : entry_of k (filter (stays R.moment) then_entries) ≡ Some (f e)
  entry_changed = ap (entry_of k) all_stay ∙ entry_then

  -- it is found by its name as before
  named_changed : (name : List ℕ) → KeepsName f → named name R.entries ≡ Some e → e.identity ≡ k → named name (filter (stays R.moment) then_entries) ≡ Some (f e)
  named_changed name keeps was is = ap (named name) all_stay ∙ named_change_key name k f keeps R.entries e rises was is

-- a checkpoint that is opened changes in its nodes and its references alone
joined_keeps : {X : Type 0} (f : Entry → X) (opener : ℕ) (up : List ℕ) (e : Entry) → ((nodes : List ℕ) → f (record e { complete = nodes }) ≡ f e) → f (joined opener up e) ≡ f e
joined_keeps f opener up e same = elim (adds e.attributes opener e.complete) as (λ b. f (cond b (record e { complete = slice_set e.complete opener (slice_index up opener) }) e) ≡ f e) [ true ↦ same (slice_set e.complete opener (slice_index up opener)) | false ↦ refl ]

opened_stays : (t : ℤ) (opener : ℕ) (up : List ℕ) (c : ℕ) (e : Entry) → stays t e ≡ true → stays t (opened_with opener up c e) ≡ true
opened_stays t opener up c e stay = stays-referred t c (joined opener up e) (joined_keeps (stays t) opener up e (λ nodes. refl) ∙ stay)

hold_stays : (t : ℤ) (call : CallId) (e : Entry) → stays t e ≡ true → stays t (with_hold call e) ≡ true
hold_stays t call e stay = elim (can_be_held e) as (λ b. stays t (cond b (record e { hold = Some call }) e) ≡ true) [ true ↦ stay | false ↦ stay ]

active_stays : (t : ℤ) (r : ℕ) (e : Entry) → stays t e ≡ true → stays t (with_active r e) ≡ true
active_stays t r e stay = elim (can_lead r e) as (λ b. stays t (cond b (record e { active = Some r; generation = generation_under r e; hold = None }) e) ≡ true) [ true ↦ stay | false ↦ stay ]

-- ---- which steps of the record a call comes to

-- of the steps of the record, those that end a making
abbrev EndsMaking : Next → Type 0
EndsMaking (Event events.Finish) = Unit {0}
EndsMaking (Event events.Undo) = Unit {0}
EndsMaking (Event step) = ⊥
EndsMaking next = Unit {0}

making_ends : (R : RecordState) (o : OpenState) (w : Making) → EndsMaking (making_next R o w)
making_ends R o w = in_time-either EndsMaking o.deadline R.moment (on_making R o.ask w) (λ outcome. tt) (by_refused w.refused (first_lacking 0 (targets_of o.ask R) w.reserved)) where
  by_refused : (b : Bool) (first : Option ℕ) → EndsMaking (cond b (Event events.Undo) (reserve_or_finish w.ckpt first))
  by_refused true first = tt
  by_refused false (Some r) = tt
  by_refused false None = tt

-- an open that comes to another one is making nothing
makes_nothing : (R : RecordState) (room : Bool) (o : OpenState) (step : RecordStep) → (EndsMaking (Event step) → ⊥) → open_next R room o ≡ Event step → o.making ≡ None
makes_nothing R room o step other next = by_what o.making refl next where
  by_what : (w : Option Making) → o.making ≡ w → by_making R room o w ≡ Event step → o.making ≡ None
  by_what None none next = none
  by_what (Some w) some next = absurd (other (subst EndsMaking next (making_ends R o w)))

abbrev IsNoEvent : Next → Type 0
IsNoEvent (Event step) = ⊥
IsNoEvent next = Unit {0}

-- a synchronisation comes to none
synchronize_none : (R : RecordState) (s : SyncState) (deadline : Option ℤ) (e : Entry) (active : Option ℕ) → IsNoEvent (synchronize_next R s deadline e active)
synchronize_none R s deadline e None = tt
synchronize_none R s deadline e (Some r) = in_time-either IsNoEvent deadline R.moment (unless_stale s e r s.pulled) (λ o. tt) (by_pulled s.pulled) where
  by_first : (count : ℕ) (first : Option ℕ) → IsNoEvent (install_next s.call s.ckpt count first)
  by_first count None = tt
  by_first count (Some q) = tt

  by_generation : (b : Bool) (count : ℕ) (late : Outcome) → IsNoEvent (cond b (install_next s.call s.ckpt count (first_unserved 0 e.complete s.served)) (End late))
  by_generation true count late = by_first count (first_unserved 0 e.complete s.served)
  by_generation false count late = tt

  by_pulled : (p : Option PulledAt) → IsNoEvent (unless_stale s e r p)
  by_pulled None = tt
  by_pulled (Some p) = by_generation (p.generation == e.generation) p.count _

-- so one that comes to one sets an active
sets_active : (R : RecordState) (s : SyncState) (step : RecordStep) → sync_next R s ≡ Event step → (local : ℕ) × (s.kind ≡ ActiveSet local)
sets_active R s step next = by_entry (entry_of s.ckpt R.entries) next where
  by_kind : (e : Entry) (kind : SyncKind) → s.kind ≡ kind → kind_next R s e kind ≡ Event step → (local : ℕ) × (s.kind ≡ ActiveSet local)
  by_kind e (Synchronize deadline) is next = absurd (subst IsNoEvent next (synchronize_none R s deadline e e.active))
  by_kind e (ActiveSet local) is next = (local, is)

  by_entry : (o : Option Entry) → sync_on R s o ≡ Event step → (local : ℕ) × (s.kind ≡ ActiveSet local)
  by_entry None next = absurd (cc next)
  by_entry (Some e) next = by_kind e s.kind refl next

-- ---- a step that is done

-- what the record has done of its step, once it is as N
abbrev pub is_done : Reply
is_done = replies.Done answers.Nothing

-- whichever step is next of the setting of an active
set_by : (N : RecordState) (u : SyncState) (local r : ℕ) (b : Bool) → let next : Next = cond b (Event (events.Activate local)) (Event (events.Hold r)) in (sync_outcome_by N is_done u next ≡ setting_end N is_done u) × (sync_told_by N is_done u next ≡ u)
set_by N u local r true = (refl, refl)
set_by N u local r false = (refl, refl)

pub record TakesDone (R : RecordState) (x : Driver) (step : RecordStep) (N : RecordState) : Type 0 where
  pub outcome : driver_outcome N is_done x ≡ step_end N (driver_taken (done_of R (event_verb step) (event_ckpt R x step) (event_node x step) words.Ok) x) step (event_ckpt R x step)
  pub told : driver_told N is_done x ≡ driver_taken (done_of N (event_verb step) (event_ckpt R x step) (event_node x step) words.Ok) x

module _ (R : RecordState) (call : CallId) (rises : IdentitiesRise R.entries) (stay : AllStay R.moment R.entries) where
  -- an open that is making nothing
  module _ (base : OpenState) (call_is : base.call ≡ call) where
    abbrev o : OpenState
    o = record base { making = None }

    create_done : (a : CreationAttributes) → o.ask.attrs ≡ Some a → named o.ask.name R.entries ≡ None → TakesDone R (drivers.Open o) events.Create (event_after call (drivers.Open o) events.Create R)
    create_done a given free =
        let N = event_after call (drivers.Open o) events.Create R in
        let new : Entry = new_entry call o.ask.name a R in
        let own : same_call call o.call ≡ true = ap (same_call call) call_is ∙ same_call-refl call in
        let there : named o.ask.name N.entries ≡ Some new
        = ap (λ b. named o.ask.name (swept (created_as call o.ask.name b R)).entries) given
        ∙ ap (named o.ask.name) (filter-stays R.moment (R.entries ++ new ∷ []) (AllStay-push R.moment R.entries new stay refl))
        ∙ named_push o.ask.name R.entries new free (own_name o.ask.name) in
        record {
          outcome = ap (opened_in o.call) there ∙ ap (λ b. cond b None (Some (Done (answers.Opened new.identity)))) own;
          told = (λ i. drivers.Open (record o { making = made_in o.call (there i) })) ∙ (λ i. drivers.Open (record o { making = cond (own i) (made_of (Some new.identity)) None }));
        }

    open_done : (e : Entry) → named o.ask.name R.entries ≡ Some e → entry_of e.identity R.entries ≡ Some e → e.making ≡ None → TakesDone R (drivers.Open o) events.Open (event_after call (drivers.Open o) events.Open R)
    open_done e found there made =
        let N = event_after call (drivers.Open o) events.Open R in
        let home = home_of o.ask.client R in
        let f : Entry → Entry = opened_with home R.up o.ask.client in
        let after : named o.ask.name N.entries ≡ Some (f e)
        = ap (λ z. named o.ask.name (swept (at_ckpt (identity_in z) R (λ k. opened k o.ask.client R))).entries) found
        ∙ named_changed R e.identity f (opened_with-identity home R.up o.ask.client) (opened_stays R.moment home R.up o.ask.client) e there rises stay o.ask.name (λ x. joined_keeps (λ (y : Entry). y.name) home R.up x (λ nodes. refl)) found refl in
        let made_then : (f e).making ≡ None = joined_keeps (λ (y : Entry). y.making) home R.up e (λ nodes. refl) ∙ made in
        record {
          outcome = ap (opened_in o.call) after ∙ ap (λ w. cond (is_own o.call w) None (Some (Done (answers.Opened (f e).identity)))) made_then
              ∙ ap (λ k. Some (Done (answers.Opened k))) (opened_with-identity home R.up o.ask.client e) ∙ sym (ap (λ z. opened_end (identity_in z)) found);
          told = (λ i. drivers.Open (record o { making = made_in o.call (after i) })) ∙ (λ i. drivers.Open (record o { making = cond (is_own o.call (made_then i)) (made_of (Some (f e).identity)) None }));
        }

  module _ (u : SyncState) (local : ℕ) (kind : u.kind ≡ ActiveSet local) (e : Entry) (there : entry_of u.ckpt R.entries ≡ Some e) where
    hold_done : (r : ℕ) → u.call ≡ call → can_be_held e ≡ true → TakesDone R (drivers.Sync u) (events.Hold r) (event_after call (drivers.Sync u) (events.Hold r) R)
    hold_done r call_is can =
        let N = event_after call (drivers.Sync u) (events.Hold r) R in
        let f : Entry = record e { hold = Some call } in
        let own : same_call call u.call ≡ true = ap (same_call call) call_is ∙ same_call-refl call in
        let after : entry_of u.ckpt N.entries ≡ Some f = entry_changed R u.ckpt (with_hold call) (with_hold-identity call) (λ x. hold_stays R.moment call x) e there rises stay ∙ ap (λ b. Some (cond b f e)) can in
        let next : sync_next N u ≡ Event (events.Activate local) = ap (sync_on N u) after ∙ ap (kind_next N u f) kind ∙ ap (λ b. cond b (Event (events.Activate local)) (End (Refused TryAgain (causes.Holder call)))) own in
        record {
          outcome = ap (sync_outcome_by N is_done u) next ∙ ap (λ z. set_unless_held u.call (hold_in z)) after ∙ ap (λ b. cond b None (Some (Done answers.Nothing))) own;
          told = ap (λ n. drivers.Sync (sync_told_by N is_done u n)) next;
        }

    activate_done : (r : ℕ) → can_lead r e ≡ true → TakesDone R (drivers.Sync u) (events.Activate r) (event_after call (drivers.Sync u) (events.Activate r) R)
    activate_done r can =
        let N = event_after call (drivers.Sync u) (events.Activate r) R in
        let f : Entry = record e { active = Some r; generation = generation_under r e; hold = None } in
        let after : entry_of u.ckpt N.entries ≡ Some f = entry_changed R u.ckpt (with_active r) (with_active-identity r) (λ x. active_stays R.moment r x) e there rises stay ∙ ap (λ b. Some (cond b f e)) can in
        let next : sync_next N u ≡ cond (r == local) (Event (events.Activate local)) (Event (events.Hold r)) = ap (sync_on N u) after ∙ ap (kind_next N u f) kind in
        record {
          outcome = ap (sync_outcome_by N is_done u) next ∙ (set_by N u local r (r == local)).0 ∙ ap (λ z. set_unless_held u.call (hold_in z)) after;
          told = ap (λ n. drivers.Sync (sync_told_by N is_done u n)) next ∙ ap drivers.Sync (set_by N u local r (r == local)).1;
        }

  -- a completion, whose checkpoint stays in its generation unless updates are on all replicas
  module _ (c : CopyState) (r : ℕ) (moment : Option ℤ) where
    -- a node is complete for an entry with the incarnation with which it is up
    abbrev f : Entry → Entry
    f = completed_on r (slice_index R.up r)

    completed_stays : (x : Entry) → stays R.moment x ≡ true → stays R.moment (f x) ≡ true
    completed_stays x was = ap (stays R.moment) (rest_stays r (slice_index R.up r) x) ∙ was

    -- the same completion is next by the record behind it
    next_then : (k : ℕ) (e : Entry) (phase : CopyPhase) (N : RecordState) → IsCompletion c k e phase (events.Complete k r moment) → (moment ≡ None → (f e).generation ≡ e.generation) → phase_next N c k (f e) phase ≡ Event (events.Complete k r moment)
    next_then k e PulledStaged N is same = ap Event (sym is)
    next_then k e (PulledActive generation) N is same =
        let none : moment ≡ None = moment_in is.1 in
        ap (λ b. cond b (Event (events.Complete k c.node None)) (End (Refused TryAgain (causes.Generations generation (f e).generation)))) (eq-eqb generation (f e).generation (is.0 ∙ sym (same none)))
        ∙ ap Event (sym is.1)
      where
        moment_in : events.Complete k r moment ≡ events.Complete k c.node None → moment ≡ None
        moment_in same = cc same
    next_then k e phase N is same = absurd is

    complete_done_so : (k : ℕ) (e : Entry) → entry_of k R.entries ≡ Some e → copy_next R c ≡ Event (events.Complete k r moment) → (moment ≡ None → is_all e.attributes ≡ false) → TakesDone R (drivers.Copy c) (events.Complete k r moment) (event_after call (drivers.Copy c) (events.Complete k r moment) R)
    complete_done_so k e there next alone =
        let N = event_after call (drivers.Copy c) (events.Complete k r moment) R in
        let completes : Completes R c (events.Complete k r moment) = event-completes R c (events.Complete k r moment) next in
        let ckpt : completes.copying.ckpt ≡ k = ckpt_in completes.entry_there completes.copying.phase completes.is in
        let entries_same : completes.entry_there ≡ e = same_Some completes.entry_there e (sym completes.there ∙ ap (λ j. entry_of j R.entries) ckpt ∙ there) in
        let is : IsCompletion c k e completes.copying.phase (events.Complete k r moment) = subst (λ (z : ℕ × Entry). IsCompletion c z.0 z.1 completes.copying.phase (events.Complete k r moment)) (λ i. (ckpt i, entries_same i)) completes.is in
        let after : entry_of k N.entries ≡ Some (f e) = entry_changed R k f (λ x. ap (λ (y : Entry). y.identity) (rest_stays r (slice_index R.up r) x)) completed_stays e there rises stay in
        let again : copy_next N c ≡ Event (events.Complete k r moment)
        = ap (copy_at N c) completes.at
        ∙ (λ i. copy_on N c (record completes.copying { ckpt = ckpt i }) (entry_of (ckpt i) N.entries))
        ∙ ap (copy_on N c (record completes.copying { ckpt = k })) after
        ∙ next_then k e completes.copying.phase N is (λ none. (generation_by_active r (slice_index R.up r) e).0 (JoinLaws.active_stays r (slice_index R.up r) e (alone none))) in
        record {
          outcome = ap (copy_outcome_by N is_done c) again;
          told = ap (λ n. drivers.Copy (copy_told_by N is_done c n)) again;
        }
      where
        ckpt_in : {j : ℕ} (e : Entry) (phase : CopyPhase) → IsCompletion c j e phase (events.Complete k r moment) → j ≡ k
        ckpt_in e PulledStaged is = let same = is in cc same
        ckpt_in e (PulledActive generation) is = let same = is.1 in cc same
        ckpt_in e phase is = absurd is

module _ (m : Machine) (s : CallState) (rises : IdentitiesRise m.cluster.entries) (stay : AllStay m.cluster.moment m.cluster.entries) (rooms : Rooms) where
  abbrev Done_of : Driver → RecordStep → Type 0
  Done_of x step = TakesDone m.cluster x step (event_after s.call x step m.cluster)

  -- what holds of an open that is making this, holds of one by what it is making
  of_making : (o : OpenState) (step : RecordStep) (w : Option Making) → o.making ≡ w → Done_of (drivers.Open (record o { making = w })) step → Done_of (drivers.Open o) step
  of_making o step w makes done = subst (λ w. Done_of (drivers.Open (record o { making = w })) step) (sym makes) done

  opens_done : (o : OpenState) → o.call ≡ s.call → open_next m.cluster rooms.handles o ≡ Event events.Open → event_refusal m.cluster events.Open (drivers.Open o) ≡ None → IsSomeAnd (named o.ask.name m.cluster.entries) (FitsOpen m o.ask) → Done_of (drivers.Open o) events.Open
  opens_done o call_is next granted there =
      let (e, found, fits) = IsSomeAnd-at (named o.ask.name m.cluster.entries) (FitsOpen m o.ask) there in
      let made : e.making ≡ None = made_as e o.ask.attrs (home_of o.ask.client m.cluster) e.making refl (subst (λ z. refusal_in (answer_named m.cluster o.ask.attrs (home_of o.ask.client m.cluster) z) ≡ None) found granted) in
      of_making o events.Open None (makes_nothing m.cluster rooms.handles o events.Open (λ none. none) next) (open_done m.cluster s.call rises stay o call_is e found (entry_of-find _ m.cluster.entries e rises found) made)

  -- what ends a making leaves what is next of it
  finishes_done : (o : OpenState) (w : Option Making) → o.making ≡ w → by_making m.cluster rooms.handles o w ≡ Event events.Finish → IsFinishable m o.ask.client w → Done_of (drivers.Open o) events.Finish
  finishes_done o None makes next ready = absurd ready
  finishes_done o (Some w) makes next ready = of_making o events.Finish (Some w) makes (
      let N = event_after s.call (drivers.Open (record o { making = Some w })) events.Finish m.cluster in
      record { outcome = ap (making_outcome_by N is_done w) next; told = ap (λ n. drivers.Open (making_told_by N is_done (record o { making = Some w }) n)) next })

  undoes_done : (o : OpenState) (w : Option Making) → o.making ≡ w → by_making m.cluster rooms.handles o w ≡ Event events.Undo → IsSomeAnd w (λ w. Unit {0}) → Done_of (drivers.Open o) events.Undo
  undoes_done o None makes next ready = absurd ready
  undoes_done o (Some w) makes next ready = of_making o events.Undo (Some w) makes (
      let N = event_after s.call (drivers.Open (record o { making = Some w })) events.Undo m.cluster in
      record { outcome = ap (making_outcome_by N is_done w) next; told = ap (λ n. drivers.Open (making_told_by N is_done (record o { making = Some w }) n)) next })

  -- each call takes it so
  pub takes_done : (x : Driver) (step : RecordStep) → DrivesFor s.call (asked s.op) x → driver_next m.cluster rooms x ≡ Event step → event_refusal m.cluster step x ≡ None → IsEventReady m s x step → Done_of x step
  takes_done (drivers.Once (once.Enter r)) events.Enter drives next granted ready = record { outcome = refl; told = refl }
  takes_done (drivers.Once once.Leave) events.Leave drives next granted ready = record { outcome = refl; told = refl }
  takes_done (drivers.Once (once.Close k)) events.Close drives next granted ready = record { outcome = refl; told = refl }
  takes_done (drivers.Once (once.Unlink name)) events.Unlink drives next granted ready = record { outcome = refl; told = refl }
  takes_done (drivers.Once (once.Retain k duration)) events.Retain drives next granted ready = record { outcome = refl; told = refl }
  takes_done (drivers.Open o) events.Create drives next granted ready =
      let (a, given, any) = IsSomeAnd-at o.ask.attrs (λ a. Unit {0}) ready.1 in
      of_making o events.Create None (makes_nothing m.cluster rooms.handles o events.Create (λ none. none) next) (create_done m.cluster s.call rises stay o drives.call_is a given ready.2)
  takes_done (drivers.Open o) events.Open drives next granted ready = opens_done o drives.call_is next granted ready.0
  takes_done (drivers.Open o) events.Finish drives next granted ready = finishes_done o o.making refl next ready.0
  takes_done (drivers.Open o) events.Undo drives next granted ready = undoes_done o o.making refl next ready.0
  takes_done (drivers.Sync u) (events.Hold r) drives next granted ready =
      let (local, kind) = sets_active m.cluster u (events.Hold r) next in
      let (e, there, can) = IsSomeAnd-at (entry_of u.ckpt m.cluster.entries) (λ e. can_be_held e ≡ true) ready.4.can in
      hold_done m.cluster s.call rises stay u local kind e there r ready.4.call can
  takes_done (drivers.Sync u) (events.Activate r) drives next granted ready =
      let (local, kind) = sets_active m.cluster u (events.Activate r) next in
      let (e, there, can) = IsSomeAnd-at (entry_of u.ckpt m.cluster.entries) (λ e. can_lead r e ≡ true) ready.3 in
      activate_done m.cluster s.call rises stay u local kind e there r can
  takes_done (drivers.Copy c) (events.Complete k r moment) drives next granted ready =
      let (e, there, can) = IsSomeAnd-at (entry_of k m.cluster.entries) (IsCompletable m s k r moment) ready.4 in
      complete_done_so m.cluster s.call rises stay c r moment k e there next (alone_in (is_all e.attributes) (staged_moment m k) can.moment_is)
    where
      alone_in : (all : Bool) (t : ℤ) → moment ≡ cond all (Some t) None → moment ≡ None → all ≡ false
      alone_in true t is none = absurd (let some : Some t ≡ None = sym is ∙ none in cc some)
      alone_in false t is none = refl
  takes_done x step drives next granted ready = absurd ready

-- a step of the record tells no count
counts_none : (m : Machine) (step : RecordStep) (k r : Option ℕ) (reply : StepReply) → counted_at m (event_verb step) k r reply ≡ 0
counts_none m events.Enter k r reply = refl
counts_none m step k r reply = refl

-- so the label of such a step has that end
pub done_told : (m : Machine) (s : CallState) (step : RecordStep) (t : Told) → t.verb ≡ event_verb step → t.ckpt ≡ event_ckpt m.cluster (driver_of s) step → t.node ≡ event_node (driver_of s) step → t.reply ≡ words.Ok →
    (let N = event_after s.call (driver_of s) step m.cluster in TakesDone m.cluster (driver_of s) step N → driver_outcome N is_done (driver_of s) ≡ event_done m s step t)
done_told m s step t verb ckpt node reply takes =
    let N = event_after s.call (driver_of s) step m.cluster in
    let none : counted_at m t.verb t.ckpt t.node t.reply ≡ 0 = ap (λ v. counted_at m v t.ckpt t.node t.reply) verb ∙ counts_none m step t.ckpt t.node t.reply in
    takes.outcome ∙ (λ i. step_end N (driver_taken (counting (sym none i) (done_of m.cluster (sym verb i) (sym ckpt i) (sym node i) (sym reply i))) (driver_of s)) step (sym ckpt i))

-- ---- a step that is refused

-- a call ends so by the reply to its step that is refused
abbrev pub EndsRefused : RecordState → Driver → RecordStep → Reply → Type 0
EndsRefused R x step reply = (end : Outcome) × (driver_outcome R reply x ≡ Some end) × IsRefusedWith (event_refusal R step x) step (refusal_word reply) end

-- what the record does not refuse may lack memory alone
memory_alone : (step : RecordStep) (reply : Reply) → IsRefusedAs None step reply → (reply ≡ replies.NoMemory) × IsTrue (takes_memory step)
memory_alone step replies.NoMemory refused = (refl, refused)
memory_alone step reply refused = absurd refused

module _ (R : RecordState) (x : Driver) (step : RecordStep) (reply : Reply) (granted : event_refusal R step x ≡ None) (refused : IsRefusedAs (event_refusal R step x) step reply) where
  abbrev lacks : (reply ≡ replies.NoMemory) × IsTrue (takes_memory step)
  lacks = memory_alone step reply (subst (λ o. IsRefusedAs o step reply) granted refused)

  memory_ends : driver_outcome R replies.NoMemory x ≡ Some NoMemory → EndsRefused R x step reply
  memory_ends ends = (
    NoMemory,
    ap (λ q. driver_outcome R q x) lacks.0 ∙ ends,
    subst (λ (z : Option Outcome × Reply). IsRefusedWith z.0 step (refusal_word z.1) NoMemory) (λ i. (sym granted i, sym lacks.0 i)) (lacks.1, refl),
  )

-- a checkpoint that another call is making is refused to an open, and nothing else is
refusal_is : (R : RecordState) (a : Option CreationAttributes) (home : ℕ) (e : Entry) (making : Option CallId) → (making ≡ None → accepts a e ≡ true) → refusal_in (answer_by making a home e) ≡ option_map (λ by. Refused TryAgain (causes.Holder by)) making
refusal_is R a home e None takes = ap (λ b. refusal_in (cond (not b) (opening.Refused (plainly Exist)) (opening.Opened e.identity (adds e.attributes home e.complete)))) (takes refl)
refusal_is R a home e (Some by) takes = refl

module _ (m : Machine) (o : OpenState) (there : IsSomeAnd (named o.ask.name m.cluster.entries) (FitsOpen m o.ask)) where
  abbrev R : RecordState
  R = m.cluster

  -- the checkpoint of its name
  abbrev its : (e : Entry) × (named o.ask.name R.entries ≡ Some e) × FitsOpen m o.ask e
  its = IsSomeAnd-at (named o.ask.name R.entries) (FitsOpen m o.ask) there

  open_refused : event_refusal R events.Open (drivers.Open o) ≡ option_map (λ by. Refused TryAgain (causes.Holder by)) its.0.making
  open_refused = ap (λ z. refusal_in (answer_named R o.ask.attrs (home_of o.ask.client R) z)) its.1 ∙ refusal_is R o.ask.attrs (home_of o.ask.client R) its.0 its.0.making (λ made. (its.2 made).0)

  granted_open : IsGrantedAt R (drivers.Open o) events.Open (event_granted R (drivers.Open o) events.Open)
  granted_open = subst (λ z. IsGrantedAt R (drivers.Open o) events.Open (found_in z)) (sym its.1) (by_maker its.0.making refl) where
    by_maker : (w : Option CallId) → its.0.making ≡ w → IsGrantedAt R (drivers.Open o) events.Open (found_by its.0.identity w)
    by_maker None made = (open_refused ∙ ap (option_map (λ by. Refused TryAgain (causes.Holder by))) made, sym (ap identity_in its.1))
    by_maker (Some by) made_by = open_refused ∙ ap (option_map (λ by. Refused TryAgain (causes.Holder by))) made_by

  module _ (live : IsSomeAnd (named o.ask.name R.entries) (HasLiveMaker R)) (none : o.making ≡ None) where
    maker_live : HasLiveMaker R its.0
    maker_live = subst (λ z. IsSomeAnd z (HasLiveMaker R)) its.1 live

    same_maker : (by call : CallId) → Some (Refused TryAgain (causes.Holder call)) ≡ Some (Refused TryAgain (causes.Holder by)) → call ≡ by
    same_maker by call same = cc same

    held_ends : (by : CallId) → event_refusal R events.Open (drivers.Open o) ≡ Some (Refused TryAgain (causes.Holder by)) → EndsRefused R (drivers.Open o) events.Open (replies.Held by)
    held_ends by refusal = by_maker its.0.making refl maker_live where
      by_maker : (w : Option CallId) → its.0.making ≡ w → IfSome w (λ d. is_live R d ≡ true) → EndsRefused R (drivers.Open o) events.Open (replies.Held by)
      by_maker None made lives = absurd (let w : None ≡ Some (Refused TryAgain (causes.Holder by)) = sym (open_refused ∙ ap (option_map (λ by. Refused TryAgain (causes.Holder by))) made) ∙ refusal in cc w)
      by_maker (Some call) made_by lives =
          let same : call ≡ by = same_maker by call (sym (open_refused ∙ ap (option_map (λ by. Refused TryAgain (causes.Holder by))) made_by) ∙ refusal) in (
            Refused TryAgain (causes.Holder by),
            ap (open_outcome_by R (replies.Held by) o) none ∙ ap (λ b. refused_end b (replies.Held by)) (ap (is_live R) (sym same) ∙ lives),
            subst (λ z. IsRefusedWith z events.Open words.Refused (Refused TryAgain (causes.Holder by))) (sym refusal) refl,
          )

    open_ends : (refusal : Option Outcome) (reply : Reply) → event_refusal R events.Open (drivers.Open o) ≡ refusal → IsRefusedAs refusal events.Open reply → EndsRefused R (drivers.Open o) events.Open reply
    open_ends None reply is refused = memory_ends R (drivers.Open o) events.Open reply is (subst (λ z. IsRefusedAs z events.Open reply) (sym is) refused) (ap (open_outcome_by R replies.NoMemory o) none)
    open_ends (Some why) (replies.Held by) is refused = held_ends by (is ∙ ap Some refused)
    open_ends (Some why) reply is refused = absurd refused

module _ (m : Machine) (s : CallState) (rooms : Rooms) where
  -- what is granted is not refused
  pub granted_is : (x : Driver) (step : RecordStep) → IsEventReady m s x step → IsGrantedAt m.cluster x step (event_granted m.cluster x step)
  granted_is (drivers.Open o) events.Open ready = granted_open m o ready.0
  granted_is (drivers.Open o) step ready = (refl, refl)
  granted_is x events.Open ready = (refl, refl)
  granted_is x step ready = (refl, refl)

  takes_none : false ≡ true → ⊥
  takes_none takes = cc takes

  -- each call ends by its refusal
  pub takes_refused : (x : Driver) (step : RecordStep) (reply : Reply) → driver_next m.cluster rooms x ≡ Event step → IsEventReady m s x step → IsRefusedAs (event_refusal m.cluster step x) step reply → EndsRefused m.cluster x step reply
  takes_refused (drivers.Once x) step reply next ready refused = memory_ends m.cluster (drivers.Once x) step reply (by_step step) refused refl where
    by_step : (step : RecordStep) → event_refusal m.cluster step (drivers.Once x) ≡ None
    by_step events.Open = refl
    by_step step = refl
  takes_refused (drivers.Open o) events.Create reply next ready refused = memory_ends m.cluster (drivers.Open o) events.Create reply refl refused (ap (open_outcome_by m.cluster replies.NoMemory o) (makes_nothing m.cluster rooms.handles o events.Create (λ none. none) next))
  takes_refused (drivers.Open o) events.Open reply next ready refused = open_ends m o ready.0 ready.3 (makes_nothing m.cluster rooms.handles o events.Open (λ none. none) next) (event_refusal m.cluster events.Open (drivers.Open o)) reply refl refused
  takes_refused (drivers.Open o) events.Enter reply next ready refused = absurd ready
  takes_refused (drivers.Open o) step reply next ready refused = absurd (takes_none (memory_alone step reply refused).1)
  takes_refused (drivers.Sync u) (events.Hold r) reply next ready refused = absurd (takes_none (memory_alone (events.Hold r) reply refused).1)
  takes_refused (drivers.Sync u) (events.Activate r) reply next ready refused = absurd (takes_none (memory_alone (events.Activate r) reply refused).1)
  takes_refused (drivers.Copy c) (events.Complete k r moment) reply next ready refused = absurd (takes_none (memory_alone (events.Complete k r moment) reply refused).1)
  takes_refused x step reply next ready refused = absurd ready

-- marks keep a hold off, whose call is live
pub takes_kept_off : (R : RecordState) (u : SyncState) (r : ℕ) (by : CallId) → sync_next R u ≡ Event (events.Hold r) → is_live R by ≡ true → driver_outcome R (replies.Held by) (drivers.Sync u) ≡ Some (Refused TryAgain (causes.Holder by))
takes_kept_off R u r by next lives = ap (sync_outcome_by R (replies.Held by) u) next ∙ ap (λ b. refused_end b (replies.Held by)) lives
