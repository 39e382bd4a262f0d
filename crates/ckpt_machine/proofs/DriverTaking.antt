-- What a driver takes of a node's reply to what is next is what the machine says of its call.
use Rattle.std.proofs.Common.{◌≡◌, ℕ, Option, Some, None, Bool, true, false, cond, not, ◌&&◌, ◌==◌, length, ℤ, refl, sym, ap, subst, ◌∙◌}
use Rattle.std.specs.Prelude.{is_some, nat_le}
use Rattle.std.specs.Option.{option_map}
use Rattle.ckpt_types.specs.declared.answers.Outcome.{Outcome}
use Rattle.ckpt_types.specs.declared.answers.Outcome.TheVariants.{Done}
use Rattle.ckpt_types.specs.declared.attributes.CreationAttributes.{CreationAttributes}
use Rattle.ckpt_types.specs.declared.identities.CallId.{CallId}
use Rattle.ckpt_types.specs.declared.operation.Op.{Op}
use Rattle.node_msgs.specs.declared.next.Next.{Next}
use Rattle.node_msgs.specs.declared.next.Next.TheVariants.{Serve, Event, End}
use Rattle.node_msgs.specs.declared.next.RecordStep.{RecordStep}
use Rattle.node_msgs.specs.declared.next.RecordStep.TheVariants.{Retain}
use Rattle.node_msgs.specs.declared.replies.Reply.{Reply}
use Rattle.node_msgs.specs.declared.replies.Reply.TheVariants as replies
use Rattle.node_msgs.specs.declared.requests.Request.{Request}
use Rattle.node_msgs.specs.declared.steps.StepReply.{StepReply}
use Rattle.node_msgs.specs.declared.steps.StepReply.TheVariants as words
use Rattle.node_msgs.specs.declared.steps.Verb.{Verb}
use Rattle.node_msgs.specs.declared.steps.Verb.TheVariants as verbs
use Rattle.node_msgs.specs.Steps.{verb_of, word_of}
use Rattle.cluster_record.specs.declared.calls.Making.{Making}
use Rattle.cluster_record.specs.declared.calls.MarksMade.{MarksMade}
use Rattle.cluster_record.specs.declared.calls.PulledAt.{PulledAt}
use Rattle.cluster_record.specs.declared.calls.UpdatePhase.{UpdatePhase}
use Rattle.cluster_record.specs.declared.calls.UpdatePhase.TheVariants.{Committing}
use Rattle.cluster_record.specs.declared.entries.Entry.{Entry}
use Rattle.cluster_record.specs.DueActive.{ActiveState, active_end, active_next, active_on, active_request, is_update, marks_taken, on_active, starts_iteration, unless_changed, unless_on_hold}
use Rattle.cluster_record.specs.DueCopy.{CopyState, copy_end, copy_next, copy_outcome, copy_outcome_by, copy_told, copy_told_by, done_by}
use Rattle.cluster_record.specs.DueOnce.{OneStep, once_next, close_of, unlink_of_making, unlink_of, retain_of}
use Rattle.cluster_record.specs.DueOnce as once
use Rattle.cluster_record.specs.DueOpen.{OpenState, accepts, by_making, create_next, entry_by, entry_next, on_named, open_next}
use Rattle.cluster_record.specs.DueSync.{SyncState, ended_by, first_unserved, sync_ended, sync_next}
use Rattle.cluster_record.specs.DueUpdate.{UpdateState, commit_end, done_end_by, done_if_none, update_next}
use Rattle.cluster_record.specs.Ends.{active_done, active_ended, active_outcome, active_told, making_outcome_by, making_told_by, open_outcome, open_outcome_by, open_told, open_told_by, refused_end, served_done, sync_end, sync_outcome, sync_outcome_by, sync_told, sync_told_by, update_end, update_outcome, update_outcome_by, update_told, update_told_by}
use Rattle.cluster_record.specs.RecordState.{RecordState, entry_of, is_live, named}
use Rattle.cluster_record.specs.StepDone.{StepDone, last_having}
use Rattle.ckpt_machine.specs.Drivers.{Driver}
use Rattle.ckpt_machine.specs.Drivers as drivers
use Rattle.ckpt_machine.specs.Driving.{driver_end, driver_taken, index_told}
use Rattle.ckpt_machine.proofs.Deadlines.{in_time-either}
use Rattle.ckpt_machine.specs.Taking.{AsksNode, driver_outcome, driver_told}

-- ---- the ends are told with the index of a vector alone

-- whatever drives the call
refused_told : (op : Op) (live : Bool) (by : CallId) → option_map (index_told op) (refused_end live (replies.Held by)) ≡ refused_end live (replies.Held by)
refused_told op true by = refl
refused_told op false by = refl

module _ (R : RecordState) (op : Op) (d : StepDone) where
  update_told_so : (reply : Reply) (u : UpdateState) → option_map (index_told op) (update_end d reply u) ≡ driver_end R op d reply (drivers.Update u)
  update_told_so (replies.Done answer) u = by_verb d.verb
    where
      by_last : (last : Option ℕ) → option_map (index_told op) (done_if_none answer last) ≡ done_if_none answer last
      by_last None = refl
      by_last (Some r) = refl

      by_phase : (phase : UpdatePhase) (last : Option ℕ) → option_map (index_told op) (commit_end phase answer last) ≡ commit_end phase answer last
      by_phase Committing last = by_last last
      by_phase phase last = refl

      by_verb : (verb : Verb) → option_map (index_told op) (done_end_by d answer u verb) ≡ done_end_by d answer u verb
      by_verb verbs.Commit = by_phase u.phase (last_having 0 d.complete u.owned)
      by_verb verb = refl
  update_told_so (replies.Held by) u = refused_told op d.live by
  update_told_so reply u = refl

  active_told_so : (reply : Reply) (a : ActiveState) → option_map (index_told op) (active_ended d reply) ≡ driver_end R op d reply (drivers.Active a)
  active_told_so (replies.Done answer) a = by_verb d.verb
    where
      by_verb : (verb : Verb) → option_map (index_told op) (active_end answer verb) ≡ active_end answer verb
      by_verb verbs.Mark = refl
      by_verb verbs.Element = refl
      by_verb verb = refl
  active_told_so (replies.Held by) a = refused_told op d.live by
  active_told_so reply a = refl

  open_told_so : (reply : Reply) (o : OpenState) → option_map (index_told op) (refused_end d.live reply) ≡ driver_end R op d reply (drivers.Open o)
  open_told_so (replies.Held by) o = refused_told op d.live by
  open_told_so reply o = refl

  sync_ended_so : (s : SyncState) → option_map (index_told op) (sync_ended d.complete s.served s.pulled) ≡ sync_ended d.complete s.served s.pulled
  sync_ended_so s = by_pulled s.pulled
    where
      by_left : (count : ℕ) (left : Option ℕ) → option_map (index_told op) (ended_by count left) ≡ ended_by count left
      by_left count None = refl
      by_left count (Some r) = refl

      by_pulled : (pulled : Option PulledAt) → option_map (index_told op) (sync_ended d.complete s.served pulled) ≡ sync_ended d.complete s.served pulled
      by_pulled None = refl
      by_pulled (Some p) = by_left p.count (first_unserved 0 d.complete s.served)

  sync_told_so : (reply : Reply) (s : SyncState) → option_map (index_told op) (sync_end d reply s) ≡ driver_end R op d reply (drivers.Sync s)
  sync_told_so (replies.Done answer) s = sync_ended_so s
  sync_told_so (replies.Held by) s = refused_told op d.live by
  sync_told_so (replies.Older generation count) s = sync_ended_so s
  sync_told_so reply s = refl

-- a copying
done_told_so : (op : Op) (next : Next) → option_map (index_told op) (done_by next) ≡ done_by next
done_told_so op (End (Done answer)) = refl
done_told_so op next = refl

copy_told_so : (R : RecordState) (op : Op) (r : ℕ) (request : Request) (reply : Reply) (c : CopyState) → option_map (index_told op) (copy_end R reply c) ≡ driver_end R op (served_done R request r reply) reply (drivers.Copy c)
copy_told_so R op r request (replies.Done answer) c = done_told_so op (copy_next R c)
copy_told_so R op r request (replies.Held by) c = refused_told op (is_live R by) by
copy_told_so R op r request reply c = refl

-- ---- some ask no node

-- what is next is not to be served
abbrev ServesNone : Next → Type 0
ServesNone (Serve r request) = ⊥
ServesNone next = Unit {0}

one_none : (b : Bool) (x : Outcome) (step : RecordStep) → ServesNone (cond b (End x) (Event step))
one_none true x step = tt
one_none false x step = tt

two_none : (a b : Bool) (x y : Outcome) (step : RecordStep) → ServesNone (cond a (End x) (cond b (End y) (Event step)))
two_none true b x y step = tt
two_none false b x y step = one_none b y step

entry_none : (making : Option CallId) (room : Bool) (a : Option CreationAttributes) (e : Entry) → ServesNone (entry_by making room a e)
entry_none (Some call) room a e = tt
entry_none None room a e = two_none (not (accepts a e)) (not room) _ _ _

-- an open that is making nothing
named_none : (R : RecordState) (room : Bool) (deadline : Option ℤ) (a : Option CreationAttributes) (e : Option Entry) → ServesNone (on_named R room deadline a e)
named_none R room deadline None None = tt
named_none R room deadline (Some a) None = in_time-either ServesNone deadline R.moment (create_next R room) (λ o. tt) (two_none (not room) (nat_le 16 (length R.entries)) _ _ _)
named_none R room deadline a (Some e) = in_time-either ServesNone deadline R.moment (entry_next room a e) (λ o. tt) (entry_none e.making room a e)

-- a call of one step
once_none : (R : RecordState) (x : OneStep) → ServesNone (once_next R x)
once_none R (once.Enter r) = one_none (nat_le 64 (length R.clients)) _ _
once_none R once.Leave = tt
once_none R (once.Close k) = by_entry (entry_of k R.entries)
  where
    by_entry : (e : Option Entry) → ServesNone (close_of e)
    by_entry None = tt
    by_entry (Some e) = tt
once_none R (once.Unlink name) = by_entry (named name R.entries)
  where
    by_maker : (making : Option CallId) → ServesNone (unlink_of_making making)
    by_maker None = tt
    by_maker (Some call) = tt

    by_entry : (e : Option Entry) → ServesNone (unlink_of e)
    by_entry None = tt
    by_entry (Some e) = by_maker e.making
once_none R (once.Retain k duration) = by_entry (entry_of k R.entries)
  where
    by_test : (b : Bool) (x : Outcome) → ServesNone (cond b (Event Retain) (End x))
    by_test true x = tt
    by_test false x = tt

    by_entry : (e : Option Entry) → ServesNone (retain_of e)
    by_entry None = tt
    by_entry (Some e) = by_test (is_some e.name) _

-- ---- a call to the active asks for one thing alone

-- what is next is this request, if it is one
abbrev AsksAlone : Request → Next → Type 0
AsksAlone asked (Serve r request) = asked ≡ request
AsksAlone asked next = Unit {0}

active_asks : (room : Bool) (a : ActiveState) (e : Option Entry) → AsksAlone (active_request a) (active_on room a e)
active_asks room a None = tt
active_asks room a (Some e) = at e.active
  where
    by_generation : (b : Bool) (x : Outcome) (r : ℕ) → AsksAlone (active_request a) (cond b (Serve r (active_request a)) (End x))
    by_generation true x r = refl
    by_generation false x r = tt

    by_marks : (marks : Option MarksMade) (r : ℕ) → AsksAlone (active_request a) (unless_changed marks e.generation (Serve r (active_request a)))
    by_marks None r = refl
    by_marks (Some marks) r = by_generation (marks.generation == e.generation) _ r

    by_update : (b : Bool) (x : Outcome) (r : ℕ) → AsksAlone (active_request a) (cond b (End x) (unless_changed a.marks e.generation (Serve r (active_request a))))
    by_update true x r = tt
    by_update false x r = by_marks a.marks r

    by_hold : (hold : Option CallId) (r : ℕ) → AsksAlone (active_request a) (unless_on_hold a.kind hold (unless_changed a.marks e.generation (Serve r (active_request a))))
    by_hold None r = by_marks a.marks r
    by_hold (Some holder) r = by_update (is_update a.kind) _ r

    by_room : (b : Bool) (x : Outcome) (r : ℕ) → AsksAlone (active_request a) (cond b (End x) (unless_on_hold a.kind e.hold (unless_changed a.marks e.generation (Serve r (active_request a)))))
    by_room true x r = tt
    by_room false x r = by_hold e.hold r

    at : (active : Option ℕ) → AsksAlone (active_request a) (on_active room a e.generation e.hold active)
    at None = tt
    at (Some r) = by_room (starts_iteration a.kind && not room) _ r

-- ---- what each takes

module _ (R : RecordState) (op : Op) (reply : Reply) (r : ℕ) (request : Request) where
  abbrev done : StepDone
  done = served_done R request r reply

  pub update_keeps : (u : UpdateState) → update_next R u ≡ Serve r request → drivers.Update (update_told R reply u) ≡ driver_taken done (drivers.Update u)
  update_keeps u next = ap (λ n. drivers.Update (update_told_by R reply u n)) next

  pub update_ends : (u : UpdateState) → update_next R u ≡ Serve r request → option_map (index_told op) (update_outcome R reply u) ≡ driver_end R op done reply (drivers.Update (update_told R reply u))
  update_ends u next =
      ap (λ n. option_map (index_told op) (update_outcome_by R reply u n)) next
      ∙ update_told_so R op done reply (update_told_by R reply u (Serve r request))
      ∙ ap (λ n. driver_end R op done reply (drivers.Update (update_told_by R reply u n))) (sym next)

  pub sync_keeps : (s : SyncState) → sync_next R s ≡ Serve r request → drivers.Sync (sync_told R reply s) ≡ driver_taken done (drivers.Sync s)
  sync_keeps s next = ap (λ n. drivers.Sync (sync_told_by R reply s n)) next

  pub sync_ends : (s : SyncState) → sync_next R s ≡ Serve r request → option_map (index_told op) (sync_outcome R reply s) ≡ driver_end R op done reply (drivers.Sync (sync_told R reply s))
  sync_ends s next =
      ap (λ n. option_map (index_told op) (sync_outcome_by R reply s n)) next
      ∙ sync_told_so R op done reply (sync_told_by R reply s (Serve r request))
      ∙ ap (λ n. driver_end R op done reply (drivers.Sync (sync_told_by R reply s n))) (sym next)

  pub copy_keeps : (c : CopyState) → copy_next R c ≡ Serve r request → drivers.Copy (copy_told R reply c) ≡ driver_taken done (drivers.Copy c)
  copy_keeps c next = ap (λ n. drivers.Copy (copy_told_by R reply c n)) next

  pub copy_ends : (c : CopyState) → copy_next R c ≡ Serve r request → option_map (index_told op) (copy_outcome R reply c) ≡ driver_end R op done reply (drivers.Copy (copy_told R reply c))
  copy_ends c next =
      ap (λ n. option_map (index_told op) (copy_outcome_by R reply c n)) next
      ∙ copy_told_so R op r request reply (copy_told_by R reply c (Serve r request))
      ∙ ap (λ n. driver_end R op done reply (drivers.Copy (copy_told_by R reply c n))) (sym next)

  -- an open that is making nothing asks no node
  never_named : (room : Bool) (o : OpenState) → on_named R room o.deadline o.ask.attrs (named o.ask.name R.entries) ≡ Serve r request → ⊥
  never_named room o next = subst ServesNone next (named_none R room o.deadline o.ask.attrs (named o.ask.name R.entries))

  pub open_keeps : (room : Bool) (o : OpenState) → open_next R room o ≡ Serve r request → drivers.Open (open_told R reply o) ≡ driver_taken done (drivers.Open o)
  open_keeps room o next = by_what o.making next
    where
      by_what : (making : Option Making) → by_making R room o making ≡ Serve r request → drivers.Open (open_told_by R reply o making) ≡ driver_taken done (drivers.Open o)
      by_what None next = absurd (never_named room o next)
      by_what (Some m) next = ap (λ n. drivers.Open (making_told_by R reply o n)) next

  pub open_ends : (room : Bool) (o p : OpenState) → open_next R room o ≡ Serve r request → option_map (index_told op) (open_outcome R reply o) ≡ driver_end R op done reply (drivers.Open p)
  open_ends room o p next = by_what o.making next
    where
      by_what : (making : Option Making) → by_making R room o making ≡ Serve r request → option_map (index_told op) (open_outcome_by R reply o making) ≡ driver_end R op done reply (drivers.Open p)
      by_what None next = absurd (never_named room o next)
      by_what (Some m) next = ap (λ n. option_map (index_told op) (making_outcome_by R reply m n)) next ∙ open_told_so R op done reply p

  -- what is asked of the active is its request
  asks_so : (room : Bool) (a : ActiveState) → active_next R room a ≡ Serve r request → active_request a ≡ request
  asks_so room a next = subst (AsksAlone (active_request a)) next (active_asks room a (entry_of a.ckpt R.entries))

  pub active_keeps : (room : Bool) (a : ActiveState) → active_next R room a ≡ Serve r request → drivers.Active (active_told R reply a) ≡ driver_taken done (drivers.Active a)
  active_keeps room a next = ap (λ marks. drivers.Active (record a { marks = marks })) (by_verb (verb_of (active_request a)) (word_of reply) ∙ ap (λ q. marks_taken (served_done R q r reply) a.kind (verb_of q) (word_of reply) a.marks) (asks_so room a next))
    where
      by_marks : (d e : StepDone) (marks : Option MarksMade) → marks_taken d a.kind verbs.Element words.Ok marks ≡ marks_taken e a.kind verbs.Element words.Ok marks
      by_marks d e None = refl
      by_marks d e (Some marks) = refl

      by_verb : (verb : Verb) (word : StepReply) → marks_taken (active_done R reply a) a.kind verb word a.marks ≡ marks_taken (served_done R (active_request a) r reply) a.kind verb word a.marks
      by_verb verbs.Mark words.Ok = refl
      by_verb verbs.Mark word = refl
      by_verb verbs.Element words.Ok = by_marks (active_done R reply a) (served_done R (active_request a) r reply) a.marks
      by_verb verbs.Element word = refl
      by_verb verb word = refl

  pub active_ends : (room : Bool) (a b : ActiveState) → active_next R room a ≡ Serve r request → option_map (index_told op) (active_outcome R reply a) ≡ driver_end R op done reply (drivers.Active b)
  active_ends room a b next =
      active_told_so R op (active_done R reply a) reply b ∙ by_reply reply
    where
      by_reply : (reply : Reply) → driver_end R op (active_done R reply a) reply (drivers.Active b) ≡ driver_end R op (served_done R request r reply) reply (drivers.Active b)
      by_reply (replies.Done answer) = ap (λ q. active_end answer (verb_of q)) (asks_so room a next)
      by_reply reply = refl

  -- a call of one step asks no node
  pub once_serves : (x : OneStep) → once_next R x ≡ Serve r request → ⊥
  once_serves x next = subst ServesNone next (once_none R x)

-- ---- any call

module _ (R : RecordState) (reply : Reply) (r : ℕ) (request : Request) where
  pub driver_keeps : (op : Op) (x : Driver) → AsksNode R x r request → driver_told R reply x ≡ driver_taken (served_done R request r reply) x
  driver_keeps op (drivers.Once x) asks = absurd (once_serves R op reply r request x asks.next_is)
  driver_keeps op (drivers.Open o) asks = open_keeps R op reply r request asks.rooms.handles o asks.next_is
  driver_keeps op (drivers.Update u) asks = update_keeps R op reply r request u asks.next_is
  driver_keeps op (drivers.Active a) asks = active_keeps R op reply r request asks.rooms.iterations a asks.next_is
  driver_keeps op (drivers.Sync s) asks = sync_keeps R op reply r request s asks.next_is
  driver_keeps op (drivers.Copy c) asks = copy_keeps R op reply r request c asks.next_is

  pub driver_ends : (op : Op) (x : Driver) → AsksNode R x r request → option_map (index_told op) (driver_outcome R reply x) ≡ driver_end R op (served_done R request r reply) reply (driver_told R reply x)
  driver_ends op (drivers.Once x) asks = absurd (once_serves R op reply r request x asks.next_is)
  driver_ends op (drivers.Open o) asks = open_ends R op reply r request asks.rooms.handles o (open_told R reply o) asks.next_is
  driver_ends op (drivers.Update u) asks = update_ends R op reply r request u asks.next_is
  driver_ends op (drivers.Active a) asks = active_ends R op reply r request asks.rooms.iterations a (active_told R reply a) asks.next_is
  driver_ends op (drivers.Sync s) asks = sync_ends R op reply r request s asks.next_is
  driver_ends op (drivers.Copy c) asks = copy_ends R op reply r request c asks.next_is
