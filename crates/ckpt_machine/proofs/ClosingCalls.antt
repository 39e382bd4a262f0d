-- A call that closes a handle is about one of the checkpoint that it keeps, from its beginning to its end: its client waits for it, and no place comes to
-- stand for another handle meanwhile.
use Rattle.std.proofs.Common.{◌≡◌, ℕ, inl, inr, Option, Some, None, Bool, true, false, cond, refl, sym, ap, ◌∙◌}
use Rattle.std.proofs.lemmas.Option.{same_Some}
use Rattle.ckpt_types.specs.declared.answers.Outcome.{Outcome}
use Rattle.ckpt_types.specs.declared.answers.Outcome.TheVariants as outcomes
use Rattle.ckpt_types.specs.declared.identities.ActorName.{ActorName}
use Rattle.ckpt_types.specs.declared.identities.CallId.{CallId}
use Rattle.ckpt_types.specs.declared.identities.Who.{Who}
use Rattle.ckpt_types.specs.declared.identities.Who.TheVariants.{Actor}
use Rattle.ckpt_types.specs.declared.operation.Op.{Op}
use Rattle.ckpt_types.specs.Asks.{Ask, asked, is_async_ask}
use Rattle.ckpt_types.specs.Asks as asks
use Rattle.ckpt_types.specs.Attributes.{open_flags_of}
use Rattle.ckpt_types.specs.OpWord.{word_of_op, stepped_as}
use Rattle.client_handles.specs.ClientState.{ClientState, emptied, handle_at}
use Rattle.node_msgs.specs.declared.details.Details.{Details}
use Rattle.node_msgs.specs.declared.steps.StepReply.{StepReply}
use Rattle.node_msgs.specs.declared.steps.StepReply.TheVariants as words
use Rattle.node_msgs.specs.declared.steps.Verb.{Verb}
use Rattle.node_msgs.specs.declared.steps.Verb.TheVariants as verbs
use Rattle.cluster_record.specs.Calls.{same_actor, put_actor, left}
use Rattle.ckpt_machine.specs.After.{after_beginning, call_begun, changed, kept_behind}
use Rattle.ckpt_machine.specs.Due.{IsBegun}
use Rattle.ckpt_machine.specs.Failing.{failed_at, is_of_node}
use Rattle.ckpt_machine.specs.Guards.{Row}
use Rattle.ckpt_machine.specs.Invariant.{InvariantIn}
use Rattle.ckpt_machine.specs.LookGuards.{LookRow}
use Rattle.ckpt_machine.specs.Machine.{Machine, CallState, who}
use Rattle.ckpt_machine.specs.Shape.{Shape}
use Rattle.ckpt_machine.specs.Tables.{flags_or_none, ckpt_of_handle, handle_asked, handle_given, started, gone_on, closing, registering, ended_at_once}
use Rattle.ckpt_machine.specs.Whose.{same_who, put_who}
use Rattle.ckpt_machine.proofs.Actors.{same_actor-true}
use Rattle.ckpt_machine.proofs.AsyncNames.{own_name}
use Rattle.ckpt_machine.proofs.ByActor.{put_actor-here, put_actor-other}
use Rattle.ckpt_machine.proofs.ChangedHands.{changed_holds}
use Rattle.ckpt_machine.proofs.ChangedTables.{changed_tables}
use Rattle.ckpt_machine.proofs.Dropped.{left_was}
use Rattle.ckpt_machine.proofs.FailedCalls.{left_is, left_stays}
use Rattle.ckpt_machine.proofs.HandleNumbers.{HasNumbers, HasNumbers-same, registering-same, started-same, gone_on-same, handle_at-same, handle_at-taken, HasNumbers-given, HasNumbers-closing, HasNumbers-emptied, HasNumbers-ended_at_once}
use Rattle.ckpt_machine.proofs.ReferenceSteps.{ClosesOwn}
use Rattle.ckpt_machine.proofs.Refusing.{row_at_ckpt, at_node, at_none, at_node_alone}
use Rattle.ckpt_machine.proofs.Starting.{first_kept, begun_as}
use Rattle.ckpt_machine.proofs.Whose.{same_who-refl, put_who-cases}

-- ---- numbers

-- each actor's handles have their numbers
abbrev pub AllNumbered : (ActorName → ClientState) → Type 0
AllNumbered tables = (a : ActorName) → HasNumbers (tables a)

-- where one actor's have them still
put_numbered : (tables : ActorName → ClientState) (a : ActorName) (t : ClientState) → AllNumbered tables → HasNumbers t → AllNumbered (put_actor tables a t)
put_numbered tables a t all own b = elim (same_actor b a) as (λ c. HasNumbers (cond c t (tables b))) [ true ↦ own | false ↦ all b ]

module _ (m : Machine) (all : AllNumbered m.tables) where
  -- behind a step
  pub changed_numbered : (s : CallState) (end : Option Outcome) (details : Details) (verb : Verb) (j q : Option ℕ) (reply : StepReply) → Row m s verb (record { verb = verb; ckpt = j; node = q; reply = reply; end = end; details = details }) → AllNumbered (changed m s verb j q reply).tables
  changed_numbered s end details = changed_tables AllNumbered m s all
      (put _ (HasNumbers-same t (registering ask t) (registering-same ask t) own)) (λ k creation_flags. put _ (HasNumbers-given ask k creation_flags t own)) (put _ (HasNumbers-closing ask t own)) (λ leaves. put _ (HasNumbers-emptied t own))
      (λ room chosen_by. put _ (HasNumbers-same t (started ask room chosen_by t) (started-same ask room chosen_by t) own)) (λ next. put _ (HasNumbers-same t (gone_on ask next t) (gone_on-same ask next t) own)) end details
    where
      ask : Ask
      ask = asked s.op

      t : ClientState
      t = m.tables s.call.actor

      own : HasNumbers t
      own = all s.call.actor

      put : (u : ClientState) → HasNumbers u → AllNumbered (put_actor m.tables s.call.actor u)
      put u has = put_numbered m.tables s.call.actor u all has

  -- behind a beginning
  pub begun_numbered : (call : CallId) (op : Op) (end : Option Outcome) → AllNumbered (after_beginning m call op end).tables
  begun_numbered call op end = put_numbered m.tables call.actor _ all (HasNumbers-ended_at_once end (asked op) (m.pending call.actor) (m.tables call.actor) (all call.actor))

  -- behind the failure of a node
  pub failed_numbered : (r : ℕ) → AllNumbered (failed_at r m).tables
  failed_numbered r a = elim (is_of_node m.cluster r a) as (λ b. HasNumbers (cond b (emptied (m.tables a)) (m.tables a))) [ true ↦ HasNumbers-emptied (m.tables a) (all a) | false ↦ all a ]

-- ---- a call that closes a handle ends by its first step

-- it asks to close one
abbrev is_close : Ask → Bool
is_close (asks.Close place) = true
is_close ask = false

module _ (m : Machine) (s : CallState) (place : ℕ) (closes : asked s.op ≡ asks.Close place) (details : Details) where
  -- so it asks for nothing else
  apart : (other : Ask) → asked s.op ≡ other → is_close other ≡ false → ⊥
  apart other is not_so = let w : true ≡ false = ap is_close (sym closes) ∙ ap is_close is ∙ not_so in cc w

  look_ends : (reply : StepReply) → LookRow m s reply None → ⊥
  look_ends words.Refused row = row
  look_ends words.Done row = row
  look_ends reply row = row

  -- a step that does not end it is of no such call
  step_ends : (verb : Verb) (j q : Option ℕ) (reply : StepReply) → Row m s verb (record { verb = verb; ckpt = j; node = q; reply = reply; end = None; details = details }) → ⊥
  step_ends verbs.Enter j q reply row = at_node_alone j q _ row.0 (λ r p. apart _ p.2 refl)
  step_ends verbs.Open j q reply row = row_at_ckpt j q _ row.0 (λ k p. apart _ p.2.asks refl)
  step_ends verbs.Create j q reply row = row_at_ckpt j q _ row.0 (λ k p. apart _ p.2.asks refl)
  step_ends verbs.Reserve j q reply row = at_node j q _ row.0 (λ k r p. elim p [ inl asks ↦ apart _ asks.2.asks refl | inr copy ↦ apart _ copy.0 refl ])
  step_ends verbs.Finish j q reply row = row_at_ckpt j q _ row.0 (λ k p. apart _ p.2.asks refl)
  step_ends verbs.Undo j q reply row = row_at_ckpt j q _ row.0 (λ k p. apart _ p.2.asks refl)
  step_ends verbs.Stage j q reply row = at_node j q _ row.0 (λ k r p. elim p [ inl asks ↦ apart _ asks.2 refl | inr copy ↦ apart _ copy.0 refl ])
  step_ends verbs.Claim j q reply row = at_node j q _ row.0 (λ k r p. elim p [ inl asks ↦ apart _ asks.2 refl | inr copy ↦ apart _ copy.0 refl ])
  step_ends verbs.Withdraw j q reply row = at_node j q _ row.0 (λ k r p. elim p [ inl asks ↦ apart _ asks.2 refl | inr copy ↦ apart _ copy.0 refl ])
  step_ends verbs.Commit j q reply row = at_node j q _ row (λ k r p. elim p [ inl asks ↦ apart _ asks.2 refl | inr copy ↦ apart _ copy.0 refl ])
  step_ends verbs.Apply j q reply row = at_node j q _ row (λ k r p. apart _ p.2 refl)
  step_ends verbs.Mark j q reply row = at_node j q _ row (λ k r p. apart _ p.2 refl)
  step_ends verbs.Element j q reply row = at_node j q _ row (λ k r p. apart _ p.2 refl)
  step_ends verbs.Unmark j q reply row = at_node j q _ row (λ k r p. apart _ p.2 refl)
  step_ends verbs.Read j q reply row = at_node j q _ row (λ k r p. apart _ p.2 refl)
  step_ends verbs.Status j q reply row = at_node j q _ row (λ k r p. apart _ p.1 refl)
  step_ends verbs.Iter j q reply row = at_node j q _ row.0 (λ k r p. apart _ p.4 refl)
  step_ends verbs.Next j q reply row = at_node j q _ row (λ k r p. apart _ p.1 refl)
  step_ends verbs.Pull j q reply row = at_node j q _ row.0 (λ k r p. elim p [ inl asks ↦ apart _ asks.2 refl | inr copy ↦ apart _ copy.0 refl ])
  step_ends verbs.Install j q reply row = at_node j q _ row.0 (λ k r p. apart _ p.2 refl)
  step_ends verbs.Hold j q reply row = at_node j q _ row.0 (λ k r p. apart _ p.1 refl)
  step_ends verbs.Activate j q reply row = at_node j q _ row.0 (λ k r p. apart _ p.1 refl)
  step_ends verbs.Leave j q reply row = at_none j q _ row.0 (λ p. apart _ p.0 refl)
  step_ends verbs.Close j q words.Ok row = row_at_ckpt j q _ row.0 (λ k p. (let none = p.2.2 in cc none))
  step_ends verbs.Close j q reply row = row_at_ckpt j q _ row.0 (λ k p. p.2)
  step_ends verbs.Unlink j q reply row = row_at_ckpt j q _ row.0 (λ k p. apart _ p.1 refl)
  step_ends verbs.Retain j q reply row = row_at_ckpt j q _ row.0 (λ k p. apart _ p.2 refl)
  step_ends verbs.Complete j q reply row = at_node j q _ row.0 (λ k r p. apart _ p.0 refl)
  step_ends verbs.Look j q reply row = look_ends reply row.2

-- ---- the place of its handle

-- an asynchronous call closes none
closing-async : (ask : Ask) (t : ClientState) → is_async_ask ask ≡ true → closing ask t ≡ t
closing-async (asks.Close place) t async = absurd (cc async)
closing-async ask t async = refl

-- and where it has a handle more, each place stands for the one for which it did
given-async : (ask : Ask) (k creation_flags place : ℕ) (t : ClientState) → HasNumbers t → is_async_ask ask ≡ true → handle_at place (handle_given ask k creation_flags t) ≡ handle_at place t
given-async (asks.Open own name flags (Some timeout) a) k creation_flags place t numbers async = absurd (cc async)
given-async (asks.Open own name flags None a) k creation_flags place t numbers async = handle_at-taken place k (flags_or_none (open_flags_of flags)) creation_flags t numbers
given-async ask k creation_flags place t numbers async = refl

module _ (m : Machine) (shapes : ℕ → Shape) (inv : InvariantIn shapes m) (numbered : AllNumbered m.tables) (own : ClosesOwn m.in_hand m.tables) where
  module _ (s : CallState) (held : m.in_hand (who s) ≡ Some s) (end : Option Outcome) (details : Details) (verb : Verb) (j q : Option ℕ) (reply : StepReply)
      (row : Row m s verb (record { verb = verb; ckpt = j; node = q; reply = reply; end = end; details = details })) where
    abbrev n : Machine
    n = changed m s verb j q reply

    -- what is in hand behind the step was in hand
    was_in_hand : (w : Who) (z : CallState) → n.in_hand w ≡ Some z → m.in_hand w ≡ Some z
    was_in_hand = changed_holds (λ hands pending. (w : Who) (z : CallState) → hands w ≡ Some z → m.in_hand w ≡ Some z) m (λ w z at. at) (λ a w z at. left_was _ (m.in_hand w) z at) (λ handle a w z at. left_was _ (m.in_hand w) z at) s verb j q reply

    module _ (w : Who) (z : CallState) (place : ℕ) (at : m.in_hand w ≡ Some z) (closes : asked z.op ≡ asks.Close place) (other : same_who w (who s) ≡ false) where
      -- its place stands for the handle for which it did
      abbrev Stands : (ActorName → ClientState) → Type 0
      Stands tables = handle_at place (tables z.call.actor) ≡ handle_at place (m.tables z.call.actor)

      -- a step of its own client's is of an asynchronous call
      async_step : z.call.actor ≡ s.call.actor → is_async_ask (asked s.op) ≡ true
      async_step same = by_ask (is_async_ask (asked s.op)) refl
        where
          by_ask : (b : Bool) → is_async_ask (asked s.op) ≡ b → b ≡ true
          by_ask true async = refl
          by_ask false plain =
              let name : w ≡ who s = sym (inv.hands w z at).whose ∙ own_name z (ap is_async_ask closes) ∙ ap Actor same ∙ sym (own_name s plain) in
              absurd (let v : true ≡ false = sym (ap (λ x. same_who x (who s)) name ∙ same_who-refl (who s)) ∙ other in cc v)

      -- so it does where the tables of the client of the step change in a way that leaves the place, if the call is an asynchronous one
      put : (t : ClientState) → (is_async_ask (asked s.op) ≡ true → handle_at place t ≡ handle_at place (m.tables s.call.actor)) → Stands (put_actor m.tables s.call.actor t)
      put t stands = by_actor (same_actor z.call.actor s.call.actor) refl
        where
          by_actor : (b : Bool) → same_actor z.call.actor s.call.actor ≡ b → handle_at place (cond b t (m.tables z.call.actor)) ≡ handle_at place (m.tables z.call.actor)
          by_actor false another = refl
          by_actor true same = let is = same_actor-true z.call.actor s.call.actor same in stands (async_step is) ∙ ap (λ a. handle_at place (m.tables a)) (sym is)

      stands_then : Stands n.tables
      stands_then = changed_tables Stands m s refl (put _ (λ async. handle_at-same t (registering ask t) place (registering-same ask t))) (λ k creation_flags. put _ (given-async ask k creation_flags place t (numbered s.call.actor)))
          (put _ (λ async. ap (handle_at place) (closing-async ask t async))) (λ leaves. put _ (λ async. absurd (let v : false ≡ true = sym (ap is_async_ask leaves) ∙ async in cc v)))
          (λ room chosen_by. put _ (λ async. handle_at-same t (started ask room chosen_by t) place (started-same ask room chosen_by t))) (λ next. put _ (λ async. handle_at-same t (gone_on ask next t) place (gone_on-same ask next t))) end details verb j q reply row
        where
          ask : Ask
          ask = asked s.op

          t : ClientState
          t = m.tables s.call.actor

    -- behind a step
    pub stepped_own : ClosesOwn (put_who n.in_hand (who s) (left end (kept_behind m s n.cluster verb j q reply))) n.tables
    stepped_own w z place at closes = elim (put_who-cases n.in_hand (who s) (left end (kept_behind m s n.cluster verb j q reply)) w z at) [
      | inl here ↦ by_end end row here.1
      | inr other ↦ (let was = was_in_hand w z other.1 in ap ckpt_of_handle (stands_then w z place was closes other.0) ∙ own w z place was closes)
    ]
      where
        by_end : (o : Option Outcome) → Row m s verb (record { verb = verb; ckpt = j; node = q; reply = reply; end = o; details = details }) → left o (kept_behind m s n.cluster verb j q reply) ≡ Some z → ckpt_of_handle (handle_at place (n.tables z.call.actor)) ≡ z.kept.ckpt
        by_end (Some o) row gone = absurd (cc gone)
        by_end None row is = absurd (step_ends m s place (ap (λ (x : CallState). asked x.op) (same_Some (kept_behind m s n.cluster verb j q reply) z is) ∙ closes) details verb j q reply row)

  -- behind a beginning
  pub begun_own : (call : CallId) (op : Op) (end : Option Outcome) (details : Details) → IsBegun m call op end details → ClosesOwn (after_beginning m call op end).in_hand (after_beginning m call op end).tables
  begun_own call op end details is w z place at closes = elim (put_who-cases m.in_hand (stepped_as call (word_of_op op)) (call_begun end call op (first_kept m call op)) w z at) [
    | inl here ↦ (
        let (d, starts, state) = begun_as end call op (first_kept m call op) z here.1 in
        let asks_close : asked op ≡ asks.Close place = ap (λ (x : CallState). asked x.op) state ∙ closes in
        let kept : ckpt_of_handle (handle_asked (asked op) t) ≡ z.kept.ckpt = ap (λ (x : CallState). x.kept.ckpt) state in
        let actor : call.actor ≡ z.call.actor = ap (λ (x : CallState). x.call.actor) state in
        ap (λ b. ckpt_of_handle (handle_at place (tables_then b))) (sym actor)
        ∙ ap (λ u. ckpt_of_handle (handle_at place u)) (put_actor-here m.tables call.actor (ended_at_once end (asked op) (m.pending call.actor) t) ∙ ap (λ ask. ended_at_once end ask (m.pending call.actor) t) asks_close ∙ close_leaves end place)
        ∙ ap (λ ask. ckpt_of_handle (handle_asked ask t)) (sym asks_close)
        ∙ kept)
    | inr other ↦ (
        let waits : w ≡ Actor z.call.actor = sym (inv.hands w z other.1).whose ∙ own_name z (ap is_async_ask closes) in
        ap (λ u. ckpt_of_handle (handle_at place u)) (put_actor-other m.tables call.actor _ z.call.actor (another w z other.1 waits)) ∙ own w z place other.1 closes)
  ]
    where
      t : ClientState
      t = m.tables call.actor

      tables_then : ActorName → ClientState
      tables_then = (after_beginning m call op end).tables

      -- the beginning of a close leaves them
      close_leaves : (end : Option Outcome) (place : ℕ) → ended_at_once end (asks.Close place) (m.pending call.actor) t ≡ t
      close_leaves (Some (outcomes.Done answer)) place = refl
      close_leaves (Some end) place = refl
      close_leaves None place = refl

      -- who waits for a call begins none
      another : (w : Who) (z : CallState) → m.in_hand w ≡ Some z → w ≡ Actor z.call.actor → same_actor z.call.actor call.actor ≡ false
      another w z at waits = by_test (same_actor z.call.actor call.actor) refl
        where
          by_test : (b : Bool) → same_actor z.call.actor call.actor ≡ b → b ≡ false
          by_test false other = refl
          by_test true same = absurd (let none : None ≡ Some z = sym is.none_in_hand ∙ ap (λ a. m.in_hand (Actor a)) (sym (same_actor-true z.call.actor call.actor same)) ∙ ap m.in_hand (sym waits) ∙ at in cc none)

  -- behind the failure of a node
  pub failed_own : (r : ℕ) → ClosesOwn (failed_at r m).in_hand (failed_at r m).tables
  failed_own r w z place at closes =
      let (was, stays) = left_is m shapes inv r w z at in
      ap (λ b. ckpt_of_handle (handle_at place (cond b (emptied (m.tables z.call.actor)) (m.tables z.call.actor)))) (left_stays m shapes inv r z stays) ∙ own w z place was closes
