-- What a served step makes of the tables of its client: a started iteration is there, and one that was lent is back.
use Rattle.std.proofs.Common.{◌≡◌, ℕ, zero, suc, ◌-◌, ◌^◌, ◌<◌, arith, ℤ, true, cond, List, [], ◌∷◌, Option, Some, None, IsSome, Ok, refl, sym, ap, subst, ◌∙◌}
use Rattle.std.specs.Prelude.{slice_get, slice_set}
use Rattle.std.specs.Option.{option_and_then, ok_or}
use Rattle.std.proofs.lemmas.Bool.{eq-eqb}
use Rattle.ckpt_types.specs.declared.ais_error.AisError.TheVariants.{BadHandle}
use Rattle.ckpt_types.specs.declared.answers.Answer.TheVariants as answers
use Rattle.ckpt_types.specs.declared.answers.Outcome.{Outcome}
use Rattle.ckpt_types.specs.declared.attributes.CreationAttributes.{CreationAttributes}
use Rattle.ckpt_types.specs.declared.identities.ActorName.TheVariants.{Client}
use Rattle.ckpt_types.specs.declared.operation.Op.{Op}
use Rattle.ckpt_types.specs.declared.sections.Choice.{Choice}
use Rattle.ckpt_types.specs.Limits.{places_max}
use Rattle.ckpt_types.specs.Reads.{NextGiven, given, chosen}
use Rattle.ckpt_types.specs.Asks.{Ask, asked, IsBuilt}
use Rattle.ckpt_types.specs.Asks as asks
use Rattle.client_handles.specs.ClientState.{ClientState, iteration_number, iteration_at, kept_at, kept_iteration, handle_at, has_iteration_room, NoneLent, IsValid}
use Rattle.client_handles.specs.declared.begun.BegunIteration.{BegunIteration}
use Rattle.client_handles.proofs.IterationLaws.{IsLent-lent}
use Rattle.client_handles.proofs.LentLaws.{IsNotLent-none}
use Rattle.client_handles.proofs.NumberedLaws.{numbered-All}
use Rattle.section_iter.specs.KeptIds.{KeptIds}
use Rattle.section_iter.specs.Next.{kept_after}
use Rattle.section_iter.specs.Room.{room_declared, IsRoomFor}
use Rattle.section_iter.specs.declared.room.Room.{Room}
use Rattle.node_msgs.specs.declared.details.Details.{Details}
use Rattle.node_msgs.specs.declared.replies.Reply.{Reply}
use Rattle.node_msgs.specs.declared.replies.Reply.TheVariants as replies
use Rattle.node_msgs.specs.declared.requests.Request.{Request}
use Rattle.node_msgs.specs.declared.requests.Request.TheVariants as requests
use Rattle.replica.specs.Replicas.{Replica}
use Rattle.cluster_record.proofs.Places.{get_set}
use Rattle.node_core.specs.Seen.{RecordSeen}
use Rattle.node_core.specs.Payloads.{Payload}
use Rattle.node_core.specs.Serving.{reply_of}
use Rattle.node_core.specs.Serving as serving
use Rattle.ckpt_machine.specs.Facts.{IsStarting}
use Rattle.ckpt_machine.specs.Machine.{Machine, CallState, no_tables}
use Rattle.ckpt_machine.specs.After.{with_tables}
use Rattle.ckpt_machine.specs.Tables.{choice_of, ids_of, kept_asked, started, with_iteration, gone_on}
use Rattle.client_calls.specs.declared.in_hand.InHand.{InHand}
use Rattle.world_core.specs.declared.world.World.{World}
use Rattle.client_calls.specs.Lending.{IsGoingOnWith, IsOutOf, IsValidFor, come_back, iteration_lent, lending, hand_lending, CanLend, CanKeep}
use Rattle.world_core.specs.TablesLending.{tables_lending, tables_keeping}
use Rattle.cluster_record.specs.Calls.{left}
use Rattle.cluster_record.specs.StepDone.{StepDone}
use Rattle.client_calls.specs.HandSteps.{hand_taken, end_by}
use Rattle.cluster_record.specs.RecordState.{RecordState}
use Rattle.ckpt_machine.proofs.Askers.{IsCopyAsk}
use Rattle.world_core.specs.LiveRooms.{LiveHaveRoom}
use Rattle.world_core.specs.Shows.{History, machine_of}
use Rattle.client_calls.specs.TableState.{TableState, kept_in, with_client}
use Rattle.world_core.specs.TablesState.{kept_by, table_changed, at_client}
use Rattle.ckpt_machine.proofs.GoingOn.{gone_on-told}
use Rattle.world_core.proofs.Held.{hand_made}
use Rattle.world_core.proofs.LiveRooms.{rooms_client}
use Rattle.ckpt_machine.proofs.RequestRows.{tables_moved}
use Rattle.ckpt_machine.proofs.OptionLemmas.{what_is}
use Rattle.world_core.proofs.TableFields.{change_is}

-- ---- a table that is changed twice

set_twice : {X : Type 0} (xs : List X) (i : ℕ) (a b : X) → slice_set (slice_set xs i a) i b ≡ slice_set xs i b
set_twice [] i a b = refl
set_twice (x ∷ xs) zero a b = refl
set_twice (x ∷ xs) (suc i) a b = ap (λ ys. x ∷ ys) (set_twice xs i a b)

module _ (c : ℕ) (tables : List TableState) where
  got_back : (t u : TableState) → slice_get tables c ≡ Some t → slice_get (slice_set tables c u) c ≡ Some u
  got_back t u is = get_set tables c u t c is ∙ ap (λ b. cond b (Some u) (slice_get tables c)) (eq-eqb c c refl)

  -- is changed by both at once
  at_twice : (f g : TableState → TableState) (o : Option TableState) → slice_get tables c ≡ o → at_client c g (table_changed c f tables o) ≡ table_changed c (λ t. g (f t)) tables o
  at_twice f g None is = ap (table_changed c g tables) is
  at_twice f g (Some t) is = ap (table_changed c g (slice_set tables c (f t))) (got_back t (f t) is) ∙ set_twice tables c (f t) (g (f t))

  -- alike, where both changes make the same of what is there
  at_same : (f g : ClientState → ClientState) → f (kept_by tables c) ≡ g (kept_by tables c) → (o : Option TableState) → slice_get tables c ≡ o → table_changed c (with_client f) tables o ≡ table_changed c (with_client g) tables o
  at_same f g same None is = refl
  at_same f g same (Some t) is = let e : f t.client ≡ g t.client = ap (λ o. f (kept_in o)) (sym is) ∙ same ∙ ap (λ o. g (kept_in o)) is in λ i. slice_set tables c (record t { client = e i })

  -- what a client keeps is changed, where it has a table
  kept_changed : (f : ClientState → ClientState) (o : Option TableState) → slice_get tables c ≡ o → (o ≡ None → f no_tables ≡ no_tables) → kept_by (table_changed c (with_client f) tables o) c ≡ f (kept_by tables c)
  kept_changed f None is none = ap kept_in is ∙ sym (none refl) ∙ ap (λ o. f (kept_in o)) (sym is)
  kept_changed f (Some t) is none = ap kept_in (got_back t (with_client f t) is) ∙ ap (λ o. f (kept_in o)) (sym is)

-- ---- an iteration starts

-- the room that the attributes declare is for all of it
pub room_for_declared : (a : CreationAttributes) → IsRoomFor a (room_declared a)
room_for_declared a = record { sections = omega arith; bytes = omega arith }

-- who keeps nothing starts nothing, as no place stands for a handle
starts_none : (ask : Ask) (room : Room) (chosen_by : Choice → List (List ℕ)) → started ask room chosen_by no_tables ≡ no_tables
starts_none (asks.Iterate iteration place chosen time) room chosen_by = refl
starts_none ask room chosen_by = refl

-- an iteration keeps what is chosen by the choice that is asked for
starts_by : (ask : Ask) (iteration place chosen : ℕ) (time : ℤ) (choice : Choice) (room : Room) (chosen_by : Choice → List (List ℕ)) → ask ≡ asks.Iterate iteration place chosen time → choice ≡ choice_of chosen time → started ask room chosen_by ≡ started ask room (λ other. chosen_by choice)
starts_by ask iteration place chosen time choice room chosen_by asks choice_is =
    ap (λ a. started a room chosen_by) asks
    ∙ (λ i t. with_iteration iteration (handle_at place t) (record { ids = chosen_by (sym choice_is i); room = room }) t)
    ∙ ap (λ a. started a room (λ other. chosen_by choice)) (sym asks)

-- ---- an iteration goes on

-- a call goes on with an iteration that is there
pub record GoesOnWith (ask : Ask) (t : ClientState) : Type 0 where
  pub place : ℕ
  pub asks : ask ≡ asks.Next place
  pub within : place < places_max
  pub stands : IsSome (iteration_at place t)
  pub kept : KeptIds
  pub kept_is : kept_at place t ≡ Some kept
  pub none_lent : NoneLent t

pub goes_on_with : (ask : Ask) (t : ClientState) (place : ℕ) → ask ≡ asks.Next place → place < places_max → IsSome (iteration_at place t) → NoneLent t → GoesOnWith ask t
goes_on_with ask t place asks within stands none =
    let (it, is) = what_is (iteration_at place t) stands in
    let (kept, keeps) = what_is it.kept (numbered-All iteration_number (λ (x : BegunIteration). IsSome x.kept) _ t.iterations it none is) in
    record { place = place; asks = asks; within = within; stands = stands; kept = kept; kept_is = ap (option_and_then (λ (x : BegunIteration). x.kept)) is ∙ keeps; none_lent = none }

module _ (ask : Ask) (t : ClientState) (goes : GoesOnWith ask t) where
  told : Ok goes.kept ≡ kept_iteration goes.place t
  told = sym (ap (λ o. ok_or o BadHandle) goes.kept_is)

  -- it may go out
  pub going_out : IsGoingOnWith ask t
  going_out = subst (λ a. IsGoingOnWith a t) (sym goes.asks) (goes.within, goes.stands, IsNotLent-none goes.place t goes.none_lent)

  pub asked_is : kept_asked ask t ≡ Some goes.kept
  asked_is = ap (λ a. kept_asked a t) goes.asks ∙ goes.kept_is

  -- and is out then
  pub is_out : IsOutOf ask (lending ask t)
  is_out = subst (λ a. IsOutOf a (lending a t)) (sym goes.asks) (goes.within, IsLent-lent goes.place t goes.kept told)

  -- back again, it has gone on
  pub back_is : IsValid t → (g : Option NextGiven) → come_back ask (kept_after goes.kept g) (lending ask t) ≡ gone_on ask g t
  back_is valid g = subst (λ a. come_back a (kept_after goes.kept g) (lending a t) ≡ gone_on a g t) (sym goes.asks) (gone_on-told goes.place goes.kept g t valid told)

-- who keeps nothing has lent nothing
pub lends_none : (ask : Ask) → lending ask no_tables ≡ no_tables
lends_none (asks.Next place) = refl
lends_none ask = refl

goes_none : (ask : Ask) (g : Option NextGiven) → gone_on ask g no_tables ≡ no_tables
goes_none (asks.Next place) g = refl
goes_none ask g = refl

-- ---- what the machine and the world have then

-- what a step relies on that starts an iteration, or goes on with one
abbrev pub TablesReady : Request → Machine → CallState → InHand → ClientState → Type 0
TablesReady (requests.Iterate call k choice) m s hand t = IsStarting m s k choice × (hand.iteration ≡ Some (record { ids = []; room = s.kept.room }))
TablesReady (requests.Next call k) m s hand t = GoesOnWith (asked hand.op) t
TablesReady request m s hand t = Unit {0}

-- where one starts there is room for it
abbrev pub HasIterationRoom : Request → ClientState → Type 0
HasIterationRoom (requests.Iterate call k choice) t = has_iteration_room t ≡ true
HasIterationRoom request t = Unit {0}

module _ (w : World) (h : History) (m : Machine) (s : CallState) (c : ℕ) (hand : InHand) (actor : (IsCopyAsk (asked hand.op) → ⊥) → s.call.actor ≡ Client c) (op : s.op ≡ hand.op) (ids : List (List ℕ)) (seen : RecordSeen) (x : Replica) where
  abbrev kept : ClientState
  kept = kept_by w.tables c

  -- the world with these tables
  abbrev over : List TableState → Machine
  over tables = machine_of (record w { tables = tables }) h

  iterate_move : (k : ℕ) (choice : Choice) → IsStarting m s k choice → hand.iteration ≡ Some (record { ids = []; room = s.kept.room }) →
      with_tables s.call.actor (started (asked s.op) s.kept.room (λ choice. chosen choice seen.moment x.sections)) (machine_of w h) ≡
      over (at_client c (with_client (started (asked hand.op) s.kept.room (λ other. chosen choice seen.moment x.sections))) w.tables)
  iterate_move k choice starting taken =
      let own : s.call.actor ≡ Client c = actor (λ copies. subst IsCopyAsk (sym (ap asked op) ∙ starting.asks) copies) in
      (λ i. with_tables (own i) (started (asked s.op) s.kept.room (λ choice. chosen choice seen.moment x.sections)) (machine_of w h))
      ∙ ap (λ f. with_tables (Client c) f (machine_of w h)) (starts_by (asked s.op) starting.iteration starting.place starting.chosen starting.time choice s.kept.room (λ choice. chosen choice seen.moment x.sections) starting.asks starting.choice_is)
      ∙ ap (λ o. with_tables (Client c) (started (asked o) s.kept.room (λ other. chosen choice seen.moment x.sections)) (machine_of w h)) op
      ∙ change_is w h c (started (asked hand.op) s.kept.room (λ other. chosen choice seen.moment x.sections)) (λ none. starts_none (asked hand.op) s.kept.room (λ other. chosen choice seen.moment x.sections))

  module _ (goes : GoesOnWith (asked hand.op) kept) (valid : IsValid kept) (ids_are : ids ≡ goes.kept.ids) where
    abbrev gives : Option NextGiven
    gives = given goes.kept.ids seen.moment x.sections

    next_move : with_tables s.call.actor (gone_on (asked s.op) (given ids seen.moment x.sections)) (machine_of w h) ≡
        over (at_client c (with_client (come_back (asked hand.op) (kept_after goes.kept gives))) (at_client c (with_client (lending (asked hand.op))) w.tables))
    next_move =
        let own : s.call.actor ≡ Client c = actor (λ copies. subst IsCopyAsk goes.asks copies) in
        (λ i. with_tables (own i) (gone_on (asked (op i)) (given (ids_are i) seen.moment x.sections)) (machine_of w h))
        ∙ change_is w h c (gone_on (asked hand.op) gives) (λ none. goes_none (asked hand.op) gives)
        ∙ sym (ap over (at_twice c w.tables (with_client (lending (asked hand.op))) (with_client (come_back (asked hand.op) (kept_after goes.kept gives))) (slice_get w.tables c) refl
        ∙ at_same c w.tables (λ t. come_back (asked hand.op) (kept_after goes.kept gives) (lending (asked hand.op) t)) (gone_on (asked hand.op) gives) (back_is (asked hand.op) kept goes valid gives) (slice_get w.tables c) refl))

  -- what is lent comes back so, by the request
  pub tables_move : (request : Request) (p : Payload) (reply : Reply) → TablesReady request m s hand kept → IsValidFor request kept → ids ≡ ids_of (kept_asked (asked hand.op) kept) → reply ≡ reply_of request p seen x →
      tables_moved request s ids seen.moment x.sections (machine_of w h) ≡ over (tables_keeping request c hand.op reply (serving.iteration_behind request seen (Some x) (iteration_lent request hand kept)) (tables_lending request c hand.op w.tables))
  tables_move (requests.Iterate call k choice) p reply ready valid same is =
      iterate_move k choice ready.0 ready.1
      ∙ ap (λ it. over (tables_keeping (requests.Iterate call k choice) c hand.op (replies.Done answers.Nothing) (serving.iteration_behind (requests.Iterate call k choice) seen (Some x) it) w.tables)) (sym ready.1)
      ∙ ap (λ a. over (tables_keeping (requests.Iterate call k choice) c hand.op a (serving.iteration_behind (requests.Iterate call k choice) seen (Some x) hand.iteration) w.tables)) (sym is)
  tables_move (requests.Next call k) p reply ready valid same is =
      next_move ready valid (same ∙ ap ids_of (asked_is (asked hand.op) kept ready))
      ∙ ap (λ it. over (tables_keeping (requests.Next call k) c hand.op reply (serving.iteration_behind (requests.Next call k) seen (Some x) it) (tables_lending (requests.Next call k) c hand.op w.tables))) (sym (asked_is (asked hand.op) kept ready))
  tables_move request p reply ready valid same is = refl

-- as much room is taken then
pub rooms_moved : (w : World) (R : RecordState) (c : ℕ) (op : Op) (request : Request) (reply : Reply) (it : Option KeptIds) → LiveHaveRoom R w.tables → LiveHaveRoom R (tables_keeping request c op reply it (tables_lending request c op w.tables))
rooms_moved w R c op (requests.Iterate call k choice) (replies.Done answer) (Some it) rooms = rooms_client w R c (started (asked op) it.room (λ choice. it.ids)) rooms
rooms_moved w R c op (requests.Iterate call k choice) (replies.Done answer) None rooms = rooms
rooms_moved w R c op (requests.Iterate call k choice) reply it rooms = rooms
rooms_moved w R c op (requests.Next call k) reply (Some it) rooms = rooms_client (record w { tables = at_client c (with_client (lending (asked op))) w.tables }) R c (come_back (asked op) it) (rooms_client w R c (lending (asked op)) rooms)
rooms_moved w R c op (requests.Next call k) reply None rooms = rooms_client w R c (lending (asked op)) rooms
rooms_moved w R c op request reply it rooms = rooms

-- what the step asks of the tables

pub can_lend : (request : Request) (m : Machine) (s : CallState) (hand : InHand) (t : ClientState) → TablesReady request m s hand t → CanLend request hand.op t
can_lend (requests.Next call k) m s hand t ready = going_out (asked hand.op) t ready
can_lend request m s hand t ready = tt

pub can_keep : (request : Request) (m : Machine) (s : CallState) (c : ℕ) (hand : InHand) (tables : List TableState) → TablesReady request m s hand (kept_by tables c) → IsBuilt hand.op → HasIterationRoom request (kept_by tables c) → (kept_by tables c).last_iteration < 2 ^ 32 - 1 → CanKeep request hand.op (kept_by (tables_lending request c hand.op tables) c)
can_keep (requests.Iterate call k choice) m s c hand tables ready built room number = (built, room, number)
can_keep (requests.Next call k) m s c hand tables ready built room number =
    subst (IsOutOf (asked hand.op)) (sym (kept_changed c tables (lending (asked hand.op)) (slice_get tables c) refl (λ none. lends_none (asked hand.op)))) (is_out (asked hand.op) (kept_by tables c) ready)
can_keep request m s c hand tables ready built room number = tt

-- ---- the call in hand

-- a step that starts an iteration ends its call
abbrev pub EndsIts : Request → Option Outcome → Type 0
EndsIts (requests.Iterate call k choice) end = IsSome end
EndsIts request end = Unit {0}

-- so the room that was taken out of it does not matter
pub lent_left : (request : Request) (hand : InHand) (d : StepDone) (end : Option Outcome) → EndsIts request end → left end (hand_taken d (hand_lending request hand)) ≡ left end (hand_taken d hand)
lent_left (requests.Iterate call k choice) hand d None ends = absurd (cc ends)
lent_left (requests.Iterate call k choice) hand d (Some end) ends = refl
lent_left request hand d end ends = refl

-- nor where it keeps what it has made
pub lent_made : (request : Request) (hand : InHand) (d : StepDone) (reply : Reply) (details : Details) (end : Option Outcome) → EndsIts request end → left end (hand_made request reply details (hand_taken d (hand_lending request hand))) ≡ left end (hand_made request reply details (hand_taken d hand))
lent_made (requests.Iterate call k choice) hand d reply details None ends = absurd (cc ends)
lent_made (requests.Iterate call k choice) hand d reply details (Some end) ends = refl
lent_made request hand d reply details end ends = refl

-- it has its operation and its driver
pub lent_op : (request : Request) (hand : InHand) → (hand_lending request hand).op ≡ hand.op
lent_op (requests.Iterate call k choice) hand = refl
lent_op request hand = refl

pub lent_end : (R : RecordState) (request : Request) (hand : InHand) (d : StepDone) (reply : Reply) → end_by R d reply (hand_lending request hand) ≡ end_by R d reply hand
lent_end R (requests.Iterate call k choice) hand d reply = refl
lent_end R request hand d reply = refl
