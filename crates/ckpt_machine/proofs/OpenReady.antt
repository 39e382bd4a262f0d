-- What the code relies on of an open in hand: what is due of it can be served, or done by the record; and its client has room for the handle.
use Rattle.std.proofs.Common.{◌≡◌, inl, ℕ, zero, suc, ◌+◌, ◌<◌, ◌≤◌, length, Option, Some, None, Bool, true, false, cond, not, ◌&&◌, ◌==◌, nat_le, nat_lt, refl, sym, ap, subst, ◌∙◌, arith}
use Rattle.std.specs.Prelude.{is_some, IsSome, IsSomeAnd, IfSome, slice_index}
use Rattle.std.proofs.lemmas.Bool.{leb-false, lt-ltb, ltb-false, or_parts}
use Rattle.ckpt_types.specs.declared.ais_error.AisError.TheVariants.{Exist, NoResources}
use Rattle.ckpt_types.specs.declared.answers.Cause.TheVariants.{Plain, Count}
use Rattle.ckpt_types.specs.declared.answers.Outcome.TheVariants.{Refused}
use Rattle.ckpt_types.specs.declared.attributes.CreationAttributes.{CreationAttributes}
use Rattle.ckpt_types.specs.declared.identities.ActorName.{ActorName}
use Rattle.ckpt_types.specs.declared.identities.ActorName.TheVariants.{Client, Node}
use Rattle.ckpt_types.specs.declared.identities.CallId.{CallId}
use Rattle.ckpt_types.specs.Attributes.{IsWellFormed}
use Rattle.ckpt_types.specs.Limits.{name_max, handles_max}
use Rattle.client_handles.specs.ClientState.{has_handle_room}
use Rattle.ckpt_types.proofs.AttributeLaws.{IsWellFormed-from_check}
use Rattle.ckpt_types.proofs.Lists.{slice_index-replicate}
use Rattle.node_msgs.specs.declared.requests.Request.{Request}
use Rattle.node_msgs.specs.declared.requests.Request.TheVariants as requests
use Rattle.node_msgs.specs.declared.next.Next.{Next}
use Rattle.node_msgs.specs.declared.next.Next.TheVariants.{Serve, Event, End}
use Rattle.node_msgs.specs.declared.next.RecordStep.TheVariants as events
use Rattle.cluster_record.specs.declared.calls.Making.{Making}
use Rattle.cluster_record.specs.declared.clients.LiveClient.{LiveClient}
use Rattle.cluster_record.specs.declared.entries.Entry.{Entry}
use Rattle.cluster_record.specs.Calls.{IsClient, client_of, number_of}
use Rattle.cluster_record.specs.DueOpen.{OpenState, create_next, entry_by, entry_next, on_named, on_free_name, accepts, reserve_or_finish, targets_by, targets_of, on_making, by_making, making_ckpt}
use Rattle.cluster_record.specs.Placement.{is_collocated, targets}
use Rattle.ckpt_types.specs.Asks.{asked}
use Rattle.cluster_record.specs.Makings.{IsMakingOf, makings_of}
use Rattle.cluster_record.specs.Places.{find_key}
use Rattle.cluster_record.specs.RecordReady.{CanOpen}
use Rattle.cluster_record.specs.RecordState.{RecordState, entry_of, home_of, named, client_key, node_of_client, is_up, is_live, is_live_client, is_live_from, is_call_of}
use Rattle.cluster_record.specs.StepDone.{has, lacks, first_lacking}
use Rattle.cluster_record.proofs.IdentityLaws.{entry_of-find}
use Rattle.cluster_record.proofs.MakingLaws.{making-own}
use Rattle.cluster_record.proofs.MakingCounts.{one_if, is_call_of-own, makings_of-gone}
use Rattle.ckpt_machine.specs.Drivers as drivers
use Rattle.ckpt_machine.specs.Driving.{driver_next}
use Rattle.ckpt_machine.specs.Facts.{IsServable, IsReservable, IsFinishable, IsAddable, FitsOpen, HasLiveMaker, IsEventReady}
use Rattle.ckpt_machine.specs.Entries.{IsMakingEntry}
use Rattle.ckpt_machine.specs.InHand.{AreGoodAttributes, attributes_asked, is_enter, IsMakingIn, IsOpenIn}
use Rattle.ckpt_machine.specs.Invariant.{IsGoodIn, IsGoodClient, IsMaker, IsReservedFor, InvariantIn}
use Rattle.ckpt_machine.specs.Machine.{Machine, CallState, who}
use Rattle.ckpt_machine.specs.Due.{due, driver_of, rooms_of}
use Rattle.ckpt_machine.specs.Shape.{Shape}
use Rattle.ckpt_machine.proofs.Deadlines.{in_time-either}
use Rattle.ckpt_machine.proofs.OptionLemmas.{IsSomeAnd-from}
use Rattle.ckpt_machine.proofs.EndedTables.{client_by_number}
use Rattle.ckpt_machine.proofs.Lacking.{collocated_unreserved}
use Rattle.ckpt_machine.proofs.NodeLists.{first_lacking-is, first_lacking-None, not-lacked, lacked-has, index-within}
use Rattle.ckpt_machine.proofs.Targets.{targets-length, target-up}
use Rattle.ckpt_machine.proofs.OwnMaking.{open_at, making_at, making_entry}

-- a reservation is all that an open asks of a node
abbrev pub IsReserveOf : Request → Type 0
IsReserveOf (requests.Reserve k) = Unit {0}
IsReserveOf request = ⊥

-- what the code relies on of what is due of an open
abbrev pub IsReadyOpen : Machine → CallState → OpenState → Next → Type 0
IsReadyOpen m s o (Serve r request) = (r < 8) × IsServable m r request × IsReserveOf request
IsReadyOpen m s o (Event step) = IsEventReady m s (drivers.Open o) step
IsReadyOpen m s o (End outcome) = Unit {0}

-- what is not 0 is from 1
one_or_more : (n : ℕ) → (n == 0) ≡ false → 1 ≤ n
one_or_more zero e = absurd (cc e)
one_or_more (suc n) e = omega arith

-- attributes that passed their check are well formed
well_formed : (a : Option CreationAttributes) → AreGoodAttributes a → IfSome a IsWellFormed
well_formed None good = tt
well_formed (Some a) good = IsWellFormed-from_check a good

-- the client of a call that is live is live
pub client_live : (R : RecordState) (call : CallId) → IsClient call.actor → is_live R call ≡ true → is_live_client (client_of call) R ≡ true
client_live R call client live = by_actor call.actor call.number client live
  where
    -- it is found
    by_found : (o : Option LiveClient) (n : ℕ) → is_live_from o n ≡ true → is_some o ≡ true
    by_found None n live = absurd (cc live)
    by_found (Some x) n live = refl

    by_actor : (a : ActorName) (n : ℕ) → IsClient a → is_live R (record { actor = a; number = n }) ≡ true → is_live_client (number_of a) R ≡ true
    by_actor (Client c) n client live = by_found (find_key client_key c R.clients) n live
    by_actor (Node r) n client live = absurd client

-- the node of a client that is live is up
pub home_is_up : (m : Machine) (shapes : ℕ → Shape) → InvariantIn shapes m → (c : ℕ) → is_live_client c m.cluster ≡ true → is_up (home_of c m.cluster) m.cluster ≡ true
home_is_up m shapes inv c live = by_client (find_key client_key c m.cluster.clients) live (inv.clients c)
  where
    by_client : (o : Option LiveClient) → is_some o ≡ true → IfSome o (IsGoodClient m.next m.cluster c) → is_up (node_of_client o) m.cluster ≡ true
    by_client None live good = absurd (cc live)
    by_client (Some x) live good = good.1

module _ (m : Machine) (shapes : ℕ → Shape) (inv : InvariantIn shapes m) (s : CallState) (o : OpenState) (held : m.in_hand (who s) ≡ Some s) (is : driver_of s ≡ drivers.Open o) where
  -- where its steps have led it
  at_open : IsOpenIn m s o
  at_open = open_at m shapes inv s o held is

  -- it can be asked of the record
  can_open : CanOpen o.ask m.cluster
  can_open =
      let parts = or_parts (length o.ask.name == 0) (nat_lt name_max (length o.ask.name)) at_open.named in
      record {
        client = at_open.within;
        node = at_open.node;
        name = (one_or_more (length o.ask.name) parts.0, ltb-false name_max (length o.ask.name) parts.1);
        attributes = well_formed o.ask.attrs at_open.declared;
      }

  -- ---- with nothing in the making

  -- a checkpoint that is asked for is made where there is room
  create_ready : (room : Bool) (a : CreationAttributes) → o.ask.attrs ≡ Some a → named o.ask.name m.cluster.entries ≡ None → IsReadyOpen m s o (create_next m.cluster room)
  create_ready false a given free = tt
  create_ready true a given free =
      elim (nat_le 16 (length m.cluster.entries)) as (λ b. nat_le 16 (length m.cluster.entries) ≡ b → IsReadyOpen m s o (cond b (End (Refused NoResources (Count 16))) (Event events.Create))) [
        | true ↦ λ full. tt
        | false ↦ λ few. (leb-false 16 (length m.cluster.entries) few, IsSomeAnd-from o.ask.attrs (λ a. Unit {0}) a given tt, free, can_open, at_open.caller)
      ] refl

  -- of a name that is free
  free_ready : (room : Bool) (a : Option CreationAttributes) → o.ask.attrs ≡ a → named o.ask.name m.cluster.entries ≡ None → IsReadyOpen m s o (on_free_name m.cluster room o.deadline a)
  free_ready room None given free = tt
  free_ready room (Some a) given free = in_time-either (IsReadyOpen m s o) o.deadline m.cluster.moment (create_next m.cluster room) (λ outcome. tt) (create_ready room a given free)

  -- its client is live
  own_live : is_live_client (client_of s.call) m.cluster ≡ true
  own_live = client_live m.cluster s.call at_open.caller ((inv.hands (who s) s held).live (ap is_enter is))

  -- a replica of one that is made can be added: nothing is reserved for it
  addable : (e : Entry) → named o.ask.name m.cluster.entries ≡ Some e → e.making ≡ None → IsAddable m o.ask.client e
  addable e found made = record {
    nodes = (subst (IsGoodIn m e.identity (shapes e.identity) e) made (inv.entries e.identity e there)).nodes;
    up = home_is_up m shapes inv o.ask.client (subst (λ (c : ℕ). is_live_client c m.cluster ≡ true) (sym at_open.client) own_live);
    unreserved = λ collocated. by_reserved collocated (m.reserved e.identity (home_of o.ask.client m.cluster)) refl;
  }
    where
      there : entry_of e.identity m.cluster.entries ≡ Some e
      there = entry_of-find _ m.cluster.entries e inv.rises found

      by_reserved : is_collocated e.attributes ≡ true → (w : Option ℕ) → m.reserved e.identity (home_of o.ask.client m.cluster) ≡ w → m.reserved e.identity (home_of o.ask.client m.cluster) ≡ None
      by_reserved collocated None none = none
      by_reserved collocated (Some n) some =
          let home = home_of o.ask.client m.cluster in
          absurd (collocated_unreserved m.cluster home n e (subst (λ o. IsSomeAnd o (IsReservedFor m.cluster home n)) there (inv.reserves e.identity home n some)) made collocated)

  -- the call that is making it, if one is, is live
  maker_live : (e : Entry) → named o.ask.name m.cluster.entries ≡ Some e → (maker : Option CallId) → e.making ≡ maker → IfSome maker (λ by. is_live m.cluster by ≡ true)
  maker_live e found None made = tt
  maker_live e found (Some by) made_by =
      let there : entry_of e.identity m.cluster.entries ≡ Some e = entry_of-find _ m.cluster.entries e inv.rises found in
      let maker : IsMaker m e.identity by = (subst (IsGoodIn m e.identity (shapes e.identity) e) made_by (inv.entries e.identity e there)).1 in
      ap (is_live m.cluster) (sym maker.call_is) ∙ (inv.hands (who maker.state) maker.state maker.in_hand).live (ap is_enter maker.driver_is)

  -- the record is asked to open what has the attributes asked for, where it is made
  asked_ready : (e : Entry) → named o.ask.name m.cluster.entries ≡ Some e → (e.making ≡ None → accepts o.ask.attrs e ≡ true) → IsReadyOpen m s o (Event events.Open)
  asked_ready e found takes = (IsSomeAnd-from (named o.ask.name m.cluster.entries) (FitsOpen m o.ask) e found (λ made. (takes made, addable e found made)), can_open, at_open.caller, IsSomeAnd-from (named o.ask.name m.cluster.entries) (HasLiveMaker m.cluster) e found (maker_live e found e.making refl))

  -- one that is made is opened where it has the attributes asked for and there is room for the handle
  made_ready : (room accepted : Bool) (e : Entry) → accepts o.ask.attrs e ≡ accepted → named o.ask.name m.cluster.entries ≡ Some e → IsReadyOpen m s o (cond (not accepted) (End (Refused Exist Plain)) (cond (not room) (End (Refused NoResources (Count 32))) (Event events.Open)))
  made_ready room false e takes found = tt
  made_ready false true e takes found = tt
  made_ready true true e takes found = asked_ready e found (λ made. takes)

  -- of a name that a checkpoint has
  entry_ready : (room : Bool) (e : Entry) (maker : Option CallId) → e.making ≡ maker → named o.ask.name m.cluster.entries ≡ Some e → IsReadyOpen m s o (entry_by maker room o.ask.attrs e)
  entry_ready room e None made found = made_ready room (accepts o.ask.attrs e) e refl found
  entry_ready room e (Some by) made_by found = asked_ready e found (λ made. absurd (let w : None ≡ Some by = sym made ∙ made_by in cc w))

  -- of any name
  named_ready : (room : Bool) (x : Option Entry) → named o.ask.name m.cluster.entries ≡ x → IsReadyOpen m s o (on_named m.cluster room o.deadline o.ask.attrs x)
  named_ready room None found = free_ready room o.ask.attrs refl found
  named_ready room (Some e) found = in_time-either (IsReadyOpen m s o) o.deadline m.cluster.moment (entry_next room o.ask.attrs e) (λ outcome. tt) (entry_ready room e e.making refl found)

  -- ---- with a checkpoint in the making

  module _ (making : Making) (makes : o.making ≡ Some making) where
    -- how far the making is
    its : IsMakingIn m s making
    its = making_at m shapes inv s o making held is makes

    -- the entry, as it was created
    abbrev entry : (e : Entry) × (entry_of making.ckpt m.cluster.entries ≡ Some e) × (e.making ≡ Some s.call) × IsMakingEntry e
    entry = making_entry m shapes inv s o making held is makes

    -- what is asked for is what the checkpoint declares, so these are the nodes on which it is made
    targets_are : targets_of o.ask m.cluster ≡ targets entry.0.attributes (home_of o.ask.client m.cluster) m.cluster.up
    targets_are = ap (λ a. targets_by a (home_of o.ask.client m.cluster) m.cluster.up) (sym (ap attributes_asked at_open.asks.asks) ∙ subst (λ o. IsSomeAnd o (λ (e : Entry). attributes_asked (asked s.op) ≡ Some e.attributes)) entry.1 its.declares)

    -- it keeps one incarnation for each node
    same_length : length making.reserved ≡ length (targets_of o.ask m.cluster)
    same_length = its.nodes ∙ sym (ap length targets_are ∙ targets-length entry.0.attributes (home_of o.ask.client m.cluster) m.cluster.up inv.up)

    -- one of them is up, in its incarnation
    there_up : (r : ℕ) → (slice_index (targets_of o.ask m.cluster) r == 0) ≡ false → slice_index (targets_of o.ask m.cluster) r ≡ slice_index m.cluster.up r
    there_up r there = ap (λ nodes. slice_index nodes r) targets_are ∙ target-up entry.0.attributes (home_of o.ask.client m.cluster) m.cluster.up r (ap (λ nodes. slice_index nodes r == 0) (sym targets_are) ∙ there)

    -- it is in the making by a call of the client
    own : IsMakingOf m.cluster o.ask.client (making_ckpt o.making)
    own = subst (λ w. IsMakingOf m.cluster o.ask.client (making_ckpt w)) (sym makes) (making-own (entry_of making.ckpt m.cluster.entries) s.call o.ask.client at_open.client its.there)

    -- no node is complete yet
    none_complete : (r : ℕ) → slice_index entry.0.complete r ≡ 0
    none_complete r = ap (λ nodes. slice_index nodes r) entry.3.complete ∙ slice_index-replicate 8 r

    -- the node that is lacked first can reserve
    reserve_ready : (r : ℕ) → first_lacking 0 (targets_of o.ask m.cluster) making.reserved ≡ Some r → IsReadyOpen m s o (Serve r (requests.Reserve making.ckpt))
    reserve_ready r lacked =
        let at_r = first_lacking-is 0 (targets_of o.ask m.cluster) making.reserved r lacked in
        let here : r ≡ 0 + at_r.place = at_r.at in
        let same : at_r.place ≡ r = omega (arith, here) in
        let target : (slice_index (targets_of o.ask m.cluster) r == 0) ≡ false = (lacked-has (slice_index (targets_of o.ask m.cluster) r) (slice_index making.reserved r) (subst (λ (q : ℕ). lacks (slice_index (targets_of o.ask m.cluster) q) (slice_index making.reserved q) ≡ true) same at_r.lacked)).0 in
        let there : (slice_index m.cluster.up r == 0) ≡ false = ap (λ (n : ℕ). n == 0) (sym (there_up r target)) ∙ target in
        let within : r < 8 = subst (λ (n : ℕ). r < n) inv.up (index-within m.cluster.up r there) in (
          within,
          IsSomeAnd-from (entry_of making.ckpt m.cluster.entries) (IsReservable m.cluster r) entry.0 entry.1 (record {
            up = λ i. lt-ltb r 8 within i && not (there i);
            awaited = inl (ap is_some entry.2);
            not_complete = none_complete r;
            well_formed = entry.3.well_formed;
          }),
          tt,
        )

    -- a node on which it is not made has not reserved
    pub none_else : (r : ℕ) → (slice_index (targets entry.0.attributes (home_of o.ask.client m.cluster) m.cluster.up) r == 0) ≡ true → m.reserved making.ckpt r ≡ None
    none_else r none = by_reserved (m.reserved making.ckpt r) refl
      where
        targets_now : targets_by (attributes_asked (asked s.op)) (home_of (client_of s.call) m.cluster) m.cluster.up ≡ targets_of o.ask m.cluster
        targets_now = (λ i. targets_by (ap attributes_asked at_open.asks.asks i) (home_of (sym at_open.client i) m.cluster) m.cluster.up)

        by_reserved : (n : Option ℕ) → m.reserved making.ckpt r ≡ n → m.reserved making.ckpt r ≡ None
        by_reserved None free = free
        by_reserved (Some n) some = absurd (let w : true ≡ false = sym none ∙ ap (λ nodes. slice_index nodes r == 0) (sym (targets_now ∙ targets_are)) ∙ its.within r (ap is_some some) in cc w)

    -- where none is lacked it can be finished
    finish_ready : first_lacking 0 (targets_of o.ask m.cluster) making.reserved ≡ None → IsReadyOpen m s o (Event events.Finish)
    finish_ready none = (
      subst (IsFinishable m o.ask.client) (sym makes) (IsSomeAnd-from (entry_of making.ckpt m.cluster.entries) _ entry.0 entry.1 (
        λ r there.
            let target : (slice_index (targets_of o.ask m.cluster) r == 0) ≡ false = ap (λ nodes. slice_index nodes r == 0) targets_are ∙ there in
            its.reserved r (ap (λ n. has n (slice_index making.reserved r)) (sym (there_up r target)) ∙ not-lacked (slice_index (targets_of o.ask m.cluster) r) (slice_index making.reserved r) target (first_lacking-None 0 (targets_of o.ask m.cluster) making.reserved same_length none r)),
        λ r none. none_else r none,
        entry.3.generation,
        none_complete,
      )),
      own,
    )

    -- the record counts it among those that its client makes, which have a free place for a handle each
    handle_room : has_handle_room (m.tables s.call.actor) ≡ true
    handle_room =
        let own : one_if (is_call_of (client_of s.call) entry.0.making) ≡ 1 = ap one_if (ap (is_call_of (client_of s.call)) entry.2 ∙ is_call_of-own s.call at_open.caller) in
        let counted = makings_of-gone (client_of s.call) making.ckpt m.cluster.entries entry.0 inv.rises entry.1 in
        let few : length (m.tables (Client (client_of s.call))).handles + makings_of (client_of s.call) m.cluster.entries ≤ handles_max = inv.places (client_of s.call) in
        let here : length (m.tables s.call.actor).handles ≡ length (m.tables (Client (client_of s.call))).handles = ap (λ b. length (m.tables b).handles) (client_by_number s.call.actor at_open.caller) in
        lt-ltb (length (m.tables s.call.actor).handles) handles_max (omega (arith, own, counted, few, here))

    -- it can be undone
    undo_ready : IsReadyOpen m s o (Event events.Undo)
    undo_ready = (IsSomeAnd-from o.making (λ making. Unit {0}) making makes tt, own)

    -- it is undone where memory was refused
    by_memory : (refused : Bool) (first : Option ℕ) → first_lacking 0 (targets_of o.ask m.cluster) making.reserved ≡ first → IsReadyOpen m s o (cond refused (Event events.Undo) (reserve_or_finish making.ckpt first))
    by_memory true first lacked = undo_ready
    by_memory false (Some r) lacked = reserve_ready r lacked
    by_memory false None none = finish_ready none

    -- before its deadline
    making_ready : IsReadyOpen m s o (by_making m.cluster (rooms_of m s).handles o (Some making))
    making_ready = in_time-either (IsReadyOpen m s o) o.deadline m.cluster.moment (on_making m.cluster o.ask making) (λ outcome. tt) (by_memory making.refused (first_lacking 0 (targets_of o.ask m.cluster) making.reserved) refl)

  -- ---- any open

  -- what is due of it
  pub open_ready : IsReadyOpen m s o (due m s)
  open_ready = subst (IsReadyOpen m s o) (sym due_is) (by_making_of o.making refl)
    where
      due_is : due m s ≡ by_making m.cluster (rooms_of m s).handles o o.making
      due_is = ap (driver_next m.cluster (rooms_of m s)) is

      by_making_of : (w : Option Making) → o.making ≡ w → IsReadyOpen m s o (by_making m.cluster (rooms_of m s).handles o w)
      by_making_of None makes = named_ready (rooms_of m s).handles (named o.ask.name m.cluster.entries) refl
      by_making_of (Some making) makes = making_ready making makes

  -- with a checkpoint in the making it has room for the handle, and its client is live
  pub open_fits : (IsSome o.making → has_handle_room (m.tables s.call.actor) ≡ true) × (is_live_client (client_of s.call) m.cluster ≡ true)
  open_fits = (by_making_of o.making refl, own_live)
    where
      by_making_of : (w : Option Making) → o.making ≡ w → IsSome w → has_handle_room (m.tables s.call.actor) ≡ true
      by_making_of None makes some = absurd (cc some)
      by_making_of (Some making) makes some = handle_room making makes
