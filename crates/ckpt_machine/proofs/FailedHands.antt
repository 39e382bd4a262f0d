-- A call that is left in hand, behind the failure of a node.
use Rattle.std.proofs.Common.{◌≡◌, ℕ, ◌≤◌, ◌+◌, Option, Some, None, is_some, Bool, true, false, cond, ◌==◌, refl, sym, ap, subst, ◌∙◌, arith}
use Rattle.std.specs.Prelude.{IsSome, IsSomeAnd, IfSome, slice_set, slice_index, slice_get, replicate}
use Rattle.std.proofs.lemmas.Bool.{eqb-true, ne_eqb}
use Rattle.std.proofs.lemmas.Option.{same_Some}
use Rattle.ckpt_types.specs.declared.attributes.CreationAttributes.{CreationAttributes}
use Rattle.ckpt_types.specs.declared.identities.CallId.{CallId}
use Rattle.ckpt_types.specs.declared.identities.Who.{Who}
use Rattle.ckpt_types.specs.declared.identities.ActorName.{ActorName}
use Rattle.ckpt_types.specs.declared.identities.ActorName.TheVariants.{Client, Node}
use Rattle.ckpt_types.specs.Asks.{MayAsk, asked}
use Rattle.ckpt_types.specs.Asks as asking
use Rattle.ckpt_types.specs.Limits.{nodes_max}
use Rattle.section_iter.specs.Room.{room_declared}
use Rattle.weak_marks.specs.Marks.{Marked}
use Rattle.cluster_record.specs.declared.calls.Making.{Making}
use Rattle.cluster_record.specs.declared.calls.MarksMade.{MarksMade}
use Rattle.cluster_record.specs.declared.calls.SyncKind.{SyncKind}
use Rattle.cluster_record.specs.declared.calls.SyncKind.TheVariants.{Synchronize, ActiveSet}
use Rattle.cluster_record.specs.declared.calls.UpdatePhase.{UpdatePhase}
use Rattle.cluster_record.specs.declared.calls.UpdatePhase.TheVariants.{Staging, Committing, Claiming, Claimed, Withdrawing, Resolving}
use Rattle.cluster_record.specs.declared.entries.Entry.{Entry}
use Rattle.cluster_record.specs.Calls.{IsClient, client_of, number_of, same_call}
use Rattle.cluster_record.specs.DueActive.{ActiveState}
use Rattle.cluster_record.specs.DueOnce.{OneStep}
use Rattle.cluster_record.specs.DueOnce as once
use Rattle.cluster_record.specs.DueOpen.{OpenState, targets_by}
use Rattle.cluster_record.specs.DueSync.{SyncState}
use Rattle.cluster_record.specs.DueUpdate.{UpdateState}
use Rattle.cluster_record.specs.Failing.{goes_with_node, is_of_those, survives}
use Rattle.cluster_record.specs.Placement.{is_all, is_collocated, alone_on}
use Rattle.cluster_record.specs.RecordState.{RecordState, entry_of, home_of, is_active, is_live, is_live_client, no_nodes, node_of_client, client_key}
use Rattle.cluster_record.specs.Places.{find_key}
use Rattle.cluster_record.specs.StepDone.{has}
use Rattle.ckpt_machine.specs.Dead.{is_enter}
use Rattle.ckpt_machine.specs.Drivers.{Driver}
use Rattle.ckpt_machine.specs.Drivers as drivers
use Rattle.ckpt_machine.specs.Entries.{WasMade}
use Rattle.ckpt_machine.specs.InHand.{IsInPlace, IsOnceAt, IsOpenIn, IsMakingIn, IsUpdateIn, PhaseKeeps, IsActiveIn, IsSyncBy, IsInHand, HasServedActive, is_marked_by, are_present, is_held_by, attributes_asked}
use Rattle.ckpt_machine.specs.Invariant.{InvariantIn, IsGoodIn}
use Rattle.ckpt_machine.specs.Machine.{Machine, Snapshot, CallState}
use Rattle.ckpt_machine.specs.Options.{is_weak}
use Rattle.ckpt_machine.specs.Tables.{handle_asked}
use Rattle.client_handles.specs.ClientState.{emptied}
use Rattle.ckpt_machine.specs.Shape.{Shape, IsCompleteOn, is_owner}
use Rattle.ckpt_machine.specs.Failing.{is_of_node, enters_on, failed_at}
use Rattle.ckpt_machine.specs.After.{reservation_under}
use Rattle.ckpt_machine.specs.Due.{driver_of, count_in, asked_handle, home_by}
use Rattle.ckpt_machine.proofs.Actors.{same_call-true}
use Rattle.ckpt_machine.proofs.Askers.{asker_client, client_within}
use Rattle.ckpt_machine.proofs.CopiesStay.{CopiesAlike, IsCopyIn-alike}
use Rattle.ckpt_machine.proofs.OptionLemmas.{IsSomeAnd-at, IsSomeAnd-from, IfSome-from, IfSome-at}
use Rattle.ckpt_machine.proofs.NodeLists.{index-other}
use Rattle.ckpt_machine.proofs.FailedEntries.{IsFailedEntry, failed_rises, Failed, found_failed, making_left}
use Rattle.ckpt_machine.proofs.OpenReady.{client_live}
use Rattle.ckpt_machine.proofs.NodeGone.{no_node, complete_was, complete_still}
use Rattle.ckpt_machine.proofs.FailedClients.{up_other, found_staying, live_staying, of_node_client, of_those, home_elsewhere}
use Rattle.ckpt_machine.proofs.FailedCalls.{IsDead-then, left_is, left_stays, left_enters}
use Rattle.ckpt_machine.proofs.FailedShape.{shape_left, shape_then, marks_left, owner_left, owner_stays}
use Rattle.ckpt_types.proofs.Lists.{slice_index-cleared}

module _ (m : Machine) (shapes : ℕ → Shape) (inv : InvariantIn shapes m) (r : ℕ) where
  -- the machine behind the failure
  abbrev n : Machine
  n = failed_at r m

  -- its record
  abbrev R : RecordState
  R = n.cluster

  -- how many updates the replicas have
  abbrev counts : ℕ → ℕ → ℕ
  counts k q = count_in (m.replicas k q)

  -- the clients that go
  abbrev goes : ℕ → Bool
  goes = goes_with_node m.cluster r

  -- the shapes of the checkpoints behind it
  abbrev pub shapes_then : ℕ → Shape
  shapes_then k = shape_then R r (entry_of k m.cluster.entries) (shapes k)

  -- an entry that is there, and what it was
  pub record WasEntry (k : ℕ) (f : Entry) : Type 0 where
    pub e : Entry
    pub was : entry_of k m.cluster.entries ≡ Some e
    pub left : IsFailedEntry (counts e.identity) goes r e f
    pub others : is_of_those goes e.making ≡ false
    pub kept : survives f ≡ true
    pub shape : shapes_then k ≡ shape_left R r e.active (shapes k)

  -- each entry was there so
  pub was_entry : (k : ℕ) (f : Entry) → entry_of k R.entries ≡ Some f → WasEntry k f
  was_entry k f found =
      let it : Failed counts r m.cluster inv.rises k f = found_failed counts r m.cluster inv.rises k f found in
      record { e = it.before; was = it.was; left = it.left; others = it.others; kept = it.kept; shape = ap (λ o. shape_then R r o (shapes k)) it.was }

  -- what was made is made still, or gone
  pub made_then : (k : ℕ) → WasMade m.cluster k → WasMade R k
  made_then k was = record {
    given = was.given;
    made = IfSome-from (entry_of k R.entries) (λ f. f.making ≡ None) (λ f found. let at = was_entry k f found in at.left.making ∙ subst (λ o. IfSome o (λ (e : Entry). e.making ≡ None)) at.was was.made);
  }

  -- what holds of what a checkpoint declares, where it is there
  declared_then : (P : CreationAttributes → Type 0) (k : ℕ) → IfSome (entry_of k m.cluster.entries) (λ e. P e.attributes) → IfSome (entry_of k R.entries) (λ e. P e.attributes)
  declared_then P k holds = IfSome-from (entry_of k R.entries) (λ e. P e.attributes) (λ f found.
      let at = was_entry k f found in subst P (sym at.left.attributes) (subst (λ o. IfSome o (λ (e : Entry). P e.attributes)) at.was holds))

  -- a complete node is another, and was so
  complete_before : (e f : Entry) → f.complete ≡ (slice_set e.complete r 0) → (q : ℕ) → IsCompleteOn f q → ((q == r) ≡ false) × IsCompleteOn e q
  complete_before e f same q there = complete_was e.complete r q (ap (λ cs. slice_index cs q == 0) (sym same) ∙ there)

  module _ (w : Who) (s : CallState) (hand : n.in_hand w ≡ Some s) where
    -- it was in hand
    held : m.in_hand w ≡ Some s
    held = (left_is m shapes inv r w s hand).0

    -- its client stays
    stays : is_of_node m.cluster r s.call.actor ≡ false
    stays = left_stays m shapes inv r s (left_is m shapes inv r w s hand).1

    -- and it is no Initialize that names the node
    no_enter : enters_on r (asked s.op) ≡ false
    no_enter = left_enters m shapes inv r s (left_is m shapes inv r w s hand).1

    -- it was where its steps had led it
    at_hand : IsInHand m shapes w s
    at_hand = inv.hands w s held

    -- by the number of its client, where it is one's
    client_stays : IsClient s.call.actor → goes (client_of s.call) ≡ false
    client_stays client = sym (of_node_client m.cluster r s.call.actor client) ∙ stays

    -- who is as it was
    found_then : IsClient s.call.actor → find_key client_key (client_of s.call) R.clients ≡ find_key client_key (client_of s.call) m.cluster.clients
    found_then client = found_staying counts r m.cluster (client_of s.call) (client_stays client)

    -- on the same node
    home_then : IsClient s.call.actor → home_of (client_of s.call) R ≡ home_of (client_of s.call) m.cluster
    home_then client = ap node_of_client (found_then client)

    -- and its call as live
    live_then : is_live R s.call ≡ is_live m.cluster s.call
    live_then = live_staying counts r m.cluster s.call stays

    -- its actor is on the node where it was
    placed_then : home_by s.call.actor R ≡ home_by s.call.actor m.cluster
    placed_then = by_actor s.call.actor stays
      where
        by_actor : (a : ActorName) → is_of_node m.cluster r a ≡ false → home_by a R ≡ home_by a m.cluster
        by_actor (Client c) stays = ap node_of_client (found_staying counts r m.cluster c stays)
        by_actor (Node q) other = refl

    -- which is another one
    elsewhere : is_enter (driver_of s) ≡ false → (s.kept.node == r) ≡ false
    elsewhere other = ap (λ (q : ℕ). q == r) (at_hand.home other) ∙ by_actor s.call.actor stays (λ client. client_live m.cluster s.call client (at_hand.live other)) at_hand.asker
      where
        by_actor : (a : ActorName) → is_of_node m.cluster r a ≡ false → (IsClient a → is_live_client (number_of a) m.cluster ≡ true) → MayAsk a (asked s.op) → (home_by a m.cluster == r) ≡ false
        by_actor (Client c) stays live may = home_elsewhere m.cluster r c (live (client_within c (asked s.op) may)) stays
        by_actor (Node q) other live may = other

    -- its tables are what they were
    handle_then : IsSome (asked_handle m s.call.actor s.op) → IsSome (asked_handle n s.call.actor s.op)
    handle_then there = ap (λ b. is_some (handle_asked (asked s.op) (cond b (emptied (m.tables s.call.actor)) (m.tables s.call.actor)))) stays ∙ there

    -- ---- by what drives it

    -- a call of one step
    once_then : (x : OneStep) → IsOnceAt m s x → IsOnceAt n s x
    once_then (once.Enter q) at = record {
      version = at.version;
      callbacks = at.callbacks;
      asks = at.asks;
      client = at.client;
      up = up_other counts r m.cluster q (ap (enters_on r) (sym at.asks) ∙ no_enter) ∙ at.up;
      not_live = ap is_some (found_then at.client) ∙ at.not_live;
    }
    once_then once.Leave at = record { asks = at.asks; live = ap is_some (found_then (asker_client s.call.actor asking.Leave (subst (MayAsk s.call.actor) at.asks at_hand.asker) (λ copies. copies))) ∙ at.live }
    once_then (once.Close k) at = at
    once_then (once.Unlink name) at = at
    once_then (once.Retain k duration) at = record { place = at.place; asks = at.asks; from_zero = at.from_zero; kept = at.kept; made = made_then k at.made }

    -- what a node that stays has reserved for a making it has still
    reserved_then : (k q : ℕ) (f : Entry) → entry_of k R.entries ≡ Some f → (slice_index f.complete q == 0) ≡ true → n.reserved k q ≡ cond (q == r) None (m.reserved k q)
    reserved_then k q f found none = ap (cond (q == r) None) (ap (λ o. reservation_under o q (m.reserved k q)) found ∙ ap (λ b. cond b (m.reserved k q) None) none)

    -- the nodes on which it is made are those that were, but for the one that fails
    targets_then : (a : Option CreationAttributes) (home q : ℕ) → (home == r) ≡ false → (q == r) ≡ false → slice_index (targets_by a home R.up) q ≡ slice_index (targets_by a home m.cluster.up) q
    targets_then None home q at_home other = index-other m.cluster.up r q 0 other
    targets_then (Some a) home q at_home other = elim (is_collocated a) as (λ b. slice_index (cond b (alone_on home R.up) R.up) q ≡ slice_index (cond b (alone_on home m.cluster.up) m.cluster.up) q) [
      | true ↦ ap (λ (i : ℕ). slice_index (slice_set (replicate nodes_max 0) home i) q) (index-other m.cluster.up r home 0 at_home)
      | false ↦ index-other m.cluster.up r q 0 other
    ]

    -- what it makes is in the making still
    making_then : IsClient s.call.actor → (home_of (client_of s.call) m.cluster == r) ≡ false → (making : Making) → IsMakingIn m s making → IsMakingIn n s making
    making_then client home making at =
        let (e, was, by) = IsSomeAnd-at (entry_of making.ckpt m.cluster.entries) (λ (e : Entry). e.making ≡ Some s.call) at.there in
        let other : is_of_those goes e.making ≡ false = ap (is_of_those goes) by ∙ of_those goes s.call client ∙ client_stays client in
        by_entry e was by (entry_of making.ckpt R.entries) refl (making_left counts r m.cluster inv.rises making.ckpt e was (ap is_some by) other)
      where
        by_entry : (e : Entry) → entry_of making.ckpt m.cluster.entries ≡ Some e → e.making ≡ Some s.call → (o : Option Entry) → entry_of making.ckpt R.entries ≡ o → is_some (entry_of making.ckpt R.entries) ≡ true → IsMakingIn n s making
        by_entry e was by None gone some = absurd (let v : false ≡ true = sym (ap is_some gone) ∙ some in cc v)
        by_entry e was by (Some f) found some =
            let it = was_entry making.ckpt f found in
            let same : it.e ≡ e = same_Some it.e e (sym it.was ∙ was) in
            let by_it : it.e.making ≡ Some s.call = ap (λ (x : Entry). x.making) same ∙ by in
            let good : IsGoodIn m making.ckpt (shapes making.ckpt) it.e (Some s.call) = subst (IsGoodIn m making.ckpt (shapes making.ckpt) it.e) by_it (inv.entries making.ckpt it.e it.was) in
            let none : f.complete ≡ slice_set no_nodes r 0 = it.left.complete ∙ ap (λ cs. slice_set cs r 0) good.0.complete in
            let still = λ (q : ℕ). reserved_then making.ckpt q f found (ap (λ cs. slice_index cs q == 0) none ∙ no_node 8 r q) in
            record {
              there = IsSomeAnd-from (entry_of making.ckpt R.entries) (λ (e : Entry). e.making ≡ Some s.call) f found (it.left.making ∙ by_it);
              declares = IsSomeAnd-from (entry_of making.ckpt R.entries) (λ (e : Entry). attributes_asked (asked s.op) ≡ Some e.attributes) f found (subst (λ o. IsSomeAnd o (λ (e : Entry). attributes_asked (asked s.op) ≡ Some e.attributes)) it.was at.declares ∙ ap Some (sym it.left.attributes));
              nodes = at.nodes;
              reserved = λ q had. still q ∙ reserved_at q had (q == r) refl;
              only = λ q nothing. still q ∙ either (q == r) (m.reserved making.ckpt q) (at.only q nothing);
              within = λ q some. within_then q some (still q) (q == r) refl;
              no_later = at.no_later;
            }
          where
            either : (b : Bool) (o : Option ℕ) → o ≡ None → cond b None o ≡ None
            either true o none = refl
            either false o none = none

            reserved_at : (q : ℕ) → has (slice_index R.up q) (slice_index making.reserved q) ≡ true → (b : Bool) → (q == r) ≡ b → cond b None (m.reserved making.ckpt q) ≡ Some (slice_index R.up q)
            reserved_at q had true same = absurd (
                let gone : slice_index R.up q ≡ 0 = ap (λ (p : ℕ). slice_index R.up p) (eqb-true q r same) ∙ slice_index-cleared m.cluster.up r in
                let v : true ≡ false = sym had ∙ ap (λ (i : ℕ). has i (slice_index making.reserved q)) gone in
                cc v)
            reserved_at q had false other =
                let same_up : slice_index R.up q ≡ slice_index m.cluster.up q = index-other m.cluster.up r q 0 other in
                at.reserved q (ap (λ (i : ℕ). has i (slice_index making.reserved q)) (sym same_up) ∙ had) ∙ ap Some (sym same_up)

            within_then : (q : ℕ) → IsSome (n.reserved making.ckpt q) → n.reserved making.ckpt q ≡ cond (q == r) None (m.reserved making.ckpt q) → (b : Bool) → (q == r) ≡ b → (slice_index (targets_by (attributes_asked (asked s.op)) (home_of (client_of s.call) R) R.up) q == 0) ≡ false
            within_then q some is true same = absurd (let none : n.reserved making.ckpt q ≡ None = is ∙ ap (λ b. cond b None (m.reserved making.ckpt q)) same in let v : false ≡ true = ap is_some (sym none) ∙ some in cc v)
            within_then q some is false other =
                ap (λ (i : ℕ). slice_index (targets_by (attributes_asked (asked s.op)) i R.up) q == 0) (home_then client)
                ∙ ap (λ (i : ℕ). i == 0) (targets_then (attributes_asked (asked s.op)) (home_of (client_of s.call) m.cluster) q home other)
                ∙ at.within q (ap is_some (sym (is ∙ ap (λ b. cond b None (m.reserved making.ckpt q)) other)) ∙ some)

    -- an open
    open_then : is_enter (driver_of s) ≡ false → (o : OpenState) → IsOpenIn m s o → IsOpenIn n s o
    open_then other o at = record {
      caller = at.caller;
      client = at.client;
      within = at.within;
      node = up_other counts r m.cluster o.ask.node (ap (λ (q : ℕ). q == r) at.home ∙ elsewhere other) ∙ at.node;
      home = at.home;
      asks = at.asks;
      named = at.named;
      declared = at.declared;
      deadline = at.deadline;
      making = by_making o.making at.making;
      given = at.given;
    }
      where
        by_making : (w : Option Making) → IfSome w (IsMakingIn m s) → IfSome w (IsMakingIn n s)
        by_making None at = tt
        by_making (Some w) making = making_then at.caller (home_elsewhere m.cluster r (client_of s.call) (client_live m.cluster s.call at.caller (at_hand.live other)) (client_stays at.caller)) w making

    -- what an update keeps by its phase
    keeps_then : (u : UpdateState) (active : Option ℕ) (z : Shape) (ph : UpdatePhase) → PhaseKeeps m z s u ph → PhaseKeeps n (shape_left R r active z) s u ph
    keeps_then u active z Staging at = tt
    keeps_then u active z Committing at = record { free = at.free; under = λ q d owns other. at.under q d (owner_left R r active z q d owns).1 other }
    keeps_then u active z Claiming at = IsDead-then m shapes inv r u.owner at
    keeps_then u active z Claimed at = IsDead-then m shapes inv r u.owner at
    keeps_then u active z Withdrawing at = tt
    keeps_then u active z Resolving at = tt

    -- an update on all replicas
    update_then : (u : UpdateState) → IsUpdateIn m shapes s u → IsUpdateIn n shapes_then s u
    update_then u at = record {
      call = at.call;
      asks = at.asks;
      kept = at.kept;
      made = made_then u.ckpt at.made;
      all = declared_then (λ a. is_all a ≡ true) u.ckpt at.all;
      nodes = at.nodes;
      owns = λ f found q there. (
          let it = was_entry u.ckpt f found in
          let (other, before) = complete_before it.e f it.left.complete q there in
          ap (λ cs. has (slice_index cs q) (slice_index u.owned q)) it.left.complete
          ∙ ap (λ (i : ℕ). has i (slice_index u.owned q)) (index-other it.e.complete r q 0 other)
          ∙ at.owns it.e it.was q before
          ∙ sym (ap (is_owner s.call) (ap (λ (z : Shape). z.owners q) it.shape ∙ owner_stays R r it.e.active (shapes u.ckpt) q other)));
      keeps = λ f found. (let it = was_entry u.ckpt f found in subst (λ z. PhaseKeeps n z s u u.phase) (sym it.shape) (keeps_then u it.e.active (shapes u.ckpt) u.phase (at.keeps it.e it.was)));
      within = λ f q found kept. within_then f q found kept (q == r) refl;
      no_later = at.no_later;
    }
      where
        -- it keeps no incarnation of a node that is gone
        not_had : (own : ℕ) → has (slice_index R.up r) own ≡ true → ⊥
        not_had own had = let v : false ≡ true = sym (ap (λ (i : ℕ). has i own) (slice_index-cleared m.cluster.up r)) ∙ had in cc v

        within_then : (f : Entry) (q : ℕ) → entry_of u.ckpt R.entries ≡ Some f → has (slice_index R.up q) (slice_index u.owned q) ≡ true → (b : Bool) → (q == r) ≡ b → IsCompleteOn f q
        within_then f q found kept true same = absurd (not_had (slice_index u.owned q) (ap (λ (p : ℕ). has (slice_index R.up p) (slice_index u.owned q)) (sym (eqb-true q r same)) ∙ kept))
        within_then f q found kept false other =
            let it = was_entry u.ckpt f found in
            let before : IsCompleteOn it.e q = at.within it.e q it.was (ap (λ (i : ℕ). has i (slice_index u.owned q)) (sym (index-other m.cluster.up r q 0 other)) ∙ kept) in
            ap (λ cs. slice_index cs q == 0) it.left.complete ∙ complete_still it.e.complete r q other before

    -- a copying to another node
    copies_then : CopiesAlike m n shapes shapes_then s
    copies_then = record {
      up = λ q own. index-other m.cluster.up r q 0 (other_node q own);
      made = made_then;
      later = λ k was f found. (
          let it = was_entry k f found in (
            it.e,
            it.was,
            record {
              attributes = it.left.attributes;
              lacks = λ apart q own none. ap (λ cs. slice_index cs q == 0) it.left.complete ∙ ap (λ (i : ℕ). i == 0) (index-other it.e.complete r q 0 (other_node q own)) ∙ none;
              grows = λ q own there. ap (λ cs. slice_index cs q == 0) it.left.complete ∙ complete_still it.e.complete r q (other_node q own) there;
              rises = failed_rises (counts it.e.identity) goes r it.e f it.left;
              owns = λ all own q there. (
                  let (other, before) = complete_before it.e f it.left.complete q there in
                  ap (λ (z : Shape). z.owners q) it.shape ∙ owner_stays R r it.e.active (shapes k) q other ∙ own q before);
              sections = λ all own. ap (λ (z : Shape). z.sections) it.shape;
              effects = λ all own. ap (λ (z : Shape). z.effects) it.shape;
            },
          ));
      reserved = λ k q was own f found none. reserved_then k q f found none ∙ ap (λ b. cond b None (m.reserved k q)) (other_node q own);
      update = update_then;
    }
      where
        other_node : (q : ℕ) → s.call.actor ≡ Node q → (q == r) ≡ false
        other_node q own = ap (is_of_node m.cluster r) (sym own) ∙ stays

    -- ---- generations

    -- where what was present is present still, the active stays
    present_then : (counts : ℕ → ℕ) (e f : Entry) → IsFailedEntry counts goes r e f → (g : ℕ) → g ≤ e.generation → g ≡ f.generation → (f.active ≡ e.active) × (f.generation ≡ e.generation)
    present_then counts e f left g older present = elim (is_active e.active r) as (λ b. is_active e.active r ≡ b → (f.active ≡ e.active) × (f.generation ≡ e.generation)) [
      | true ↦ λ gone. absurd (let up : f.generation ≡ e.generation + 1 = (left.gone gone).1 in let at_most : g ≤ e.generation = older in let is : g ≡ f.generation = present in omega (arith, up, at_most, is))
      | false ↦ λ stays. left.led stays
    ] refl

    -- ---- calls to the active

    -- the marks of a live call are left
    marked_left : is_live m.cluster s.call ≡ true → (o : Option Marked) → is_marked_by s.call (marks_left R o) ≡ is_marked_by s.call o
    marked_left live None = refl
    marked_left live (Some x) = elim (is_live R x.call) as (λ b. is_live R x.call ≡ b → is_marked_by s.call (cond b (Some x) None) ≡ same_call x.call s.call) [
      | true ↦ λ is. refl
      | false ↦ λ dead. by_test dead (same_call x.call s.call) refl
    ] refl
      where
        by_test : is_live R x.call ≡ false → (b : Bool) → same_call x.call s.call ≡ b → false ≡ same_call x.call s.call
        by_test dead false other = sym other
        by_test dead true same = absurd (let v : true ≡ false = sym live ∙ sym live_then ∙ ap (is_live R) (sym (same_call-true x.call s.call same)) ∙ dead in cc v)

    -- where the active went, none are present
    not_present : (e f : Entry) → f.generation ≡ e.generation + 1 → (o : Option MarksMade) → IfSome o (λ marks. marks.generation ≤ e.generation) → are_present f o ≡ false
    not_present e f up None older = refl
    not_present e f up (Some marks) older = ne_eqb marks.generation f.generation (λ same. let at_most : marks.generation ≤ e.generation = older in let is : marks.generation ≡ f.generation = same in let more : f.generation ≡ e.generation + 1 = up in omega (arith, at_most, is, more))

    -- where it stays, those are present that were
    same_present : (e f : Entry) → f.generation ≡ e.generation → (o : Option MarksMade) → are_present e o ≡ are_present f o
    same_present e f same None = refl
    same_present e f same (Some marks) = ap (λ (g : ℕ). marks.generation == g) (sym same)

    -- none are of a later generation
    older_then : (e f : Entry) → e.generation ≤ f.generation → (o : Option MarksMade) → IfSome o (λ marks. marks.generation ≤ e.generation) → IfSome o (λ marks. marks.generation ≤ f.generation)
    older_then e f rises None older = tt
    older_then e f rises (Some marks) older = let at_most : marks.generation ≤ e.generation = older in let more : e.generation ≤ f.generation = rises in omega (arith, at_most, more)

    -- a call to the active
    active_then : is_live m.cluster s.call ≡ true → (a : ActiveState) → IsActiveIn m shapes s a → IsActiveIn n shapes_then s a
    active_then live a at = record {
      call = at.call;
      kind = at.kind;
      fit = at.fit;
      made = made_then a.ckpt at.made;
      kept = at.kept;
      room = declared_then (λ b. s.kept.room ≡ room_declared b) a.ckpt at.room;
      all = declared_then (λ b. s.kept.all ≡ is_all b) a.ckpt at.all;
      weak = declared_then (λ b. s.kept.weak ≡ is_weak b) a.ckpt at.weak;
      handle = handle_then at.handle;
      marks = λ f found. (let it = was_entry a.ckpt f found in ap (λ (z : Shape). is_marked_by s.call z.marks) it.shape ∙ by_active f it (is_active it.e.active r) refl);
      generation = λ f found. (let it = was_entry a.ckpt f found in older_then it.e f (failed_rises (counts it.e.identity) goes r it.e f it.left) a.marks (at.generation it.e it.was));
      made_by = at.made_by;
    }
      where
        by_active : (f : Entry) (it : WasEntry a.ckpt f) (b : Bool) → is_active it.e.active r ≡ b → is_marked_by s.call (cond (is_active it.e.active r) None (marks_left R (shapes a.ckpt).marks)) ≡ are_present f a.marks
        by_active f it true gone = ap (λ b. is_marked_by s.call (cond b None (marks_left R (shapes a.ckpt).marks))) gone ∙ sym (not_present it.e f (it.left.gone gone).1 a.marks (at.generation it.e it.was))
        by_active f it false stays = ap (λ b. is_marked_by s.call (cond b None (marks_left R (shapes a.ckpt).marks))) stays ∙ marked_left live (shapes a.ckpt).marks ∙ at.marks it.e it.was ∙ same_present it.e f (it.left.led stays).1 a.marks

    -- ---- synchronisations and the setting of an active

    -- nor is what was pulled
    pulled_older : (u : SyncState) (o : Option Snapshot) → IfSome o (λ p. IfSome (entry_of u.ckpt m.cluster.entries) (λ e. p.generation ≤ e.generation)) → IfSome o (λ p. IfSome (entry_of u.ckpt R.entries) (λ e. p.generation ≤ e.generation))
    pulled_older u None older = tt
    pulled_older u (Some p) older = IfSome-from (entry_of u.ckpt R.entries) (λ e. p.generation ≤ e.generation) (λ f found.
        let it = was_entry u.ckpt f found in
        let at_most : p.generation ≤ it.e.generation = IfSome-at (entry_of u.ckpt m.cluster.entries) (λ (e : Entry). p.generation ≤ e.generation) older it.e it.was in
        let more : it.e.generation ≤ f.generation = failed_rises (counts it.e.identity) goes r it.e f it.left in
        omega (arith, at_most, more))

    -- and where that is present, the active was served
    pulled_led : (u : SyncState) (o : Option Snapshot) → IfSome o (λ p. IfSome (entry_of u.ckpt m.cluster.entries) (λ e. p.generation ≤ e.generation)) → IfSome o (λ p. IfSome (entry_of u.ckpt m.cluster.entries) (HasServedActive u.served p)) → IfSome o (λ p. IfSome (entry_of u.ckpt R.entries) (HasServedActive u.served p))
    pulled_led u None older led = tt
    pulled_led u (Some p) older led = IfSome-from (entry_of u.ckpt R.entries) (HasServedActive u.served p) (λ f found present.
        let it = was_entry u.ckpt f found in
        let at_most : p.generation ≤ it.e.generation = IfSome-at (entry_of u.ckpt m.cluster.entries) (λ (e : Entry). p.generation ≤ e.generation) older it.e it.was in
        let (same_active, same) = present_then (counts it.e.identity) it.e f it.left p.generation at_most present in
        let before : HasServedActive u.served p it.e = IfSome-at (entry_of u.ckpt m.cluster.entries) (HasServedActive u.served p) led it.e it.was in
        subst (λ o. IsSomeAnd o (λ q. slice_get u.served q ≡ Some true)) (sym same_active) (before (present ∙ same)))

    -- a hold is the call's where it was
    held_left : IsClient s.call.actor → (o : Option CallId) → is_held_by s.call (cond (is_of_those goes o) None o) ≡ is_held_by s.call o
    held_left client None = refl
    held_left client (Some d) = elim (is_of_those goes (Some d)) as (λ b. is_of_those goes (Some d) ≡ b → is_held_by s.call (cond b None (Some d)) ≡ same_call d s.call) [
      | true ↦ λ gone. by_test gone (same_call d s.call) refl
      | false ↦ λ is. refl
    ] refl
      where
        by_test : is_of_those goes (Some d) ≡ true → (b : Bool) → same_call d s.call ≡ b → false ≡ same_call d s.call
        by_test gone false other = sym other
        by_test gone true same = absurd (let v : true ≡ false = sym gone ∙ ap (λ c. is_of_those goes (Some c)) (same_call-true d s.call same) ∙ of_those goes s.call client ∙ client_stays client in cc v)

    -- a synchronisation, and the setting of an active
    sync_then : is_enter (driver_of s) ≡ false → (u : SyncState) (kind : SyncKind) → IsSyncBy m s u kind → IsSyncBy n s u kind
    sync_then other u (Synchronize deadline) at = record {
      call = at.call;
      place = at.place;
      timeout = at.timeout;
      asks = at.asks;
      kind = at.kind;
      kept = at.kept;
      made = made_then u.ckpt at.made;
      alone = declared_then (λ a. is_all a ≡ false) u.ckpt at.alone;
      declares = declared_then (λ a. s.kept.declares ≡ Some a) u.ckpt at.declares;
      pulled = at.pulled;
      nodes = at.nodes;
      served = at.served;
      led = pulled_led u s.snapshot at.older at.led;
      older = pulled_older u s.snapshot at.older;
    }
    sync_then other u (ActiveSet local) at = record {
      call = at.call;
      place = at.place;
      asks = at.asks;
      node = at.node;
      within = at.within;
      kept = at.kept;
      made = made_then u.ckpt at.made;
      collocated = declared_then (λ a. is_collocated a ≡ true) u.ckpt at.collocated;
      complete = IfSome-from (entry_of u.ckpt R.entries) (λ e. IsCompleteOn e local) (λ f found.
          let it = was_entry u.ckpt f found in
          let before : IsCompleteOn it.e local = IfSome-at (entry_of u.ckpt m.cluster.entries) (λ (e : Entry). IsCompleteOn e local) at.complete it.e it.was in
          ap (λ cs. slice_index cs local == 0) it.left.complete ∙ complete_still it.e.complete r local (ap (λ (q : ℕ). q == r) at.node ∙ elsewhere other) before);
      declares = declared_then (λ a. s.kept.declares ≡ Some a) u.ckpt at.declares;
      held = IfSome-from (entry_of u.ckpt R.entries) (λ e. is_held_by s.call e.hold ≡ is_some s.snapshot) (λ f found.
          let it = was_entry u.ckpt f found in
          ap (is_held_by s.call) it.left.hold ∙ held_left (asker_client s.call.actor (asking.SetActive at.place) (subst (MayAsk s.call.actor) at.asks at_hand.asker) (λ copies. copies)) it.e.hold ∙ IfSome-at (entry_of u.ckpt m.cluster.entries) (λ (e : Entry). is_held_by s.call e.hold ≡ is_some s.snapshot) at.held it.e it.was);
    }

    -- ---- the whole

    -- by its driver
    in_place_then : (d : Driver) → driver_of s ≡ d → IsInPlace m shapes s d → IsInPlace n shapes_then s d
    in_place_then (drivers.Once x) is at = once_then x at
    in_place_then (drivers.Open o) is at = open_then (ap is_enter is) o at
    in_place_then (drivers.Update u) is at = update_then u at
    in_place_then (drivers.Active a) is at = active_then (at_hand.live (ap is_enter is)) a at
    in_place_then (drivers.Sync u) is at = sync_then (ap is_enter is) u u.kind at
    in_place_then (drivers.Copy c) is at = IsCopyIn-alike m n shapes shapes_then s copies_then c at

    -- a call that is left is where its steps have led it
    pub hand_then : IsInHand n shapes_then w s
    hand_then = record {
      whose = at_hand.whose;
      asker = at_hand.asker;
      number = at_hand.number;
      built = at_hand.built;
      driven = at_hand.driven;
      live = λ other. live_then ∙ at_hand.live other;
      home = λ other. at_hand.home other ∙ sym placed_then;
      here = in_place_then (driver_of s) refl at_hand.here;
    }
