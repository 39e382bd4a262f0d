-- A state that looks like the one before, to a call in hand or to a checkpoint: they are where they were.
use Rattle.std.specs.Option.{option_map}
use Rattle.std.proofs.Common.{◌≡◌, ◌⊎◌, inl, inr, ℕ, ◌<◌, ◌≤◌, arith, List, Option, Some, None, Bool, true, false, cond, ◌==◌, refl, sym, ap, subst, ◌∙◌}
use Rattle.std.proofs.lemmas.Bool.{eq-eqb, ne_eqb}
use Rattle.std.specs.Prelude.{is_some, IsSome, IsSomeAnd, IfSome, slice_get, slice_index}
use Rattle.ckpt_types.specs.Attributes.{is_malformed}
use Rattle.ckpt_types.specs.Updates.{outcome}
use Rattle.ckpt_types.specs.declared.identities.ActorName.{ActorName}
use Rattle.ckpt_types.specs.declared.identities.ActorName.TheVariants.{Client, Node}
use Rattle.ckpt_types.specs.declared.identities.CallId.{CallId}
use Rattle.ckpt_types.specs.declared.identities.Who.{Who}
use Rattle.call_dispatch.specs.PendingCalls.{PendingCalls}
use Rattle.section_iter.specs.Room.{room_declared}
use Rattle.cluster_record.specs.declared.calls.Making.{Making}
use Rattle.cluster_record.specs.declared.calls.MarksMade.{MarksMade}
use Rattle.cluster_record.specs.declared.calls.SyncKind.{SyncKind}
use Rattle.cluster_record.specs.declared.calls.SyncKind.TheVariants.{Synchronize, ActiveSet}
use Rattle.cluster_record.specs.declared.calls.UpdatePhase.{UpdatePhase}
use Rattle.cluster_record.specs.declared.calls.UpdatePhase.TheVariants.{Staging, Committing, Claiming, Claimed, Withdrawing, Resolving}
use Rattle.cluster_record.specs.declared.clients.LiveClient.{LiveClient}
use Rattle.cluster_record.specs.declared.entries.Entry.{Entry}
use Rattle.cluster_record.specs.Places.{find_key}
use Rattle.cluster_record.specs.Calls.{IsClient, client_of}
use Rattle.cluster_record.specs.DueOnce.{OneStep}
use Rattle.cluster_record.specs.DueOnce as once
use Rattle.cluster_record.specs.DueOpen.{OpenState}
use Rattle.cluster_record.specs.DueSync.{SyncState}
use Rattle.cluster_record.specs.DueUpdate.{UpdateState}
use Rattle.cluster_record.specs.Placement.{is_collocated, is_all}
use Rattle.cluster_record.specs.RecordState.{RecordState, client_key, entry_of, node_of_client, is_live, is_live_client, is_up}
use Rattle.cluster_record.specs.StepDone.{has}
use Rattle.ckpt_types.specs.Asks.{MayAsk, asked}
use Rattle.ckpt_types.specs.Asks as asking
use Rattle.ckpt_types.specs.OpWord.{is_async, word_of_op}
use Rattle.ckpt_types.specs.declared.operation.Op.{Op}
use Rattle.ckpt_types.specs.declared.operation.Op.TheVariants as ops
use Rattle.client_handles.specs.declared.handle_view.HandleView.{HandleView}
use Rattle.cluster_record.specs.declared.calls.ActiveKind.{ActiveKind}
use Rattle.ckpt_machine.specs.Drivers.{Driver}
use Rattle.ckpt_machine.specs.Drivers as drivers
use Rattle.ckpt_machine.specs.Entries.{WasMade}
use Rattle.ckpt_types.specs.declared.attributes.CreationAttributes.{CreationAttributes}
use Rattle.ckpt_machine.specs.Machine.{Machine, ReplicaState, Snapshot, CallState, who}
use Rattle.ckpt_machine.specs.Options.{is_weak}
use Rattle.ckpt_machine.specs.Propagation.{on_node, copied}
use Rattle.weak_marks.specs.Marks.{Marked}
use Rattle.ckpt_machine.specs.Shape.{Shape, IsCompleteOn, marks_at, IsShapedBy, is_owner, PhaseFits, IsOwner, IsLeft, IsMarker, IsActiveBy, IsHolder}
use Rattle.ckpt_machine.specs.After.{opened_state}
use Rattle.ckpt_machine.specs.Due.{driver_of, asked_handle, home_by}
use Rattle.ckpt_machine.specs.InHand.{active_kind, is_marked_by, are_present, is_held_by, IsMakingIn, IsOpenIn, IsUpdateIn, IsDoneIn, PhaseKeeps, HasServedActive, IsSettingIn, IsSyncBy, IsOnceAt, IsInPlace, IsInHand}
use Rattle.ckpt_machine.specs.Invariant.{IsMaker, IsGoodIn}
use Rattle.ckpt_machine.specs.Later.{IsLaterEntry}
pub use Rattle.ckpt_machine.proofs.Joining.{IsLaterEntry-refl}
use Rattle.ckpt_machine.proofs.Joining.{all_apart, collocated_apart}
use Rattle.ckpt_machine.proofs.ActiveBy.{active_by-complete, active_by-grows}
use Rattle.ckpt_machine.specs.Dead.{IsDead}
use Rattle.ckpt_machine.proofs.Actors.{same_call-refl, same_call-true}
use Rattle.ckpt_machine.proofs.Askers.{asker_client}
use Rattle.ckpt_machine.proofs.CopiesStay.{OwnsAll, CopiesAlike, IsCopyIn-alike}
use Rattle.ckpt_machine.proofs.LaterIncarnations.{IncarnationsGoOn, incarnations_stay}
use Rattle.ckpt_machine.proofs.Lives.{LivesOn}
use Rattle.ckpt_machine.proofs.MarksAt.{marks_at-apart}
use Rattle.ckpt_machine.proofs.NodeLists.{first_complete-some, first_complete-there}
use Rattle.ckpt_machine.proofs.OptionLemmas.{IsSomeAnd-from, IfSome-from}

-- ---- a call in hand

-- what is being made is there still, where each making is
pub making_still : (m n : Machine) (z : CallState) (o : OpenState) → ((w : Making) → IsMakingIn m z w → IsMakingIn n z w) → IsOpenIn m z o → IfSome o.making (IsMakingIn n z)
making_still m n z o still at = by_making o.making at.making where
  by_making : (w : Option Making) → IfSome w (IsMakingIn m z) → IfSome w (IsMakingIn n z)
  by_making None at = tt
  by_making (Some w) at = still w at

-- a node that is complete then and was not: it is up with that incarnation, the call has no slot there, nor on some node that was complete
pub record IsNewNode (up : List ℕ) (z : CallState) (sh : Shape) (e f : Entry) (r : ℕ) : Type 0 where
  pub lacked : (slice_index e.complete r == 0) ≡ true
  pub present : slice_index f.complete r ≡ slice_index up r
  pub unowned : is_owner z.call (sh.owners r) ≡ false
  pub node : ℕ
  pub complete : IsCompleteOn e node
  pub free : is_owner z.call (sh.owners node) ≡ false

-- a checkpoint looks to the call as it did, behind which these nodes are up: it declares the same, and is complete where it was, and where updates are on
-- all replicas nowhere else but on new nodes, as the call's own is not, where it is not collocated; its generation rises, and with the call's marks on it
-- stays, as its active does with its generation; and it is held by the call just where it was
pub record LooksLater (up : List ℕ) (z : CallState) (sh : Shape) (e f : Entry) : Type 0 where
  pub complete : is_all e.attributes ≡ true → (r : ℕ) → IsCompleteOn f r → (slice_index f.complete r ≡ slice_index e.complete r) ⊎ IsNewNode up z sh e f r
  pub grows : (r : ℕ) → IsCompleteOn e r → IsCompleteOn f r
  pub lacks : is_collocated e.attributes ≡ false → (r : ℕ) → z.call.actor ≡ Node r → (slice_index e.complete r == 0) ≡ true → (slice_index f.complete r == 0) ≡ true
  pub attributes : f.attributes ≡ e.attributes
  pub rises : e.generation ≤ f.generation
  pub generation : is_marked_by z.call sh.marks ≡ true → f.generation ≡ e.generation
  pub active : f.generation ≡ e.generation → f.active ≡ e.active
  pub hold : is_held_by z.call f.hold ≡ is_held_by z.call e.hold

-- so does the same one
pub LooksLater-refl : (up : List ℕ) (z : CallState) (sh : Shape) (e : Entry) → LooksLater up z sh e e
LooksLater-refl up z sh e = record { complete = λ all r there. inl refl; grows = λ r there. there; lacks = λ apart r own lacks. lacks; attributes = refl; rises = omega arith; generation = λ own. refl; active = λ same. refl; hold = refl }

-- and a later one
pub LooksLater-later : (up : List ℕ) (z : CallState) (sh : Shape) (e f : Entry) → IsLaterEntry up e f → LooksLater up z sh e f
LooksLater-later up z sh e f later = record {
  complete = λ all r there. inl (ap (λ (cs : List ℕ). slice_index cs r) (later.placed (all_apart e.attributes all)));
  grows = later.grows;
  lacks = λ apart r own lacks. ap (λ (cs : List ℕ). slice_index cs r == 0) (later.placed apart) ∙ lacks;
  attributes = later.attributes;
  rises = let same : f.generation ≡ e.generation = later.generation in omega (arith, same);
  generation = λ own. later.generation;
  active = λ same. later.active;
  hold = ap (is_held_by z.call) later.hold;
}

-- who is an owner by the test owns the slot
owner_is : (call : CallId) (o : Option CallId) → is_owner call o ≡ true → o ≡ Some call
owner_is call None none = absurd (cc none)
owner_is call (Some d) same = ap Some (same_call-true d call same)

-- an actor is on the node where it was, where the clients are as they were
pub home_stays : (a : ActorName) (R Q : RecordState) → Q.clients ≡ R.clients → home_by a Q ≡ home_by a R
home_stays (Client c) R Q same = ap (λ (clients : List LiveClient). node_of_client (find_key client_key c clients)) same
home_stays (Node r) R Q same = refl

-- the handle that a call is about; an asynchronous one looks at none once it is begun
abbrev pub handle_of : Machine → CallState → Option HandleView
handle_of m z = cond (is_async (word_of_op z.op)) None (asked_handle m z.call.actor z.op)

-- a call to the active is no asynchronous one
pub plain_active : (all weak : Bool) (op : Op) (kind : ActiveKind) → active_kind all weak (asked op) ≡ Some kind → is_async (word_of_op op) ≡ false
plain_active all weak (ops.OpenAsync place invocation name flags a) kind is = absurd (cc is)
plain_active all weak (ops.SyncAsync place invocation) kind is = absurd (cc is)
plain_active all weak op kind is = refl

-- the same lies under the slots
pub record LiesUnder (sh then_sh : Shape) : Type 0 where
  pub sections : then_sh.sections ≡ sh.sections
  pub effects : then_sh.effects ≡ sh.effects

pub LiesUnder-refl : (sh : Shape) → LiesUnder sh sh
LiesUnder-refl sh = record { sections = refl; effects = refl }

-- n and its shapes look to the call as m and its did
pub record LooksAlike (m n : Machine) (shapes then_shapes : ℕ → Shape) (z : CallState) : Type 0 where
  pub up : (r : ℕ) → is_up r m.cluster ≡ true → is_up r n.cluster ≡ true
  pub incarnations : IncarnationsGoOn m.cluster n.cluster
  -- a client is live as it was, and a node is up as it was, which copies
  pub lives : IsClient z.call.actor → is_live_client (client_of z.call) n.cluster ≡ is_live_client (client_of z.call) m.cluster
  pub node : (r : ℕ) → z.call.actor ≡ Node r → slice_index n.cluster.up r ≡ slice_index m.cluster.up r
  pub home : home_by z.call.actor n.cluster ≡ home_by z.call.actor m.cluster
  -- the handle that it is about is there where it was
  pub handle : IsSome (handle_of m z) → IsSome (handle_of n z)
  pub making : (o : OpenState) → IsOpenIn m z o → IfSome o.making (IsMakingIn n z)
  -- of the checkpoints that were made, those that are left look as they did
  pub made : (k : ℕ) → WasMade m.cluster k → WasMade n.cluster k
  pub later : (k : ℕ) → WasMade m.cluster k → (f : Entry) → entry_of k n.cluster.entries ≡ Some f → (e : Entry) × (entry_of k m.cluster.entries ≡ Some e) × LooksLater n.cluster.up z (shapes k) e f
  -- its node has reserved for them as it had, where it lacks them
  pub reserved : (k r : ℕ) → WasMade m.cluster k → z.call.actor ≡ Node r → (f : Entry) → entry_of k n.cluster.entries ≡ Some f → (slice_index f.complete r == 0) ≡ true → n.reserved k r ≡ m.reserved k r
  pub owners : (k : ℕ) → WasMade m.cluster k → (r : ℕ) → is_owner z.call ((then_shapes k).owners r) ≡ is_owner z.call ((shapes k).owners r)
  pub marks : (k : ℕ) → WasMade m.cluster k → is_marked_by z.call (then_shapes k).marks ≡ is_marked_by z.call (shapes k).marks
  -- what lies under its slots stays, where it owns that of each complete node
  pub under : (k : ℕ) → WasMade m.cluster k → (e : Entry) → entry_of k m.cluster.entries ≡ Some e → OwnsAll (shapes k) z.call e → LiesUnder (shapes k) (then_shapes k)
  -- a call that is dead is so still, where such a checkpoint is left
  pub dead : (k : ℕ) (f : Entry) → WasMade m.cluster k → entry_of k n.cluster.entries ≡ Some f → (d : CallId) → IsDead m d → IsDead n d
  -- an update that it has done is so still
  pub done : (k : ℕ) → WasMade m.cluster k → IsDoneIn (shapes k) z → IsDoneIn (then_shapes k) z

module _ (m n : Machine) (shapes then_shapes : ℕ → Shape) (z : CallState) (alike : LooksAlike m n shapes then_shapes z) where
  -- the handle of one that is no asynchronous one is there
  handle_alike : is_async (word_of_op z.op) ≡ false → IsSome (asked_handle m z.call.actor z.op) → IsSome (asked_handle n z.call.actor z.op)
  handle_alike plain there =
      let was : IsSome (handle_of m z) = subst (λ b. IsSome (cond b None (asked_handle m z.call.actor z.op))) (sym plain) there in
      subst (λ b. IsSome (cond b None (asked_handle n z.call.actor z.op))) plain (alike.handle was)

  -- what holds of what a checkpoint declares, where it is there
  declared_alike : (P : CreationAttributes → Type 0) (k : ℕ) → WasMade m.cluster k → IfSome (entry_of k m.cluster.entries) (λ e. P e.attributes) → IfSome (entry_of k n.cluster.entries) (λ e. P e.attributes)
  declared_alike P k was holds = by_entry (entry_of k n.cluster.entries) refl
    where
      by_entry : (o : Option Entry) → entry_of k n.cluster.entries ≡ o → IfSome o (λ e. P e.attributes)
      by_entry None gone = tt
      by_entry (Some f) is =
          let (e, there, look) = alike.later k was f is in
          subst P (sym look.attributes) (subst (λ o. IfSome o (λ (e : Entry). P e.attributes)) there holds)

  -- the checkpoint of an update
  all_at : (u : UpdateState) → IsUpdateIn m shapes z u → (e : Entry) → entry_of u.ckpt m.cluster.entries ≡ Some e → is_all e.attributes ≡ true
  all_at u at e was = subst (λ o. IfSome o (λ (e : Entry). is_all e.attributes ≡ true)) was at.all

  PhaseKeeps-alike : (u : UpdateState) (ph : UpdatePhase) → WasMade m.cluster u.ckpt → (f : Entry) → entry_of u.ckpt n.cluster.entries ≡ Some f → PhaseKeeps m (shapes u.ckpt) z u ph → PhaseKeeps n (then_shapes u.ckpt) z u ph
  PhaseKeeps-alike u Staging was f is keeps = tt
  PhaseKeeps-alike u Committing was f is keeps = alike.done u.ckpt was keeps
  PhaseKeeps-alike u Claiming was f is keeps = alike.dead u.ckpt f was is u.owner keeps
  PhaseKeeps-alike u Claimed was f is keeps = alike.dead u.ckpt f was is u.owner keeps
  PhaseKeeps-alike u Withdrawing was f is keeps = tt
  PhaseKeeps-alike u Resolving was f is keeps = tt

  -- what a synchronisation has pulled is of no later generation
  older_alike : (u : SyncState) → WasMade m.cluster u.ckpt → (o : Option Snapshot) → IfSome o (λ p. IfSome (entry_of u.ckpt m.cluster.entries) (λ e. p.generation ≤ e.generation)) → IfSome o (λ p. IfSome (entry_of u.ckpt n.cluster.entries) (λ e. p.generation ≤ e.generation))
  older_alike u was None older = tt
  older_alike u was (Some p) older = IfSome-from (entry_of u.ckpt n.cluster.entries) (λ e. p.generation ≤ e.generation) (λ f is.
      let (e, there, look) = alike.later u.ckpt was f is in
      let before : p.generation ≤ e.generation = subst (λ o. IfSome o (λ (e : Entry). p.generation ≤ e.generation)) there older in
      let rises : e.generation ≤ f.generation = look.rises in
      omega (arith, before, rises))

  -- where it is of the present generation, it has served the active
  led_alike : (u : SyncState) → WasMade m.cluster u.ckpt → (o : Option Snapshot) → IfSome o (λ p. IfSome (entry_of u.ckpt m.cluster.entries) (λ e. p.generation ≤ e.generation)) → IfSome o (λ p. IfSome (entry_of u.ckpt m.cluster.entries) (HasServedActive u.served p)) → IfSome o (λ p. IfSome (entry_of u.ckpt n.cluster.entries) (HasServedActive u.served p))
  led_alike u was None older led = tt
  led_alike u was (Some p) older led = IfSome-from (entry_of u.ckpt n.cluster.entries) (HasServedActive u.served p) (λ f is.
      let (e, there, look) = alike.later u.ckpt was f is in
      let before : HasServedActive u.served p e = subst (λ o. IfSome o (λ (e : Entry). HasServedActive u.served p e)) there led in
      let at_most : p.generation ≤ e.generation = subst (λ o. IfSome o (λ (e : Entry). p.generation ≤ e.generation)) there older in
      let rises : e.generation ≤ f.generation = look.rises in
      λ present.
      let present_is : p.generation ≡ f.generation = present in
      let same : f.generation ≡ e.generation = omega (arith, at_most, rises, present_is) in
      subst (λ o. IsSomeAnd o (λ r. slice_get u.served r ≡ Some true)) (sym (look.active same)) (before (present ∙ same)))

  -- the setting of an active is where it was
  IsSetting-alike : (u : SyncState) (local : ℕ) → IsSettingIn m z u local → IsSettingIn n z u local
  IsSetting-alike u local at = record {
    call = at.call;
    place = at.place;
    asks = at.asks;
    node = at.node;
    within = at.within;
    kept = at.kept;
    made = alike.made u.ckpt at.made;
    collocated = declared_alike (λ a. is_collocated a ≡ true) u.ckpt at.made at.collocated;
    complete = IfSome-from (entry_of u.ckpt n.cluster.entries) (λ e. IsCompleteOn e local) (λ f is.
        let (e, there, look) = alike.later u.ckpt at.made f is in look.grows local (subst (λ o. IfSome o (λ (e : Entry). IsCompleteOn e local)) there at.complete));
    declares = declared_alike (λ a. z.kept.declares ≡ Some a) u.ckpt at.made at.declares;
    held = IfSome-from (entry_of u.ckpt n.cluster.entries) (λ e. is_held_by z.call e.hold ≡ is_some z.snapshot) (λ f is.
        let (e, there, look) = alike.later u.ckpt at.made f is in look.hold ∙ subst (λ o. IfSome o (λ (e : Entry). is_held_by z.call e.hold ≡ is_some z.snapshot)) there at.held);
  }

  -- and so is either of the two
  IsSync-alike : (u : SyncState) (kind : SyncKind) → IsSyncBy m z u kind → IsSyncBy n z u kind
  IsSync-alike u (Synchronize deadline) at = record {
    call = at.call;
    place = at.place;
    timeout = at.timeout;
    asks = at.asks;
    kind = at.kind;
    kept = at.kept;
    made = alike.made u.ckpt at.made;
    alone = declared_alike (λ a. is_all a ≡ false) u.ckpt at.made at.alone;
    declares = declared_alike (λ a. z.kept.declares ≡ Some a) u.ckpt at.made at.declares;
    pulled = at.pulled;
    nodes = at.nodes;
    served = at.served;
    led = led_alike u at.made z.snapshot at.older at.led;
    older = older_alike u at.made z.snapshot at.older;
  }
  IsSync-alike u (ActiveSet local) at = IsSetting-alike u local at

  IsOnce-alike : MayAsk z.call.actor (asked z.op) → (x : OneStep) → IsOnceAt m z x → IsOnceAt n z x
  IsOnce-alike may (once.Enter r) at = record { version = at.version; callbacks = at.callbacks; asks = at.asks; client = at.client; up = alike.up r at.up; not_live = alike.lives at.client ∙ at.not_live }
  IsOnce-alike may once.Leave at = record { asks = at.asks; live = alike.lives (asker_client z.call.actor asking.Leave (subst (MayAsk z.call.actor) at.asks may) (λ copy. copy)) ∙ at.live }
  IsOnce-alike may (once.Close k) at = at
  IsOnce-alike may (once.Unlink name) at = at
  IsOnce-alike may (once.Retain k duration) at = record { place = at.place; asks = at.asks; from_zero = at.from_zero; kept = at.kept; made = alike.made k at.made }

  -- where it is complete then, an update owns the slots for which it keeps a node
  owns_alike : (u : UpdateState) → IsUpdateIn m shapes z u → (e f : Entry) → entry_of u.ckpt m.cluster.entries ≡ Some e → LooksLater n.cluster.up z (shapes u.ckpt) e f → (r : ℕ) → (slice_index f.complete r == 0) ≡ false
      → (slice_index f.complete r ≡ slice_index e.complete r) ⊎ IsNewNode n.cluster.up z (shapes u.ckpt) e f r → has (slice_index f.complete r) (slice_index u.owned r) ≡ is_owner z.call ((shapes u.ckpt).owners r)
  owns_alike u at e f was look r full (inl same) = ap (λ i. has i (slice_index u.owned r)) same ∙ at.owns e was r (ap (λ i. i == 0) (sym same) ∙ full)
  owns_alike u at e f was look r full (inr new) = ap (λ i. has i (slice_index u.owned r)) new.present ∙ by_test (has (slice_index n.cluster.up r) (slice_index u.owned r)) refl
    where
      by_test : (b : Bool) → has (slice_index n.cluster.up r) (slice_index u.owned r) ≡ b → has (slice_index n.cluster.up r) (slice_index u.owned r) ≡ is_owner z.call ((shapes u.ckpt).owners r)
      by_test false none = none ∙ sym new.unowned
      by_test true kept =
          let complete : IsCompleteOn e r = at.within e r was (alike.incarnations.was_up r (slice_index u.owned r) (at.no_later r) kept) in
          absurd (let w : true ≡ false = sym new.lacked ∙ complete in cc w)

  -- an update is where it was
  pub IsUpdateIn-alike : (u : UpdateState) → IsUpdateIn m shapes z u → IsUpdateIn n then_shapes z u
  IsUpdateIn-alike u at = record {
    call = at.call;
    asks = at.asks;
    kept = at.kept;
    made = alike.made u.ckpt at.made;
    all = declared_alike (λ a. is_all a ≡ true) u.ckpt at.made at.all;
    nodes = at.nodes;
    owns = λ f is r full.
        let (e, was, look) = alike.later u.ckpt at.made f is in
        owns_alike u at e f was look r full (look.complete (all_at u at e was) r full) ∙ sym (alike.owners u.ckpt at.made r);
    keeps = λ f is. let (e, was, look) = alike.later u.ckpt at.made f is in PhaseKeeps-alike u u.phase at.made f is (at.keeps e was);
    within = λ f r is kept. let (e, was, look) = alike.later u.ckpt at.made f is in look.grows r (at.within e r was (alike.incarnations.was_up r (slice_index u.owned r) (at.no_later r) kept));
    no_later = λ r. let before : slice_index u.owned r ≤ slice_index m.cluster.last_incarnations r = at.no_later r in let last : slice_index m.cluster.last_incarnations r ≤ slice_index n.cluster.last_incarnations r = alike.incarnations.last r in omega (arith, before, last);
  }

  -- where a copying owns the slot of each complete node, it does so then
  owns_all_alike : (k : ℕ) → WasMade m.cluster k → (e f : Entry) → LooksLater n.cluster.up z (shapes k) e f → is_all e.attributes ≡ true → OwnsAll (shapes k) z.call e → OwnsAll (then_shapes k) z.call f
  owns_all_alike k was e f look all own r there = by_node (look.complete all r there)
    where
      owned : (p : ℕ) → IsCompleteOn e p → is_owner z.call ((shapes k).owners p) ≡ true
      owned p complete = ap (is_owner z.call) (own p complete) ∙ same_call-refl z.call

      by_node : (slice_index f.complete r ≡ slice_index e.complete r) ⊎ IsNewNode n.cluster.up z (shapes k) e f r → (then_shapes k).owners r ≡ Some z.call
      by_node (inl same) = owner_is z.call ((then_shapes k).owners r) (alike.owners k was r ∙ owned r (ap (λ i. i == 0) (sym same) ∙ there))
      by_node (inr new) = absurd (let w : true ≡ false = sym (owned new.node new.complete) ∙ new.free in cc w)

  -- so it looks to a copying as it did
  copies_alike : CopiesAlike m n shapes then_shapes z
  copies_alike = record {
    up = alike.node;
    made = alike.made;
    later = λ k was f is. (
        let (e, there, look) = alike.later k was f is in (
          e,
          there,
          record {
            attributes = look.attributes;
            lacks = look.lacks;
            grows = λ r own. look.grows r;
            rises = look.rises;
            owns = owns_all_alike k was e f look;
            sections = λ all own. (alike.under k was e there own).sections;
            effects = λ all own. (alike.under k was e there own).effects;
          },
        ));
    reserved = alike.reserved;
    update = IsUpdateIn-alike;
  }

  -- the call is where it was
  pub IsIn-alike : MayAsk z.call.actor (asked z.op) → (d : Driver) → IsInPlace m shapes z d → IsInPlace n then_shapes z d
  IsIn-alike may (drivers.Once x) at = IsOnce-alike may x at
  IsIn-alike may (drivers.Open o) at = record {
    caller = at.caller;
    client = at.client;
    within = at.within;
    node = alike.up o.ask.node at.node;
    home = at.home;
    asks = at.asks;
    named = at.named;
    declared = at.declared;
    deadline = at.deadline;
    making = alike.making o at;
    given = at.given;
  }
  IsIn-alike may (drivers.Update u) at = IsUpdateIn-alike u at
  IsIn-alike may (drivers.Copy c) at = IsCopyIn-alike m n shapes then_shapes z copies_alike c at
  IsIn-alike may (drivers.Active a) at = record {
    call = at.call;
    kind = at.kind;
    fit = at.fit;
    made = alike.made a.ckpt at.made;
    kept = at.kept;
    room = declared_alike (λ a. z.kept.room ≡ room_declared a) a.ckpt at.made at.room;
    all = declared_alike (λ b. z.kept.all ≡ is_all b) a.ckpt at.made at.all;
    weak = declared_alike (λ b. z.kept.weak ≡ is_weak b) a.ckpt at.made at.weak;
    handle = handle_alike (plain_active z.kept.all z.kept.weak z.op a.kind at.kind) at.handle;
    marks = λ f is. (
        let (e, was, look) = alike.later a.ckpt at.made f is in
        alike.marks a.ckpt at.made ∙ marks_alike e f look a.marks (at.marks e was) (at.generation e was));
    generation = λ f is. let (e, was, look) = alike.later a.ckpt at.made f is in generation_alike e f look a.marks (at.generation e was);
    made_by = at.made_by;
  }
    where
      -- marks that it has made stand where they are of the present generation, which stays with them
      marks_alike : (e f : Entry) → LooksLater n.cluster.up z (shapes a.ckpt) e f → (o : Option MarksMade) → is_marked_by z.call (shapes a.ckpt).marks ≡ are_present e o → IfSome o (λ marks. marks.generation ≤ e.generation) → is_marked_by z.call (shapes a.ckpt).marks ≡ are_present f o
      marks_alike e f look None own within = own
      marks_alike e f look (Some made) own within = by_test (is_marked_by z.call (shapes a.ckpt).marks) refl
        where
          by_test : (b : Bool) → is_marked_by z.call (shapes a.ckpt).marks ≡ b → is_marked_by z.call (shapes a.ckpt).marks ≡ (made.generation == f.generation)
          by_test true stands = own ∙ ap (λ n. made.generation == n) (sym (look.generation stands))
          by_test false none =
              let not_now : (made.generation == e.generation) ≡ false = sym own ∙ none in
              let rises : e.generation ≤ f.generation = look.rises in
              let at_most : made.generation ≤ e.generation = within in
              none ∙ sym (ne_eqb made.generation f.generation (λ same.
              let now : made.generation ≡ f.generation = same in
              let is : made.generation ≡ e.generation = omega (arith, rises, at_most, now) in
              (let w : true ≡ false = sym (eq-eqb made.generation e.generation is) ∙ not_now in cc w)))

      generation_alike : (e f : Entry) → LooksLater n.cluster.up z (shapes a.ckpt) e f → (o : Option MarksMade) → IfSome o (λ marks. marks.generation ≤ e.generation) → IfSome o (λ marks. marks.generation ≤ f.generation)
      generation_alike e f look None within = tt
      generation_alike e f look (Some made) within = let rises : e.generation ≤ f.generation = look.rises in let at_most : made.generation ≤ e.generation = within in omega (arith, rises, at_most)
  IsIn-alike may (drivers.Sync u) at = IsSync-alike u u.kind at

  -- and all holds of it that did
  pub IsInHand-alike : (w : Who) → (is_live m.cluster z.call ≡ true → is_live n.cluster z.call ≡ true) → z.call.number < n.next z.call.actor → IsInHand m shapes w z → IsInHand n then_shapes w z
  IsInHand-alike w live number was = record { whose = was.whose; asker = was.asker; number = number; built = was.built; driven = was.driven; live = λ others. live (was.live others); home = λ others. was.home others ∙ sym alike.home; here = IsIn-alike was.asker (driver_of z) was.here }

-- ---- a checkpoint

-- what its phase says of an update is so still
pub PhaseFits-alike : (m n : Machine) → LivesOn m n → (sh : Shape) (z : CallState) (u : UpdateState) (ph : UpdatePhase) → PhaseFits m sh z u ph → PhaseFits n sh z u ph
PhaseFits-alike m n lives sh z u Staging fits = fits
PhaseFits-alike m n lives sh z u Committing fits = fits
PhaseFits-alike m n lives sh z u Claiming fits = absurd fits
PhaseFits-alike m n lives sh z u Claimed fits = record { origin = lives.dead sh.origin fits.origin; count = fits.count }
PhaseFits-alike m n lives sh z u Withdrawing fits = record { origin = lives.dead sh.origin fits.origin; done_is = fits.done_is; alone = fits.alone }
PhaseFits-alike m n lives sh z u Resolving fits = record { origin = lives.dead sh.origin fits.origin; done_is = fits.done_is; alone = fits.alone }

module _ (m n : Machine) (k : ℕ) where
  -- who owns a slot has the same in hand
  pub IsOwner-alike : LivesOn m n → (sh : Shape) (d : CallId) (own : IsOwner m k sh d) → n.in_hand (who own.state) ≡ m.in_hand (who own.state) → IsOwner n k sh d
  IsOwner-alike lives sh d own same = record { state = own.state; in_hand = same ∙ own.in_hand; call_is = own.call_is; driver = own.driver; driver_is = own.driver_is; ckpt = own.ckpt; phase = PhaseFits-alike m n lives sh own.state own.driver own.driver.phase own.phase }

  -- or is dead, as the call is whose update is staged
  pub owned_alike : LivesOn m n → (sh : Shape) (d : CallId) → ((own : IsOwner m k sh d) → n.in_hand (who own.state) ≡ m.in_hand (who own.state)) → IsOwner m k sh d ⊎ IsLeft m sh d → IsOwner n k sh d ⊎ IsLeft n sh d
  owned_alike lives sh d same (inl own) = inl (IsOwner-alike lives sh d own (same own))
  owned_alike lives sh d same (inr dead) = inr (lives.dead d dead.0, lives.dead sh.origin dead.1)

  -- who owns a slot then did so before, as it is not dead
  pub owner_before : LivesOn m n → (sh : Shape) (d : CallId) → IsOwner m k sh d ⊎ IsLeft m sh d → IsOwner n k sh d → IsOwner m k sh d
  owner_before lives sh d (inl own) now = own
  owner_before lives sh d (inr dead) now = absurd (let w : true ≡ false = sym (lives.owners k sh d now) ∙ (lives.dead d dead.0).gone in cc w)

  -- so has whose marks stand
  pub IsMarker-alike : (marks : Marked) (own : IsMarker m k marks) → n.in_hand (who own.state) ≡ m.in_hand (who own.state) → IsMarker n k marks
  IsMarker-alike marks own same = record { state = own.state; in_hand = same ∙ own.in_hand; call_is = own.call_is; driver = own.driver; driver_is = own.driver_is; ckpt = own.ckpt; made = own.made; made_is = own.made_is; update = own.update; left = own.left }

  -- so has whose hold it is, where the replica of the active stays
  pub IsHolder-alike : (active : Option ℕ) (d : CallId) (own : IsHolder m k active d) → n.in_hand (who own.state) ≡ m.in_hand (who own.state) → on_node (n.replicas k) active ≡ on_node (m.replicas k) active → IsHolder n k active d
  IsHolder-alike active d own same replica = record { state = own.state; in_hand = same ∙ own.in_hand; call_is = own.call_is; driver = own.driver; driver_is = own.driver_is; local = own.local; kind = own.kind; ckpt = own.ckpt; some = own.some; copies = λ led. own.copies led ∙ ap (option_map copied) (sym replica) }

  -- the active's replica stays where those on complete nodes do
  active_stays : (e : Entry) → ((r : ℕ) → IsCompleteOn e r → n.replicas k r ≡ m.replicas k r) → IsActiveBy (is_collocated e.attributes) (is_all e.attributes) e.complete e.active → on_node (n.replicas k) e.active ≡ on_node (m.replicas k) e.active
  active_stays e replicas led = by_active e.active (active_by-complete (is_collocated e.attributes) (is_all e.attributes) e.complete e.active led)
    where
      by_active : (o : Option ℕ) → ((r : ℕ) → o ≡ Some r → IsCompleteOn e r) → on_node (n.replicas k) o ≡ on_node (m.replicas k) o
      by_active None complete = refl
      by_active (Some r) complete = replicas r (complete r refl)

  -- so has who is making it
  pub IsMaker-alike : (d : CallId) (own : IsMaker m k d) → n.in_hand (who own.state) ≡ m.in_hand (who own.state) → IsMaker n k d
  IsMaker-alike d own same = record { state = own.state; in_hand = same ∙ own.in_hand; call_is = own.call_is; driver = own.driver; driver_is = own.driver_is; making = own.making; making_is = own.making_is; ckpt = own.ckpt }

  -- those who own slots, have marks, hold or are making the checkpoint have the same in hand
  abbrev pub OwnersStay : Shape → Type 0
  OwnersStay sh = (r : ℕ) (d : CallId) → sh.owners r ≡ Some d → (own : IsOwner m k sh d) → n.in_hand (who own.state) ≡ m.in_hand (who own.state)

  abbrev pub MarkersStay : Shape → Type 0
  MarkersStay sh = (marks : Marked) → sh.marks ≡ Some marks → (own : IsMarker m k marks) → n.in_hand (who own.state) ≡ m.in_hand (who own.state)

  abbrev pub HoldersStay : Type 0
  HoldersStay = (active : Option ℕ) (d : CallId) (own : IsHolder m k active d) → n.in_hand (who own.state) ≡ m.in_hand (who own.state)

  abbrev pub MakersStay : Type 0
  MakersStay = (d : CallId) (own : IsMaker m k d) → n.in_hand (who own.state) ≡ m.in_hand (who own.state)

  -- the checkpoint is as it was, where its replicas stay, a node on which it is complete now has the opening one, and those who own its slots, have marks on it, hold it or are making it stay
  pub IsGoodIn-later : LivesOn m n → (sh : Shape) (e f : Entry) → IsLaterEntry m.cluster.up e f → ((r : ℕ) → IsCompleteOn e r → n.replicas k r ≡ m.replicas k r) → ((r : ℕ) → (slice_index e.complete r == 0) ≡ true → IsCompleteOn f r → n.replicas k r ≡ Some (opened_state f))
      → OwnersStay sh → MarkersStay sh → HoldersStay → MakersStay
      → (maker : Option CallId) → (IsSome maker → f.complete ≡ e.complete) → IsGoodIn m k sh e maker → IsGoodIn n k sh f maker
  IsGoodIn-later lives sh e f later replicas joins owners markers holders makers None unmade was = record {
    well_formed = ap is_malformed later.attributes ∙ was.well_formed;
    nodes = later.nodes ∙ was.nodes;
    some = let (q, there) = first_complete-some 0 e.complete was.some in first_complete-there 0 f.complete q (later.grows q there);
    up = λ r there. let at : slice_index m.cluster.up r ≡ slice_index f.complete r = later.lives was.up r there in lives.up r (ap (λ n. n == 0) at ∙ there) ∙ at;
    active = subst (λ (z : CreationAttributes × Option ℕ). IsActiveBy (is_collocated z.0) (is_all z.0) f.complete z.1) (λ i. (sym later.attributes i, sym later.active i)) (active_by-grows (is_collocated e.attributes) (is_all e.attributes) e.complete f.complete e.active later.placed later.grows was.active);
    replicas = λ r there. by_before r there (slice_index e.complete r == 0) refl;
    fits = λ r d owns. ap (λ a. outcome a sh.update sh.moment sh.sections) later.attributes ∙ was.fits r d owns;
    all = λ r d owns. ap is_all later.attributes ∙ was.all r d owns;
    complete = λ r d owns. later.grows r (was.complete r d owns);
    lowest = λ q r d below there owns. was.lowest q r d below (was_there r d owns q there) owns;
    first = λ q r d below there owns own. was.first q r d below (was_there r d owns q there) owns (owner_before lives sh d (was.owned r d owns) own);
    owned = λ r d owns. owned_alike lives sh d (owners r d owns) (was.owned r d owns);
    led = λ marks is. ap is_some later.active ∙ was.led marks is;
    marked = λ marks is. let own = was.marked marks is in IsMarker-alike marks own (markers marks is own);
    held = λ d is. (
        let own = was.held d (sym later.hold ∙ is) in
        record {
          collocated = ap is_collocated later.attributes ∙ own.collocated;
          unmarked = own.unmarked;
          holder = subst (λ active. IsHolder n k active d) (sym later.active) (IsHolder-alike e.active d own.holder (holders e.active d own.holder) (active_stays e replicas was.active));
        });
  }
    where
      -- a checkpoint with a slot has the nodes that it had
      was_there : (r : ℕ) (d : CallId) → sh.owners r ≡ Some d → (q : ℕ) → IsCompleteOn f q → IsCompleteOn e q
      was_there r d owns q there = subst (λ (cs : List ℕ). (slice_index cs q == 0) ≡ false) (later.placed (all_apart e.attributes (was.all r d owns))) there

      -- one that a node joins is collocated
      joined_collocated : (r : ℕ) → (slice_index e.complete r == 0) ≡ true → IsCompleteOn f r → (b : Bool) → is_collocated e.attributes ≡ b → is_collocated e.attributes ≡ true
      joined_collocated r none there true is = is
      joined_collocated r none there false is = absurd (let w : true ≡ false = sym none ∙ ap (λ (cs : List ℕ). slice_index cs r == 0) (sym (later.placed is)) ∙ there in cc w)

      -- a replica is the one that was, or the opening one
      by_before : (r : ℕ) → IsCompleteOn f r → (b : Bool) → (slice_index e.complete r == 0) ≡ b → IsSomeAnd (n.replicas k r) (IsShapedBy (is_all f.attributes) sh f.active r)
      by_before r there false before = subst (λ (z : Option ReplicaState × CreationAttributes × Option ℕ). IsSomeAnd z.0 (IsShapedBy (is_all z.1) sh z.2 r)) (λ i. (sym (replicas r before) i, sym later.attributes i, sym later.active i)) (was.replicas r before)
      by_before r there true none =
          let collocated : is_collocated e.attributes ≡ true = joined_collocated r none there (is_collocated e.attributes) refl in
          let not_all : is_all f.attributes ≡ false = ap is_all later.attributes ∙ collocated_apart e.attributes collocated in
          let elsewhere : marks_at f.active sh.marks r ≡ None = ap (λ active. marks_at active sh.marks r) later.active ∙ marks_at-apart e.active sh.marks r (λ led. (let w : true ≡ false = sym none ∙ active_by-complete (is_collocated e.attributes) (is_all e.attributes) e.complete e.active was.active r led in cc w)) in
          IsSomeAnd-from (n.replicas k r) (IsShapedBy (is_all f.attributes) sh f.active r) (opened_state f) (joins r none there)
          (subst (λ b. IsShapedBy b sh f.active r (opened_state f)) (sym not_all) (record { free = refl; marks_are = sym elsewhere }))
  IsGoodIn-later lives sh e f later replicas joins owners markers holders makers (Some d) unmade was = (
    record {
      complete = unmade refl ∙ was.0.complete;
      generation = later.generation ∙ was.0.generation;
      unled = later.active ∙ was.0.unled;
      free = later.hold ∙ was.0.free;
      well_formed = ap is_malformed later.attributes ∙ was.0.well_formed;
      clients = later.clients ∙ was.0.clients;
    },
    IsMaker-alike d was.1 (makers d was.1),
  )

  -- the checkpoint is as it was, where its entry and its replicas are and where those who own its slots, have marks on it, hold it or are making it stay
  pub IsGoodIn-alike : LivesOn m n → (sh : Shape) (e : Entry) → ((r : ℕ) → IsCompleteOn e r → n.replicas k r ≡ m.replicas k r) → OwnersStay sh → MarkersStay sh → HoldersStay → MakersStay
      → (maker : Option CallId) → IsGoodIn m k sh e maker → IsGoodIn n k sh e maker
  IsGoodIn-alike lives sh e replicas owners markers holders makers maker was = IsGoodIn-later lives sh e e (IsLaterEntry-refl m.cluster.up e) replicas (λ r none there. absurd (let w : true ≡ false = sym none ∙ there in cc w)) owners markers holders makers maker (λ some. refl) was

-- ---- other calls in hand, others that are not dispatched, and other numbers

module _ (m : Machine) (shapes : ℕ → Shape) (next : ActorName → ℕ) (pending : ActorName → PendingCalls) (f : Who → Option CallState) where
  abbrev with_hands : Machine
  with_hands = record m { next = next; pending = pending; in_hand = f }

  looks_apart : ((d : CallId) → IsDead m d → IsDead with_hands d) → (z : CallState) → LooksAlike m with_hands shapes shapes z
  looks_apart dead z = record {
    up = λ r up. up;
    incarnations = incarnations_stay m.cluster m.cluster refl refl;
    lives = λ client. refl;
    node = λ r own. refl;
    home = refl;
    handle = λ there. there;
    making = λ o at. making_still m with_hands z o (λ w at. record { there = at.there; declares = at.declares; nodes = at.nodes; reserved = at.reserved; only = at.only; within = at.within; no_later = at.no_later }) at;
    made = λ k was. was;
    later = λ k was e found. (e, found, LooksLater-refl m.cluster.up z (shapes k) e);
    reserved = λ k r was own f found lacks. refl;
    owners = λ k was r. refl;
    marks = λ k was. refl;
    under = λ k was e found all. LiesUnder-refl (shapes k);
    dead = λ k f was found. dead;
    done = λ k was done. done;
  }

  -- a call is where it was
  pub IsIn-apart : ((d : CallId) → IsDead m d → IsDead with_hands d) → (z : CallState) → MayAsk z.call.actor (asked z.op) → (d : Driver) → IsInPlace m shapes z d → IsInPlace with_hands shapes z d
  IsIn-apart dead z may d at = IsIn-alike m with_hands shapes shapes z (looks_apart dead z) may d at

  -- a checkpoint is as it was, where those who own its slots, have marks on it, hold it or are making it stay
  pub IsGoodIn-apart : LivesOn m with_hands → ((k : ℕ) (sh : Shape) → OwnersStay m with_hands k sh) → ((k : ℕ) (sh : Shape) → MarkersStay m with_hands k sh) → ((k : ℕ) → HoldersStay m with_hands k) → ((k : ℕ) → MakersStay m with_hands k)
      → (k : ℕ) (sh : Shape) (e : Entry) (maker : Option CallId) → IsGoodIn m k sh e maker → IsGoodIn with_hands k sh e maker
  IsGoodIn-apart lives owners markers holders makers k sh e maker was = IsGoodIn-alike m with_hands k lives sh e (λ r there. refl) (owners k sh) (markers k sh) (holders k) (makers k) maker was
