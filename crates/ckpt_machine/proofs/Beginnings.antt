-- Where each operation begins, with any calls of others in hand.
use Rattle.std.proofs.Common.{◌≡◌, ◌⊎◌, inl, inr, ℕ, List, [], ◌∷◌, length, Option, Some, None, is_some, Bool, true, false, cond, ◌==◌, ◌||◌, ℤ, refl, sym, ap, subst, ◌∙◌, arith}
use Rattle.std.specs.Option.{option_and_then, option_map}
use Rattle.std.specs.Prelude.{IsSome, is_none, IfSome, Contains, int_lt, nat_lt, not, pos, ◌≤ℤ◌, slice_index}
use Rattle.std.proofs.lemmas.Bool.{or_parts, and_parts, ltb-false, ltb-true}
use Rattle.std.proofs.lemmas.Int.{ints}
use Rattle.std.proofs.lemmas.List.Elements.{Contains-append_right}
use Rattle.std.proofs.lemmas.Option.{same_Some}
use Rattle.ckpt_types.specs.declared.answers.Outcome.{Outcome}
use Rattle.ckpt_types.specs.declared.answers.Outcome.TheVariants.{Done}
use Rattle.ckpt_types.specs.declared.attributes.CreationAttributes.{CreationAttributes}
use Rattle.ckpt_types.specs.declared.identities.ActorName.{ActorName}
use Rattle.ckpt_types.specs.declared.identities.ActorName.TheVariants.{Client, Node}
use Rattle.ckpt_types.specs.declared.identities.CallId.{CallId}
use Rattle.ckpt_types.specs.declared.identities.Who.TheVariants.{Actor}
use Rattle.ckpt_types.specs.declared.operation.Op.{Op}
use Rattle.ckpt_types.specs.declared.operation.Op.TheVariants as ops
use Rattle.ckpt_types.specs.declared.update.Update.{Update}
use Rattle.ckpt_types.specs.declared.update.Update.TheVariants as updates
use Rattle.ckpt_types.specs.Attributes.{has_flag}
use Rattle.ckpt_types.specs.OpWord.{is_async, word_of_op, stepped_as}
use Rattle.ckpt_types.specs.Limits.{nodes_max, checkpoint_collocated}
use Rattle.section_iter.specs.Room.{room_declared}
use Rattle.client_handles.specs.declared.begun.BegunIteration.{BegunIteration}
use Rattle.client_handles.specs.declared.handle_view.HandleView.{HandleView}
use Rattle.client_handles.specs.ClientState.{ClientState, handle_numbered, goes_over, handle_at, iteration_at, iterated_at}
use Rattle.cluster_record.specs.declared.calls.ActiveKind.{ActiveKind}
use Rattle.cluster_record.specs.declared.calls.ActiveKind.TheVariants as kinds
use Rattle.cluster_record.specs.declared.clients.LiveClient.{LiveClient}
use Rattle.cluster_record.specs.declared.entries.Entry.{Entry}
use Rattle.cluster_record.specs.Calls.{same_call}
use Rattle.cluster_record.specs.LookUps.{declared_in}
use Rattle.cluster_record.specs.Places.{find_key}
use Rattle.cluster_record.specs.RecordState.{entry_of, client_key, node_of_client, is_live, is_up}
use Rattle.ckpt_types.specs.Asks.{Ask, MayAsk, asked}
use Rattle.ckpt_types.specs.Asks as asks
use Rattle.ckpt_machine.specs.Beginning.{Standing, are_of_all, are_not_collocated, update_is_bad, attributes_are_bad, name_is_bad, timeout_is_bad}
use Rattle.ckpt_machine.specs.BeginRows.{has_bad_operation, BeginRow}
use Rattle.ckpt_machine.specs.Drivers.{Driver}
use Rattle.ckpt_machine.specs.Drivers as drivers
use Rattle.cluster_record.specs.DueActive.{active_begun}
use Rattle.cluster_record.specs.DueCopy.{copy_begun}
use Rattle.cluster_record.specs.DueOnce as once
use Rattle.cluster_record.specs.DueSync.{sync_begun}
use Rattle.cluster_record.specs.declared.calls.SyncKind.TheVariants.{Synchronize, ActiveSet}
use Rattle.cluster_record.specs.Placement.{is_collocated, is_all}
use Rattle.moment_rules.specs.Times.{sum_until_end}
use Rattle.cluster_record.specs.DueUpdate.{update_begun}
use Rattle.ckpt_machine.specs.Driving.{Kept, driver_start, active_start, deadline_from, kind_of_change, change_start}
use Rattle.ckpt_machine.specs.Entries.{WasMade}
use Rattle.ckpt_machine.specs.InHand.{AreGoodAttributes, active_kind, is_enter, is_marked_by, is_held_by, MarksFit, IsInPlace, change_kind}
use Rattle.weak_marks.specs.Marks.{Marked}
use Rattle.ckpt_machine.specs.Invariant.{IsGoodClient, IsGoodHandle, IsGoodIn, InvariantIn, Invariant}
use Rattle.ckpt_machine.specs.Machine.{Machine, CallState, who}
use Rattle.ckpt_machine.specs.After.{goes_on, after_beginning, begun_call, call_begun, started_call}
use Rattle.ckpt_machine.specs.Due.{IsBegun, MayBegin, asked_handle, home_by, is_live_actor, standing_of, kept_at_beginning, room_in}
use Rattle.ckpt_machine.specs.Tables.{handle_asked, ckpt_of_handle, choice_of, ended_at_once}
use Rattle.ckpt_machine.specs.Shape.{Shape, IsCompleteOn, IsSpread}
use Rattle.ckpt_machine.proofs.Actors.{same_call-true}
use Rattle.ckpt_machine.proofs.BeginRows.{row_of}
use Rattle.ckpt_machine.proofs.Begun.{is_new, own_name_idle, IsBeginning, begun_keeps, begun_live, update_begins}
use Rattle.ckpt_machine.proofs.CallsPending.{calls_begun}
use Rattle.ckpt_machine.proofs.ByActor.{same_tables}
use Rattle.ckpt_machine.proofs.Askers.{asker_client, client_home, client_lives, node_by_number, node_number}
use Rattle.ckpt_machine.proofs.EndedTables.{ended_at_once_keeps}
use Rattle.ckpt_machine.proofs.OptionLemmas.{IfSome-from, IfSome-at}
use Rattle.ckpt_machine.proofs.Served.{slice_get-replicate}
use Rattle.ckpt_machine.proofs.Starting.{live_client, handle_there, HasPassed, begun_passed, driven_begun, none_begun, begun_goes}
use Rattle.ckpt_machine.proofs.Whose.{put_who-here, put_who-other, stepped_as-plain, stepped_as-async}
use Rattle.ckpt_machine.specs.Whose.{same_who, put_who}
use Rattle.node_msgs.specs.declared.details.Details.{Details}
use Rattle.ckpt_machine.specs.Options.{is_weak, if_declared}
use Rattle.cluster_record.proofs.ClientLaws.{IsClient-number}

-- ---- what a beginning that goes on has passed

-- a duration that is not below 0
not_below : (x : ℤ) → int_lt x (pos 0) ≡ false → pos 0 ≤ℤ x
not_below x e = grind (arith, ints)

-- good attributes
attributes_are_bad-false : (flags : ℕ) (a : Option CreationAttributes) → attributes_are_bad flags a ≡ false → AreGoodAttributes a
attributes_are_bad-false flags None good = tt
attributes_are_bad-false flags (Some a) good = (or_parts _ _ good).1

-- ---- the handle of a place

-- the handle found under a number is among them
handle_numbered-Contains : (n : ℕ) (handles : List HandleView) (h : HandleView) → handle_numbered n handles ≡ Some h → Contains handles h
handle_numbered-Contains n [] h e = absurd (cc e)
handle_numbered-Contains n (x ∷ xs) h e =
    elim (x.handle == n) as (λ b. cond b (Some x) (handle_numbered n xs) ≡ Some h → Contains (x ∷ xs) h) [
      | true ↦ λ here. (0, omega arith, same_Some x h here)
      | false ↦ λ there. Contains-append_right (x ∷ []) xs h (handle_numbered-Contains n xs h there)
    ] e

-- so is the one of a place, and the one over which an iteration goes
handle_at-Contains : (place : ℕ) (t : ClientState) (h : HandleView) → handle_at place t ≡ Some h → Contains t.handles h
handle_at-Contains place t h e = handle_numbered-Contains (slice_index t.places place) t.handles h e

iterated_at-Contains : (iteration : ℕ) (t : ClientState) (h : HandleView) → iterated_at iteration t ≡ Some h → Contains t.handles h
iterated_at-Contains iteration t h e = by_iteration (iteration_at iteration t) e where
  by_iteration : (o : Option BegunIteration) → option_and_then (λ (it : BegunIteration). handle_numbered (goes_over it) t.handles) o ≡ Some h → Contains t.handles h
  by_iteration None e = absurd (cc e)
  by_iteration (Some it) e = handle_numbered-Contains (goes_over it) t.handles h e

-- so is the one that is asked for
handle_asked-Contains : (ask : Ask) (t : ClientState) (h : HandleView) → handle_asked ask t ≡ Some h → Contains t.handles h
handle_asked-Contains (asks.Change place update) t h e = handle_at-Contains place t h e
handle_asked-Contains (asks.Read place elements) t h e = handle_at-Contains place t h e
handle_asked-Contains (asks.Status place) t h e = handle_at-Contains place t h e
handle_asked-Contains (asks.Iterate iteration place chosen time) t h e = handle_at-Contains place t h e
handle_asked-Contains (asks.Next iteration) t h e = iterated_at-Contains iteration t h e
handle_asked-Contains (asks.EndIteration iteration) t h e = iterated_at-Contains iteration t h e
handle_asked-Contains (asks.Close place) t h e = handle_at-Contains place t h e
handle_asked-Contains (asks.Retain place duration) t h e = handle_at-Contains place t h e
handle_asked-Contains (asks.Synchronize place timeout) t h e = handle_at-Contains place t h e
handle_asked-Contains (asks.SetActive place) t h e = handle_at-Contains place t h e
handle_asked-Contains ask t h e = absurd (cc e)

-- the room that a call keeps is what its checkpoint declares, where it is there
kept_room : (o : Option Entry) → IfSome o (λ e. room_in (declared_in o) ≡ room_declared e.attributes)
kept_room None = tt
kept_room (Some e) = refl

-- and so it keeps what else that declares
kept_declares : (is : CreationAttributes → Bool) (o : Option Entry) → IfSome o (λ e. if_declared is (declared_in o) ≡ is e.attributes)
kept_declares is None = tt
kept_declares is (Some e) = refl

-- it keeps all that its checkpoint declares
declares_itself : (o : Option Entry) → IfSome o (λ e. declared_in o ≡ Some e.attributes)
declares_itself None = tt
declares_itself (Some e) = refl

-- a checkpoint with creation flags that are those of a collocated one
are_collocated : (o : Option Entry) (flags : ℕ) → are_not_collocated flags ≡ false → IfSome o (λ e. flags ≡ e.attributes.creation_flags) → IfSome o (λ e. is_collocated e.attributes ≡ true)
are_collocated None flags are same = tt
are_collocated (Some e) flags are same = ap (λ n. has_flag n checkpoint_collocated) (sym same) ∙ by_test (has_flag flags checkpoint_collocated) refl are
  where
    by_test : (b : Bool) → has_flag flags checkpoint_collocated ≡ b → not b ≡ false → has_flag flags checkpoint_collocated ≡ true
    by_test true is allowed = is
    by_test false is forbidden = absurd (cc forbidden)

-- a checkpoint with creation flags that do not have updates on all replicas
not_of_all : (o : Option Entry) (flags : ℕ) → are_of_all flags ≡ false → IfSome o (λ e. flags ≡ e.attributes.creation_flags) → IfSome o (λ e. is_all e.attributes ≡ false)
not_of_all None flags not_all same = tt
not_of_all (Some e) flags not_all same = ap are_of_all (sym same) ∙ not_all

-- a weak write that begins has no marks, and as many elements as a vector may have
change_fits : (weak : Bool) (update : Update) → update_is_bad update ≡ false → MarksFit (kind_of_change weak update) None
change_fits true (updates.Write elements) good = ltb-false 64 (length elements) (or_parts (length elements == 0) _ good).1
change_fits true update good = tt
change_fits false (updates.Write elements) good = tt
change_fits false update good = tt

-- ---- where a call begins

module _ (m : Machine) (shapes : ℕ → Shape) (inv : InvariantIn shapes m) (call : CallId) (number : call.number ≡ m.next call.actor) where
  abbrev kept_with : Option HandleView → Kept
  kept_with h = kept_at_beginning m.cluster call.actor h

  abbrev state_with : Op → Option HandleView → Driver → CallState
  state_with op h d = started_call call op (kept_with h) d

  -- the handle that an operation is about is good
  asked_good : (op : Op) (h : HandleView) → asked_handle m call.actor op ≡ Some h → IsGoodHandle m.cluster call.actor h
  asked_good op h e = inv.handles call.actor h (handle_asked-Contains (asked op) (m.tables call.actor) h e)

  -- its checkpoint was made
  asked_made : (op : Op) (h : HandleView) → asked_handle m call.actor op ≡ Some h → WasMade m.cluster h.id
  asked_made op h e = (asked_good op h e).made

  -- where its actor is live, so is the call, and the node of this is up
  live_then : is_live_actor call.actor m.cluster ≡ true → is_live m.cluster call ≡ true
  live_then live = begun_live m shapes inv call number live

  node_up : (a : ActorName) → is_live_actor a m.cluster ≡ true → is_up (home_by a m.cluster) m.cluster ≡ true
  node_up (Client c) live = by_client (find_key client_key c m.cluster.clients) live (inv.clients c)
    where
      by_client : (o : Option LiveClient) → is_some o ≡ true → IfSome o (IsGoodClient m.next m.cluster c) → is_up (node_of_client o) m.cluster ≡ true
      by_client None live good = absurd (cc live)
      by_client (Some x) live good = good.1
  node_up (Node r) up = up

  -- a call that begins is driven by what it asks for, is where its operation begins, and live, unless it is an Initialize
  record Starts (op : Op) (ask : Ask) (h : Option HandleView) : Type 0 where
    driver : Driver
    driven : driver_start call ask (kept_with h) ≡ Some driver
    at : IsInPlace m shapes (state_with op h driver) driver
    live : is_enter driver ≡ false → is_live m.cluster call ≡ true

  -- what its beginning looks at, with this handle
  abbrev standing_with : Option HandleView → Standing
  standing_with h = record { live = is_live_actor call.actor m.cluster; handle = h; callbacks = (m.tables call.actor).callbacks; pending = m.pending call.actor }

  -- one that goes on, on a handle where it needs one
  record GoesOn (op : Op) (ask : Ask) (h : Option HandleView) : Type 0 where
    is : asked op ≡ ask
    asker : MayAsk call.actor ask
    may : MayBegin m.cluster call.actor ask
    passed : HasPassed (standing_with h) ask
    named : asked_handle m call.actor op ≡ h

  -- its client is live
  if_live : (bad : Bool) → (not (is_live_actor call.actor m.cluster) || bad) ≡ false → (is_live m.cluster call ≡ true) × (bad ≡ false)
  if_live bad good = let (live, rest) = live_client (is_live_actor call.actor m.cluster) bad good in (live_then live, rest)

  -- nobody has marks under its name yet
  has_no_marks : (k : ℕ) (e : Entry) → entry_of k m.cluster.entries ≡ Some e → e.making ≡ None → is_marked_by call (shapes k).marks ≡ false
  has_no_marks k e found none = by_marks (shapes k).marks refl
    where
      by_marks : (o : Option Marked) → (shapes k).marks ≡ o → is_marked_by call o ≡ false
      by_marks None stand = refl
      by_marks (Some marks) stand = by_test (same_call marks.call call) refl
        where
          by_test : (b : Bool) → same_call marks.call call ≡ b → same_call marks.call call ≡ false
          by_test false is_not = is_not
          by_test true same =
              let good : IsSpread m k (shapes k) e = subst (IsGoodIn m k (shapes k) e) none (inv.entries k e found) in
              let own = good.marked marks stand in
              absurd (is_new m shapes inv call number (who own.state) own.state own.in_hand (own.call_is ∙ same_call-true marks.call call same))

  -- so it holds nothing yet
  has_no_hold : (k : ℕ) (e : Entry) → entry_of k m.cluster.entries ≡ Some e → e.making ≡ None → is_held_by call e.hold ≡ false
  has_no_hold k e found none = by_hold e.hold refl
    where
      by_hold : (o : Option CallId) → e.hold ≡ o → is_held_by call o ≡ false
      by_hold None holds = refl
      by_hold (Some d) holds = by_test (same_call d call) refl
        where
          by_test : (b : Bool) → same_call d call ≡ b → same_call d call ≡ false
          by_test false is_not = is_not
          by_test true same =
              let good : IsSpread m k (shapes k) e = subst (IsGoodIn m k (shapes k) e) none (inv.entries k e found) in
              let own = (good.held d holds).holder in
              absurd (is_new m shapes inv call number (who own.state) own.state own.in_hand (own.call_is ∙ same_call-true d call same))

  -- a call to the active on a handle that is there
  starts_on : (op : Op) (ask : Ask) (kind : ActiveKind) (x : HandleView) → asked op ≡ ask → asked_handle m call.actor op ≡ Some x → is_live m.cluster call ≡ true → driver_start call ask (kept_with (Some x)) ≡ active_start call kind (Some x.id) → active_kind (kept_with (Some x)).all (kept_with (Some x)).weak ask ≡ Some kind → MarksFit kind None → Starts op ask (Some x)
  starts_on op ask kind x asks named live begins is fit = record {
    driver = drivers.Active (active_begun call x.id kind);
    driven = begins;
    at = record {
      call = refl;
      kind = ap (active_kind (kept_with (Some x)).all (kept_with (Some x)).weak) asks ∙ is;
      fit = fit;
      made = asked_made op x named;
      kept = refl;
      room = kept_room (entry_of x.id m.cluster.entries);
      all = kept_declares is_all (entry_of x.id m.cluster.entries);
      weak = kept_declares is_weak (entry_of x.id m.cluster.entries);
      handle = subst (λ (o : Option HandleView). IsSome o) (sym named) refl;
      marks = λ e found. has_no_marks x.id e found (subst (λ o. IfSome o (λ (e : Entry). e.making ≡ None)) found (asked_made op x named).made);
      generation = λ e found. tt;
      made_by = tt;
    };
    live = λ others. live;
  }

  -- on a handle
  starts_active : (op : Op) (ask : Ask) (kind : ActiveKind) (h : Option HandleView) → GoesOn op ask h → ((o : Option HandleView) → driver_start call ask (kept_with o) ≡ active_start call kind (ckpt_of_handle o)) → ((all weak : Bool) → active_kind all weak ask ≡ Some kind) → MarksFit kind None → (not (is_live_actor call.actor m.cluster) || is_none h) ≡ false → Starts op ask h
  starts_active op ask kind h on begins is fit good =
      let (live, stands) = if_live (is_none h) good in
      let (x, there) = handle_there h stands in
      let named : asked_handle m call.actor op ≡ Some x = on.named ∙ there in
      subst (Starts op ask) (sym there) (starts_on op ask kind x on.is named live (begins (Some x)) (is (kept_with (Some x)).all (kept_with (Some x)).weak) fit)

  -- each operation that goes on
  starts : (op : Op) (ask : Ask) (h : Option HandleView) → GoesOn op ask h → Starts op ask h
  starts op (asks.Enter r version callbacks) h on =
      let client = asker_client call.actor (asks.Enter r version callbacks) on.asker (λ copy. copy) in
      record { driver = drivers.Once (once.Enter r); driven = refl; at = record { version = version; callbacks = callbacks; asks = on.is; client = client; up = on.may.1; not_live = sym (client_lives m.cluster call.actor client) ∙ on.may.0 }; live = λ others. absurd (cc others) }
  starts op (asks.Open place name flags timeout a) h on =
      let client = asker_client call.actor (asks.Open place name flags timeout a) on.asker (λ copy. copy) in
      let (live, rest) = live_client (is_live_actor call.actor m.cluster) false on.passed.unrefused.handle in
      let (names, attributes) = or_parts (name_is_bad name || timeout_is_bad timeout) (attributes_are_bad flags a) on.passed.unrefused.arguments in
      record {
        driver = _;
        driven = refl;
        at = record {
          caller = client;
          client = refl;
          within = IsClient-number call.actor client;
          node = node_up call.actor live;
          home = refl;
          asks = record { place = place; flags = flags; timeout = timeout; asks = on.is };
          named = (or_parts (name_is_bad name) (timeout_is_bad timeout) names).0;
          declared = attributes_are_bad-false flags a attributes;
          deadline = sym (ap (deadline_from m.cluster.moment) on.is);
          making = tt;
          given = λ some. absurd (cc some);
        };
        live = λ others. live_then live;
      }
  starts op (asks.Change place update) h on =
      let (live, stands) = if_live (is_none h) on.passed.unrefused.handle in
      let (x, there) = handle_there h stands in
      subst (Starts op (asks.Change place update)) (sym there) (by_all x (on.named ∙ there) live (kept_with (Some x)).all refl)
    where
      few : (weak : Bool) → MarksFit (kind_of_change weak update) None
      few weak = change_fits weak update on.passed.unrefused.arguments

      by_all : (x : HandleView) → asked_handle m call.actor op ≡ Some x → is_live m.cluster call ≡ true → (all : Bool) → (kept_with (Some x)).all ≡ all → Starts op (asks.Change place update) (Some x)
      by_all x named live true all = record {
        driver = drivers.Update (update_begun call x.id);
        driven = ap (λ b. change_start call b (kind_of_change (kept_with (Some x)).weak update) (Some x.id)) all;
        at = update_begins m shapes inv call number op x place update on.is (asked_made op x named) all;
        live = λ others. live;
      }
      by_all x named live false none = starts_on op (asks.Change place update) (kind_of_change (kept_with (Some x)).weak update) x on.is named live (ap (λ b. change_start call b (kind_of_change (kept_with (Some x)).weak update) (Some x.id)) none) (ap (λ b. change_kind b (kind_of_change (kept_with (Some x)).weak update)) none) (few (kept_with (Some x)).weak)
  starts op (asks.Read place elements) h on = starts_active op (asks.Read place elements) kinds.Read h on (λ o. refl) (λ all weak. refl) tt on.passed.unrefused.handle
  starts op (asks.Status place) h on = starts_active op (asks.Status place) kinds.Status h on (λ o. refl) (λ all weak. refl) tt on.passed.unrefused.handle
  starts op (asks.Iterate iteration place chosen time) h on = starts_active op (asks.Iterate iteration place chosen time) (kinds.Iterate (choice_of chosen time)) h on (λ o. refl) (λ all weak. refl) tt on.passed.unrefused.handle
  starts op (asks.Next iteration) h on = starts_active op (asks.Next iteration) kinds.Next h on (λ o. refl) (λ all weak. refl) tt on.passed.unrefused.handle
  starts op (asks.EndIteration iteration) h on = absurd (let none = on.passed.takes in cc none)
  starts op (asks.Close place) h on =
      let (live, stands) = if_live (is_none h) on.passed.unrefused.handle in
      let (x, there) = handle_there h stands in
      subst (Starts op (asks.Close place)) (sym there) (record { driver = drivers.Once (once.Close x.id); driven = refl; at = record { place = place; asks = on.is; kept = refl }; live = λ others. live })
  starts op (asks.Retain place duration) h on =
      let (live, stands) = if_live (is_none h) on.passed.unrefused.handle in
      let (x, there) = handle_there h stands in
      subst (Starts op (asks.Retain place duration)) (sym there) (record {
        driver = drivers.Once (once.Retain x.id duration);
        driven = refl;
        at = record { place = place; asks = on.is; from_zero = not_below duration on.passed.unrefused.arguments; kept = refl; made = asked_made op x (on.named ∙ there) };
        live = λ others. live;
      })
  starts op (asks.Unlink name) h on = let (live, rest) = if_live false on.passed.unrefused.handle in record { driver = drivers.Once (once.Unlink name); driven = refl; at = on.is; live = λ others. live }
  starts op asks.Leave h on =
      let client = asker_client call.actor asks.Leave on.asker (λ copy. copy) in
      let (live, rest) = live_client (is_live_actor call.actor m.cluster) false on.passed.unrefused.handle in
      record { driver = drivers.Once once.Leave; driven = refl; at = record { asks = on.is; live = sym (client_lives m.cluster call.actor client) ∙ live }; live = λ others. live_then live }
  starts op (asks.Synchronize place timeout) h on =
      let (live, stands) = if_live (is_none h) on.passed.unrefused.handle in
      let (x, there) = handle_there h stands in
      let allowed : are_of_all x.creation_flags ≡ false = ap (λ o. has_bad_operation o (asks.Synchronize place timeout)) (sym there) ∙ on.passed.unrefused.operation in
      subst (Starts op (asks.Synchronize place timeout)) (sym there) (record {
        driver = drivers.Sync (sync_begun call x.id (Synchronize (option_map (sum_until_end m.cluster.moment) timeout)));
        driven = refl;
        at = record {
          call = refl;
          place = place;
          timeout = timeout;
          asks = on.is;
          kind = ap (λ a. Synchronize (deadline_from m.cluster.moment a)) (sym on.is);
          kept = refl;
          made = asked_made op x (on.named ∙ there);
          alone = not_of_all (entry_of x.id m.cluster.entries) x.creation_flags allowed (asked_good op x (on.named ∙ there)).flags;
          declares = declares_itself (entry_of x.id m.cluster.entries);
          pulled = refl;
          nodes = refl;
          served = λ r below. slice_get-replicate {A = Bool} nodes_max false r below;
          led = tt;
          older = tt;
        };
        live = λ others. live;
      })
  starts op (asks.SetActive place) h on =
      let client = asker_client call.actor (asks.SetActive place) on.asker (λ copy. copy) in
      let (lives, stands) = live_client (is_live_actor call.actor m.cluster) (is_none h) on.passed.unrefused.handle in
      let (x, there) = handle_there h stands in
      let allowed : are_not_collocated x.creation_flags ≡ false = ap (λ o. has_bad_operation o (asks.SetActive place)) (sym there) ∙ on.passed.unrefused.operation in
      let good = asked_good op x (on.named ∙ there) in
      let collocated = are_collocated (entry_of x.id m.cluster.entries) x.creation_flags allowed good.flags in
      subst (Starts op (asks.SetActive place)) (sym there) (record {
        driver = drivers.Sync (sync_begun call x.id (ActiveSet (kept_with (Some x)).node));
        driven = refl;
        at = record {
          call = refl;
          place = place;
          asks = on.is;
          node = refl;
          within = ltb-true (kept_with (Some x)).node 8 (and_parts (nat_lt (kept_with (Some x)).node 8) (not (slice_index m.cluster.up (kept_with (Some x)).node == 0)) (node_up call.actor lives)).0;
          kept = refl;
          made = asked_made op x (on.named ∙ there);
          collocated = collocated;
          complete = IfSome-from (entry_of x.id m.cluster.entries) (λ e. IsCompleteOn e (kept_with (Some x)).node) (λ e found. subst (IsCompleteOn e) (sym (client_home m.cluster call.actor client)) (IfSome-at (entry_of x.id m.cluster.entries) _ good.placed e found (IfSome-at (entry_of x.id m.cluster.entries) _ collocated e found)));
          declares = declares_itself (entry_of x.id m.cluster.entries);
          held = IfSome-from (entry_of x.id m.cluster.entries) _ (λ e found. has_no_hold x.id e found (IfSome-at (entry_of x.id m.cluster.entries) _ good.made.made e found));
        };
        live = λ others. live_then lives;
      })
  starts op (asks.Dispatch flags) h on = absurd (let none = on.passed.takes in cc none)
  starts op asks.Copy h on = record {
    driver = drivers.Copy (copy_begun call (update_begun call 0));
    driven = refl;
    at = record { call = refl; asks = on.is; node = node_by_number call.actor on.asker; within = node_number call.actor on.asker; at = tt };
    live = λ others. live_then on.may;
  }

  -- ---- the state after a beginning

  module _ (op : Op) (end : Option Outcome) (details : Details) (is : IsBegun m call op end details) where
    -- an asynchronous call is answered at once
    is_told : is_async (word_of_op op) ≡ true → end ≡ None → ⊥
    is_told async none = by_op op async (subst (BeginRow (standing_of m call.actor op) (asked op)) none (row_of (standing_of m call.actor op) (asked op) is.built end is.answer)) where
      by_op : (op : Op) → is_async (word_of_op op) ≡ true → BeginRow (standing_of m call.actor op) (asked op) None → ⊥
      by_op (ops.OpenAsync place invocation name flags a) async row = (let waits = row.1 in cc waits)
      by_op (ops.SyncAsync place invocation) async row = (let waits = row.1 in cc waits)
      by_op op async row = cc async

    -- a call that is in hand behind its beginning is where this has led it
    begins : (z : CallState) → call_begun end call op (kept_with (asked_handle m call.actor op)) ≡ Some z → IsBeginning m shapes inv call number (word_of_op op) z
    begins z there =
        let h = asked_handle m call.actor op in
        let goes = begun_goes end call op (kept_with h) z there in
        let first = starts op (asked op) h (record { is = refl; asker = is.asker; may = is.may; passed = begun_passed m call op end details is goes; named = refl }) in
        subst (IsBeginning m shapes inv call number (word_of_op op)) (same_Some (state_with op h first.driver) z (sym (driven_begun end call op (kept_with h) first.driver goes first.driven) ∙ there))
        (record { call_is = refl; asker = is.asker; word_is = refl; built = is.built; driven = first.driven; live = first.live; home = λ others. refl; at = first.at })

    -- all is so of the calls in hand, and of the call that begins
    begun_holds : InvariantIn shapes (begun_call m call op end)
    begun_holds = begun_keeps m shapes inv call number (word_of_op op) _ (call_begun end call op (kept_with (asked_handle m call.actor op))) (own_name_idle m shapes inv call number (word_of_op op) is.none_in_hand)
        (calls_begun m.in_hand m.pending m.next inv.calls (λ w z held. (inv.hands w z held).number) end call op (asked_handle m call.actor op) (kept_with (asked_handle m call.actor op)) number is_told) begins

    -- one that is answered at once is in hand under no name of its client's
    begun_idle : (o : Outcome) → end ≡ Some o → (begun_call m call op end).in_hand (Actor call.actor) ≡ None
    begun_idle o ended = by_word (is_async (word_of_op op)) refl where
      ends : (o : Outcome) → goes_on (word_of_op op) (Some o) ≡ is_async (word_of_op op) ⊎ goes_on (word_of_op op) (Some o) ≡ false
      ends (Done answer) = inl refl
      ends o = inr refl

      by_word : (b : Bool) → is_async (word_of_op op) ≡ b → put_who m.in_hand (stepped_as call (word_of_op op)) (call_begun end call op (kept_with (asked_handle m call.actor op))) (Actor call.actor) ≡ None
      by_word true async = put_who-other m.in_hand (stepped_as call (word_of_op op)) _ (Actor call.actor) (ap (same_who (Actor call.actor)) (stepped_as-async call (word_of_op op) async)) ∙ is.none_in_hand
      by_word false plain =
          let over : goes_on (word_of_op op) end ≡ false = ap (goes_on (word_of_op op)) ended ∙ elim (ends o) [ inl same ↦ same ∙ plain | inr over ↦ over ] in
          ap (λ w. put_who m.in_hand w (call_begun end call op (kept_with (asked_handle m call.actor op))) (Actor call.actor)) (stepped_as-plain call (word_of_op op) plain)
          ∙ put_who-here m.in_hand (Actor call.actor) _ ∙ none_begun end call op (kept_with (asked_handle m call.actor op)) over

    -- and what it changes of its client's tables keeps it so
    then_holds : (o : Option Outcome) → end ≡ o → InvariantIn shapes (after_beginning m call op end)
    then_holds None goes = subst (InvariantIn shapes) (sym (same_tables (begun_call m call op end) call.actor (ended_at_once end (asked op) (m.pending call.actor)) (ap (λ o. ended_at_once o (asked op) (m.pending call.actor) (m.tables call.actor)) goes))) begun_holds
    then_holds (Some o) ended = ended_at_once_keeps (begun_call m call op end) shapes begun_holds call.actor (begun_idle o ended) end (asked op) (m.pending call.actor)

  pub begin_keeps : (op : Op) (end : Option Outcome) (details : Details) → IsBegun m call op end details → Invariant (after_beginning m call op end)
  begin_keeps op end details is = record { shapes = shapes; holds = then_holds op end details is end refl }
