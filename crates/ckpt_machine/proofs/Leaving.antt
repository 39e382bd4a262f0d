-- A client leaves, and its asynchronous calls and all that they are making go with it; what holds of the calls of others stays.
use Rattle.std.proofs.Common.{◌≡◌, ℕ, inl, inr, filter, Option, Some, None, Bool, true, false, cond, not, ◌==◌, refl, sym, ap, subst, ◌∙◌, arith}
use Rattle.std.specs.Prelude.{is_some, IsSome, IfSome, Contains}
use Rattle.std.proofs.lemmas.Option.{same_Some}
use Rattle.ckpt_types.specs.declared.identities.ActorName.{ActorName}
use Rattle.ckpt_types.specs.declared.identities.ActorName.TheVariants.{Client, Node}
use Rattle.ckpt_types.specs.declared.identities.CallId.{CallId}
use Rattle.ckpt_types.specs.declared.identities.Who.{Who}
use Rattle.ckpt_types.specs.declared.identities.Who.TheVariants.{Actor}
use Rattle.ckpt_types.specs.Asks.{Ask, MayAsk, asked, is_async_ask}
use Rattle.ckpt_types.specs.Asks as asks
use Rattle.ckpt_types.specs.OpWord.{is_async, word_of_op}
use Rattle.call_dispatch.specs.PendingCalls.{no_pending}
use Rattle.node_msgs.specs.declared.next.RecordStep.TheVariants as events
use Rattle.node_msgs.specs.declared.next.Next.TheVariants.{Event}
use Rattle.client_handles.specs.ClientState.{emptied}
use Rattle.client_handles.specs.declared.handle_view.HandleView.{HandleView}
use Rattle.weak_marks.specs.Marks.{Marked}
use Rattle.cluster_record.specs.declared.entries.Entry.{Entry}
use Rattle.cluster_record.specs.Calls.{IsClient, same_actor, put_actor, number_of, client_of}
use Rattle.cluster_record.specs.DueOnce.{Leave}
use Rattle.cluster_record.specs.Identities.{IdentitiesRise}
use Rattle.cluster_record.specs.Places.{find_key}
use Rattle.cluster_record.specs.RecordState.{RecordState, entry_of, client_key, is_live, is_live_from, stays, swept, released_all, is_call_of, departed}
use Rattle.cluster_record.proofs.IdentityLaws.{IdentitiesRise-filter, IdentitiesRise-map, AllUpTo-filter, AllUpTo-map}
use Rattle.cluster_record.proofs.MakingCounts.{is_call_of-own}
use Rattle.ckpt_machine.specs.Drivers as drivers
use Rattle.ckpt_machine.specs.InHand.{IsLeaveAt, IsMakingIn, IsOpenIn, IsActiveIn, IsSettingIn, IsSyncBy, IsInHand, IsInPlace}
use Rattle.ckpt_machine.specs.Invariant.{IsMaker, IsGoodClient, AreCalls, InvariantIn, Invariant}
use Rattle.ckpt_machine.specs.Later.{IsLaterEntry, IsLaterRecord}
use Rattle.ckpt_machine.specs.Machine.{Machine, CallState, who}
use Rattle.ckpt_machine.specs.Shape.{Shape, IsOwner, IsMarker, IsHolder}
use Rattle.ckpt_machine.specs.After.{with_tables, without_calls, record_step}
use Rattle.ckpt_machine.specs.Due.{Told, IsDone, driver_of}
use Rattle.ckpt_machine.specs.Tables.{handle_asked}
use Rattle.ckpt_machine.specs.Whose.{is_of, same_who}
use Rattle.ckpt_machine.proofs.Actors.{same_actor-true}
use Rattle.ckpt_machine.proofs.AsyncNames.{plain_asked, own_name}
use Rattle.ckpt_machine.proofs.CallsPending.{calls_dropped}
use Rattle.ckpt_machine.proofs.ClientTables.{KeepsHandle}
use Rattle.ckpt_machine.proofs.DroppedCalls.{without_those, left_in, pending_keeps}
use Rattle.ckpt_machine.proofs.DueStep.{Goes}
use Rattle.ckpt_machine.proofs.Askers.{asker_client}
use Rattle.ckpt_machine.proofs.EndedTables.{other_number, live_as, emptied_keeps}
use Rattle.ckpt_machine.proofs.Entries.{ComesOf, ComesOf-filter, ComesOf-map, ComesOf-then, found_filter, found_passing, found_map}
use Rattle.ckpt_machine.proofs.EntryLists.{find_key-without, AllStay-swept}
use Rattle.ckpt_machine.proofs.FewerCalls.{calls_fewer}
use Rattle.ckpt_machine.proofs.Moment.{IsLaterEntry-refl, making_stays}
use Rattle.ckpt_machine.proofs.OptionLemmas.{IsSomeAnd-at}
use Rattle.ckpt_machine.proofs.OtherCalls.{plain_active}
use Rattle.ckpt_machine.proofs.PlainCalls.{is_plain, ending, IsLaterEntry-then, left_other, owner_apart, marker_apart, holder_apart, maker_apart}
use Rattle.ckpt_machine.proofs.RecordSteps.{record_keeps}
use Rattle.ckpt_machine.proofs.References.{released_all-identity, released_all-later}
use Rattle.ckpt_machine.proofs.StepLabels.{IsEvent-told}
use Rattle.ckpt_machine.proofs.UpdateIn.{update_plain}
use Rattle.ckpt_machine.proofs.Whose.{put_who-other, stepped_as-plain, stepped_as-async}

-- a call of another client, or of a node, is none of this client's
not_call_of : (c : ℕ) (call : CallId) (ask : Ask) → MayAsk call.actor ask → (IsClient call.actor → (client_of call == c) ≡ false) → is_call_of c (Some call) ≡ false
not_call_of c call ask may other = by_actor call.actor call.number ask may other where
  by_actor : (a : ActorName) (n : ℕ) (ask : Ask) → MayAsk a ask → (IsClient a → (number_of a == c) ≡ false) → is_call_of c (Some (record { actor = a; number = n })) ≡ false
  by_actor (Client d) n asks.Copy may other = absurd may
  by_actor (Client d) n ask may other = other may
  by_actor (Node r) n ask may other = refl

module _ (m : Machine) (shapes : ℕ → Shape) (inv : InvariantIn shapes m) (s : CallState) (held : m.in_hand (who s) ≡ Some s) (is : driver_of s ≡ drivers.Once Leave) where
  abbrev a : ActorName
  a = s.call.actor

  abbrev leaver : ℕ
  leaver = client_of s.call

  abbrev left_then : RecordState
  left_then = departed leaver m.cluster

  at_leave : IsLeaveAt m s
  at_leave = subst (λ d. IsInPlace m shapes s d) is (inv.hands (who s) s held).here

  -- it is a client's, and no asynchronous call
  client : IsClient a
  client = asker_client a asks.Leave (subst (MayAsk a) at_leave.asks (inv.hands (who s) s held).asker) (λ copy. copy)

  name : who s ≡ Actor a
  name = own_name s (ap is_async_ask at_leave.asks)

  -- ---- the client has no handle any more

  abbrev emptied_then : Machine
  emptied_then = with_tables a emptied m

  -- the call is about no handle
  keeps_handle : KeepsHandle m a emptied
  keeps_handle z at there =
      let state : s ≡ z = same_Some s z (sym held ∙ ap m.in_hand name ∙ at) in
      let asks = sym (ap (λ (x : CallState). asked x.op) state) ∙ at_leave.asks in
      absurd (let w : false ≡ true = ap (λ ask. is_some (handle_asked ask (m.tables a))) (sym asks) ∙ there in cc w)

  emptied_inv : InvariantIn shapes emptied_then
  emptied_inv = emptied_keeps m shapes inv a keeps_handle

  -- ---- the calls that are left

  abbrev hands : Who → Option CallState
  hands = (ending s (without_those (is_of a) m)).in_hand

  -- one that is left was in hand, and is another client's
  left_is : (w : Who) (z : CallState) → hands w ≡ Some z → (same_who w (who s) ≡ false) × (is_of a w ≡ false) × (m.in_hand w ≡ Some z)
  left_is w z left = left_other s (without_those (is_of a) m) w z left (λ other at. let (stays, there) = left_in (is_of a) m w z at in (other, stays, there))

  others_actor : (w : Who) (z : CallState) → hands w ≡ Some z → same_actor z.call.actor a ≡ false
  others_actor w z left =
      let (other, stays, at) = left_is w z left in
      by_word z (inv.hands w z at).whose other stays (is_async (word_of_op z.op)) refl
    where
      by_word : (z : CallState) → who z ≡ w → same_who w (who s) ≡ false → is_of a w ≡ false → (b : Bool) → is_async (word_of_op z.op) ≡ b → same_actor z.call.actor a ≡ false
      by_word z whose other stays false plain = (λ i. same_who (sym (stepped_as-plain z.call (word_of_op z.op) plain) i) (sym name i)) ∙ ap (λ v. same_who v (who s)) whose ∙ other
      by_word z whose other stays true async = ap (is_of a) (sym (stepped_as-async z.call (word_of_op z.op) async) ∙ whose) ∙ stays

  others_client : (w : Who) (z : CallState) → hands w ≡ Some z → IsClient z.call.actor → (client_of z.call == leaver) ≡ false
  others_client w z left is_client = other_number z.call.actor a is_client client (others_actor w z left)

  -- who asks for what it does may do so
  its_asker : (w : Who) (z : CallState) → hands w ≡ Some z → MayAsk z.call.actor (asked z.op)
  its_asker w z left = (inv.hands w z (left_is w z left).2).asker

  -- what is another call, and none of the client's asynchronous ones, is left
  stays_left : (w : Who) → same_who w (who s) ≡ false → is_of a w ≡ false → hands w ≡ m.in_hand w
  stays_left w other stays = put_who-other (without_those (is_of a) m).in_hand (who s) None w other ∙ ap (λ b. cond b None (m.in_hand w)) stays

  -- one that is no asynchronous one is none of those
  plain_of : (z : CallState) → is_async (word_of_op z.op) ≡ false → is_of a (who z) ≡ false
  plain_of z plain = ap (is_of a) (stepped_as-plain z.call (word_of_op z.op) plain)

  -- ---- the record

  abbrev others_made : Entry → Bool
  others_made e = not (is_call_of leaver e.making)

  abbrev release : Entry → Entry
  release = released_all leaver m.cluster.moment

  -- another client is live as it was
  found_other : (d : ℕ) → (d == leaver) ≡ false → find_key client_key d left_then.clients ≡ find_key client_key d m.cluster.clients
  found_other d other = find_key-without client_key leaver d m.cluster.clients ∙ ap (λ b. cond b None (find_key client_key d m.cluster.clients)) other

  others_rise : IdentitiesRise (filter others_made m.cluster.entries)
  others_rise = IdentitiesRise-filter others_made m.cluster.entries inv.rises

  left_rise : IdentitiesRise left_then.entries
  left_rise = IdentitiesRise-map release (released_all-identity leaver m.cluster.moment) (filter others_made m.cluster.entries) others_rise

  released_later : ComesOf (IsLaterEntry m.cluster.up) (filter others_made m.cluster.entries) left_then.entries
  released_later = ComesOf-map (IsLaterEntry m.cluster.up) release (released_all-identity leaver m.cluster.moment) (released_all-later m.cluster.up leaver m.cluster.moment) (filter others_made m.cluster.entries)

  swept_later : ComesOf (IsLaterEntry m.cluster.up) m.cluster.entries (swept left_then).entries
  swept_later = ComesOf-then (IsLaterEntry m.cluster.up) (IsLaterEntry m.cluster.up) (IsLaterEntry m.cluster.up) (IsLaterEntry-then m.cluster.up) m.cluster.entries left_then.entries (swept left_then).entries
      (ComesOf-then (IsLaterEntry m.cluster.up) (IsLaterEntry m.cluster.up) (IsLaterEntry m.cluster.up) (IsLaterEntry-then m.cluster.up) m.cluster.entries (filter others_made m.cluster.entries) left_then.entries (ComesOf-filter (IsLaterEntry m.cluster.up) (IsLaterEntry-refl m.cluster.up) others_made m.cluster.entries inv.rises) released_later)
      (ComesOf-filter (IsLaterEntry m.cluster.up) (IsLaterEntry-refl m.cluster.up) (stays m.cluster.moment) left_then.entries left_rise)

  -- what another client's call is making is left
  makes_still : (z : CallState) → MayAsk z.call.actor (asked z.op) → (IsClient z.call.actor → (client_of z.call == leaver) ≡ false) → (k : ℕ) (e : Entry) → entry_of k m.cluster.entries ≡ Some e → e.making ≡ Some z.call → IsSome (entry_of k (swept left_then).entries)
  makes_still z may other k e was by =
      let among : others_made e ≡ true = ap (λ o. not (is_call_of leaver o)) by ∙ ap not (not_call_of leaver z.call (asked z.op) may other) in
      let found = found_map release (released_all-identity leaver m.cluster.moment) k (filter others_made m.cluster.entries) e (found_filter others_made k m.cluster.entries e was among) in
      let made_by : is_some (release e).making ≡ true = ap is_some (released_all-later m.cluster.up leaver m.cluster.moment e).making ∙ ap is_some by in
      ap is_some (found_filter (stays m.cluster.moment) k left_then.entries (release e) found (making_stays m.cluster.moment (release e) made_by))

  -- what is left is none of the client's
  none_of_it : (k : ℕ) (e : Entry) → entry_of k m.cluster.entries ≡ Some e → IsSome (entry_of k (swept left_then).entries) → is_call_of leaver e.making ≡ false
  none_of_it k e was some = by_entry (entry_of k (swept left_then).entries) refl some
    where
      not_true : (b : Bool) → not b ≡ true → b ≡ false
      not_true true is = absurd (cc is)
      not_true false is = refl

      by_entry : (o : Option Entry) → entry_of k (swept left_then).entries ≡ o → is_some o ≡ true → is_call_of leaver e.making ≡ false
      by_entry None gone some = absurd (cc some)
      by_entry (Some f) found some =
          let (g, g_there, g_is) = ComesOf-filter (λ x y. x ≡ y) (λ x. refl) (stays m.cluster.moment) left_then.entries left_rise k f found in
          let (h, h_there, h_later) = released_later k g g_there in
          let (x, x_there, x_is) = ComesOf-filter (λ x y. x ≡ y) (λ x. refl) others_made m.cluster.entries inv.rises k h h_there in
          let same : h ≡ e = sym x_is ∙ same_Some x e (sym x_there ∙ was) in
          not_true (is_call_of leaver e.making) (ap others_made (sym same) ∙ found_passing others_made k m.cluster.entries h h_there)

  -- ---- those who own, hold or are making something

  plain : is_plain (driver_of s) s.snapshot ≡ true
  plain = ap (λ d. is_plain d s.snapshot) is

  owner_left : (k : ℕ) (sh : Shape) (d : CallId) (own : IsOwner emptied_then k sh d) → hands (who own.state) ≡ m.in_hand (who own.state)
  owner_left k sh d own =
      let plain_ask = update_plain emptied_then shapes own.state (driver_of own.state) own.driver (emptied_inv.hands (who own.state) own.state own.in_hand).here own.driver_is in
      stays_left (who own.state) (owner_apart emptied_then shapes emptied_inv s held plain k sh d own) (plain_of own.state (plain_asked own.state.op plain_ask))

  marker_left : (k : ℕ) (marks : Marked) (own : IsMarker emptied_then k marks) → hands (who own.state) ≡ m.in_hand (who own.state)
  marker_left k marks own =
      let at : IsActiveIn emptied_then shapes own.state own.driver = subst (λ d. IsInPlace emptied_then shapes own.state d) own.driver_is (emptied_inv.hands (who own.state) own.state own.in_hand).here in
      stays_left (who own.state) (marker_apart emptied_then shapes emptied_inv s held plain k marks own) (plain_of own.state (plain_active own.state.kept.all own.state.kept.weak own.state.op own.driver.kind at.kind))

  holder_left : (k : ℕ) (active : Option ℕ) (d : CallId) (own : IsHolder emptied_then k active d) → hands (who own.state) ≡ m.in_hand (who own.state)
  holder_left k active d own =
      let here : IsSyncBy emptied_then own.state own.driver own.driver.kind = subst (λ d. IsInPlace emptied_then shapes own.state d) own.driver_is (emptied_inv.hands (who own.state) own.state own.in_hand).here in
      let at : IsSettingIn emptied_then own.state own.driver own.local = subst (IsSyncBy emptied_then own.state own.driver) own.kind here in
      stays_left (who own.state) (holder_apart emptied_then shapes emptied_inv s held plain k active d own) (plain_of own.state (plain_asked own.state.op (ap is_async_ask at.asks)))

  maker_left : (k : ℕ) (d : CallId) → IsSome (entry_of k (swept left_then).entries) → (own : IsMaker emptied_then k d) → hands (who own.state) ≡ m.in_hand (who own.state)
  maker_left k d some own = stays_left (who own.state) (maker_apart emptied_then shapes emptied_inv s held plain k d own) (by_word (is_async (word_of_op own.state.op)) refl)
    where
      was : IsInHand emptied_then shapes (who own.state) own.state
      was = emptied_inv.hands (who own.state) own.state own.in_hand

      its : IsMakingIn emptied_then own.state own.making
      its = subst (λ w. IfSome w (IsMakingIn emptied_then own.state)) own.making_is (let at : IsOpenIn emptied_then own.state own.driver = subst (λ d. IsInPlace emptied_then shapes own.state d) own.driver_is was.here in at.making)

      its_client : IsClient own.state.call.actor
      its_client = let at : IsOpenIn emptied_then own.state own.driver = subst (λ d. IsInPlace emptied_then shapes own.state d) own.driver_is was.here in at.caller

      -- it is none of the client's
      none_of : is_call_of leaver (Some own.state.call) ≡ false
      none_of =
          let (e, found, by) = IsSomeAnd-at (entry_of own.making.ckpt m.cluster.entries) (λ (e : Entry). e.making ≡ Some own.state.call) its.there in
          ap (is_call_of leaver) (sym by) ∙ none_of_it k e (ap (λ j. entry_of j m.cluster.entries) (sym own.ckpt) ∙ found) some

      by_actor : (b : Bool) → same_actor own.state.call.actor a ≡ b → same_actor own.state.call.actor a ≡ false
      by_actor false other = other
      by_actor true same = absurd (let w : true ≡ false = sym (is_call_of-own own.state.call its_client) ∙ ap (λ b. is_call_of (number_of b) (Some own.state.call)) (same_actor-true own.state.call.actor a same) ∙ none_of in cc w)

      by_word : (b : Bool) → is_async (word_of_op own.state.op) ≡ b → is_of a (who own.state) ≡ false
      by_word false is_plain_call = plain_of own.state is_plain_call
      by_word true async = ap (is_of a) (stepped_as-async own.state.call (word_of_op own.state.op) async) ∙ by_actor (same_actor own.state.call.actor a) refl

  -- ---- the whole

  -- who has a handle is another client
  not_leaving : (b : ActorName) (h : HandleView) → Contains (emptied_then.tables b).handles h → (number_of b == leaver) ≡ false
  not_leaving b h among = by_test (same_actor b a) refl among
    where
      by_test : (t : Bool) → same_actor b a ≡ t → Contains (cond t (emptied (m.tables a)) (m.tables b)).handles h → (number_of b == leaver) ≡ false
      by_test true same there = absurd (let (i, below, at) = there in omega (arith, below))
      by_test false other there = other_number b a (emptied_inv.handles b h among).client client other

  -- a dead call is dead still, as there are fewer clients
  dead_left : (b : ActorName) (number : ℕ) → is_live m.cluster (record { actor = b; number = number }) ≡ false → is_live left_then (record { actor = b; number = number }) ≡ false
  dead_left (Node q) number gone = gone
  dead_left (Client d) number gone = ap (λ o. is_live_from o number) (find_key-without client_key leaver d m.cluster.clients)
      ∙ elim (d == leaver) as (λ b. is_live_from (cond b None (find_key client_key d m.cluster.clients)) number ≡ false) [ true ↦ refl | false ↦ gone ]

  later : IsLaterRecord emptied_then (swept left_then) hands
  later = record {
    up = refl;
    incarnations = refl;
    first_calls = refl;
    last = refl;
    rises = IdentitiesRise-filter (stays m.cluster.moment) left_then.entries left_rise;
    up_to = AllUpTo-filter (stays m.cluster.moment) m.cluster.last_identity left_then.entries (AllUpTo-map release (released_all-identity leaver m.cluster.moment) m.cluster.last_identity (filter others_made m.cluster.entries) (AllUpTo-filter others_made m.cluster.last_identity m.cluster.entries inv.up_to));
    swept = AllStay-swept m.cluster.moment left_then.entries;
    later = swept_later;
    none_live = λ none. ap (filter (λ live. not (client_key live == leaver))) (inv.none_live none);
    clients = λ d. subst (λ o. IfSome o (IsGoodClient m.next left_then d)) (sym (find_key-without client_key leaver d m.cluster.clients)) (elim (d == leaver) as (λ b. IfSome (cond b None (find_key client_key d m.cluster.clients)) (IsGoodClient m.next left_then d)) [ true ↦ tt | false ↦ inv.clients d ]);
    was_held = λ w z left. (left_is w z left).2;
    dead = λ d dead. dead_left d.actor d.number dead.gone;
    live = λ w z left live. live_as m.cluster left_then z.call (asked z.op) (its_asker w z left) (λ client. found_other (client_of z.call) (others_client w z left client)) refl refl ∙ live;
    lives = λ w z left client. found_other (client_of z.call) (others_client w z left client);
    makes = λ w z k e left was by. makes_still z (its_asker w z left) (others_client w z left) k e was by;
    homes = λ b h among. found_other (number_of b) (not_leaving b h among);
    owners = owner_left;
    markers = λ k marks there own. marker_left k marks own;
    holders = λ k active d there own. holder_left k active d own;
    makers = maker_left;
  }

  -- of the calls that are not dispatched none is the client's
  calls_then : AreCalls hands (put_actor m.pending a no_pending) m.next
  calls_then = calls_fewer (without_those (is_of a) m).in_hand hands (put_actor m.pending a no_pending) m.next (λ w z left. left_other s (without_those (is_of a) m) w z left (λ other at. at))
      (calls_dropped m.in_hand m.pending m.next inv.calls a (λ w z at. (inv.hands w z at).whose))

  leave_keeps : Invariant (ending s (without_calls a (with_tables a emptied (record_step (departed leaver) m))))
  leave_keeps = record { shapes = shapes; holds = pending_keeps _ shapes (record_keeps emptied_then shapes emptied_inv (swept left_then) hands later) (put_actor m.pending a no_pending) calls_then }

  -- the next step of a Finalize
  pub leave_goes : (t : Told) → IsDone m s (Event events.Leave) t → Goes m s (driver_of s) t
  leave_goes t event = elim (IsEvent-told m s events.Leave t (drivers.Once Leave) event is refl tt) [
    | inl ok ↦ subst (Goes m s (driver_of s)) (sym ok) (record {
      row = ((at_leave.asks, (at_leave.live, refl)), refl);
      holds = leave_keeps;
      nearer = λ none. absurd (cc none);
    })
    | inr memory ↦ absurd (cc (memory.0))
  ]
