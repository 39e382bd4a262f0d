-- A call begins, with any calls of others in hand.
use Rattle.std.proofs.Common.{◌≡◌, ◌≢◌, ℕ, zero, suc, ◌+◌, ◌<◌, ◌≤◌, ◌==◌, ◌&&◌, List, inl, inr, Option, Some, None, Bool, true, false, cond, not, refl, sym, ap, subst, ◌∙◌, arith}
use Rattle.std.specs.Prelude.{is_some, IfSome, slice_index}
use Rattle.std.proofs.lemmas.Bool.{le-ltb}
use Rattle.ckpt_types.specs.declared.identities.ActorName.{ActorName}
use Rattle.ckpt_types.specs.declared.identities.ActorName.TheVariants.{Client, Node}
use Rattle.ckpt_types.specs.declared.identities.CallId.{CallId}
use Rattle.ckpt_types.specs.declared.identities.Who.{Who}
use Rattle.ckpt_types.specs.declared.identities.Who.TheVariants.{Actor}
use Rattle.ckpt_types.specs.declared.identities.Who.TheVariants as whos
use Rattle.ckpt_types.specs.declared.operation.Op.{Op}
use Rattle.ckpt_types.specs.declared.update.Update.{Update}
use Rattle.ckpt_types.specs.declared.words.OpWord.{OpWord}
use Rattle.ckpt_types.specs.OpWord.{is_async, word_of_op, stepped_as}
use Rattle.call_dispatch.specs.PendingCalls.{PendingCalls}
use Rattle.client_handles.specs.declared.handle_view.HandleView.{HandleView}
use Rattle.cluster_record.specs.declared.clients.LiveClient.{LiveClient}
use Rattle.cluster_record.specs.declared.entries.Entry.{Entry}
use Rattle.cluster_record.specs.Calls.{same_actor, put_actor}
use Rattle.cluster_record.specs.DueUpdate.{update_begun}
use Rattle.cluster_record.specs.LookUps.{declared_in}
use Rattle.cluster_record.specs.Places.{find_key}
use Rattle.cluster_record.specs.RecordState.{RecordState, entry_of, client_key, is_live, is_live_client, is_live_from, is_up}
use Rattle.cluster_record.specs.StepDone.{has}
use Rattle.ckpt_types.specs.Asks.{MayAsk, asked, IsBuilt}
use Rattle.ckpt_types.specs.Asks as asks
use Rattle.ckpt_machine.specs.Drivers as drivers
use Rattle.ckpt_machine.specs.Entries.{WasMade}
use Rattle.ckpt_machine.specs.Dead.{IsDead}
use Rattle.ckpt_machine.specs.InHand.{is_enter, IsInPlace, IsInHand, IsUpdateAsk, IsUpdateIn}
use Rattle.ckpt_machine.specs.Invariant.{AreCalls, IsGoodClient, IsGoodIn, InvariantIn}
use Rattle.ckpt_machine.specs.Machine.{Machine, CallState, who}
use Rattle.ckpt_machine.specs.Options.{if_declared}
use Rattle.cluster_record.specs.Placement.{is_all}
use Rattle.ckpt_machine.specs.Shape.{Shape, is_owner, IsSpread}
use Rattle.ckpt_machine.specs.After.{started_call}
use Rattle.ckpt_machine.specs.Due.{driver_of, IsDriven, is_live_actor, home_by, kept_at_beginning, declares_at}
use Rattle.ckpt_machine.specs.Whose.{put_who}
use Rattle.ckpt_machine.proofs.Actors.{same_actor-true}
use Rattle.ckpt_machine.proofs.NodeLists.{has-none}
use Rattle.ckpt_machine.proofs.Lives.{LivesOn}
use Rattle.ckpt_machine.proofs.OtherCalls.{IsIn-apart, IsGoodIn-apart}
use Rattle.ckpt_machine.proofs.Owning.{is_owner-true}
use Rattle.ckpt_machine.proofs.UpdateIn.{no_enter}
use Rattle.ckpt_machine.proofs.ByActor.{put_actor-here}
use Rattle.ckpt_machine.proofs.Whose.{put_who-cases, put_who-other, held_by_other}
use Rattle.ckpt_types.proofs.Lists.{slice_index-replicate}

-- ---- a client that is live, and its calls

-- a call with a number from its client's Initialize on is live
pub live_call : (R : RecordState) (c n : ℕ) → is_live_client c R ≡ true → IfSome (find_key client_key c R.clients) (λ live. (live.initialize < n) × (is_up live.node R ≡ true)) → is_live R (record { actor = Client c; number = n }) ≡ true
live_call R c n live from = by_client (find_key client_key c R.clients) live from
  where
    by_client : (o : Option LiveClient) → is_some o ≡ true → IfSome o (λ live. (live.initialize < n) × (is_up live.node R ≡ true)) → is_live_from o n ≡ true
    by_client None live from = absurd (cc live)
    by_client (Some x) live from = ap not (le-ltb n x.initialize (let w : x.initialize < n = from.0 in omega (arith, w)))

-- ---- the state after a beginning

module _ (m : Machine) (shapes : ℕ → Shape) (inv : InvariantIn shapes m) (call : CallId) (number : call.number ≡ m.next call.actor) where
  abbrev then_next : ActorName → ℕ
  then_next = put_actor m.next call.actor (m.next call.actor + 1)

  -- the call goes by this name, and all that are not dispatched are these
  abbrev then_machine : Who → (ActorName → PendingCalls) → Option CallState → Machine
  then_machine w pending o = record m { next = then_next; pending = pending; in_hand = put_who m.in_hand w o }

  -- its number is new, so it is in hand under no name
  pub is_new : (w : Who) (z : CallState) → m.in_hand w ≡ Some z → z.call ≢ call
  is_new w z held same =
      let lower : z.call.number < m.next z.call.actor = (inv.hands w z held).number in
      let number_is : z.call.number ≡ m.next z.call.actor = subst (λ (c : CallId). c.number ≡ m.next c.actor) (sym same) number in
      omega (arith, lower, number_is)

  -- nor is anything under its own
  pub own_name_idle : (word : OpWord) → m.in_hand (Actor call.actor) ≡ None → m.in_hand (stepped_as call word) ≡ None
  own_name_idle word idle = by_word (is_async word) where
    by_state : (o : Option CallState) → m.in_hand (whos.Call call) ≡ o → m.in_hand (whos.Call call) ≡ None
    by_state None none = none
    by_state (Some z) held = absurd (is_new (whos.Call call) z held (by_name (is_async (word_of_op z.op)) (inv.hands (whos.Call call) z held).whose)) where
      by_name : (b : Bool) → cond b (whos.Call z.call) (Actor z.call.actor) ≡ whos.Call call → z.call ≡ call
      by_name true same = cc same
      by_name false same = absurd (cc same)

    by_word : (b : Bool) → m.in_hand (cond b (whos.Call call) (Actor call.actor)) ≡ None
    by_word true = by_state (m.in_hand (whos.Call call)) refl
    by_word false = idle

  -- numbers only rise
  next_rises : (a : ActorName) (n : ℕ) → n < m.next a → n < then_next a
  next_rises a n below = elim (same_actor a call.actor) as (λ b. same_actor a call.actor ≡ b → n < cond b (m.next call.actor + 1) (m.next a)) [
    | true ↦ λ same. let at : m.next a ≡ m.next call.actor = ap m.next (same_actor-true a call.actor same) in omega (arith, below, at)
    | false ↦ λ other. below
  ] refl

  next_no_lower : (a : ActorName) (n : ℕ) → n ≤ m.next a → n ≤ then_next a
  next_no_lower a zero below = omega arith
  next_no_lower a (suc n) below = next_rises a n (omega (arith, below))

  IfSome-rises : (c : ℕ) (o : Option LiveClient) → IfSome o (IsGoodClient m.next m.cluster c) → IfSome o (IsGoodClient then_next m.cluster c)
  IfSome-rises c None was = tt
  IfSome-rises c (Some live) was = (next_rises (Client c) live.initialize was.0, was.1)

  -- the call that begins is so
  pub record IsBeginning (word : OpWord) (z : CallState) : Type 0 where
    pub call_is : z.call ≡ call
    pub asker : MayAsk z.call.actor (asked z.op)
    pub word_is : word_of_op z.op ≡ word
    pub built : IsBuilt z.op
    pub driven : IsDriven z
    pub live : is_enter (driver_of z) ≡ false → is_live m.cluster z.call ≡ true
    pub home : is_enter (driver_of z) ≡ false → z.kept.node ≡ home_by z.call.actor m.cluster
    pub at : IsInPlace m shapes z (driver_of z)

  -- a dead call is of a lower number than one that begins
  begun_higher : (d : CallId) (z : CallState) → z.call ≡ call → d.number < m.next d.actor → z.call.actor ≡ d.actor → d.number < z.call.number
  begun_higher d z call_is below actor =
      let of_call : z.call.number ≡ m.next z.call.actor = subst (λ (c : CallId). c.number ≡ m.next c.actor) (sym call_is) number in
      let at : m.next z.call.actor ≡ m.next d.actor = ap m.next actor in
      omega (arith, of_call, at, below)

  -- the invariant holds after it, where it holds of the call that begins
  pub begun_keeps : (word : OpWord) (pending : ActorName → PendingCalls) (o : Option CallState) → m.in_hand (stepped_as call word) ≡ None → AreCalls (put_who m.in_hand (stepped_as call word) o) pending then_next → ((z : CallState) → o ≡ Some z → IsBeginning word z) → InvariantIn shapes (then_machine (stepped_as call word) pending o)
  begun_keeps word pending o idle calls own = record {
    up = inv.up;
    first_up = inv.first_up;
    incarnations = (let was = inv.incarnations in record { nodes = was.nodes; first_nodes = was.first_nodes; no_later = was.no_later; from_one = λ r. next_rises (Node r) 0 (was.from_one r); present = λ r. next_no_lower (Node r) (slice_index m.cluster.first_calls r) (was.present r) });
    none_live = inv.none_live;
    rises = inv.rises;
    up_to = inv.up_to;
    few = inv.few;
    swept = inv.swept;
    entries = λ k e found. IsGoodIn-apart m shapes then_next pending (put_who m.in_hand w o) lives (λ k sh r d owns own. stays own.state own.in_hand) (λ k sh marks stand own. stays own.state own.in_hand) (λ k active d own. stays own.state own.in_hand) (λ k d own. stays own.state own.in_hand)
        k (shapes k) e e.making (inv.entries k e found);
    replicas = inv.replicas;
    reserves = inv.reserves;
    handles = inv.handles;
    rest = inv.rest;
    clients = λ c. IfSome-rises c (find_key client_key c m.cluster.clients) (inv.clients c);
    places = inv.places;
    hands = hands_then;
    calls = calls;
  }
    where
      w : Who
      w = stepped_as call word

      -- what is in hand stays so
      stays : (z : CallState) → m.in_hand (who z) ≡ Some z → put_who m.in_hand w o (who z) ≡ m.in_hand (who z)
      stays z held = put_who-other m.in_hand w o (who z) (held_by_other m.in_hand w idle (who z) z held)

      dead : (d : CallId) → IsDead m d → IsDead (then_machine w pending o) d
      dead d was = record {
        begun = next_rises d.actor d.number was.begun;
        gone = was.gone;
        before = λ v z at actor enter. elim (put_who-cases m.in_hand w o v z at) [
          | inl here ↦ begun_higher d z (own z here.1).call_is was.begun actor
          | inr other ↦ was.before v z other.1 actor enter
        ];
      }

      hands_then : (v : Who) (z : CallState) → put_who m.in_hand w o v ≡ Some z → IsInHand (then_machine w pending o) shapes v z
      hands_then v z there = elim (put_who-cases m.in_hand w o v z there) [
        | inl here ↦ (let mine = own z here.1 in record {
          whose = (λ i. stepped_as (mine.call_is i) (mine.word_is i)) ∙ sym here.0;
          asker = mine.asker;
          number = subst (λ (c : CallId). c.number < then_next c.actor) (sym mine.call_is) (subst (λ n. call.number < n) (sym (put_actor-here m.next call.actor (m.next call.actor + 1))) (omega (arith, number)));
          built = mine.built;
          driven = mine.driven;
          live = mine.live;
          home = mine.home;
          here = IsIn-apart m shapes then_next pending (put_who m.in_hand w o) dead z mine.asker (driver_of z) mine.at;
        })
        | inr other ↦ (let was = inv.hands v z other.1 in record { whose = was.whose; asker = was.asker; number = next_rises z.call.actor z.call.number was.number; built = was.built; driven = was.driven; live = was.live; home = was.home; here = IsIn-apart m shapes then_next pending (put_who m.in_hand w o) dead z was.asker (driver_of z) was.here })
      ]

      lives : LivesOn m (then_machine w pending o)
      lives = record {
        dead = dead;
        owners = λ k sh d own. ap (is_live m.cluster) (sym own.call_is) ∙ (hands_then (who own.state) own.state own.in_hand).live (no_enter (driver_of own.state) own.driver own.driver_is);
        up = λ r there. refl;
      }

  -- it is live, where its client is, or its node is up
  pub begun_live : is_live_actor call.actor m.cluster ≡ true → is_live m.cluster call ≡ true
  begun_live live = by_actor call.actor call.number number live where
    by_actor : (a : ActorName) (n : ℕ) → n ≡ m.next a → is_live_actor a m.cluster ≡ true → is_live m.cluster (record { actor = a; number = n }) ≡ true
    by_actor (Client c) n is live = ap (λ n. is_live m.cluster (record { actor = Client c; number = n })) is ∙ live_call m.cluster c (m.next (Client c)) live (inv.clients c)
    by_actor (Node r) n is up =
        let present = inv.incarnations.present r in
        (λ i. up i && not (le-ltb n (slice_index m.cluster.first_calls r) (omega (arith, is, present)) i))

  -- ---- an update that begins

  -- nobody owns a slot under its name yet
  owns_nothing : (k : ℕ) (e : Entry) (r : ℕ) → entry_of k m.cluster.entries ≡ Some e → e.making ≡ None → is_owner call ((shapes k).owners r) ≡ false
  owns_nothing k e r found none = by_test (is_owner call ((shapes k).owners r)) refl
    where
      by_test : (b : Bool) → is_owner call ((shapes k).owners r) ≡ b → is_owner call ((shapes k).owners r) ≡ false
      by_test false is_not = is_not
      by_test true owns =
          let good : IsSpread m k (shapes k) e = subst (IsGoodIn m k (shapes k) e) none (inv.entries k e found) in
          let owner = is_owner-true call ((shapes k).owners r) owns in
          absurd (elim (good.owned r call owner) [
            | inl own ↦ is_new (who own.state) own.state own.in_hand own.call_is
            | inr dead ↦ (let below : call.number < m.next call.actor = dead.0.begun in let next : call.number ≡ m.next call.actor = number in omega (arith, below, next))
          ])

  all_there : (o : Option Entry) → if_declared is_all (declared_in o) ≡ true → IfSome o (λ e. is_all e.attributes ≡ true)
  all_there None all = tt
  all_there (Some e) all = all

  -- it is where an update begins
  pub update_begins : (op : Op) (h : HandleView) (place : ℕ) (update : Update) → asked op ≡ asks.Change place update → WasMade m.cluster h.id → declares_at is_all m.cluster (Some h.id) ≡ true
      → IsUpdateIn m shapes (started_call call op (kept_at_beginning m.cluster call.actor (Some h)) (drivers.Update (update_begun call h.id))) (update_begun call h.id)
  update_begins op h place update is made all = record {
    call = refl;
    asks = subst IsUpdateAsk (sym is) tt;
    kept = refl;
    made = made;
    all = all_there (entry_of h.id m.cluster.entries) all;
    nodes = refl;
    owns = λ e found r there. ap (has (slice_index e.complete r)) (slice_index-replicate 8 r) ∙ has-none (slice_index e.complete r) there
        ∙ sym (owns_nothing h.id e r found (subst (λ o. IfSome o (λ (e : Entry). e.making ≡ None)) found made.made));
    keeps = λ e found. tt;
    within = λ e r found there. absurd (has_nothing (slice_index m.cluster.up r) (ap (has (slice_index m.cluster.up r)) (sym (slice_index-replicate 8 r)) ∙ there));
    no_later = λ r. (let none : slice_index update_owned r ≡ 0 = slice_index-replicate 8 r in omega (arith, none));
  }
    where
      update_owned : List ℕ
      update_owned = (update_begun call h.id).owned

      -- it keeps no node yet
      has_nothing : (n : ℕ) → has n 0 ≡ true → ⊥
      has_nothing n is = by_test (n == 0) is where
        by_test : (b : Bool) → (not b && b) ≡ true → ⊥
        by_test true is = cc is
        by_test false is = cc is
