-- A call that does an update on all replicas, behind one of its steps: it is in hand as it was, and its update is where the step has led it.
use Rattle.std.proofs.Common.{◌≡◌, ◌≢◌, ◌⊎◌, ℕ, ◌<◌, ◌≤◌, inl, inr, ◌∷◌, length, Option, Some, None, true, false, not, cond, ◌==◌, ◌&&◌, refl, sym, ap, subst, ◌∙◌}
use Rattle.std.specs.Prelude.{IfSome, slice_index, slice_set}
use Rattle.std.proofs.lemmas.Bool.{eq-eqb, eqb-true}
use Rattle.std.proofs.lemmas.Option.{same_Some}
use Rattle.ckpt_types.specs.declared.identities.CallId.{CallId}
use Rattle.ckpt_types.specs.declared.identities.Who.{Who}
use Rattle.ckpt_types.specs.Asks.{MayAsk, asked, IsBuilt}
use Rattle.ckpt_types.specs.OpWord.{stepped_as, word_of_op}
use Rattle.cluster_record.specs.declared.calls.UpdatePhase.{UpdatePhase}
use Rattle.cluster_record.specs.declared.calls.UpdatePhase.TheVariants.{Staging, Committing, Resolving}
use Rattle.cluster_record.specs.declared.entries.Entry.{Entry}
use Rattle.cluster_record.specs.DueUpdate.{UpdateState, committing, update_taken}
use Rattle.cluster_record.specs.Placement.{is_all}
use Rattle.cluster_record.specs.Places.{put}
use Rattle.cluster_record.specs.RecordState.{entry_of, is_live}
use Rattle.cluster_record.specs.StepDone.{StepDone, has, first_lacking, last_having}
use Rattle.ckpt_machine.specs.Dead.{is_enter}
use Rattle.ckpt_machine.specs.Drivers.{update_in}
use Rattle.ckpt_machine.specs.Drivers as drivers
use Rattle.ckpt_machine.specs.Driving.{Kept, driver_start, driver_state, driver_taken}
use Rattle.ckpt_machine.specs.Due.{driver_of, home_by}
use Rattle.ckpt_machine.specs.Entries.{WasMade}
use Rattle.ckpt_machine.specs.InHand.{IsInHand, IsInPlace, IsToCommit, IsUpdateAsk, IsUpdateIn, PhaseKeeps}
use Rattle.ckpt_machine.specs.Machine.{Machine, ReplicaState, CallState, who}
use Rattle.ckpt_machine.specs.Shape.{Shape, IsCompleteOn, is_owner}
use Rattle.ckpt_machine.proofs.CallsKept.{IsSameCall, same_call-Some}
use Rattle.ckpt_machine.proofs.NodeLists.{index-set, index-other}
use Rattle.ckpt_machine.proofs.UpdateIn.{IsUpdateVerb, no_enter, update_behind}

-- this is left of the call behind a step of its update, which is then as this
pub record IsBehind (s : CallState) (u : UpdateState) (y : CallState) (v : UpdateState) : Type 0 where
  pub step : StepDone
  pub of : IsUpdateVerb step.verb
  pub call : y.call ≡ s.call
  pub op : y.op ≡ s.op
  pub kept : y.kept ≡ s.kept
  pub begun : y.begun ≡ s.begun
  pub steps : y.steps ≡ step ∷ s.steps
  pub update : update_taken step u ≡ v

-- the call has its own update staged on all complete nodes, or has committed it on some, and has this node as the highest
pub record IsOwnCommit (e : Entry) (u : UpdateState) : Type 0 where
  pub node : ℕ
  pub last : last_having 0 e.complete u.owned ≡ Some node
  pub by : ((u.phase ≡ Staging) × (first_lacking 0 e.complete u.owned ≡ None)) ⊎ (u.phase ≡ Committing)

-- the step is a commit of its own update; or it is another one, of a call that is not to commit
abbrev pub StepsAs : Shape → CallId → Entry → UpdateState → UpdateState → Type 0
StepsAs sh call e u v = ((v.phase ≡ Committing) × IsOwnCommit e u) ⊎ ((v.phase ≢ Committing) × (IsToCommit sh call e u.phase → ⊥))

-- so it is where its checkpoint is there
abbrev pub StepsSo : Machine → (ℕ → Shape) → CallState → UpdateState → UpdateState → Type 0
StepsSo m shapes s u v = (e : Entry) → entry_of u.ckpt m.cluster.entries ≡ Some e → StepsAs (shapes u.ckpt) s.call e u v

-- behind any step of its update the call is where that has led it, where its update is
abbrev pub IsPlacedBehind : Machine → (ℕ → Shape) → CallState → UpdateState → Type 0
IsPlacedBehind m shapes s u =
    (f : ℕ → ℕ → Option ReplicaState) (h : Who → Option CallState) (then_shapes : ℕ → Shape) (y : CallState) (v : UpdateState) → IsBehind s u y v → StepsSo m shapes s u v
    → IsUpdateIn (record m { replicas = f; in_hand = h }) then_shapes y v → IsInPlace (record m { replicas = f; in_hand = h }) then_shapes y (driver_of y)

-- where it commits what it has claimed, it is not to commit its own
pub resolving_apart : (sh : Shape) (call : CallId) (e : Entry) (ph : UpdatePhase) → committing ph ≡ Resolving → IsToCommit sh call e ph → ⊥
resolving_apart sh call e Staging own it = cc own
resolving_apart sh call e Committing own it = cc own
resolving_apart sh call e ph own it = it

-- what drives it is what drove it, behind the step
pub driver_behind : (s : CallState) (u : UpdateState) (y : CallState) (v : UpdateState) (behind : IsBehind s u y v) → driver_of y ≡ driver_taken behind.step (driver_of s)
driver_behind s u y v behind = λ i. driver_state (behind.begun i) (behind.steps i)

-- so it is of an update that drives its call
pub placed_update : (m : Machine) (shapes : ℕ → Shape) (s : CallState) (u : UpdateState) → driver_of s ≡ drivers.Update u → IsPlacedBehind m shapes s u
placed_update m shapes s u is f h then_shapes y v behind steps at =
    let driver : driver_of y ≡ drivers.Update v = driver_behind s u y v behind ∙ ap (driver_taken behind.step) is ∙ ap drivers.Update behind.update in
    subst (IsInPlace (record m { replicas = f; in_hand = h }) then_shapes y) (sym driver) at

-- ---- the nodes that it keeps

-- with no incarnation it has no node
pub has-zero : (c : ℕ) → has c 0 ≡ true → ⊥
has-zero c had = elim (c == 0) as (λ b. (not b && b) ≡ true → ⊥) [ true ↦ λ is. cc is | false ↦ λ is. cc is ] had

module _ (m : Machine) (shapes : ℕ → Shape) (s : CallState) (u : UpdateState) (at : IsUpdateIn m shapes s u) (r n : ℕ) (within_r : r < length u.owned) where
  set_at : (q : ℕ) → (q == r) ≡ true → slice_index (slice_set u.owned r n) q ≡ n
  set_at q same = ap (slice_index (slice_set u.owned r n)) (eqb-true q r same) ∙ index-set u.owned r n within_r

  -- with one more that is complete, or without this one, each of them is complete
  pub set_within : (e : Entry) → entry_of u.ckpt m.cluster.entries ≡ Some e → (n ≡ 0) ⊎ IsCompleteOn e r → (q : ℕ) → has (slice_index m.cluster.up q) (slice_index (slice_set u.owned r n) q) ≡ true → IsCompleteOn e q
  set_within e found which q kept = elim (q == r) as (λ b. (q == r) ≡ b → IsCompleteOn e q) [
    | true ↦ λ same. elim which [
      | inl none ↦ absurd (has-zero (slice_index m.cluster.up q) (ap (has (slice_index m.cluster.up q)) (sym (set_at q same ∙ none)) ∙ kept))
      | inr full ↦ subst (IsCompleteOn e) (sym (eqb-true q r same)) full
    ]
    | false ↦ λ other. at.within e q found (ap (has (slice_index m.cluster.up q)) (sym (index-other u.owned r q n other)) ∙ kept)
  ] refl

  -- and it keeps none in an incarnation beyond its last
  pub set_no_later : n ≤ slice_index m.cluster.last_incarnations r → (q : ℕ) → slice_index (slice_set u.owned r n) q ≤ slice_index m.cluster.last_incarnations q
  set_no_later fits q = elim (q == r) as (λ b. (q == r) ≡ b → slice_index (slice_set u.owned r n) q ≤ slice_index m.cluster.last_incarnations q) [
    | true ↦ λ same. subst (λ (i : ℕ). i ≤ slice_index m.cluster.last_incarnations q) (sym (set_at q same)) (subst (λ (p : ℕ). n ≤ slice_index m.cluster.last_incarnations p) (sym (eqb-true q r same)) fits)
    | false ↦ λ other. subst (λ (i : ℕ). i ≤ slice_index m.cluster.last_incarnations q) (sym (index-other u.owned r q n other)) (at.no_later q)
  ] refl

-- ---- the call

module _ (m : Machine) (shapes : ℕ → Shape) (s : CallState) (u : UpdateState) (is : update_in (driver_of s) ≡ Some u) (y : CallState) (v : UpdateState) (behind : IsBehind s u y v) where
  -- it does the update as this is then
  pub does_then : update_in (driver_of y) ≡ Some v
  does_then = ap update_in (driver_behind s u y v behind) ∙ update_behind behind.step (driver_of s) u behind.of is ∙ ap Some behind.update

  -- it is the same call, and no Initialize
  pub whose_then : who y ≡ who s
  whose_then = λ i. stepped_as (behind.call i) (word_of_op (behind.op i))

  pub same_then : IsSameCall s (Some y)
  same_then = same_call-Some s y behind.call behind.op

  pub plain_then : (z : CallState) → Some y ≡ Some z → is_enter (driver_of z) ≡ false
  plain_then z it = ap (λ (w : CallState). is_enter (driver_of w)) (sym (same_Some y z it)) ∙ no_enter (driver_of y) v does_then

  module _ (at : IsUpdateIn m shapes s u) (f : ℕ → ℕ → Option ReplicaState) (h : Who → Option CallState) (sh : Shape) where
    abbrev n : Machine
    n = record m { replicas = f; in_hand = h }

    -- where its update is, of the same checkpoint, which has this shape then
    pub update_then : v.call ≡ u.call → v.ckpt ≡ u.ckpt → length v.owned ≡ length u.owned
        → ((e : Entry) → entry_of u.ckpt m.cluster.entries ≡ Some e → (q : ℕ) → IsCompleteOn e q → has (slice_index e.complete q) (slice_index v.owned q) ≡ is_owner s.call (sh.owners q))
        → ((e : Entry) → entry_of u.ckpt m.cluster.entries ≡ Some e → PhaseKeeps n sh y v v.phase)
        → ((e : Entry) (q : ℕ) → entry_of u.ckpt m.cluster.entries ≡ Some e → has (slice_index m.cluster.up q) (slice_index v.owned q) ≡ true → IsCompleteOn e q)
        → ((q : ℕ) → slice_index v.owned q ≤ slice_index m.cluster.last_incarnations q)
        → IsUpdateIn n (put shapes u.ckpt sh) y v
    update_then call ckpt as_many owns keeps within no_later = record {
      call = call ∙ at.call ∙ sym behind.call;
      asks = subst (λ o. IsUpdateAsk (asked o)) (sym behind.op) at.asks;
      kept = ap (λ (k : Kept). k.ckpt) behind.kept ∙ at.kept ∙ ap Some (sym ckpt);
      made = subst (WasMade m.cluster) (sym ckpt) at.made;
      all = subst (λ k. IfSome (entry_of k m.cluster.entries) (λ (e : Entry). is_all e.attributes ≡ true)) (sym ckpt) at.all;
      nodes = as_many ∙ at.nodes;
      owns = λ e found q full. owns e (found_at e found) q full ∙ (λ i. is_owner (sym behind.call i) ((sym shape_then i).owners q));
      keeps = λ e found. subst (λ x. PhaseKeeps n x y v v.phase) (sym shape_then) (keeps e (found_at e found));
      within = λ e q found. within e q (found_at e found);
      no_later = no_later;
    }
      where
        shape_then : put shapes u.ckpt sh v.ckpt ≡ sh
        shape_then = ap (λ b. cond b sh (shapes v.ckpt)) (eq-eqb v.ckpt u.ckpt ckpt)

        found_at : (e : Entry) → entry_of v.ckpt m.cluster.entries ≡ Some e → entry_of u.ckpt m.cluster.entries ≡ Some e
        found_at e found = ap (λ k. entry_of k m.cluster.entries) (sym ckpt) ∙ found

    -- in hand under its name
    pub hand_then : IsInHand m shapes (who s) s → IsPlacedBehind m shapes s u → StepsSo m shapes s u v → IsUpdateIn n (put shapes u.ckpt sh) y v → IsInHand n (put shapes u.ckpt sh) (who s) y
    hand_then hand placed steps there = record {
      whose = whose_then;
      asker = (let was : MayAsk s.call.actor (asked s.op) = hand.asker in subst (λ (c : CallId). MayAsk c.actor (asked y.op)) (sym behind.call) (subst (λ o. MayAsk s.call.actor (asked o)) (sym behind.op) was));
      number = subst (λ (c : CallId). c.number < m.next c.actor) (sym behind.call) hand.number;
      built = subst IsBuilt (sym behind.op) hand.built;
      driven = (λ i. driver_start (behind.call i) (asked (behind.op i)) (behind.kept i)) ∙ hand.driven ∙ ap Some (sym behind.begun);
      live = λ other. ap (is_live m.cluster) behind.call ∙ hand.live (no_enter (driver_of s) u is);
      home = λ other. ap (λ (k : Kept). k.node) behind.kept ∙ hand.home (no_enter (driver_of s) u is) ∙ ap (λ (c : CallId). home_by c.actor m.cluster) (sym behind.call);
      here = placed f h (put shapes u.ckpt sh) y v behind steps there;
    }
