-- A pull and a put leave the invariant, and a put meets no slot and no marks.
use Rattle.std.proofs.Common.{◌≡◌, ℕ, length, Option, Some, None, Bool, true, false, cond, not, ◌&&◌, ◌||◌, ◌==◌, refl, sym, ap, subst, ◌∙◌}
use Rattle.std.specs.Prelude.{IsSome, is_some, IsSomeAnd, slice_index}
use Rattle.std.proofs.lemmas.Bool.{eqb-true, eq-eqb, and_parts}
use Rattle.std.proofs.lemmas.Option.{same_Some}
use Rattle.ckpt_types.specs.declared.identities.CallId.{CallId}
use Rattle.run_labels.specs.declared.labels.PullReply.{PullReply}
use Rattle.run_labels.specs.declared.labels.PullReply.TheVariants as pulls
use Rattle.run_labels.specs.declared.labels.PutReply.{PutReply}
use Rattle.run_labels.specs.declared.labels.PutReply.TheVariants as puts
use Rattle.cluster_record.specs.declared.entries.Entry.{Entry}
use Rattle.cluster_record.specs.Places.{put, put2}
use Rattle.cluster_record.specs.RecordState.{entry_of}
use Rattle.cluster_record.specs.StepDone.{generation_in}
use Rattle.ckpt_machine.specs.Invariant.{IsGoodIn, IsOfGeneration, IsCompleteAt, InvariantIn}
use Rattle.ckpt_machine.specs.Listing.{is_active}
use Rattle.ckpt_machine.specs.Machine.{Machine, ReplicaState, Snapshot, CallState}
use Rattle.cluster_record.specs.Placement.{is_all}
use Rattle.ckpt_machine.specs.Propagation.{source_of, on_node, source_at, copied, with_pulled, target_of, target_at, is_behind, put_onto, put_reply, replica_from, with_put}
use Rattle.ckpt_machine.specs.Shape.{Shape, IsCompleteOn, marks_at, IsApart, IsShapedBy, IsSpread}
use Rattle.ckpt_machine.proofs.MarksAt.{none_elsewhere}
use Rattle.ckpt_machine.proofs.OnComplete.{present_generation, put_complete}
use Rattle.ckpt_machine.proofs.OptionLemmas.{IsSomeAnd-at, IsSomeAnd-from}
use Rattle.ckpt_machine.specs.InHand.{IsInHand}
use Rattle.ckpt_types.specs.declared.identities.Who.{Who}
use Rattle.ckpt_machine.proofs.Lives.{LivesOn, lives_on-fewer, enters-fewer, dead_on}
use Rattle.ckpt_machine.proofs.LaterIncarnations.{incarnations_stay}
use Rattle.ckpt_machine.proofs.OtherCalls.{LooksAlike, LooksLater-refl, LiesUnder-refl, IsHolder-alike, making_still, IsInHand-alike, owned_alike, owner_before, IsMarker-alike, IsMaker-alike}
use Rattle.ckpt_types.proofs.Lists.{slice_index-replicate}

-- ---- what they are about

-- the replica of which a pull takes a snapshot is that of a node
pub source_there : (m : Machine) (k : ℕ) (x : ReplicaState) → source_at m k ≡ Some x → (r : ℕ) × (m.replicas k r ≡ Some x)
source_there m k x is = by_node (source_of (entry_of k m.cluster.entries)) is
  where
    by_node : (o : Option ℕ) → on_node (m.replicas k) o ≡ Some x → (r : ℕ) × (m.replicas k r ≡ Some x)
    by_node None none = absurd (cc none)
    by_node (Some r) here = (r, here)

-- a put may be on this replica: it is that of the node, the updates of its checkpoint go to the active alone, and the active is another
pub record IsPutTarget (m : Machine) (k r : ℕ) (x : ReplicaState) : Type 0 where
  pub entry : Entry
  pub found : entry_of k m.cluster.entries ≡ Some entry
  pub there : m.replicas k r ≡ Some x
  pub alone : is_all entry.attributes ≡ false
  pub elsewhere : is_active entry.active r ≡ false

pub target_there : (m : Machine) (k r : ℕ) (x : ReplicaState) → target_at m k r ≡ Some x → IsPutTarget m k r x
target_there m k r x is = by_entry (entry_of k m.cluster.entries) refl is
  where
    by_tests : (e : Entry) → entry_of k m.cluster.entries ≡ Some e → (all active : Bool) → is_all e.attributes ≡ all → is_active e.active r ≡ active → cond (all || active) None (m.replicas k r) ≡ Some x → IsPutTarget m k r x
    by_tests e found true active all here none = absurd (cc none)
    by_tests e found false true all here none = absurd (cc none)
    by_tests e found false false alone elsewhere there = record { entry = e; found = found; there = there; alone = alone; elsewhere = elsewhere }

    by_entry : (o : Option Entry) → entry_of k m.cluster.entries ≡ o → target_of o r (m.replicas k r) ≡ Some x → IsPutTarget m k r x
    by_entry None gone none = absurd (cc none)
    by_entry (Some e) found some = by_tests e found (is_all e.attributes) (is_active e.active r) refl refl some

-- a checkpoint that is complete on a node is made
module _ (m : Machine) (shapes : ℕ → Shape) (inv : InvariantIn shapes m) (k r : ℕ) (e : Entry) (found : entry_of k m.cluster.entries ≡ Some e) (complete : IsCompleteOn e r) where
  pub complete_spread : IsSpread m k (shapes k) e
  complete_spread = by_maker e.making (inv.entries k e found)
    where
      by_maker : (maker : Option CallId) → IsGoodIn m k (shapes k) e maker → IsSpread m k (shapes k) e
      by_maker None good = good
      by_maker (Some call) good =
          let none : (slice_index e.complete r == 0) ≡ true = ap (λ nodes. slice_index nodes r == 0) good.0.complete ∙ ap (λ n. n == 0) (slice_index-replicate 8 r) in
          absurd (let w : true ≡ false = sym none ∙ complete in cc w)

  -- and has its replica there
  pub complete_there : IsSome (m.replicas k r)
  complete_there =
      let (y, here, shaped) = IsSomeAnd-at (m.replicas k r) (IsShapedBy (is_all e.attributes) (shapes k) e.active r) (complete_spread.replicas r complete) in
      ap is_some here

module _ (m : Machine) (shapes : ℕ → Shape) (inv : InvariantIn shapes m) (k r : ℕ) (x : ReplicaState) (at : IsPutTarget m k r x) where
  -- its node is complete
  target_complete : IsCompleteOn at.entry r
  target_complete = (subst (λ o. IsSomeAnd o (λ (e : Entry). IsCompleteOn e r × IsOfGeneration e r x.generation)) at.found (inv.replicas k r x at.there)).0

  -- so its checkpoint is made
  target_spread : IsSpread m k (shapes k) at.entry
  target_spread = complete_spread m shapes inv k r at.entry at.found target_complete

  -- nothing is staged on it, and no marks stand
  pub target_free : (x.slot ≡ None) × (x.marks ≡ None)
  target_free =
      let (y, here, shaped) = IsSomeAnd-at (m.replicas k r) (IsShapedBy (is_all at.entry.attributes) (shapes k) at.entry.active r) (target_spread.replicas r target_complete) in
      let apart : IsApart (marks_at at.entry.active (shapes k).marks r) x = subst (IsApart (marks_at at.entry.active (shapes k).marks r)) (same_Some y x (sym here ∙ at.there)) (subst (λ b. IsShapedBy b (shapes k) at.entry.active r y) at.alone shaped) in
      (apart.free, apart.marks_are ∙ none_elsewhere at.entry.active (shapes k).marks r at.elsewhere)

-- ---- other replicas and snapshots

module _ (m : Machine) (shapes : ℕ → Shape) (inv : InvariantIn shapes m) (f : ℕ → ℕ → Option ReplicaState) (g : ℕ → Option Snapshot) (complete : (j q : ℕ) (x : ReplicaState) → f j q ≡ Some x → IsCompleteAt m.cluster j q x.generation)
    (led : (j q : ℕ) (e : Entry) → entry_of j m.cluster.entries ≡ Some e → e.active ≡ Some q → f j q ≡ m.replicas j q)
    (shaped : (j q : ℕ) (e : Entry) → entry_of j m.cluster.entries ≡ Some e → IsSomeAnd (m.replicas j q) (IsShapedBy (is_all e.attributes) (shapes j) e.active q) → IsSomeAnd (f j q) (IsShapedBy (is_all e.attributes) (shapes j) e.active q)) where
  abbrev then_machine : Machine
  then_machine = record m { replicas = f; snapshots = g }

  -- a checkpoint is as it was
  IsGoodIn-then : LivesOn m then_machine → (j : ℕ) (e : Entry) → entry_of j m.cluster.entries ≡ Some e → (maker : Option CallId) → IsGoodIn m j (shapes j) e maker → IsGoodIn then_machine j (shapes j) e maker
  IsGoodIn-then lives j e found None good = record {
    well_formed = good.well_formed;
    nodes = good.nodes;
    some = good.some;
    up = good.up;
    active = good.active;
    replicas = λ q there. shaped j q e found (good.replicas q there);
    fits = good.fits;
    all = good.all;
    complete = good.complete;
    lowest = good.lowest;
    first = λ p q d below there owns own. good.first p q d below there owns (owner_before m then_machine j lives (shapes j) d (good.owned q d owns) own);
    owned = λ q d owns. owned_alike m then_machine j lives (shapes j) d (λ own. refl) (good.owned q d owns);
    led = good.led;
    marked = λ marks is. IsMarker-alike m then_machine j marks (good.marked marks is) refl;
    held = λ d is. (let own = good.held d is in record { collocated = own.collocated; unmarked = own.unmarked; holder = IsHolder-alike m then_machine j e.active d own.holder refl (active_same e.active refl) });
  }
    where
      -- the replica of its active is the one that was
      active_same : (o : Option ℕ) → e.active ≡ o → on_node (f j) o ≡ on_node (m.replicas j) o
      active_same None is = refl
      active_same (Some q) is = led j q e found is
  IsGoodIn-then lives j e found (Some d) good = (good.0, IsMaker-alike m then_machine j d good.1 refl)

  -- a call sees what it saw
  looks_then : (z : CallState) → LooksAlike m then_machine shapes shapes z
  looks_then z = record {
    up = λ r up. up;
    incarnations = incarnations_stay m.cluster m.cluster refl refl;
    lives = λ client. refl;
    node = λ r own. refl;
    home = refl;
    handle = λ there. there;
    making = λ o at. making_still m then_machine z o (λ w at. record { there = at.there; declares = at.declares; nodes = at.nodes; reserved = at.reserved; only = at.only; within = at.within; no_later = at.no_later }) at;
    made = λ k was. was;
    later = λ k was e found. (e, found, LooksLater-refl m.cluster.up z (shapes k) e);
    reserved = λ k r was own f found free. refl;
    owners = λ k was r. refl;
    marks = λ k was. refl;
    under = λ k was e found all. LiesUnder-refl (shapes k);
    dead = λ k f was found. dead_on m then_machine (λ d. refl) refl (enters-fewer m then_machine (λ a z held. held));
    done = λ k was done. done;
  }

  -- the invariant holds
  alike_keeps : InvariantIn shapes then_machine
  alike_keeps = record {
    up = inv.up;
    first_up = inv.first_up;
    incarnations = inv.incarnations;
    none_live = inv.none_live;
    rises = inv.rises;
    up_to = inv.up_to;
    few = inv.few;
    swept = inv.swept;
    entries = λ j e found. IsGoodIn-then lives j e found e.making (inv.entries j e found);
    replicas = complete;
    reserves = inv.reserves;
    handles = inv.handles;
    rest = inv.rest;
    clients = inv.clients;
    places = inv.places;
    hands = hands_then;
    calls = inv.calls;
  }
    where
      hands_then : (a : Who) (z : CallState) → m.in_hand a ≡ Some z → IsInHand then_machine shapes a z
      hands_then a z held = let was = inv.hands a z held in IsInHand-alike m then_machine shapes shapes z (looks_then z) a (λ live. live) was.number was

      lives : LivesOn m then_machine
      lives = lives_on-fewer m then_machine shapes shapes inv (λ d. refl) refl refl hands_then (λ a z held. held)

-- ---- the two labels

module _ (m : Machine) (shapes : ℕ → Shape) (inv : InvariantIn shapes m) where
  -- a pull leaves all replicas
  pub pull_keeps : (k : ℕ) (reply : PullReply) (x : Option ReplicaState) → InvariantIn shapes (with_pulled m k reply x)
  pull_keeps k (pulls.Ok count) (Some x) = alike_keeps m shapes inv m.replicas (put m.snapshots k (Some (copied x))) inv.replicas (λ j q e found active. refl) (λ j q e found was. was)
  pull_keeps k reply x = inv

  -- a put leaves slot and marks of the replica that it changes
  module _ (k r : ℕ) (s : Snapshot) (x : ReplicaState) (at : IsPutTarget m k r x) where
    shaped_still : (j q : ℕ) (e : Entry) → entry_of j m.cluster.entries ≡ Some e → IsSomeAnd (m.replicas j q) (IsShapedBy (is_all e.attributes) (shapes j) e.active q) → IsSomeAnd (put2 m.replicas k r (Some (replica_from s x)) j q) (IsShapedBy (is_all e.attributes) (shapes j) e.active q)
    shaped_still j q e found was = elim ((j == k) && (q == r)) as (λ b. ((j == k) && (q == r)) ≡ b → IsSomeAnd (cond b (Some (replica_from s x)) (m.replicas j q)) (IsShapedBy (is_all e.attributes) (shapes j) e.active q)) [
      | true ↦ λ same.
          let (ckpt, node) = and_parts (j == k) (q == r) same in
          let k_is : j ≡ k = eqb-true j k ckpt in
          let r_is : q ≡ r = eqb-true q r node in
          let there : m.replicas j q ≡ Some x = (λ i. m.replicas (k_is i) (r_is i)) ∙ at.there in
          let e_is : e ≡ at.entry = same_Some e at.entry (sym found ∙ ap (λ n. entry_of n m.cluster.entries) k_is ∙ at.found) in
          let alone : is_all e.attributes ≡ false = ap (λ (e : Entry). is_all e.attributes) e_is ∙ at.alone in
          let apart = subst (λ b. IsShapedBy b (shapes j) e.active q x) alone (subst (λ o. IsSomeAnd o (IsShapedBy (is_all e.attributes) (shapes j) e.active q)) there was) in
          subst (λ b. IsShapedBy b (shapes j) e.active q (replica_from s x)) (sym alone) (record { free = apart.free; marks_are = apart.marks_are })
      | false ↦ λ other. was
    ] refl

    -- and the replicas of the actives
    led_still : (j q : ℕ) (e : Entry) → entry_of j m.cluster.entries ≡ Some e → e.active ≡ Some q → put2 m.replicas k r (Some (replica_from s x)) j q ≡ m.replicas j q
    led_still j q e found active = elim ((j == k) && (q == r)) as (λ b. ((j == k) && (q == r)) ≡ b → cond b (Some (replica_from s x)) (m.replicas j q) ≡ m.replicas j q) [
      | true ↦ λ same.
          let (ckpt, node) = and_parts (j == k) (q == r) same in
          let e_is : e ≡ at.entry = same_Some e at.entry (sym found ∙ ap (λ n. entry_of n m.cluster.entries) (eqb-true j k ckpt) ∙ at.found) in
          let here : is_active at.entry.active r ≡ true = ap (λ o. is_active o r) (ap (λ (e : Entry). e.active) (sym e_is) ∙ active) ∙ eq-eqb q r (eqb-true q r node) in
          absurd (let w : true ≡ false = sym here ∙ at.elsewhere in cc w)
      | false ↦ λ other. refl
    ] refl

    -- so the invariant holds after it, where what is put is of the checkpoint's generation
    pub put_target : s.generation ≡ at.entry.generation → InvariantIn shapes (record m { replicas = put2 m.replicas k r (Some (replica_from s x)) })
    put_target present = alike_keeps m shapes inv (put2 m.replicas k r (Some (replica_from s x))) m.snapshots (put_complete m.cluster m.replicas k r (replica_from s x) (IsSomeAnd-from (entry_of k m.cluster.entries) (λ e. IsCompleteOn e r × IsOfGeneration e r s.generation) at.entry at.found (target_complete m shapes inv k r x at, present_generation at.entry r s.generation present)) inv.replicas) led_still shaped_still

  -- a put that is done has the checkpoint's generation
  ok_present : (present count : ℕ) (s : Snapshot) (x : ReplicaState) → puts.Ok count ≡ put_onto present s x → s.generation ≡ present
  ok_present present count s x is = by_test (s.generation == present) refl is
    where
      by_test : (b : Bool) → (s.generation == present) ≡ b → puts.Ok count ≡ cond (not b) (puts.Stale s.generation present) (cond (is_behind x s) (puts.Ok (length s.effects)) (puts.Old x.generation (length x.effects))) → s.generation ≡ present
      by_test true same is = eqb-true s.generation present same
      by_test false other stale = absurd (cc stale)

  pub put_keeps : (k r : ℕ) (reply : PutReply) (s : Option Snapshot) (x : Option ReplicaState) → target_at m k r ≡ x → reply ≡ put_reply (generation_in (entry_of k m.cluster.entries)) s x → InvariantIn shapes (with_put m k r reply s x)
  put_keeps k r (puts.Ok count) (Some s) (Some x) is answered =
      let at = target_there m k r x is in
      put_target k r s x at (ok_present (generation_in (entry_of k m.cluster.entries)) count s x answered ∙ ap generation_in at.found)
  put_keeps k r reply s x is answered = inv
