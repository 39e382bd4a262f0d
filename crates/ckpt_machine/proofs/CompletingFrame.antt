-- A completion gives one checkpoint a node more, with a replica there, and changes what its copying keeps: what holds of every other call and of every other
-- checkpoint stays.
use Rattle.std.proofs.Common.{◌≡◌, ◌≢◌, ℕ, Option, Some, None, is_some, Bool, true, false, cond, ◌&&◌, ◌==◌, refl, sym, ap, subst, ◌∙◌, inl, inr}
use Rattle.std.specs.Prelude.{IsSomeAnd, slice_index}
use Rattle.std.proofs.lemmas.Bool.{eqb-true, eq-eqb}
use Rattle.std.proofs.lemmas.Option.{same_Some}
use Rattle.ckpt_types.specs.declared.identities.CallId.{CallId}
use Rattle.ckpt_types.specs.declared.identities.Who.{Who}
use Rattle.ckpt_types.specs.Asks.{asked}
use Rattle.ckpt_types.specs.Limits.{checkpoints_max}
use Rattle.cluster_record.specs.declared.calls.Making.{Making}
use Rattle.cluster_record.specs.declared.copying.Copying.{Copying}
use Rattle.cluster_record.specs.declared.entries.Entry.{Entry}
use Rattle.cluster_record.specs.DueCopy.{CopyState, lacks_replica}
use Rattle.cluster_record.specs.DueUpdate.{UpdateState}
use Rattle.cluster_record.specs.Joining.{completed_on}
use Rattle.cluster_record.specs.Places.{put}
use Rattle.cluster_record.specs.RecordState.{RecordState, entry_of, is_up}
use Rattle.cluster_record.proofs.IdentityLaws.{AllUpTo-change_key, IdentitiesRise-change_key}
use Rattle.cluster_record.proofs.KeptLaws.{completed_on-keeps}
use Rattle.ckpt_machine.specs.Dead.{IsDead}
use Rattle.ckpt_machine.specs.Drivers.{update_in}
use Rattle.ckpt_machine.specs.Drivers as drivers
use Rattle.ckpt_machine.specs.Due.{IsDriven, driver_of}
use Rattle.ckpt_machine.specs.After.{reservation_under}
use Rattle.ckpt_machine.specs.InHand.{IsDoneIn, IsInHand, IsMakingIn, attributes_asked, is_marked_by}
use Rattle.ckpt_machine.specs.Invariant.{InvariantIn, IsCompleteAt, IsGoodIn, IsOfGeneration, IsReservedFor}
use Rattle.ckpt_machine.specs.Machine.{Machine, ReplicaState, CallState, who}
use Rattle.ckpt_machine.specs.Shape.{IsCompleteOn, IsOwner, IsSpread, Shape, is_owner}
use Rattle.ckpt_machine.specs.Whose.{put_who, same_who}
use Rattle.ckpt_machine.proofs.CallsKept.{IsSameCall, apart_from, calls_left}
use Rattle.ckpt_machine.proofs.CompletedEntry.{generation_then, joined, grows as entry_grows, making_then as entry_making}
use Rattle.ckpt_machine.proofs.CompletedRecord.{before, can, completed_machine, entry_here, entry_other, made_still, places_then, stay, within}
use Rattle.ckpt_machine.proofs.CompletedRecord as record_then
use Rattle.ckpt_machine.proofs.CopyHand.{its_at, up_own}
use Rattle.ckpt_machine.proofs.FewEntries.{few-change_key}
use Rattle.ckpt_machine.proofs.Handles.{IsGoodHandle-later}
use Rattle.ckpt_machine.proofs.Lacking.{lacked_parts}
use Rattle.ckpt_machine.proofs.LaterIncarnations.{incarnations_stay}
use Rattle.ckpt_machine.proofs.Lives.{LivesOn, lives_on-one, enters-one, dead_on}
use Rattle.ckpt_machine.proofs.OnComplete.{present_generation, put_complete}
use Rattle.ckpt_machine.proofs.OptionLemmas.{IsSomeAnd-at, IsSomeAnd-from}
use Rattle.ckpt_machine.proofs.OtherCalls.{IsGoodIn-alike, IsInHand-alike, LiesUnder, LiesUnder-refl, LooksAlike, LooksLater, LooksLater-refl, home_stays, making_still}
use Rattle.ckpt_machine.proofs.ReservedUnder.{reserved_later, was_reserved}
use Rattle.ckpt_machine.proofs.UpdateIn.{does_staging}
use Rattle.ckpt_machine.proofs.Whose.{apart_states, put_who-cases, put_who-other}
use Rattle.ckpt_types.proofs.Lists.{slice_index-replicate}

module _ (m : Machine) (shapes : ℕ → Shape) (inv : InvariantIn shapes m) (s : CallState) (c : CopyState) (held : m.in_hand (who s) ≡ Some s) (is : driver_of s ≡ drivers.Copy c) (at : Copying) (some : c.copying ≡ Some at) (e : Entry) (found : entry_of at.ckpt m.cluster.entries ≡ Some e) (lacks : lacks_replica c.node e ≡ true) (was : IsSpread m at.ckpt (shapes at.ckpt) e)
    (y : ReplicaState) (sh : Shape) (o : Option CallState) (same : IsSameCall s o) (driven : (z : CallState) → o ≡ Some z → IsDriven z) where
  abbrev k : ℕ
  k = at.ckpt

  abbrev r : ℕ
  r = c.node

  -- its node is up
  abbrev up : is_up r m.cluster ≡ true
  up = up_own m shapes inv s c held is

  -- the entry and the record behind the completion
  abbrev pub f : Entry
  f = record_then.f m shapes inv k r e found lacks up was

  abbrev R : RecordState
  R = record_then.R m shapes inv k r e found lacks up was

  -- the state behind it
  abbrev pub then_machine : Machine
  then_machine = record (completed_machine m shapes inv k r e found lacks up was (Some y)) { in_hand = put_who m.in_hand (who s) o }

  abbrev pub then_shapes : ℕ → Shape
  then_shapes = put shapes k sh

  -- a dead call is dead still
  pub dead_then : (d : CallId) → IsDead m d → IsDead then_machine d
  dead_then = dead_on m then_machine (λ d. refl) refl (enters-one m then_machine s held (inv.hands (who s) s held).driven o same driven (λ a. refl))

  -- what holds of each shape and itself, and of the two of this checkpoint, holds of all
  at_shapes : (P : Shape → Shape → Type 0) → ((x : Shape) → P x x) → P sh (shapes k) → (j : ℕ) → P (then_shapes j) (shapes j)
  at_shapes P each here j = elim (j == k) as (λ b. (j == k) ≡ b → P (cond b sh (shapes j)) (shapes j)) [
    | true ↦ λ it. subst (λ i. P sh (shapes i)) (sym (eqb-true j k it)) here
    | false ↦ λ it. each (shapes j)
  ] refl

  module _ (marks : sh.marks ≡ (shapes k).marks) (owners : (z : CallState) → z.call ≢ s.call → (q : ℕ) → is_owner z.call (sh.owners q) ≡ is_owner z.call ((shapes k).owners q)) (under : LiesUnder (shapes k) sh)
      (done : (z : CallState) → z.call ≢ s.call → IsDoneIn (shapes k) z → IsDoneIn sh z) (looks : (w : Who) (z : CallState) → same_who w (who s) ≡ false → m.in_hand w ≡ Some z → LooksLater m.cluster.up z (shapes k) e f) where
    -- ---- the other calls in hand

    -- what one is making is in the making still, and not this checkpoint
    making_then : (z : CallState) (w : Making) → IsMakingIn m z w → IsMakingIn then_machine z w
    making_then z w making = record {
      there = subst (λ o. IsSomeAnd o (λ (x : Entry). x.making ≡ Some z.call)) (sym stays) making.there;
      declares = subst (λ o. IsSomeAnd o (λ (x : Entry). attributes_asked (asked z.op) ≡ Some x.attributes)) (sym stays) making.declares;
      nodes = making.nodes;
      reserved = λ q had. reserved_then q ∙ making.reserved q had;
      only = λ q none. reserved_then q ∙ making.only q none;
      within = λ q there. making.within q (ap is_some (sym (reserved_then q)) ∙ there);
      no_later = making.no_later;
    }
      where
        making_there : (g : Entry) × (entry_of w.ckpt m.cluster.entries ≡ Some g) × (g.making ≡ Some z.call)
        making_there = IsSomeAnd-at (entry_of w.ckpt m.cluster.entries) (λ x. x.making ≡ Some z.call) making.there

        apart : (b : Bool) → (w.ckpt == k) ≡ b → (w.ckpt == k) ≡ false
        apart false other = other
        apart true it =
            let g_is : making_there.0 ≡ e = same_Some making_there.0 e (sym making_there.1 ∙ ap (λ i. entry_of i m.cluster.entries) (eqb-true w.ckpt k it) ∙ found) in
            absurd (let v : None ≡ Some z.call = sym (lacked_parts r e lacks).made ∙ ap (λ (x : Entry). x.making) (sym g_is) ∙ making_there.2 in cc v)

        stays : entry_of w.ckpt R.entries ≡ entry_of w.ckpt m.cluster.entries
        stays = entry_other m shapes inv k r e found lacks up was w.ckpt (apart (w.ckpt == k) refl)

        -- one in the making is complete nowhere
        none_complete : (q : ℕ) → (slice_index making_there.0.complete q == 0) ≡ true
        none_complete q =
            let good : IsGoodIn m w.ckpt (shapes w.ckpt) making_there.0 (Some z.call) = subst (IsGoodIn m w.ckpt (shapes w.ckpt) making_there.0) making_there.2 (inv.entries w.ckpt making_there.0 making_there.1) in
            ap (λ cs. slice_index cs q == 0) good.0.complete ∙ ap (λ i. i == 0) (slice_index-replicate 8 q)

        reserved_then : (q : ℕ) → then_machine.reserved w.ckpt q ≡ m.reserved w.ckpt q
        reserved_then q = ap (λ o. reservation_under o q (m.reserved w.ckpt q)) (stays ∙ making_there.1) ∙ ap (λ b. cond b (m.reserved w.ckpt q) None) (none_complete q)

    looks_then : (w : Who) (z : CallState) → same_who w (who s) ≡ false → m.in_hand w ≡ Some z → LooksAlike m then_machine shapes then_shapes z
    looks_then w z other there = record {
      up = λ q is_up. is_up;
      incarnations = incarnations_stay m.cluster R refl refl;
      lives = λ client. refl;
      node = λ q own. refl;
      home = home_stays z.call.actor m.cluster R refl;
      handle = λ handle. handle;
      making = λ v opens. making_still m then_machine z v (making_then z) opens;
      made = made_still m shapes inv k r e found lacks up was;
      later = λ j made g g_there. by_test j g g_there (j == k) refl;
      reserved = λ j q made own g g_there free. ap (λ o. reservation_under o q (m.reserved j q)) g_there ∙ ap (λ b. cond b (m.reserved j q) None) free;
      owners = λ j made q. at_shapes (λ x x'. is_owner z.call (x.owners q) ≡ is_owner z.call (x'.owners q)) (λ x. refl) (owners z apart q) j;
      marks = λ j made. at_shapes (λ x x'. is_marked_by z.call x.marks ≡ is_marked_by z.call x'.marks) (λ x. refl) (ap (is_marked_by z.call) marks) j;
      under = λ j made x x_there all. at_shapes (λ x x'. LiesUnder x' x) LiesUnder-refl under j;
      dead = λ j g made g_there. dead_then;
      done = λ j made. at_shapes (λ x x'. IsDoneIn x' z → IsDoneIn x z) (λ x was_done. was_done) (done z apart) j;
    }
      where
        apart : z.call ≢ s.call
        apart = apart_from m.in_hand m.pending m.next inv.calls s held w z there other

        by_test : (j : ℕ) (g : Entry) → entry_of j R.entries ≡ Some g → (b : Bool) → (j == k) ≡ b → (x : Entry) × (entry_of j m.cluster.entries ≡ Some x) × LooksLater m.cluster.up z (shapes j) x g
        by_test j g g_there false elsewhere = (g, sym (entry_other m shapes inv k r e found lacks up was j elsewhere) ∙ g_there, LooksLater-refl m.cluster.up z (shapes j) g)
        by_test j g g_there true it =
            let k_is : k ≡ j = sym (eqb-true j k it) in
            let g_is : f ≡ g = same_Some f g (sym (entry_here m shapes inv k r e found lacks up was) ∙ ap (λ i. entry_of i R.entries) k_is ∙ g_there) in
            (e, ap (λ i. entry_of i m.cluster.entries) (sym k_is) ∙ found, subst (λ i. LooksLater m.cluster.up z (shapes i) e g) k_is (subst (LooksLater m.cluster.up z (shapes k) e) g_is (looks w z other there)))

    module _ (own : (z : CallState) → o ≡ Some z → IsInHand then_machine then_shapes (who s) z) where
      hands_then : (w : Who) (z : CallState) → put_who m.in_hand (who s) o w ≡ Some z → IsInHand then_machine then_shapes w z
      hands_then w z there = elim (put_who-cases m.in_hand (who s) o w z there) [
        | inl here ↦ subst (λ v. IsInHand then_machine then_shapes v z) (sym here.0) (own z here.1)
        | inr other ↦ (let hand = inv.hands w z other.1 in IsInHand-alike m then_machine shapes then_shapes z (looks_then w z other.0 other.1) w (λ live. live) hand.number hand)
      ]

      lives : LivesOn m then_machine
      lives = lives_on-one m then_machine shapes then_shapes inv (λ d. refl) refl refl hands_then s held o same (λ w. refl)

      -- ---- the other checkpoints

      other_hand : (z : CallState) → m.in_hand (who z) ≡ Some z → (driver_of z ≡ drivers.Copy c → ⊥) → then_machine.in_hand (who z) ≡ m.in_hand (who z)
      other_hand z there apart = put_who-other m.in_hand (who s) o (who z) (apart_states m.in_hand z s there held (λ same_state. apart (ap driver_of same_state ∙ is)))

      -- the copying's own update is here
      owner_elsewhere : (j : ℕ) (x : Shape) (d : CallId) → (j == k) ≡ false → (by : IsOwner m j x d) → then_machine.in_hand (who by.state) ≡ m.in_hand (who by.state)
      owner_elsewhere j x d elsewhere by = other_hand by.state by.in_hand (λ copies.
          let staged : by.driver ≡ c.staging = same_Some by.driver c.staging (sym by.driver_is ∙ ap update_in copies ∙ does_staging c at some) in
          let ckpt : j ≡ k = sym by.ckpt ∙ ap (λ (u : UpdateState). u.ckpt) staged ∙ (its_at m shapes inv s c held is at some).ckpt in
          let w : true ≡ false = sym (eq-eqb j k ckpt) ∙ elsewhere in
          cc w)

      replicas_elsewhere : (j q : ℕ) → (j == k) ≡ false → then_machine.replicas j q ≡ m.replicas j q
      replicas_elsewhere j q elsewhere = ap (λ b. cond (b && (q == r)) (Some y) (m.replicas j q)) elsewhere

      good_elsewhere : (j : ℕ) (g : Entry) (maker : Option CallId) → (j == k) ≡ false → IsGoodIn m j (shapes j) g maker → IsGoodIn then_machine j (shapes j) g maker
      good_elsewhere j g maker elsewhere good = IsGoodIn-alike m then_machine j lives (shapes j) g (λ q complete. replicas_elsewhere j q elsewhere)
          (λ q d owns by. owner_elsewhere j (shapes j) d elsewhere by)
          (λ marks stand by. other_hand by.state by.in_hand (λ copies. let w : drivers.Active by.driver ≡ drivers.Copy c = sym by.driver_is ∙ copies in cc w))
          (λ active d by. other_hand by.state by.in_hand (λ copies. let w : drivers.Sync by.driver ≡ drivers.Copy c = sym by.driver_is ∙ copies in cc w))
          (λ d by. other_hand by.state by.in_hand (λ copies. let w : drivers.Open by.driver ≡ drivers.Copy c = sym by.driver_is ∙ copies in cc w))
          maker good

      -- ---- the whole

      module _ (spread : LivesOn m then_machine → IsSpread then_machine k sh f) (generation : y.generation ≡ f.generation) where
        entries_then : (j : ℕ) (g : Entry) → entry_of j R.entries ≡ Some g → (b : Bool) → (j == k) ≡ b → IsGoodIn then_machine j (cond (j == k) sh (shapes j)) g g.making
        entries_then j g there false elsewhere = subst (λ b. IsGoodIn then_machine j (cond b sh (shapes j)) g g.making) (sym elsewhere) (good_elsewhere j g g.making elsewhere (inv.entries j g (sym (entry_other m shapes inv k r e found lacks up was j elsewhere) ∙ there)))
        entries_then j g there true it =
            let k_is : k ≡ j = sym (eqb-true j k it) in
            let g_is : f ≡ g = same_Some f g (sym (entry_here m shapes inv k r e found lacks up was) ∙ ap (λ i. entry_of i R.entries) k_is ∙ there) in
            let made : f.making ≡ None = making_then_entry in
            subst (λ b. IsGoodIn then_machine j (cond b sh (shapes j)) g g.making) (sym it)
            (subst (λ (x : Entry). IsGoodIn then_machine j sh x x.making) g_is (subst (λ i. IsGoodIn then_machine i sh f f.making) k_is (subst (IsGoodIn then_machine k sh f) (sym made) (spread lives))))
          where
            making_then_entry : f.making ≡ None
            making_then_entry = entry_making r (record_then.n m shapes inv k r e found lacks up was) e (can m shapes inv k r e found lacks up was) (within m shapes inv k r e found lacks up was) ∙ (lacked_parts r e lacks).made

        -- a replica that was there may have what it has
        complete_still : (j q : ℕ) (x : ReplicaState) → m.replicas j q ≡ Some x → IsCompleteAt R j q x.generation
        complete_still j q x there = by_test (j == k) refl
          where
            before_it : IsCompleteAt m.cluster j q x.generation
            before_it = inv.replicas j q x there

            by_test : (b : Bool) → (j == k) ≡ b → IsCompleteAt R j q x.generation
            by_test false elsewhere = subst (λ o. IsSomeAnd o (λ g. IsCompleteOn g q × IsOfGeneration g q x.generation)) (sym (entry_other m shapes inv k r e found lacks up was j elsewhere)) before_it
            by_test true it =
                let had : IsCompleteOn e q × IsOfGeneration e q x.generation = subst (λ o. IsSomeAnd o (λ (g : Entry). IsCompleteOn g q × IsOfGeneration g q x.generation)) (ap (λ i. entry_of i m.cluster.entries) (eqb-true j k it) ∙ found) before_it in
                IsSomeAnd-from (entry_of j R.entries) (λ g. IsCompleteOn g q × IsOfGeneration g q x.generation) f (ap (λ i. entry_of i R.entries) (eqb-true j k it) ∙ entry_here m shapes inv k r e found lacks up was) (
                  entry_grows r (record_then.n m shapes inv k r e found lacks up was) e (can m shapes inv k r e found lacks up was) (within m shapes inv k r e found lacks up was) q had.0,
                  generation_then r (record_then.n m shapes inv k r e found lacks up was) e (can m shapes inv k r e found lacks up was) (within m shapes inv k r e found lacks up was) was.active q x.generation had.0 had.1,
                )

        complete_here : IsCompleteAt R k r y.generation
        complete_here = IsSomeAnd-from (entry_of k R.entries) (λ g. IsCompleteOn g r × IsOfGeneration g r y.generation) f (entry_here m shapes inv k r e found lacks up was) (
          joined r (record_then.n m shapes inv k r e found lacks up was) e (can m shapes inv k r e found lacks up was) (within m shapes inv k r e found lacks up was),
          present_generation f r y.generation generation,
        )

        reserves_then : (j q i : ℕ) → then_machine.reserved j q ≡ Some i → IsSomeAnd (entry_of j R.entries) (IsReservedFor R q i)
        reserves_then j q i reserved = was_reserved (entry_of j R.entries) q i (m.reserved j q) (IsReservedFor R q i) (λ g there free stood.
            let x = before m shapes inv k r e found lacks up was j g there in
            reserved_later m.cluster R q i x.entry g x.making x.declares free refl (subst (λ o. IsSomeAnd o (IsReservedFor m.cluster q i)) x.there (inv.reserves j q i stood))) reserved

        -- THE FRAME: the invariant holds behind a completion, where it holds of the call and of its checkpoint
        pub completing_keeps : InvariantIn then_shapes then_machine
        completing_keeps = record {
          up = inv.up;
          first_up = inv.first_up;
          incarnations = inv.incarnations;
          none_live = inv.none_live;
          rises = IdentitiesRise-change_key (completed_on r (record_then.n m shapes inv k r e found lacks up was)) (completed_on-keeps r (record_then.n m shapes inv k r e found lacks up was)).1 k m.cluster.entries inv.rises;
          up_to = AllUpTo-change_key (completed_on r (record_then.n m shapes inv k r e found lacks up was)) (completed_on-keeps r (record_then.n m shapes inv k r e found lacks up was)).1 m.cluster.last_identity k m.cluster.entries inv.up_to;
          few = few-change_key (completed_on r (record_then.n m shapes inv k r e found lacks up was)) k m.cluster.entries checkpoints_max inv.few;
          swept = stay m shapes inv k r e found lacks up was;
          entries = λ j g there. entries_then j g there (j == k) refl;
          replicas = put_complete R m.replicas k r y complete_here complete_still;
          reserves = reserves_then;
          handles = λ a h among. IsGoodHandle-later m.cluster R (made_still m shapes inv k r e found lacks up was) (λ j made g there. let x = before m shapes inv k r e found lacks up was j g there in (x.entry, x.there, x.declares, x.grows)) a h refl (inv.handles a h among);
          rest = inv.rest;
          clients = inv.clients;
          places = places_then m shapes inv k r e found lacks up was;
          hands = hands_then;
          calls = calls_left m.in_hand m.pending m.next inv.calls s held o same;
        }
