-- A call to the active changes the replica there, and its marks: what holds of every other call and of every other checkpoint stays.
use Rattle.std.proofs.Common.{◌≡◌, ◌≢◌, ℕ, inl, inr, Option, Some, None, Bool, true, false, cond, ◌&&◌, ◌==◌, refl, sym, ap, subst, ◌∙◌}
use Rattle.std.specs.Prelude.{is_some, IsSomeAnd}
use Rattle.std.proofs.lemmas.Bool.{eqb-true, eq-eqb}
use Rattle.std.proofs.lemmas.Option.{same_Some}
use Rattle.ckpt_types.specs.declared.identities.CallId.{CallId}
use Rattle.ckpt_types.specs.declared.identities.Who.{Who}
use Rattle.weak_marks.specs.Marks.{Marked}
use Rattle.cluster_record.specs.declared.entries.Entry.{Entry}
use Rattle.cluster_record.specs.DueActive.{ActiveState}
use Rattle.cluster_record.specs.Places.{put, put2}
use Rattle.cluster_record.specs.Calls.{same_call}
use Rattle.cluster_record.specs.RecordState.{entry_of}
use Rattle.ckpt_machine.specs.Drivers as drivers
use Rattle.ckpt_machine.specs.Dead.{IsDead}
use Rattle.ckpt_machine.specs.InHand.{is_marked_by, IsDoneIn, IsInHand}
use Rattle.ckpt_machine.specs.Invariant.{IsMaker, IsGoodIn, IsOfGeneration, InvariantIn}
use Rattle.ckpt_machine.specs.Machine.{Machine, ReplicaState, CallState, who}
use Rattle.cluster_record.specs.Placement.{is_all}
use Rattle.ckpt_machine.specs.Shape.{Shape, IsCompleteOn, IsApart, IsShapedBy, is_owner, IsOwner, IsMarker, IsHolder, IsSpread}
use Rattle.ckpt_machine.specs.Due.{driver_of}
use Rattle.ckpt_machine.proofs.ActiveNode.{active_complete}
use Rattle.ckpt_machine.proofs.Actors.{same_call-refl}
use Rattle.ckpt_machine.proofs.CallsKept.{IsSameCall, same_call-None, apart_from, calls_left}
use Rattle.ckpt_machine.proofs.OnComplete.{present_generation, put_complete}
use Rattle.ckpt_machine.proofs.OptionLemmas.{IsSomeAnd-from}
use Rattle.ckpt_machine.proofs.Lives.{LivesOn, lives_on-one, lives_on-fewer, enters-fewer, enters-one, dead_on}
use Rattle.ckpt_machine.proofs.LaterIncarnations.{incarnations_stay}
use Rattle.ckpt_machine.proofs.UpdateIn.{active_apart}
use Rattle.ckpt_machine.proofs.OtherCalls.{LooksAlike, LooksLater-refl, LiesUnder, LiesUnder-refl, making_still, IsInHand-alike, IsIn-apart, IsGoodIn-alike}
use Rattle.ckpt_machine.specs.Whose.{put_who, same_who}
use Rattle.ckpt_machine.proofs.Whose.{put_who-cases, put_who-other, apart_states}

-- the same checkpoint with other marks
abbrev pub marked_so : Shape → Option Marked → Shape
marked_so sh marks = record sh { marks = marks }

module _ (m : Machine) (shapes : ℕ → Shape) (inv : InvariantIn shapes m) (s : CallState) (a : ActiveState) (held : m.in_hand (who s) ≡ Some s) (is : driver_of s ≡ drivers.Active a) where
  -- ---- other calls

  -- what is in hand with another driver is another call
  other_by_driver : (z : CallState) → m.in_hand (who z) ≡ Some z → (driver_of z ≡ drivers.Active a → ⊥) → same_who (who z) (who s) ≡ false
  other_by_driver z there apart = apart_states m.in_hand z s there held (λ same. apart (ap driver_of same ∙ is))

  owner_other : (j : ℕ) (sh : Shape) (d : CallId) (own : IsOwner m j sh d) → same_who (who own.state) (who s) ≡ false
  owner_other j sh d own = other_by_driver own.state own.in_hand (active_apart (driver_of own.state) own.driver a own.driver_is)

  maker_other : (j : ℕ) (d : CallId) (own : IsMaker m j d) → same_who (who own.state) (who s) ≡ false
  maker_other j d own = other_by_driver own.state own.in_hand (λ same. let w : drivers.Open own.driver ≡ drivers.Active a = sym own.driver_is ∙ same in cc w)

  pub holder_other : (j : ℕ) (active : Option ℕ) (d : CallId) (own : IsHolder m j active d) → same_who (who own.state) (who s) ≡ false
  holder_other j active d own = other_by_driver own.state own.in_hand (λ same. let w : drivers.Sync own.driver ≡ drivers.Active a = sym own.driver_is ∙ same in cc w)

  -- so are the marks on another checkpoint
  marker_other : (j : ℕ) (marks : Marked) → (j == a.ckpt) ≡ false → (own : IsMarker m j marks) → same_who (who own.state) (who s) ≡ false
  marker_other j marks other own = other_by_driver own.state own.in_hand (λ same.
      let both : drivers.Active own.driver ≡ drivers.Active a = sym own.driver_is ∙ same in
      let driver : own.driver ≡ a = cc both in
      let ckpt : j ≡ a.ckpt = sym own.ckpt ∙ ap (λ (x : ActiveState). x.ckpt) driver in
      (let w : true ≡ false = sym (eq-eqb j a.ckpt ckpt) ∙ other in cc w))

  -- ---- the state after the step

  -- with other replicas, and with this left of the call
  abbrev with_step : (ℕ → ℕ → Option ReplicaState) → Option CallState → Machine
  with_step f o = record m { replicas = f; in_hand = put_who m.in_hand (who s) o }

  -- another checkpoint is as it was
  IsGoodIn-other : (f : ℕ → ℕ → Option ReplicaState) (o : Option CallState) → LivesOn m (with_step f o) → ((j q : ℕ) → (j == a.ckpt) ≡ false → f j q ≡ m.replicas j q) → (j : ℕ) (sh : Shape) (e : Entry) (maker : Option CallId) → (j == a.ckpt) ≡ false → IsGoodIn m j sh e maker → IsGoodIn (with_step f o) j sh e maker
  IsGoodIn-other f o lives stays j sh e maker other good = IsGoodIn-alike m (with_step f o) j lives sh e (λ q there. stays j q other)
      (λ r d owns own. put_who-other m.in_hand (who s) o (who own.state) (owner_other j sh d own)) (λ marks stand own. put_who-other m.in_hand (who s) o (who own.state) (marker_other j marks other own)) (λ active d own. put_who-other m.in_hand (who s) o (who own.state) (holder_other j active d own)) (λ d own. put_who-other m.in_hand (who s) o (who own.state) (maker_other j d own)) maker good

  -- ---- it ends, where no marks of it stand, or its checkpoint is gone

  pub unmarked_ends : ((e : Entry) → entry_of a.ckpt m.cluster.entries ≡ Some e → is_marked_by s.call (shapes a.ckpt).marks ≡ false) → InvariantIn shapes (record m { in_hand = put_who m.in_hand (who s) None })
  unmarked_ends unmarked = record {
    up = inv.up;
    first_up = inv.first_up;
    incarnations = inv.incarnations;
    none_live = inv.none_live;
    rises = inv.rises;
    up_to = inv.up_to;
    few = inv.few;
    swept = inv.swept;
    entries = λ j e found. IsGoodIn-alike m (record m { in_hand = put_who m.in_hand (who s) None }) j (lives_on-fewer m (record m { in_hand = put_who m.in_hand (who s) None }) shapes shapes inv (λ d. refl) refl refl hands_left was_held) (shapes j) e (λ q there. refl)
        (λ r d owns own. put_who-other m.in_hand (who s) None (who own.state) (owner_other j (shapes j) d own)) (λ marks stand own. put_who-other m.in_hand (who s) None (who own.state) (another j e found marks stand own))
        (λ active d own. put_who-other m.in_hand (who s) None (who own.state) (holder_other j active d own)) (λ d own. put_who-other m.in_hand (who s) None (who own.state) (maker_other j d own)) e.making (inv.entries j e found);
    replicas = inv.replicas;
    reserves = inv.reserves;
    handles = inv.handles;
    rest = inv.rest;
    clients = inv.clients;
    places = inv.places;
    hands = hands_left;
    calls = calls_left m.in_hand m.pending m.next inv.calls s held None (same_call-None s);
  }
    where
      was_held : (b : Who) (z : CallState) → put_who m.in_hand (who s) None b ≡ Some z → m.in_hand b ≡ Some z
      was_held b z left = elim (put_who-cases m.in_hand (who s) None b z left) [
        | inl here ↦ absurd (let w : None ≡ Some z = here.1 in cc w)
        | inr other ↦ other.1
      ]

      hands_left : (b : Who) (z : CallState) → put_who m.in_hand (who s) None b ≡ Some z → IsInHand (record m { in_hand = put_who m.in_hand (who s) None }) shapes b z
      hands_left b z left = let was = inv.hands b z (was_held b z left) in record { whose = was.whose; asker = was.asker; number = was.number; built = was.built; driven = was.driven; live = was.live; home = was.home; here = IsIn-apart m shapes m.next m.pending (put_who m.in_hand (who s) None) (dead_on m (record m { in_hand = put_who m.in_hand (who s) None }) (λ d. refl) refl (enters-fewer m (record m { in_hand = put_who m.in_hand (who s) None }) was_held)) z was.asker (driver_of z) was.here }

      -- whose marks stand is another call
      another : (j : ℕ) (e : Entry) → entry_of j m.cluster.entries ≡ Some e → (marks : Marked) → (shapes j).marks ≡ Some marks → (own : IsMarker m j marks) → same_who (who own.state) (who s) ≡ false
      another j e found marks stand own = apart_states m.in_hand own.state s own.in_hand held (λ same.
          let both : drivers.Active own.driver ≡ drivers.Active a = sym own.driver_is ∙ ap driver_of same ∙ is in
          let driver : own.driver ≡ a = cc both in
          let ckpt : j ≡ a.ckpt = sym own.ckpt ∙ ap (λ (x : ActiveState). x.ckpt) driver in
          let call : marks.call ≡ s.call = sym own.call_is ∙ ap (λ (z : CallState). z.call) same in
          let w : false ≡ true = sym (unmarked e (ap (λ n. entry_of n m.cluster.entries) (sym ckpt) ∙ found)) ∙ ap (is_marked_by s.call) (ap (λ n. (shapes n).marks) (sym ckpt) ∙ stand) ∙ ap (λ c. same_call c s.call) call ∙ same_call-refl s.call in
          cc w)

  -- ---- its checkpoint is there

  module _ (r : ℕ) (e : Entry) (found : entry_of a.ckpt m.cluster.entries ≡ Some e) (made : e.making ≡ None) (alone : is_all e.attributes ≡ false) (active : e.active ≡ Some r) (no_hold : e.hold ≡ None)
      (y : ReplicaState) (marks : Option Marked) (apart : IsApart marks y) (generation : y.generation ≡ e.generation) (o : Option CallState) where
    abbrev pub then_machine : Machine
    then_machine = record m { replicas = put2 m.replicas a.ckpt r (Some y); in_hand = put_who m.in_hand (who s) o }

    abbrev pub then_shapes : ℕ → Shape
    then_shapes = put shapes a.ckpt (marked_so (shapes a.ckpt) marks)

    elsewhere : (j q : ℕ) → (j == a.ckpt) ≡ false → then_machine.replicas j q ≡ m.replicas j q
    elsewhere j q other = ap (λ b. cond (b && (q == r)) (Some y) (m.replicas j q)) other

    was : IsSpread m a.ckpt (shapes a.ckpt) e
    was = subst (IsGoodIn m a.ckpt (shapes a.ckpt) e) made (inv.entries a.ckpt e found)

    -- a replica, by what the checkpoint declares and which node is its active
    abbrev Has : Option ReplicaState → Shape → ℕ → Bool × Option ℕ → Type 0
    Has x sh q p = IsSomeAnd x (IsShapedBy p.0 sh p.1 q)

    replicas_then : (q : ℕ) → Has (m.replicas a.ckpt q) (shapes a.ckpt) q (is_all e.attributes, e.active) → Has (then_machine.replicas a.ckpt q) (marked_so (shapes a.ckpt) marks) q (is_all e.attributes, e.active)
    replicas_then q before =
        subst (Has (then_machine.replicas a.ckpt q) (marked_so (shapes a.ckpt) marks) q) (λ i. (sym alone i, sym active i))
        (subst (λ b. IsSomeAnd (cond (b && (q == r)) (Some y) (m.replicas a.ckpt q)) (IsApart (cond (q == r) marks None))) (sym (eq-eqb a.ckpt a.ckpt refl))
        (elim (q == r) as (λ b. IsSomeAnd (m.replicas a.ckpt q) (IsApart (cond b (shapes a.ckpt).marks None)) → IsSomeAnd (cond b (Some y) (m.replicas a.ckpt q)) (IsApart (cond b marks None))) [
          | true ↦ λ old. apart
          | false ↦ λ old. old
        ] (subst (Has (m.replicas a.ckpt q) (shapes a.ckpt) q) (λ i. (alone i, active i)) before)))

    -- nothing is staged on its replicas
    no_slot : {P : Type 0} → (q : ℕ) (d : CallId) → (shapes a.ckpt).owners q ≡ Some d → P
    no_slot q d owns = absurd (let w : true ≡ false = sym (was.all q d owns) ∙ alone in cc w)

    spread_then : ((w : Marked) → marks ≡ Some w → IsMarker then_machine a.ckpt w) → IsSpread then_machine a.ckpt (marked_so (shapes a.ckpt) marks) e
    spread_then marked = record {
      well_formed = was.well_formed;
      nodes = was.nodes;
      some = was.some;
      up = was.up;
      active = was.active;
      replicas = λ q there. replicas_then q (was.replicas q there);
      fits = was.fits;
      all = was.all;
      complete = was.complete;
      lowest = was.lowest;
      first = λ q p d below there owns own. no_slot p d owns;
      owned = λ q d owns. no_slot q d owns;
      led = λ w same. ap is_some active;
      marked = marked;
      held = λ d is. absurd (let w : Some d ≡ None = sym is ∙ no_hold in cc w);
    }

    -- the marks of other calls are what they were
    abbrev pub LeavesMarks : Type 0
    LeavesMarks = (d : CallId) → d ≢ s.call → is_marked_by d marks ≡ is_marked_by d (shapes a.ckpt).marks

    looks_then : LeavesMarks → ((d : CallId) → IsDead m d → IsDead then_machine d) → (z : CallState) → z.call ≢ s.call → LooksAlike m then_machine shapes then_shapes z
    looks_then leaves dead z other = record {
      up = λ r up. up;
      incarnations = incarnations_stay m.cluster m.cluster refl refl;
      lives = λ client. refl;
      node = λ r own. refl;
      home = refl;
      handle = λ there. there;
      making = λ v at. making_still m then_machine z v (λ w at. record { there = at.there; declares = at.declares; nodes = at.nodes; reserved = at.reserved; only = at.only; within = at.within; no_later = at.no_later }) at;
      made = λ k was. was;
      later = λ k was e found. (e, found, LooksLater-refl m.cluster.up z (shapes k) e);
      reserved = λ k r was own f found free. refl;
      owners = λ j was q. elim (j == a.ckpt) as (λ b. (j == a.ckpt) ≡ b → is_owner z.call ((cond b (marked_so (shapes a.ckpt) marks) (shapes j)).owners q) ≡ is_owner z.call ((shapes j).owners q)) [
        | true ↦ λ same. ap (λ n. is_owner z.call ((shapes n).owners q)) (sym (eqb-true j a.ckpt same))
        | false ↦ λ same. refl
      ] refl;
      marks = λ j was. elim (j == a.ckpt) as (λ b. (j == a.ckpt) ≡ b → is_marked_by z.call (cond b (marked_so (shapes a.ckpt) marks) (shapes j)).marks ≡ is_marked_by z.call (shapes j).marks) [
        | true ↦ λ same. leaves z.call other ∙ ap (λ n. is_marked_by z.call (shapes n).marks) (sym (eqb-true j a.ckpt same))
        | false ↦ λ same. refl
      ] refl;
      under = λ j was x found all. elim (j == a.ckpt) as (λ b. (j == a.ckpt) ≡ b → LiesUnder (shapes j) (cond b (marked_so (shapes a.ckpt) marks) (shapes j))) [
        | true ↦ λ same. subst (λ n. LiesUnder (shapes n) (marked_so (shapes a.ckpt) marks)) (sym (eqb-true j a.ckpt same)) (record { sections = refl; effects = refl })
        | false ↦ λ same. LiesUnder-refl (shapes j)
      ] refl;
      dead = λ j f was found. dead;
      done = λ j was. elim (j == a.ckpt) as (λ b. (j == a.ckpt) ≡ b → IsDoneIn (shapes j) z → IsDoneIn (cond b (marked_so (shapes a.ckpt) marks) (shapes j)) z) [
        | true ↦ λ same done. let here = subst (λ n. IsDoneIn (shapes n) z) (eqb-true j a.ckpt same) done in record { free = here.free; under = here.under }
        | false ↦ λ same done. done
      ] refl;
    }

    -- the invariant holds after it, where the marks that stand then are of a call in hand, and what is left of the call is where its steps have led it
    pub active_keeps : LeavesMarks → IsSameCall s o → ((w : Marked) → marks ≡ Some w → IsMarker then_machine a.ckpt w) → ((z : CallState) → o ≡ Some z → IsInHand then_machine then_shapes (who s) z) → InvariantIn then_shapes then_machine
    active_keeps leaves same marked own = record {
      up = inv.up;
      first_up = inv.first_up;
      incarnations = inv.incarnations;
      none_live = inv.none_live;
      rises = inv.rises;
      up_to = inv.up_to;
      few = inv.few;
      swept = inv.swept;
      entries = λ j f there. by_test j f there (j == a.ckpt) refl;
      replicas = put_complete m.cluster m.replicas a.ckpt r y (IsSomeAnd-from (entry_of a.ckpt m.cluster.entries) (λ e. IsCompleteOn e r × IsOfGeneration e r y.generation) e found (active_complete m shapes a.ckpt e r inv found made active, present_generation e r y.generation generation)) inv.replicas;
      reserves = inv.reserves;
      handles = inv.handles;
      rest = inv.rest;
      clients = inv.clients;
      places = inv.places;
      hands = hands_then;
      calls = calls_left m.in_hand m.pending m.next inv.calls s held o same;
    }
      where
        dead : (d : CallId) → IsDead m d → IsDead then_machine d
        dead = dead_on m then_machine (λ d. refl) refl (enters-one m then_machine s held (inv.hands (who s) s held).driven o same (λ z is. (own z is).driven) (λ w. refl))

        hands_then : (b : Who) (z : CallState) → put_who m.in_hand (who s) o b ≡ Some z → IsInHand then_machine then_shapes b z
        hands_then b z there = elim (put_who-cases m.in_hand (who s) o b z there) [
          | inl here ↦ subst (λ c. IsInHand then_machine then_shapes c z) (sym here.0) (own z here.1)
          | inr other ↦ (
              let was = inv.hands b z other.1 in
              IsInHand-alike m then_machine shapes then_shapes z (looks_then leaves dead z (apart_from m.in_hand m.pending m.next inv.calls s held b z other.1 other.0)) b (λ live. live) was.number was)
        ]

        lives : LivesOn m then_machine
        lives = lives_on-one m then_machine shapes then_shapes inv (λ d. refl) refl refl hands_then s held o same (λ w. refl)

        by_test : (j : ℕ) (f : Entry) → entry_of j m.cluster.entries ≡ Some f → (b : Bool) → (j == a.ckpt) ≡ b → IsGoodIn then_machine j (then_shapes j) f f.making
        by_test j f there false other =
            subst (λ sh. IsGoodIn then_machine j sh f f.making) (sym (ap (λ b. cond b (marked_so (shapes a.ckpt) marks) (shapes j)) other))
            (IsGoodIn-other then_machine.replicas o lives elsewhere j (shapes j) f f.making other (inv.entries j f there))
        by_test j f there true same =
            let k_is : a.ckpt ≡ j = sym (eqb-true j a.ckpt same) in
            let e_is : e ≡ f = same_Some e f (sym found ∙ ap (λ n. entry_of n m.cluster.entries) k_is ∙ there) in
            subst (λ sh. IsGoodIn then_machine j sh f f.making) (sym (ap (λ b. cond b (marked_so (shapes a.ckpt) marks) (shapes j)) same))
            (subst (λ (x : Entry). IsGoodIn then_machine j (marked_so (shapes a.ckpt) marks) x x.making) e_is
            (subst (IsGoodIn then_machine j (marked_so (shapes a.ckpt) marks) e) (sym made) (subst (λ n. IsSpread then_machine n (marked_so (shapes a.ckpt) marks) e) k_is (spread_then marked))))
