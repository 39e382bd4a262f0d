-- A step of an update that changes replicas of its checkpoint, and what it keeps: what holds of every other call and of every other checkpoint stays.
use Rattle.std.proofs.Common.{◌≡◌, ◌≢◌, ◌⊎◌, ℕ, inl, inr, Option, Some, None, Bool, true, false, cond, ◌==◌, refl, sym, ap, subst, ◌∙◌}
use Rattle.std.specs.Option.{option_map}
use Rattle.std.specs.Prelude.{IsSomeAnd, IfSome}
use Rattle.std.proofs.lemmas.Bool.{eqb-true, eq-eqb}
use Rattle.std.proofs.lemmas.Option.{same_Some}
use Rattle.ckpt_types.specs.declared.identities.CallId.{CallId}
use Rattle.ckpt_types.specs.declared.identities.Who.{Who}
use Rattle.weak_marks.specs.Marks.{Marked}
use Rattle.cluster_record.specs.declared.calls.Making.{Making}
use Rattle.cluster_record.specs.declared.calls.SyncKind.{SyncKind}
use Rattle.cluster_record.specs.declared.calls.SyncKind.TheVariants.{Synchronize, ActiveSet}
use Rattle.cluster_record.specs.declared.calls.UpdatePhase.{UpdatePhase}
use Rattle.cluster_record.specs.declared.calls.UpdatePhase.TheVariants.{Staging, Committing, Claiming, Claimed, Withdrawing, Resolving}
use Rattle.cluster_record.specs.declared.entries.Entry.{Entry}
use Rattle.cluster_record.specs.declared.copying.Copying.{Copying}
use Rattle.cluster_record.specs.declared.copying.CopyPhase.{CopyPhase}
use Rattle.cluster_record.specs.declared.copying.CopyPhase.TheVariants as phases
use Rattle.cluster_record.specs.DueCopy.{CopyState}
use Rattle.cluster_record.specs.DueOnce.{OneStep}
use Rattle.cluster_record.specs.DueOnce as once
use Rattle.cluster_record.specs.DueSync.{SyncState}
use Rattle.cluster_record.specs.DueUpdate.{UpdateState}
use Rattle.cluster_record.specs.Placement.{is_all}
use Rattle.cluster_record.specs.Places.{put}
use Rattle.cluster_record.specs.RecordState.{entry_of, is_live}
use Rattle.ckpt_machine.specs.Dead.{IsDead, is_enter}
use Rattle.ckpt_machine.specs.Drivers.{Driver, update_in}
use Rattle.ckpt_machine.specs.Drivers as drivers
use Rattle.ckpt_machine.specs.InHand.{IsInPlace, IsOnceAt, IsMakingIn, IsDoneIn, PhaseKeeps, IsUpdateIn, IsToComplete, IsToCommit, HasPulledStaged, IsCopiedSoFar, IsCopyingAt, IsSyncBy, IsInHand, is_marked_by}
use Rattle.ckpt_machine.specs.Invariant.{InvariantIn, IsGoodIn, IsMaker, IsCompleteAt}
use Rattle.ckpt_machine.specs.Machine.{Machine, ReplicaState, CallState, who}
use Rattle.ckpt_machine.specs.Shape.{Shape, IsCompleteOn, IsShapedBy, is_owner, IsOwner, IsLeft, IsMarker, IsHolder, IsSpread, PhaseFits}
use Rattle.ckpt_machine.specs.Propagation.{on_node, copied}
use Rattle.ckpt_machine.specs.Due.{driver_of}
use Rattle.ckpt_machine.specs.Whose.{put_who, same_who}
use Rattle.ckpt_machine.proofs.Whose.{put_who-cases, put_who-other, apart_states}
use Rattle.ckpt_machine.proofs.CallsKept.{apart_from, calls_left, IsSameCall}
use Rattle.ckpt_machine.proofs.OptionLemmas.{IsSomeAnd-more}
use Rattle.ckpt_machine.proofs.Owning.{is_owner-true, is_owner-here}
use Rattle.ckpt_machine.proofs.UpdateIn.{no_enter}

-- the call owns the slot of each complete node
abbrev pub OwnsAll : Shape → Entry → CallId → Type 0
OwnsAll z e call = (q : ℕ) → IsCompleteOn e q → z.owners q ≡ Some call

-- the same contents lie under the slots
abbrev pub LiesSame : Shape → Shape → Type 0
LiesSame sh z = (sh.sections ≡ z.sections) × (sh.effects ≡ z.effects)

module _ (m : Machine) (shapes : ℕ → Shape) (inv : InvariantIn shapes m) (s : CallState) (u : UpdateState) (held : m.in_hand (who s) ≡ Some s) (is : update_in (driver_of s) ≡ Some u)
    (f : ℕ → ℕ → Option ReplicaState) (o : Option CallState) (same : IsSameCall s o) (plain : (y : CallState) → o ≡ Some y → is_enter (driver_of y) ≡ false) where
  -- the state behind the step
  abbrev pub then_machine : Machine
  then_machine = record m { replicas = f; in_hand = put_who m.in_hand (who s) o }

  abbrev n : Machine
  n = then_machine

  -- ---- who is dead and live

  pub IsDead-still : (d : CallId) → IsDead m d → IsDead n d
  IsDead-still d dead = record {
    begun = dead.begun;
    gone = dead.gone;
    before = λ w y at actor enter. elim (put_who-cases m.in_hand (who s) o w y at) [
      | inl here ↦ absurd (let c : false ≡ true = sym (plain y here.1) ∙ enter in cc c)
      | inr other ↦ dead.before w y other.1 actor enter
    ];
  }

  pub live_own : is_live m.cluster s.call ≡ true
  live_own = (inv.hands (who s) s held).live (no_enter (driver_of s) u is)

  -- a call in hand behind the step was live
  live_before : (w : Who) (y : CallState) → n.in_hand w ≡ Some y → is_enter (driver_of y) ≡ false → is_live m.cluster y.call ≡ true
  live_before w y at no_enter = elim (put_who-cases m.in_hand (who s) o w y at) [
    | inl here ↦ ap (is_live m.cluster) (same y here.1).0 ∙ live_own
    | inr other ↦ (inv.hands w y other.1).live no_enter
  ]

  -- ---- who owns slots

  phase_still : (x : Shape) (y : CallState) (w : UpdateState) (ph : UpdatePhase) → PhaseFits m x y w ph → PhaseFits n x y w ph
  phase_still x y w Staging fits = record { origin = fits.origin; update = fits.update; moment = fits.moment; undone = fits.undone; alone = fits.alone }
  phase_still x y w Committing fits = record { origin = fits.origin; update = fits.update; is_done = fits.is_done; alone = fits.alone }
  phase_still x y w Claiming fits = absurd fits
  phase_still x y w Claimed fits = record { origin = IsDead-still x.origin fits.origin; count = fits.count }
  phase_still x y w Withdrawing fits = record { origin = IsDead-still x.origin fits.origin; done_is = fits.done_is; alone = fits.alone }
  phase_still x y w Resolving fits = record { origin = IsDead-still x.origin fits.origin; done_is = fits.done_is; alone = fits.alone }

  pub IsOwner-other : (j : ℕ) (x : Shape) (d : CallId) (own : IsOwner m j x d) → same_who (who own.state) (who s) ≡ false → IsOwner n j x d
  IsOwner-other j x d own other = record { state = own.state; in_hand = put_who-other m.in_hand (who s) o (who own.state) other ∙ own.in_hand; call_is = own.call_is; driver = own.driver; driver_is = own.driver_is; ckpt = own.ckpt; phase = phase_still x own.state own.driver own.driver.phase own.phase }

  -- the owner of a slot of another checkpoint is another call
  other_owner : (j : ℕ) (x : Shape) (d : CallId) → (j == u.ckpt) ≡ false → (own : IsOwner m j x d) → same_who (who own.state) (who s) ≡ false
  other_owner j x d other own = apart_states m.in_hand own.state s own.in_hand held (λ state.
      let driver : own.driver ≡ u = same_Some own.driver u (sym own.driver_is ∙ ap (λ y. update_in (driver_of y)) state ∙ is) in
      let ckpt : j ≡ u.ckpt = sym own.ckpt ∙ ap (λ (v : UpdateState). v.ckpt) driver in
      let e : true ≡ false = sym (eq-eqb j u.ckpt ckpt) ∙ other in
      cc e)

  -- one that owns a slot behind the step owned it, where one in hand or a dead one did
  pub owner_back : (j : ℕ) (x y : Shape) (d : CallId) → IsOwner m j x d ⊎ IsLeft m x d → IsOwner n j y d → IsOwner m j x d
  owner_back j x y d (inl own) now = own
  owner_back j x y d (inr dead) now = absurd (let c : true ≡ false = sym (ap (is_live m.cluster) (sym now.call_is) ∙ live_before (who now.state) now.state now.in_hand (no_enter (driver_of now.state) now.driver now.driver_is)) ∙ dead.0.gone in cc c)

  -- ---- marks, holds and makings are of other calls

  pub IsMarker-still : (j : ℕ) (marks : Marked) → IsMarker m j marks → IsMarker n j marks
  IsMarker-still j marks own = record {
    state = own.state;
    in_hand = put_who-other m.in_hand (who s) o (who own.state) (apart_states m.in_hand own.state s own.in_hand held (λ state. let apart : None ≡ Some u = ap update_in (sym own.driver_is ∙ ap driver_of state) ∙ is in cc apart)) ∙ own.in_hand;
    call_is = own.call_is;
    driver = own.driver;
    driver_is = own.driver_is;
    ckpt = own.ckpt;
    made = own.made;
    made_is = own.made_is;
    update = own.update;
    left = own.left;
  }

  IsHolder-still : (j : ℕ) (active : Option ℕ) (d : CallId) → on_node (f j) active ≡ on_node (m.replicas j) active → IsHolder m j active d → IsHolder n j active d
  IsHolder-still j active d replica own = record {
    state = own.state;
    in_hand = put_who-other m.in_hand (who s) o (who own.state) (apart_states m.in_hand own.state s own.in_hand held (λ state. let apart : None ≡ Some u = ap update_in (sym own.driver_is ∙ ap driver_of state) ∙ is in cc apart)) ∙ own.in_hand;
    call_is = own.call_is;
    driver = own.driver;
    driver_is = own.driver_is;
    local = own.local;
    kind = own.kind;
    ckpt = own.ckpt;
    some = own.some;
    copies = λ led. own.copies led ∙ ap (option_map copied) (sym replica);
  }

  IsMaker-still : (j : ℕ) (d : CallId) → IsMaker m j d → IsMaker n j d
  IsMaker-still j d own = record {
    state = own.state;
    in_hand = put_who-other m.in_hand (who s) o (who own.state) (apart_states m.in_hand own.state s own.in_hand held (λ state. let apart : None ≡ Some u = ap update_in (sym own.driver_is ∙ ap driver_of state) ∙ is in cc apart)) ∙ own.in_hand;
    call_is = own.call_is;
    driver = own.driver;
    driver_is = own.driver_is;
    making = own.making;
    making_is = own.making_is;
    ckpt = own.ckpt;
  }

  -- ---- other checkpoints

  module _ (stays : (j q : ℕ) → (j == u.ckpt) ≡ false → f j q ≡ m.replicas j q) where
    spread_other : (j : ℕ) (x : Shape) (e : Entry) → (j == u.ckpt) ≡ false → IsSpread m j x e → IsSpread n j x e
    spread_other j x e other was = record {
      well_formed = was.well_formed;
      nodes = was.nodes;
      some = was.some;
      up = was.up;
      active = was.active;
      replicas = λ q there. subst (λ o. IsSomeAnd o (IsShapedBy (is_all e.attributes) x e.active q)) (sym (stays j q other)) (was.replicas q there);
      fits = was.fits;
      all = was.all;
      complete = was.complete;
      lowest = was.lowest;
      first = λ q p d below there owns own. was.first q p d below there owns (owner_back j x x d (was.owned p d owns) own);
      owned = λ q d owns. elim (was.owned q d owns) [
        | inl own ↦ inl (IsOwner-other j x d own (other_owner j x d other own))
        | inr dead ↦ inr (IsDead-still d dead.0, IsDead-still x.origin dead.1)
      ];
      led = was.led;
      marked = λ marks is_some. IsMarker-still j marks (was.marked marks is_some);
      held = λ d is_some. (let on = was.held d is_some in record { collocated = on.collocated; unmarked = on.unmarked; holder = IsHolder-still j e.active d (by_active e.active) on.holder });
    }
      where
        by_active : (o : Option ℕ) → on_node (f j) o ≡ on_node (m.replicas j) o
        by_active None = refl
        by_active (Some q) = stays j q other

    -- one in the making is by another call
    good_other : (j : ℕ) (x : Shape) (e : Entry) (maker : Option CallId) → (j == u.ckpt) ≡ false → IsGoodIn m j x e maker → IsGoodIn n j x e maker
    good_other j x e None other was = spread_other j x e other was
    good_other j x e (Some d) other was = (was.0, IsMaker-still j d was.1)

    -- ---- the other calls in hand

    module _ (sh : Shape) (marks : sh.marks ≡ (shapes u.ckpt).marks)
        (owners : (d : CallId) → is_live m.cluster d ≡ true → d ≢ s.call → (q : ℕ) → is_owner d (sh.owners q) ≡ is_owner d ((shapes u.ckpt).owners q))
        (done : (y : CallState) → is_live m.cluster y.call ≡ true → y.call ≢ s.call → IsDoneIn (shapes u.ckpt) y → IsDoneIn sh y)
        (under : (d : CallId) → is_live m.cluster d ≡ true → d ≢ s.call → (e : Entry) → entry_of u.ckpt m.cluster.entries ≡ Some e → OwnsAll (shapes u.ckpt) e d → LiesSame sh (shapes u.ckpt)) where
      abbrev pub then_shapes : ℕ → Shape
      then_shapes = put shapes u.ckpt sh

      at_ckpt : (P : Shape → Shape → Type 0) → ((x : Shape) → P x x) → P sh (shapes u.ckpt) → (j : ℕ) → P (then_shapes j) (shapes j)
      at_ckpt P each here j = elim (j == u.ckpt) as (λ b. (j == u.ckpt) ≡ b → P (cond b sh (shapes j)) (shapes j)) [
        | true ↦ λ it. subst (λ k. P sh (shapes k)) (sym (eqb-true j u.ckpt it)) here
        | false ↦ λ it. each (shapes j)
      ] refl

      keeps_still : (y : CallState) (w : UpdateState) (x : Shape) (ph : UpdatePhase) → PhaseKeeps m x y w ph → PhaseKeeps n x y w ph
      keeps_still y w x Staging at = tt
      keeps_still y w x Committing at = at
      keeps_still y w x Claiming at = IsDead-still w.owner at
      keeps_still y w x Claimed at = IsDead-still w.owner at
      keeps_still y w x Withdrawing at = tt
      keeps_still y w x Resolving at = tt

      keeps_here : (y : CallState) (w : UpdateState) → is_live m.cluster y.call ≡ true → y.call ≢ s.call → (ph : UpdatePhase) → PhaseKeeps m (shapes u.ckpt) y w ph → PhaseKeeps n sh y w ph
      keeps_here y w live other Staging at = tt
      keeps_here y w live other Committing at = done y live other at
      keeps_here y w live other Claiming at = IsDead-still w.owner at
      keeps_here y w live other Claimed at = IsDead-still w.owner at
      keeps_here y w live other Withdrawing at = tt
      keeps_here y w live other Resolving at = tt

      making_still : (y : CallState) (w : Option Making) → IfSome w (IsMakingIn m y) → IfSome w (IsMakingIn n y)
      making_still y None at = tt
      making_still y (Some w) at = record { there = at.there; declares = at.declares; nodes = at.nodes; reserved = at.reserved; only = at.only; within = at.within; no_later = at.no_later }

      once_still : (y : CallState) (x : OneStep) → IsOnceAt m y x → IsOnceAt n y x
      once_still y (once.Enter r) at = record { version = at.version; callbacks = at.callbacks; asks = at.asks; client = at.client; up = at.up; not_live = at.not_live }
      once_still y once.Leave at = record { asks = at.asks; live = at.live }
      once_still y (once.Close k) at = at
      once_still y (once.Unlink name) at = at
      once_still y (once.Retain k duration) at = record { place = at.place; asks = at.asks; from_zero = at.from_zero; kept = at.kept; made = at.made }

      sync_still : (y : CallState) (w : SyncState) (kind : SyncKind) → IsSyncBy m y w kind → IsSyncBy n y w kind
      sync_still y w (Synchronize deadline) at = record { call = at.call; place = at.place; timeout = at.timeout; asks = at.asks; kind = at.kind; kept = at.kept; made = at.made; alone = at.alone; declares = at.declares; pulled = at.pulled; nodes = at.nodes; served = at.served; led = at.led; older = at.older }
      sync_still y w (ActiveSet local) at = record { call = at.call; place = at.place; asks = at.asks; node = at.node; within = at.within; kept = at.kept; made = at.made; collocated = at.collocated; complete = at.complete; declares = at.declares; held = at.held }

      update_still : (y : CallState) → y.call ≢ s.call → is_live m.cluster y.call ≡ true → (w : UpdateState) → IsUpdateIn m shapes y w → IsUpdateIn n then_shapes y w
      update_still y other live w at = record {
        call = at.call;
        asks = at.asks;
        kept = at.kept;
        made = at.made;
        all = at.all;
        nodes = at.nodes;
        owns = λ e found q there. at.owns e found q there ∙ sym (at_ckpt (λ x y'. is_owner y.call (x.owners q) ≡ is_owner y.call (y'.owners q)) (λ x. refl) (owners y.call live other q) w.ckpt);
        keeps = λ e found. (
            let was = at.keeps e found in
            elim (w.ckpt == u.ckpt) as (λ b. (w.ckpt == u.ckpt) ≡ b → PhaseKeeps n (cond b sh (shapes w.ckpt)) y w w.phase) [
              | true ↦ λ it. keeps_here y w live other w.phase (subst (λ k. PhaseKeeps m (shapes k) y w w.phase) (eqb-true w.ckpt u.ckpt it) was)
              | false ↦ λ it. keeps_still y w (shapes w.ckpt) w.phase was
            ] refl);
        within = at.within;
        no_later = at.no_later;
      }

      -- ---- the copying to another node

      module _ (y : CallState) (other : y.call ≢ s.call) (live : is_live m.cluster y.call ≡ true) where
        owns_still : (j : ℕ) (e : Entry) → OwnsAll (shapes j) e y.call → OwnsAll (then_shapes j) e y.call
        owns_still j e owns q full = is_owner-true y.call ((then_shapes j).owners q) (at_ckpt (λ x z. is_owner y.call (x.owners q) ≡ is_owner y.call (z.owners q)) (λ x. refl) (owners y.call live other q) j ∙ is_owner-here y.call ((shapes j).owners q) (owns q full))

        lies_still : (j : ℕ) (e : Entry) → entry_of j m.cluster.entries ≡ Some e → OwnsAll (shapes j) e y.call → LiesSame (then_shapes j) (shapes j)
        lies_still j e found owns = elim (j == u.ckpt) as (λ b. (j == u.ckpt) ≡ b → LiesSame (cond b sh (shapes j)) (shapes j)) [
          | true ↦ λ it.
              let here : u.ckpt ≡ j = sym (eqb-true j u.ckpt it) in
              subst (λ k. LiesSame sh (shapes k)) here (under y.call live other e (ap (λ k. entry_of k m.cluster.entries) here ∙ found) (subst (λ k. OwnsAll (shapes k) e y.call) (sym here) owns))
          | false ↦ λ it. (refl, refl)
        ] refl

        to_complete_still : (r : ℕ) (e : Entry) → IsToComplete m r e → IsToComplete n r e
        to_complete_still r e at = record { lacks = at.lacks; reserved = at.reserved }

        to_commit_still : (j : ℕ) (e : Entry) (ph : UpdatePhase) → IsToCommit (shapes j) y.call e ph → IsToCommit (then_shapes j) y.call e ph
        to_commit_still j e Staging at = owns_still j e at
        to_commit_still j e Committing at = tt
        to_commit_still j e ph at = absurd at

        so_far_still : (c : CopyState) (j : ℕ) (e : Entry) → entry_of j m.cluster.entries ≡ Some e → (ph : CopyPhase) → IsCopiedSoFar m (shapes j) y c e ph → IsCopiedSoFar n (then_shapes j) y c e ph
        so_far_still c j e found phases.Reserved at = (to_complete_still c.node e at.0, at.1)
        so_far_still c j e found phases.Staging at = (to_complete_still c.node e at.0, at.1, at.2)
        so_far_still c j e found (phases.PulledActive generation) at = (to_complete_still c.node e at.0, at.1)
        so_far_still c j e found phases.PulledStaged at =
            let it : HasPulledStaged (shapes j) y c.staging e = at.1 in
            let same = lies_still j e found it.owns in (
              to_complete_still c.node e at.0,
              record {
                all = it.all;
                phase = it.phase;
                owns = owns_still j e it.owns;
                pulled = IsSomeAnd-more y.snapshot _ _ (λ x has. (has.0 ∙ sym same.0, has.1 ∙ sym same.1)) it.pulled;
              },
            )
        so_far_still c j e found phases.Committing at = (at.0, to_commit_still j e c.staging.phase at.1, at.2)

        copying_still : (c : CopyState) (o : Option Copying) → IfSome o (IsCopyingAt m shapes y c) → IfSome o (IsCopyingAt n then_shapes y c)
        copying_still c None at = tt
        copying_still c (Some w) at = record {
          ckpt = at.ckpt;
          kept = at.kept;
          made = at.made;
          apart = at.apart;
          declares = at.declares;
          update = λ e found all. update_still y other live c.staging (at.update e found all);
          so_far = λ e found. so_far_still c w.ckpt e found w.phase (at.so_far e found);
        }

      in_place_still : (y : CallState) → y.call ≢ s.call → (is_enter (driver_of y) ≡ false → is_live m.cluster y.call ≡ true) → (d : Driver) → driver_of y ≡ d → IsInPlace m shapes y d → IsInPlace n then_shapes y d
      in_place_still y other live (drivers.Once x) d_is at = once_still y x at
      in_place_still y other live (drivers.Open o) d_is at = record { caller = at.caller; client = at.client; within = at.within; node = at.node; home = at.home; asks = at.asks; named = at.named; declared = at.declared; deadline = at.deadline; making = making_still y o.making at.making; given = at.given }
      in_place_still y other live (drivers.Update w) d_is at = update_still y other (live (ap is_enter d_is)) w at
      in_place_still y other live (drivers.Active a) d_is at = record {
        call = at.call;
        kind = at.kind;
        fit = at.fit;
        made = at.made;
        kept = at.kept;
        room = at.room;
        all = at.all;
        weak = at.weak;
        handle = at.handle;
        marks = λ e found. at_ckpt (λ x y'. is_marked_by y.call x.marks ≡ is_marked_by y.call y'.marks) (λ x. refl) (ap (is_marked_by y.call) marks) a.ckpt ∙ at.marks e found;
        generation = at.generation;
        made_by = at.made_by;
      }
      in_place_still y other live (drivers.Sync w) d_is at = sync_still y w w.kind at
      in_place_still y other live (drivers.Copy c) d_is at = record { call = at.call; asks = at.asks; node = at.node; within = at.within; at = copying_still y other (live (ap is_enter d_is)) c c.copying at.at }

      hand_other : (w : Who) (y : CallState) → same_who w (who s) ≡ false → m.in_hand w ≡ Some y → IsInHand n then_shapes w y
      hand_other w y other at =
          let was = inv.hands w y at in
          record {
            whose = was.whose;
            asker = was.asker;
            number = was.number;
            built = was.built;
            driven = was.driven;
            live = was.live;
            home = was.home;
            here = in_place_still y (apart_from m.in_hand m.pending m.next inv.calls s held w y at other) was.live (driver_of y) refl was.here;
          }

      -- THE FRAME: the invariant holds after the step, where it holds of the call and of its checkpoint
      pub step_keeps : ((e : Entry) → entry_of u.ckpt m.cluster.entries ≡ Some e → (e.making ≡ None) × IsSpread n u.ckpt sh e) → ((y : CallState) → o ≡ Some y → IsInHand n then_shapes (who s) y)
          → ((j q : ℕ) (x : ReplicaState) → f j q ≡ Some x → IsCompleteAt m.cluster j q x.generation) → InvariantIn then_shapes n
      step_keeps spread own complete = record {
        up = inv.up;
        first_up = inv.first_up;
        incarnations = inv.incarnations;
        none_live = inv.none_live;
        rises = inv.rises;
        up_to = inv.up_to;
        few = inv.few;
        swept = inv.swept;
        entries = λ j e found. by_test j e found (j == u.ckpt) refl;
        replicas = complete;
        reserves = inv.reserves;
        handles = inv.handles;
        rest = inv.rest;
        clients = inv.clients;
        places = inv.places;
        hands = λ w y at. elim (put_who-cases m.in_hand (who s) o w y at) [
          | inl here ↦ subst (λ b. IsInHand n then_shapes b y) (sym here.0) (own y here.1)
          | inr other ↦ hand_other w y other.0 other.1
        ];
        calls = calls_left m.in_hand m.pending m.next inv.calls s held o same;
      }
        where
          by_test : (j : ℕ) (e : Entry) → entry_of j m.cluster.entries ≡ Some e → (b : Bool) → (j == u.ckpt) ≡ b → IsGoodIn n j (cond (j == u.ckpt) sh (shapes j)) e e.making
          by_test j e found false other = subst (λ b. IsGoodIn n j (cond b sh (shapes j)) e e.making) (sym other) (good_other j (shapes j) e e.making other (inv.entries j e found))
          by_test j e found true it =
              let k_is : u.ckpt ≡ j = sym (eqb-true j u.ckpt it) in
              let (made, there) = spread e (ap (λ k. entry_of k m.cluster.entries) k_is ∙ found) in
              subst (λ b. IsGoodIn n j (cond b sh (shapes j)) e e.making) (sym it)
              (subst (λ maker. IsGoodIn n j sh e maker) (sym made) (subst (λ k. IsSpread n k sh e) k_is there))
