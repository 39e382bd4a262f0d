-- A step of the setting of an active changes the entry of its checkpoint, and may change a replica of it: what holds of every other call and of every other checkpoint stays.
use Rattle.std.proofs.Common.{◌≡◌, ◌≢◌, ℕ, ◌+◌, ◌≤◌, length, arith, inl, inr, Option, Some, None, Bool, true, false, cond, ◌==◌, refl, sym, ap, subst, ◌∙◌}
use Rattle.std.specs.Prelude.{is_some, IsSome, IsSomeAnd, IfSome, slice_index}
use Rattle.std.proofs.lemmas.Bool.{eqb-true, eq-eqb}
use Rattle.std.proofs.lemmas.Option.{same_Some}
use Rattle.ckpt_types.specs.declared.identities.ActorName.TheVariants.{Client}
use Rattle.ckpt_types.specs.declared.identities.CallId.{CallId}
use Rattle.ckpt_types.specs.declared.identities.Who.{Who}
use Rattle.ckpt_types.specs.Asks.{asked}
use Rattle.ckpt_types.specs.Limits.{checkpoints_max, handles_max}
use Rattle.weak_marks.specs.Marks.{Marked}
use Rattle.cluster_record.specs.declared.calls.Making.{Making}
use Rattle.cluster_record.specs.declared.entries.Entry.{Entry}
use Rattle.cluster_record.specs.Makings.{makings_of}
use Rattle.cluster_record.specs.DueSync.{SyncState}
use Rattle.cluster_record.specs.Places.{change_key}
use Rattle.cluster_record.specs.RecordState.{RecordState, entry_of, identity_of, complete_of, is_call_of, stays, swept}
use Rattle.cluster_record.proofs.IdentityLaws.{KeepsIdentity, IdentitiesRise-change_key, AllUpTo-change_key}
use Rattle.cluster_record.proofs.MakingCounts.{one_if, makings_of-changed}
use Rattle.ckpt_machine.specs.Drivers as drivers
use Rattle.ckpt_machine.specs.Entries.{AllStay, WasMade}
use Rattle.ckpt_machine.specs.Dead.{IsDead}
use Rattle.ckpt_machine.specs.InHand.{attributes_asked, IsMakingIn, IsInHand}
use Rattle.ckpt_machine.specs.Invariant.{IsMaker, IsGoodIn, IsOfGeneration, IsCompleteAt, IsReservedFor, HasPlaces, InvariantIn}
use Rattle.ckpt_machine.specs.Machine.{Machine, ReplicaState, Snapshot, CallState, who}
use Rattle.ckpt_machine.specs.Shape.{Shape, IsCompleteOn, IsOwner, IsMarker, IsHolder, IsSpread}
use Rattle.ckpt_machine.specs.After.{with_record, opened_state, replica_under, reservation_under, snapshot_under}
use Rattle.ckpt_machine.specs.Due.{driver_of}
use Rattle.ckpt_machine.proofs.FewEntries.{few-change_key}
use Rattle.ckpt_machine.proofs.CallsKept.{IsSameCall, same_call-None, apart_from, calls_left}
use Rattle.ckpt_machine.proofs.EntryLists.{find_key-change_key, AllStay-change_key, swept-all}
use Rattle.ckpt_machine.proofs.Handles.{IsGoodHandle-later}
use Rattle.ckpt_machine.proofs.OptionLemmas.{IsSomeAnd-at, IsSomeAnd-from}
use Rattle.ckpt_machine.proofs.Lives.{LivesOn, lives_on-one, enters-one, dead_on}
use Rattle.ckpt_machine.proofs.OtherCalls.{LooksAlike, LooksLater, LooksLater-refl, LiesUnder-refl, home_stays, making_still, IsIn-apart, IsInHand-alike, IsGoodIn-alike}
use Rattle.ckpt_machine.specs.Whose.{put_who, same_who}
use Rattle.ckpt_machine.proofs.Whose.{put_who-cases, put_who-other, apart_states}
use Rattle.ckpt_machine.proofs.LaterIncarnations.{incarnations_stay}
use Rattle.ckpt_machine.proofs.ReservedUnder.{reserved_free, reserved_later}
use Rattle.ckpt_machine.proofs.UpdateIn.{sync_apart}

module _ (m : Machine) (shapes : ℕ → Shape) (inv : InvariantIn shapes m) (s : CallState) (u : SyncState) (held : m.in_hand (who s) ≡ Some s) (is : driver_of s ≡ drivers.Sync u) where
  -- ---- other calls

  -- what is in hand with another driver is another call
  other_by_driver : (z : CallState) → m.in_hand (who z) ≡ Some z → (driver_of z ≡ drivers.Sync u → ⊥) → same_who (who z) (who s) ≡ false
  other_by_driver z there apart = apart_states m.in_hand z s there held (λ same. apart (ap driver_of same ∙ is))

  pub owner_other : (j : ℕ) (sh : Shape) (d : CallId) (own : IsOwner m j sh d) → same_who (who own.state) (who s) ≡ false
  owner_other j sh d own = other_by_driver own.state own.in_hand (sync_apart (driver_of own.state) own.driver u own.driver_is)

  pub marker_other : (j : ℕ) (marks : Marked) (own : IsMarker m j marks) → same_who (who own.state) (who s) ≡ false
  marker_other j marks own = other_by_driver own.state own.in_hand (λ same. let w : drivers.Active own.driver ≡ drivers.Sync u = sym own.driver_is ∙ same in cc w)

  maker_other : (j : ℕ) (d : CallId) (own : IsMaker m j d) → same_who (who own.state) (who s) ≡ false
  maker_other j d own = other_by_driver own.state own.in_hand (λ same. let w : drivers.Open own.driver ≡ drivers.Sync u = sym own.driver_is ∙ same in cc w)

  -- so is the holder of another checkpoint
  holder_other : (j : ℕ) (active : Option ℕ) (d : CallId) → (j == u.ckpt) ≡ false → (own : IsHolder m j active d) → same_who (who own.state) (who s) ≡ false
  holder_other j active d other own = other_by_driver own.state own.in_hand (λ same.
      let both : drivers.Sync own.driver ≡ drivers.Sync u = sym own.driver_is ∙ same in
      let driver : own.driver ≡ u = cc both in
      let ckpt : j ≡ u.ckpt = sym own.ckpt ∙ ap (λ (x : SyncState). x.ckpt) driver in
      (let w : true ≡ false = sym (eq-eqb j u.ckpt ckpt) ∙ other in cc w))

  -- ---- its checkpoint is gone, and it ends

  pub gone_ends : entry_of u.ckpt m.cluster.entries ≡ None → InvariantIn shapes (record m { in_hand = put_who m.in_hand (who s) None })
  gone_ends gone = record {
    up = inv.up;
    first_up = inv.first_up;
    incarnations = inv.incarnations;
    none_live = inv.none_live;
    rises = inv.rises;
    up_to = inv.up_to;
    few = inv.few;
    swept = inv.swept;
    entries = λ j e found.
        let other = apart j e found (j == u.ckpt) refl in
        IsGoodIn-alike m (record m { in_hand = hands }) j lives (shapes j) e (λ q there. refl)
        (λ r d owns own. put_who-other m.in_hand (who s) None (who own.state) (owner_other j (shapes j) d own)) (λ marks stand own. put_who-other m.in_hand (who s) None (who own.state) (marker_other j marks own))
        (λ active d own. put_who-other m.in_hand (who s) None (who own.state) (holder_other j active d other own)) (λ d own. put_who-other m.in_hand (who s) None (who own.state) (maker_other j d own)) e.making (inv.entries j e found);
    replicas = inv.replicas;
    reserves = inv.reserves;
    handles = inv.handles;
    rest = inv.rest;
    clients = inv.clients;
    places = inv.places;
    hands = hands_left;
    calls = calls_left m.in_hand m.pending m.next inv.calls s held None (same_call-None s);
  }
    where
      hands : Who → Option CallState
      hands = put_who m.in_hand (who s) None

      dead : (d : CallId) → IsDead m d → IsDead (record m { in_hand = put_who m.in_hand (who s) None }) d
      dead = dead_on m (record m { in_hand = put_who m.in_hand (who s) None }) (λ d. refl) refl (enters-one m (record m { in_hand = put_who m.in_hand (who s) None }) s held (inv.hands (who s) s held).driven None (same_call-None s) (λ z none. absurd (cc none)) (λ b. refl))

      hands_left : (b : Who) (z : CallState) → put_who m.in_hand (who s) None b ≡ Some z → IsInHand (record m { in_hand = put_who m.in_hand (who s) None }) shapes b z
      hands_left b z left = elim (put_who-cases m.in_hand (who s) None b z left) [
        | inl here ↦ absurd (let w : None ≡ Some z = here.1 in cc w)
        | inr other ↦ (let was = inv.hands b z other.1 in record { whose = was.whose; asker = was.asker; number = was.number; built = was.built; driven = was.driven; live = was.live; home = was.home; here = IsIn-apart m shapes m.next m.pending (put_who m.in_hand (who s) None) dead z was.asker (driver_of z) was.here })
      ]

      lives : LivesOn m (record m { in_hand = put_who m.in_hand (who s) None })
      lives = lives_on-one m (record m { in_hand = put_who m.in_hand (who s) None }) shapes shapes inv (λ d. refl) refl refl hands_left s held None (same_call-None s) (λ b. refl)

      apart : (j : ℕ) (e : Entry) → entry_of j m.cluster.entries ≡ Some e → (b : Bool) → (j == u.ckpt) ≡ b → (j == u.ckpt) ≡ false
      apart j e found false other = other
      apart j e found true same = absurd (let w : None ≡ Some e = sym gone ∙ ap (λ n. entry_of n m.cluster.entries) (sym (eqb-true j u.ckpt same)) ∙ found in cc w)

  -- ---- its checkpoint is there

  module _ (e : Entry) (found : entry_of u.ckpt m.cluster.entries ≡ Some e) (made : e.making ≡ None) (change : Entry → Entry) (keeps : KeepsIdentity change) (f : Entry) (f_is : change e ≡ f)
      (still_made : f.making ≡ None) (complete : f.complete ≡ e.complete) (attributes : (change e).attributes ≡ e.attributes) (stays_still : stays m.cluster.moment (change e) ≡ stays m.cluster.moment e) where
    -- the record with the entry changed
    abbrev pub R : RecordState
    R = record m.cluster { entries = change_key identity_of u.ckpt change m.cluster.entries }

    -- ---- entries

    entry_is : (j : ℕ) → entry_of j R.entries ≡ cond (j == u.ckpt) (Some f) (entry_of j m.cluster.entries)
    entry_is j = find_key-change_key identity_of u.ckpt j change keeps m.cluster.entries e found ∙ ap (λ x. cond (j == u.ckpt) (Some x) (entry_of j m.cluster.entries)) f_is

    pub entry_here : entry_of u.ckpt R.entries ≡ Some f
    entry_here = entry_is u.ckpt ∙ ap (λ b. cond b (Some f) (entry_of u.ckpt m.cluster.entries)) (eq-eqb u.ckpt u.ckpt refl)

    pub entry_other : (j : ℕ) → (j == u.ckpt) ≡ false → entry_of j R.entries ≡ entry_of j m.cluster.entries
    entry_other j other = entry_is j ∙ ap (λ b. cond b (Some f) (entry_of j m.cluster.entries)) other

    -- as many checkpoints are in the making by each client
    places_then : HasPlaces m.tables R.entries
    places_then c =
        let none : one_if (is_call_of c e.making) ≡ 0 = ap (λ (x : Option CallId). one_if (is_call_of c x)) made in
        let none_then : one_if (is_call_of c (change e).making) ≡ 0 = ap (λ (x : Option CallId). one_if (is_call_of c x)) (ap (λ (x : Entry). x.making) f_is ∙ still_made) in
        let place : length (m.tables (Client c)).handles + makings_of c m.cluster.entries ≤ handles_max = inv.places c in
        omega (arith, place, makings_of-changed c change u.ckpt m.cluster.entries e found, none, none_then)

    -- no entry is over
    stay : AllStay m.cluster.moment R.entries
    stay = AllStay-change_key m.cluster.moment change u.ckpt m.cluster.entries inv.swept (λ x there was. subst (λ (y : Entry). stays m.cluster.moment (change y) ≡ true) (same_Some e x (sym found ∙ there)) (stays_still ∙ ap (stays m.cluster.moment) (same_Some e x (sym found ∙ there)) ∙ was))

    -- each entry that is found was there, with the same nodes
    pub record Before (j : ℕ) (g : Entry) : Type 0 where
      pub entry : Entry
      pub was : entry_of j m.cluster.entries ≡ Some entry
      pub nodes : g.complete ≡ entry.complete
      pub declares : g.attributes ≡ entry.attributes

    before : (j : ℕ) (g : Entry) → entry_of j R.entries ≡ Some g → Before j g
    before j g there = by_test (j == u.ckpt) refl
      where
        by_test : (b : Bool) → (j == u.ckpt) ≡ b → Before j g
        by_test false other = record { entry = g; was = sym (entry_other j other) ∙ there; nodes = refl; declares = refl }
        by_test true same =
            let k_is : j ≡ u.ckpt = eqb-true j u.ckpt same in
            let g_is : f ≡ g = same_Some f g (sym entry_here ∙ ap (λ n. entry_of n R.entries) (sym k_is) ∙ there) in
            record { entry = e; was = ap (λ n. entry_of n m.cluster.entries) k_is ∙ found; nodes = ap (λ (x : Entry). x.complete) (sym g_is) ∙ complete; declares = ap (λ (x : Entry). x.attributes) (sym (f_is ∙ g_is)) ∙ attributes }

    -- what was made is made still
    pub WasMade-then : (j : ℕ) → WasMade m.cluster j → WasMade R j
    WasMade-then j was = record { given = was.given; made = by_test (j == u.ckpt) refl }
      where
        by_test : (b : Bool) → (j == u.ckpt) ≡ b → IfSome (entry_of j R.entries) (λ e. e.making ≡ None)
        by_test false other = subst (λ o. IfSome o (λ (x : Entry). x.making ≡ None)) (sym (entry_other j other)) was.made
        by_test true same = subst (λ n. IfSome (entry_of n R.entries) (λ (x : Entry). x.making ≡ None)) (sym (eqb-true j u.ckpt same)) (subst (λ o. IfSome o (λ (x : Entry). x.making ≡ None)) (sym entry_here) still_made)

    -- ---- what is under the record

    -- what was there is there
    found_still : (j : ℕ) (g : Entry) → entry_of j m.cluster.entries ≡ Some g → IsSome (entry_of j R.entries)
    found_still j g was = by_test (j == u.ckpt) refl
      where
        by_test : (b : Bool) → (j == u.ckpt) ≡ b → IsSome (entry_of j R.entries)
        by_test false other = ap (λ o. is_some o) (entry_other j other ∙ was)
        by_test true same = ap (λ o. is_some o) (ap (λ n. entry_of n R.entries) (eqb-true j u.ckpt same) ∙ entry_here)

    -- a replica is on a complete node of a checkpoint that is there, and stays
    replicas_stay : (j q : ℕ) → replica_under (entry_of j R.entries) (slice_index (complete_of (entry_of j m.cluster.entries)) q) q (m.replicas j q) ≡ m.replicas j q
    replicas_stay j q = by_entry (entry_of j R.entries) refl
      where
        -- where it can't be there is none
        none_there : ((g : Entry) → entry_of j m.cluster.entries ≡ Some g → IsCompleteOn g q → ⊥) → (o : Option ReplicaState) → m.replicas j q ≡ o → None ≡ m.replicas j q
        none_there cant None none = sym none
        none_there cant (Some x) some = absurd (let (g, was, at) = IsSomeAnd-at (entry_of j m.cluster.entries) (λ (e : Entry). IsCompleteOn e q × IsOfGeneration e q x.generation) (inv.replicas j q x some) in cant g was at.0)

        by_free : (g : Entry) (was : Before j g) (b : Bool) → (slice_index was.entry.complete q == 0) ≡ b → cond b None (cond b (Some (opened_state g)) (m.replicas j q)) ≡ m.replicas j q
        by_free g was false there = refl
        by_free g was true free = none_there (λ x found complete. (let x_is : was.entry ≡ x = same_Some was.entry x (sym was.was ∙ found) in let w : true ≡ false = sym free ∙ ap (λ (y : Entry). slice_index y.complete q == 0) x_is ∙ complete in cc w)) (m.replicas j q) refl

        by_entry : (o : Option Entry) → entry_of j R.entries ≡ o → replica_under (entry_of j R.entries) (slice_index (complete_of (entry_of j m.cluster.entries)) q) q (m.replicas j q) ≡ m.replicas j q
        by_entry None gone =
            ap (λ o. replica_under o (slice_index (complete_of (entry_of j m.cluster.entries)) q) q (m.replicas j q)) gone
            ∙ none_there (λ g was complete. (let w : false ≡ true = sym (ap (λ o. is_some o) gone) ∙ found_still j g was in cc w)) (m.replicas j q) refl
        by_entry (Some g) there =
            let was = before j g there in
            ap (λ o. replica_under o (slice_index (complete_of (entry_of j m.cluster.entries)) q) q (m.replicas j q)) there
            ∙ ap (λ o. replica_under (Some g) (slice_index (complete_of o) q) q (m.replicas j q)) was.was
            ∙ ap (λ cs. cond (slice_index cs q == 0) None (cond (slice_index was.entry.complete q == 0) (Some (opened_state g)) (m.replicas j q))) was.nodes
            ∙ by_free g was (slice_index was.entry.complete q == 0) refl

    -- what is reserved is for a checkpoint that is there, on a node that is not complete, and stays
    reserved_stay : (j q : ℕ) → reservation_under (entry_of j R.entries) q (m.reserved j q) ≡ m.reserved j q
    reserved_stay j q = by_entry (entry_of j R.entries) refl
      where
        none_there : ((n : ℕ) → m.reserved j q ≡ Some n → ⊥) → (o : Option ℕ) → m.reserved j q ≡ o → None ≡ m.reserved j q
        none_there cant None none = sym none
        none_there cant (Some n) some = absurd (cant n some)

        by_free : (g : Entry) (was : Before j g) (b : Bool) → (slice_index was.entry.complete q == 0) ≡ b → cond b (m.reserved j q) None ≡ m.reserved j q
        by_free g was true free = refl
        by_free g was false there = none_there (λ n some. (let w : true ≡ false = sym (reserved_free m shapes inv j q n some was.entry was.was) ∙ there in cc w)) (m.reserved j q) refl

        by_entry : (o : Option Entry) → entry_of j R.entries ≡ o → reservation_under (entry_of j R.entries) q (m.reserved j q) ≡ m.reserved j q
        by_entry None gone =
            ap (λ o. reservation_under o q (m.reserved j q)) gone
            ∙ none_there (λ n some. (let (g, was, for) = IsSomeAnd-at (entry_of j m.cluster.entries) (IsReservedFor m.cluster q n) (inv.reserves j q n some) in let w : false ≡ true = sym (ap (λ o. is_some o) gone) ∙ found_still j g was in cc w)) (m.reserved j q) refl
        by_entry (Some g) there =
            let was = before j g there in
            ap (λ o. reservation_under o q (m.reserved j q)) there
            ∙ ap (λ cs. cond (slice_index cs q == 0) (m.reserved j q) None) was.nodes
            ∙ by_free g was (slice_index was.entry.complete q == 0) refl

    -- the snapshots of what is there
    abbrev pub left_snapshots : ℕ → Option Snapshot
    left_snapshots = λ j. snapshot_under (entry_of j R.entries) (m.snapshots j)

    -- so the state after the record's step has the replicas and reservations that it had
    pub record_is : with_record m (swept R) ≡ record m { cluster = R; snapshots = left_snapshots }
    record_is = ap (with_record m) (swept-all R stay) ∙ (λ i. record m { cluster = R; replicas = λ j q. replicas_stay j q i; reserved = λ j q. reserved_stay j q i; snapshots = left_snapshots })

    -- ---- the state after the step

    module _ (F : ℕ → ℕ → Option ReplicaState) (elsewhere : (j q : ℕ) → (j == u.ckpt) ≡ false → F j q ≡ m.replicas j q) (o : Option CallState) where
      -- with these replicas, and with this left of the call
      abbrev pub then_machine : Machine
      then_machine = record m { cluster = R; replicas = F; snapshots = left_snapshots; in_hand = put_who m.in_hand (who s) o }

      -- another checkpoint is as it was
      IsGoodIn-other : LivesOn m then_machine → (j : ℕ) (g : Entry) (maker : Option CallId) → (j == u.ckpt) ≡ false → IsGoodIn m j (shapes j) g maker → IsGoodIn then_machine j (shapes j) g maker
      IsGoodIn-other lives j g maker other good = IsGoodIn-alike m then_machine j lives (shapes j) g (λ q there. elsewhere j q other)
          (λ r d owns own. put_who-other m.in_hand (who s) o (who own.state) (owner_other j (shapes j) d own)) (λ marks stand own. put_who-other m.in_hand (who s) o (who own.state) (marker_other j marks own))
          (λ active d own. put_who-other m.in_hand (who s) o (who own.state) (holder_other j active d other own)) (λ d own. put_who-other m.in_hand (who s) o (who own.state) (maker_other j d own)) maker good

      -- another call makes what it made
      making_then : (z : CallState) (w : Making) → IsMakingIn m z w → IsMakingIn then_machine z w
      making_then z w at =
          let (g, was, made_by) = IsSomeAnd-at (entry_of w.ckpt m.cluster.entries) (λ e. e.making ≡ Some z.call) at.there in
          let apart = not_this g was made_by in
          record {
            there = subst (λ o. IsSomeAnd o (λ (x : Entry). x.making ≡ Some z.call)) (sym (entry_other w.ckpt apart)) at.there;
            declares = subst (λ o. IsSomeAnd o (λ (x : Entry). attributes_asked (asked z.op) ≡ Some x.attributes)) (sym (entry_other w.ckpt apart)) at.declares;
            nodes = at.nodes;
            reserved = at.reserved;
            only = at.only;
            within = at.within;
            no_later = at.no_later;
          }
        where
          not_this : (g : Entry) → entry_of w.ckpt m.cluster.entries ≡ Some g → g.making ≡ Some z.call → (w.ckpt == u.ckpt) ≡ false
          not_this g was made_by = by_test (w.ckpt == u.ckpt) refl
            where
              by_test : (b : Bool) → (w.ckpt == u.ckpt) ≡ b → (w.ckpt == u.ckpt) ≡ false
              by_test false apart = apart
              by_test true same =
                  let g_is : g ≡ e = same_Some g e (sym was ∙ ap (λ n. entry_of n m.cluster.entries) (eqb-true w.ckpt u.ckpt same) ∙ found) in
                  absurd (let v : None ≡ Some z.call = sym made ∙ ap (λ (x : Entry). x.making) (sym g_is) ∙ made_by in cc v)

      module _ (looks : (z : CallState) → z.call ≢ s.call → LooksLater m.cluster.up z (shapes u.ckpt) e f) where
        looks_then : ((d : CallId) → IsDead m d → IsDead then_machine d) → (z : CallState) → z.call ≢ s.call → LooksAlike m then_machine shapes shapes z
        looks_then dead z other = record {
          up = λ r up. up;
          incarnations = incarnations_stay m.cluster R refl refl;
          lives = λ client. refl;
          node = λ r own. refl;
          home = home_stays z.call.actor m.cluster R refl;
          handle = λ there. there;
          making = λ v at. making_still m then_machine z v (making_then z) at;
          made = WasMade-then;
          later = λ j was g there. by_test j g there (j == u.ckpt) refl;
          reserved = λ j r was own g there free. refl;
          owners = λ j was r. refl;
          marks = λ j was. refl;
          under = λ j was x there all. LiesUnder-refl (shapes j);
          dead = λ j f was found. dead;
          done = λ j was done. done;
        }
          where
            by_test : (j : ℕ) (g : Entry) → entry_of j R.entries ≡ Some g → (b : Bool) → (j == u.ckpt) ≡ b → (x : Entry) × (entry_of j m.cluster.entries ≡ Some x) × LooksLater m.cluster.up z (shapes j) x g
            by_test j g there false apart = (g, sym (entry_other j apart) ∙ there, LooksLater-refl m.cluster.up z (shapes j) g)
            by_test j g there true same =
                let k_is : u.ckpt ≡ j = sym (eqb-true j u.ckpt same) in
                let g_is : f ≡ g = same_Some f g (sym entry_here ∙ ap (λ n. entry_of n R.entries) k_is ∙ there) in
                (e, ap (λ n. entry_of n m.cluster.entries) (sym k_is) ∙ found, subst (λ n. LooksLater m.cluster.up z (shapes n) e g) k_is (subst (LooksLater m.cluster.up z (shapes u.ckpt) e) g_is (looks z other)))

        -- the invariant holds after it, where it holds of the checkpoint, of the replicas and of the call
        pub entry_keeps : IsSameCall s o → (LivesOn m then_machine → IsSpread then_machine u.ckpt (shapes u.ckpt) f) → ((j q : ℕ) (x : ReplicaState) → F j q ≡ Some x → IsCompleteAt R j q x.generation) → ((z : CallState) → o ≡ Some z → IsInHand then_machine shapes (who s) z) → InvariantIn shapes then_machine
        entry_keeps same_call spread complete_then own = record {
          up = inv.up;
          first_up = inv.first_up;
          incarnations = inv.incarnations;
          none_live = inv.none_live;
          rises = IdentitiesRise-change_key change keeps u.ckpt m.cluster.entries inv.rises;
          up_to = AllUpTo-change_key change keeps m.cluster.last_identity u.ckpt m.cluster.entries inv.up_to;
          few = few-change_key change u.ckpt m.cluster.entries checkpoints_max inv.few;
          swept = stay;
          entries = λ j g there. by_test j g there (j == u.ckpt) refl;
          replicas = complete_then;
          reserves = λ j q n reserved. reserves_then j q n reserved (j == u.ckpt) refl;
          handles = λ b h among. IsGoodHandle-later m.cluster R WasMade-then (λ j was g there. let x = before j g there in (x.entry, x.was, x.declares, λ r complete. ap (λ cs. slice_index cs r == 0) x.nodes ∙ complete)) b h refl (inv.handles b h among);
          rest = inv.rest;
          clients = inv.clients;
          places = places_then;
          hands = hands_then;
          calls = calls_left m.in_hand m.pending m.next inv.calls s held o same_call;
        }
          where
            dead : (d : CallId) → IsDead m d → IsDead then_machine d
            dead = dead_on m then_machine (λ d. refl) refl (enters-one m then_machine s held (inv.hands (who s) s held).driven o same_call (λ z is. (own z is).driven) (λ b. refl))

            hands_then : (b : Who) (z : CallState) → put_who m.in_hand (who s) o b ≡ Some z → IsInHand then_machine shapes b z
            hands_then b z there = elim (put_who-cases m.in_hand (who s) o b z there) [
              | inl here ↦ subst (λ c. IsInHand then_machine shapes c z) (sym here.0) (own z here.1)
              | inr other ↦ (
                  let was = inv.hands b z other.1 in
                  IsInHand-alike m then_machine shapes shapes z (looks_then dead z (apart_from m.in_hand m.pending m.next inv.calls s held b z other.1 other.0)) b (λ live. live) was.number was)
            ]

            lives : LivesOn m then_machine
            lives = lives_on-one m then_machine shapes shapes inv (λ d. refl) refl refl hands_then s held o same_call (λ b. refl)

            by_test : (j : ℕ) (g : Entry) → entry_of j R.entries ≡ Some g → (b : Bool) → (j == u.ckpt) ≡ b → IsGoodIn then_machine j (shapes j) g g.making
            by_test j g there false other = IsGoodIn-other lives j g g.making other (inv.entries j g (sym (entry_other j other) ∙ there))
            by_test j g there true same =
                let k_is : u.ckpt ≡ j = sym (eqb-true j u.ckpt same) in
                let g_is : f ≡ g = same_Some f g (sym entry_here ∙ ap (λ n. entry_of n R.entries) k_is ∙ there) in
                subst (λ (x : Entry). IsGoodIn then_machine j (shapes j) x x.making) g_is (subst (λ n. IsGoodIn then_machine n (shapes n) f f.making) k_is (subst (IsGoodIn then_machine u.ckpt (shapes u.ckpt) f) (sym still_made) (spread lives)))

            reserves_then : (j q n : ℕ) → m.reserved j q ≡ Some n → (b : Bool) → (j == u.ckpt) ≡ b → IsSomeAnd (entry_of j R.entries) (IsReservedFor R q n)
            reserves_then j q n reserved false other = subst (λ o. IsSomeAnd o (IsReservedFor m.cluster q n)) (sym (entry_other j other)) (inv.reserves j q n reserved)
            reserves_then j q n reserved true same =
                let k_is : j ≡ u.ckpt = eqb-true j u.ckpt same in
                let there : entry_of j m.cluster.entries ≡ Some e = ap (λ i. entry_of i m.cluster.entries) k_is ∙ found in
                let for : IsReservedFor m.cluster q n e = subst (λ o. IsSomeAnd o (IsReservedFor m.cluster q n)) there (inv.reserves j q n reserved) in
                let free : (slice_index f.complete q == 0) ≡ true = ap (λ cs. slice_index cs q == 0) complete ∙ reserved_free m shapes inv j q n reserved e there in
                IsSomeAnd-from (entry_of j R.entries) (IsReservedFor R q n) f (ap (λ i. entry_of i R.entries) k_is ∙ entry_here)
                (reserved_later m.cluster R q n e f (still_made ∙ sym made) (ap (λ (x : Entry). x.attributes) (sym f_is) ∙ attributes) free refl for)
