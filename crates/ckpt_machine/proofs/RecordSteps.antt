-- After a step of the record that takes entries away, the other calls are where they were, and the checkpoints that are left are as they were.
use Rattle.std.proofs.Common.{◌≡◌, ℕ, ◌+◌, ◌≤◌, arith, List, length, Option, Some, None, Bool, true, false, cond, not, ◌&&◌, ◌==◌, refl, sym, ap, subst, ◌∙◌}
use Rattle.std.specs.Prelude.{is_some, IsSome, IsSomeAnd, IfSome, slice_index, nat_lt}
use Rattle.std.proofs.lemmas.Option.{same_Some}
use Rattle.ckpt_types.specs.declared.identities.CallId.{CallId}
use Rattle.cluster_record.specs.declared.calls.Making.{Making}
use Rattle.cluster_record.specs.declared.entries.Entry.{Entry}
use Rattle.cluster_record.specs.DueOpen.{targets_by}
use Rattle.cluster_record.specs.RecordState.{RecordState, client_key, entry_of, node_of_client, complete_of, no_nodes, is_live}
use Rattle.cluster_record.specs.StepDone.{has}
use Rattle.ckpt_machine.specs.Entries.{WasMade}
use Rattle.ckpt_types.specs.Asks.{MayAsk, asked}
use Rattle.ckpt_machine.specs.Due.{driver_of, home_by}
use Rattle.cluster_record.specs.Calls.{IsClient, number_of}
use Rattle.cluster_record.specs.Places.{find_key}
use Rattle.ckpt_types.specs.declared.identities.ActorName.{ActorName}
use Rattle.ckpt_machine.proofs.FewEntries.{fewer_from}
use Rattle.ckpt_machine.proofs.Askers.{client_within}
use Rattle.ckpt_machine.proofs.LaterIncarnations.{incarnations_stay}
use Rattle.ckpt_machine.proofs.UpdateIn.{no_enter}
use Rattle.ckpt_machine.specs.InHand.{attributes_asked, IsMakingIn}
use Rattle.ckpt_machine.specs.Invariant.{IsGoodIn, IsOfGeneration, IsReservedFor, InvariantIn}
use Rattle.ckpt_machine.specs.Machine.{Machine, CallState, who}
use Rattle.ckpt_machine.specs.After.{opened_state, with_record, replica_under, reservation_under}
use Rattle.ckpt_machine.specs.Shape.{Shape, IsCompleteOn}
use Rattle.ckpt_machine.specs.Later.{IsLaterEntry, IsLaterRecord}
use Rattle.ckpt_machine.proofs.OtherCalls.{LooksAlike, LooksLater, LooksLater-later, LiesUnder-refl, making_still, IsInHand-alike, IsGoodIn-later}
use Rattle.ckpt_machine.proofs.Handles.{IsGoodHandle-later}
use Rattle.ckpt_machine.proofs.Lives.{LivesOn}
use Rattle.ckpt_machine.proofs.OptionLemmas.{IsSomeAnd-at, IsSomeAnd-from}
use Rattle.ckpt_machine.proofs.OnComplete.{IsOfGeneration-later, under_complete}
use Rattle.ckpt_machine.proofs.ReservedUnder.{was_reserved, reserved_later}
use Rattle.ckpt_types.specs.declared.identities.Who.{Who}
use Rattle.ckpt_types.specs.declared.identities.ActorName.TheVariants.{Client, Node}
use Rattle.ckpt_types.specs.Limits.{handles_max}
use Rattle.cluster_record.specs.Makings.{makings_of}
use Rattle.ckpt_machine.proofs.FewerMakings.{fewer_makings}
use Rattle.ckpt_machine.proofs.FewerCalls.{calls_fewer}
use Rattle.ckpt_types.proofs.Lists.{slice_index-replicate}

module _ (m : Machine) (shapes : ℕ → Shape) (inv : InvariantIn shapes m) (R : RecordState) (hands : Who → Option CallState) (after_it : IsLaterRecord m R hands) where
  abbrev then_machine : Machine
  then_machine = record (with_record m R) { in_hand = hands }

  -- ---- replicas and reservations

  -- by whether its node was complete, the replica of one that is complete
  replica_by : (k r : ℕ) (e f : Entry) (free : Bool) → entry_of k m.cluster.entries ≡ Some e → entry_of k R.entries ≡ Some f → IsCompleteOn f r → (slice_index e.complete r == 0) ≡ free → then_machine.replicas k r ≡ cond free (Some (opened_state f)) (m.replicas k r)
  replica_by k r e f free was is there before =
      ap (λ o. replica_under o (slice_index (complete_of (entry_of k m.cluster.entries)) r) r (m.replicas k r)) is
      ∙ ap (λ o. replica_under (Some f) (slice_index (complete_of o) r) r (m.replicas k r)) was
      ∙ (λ i. cond (there i) None (cond (before i) (Some (opened_state f)) (m.replicas k r)))

  -- ---- what was made

  WasMade-kept : (k : ℕ) → WasMade m.cluster k → WasMade R k
  WasMade-kept k was = record {
    given = subst (λ (n : ℕ). k ≤ n) (sym after_it.last) was.given;
    made = by_entry (entry_of k R.entries) refl;
  }
    where
      by_entry : (o : Option Entry) → entry_of k R.entries ≡ o → IfSome o (λ e. e.making ≡ None)
      by_entry None gone = tt
      by_entry (Some f) found =
          let (e, there, later) = after_it.later k f found in
          later.making ∙ subst (λ o. IfSome o (λ (e : Entry). e.making ≡ None)) there was.made

  -- ---- checkpoints

  -- dead calls are dead still, and calls that are left are live as they were
  lives : LivesOn m then_machine
  lives = record {
    dead = λ d dead. record { begun = dead.begun; gone = after_it.dead d dead; before = λ w z left. dead.before w z (after_it.was_held w z left) };
    owners = λ k sh d own. (
        let was : m.in_hand (who own.state) ≡ Some own.state = after_it.was_held (who own.state) own.state own.in_hand in
        ap (is_live R) (sym own.call_is) ∙ after_it.live (who own.state) own.state own.in_hand ((inv.hands (who own.state) own.state was).live (no_enter (driver_of own.state) own.driver own.driver_is)));
    up = λ r there. ap (λ nodes. slice_index nodes r) after_it.up;
  }

  IsGoodIn-kept : (k : ℕ) (sh : Shape) (e f : Entry) (maker : Option CallId) → entry_of k m.cluster.entries ≡ Some e → entry_of k R.entries ≡ Some f → IsLaterEntry m.cluster.up e f → (IsSome maker → f.complete ≡ e.complete) → IsGoodIn m k sh e maker → IsGoodIn then_machine k sh f maker
  IsGoodIn-kept k sh e f maker was is later unmade good = IsGoodIn-later m then_machine k lives sh e f later (λ r there. replica_by k r e f false was is (later.grows r there) there) (λ r none there. replica_by k r e f true was is there none) (λ r d owns own. after_it.owners k sh d own) (λ marks stand own. after_it.markers k marks (subst (λ o. IsSome o) (sym is) refl) own) (λ active d own. after_it.holders k active d (subst (λ o. IsSome o) (sym is) refl) own) (λ d own. after_it.makers k d (subst (λ o. IsSome o) (sym is) refl) own) maker unmade good

  -- ---- where a call is

  module _ (a : Who) (z : CallState) (left : hands a ≡ Some z) where
    reservation_kept : (k r : ℕ) (f : Entry) → entry_of k R.entries ≡ Some f → (slice_index f.complete r == 0) ≡ true → then_machine.reserved k r ≡ m.reserved k r
    reservation_kept k r f is none = ap (λ o. reservation_under o r (m.reserved k r)) is ∙ ap (λ b. cond b (m.reserved k r) None) none

    making_kept : IsClient z.call.actor → (making : Making) → IsMakingIn m z making → IsMakingIn then_machine z making
    making_kept client making at =
        let (e, was, by) = IsSomeAnd-at (entry_of making.ckpt m.cluster.entries) (λ e. e.making ≡ Some z.call) at.there in
        by_entry e was by (entry_of making.ckpt R.entries) refl (after_it.makes a z making.ckpt e left was by)
      where
        by_entry : (e : Entry) → entry_of making.ckpt m.cluster.entries ≡ Some e → e.making ≡ Some z.call → (o : Option Entry) → entry_of making.ckpt R.entries ≡ o → IsSome (entry_of making.ckpt R.entries) → IsMakingIn then_machine z making
        by_entry e was by None gone some = absurd (let w : false ≡ true = sym (ap (λ o. is_some o) gone) ∙ some in cc w)
        by_entry e was by (Some f) is some =
            let (g, there, later) = after_it.later making.ckpt f is in
            let same : g ≡ e = same_Some g e (sym there ∙ was) in
            let made_by : f.making ≡ Some z.call = later.making ∙ ap (λ (x : Entry). x.making) same ∙ by in
            let good : IsGoodIn m making.ckpt (shapes making.ckpt) e (Some z.call) = subst (IsGoodIn m making.ckpt (shapes making.ckpt) e) by (inv.entries making.ckpt e was) in
            let none : f.complete ≡ no_nodes = later.unmade (ap (λ o. is_some o) (ap (λ (x : Entry). x.making) same ∙ by)) ∙ ap (λ (x : Entry). x.complete) same ∙ good.0.complete in
            record {
              there = IsSomeAnd-from (entry_of making.ckpt R.entries) (λ e. e.making ≡ Some z.call) f is made_by;
              declares = IsSomeAnd-from (entry_of making.ckpt R.entries) _ f is (declared_at e was at ∙ ap Some (sym (later.attributes ∙ ap (λ (x : Entry). x.attributes) same)));
              nodes = at.nodes;
              reserved = λ r had. reservation_kept making.ckpt r f is (ap (λ nodes. slice_index nodes r == 0) none ∙ zeros r)
                  ∙ at.reserved r (subst (λ nodes. has (slice_index nodes r) (slice_index making.reserved r) ≡ true) after_it.up had)
                  ∙ ap (λ nodes. Some (slice_index nodes r)) (sym after_it.up);
              only = λ r nothing. reservation_kept making.ckpt r f is (ap (λ nodes. slice_index nodes r == 0) none ∙ zeros r) ∙ at.only r nothing;
              within = λ r some. (λ i. slice_index (targets_by (attributes_asked (asked z.op)) (node_of_client (after_it.lives a z left client i)) (after_it.up i)) r == 0)
                  ∙ at.within r (ap is_some (sym (reservation_kept making.ckpt r f is (ap (λ nodes. slice_index nodes r == 0) none ∙ zeros r))) ∙ some);
              no_later = λ r. subst (λ (last : List ℕ). slice_index making.reserved r ≤ slice_index last r) (sym after_it.incarnations) (at.no_later r);
            }
          where
            declared_at : (e : Entry) → entry_of making.ckpt m.cluster.entries ≡ Some e → IsMakingIn m z making → attributes_asked (asked z.op) ≡ Some e.attributes
            declared_at e was at = subst (λ o. IsSomeAnd o (λ (e : Entry). attributes_asked (asked z.op) ≡ Some e.attributes)) was at.declares

            zeros : (r : ℕ) → (slice_index no_nodes r == 0) ≡ true
            zeros r = ap (λ n. n == 0) (slice_index-replicate 8 r)

    -- a client is on the node where it was
    client_kept : (c : ℕ) → z.call.actor ≡ Client c → find_key client_key c R.clients ≡ find_key client_key c m.cluster.clients
    client_kept c is =
        let asker : MayAsk (Client c) (asked z.op) = subst (λ b. MayAsk b (asked z.op)) is (inv.hands a z (after_it.was_held a z left)).asker in
        subst (λ b. find_key client_key (number_of b) R.clients ≡ find_key client_key (number_of b) m.cluster.clients) is (after_it.lives a z left (subst IsClient (sym is) (client_within c (asked z.op) asker)))

    home_kept : (b : ActorName) → z.call.actor ≡ b → home_by z.call.actor R ≡ home_by z.call.actor m.cluster
    home_kept (Client c) is = ap (λ a. home_by a R) is ∙ ap node_of_client (client_kept c is) ∙ ap (λ a. home_by a m.cluster) (sym is)
    home_kept (Node r) is = ap (λ a. home_by a R) is ∙ ap (λ a. home_by a m.cluster) (sym is)

    looks_kept : LooksAlike m then_machine shapes shapes z
    looks_kept = record {
      up = λ r up. ap (λ nodes. nat_lt r 8 && not (slice_index nodes r == 0)) after_it.up ∙ up;
      incarnations = incarnations_stay m.cluster R after_it.up after_it.incarnations;
      lives = λ client. ap is_some (after_it.lives a z left client);
      node = λ r own. ap (λ nodes. slice_index nodes r) after_it.up;
      home = home_kept z.call.actor refl;
      handle = λ there. there;
      making = λ o at. making_still m then_machine z o (making_kept at.caller) at;
      made = WasMade-kept;
      later = λ k was f found. let (e, there, later) = after_it.later k f found in (e, there, subst (λ up. LooksLater up z (shapes k) e f) (sym after_it.up) (LooksLater-later m.cluster.up z (shapes k) e f later));
      reserved = λ k r was own f found free. reservation_kept k r f found free;
      owners = λ k was r. refl;
      marks = λ k was. refl;
      under = λ k was e found all. LiesUnder-refl (shapes k);
      dead = λ k f was found. lives.dead;
      done = λ k was done. done;
    }

  -- ---- the whole

  -- what is reserved was, for what it was
  reserves_kept : (j q n : ℕ) (f : Entry) → entry_of j R.entries ≡ Some f → (slice_index f.complete q == 0) ≡ true → m.reserved j q ≡ Some n → IsReservedFor R q n f
  reserves_kept j q n f found free was =
      let (e, there, later) = after_it.later j f found in
      reserved_later m.cluster R q n e f later.making later.attributes free (ap (λ nodes. slice_index nodes q) after_it.up) (subst (λ o. IsSomeAnd o (IsReservedFor m.cluster q n)) there (inv.reserves j q n was))

  -- what is in the making was so, by the same call
  making_was : (k : ℕ) (f : Entry) → entry_of k R.entries ≡ Some f → (e : Entry) × (entry_of k m.cluster.entries ≡ Some e) × (f.making ≡ e.making)
  making_was k f found = let (e, was, later) = after_it.later k f found in (e, was, later.making)

  -- the invariant holds after the step
  pub record_keeps : InvariantIn shapes then_machine
  record_keeps = record {
    up = ap length after_it.up ∙ inv.up;
    first_up = λ never. after_it.up ∙ inv.first_up (sym after_it.incarnations ∙ never);
    incarnations = record {
      nodes = ap length after_it.incarnations ∙ inv.incarnations.nodes;
      first_nodes = ap length after_it.first_calls ∙ inv.incarnations.first_nodes;
      no_later = λ r. subst (λ (last : List ℕ). slice_index R.up r ≤ slice_index last r) (sym after_it.incarnations) (subst (λ (up : List ℕ). slice_index up r ≤ slice_index m.cluster.last_incarnations r) (sym after_it.up) (inv.incarnations.no_later r));
      from_one = inv.incarnations.from_one;
      present = λ r. subst (λ (first : List ℕ). slice_index first r ≤ m.next (Node r)) (sym after_it.first_calls) (inv.incarnations.present r);
    };
    none_live = λ none. after_it.none_live (sym after_it.up ∙ none);
    rises = after_it.rises;
    up_to = after_it.up_to;
    few =
        let no_more : length R.entries ≤ length m.cluster.entries = fewer_from m.cluster.entries R.entries inv.rises after_it.rises (λ k f found. (let it = after_it.later k f found in (it.0, it.1))) in
        let before : length m.cluster.entries ≤ 16 = inv.few in
        omega (arith, no_more, before);
    swept = after_it.swept;
    entries = λ k f is. (
        let (e, was, later) = after_it.later k f is in
        subst (IsGoodIn then_machine k (shapes k) f) (sym later.making) (IsGoodIn-kept k (shapes k) e f e.making was is later later.unmade (inv.entries k e was)));
    replicas = λ j q x is. under_complete (entry_of j R.entries) (slice_index (complete_of (entry_of j m.cluster.entries)) q) q (m.replicas j q) x (λ f found was. let (e, there, later) = after_it.later j f found in IsOfGeneration-later m.cluster.up e f q x.generation later ((subst (λ o. IsSomeAnd o (λ (e : Entry). IsCompleteOn e q × IsOfGeneration e q x.generation)) there (inv.replicas j q x was)).1)) is;
    reserves = λ j q n reserved. was_reserved (entry_of j R.entries) q n (m.reserved j q) (IsReservedFor R q n) (λ f found free was. reserves_kept j q n f found free was) reserved;
    handles = λ b h among. IsGoodHandle-later m.cluster R WasMade-kept (λ k was f found. let (e, there, later) = after_it.later k f found in (e, there, later.attributes, later.grows)) b h (after_it.homes b h among) (inv.handles b h among);
    rest = inv.rest;
    clients = after_it.clients;
    places = λ c. let few : length (m.tables (Client c)).handles + makings_of c m.cluster.entries ≤ handles_max = inv.places c in omega (arith, few, fewer_makings c m.cluster.entries R.entries inv.rises after_it.rises making_was);
    hands = λ a z left. let was = inv.hands a z (after_it.was_held a z left) in IsInHand-alike m then_machine shapes shapes z (looks_kept a z left) a (after_it.live a z left) was.number was;
    calls = calls_fewer m.in_hand hands m.pending m.next after_it.was_held inv.calls;
  }
