-- The first nodes come up, where none is up: what holds stays.
use Rattle.std.proofs.Common.{◌≡◌, ℕ, inl, inr, Option, Some, None, Bool, true, false, not, ◌&&◌, ◌==◌, refl, sym, ap, subst, ◌∙◌, arith}
use Rattle.std.specs.Prelude.{IsSomeAnd, IfSome, slice_index}
use Rattle.ckpt_types.specs.declared.identities.ActorName.{ActorName}
use Rattle.ckpt_types.specs.declared.identities.ActorName.TheVariants.{Client, Node}
use Rattle.ckpt_types.specs.declared.identities.CallId.{CallId}
use Rattle.ckpt_types.specs.declared.identities.Who.{Who}
use Rattle.cluster_record.specs.declared.entries.Entry.{Entry}
use Rattle.cluster_record.specs.Places.{find_key}
use Rattle.cluster_record.specs.RecordState.{client_key, entry_of, first_nodes, no_nodes, is_live, is_up, brought_up}
use Rattle.cluster_record.specs.StepDone.{has}
use Rattle.ckpt_machine.specs.Machine.{Machine, CallState}
use Rattle.ckpt_machine.specs.Shape.{Shape, IsSpread}
use Rattle.ckpt_machine.specs.InHand.{IsInHand}
use Rattle.ckpt_machine.specs.Invariant.{IsGoodClient, IsGoodIn, IsReservedFor, InvariantIn}
use Rattle.ckpt_machine.proofs.Handles.{IsGoodHandle-later}
use Rattle.ckpt_machine.proofs.OtherCalls.{LooksAlike, LooksLater-refl, LiesUnder-refl, home_stays, IsInHand-alike, IsMaker-alike}
use Rattle.ckpt_machine.proofs.LaterIncarnations.{IncarnationsGoOn}
use Rattle.ckpt_machine.proofs.NodeCalls.{node_is_up}
use Rattle.ckpt_machine.proofs.OptionLemmas.{IsSomeAnd-more}
use Rattle.ckpt_machine.proofs.NodeLists.{first_life, is_up-none, first_complete-some}
use Rattle.ckpt_types.proofs.Lists.{slice_index-replicate}

module _ (m : Machine) (shapes : ℕ → Shape) (inv : InvariantIn shapes m) (n : ℕ) (never : m.cluster.last_incarnations ≡ no_nodes) (none : m.cluster.up ≡ no_nodes) where
  abbrev then_machine : Machine
  then_machine = record m { cluster = brought_up n m.cluster }

  -- no node was up: a call that needs one is not in hand, and the others are where they were
  none_up : {P : Type 0} → (r : ℕ) → is_up r m.cluster ≡ true → P
  none_up r up = absurd (let w : false ≡ true = sym (is_up-none r m.cluster none) ∙ up in cc w)

  -- no checkpoint is made yet, as one that is made is complete on a node that is up
  never_spread : (k : ℕ) (sh : Shape) (e : Entry) → IsSpread m k sh e → ⊥
  never_spread k sh e was =
      let (r, there) = first_complete-some 0 e.complete was.some in
      (let w : true ≡ false = ap (λ n. n == 0) (sym (slice_index-replicate 8 r) ∙ ap (λ nodes. slice_index nodes r) (sym none) ∙ was.up r there) ∙ there in cc w)

  none_made : {P : Type 0} (k : ℕ) (e : Entry) → entry_of k m.cluster.entries ≡ Some e → e.making ≡ None → P
  none_made k e found made = absurd (never_spread k (shapes k) e (subst (IsGoodIn m k (shapes k) e) made (inv.entries k e found)))

  -- no incarnation was before
  first_incarnations : IncarnationsGoOn m.cluster then_machine.cluster
  first_incarnations = record {
    was_up = λ r own within there. (
        let nothing : slice_index m.cluster.last_incarnations r ≡ 0 = none_there r in
        let zero : own ≡ 0 = omega (arith, within, nothing) in
        absurd (not_had (slice_index (first_nodes n) r) (ap (has (slice_index (first_nodes n) r)) (sym zero) ∙ there)));
    last = λ r. let nothing : slice_index m.cluster.last_incarnations r ≡ 0 = none_there r in omega (arith, nothing);
  }
    where
      none_there : (r : ℕ) → slice_index m.cluster.last_incarnations r ≡ 0
      none_there r = ap (λ nodes. slice_index nodes r) never ∙ slice_index-replicate 8 r

      -- 0 is no incarnation
      not_had : (c : ℕ) → has c 0 ≡ true → ⊥
      not_had c had = by_test (c == 0) had
        where
          by_test : (b : Bool) → (not b && b) ≡ true → ⊥
          by_test true had = cc had
          by_test false had = cc had

  module _ (a : Who) (z : CallState) (was : IsInHand m shapes a z) where
    looks_up : LooksAlike m then_machine shapes shapes z
    looks_up = record {
      up = λ r up. none_up r up;
      incarnations = first_incarnations;
      lives = λ client. refl;
      node = λ r own. none_up r (node_is_up m shapes a z was r own);
      home = home_stays z.call.actor m.cluster (brought_up n m.cluster) refl;
      handle = λ there. there;
      making = λ o at. none_up o.ask.node at.node;
      made = λ k was. was;
      later = λ k was e found. (e, found, LooksLater-refl (brought_up n m.cluster).up z (shapes k) e);
      reserved = λ k r was own f found free. refl;
      owners = λ k was r. refl;
      marks = λ k was. refl;
      under = λ k was e found all. LiesUnder-refl (shapes k);
      dead = λ k f was found. none_made k f found (subst (λ o. IfSome o (λ (e : Entry). e.making ≡ None)) found was.made);
      done = λ k was done. done;
    }

    -- a call that is live is a client's, and is live still
    live_up : (b : ActorName) → z.call.actor ≡ b → is_live m.cluster z.call ≡ true → is_live (brought_up n m.cluster) z.call ≡ true
    live_up (Client c) is live =
        let same : z.call ≡ record { actor = Client c; number = z.call.number } = (λ i. record { actor = is i; number = z.call.number }) in
        ap (is_live (brought_up n m.cluster)) same ∙ ap (is_live m.cluster) (sym same) ∙ live
    live_up (Node r) is live = none_up r (node_is_up m shapes a z was r is)

  hands_then : (a : Who) (z : CallState) → m.in_hand a ≡ Some z → IsInHand then_machine shapes a z
  hands_then a z held = let was = inv.hands a z held in IsInHand-alike m then_machine shapes shapes z (looks_up a z was) a (live_up a z was z.call.actor refl) was.number was

  -- nothing is reserved but for what is in the making, as no node is up
  reserves_then : (k r i : ℕ) → m.reserved k r ≡ Some i → IsSomeAnd (entry_of k m.cluster.entries) (IsReservedFor then_machine.cluster r i)
  reserves_then k r i reserved = IsSomeAnd-more (entry_of k m.cluster.entries) (IsReservedFor m.cluster r i) (IsReservedFor then_machine.cluster r i) by_cause (inv.reserves k r i reserved)
    where
      by_cause : (e : Entry) → IsReservedFor m.cluster r i e → IsReservedFor then_machine.cluster r i e
      by_cause e (inl making) = inl making
      by_cause e (inr lacked) = none_up r lacked.1

  good_then : (k : ℕ) (sh : Shape) (e : Entry) (maker : Option CallId) → IsGoodIn m k sh e maker → IsGoodIn then_machine k sh e maker
  good_then k sh e None was = absurd (never_spread k sh e was)
  good_then k sh e (Some d) was = (was.0, IsMaker-alike m then_machine k d was.1 refl)

  pub nodes_keep : InvariantIn shapes then_machine
  nodes_keep = record {
    up = refl;
    first_up = λ never. never;
    incarnations = record { nodes = refl; first_nodes = refl; no_later = λ r. omega arith; from_one = inv.incarnations.from_one; present = λ r. (let first = first_life n r in let from_one = inv.incarnations.from_one r in omega (arith, first, from_one)) };
    none_live = λ still. inv.none_live none;
    rises = inv.rises;
    up_to = inv.up_to;
    few = inv.few;
    swept = inv.swept;
    entries = λ k e found. good_then k (shapes k) e e.making (inv.entries k e found);
    replicas = inv.replicas;
    reserves = reserves_then;
    handles = λ a h among. IsGoodHandle-later m.cluster (brought_up n m.cluster) (λ k was. was) (λ k was e found. (e, found, refl, λ r there. there)) a h refl (inv.handles a h among);
    rest = inv.rest;
    clients = λ c. subst (λ clients. IfSome (find_key client_key c clients) (IsGoodClient m.next (brought_up n m.cluster) c)) (sym (inv.none_live none)) tt;
    places = inv.places;
    hands = hands_then;
    calls = inv.calls;
  }
