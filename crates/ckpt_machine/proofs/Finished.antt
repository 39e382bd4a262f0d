-- A making is finished on all nodes that are up: the checkpoint is made there, and the calls of others are where they were.
use Rattle.std.proofs.Common.{◌≡◌, ◌≢◌, ℕ, ◌+◌, ◌≤◌, arith, inl, inr, List, [], length, Option, Some, None, Bool, true, false, cond, ◌==◌, refl, sym, ap, subst, ◌∙◌}
use Rattle.std.specs.Prelude.{is_some, IsSome, IsSomeAnd, IfSome, slice_index}
use Rattle.std.proofs.lemmas.Bool.{eqb-true, eq-eqb}
use Rattle.std.proofs.lemmas.Option.{same_Some}
use Rattle.ckpt_types.specs.declared.identities.CallId.{CallId}
use Rattle.ckpt_types.specs.Attributes.{is_malformed}
use Rattle.ckpt_types.specs.declared.identities.Who.{Who}
use Rattle.ckpt_types.specs.declared.update.Update.TheVariants as updates
use Rattle.ckpt_types.specs.Sections.{opening}
use Rattle.cluster_record.specs.declared.calls.Making.{Making}
use Rattle.cluster_record.specs.declared.entries.Entry.{Entry}
use Rattle.cluster_record.specs.DueOpen.{OpenState}
use Rattle.cluster_record.specs.Places.{put, change_key}
use Rattle.cluster_record.specs.RecordState.{RecordState, entry_of, identity_of, complete_of, first_complete, home_of, made_with, finished}
use Rattle.cluster_record.proofs.IdentityLaws.{IdentitiesRise-change_key, AllUpTo-change_key}
use Rattle.ckpt_machine.specs.Drivers as drivers
use Rattle.ckpt_machine.specs.Entries.{AllStay, WasMade}
use Rattle.ckpt_machine.specs.InHand.{is_marked_by, attributes_asked, IsMakingIn, IsDoneIn, IsInHand}
use Rattle.ckpt_types.specs.Asks.{asked}
use Rattle.weak_marks.specs.Marks.{Marked}
use Rattle.ckpt_machine.specs.Invariant.{IsMaker, IsGoodIn, IsOfGeneration, IsReservedFor, InvariantIn}
use Rattle.ckpt_machine.specs.Machine.{Machine, ReplicaState, CallState, who}
use Rattle.ckpt_machine.specs.After.{with_record, replica_under, reservation_under, opened_state}
use Rattle.ckpt_machine.specs.Due.{driver_of}
use Rattle.ckpt_machine.specs.Shape.{Shape, IsCompleteOn, IsShapedBy, is_owner, IsOwner, IsMarker, IsActiveBy, IsHolder, IsSpread}
use Rattle.ckpt_machine.proofs.FewEntries.{few-change_key}
use Rattle.ckpt_machine.proofs.Handles.{IsGoodHandle-later}
use Rattle.ckpt_machine.proofs.ActiveBy.{lowest_complete}
use Rattle.ckpt_machine.proofs.Lives.{LivesOn, lives_on-one, enters-one, dead_on}
use Rattle.ckpt_machine.proofs.LaterIncarnations.{incarnations_stay}
use Rattle.ckpt_machine.proofs.OtherCalls.{LooksAlike, LooksLater-refl, LiesUnder, LiesUnder-refl, home_stays, making_still, IsInHand-alike, IsGoodIn-alike}
use Rattle.ckpt_machine.proofs.OptionLemmas.{IsSomeAnd-at, IsSomeAnd-from}
use Rattle.ckpt_machine.proofs.MarksAt.{none_marked}
use Rattle.ckpt_machine.proofs.Targets.{targets-length, target-up}
use Rattle.cluster_record.specs.Placement.{is_collocated, targets, is_all}
use Rattle.ckpt_machine.proofs.CallsKept.{apart_from, same_call-None, calls_left}
use Rattle.ckpt_machine.proofs.OwnMaking.{owner_apart, marker_apart, holder_apart, maker_same}
use Rattle.ckpt_types.specs.declared.identities.ActorName.TheVariants.{Client}
use Rattle.ckpt_types.specs.Limits.{checkpoints_max, handles_max}
use Rattle.cluster_record.specs.Makings.{makings_of}
use Rattle.cluster_record.proofs.MakingCounts.{makings_of-finished}
use Rattle.ckpt_machine.proofs.EntryLists.{find_key-change_key}
use Rattle.ckpt_machine.proofs.OnComplete.{under_complete}
use Rattle.ckpt_machine.proofs.ReservedUnder.{was_reserved}
use Rattle.ckpt_machine.specs.Whose.{put_who}
use Rattle.ckpt_machine.proofs.Whose.{same_who-false, put_who-cases, put_who-other}
use Rattle.ckpt_types.proofs.Lists.{slice_index-replicate}

-- the first active is one by the complete nodes
first_active_by : (collocated all : Bool) (cs : List ℕ) → IsSome (first_complete 0 cs) → IsActiveBy collocated all cs (cond collocated None (first_complete 0 cs))
first_active_by true all cs some = tt
first_active_by false true cs some = refl
first_active_by false false cs some = by_first (first_complete 0 cs) refl some
  where
    by_first : (o : Option ℕ) → first_complete 0 cs ≡ o → IsSome o → IsSomeAnd o (λ r. (slice_index cs r == 0) ≡ false)
    by_first None first some = absurd (cc some)
    by_first (Some r) first some = lowest_complete cs r first

module _ (m : Machine) (shapes : ℕ → Shape) (inv : InvariantIn shapes m) (s : CallState) (o : OpenState) (making : Making) (held : m.in_hand (who s) ≡ Some s) (is : driver_of s ≡ drivers.Open o) (makes : o.making ≡ Some making)
    (c : ℕ) (e : Entry) (found : entry_of making.ckpt m.cluster.entries ≡ Some e) (by : e.making ≡ Some s.call) (some : IsSome (first_complete 0 (targets e.attributes (home_of c m.cluster) m.cluster.up))) (none_else : (r : ℕ) → (slice_index (targets e.attributes (home_of c m.cluster) m.cluster.up) r == 0) ≡ true → m.reserved making.ckpt r ≡ None) (stays : AllStay m.cluster.moment (change_key identity_of making.ckpt (made_with (home_of c m.cluster) m.cluster.up c) m.cluster.entries)) where
  abbrev k : ℕ
  k = making.ckpt

  abbrev R : RecordState
  R = finished making.ckpt c m.cluster

  abbrev f : Entry
  f = made_with (home_of c m.cluster) m.cluster.up c e

  abbrev then_machine : Machine
  then_machine = record (with_record m R) { in_hand = put_who m.in_hand (who s) None }

  -- ---- entries

  entry_is : (j : ℕ) → entry_of j R.entries ≡ cond (j == making.ckpt) (Some f) (entry_of j m.cluster.entries)
  entry_is j = find_key-change_key identity_of making.ckpt j (made_with (home_of c m.cluster) m.cluster.up c) (λ x. refl) m.cluster.entries e found

  entry_other : (j : ℕ) → (j == making.ckpt) ≡ false → entry_of j R.entries ≡ entry_of j m.cluster.entries
  entry_other j other = entry_is j ∙ ap (λ b. cond b (Some f) (entry_of j m.cluster.entries)) other

  entry_here : entry_of making.ckpt R.entries ≡ Some f
  entry_here = entry_is making.ckpt ∙ ap (λ b. cond b (Some f) (entry_of making.ckpt m.cluster.entries)) (eq-eqb making.ckpt making.ckpt refl)

  -- it was in the making: nothing that was made is it
  not_made : (j : ℕ) → WasMade m.cluster j → (j == making.ckpt) ≡ false
  not_made j was = by_test (j == making.ckpt) refl
    where
      by_test : (b : Bool) → (j == making.ckpt) ≡ b → (j == making.ckpt) ≡ false
      by_test false other = other
      by_test true same =
          let here : entry_of j m.cluster.entries ≡ Some e = ap (λ n. entry_of n m.cluster.entries) (eqb-true j making.ckpt same) ∙ found in
          let none : e.making ≡ None = subst (λ o. IfSome o (λ (x : Entry). x.making ≡ None)) here was.made in
          absurd (let w : None ≡ Some s.call = sym none ∙ by in cc w)

  WasMade-then : (j : ℕ) → WasMade m.cluster j → WasMade R j
  WasMade-then j was = record { given = was.given; made = subst (λ o. IfSome o (λ (x : Entry). x.making ≡ None)) (sym (entry_other j (not_made j was))) was.made }

  -- ---- calls of others

  -- an update is no open
  owner_stays : (j : ℕ) (sh : Shape) (d : CallId) (own : IsOwner m j sh d) → then_machine.in_hand (who own.state) ≡ m.in_hand (who own.state)
  owner_stays j sh d own = put_who-other m.in_hand (who s) None (who own.state) (owner_apart m s o held is j sh d own)

  -- and so is a weak write
  marker_stays : (j : ℕ) (marks : Marked) (own : IsMarker m j marks) → then_machine.in_hand (who own.state) ≡ m.in_hand (who own.state)
  marker_stays j marks own = put_who-other m.in_hand (who s) None (who own.state) (marker_apart m s o held is j marks own)

  -- the setting of an active is no open
  holder_stays : (j : ℕ) (active : Option ℕ) (d : CallId) (own : IsHolder m j active d) → then_machine.in_hand (who own.state) ≡ m.in_hand (who own.state)
  holder_stays j active d own = put_who-other m.in_hand (who s) None (who own.state) (holder_apart m s o held is j active d own)

  -- who makes another checkpoint is another call
  maker_stays : (j : ℕ) (d : CallId) → (j == making.ckpt) ≡ false → (own : IsMaker m j d) → then_machine.in_hand (who own.state) ≡ m.in_hand (who own.state)
  maker_stays j d apart own = put_who-other m.in_hand (who s) None (who own.state) (same_who-false (who own.state) (who s) (λ same.
      let w : true ≡ false = sym (eq-eqb j making.ckpt (maker_same m s o held is making makes j d own same)) ∙ apart in cc w))

  -- ---- other checkpoints

  replica_other : (j r : ℕ) (g : Entry) → (j == making.ckpt) ≡ false → entry_of j m.cluster.entries ≡ Some g → IsCompleteOn g r → then_machine.replicas j r ≡ m.replicas j r
  replica_other j r g other was there =
      ap (λ o. replica_under o (slice_index (complete_of (entry_of j m.cluster.entries)) r) r (m.replicas j r)) (entry_other j other ∙ was)
      ∙ ap (λ o. replica_under (Some g) (slice_index (complete_of o) r) r (m.replicas j r)) was
      ∙ (λ i. cond (there i) None (cond (there i) (Some (opened_state g)) (m.replicas j r)))

  IsGoodIn-then : LivesOn m then_machine → (j : ℕ) (sh : Shape) (g : Entry) (maker : Option CallId) → (j == making.ckpt) ≡ false → entry_of j m.cluster.entries ≡ Some g → IsGoodIn m j sh g maker → IsGoodIn then_machine j sh g maker
  IsGoodIn-then lives j sh g maker other was good = IsGoodIn-alike m then_machine j lives sh g (λ r there. replica_other j r g other was there) (λ r d owns own. owner_stays j sh d own) (λ marks stand own. marker_stays j marks own) (holder_stays j) (λ d own. maker_stays j d other own) maker good

  -- ---- the checkpoint that is made

  pub opened_shape : Shape
  opened_shape = record { owners = λ r. None; origin = s.call; update = updates.Nothing; moment = m.cluster.moment; sections = opening e.attributes e.made; effects = []; outcome = []; done = false; marks = None }

  none_before : (r : ℕ) → (slice_index e.complete r == 0) ≡ true
  none_before r =
      let good : IsGoodIn m making.ckpt (shapes making.ckpt) e (Some s.call) = subst (IsGoodIn m making.ckpt (shapes making.ckpt) e) by (inv.entries making.ckpt e found) in
      ap (λ nodes. slice_index nodes r == 0) good.0.complete ∙ ap (λ n. n == 0) (slice_index-replicate 8 r)

  -- no call held it
  none_held : e.hold ≡ None
  none_held =
      let good : IsGoodIn m making.ckpt (shapes making.ckpt) e (Some s.call) = subst (IsGoodIn m making.ckpt (shapes making.ckpt) e) by (inv.entries making.ckpt e found) in
      good.0.free

  -- and it declares what was checked
  well_formed : is_malformed e.attributes ≡ false
  well_formed =
      let good : IsGoodIn m making.ckpt (shapes making.ckpt) e (Some s.call) = subst (IsGoodIn m making.ckpt (shapes making.ckpt) e) by (inv.entries making.ckpt e found) in
      good.0.well_formed

  replica_here : (r : ℕ) → IsCompleteOn f r → then_machine.replicas making.ckpt r ≡ Some (opened_state f)
  replica_here r there =
      ap (λ o. replica_under o (slice_index (complete_of (entry_of making.ckpt m.cluster.entries)) r) r (m.replicas making.ckpt r)) entry_here
      ∙ ap (λ o. replica_under (Some f) (slice_index (complete_of o) r) r (m.replicas making.ckpt r)) found
      ∙ (λ i. cond (there i) None (cond (none_before r i) (Some (opened_state f)) (m.replicas making.ckpt r)))

  opened_by : (b : Bool) (r : ℕ) → IsShapedBy b opened_shape f.active r (opened_state f)
  unfolding opened_shape
  opened_by true r = record { slot = refl; sections = refl; effects = refl; unmarked = refl }
  opened_by false r = record { free = refl; marks_are = sym (none_marked f.active r) }

  spread_here : IsSpread then_machine making.ckpt opened_shape f
  unfolding opened_shape
  spread_here = record {
    well_formed = well_formed;
    nodes = targets-length e.attributes (home_of c m.cluster) m.cluster.up inv.up;
    some = some;
    up = λ r there. sym (target-up e.attributes (home_of c m.cluster) m.cluster.up r there);
    active = first_active_by (is_collocated e.attributes) (is_all e.attributes) (targets e.attributes (home_of c m.cluster) m.cluster.up) some;
    replicas = λ r there. IsSomeAnd-from (then_machine.replicas making.ckpt r) (IsShapedBy (is_all f.attributes) opened_shape f.active r) (opened_state f) (replica_here r there) (opened_by (is_all f.attributes) r);
    fits = λ r d none. absurd (cc none);
    all = λ r d none. absurd (cc none);
    complete = λ r d none. absurd (cc none);
    lowest = λ q r d below there none. absurd (cc none);
    first = λ q r d below there none own. absurd (cc none);
    owned = λ r d none. absurd (cc none);
    led = λ marks none. absurd (cc none);
    marked = λ marks none. absurd (cc none);
    held = λ d is. absurd (let w : Some d ≡ None = sym is ∙ none_held in cc w);
  }

  -- ---- where the calls of others are

  module _ (z : CallState) (other : z.call ≢ s.call) where
    making_then : (w : Making) → IsMakingIn m z w → IsMakingIn then_machine z w
    making_then w at =
        let (g, was, made_by) = IsSomeAnd-at (entry_of w.ckpt m.cluster.entries) (λ e. e.making ≡ Some z.call) at.there in
        let apart = not_this g was made_by in
        let good : IsGoodIn m w.ckpt (shapes w.ckpt) g (Some z.call) = subst (IsGoodIn m w.ckpt (shapes w.ckpt) g) made_by (inv.entries w.ckpt g was) in
        record {
          there = subst (λ o. IsSomeAnd o (λ (x : Entry). x.making ≡ Some z.call)) (sym (entry_other w.ckpt apart)) at.there;
          declares = subst (λ o. IsSomeAnd o (λ (x : Entry). attributes_asked (asked z.op) ≡ Some x.attributes)) (sym (entry_other w.ckpt apart)) at.declares;
          nodes = at.nodes;
          reserved = λ r had.
              ap (λ o. reservation_under o r (m.reserved w.ckpt r)) (entry_other w.ckpt apart ∙ was)
              ∙ ap (λ b. cond b (m.reserved w.ckpt r) None) (ap (λ nodes. slice_index nodes r == 0) good.0.complete ∙ ap (λ n. n == 0) (slice_index-replicate 8 r))
              ∙ at.reserved r had;
          only = λ r none.
              ap (λ o. reservation_under o r (m.reserved w.ckpt r)) (entry_other w.ckpt apart ∙ was)
              ∙ ap (λ b. cond b (m.reserved w.ckpt r) None) (ap (λ nodes. slice_index nodes r == 0) good.0.complete ∙ ap (λ n. n == 0) (slice_index-replicate 8 r))
              ∙ at.only r none;
          within = λ r some. at.within r (ap is_some (sym (
              ap (λ o. reservation_under o r (m.reserved w.ckpt r)) (entry_other w.ckpt apart ∙ was)
              ∙ ap (λ b. cond b (m.reserved w.ckpt r) None) (ap (λ nodes. slice_index nodes r == 0) good.0.complete ∙ ap (λ n. n == 0) (slice_index-replicate 8 r)))) ∙ some);
          no_later = at.no_later;
        }
      where
        not_this : (g : Entry) → entry_of w.ckpt m.cluster.entries ≡ Some g → g.making ≡ Some z.call → (w.ckpt == making.ckpt) ≡ false
        not_this g was made_by = by_test (w.ckpt == making.ckpt) refl
          where
            by_test : (b : Bool) → (w.ckpt == making.ckpt) ≡ b → (w.ckpt == making.ckpt) ≡ false
            by_test false apart = apart
            by_test true same =
                let g_is : g ≡ e = same_Some g e (sym was ∙ ap (λ n. entry_of n m.cluster.entries) (eqb-true w.ckpt making.ckpt same) ∙ found) in
                let calls : Some z.call ≡ Some s.call = sym made_by ∙ ap (λ (x : Entry). x.making) g_is ∙ by in
                absurd (other (same_Some z.call s.call calls))

    looks_then : LooksAlike m then_machine shapes (put shapes making.ckpt opened_shape) z
    looks_then = record {
      up = λ r up. up;
      incarnations = incarnations_stay m.cluster R refl refl;
      lives = λ client. refl;
      node = λ r own. refl;
      home = home_stays z.call.actor m.cluster R refl;
      handle = λ there. there;
      making = λ v at. making_still m then_machine z v making_then at;
      made = WasMade-then;
      later = λ j was g found. (g, sym (entry_other j (not_made j was)) ∙ found, LooksLater-refl m.cluster.up z (shapes j) g);
      reserved = λ j r was own g found free. ap (λ o. reservation_under o r (m.reserved j r)) found ∙ ap (λ b. cond b (m.reserved j r) None) free;
      owners = λ j was r. ap (λ (sh : Shape). is_owner z.call (sh.owners r)) (ap (λ b. cond b opened_shape (shapes j)) (not_made j was));
      marks = λ j was. ap (λ (sh : Shape). is_marked_by z.call sh.marks) (ap (λ b. cond b opened_shape (shapes j)) (not_made j was));
      under = λ j was g found all. subst (LiesUnder (shapes j)) (sym (ap (λ b. cond b opened_shape (shapes j)) (not_made j was))) (LiesUnder-refl (shapes j));
      dead = λ j g was found. dead_on m then_machine (λ d. refl) refl (enters-one m then_machine s held (inv.hands (who s) s held).driven None (same_call-None s) (λ z none. absurd (cc none)) (λ a. refl));
      done = λ j was. subst (λ sh. IsDoneIn sh z) (sym (ap (λ b. cond b opened_shape (shapes j)) (not_made j was)));
    }

  -- ---- the whole

  -- what is reserved is for another checkpoint, since a node on which this one is not made had none
  reserves_then : (j q n : ℕ) (g : Entry) → entry_of j R.entries ≡ Some g → (slice_index g.complete q == 0) ≡ true → m.reserved j q ≡ Some n → (b : Bool) → (j == making.ckpt) ≡ b → IsReservedFor R q n g
  reserves_then j q n g there free was false other = subst (λ o. IsSomeAnd o (IsReservedFor m.cluster q n)) (sym (entry_other j other) ∙ there) (inv.reserves j q n was)
  reserves_then j q n g there free was true same =
      let at_k : making.ckpt ≡ j = sym (eqb-true j making.ckpt same) in
      let g_is : f ≡ g = same_Some f g (sym entry_here ∙ ap (λ n. entry_of n R.entries) at_k ∙ there) in
      let none : m.reserved making.ckpt q ≡ None = none_else q (ap (λ (x : Entry). slice_index x.complete q == 0) g_is ∙ free) in
      absurd (let w : None ≡ Some n = sym none ∙ ap (λ i. m.reserved i q) at_k ∙ was in cc w)

  -- a replica that was there is of another checkpoint, since this one had none
  generation_then : (j q : ℕ) (x : ReplicaState) (g : Entry) → entry_of j R.entries ≡ Some g → m.replicas j q ≡ Some x → (b : Bool) → (j == making.ckpt) ≡ b → IsOfGeneration g q x.generation
  generation_then j q x g there was false other = (subst (λ o. IsSomeAnd o (λ (e : Entry). IsCompleteOn e q × IsOfGeneration e q x.generation)) (sym (entry_other j other) ∙ there) (inv.replicas j q x was)).1
  generation_then j q x g there was true same =
      let complete = (subst (λ o. IsSomeAnd o (λ (e : Entry). IsCompleteOn e q × IsOfGeneration e q x.generation)) (ap (λ n. entry_of n m.cluster.entries) (eqb-true j making.ckpt same) ∙ found) (inv.replicas j q x was)).0 in
      absurd (let w : true ≡ false = sym (none_before q) ∙ complete in cc w)

  -- the invariant holds after it
  pub finish_keeps : InvariantIn (put shapes making.ckpt opened_shape) then_machine
  finish_keeps = record {
    up = inv.up;
    first_up = inv.first_up;
    incarnations = inv.incarnations;
    none_live = inv.none_live;
    rises = IdentitiesRise-change_key (made_with (home_of c m.cluster) m.cluster.up c) (λ x. refl) making.ckpt m.cluster.entries inv.rises;
    up_to = AllUpTo-change_key (made_with (home_of c m.cluster) m.cluster.up c) (λ x. refl) m.cluster.last_identity making.ckpt m.cluster.entries inv.up_to;
    few = few-change_key (made_with (home_of c m.cluster) m.cluster.up c) making.ckpt m.cluster.entries checkpoints_max inv.few;
    swept = stays;
    entries = λ j g there. by_test j g there (j == making.ckpt) refl;
    replicas = λ j q x is. under_complete (entry_of j R.entries) (slice_index (complete_of (entry_of j m.cluster.entries)) q) q (m.replicas j q) x (λ g found was. generation_then j q x g found was (j == making.ckpt) refl) is;
    reserves = λ j q n reserved. was_reserved (entry_of j R.entries) q n (m.reserved j q) (IsReservedFor R q n) (λ g found free was. reserves_then j q n g found free was (j == making.ckpt) refl) reserved;
    handles = λ b h among. IsGoodHandle-later m.cluster R WasMade-then (λ j was g found. (g, sym (entry_other j (not_made j was)) ∙ found, refl, λ r there. there)) b h refl (inv.handles b h among);
    rest = inv.rest;
    clients = inv.clients;
    places = λ d.
        let few : length (m.tables (Client d)).handles + makings_of d m.cluster.entries ≤ handles_max = inv.places d in
        omega (arith, few, makings_of-finished d making.ckpt m.cluster c);
    hands = hands_then;
    calls = calls_left m.in_hand m.pending m.next inv.calls s held None (same_call-None s);
  }
    where
      hands_then : (a : Who) (z : CallState) → put_who m.in_hand (who s) None a ≡ Some z → IsInHand then_machine (put shapes making.ckpt opened_shape) a z
      hands_then a z there = elim (put_who-cases m.in_hand (who s) None a z there) [
        | inl here ↦ absurd (let w : None ≡ Some z = here.1 in cc w)
        | inr other ↦ (
            let was = inv.hands a z other.1 in
            IsInHand-alike m then_machine shapes (put shapes making.ckpt opened_shape) z (looks_then z (apart_from m.in_hand m.pending m.next inv.calls s held a z other.1 other.0)) a (λ live. live) was.number was)
      ]

      lives : LivesOn m then_machine
      lives = lives_on-one m then_machine shapes (put shapes making.ckpt opened_shape) inv (λ d. refl) refl refl hands_then s held None (same_call-None s) (λ a. refl)

      by_test : (j : ℕ) (g : Entry) → entry_of j R.entries ≡ Some g → (b : Bool) → (j == making.ckpt) ≡ b → IsGoodIn then_machine j (put shapes making.ckpt opened_shape j) g g.making
      by_test j g there false other =
          subst (λ sh. IsGoodIn then_machine j sh g g.making) (sym (ap (λ b. cond b opened_shape (shapes j)) other))
          (let was : entry_of j m.cluster.entries ≡ Some g = sym (entry_other j other) ∙ there in IsGoodIn-then lives j (shapes j) g g.making other was (inv.entries j g was))
      by_test j g there true same =
          let at_k : making.ckpt ≡ j = sym (eqb-true j making.ckpt same) in
          let g_is : f ≡ g = same_Some f g (sym entry_here ∙ ap (λ n. entry_of n R.entries) at_k ∙ there) in
          subst (λ sh. IsGoodIn then_machine j sh g g.making) (sym (ap (λ b. cond b opened_shape (shapes j)) same))
          (subst (λ (x : Entry). IsGoodIn then_machine j opened_shape x x.making) g_is (subst (λ n. IsSpread then_machine n opened_shape f) at_k spread_here))
