-- A checkpoint is created: one entry more, in the making by a call that made nothing before; what holds of every other call and of every other checkpoint stays.
use Rattle.std.proofs.Common.{◌≡◌, ℕ, ◌+◌, ◌<◌, ◌≤◌, length, inl, inr, List, Option, Some, None, Bool, true, false, cond, ◌==◌, refl, sym, ap, subst, ◌∙◌, arith}
use Rattle.std.specs.Prelude.{is_some, IsSomeAnd, IfSome, slice_index}
use Rattle.std.proofs.lemmas.Bool.{eqb-true, eq-eqb}
use Rattle.std.proofs.lemmas.List.{length-replicate}
use Rattle.std.proofs.lemmas.Option.{same_Some}
use Rattle.ckpt_types.specs.declared.attributes.CreationAttributes.{CreationAttributes}
use Rattle.ckpt_types.specs.declared.identities.CallId.{CallId}
use Rattle.ckpt_types.specs.declared.identities.Who.{Who}
use Rattle.ckpt_types.specs.Attributes.{is_malformed}
use Rattle.cluster_record.specs.declared.calls.Making.{Making}
use Rattle.cluster_record.specs.declared.entries.Entry.{Entry}
use Rattle.cluster_record.specs.DueOpen.{OpenState}
use Rattle.cluster_record.specs.Calls.{IsClient, client_of}
use Rattle.cluster_record.specs.Makings.{makings_of}
use Rattle.cluster_record.proofs.MakingCounts.{is_call_of-own, is_call_of-other, makings_of-created_own, makings_of-created_other}
use Rattle.ckpt_types.specs.declared.identities.ActorName.TheVariants.{Client}
use Rattle.ckpt_types.specs.Limits.{checkpoints_max, handles_max}
use Rattle.ckpt_types.specs.OpWord.{word_of_op, stepped_as}
use Rattle.ckpt_machine.proofs.FewEntries.{few-push}
use Rattle.ckpt_machine.proofs.CallsKept.{same_call-Some, calls_left}
use Rattle.ckpt_machine.proofs.EndedTables.{client_by_number}
use Rattle.cluster_record.specs.RecordState.{RecordState, entry_of, identity_of, complete_of, new_entry, created_as}
use Rattle.cluster_record.proofs.IdentityLaws.{entry_of-beyond, AllUpTo-push, IdentitiesRise-push}
use Rattle.ckpt_types.specs.Asks.{asked}
use Rattle.ckpt_machine.specs.Drivers as drivers
use Rattle.ckpt_machine.specs.Entries.{WasMade}
use Rattle.ckpt_machine.specs.Dead.{IsDead}
use Rattle.ckpt_machine.specs.InHand.{attributes_asked, IsMakingIn, IsInHand}
use Rattle.ckpt_machine.specs.Invariant.{IsMaker, IsGoodIn, IsOfGeneration, IsReservedFor, InvariantIn}
use Rattle.ckpt_machine.specs.Machine.{Machine, CallState, who}
use Rattle.ckpt_machine.specs.After.{with_record, replica_under, reservation_under, opened_state}
use Rattle.ckpt_machine.specs.Due.{IsDriven, driver_of}
use Rattle.ckpt_machine.specs.Shape.{Shape, IsCompleteOn}
use Rattle.ckpt_machine.proofs.EntryLists.{entry_of-given, find_key-push, AllStay-push}
use Rattle.ckpt_machine.proofs.Handles.{IsGoodHandle-later}
use Rattle.ckpt_machine.proofs.Lives.{LivesOn, lives_on-one, enters-one, dead_on}
use Rattle.ckpt_machine.proofs.LaterIncarnations.{incarnations_stay}
use Rattle.ckpt_machine.proofs.OtherCalls.{LooksAlike, LooksLater-refl, LiesUnder-refl, home_stays, making_still, IsInHand-alike, IsGoodIn-alike}
use Rattle.ckpt_machine.proofs.OptionLemmas.{IsSomeAnd-at, IsSomeAnd-from}
use Rattle.ckpt_machine.proofs.OnComplete.{under_complete}
use Rattle.ckpt_machine.proofs.ReservedUnder.{was_reserved}
use Rattle.ckpt_machine.specs.Whose.{put_who}
use Rattle.ckpt_machine.proofs.Whose.{put_who-cases, put_who-other, put_who-here}
use Rattle.ckpt_machine.proofs.PlainCalls.{is_plain, owner_apart, marker_apart, holder_apart, maker_apart}
use Rattle.ckpt_types.proofs.Lists.{slice_index-replicate}

module _ (m : Machine) (shapes : ℕ → Shape) (inv : InvariantIn shapes m) (s : CallState) (held : m.in_hand (who s) ≡ Some s) (plain : is_plain (driver_of s) s.snapshot ≡ true) (name : List ℕ) (a : CreationAttributes) (good : is_malformed a ≡ false)
    (w : CallState) (call_is : w.call ≡ s.call) (op_is : w.op ≡ s.op) (client : IsClient s.call.actor) (room : length (m.tables s.call.actor).handles + makings_of (client_of s.call) m.cluster.entries < handles_max) (v : OpenState) (driver_is : driver_of w ≡ drivers.Open v) (making : Making) (makes : v.making ≡ Some making) (ckpt : making.ckpt ≡ m.cluster.last_identity + 1) where
  -- the next identity
  abbrev next : ℕ
  next = m.cluster.last_identity + 1

  -- the entry that is new
  abbrev new : Entry
  new = new_entry s.call name a m.cluster

  -- the record with it
  abbrev R : RecordState
  R = created_as s.call name (Some a) m.cluster

  -- the state with this left of the call
  abbrev then_machine : Machine
  then_machine = record (with_record m R) { in_hand = put_who m.in_hand (who s) (Some w) }

  -- ---- entries

  -- no entry has the next identity
  none_before : entry_of next m.cluster.entries ≡ None
  none_before = entry_of-beyond m.cluster.last_identity next m.cluster.entries inv.up_to (omega arith)

  -- what is found
  entry_is : (j : ℕ) → entry_of j R.entries ≡ cond (j == next) (Some new) (entry_of j m.cluster.entries)
  entry_is j = find_key-push identity_of j m.cluster.entries new none_before

  -- under the next identity it is the new one
  pub entry_new : entry_of next R.entries ≡ Some new
  entry_new = entry_is next ∙ ap (λ b. cond b (Some new) (entry_of next m.cluster.entries)) (eq-eqb next next refl)

  -- and under another one what was found before
  entry_other : (j : ℕ) → (j == next) ≡ false → entry_of j R.entries ≡ entry_of j m.cluster.entries
  entry_other j other = entry_is j ∙ ap (λ b. cond b (Some new) (entry_of j m.cluster.entries)) other

  -- an identity that was given is another
  given_apart : (j : ℕ) → j ≤ m.cluster.last_identity → (j == next) ≡ false
  given_apart j given = by_test (j == next) refl
    where
      by_test : (b : Bool) → (j == next) ≡ b → (j == next) ≡ false
      by_test false other = other
      by_test true same = let at : j ≡ next = eqb-true j next same in absurd (omega (arith, given, at))

  -- what is found was given
  was_there : (j : ℕ) (e : Entry) → entry_of j m.cluster.entries ≡ Some e → (j == next) ≡ false
  was_there j e found = given_apart j (entry_of-given m.cluster.last_identity j m.cluster.entries e inv.up_to found)

  -- what was made was made still
  WasMade-then : (j : ℕ) → WasMade m.cluster j → WasMade R j
  WasMade-then j was = record {
    given = let given : j ≤ m.cluster.last_identity = was.given in omega (arith, given);
    made = subst (λ o. IfSome o (λ (x : Entry). x.making ≡ None)) (sym (entry_other j (given_apart j was.given))) was.made;
  }

  -- ---- checkpoints

  -- the call is the maker of the new one
  maker_new : IsMaker then_machine next s.call
  maker_new = record { state = w; in_hand = ap (put_who m.in_hand (who s) (Some w)) (λ i. stepped_as (call_is i) (word_of_op (op_is i))) ∙ put_who-here m.in_hand (who s) (Some w); call_is = call_is; driver = v; driver_is = driver_is; making = making; making_is = makes; ckpt = ckpt }

  -- a replica on a complete node stays
  replica_other : (j r : ℕ) (e : Entry) → entry_of j m.cluster.entries ≡ Some e → IsCompleteOn e r → then_machine.replicas j r ≡ m.replicas j r
  replica_other j r e found there =
      ap (λ o. replica_under o (slice_index (complete_of (entry_of j m.cluster.entries)) r) r (m.replicas j r)) (entry_other j (was_there j e found) ∙ found)
      ∙ ap (λ o. replica_under (Some e) (slice_index (complete_of o) r) r (m.replicas j r)) found
      ∙ (λ i. cond (there i) None (cond (there i) (Some (opened_state e)) (m.replicas j r)))

  -- a checkpoint that was there is as it was
  IsGoodIn-then : LivesOn m then_machine → (j : ℕ) (sh : Shape) (e : Entry) (maker : Option CallId) → entry_of j m.cluster.entries ≡ Some e → IsGoodIn m j sh e maker → IsGoodIn then_machine j sh e maker
  IsGoodIn-then lives j sh e maker found was = IsGoodIn-alike m then_machine j lives sh e (λ r there. replica_other j r e found there)
      (λ r d owns own. put_who-other m.in_hand (who s) (Some w) (who own.state) (owner_apart m shapes inv s held plain j sh d own)) (λ marks stand own. put_who-other m.in_hand (who s) (Some w) (who own.state) (marker_apart m shapes inv s held plain j marks own))
      (λ active d own. put_who-other m.in_hand (who s) (Some w) (who own.state) (holder_apart m shapes inv s held plain j active d own)) (λ d own. put_who-other m.in_hand (who s) (Some w) (who own.state) (maker_apart m shapes inv s held plain j d own)) maker was

  -- the new one is as it was created
  good_new : (sh : Shape) → IsGoodIn then_machine next sh new (Some s.call)
  good_new sh = (record { complete = refl; generation = refl; unled = refl; free = refl; well_formed = good; clients = length-replicate {A = ℕ} 100 0 }, maker_new)

  -- ---- where the calls of others are

  module _ (z : CallState) where
    -- a call makes what it made
    making_then : (x : Making) → IsMakingIn m z x → IsMakingIn then_machine z x
    making_then x at =
        let (e, found, by) = IsSomeAnd-at (entry_of x.ckpt m.cluster.entries) (λ e. e.making ≡ Some z.call) at.there in
        let still : entry_of x.ckpt R.entries ≡ Some e = entry_other x.ckpt (was_there x.ckpt e found) ∙ found in
        let was : IsGoodIn m x.ckpt (shapes x.ckpt) e (Some z.call) = subst (IsGoodIn m x.ckpt (shapes x.ckpt) e) by (inv.entries x.ckpt e found) in
        record {
          there = IsSomeAnd-from (entry_of x.ckpt R.entries) (λ e. e.making ≡ Some z.call) e still by;
          declares = subst (λ o. IsSomeAnd o (λ (e : Entry). attributes_asked (asked z.op) ≡ Some e.attributes)) (found ∙ sym still) at.declares;
          nodes = at.nodes;
          reserved = λ r had.
              ap (λ o. reservation_under o r (m.reserved x.ckpt r)) still
              ∙ ap (λ b. cond b (m.reserved x.ckpt r) None) (ap (λ nodes. slice_index nodes r == 0) was.0.complete ∙ ap (λ n. n == 0) (slice_index-replicate 8 r))
              ∙ at.reserved r had;
          only = λ r none.
              ap (λ o. reservation_under o r (m.reserved x.ckpt r)) still
              ∙ ap (λ b. cond b (m.reserved x.ckpt r) None) (ap (λ nodes. slice_index nodes r == 0) was.0.complete ∙ ap (λ n. n == 0) (slice_index-replicate 8 r))
              ∙ at.only r none;
          within = λ r some. at.within r (ap is_some (sym (
              ap (λ o. reservation_under o r (m.reserved x.ckpt r)) still
              ∙ ap (λ b. cond b (m.reserved x.ckpt r) None) (ap (λ nodes. slice_index nodes r == 0) was.0.complete ∙ ap (λ n. n == 0) (slice_index-replicate 8 r)))) ∙ some);
          no_later = at.no_later;
        }

    -- all that it looks at is as it was
    looks_then : ((d : CallId) → IsDead m d → IsDead then_machine d) → LooksAlike m then_machine shapes shapes z
    looks_then dead = record {
      up = λ r up. up;
      incarnations = incarnations_stay m.cluster R refl refl;
      lives = λ client. refl;
      node = λ r own. refl;
      home = home_stays z.call.actor m.cluster R refl;
      handle = λ there. there;
      making = λ x at. making_still m then_machine z x making_then at;
      made = WasMade-then;
      later = λ j was e found. (e, sym (entry_other j (given_apart j was.given)) ∙ found, LooksLater-refl m.cluster.up z (shapes j) e);
      reserved = λ j r was own f found free. ap (λ o. reservation_under o r (m.reserved j r)) found ∙ ap (λ b. cond b (m.reserved j r) None) free;
      owners = λ j was r. refl;
      marks = λ j was. refl;
      under = λ j was e found all. LiesUnder-refl (shapes j);
      dead = λ j f was found. dead;
      done = λ j was done. done;
    }

  -- ---- the whole

  -- what is reserved is for the new checkpoint, which is in the making, or for what it was
  reserves_then : (j q n : ℕ) (f : Entry) → entry_of j R.entries ≡ Some f → m.reserved j q ≡ Some n → (b : Bool) → (j == next) ≡ b → IsReservedFor R q n f
  reserves_then j q n f found was false other = subst (λ o. IsSomeAnd o (IsReservedFor m.cluster q n)) (sym (entry_other j other) ∙ found) (inv.reserves j q n was)
  reserves_then j q n f found was true same =
      let new_is : new ≡ f = same_Some new f (sym entry_new ∙ ap (λ n. entry_of n R.entries) (sym (eqb-true j next same)) ∙ found) in
      inl (ap (λ (x : Entry). is_some x.making) (sym new_is))

  -- its client has room for a handle of it, and other clients make what they made
  places_then : (d : ℕ) → length (m.tables (Client d)).handles + makings_of d R.entries ≤ handles_max
  places_then d =
      let few : length (m.tables (Client d)).handles + makings_of d m.cluster.entries ≤ handles_max = inv.places d in
      by_client d few (d == client_of s.call) refl
    where
      by_client : (d : ℕ) → length (m.tables (Client d)).handles + makings_of d m.cluster.entries ≤ handles_max → (b : Bool) → (d == client_of s.call) ≡ b → length (m.tables (Client d)).handles + makings_of d R.entries ≤ handles_max
      by_client d few true same = subst (λ n. length (m.tables (Client n)).handles + makings_of n R.entries ≤ handles_max) (sym (eqb-true d (client_of s.call) same))
          (let own : makings_of (client_of s.call) R.entries ≡ makings_of (client_of s.call) m.cluster.entries + 1 = makings_of-created_own (client_of s.call) s.call name m.cluster (Some a) refl (is_call_of-own s.call client) in
          let there : length (m.tables (Client (client_of s.call))).handles + makings_of (client_of s.call) m.cluster.entries < handles_max = subst (λ b. length (m.tables b).handles + makings_of (client_of s.call) m.cluster.entries < handles_max) (client_by_number s.call.actor client) room in
          omega (arith, own, there))
      by_client d few false other =
          let apart : makings_of d R.entries ≡ makings_of d m.cluster.entries = makings_of-created_other d s.call name m.cluster (Some a) (is_call_of-other s.call d (λ same. (let w : true ≡ false = sym (eq-eqb d (client_of s.call) (sym same)) ∙ other in cc w))) in
          omega (arith, few, apart)

  -- the invariant holds after it, where it holds of the call
  pub created_keeps : length m.cluster.entries < checkpoints_max → IsInHand then_machine shapes (who s) w → InvariantIn shapes then_machine
  created_keeps few own = record {
    up = inv.up;
    first_up = inv.first_up;
    incarnations = inv.incarnations;
    none_live = inv.none_live;
    rises = IdentitiesRise-push m.cluster.last_identity m.cluster.entries new inv.rises inv.up_to (omega arith);
    up_to = AllUpTo-push m.cluster.last_identity m.cluster.entries new inv.up_to refl;
    few = few-push m.cluster.entries new checkpoints_max few;
    swept = AllStay-push m.cluster.moment m.cluster.entries new inv.swept refl;
    entries = λ j e found. by_test j e found (j == next) refl;
    replicas = λ j q x is. under_complete (entry_of j R.entries) (slice_index (complete_of (entry_of j m.cluster.entries)) q) q (m.replicas j q) x (λ f found was. let (g, there, at) = IsSomeAnd-at (entry_of j m.cluster.entries) (λ (e : Entry). IsCompleteOn e q × IsOfGeneration e q x.generation) (inv.replicas j q x was) in subst (λ (e : Entry). IsOfGeneration e q x.generation) (same_Some g f (sym (entry_other j (was_there j g there) ∙ there) ∙ found)) at.1) is;
    reserves = λ j q n reserved. was_reserved (entry_of j R.entries) q n (m.reserved j q) (IsReservedFor R q n) (λ f found free was. reserves_then j q n f found was (j == next) refl) reserved;
    handles = λ b h among. IsGoodHandle-later m.cluster R WasMade-then (λ j was e found. (e, sym (entry_other j (given_apart j was.given)) ∙ found, refl, λ r there. there)) b h refl (inv.handles b h among);
    rest = inv.rest;
    clients = inv.clients;
    places = places_then;
    hands = hands_then;
    calls = calls_left m.in_hand m.pending m.next inv.calls s held (Some w) (same_call-Some s w call_is op_is);
  }
    where
      dead : (d : CallId) → IsDead m d → IsDead then_machine d
      dead = dead_on m then_machine (λ d. refl) refl (enters-one m then_machine s held (inv.hands (who s) s held).driven (Some w) (same_call-Some s w call_is op_is) (λ z is. subst IsDriven (same_Some w z is) own.driven) (λ b. refl))

      hands_then : (b : Who) (z : CallState) → put_who m.in_hand (who s) (Some w) b ≡ Some z → IsInHand then_machine shapes b z
      hands_then b z there = elim (put_who-cases m.in_hand (who s) (Some w) b z there) [
        | inl here ↦ subst (λ c. IsInHand then_machine shapes c z) (sym here.0) (subst (IsInHand then_machine shapes (who s)) (same_Some w z here.1) own)
        | inr other ↦ (let was = inv.hands b z other.1 in IsInHand-alike m then_machine shapes shapes z (looks_then z dead) b (λ live. live) was.number was)
      ]

      lives : LivesOn m then_machine
      lives = lives_on-one m then_machine shapes shapes inv (λ d. refl) refl refl hands_then s held (Some w) (same_call-Some s w call_is op_is) (λ b. refl)

      by_test : (j : ℕ) (e : Entry) → entry_of j R.entries ≡ Some e → (b : Bool) → (j == next) ≡ b → IsGoodIn then_machine j (shapes j) e e.making
      by_test j e found false other = let was : entry_of j m.cluster.entries ≡ Some e = sym (entry_other j other) ∙ found in IsGoodIn-then lives j (shapes j) e e.making was (inv.entries j e was)
      by_test j e found true same =
          let at_next : next ≡ j = sym (eqb-true j next same) in
          let e_is : new ≡ e = same_Some new e (sym entry_new ∙ ap (λ n. entry_of n R.entries) at_next ∙ found) in
          subst (λ (x : Entry). IsGoodIn then_machine j (shapes j) x x.making) e_is (subst (λ n. IsGoodIn then_machine n (shapes n) new (Some s.call)) at_next (good_new (shapes next)))
