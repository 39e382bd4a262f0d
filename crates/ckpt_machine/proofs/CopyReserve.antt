-- A copying reserves for the next checkpoint that its node lacks, or is refused the memory.
use Rattle.std.proofs.Common.{◌≡◌, ◌⊎◌, inl, inr, ℕ, ◌∷◌, length, Option, Some, None, is_some, Bool, true, false, cond, not, ◌&&◌, ◌==◌, refl, sym, ap, subst, ◌∙◌, arith}
use Rattle.std.specs.Prelude.{IsSome, IsSomeAnd, slice_index}
use Rattle.std.proofs.lemmas.Bool.{eqb-true, eq-eqb}
use Rattle.std.proofs.lemmas.Option.{same_Some}
use Rattle.ckpt_types.specs.declared.answers.Answer.TheVariants as answers
use Rattle.ckpt_types.specs.declared.identities.CallId.{CallId}
use Rattle.ckpt_types.specs.Asks.{Ask, asked}
use Rattle.ckpt_types.specs.Asks as asks
use Rattle.cluster_record.specs.declared.calls.UpdatePhase.TheVariants.{Staging}
use Rattle.cluster_record.specs.declared.copying.CopyPhase.TheVariants.{Reserved}
use Rattle.cluster_record.specs.declared.entries.Entry.{Entry}
use Rattle.cluster_record.specs.DueCopy.{CopyState, copy_next, copy_on, done_by, lacks_replica, next_to_copy, onward, pull_at, reserved_next, unless_done}
use Rattle.cluster_record.specs.DueUpdate.{UpdateState, by_phase, stage_at, update_begun, update_led, update_next, update_on}
use Rattle.cluster_record.specs.LookUps.{declared_in}
use Rattle.cluster_record.specs.Placement.{is_all, is_collocated}
use Rattle.cluster_record.specs.Places.{put2}
use Rattle.cluster_record.specs.RecordState.{RecordState, complete_of, entry_of, no_nodes}
use Rattle.cluster_record.specs.StepDone.{StepDone, done_of, first_lacking, has, last_having}
use Rattle.node_msgs.specs.declared.details.Details.TheVariants as beside
use Rattle.node_msgs.specs.declared.next.Next.{Next}
use Rattle.node_msgs.specs.declared.replies.Reply.{Reply}
use Rattle.node_msgs.specs.declared.replies.Reply.TheVariants as replies
use Rattle.node_msgs.specs.declared.requests.Request.{Request}
use Rattle.node_msgs.specs.declared.requests.Request.TheVariants as requests
use Rattle.node_msgs.specs.declared.steps.Verb.TheVariants as verbs
use Rattle.node_msgs.specs.declared.steps.StepReply.TheVariants as words
use Rattle.node_core.specs.Nodes.{MayReserve}
use Rattle.node_core.specs.Seen.{record_seen}
use Rattle.node_core.specs.Serving.{details_at}
use Rattle.replica.specs.Replicas.{Replica}
use Rattle.ckpt_machine.specs.After.{left_in_hand, with_reservation}
use Rattle.ckpt_machine.specs.CopyGuards.{IsLacking}
use Rattle.ckpt_machine.specs.Dead.{is_enter}
use Rattle.ckpt_machine.specs.Drivers as drivers
use Rattle.ckpt_machine.specs.Driving.{Kept, driver_start, driver_taken}
use Rattle.ckpt_machine.specs.Due.{IsDriven, IsServed, Told, declared_at, declares_at, details_due, driver_of, ended_details, kept_reserving, payload_due}
use Rattle.ckpt_machine.specs.Entries.{WasMade}
use Rattle.ckpt_machine.specs.InHand.{IsCopyIn, IsInHand, IsInPlace, IsUpdateAsk, IsUpdateIn}
use Rattle.ckpt_machine.specs.Invariant.{Invariant, InvariantIn, IsGoodIn, IsReservedFor}
use Rattle.ckpt_machine.specs.Machine.{Machine, CallState, who}
use Rattle.ckpt_machine.specs.Seen.{seen_at}
use Rattle.ckpt_machine.specs.Shape.{Shape, IsSpread}
use Rattle.ckpt_machine.specs.Tables.{takes_copy}
use Rattle.ckpt_machine.specs.Whose.{put_who}
use Rattle.ckpt_machine.proofs.CallsKept.{same_call-Some}
use Rattle.ckpt_machine.proofs.CopyFrame.{copy_ends, copy_keeps}
use Rattle.ckpt_machine.proofs.CopyHand.{HasNone, its, none_owned, none_owned-test, up_own}
use Rattle.ckpt_machine.proofs.CopyLacks.{LacksNext, lacks_next}
use Rattle.ckpt_machine.proofs.Lacking.{IsLacked, lacked_parts}
use Rattle.ckpt_machine.proofs.CopyNearer.{HasNoMore, reserve_nearer}
use Rattle.ckpt_machine.proofs.DueStep.{Goes}
use Rattle.ckpt_machine.proofs.EntryLists.{entry_of-given}
use Rattle.ckpt_machine.proofs.NodeMaps.{both_true}
use Rattle.ckpt_machine.proofs.OptionLemmas.{IfSome-from, IsSomeAnd-from}
use Rattle.ckpt_machine.proofs.StepLabels.{IsServed-told}
use Rattle.ckpt_types.proofs.Lists.{slice_index-replicate}

-- ---- an update that stages

-- is not done by what is next of it
pub staging_goes_on : (R : RecordState) (u : UpdateState) (behind : Next) → u.phase ≡ Staging → done_by (unless_done behind (update_next R u)) ≡ None
staging_goes_on R u behind staging = by_entry (entry_of u.ckpt R.entries)
  where
    by_nodes : (first last : Option ℕ) → done_by (unless_done behind (stage_at u R.moment first last)) ≡ None
    by_nodes (Some r) last = refl
    by_nodes None None = refl
    by_nodes None (Some r) = refl

    by_active : (e : Entry) (active : Option ℕ) → done_by (unless_done behind (update_led u R.moment e active)) ≡ None
    by_active e None = refl
    by_active e (Some r) = subst (λ ph. done_by (unless_done behind (by_phase u R.moment (first_lacking 0 e.complete u.owned) (last_having 0 e.complete u.owned) ph)) ≡ None) (sym staging) (by_nodes (first_lacking 0 e.complete u.owned) (last_having 0 e.complete u.owned))

    by_entry : (o : Option Entry) → done_by (unless_done behind (update_on u R.moment o)) ≡ None
    by_entry None = refl
    by_entry (Some e) = by_active e e.active

-- nor is a pull
pub pull_goes_on : (s : CopyState) (k : ℕ) (at : Option ℕ) → done_by (pull_at s.call k at) ≡ None
pull_goes_on s k None = refl
pull_goes_on s k (Some r) = refl

-- the node may be told that it is out of memory, where a replica stands there or not
may_answer : (ask : Ask) (o : Option ℕ) (answer : Reply) → ask ≡ asks.Copy → MayReserve (is_some o && not (takes_copy ask)) answer → (answer ≡ replies.Done answers.Nothing) ⊎ (answer ≡ replies.NoMemory)
may_answer ask o answer copies may = by_there (is_some o) (subst (λ (a : Ask). MayReserve (is_some o && not (takes_copy a)) answer) copies may)
  where
    by_there : (b : Bool) → MayReserve (b && false) answer → (answer ≡ replies.Done answers.Nothing) ⊎ (answer ≡ replies.NoMemory)
    by_there true may = may
    by_there false may = may

-- a call has no slot where it keeps no incarnation
never_has : (n r : ℕ) → has n (slice_index no_nodes r) ≡ false
never_has n r = ap (has n) (slice_index-replicate 8 r) ∙ by_test (n == 0)
  where
    by_test : (b : Bool) → (not b && b) ≡ false
    by_test true = refl
    by_test false = refl

-- each checkpoint has a place for each node
eight_nodes : (m : Machine) (shapes : ℕ → Shape) → InvariantIn shapes m → (k : ℕ) → length (complete_of (entry_of k m.cluster.entries)) ≡ 8
eight_nodes m shapes inv k = by_entry (entry_of k m.cluster.entries) refl
  where
    by_maker : (e : Entry) (maker : Option CallId) → IsGoodIn m k (shapes k) e maker → length e.complete ≡ 8
    by_maker e None good = good.nodes
    by_maker e (Some d) good = ap length good.0.complete

    by_entry : (o : Option Entry) → entry_of k m.cluster.entries ≡ o → length (complete_of o) ≡ 8
    by_entry None gone = refl
    by_entry (Some e) found = by_maker e e.making (inv.entries k e found)

-- ---- the reservation

module _ (m : Machine) (shapes : ℕ → Shape) (inv : InvariantIn shapes m) (s : CallState) (c : CopyState) (held : m.in_hand (who s) ≡ Some s) (is : driver_of s ≡ drivers.Copy c) (none : HasNone m shapes inv s c held is) (k : ℕ) (next : next_to_copy c.node m.cluster.entries ≡ Some k) where
  abbrev r : ℕ
  r = c.node

  abbrev to_reserve : Request
  to_reserve = requests.Reserve k

  own : IsCopyIn m shapes s c
  own = its m shapes inv s c held is

  -- its node lacks the checkpoint
  lacked : LacksNext m.cluster r k
  lacked = lacks_next m shapes inv r k next

  abbrev e : Entry
  e = lacked.entry

  parts : IsLacked r e
  parts = lacked_parts r e lacked.lacks

  is_lacking : IsLacking m s k r
  is_lacking = record {
    own = own.node;
    up = up_own m shapes inv s c held is;
    lacks = IsSomeAnd-from (entry_of k m.cluster.entries) (λ e. lacks_replica r e ≡ true) e lacked.found lacked.lacks;
  }

  was_made : WasMade m.cluster k
  was_made = record {
    given = entry_of-given m.cluster.last_identity k m.cluster.entries e inv.up_to lacked.found;
    made = IfSome-from (entry_of k m.cluster.entries) (λ e. e.making ≡ None) (λ f found. ap (λ (x : Entry). x.making) (same_Some f e (sym found ∙ lacked.found)) ∙ parts.made);
  }

  -- of the checkpoint that is found
  found_is : (f : Entry) → entry_of k m.cluster.entries ≡ Some f → e ≡ f
  found_is f found = same_Some e f (sym lacked.found ∙ found)

  -- nothing comes beside the answer
  nothing_told : details_due m s to_reserve r ≡ beside.Nothing
  nothing_told = by_seen (seen_at m k r)
    where
      by_seen : (o : Option Replica) → details_at to_reserve (payload_due m s) (record_seen m.cluster k r) o ≡ beside.Nothing
      by_seen None = refl
      by_seen (Some x) = refl

  -- ---- what stands behind it

  abbrev reserved_then : ℕ → ℕ → Option ℕ
  reserved_then = put2 m.reserved k r (Some (slice_index m.cluster.up r))

  -- that of another node stays
  other_node : (j q : ℕ) → (q == r) ≡ false → reserved_then j q ≡ m.reserved j q
  other_node j q other = ap (λ b. cond ((j == k) && b) (Some (slice_index m.cluster.up r)) (m.reserved j q)) other ∙ by_test (j == k)
    where
      by_test : (b : Bool) → cond (b && false) (Some (slice_index m.cluster.up r)) (m.reserved j q) ≡ m.reserved j q
      by_test true = refl
      by_test false = refl

  -- and that of another checkpoint
  other_ckpt : (j q : ℕ) → (j == k) ≡ false → reserved_then j q ≡ m.reserved j q
  other_ckpt j q other = ap (λ b. cond (b && (q == r)) (Some (slice_index m.cluster.up r)) (m.reserved j q)) other

  -- as one in the making is
  making_stays : (j q : ℕ) (f : Entry) → entry_of j m.cluster.entries ≡ Some f → IsSome f.making → reserved_then j q ≡ m.reserved j q
  making_stays j q f found making = by_test (j == k) refl
    where
      by_test : (b : Bool) → (j == k) ≡ b → reserved_then j q ≡ m.reserved j q
      by_test false other = other_ckpt j q other
      by_test true same =
          let e_is : e ≡ f = found_is f (ap (λ n. entry_of n m.cluster.entries) (sym (eqb-true j k same)) ∙ found) in
          absurd (let w : false ≡ true = sym (ap (λ (x : Entry). is_some x.making) (sym e_is) ∙ ap is_some parts.made) ∙ making in cc w)

  -- its own is that of its node, with its present incarnation
  reserved_here : reserved_then k r ≡ Some (slice_index m.cluster.up r)
  reserved_here = (λ i. cond (eq-eqb k k refl i && eq-eqb r r refl i) (Some (slice_index m.cluster.up r)) (m.reserved k r))

  reserves_then : (j q n : ℕ) → reserved_then j q ≡ Some n → IsSomeAnd (entry_of j m.cluster.entries) (IsReservedFor m.cluster q n)
  reserves_then j q n reserved = by_test ((j == k) && (q == r)) refl
    where
      by_test : (b : Bool) → ((j == k) && (q == r)) ≡ b → IsSomeAnd (entry_of j m.cluster.entries) (IsReservedFor m.cluster q n)
      by_test false other = inv.reserves j q n (sym (ap (λ b. cond b (Some (slice_index m.cluster.up r)) (m.reserved j q)) other) ∙ reserved)
      by_test true same =
          let (j_is, q_is) = both_true j k q r same in
          let n_is : slice_index m.cluster.up r ≡ n = same_Some (slice_index m.cluster.up r) n (sym (ap (λ b. cond b (Some (slice_index m.cluster.up r)) (m.reserved j q)) same) ∙ reserved) in
          subst (λ j. IsSomeAnd (entry_of j m.cluster.entries) (IsReservedFor m.cluster q n)) (sym j_is)
          (subst (λ q. IsSomeAnd (entry_of k m.cluster.entries) (IsReservedFor m.cluster q n)) (sym q_is)
          (IsSomeAnd-from (entry_of k m.cluster.entries) (IsReservedFor m.cluster r n) e lacked.found (inr (lacked.lacks, up_own m shapes inv s c held is, sym n_is))))

  -- the step as its call keeps it
  abbrev reserve_done : StepDone
  reserve_done = done_of m.cluster verbs.Reserve (Some k) (Some r) words.Ok

  -- the call with it
  abbrev state_then : CallState
  state_then = record s { steps = reserve_done ∷ s.steps; snapshot = None; kept = kept_reserving (asked s.op) k m.cluster s.kept }

  abbrev copy_then : CopyState
  copy_then = record c { copying = Some (record { ckpt = k; phase = Reserved }); staging = update_begun c.call k }

  driver_then : driver_of state_then ≡ drivers.Copy copy_then
  driver_then = ap (driver_taken reserve_done) is

  -- it keeps the checkpoint, and what this declares
  kept_then : state_then.kept ≡ record s.kept { ckpt = Some k; all = declares_at is_all m.cluster (Some k); declares = declared_at m.cluster (Some k) }
  kept_then = ap (λ a. kept_reserving a k m.cluster s.kept) own.asks

  -- what drove it at its beginning drives it still
  driven_then : IsDriven state_then
  driven_then =
      ap (λ a. driver_start s.call a state_then.kept) own.asks
      ∙ sym (ap (λ a. driver_start s.call a s.kept) own.asks)
      ∙ (inv.hands (who s) s held).driven

  abbrev then_machine : Machine
  then_machine = record m { reserved = reserved_then; in_hand = put_who m.in_hand (who s) (Some state_then) }

  -- its update there has no slot yet
  update_then : is_all e.attributes ≡ true → IsUpdateIn then_machine shapes state_then (update_begun c.call k)
  update_then all = record {
    call = own.call;
    asks = subst IsUpdateAsk (sym own.asks) tt;
    kept = ap (λ (kept : Kept). kept.ckpt) kept_then;
    made = was_made;
    all = IfSome-from (entry_of k m.cluster.entries) (λ e. is_all e.attributes ≡ true) (λ f found. ap (λ (x : Entry). is_all x.attributes) (sym (found_is f found)) ∙ all);
    nodes = refl;
    owns = λ f found q complete. never_has (slice_index f.complete q) q ∙ sym (none_owned-test m shapes inv s c held is none k q f found (spread_at f found));
    keeps = λ f found. tt;
    within = λ f q found kept. absurd (let w : false ≡ true = sym (never_has (slice_index m.cluster.up q) q) ∙ kept in cc w);
    no_later = λ q. let zero_is : slice_index no_nodes q ≡ 0 = slice_index-replicate 8 q in omega (arith, zero_is);
  }
    where
      spread_at : (f : Entry) → entry_of k m.cluster.entries ≡ Some f → IsSpread m k (shapes k) f
      spread_at f found = subst (IsGoodIn m k (shapes k) f) (ap (λ (x : Entry). x.making) (sym (found_is f found)) ∙ parts.made) (inv.entries k f found)

  here_then : IsInPlace then_machine shapes state_then (drivers.Copy copy_then)
  here_then = record {
    call = own.call;
    asks = own.asks;
    node = own.node;
    within = own.within;
    at = record {
      ckpt = refl;
      kept = ap (λ (kept : Kept). kept.ckpt) kept_then;
      made = was_made;
      apart = IfSome-from (entry_of k m.cluster.entries) (λ e. is_collocated e.attributes ≡ false) (λ f found. ap (λ (x : Entry). is_collocated x.attributes) (sym (found_is f found)) ∙ parts.apart);
      declares = IfSome-from (entry_of k m.cluster.entries) (λ e. state_then.kept.declares ≡ Some e.attributes) (λ f found. ap (λ (kept : Kept). kept.declares) kept_then ∙ ap declared_in found);
      update = λ f found all. update_then (ap (λ (x : Entry). is_all x.attributes) (found_is f found) ∙ all);
      so_far = λ f found. (
        record {
          lacks = subst (λ (x : Entry). lacks_replica r x ≡ true) (found_is f found) lacked.lacks;
          reserved = ap (λ j. reserved_then j r) (identity_at f found) ∙ reserved_here;
        },
        ap (update_begun c.call) (sym (identity_at f found)),
      );
    };
  }
    where
      identity_at : (f : Entry) → entry_of k m.cluster.entries ≡ Some f → f.identity ≡ k
      identity_at f found = ap (λ (x : Entry). x.identity) (sym (found_is f found)) ∙ lacked.identity

  hand_then : IsInHand then_machine shapes (who s) state_then
  hand_then =
      let was = inv.hands (who s) s held in
      record {
        whose = refl;
        asker = was.asker;
        number = was.number;
        built = was.built;
        driven = driven_then;
        live = λ other. was.live (ap is_enter is);
        home = λ other. ap (λ (kept : Kept). kept.node) kept_then ∙ was.home (ap is_enter is);
        here = subst (IsInPlace then_machine shapes state_then) (sym driver_then) here_then;
      }

  reserved_keeps : InvariantIn shapes then_machine
  reserved_keeps = copy_keeps m shapes inv s c held is reserved_then (Some state_then) (same_call-Some s state_then refl refl) (λ z there. subst IsDriven (same_Some state_then z there) driven_then) making_stays other_node reserves_then
      (λ j q f found was owns own. absurd (none_owned m shapes inv s c held is none j q f found was owns))
      (λ z there. subst (IsInHand then_machine shapes (who s)) (same_Some state_then z there) hand_then)

  -- ---- the step

  -- it goes on behind it
  goes_on : done_by (copy_next m.cluster copy_then) ≡ None
  goes_on = ap (λ o. done_by (copy_on m.cluster copy_then (record { ckpt = k; phase = Reserved }) o)) lacked.found ∙ by_all (is_all e.attributes)
    where
      by_all : (b : Bool) → done_by (reserved_next m.cluster copy_then k e b) ≡ None
      by_all true = staging_goes_on m.cluster (update_begun c.call k) (onward m.cluster copy_then) refl
      by_all false = pull_goes_on copy_then k e.active

  -- THE RESERVATION: done, or refused the memory
  pub reserve_goes : HasNoMore m.cluster c → (t : Told) → IsServed m s r to_reserve t → Goes m s (drivers.Copy c) t
  reserve_goes no_more t served = elim (may_answer (asked s.op) (m.reserved k r) served.answer own.asks served.may) [
    | inl ok ↦ subst (Goes m s (drivers.Copy c)) (sym (IsServed-told m s r to_reserve t (drivers.Copy c) (replies.Done answers.Nothing) served is ok)) (record {
      row = (inr (own.asks, (is_lacking, goes_on)), ap (λ end. ended_details end (details_due m s to_reserve r)) goes_on);
      holds = subst (λ end. Invariant (left_in_hand (with_reservation k r m) state_then end)) (sym goes_on) (record { shapes = shapes; holds = reserved_keeps });
      nearer = λ goes_on. reserve_nearer m.cluster inv.rises (eight_nodes m shapes inv) c k next m.replicas m.replicas no_more;
    })
    | inr memory ↦ subst (Goes m s (drivers.Copy c)) (sym (IsServed-told m s r to_reserve t (drivers.Copy c) replies.NoMemory served is memory)) (record {
      row = (inr (own.asks, (is_lacking, refl)), nothing_told);
      holds = record { shapes = shapes; holds = copy_ends m shapes inv s c held is none };
      nearer = λ goes_on. absurd (cc goes_on);
    })
  ]
