-- A node joins that is not up: what holds stays, and no call that is dead comes to live again.
use Rattle.std.proofs.Common.{◌≡◌, ℕ, ◌<◌, ◌≤◌, inl, inr, List, Option, Some, None, Bool, true, false, cond, not, ◌==◌, ◌&&◌, nat_lt, refl, sym, ap, subst, ◌∙◌, arith}
use Rattle.std.specs.Prelude.{IsSomeAnd, IfSome, slice_index, slice_set, replicate}
use Rattle.std.proofs.lemmas.Bool.{eqb-true, eqb-false, lt-ltb}
use Rattle.ckpt_types.specs.declared.attributes.CreationAttributes.{CreationAttributes}
use Rattle.ckpt_types.specs.declared.identities.ActorName.{ActorName}
use Rattle.ckpt_types.specs.declared.identities.ActorName.TheVariants.{Client, Node}
use Rattle.ckpt_types.specs.declared.identities.CallId.{CallId}
use Rattle.ckpt_types.specs.declared.identities.Who.{Who}
use Rattle.ckpt_types.specs.Asks.{asked}
use Rattle.ckpt_types.specs.Limits.{nodes_max}
use Rattle.ckpt_types.proofs.Lists.{slice_index-replicate, slice_set-replicate}
use Rattle.cluster_record.specs.declared.calls.Making.{Making}
use Rattle.cluster_record.specs.declared.clients.LiveClient.{LiveClient}
use Rattle.cluster_record.specs.declared.entries.Entry.{Entry}
use Rattle.cluster_record.specs.Calls.{client_of}
use Rattle.cluster_record.specs.DueOpen.{targets_by}
use Rattle.cluster_record.specs.Joining.{next_incarnation}
use Rattle.cluster_record.specs.Placement.{is_collocated, alone_on}
use Rattle.cluster_record.specs.Places.{find_key}
use Rattle.cluster_record.specs.RecordState.{client_key, entry_of, home_of, is_live, is_up, no_nodes}
use Rattle.cluster_record.specs.StepDone.{has}
use Rattle.cluster_record.proofs.JoinLaws.{earlier_life_over, other_call_stays}
use Rattle.ckpt_machine.specs.Dead.{IsDead}
use Rattle.ckpt_machine.specs.Due.{driver_of}
use Rattle.ckpt_machine.specs.InHand.{attributes_asked, IsMakingIn, IsInHand}
use Rattle.ckpt_machine.specs.Invariant.{InvariantIn, Invariant, IsGoodIn, IsGoodClient, IsReservedFor}
use Rattle.ckpt_machine.specs.Machine.{Machine, CallState, who}
use Rattle.ckpt_machine.specs.NodeJoins.{MayJoin, joined_at}
use Rattle.ckpt_machine.specs.Shape.{Shape}
use Rattle.ckpt_machine.proofs.LaterIncarnations.{IncarnationsGoOn}
use Rattle.ckpt_machine.proofs.NodeCalls.{node_is_up}
use Rattle.ckpt_machine.proofs.OptionLemmas.{IsSomeAnd-more}
use Rattle.ckpt_machine.proofs.UpdateIn.{no_enter}
use Rattle.ckpt_machine.proofs.Handles.{IsGoodHandle-later}
use Rattle.ckpt_machine.proofs.Lives.{LivesOn}
use Rattle.ckpt_machine.proofs.NodeLists.{index-set, index-other, length-slice_set}
use Rattle.ckpt_machine.proofs.OtherCalls.{LooksAlike, LooksLater-refl, LiesUnder-refl, home_stays, making_still, IsInHand-alike, IsGoodIn-alike}

-- ---- one node more that is up

module _ (up : List ℕ) (r n : ℕ) (down : slice_index up r ≡ 0) where
  -- a node that is up is another
  another : (q : ℕ) → (slice_index up q == 0) ≡ false → (q == r) ≡ false
  another q there = elim (q == r) as (λ b. (q == r) ≡ b → b ≡ false) [
    | true ↦ λ same. absurd (let w : true ≡ false = ap (λ i. i == 0) (sym down) ∙ ap (λ i. slice_index up i == 0) (sym (eqb-true q r same)) ∙ there in cc w)
    | false ↦ λ other. refl
  ] refl

  -- it is up as it was
  stays_up : (q : ℕ) → (slice_index up q == 0) ≡ false → slice_index (slice_set up r n) q ≡ slice_index up q
  stays_up q there = index-other up r q n (another q there)

  -- a node on which a checkpoint is to be made is so still
  targets_stay : (a : Option CreationAttributes) (home q : ℕ) → (slice_index (targets_by a home up) q == 0) ≡ false → (slice_index (targets_by a home (slice_set up r n)) q == 0) ≡ false
  targets_stay None home q there = ap (λ i. i == 0) (stays_up q there) ∙ there
  targets_stay (Some a) home q there = elim (is_collocated a) as (λ b. (slice_index (cond b (alone_on home up) up) q == 0) ≡ false → (slice_index (cond b (alone_on home (slice_set up r n)) (slice_set up r n)) q == 0) ≡ false) [
    | true ↦ at_home (slice_index up home == 0) refl
    | false ↦ λ there. ap (λ i. i == 0) (stays_up q there) ∙ there
  ] there
    where
      at_home : (b : Bool) → (slice_index up home == 0) ≡ b → (slice_index (alone_on home up) q == 0) ≡ false → (slice_index (alone_on home (slice_set up r n)) q == 0) ≡ false
      at_home true none there =
          let empty : alone_on home up ≡ replicate nodes_max 0 = ap (slice_set (replicate nodes_max 0) home) (eqb-true (slice_index up home) 0 none) ∙ slice_set-replicate 8 home in
          absurd (let w : true ≡ false = sym (ap (λ nodes. slice_index nodes q == 0) empty ∙ ap (λ i. i == 0) (slice_index-replicate 8 q)) ∙ there in cc w)
      at_home false some there = ap (λ i. slice_index (slice_set (replicate nodes_max 0) home i) q == 0) (stays_up home some) ∙ there

-- ---- behind the join

module _ (m : Machine) (shapes : ℕ → Shape) (inv : InvariantIn shapes m) (r : ℕ) (node : r < nodes_max) (is_down : is_up r m.cluster ≡ false) where
  -- the machine behind it
  abbrev n : Machine
  n = joined_at r m

  -- the node had no incarnation
  down : slice_index m.cluster.up r ≡ 0
  down = eqb-true (slice_index m.cluster.up r) 0 (by_test (nat_lt r nodes_max) (slice_index m.cluster.up r == 0) (lt-ltb r nodes_max node) is_down)
    where
      by_test : (below none : Bool) → below ≡ true → (below && not none) ≡ false → none ≡ true
      by_test below true is up = refl
      by_test true false is up = absurd (cc up)
      by_test false false is up = absurd (cc is)

  -- it has the one that follows its last then, which is its last now
  joined_up : slice_index n.cluster.up r ≡ next_incarnation r m.cluster
  joined_up = let nodes = inv.up in index-set m.cluster.up r (next_incarnation r m.cluster) (omega (arith, node, nodes))

  joined_last : slice_index n.cluster.last_incarnations r ≡ next_incarnation r m.cluster
  joined_last = let nodes = inv.incarnations.nodes in index-set m.cluster.last_incarnations r (next_incarnation r m.cluster) (omega (arith, node, nodes))

  -- so some node has one
  none_without : (nodes : List ℕ) → nodes ≡ no_nodes → slice_index nodes r ≡ next_incarnation r m.cluster → ⊥
  none_without nodes none is = let zero_there : slice_index nodes r ≡ 0 = ap (λ nodes. slice_index nodes r) none ∙ slice_index-replicate 8 r in omega (arith, zero_there, is)

  -- a node that was up is up
  up_still : (q : ℕ) → is_up q m.cluster ≡ true → is_up q n.cluster ≡ true
  up_still q up = elim (q == r) as (λ b. (q == r) ≡ b → is_up q n.cluster ≡ true) [
    | true ↦ λ same. absurd (let w : true ≡ false = sym up ∙ ap (λ q. is_up q m.cluster) (eqb-true q r same) ∙ is_down in cc w)
    | false ↦ λ other. ap (λ i. nat_lt q 8 && not (i == 0)) (index-other m.cluster.up r q (next_incarnation r m.cluster) other) ∙ up
  ] refl

  -- and is another
  up_apart : (q : ℕ) → is_up q m.cluster ≡ true → (q == r) ≡ false
  up_apart q up = elim (q == r) as (λ b. (q == r) ≡ b → b ≡ false) [
    | true ↦ λ same. absurd (let w : true ≡ false = sym up ∙ ap (λ q. is_up q m.cluster) (eqb-true q r same) ∙ is_down in cc w)
    | false ↦ λ other. refl
  ] refl

  -- ---- calls

  -- a call that was begun and is not live is not live then, also one of the node itself, which is of an earlier life
  gone_still : (b : ActorName) (number : ℕ) → number < m.next b → is_live m.cluster (record { actor = b; number = number }) ≡ false → is_live n.cluster (record { actor = b; number = number }) ≡ false
  gone_still (Client c) number begun gone = gone
  gone_still (Node q) number begun gone = elim (q == r) as (λ b. (q == r) ≡ b → is_live n.cluster (record { actor = Node q; number = number }) ≡ false) [
    | true ↦ λ same. (
        let q_is : q ≡ r = eqb-true q r same in
        let earlier : number < m.next (Node r) = subst (λ (q : ℕ). number < m.next (Node q)) q_is begun in
        ap (λ (q : ℕ). is_live n.cluster (record { actor = Node q; number = number })) q_is
        ∙ earlier_life_over r (m.next (Node r)) m.cluster node inv.up inv.incarnations.first_nodes number earlier)
    | false ↦ λ other. other_call_stays r (m.next (Node r)) m.cluster q number (eqb-false q r other) ∙ gone
  ] refl

  -- a dead call stays dead
  pub dead_still : (d : CallId) → IsDead m d → IsDead n d
  dead_still d dead = record { begun = dead.begun; gone = gone_still d.actor d.number dead.begun dead.gone; before = dead.before }

  -- what is had is the incarnation itself
  had_same : (c o : ℕ) → has c o ≡ true → c ≡ o
  had_same c o had = eqb-true c o (by_test (c == 0) (c == o) had)
    where
      by_test : (none same : Bool) → (not none && same) ≡ true → same ≡ true
      by_test true same had = absurd (cc had)
      by_test false same had = had

  no_later_then : (own : List ℕ) (q : ℕ) → slice_index own q ≤ slice_index m.cluster.last_incarnations q → slice_index own q ≤ slice_index n.cluster.last_incarnations q
  no_later_then own q within = elim (q == r) as (λ b. (q == r) ≡ b → slice_index own q ≤ slice_index n.cluster.last_incarnations q) [
    | true ↦ λ same. (
        let next : slice_index n.cluster.last_incarnations q ≡ next_incarnation r m.cluster = ap (slice_index n.cluster.last_incarnations) (eqb-true q r same) ∙ joined_last in
        let last : slice_index m.cluster.last_incarnations q ≡ slice_index m.cluster.last_incarnations r = ap (slice_index m.cluster.last_incarnations) (eqb-true q r same) in
        omega (arith, within, next, last))
    | false ↦ λ other. subst (λ (i : ℕ). slice_index own q ≤ i) (sym (index-other m.cluster.last_incarnations r q (next_incarnation r m.cluster) other)) within
  ] refl

  -- what a call makes is in the making still: what it has for reserved is of no incarnation that is still to come
  making_then : (z : CallState) (w : Making) → IsMakingIn m z w → IsMakingIn n z w
  making_then z w at = record {
    there = at.there;
    declares = at.declares;
    nodes = at.nodes;
    reserved = λ q had. elim (q == r) as (λ b. (q == r) ≡ b → m.reserved w.ckpt q ≡ Some (slice_index n.cluster.up q)) [
      | true ↦ λ same. absurd (
          let own : slice_index n.cluster.up q ≡ slice_index w.reserved q = had_same (slice_index n.cluster.up q) (slice_index w.reserved q) had in
          let next : slice_index n.cluster.up q ≡ next_incarnation r m.cluster = ap (slice_index n.cluster.up) (eqb-true q r same) ∙ joined_up in
          let within : slice_index w.reserved q ≤ slice_index m.cluster.last_incarnations q = at.no_later q in
          let last : slice_index m.cluster.last_incarnations q ≡ slice_index m.cluster.last_incarnations r = ap (slice_index m.cluster.last_incarnations) (eqb-true q r same) in
          omega (arith, own, next, within, last))
      | false ↦ λ other. (
          let same_up : slice_index n.cluster.up q ≡ slice_index m.cluster.up q = index-other m.cluster.up r q (next_incarnation r m.cluster) other in
          at.reserved q (ap (λ i. has i (slice_index w.reserved q)) (sym same_up) ∙ had) ∙ ap Some (sym same_up))
    ] refl;
    only = at.only;
    within = λ q some. targets_stay m.cluster.up r (next_incarnation r m.cluster) down (attributes_asked (asked z.op)) (home_of (client_of z.call) m.cluster) q (at.within q some);
    no_later = λ q. no_later_then w.reserved q (at.no_later q);
  }

  -- an incarnation that is still to come is none that has been
  joins_go_on : IncarnationsGoOn m.cluster n.cluster
  joins_go_on = record {
    was_up = λ q own within had. elim (q == r) as (λ b. (q == r) ≡ b → has (slice_index m.cluster.up q) own ≡ true) [
      | true ↦ λ same. absurd (
          let up : slice_index n.cluster.up q ≡ own = had_same (slice_index n.cluster.up q) own had in
          let next : slice_index n.cluster.up q ≡ next_incarnation r m.cluster = ap (slice_index n.cluster.up) (eqb-true q r same) ∙ joined_up in
          let last : slice_index m.cluster.last_incarnations q ≡ slice_index m.cluster.last_incarnations r = ap (slice_index m.cluster.last_incarnations) (eqb-true q r same) in
          omega (arith, up, next, last, within))
      | false ↦ λ other. ap (λ i. has i own) (sym (index-other m.cluster.up r q (next_incarnation r m.cluster) other)) ∙ had
    ] refl;
    last = λ q. no_later_then m.cluster.last_incarnations q (omega arith);
  }

  -- ---- a call in hand

  module _ (w : Who) (z : CallState) (was : IsInHand m shapes w z) where
    -- the node of a copying is another
    own_apart : (q : ℕ) → z.call.actor ≡ Node q → (q == r) ≡ false
    own_apart q own = up_apart q (node_is_up m shapes w z was q own)

    -- it looks at nothing that changes
    looks_joined : LooksAlike m n shapes shapes z
    looks_joined = record {
      up = up_still;
      incarnations = joins_go_on;
      lives = λ client. refl;
      node = λ q own. index-other m.cluster.up r q (next_incarnation r m.cluster) (own_apart q own);
      home = home_stays z.call.actor m.cluster n.cluster refl;
      handle = λ there. there;
      making = λ o at. making_still m n z o (making_then z) at;
      made = λ k was. was;
      later = λ k was e found. (e, found, LooksLater-refl n.cluster.up z (shapes k) e);
      reserved = λ k q was own f found free. refl;
      owners = λ k was q. refl;
      marks = λ k was. refl;
      under = λ k was e found all. LiesUnder-refl (shapes k);
      dead = λ k f was found. dead_still;
      done = λ k was done. done;
    }

    -- it is live as it was
    live_joined : (b : ActorName) → z.call.actor ≡ b → is_live n.cluster z.call ≡ is_live m.cluster z.call
    live_joined (Client c) is =
        let same : z.call ≡ record { actor = Client c; number = z.call.number } = (λ i. record { actor = is i; number = z.call.number }) in
        ap (is_live n.cluster) same ∙ ap (is_live m.cluster) (sym same)
    live_joined (Node q) is =
        let same : z.call ≡ record { actor = Node q; number = z.call.number } = (λ i. record { actor = is i; number = z.call.number }) in
        ap (is_live n.cluster) same ∙ other_call_stays r (m.next (Node r)) m.cluster q z.call.number (eqb-false q r (own_apart q is)) ∙ ap (is_live m.cluster) (sym same)

  -- so it is where it was
  hands_then : (w : Who) (z : CallState) → m.in_hand w ≡ Some z → IsInHand n shapes w z
  hands_then w z held = let was = inv.hands w z held in IsInHand-alike m n shapes shapes z (looks_joined w z was) w (λ live. live_joined w z was z.call.actor refl ∙ live) was.number was

  -- what is reserved is for what it was
  reserves_then : (k q i : ℕ) → m.reserved k q ≡ Some i → IsSomeAnd (entry_of k m.cluster.entries) (IsReservedFor n.cluster q i)
  reserves_then k q i reserved = IsSomeAnd-more (entry_of k m.cluster.entries) (IsReservedFor m.cluster q i) (IsReservedFor n.cluster q i) by_cause (inv.reserves k q i reserved)
    where
      by_cause : (e : Entry) → IsReservedFor m.cluster q i e → IsReservedFor n.cluster q i e
      by_cause e (inl making) = inl making
      by_cause e (inr lacked) =
          let other : (q == r) ≡ false = up_apart q lacked.1 in
          inr (lacked.0, up_still q lacked.1, lacked.2 ∙ sym (index-other m.cluster.up r q (next_incarnation r m.cluster) other))

  -- ---- checkpoints

  lives : LivesOn m n
  lives = record {
    dead = dead_still;
    owners = λ k sh d own. ap (is_live n.cluster) (sym own.call_is) ∙ (hands_then (who own.state) own.state own.in_hand).live (no_enter (driver_of own.state) own.driver own.driver_is);
    up = λ q there. stays_up m.cluster.up r (next_incarnation r m.cluster) down q there;
  }

  good_then : (k : ℕ) (e : Entry) → IsGoodIn m k (shapes k) e e.making → IsGoodIn n k (shapes k) e e.making
  good_then k e good = IsGoodIn-alike m n k lives (shapes k) e (λ q there. refl) (λ q d owns own. refl) (λ marks stand own. refl) (λ active d own. refl) (λ d own. refl) e.making good

  -- ---- the whole

  -- a live client is on a node that is up still
  client_then : (c : ℕ) (o : Option LiveClient) → IfSome o (IsGoodClient m.next m.cluster c) → IfSome o (IsGoodClient m.next n.cluster c)
  client_then c None good = tt
  client_then c (Some live) good = (good.0, up_still live.node good.1)

  -- no node is up in an incarnation beyond its last
  no_later_now : (q : ℕ) → slice_index n.cluster.up q ≤ slice_index n.cluster.last_incarnations q
  no_later_now q = elim (q == r) as (λ b. (q == r) ≡ b → slice_index n.cluster.up q ≤ slice_index n.cluster.last_incarnations q) [
    | true ↦ λ same. (
        let up : slice_index n.cluster.up q ≡ next_incarnation r m.cluster = ap (slice_index n.cluster.up) (eqb-true q r same) ∙ joined_up in
        let last : slice_index n.cluster.last_incarnations q ≡ next_incarnation r m.cluster = ap (slice_index n.cluster.last_incarnations) (eqb-true q r same) ∙ joined_last in
        omega (arith, up, last))
    | false ↦ λ other. (
        let up : slice_index n.cluster.up q ≡ slice_index m.cluster.up q = index-other m.cluster.up r q (next_incarnation r m.cluster) other in
        let last : slice_index n.cluster.last_incarnations q ≡ slice_index m.cluster.last_incarnations q = index-other m.cluster.last_incarnations r q (next_incarnation r m.cluster) other in
        let within = inv.incarnations.no_later q in
        omega (arith, up, last, within))
  ] refl

  -- and the next call of each node is of its present life
  present_now : (q : ℕ) → slice_index n.cluster.first_calls q ≤ m.next (Node q)
  present_now q = elim (q == r) as (λ b. (q == r) ≡ b → slice_index n.cluster.first_calls q ≤ m.next (Node q)) [
    | true ↦ λ same. (
        let q_is : q ≡ r = eqb-true q r same in
        let nodes = inv.incarnations.first_nodes in
        let first : slice_index n.cluster.first_calls q ≡ m.next (Node r) = ap (slice_index n.cluster.first_calls) q_is ∙ index-set m.cluster.first_calls r (m.next (Node r)) (omega (arith, node, nodes)) in
        let next : m.next (Node q) ≡ m.next (Node r) = ap (λ q. m.next (Node q)) q_is in
        omega (arith, first, next))
    | false ↦ λ other. (
        let first : slice_index n.cluster.first_calls q ≡ slice_index m.cluster.first_calls q = index-other m.cluster.first_calls r q (m.next (Node r)) other in
        let present = inv.incarnations.present q in
        omega (arith, first, present))
  ] refl

  -- all of the invariant, by its fields
  pub join_keeps : InvariantIn shapes n
  join_keeps = record {
    up = length-slice_set m.cluster.up r (next_incarnation r m.cluster) ∙ inv.up;
    first_up = λ none. absurd (none_without n.cluster.last_incarnations none joined_last);
    incarnations = record {
      nodes = length-slice_set m.cluster.last_incarnations r (next_incarnation r m.cluster) ∙ inv.incarnations.nodes;
      first_nodes = length-slice_set m.cluster.first_calls r (m.next (Node r)) ∙ inv.incarnations.first_nodes;
      no_later = no_later_now;
      from_one = inv.incarnations.from_one;
      present = present_now;
    };
    none_live = λ none. absurd (none_without n.cluster.up none joined_up);
    rises = inv.rises;
    up_to = inv.up_to;
    few = inv.few;
    swept = inv.swept;
    entries = λ k e found. good_then k e (inv.entries k e found);
    replicas = inv.replicas;
    reserves = reserves_then;
    handles = λ a h among. IsGoodHandle-later m.cluster n.cluster (λ k was. was) (λ k was e found. (e, found, refl, λ q there. there)) a h refl (inv.handles a h among);
    rest = inv.rest;
    clients = λ c. client_then c (find_key client_key c m.cluster.clients) (inv.clients c);
    places = inv.places;
    hands = hands_then;
    calls = inv.calls;
  }

-- ---- as the label tells it

-- a node that joins was not up
pub was_down : (m : Machine) (r incarnation : ℕ) → MayJoin m.cluster r (Some incarnation) → is_up r m.cluster ≡ false
was_down m r incarnation may = by_test (is_up r m.cluster) may.1
  where
    by_test : (b : Bool) → Some incarnation ≡ cond b None (Some (next_incarnation r m.cluster)) → b ≡ false
    by_test true told = absurd (cc told)
    by_test false told = refl

-- THE INVARIANT HOLDS BEHIND A JOIN
pub joins_keep : (m : Machine) (r incarnation : ℕ) → Invariant m → MayJoin m.cluster r (Some incarnation) → Invariant (joined_at r m)
joins_keep m r incarnation inv may = record { shapes = inv.shapes; holds = join_keeps m inv.shapes inv.holds r may.0 (was_down m r incarnation may) }
