-- What each step of the record makes of each entry.
use Rattle.std.proofs.Common.{◌≡◌, inl, inr, ℕ, ◌+◌, ◌<◌, ◌≤◌, length, Bool, true, false, List, refl, sym, ap, subst, ◌∙◌, cond, arith}
use Rattle.std.specs.Prelude.{Option, Some, None, IsSome, IsSomeAnd, is_some, not, nat_lt, ◌==◌, ◌&&◌, slice_index, slice_set, filter}
use Rattle.std.specs.Option.{option_map}
use Rattle.std.proofs.lemmas.Option.{same_Some}
use Rattle.std.proofs.lemmas.Bool.{eqb-true, eqb-false, eq-eqb, ltb-true, and_parts, not-true}
use Rattle.std.proofs.lemmas.List.{length-set, get_or-set_same, get_or-set_other}
use Rattle.ckpt_types.specs.declared.attributes.CreationAttributes.{CreationAttributes}
use Rattle.ckpt_types.specs.declared.identities.CallId.{CallId}
use Rattle.node_msgs.specs.declared.next.RecordStep.{RecordStep}
use Rattle.node_msgs.specs.declared.next.RecordStep.TheVariants as events
use Rattle.ckpt_machine.specs.Drivers.{Driver}
use Rattle.ckpt_machine.specs.Drivers as drivers
use Rattle.cluster_record.specs.declared.calls.Making.{Making}
use Rattle.cluster_record.specs.declared.entries.Entry.{Entry}
use Rattle.replica.specs.Replicas.{Replica, opened_replica}
use Rattle.ckpt_machine.specs.After.{reservation_under}
use Rattle.cluster_record.specs.DueCopy.{lacks_replica}
use Rattle.cluster_record.specs.Joining.{can_complete, completed, completed_on}
use Rattle.cluster_record.specs.Places.{change_key}
use Rattle.ckpt_types.specs.declared.calls.OpenAsk.{OpenAsk}
use Rattle.cluster_record.specs.Opening.{answer_named, open_answer}
use Rattle.cluster_record.specs.Placement.{targets, is_collocated, adds}
use Rattle.cluster_record.specs.RecordState.{RecordState, identity_of, entry_of, is_up, named, stays, referred, opened_with, home_of, made_with, new_entry, created_as, opened, finished, undone, swept}
use Rattle.ckpt_machine.specs.Nodes.{replica_in, with_added, with_changed, with_opened}
use Rattle.ckpt_machine.specs.RecordAfter.{event_change, event_after, nodes_behind}
use Rattle.cluster_record.specs.DueOpen.{making_ckpt}
use Rattle.cluster_record.specs.LookUps.{at_ckpt, identity_in}
use Rattle.ckpt_machine.specs.Machine.{Machine, CallState}
use Rattle.cluster_record.specs.Identities.{IdentitiesRise}
use Rattle.ckpt_machine.specs.Holding.{replicas_on, HoldsOnlyWhatStands}
use Rattle.ckpt_machine.specs.RecordReady.{CanAdd, HasNoneOf, IsPlain}
use Rattle.ckpt_machine.specs.Facts.{Facts, FitsOpen, IsEventReady, AllReserved, NoneReservedElse, IsFinishable}
use Rattle.ckpt_machine.specs.Shown.{shown_reservation, reserved_in}
use Rattle.cluster_record.proofs.IdentityLaws.{IsLeft, KeepsIdentity, entry_of-beyond, IdentitiesRise-change_key, IdentitiesRise-push, filter_leaves}
use Rattle.cluster_record.proofs.JoinLaws.{completed_at, node_complete, others_complete, rest_stays}
use Rattle.cluster_record.proofs.KeptLaws.{completed_on-keeps}
use Rattle.cluster_record.proofs.Places.{find_changed}
use Rattle.ckpt_machine.specs.Driving.{event_refusal, refusal_in}
use Rattle.ckpt_machine.proofs.Joining.{opened_with-identity}
use Rattle.ckpt_machine.proofs.OptionLemmas.{IsSomeAnd-at}
use Rattle.node_core.proofs.OnceByKey.{counted, counted-change_key}
use Rattle.node_core.specs.Nodes.{replica_key}
use Rattle.cluster_record.proofs.NameLaws.{named-entry}
use Rattle.ckpt_machine.proofs.Adding.{added_replica, added_here, added_once, opened_none, opened_adds}
use Rattle.ckpt_machine.proofs.EntryLists.{AllStay-change_key, swept-all}
use Rattle.ckpt_machine.proofs.HoldingLaws.{held_at, none_gone, once_set, opening_there}
use Rattle.ckpt_machine.proofs.KeptEntries.{IsKept, Sight, sight, Keeps, IsQuiet, created_there, kept_all, undone_stays, swept_stays, quiet_stays}
use Rattle.ckpt_machine.proofs.Lacking.{IsLacked, lacked_parts}
use Rattle.ckpt_machine.proofs.NodeMaps.{changed_here}
use Rattle.ckpt_machine.proofs.Readiness.{made_as}
use Rattle.ckpt_machine.proofs.ServedNodes.{node_within}
use Rattle.ckpt_machine.proofs.Targets.{target-up}
use Rattle.ckpt_machine.proofs.GoesAt.{IsUpIn, GoesAt, NodeGoes, zero_there}

-- ---- a node that has reserved

-- a node that has reserved has the replica that a reservation makes
reserved_there : (k r u : ℕ) (f : Option Entry) (e : Entry) (y : Option Replica) → f ≡ Some e → slice_index e.complete r ≡ 0 → reservation_under f r (shown_reservation u y) ≡ Some u → ((x : Replica) → y ≡ Some x → x ≡ opened_replica k e.attributes e.made) → y ≡ Some (opened_replica k e.attributes e.made)
reserved_there k r u f e y is free reserved opening = at y has opening where
  has : shown_reservation u y ≡ Some u
  has = sym (ap (λ f. reservation_under f r (shown_reservation u y)) is ∙ ap (λ b. cond b (shown_reservation u y) None) (ap (λ n. n == 0) free)) ∙ reserved

  at : (y : Option Replica) → shown_reservation u y ≡ Some u → ((x : Replica) → y ≡ Some x → x ≡ opened_replica k e.attributes e.made) → y ≡ Some (opened_replica k e.attributes e.made)
  at None has opening = absurd (cc has)
  at (Some x) has opening = ap Some (opening x refl)

-- in whatever incarnation that was
reserved_one : (k r u : ℕ) (f : Option Entry) (e : Entry) (y : Option Replica) → f ≡ Some e → IsSome (reservation_under f r (shown_reservation u y)) → ((x : Replica) → y ≡ Some x → x ≡ opened_replica k e.attributes e.made) → y ≡ Some (opened_replica k e.attributes e.made)
reserved_one k r u f e y is some opening = at y (subst (λ f. IsSome (reservation_under f r (shown_reservation u y))) is some) opening where
  at : (y : Option Replica) → IsSome (reservation_under (Some e) r (shown_reservation u y)) → ((x : Replica) → y ≡ Some x → x ≡ opened_replica k e.attributes e.made) → y ≡ Some (opened_replica k e.attributes e.made)
  at None some opening = absurd (by_test (slice_index e.complete r == 0) some) where
    by_test : (b : Bool) → IsSome (cond b (shown_reservation u None) None) → ⊥
    by_test true some = cc some
    by_test false some = cc some
  at (Some x) some opening = ap Some (opening x refl)

-- and one that has not has none
pub unreserved_there : (r u : ℕ) (f : Option Entry) (e : Entry) (y : Option Replica) → f ≡ Some e → slice_index e.complete r ≡ 0 → reservation_under f r (shown_reservation u y) ≡ None → y ≡ None
unreserved_there r u f e y is free none = at y (sym (ap (λ f. reservation_under f r (shown_reservation u y)) is ∙ ap (λ b. cond b (shown_reservation u y) None) (ap (λ n. n == 0) free)) ∙ none) where
  at : (y : Option Replica) → shown_reservation u y ≡ None → y ≡ None
  at None none = refl
  at (Some x) none = absurd (cc none)

-- ---- what each entry goes on to, with the incarnations with which the nodes are up

module _ (up : List ℕ) where
  -- one of which a node sees what it was, and has what it had
  pub goes_kept : (k : ℕ) (old new : Option Entry) (r : ℕ) (y z : Option Replica) → z ≡ y → IsKept (option_map sight old) (option_map sight new) → GoesAt up k old new r y z
  goes_kept k old None r y z has kept = tt
  goes_kept k old (Some f) r y z has (inl none) = absurd (let w : Some (sight f) ≡ None = none in cc w)
  goes_kept k None (Some f) r y z has (inr same) = absurd (let w : Some (sight f) ≡ None = same in cc w)
  goes_kept k (Some e) (Some f) r y z has (inr same) =
      let is : sight f ≡ sight e = same_Some (sight f) (sight e) same in
      (ap (λ (s : Sight). s.2) is, ap (λ (s : Sight). s.3) is, inl (ap (λ (s : Sight). slice_index s.1 r) is, has, inl (ap (λ (s : Sight). s.4) is)))

  goes_left : (k : ℕ) (old mid new : Option Entry) (r : ℕ) (y z : Option Replica) → GoesAt up k old mid r y z → IsLeft mid new → GoesAt up k old new r y z
  goes_left k old mid new r y z goes (inl none) = subst (λ (o : Option Entry). GoesAt up k old o r y z) (sym none) tt
  goes_left k old mid new r y z goes (inr same) = subst (λ (o : Option Entry). GoesAt up k old o r y z) (sym same) goes

  -- the entry x of identity k becomes f x, and no other changes
  changed_goes : (f : Entry → Entry) → KeepsIdentity f → (k j r : ℕ) (xs : List Entry) (x : Entry) (y z : Option Replica) → entry_of k xs ≡ Some x → (j ≡ k → GoesAt up j (Some x) (Some (f x)) r y z) → ((j == k) ≡ false → z ≡ y) → GoesAt up j (entry_of j xs) (entry_of j (change_key identity_of k f xs)) r y z
  changed_goes f q k j r xs x y z is goes other = subst (λ (o : Option Entry). GoesAt up j (entry_of j xs) o r y z) (sym (find_changed identity_of k f q xs x j is)) (by_test (j == k) refl) where
    by_test : (b : Bool) → (j == k) ≡ b → GoesAt up j (entry_of j xs) (cond b (Some (f x)) (entry_of j xs)) r y z
    by_test false t = goes_kept j (entry_of j xs) (entry_of j xs) r y z (other t) (inr refl)
    by_test true t = let s : j ≡ k = eqb-true j k t in subst (λ (o : Option Entry). GoesAt up j o (Some (f x)) r y z) (sym (ap (λ j. entry_of j xs) s ∙ is)) (goes s)

  -- a making that is finished
  made_goes : (opener c k r : ℕ) (e : Entry) (y : Option Replica) → slice_index e.complete r ≡ 0 → ((slice_index (targets e.attributes opener up) r == 0) ≡ false → IsUpIn up r × (y ≡ Some (opened_replica k e.attributes e.made))) → ((slice_index (targets e.attributes opener up) r == 0) ≡ true → y ≡ None) → GoesAt up k (Some e) (Some (made_with opener up c e)) r y y
  made_goes opener c k r e y zero has has_not = (refl, refl, by_test (slice_index (targets e.attributes opener up) r == 0) refl) where
    by_test : (b : Bool) → (slice_index (targets e.attributes opener up) r == 0) ≡ b → NodeGoes up k e (made_with opener up c e) r y y
    by_test true t = inl (eqb-true (slice_index (targets e.attributes opener up) r) 0 t ∙ sym zero, refl, inr (has_not t))
    by_test false t = let (is_up_there, there) = has t in inr (zero, target-up e.attributes opener up r t, is_up_there, there)

  -- an open that adds no replica
  opened_as : (opener c r : ℕ) (e : Entry) (y : Option Replica) → adds e.attributes opener e.complete ≡ false → GoesAt up e.identity (Some e) (Some (opened_with opener up c e)) r y y
  opened_as opener c r e y none =
      subst (λ b. GoesAt up e.identity (Some e) (Some (referred c (cond b (record e { complete = slice_set e.complete opener (slice_index up opener) }) e))) r y y) (sym none) (refl, refl, inl (refl, refl, inl refl))

  -- and one that does, where the opener's node is up, and has it then
  added_goes : (opener c r : ℕ) (e : Entry) (y z : Option Replica) → adds e.attributes opener e.complete ≡ true → opener < length e.complete → slice_index e.complete opener ≡ 0 → IsUpIn up opener → (r ≡ opener → z ≡ Some (added_replica e)) → ((r == opener) ≡ false → z ≡ y) → GoesAt up e.identity (Some e) (Some (opened_with opener up c e)) r y z
  added_goes opener c r e y z new within free is_up_there has other = subst (λ b. GoesAt up e.identity (Some e) (Some (referred c (cond b with_opener e))) r y z) (sym new) (refl, refl, node (r == opener) refl) where
    with_opener : Entry
    with_opener = record e { complete = slice_set e.complete opener (slice_index up opener) }

    node : (b : Bool) → (r == opener) ≡ b → NodeGoes up e.identity e (referred c with_opener) r y z
    node false t = inl (get_or-set_other e.complete opener r (slice_index up opener) 0 (eqb-false r opener t), other t, inl refl)
    node true t =
        let s : r ≡ opener = eqb-true r opener t in
        inr (ap (slice_index e.complete) s ∙ free, ap (slice_index with_opener.complete) s ∙ get_or-set_same e.complete opener (slice_index up opener) 0 within ∙ ap (slice_index up) (sym s), subst (IsUpIn up) (sym s) is_up_there, has s)

-- ---- every step

-- no node comes to be complete by a step of its own
abbrev pub CompletesNone : RecordStep → Type 0
CompletesNone (events.Complete k r moment) = ⊥
CompletesNone step = Unit {0}

-- a plain one is so
pub plain_completes : (step : RecordStep) → IsPlain step → CompletesNone step
plain_completes (events.Complete k r moment) plain = plain
plain_completes step plain = tt

-- a replica with this generation
abbrev pub raised : ℕ → Replica → Replica
raised generation x = record x { generation = generation }

opened_length : (o : Option Entry) (r : ℕ) (nodes : List (List Replica)) → length (with_opened o r nodes) ≡ length nodes
opened_length None r nodes = refl
opened_length (Some e) r nodes = elim (adds e.attributes r e.complete) as (λ b. length (cond b (with_added e r nodes) nodes) ≡ length nodes) [ true ↦ length-set nodes r _ | false ↦ refl ]

-- no step makes nodes more or fewer
pub length-behind : (x : Driver) (step : RecordStep) (R : RecordState) (nodes : List (List Replica)) → length (nodes_behind x step R nodes) ≡ length nodes
length-behind (drivers.Open o) events.Open R nodes = opened_length (named o.ask.name R.entries) (home_of o.ask.client R) nodes
length-behind (drivers.Once x) step R nodes = refl
length-behind x step R nodes = refl

-- m is shown by the nodes, as far as they have reserved
module _ (m : Machine) (nodes : List (List Replica)) (reserved : (k r : ℕ) → reserved_in m.cluster nodes k r ≡ m.reserved k r) (facts : Facts m) (holds : HoldsOnlyWhatStands m.cluster nodes) where
  abbrev R : RecordState
  R = m.cluster

  -- the entries after a step of the record, before the sweep: each goes on, and they rise
  abbrev Goes : RecordState → Type 0
  Goes N = ((j r : ℕ) → GoesAt R.up j (entry_of j R.entries) (entry_of j N.entries) r (replica_in nodes j r) (replica_in nodes j r)) × IdentitiesRise N.entries

  -- of a step of which a node sees nothing but what goes
  stays_go : (N : RecordState) → Keeps sight R.entries N.entries → Goes N
  stays_go N keeps = (λ j r. goes_kept R.up j (entry_of j R.entries) (entry_of j N.entries) r (replica_in nodes j r) (replica_in nodes j r) refl (keeps.each j), keeps.rises)

  created_go : (call : CallId) (name : List ℕ) (a : Option CreationAttributes) → Goes (created_as call name a R)
  created_go call name None = stays_go R (kept_all sight R.entries facts.rises)
  created_go call name (Some a) = (
    λ j r. subst (λ (o : Option Entry). GoesAt R.up j (entry_of j R.entries) o r (replica_in nodes j r) (replica_in nodes j r)) (sym (created_there R facts.up_to call name a j)) (by_test j r (j == (R.last_identity + 1)) refl),
    IdentitiesRise-push R.last_identity R.entries (new_entry call name a R) facts.rises facts.up_to (omega arith),
  )
    where
      by_test : (j r : ℕ) (b : Bool) → (j == (R.last_identity + 1)) ≡ b → GoesAt R.up j (entry_of j R.entries) (cond b (Some (new_entry call name a R)) (entry_of j R.entries)) r (replica_in nodes j r) (replica_in nodes j r)
      by_test j r false t = goes_kept R.up j (entry_of j R.entries) (entry_of j R.entries) r (replica_in nodes j r) (replica_in nodes j r) refl (inr refl)
      by_test j r true t =
          let none : entry_of j R.entries ≡ None = entry_of-beyond R.last_identity j R.entries facts.up_to (let is : j ≡ R.last_identity + 1 = eqb-true j (R.last_identity + 1) t in omega (arith, is)) in
          subst (λ (o : Option Entry). GoesAt R.up j o (Some (new_entry call name a R)) r (replica_in nodes j r) (replica_in nodes j r)) (sym none) (zero_there r, none_gone R nodes holds j r none)

  finished_go : (c : ℕ) (s : CallState) (making : Option Making) → IsFinishable m c making → Goes (at_ckpt (making_ckpt making) R (λ k. finished k c R))
  finished_go c s None ready = absurd ready
  finished_go c s (Some making) ready =
      let k = making.ckpt in
      let there = IsSomeAnd-at (entry_of k R.entries) (λ (e : Entry). AllReserved m c k e × NoneReservedElse m c k e × (e.generation ≡ 1) × ((r : ℕ) → slice_index e.complete r ≡ 0)) ready in
      let e : Entry = there.0 in
      let is : entry_of k R.entries ≡ Some e = there.1 in
      let has : (r : ℕ) → (slice_index (targets e.attributes (home_of c R) R.up) r == 0) ≡ false → IsUpIn R.up r × (replica_in nodes k r ≡ Some (opened_replica k e.attributes e.made)) = λ r target.
      let here : replica_in nodes k r ≡ Some (opened_replica k e.attributes e.made) = reserved_there k r (slice_index R.up r) (entry_of k R.entries) e (replica_in nodes k r) is (there.2.3 r) (reserved k r ∙ there.2.0 r target) (λ x. opening_there R nodes holds k r e x is (there.2.3 r)) in
      ((held_at R nodes holds k r (opened_replica k e.attributes e.made) here).0.up, here) in
      let has_not = λ (r : ℕ) (none : (slice_index (targets e.attributes (home_of c R) R.up) r == 0) ≡ true). unreserved_there r (slice_index R.up r) (entry_of k R.entries) e (replica_in nodes k r) is (there.2.3 r) (reserved k r ∙ there.2.1 r none) in (
        λ j r. changed_goes R.up (made_with (home_of c R) R.up c) (λ e. refl) k j r R.entries e (replica_in nodes j r) (replica_in nodes j r) is
            (λ s. subst (λ (j : ℕ). GoesAt R.up j (Some e) (Some (made_with (home_of c R) R.up c e)) r (replica_in nodes j r) (replica_in nodes j r)) (sym s) (made_goes R.up (home_of c R) c k r e (replica_in nodes k r) (there.2.3 r) (has r) (has_not r))) (λ other. refl),
        IdentitiesRise-change_key (made_with (home_of c R) R.up c) (λ e. refl) k R.entries facts.rises,
      )

  -- what a step does that the record does not refuse, with what the nodes have behind it
  record GoesOn (N : RecordState) (then : List (List Replica)) : Type 0 where
    goes : (j r : ℕ) → GoesAt R.up j (entry_of j R.entries) (entry_of j N.entries) r (replica_in nodes j r) (replica_in then j r)
    rises : IdentitiesRise N.entries
    once : (r k : ℕ) → counted replica_key k (replicas_on then r) ≤ 1

  -- most add nothing
  on : (N : RecordState) → Goes N → GoesOn N nodes
  on N go = record { goes = go.0; rises = go.1; once = holds.once }

  quietly : (call : CallId) (x : Driver) (step : RecordStep) → IsQuiet x step → GoesOn (event_change call x step R) nodes
  quietly call x step quiet = on (event_change call x step R) (stays_go (event_change call x step R) ((quiet_stays sight R (λ f q. q) call x step quiet).3 facts.rises))

  -- an open of a checkpoint that is there may
  module _ (ask : OpenAsk) (e : Entry) (found : named ask.name R.entries ≡ Some e) (granted : refusal_in (open_answer R ask) ≡ None) (fits : FitsOpen m ask e) where
    abbrev home : ℕ
    home = home_of ask.client R

    abbrev f : Entry
    f = opened_with home R.up ask.client e

    abbrev N : RecordState
    N = opened e.identity ask.client R

    made : e.making ≡ None
    made = made_as e ask.attrs home e.making refl (subst (λ o. refusal_in (answer_named R ask.attrs home o) ≡ None) found granted)

    there : entry_of e.identity R.entries ≡ Some e
    there = named-entry ask.name R.entries e.identity facts.rises (sym (ap identity_in found)) ∙ found

    rises : IdentitiesRise N.entries
    rises = IdentitiesRise-change_key (opened_with home R.up ask.client) (opened_with-identity home R.up ask.client) e.identity R.entries facts.rises

    -- no other entry changes
    goes_as : (then : List (List Replica)) → ((r : ℕ) → GoesAt R.up e.identity (Some e) (Some f) r (replica_in nodes e.identity r) (replica_in then e.identity r)) → ((j r : ℕ) → (j == e.identity) ≡ false → replica_in then j r ≡ replica_in nodes j r) →
        (j r : ℕ) → GoesAt R.up j (entry_of j R.entries) (entry_of j N.entries) r (replica_in nodes j r) (replica_in then j r)
    goes_as then goes other j r = changed_goes R.up (opened_with home R.up ask.client) (opened_with-identity home R.up ask.client) e.identity j r R.entries e (replica_in nodes j r) (replica_in then j r) there
        (λ same. subst (λ (j : ℕ). GoesAt R.up j (Some e) (Some f) r (replica_in nodes j r) (replica_in then j r)) (sym same) (goes r)) (other j r)

    opened_without : adds e.attributes home e.complete ≡ false → GoesOn N nodes
    opened_without none = on N (goes_as nodes (λ r. opened_as R.up home ask.client r e (replica_in nodes e.identity r) none) (λ j r other. refl), rises)

    -- where it adds a replica
    module _ (new : adds e.attributes home e.complete ≡ true) where
      free : slice_index e.complete home ≡ 0
      free = eqb-true (slice_index e.complete home) 0 (and_parts (is_collocated e.attributes) (slice_index e.complete home == 0) new).1

      on_node : home < 8
      on_node = ltb-true home 8 (and_parts (nat_lt home 8) (not (slice_index R.up home == 0)) (fits made).1.up).0

      among : home < length e.complete
      among = subst (λ n. home < n) (sym (fits made).1.nodes) on_node

      -- the node has none yet
      none_yet : replica_in nodes e.identity home ≡ None
      none_yet = unreserved_there home (slice_index R.up home) (entry_of e.identity R.entries) e (replica_in nodes e.identity home) there free (reserved e.identity home ∙ (fits made).1.unreserved (and_parts (is_collocated e.attributes) (slice_index e.complete home == 0) new).0)

      opened_adding : length nodes ≡ 8 → GoesOn N (with_added e home nodes)
      opened_adding eight =
          let within : home < length nodes = subst (λ n. home < n) (sym eight) on_node in
          let at = added_here nodes home e within none_yet in
          record {
            goes = goes_as (with_added e home nodes)
                (λ r. added_goes R.up home ask.client r e (replica_in nodes e.identity r) (replica_in (with_added e home nodes) e.identity r) new among free (fits made).1.up
                (λ same. at e.identity r ∙ (λ i. cond (eq-eqb e.identity e.identity refl i && eq-eqb r home same i) (Some (added_replica e)) (replica_in nodes e.identity r)))
                (λ other. at e.identity r ∙ (λ i. cond (eq-eqb e.identity e.identity refl i && other i) (Some (added_replica e)) (replica_in nodes e.identity r))))
                (λ j r other. at j r ∙ (λ i. cond (other i && (r == home)) (Some (added_replica e)) (replica_in nodes j r)));
            rises = rises;
            once = added_once nodes home e within none_yet holds.once;
          }

    opened_on : length nodes ≡ 8 → GoesOn N (with_opened (Some e) home nodes)
    opened_on eight = by_test (adds e.attributes home e.complete) refl where
      by_test : (b : Bool) → adds e.attributes home e.complete ≡ b → GoesOn N (with_opened (Some e) home nodes)
      by_test false none = subst (GoesOn N) (opened_none (Some e) e home nodes refl none) (opened_without none)
      by_test true new = subst (GoesOn N) (opened_adds (Some e) e home nodes refl new) (opened_adding new eight)

  opened_go : (ask : OpenAsk) (o : Option Entry) → named ask.name R.entries ≡ o → length nodes ≡ 8 → refusal_in (open_answer R ask) ≡ None → IsSomeAnd o (FitsOpen m ask) → GoesOn (at_ckpt (identity_in o) R (λ k. opened k ask.client R)) (with_opened o (home_of ask.client R) nodes)
  opened_go ask None found eight granted fits = absurd fits
  opened_go ask (Some e) found eight granted fits = opened_on ask e found granted fits eight

  -- what an open adds, the node does not have yet
  opened_free : (ask : OpenAsk) (o : Option Entry) → named ask.name R.entries ≡ o → refusal_in (open_answer R ask) ≡ None → IsSomeAnd o (FitsOpen m ask) → HasNoneOf o (home_of ask.client R) nodes
  opened_free ask None found granted fits = tt
  opened_free ask (Some e) found granted fits = none_yet ask e found granted fits

  pub event_free : (s : CallState) (x : Driver) (step : RecordStep) → event_refusal R step x ≡ None → IsEventReady m s x step → CanAdd x step R nodes
  event_free s (drivers.Open o) events.Open granted ready = opened_free o.ask (named o.ask.name R.entries) refl granted ready.0
  event_free s (drivers.Once x) step granted ready = tt
  event_free s x step granted ready = tt

  change_go : (call : CallId) (s : CallState) (x : Driver) (step : RecordStep) → CompletesNone step → length nodes ≡ 8 → event_refusal R step x ≡ None → IsEventReady m s x step → GoesOn (event_change call x step R) (nodes_behind x step R nodes)
  change_go call s (drivers.Open o) events.Create none eight granted ready = on (created_as call o.ask.name o.ask.attrs R) (created_go call o.ask.name o.ask.attrs)
  change_go call s (drivers.Open o) events.Open none eight granted ready = opened_go o.ask (named o.ask.name R.entries) refl eight granted ready.0
  change_go call s (drivers.Open o) events.Finish none eight granted ready = on _ (finished_go o.ask.client s o.making ready.0)
  change_go call s (drivers.Open o) step none eight granted ready = quietly call (drivers.Open o) step tt
  change_go call s (drivers.Copy c) (events.Complete k r moment) none eight granted ready = absurd none
  change_go call s (drivers.Copy c) step none eight granted ready = quietly call (drivers.Copy c) step tt
  change_go call s x step none eight granted ready = quietly call x step tt

  -- what goes on does so after the sweep
  module _ (between : RecordState) (then : List (List Replica)) (on_going : GoesOn between then) where
    swept_goes : (j r : ℕ) → GoesAt R.up j (entry_of j R.entries) (entry_of j (swept between).entries) r (replica_in nodes j r) (replica_in then j r)
    swept_goes j r = goes_left R.up j (entry_of j R.entries) (entry_of j between.entries) (entry_of j (filter (stays between.moment) between.entries)) r (replica_in nodes j r) (replica_in then j r) (on_going.goes j r) (filter_leaves (stays between.moment) between.entries on_going.rises j)

  -- and after the sweep
  module _ (call : CallId) (s : CallState) (x : Driver) (step : RecordStep) (none : CompletesNone step) (eight : length nodes ≡ 8) (granted : event_refusal R step x ≡ None) (ready : IsEventReady m s x step) where
    on_going : GoesOn (event_change call x step R) (nodes_behind x step R nodes)
    on_going = change_go call s x step none eight granted ready

    pub event_goes : (j r : ℕ) → GoesAt R.up j (entry_of j R.entries) (entry_of j (event_after call x step R).entries) r (replica_in nodes j r) (replica_in (nodes_behind x step R nodes) j r)
    event_goes = swept_goes (event_change call x step R) (nodes_behind x step R nodes) on_going

    pub event_once : (r k : ℕ) → counted replica_key k (replicas_on (nodes_behind x step R nodes) r) ≤ 1
    event_once = on_going.once

  -- a completion by a node that lacks the checkpoint, and has reserved for it
  module _ (k r : ℕ) (e : Entry) (there : entry_of k R.entries ≡ Some e) (some : IsSome (m.reserved k r)) (lacks : lacks_replica r e ≡ true) (on_node : is_up r R ≡ true) (wide : length e.complete ≡ 8) where
    abbrev its_entry : Entry
    its_entry = completed_on r (slice_index R.up r) e

    -- it has the replica that its reservation has made
    pub reserved_replica : replica_in nodes k r ≡ Some (opened_replica k e.attributes e.made)
    reserved_replica = reserved_one k r (slice_index R.up r) (entry_of k R.entries) e (replica_in nodes k r) there (subst IsSome (sym (reserved k r)) some) (λ x. opening_there R nodes holds k r e x there (eqb-true (slice_index e.complete r) 0 (lacked_parts r e lacks).none))

    -- with the generation that its checkpoint has then
    abbrev pub raised_nodes : List (List Replica)
    raised_nodes = with_changed k r (raised its_entry.generation) nodes

    pub raised_there : (j q : ℕ) → replica_in raised_nodes j q ≡ cond ((j == k) && (q == r)) (Some (raised its_entry.generation (opened_replica k e.attributes e.made))) (replica_in nodes j q)
    raised_there = changed_here nodes k r (raised its_entry.generation) (λ x. refl) (opened_replica k e.attributes e.made) reserved_replica

    can : can_complete r (slice_index R.up r) e ≡ true
    can =
        let lacked : IsLacked r e = lacked_parts r e lacks in
        let some_life : not (slice_index R.up r == 0) ≡ true = (and_parts (nat_lt r 8) (not (slice_index R.up r == 0)) on_node).1 in
        λ i. not (is_some (lacked.made i)) && not (lacked.apart i) && some_life i && lacked.none i

    within : r < length e.complete
    within = subst (λ size. r < size) (sym wide) (ltb-true r 8 (and_parts (nat_lt r 8) (not (slice_index R.up r == 0)) on_node).0)

    -- so it is complete for it, in its incarnation
    pub complete_then : slice_index its_entry.complete r ≡ slice_index R.up r
    complete_then = node_complete r (slice_index R.up r) e can within

    pub complete_there : (slice_index its_entry.complete r == 0) ≡ false
    complete_there = ap (λ c. c == 0) complete_then ∙ not-true (slice_index R.up r == 0) (and_parts (nat_lt r 8) (not (slice_index R.up r == 0)) on_node).1

    -- and the checkpoint is there
    pub entry_then : entry_of k (swept (completed k r R)).entries ≡ Some its_entry
    entry_then =
        ap (λ (N : RecordState). entry_of k N.entries) (swept-all (completed k r R) (AllStay-change_key R.moment (completed_on r (slice_index R.up r)) k R.entries facts.stay (λ x found was. ap (stays R.moment) (rest_stays r (slice_index R.up r) x) ∙ was)))
        ∙ completed_at k r R e there

    -- what a completion leaves of all else
    pub declares : its_entry.attributes ≡ e.attributes
    declares = ap (λ (f : Entry). f.attributes) (rest_stays r (slice_index R.up r) e)

    as_made : its_entry.made ≡ e.made
    as_made = ap (λ (f : Entry). f.made) (rest_stays r (slice_index R.up r) e)

    node_goes : (q : ℕ) (b : Bool) → (q == r) ≡ b → NodeGoes R.up k e its_entry q (replica_in nodes k q) (cond b (Some (raised its_entry.generation (opened_replica k e.attributes e.made))) (replica_in nodes k q))
    node_goes q false other = inl (others_complete r (slice_index R.up r) e q (eqb-false q r other), refl, inl (ap (λ (f : Entry). f.making) (rest_stays r (slice_index R.up r) e)))
    node_goes q true same = subst (λ q. NodeGoes R.up k e its_entry q (replica_in nodes k q) (Some (raised its_entry.generation (opened_replica k e.attributes e.made)))) (sym (eqb-true q r same)) (inr (
      eqb-true (slice_index e.complete r) 0 (lacked_parts r e lacks).none,
      complete_then,
      on_node,
      (λ i. Some (record (opened_replica k (sym declares i) (sym as_made i)) { generation = its_entry.generation })),
    ))

    completed_going : GoesOn (completed k r R) raised_nodes
    completed_going = record {
      goes = λ j q. changed_goes R.up (completed_on r (slice_index R.up r)) (completed_on-keeps r (slice_index R.up r)).1 k j q R.entries e (replica_in nodes j q) (replica_in raised_nodes j q) there
          (λ same. subst (λ y. GoesAt R.up j (Some e) (Some its_entry) q (replica_in nodes j q) y) (sym (raised_there j q)) (
          let here : NodeGoes R.up k e its_entry q (replica_in nodes k q) (cond (q == r) (Some (raised its_entry.generation (opened_replica k e.attributes e.made))) (replica_in nodes k q)) = node_goes q (q == r) refl in
          subst (λ (z : ℕ × Bool). GoesAt R.up z.0 (Some e) (Some its_entry) q (replica_in nodes z.0 q) (cond (z.1 && (q == r)) (Some (raised its_entry.generation (opened_replica k e.attributes e.made))) (replica_in nodes z.0 q))) (λ i. (sym same i, sym (eq-eqb j k same) i)) (declares, as_made, here)
          ))
          (λ other. raised_there j q ∙ ap (λ b. cond (b && (q == r)) (Some (raised its_entry.generation (opened_replica k e.attributes e.made))) (replica_in nodes j q)) other);
      rises = IdentitiesRise-change_key (completed_on r (slice_index R.up r)) (completed_on-keeps r (slice_index R.up r)).1 k R.entries facts.rises;
      once = raised_once;
    }
      where
        at_node : (q : ℕ) → r < length nodes → (j : ℕ) → counted replica_key j (replicas_on raised_nodes q) ≤ 1
        at_node q on j = once_set nodes r on (change_key replica_key k (raised its_entry.generation) (replicas_on nodes r)) (λ j. subst (λ (n : ℕ). n ≤ 1) (sym (counted-change_key replica_key k j (raised its_entry.generation) (λ x. refl) (replicas_on nodes r))) (holds.once r j)) holds.once q j

        raised_once : (q j : ℕ) → counted replica_key j (replicas_on raised_nodes q) ≤ 1
        raised_once q j = at_node q (node_within nodes k r (opened_replica k e.attributes e.made) reserved_replica) j

    pub completed_goes : (j q : ℕ) → GoesAt R.up j (entry_of j R.entries) (entry_of j (swept (completed k r R)).entries) q (replica_in nodes j q) (replica_in raised_nodes j q)
    completed_goes = swept_goes (completed k r R) raised_nodes completed_going

    pub completed_once : (q j : ℕ) → counted replica_key j (replicas_on raised_nodes q) ≤ 1
    completed_once = completed_going.once

  -- and where a making is undone in between
  pub unmade_goes : (k j r : ℕ) → GoesAt R.up j (entry_of j R.entries) (entry_of j (swept (undone k R)).entries) r (replica_in nodes j r) (replica_in nodes j r)
  unmade_goes k = (stays_go (swept (undone k R)) ((swept_stays sight R R.clients (undone k R) (undone_stays sight R k)).3 facts.rises)).0
