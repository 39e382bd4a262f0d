-- The invariant holds behind the failure of a node.
use Rattle.std.proofs.Common.{◌≡◌, ℕ, ◌≤◌, ◌+◌, List, [], ◌∷◌, length, Option, Some, None, is_some, option_map, Bool, true, false, cond, ◌==◌, refl, sym, ap, subst, ◌∙◌, arith}
use Rattle.std.specs.Prelude.{IsSomeAnd, IfSome, Contains, slice_set, slice_index}
use Rattle.std.proofs.lemmas.Bool.{eqb-true, eq-eqb}
use Rattle.std.proofs.lemmas.Option.{same_Some}
use Rattle.ckpt_types.specs.declared.attributes.CreationAttributes.{CreationAttributes}
use Rattle.ckpt_types.specs.declared.identities.ActorName.{ActorName}
use Rattle.ckpt_types.specs.declared.identities.ActorName.TheVariants.{Client}
use Rattle.ckpt_types.specs.declared.identities.CallId.{CallId}
use Rattle.ckpt_types.specs.Attributes.{is_malformed}
use Rattle.ckpt_types.specs.Limits.{handles_max}
use Rattle.call_dispatch.specs.declared.async_call.AsyncCall.{AsyncCall}
use Rattle.call_dispatch.specs.PendingCalls.{PendingCalls, find_async, no_pending}
use Rattle.client_handles.specs.ClientState.{NoneLent, emptied}
use Rattle.client_handles.proofs.LentLaws.{NoneLent-emptied}
use Rattle.client_handles.specs.declared.handle_view.HandleView.{HandleView}
use Rattle.cluster_record.specs.declared.clients.LiveClient.{LiveClient}
use Rattle.cluster_record.specs.declared.entries.Entry.{Entry}
use Rattle.cluster_record.specs.Calls.{number_of}
use Rattle.cluster_record.specs.Failing.{goes_with_node, lives_on, is_of_those, failed}
use Rattle.cluster_record.specs.Makings.{makings_of}
use Rattle.cluster_record.specs.Placement.{is_collocated}
use Rattle.cluster_record.specs.Places.{find_key}
use Rattle.cluster_record.specs.RecordState.{RecordState, entry_of, complete_of, home_of, node_of_client, is_active, no_nodes, client_key}
use Rattle.ckpt_machine.specs.InHand.{IsInPlace, IsOpenIn}
use Rattle.ckpt_machine.specs.Invariant.{InvariantIn, IsGoodIn, IsMaker, IsGoodClient, IsGoodHandle, IsOfGeneration, IsCompleteAt, IsReservedFor, AreCalls, IsBegunBy, IsKeptOf, calls_of}
use Rattle.ckpt_machine.specs.Machine.{Machine, ReplicaState, who}
use Rattle.ckpt_machine.specs.Shape.{Shape, IsCompleteOn, IsSpread}
use Rattle.ckpt_machine.specs.Failing.{is_of_node, enters_on, failed_at, replica_left}
use Rattle.ckpt_machine.specs.Laws.{FailuresKeep}
use Rattle.ckpt_machine.specs.After.{replica_under, replicas_under, reservation_under, opened_state}
use Rattle.ckpt_machine.specs.Due.{count_in}
use Rattle.ckpt_machine.proofs.FewEntries.{fewer_from}
use Rattle.ckpt_machine.proofs.OptionLemmas.{IsSomeAnd-from, IfSome-from, IfSome-at}
use Rattle.ckpt_machine.proofs.NodeLists.{length-slice_set, index-other, is_up-none}
use Rattle.ckpt_machine.proofs.EntryLists.{AllStay-swept}
use Rattle.ckpt_machine.proofs.FewerMakings.{fewer_makings}
use Rattle.ckpt_machine.proofs.KeptLists.{among_none}
use Rattle.ckpt_machine.proofs.FailedEntries.{failed_rises, then_rises, then_up_to}
use Rattle.ckpt_machine.proofs.FailedClients.{up_other, found_then, found_staying, of_node_client, of_those, home_elsewhere}
use Rattle.ckpt_machine.proofs.FailedCalls.{left_is, still, left_stays, by_client}
use Rattle.ckpt_machine.proofs.ReservedUnder.{was_reserved, reserved_later}
use Rattle.ckpt_machine.proofs.NodeGone.{complete_was, complete_still}
use Rattle.ckpt_machine.proofs.FailedShape.{generation_led}
use Rattle.ckpt_machine.proofs.FailedSpread.{spread_then}
use Rattle.ckpt_machine.proofs.FailedHands.{shapes_then, WasEntry, was_entry, made_then, hand_then}
use Rattle.ckpt_types.proofs.Lists.{slice_set-replicate, slice_index-cleared}

module _ (m : Machine) (shapes : ℕ → Shape) (inv : InvariantIn shapes m) (r : ℕ) where
  -- the machine behind the failure
  abbrev n : Machine
  n = failed_at r m

  -- its record
  abbrev R : RecordState
  R = n.cluster

  -- how many updates the replicas have
  abbrev counts : ℕ → ℕ → ℕ
  counts k q = count_in (m.replicas k q)

  -- the clients that go
  abbrev goes : ℕ → Bool
  goes = goes_with_node m.cluster r

  -- ---- entries

  -- an entry is in the making by a call in hand, or made and spread
  good_then : (k : ℕ) (f : Entry) → entry_of k R.entries ≡ Some f → IsGoodIn n k (shapes_then m shapes inv r k) f f.making
  good_then k f found = by_making f.making refl
    where
      it : WasEntry m shapes inv r k f
      it = was_entry m shapes inv r k f found

      by_making : (o : Option CallId) → f.making ≡ o → IsGoodIn n k (shapes_then m shapes inv r k) f o
      by_making None made = subst (λ z. IsSpread n k z f) (sym it.shape) (spread_then m shapes inv r k (counts it.e.identity) it.e f it.was found it.left it.kept made)
      by_making (Some d) by =
          let by_it : it.e.making ≡ Some d = sym it.left.making ∙ by in
          let good : IsGoodIn m k (shapes k) it.e (Some d) = subst (IsGoodIn m k (shapes k) it.e) by_it (inv.entries k it.e it.was) in
          let stays : is_active it.e.active r ≡ false = ap (λ o. is_active o r) good.0.unled in (
            record {
              complete = it.left.complete ∙ ap (λ cs. slice_set cs r 0) good.0.complete ∙ slice_set-replicate 8 r;
              generation = (it.left.led stays).1 ∙ good.0.generation;
              unled = (it.left.led stays).0 ∙ good.0.unled;
              free = it.left.hold ∙ ap (λ o. cond (is_of_those goes o) None o) good.0.free;
              well_formed = ap is_malformed it.left.attributes ∙ good.0.well_formed;
              clients = it.left.clients ∙ good.0.clients;
            },
            maker_then good.1 (ap (is_of_those goes) (sym by_it) ∙ it.others),
          )
        where
          -- its maker is in hand still
          maker_then : IsMaker m k d → is_of_those goes (Some d) ≡ false → IsMaker n k d
          maker_then own others =
              let hand = inv.hands (who own.state) own.state own.in_hand in
              let at : IsOpenIn m own.state own.driver = subst (IsInPlace m shapes own.state) own.driver_is hand.here in
              let stays : is_of_node m.cluster r own.state.call.actor ≡ false = of_node_client m.cluster r own.state.call.actor at.caller ∙ sym (of_those goes own.state.call at.caller) ∙ ap (λ c. is_of_those goes (Some c)) own.call_is ∙ others in
              record {
                state = own.state;
                in_hand = still m shapes inv r (who own.state) own.state own.in_hand (by_client m shapes inv r own.state (ap (enters_on r) at.asks.asks) ∙ stays);
                call_is = own.call_is;
                driver = own.driver;
                driver_is = own.driver_is;
                making = own.making;
                making_is = own.making_is;
                ckpt = own.ckpt;
              }

  -- ---- replicas and reservations

  -- a replica that is there was there, on a node that is complete
  pub replica_was : (k q : ℕ) (f : Entry) → entry_of k R.entries ≡ Some f → (y : ReplicaState) → replicas_under m.cluster R m.replicas k q ≡ Some y → IsCompleteOn f q × (m.replicas k q ≡ Some y)
  replica_was k q f found y is = by_test (slice_index f.complete q == 0) refl (sym (ap (λ o. replica_under o (slice_index (complete_of (entry_of k m.cluster.entries)) q) q (m.replicas k q)) found) ∙ is)
    where
      by_test : (b : Bool) → (slice_index f.complete q == 0) ≡ b → cond b None (cond (slice_index (complete_of (entry_of k m.cluster.entries)) q == 0) (Some (opened_state f)) (m.replicas k q)) ≡ Some y → (b ≡ false) × (m.replicas k q ≡ Some y)
      by_test true none gone = absurd (cc gone)
      by_test false there some =
          let it = was_entry m shapes inv r k f found in
          let before = (complete_was it.e.complete r q (ap (λ cs. slice_index cs q == 0) (sym it.left.complete) ∙ there)).1 in
          (refl, sym (ap (λ b. cond b (Some (opened_state f)) (m.replicas k q)) (ap (λ o. slice_index (complete_of o) q == 0) it.was ∙ before)) ∙ some)

  -- and may have its generation
  complete_then : (k q : ℕ) (x : ReplicaState) → n.replicas k q ≡ Some x → IsCompleteAt R k q x.generation
  complete_then k q x is = by_under (replicas_under m.cluster R m.replicas k q) refl is
    where
      generation_then : (f : Entry) (it : WasEntry m shapes inv r k f) (y : ReplicaState) → m.replicas k q ≡ Some y → (g : ℕ) → g ≡ cond (is_active f.active q) f.generation y.generation → IsOfGeneration f q g
      generation_then f it y y_is g g_is =
          let at : IsOfGeneration it.e q y.generation = (subst (λ o. IsSomeAnd o (λ (e : Entry). IsCompleteOn e q × IsOfGeneration e q y.generation)) it.was (inv.replicas k q y y_is)).1 in
          let older : y.generation ≤ it.e.generation = at.within in
          let rises : it.e.generation ≤ f.generation = failed_rises (counts it.e.identity) goes r it.e f it.left in
          record {
            within = within_by (is_active f.active q) g_is older rises;
            led = λ led. g_is ∙ ap (λ b. cond b f.generation y.generation) (ap (λ o. is_active o q) led ∙ eq-eqb q q refl);
          }
        where
          within_by : (b : Bool) → g ≡ cond b f.generation y.generation → y.generation ≤ it.e.generation → it.e.generation ≤ f.generation → g ≤ f.generation
          within_by true is older rises = let same : g ≡ f.generation = is in omega (arith, same)
          within_by false is older rises = let same : g ≡ y.generation = is in let a : y.generation ≤ it.e.generation = older in let b : it.e.generation ≤ f.generation = rises in omega (arith, same, a, b)

      by_entry : (o : Option Entry) → entry_of k R.entries ≡ o → (y : ReplicaState) → replicas_under m.cluster R m.replicas k q ≡ Some y → replica_left R k q y ≡ x → IsCompleteAt R k q x.generation
      by_entry None none y under same = absurd (let w : None ≡ Some y = sym (ap (λ o. replica_under o (slice_index (complete_of (entry_of k m.cluster.entries)) q) q (m.replicas k q)) none) ∙ under in cc w)
      by_entry (Some f) found y under same =
          let (there, y_is) = replica_was k q f found y under in
          let it = was_entry m shapes inv r k f found in
          IsSomeAnd-from (entry_of k R.entries) (λ (e : Entry). IsCompleteOn e q × IsOfGeneration e q x.generation) f found
          (there, generation_then f it y y_is x.generation (ap (λ (v : ReplicaState). v.generation) (sym same) ∙ generation_led R k q f y found))

      by_under : (o : Option ReplicaState) → replicas_under m.cluster R m.replicas k q ≡ o → option_map (replica_left R k q) o ≡ Some x → IsCompleteAt R k q x.generation
      by_under None none is = absurd (cc is)
      by_under (Some y) under is = by_entry (entry_of k R.entries) refl y under (same_Some (replica_left R k q y) x is)

  -- what is reserved is for what it was
  reserves_then : (k q i : ℕ) → n.reserved k q ≡ Some i → IsSomeAnd (entry_of k R.entries) (IsReservedFor R q i)
  reserves_then k q i is = elim (q == r) as (λ b. (q == r) ≡ b → cond b None (reservation_under (entry_of k R.entries) q (m.reserved k q)) ≡ Some i → IsSomeAnd (entry_of k R.entries) (IsReservedFor R q i)) [
    | true ↦ λ same gone. absurd (cc gone)
    | false ↦ λ other some. was_reserved (entry_of k R.entries) q i (m.reserved k q) (IsReservedFor R q i) (λ f found free was.
        let it = was_entry m shapes inv r k f found in
        reserved_later m.cluster R q i it.e f it.left.making it.left.attributes free (index-other m.cluster.up r q 0 other)
        (subst (λ o. IsSomeAnd o (IsReservedFor m.cluster q i)) it.was (inv.reserves k q i was))) some
  ] refl is

  -- ---- clients and their tables

  -- a client that is live is on a node that is up
  client_then : (c : ℕ) → IfSome (find_key client_key c R.clients) (IsGoodClient m.next R c)
  client_then c = subst (λ o. IfSome o (IsGoodClient m.next R c)) (sym (found_then counts r m.cluster c)) (by_goes (goes c) refl)
    where
      by_found : (o : Option LiveClient) → lives_on r o ≡ false → IfSome o (IsGoodClient m.next m.cluster c) → IfSome o (IsGoodClient m.next R c)
      by_found None stays good = tt
      by_found (Some live) stays good = (good.0, up_other counts r m.cluster live.node stays ∙ good.1)

      by_goes : (b : Bool) → goes c ≡ b → IfSome (cond b None (find_key client_key c m.cluster.clients)) (IsGoodClient m.next R c)
      by_goes true is = tt
      by_goes false is = by_found (find_key client_key c m.cluster.clients) is (inv.clients c)

  -- so where none is up no client is live
  none_then : R.up ≡ no_nodes → R.clients ≡ []
  none_then none = by_list R.clients refl
    where
      by_list : (xs : List LiveClient) → R.clients ≡ xs → R.clients ≡ []
      by_list [] is = is
      by_list (x ∷ xs) is =
          let found : find_key client_key x.client R.clients ≡ Some x = ap (find_key client_key x.client) is ∙ ap (λ b. cond b (Some x) (find_key client_key x.client xs)) (eq-eqb x.client x.client refl) in
          let good : IsGoodClient m.next R x.client x = subst (λ o. IfSome o (IsGoodClient m.next R x.client)) found (client_then x.client) in
          absurd (let w : true ≡ false = sym good.1 ∙ is_up-none x.node R none in cc w)

  -- a handle is of a live client and of a checkpoint that was made
  handle_then : (a : ActorName) (h : HandleView) → Contains (n.tables a).handles h → IsGoodHandle R a h
  handle_then a h among = by_node (is_of_node m.cluster r a) refl among
    where
      by_node : (b : Bool) → is_of_node m.cluster r a ≡ b → Contains (cond b (emptied (m.tables a)) (m.tables a)).handles h → IsGoodHandle R a h
      by_node true goes there = absurd (among_none h there)
      by_node false stays there =
          let was = inv.handles a h there in
          let client_stays : goes (number_of a) ≡ false = sym (of_node_client m.cluster r a was.client) ∙ stays in
          let same : find_key client_key (number_of a) R.clients ≡ find_key client_key (number_of a) m.cluster.clients = found_staying counts r m.cluster (number_of a) client_stays in
          record {
            client = was.client;
            live = ap is_some same ∙ was.live;
            made = made_then m shapes inv r h.id was.made;
            placed = IfSome-from (entry_of h.id R.entries) (λ e. is_collocated e.attributes ≡ true → IsCompleteOn e (home_of (number_of a) R)) (λ f found collocated.
                let it = was_entry m shapes inv r h.id f found in
                let before : IsCompleteOn it.e (home_of (number_of a) m.cluster) = IfSome-at (entry_of h.id m.cluster.entries) (λ (e : Entry). is_collocated e.attributes ≡ true → IsCompleteOn e (home_of (number_of a) m.cluster)) was.placed it.e it.was (ap is_collocated (sym it.left.attributes) ∙ collocated) in
                subst (IsCompleteOn f) (ap node_of_client (sym same))
                (ap (λ cs. slice_index cs (home_of (number_of a) m.cluster) == 0) it.left.complete ∙ complete_still it.e.complete r (home_of (number_of a) m.cluster) (home_elsewhere m.cluster r (number_of a) was.live client_stays) before));
            flags = IfSome-from (entry_of h.id R.entries) (λ e. h.creation_flags ≡ e.attributes.creation_flags) (λ f found.
                let it = was_entry m shapes inv r h.id f found in
                IfSome-at (entry_of h.id m.cluster.entries) (λ (e : Entry). h.creation_flags ≡ e.attributes.creation_flags) was.flags it.e it.was ∙ ap (λ (x : CreationAttributes). x.creation_flags) (sym it.left.attributes));
          }

  -- no iteration is lent
  rest_then : (a : ActorName) → NoneLent (n.tables a)
  rest_then a = by_node (is_of_node m.cluster r a)
    where
      by_node : (b : Bool) → NoneLent (cond b (emptied (m.tables a)) (m.tables a))
      by_node true = NoneLent-emptied (m.tables a)
      by_node false = inv.rest a

  -- each client has room for what it makes
  places_then : (c : ℕ) → length (n.tables (Client c)).handles + makings_of c R.entries ≤ handles_max
  places_then c =
      let few : length (m.tables (Client c)).handles + makings_of c m.cluster.entries ≤ handles_max = inv.places c in
      let fewer_handles : length (n.tables (Client c)).handles ≤ length (m.tables (Client c)).handles = by_node (is_of_node m.cluster r (Client c)) in
      omega (arith, few, fewer_handles, fewer_makings c m.cluster.entries R.entries inv.rises (then_rises counts r m.cluster inv.rises) (λ k f found. let it = was_entry m shapes inv r k f found in (it.e, it.was, it.left.making)))
    where
      by_node : (b : Bool) → length (cond b (emptied (m.tables (Client c))) (m.tables (Client c))).handles ≤ length (m.tables (Client c)).handles
      by_node true = omega arith
      by_node false = omega arith

  -- ---- calls

  -- the calls in hand, and those that are not dispatched, are as they were
  calls_then : AreCalls n.in_hand n.pending n.next
  calls_then = record {
    one_name = λ w v s t at there same. inv.calls.one_name w v s t (left_is m shapes inv r w s at).0 (left_is m shapes inv r v t there).0 same;
    begun = λ a c among. by_node a c (is_of_node m.cluster r a) among;
    kept = λ w s at async. (
        let (held, others) = left_is m shapes inv r w s at in
        subst (λ (p : PendingCalls). IsSomeAnd (find_async s.call p.unfinished) (IsKeptOf s)) (sym (ap (λ b. cond b no_pending (m.pending s.call.actor)) (left_stays m shapes inv r s others))) (inv.calls.kept w s held async));
  }
    where
      by_node : (a : ActorName) (c : AsyncCall) (b : Bool) → Contains (calls_of (cond b no_pending (m.pending a))) c → IsBegunBy m.next a c
      by_node a c true among = absurd (among_none c among)
      by_node a c false among = inv.calls.begun a c among

  -- ---- incarnations

  -- no node is up in one beyond its last
  no_later_then : (q : ℕ) → slice_index (slice_set m.cluster.up r 0) q ≤ slice_index m.cluster.last_incarnations q
  no_later_then q = elim (q == r) as (λ b. (q == r) ≡ b → slice_index (slice_set m.cluster.up r 0) q ≤ slice_index m.cluster.last_incarnations q) [
    | true ↦ λ same. (let gone : slice_index (slice_set m.cluster.up r 0) q ≡ 0 = ap (slice_index (slice_set m.cluster.up r 0)) (eqb-true q r same) ∙ slice_index-cleared m.cluster.up r in omega (arith, gone))
    | false ↦ λ other. subst (λ (n : ℕ). n ≤ slice_index m.cluster.last_incarnations q) (sym (index-other m.cluster.up r q 0 other)) (inv.incarnations.no_later q)
  ] refl

  -- ---- the whole

  -- all of the invariant, by its fields
  pub failure_keeps : InvariantIn (shapes_then m shapes inv r) n
  failure_keeps = record {
    up = length-slice_set m.cluster.up r 0 ∙ inv.up;
    first_up = λ none. ap (λ up. slice_set up r 0) (inv.first_up none) ∙ slice_set-replicate 8 r;
    incarnations = record { nodes = inv.incarnations.nodes; first_nodes = inv.incarnations.first_nodes; no_later = no_later_then; from_one = inv.incarnations.from_one; present = inv.incarnations.present };
    none_live = none_then;
    rises = then_rises counts r m.cluster inv.rises;
    up_to = then_up_to counts r m.cluster inv.rises m.cluster.last_identity inv.up_to;
    few =
        let no_more : length R.entries ≤ length m.cluster.entries = fewer_from m.cluster.entries R.entries inv.rises (then_rises counts r m.cluster inv.rises) (λ k f found. (let it = was_entry m shapes inv r k f found in (it.e, it.was))) in
        let before : length m.cluster.entries ≤ 16 = inv.few in
        omega (arith, no_more, before);
    swept = AllStay-swept m.cluster.moment (failed counts r m.cluster).entries;
    entries = good_then;
    replicas = complete_then;
    reserves = reserves_then;
    handles = handle_then;
    rest = rest_then;
    clients = client_then;
    places = places_then;
    hands = λ w s at. hand_then m shapes inv r w s at;
    calls = calls_then;
  }

-- THE LAW OF A FAILURE
pub failures_keep : FailuresKeep
failures_keep m r inv up = record { shapes = shapes_then m inv.shapes inv.holds r; holds = failure_keeps m inv.shapes inv.holds r }
