-- What the failure of a node leaves of tables, of calls in hand and of background snapshots: what the machine has behind it.
use Rattle.std.proofs.Common.{◌≡◌, ℕ, Bool, true, false, List, [], Option, Some, None, refl, sym, ap, subst, ◌∙◌, cond}
use Rattle.std.specs.Prelude.{is_some, map, ◌||◌, ◌==◌, slice_get}
use Rattle.std.specs.Option.{option_map}
use Rattle.std.proofs.lemmas.Option.{slice_get-map}
use Rattle.ckpt_types.specs.declared.identities.ActorName.{ActorName}
use Rattle.ckpt_types.specs.declared.identities.ActorName.TheVariants.{Client, Node}
use Rattle.ckpt_types.specs.declared.identities.CallId.{CallId}
use Rattle.ckpt_types.specs.declared.identities.Who.{Who}
use Rattle.ckpt_types.specs.declared.identities.Who.TheVariants.{Actor, Call}
use Rattle.ckpt_types.specs.declared.operation.Op.{Op}
use Rattle.ckpt_types.specs.declared.operation.Op.TheVariants as ops
use Rattle.ckpt_types.specs.Asks.{asked}
use Rattle.ckpt_types.specs.OpWord.{is_async, word_of_op}
use Rattle.call_dispatch.specs.PendingCalls.{no_pending}
use Rattle.client_handles.specs.ClientState.{emptied}
use Rattle.cluster_record.specs.declared.entries.Entry.{Entry}
use Rattle.cluster_record.specs.Failing.{failed, goes_with_node}
use Rattle.cluster_record.specs.Identities.{IdentitiesRise}
use Rattle.cluster_record.specs.Places.{list_or, or_none}
use Rattle.cluster_record.specs.RecordState.{RecordState, entry_of, is_live_client, swept}
use Rattle.ckpt_machine.specs.Failing.{enters_on, is_abandoned, is_of_node, unless_abandoned}
use Rattle.ckpt_machine.specs.Machine.{no_tables}
use Rattle.ckpt_machine.specs.Under.{snapshot_under}
use Rattle.ckpt_machine.proofs.ByNumber.{at_number}
use Rattle.ckpt_machine.proofs.Actors.{same_call-true}
use Rattle.ckpt_machine.proofs.FailedClients.{found_then}
use Rattle.ckpt_machine.proofs.FailedEntries.{found_failed}
use Rattle.ckpt_machine.proofs.GoesAt.{copied_case}
use Rattle.client_calls.specs.Abandoning.{calls_left, place_left, table_gone, table_left}
use Rattle.client_calls.specs.AlonePlaces.{found_alone}
use Rattle.client_calls.specs.TableState.{TableState, kept_in, next_in, pending_in}
use Rattle.client_calls.specs.declared.in_hand.InHand.{InHand}
use Rattle.world_core.specs.Backgrounds.{background_in, backgrounds_left, HasRoom, HasRoomWhere, HaveRooms}
use Rattle.world_core.specs.Failing.{hands_left, tables_left}
use Rattle.world_core.specs.HandsState.{HandsState, hand_at}
use Rattle.world_core.specs.LiveRooms.{LiveHaveRoom, room_is_taken}
use Rattle.world_core.specs.Shows.{FitsHand, Beginning, pending_of, shown_hand, snapshot_shown, tables_of}
use Rattle.cluster_record.specs.StepDone.{StepDone}
use Rattle.ckpt_machine.specs.Machine.{Effect}
use Rattle.world_core.specs.declared.snapshots.Background.{Background}
use Rattle.world_core.proofs.Freeing.{rooms_left, snapshot_shown-left}
use Rattle.world_core.proofs.HandLaws.{found-call}
use Rattle.world_core.proofs.Recording.{none_pulled}

-- ---- the tables

module _ (R : RecordState) (r : ℕ) (tables : List TableState) where
  abbrev goes : ℕ → Bool
  goes = goes_with_node R r

  -- what is told of the table of a client behind it, is told of it as it was, or of what is left of it
  told_left : {X : Type 0} (told : Option TableState → X) (change : X → X) → change (told None) ≡ told None → ((t : TableState) → told (Some (table_gone t)) ≡ change (told (Some t))) → (c : ℕ) → told (slice_get (tables_left goes tables) c) ≡ cond (goes c) (change (told (slice_get tables c))) (told (slice_get tables c))
  told_left {X} told change none some c = ap told (at_number (table_left goes) tables c) ∙ by_table (slice_get tables c) where
    by_table : (o : Option TableState) → told (option_map (table_left goes c) o) ≡ cond (goes c) (change (told o)) (told o)
    by_table None = elim (goes c) as (λ b. told None ≡ cond b (change (told None)) (told None)) [ true ↦ sym none | false ↦ refl ]
    by_table (Some t) = elim (goes c) as (λ b. told (Some (cond b (table_gone t) t)) ≡ cond b (change (told (Some t))) (told (Some t))) [ true ↦ some t | false ↦ refl ]

  -- handles and iterations
  pub tables_are : (a : ActorName) → cond (is_of_node R r a) (emptied (tables_of tables a)) (tables_of tables a) ≡ tables_of (tables_left goes tables) a
  tables_are (Client c) = sym (told_left kept_in emptied refl (λ t. refl) c)
  tables_are (Node q) = elim (q == r) as (λ b. cond b (emptied no_tables) no_tables ≡ no_tables) [ true ↦ refl | false ↦ refl ]

  -- asynchronous calls
  pub pending_are : (a : ActorName) → cond (is_of_node R r a) no_pending (pending_of tables a) ≡ pending_of (tables_left goes tables) a
  pending_are (Client c) = sym (told_left pending_in (λ p. no_pending) refl (λ t. refl) c)
  pending_are (Node q) = elim (q == r) as (λ b. cond b no_pending no_pending ≡ no_pending) [ true ↦ refl | false ↦ refl ]

  -- numbers of calls
  pub next_left : (c : ℕ) → next_in (slice_get tables c) ≡ next_in (slice_get (tables_left goes tables) c)
  next_left c = sym (told_left next_in (λ n. n) refl (λ t. refl) c ∙ elim (goes c) as (λ b. cond b (next_in (slice_get tables c)) (next_in (slice_get tables c)) ≡ next_in (slice_get tables c)) [ true ↦ refl | false ↦ refl ])

  -- rooms
  pub rooms_then : (counts : ℕ → ℕ → ℕ) → LiveHaveRoom R tables → LiveHaveRoom (swept (failed counts r R)) (tables_left goes tables)
  rooms_then counts rooms c live =
      let was : is_live_client c R ≡ true = was_live _ (goes c) (ap is_some (sym (found_then counts r R c)) ∙ live) in
      told_left room_is_taken (λ b. b) refl (λ t. refl) c
      ∙ elim (goes c) as (λ b. cond b (room_is_taken (slice_get tables c)) (room_is_taken (slice_get tables c)) ≡ room_is_taken (slice_get tables c)) [ true ↦ refl | false ↦ refl ]
      ∙ rooms c was
    where
      was_live : {X : Type 0} (o : Option X) (b : Bool) → is_some (cond b None o) ≡ true → is_some o ≡ true
      was_live o true some = absurd (cc some)
      was_live o false some = some

-- ---- the calls in hand

-- an asynchronous call is no Initialize
pub no_enter : (r : ℕ) (op : Op) → is_async (word_of_op op) ≡ true → enters_on r (asked op) ≡ false
no_enter r (ops.OpenAsync place invocation name flags a) async = refl
no_enter r (ops.SyncAsync place invocation) async = refl
no_enter r op async = absurd (cc async)

module _ (R : RecordState) (r : ℕ) (hands : HandsState) where
  -- a call of a client
  abbrev call_of : ℕ → ℕ → CallId
  call_of c n = record { actor = Client c; number = n }

  -- what is found among the asynchronous calls of a client behind it
  alone_case : (c n : ℕ) (xs : List (Option InHand)) → ((h : InHand) → found_alone (record { actor = Client c; number = n }) xs ≡ Some h → enters_on r (asked h.op) ≡ false)
      → found_alone (record { actor = Client c; number = n }) (calls_left (goes_with_node R r) c xs) ≡ place_left R r (found_alone (record { actor = Client c; number = n }) xs)
  alone_case c n xs alone = by_found (found_alone (call_of c n) xs) refl
    where
      by_found : (o : Option InHand) → found_alone (call_of c n) xs ≡ o → found_alone (call_of c n) (cond (goes_with_node R r c) [] xs) ≡ place_left R r o
      by_found None is = elim (goes_with_node R r c) as (λ b. found_alone (call_of c n) (cond b [] xs) ≡ None) [ true ↦ refl | false ↦ is ]
      by_found (Some h) is =
          let own : is_of_node R r h.call.actor ≡ goes_with_node R r c = ap (λ (z : CallId). is_of_node R r z.actor) (same_call-true h.call (call_of c n) (found-call (call_of c n) xs h is)) in
          let test : is_abandoned R r h.call h.op ≡ (goes_with_node R r c || false) = (λ i. own i || alone h is i) in
          elim (goes_with_node R r c) as (λ b. found_alone (call_of c n) (cond b [] xs) ≡ cond (b || false) None (Some h)) [ true ↦ refl | false ↦ is ]
          ∙ sym (ap (λ b. cond b None (Some h)) test)

  -- what waits in a place behind it
  waits_left : (places : List (Option InHand)) (i : ℕ) → or_none (slice_get (map (place_left R r) places) i) ≡ place_left R r (or_none (slice_get places i))
  waits_left places i = ap or_none (slice_get-map (place_left R r) places i) ∙ by_place (slice_get places i) where
    by_place : (o : Option (Option InHand)) → or_none (option_map (place_left R r) o) ≡ place_left R r (or_none o)
    by_place None = refl
    by_place (Some place) = refl

  -- the call in hand under each name
  pub hand_left_at : ((call : CallId) (h : InHand) → hand_at hands (Call call) ≡ Some h → enters_on r (asked h.op) ≡ false) → (v : Who) → hand_at (hands_left R r hands) v ≡ place_left R r (hand_at hands v)
  hand_left_at alone (Actor (Client c)) = waits_left hands.clients c
  hand_left_at alone (Actor (Node q)) = waits_left hands.nodes q
  hand_left_at alone (Call call) = by_actor call.actor call.number (alone call) where
    by_actor : (a : ActorName) (n : ℕ) → ((h : InHand) → hand_at hands (Call (record { actor = a; number = n })) ≡ Some h → enters_on r (asked h.op) ≡ false)
        → hand_at (hands_left R r hands) (Call (record { actor = a; number = n })) ≡ place_left R r (hand_at hands (Call (record { actor = a; number = n })))
    by_actor (Client c) n alone =
        ap (λ o. found_alone (record { actor = Client c; number = n }) (list_or o)) (at_number (calls_left (goes_with_node R r)) hands.alone c)
        ∙ ap (found_alone (record { actor = Client c; number = n })) (by_list (slice_get hands.alone c))
        ∙ alone_case c n (list_or (slice_get hands.alone c)) alone
      where
        by_list : (o : Option (List (Option InHand))) → list_or (option_map (calls_left (goes_with_node R r) c) o) ≡ calls_left (goes_with_node R r) c (list_or o)
        by_list None = elim (goes_with_node R r c) as (λ b. ◌≡◌ {A = List (Option InHand)} [] (cond b [] [])) [ true ↦ refl | false ↦ refl ]
        by_list (Some xs) = refl
    by_actor (Node q) n alone = refl

-- as the machine has it
pub shown_abandoned : (R : RecordState) (r : ℕ) (began : Beginning) (steps : List StepDone) (created : Option (List ℕ)) (pulled : Option (List Effect)) (o : Option InHand) → unless_abandoned R r (shown_hand began steps created pulled o) ≡ shown_hand began steps created pulled (place_left R r o)
shown_abandoned R r began steps created pulled None = refl
shown_abandoned R r began steps created pulled (Some h) =
    elim (is_abandoned R r h.call h.op) as (λ b. cond b None (shown_hand began steps created pulled (Some h)) ≡ shown_hand began steps created pulled (cond b None (Some h))) [ true ↦ refl | false ↦ refl ]

-- and those that stay are where their steps have led them
pub fits_abandoned : (R : RecordState) (r : ℕ) (began : Beginning) (steps : List StepDone) (created : Option (List ℕ)) (pulled : Option (List Effect)) (o : Option InHand) → FitsHand began steps created pulled o → FitsHand began steps created pulled (place_left R r o)
fits_abandoned R r began steps created pulled None fits = tt
fits_abandoned R r began steps created pulled (Some h) fits = elim (is_abandoned R r h.call h.op) as (λ b. FitsHand began steps created pulled (cond b None (Some h))) [ true ↦ tt | false ↦ fits ]

-- ---- the background snapshots

module _ (counts : ℕ → ℕ → ℕ) (r : ℕ) (R : RecordState) (backgrounds : List Background) (rises : IdentitiesRise R.entries) (keeps : HaveRooms R.entries backgrounds) where
  abbrev N : RecordState
  N = swept (failed counts r R)

  -- they go with their checkpoints
  pub snapshots_are : (k : ℕ) (E : List Effect) → snapshot_under (entry_of k N.entries) (snapshot_shown R backgrounds k E) ≡ snapshot_shown N (backgrounds_left N.entries backgrounds) k E
  snapshots_are k E =
      copied_case (entry_of k R.entries) (entry_of k N.entries) E _ (none_pulled (entry_of k R.entries) (background_in backgrounds k) (keeps.each k))
      ∙ sym (snapshot_shown-left N backgrounds k E)

  same_room : (e f : Entry) → f.attributes ≡ e.attributes → (b : Option Background) → HasRoom (Some e) b → HasRoom (Some f) b
  same_room e f same b has = subst (λ (a : _). HasRoom (Some (record f { attributes = a })) b) (sym same) (by_room b has) where
    by_room : (b : Option Background) → HasRoom (Some e) b → HasRoom (Some (record f { attributes = e.attributes })) b
    by_room None has = has
    by_room (Some b) has = has

  -- and each that stays has its room
  pub rooms_are : HaveRooms N.entries (backgrounds_left N.entries backgrounds)
  rooms_are = rooms_left N.entries backgrounds (record { each = λ k. by_entry k (entry_of k N.entries) refl; once = keeps.once }) where
    by_entry : (k : ℕ) (o : Option Entry) → entry_of k N.entries ≡ o → HasRoomWhere o (background_in backgrounds k)
    by_entry k None is = tt
    by_entry k (Some f) is =
        let left = found_failed counts r R rises k f is in
        same_room left.before f left.left.attributes (background_in backgrounds k) (subst (λ (o : Option Entry). HasRoom o (background_in backgrounds k)) left.was (keeps.each k))
