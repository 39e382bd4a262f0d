-- What is asked of the active, by the kind of the call; and the active of a checkpoint that is made.
use Rattle.std.proofs.Common.{◌≡◌, ◌⊎◌, ℕ, inl, inr, ◌<◌, List, length, Option, Some, None, Bool, true, false, cond, not, ◌&&◌, refl, ap, subst, ◌∙◌, ℤ}
use Rattle.std.specs.Prelude.{IsSomeAnd, IfSome}
use Rattle.std.proofs.lemmas.Option.{same_Some}
use Rattle.ckpt_types.specs.declared.ais_error.AisError.TheVariants.{NoResources}
use Rattle.ckpt_types.specs.declared.answers.Cause.TheVariants.{Count}
use Rattle.ckpt_types.specs.declared.answers.Outcome.TheVariants.{Refused}
use Rattle.ckpt_types.specs.declared.identities.CallId.{CallId}
use Rattle.node_msgs.specs.declared.next.Next.TheVariants.{Serve, End}
use Rattle.ckpt_types.specs.declared.update.ReadElement.{ReadElement}
use Rattle.cluster_record.specs.declared.calls.ActiveKind.{ActiveKind}
use Rattle.cluster_record.specs.declared.calls.ActiveKind.TheVariants as kinds
use Rattle.cluster_record.specs.declared.entries.Entry.{Entry}
use Rattle.cluster_record.specs.DueActive.{unless_changed, unless_on_hold, active_on, on_active, request_by, starts_iteration}
use Rattle.cluster_record.specs.declared.calls.MarksMade.{MarksMade}
use Rattle.weak_marks.specs.Marks.{Marked}
use Rattle.cluster_record.specs.Placement.{is_collocated, is_all}
use Rattle.cluster_record.specs.RecordState.{entry_of}
use Rattle.ckpt_types.specs.Asks.{Ask}
use Rattle.ckpt_types.specs.Asks as asks
use Rattle.ckpt_machine.specs.Tables.{choice_of}
use Rattle.ckpt_machine.specs.Drivers.{Rooms}
use Rattle.ckpt_machine.specs.Drivers as drivers
use Rattle.ckpt_machine.specs.Driving.{kind_of_change, driver_next}
use Rattle.ckpt_machine.specs.Entries.{WasMade}
use Rattle.ckpt_machine.specs.InHand.{active_kind}
use Rattle.ckpt_machine.specs.Invariant.{IsGoodIn, IsOfGeneration, InvariantIn}
use Rattle.ckpt_types.specs.declared.update.IoElement.{IoElement}
use Rattle.ckpt_types.specs.declared.update.Update.{Update}
use Rattle.ckpt_types.specs.declared.update.Update.TheVariants as updates
use Rattle.ckpt_machine.specs.Options.{is_by_element}
use Rattle.ckpt_machine.specs.Machine.{Machine, ReplicaState}
use Rattle.ckpt_machine.specs.Seen.{seen, seen_at, seen_by}
use Rattle.ckpt_machine.specs.GuardTerms.{OnReplica}
use Rattle.ckpt_machine.specs.Shape.{Shape, IsCompleteOn, IsApart, IsShapedBy, IsSpread}
use Rattle.ckpt_machine.proofs.ActiveBy.{active_by-complete}
use Rattle.ckpt_machine.proofs.MarksAt.{marks_here}
use Rattle.ckpt_machine.proofs.NodeLists.{index-within}
use Rattle.ckpt_machine.proofs.OptionLemmas.{IsSomeAnd-at, IsSomeAnd-from}

-- ---- what is asked for, by the kind of the call

-- what a call of a kind asks for, on a checkpoint that is weak or not
abbrev pub AsksOf : Bool → ActiveKind → Ask → Type 0
AsksOf weak kinds.Apply ask = (place : ℕ) × (update : Update) × (ask ≡ asks.Change place update) × (is_by_element weak update ≡ false)
AsksOf weak (kinds.Weak n) ask = (place : ℕ) × (elements : List IoElement) × (ask ≡ asks.Change place (updates.Write elements)) × (weak ≡ true) × (n ≡ length elements)
AsksOf weak kinds.Read ask = (place : ℕ) × (elements : List ReadElement) × (ask ≡ asks.Read place elements)
AsksOf weak kinds.Status ask = (place : ℕ) × (ask ≡ asks.Status place)
AsksOf weak (kinds.Iterate choice) ask = (iteration place chosen : ℕ) × (time : ℤ) × (ask ≡ asks.Iterate iteration place chosen time) × (choice ≡ choice_of chosen time)
AsksOf weak kinds.Next ask = (iteration : ℕ) × (ask ≡ asks.Next iteration)

-- an update
change_asks : (weak : Bool) (place : ℕ) (update : Update) → AsksOf weak (kind_of_change weak update) (asks.Change place update)
change_asks true place (updates.Write elements) = (place, elements, refl, refl, refl)
change_asks true place update = (place, update, refl, refl)
change_asks false place (updates.Write elements) = (place, updates.Write elements, refl, refl)
change_asks false place update = (place, update, refl, refl)

-- so it is of the kind that it has by what is asked for
pub by_kind : (all weak : Bool) (ask : Ask) (kind : ActiveKind) → active_kind all weak ask ≡ Some kind → AsksOf weak kind ask
by_kind false weak (asks.Change place update) kind is = subst (λ k. AsksOf weak k (asks.Change place update)) (same_Some (kind_of_change weak update) kind is) (change_asks weak place update)
by_kind true weak (asks.Change place update) kind is = absurd (cc is)
by_kind all weak (asks.Read place elements) kind is = subst (λ k. AsksOf weak k (asks.Read place elements)) (same_Some kinds.Read kind is) (place, elements, refl)
by_kind all weak (asks.Status place) kind is = subst (λ k. AsksOf weak k (asks.Status place)) (same_Some kinds.Status kind is) (place, refl)
by_kind all weak (asks.Iterate iteration place chosen time) kind is = subst (λ k. AsksOf weak k (asks.Iterate iteration place chosen time)) (same_Some (kinds.Iterate (choice_of chosen time)) kind is) (iteration, place, chosen, time, refl, refl)
by_kind all weak (asks.Next iteration) kind is = subst (λ k. AsksOf weak k (asks.Next iteration)) (same_Some kinds.Next kind is) (iteration, refl)
by_kind all weak ask kind is = absurd (cc is)

-- it is an update
abbrev pub is_change : ActiveKind → Bool
is_change kinds.Apply = true
is_change (kinds.Weak n) = true
is_change kind = false

-- an update goes to the active alone where it is not on all replicas
pub none_all : (all weak : Bool) (ask : Ask) (kind : ActiveKind) → is_change kind ≡ true → active_kind all weak ask ≡ Some kind → all ≡ false
none_all false weak ask kind change is = refl
none_all true weak (asks.Change place update) kind change is = absurd (cc is)
none_all true weak (asks.Read place elements) kind change is = absurd (let w : false ≡ true = ap is_change (same_Some kinds.Read kind is) ∙ change in cc w)
none_all true weak (asks.Status place) kind change is = absurd (let w : false ≡ true = ap is_change (same_Some kinds.Status kind is) ∙ change in cc w)
none_all true weak (asks.Iterate iteration place chosen time) kind change is = absurd (let w : false ≡ true = ap is_change (same_Some (kinds.Iterate (choice_of chosen time)) kind is) ∙ change in cc w)
none_all true weak (asks.Next iteration) kind change is = absurd (let w : false ≡ true = ap is_change (same_Some kinds.Next kind is) ∙ change in cc w)
none_all true weak ask kind change is = absurd (cc is)

-- ---- the active of a checkpoint that is made

-- the active is complete
pub active_complete : (m : Machine) (shapes : ℕ → Shape) (k : ℕ) (e : Entry) (r : ℕ) → InvariantIn shapes m → entry_of k m.cluster.entries ≡ Some e → e.making ≡ None → e.active ≡ Some r → IsCompleteOn e r
active_complete m shapes k e r inv found made active = active_by-complete (is_collocated e.attributes) (is_all e.attributes) e.complete e.active (subst (IsGoodIn m k (shapes k) e) made (inv.entries k e found)).active r active

-- its entry, and its replica on its active, where these marks stand if updates go there alone
pub record ActiveOf (m : Machine) (marks : Option Marked) (k : ℕ) : Type 0 where
  pub entry : Entry
  pub found : entry_of k m.cluster.entries ≡ Some entry
  pub made : entry.making ≡ None
  pub node : ℕ
  pub within : node < 8
  pub active : entry.active ≡ Some node
  pub replica : ReplicaState
  pub there : m.replicas k node ≡ Some replica
  pub generation : replica.generation ≡ entry.generation
  -- where updates go to it alone, nothing is staged on it, and these marks stand
  pub apart : is_all entry.attributes ≡ false → IsApart marks replica

-- a collocated one may have none
pub active_of : (m : Machine) (shapes : ℕ → Shape) (k : ℕ) (e : Entry) → InvariantIn shapes m → WasMade m.cluster k → entry_of k m.cluster.entries ≡ Some e → (e.active ≡ None) ⊎ ActiveOf m (shapes k).marks k
active_of m shapes k e inv made found = by_active e.active refl
  where
    was_made : e.making ≡ None
    was_made = subst (λ o. IfSome o (λ (e : Entry). e.making ≡ None)) found made.made

    spread : IsSpread m k (shapes k) e
    spread = subst (IsGoodIn m k (shapes k) e) was_made (inv.entries k e found)

    by_active : (o : Option ℕ) → e.active ≡ o → (e.active ≡ None) ⊎ ActiveOf m (shapes k).marks k
    by_active None none = inl none
    by_active (Some r) active =
        let there : IsCompleteOn e r = active_complete m shapes k e r inv found was_made active in
        let (x, here, shaped) = IsSomeAnd-at (m.replicas k r) (IsShapedBy (is_all e.attributes) (shapes k) e.active r) (spread.replicas r there) in
        inr (record {
          entry = e;
          found = found;
          made = was_made;
          node = r;
          within = subst (λ (n : ℕ). r < n) spread.nodes (index-within e.complete r there);
          active = active;
          replica = x;
          there = here;
          generation = (subst (λ o. IsSomeAnd o (λ (e : Entry). IsCompleteOn e r × IsOfGeneration e r x.generation)) found (inv.replicas k r x here)).1.led active;
          apart = λ alone. subst (λ marks. IsApart marks x) (marks_here e.active (shapes k).marks r active) (subst (λ b. IsShapedBy b (shapes k) e.active r x) alone shaped);
        })

module _ (m : Machine) (marks : Option Marked) (k : ℕ) (at : ActiveOf m marks k) where
  -- what the code sees of the replica
  pub active_seen : seen_at m k at.node ≡ Some (seen k at.entry.attributes at.replica)
  active_seen = ap (λ o. seen_by k o (m.replicas k at.node)) at.found ∙ ap (seen_by k (Some at.entry)) at.there

  -- what holds of its entry and of it holds on the replica
  pub on_its_replica : (P : Entry → ReplicaState → Type 0) → P at.entry at.replica → OnReplica m k at.node P
  on_its_replica P p = IsSomeAnd-from (entry_of k m.cluster.entries) _ at.entry at.found (IsSomeAnd-from (m.replicas k at.node) (P at.entry) at.replica at.there p)

  -- it is asked, where there is room for what the call starts, an update meets no hold, and the generation has not changed since it made its marks
  pub active_next-there : (call : CallId) (kind : ActiveKind) (made : Option MarksMade) (rooms : Rooms)
      → driver_next m.cluster rooms (drivers.Active (record { call = call; ckpt = k; kind = kind; marks = made })) ≡ cond (starts_iteration kind && not rooms.iterations) (End (Refused NoResources (Count 8))) (unless_on_hold kind at.entry.hold (unless_changed made at.entry.generation (Serve at.node (request_by call k kind made))))
  active_next-there call kind made rooms =
      ap (active_on rooms.iterations (record { call = call; ckpt = k; kind = kind; marks = made })) at.found
      ∙ ap (on_active rooms.iterations (record { call = call; ckpt = k; kind = kind; marks = made }) at.entry.generation at.entry.hold) at.active
