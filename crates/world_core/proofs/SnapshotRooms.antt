-- The room for snapshots: with which step of the record it comes, and that each checkpoint that is there has its own behind any.
use Rattle.std.proofs.Common.{◌≡◌, inl, inr, ℕ, ◌+◌, ◌==◌, ℤ, Bool, true, false, List, [], ◌∷◌, ◌++◌, refl, sym, ap, subst, ◌∙◌, cond, arith}
use Rattle.std.specs.Prelude.{Option, Some, None, ◌==◌}
use Rattle.std.specs.Option.{option_map}
use Rattle.std.proofs.lemmas.Option.{same_Some}
use Rattle.std.proofs.lemmas.Bool.{eqb-true, eq-eqb}
use Rattle.ckpt_types.specs.declared.attributes.CreationAttributes.{CreationAttributes}
use Rattle.ckpt_types.specs.declared.identities.CallId.{CallId}
use Rattle.node_msgs.specs.declared.next.RecordStep.{RecordStep}
use Rattle.cluster_record.specs.declared.entries.Entry.{Entry}
use Rattle.cluster_record.specs.Identities.{AllUpTo, IdentitiesRise}
use Rattle.cluster_record.specs.Places.{find_key}
use Rattle.cluster_record.specs.RecordState.{RecordState, entry_of, stays, new_entry, created_as, undone, swept, moved}
use Rattle.cluster_record.proofs.IdentityLaws.{entry_of-beyond}
use Rattle.cluster_record.proofs.Places.{find_pushed}
use Rattle.ckpt_machine.specs.Drivers.{Driver}
use Rattle.cluster_record.specs.Placement.{is_all}
use Rattle.world_core.specs.declared.snapshots.Background.{Background}
use Rattle.world_core.specs.Backgrounds.{background_key, background_in, where_pulled, pulled_in, snapshot_room, with_room_for, HasRoom, HasRoomWhere, HaveRooms, snapshots_behind, with_room_asked, HaveRoomsWhere, StandOnce}
use Rattle.ckpt_machine.specs.RecordAfter.{event_after}
use Rattle.ckpt_machine.proofs.KeptEntries.{IsKept, Keeps, kept_filter, undone_stays, swept_stays, declared, with_created, created_there, created_rises, event_declared}
use Rattle.node_msgs.specs.declared.next.RecordStep.TheVariants as events
use Rattle.ckpt_machine.specs.Drivers as drivers
use Rattle.node_core.proofs.OnceByKey.{counted-push}

-- ---- a creation

-- what holds without one, and with one and the room for its snapshot, holds of it
pub with_creation : (R : RecordState) (backgrounds : List Background) (P : RecordState → List Background → Type 0) → P R backgrounds → ((call : CallId) (name : List ℕ) (a : CreationAttributes) → P (created_as call name (Some a) R) (with_room_for (R.last_identity + 1) a backgrounds)) →
    (call : CallId) (x : Driver) (step : RecordStep) → P (with_created call x step R) (snapshots_behind x step R backgrounds)
with_creation R backgrounds P none one call (drivers.Open o) events.Create = by_attributes o.ask.attrs where
  by_attributes : (a : Option CreationAttributes) → P (created_as call o.ask.name a R) (with_room_asked (R.last_identity + 1) a backgrounds)
  by_attributes None = none
  by_attributes (Some a) = one call o.ask.name a
with_creation R backgrounds P none one call (drivers.Open o) step = none
with_creation R backgrounds P none one call x step = none

-- ---- room for one more

room_case : (t : Bool) (b : Background) (o p : Option Background) → where_pulled o ≡ where_pulled p → where_pulled (cond t (Some b) o) ≡ where_pulled (cond t (Some b) p)
room_case true b o p same = refl
room_case false b o p same = same

-- nothing is pulled by it
pulled_in-pushed : (k : ℕ) (a : CreationAttributes) (backgrounds : List Background) (j : ℕ) → pulled_in (backgrounds ++ snapshot_room k a ∷ []) j ≡ pulled_in backgrounds j
pulled_in-pushed k a [] j = elim (k == j) as (λ b. where_pulled (cond b (Some (snapshot_room k a)) None) ≡ None) [ true ↦ refl | false ↦ refl ]
pulled_in-pushed k a (b ∷ backgrounds) j =
    room_case (b.ckpt == j) b (find_key background_key j (backgrounds ++ snapshot_room k a ∷ [])) (find_key background_key j backgrounds) (pulled_in-pushed k a backgrounds j)

pulled_in-room : (k : ℕ) (a : CreationAttributes) (backgrounds : List Background) (j : ℕ) → pulled_in (with_room_for k a backgrounds) j ≡ pulled_in backgrounds j
pulled_in-room k a backgrounds j = elim (is_all a) as (λ b. pulled_in (cond b backgrounds (backgrounds ++ snapshot_room k a ∷ [])) j ≡ pulled_in backgrounds j) [ true ↦ refl | false ↦ pulled_in-pushed k a backgrounds j ]

-- so whatever the step, what was pulled is the same
pub behind-pulled : (call : CallId) (x : Driver) (step : RecordStep) (R : RecordState) (backgrounds : List Background) (j : ℕ) → pulled_in (snapshots_behind x step R backgrounds) j ≡ pulled_in backgrounds j
behind-pulled call x step R backgrounds = with_creation R backgrounds (λ N then. (j : ℕ) → pulled_in then j ≡ pulled_in backgrounds j) (λ j. refl) (λ call name a. pulled_in-room (R.last_identity + 1) a backgrounds) call x step

-- ---- every step

-- of a checkpoint that declares the same, there is the room as there was
has_kept : (old new : Option Entry) (s : Option Background) → IsKept (option_map declared old) (option_map declared new) → HasRoomWhere old s → HasRoomWhere new s
has_kept old None s kept has = tt
has_kept old (Some f) s (inl none) has = absurd (let w : Some (declared f) ≡ None = none in cc w)
has_kept None (Some f) s (inr same) has = absurd (let w : Some (declared f) ≡ None = same in cc w)
has_kept (Some e) (Some f) None (inr same) has = ap is_all (same_Some (declared f) (declared e) same) ∙ has
has_kept (Some e) (Some f) (Some b) (inr same) has = (ap is_all (same_Some (declared f) (declared e) same) ∙ has.0, has.1 ∙ sym (same_Some (declared f) (declared e) same))

-- one that is there has its room
has_where : (o : Option Entry) (s : Option Background) → HasRoom o s → HasRoomWhere o s
has_where None s has = tt
has_where (Some e) s has = has

module _ (R : RecordState) (backgrounds : List Background) (keeps : HaveRooms R.entries backgrounds) (rises : IdentitiesRise R.entries) (up_to : AllUpTo R.last_identity R.entries) where
  -- each checkpoint that is there has its room
  abbrev Have : RecordState → List Background → Type 0
  Have N then = HaveRoomsWhere N.entries then

  all_have : Have R backgrounds
  all_have = record { each = λ j. has_where (entry_of j R.entries) (background_in backgrounds j) (keeps.each j); once = keeps.once }

  -- so has one behind a step
  step_has : (W N : RecordState) (then : List Background) → Keeps declared W.entries N.entries → Have W then → Have N then
  step_has W N then on has = record { each = λ j. has_kept (entry_of j W.entries) (entry_of j N.entries) (background_in then j) (on.each j) (has.each j); once = has.once }

  -- and one that is put into the making, with what it declares
  created_has : (call : CallId) (name : List ℕ) (a : CreationAttributes) → Have (created_as call name (Some a) R) (with_room_for (R.last_identity + 1) a backgrounds)
  created_has call name a = record {
    each = λ j. subst (λ (o : Option Entry). HasRoomWhere o (background_in (with_room_for n a backgrounds) j)) (sym (created_there R up_to call name a j)) (by_test j (j == n) refl);
    once = elim (is_all a) as (λ all. StandOnce (roomed all)) [ true ↦ keeps.once | false ↦ counted-push background_key backgrounds (snapshot_room n a) none keeps.once ];
  }
    where
      n : ℕ
      n = R.last_identity + 1

      gone : entry_of n R.entries ≡ None
      gone = entry_of-beyond R.last_identity n R.entries up_to (omega arith)

      none : background_in backgrounds n ≡ None
      none = subst (λ (o : Option Entry). HasRoom o (background_in backgrounds n)) gone (keeps.each n)

      roomed : (all : Bool) → List Background
      roomed all = cond all backgrounds (backgrounds ++ snapshot_room n a ∷ [])

      own : (all : Bool) → is_all a ≡ all → HasRoom (Some (new_entry call name a R)) (background_in (roomed all) n)
      own true is = subst (HasRoom (Some (new_entry call name a R))) (sym none) is
      own false is = subst (HasRoom (Some (new_entry call name a R))) (sym (find_pushed background_key n backgrounds (snapshot_room n a) n refl none ∙ ap (λ b. cond b (Some (snapshot_room n a)) (background_in backgrounds n)) (eq-eqb n n refl))) (is, refl)

      other : (j : ℕ) (all : Bool) → (j == n) ≡ false → HasRoomWhere (entry_of j R.entries) (background_in (roomed all) j)
      other j true t = all_have.each j
      other j false t = subst (HasRoomWhere (entry_of j R.entries)) (sym (find_pushed background_key n backgrounds (snapshot_room n a) j refl none ∙ ap (λ b. cond b (Some (snapshot_room n a)) (background_in backgrounds j)) t)) (all_have.each j)

      by_test : (j : ℕ) (b : Bool) → (j == n) ≡ b → HasRoomWhere (cond b (Some (new_entry call name a R)) (entry_of j R.entries)) (background_in (with_room_for n a backgrounds) j)
      by_test j true t = subst (λ (j : ℕ). HasRoom (Some (new_entry call name a R)) (background_in (with_room_for n a backgrounds) j)) (sym (eqb-true j n t)) (own (is_all a) refl)
      by_test j false t = other j (is_all a) t

  -- behind each step of the record
  pub event_has : (call : CallId) (x : Driver) (step : RecordStep) → Have (event_after call x step R) (snapshots_behind x step R backgrounds)
  event_has call x step = step_has (with_created call x step R) (event_after call x step R) (snapshots_behind x step R backgrounds) ((event_declared R call x step).3 (created_rises R rises up_to call x step)) (with_creation R backgrounds Have all_have created_has call x step)

  -- where a making is undone
  pub unmade_has : (k : ℕ) → Have (swept (undone k R)) backgrounds
  unmade_has k = step_has R (swept (undone k R)) backgrounds ((swept_stays declared R R.clients (undone k R) (undone_stays declared R k)).3 rises) all_have

  -- and where the moment is set
  pub moved_has : (t : ℤ) → Have (moved t R) backgrounds
  moved_has t = step_has R (moved t R) backgrounds (kept_filter declared (stays t) R.entries rises) all_have
