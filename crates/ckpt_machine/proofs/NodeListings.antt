-- What is listed of a replica that a node keeps is what the machine lists of it.
use Rattle.std.proofs.Common.{◌≡◌, ℕ, ◌+◌, List, [], ◌∷◌, ◌++◌, length, map, Option, Some, None, Bool, true, false, cond, ℤ, refl, sym, ap, ◌∙◌, take, ◌≤◌, arith}
use Rattle.std.specs.Prelude.{slice_get}
use Rattle.std.proofs.lemmas.List.{length-map, length-take, map-append, take_more}
use Rattle.std.proofs.lemmas.List.Elements.{filter-append}
use Rattle.std.proofs.lemmas.Option.{slice_get_within, get_or_from_slice_get}
use Rattle.ckpt_types.specs.Sections.{Section, is_present, present}
use Rattle.ckpt_types.proofs.Presence.{length-present-le}
use Rattle.ckpt_types.specs.declared.identities.CallId.{CallId}
use Rattle.cluster_record.specs.declared.entries.Entry.{Entry}
use Rattle.ckpt_machine.specs.Complete.{with_replica}
use Rattle.ckpt_machine.specs.Listing.{slot_listed, section_listed, replica_listed}
use Rattle.ckpt_machine.specs.Machine.{Effect, ReplicaState}
use Rattle.replica.specs.Replicas.{Replica}
use Rattle.stage_slot.specs.Slots.{Slot}
use Rattle.weak_marks.specs.Marks.{Marked}
use Rattle.ckpt_machine.specs.NodeListing.{kept_slot_listed, kept_replica_listed, kept_listed}
use Rattle.ckpt_machine.specs.Shown.{FitsReplica, shown_slot, shown_replica}

-- ---- the sections of a replica

-- among the first sections, with one more
pub listed_more : (t : ℤ) (sections : List Section) (i : ℕ) (s : Section) → slice_get sections i ≡ Some s
    → map section_listed (present t (take (i + 1) sections)) ≡ map section_listed (present t (take i sections)) ++ map section_listed (present t (s ∷ []))
listed_more t sections i s there =
    ap (λ xs. map section_listed (present t xs)) (take_more sections i s (slice_get_within sections i s there) ∙ ap (λ x. take i sections ++ x ∷ []) (get_or_from_slice_get sections i s s there))
    ∙ ap (map section_listed) (filter-append (is_present t) (take i sections) (s ∷ []))
    ∙ map-append section_listed (present t (take i sections)) (present t (s ∷ []))

-- no more are listed than there are
pub length-listed-le : (t : ℤ) (sections : List Section) (i : ℕ) → length (map section_listed (present t (take i sections))) ≤ length sections
length-listed-le t sections i = omega (arith, length-map (present t (take i sections)) section_listed, length-present-le t (take i sections), length-take i sections)

-- ---- one replica

slot_is : (origin : CallId) (o : Option Slot) (marks : Option Marked) → kept_slot_listed o marks ≡ slot_listed (shown_slot origin o) marks
slot_is origin (Some slot) marks = refl
slot_is origin None (Some marked) = refl
slot_is origin None None = refl

-- it counts its effects
replica_is : (t : ℤ) (active : Option ℕ) (r : ℕ) (effects : List Effect) (origin : CallId) (x : Replica) → length effects ≡ x.count
    → kept_replica_listed t active r x ≡ replica_listed t active (r, record { sections = x.sections; effects = effects; generation = x.generation; slot = shown_slot origin x.slot; marks = x.marks })
replica_is t active r effects origin x count = λ i. record (kept_replica_listed t active r x) { count = sym count i; slot = slot_is origin x.slot x.marks i }

-- of one node, which is complete or not
pub one_is : (t : ℤ) (active : Option ℕ) (k r : ℕ) (e : Option Entry) (effects : List Effect) (origin : CallId) (rest : List (ℕ × ReplicaState)) (b : Bool) (o : Option Replica) → FitsReplica k e effects (cond b None o)
    → map (replica_listed t active) (cond b rest (with_replica r (shown_replica effects origin (cond b None o)) rest)) ≡ cond b [] (kept_listed t active r o) ++ map (replica_listed t active) rest
one_is t active k r e effects origin rest true o fits = refl
one_is t active k r e effects origin rest false None fits = refl
one_is t active k r e effects origin rest false (Some x) fits = ap (λ shown. shown ∷ map (replica_listed t active) rest) (sym (replica_is t active r effects origin x fits.2))
