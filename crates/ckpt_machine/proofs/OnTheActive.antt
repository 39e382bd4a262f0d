-- A call with an update, on the active of its checkpoint: what is so of both, and how one that begins there is refused or held off.
use Rattle.std.proofs.Common.{◌≡◌, ℕ, Option, Some, None, Bool, true, false, not, refl, sym, ap, subst, ◌∙◌}
use Rattle.std.specs.Prelude.{is_some, IfSome, IsSomeAnd, Err}
use Rattle.ckpt_types.specs.declared.ais_error.AisError.TheVariants.{TryAgain}
use Rattle.ckpt_types.specs.declared.answers.Cause.TheVariants.{Holder}
use Rattle.ckpt_types.specs.declared.answers.Outcome.TheVariants.{Refused}
use Rattle.ckpt_types.specs.declared.identities.CallId.{CallId}
use Rattle.ckpt_types.specs.Asks.{Ask, asked, update_asked, update_of}
use Rattle.ckpt_types.specs.Asks as asks
use Rattle.ckpt_types.specs.Updates.{Refusal, outcome}
use Rattle.node_msgs.specs.declared.details.Details.TheVariants as beside
use Rattle.weak_marks.specs.Marks.{Marked}
use Rattle.cluster_record.specs.declared.calls.ActiveKind.{ActiveKind}
use Rattle.cluster_record.specs.declared.calls.ActiveKind.TheVariants as kinds
use Rattle.cluster_record.specs.declared.calls.MarksMade.{MarksMade}
use Rattle.cluster_record.specs.declared.entries.Entry.{Entry}
use Rattle.cluster_record.specs.DueActive.{ActiveState}
use Rattle.cluster_record.specs.Calls.{same_call}
use Rattle.cluster_record.specs.RecordState.{entry_of, is_live}
use Rattle.ckpt_machine.specs.Drivers as drivers
use Rattle.ckpt_machine.specs.Driving.{refused_cause}
use Rattle.ckpt_machine.specs.ActiveGuards.{ActiveRefused, ActiveHeld}
use Rattle.ckpt_machine.specs.GuardTerms.{OnActive}
use Rattle.ckpt_machine.specs.InHand.{is_enter, is_marked_by, are_present, IsInPlace, IsActiveIn}
use Rattle.ckpt_machine.specs.Invariant.{IsGoodIn, InvariantIn, Invariant}
use Rattle.ckpt_machine.specs.Machine.{Machine, ReplicaState, CallState, who}
use Rattle.ckpt_machine.specs.Options.{is_weak, is_by_element}
use Rattle.cluster_record.specs.Placement.{is_all}
use Rattle.ckpt_machine.specs.Shape.{Shape, IsApart, IsMarker, IsSpread}
use Rattle.ckpt_machine.specs.Due.{Told, driver_of}
use Rattle.ckpt_machine.proofs.ActiveNode.{AsksOf, by_kind, is_change, none_all, ActiveOf}
use Rattle.ckpt_machine.proofs.OptionLemmas.{IsSomeAnd-from}
use Rattle.ckpt_machine.specs.Whose.{put_who}
use Rattle.ckpt_machine.proofs.PlainCalls.{is_plain, plain_ends}

-- whose marks stand is live
pub marker_live : (m : Machine) (shapes : ℕ → Shape) (k : ℕ) (marks : Marked) → InvariantIn shapes m → IsMarker m k marks → is_live m.cluster marks.call ≡ true
marker_live m shapes k marks inv own = ap (is_live m.cluster) (sym own.call_is) ∙ (inv.hands (who own.state) own.state own.in_hand).live (ap is_enter own.driver_is)

-- a weak write is done by element, and any other update at once
abbrev pub goes_by_element : ActiveKind → Bool
goes_by_element (kinds.Weak n) = true
goes_by_element kind = false

-- what is asked for is the update of the call, done so
abbrev pub AsksUpdate : Bool → ActiveKind → Ask → Type 0
AsksUpdate weak kind ask = (place : ℕ) × (ask ≡ asks.Change place (update_asked ask)) × (is_by_element weak (update_asked ask) ≡ goes_by_element kind)

asks_update : (weak : Bool) (kind : ActiveKind) (ask : Ask) → is_change kind ≡ true → AsksOf weak kind ask → AsksUpdate weak kind ask
asks_update weak kinds.Apply ask change (place, update, is, at_once) = (place, is ∙ ap (asks.Change place) (sym (ap update_asked is)), ap (λ a. is_by_element weak (update_asked a)) is ∙ at_once)
asks_update weak (kinds.Weak n) ask change (place, elements, is, weak_is, count) = (place, is ∙ ap (asks.Change place) (sym (ap update_asked is)), ap (λ a. is_by_element weak (update_asked a)) is ∙ weak_is)
asks_update weak kind ask change of_it = absurd (cc change)

module _ (m : Machine) (shapes : ℕ → Shape) (inv : InvariantIn shapes m) (s : CallState) (call : CallId) (k : ℕ) (kind : ActiveKind) (made : Option MarksMade) (held : m.in_hand (who s) ≡ Some s) (at : ActiveOf m (shapes k).marks k) (change : is_change kind ≡ true)
    (is : driver_of s ≡ drivers.Active (record { call = call; ckpt = k; kind = kind; marks = made })) where
  -- what drives it
  abbrev pub active : ActiveState
  active = record { call = call; ckpt = k; kind = kind; marks = made }

  pub at_active : IsActiveIn m shapes s (record { call = call; ckpt = k; kind = kind; marks = made })
  at_active = subst (λ d. IsInPlace m shapes s d) is (inv.hands (who s) s held).here

  -- updates of its checkpoint go to the active alone
  pub alone : is_all at.entry.attributes ≡ false
  alone = sym (subst (λ o. IfSome o (λ (e : Entry). s.kept.all ≡ is_all e.attributes)) at.found at_active.all) ∙ none_all s.kept.all s.kept.weak (asked s.op) kind change at_active.kind

  -- nothing is staged there, and the marks of the checkpoint stand
  pub apart : IsApart (shapes k).marks at.replica
  apart = at.apart alone

  -- it is made, with its replicas
  pub spread : IsSpread m k (shapes k) at.entry
  spread = subst (IsGoodIn m k (shapes k) at.entry) at.made (inv.entries k at.entry at.found)

  -- what it asks for
  pub asks_of : AsksOf s.kept.weak kind (asked s.op)
  asks_of = by_kind s.kept.all s.kept.weak (asked s.op) kind at_active.kind

  pub its_update : AsksUpdate s.kept.weak kind (asked s.op)
  its_update = asks_update s.kept.weak kind (asked s.op) change asks_of

  pub asks_own : asked s.op ≡ asks.Change its_update.0 (update_of s.op)
  asks_own = its_update.1

  pub by_element : is_by_element (is_weak at.entry.attributes) (update_of s.op) ≡ goes_by_element kind
  by_element = ap (λ b. is_by_element b (update_of s.op)) (sym (subst (λ o. IfSome o (λ (e : Entry). s.kept.weak ≡ is_weak e.attributes)) at.found at_active.weak)) ∙ its_update.2

  -- what holds of its entry and of the replica holds where it is done, and no call holds the checkpoint
  pub on_active : at.entry.hold ≡ None → (P : Entry → ReplicaState → Type 0) → P at.entry at.replica → OnActive m (update_of s.op) (goes_by_element kind) k at.node P
  on_active no_hold P p = IsSomeAnd-from (entry_of k m.cluster.entries) _ at.entry at.found (IsSomeAnd-from (m.replicas k at.node) _ at.replica at.there (alone, at.active, no_hold, by_element, p))

  -- ---- one that begins

  module _ (none : made ≡ None) where
    plain : is_plain (driver_of s) s.snapshot ≡ true
    plain = ap (λ d. is_plain d s.snapshot) is ∙ ap (λ o. not (is_some o)) none

    -- it ends, and all else is as it was
    pub ends : Invariant (record m { in_hand = put_who m.in_hand (who s) None })
    ends = record { shapes = shapes; holds = plain_ends m shapes inv s held plain }

    -- it is refused by the sections
    pub refused_row : at.entry.hold ≡ None → (t : Told) (why : Refusal) → (shapes k).marks ≡ None → outcome at.entry.attributes (update_of s.op) m.cluster.moment at.replica.sections ≡ Err why → t.end ≡ Some (Refused why.error (refused_cause s.op why.index)) → t.details ≡ beside.Nothing
        → OnActive m (update_of s.op) (goes_by_element kind) k at.node (ActiveRefused m s (update_of s.op) t)
    refused_row no_hold t why unmarked gives answer told = on_active no_hold (ActiveRefused m s (update_of s.op) t) (record { unmarked = apart.marks_are ∙ unmarked; why = why; refused = gives; answer = answer; told = told })

    -- another's marks hold it off, which is live
    pub another : (marks : Marked) → (shapes k).marks ≡ Some marks → same_call marks.call s.call ≡ false
    another marks stand = sym (ap (is_marked_by s.call) stand) ∙ at_active.marks at.entry at.found ∙ ap (are_present at.entry) none

    pub holder_live : (marks : Marked) → (shapes k).marks ≡ Some marks → is_live m.cluster marks.call ≡ true
    holder_live marks stand = marker_live m shapes k marks inv (spread.marked marks stand)

    pub held_row : at.entry.hold ≡ None → (t : Told) (marks : Marked) → (shapes k).marks ≡ Some marks → t.end ≡ Some (Refused TryAgain (Holder marks.call)) → t.details ≡ beside.Nothing
        → OnActive m (update_of s.op) (goes_by_element kind) k at.node (λ e x. ActiveHeld m s.call marks.call t x)
    held_row no_hold t marks stand answer told = on_active no_hold (λ e x. ActiveHeld m s.call marks.call t x) (record {
      marks = subst (λ o. IsSomeAnd o (λ (w : Marked). w.call ≡ marks.call)) (sym (apart.marks_are ∙ stand)) refl;
      another = another marks stand;
      live = holder_live marks stand;
      answer = answer;
      told = told;
    })
