-- Each slot, each mark, each making and each hold is of a call in hand, and each call in hand began in the log and goes on.
use Rattle.std.proofs.Common.{◌≡◌, ◌⊎◌, inl, inr, ℕ, List, Option, Some, None, refl, sym, ap, subst, ◌∙◌}
use Rattle.std.specs.Prelude.{IsSome, IsSomeAnd, Contains}
use Rattle.ckpt_types.specs.declared.identities.ActorName.{ActorName}
use Rattle.ckpt_types.specs.declared.identities.CallId.{CallId}
use Rattle.ckpt_types.specs.declared.identities.Who.{Who}
use Rattle.ckpt_types.specs.Asks.{asked}
use Rattle.run_labels.specs.declared.labels.Label.{Label}
use Rattle.call_dispatch.specs.declared.async_call.AsyncCall.{AsyncCall}
use Rattle.cluster_record.specs.declared.entries.Entry.{Entry}
use Rattle.cluster_record.specs.RecordState.{entry_of}
use Rattle.ckpt_machine.proofs.Lives.{held_not_dead}
use Rattle.ckpt_machine.specs.Dead.{IsDead}
use Rattle.ckpt_machine.specs.Invariant.{IsMaker, IsGoodIn, IsReservedFor, Invariant}
use Rattle.ckpt_machine.specs.Laws.{OfEachRun}
use Rattle.ckpt_machine.specs.Machine.{Machine, CallState, who}
use Rattle.ckpt_machine.specs.Owners.{IsCallInHand, HasBegunIn, IsOngoing, WasAbandoned, IsReservedLate, OwnersInHand, OwnersInHandThroughout}
use Rattle.ckpt_machine.specs.Runs.{last, IsRun}
use Rattle.ckpt_machine.specs.Shape.{IsMarker, IsHolder}
use Rattle.ckpt_machine.proofs.BegunBefore.{all_began, begun_on}
use Rattle.ckpt_machine.proofs.EndedSlots.{IsThrough, slots_begun, through_then}
use Rattle.ckpt_machine.proofs.Histories.{HasHistory, IsUpdater, slot_calls, marks_owned, run_history}
use Rattle.ckpt_machine.proofs.OptionLemmas.{IsSomeAnd-at, IsSomeAnd-from}
use Rattle.ckpt_machine.proofs.Runs.{run_front}
use Rattle.ckpt_machine.proofs.UnderWay.{under_way_held}

module _ (log : List Label) (run : IsRun log) (inv : Invariant (last log)) (history : HasHistory (last log)) (under_way : (a : ActorName) (c : AsyncCall) → Contains ((last log).pending a).unfinished c → IsCallInHand (last log) c.call) where
  abbrev m : Machine
  m = last log

  -- a dead call was abandoned, where it has begun and has not ended
  or_abandoned : (call : CallId) → HasBegunIn log call → (IsThrough call m → ⊥) → IsUpdater m call ⊎ IsDead m call → IsCallInHand m call ⊎ WasAbandoned log call
  or_abandoned call began unended (inl by) = inl (record { name = who by.state; state = by.state; in_hand = by.in_hand; call_is = by.call_is })
  or_abandoned call began unended (inr dead) = inr (record {
    began = began;
    unended = λ before behind l is ends. unended (through_then log run before behind l is call ends);
    gone = λ held. held_not_dead m inv.shapes inv.holds held.state (ap m.in_hand (inv.holds.hands held.name held.state held.in_hand).whose ∙ held.in_hand) (subst (IsDead m) (sym held.call_is) dead);
    not_live = dead.gone;
  })

  -- each of the others has its call in hand
  maker_held : (k : ℕ) (call : CallId) → IsMaker m k call → IsCallInHand m call
  maker_held k call by = record { name = who by.state; state = by.state; in_hand = by.in_hand; call_is = by.call_is }

  holder_held : (k : ℕ) (active : Option ℕ) (call : CallId) → IsHolder m k active call → IsCallInHand m call
  holder_held k active call by = record { name = who by.state; state = by.state; in_hand = by.in_hand; call_is = by.call_is }

  makes : (k : ℕ) (e : Entry) (call : CallId) → entry_of k m.cluster.entries ≡ Some e → e.making ≡ Some call → IsCallInHand m call
  makes k e call found making = maker_held k call (subst (λ o. IsGoodIn m k (inv.shapes k) e o) making (inv.holds.entries k e found)).1

  -- what is in the making is not held
  holds : (k : ℕ) (e : Entry) (call : CallId) → entry_of k m.cluster.entries ≡ Some e → e.hold ≡ Some call → IsCallInHand m call
  holds k e call found held = by_making e.making (inv.holds.entries k e found)
    where
      by_making : (o : Option CallId) → IsGoodIn m k (inv.shapes k) e o → IsCallInHand m call
      by_making None good = holder_held k e.active call (good.held call held).holder
      by_making (Some maker) good = absurd (let free = good.0.free in let w : None ≡ Some call = sym free ∙ held in cc w)

  -- what is reserved is for a call that makes the checkpoint, or for a node that lacks it
  reserves : (k r n : ℕ) → m.reserved k r ≡ Some n → IsSomeAnd (entry_of k m.cluster.entries) (λ e. IsSomeAnd e.making (IsCallInHand m) ⊎ IsReservedLate m.cluster r n e)
  reserves k r n is =
      let (e, found, for) = IsSomeAnd-at (entry_of k m.cluster.entries) (IsReservedFor m.cluster r n) (inv.holds.reserves k r n is) in
      IsSomeAnd-from (entry_of k m.cluster.entries) (λ e. IsSomeAnd e.making (IsCallInHand m) ⊎ IsReservedLate m.cluster r n e) e found (elim for [ inl making ↦ inl (by_making e found e.making refl making) | inr late ↦ inr late ])
    where
      by_making : (e : Entry) → entry_of k m.cluster.entries ≡ Some e → (o : Option CallId) → e.making ≡ o → IsSome o → IsSomeAnd o (IsCallInHand m)
      by_making e found None making none = absurd (cc none)
      by_making e found (Some call) making some = IsSomeAnd-from (Some call) (IsCallInHand m) call refl (makes k e call found making)

  -- a call that is in hand began in the log, and no step of it has ended it
  ongoing : (name : Who) (s : CallState) → m.in_hand name ≡ Some s → IsOngoing log name s
  ongoing name s held =
      let whose : who s ≡ name = (inv.holds.hands name s held).whose in
      record {
        ckpt = begun_on (asked s.op) s.kept.ckpt;
        begun = all_began log run s (ap m.in_hand whose ∙ held);
        unended = λ before behind l is ends. (through_then log run before behind l is s.call ends).over.none name s held refl;
        name_is = sym whose;
      }

  in_hand : OwnersInHand log
  in_hand = record {
    owners = λ k r x slot there staged. or_abandoned slot.owner (slots_begun log run k r x slot there staged).0 (λ through. (through.free k r x there slot staged).0 refl) (slot_calls m inv.shapes inv.holds history.bare k r x slot there staged).0;
    origins = λ k r x slot there staged. or_abandoned slot.origin (slots_begun log run k r x slot there staged).1 (λ through. (through.free k r x there slot staged).1 refl) (slot_calls m inv.shapes inv.holds history.bare k r x slot there staged).1;
    marks = λ k r x marks there marked. (let by : IsMarker m k marks = marks_owned m inv.shapes inv.holds history.bare k r x marks there marked in record { name = who by.state; state = by.state; in_hand = by.in_hand; call_is = by.call_is });
    makes = makes;
    holds = holds;
    reserves = reserves;
    ongoing = ongoing;
    under_way = under_way;
  }

-- THE LAW: after each front of a run
pub owners_in_hand : OfEachRun OwnersInHandThroughout
owners_in_hand log run front back is =
    let there = run_front log front back is run in
    let (inv, history) = run_history front there in
    in_hand front there inv history (under_way_held front there)
