-- What is due at a beginning, or as a word, is allowed by its row, and what has a row is due; so the row of a beginning leaves one answer, but for a want of memory.
use Rattle.std.proofs.Common.{◌≡◌, ℕ, ◌≤◌, ◌<◌, inl, inr, length, Option, Some, None, is_some, is_none, IsSome, Bool, true, false, cond, not, ◌||◌, pos, int_lt, refl, sym, ap, subst, ◌∙◌}
use Rattle.std.specs.Option.{option_or}
use Rattle.std.specs.Prelude.{◌≢◌, nat_le}
use Rattle.std.proofs.lemmas.Bool.{false≢true, leb-true, leb-false, le-leb, lt-leb}
use Rattle.ckpt_types.specs.declared.ais_error.AisError.TheVariants as errors
use Rattle.ckpt_types.specs.declared.answers.Answer.TheVariants as answers
use Rattle.ckpt_types.specs.declared.answers.Cause.TheVariants.{Plain, Count}
use Rattle.ckpt_types.specs.declared.answers.Given.{Given}
use Rattle.ckpt_types.specs.declared.answers.Outcome.{Outcome}
use Rattle.ckpt_types.specs.declared.answers.Outcome.TheVariants.{Done, Refused, NoMemory}
use Rattle.ckpt_types.specs.declared.identities.ActorName.TheVariants.{Client, Node}
use Rattle.ckpt_types.specs.declared.identities.CallId.{CallId}
use Rattle.ckpt_types.specs.declared.identities.Who.{Who}
use Rattle.ckpt_types.specs.declared.identities.Who.TheVariants.{Actor}
use Rattle.ckpt_types.specs.declared.identities.Who.TheVariants as whos
use Rattle.ckpt_types.specs.declared.open_flags.OpenFlags.{OpenFlags}
use Rattle.ckpt_types.specs.declared.operation.Op.{Op}
use Rattle.ckpt_types.specs.Attributes.{has_bad_open_flags}
use Rattle.ckpt_types.specs.Limits.{pending_max}
use Rattle.call_dispatch.specs.PendingCalls.{PendingCalls, pending_count}
use Rattle.node_msgs.specs.declared.details.Details.{Details}
use Rattle.run_labels.specs.declared.words.LineWord.{LineWord}
use Rattle.run_labels.specs.declared.words.LineWord.TheVariants as linewords
use Rattle.ckpt_types.specs.declared.words.OpWord.TheVariants as opwords
use Rattle.run_labels.specs.declared.words.Said.{Said}
use Rattle.run_labels.specs.declared.words.Said.TheVariants.{Busy, Idle, Live, Down}
use Rattle.client_handles.specs.declared.handle_view.HandleView.{HandleView}
use Rattle.ckpt_machine.specs.Beginning.{Standing, refused, begin_end, if_live, if_registered, on_handle, sync_begin, sync_alone, goes_on_alone, given_of, name_is_bad, timeout_is_bad, attributes_are_bad, are_of_all, update_is_bad, vector_is_bad, choice_is_bad, may_write, may_read, may_always}
use Rattle.ckpt_types.specs.Asks.{Ask, asked, is_async_ask, IsBuiltAsk}
use Rattle.ckpt_types.specs.Asks as asks
use Rattle.ckpt_machine.specs.BeginRows.{has_bad_version, has_bad_handle, lacks_callback, has_bad_flags, has_bad_arguments, was_not_opened_for, lacks_access, forbidden_by, has_bad_operation, ends_at_once, goes_on_behind, IsGivenBy, MeetsNoRefusal, IsFullOfCalls, HasPlaceFor, BeginRow, IsAllowedBegin, IsAllowedWord}
use Rattle.ckpt_machine.specs.Machine.{Machine, CallState}
use Rattle.ckpt_machine.specs.Due.{IsBegun, IsBeginEnd, is_unrefused, standing_of}
use Rattle.ckpt_machine.specs.Words.{IsWord}

-- ---- the code's chain of refusals, by the causes

-- the answer of the first cause that is there, or this one
abbrev first_of : (version handle callback flags arguments access operation : Bool) → Option Outcome → Option Outcome
first_of version handle callback flags arguments access operation rest =
    cond version (refused errors.Version) (cond handle (refused errors.BadHandle) (cond callback (refused errors.Init) (cond flags (refused errors.BadFlags) (cond arguments (refused errors.InvalidParam) (cond access (refused errors.Access) (cond operation (refused errors.BadOperation) rest))))))

-- what is answered where no cause is there
abbrev unrefused : Standing → Ask → Option Outcome
unrefused st (asks.EndIteration iteration) = Some (Done answers.Nothing)
unrefused st (asks.Open place name flags None a) = goes_on_alone (pending_count st.pending)
unrefused st (asks.Synchronize place None) = goes_on_alone (pending_count st.pending)
unrefused st (asks.Dispatch flags) = Some (Done (answers.Dispatched (given_of flags st.pending)))
unrefused st ask = None

-- of a call about a handle, which no creation flags forbid
by_handle : (live : Bool) (h : Option HandleView) (bad : Bool) (may : OpenFlags → Bool) (ask : Ask) → ((flags : ℕ) → forbidden_by ask flags ≡ false)
    → if_live live (on_handle h bad may) ≡ first_of false (not live || is_none h) false false bad (was_not_opened_for may h) (has_bad_operation h ask) None
by_handle false h bad may ask none = refl
by_handle true None bad may ask none = refl
by_handle true (Some h) bad may ask none = λ i. first_of false false false false bad (not (may h.flags)) (sym (none h.creation_flags) i) None

-- one test, and then another
by_tests : (bad access operation : Bool) (rest : Option Outcome) → option_or (option_or (cond bad (refused errors.InvalidParam) (cond access (refused errors.Access) None)) (cond operation (refused errors.BadOperation) None)) rest ≡ first_of false false false false bad access operation rest
by_tests true access operation rest = refl
by_tests false true operation rest = refl
by_tests false false true rest = refl
by_tests false false false rest = refl

-- of one that these creation flags forbid
by_flags : (live : Bool) (h : Option HandleView) (bad : Bool) (ask : Ask) → if_live live (sync_begin h bad (forbidden_by ask)) ≡ first_of false (not live || is_none h) false false bad (was_not_opened_for may_write h) (has_bad_operation h ask) None
by_flags false h bad ask = refl
by_flags true None bad ask = refl
by_flags true (Some h) bad ask = with_none (sync_begin (Some h) bad (forbidden_by ask)) ∙ by_tests bad (not (may_write h.flags)) (forbidden_by ask h.creation_flags) None
  where
    with_none : (o : Option Outcome) → o ≡ option_or o None
    with_none None = refl
    with_none (Some o) = refl

-- of a synchronisation that goes on by itself
by_alone : (live : Bool) (h : Option HandleView) (opens syncs : Bool) (p : PendingCalls) (place : ℕ)
    → if_live live (sync_alone (record { live = live; handle = h; callbacks = record { opens = opens; syncs = syncs }; pending = p }) h)
    ≡ first_of false (not live || is_none h) (not syncs) false false (was_not_opened_for may_write h) (has_bad_operation h (asks.Synchronize place None)) (goes_on_alone (pending_count p))
by_alone false h opens syncs p place = refl
by_alone true None opens syncs p place = refl
by_alone true (Some h) opens false p place = refl
by_alone true (Some h) opens true p place = by_tests false (not (may_write h.flags)) (are_of_all h.creation_flags) (goes_on_alone (pending_count p))

-- what is about no handle asks for no flags of one
needs_none : (h : Option HandleView) → was_not_opened_for may_always h ≡ false
needs_none None = refl
needs_none (Some h) = refl

forbids_none : (h : Option HandleView) (ask : Ask) → ((flags : ℕ) → forbidden_by ask flags ≡ false) → has_bad_operation h ask ≡ false
forbids_none None ask none = refl
forbids_none (Some h) ask none = none h.creation_flags

-- of a call about no handle, of a client that is live
by_client : (live : Bool) (h : Option HandleView) (ask : Ask) (callback flags arguments : Bool) (rest : Option Outcome) → ((flags : ℕ) → forbidden_by ask flags ≡ false)
    → if_live live (first_of false false callback flags arguments false false rest) ≡ first_of false (not live || false) callback flags arguments (was_not_opened_for may_always h) (has_bad_operation h ask) rest
by_client false h ask callback flags arguments rest none = refl
by_client true h ask callback flags arguments rest none = λ i. first_of false false callback flags arguments (sym (needs_none h) i) (sym (forbids_none h ask none) i) rest

-- of an open that goes on by itself
by_opening : (opens : Bool) (flags arguments : Bool) (rest : Option Outcome) → if_registered opens (option_or (cond flags (refused errors.BadFlags) (cond arguments (refused errors.InvalidParam) None)) rest) ≡ first_of false false (not opens) flags arguments false false rest
by_opening false flags arguments rest = refl
by_opening true true arguments rest = refl
by_opening true false true rest = refl
by_opening true false false rest = refl

-- of any call that is built
first_refusal_is : (st : Standing) (ask : Ask) → IsBuiltAsk ask → begin_end st ask ≡ first_of (has_bad_version ask) (has_bad_handle st.live st.handle ask) (lacks_callback st.callbacks ask) (has_bad_flags ask) (has_bad_arguments ask) (lacks_access st.handle ask) (has_bad_operation st.handle ask) (unrefused st ask)
first_refusal_is st (asks.Enter r version callbacks) built = λ i. first_of (has_bad_version (asks.Enter r version callbacks)) false false false false (sym (needs_none st.handle) i) (sym (forbids_none st.handle (asks.Enter r version callbacks) (λ flags. refl)) i) None
first_refusal_is st (asks.Open place name flags (Some timeout) a) built = by_client st.live st.handle (asks.Open place name flags (Some timeout) a) false (has_bad_open_flags flags) (name_is_bad name || timeout_is_bad (Some timeout) || attributes_are_bad flags a) None (λ flags. refl)
first_refusal_is st (asks.Open place name flags None a) built =
    ap (if_live st.live) (by_opening st.callbacks.opens (has_bad_open_flags flags) (name_is_bad name || timeout_is_bad None || attributes_are_bad flags a) (goes_on_alone (pending_count st.pending)))
    ∙ by_client st.live st.handle (asks.Open place name flags None a) (not st.callbacks.opens) (has_bad_open_flags flags) (name_is_bad name || timeout_is_bad None || attributes_are_bad flags a) (goes_on_alone (pending_count st.pending)) (λ flags. refl)
first_refusal_is st (asks.Change place update) built = by_handle st.live st.handle (update_is_bad update) may_write (asks.Change place update) (λ flags. refl)
first_refusal_is st (asks.Read place elements) built = by_handle st.live st.handle (vector_is_bad (length elements)) may_read (asks.Read place elements) (λ flags. refl)
first_refusal_is st (asks.Status place) built = by_handle st.live st.handle false may_always (asks.Status place) (λ flags. refl)
first_refusal_is st (asks.Iterate iteration place chosen time) built = by_handle st.live st.handle (choice_is_bad chosen) may_read (asks.Iterate iteration place chosen time) (λ flags. refl)
first_refusal_is st (asks.Next iteration) built = by_handle st.live st.handle false may_always (asks.Next iteration) (λ flags. refl)
first_refusal_is st (asks.EndIteration iteration) built = by_end st.live st.handle
  where
    by_end : (live : Bool) (h : Option HandleView) → begin_end (record st { live = live; handle = h }) (asks.EndIteration iteration) ≡ first_of false (not live || is_none h) false false false (was_not_opened_for may_always h) (has_bad_operation h (asks.EndIteration iteration)) (Some (Done answers.Nothing))
    by_end false h = refl
    by_end true None = refl
    by_end true (Some h) = refl
first_refusal_is st (asks.Close place) built = by_handle st.live st.handle false may_always (asks.Close place) (λ flags. refl)
first_refusal_is st (asks.Retain place duration) built = by_handle st.live st.handle (int_lt duration (pos 0)) may_always (asks.Retain place duration) (λ flags. refl)
first_refusal_is st (asks.Unlink name) built = by_client st.live st.handle (asks.Unlink name) false false false None (λ flags. refl)
first_refusal_is st asks.Leave built = by_client st.live st.handle asks.Leave false false false None (λ flags. refl)
first_refusal_is st (asks.Synchronize place (Some timeout)) built = by_flags st.live st.handle (int_lt timeout (pos 0)) (asks.Synchronize place (Some timeout))
first_refusal_is st (asks.Synchronize place None) built = by_alone st.live st.handle st.callbacks.opens st.callbacks.syncs st.pending place
first_refusal_is st (asks.SetActive place) built = by_flags st.live st.handle false (asks.SetActive place)
first_refusal_is st (asks.Dispatch flags) built = by_client st.live st.handle (asks.Dispatch flags) false false _ (unrefused st (asks.Dispatch flags)) (λ flags. refl)
first_refusal_is st asks.Copy built = λ i. first_of false false false false false (sym (needs_none st.handle) i) (sym (forbids_none st.handle asks.Copy (λ flags. refl)) i) None

-- ---- where no cause is there

-- an asynchronous call finds a place, or as many as may be are not dispatched
alone-cases : (P : Option Outcome → Type 0) (count : ℕ) → (pending_max ≤ count → P (Some (Refused errors.NoResources (Count pending_max)))) → (count < pending_max → P (Some (Done answers.Nothing))) → P (goes_on_alone count)
alone-cases P count full free = elim (nat_le pending_max count) as (λ b. nat_le pending_max count ≡ b → P (cond b (Some (Refused errors.NoResources (Count pending_max))) (Some (Done answers.Nothing)))) [
  | true ↦ λ is. full (leb-true pending_max count is)
  | false ↦ λ is. free (leb-false pending_max count is)
] refl

alone-full : (count : ℕ) → pending_max ≤ count → goes_on_alone count ≡ Some (Refused errors.NoResources (Count pending_max))
alone-full count full = ap (λ b. cond b (Some (Refused errors.NoResources (Count pending_max))) (Some (Done answers.Nothing))) (le-leb pending_max count full)

alone-free : (count : ℕ) → count < pending_max → goes_on_alone count ≡ Some (Done answers.Nothing)
alone-free count free = ap (λ b. cond b (Some (Refused errors.NoResources (Count pending_max))) (Some (Done answers.Nothing))) (lt-leb pending_max count free)

module _ (st : Standing) where
  -- so it has its row
  alone_row : (ask : Ask) → MeetsNoRefusal st ask → is_async_ask ask ≡ true → ends_at_once ask ≡ true → BeginRow st ask (goes_on_alone (pending_count st.pending))
  alone_row ask none async ends = alone-cases (BeginRow st ask) (pending_count st.pending) (λ full. (none, async, full, refl)) (λ free. (none, ends, subst (λ b. HasPlaceFor b st.pending) (sym async) free))

  unrefused_row : (ask : Ask) → MeetsNoRefusal st ask → BeginRow st ask (unrefused st ask)
  unrefused_row (asks.EndIteration iteration) none = (none, refl, tt)
  unrefused_row (asks.Open place name flags None a) none = alone_row (asks.Open place name flags None a) none refl refl
  unrefused_row (asks.Synchronize place None) none = alone_row (asks.Synchronize place None) none refl refl
  unrefused_row (asks.Dispatch flags) none = (none, refl)
  unrefused_row ask none = (none, refl)

  -- where it is not refused, there is a place for it
  alone_place : is_unrefused (goes_on_alone (pending_count st.pending)) ≡ true → pending_count st.pending < pending_max
  alone_place = alone-cases (λ o. is_unrefused o ≡ true → pending_count st.pending < pending_max) (pending_count st.pending) (λ full is. absurd (cc is)) (λ free is. free)

  unrefused_place : (ask : Ask) → is_unrefused (unrefused st ask) ≡ true → HasPlaceFor (is_async_ask ask) st.pending
  unrefused_place (asks.Open place name flags None a) is = alone_place is
  unrefused_place (asks.Synchronize place None) is = alone_place is
  unrefused_place ask is = tt

  -- and where there is a place for it, it is not
  place_unrefused : (ask : Ask) → HasPlaceFor (is_async_ask ask) st.pending → is_unrefused (unrefused st ask) ≡ true
  place_unrefused (asks.Open place name flags None a) free = ap is_unrefused (alone-free (pending_count st.pending) free)
  place_unrefused (asks.Synchronize place None) free = ap is_unrefused (alone-free (pending_count st.pending) free)
  place_unrefused ask free = refl

  -- what each row leaves
  full_is : (ask : Ask) (n : ℕ) → is_async_ask ask ≡ true → IsFullOfCalls st.pending → n ≡ pending_max → Some (Refused errors.NoResources (Count n)) ≡ unrefused st ask
  full_is (asks.Open place name flags None a) n async full is = ap (λ n. Some (Refused errors.NoResources (Count n))) is ∙ sym (alone-full (pending_count st.pending) full)
  full_is (asks.Synchronize place None) n async full is = ap (λ n. Some (Refused errors.NoResources (Count n))) is ∙ sym (alone-full (pending_count st.pending) full)
  full_is ask n async full is = absurd (cc async)

  once_is : (ask : Ask) → ends_at_once ask ≡ true → HasPlaceFor (is_async_ask ask) st.pending → Some (Done answers.Nothing) ≡ unrefused st ask
  once_is (asks.EndIteration iteration) ends free = refl
  once_is (asks.Open place name flags None a) ends free = sym (alone-free (pending_count st.pending) free)
  once_is (asks.Synchronize place None) ends free = sym (alone-free (pending_count st.pending) free)
  once_is ask ends free = absurd (cc ends)

  given_is : (ask : Ask) (given : Given) → IsGivenBy st.pending ask given → Some (Done (answers.Dispatched given)) ≡ unrefused st ask
  given_is (asks.Dispatch flags) given is = ap (λ g. Some (Done (answers.Dispatched g))) is
  given_is ask given is = absurd is

  goes_is : (ask : Ask) → goes_on_behind ask ≡ true → None ≡ unrefused st ask
  goes_is (asks.EndIteration iteration) goes = absurd (cc goes)
  goes_is (asks.Open place name flags None a) goes = absurd (cc goes)
  goes_is (asks.Synchronize place None) goes = absurd (cc goes)
  goes_is (asks.Dispatch flags) goes = absurd (cc goes)
  goes_is ask goes = refl

-- ---- a beginning

module _ (st : Standing) (ask : Ask) where
  -- the first cause gives the row
  by_causes : (version handle callback flags arguments access operation : Bool) → has_bad_version ask ≡ version → has_bad_handle st.live st.handle ask ≡ handle → lacks_callback st.callbacks ask ≡ callback → has_bad_flags ask ≡ flags → has_bad_arguments ask ≡ arguments → lacks_access st.handle ask ≡ access → has_bad_operation st.handle ask ≡ operation
      → (end : Option Outcome) → end ≡ first_of version handle callback flags arguments access operation (unrefused st ask) → BeginRow st ask end
  by_causes true handle callback flags arguments access operation v b c f p x w end same = subst (BeginRow st ask) (sym same) v
  by_causes false true callback flags arguments access operation v b c f p x w end same = subst (BeginRow st ask) (sym same) (v, b)
  by_causes false false true flags arguments access operation v b c f p x w end same = subst (BeginRow st ask) (sym same) (v, b, c)
  by_causes false false false true arguments access operation v b c f p x w end same = subst (BeginRow st ask) (sym same) (v, b, c, f)
  by_causes false false false false true access operation v b c f p x w end same = subst (BeginRow st ask) (sym same) (v, b, c, f, p)
  by_causes false false false false false true operation v b c f p x w end same = subst (BeginRow st ask) (sym same) (v, b, c, f, p, x)
  by_causes false false false false false false true v b c f p x w end same = subst (BeginRow st ask) (sym same) (v, b, c, f, p, x, w)
  by_causes false false false false false false false v b c f p x w end same = subst (BeginRow st ask) (sym same) (unrefused_row st ask (record { version = v; handle = b; callback = c; flags = f; arguments = p; access = x; operation = w }))

  -- where no refusal is due, no cause is there
  no_causes : (version handle callback flags arguments access operation : Bool) → has_bad_version ask ≡ version → has_bad_handle st.live st.handle ask ≡ handle → lacks_callback st.callbacks ask ≡ callback → has_bad_flags ask ≡ flags → has_bad_arguments ask ≡ arguments → lacks_access st.handle ask ≡ access → has_bad_operation st.handle ask ≡ operation
      → is_unrefused (first_of version handle callback flags arguments access operation (unrefused st ask)) ≡ true → MeetsNoRefusal st ask × (is_unrefused (unrefused st ask) ≡ true)
  no_causes true handle callback flags arguments access operation v b c f p x w is = absurd (cc is)
  no_causes false true callback flags arguments access operation v b c f p x w is = absurd (cc is)
  no_causes false false true flags arguments access operation v b c f p x w is = absurd (cc is)
  no_causes false false false true arguments access operation v b c f p x w is = absurd (cc is)
  no_causes false false false false true access operation v b c f p x w is = absurd (cc is)
  no_causes false false false false false true operation v b c f p x w is = absurd (cc is)
  no_causes false false false false false false true v b c f p x w is = absurd (cc is)
  no_causes false false false false false false false v b c f p x w is = (record { version = v; handle = b; callback = c; flags = f; arguments = p; access = x; operation = w }, is)

  -- what is due has its row
  pub row_of : IsBuiltAsk ask → (end : Option Outcome) → IsBeginEnd ask (begin_end st ask) end → BeginRow st ask end
  row_of built end (inl same) = by_causes (has_bad_version ask) (has_bad_handle st.live st.handle ask) (lacks_callback st.callbacks ask) (has_bad_flags ask) (has_bad_arguments ask) (lacks_access st.handle ask) (has_bad_operation st.handle ask) refl refl refl refl refl refl refl end (same ∙ first_refusal_is st ask built)
  row_of built end (inr memory) =
      let (none, free) = no_causes (has_bad_version ask) (has_bad_handle st.live st.handle ask) (lacks_callback st.callbacks ask) (has_bad_flags ask) (has_bad_arguments ask) (lacks_access st.handle ask) (has_bad_operation st.handle ask) refl refl refl refl refl refl refl (ap is_unrefused (sym (first_refusal_is st ask built)) ∙ memory.1) in
      subst (BeginRow st ask) (sym memory.2) (none, memory.0, unrefused_place st ask free)

  -- and what has a row is due
  no_cause : IsBuiltAsk ask → MeetsNoRefusal st ask → begin_end st ask ≡ unrefused st ask
  no_cause built none = first_refusal_is st ask built ∙ (λ i. first_of (none.version i) (none.handle i) (none.callback i) (none.flags i) (none.arguments i) (none.access i) (none.operation i) (unrefused st ask))

  pub due_of : IsBuiltAsk ask → (end : Option Outcome) → BeginRow st ask end → IsBeginEnd ask (begin_end st ask) end
  due_of built (Some (Refused errors.Version Plain)) row = inl (sym (first_refusal_is st ask built ∙ (λ i. first_of (row i) (has_bad_handle st.live st.handle ask) (lacks_callback st.callbacks ask) (has_bad_flags ask) (has_bad_arguments ask) (lacks_access st.handle ask) (has_bad_operation st.handle ask) (unrefused st ask))))
  due_of built (Some (Refused errors.BadHandle Plain)) row = inl (sym (first_refusal_is st ask built ∙ (λ i. first_of (row.0 i) (row.1 i) (lacks_callback st.callbacks ask) (has_bad_flags ask) (has_bad_arguments ask) (lacks_access st.handle ask) (has_bad_operation st.handle ask) (unrefused st ask))))
  due_of built (Some (Refused errors.Init Plain)) row = inl (sym (first_refusal_is st ask built ∙ (λ i. first_of (row.0 i) (row.1 i) (row.2 i) (has_bad_flags ask) (has_bad_arguments ask) (lacks_access st.handle ask) (has_bad_operation st.handle ask) (unrefused st ask))))
  due_of built (Some (Refused errors.BadFlags Plain)) row = inl (sym (first_refusal_is st ask built ∙ (λ i. first_of (row.0 i) (row.1 i) (row.2 i) (row.3 i) (has_bad_arguments ask) (lacks_access st.handle ask) (has_bad_operation st.handle ask) (unrefused st ask))))
  due_of built (Some (Refused errors.InvalidParam Plain)) row = inl (sym (first_refusal_is st ask built ∙ (λ i. first_of (row.0 i) (row.1 i) (row.2 i) (row.3 i) (row.4 i) (lacks_access st.handle ask) (has_bad_operation st.handle ask) (unrefused st ask))))
  due_of built (Some (Refused errors.Access Plain)) row = inl (sym (first_refusal_is st ask built ∙ (λ i. first_of (row.0 i) (row.1 i) (row.2 i) (row.3 i) (row.4 i) (row.5 i) (has_bad_operation st.handle ask) (unrefused st ask))))
  due_of built (Some (Refused errors.BadOperation Plain)) row = inl (sym (first_refusal_is st ask built ∙ (λ i. first_of (row.0 i) (row.1 i) (row.2 i) (row.3 i) (row.4 i) (row.5 i) (row.6 i) (unrefused st ask))))
  due_of built (Some (Refused error Plain)) row = absurd row
  due_of built (Some (Refused errors.NoResources (Count n))) row = inl (full_is st ask n row.1 row.2 row.3 ∙ sym (no_cause built row.0))
  due_of built (Some (Done answers.Nothing)) row = inl (once_is st ask row.1 row.2 ∙ sym (no_cause built row.0))
  due_of built (Some (Done (answers.Dispatched given))) row = inl (given_is st ask given row.1 ∙ sym (no_cause built row.0))
  due_of built (Some NoMemory) row = inr (row.1, ap is_unrefused (no_cause built row.0) ∙ place_unrefused st ask row.2, refl)
  due_of built None row = inl (goes_is st ask row.1 ∙ sym (no_cause built row.0))
  due_of built end row = absurd row

  -- so two answers that are allowed are one, but for a want of memory
  pub one_answer : IsBuiltAsk ask → (one other : Option Outcome) → BeginRow st ask one → BeginRow st ask other → one ≢ Some NoMemory → other ≢ Some NoMemory → one ≡ other
  one_answer built one other row its_row not_one not_other = due_without one not_one (due_of built one row) ∙ sym (due_without other not_other (due_of built other its_row)) where
    due_without : (end : Option Outcome) → end ≢ Some NoMemory → IsBeginEnd ask (begin_end st ask) end → end ≡ begin_end st ask
    due_without end not_memory (inl same) = same
    due_without end not_memory (inr memory) = absurd (not_memory memory.2)

-- a beginning that is due is allowed
pub begin_row : (m : Machine) (call : CallId) (op : Op) (end : Option Outcome) (details : Details) → IsBegun m call op end details → IsAllowedBegin m call op end details
begin_row m call op end details is = record {
  asker = is.asker;
  built = is.built;
  number = is.number;
  none_in_hand = is.none_in_hand;
  may = is.may;
  row = row_of (standing_of m call.actor op) (asked op) is.built end is.answer;
  told = is.told;
}

-- and one that is allowed is due
pub begin_due : (m : Machine) (call : CallId) (op : Op) (end : Option Outcome) (details : Details) → IsAllowedBegin m call op end details → IsBegun m call op end details
begin_due m call op end details is = record {
  asker = is.asker;
  built = is.built;
  number = is.number;
  none_in_hand = is.none_in_hand;
  may = is.may;
  answer = due_of (standing_of m call.actor op) (asked op) is.built end is.row;
  told = is.told;
}

-- ---- a word

some_in_hand : (o : Option CallState) → o ≢ None → IsSome o
some_in_hand None there = absurd (there refl)
some_in_hand (Some s) there = refl

-- a word that is due is allowed
pub word_row : (m : Machine) (who : Who) (line : LineWord) (said : Said) → IsWord m who line said → IsAllowedWord m who line said
word_row m (Actor a) (linewords.Op op) Busy is = (tt, some_in_hand (m.in_hand (Actor a)) is)
word_row m (Actor (Client c)) (linewords.Op opwords.Client) Live is = (is.0, (tt, is.1))
word_row m (Actor (Client c)) (linewords.Op opwords.Client) Down is = (is.0, (tt, is.1, record { node = is.2.0; below = is.2.1; down = is.2.2 }))
word_row m (Actor (Node r)) (linewords.Op opwords.Copy) Down is = (is.0, (tt, is.1, is.2))
word_row m (Actor a) linewords.Step Idle is = (tt, is)
word_row m (Actor a) linewords.Finish Idle is = (tt, is)
word_row m (whos.Call call) linewords.Step Idle is = (tt, is)
word_row m (whos.Call call) linewords.Finish Idle is = (tt, is)
word_row m who line said is = absurd is

-- and one that is allowed is due
pub word_due : (m : Machine) (who : Who) (line : LineWord) (said : Said) → IsAllowedWord m who line said → IsWord m who line said
word_due m (Actor a) (linewords.Op op) Busy row = λ none. false≢true (sym (ap is_some none) ∙ row.1)
word_due m (Actor (Client c)) (linewords.Op opwords.Client) Live row = (row.0, row.1.1)
word_due m (Actor (Client c)) (linewords.Op opwords.Client) Down row = (row.0, row.1.1, (row.1.2.node, row.1.2.below, row.1.2.down))
word_due m (Actor (Node r)) (linewords.Op opwords.Copy) Down row = (row.0, row.1.1, row.1.2)
word_due m (Actor a) linewords.Step Idle row = row.1
word_due m (Actor a) linewords.Finish Idle row = row.1
word_due m (Actor a) line Busy row = absurd row.0
word_due m (Actor (Client c)) line Live row = absurd row.1.0
word_due m (Actor (Node r)) line Live row = absurd row.1
word_due m (Actor (Client c)) line Down row = absurd row.1.0
word_due m (Actor (Node r)) line Down row = absurd row.1.0
word_due m (Actor a) line Idle row = absurd row.0
word_due m (whos.Call call) linewords.Step Idle row = row.1
word_due m (whos.Call call) linewords.Finish Idle row = row.1
word_due m (whos.Call call) (linewords.Op op) Idle row = absurd row.0
word_due m (whos.Call call) line said row = absurd row
