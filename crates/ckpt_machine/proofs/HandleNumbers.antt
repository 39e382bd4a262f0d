-- The numbers by which a client's handles are told apart rise, and no place is set to one that was not given, whatever becomes of its tables.
use Rattle.std.proofs.Common.{◌≡◌, ◌≢◌, ◌⊎◌, ℕ, ◌+◌, ◌≤◌, ◌<◌, inl, inr, List, [], ◌∷◌, length, subst, Some, None, Bool, true, false, cond, refl, sym, ap, ◌∙◌, arith}
use Rattle.std.specs.Prelude.{Option, is_some, nat_lt, slice_index, slice_set, replicate}
use Rattle.std.proofs.lemmas.Bool.{and_parts, cases_eq}
use Rattle.std.proofs.lemmas.List.{get_or-set_same, get_or-set_other, get_or_past}
use Rattle.std.proofs.lemmas.Bool.{cases_lt}
use Rattle.ckpt_types.specs.declared.answers.Outcome.{Outcome}
use Rattle.ckpt_types.specs.declared.answers.Outcome.TheVariants as outcomes
use Rattle.ckpt_types.specs.declared.calls.AsyncKind.{AsyncKind}
use Rattle.ckpt_types.specs.declared.calls.AsyncKind.TheVariants as kinds
use Rattle.ckpt_types.specs.declared.open_flags.OpenFlags.{OpenFlags}
use Rattle.ckpt_types.specs.declared.sections.Choice.{Choice}
use Rattle.ckpt_types.specs.Asks.{Ask}
use Rattle.ckpt_types.specs.Asks as asks
use Rattle.ckpt_types.specs.Attributes.{open_flags_of}
use Rattle.ckpt_types.specs.Limits.{places_max}
use Rattle.ckpt_types.specs.Reads.{NextGiven}
use Rattle.section_iter.specs.KeptIds.{KeptIds}
use Rattle.section_iter.specs.declared.room.Room.{Room}
use Rattle.call_dispatch.specs.PendingCalls.{PendingCalls, given_by}
use Rattle.call_dispatch.specs.declared.async_call.EndedCall.{EndedCall}
use Rattle.client_handles.specs.ClientState.{ClientState, handle_number, handle_numbered, handle_at, next_handle, taken, bound, can_stand_for, opened_at, emptied}
use Rattle.client_handles.specs.Numbered.{RiseWithin}
use Rattle.client_handles.specs.declared.handle_view.HandleView.{HandleView}
use Rattle.client_handles.proofs.NumberedLaws.{numbered-push_other}
use Rattle.client_handles.proofs.RisingLaws.{RiseWithin-push, RiseWithin-filter, RiseWithin-found}
use Rattle.ckpt_machine.specs.Machine.{no_tables}
use Rattle.ckpt_machine.specs.Tables.{flags_or_none, handle_given, with_iteration, started, with_next, gone_on, closing, registering, place_set, places_set, ended_at_once}
use Rattle.ckpt_machine.proofs.NodeLists.{length-slice_set}
use Rattle.ckpt_machine.proofs.OptionLemmas.{what_is}
use Rattle.ckpt_types.proofs.Lists.{slice_index-replicate}

-- the numbers of the handles rise up to the one last given, and no place is set to a higher one
pub record HasNumbers (t : ClientState) : Type 0 where
  pub rise : RiseWithin handle_number 0 t.last_number t.handles
  pub given : (place : ℕ) → slice_index t.places place ≤ t.last_number

-- no handle was opened
pub no_numbers : HasNumbers no_tables
no_numbers = record { rise = tt; given = λ place. (let none : slice_index (replicate places_max 0) place ≡ 0 = slice_index-replicate places_max place in omega (arith, none)) }

-- ---- the handles and their places stay

-- the same handles and places, and the same number was given last
pub record SameHandles (t u : ClientState) : Type 0 where
  pub handles : u.handles ≡ t.handles
  pub places : u.places ≡ t.places
  pub last : u.last_number ≡ t.last_number

pub SameHandles-refl : (t : ClientState) → SameHandles t t
SameHandles-refl t = record { handles = refl; places = refl; last = refl }

pub HasNumbers-same : (t u : ClientState) → SameHandles t u → HasNumbers t → HasNumbers u
HasNumbers-same t u same has = record {
  rise = (let up : RiseWithin handle_number 0 u.last_number t.handles = subst (λ n. RiseWithin handle_number 0 n t.handles) (sym same.last) has.rise in subst (RiseWithin handle_number 0 u.last_number) (sym same.handles) up);
  given = λ place. (let a = ap (λ places. slice_index places place) same.places in let b = same.last in let c = has.given place in omega (arith, a, b, c));
}

-- a place stands for the handle for which it did
pub handle_at-same : (t u : ClientState) (place : ℕ) → SameHandles t u → handle_at place u ≡ handle_at place t
handle_at-same t u place same = λ i. handle_numbered (slice_index (same.places i) place) (same.handles i)

pub registering-same : (ask : Ask) (t : ClientState) → SameHandles t (registering ask t)
registering-same (asks.Enter r version callbacks) t = record { handles = refl; places = refl; last = refl }
registering-same ask t = SameHandles-refl t

with_iteration-same : (iteration : ℕ) (o : Option HandleView) (kept : KeptIds) (t : ClientState) → SameHandles t (with_iteration iteration o kept t)
with_iteration-same iteration None kept t = SameHandles-refl t
with_iteration-same iteration (Some h) kept t = record { handles = refl; places = refl; last = refl }

pub started-same : (ask : Ask) (room : Room) (chosen_by : Choice → List (List ℕ)) (t : ClientState) → SameHandles t (started ask room chosen_by t)
started-same (asks.Iterate iteration place chosen time) room chosen_by t = with_iteration-same iteration _ _ t
started-same ask room chosen_by t = SameHandles-refl t

with_next-same : (iteration : ℕ) (kept : Option KeptIds) (next : Option NextGiven) (t : ClientState) → SameHandles t (with_next iteration kept next t)
with_next-same iteration (Some kept) (Some next) t = record { handles = refl; places = refl; last = refl }
with_next-same iteration kept next t = SameHandles-refl t

pub gone_on-same : (ask : Ask) (next : Option NextGiven) (t : ClientState) → SameHandles t (gone_on ask next t)
gone_on-same (asks.Next iteration) next t = with_next-same iteration _ next t
gone_on-same ask next t = SameHandles-refl t

-- ---- one handle more

HasNumbers-taken : (k : ℕ) (flags : OpenFlags) (creation_flags : ℕ) (t : ClientState) → HasNumbers t → HasNumbers (taken k flags creation_flags t)
HasNumbers-taken k flags creation_flags t has = record {
  rise = RiseWithin-push handle_number 0 t.last_number (t.last_number + 1) t.handles (next_handle k flags creation_flags t) (omega arith) (omega arith) (omega arith) has.rise;
  given = λ place. (let given = has.given place in omega (arith, given));
}

-- a place that is set to a number that was given
HasNumbers-bound : (place number : ℕ) (t : ClientState) → number ≤ t.last_number → HasNumbers t → HasNumbers (bound place number t)
HasNumbers-bound place number t low has = record { rise = has.rise; given = λ other. at other (cases_eq other place) (cases_lt place (length t.places)) }
  where
    at : (other : ℕ) → (other ≡ place) ⊎ (other ≢ place) → (place < length t.places) ⊎ (length t.places ≤ place) → slice_index (slice_set t.places place number) other ≤ t.last_number
    at other (inl same) (inl within) = (let is = ap (slice_index (slice_set t.places place number)) same ∙ get_or-set_same t.places place number 0 within in omega (arith, is, low))
    at other (inl same) (inr past) = (let is = ap (slice_index (slice_set t.places place number)) same ∙ get_or_past (slice_set t.places place number) place 0 (let many = length-slice_set t.places place number in omega (arith, many, past)) in omega (arith, is))
    at other (inr differs) within = (let is = get_or-set_other t.places place other number 0 differs in let was = has.given other in omega (arith, is, was))

pub HasNumbers-given : (ask : Ask) (k creation_flags : ℕ) (t : ClientState) → HasNumbers t → HasNumbers (handle_given ask k creation_flags t)
HasNumbers-given (asks.Open place name flags (Some timeout) a) k creation_flags t has =
    let more = taken k (flags_or_none (open_flags_of flags)) creation_flags t in
    HasNumbers-bound place (t.last_number + 1) more (omega arith) (HasNumbers-taken k (flags_or_none (open_flags_of flags)) creation_flags t has)
HasNumbers-given (asks.Open place name flags None a) k creation_flags t has = HasNumbers-taken k (flags_or_none (open_flags_of flags)) creation_flags t has
HasNumbers-given ask k creation_flags t has = has

-- each place stands for the handle for which it did, where a handle is taken
pub handle_at-taken : (place k : ℕ) (flags : OpenFlags) (creation_flags : ℕ) (t : ClientState) → HasNumbers t → handle_at place (taken k flags creation_flags t) ≡ handle_at place t
handle_at-taken place k flags creation_flags t has =
    numbered-push_other handle_number (slice_index t.places place) t.handles (next_handle k flags creation_flags t) (λ new. (let low = has.given place in omega (arith, low, new)))

-- ---- handles that end

pub HasNumbers-closing : (ask : Ask) (t : ClientState) → HasNumbers t → HasNumbers (closing ask t)
HasNumbers-closing (asks.Close place) t has = record {
  rise = RiseWithin-filter handle_number _ 0 t.last_number t.handles has.rise;
  given = has.given;
}
HasNumbers-closing ask t has = has

pub HasNumbers-emptied : (t : ClientState) → HasNumbers t → HasNumbers (emptied t)
HasNumbers-emptied t has = record { rise = tt; given = has.given }

-- ---- callbacks set places

opened_at-numbers : (place number : ℕ) (t : ClientState) → HasNumbers t → HasNumbers (opened_at place number t)
opened_at-numbers place number t has = by_test (can_stand_for place number t) refl
  where
    by_test : (b : Bool) → can_stand_for place number t ≡ b → HasNumbers (cond b (bound place number t) t)
    by_test false none = has
    by_test true can =
        let (within, some) = and_parts (nat_lt place places_max) (is_some (handle_numbered number t.handles)) can in
        let (h, found) = what_is (handle_numbered number t.handles) some in
        HasNumbers-bound place number t (RiseWithin-found handle_number number 0 t.last_number t.handles h has.rise found).1 has

place_set-numbers : (call : EndedCall) (t : ClientState) → HasNumbers t → HasNumbers (place_set call t)
place_set-numbers call t has = by_kind call.asked.kind
  where
    by_kind : (kind : AsyncKind) → HasNumbers (place_set (record call { asked = record call.asked { kind = kind } }) t)
    by_kind (kinds.Open place) = opened_at-numbers place call.asked.handle t has
    by_kind kinds.Sync = has

places_set-numbers : (calls : List EndedCall) (t : ClientState) → HasNumbers t → HasNumbers (places_set calls t)
places_set-numbers [] t has = has
places_set-numbers (call ∷ calls) t has = places_set-numbers calls (place_set call t) (place_set-numbers call t has)

pub HasNumbers-ended_at_once : (end : Option Outcome) (ask : Ask) (p : PendingCalls) (t : ClientState) → HasNumbers t → HasNumbers (ended_at_once end ask p t)
HasNumbers-ended_at_once (Some (outcomes.Done answer)) (asks.EndIteration iteration) p t has = record { rise = has.rise; given = has.given }
HasNumbers-ended_at_once (Some (outcomes.Done answer)) (asks.Dispatch flags) p t has = places_set-numbers (given_by flags p) t has
HasNumbers-ended_at_once end ask p t has = has
