-- No iteration of a client is lent between two steps: each change of its tables leaves it so.
use Rattle.std.proofs.Common.{◌≡◌, ℕ, List, [], ◌∷◌, Option, Some, None, Bool, true, false, cond, ◌==◌, slice_index, refl, sym, subst}
use Rattle.std.proofs.lemmas.List.Elements.{All-map, All-weaker}
use Rattle.ckpt_types.specs.declared.answers.Outcome.{Outcome}
use Rattle.ckpt_types.specs.declared.answers.Outcome.TheVariants as outcomes
use Rattle.ckpt_types.specs.declared.sections.Choice.{Choice}
use Rattle.ckpt_types.specs.Reads.{NextGiven}
use Rattle.ckpt_types.specs.Asks.{Ask}
use Rattle.ckpt_types.specs.Asks as asks
use Rattle.section_iter.specs.KeptIds.{KeptIds}
use Rattle.section_iter.specs.Next.{kept_after}
use Rattle.section_iter.specs.declared.room.Room.{Room}
use Rattle.client_handles.specs.ClientState.{ClientState, NoneLent, handle_at, kept_at, iteration_number, with_kept, returned}
use Rattle.ckpt_types.specs.declared.calls.AsyncKind.{AsyncKind}
use Rattle.ckpt_types.specs.declared.calls.AsyncKind.TheVariants as async
use Rattle.call_dispatch.specs.PendingCalls.{PendingCalls, given_by}
use Rattle.call_dispatch.specs.declared.async_call.EndedCall.{EndedCall}
use Rattle.client_handles.specs.declared.begun.BegunIteration.{BegunIteration}
use Rattle.client_handles.specs.declared.handle_view.HandleView.{HandleView}
use Rattle.client_handles.proofs.LentLaws.{KeepsSome, NoneLent-new, NoneLent-released, NoneLent-ended, NoneLent-added, NoneLent-opened_at}
use Rattle.ckpt_machine.specs.Machine.{no_tables}
use Rattle.ckpt_machine.specs.Tables.{handle_given, with_iteration, started, with_next, gone_on, closing, registering, place_set, places_set, ended_at_once}

-- of a client that keeps nothing
pub NoneLent-no_tables : NoneLent no_tables
NoneLent-no_tables = NoneLent-new no_tables.callbacks

-- with a handle more
pub NoneLent-given : (ask : Ask) (k creation_flags : ℕ) (t : ClientState) → NoneLent t → NoneLent (handle_given ask k creation_flags t)
NoneLent-given (asks.Open place name flags (Some timeout) a) k creation_flags t none = none
NoneLent-given (asks.Open place name flags None a) k creation_flags t none = none
NoneLent-given ask k creation_flags t none = none

-- with an iteration more, which is kept
NoneLent-with_iteration : (iteration : ℕ) (o : Option HandleView) (kept : KeptIds) (t : ClientState) → NoneLent t → NoneLent (with_iteration iteration o kept t)
NoneLent-with_iteration iteration None kept t none = none
NoneLent-with_iteration iteration (Some h) kept t none = NoneLent-added iteration h.handle kept t none

pub NoneLent-started : (ask : Ask) (room : Room) (chosen_by : Choice → List (List ℕ)) (t : ClientState) → NoneLent t → NoneLent (started ask room chosen_by t)
NoneLent-started (asks.Iterate iteration place chosen time) room chosen_by t none = NoneLent-with_iteration iteration (handle_at place t) _ t none
NoneLent-started ask room chosen_by t none = none

-- one of which something is kept again is kept
kept_then : (kept : KeptIds) (it : BegunIteration) (b : Bool) → KeepsSome it → KeepsSome (cond b (with_kept (Some kept) it) it)
kept_then kept it true is = refl
kept_then kept it false is = is

NoneLent-returned : (place : ℕ) (kept : KeptIds) (t : ClientState) → NoneLent t → NoneLent (returned place kept t)
NoneLent-returned place kept t none =
    let number : ℕ = slice_index t.iteration_places place in
    let take_back : BegunIteration → BegunIteration = λ it. cond (iteration_number it == number) (with_kept (Some kept) it) it in
    All-map KeepsSome take_back t.iterations (All-weaker KeepsSome (λ it. KeepsSome (take_back it)) (λ it is. kept_then kept it (iteration_number it == number) is) t.iterations none)

-- with an iteration that has gone on
NoneLent-with_next : (iteration : ℕ) (kept : Option KeptIds) (next : Option NextGiven) (t : ClientState) → NoneLent t → NoneLent (with_next iteration kept next t)
NoneLent-with_next iteration (Some kept) (Some next) t none = NoneLent-returned iteration (kept_after kept (Some next)) t none
NoneLent-with_next iteration kept next t none = none

pub NoneLent-gone_on : (ask : Ask) (next : Option NextGiven) (t : ClientState) → NoneLent t → NoneLent (gone_on ask next t)
NoneLent-gone_on (asks.Next iteration) next t none = NoneLent-with_next iteration (kept_at iteration t) next t none
NoneLent-gone_on ask next t none = none

-- without a handle, and the iterations over it
pub NoneLent-closing : (ask : Ask) (t : ClientState) → NoneLent t → NoneLent (closing ask t)
NoneLent-closing (asks.Close place) t none = NoneLent-released (slice_index t.places place) t none
NoneLent-closing ask t none = none

NoneLent-place_set : (call : EndedCall) (t : ClientState) → NoneLent t → NoneLent (place_set call t)
NoneLent-place_set call t none = by_kind call.asked.kind refl
  where
    by_kind : (kind : AsyncKind) → call.asked.kind ≡ kind → NoneLent (place_set call t)
    by_kind (async.Open place) is = subst (λ kind. NoneLent (place_set (record call { asked = record call.asked { kind = kind } }) t)) (sym is) (NoneLent-opened_at place call.asked.handle t none)
    by_kind async.Sync is = subst (λ kind. NoneLent (place_set (record call { asked = record call.asked { kind = kind } }) t)) (sym is) none

-- with the places of callbacks set
NoneLent-places_set : (calls : List EndedCall) (t : ClientState) → NoneLent t → NoneLent (places_set calls t)
NoneLent-places_set [] t none = none
NoneLent-places_set (call ∷ calls) t none = NoneLent-places_set calls (place_set call t) (NoneLent-place_set call t none)

-- with other callbacks
pub NoneLent-registering : (ask : Ask) (t : ClientState) → NoneLent t → NoneLent (registering ask t)
NoneLent-registering (asks.Enter r version callbacks) t none = none
NoneLent-registering ask t none = none

-- without an iteration, or with the places of callbacks set
pub NoneLent-ended_at_once : (end : Option Outcome) (ask : Ask) (p : PendingCalls) (t : ClientState) → NoneLent t → NoneLent (ended_at_once end ask p t)
NoneLent-ended_at_once (Some (outcomes.Done answer)) (asks.EndIteration iteration) p t none = NoneLent-ended iteration t none
NoneLent-ended_at_once (Some (outcomes.Done answer)) (asks.Dispatch flags) p t none = NoneLent-places_set (given_by flags p) t none
NoneLent-ended_at_once end ask p t none = none
