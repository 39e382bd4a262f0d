-- What a call makes of its client's tables, once it has ended: no handle of a checkpoint that was not made comes to them.
use Rattle.std.proofs.lemmas.List.Elements.{Contains-push_cases}
use Rattle.std.proofs.Common.{length, ◌∷◌, ◌++◌, ◌+◌, ◌<◌, ◌≤◌, ◌≡◌, ◌⊎◌, ℕ, inl, inr, List, [], Option, Some, None, true, false, cond, ◌==◌, refl, sym, ap, subst, ◌∙◌, arith, Bool}
use Rattle.std.specs.Prelude.{Contains, find, is_some, IsSome, nat_lt, not, slice_index, ◌&&◌}
use Rattle.std.specs.Option.{option_and_then}
use Rattle.ckpt_types.specs.declared.answers.Outcome.{Outcome}
use Rattle.ckpt_types.specs.declared.answers.Outcome.TheVariants as outcomes
use Rattle.ckpt_types.specs.declared.identities.ActorName.{ActorName}
use Rattle.ckpt_types.specs.declared.identities.ActorName.TheVariants.{Client, Node}
use Rattle.ckpt_types.specs.declared.identities.CallId.{CallId}
use Rattle.ckpt_types.specs.declared.identities.Who.TheVariants.{Actor}
use Rattle.ckpt_types.specs.declared.calls.AsyncKind.{AsyncKind}
use Rattle.ckpt_types.specs.declared.calls.AsyncKind.TheVariants as async
use Rattle.ckpt_types.specs.declared.open_flags.OpenFlags.{OpenFlags}
use Rattle.ckpt_types.specs.declared.operation.Op.{Op}
use Rattle.ckpt_types.specs.declared.operation.Op.TheVariants as ops
use Rattle.ckpt_types.specs.Attributes.{open_flags_of}
use Rattle.ckpt_types.specs.Limits.{handles_max, nodes_max}
use Rattle.ckpt_types.specs.OpWord.{word_of_op, stepped_as}
use Rattle.call_dispatch.specs.PendingCalls.{PendingCalls, given_by}
use Rattle.call_dispatch.specs.declared.async_call.EndedCall.{EndedCall}
use Rattle.ckpt_types.specs.declared.sections.Choice.{Choice}
use Rattle.ckpt_types.specs.Reads.{NextGiven}
use Rattle.section_iter.specs.KeptIds.{KeptIds}
use Rattle.section_iter.specs.declared.room.Room.{Room}
use Rattle.client_handles.specs.ClientState.{ClientState, NoneLent, emptied, handle_at, handle_numbered, goes_over, iteration_at, next_handle, taken, bound, opened_at, can_stand_for}
use Rattle.client_handles.specs.declared.begun.BegunIteration.{BegunIteration}
use Rattle.client_handles.specs.declared.handle_view.HandleView.{HandleView}
use Rattle.client_handles.proofs.LentLaws.{NoneLent-emptied}
use Rattle.cluster_record.specs.Calls.{IsClient, same_actor, number_of, client_of}
use Rattle.cluster_record.specs.Places.{find_key}
use Rattle.cluster_record.specs.LookUps.{creation_flags_of}
use Rattle.cluster_record.specs.RecordState.{RecordState, entry_of, client_key, is_live, is_live_from}
use Rattle.ckpt_types.specs.Asks.{Ask, MayAsk, asked}
use Rattle.ckpt_types.specs.Asks as asks
use Rattle.ckpt_machine.specs.Invariant.{InvariantIn}
use Rattle.ckpt_machine.specs.Machine.{Machine, CallState}
use Rattle.ckpt_machine.specs.Whose.{put_who}
use Rattle.cluster_record.specs.Makings.{makings_of}
use Rattle.ckpt_machine.specs.After.{with_tables}
use Rattle.ckpt_machine.specs.Tables.{handle_asked, flags_or_none, handle_given, with_iteration, started, with_next, gone_on, closing, registering, place_set, places_set, ended_at_once}
use Rattle.ckpt_machine.specs.Shape.{Shape}
use Rattle.ckpt_machine.proofs.AtRest.{NoneLent-given, NoneLent-started, NoneLent-gone_on, NoneLent-closing, NoneLent-registering, NoneLent-ended_at_once}
use Rattle.ckpt_machine.proofs.ClientTables.{KeepsHandle, idle_keeps, tables_keep, fewer_keep}
use Rattle.ckpt_machine.proofs.KeptLists.{among_filtered, found_front}
use Rattle.ckpt_machine.proofs.PlainCalls.{ending}
use Rattle.ckpt_machine.proofs.Whose.{put_who-here}
use Rattle.ckpt_machine.proofs.Handles.{IsGivable, IsGoodHandle-given}
use Rattle.ckpt_types.proofs.Lists.{length-filter_le}

-- two clients have two numbers
pub other_number : (a b : ActorName) → IsClient a → IsClient b → same_actor a b ≡ false → (number_of a == number_of b) ≡ false
other_number (Client a) (Client b) is also other = other
other_number (Client a) (Node b) is also other = absurd also
other_number (Node a) b is also other = absurd is

-- a client is that of its number
pub client_by_number : (a : ActorName) → IsClient a → a ≡ Client (number_of a)
client_by_number (Client c) is = refl
client_by_number (Node r) is = absurd is

-- a call is live as its client is, or its node, where no node comes or goes
pub live_as : (R S : RecordState) (call : CallId) (ask : Ask) → MayAsk call.actor ask → (IsClient call.actor → find_key client_key (client_of call) S.clients ≡ find_key client_key (client_of call) R.clients) → S.up ≡ R.up → S.first_calls ≡ R.first_calls → is_live S call ≡ is_live R call
live_as R S call ask may same up first = by_actor call.actor call.number ask may same where
  by_actor : (a : ActorName) (n : ℕ) (ask : Ask) → MayAsk a ask → (IsClient a → find_key client_key (number_of a) S.clients ≡ find_key client_key (number_of a) R.clients) → is_live S (record { actor = a; number = n }) ≡ is_live R (record { actor = a; number = n })
  by_actor (Client d) n asks.Copy may same = absurd may
  by_actor (Client d) n ask may same = ap (λ o. is_live_from o n) (same may)
  by_actor (Node r) n ask may same = λ i. nat_lt r nodes_max && not (slice_index (up i) r == 0) && not (nat_lt n (slice_index (first i) r))

-- ---- lengths

-- one more
length-push : {X : Type 0} (xs : List X) (x : X) → length (xs ++ x ∷ []) ≡ length xs + 1
length-push [] x = refl
length-push (y ∷ xs) x = let more = length-push xs x in omega (arith, more)

-- ---- the handles after each change

-- those that a close leaves were there
pub closing-handles : (ask : Ask) (t : ClientState) (h : HandleView) → Contains (closing ask t).handles h → Contains t.handles h
closing-handles (asks.Close place) t h among = among_filtered _ t.handles h among
closing-handles ask t h among = among

-- there are no more of them
closing-few : (ask : Ask) (t : ClientState) → length (closing ask t).handles ≤ length t.handles
closing-few (asks.Close place) t = length-filter_le _ t.handles
closing-few ask t = omega arith

-- other callbacks leave them
registering-handles : (ask : Ask) (t : ClientState) → (registering ask t).handles ≡ t.handles
registering-handles (asks.Enter r version callbacks) t = refl
registering-handles ask t = refl

-- a started iteration leaves them
with_iteration-handles : (iteration : ℕ) (o : Option HandleView) (kept : KeptIds) (t : ClientState) → (with_iteration iteration o kept t).handles ≡ t.handles
with_iteration-handles iteration None kept t = refl
with_iteration-handles iteration (Some x) kept t = refl

pub started-handles : (ask : Ask) (room : Room) (chosen_by : Choice → List (List ℕ)) (t : ClientState) → (started ask room chosen_by t).handles ≡ t.handles
started-handles (asks.Iterate iteration place chosen time) room chosen_by t = with_iteration-handles iteration _ _ t
started-handles ask room chosen_by t = refl

-- so does one that goes on
with_next-handles : (iteration : ℕ) (kept : Option KeptIds) (next : Option NextGiven) (t : ClientState) → (with_next iteration kept next t).handles ≡ t.handles
with_next-handles iteration (Some kept) (Some next) t = refl
with_next-handles iteration kept next t = refl

pub gone_on-handles : (ask : Ask) (next : Option NextGiven) (t : ClientState) → (gone_on ask next t).handles ≡ t.handles
gone_on-handles (asks.Next iteration) next t = with_next-handles iteration _ next t
gone_on-handles ask next t = refl

-- so does a callback that sets a place
opened_at-handles : (place number : ℕ) (t : ClientState) → (opened_at place number t).handles ≡ t.handles
opened_at-handles place number t = elim (can_stand_for place number t) as (λ b. (cond b (bound place number t) t).handles ≡ t.handles) [ true ↦ refl | false ↦ refl ]

place_set-handles : (call : EndedCall) (t : ClientState) → (place_set call t).handles ≡ t.handles
place_set-handles call t = by_kind call.asked.kind refl
  where
    by_kind : (kind : AsyncKind) → call.asked.kind ≡ kind → (place_set call t).handles ≡ t.handles
    by_kind (async.Open place) is = ap (λ kind. (place_set (record call { asked = record call.asked { kind = kind } }) t).handles) is ∙ opened_at-handles place call.asked.handle t
    by_kind async.Sync is = ap (λ kind. (place_set (record call { asked = record call.asked { kind = kind } }) t).handles) is

places_set-handles : (calls : List EndedCall) (t : ClientState) → (places_set calls t).handles ≡ t.handles
places_set-handles [] t = refl
places_set-handles (call ∷ calls) t = places_set-handles calls (place_set call t) ∙ place_set-handles call t

-- and what ends at once
pub ended_at_once-handles : (end : Option Outcome) (ask : Ask) (p : PendingCalls) (t : ClientState) → (ended_at_once end ask p t).handles ≡ t.handles
ended_at_once-handles (Some (outcomes.Done answer)) (asks.EndIteration iteration) p t = refl
ended_at_once-handles (Some (outcomes.Done answer)) (asks.Dispatch flags) p t = places_set-handles (given_by flags p) t
ended_at_once-handles end ask p t = refl

-- one that is taken is of this checkpoint, with these creation flags
taken-handles : (k : ℕ) (flags : OpenFlags) (creation_flags : ℕ) (t : ClientState) (h : HandleView) → Contains (taken k flags creation_flags t).handles h → Contains t.handles h ⊎ ((h.id ≡ k) × (h.creation_flags ≡ creation_flags))
taken-handles k flags creation_flags t h among = elim (Contains-push_cases t.handles (next_handle k flags creation_flags t) h among) [ inl was ↦ inl was | inr new ↦ inr (ap (λ (x : HandleView). x.id) (sym new), ap (λ (x : HandleView). x.creation_flags) (sym new)) ]

-- so is one that is given
pub given-handles : (ask : Ask) (k creation_flags : ℕ) (t : ClientState) (h : HandleView) → Contains (handle_given ask k creation_flags t).handles h → Contains t.handles h ⊎ ((h.id ≡ k) × (h.creation_flags ≡ creation_flags))
given-handles (asks.Open place name flags (Some timeout) a) k creation_flags t h among = taken-handles k (flags_or_none (open_flags_of flags)) creation_flags t h among
given-handles (asks.Open place name flags None a) k creation_flags t h among = taken-handles k (flags_or_none (open_flags_of flags)) creation_flags t h among
given-handles ask k creation_flags t h among = inl among

-- one more is given at most
given-few : (ask : Ask) (k creation_flags : ℕ) (t : ClientState) → length (handle_given ask k creation_flags t).handles ≤ length t.handles + 1
given-few (asks.Open place name flags (Some timeout) a) k creation_flags t = let more = length-push t.handles (next_handle k (flags_or_none (open_flags_of flags)) creation_flags t) in omega (arith, more)
given-few (asks.Open place name flags None a) k creation_flags t = let more = length-push t.handles (next_handle k (flags_or_none (open_flags_of flags)) creation_flags t) in omega (arith, more)
given-few ask k creation_flags t = omega arith

-- ---- the handles that calls are about

-- what is found is found where others stand behind
found_before : {X : Type 0} (p : X → Bool) (xs ys : List X) → IsSome (find p xs) → IsSome (find p (xs ++ ys))
found_before {X} p xs ys some = by_found (find p xs) refl some
  where
    by_found : (o : Option X) → find p xs ≡ o → IsSome o → IsSome (find p (xs ++ ys))
    by_found None none some = absurd (cc some)
    by_found (Some x) found some = ap is_some (found_front p xs ys x found)

-- a handle that a place stands for, or over which an iteration goes, is there where one is taken
taken-there : (ask : Ask) (k : ℕ) (flags : OpenFlags) (creation_flags : ℕ) (t : ClientState) → IsSome (handle_asked ask t) → IsSome (handle_asked ask (taken k flags creation_flags t))
taken-there ask k flags creation_flags t = by_ask ask
  where
    at_place : (place : ℕ) → IsSome (handle_at place t) → IsSome (handle_at place (taken k flags creation_flags t))
    at_place place some = found_before _ t.handles (next_handle k flags creation_flags t ∷ []) some

    by_iteration : (o : Option BegunIteration) → IsSome (option_and_then (λ (it : BegunIteration). handle_numbered (goes_over it) t.handles) o) → IsSome (option_and_then (λ (it : BegunIteration). handle_numbered (goes_over it) (taken k flags creation_flags t).handles) o)
    by_iteration None some = some
    by_iteration (Some it) some = found_before _ t.handles (next_handle k flags creation_flags t ∷ []) some

    by_ask : (ask : Ask) → IsSome (handle_asked ask t) → IsSome (handle_asked ask (taken k flags creation_flags t))
    by_ask (asks.Change place update) some = at_place place some
    by_ask (asks.Read place elements) some = at_place place some
    by_ask (asks.Status place) some = at_place place some
    by_ask (asks.Iterate iteration place chosen time) some = at_place place some
    by_ask (asks.Next iteration) some = by_iteration (iteration_at iteration t) some
    by_ask (asks.EndIteration iteration) some = by_iteration (iteration_at iteration t) some
    by_ask (asks.Close place) some = at_place place some
    by_ask (asks.Retain place duration) some = at_place place some
    by_ask (asks.Synchronize place timeout) some = at_place place some
    by_ask (asks.SetActive place) some = at_place place some
    by_ask ask some = some

-- the call has ended, if it was this operation
abbrev behind : Machine → CallState → Op → Machine
behind n s op = record n { in_hand = put_who n.in_hand (stepped_as s.call (word_of_op op)) None }

-- so it is where an open has ended that is given one: an asynchronous one sets no place, and any other was the one for which its client waited
pub given_stays : (n : Machine) (s : CallState) (k creation_flags : ℕ) → KeepsHandle (ending s n) s.call.actor (handle_given (asked s.op) k creation_flags)
given_stays n s k creation_flags = by_op s.op
  where
    by_op : (op : Op) → KeepsHandle (behind n s op) s.call.actor (handle_given (asked op) k creation_flags)
    by_op (ops.Open place name flags timeout a) = idle_keeps (behind n s (ops.Open place name flags timeout a)) s.call.actor (handle_given (asks.Open place name flags (Some timeout) a) k creation_flags) (put_who-here n.in_hand (Actor s.call.actor) None)
    by_op (ops.OpenAsync place invocation name flags a) = λ z at some. taken-there (asked z.op) k (flags_or_none (open_flags_of flags)) creation_flags (n.tables s.call.actor) some
    by_op op = λ z at some. some

-- ---- the invariant

module _ (m : Machine) (shapes : ℕ → Shape) (inv : InvariantIn shapes m) (a : ActorName) where
  -- with a handle of a checkpoint that may be given, and its creation flags, where there is room for it
  pub given_keeps : (ask : Ask) (k : ℕ) → IsGivable m.cluster a k → length (m.tables a).handles + makings_of (number_of a) m.cluster.entries < handles_max → KeepsHandle m a (handle_given ask k (creation_flags_of (entry_of k m.cluster.entries))) → InvariantIn shapes (with_tables a (handle_given ask k (creation_flags_of (entry_of k m.cluster.entries))) m)
  given_keeps ask k can room stays =
      let flags : ℕ = creation_flags_of (entry_of k m.cluster.entries) in
      tables_keep m shapes inv a (handle_given ask k flags) stays (NoneLent-given ask k flags (m.tables a) (inv.rest a))
      (λ h among. elim (given-handles ask k flags (m.tables a) h among) [
        | inl was ↦ inv.handles a h was
        | inr new ↦ IsGoodHandle-given m.cluster a k h can new.0 new.1
      ])
      (λ c is.
      let room_is : length (m.tables a).handles + makings_of c m.cluster.entries < handles_max = subst (λ (b : ActorName). length (m.tables a).handles + makings_of (number_of b) m.cluster.entries < handles_max) is room in
      let few = given-few ask k flags (m.tables a) in
      omega (arith, room_is, few))

  -- with none
  pub emptied_keeps : KeepsHandle m a emptied → InvariantIn shapes (with_tables a emptied m)
  emptied_keeps stays = fewer_keep m shapes inv a emptied stays (NoneLent-emptied (m.tables a)) (λ h among. let (i, below, is) = among in absurd (omega (arith, below))) (omega arith)

  module _ (idle : m.in_hand (Actor a) ≡ None) where
    -- where the handles stay
    pub same_handles_keep : (change : ClientState → ClientState) → NoneLent (change (m.tables a)) → (change (m.tables a)).handles ≡ (m.tables a).handles → InvariantIn shapes (with_tables a change m)
    same_handles_keep change at_rest same = fewer_keep m shapes inv a change (idle_keeps m a change idle) at_rest (λ h. subst (λ (hs : List HandleView). Contains hs h → Contains (m.tables a).handles h) (sym same) (λ among. among)) (let few : length (change (m.tables a)).handles ≡ length (m.tables a).handles = ap length same in omega (arith, few))

    -- without a handle that was closed
    pub closing_keeps : (ask : Ask) → InvariantIn shapes (with_tables a (closing ask) m)
    closing_keeps ask = fewer_keep m shapes inv a (closing ask) (idle_keeps m a (closing ask) idle) (NoneLent-closing ask (m.tables a) (inv.rest a)) (closing-handles ask (m.tables a)) (closing-few ask (m.tables a))

    -- with an iteration that has started
    pub started_keeps : (ask : Ask) (room : Room) (chosen_by : Choice → List (List ℕ)) → InvariantIn shapes (with_tables a (started ask room chosen_by) m)
    started_keeps ask room chosen_by = same_handles_keep (started ask room chosen_by) (NoneLent-started ask room chosen_by (m.tables a) (inv.rest a)) (started-handles ask room chosen_by (m.tables a))

    -- with one that has gone on
    pub gone_on_keeps : (ask : Ask) (next : Option NextGiven) → InvariantIn shapes (with_tables a (gone_on ask next) m)
    gone_on_keeps ask next = same_handles_keep (gone_on ask next) (NoneLent-gone_on ask next (m.tables a) (inv.rest a)) (gone_on-handles ask next (m.tables a))

    -- with other callbacks
    pub registering_keeps : (ask : Ask) → InvariantIn shapes (with_tables a (registering ask) m)
    registering_keeps ask = same_handles_keep (registering ask) (NoneLent-registering ask (m.tables a) (inv.rest a)) (registering-handles ask (m.tables a))

    -- with one that has ended, or with the places of callbacks set
    pub ended_at_once_keeps : (end : Option Outcome) (ask : Ask) (p : PendingCalls) → InvariantIn shapes (with_tables a (ended_at_once end ask p) m)
    ended_at_once_keeps end ask p = same_handles_keep (ended_at_once end ask p) (NoneLent-ended_at_once end ask p (m.tables a) (inv.rest a)) (ended_at_once-handles end ask p (m.tables a))
