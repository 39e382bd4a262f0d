-- Worked examples of an update on all replicas, each by computation: what it does next, and what comes of the reply, in each of its phases.
use Rattle.std.proofs.Common.{◌≡◌, ℕ, List, [], ◌∷◌, map, codes, pos, Option, Some, None, Bool, true, false, refl}
use Rattle.std.specs.Prelude.{ℤ, slice_set}
use Rattle.ckpt_types.specs.declared.ais_error.AisError.TheVariants.{Exist, NotExist, TryAgain}
use Rattle.ckpt_types.specs.declared.answers.Answer.TheVariants as answers
use Rattle.ckpt_types.specs.declared.answers.Cause.TheVariants.{Plain, Index, Holder}
use Rattle.ckpt_types.specs.declared.answers.Outcome.{Outcome}
use Rattle.ckpt_types.specs.declared.answers.Outcome.TheVariants.{Done, Refused}
use Rattle.ckpt_types.specs.declared.identities.ActorName.TheVariants.{Client}
use Rattle.ckpt_types.specs.declared.identities.CallId.{CallId}
use Rattle.ckpt_types.specs.Limits.{wr_all_replicas}
use Rattle.node_msgs.specs.declared.next.Next.{Next}
use Rattle.node_msgs.specs.declared.next.Next.TheVariants.{Serve, End}
use Rattle.node_msgs.specs.declared.replies.Reply.{Reply}
use Rattle.node_msgs.specs.declared.replies.Reply.TheVariants as replies
use Rattle.node_msgs.specs.declared.requests.Request.TheVariants.{Stage, Claim, Commit, Withdraw}
use Rattle.cluster_record.specs.declared.calls.UpdatePhase.{UpdatePhase}
use Rattle.cluster_record.specs.declared.calls.UpdatePhase.TheVariants.{Staging, Committing, Claiming, Claimed, Withdrawing, Resolving}
use Rattle.cluster_record.specs.DueUpdate.{UpdateState, all_staged, update_begun, update_joined, update_next}
use Rattle.cluster_record.specs.Ends.{update_outcome, update_told}
use Rattle.cluster_record.specs.Failing.{failed}
use Rattle.cluster_record.specs.Makings.{making_finished}
use Rattle.cluster_record.specs.Opening.{after_open}
use Rattle.cluster_record.specs.RecordState.{RecordState, empty_record, brought_up, entered, moved, no_nodes}

-- ---- the words of the examples

-- the call of the update, and another of a client that is live
abbrev own_call : CallId
own_call = record { actor = Client 0; number = 4 }

abbrev live_call : CallId
live_call = record { actor = Client 1; number = 8 }

-- two calls of clients that are not live
abbrev gone_call : CallId
gone_call = record { actor = Client 7; number = 2 }

abbrev third_call : CallId
third_call = record { actor = Client 8; number = 6 }

-- a checkpoint on n0, n1 and n2, whose updates go to all of them; c0 and c1 are live, and the moment is 7
abbrev three_replicas : RecordState
three_replicas = moved (pos 7) (making_finished 1 (after_open own_call (record {
  name = codes "a";
  attrs = Some (record { creation_flags = wr_all_replicas; checkpoint_size = 64; retention_duration = pos 10; max_sections = 1; max_section_size = 64; max_section_id_size = 8 });
  client = 0;
  node = 0;
}) (entered 1 1 1 (entered 0 0 1 (brought_up 3 empty_record)))))

-- the same behind the failure of n2
abbrev two_replicas : RecordState
two_replicas = failed (λ k r. 0) 2 three_replicas

-- slots at these nodes, each in its first incarnation
abbrev slots_at : List ℕ → List ℕ
slots_at [] = no_nodes
slots_at (r ∷ rs) = slice_set (slots_at rs) r 1

-- the update in a phase, with slots at these nodes that are of the moment 5, where the replicas had 4 updates; of those that are gone, it has met that call
abbrev update_in : UpdatePhase → List ℕ → UpdateState
update_in phase nodes = record { call = own_call; ckpt = 1; owned = slots_at nodes; moment = pos 5; phase = phase; count = 4; owner = gone_call }

-- ---- what it does next, by its phase and where it has a slot

abbrev next_in : RecordState → UpdatePhase × List ℕ → Next
next_in R row = update_next R (update_in row.0 row.1)

pub what_an_update_does_next : map (next_in three_replicas) (
    (Staging, [])
    ∷ (Staging, 0 ∷ [])
    ∷ (Staging, 0 ∷ 1 ∷ 2 ∷ [])
    ∷ (Committing, [])
    ∷ (Committing, 0 ∷ 1 ∷ [])
    ∷ (Claiming, [])
    ∷ (Claimed, [])
    ∷ (Claimed, 0 ∷ [])
    ∷ (Claimed, 0 ∷ 1 ∷ 2 ∷ [])
    ∷ (Withdrawing, [])
    ∷ (Withdrawing, 0 ∷ 1 ∷ [])
    ∷ (Resolving, [])
    ∷ (Resolving, 0 ∷ 1 ∷ [])
    ∷ []) ≡
    Serve 0 (Stage own_call 1 (pos 7))
    ∷ Serve 1 (Stage own_call 1 (pos 5))
    ∷ Serve 2 (Commit own_call 1)
    ∷ End (Done answers.Nothing)
    ∷ Serve 1 (Commit own_call 1)
    ∷ Serve 0 (Claim own_call 1 gone_call)
    ∷ Serve 0 (Stage own_call 1 (pos 7))
    ∷ Serve 1 (Claim own_call 1 gone_call)
    ∷ Serve 2 (Commit own_call 1)
    ∷ Serve 0 (Stage own_call 1 (pos 7))
    ∷ Serve 1 (Withdraw own_call 1)
    ∷ Serve 0 (Stage own_call 1 (pos 7))
    ∷ Serve 1 (Commit own_call 1)
    ∷ []
what_an_update_does_next = refl

-- a slot that went with its node is none: what has slots at n0 and n1 lacks no node, and what had one at n2 alone has none
pub slots_go_with_their_nodes : map (next_in two_replicas) ((Staging, 0 ∷ 1 ∷ []) ∷ (Committing, 2 ∷ []) ∷ (Claimed, 0 ∷ 1 ∷ []) ∷ (Claimed, 2 ∷ []) ∷ (Withdrawing, 1 ∷ 2 ∷ []) ∷ (Resolving, 2 ∷ []) ∷ []) ≡
    Serve 1 (Commit own_call 1)
    ∷ End (Done answers.Nothing)
    ∷ Serve 1 (Commit own_call 1)
    ∷ Serve 0 (Stage own_call 1 (pos 7))
    ∷ Serve 1 (Withdraw own_call 1)
    ∷ Serve 0 (Stage own_call 1 (pos 7))
    ∷ []
slots_go_with_their_nodes = refl

-- where the checkpoint is gone, each ends so
pub update_of_what_is_gone : map (next_in empty_record) ((Staging, []) ∷ (Committing, 0 ∷ []) ∷ (Claiming, []) ∷ (Claimed, 0 ∷ []) ∷ (Withdrawing, 0 ∷ []) ∷ (Resolving, 0 ∷ []) ∷ []) ≡
    End (Refused NotExist Plain)
    ∷ End (Refused NotExist Plain)
    ∷ End (Refused NotExist Plain)
    ∷ End (Refused NotExist Plain)
    ∷ End (Refused NotExist Plain)
    ∷ End (Refused NotExist Plain)
    ∷ []
update_of_what_is_gone = refl

-- ---- what comes of the reply: its end, or its phase then and where it has a slot, of which moment, with which count, and whom it has met

abbrev told_in : UpdatePhase × List ℕ × Reply → Option Outcome × UpdateState
told_in row = (update_outcome three_replicas row.2 (update_in row.0 row.1), update_told three_replicas row.2 (update_in row.0 row.1))

-- what it keeps in a phase, where nothing else changed
abbrev goes_on : UpdatePhase → List ℕ → Option Outcome × UpdateState
goes_on phase nodes = (None, update_in phase nodes)

-- the same at another moment, with another count, or with another call that it has met
abbrev goes_on_at : ℤ → UpdatePhase → List ℕ → Option Outcome × UpdateState
goes_on_at moment phase nodes = (None, record (update_in phase nodes) { moment = moment })

abbrev goes_on_by : ℕ → UpdatePhase → List ℕ → Option Outcome × UpdateState
goes_on_by count phase nodes = (None, record (update_in phase nodes) { count = count })

abbrev goes_on_from : CallId → UpdatePhase → List ℕ → Option Outcome × UpdateState
goes_on_from owner phase nodes = (None, record (update_in phase nodes) { owner = owner })

pub what_comes_of_a_reply : map told_in (
    (Staging, [], replies.Done answers.Nothing)
    ∷ (Staging, [], replies.Held third_call)
    ∷ (Staging, 0 ∷ [], replies.Done answers.Nothing)
    ∷ (Staging, 0 ∷ 1 ∷ 2 ∷ [], replies.Done answers.Nothing)
    ∷ (Committing, 0 ∷ 1 ∷ [], replies.Done answers.Nothing)
    ∷ (Claiming, [], replies.Claimed 9)
    ∷ (Claiming, [], replies.Held third_call)
    ∷ (Claiming, [], replies.Free 4)
    ∷ (Claimed, [], replies.Done answers.Nothing)
    ∷ (Claimed, 0 ∷ [], replies.Claimed 4)
    ∷ (Claimed, 0 ∷ [], replies.Held third_call)
    ∷ (Claimed, 0 ∷ [], replies.Free 4)
    ∷ (Claimed, 0 ∷ [], replies.Free 5)
    ∷ (Claimed, 0 ∷ 1 ∷ 2 ∷ [], replies.Done answers.Nothing)
    ∷ (Withdrawing, 0 ∷ 1 ∷ [], replies.Done answers.Nothing)
    ∷ (Withdrawing, 0 ∷ [], replies.Done answers.Nothing)
    ∷ (Withdrawing, [], replies.Done answers.Nothing)
    ∷ (Resolving, 0 ∷ 1 ∷ [], replies.Done answers.Nothing)
    ∷ (Resolving, 0 ∷ [], replies.Done answers.Nothing)
    ∷ (Resolving, [], replies.Done answers.Nothing)
    ∷ []) ≡
    goes_on_at (pos 7) Staging (0 ∷ [])
    ∷ goes_on_from third_call Claiming []
    ∷ goes_on Staging (0 ∷ 1 ∷ [])
    ∷ goes_on Committing (0 ∷ 1 ∷ [])
    ∷ goes_on Committing (0 ∷ [])
    ∷ goes_on_by 9 Claimed (0 ∷ [])
    ∷ goes_on_from third_call Claiming []
    ∷ goes_on Staging []
    ∷ goes_on_at (pos 7) Staging (0 ∷ [])
    ∷ goes_on Claimed (0 ∷ 1 ∷ [])
    ∷ goes_on_from third_call Claimed (0 ∷ [])
    ∷ goes_on Withdrawing (0 ∷ [])
    ∷ goes_on Resolving (0 ∷ [])
    ∷ goes_on Resolving (0 ∷ 1 ∷ [])
    ∷ goes_on Withdrawing (0 ∷ [])
    ∷ goes_on Withdrawing []
    ∷ goes_on_at (pos 7) Staging (0 ∷ [])
    ∷ goes_on Resolving (0 ∷ [])
    ∷ goes_on Resolving []
    ∷ goes_on_at (pos 7) Staging (0 ∷ [])
    ∷ []
what_comes_of_a_reply = refl

abbrev end_in : UpdatePhase × List ℕ × Reply → Option Outcome
end_in row = (told_in row).0

-- it ends by the commit of its own update that leaves no slot, by a look where no slot is left, by a live call in its way, or by a refusal
pub how_an_update_ends : map end_in (
    (Committing, 0 ∷ [], replies.Done answers.Nothing)
    ∷ (Committing, [], replies.Done answers.Nothing)
    ∷ (Staging, [], replies.Held live_call)
    ∷ (Claiming, [], replies.Held live_call)
    ∷ (Staging, [], replies.Refused Exist 0)
    ∷ []) ≡
    Some (Done answers.Nothing)
    ∷ Some (Done answers.Nothing)
    ∷ Some (Refused TryAgain (Holder live_call))
    ∷ Some (Refused TryAgain (Holder live_call))
    ∷ Some (Refused Exist (Index 0))
    ∷ []
how_an_update_ends = refl

-- ---- its staging

abbrev staged_in : UpdatePhase × List ℕ → Bool
staged_in row = all_staged three_replicas (update_in row.0 row.1)

pub staged_on_each_complete_node : map staged_in ((Staging, []) ∷ (Staging, 0 ∷ 1 ∷ []) ∷ (Staging, 0 ∷ 1 ∷ 2 ∷ []) ∷ (Staging, 0 ∷ 1 ∷ 2 ∷ 3 ∷ []) ∷ (Committing, 0 ∷ 1 ∷ 2 ∷ []) ∷ (Claimed, 0 ∷ 1 ∷ 2 ∷ []) ∷ []) ≡
    false ∷ false ∷ true ∷ true ∷ false ∷ false ∷ []
staged_on_each_complete_node = refl

-- no complete node is left, so it is staged on none
pub staged_on_none : all_staged empty_record (update_begun own_call 1) ≡ false
staged_on_none = refl

pub node_that_joins_has_a_slot : update_joined 3 1 (update_in Staging (0 ∷ 1 ∷ 2 ∷ [])) ≡ update_in Staging (0 ∷ 1 ∷ 2 ∷ 3 ∷ [])
node_that_joins_has_a_slot = refl
