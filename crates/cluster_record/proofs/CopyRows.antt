-- Worked examples of the copying to a node that has come back, each by computation: its steps from the first to the last, and how it ends.
use Rattle.std.proofs.Common.{◌≡◌, ℕ, ◌+◌, List, [], ◌∷◌, map, codes, pos, Option, Some, None, refl}
use Rattle.std.specs.Prelude.{slice_set, slice_index}
use Rattle.ckpt_types.specs.declared.ais_error.AisError.TheVariants.{NotExist, TryAgain}
use Rattle.ckpt_types.specs.declared.answers.Answer.TheVariants as answers
use Rattle.ckpt_types.specs.declared.answers.Cause.TheVariants.{Plain, Generations, Holder}
use Rattle.ckpt_types.specs.declared.answers.Outcome.{Outcome}
use Rattle.ckpt_types.specs.declared.answers.Outcome.TheVariants.{Done, Refused, NoMemory}
use Rattle.ckpt_types.specs.declared.identities.ActorName.TheVariants.{Client, Node}
use Rattle.ckpt_types.specs.declared.identities.CallId.{CallId}
use Rattle.ckpt_types.specs.Limits.{wr_all_replicas, wr_active_replica, checkpoint_collocated}
use Rattle.node_msgs.specs.declared.next.Next.{Next}
use Rattle.node_msgs.specs.declared.next.Next.TheVariants.{Serve, Event, End}
use Rattle.node_msgs.specs.declared.next.RecordStep.TheVariants.{Complete}
use Rattle.node_msgs.specs.declared.replies.Reply.{Reply}
use Rattle.node_msgs.specs.declared.replies.Reply.TheVariants as replies
use Rattle.node_msgs.specs.declared.requests.Request.TheVariants.{Reserve, Stage, Claim, Withdraw, Commit, Pull}
use Rattle.cluster_record.specs.declared.calls.UpdatePhase.TheVariants as updating
use Rattle.cluster_record.specs.declared.copying.CopyPhase.{CopyPhase}
use Rattle.cluster_record.specs.declared.copying.CopyPhase.TheVariants.{Reserved, Staging, PulledActive, PulledStaged, Committing}
use Rattle.cluster_record.specs.declared.entries.Entry.{Entry}
use Rattle.cluster_record.specs.DueCopy.{CopyState, copy_begun, copy_next, copy_told, copy_outcome, next_to_copy}
use Rattle.cluster_record.specs.DueUpdate.{update_begun}
use Rattle.cluster_record.specs.Failing.{failed}
use Rattle.cluster_record.specs.Makings.{making_finished}
use Rattle.cluster_record.specs.Opening.{after_open}
use Rattle.cluster_record.specs.Places.{change_key}
use Rattle.cluster_record.specs.RecordState.{RecordState, empty_record, brought_up, entered, identity_of, moved, no_nodes, undone}

-- ---- the words of the examples

-- the copying to n2, a call of a client that is live, and one of a client that is not
abbrev copy_call : CallId
copy_call = record { actor = Node 2; number = 1 }

abbrev live_call : CallId
live_call = record { actor = Client 0; number = 8 }

abbrev gone_call : CallId
gone_call = record { actor = Client 7; number = 2 }

-- c0 begins to make a checkpoint with these flags
abbrev making : List ℕ → ℕ → RecordState → RecordState
making name flags R = after_open (record { actor = Client 0; number = 2 }) (record {
  name = name;
  attrs = Some (record { creation_flags = flags; checkpoint_size = 64; retention_duration = pos 10; max_sections = 1; max_section_size = 64; max_section_id_size = 8 });
  client = 0;
  node = 0;
}) R

-- and makes it
abbrev made : List ℕ → ℕ → RecordState → RecordState
made name flags R = making_finished (R.last_identity + 1) (making name flags R)

-- n0, n1 and n2, with c0 on n0
abbrev three_nodes : RecordState
three_nodes = entered 0 0 1 (brought_up 3 empty_record)

-- no replica has an update
abbrev no_counts : ℕ → ℕ → ℕ
no_counts k r = 0

-- n2 fails and comes back, in its second incarnation; the moment is 7
abbrev back : RecordState → RecordState
back R = moved (pos 7) (let without = failed no_counts 2 R in record without { up = slice_set without.up 2 2 })

-- K1, whose updates go to all replicas; K1, whose updates go to the active alone; and K1 and K2, of each kind
abbrev with_all : RecordState
with_all = back (made (codes "a") wr_all_replicas three_nodes)

abbrev with_active : RecordState
with_active = back (made (codes "b") wr_active_replica three_nodes)

abbrev with_both : RecordState
with_both = back (made (codes "b") wr_active_replica (made (codes "a") wr_all_replicas three_nodes))

-- K1 is collocated, K2 is in the making, K3 is neither, and K4 was made since
abbrev with_others : RecordState
with_others = made (codes "d") wr_all_replicas (back (made (codes "c") wr_active_replica (making (codes "b") wr_all_replicas (made (codes "a") (wr_active_replica + checkpoint_collocated) three_nodes))))

-- ---- its steps

abbrev copy_of_n2 : CopyState
copy_of_n2 = copy_begun copy_call (update_begun copy_call 0)

-- a node is complete, with the incarnation with which it is up
abbrev completed_on : ℕ → List ℕ → Entry → Entry
completed_on r up e = record e { complete = slice_set e.complete r (slice_index up r) }

-- the record behind what is next
abbrev behind : Next → RecordState → RecordState
behind (Event (Complete k r moment)) R = record R { entries = change_key identity_of k (completed_on r R.up) R.entries }
behind next R = R

-- each step with how its reply ends the copying, while these replies come
abbrev steps : RecordState → CopyState → List Reply → List (Next × Option Outcome)
steps R s [] = []
steps R s (reply ∷ rest) = (copy_next R s, copy_outcome (behind (copy_next R s) R) reply s) ∷ steps (behind (copy_next R s) R) (copy_told (behind (copy_next R s) R) reply s) rest

abbrev ok : Reply
ok = replies.Done answers.Nothing

-- a step behind which it goes on, and the last one
abbrev goes_on : Next → Next × Option Outcome
goes_on next = (next, None)

abbrev ends_ok : Next → Next × Option Outcome
ends_ok next = (next, Some (Done answers.Nothing))

pub copy_where_updates_go_to_all : steps with_all copy_of_n2 (ok ∷ ok ∷ ok ∷ ok ∷ ok ∷ ok ∷ ok ∷ ok ∷ []) ≡
    goes_on (Serve 2 (Reserve 1))
    ∷ goes_on (Serve 0 (Stage copy_call 1 (pos 7)))
    ∷ goes_on (Serve 1 (Stage copy_call 1 (pos 7)))
    ∷ goes_on (Serve 0 (Pull copy_call 1))
    ∷ goes_on (Event (Complete 1 2 (Some (pos 7))))
    ∷ goes_on (Serve 2 (Commit copy_call 1))
    ∷ goes_on (Serve 1 (Commit copy_call 1))
    ∷ ends_ok (Serve 0 (Commit copy_call 1))
    ∷ []
copy_where_updates_go_to_all = refl

pub copy_where_updates_go_to_the_active : steps with_active copy_of_n2 (ok ∷ ok ∷ ok ∷ []) ≡
    goes_on (Serve 2 (Reserve 1))
    ∷ goes_on (Serve 0 (Pull copy_call 1))
    ∷ ends_ok (Event (Complete 1 2 None))
    ∷ []
copy_where_updates_go_to_the_active = refl

pub copy_of_both : steps with_both copy_of_n2 (ok ∷ ok ∷ ok ∷ ok ∷ ok ∷ ok ∷ ok ∷ ok ∷ ok ∷ ok ∷ ok ∷ []) ≡
    goes_on (Serve 2 (Reserve 1))
    ∷ goes_on (Serve 0 (Stage copy_call 1 (pos 7)))
    ∷ goes_on (Serve 1 (Stage copy_call 1 (pos 7)))
    ∷ goes_on (Serve 0 (Pull copy_call 1))
    ∷ goes_on (Event (Complete 1 2 (Some (pos 7))))
    ∷ goes_on (Serve 2 (Commit copy_call 1))
    ∷ goes_on (Serve 1 (Commit copy_call 1))
    ∷ goes_on (Serve 0 (Commit copy_call 1))
    ∷ goes_on (Serve 2 (Reserve 2))
    ∷ goes_on (Serve 0 (Pull copy_call 2))
    ∷ ends_ok (Event (Complete 2 2 None))
    ∷ []
copy_of_both = refl

-- the slot of a call that is gone stands on n0, and n1 has its update: it is committed, and then its own is staged
pub copy_that_settles_first : steps with_all copy_of_n2 (ok ∷ replies.Held gone_call ∷ replies.Claimed 4 ∷ replies.Free 5 ∷ ok ∷ ok ∷ ok ∷ ok ∷ []) ≡
    goes_on (Serve 2 (Reserve 1))
    ∷ goes_on (Serve 0 (Stage copy_call 1 (pos 7)))
    ∷ goes_on (Serve 0 (Claim copy_call 1 gone_call))
    ∷ goes_on (Serve 1 (Claim copy_call 1 gone_call))
    ∷ goes_on (Serve 0 (Commit copy_call 1))
    ∷ goes_on (Serve 0 (Stage copy_call 1 (pos 7)))
    ∷ goes_on (Serve 1 (Stage copy_call 1 (pos 7)))
    ∷ goes_on (Serve 0 (Pull copy_call 1))
    ∷ []
copy_that_settles_first = refl

-- no replica has it: it is withdrawn
pub copy_that_withdraws_first : steps with_all copy_of_n2 (ok ∷ replies.Held gone_call ∷ replies.Claimed 4 ∷ replies.Free 4 ∷ ok ∷ ok ∷ ok ∷ ok ∷ []) ≡
    goes_on (Serve 2 (Reserve 1))
    ∷ goes_on (Serve 0 (Stage copy_call 1 (pos 7)))
    ∷ goes_on (Serve 0 (Claim copy_call 1 gone_call))
    ∷ goes_on (Serve 1 (Claim copy_call 1 gone_call))
    ∷ goes_on (Serve 0 (Withdraw copy_call 1))
    ∷ goes_on (Serve 0 (Stage copy_call 1 (pos 7)))
    ∷ goes_on (Serve 1 (Stage copy_call 1 (pos 7)))
    ∷ goes_on (Serve 0 (Pull copy_call 1))
    ∷ []
copy_that_withdraws_first = refl

-- ---- which checkpoints it copies

pub lacked_of_others : map (λ r. next_to_copy r with_others.entries) (0 ∷ 1 ∷ 2 ∷ 3 ∷ []) ≡ None ∷ None ∷ Some 3 ∷ Some 3 ∷ []
lacked_of_others = refl

pub copy_of_what_it_lacks : steps with_others copy_of_n2 (ok ∷ ok ∷ ok ∷ []) ≡
    goes_on (Serve 2 (Reserve 3))
    ∷ goes_on (Serve 0 (Pull copy_call 3))
    ∷ ends_ok (Event (Complete 3 2 None))
    ∷ []
copy_of_what_it_lacks = refl

-- it lacks none: the record alone ends it
pub copy_of_none : map (λ R. (copy_next R copy_of_n2, copy_outcome R ok copy_of_n2)) (three_nodes ∷ empty_record ∷ made (codes "a") wr_all_replicas three_nodes ∷ []) ≡
    ends_ok (End (Done answers.Nothing)) ∷ ends_ok (End (Done answers.Nothing)) ∷ ends_ok (End (Done answers.Nothing)) ∷ []
copy_of_none = refl

-- ---- what comes between

-- at K1 it is so far, with its slots at these nodes that are of the moment 5
abbrev at_K1 : CopyPhase → List ℕ → CopyState
at_K1 phase owned = record copy_of_n2 { copying = Some (record { ckpt = 1; phase = phase }); staging = record (update_begun copy_call 1) { owned = owned; moment = pos 5 } }

abbrev on_n0_and_n1 : List ℕ
on_n0_and_n1 = 1 ∷ 1 ∷ 0 ∷ 0 ∷ 0 ∷ 0 ∷ 0 ∷ 0 ∷ []

-- K1 is gone: it goes on with K2; where K2 is gone too, it is done
pub copy_of_what_is_gone : map (copy_next (undone 1 with_both)) (at_K1 Reserved no_nodes ∷ at_K1 Staging on_n0_and_n1 ∷ at_K1 (PulledActive 1) no_nodes ∷ at_K1 PulledStaged on_n0_and_n1 ∷ at_K1 Committing on_n0_and_n1 ∷ []) ≡
    Serve 2 (Reserve 2) ∷ Serve 2 (Reserve 2) ∷ Serve 2 (Reserve 2) ∷ Serve 2 (Reserve 2) ∷ Serve 2 (Reserve 2) ∷ []
copy_of_what_is_gone = refl

pub copy_of_what_is_all_gone : map (copy_next (undone 2 (undone 1 with_both))) (at_K1 Reserved no_nodes ∷ at_K1 Staging on_n0_and_n1 ∷ at_K1 (PulledActive 1) no_nodes ∷ at_K1 PulledStaged on_n0_and_n1 ∷ at_K1 Committing on_n0_and_n1 ∷ []) ≡
    End (Done answers.Nothing) ∷ End (Done answers.Nothing) ∷ End (Done answers.Nothing) ∷ End (Done answers.Nothing) ∷ End (Done answers.Nothing) ∷ []
copy_of_what_is_all_gone = refl

-- the active's node fails behind the pull, and the generation is the second then
pub copy_of_another_generation : steps (failed no_counts 0 with_active) (at_K1 (PulledActive 1) no_nodes) (ok ∷ []) ≡
    (End (Refused TryAgain (Generations 1 2)), Some (Refused TryAgain (Generations 1 2))) ∷ []
copy_of_another_generation = refl

-- before its pull that does nothing
pub copy_from_the_next_active : steps (failed no_counts 0 with_active) (at_K1 Reserved no_nodes) (ok ∷ ok ∷ []) ≡
    goes_on (Serve 1 (Pull copy_call 1)) ∷ ends_ok (Event (Complete 1 2 None)) ∷ []
copy_from_the_next_active = refl

-- where updates go to all replicas the generation tells nothing: what is staged on all that are left is completed
pub copy_behind_a_failure : steps (failed no_counts 0 with_all) (at_K1 Staging on_n0_and_n1) (ok ∷ ok ∷ ok ∷ ok ∷ []) ≡
    goes_on (Serve 1 (Pull copy_call 1))
    ∷ goes_on (Event (Complete 1 2 (Some (pos 5))))
    ∷ goes_on (Serve 2 (Commit copy_call 1))
    ∷ ends_ok (Serve 1 (Commit copy_call 1))
    ∷ []
copy_behind_a_failure = refl

-- n1 has committed, and the last slot goes with n0: the record alone ends it
abbrev last_slot_on_n0 : CopyState
last_slot_on_n0 = record (at_K1 Committing no_nodes) { staging = record (update_begun copy_call 1) { owned = 1 ∷ 0 ∷ 0 ∷ 0 ∷ 0 ∷ 0 ∷ 0 ∷ 0 ∷ []; phase = updating.Committing } }

pub copy_whose_last_slot_goes : steps (failed no_counts 0 (behind (Event (Complete 1 2 None)) with_all)) last_slot_on_n0 (ok ∷ []) ≡ ends_ok (End (Done answers.Nothing)) ∷ []
copy_whose_last_slot_goes = refl

-- ---- how it is refused

-- a reply to what is next at K1, and how that ends it
abbrev ended_by : RecordState → CopyPhase → Reply → Option Outcome
ended_by R phase reply = copy_outcome R reply (at_K1 phase no_nodes)

pub how_a_copying_is_refused :
    copy_outcome with_all replies.NoMemory copy_of_n2
    ∷ ended_by with_all Reserved (replies.Held live_call)
    ∷ ended_by with_all Staging (replies.Held live_call)
    ∷ ended_by with_all Staging (replies.Held gone_call)
    ∷ ended_by with_active Reserved (replies.Held live_call)
    ∷ ended_by with_all Staging replies.NoReplica
    ∷ [] ≡
    Some NoMemory
    ∷ Some (Refused TryAgain (Holder live_call))
    ∷ Some (Refused TryAgain (Holder live_call))
    ∷ None
    ∷ Some (Refused TryAgain (Holder live_call))
    ∷ Some (Refused NotExist Plain)
    ∷ []
how_a_copying_is_refused = refl

-- want of memory, and a pull that marks keep off, leave it where it was
pub copy_that_is_kept_off : copy_told with_all replies.NoMemory copy_of_n2 ∷ copy_told with_active (replies.Held live_call) (at_K1 Reserved no_nodes) ∷ [] ≡ copy_of_n2 ∷ at_K1 Reserved no_nodes ∷ []
copy_that_is_kept_off = refl
