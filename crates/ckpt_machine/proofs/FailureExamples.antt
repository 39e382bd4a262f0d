-- Worked examples of what a failure leaves, by computation: a weak write is broken, another active is chosen, a checkpoint goes with its last node, a making is undone, and calls are abandoned.
use Rattle.std.proofs.Common.{◌≡◌, ℕ, ◌+◌, List, [], ◌∷◌, ◌++◌, map, Option, Some, None, is_some, codes, true, false, pos, ℤ, length, inl, refl}
use Rattle.std.specs.Prelude.{slice_index}
use Rattle.std.specs.Option.{option_map}
use Rattle.ckpt_types.specs.declared.answers.Answer.TheVariants as answers
use Rattle.ckpt_types.specs.declared.answers.Outcome.TheVariants.{Done}
use Rattle.ckpt_types.specs.declared.attributes.CreationAttributes.{CreationAttributes}
use Rattle.ckpt_types.specs.declared.identities.ActorName.TheVariants.{Client}
use Rattle.ckpt_types.specs.declared.identities.CallId.{CallId}
use Rattle.ckpt_types.specs.declared.identities.Who.TheVariants.{Actor, Call}
use Rattle.ckpt_types.specs.declared.operation.Op.TheVariants as ops
use Rattle.ckpt_types.specs.declared.sections.SectionState.{SectionState}
use Rattle.ckpt_types.specs.declared.sections.SectionState.TheVariants.{Valid, Corrupted}
use Rattle.ckpt_types.specs.declared.words.OpWord.TheVariants as opwords
use Rattle.ckpt_types.specs.Limits.{wr_all_replicas, wr_active_replica, wr_active_replica_weak, checkpoint_write, checkpoint_create, release, major_max, minor_answered, end_of_time}
use Rattle.ckpt_types.specs.Sections.{Section}
use Rattle.node_msgs.specs.declared.details.Details.TheVariants as beside
use Rattle.node_msgs.specs.declared.steps.StepReply.TheVariants as words
use Rattle.node_msgs.specs.declared.steps.Verb.{Verb}
use Rattle.node_msgs.specs.declared.steps.Verb.TheVariants as verbs
use Rattle.run_labels.specs.declared.labels.Label.{Label}
use Rattle.run_labels.specs.declared.labels.Label.TheVariants as labels
use Rattle.run_labels.specs.declared.labels.PullReply.TheVariants as pulls
use Rattle.run_labels.specs.declared.labels.PutReply.TheVariants as puts
use Rattle.call_dispatch.specs.PendingCalls.{no_pending}
use Rattle.cluster_record.specs.declared.entries.Entry.{Entry}
use Rattle.cluster_record.specs.RecordState.{entry_of, is_live, is_live_client, is_up}
use Rattle.ckpt_machine.specs.BrokenCorrupt.{IsNamedByBroken}
use Rattle.ckpt_machine.specs.Failing.{failed_at}
use Rattle.ckpt_machine.specs.Machine.{Machine, Effect, Applied, Broken, ReplicaState}
use Rattle.ckpt_machine.specs.Runs.{last}
use Rattle.ckpt_machine.proofs.AcknowledgedExamples.{call_numbered, answered_ok, abc, effects_of}
use Rattle.ckpt_machine.proofs.ClaimExamples.{other_numbered, an_initialize, until_it_holds, holder_of, active_of}

-- ---- the words of the examples

-- the calls of c2
abbrev pub third_numbered : ℕ → CallId
third_numbered n = record { actor = Client 2; number = n }

-- a checkpoint with one section of 8 bytes, by its flags, which is kept for 10 behind its last close
abbrev one_section : ℕ → CreationAttributes
one_section flags = record { creation_flags = flags; checkpoint_size = 8; retention_duration = pos 10; max_sections = 1; max_section_size = 8; max_section_id_size = 8 }

-- three nodes come up, and c0 enters on n0 and c1 on n1
abbrev two_clients : List Label
two_clients =
    labels.Nodes 3
    ∷ labels.Began (call_numbered 1) (an_initialize 0) None beside.Nothing
    ∷ labels.Stepped (call_numbered 1) opwords.Client verbs.Enter None (Some 0) words.Ok (Some (Done answers.Version)) beside.Nothing
    ∷ labels.Began (other_numbered 1) (an_initialize 1) None beside.Nothing
    ∷ labels.Stepped (other_numbered 1) opwords.Client verbs.Enter None (Some 1) words.Ok (Some (Done answers.Version)) beside.Nothing
    ∷ []

-- c0 begins to make a checkpoint with these flags
abbrev making : ℕ → List Label
making flags =
    two_clients
    ++ labels.Began (call_numbered 2) (ops.Open 0 (codes "ck") (checkpoint_write + checkpoint_create) end_of_time (Some (one_section flags))) None beside.Nothing
    ∷ labels.Stepped (call_numbered 2) opwords.Open verbs.Create (Some 1) None words.Ok None beside.Nothing
    ∷ labels.Stepped (call_numbered 2) opwords.Open verbs.Reserve (Some 1) (Some 0) words.Ok None beside.Nothing
    ∷ labels.Stepped (call_numbered 2) opwords.Open verbs.Reserve (Some 1) (Some 1) words.Ok None beside.Nothing
    ∷ []

-- it is made on all three, c1 opens it, and begins to write
abbrev pub writing : ℕ → List Label
writing flags =
    making flags
    ++ labels.Stepped (call_numbered 2) opwords.Open verbs.Reserve (Some 1) (Some 2) words.Ok None beside.Nothing
    ∷ labels.Stepped (call_numbered 2) opwords.Open verbs.Finish (Some 1) None words.Ok (Some (Done (answers.Opened 1))) beside.Nothing
    ∷ labels.Began (other_numbered 2) (ops.Open 0 (codes "ck") checkpoint_write end_of_time None) None beside.Nothing
    ∷ labels.Stepped (other_numbered 2) opwords.Open verbs.Open (Some 1) None words.Ok (Some (Done (answers.Opened 1))) beside.Nothing
    ∷ labels.Began (other_numbered 3) (ops.Write 0 abc) None beside.Nothing
    ∷ []

-- a step of this write at a node, by which it goes on
abbrev pub step_at : Verb → ℕ → Label
step_at verb r = labels.Stepped (other_numbered 3) opwords.Write verb (Some 1) (Some r) words.Ok None beside.Nothing

-- ---- what is read of a state

-- of the replica on a node: what it has taken, how its sections are, who owns its slot, and its generation
abbrev pub effects_at : ℕ → Machine → Option (List Effect)
effects_at r m = effects_of (m.replicas 1 r)

abbrev states_at : ℕ → Machine → Option (List SectionState)
states_at r m = option_map (λ (x : ReplicaState). map (λ (s : Section). s.state) x.sections) (m.replicas 1 r)

abbrev pub owner_at : ℕ → Machine → Option (Option CallId)
owner_at r m = option_map (λ (x : ReplicaState). option_map (λ slot. slot.owner) x.slot) (m.replicas 1 r)

abbrev pub generation_at : ℕ → Machine → Option ℕ
generation_at r m = option_map (λ (x : ReplicaState). x.generation) (m.replicas 1 r)

-- the active of the checkpoint, and its generation
abbrev pub active_and_generation : Machine → Option (Option ℕ × ℕ)
active_and_generation m = option_map (λ (e : Entry). (e.active, e.generation)) (entry_of 1 m.cluster.entries)

-- ---- a weak write is under way on n0, the active

abbrev marked : Machine
marked = last (writing wr_active_replica_weak ++ step_at verbs.Mark 0 ∷ [])

-- its client's node fails: it is broken, its sections are corrupted, and the active stays
it_is_broken : effects_at 0 (failed_at 1 marked) ≡ Some (Broken (other_numbered 3) abc (pos 0) 0 ∷ [])
it_is_broken = refl

its_sections_are_corrupted : states_at 0 (failed_at 1 marked) ≡ Some (Corrupted ∷ [])
its_sections_are_corrupted = refl

-- as the effect says that names it
it_names_them : IsNamedByBroken [] (Broken (other_numbered 3) abc (pos 0) 0 ∷ [])
it_names_them = inl (inl refl)

the_active_stays : active_and_generation (failed_at 1 marked) ≡ Some (Some 0, 1)
the_active_stays = refl

-- a node without a client of it fails: it goes on
it_goes_on : effects_at 0 (failed_at 2 marked) ≡ Some []
it_goes_on = refl

no_section_is_corrupted : states_at 0 (failed_at 2 marked) ≡ Some (Valid ∷ [])
no_section_is_corrupted = refl

-- the active fails: its marks go with it, and the call that made them is in hand still
another_leads : active_and_generation (failed_at 0 marked) ≡ Some (Some 1, 2)
another_leads = refl

none_is_broken : effects_at 1 (failed_at 0 marked) ≡ Some []
none_is_broken = refl

its_call_is_left : option_map (λ s. s.call) ((failed_at 0 marked).in_hand (Actor (Client 1))) ≡ Some (other_numbered 3)
its_call_is_left = refl

-- ---- the active fails of a checkpoint whose updates go to it alone

-- where all have as many updates the lowest leads, with the next generation
the_lowest_on_ties : active_and_generation (failed_at 0 (last (writing wr_active_replica))) ≡ Some (Some 1, 2)
the_lowest_on_ties = refl

-- and else the one with the most: what n0 had was brought to n2
abbrev brought : Machine
brought = last (writing wr_active_replica ++ labels.Stepped (other_numbered 3) opwords.Write verbs.Apply (Some 1) (Some 0) words.Ok answered_ok beside.Nothing ∷ labels.Pulled 1 (pulls.Ok 1) ∷ labels.Put 1 2 (puts.Ok 1) ∷ [])

the_one_with_the_most : active_and_generation (failed_at 0 brought) ≡ Some (Some 2, 2)
the_one_with_the_most = refl

it_has_what_was_brought : effects_at 2 (failed_at 0 brought) ≡ Some (Applied (other_numbered 3) abc (pos 0) ∷ [])
it_has_what_was_brought = refl

-- its replica has the present generation, and the other its own
it_is_present : generation_at 2 (failed_at 0 brought) ≡ Some 2
it_is_present = refl

the_other_is_not : generation_at 1 (failed_at 0 brought) ≡ Some 1
the_other_is_not = refl

-- ---- an update is staged on two of three when its client's node, the second of them, fails

abbrev cut : Machine
cut = last (writing wr_all_replicas ++ step_at verbs.Stage 0 ∷ step_at verbs.Stage 1 ∷ [])

-- the call is gone, and its slot stands where its node did not
no_call_is_left : (failed_at 1 cut).in_hand (Actor (Client 1)) ≡ None
no_call_is_left = refl

its_owner_is_not_live : is_live (failed_at 1 cut).cluster (other_numbered 3) ≡ false
its_owner_is_not_live = refl

its_slot_stands : owner_at 0 (failed_at 1 cut) ≡ Some (Some (other_numbered 3))
its_slot_stands = refl

no_slot_on_the_third : owner_at 2 (failed_at 1 cut) ≡ Some None
no_slot_on_the_third = refl

no_replica_is_left : (failed_at 1 cut).replicas 1 1 ≡ None
no_replica_is_left = refl

the_node_is_down : is_up 1 (failed_at 1 cut).cluster ≡ false
the_node_is_down = refl

-- its client is live no more, and has no handle; that of the other one stands
the_client_is_gone : is_live_client 1 (failed_at 1 cut).cluster ≡ false
the_client_is_gone = refl

no_handle_is_left : ((failed_at 1 cut).tables (Client 1)).handles ≡ []
no_handle_is_left = refl

the_other_has_its_own : length ((failed_at 1 cut).tables (Client 0)).handles ≡ 1
the_other_has_its_own = refl

-- who has it open: c0 still, and c1 no more
abbrev open_by : ℕ → Machine → Option ℕ
open_by c m = option_map (λ (e : Entry). slice_index e.references c) (entry_of 1 m.cluster.entries)

c0_has_it_open : open_by 0 (failed_at 1 cut) ≡ Some 1
c0_has_it_open = refl

and_c1_has_not : open_by 1 (failed_at 1 cut) ≡ Some 0
and_c1_has_not = refl

-- the last close of a checkpoint, from which its retention counts
abbrev closed_at : Machine → Option ℤ
closed_at m = option_map (λ (e : Entry). e.idle) (entry_of 1 m.cluster.entries)

-- at the moment 5 it is that of the failure that takes the last client which has it open, and not that of an earlier one
abbrev later : Machine
later = last (writing wr_all_replicas ++ labels.Moved (pos 5) ∷ [])

c0_has_not_closed_it : closed_at (failed_at 1 later) ≡ Some (pos 0)
c0_has_not_closed_it = refl

it_was_the_last_close : closed_at (failed_at 0 (failed_at 1 later)) ≡ Some (pos 5)
it_was_the_last_close = refl

-- ---- with its last node the checkpoint goes, with its name; till then it is kept, though nobody has it open

no_checkpoint_is_left : (failed_at 2 (failed_at 1 (failed_at 0 cut))).cluster.entries ≡ []
no_checkpoint_is_left = refl

the_last_node_has_it : active_and_generation (failed_at 1 (failed_at 0 cut)) ≡ Some (Some 2, 3)
the_last_node_has_it = refl

-- ---- c0 is making a checkpoint, for which n0 and n1 have reserved

abbrev being_made : Machine
being_made = last (making wr_all_replicas)

-- its client's node fails: the making is undone, with all that was reserved
it_is_undone : (failed_at 0 being_made).cluster.entries ≡ []
it_is_undone = refl

none_has_reserved : (failed_at 0 being_made).reserved 1 1 ≡ None
none_has_reserved = refl

-- another node fails: it goes on, with what others have reserved
it_is_made_still : option_map (λ (e : Entry). e.making) (entry_of 1 (failed_at 1 being_made).cluster.entries) ≡ Some (Some (call_numbered 2))
it_is_made_still = refl

n0_has_reserved : (failed_at 1 being_made).reserved 1 0 ≡ Some 1
n0_has_reserved = refl

n1_has_not : (failed_at 1 being_made).reserved 1 1 ≡ None
n1_has_not = refl

-- ---- an Initialize of c2 names n1 when that fails

abbrev entering : Machine
entering = last (two_clients ++ labels.Began (third_numbered 1) (an_initialize 1) None beside.Nothing ∷ [])

it_is_abandoned : (failed_at 1 entering).in_hand (Actor (Client 2)) ≡ None
it_is_abandoned = refl

so_is_the_client_there : is_live_client 1 (failed_at 1 entering).cluster ≡ false
so_is_the_client_there = refl

-- and goes on where another node fails
it_is_left : option_map (λ s. s.call) ((failed_at 0 entering).in_hand (Actor (Client 2))) ≡ Some (third_numbered 1)
it_is_left = refl

-- ---- an asynchronous open of c2 is under way on n2, with the callback that it is to end by

abbrev opening : Machine
opening =
    last (
    two_clients
    ++ labels.Began (third_numbered 1) (ops.Client 2 (record { release = release; major = major_max; minor = minor_answered }) (record { opens = true; syncs = false })) None beside.Nothing
    ∷ labels.Stepped (third_numbered 1) opwords.Client verbs.Enter None (Some 2) words.Ok (Some (Done answers.Version)) beside.Nothing
    ∷ labels.Began (third_numbered 2) (ops.OpenAsync 0 7 (codes "ck") checkpoint_write None) answered_ok beside.Nothing
    ∷ [])

it_was_in_hand : option_map (λ s. s.call) (opening.in_hand (Call (third_numbered 2))) ≡ Some (third_numbered 2)
it_was_in_hand = refl

it_goes_with_the_node : (failed_at 2 opening).in_hand (Call (third_numbered 2)) ≡ None
it_goes_with_the_node = refl

none_is_to_be_told : (failed_at 2 opening).pending (Client 2) ≡ no_pending
none_is_to_be_told = refl

-- ---- c1 on n1 holds a collocated checkpoint, whose active is n0

abbrev held : Machine
held = last until_it_holds

-- n0 fails: no node is the active, and the call holds it still, with what it has in its hand
none_is_the_active : active_of (entry_of 1 (failed_at 0 held).cluster.entries) ≡ None
none_is_the_active = refl

it_holds_it_still : holder_of (entry_of 1 (failed_at 0 held).cluster.entries) ≡ Some (other_numbered 3)
it_holds_it_still = refl

it_has_a_copy_still : option_map (λ s. is_some s.snapshot) ((failed_at 0 held).in_hand (Actor (Client 1))) ≡ Some true
it_has_a_copy_still = refl

-- n1 fails: the hold ends, and n0 is the active still
n0_is_the_active : active_of (entry_of 1 (failed_at 1 held).cluster.entries) ≡ Some 0
n0_is_the_active = refl

and_nobody_holds_it : holder_of (entry_of 1 (failed_at 1 held).cluster.entries) ≡ None
and_nobody_holds_it = refl
