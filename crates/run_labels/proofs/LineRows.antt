-- Each form of label beside the lines that it prints, by computation. A row is a label, the line of its step, and its own lines.
use Rattle.std.proofs.Common.{◌≡◌, refl, ℕ, ◌^◌, ◌-◌, List, [], ◌∷◌, ◌++◌, map, Option, Some, None, codes, true, false, Bool, ℤ, pos, negsuc}
use Prim.Native.String.{String}
use Rattle.ckpt_types.specs.declared.ais_error.AisError.{AisError}
use Rattle.ckpt_types.specs.declared.ais_error.AisError.TheVariants as errors
use Rattle.ckpt_types.specs.declared.answers.Answer.{Answer}
use Rattle.ckpt_types.specs.declared.answers.Answer.TheVariants as answers
use Rattle.ckpt_types.specs.declared.answers.Cause.{Cause}
use Rattle.ckpt_types.specs.declared.answers.Cause.TheVariants as causes
use Rattle.ckpt_types.specs.declared.answers.Outcome.{Outcome}
use Rattle.ckpt_types.specs.declared.answers.Outcome.TheVariants.{Done, Refused, NoMemory, Abandoned}
use Rattle.ckpt_types.specs.declared.identities.ActorName.TheVariants.{Client, Node}
use Rattle.ckpt_types.specs.declared.identities.CallId.{CallId}
use Rattle.ckpt_types.specs.declared.identities.Who.TheVariants.{Actor, Call}
use Rattle.ckpt_types.specs.declared.operation.Op.{Op}
use Rattle.ckpt_types.specs.declared.operation.Op.TheVariants as ops
use Rattle.ckpt_types.specs.declared.sections.CheckpointDescriptor.{CheckpointDescriptor}
use Rattle.ckpt_types.specs.declared.sections.SectionState.{SectionState}
use Rattle.ckpt_types.specs.declared.sections.SectionState.TheVariants as states
use Rattle.ckpt_types.specs.declared.words.OpWord.{OpWord}
use Rattle.ckpt_types.specs.declared.words.OpWord.TheVariants as words
use Rattle.ckpt_types.specs.Limits.{end_of_time}
use Rattle.node_msgs.specs.declared.details.Details.{Details}
use Rattle.node_msgs.specs.declared.details.Details.TheVariants as beside
use Rattle.node_msgs.specs.declared.steps.StepReply.{StepReply}
use Rattle.node_msgs.specs.declared.steps.StepReply.TheVariants as replies
use Rattle.node_msgs.specs.declared.steps.Verb.{Verb}
use Rattle.node_msgs.specs.declared.steps.Verb.TheVariants as verbs
use Rattle.run_labels.specs.declared.labels.Label.{Label}
use Rattle.run_labels.specs.declared.labels.Label.TheVariants as labels
use Rattle.run_labels.specs.declared.labels.PullReply.TheVariants as pulls
use Rattle.run_labels.specs.declared.labels.PutReply.TheVariants as puts
use Rattle.run_labels.specs.declared.shown.ShownReplica.{ShownReplica}
use Rattle.run_labels.specs.declared.shown.ShownSlot.{ShownSlot}
use Rattle.run_labels.specs.declared.shown.ShownSlot.TheVariants as slots
use Rattle.run_labels.specs.declared.words.LineWord.TheVariants as lines
use Rattle.run_labels.specs.declared.words.Said.TheVariants as said
use Rattle.run_labels.specs.Lines.{line_of}
use Rattle.run_labels.specs.Outcomes.{spoken_text, told_version}
use Rattle.std.specs.Fmt.{digits}
use Rattle.hex.specs.Hex.{encode_with}

-- ---- the words of the rows

-- what the text of a label computes with
texts : Unit {0}
unfolding digits encode_with spoken_text told_version
texts = tt

-- a row: a label, the line of its step, which is printed only where steps are asked for, and its own lines
abbrev Row : Type 0
Row = Label × List ℕ × List ℕ

abbrev row : Label → String → String → Row
row label step own = (label, codes step, codes own)

-- each label prints the lines of its row, with steps and without
abbrev Print : List Row → Type 0
Print rows = map {B = List ℕ × List ℕ} (λ r. (line_of true r.0, line_of false r.0)) rows ≡ map (λ r. (r.1 ++ r.2, r.2)) rows

abbrev client : ℕ → ℕ → CallId
client c n = record { actor = Client c; number = n }

abbrev node : ℕ → ℕ → CallId
node r n = record { actor = Node r; number = n }

-- ---- steps, and the lines of their calls

-- the step at n0 by which a call of c0 ends
abbrev last : ℕ → OpWord → Verb → Option ℕ → Answer → Label
last n word verb k answer = labels.Stepped (client 0 n) word verb k (Some 0) replies.Ok (Some (Done answer)) beside.Nothing

-- a step of a write on K1
abbrev step : CallId → Verb → ℕ → StepReply → Label
step call verb r reply = labels.Stepped call words.Write verb (Some 1) (Some r) reply None beside.Nothing

a_call_prints_its_steps_only_where_they_are_asked_for : Print (
    row (last 1 words.Client verbs.Enter None answers.Version) "+ c0.1 enter n0 ok\n" "c0.1 client OK B.2.2\n"
    ∷ row (labels.Began (client 0 2) (ops.Open 0 (codes "ck") 7 end_of_time None) None beside.Nothing) "+ c0.2 begin open\n" ""
    ∷ row (step (client 0 3) verbs.Stage 0 replies.Ok) "+ c0.3 stage K1 n0 ok\n" ""
    ∷ row (last 3 words.Write verbs.Commit (Some 1) answers.Nothing) "+ c0.3 commit K1 n0 ok\n" "c0.3 write OK\n"
    ∷ row (labels.Nodes 3) "" ""
    ∷ [])
unfolding texts
a_call_prints_its_steps_only_where_they_are_asked_for = refl

-- a row of a step of c0.5
abbrev steps : Verb → ℕ → StepReply → String → Row
steps verb r reply line = row (step (client 0 5) verb r reply) line ""

a_step_tells_its_reply : Print (
    steps verbs.Stage 0 (replies.Held (client 1 3)) "+ c0.5 stage K1 n0 held c1.3\n"
    ∷ steps verbs.Claim 0 replies.Ok "+ c0.5 claim K1 n0 ok\n"
    ∷ steps verbs.Claim 2 (replies.Free 1) "+ c0.5 claim K1 n2 free 1\n"
    ∷ steps verbs.Withdraw 0 replies.Ok "+ c0.5 withdraw K1 n0 ok\n"
    ∷ [])
unfolding texts
a_step_tells_its_reply = refl

-- the last step of a call, and what it is told beside its end
abbrev ended : CallId → OpWord → Outcome → Details → Label
ended call word end details = labels.Stepped call word verbs.Look None None replies.Done (Some end) details

a_step_that_was_not_done_tells_why : Print (
    steps verbs.Install 1 replies.Older "+ c0.5 install K1 n1 older\n"
    ∷ steps verbs.Apply 1 replies.Refused "+ c0.5 apply K1 n1 refused\n"
    ∷ steps verbs.Reserve 7 replies.Memory "+ c0.5 reserve K1 n7 memory\n"
    ∷ row (ended (node 1 2) words.Copy (Done answers.Nothing) beside.Nothing) "+ n1.2 look done\n" "n1.2 copy OK\n"
    ∷ [])
unfolding texts
a_step_that_was_not_done_tells_why = refl

-- ---- answers

-- a row of an answer of c0.5, and what is told beside it
abbrev tells : OpWord → Answer → Details → String → Row
tells word answer details line = row (ended (client 0 5) word (Done answer) details) "+ c0.5 look done\n" line

an_answer_has_its_details : Print (
    tells words.Open (answers.Opened 1) beside.Nothing "c0.5 open OK K1\n"
    ∷ tells words.Sync (answers.Pulled 1) beside.Nothing "c0.5 sync OK 1\n"
    ∷ tells words.Dispatch (answers.Dispatched (record { given = 1; left = 0 })) beside.Nothing "c0.5 dispatch OK 1 0\n"
    ∷ [])
unfolding texts
an_answer_has_its_details = refl

-- what a `next` tells of the section `a`
abbrev section : ℤ → ℕ → SectionState → Details
section expiration size state = beside.Section (record { id = codes "a"; expiration = expiration; size = size; state = state; last_update = pos 0 })

-- the status of a checkpoint with an hour of retention
abbrev an_hour : CheckpointDescriptor
an_hour = record { attributes = record { creation_flags = 1; checkpoint_size = 65536; retention_duration = pos 3600000000000; max_sections = 64; max_section_size = 1024; max_section_id_size = 8 }; number_of_sections = 64; memory_used = 448 }

what_is_told_stands_behind_ok : Print (
    tells words.Create answers.Created (beside.Pieces (codes "c" ∷ [])) "c0.5 create OK x63\n"
    ∷ tells words.Next answers.Section (section end_of_time 0 states.Valid) "c0.5 next OK x61 end 0 VALID 0\n"
    ∷ tells words.Next answers.Section (section (pos 20) 4 states.Corrupted) "c0.5 next OK x61 20 4 CORRUPTED 0\n"
    ∷ tells words.Status answers.Status (beside.Status an_hour) "c0.5 status OK 1 65536 3600000000000 64 1024 8 64 448\n"
    ∷ [])
unfolding texts
what_is_told_stands_behind_ok = refl

-- a row of a read that gave these pieces
abbrev reads : List (List ℕ) → String → Row
reads pieces line = row (labels.Stepped (client 0 6) words.Read verbs.Read (Some 1) (Some 0) replies.Ok (Some (Done answers.Pieces)) (beside.Pieces pieces)) "+ c0.6 read K1 n0 ok\n" line

-- each digit, and bytes of one digit
abbrev all_digits : List ℕ
all_digits = 0x01 ∷ 0x23 ∷ 0x45 ∷ 0x67 ∷ 0x89 ∷ 0xab ∷ 0xcd ∷ 0xef ∷ 0xfe ∷ 0xdc ∷ 0xba ∷ 0x98 ∷ 0x76 ∷ 0x54 ∷ 0x32 ∷ 0x10 ∷ 0x00 ∷ []

a_read_prints_a_word_for_each_element : Print (
    reads (codes "old!" ∷ []) "c0.6 read OK x6f6c6421\n"
    ∷ reads (codes "XXaa" ∷ codes "bbbb" ∷ []) "c0.6 read OK x58586161 x62626262\n"
    ∷ reads ([] ∷ []) "c0.6 read OK x\n"
    ∷ reads (all_digits ∷ []) "c0.6 read OK x0123456789abcdeffedcba987654321000\n"
    ∷ reads ((0 ∷ 10 ∷ 255 ∷ []) ∷ []) "c0.6 read OK x000aff\n"
    ∷ [])
unfolding texts
a_read_prints_a_word_for_each_element = refl

-- ---- refusals, and calls that were not done

-- a row of a refusal of c0.5
abbrev refuses : OpWord → AisError → Cause → String → Row
refuses word error cause line = row (ended (client 0 5) word (Refused error cause) beside.Nothing) "+ c0.5 look done\n" line

a_refusal_has_its_cause : Print (
    refuses words.Client errors.Version causes.Plain "c0.5 client VERSION B.2.2\n"
    ∷ refuses words.Write errors.NotExist (causes.Index 2) "c0.5 write NOT_EXIST 2\n"
    ∷ refuses words.Over errors.NoSpace causes.Plain "c0.5 over NO_SPACE\n"
    ∷ refuses words.Write errors.TryAgain (causes.Generations 1 2) "c0.5 write TRY_AGAIN 1 2\n"
    ∷ refuses words.Sync errors.Timeout (causes.Deadline (pos 5) (pos 6)) "c0.5 sync TIMEOUT 5 6\n"
    ∷ refuses words.Open errors.NoResources (causes.Count 32) "c0.5 open NO_RESOURCES 32\n"
    ∷ [])
unfolding texts
a_refusal_has_its_cause = refl

a_call_that_was_not_done_ends_with_its_line : Print (
    row (ended (node 1 1) words.Copy (Refused errors.TryAgain (causes.Holder (client 0 4))) beside.Nothing) "+ n1.1 look done\n" "n1.1 copy TRY_AGAIN c0.4\n"
    ∷ row (ended (client 0 5) words.Open NoMemory beside.Nothing) "+ c0.5 look done\n" "c0.5 open NO_MEMORY\n"
    ∷ row (ended (client 0 5) words.Write Abandoned beside.Nothing) "+ c0.5 look done\n" ""
    ∷ [])
unfolding texts
a_call_that_was_not_done_ends_with_its_line = refl

-- ---- calls that end where they begin, and asynchronous ones

-- a call that ended where it began
abbrev began : CallId → Op → Outcome → Label
began call op end = labels.Began call op (Some end) beside.Nothing

a_call_that_ends_where_it_begins_prints_its_result : Print (
    row (began (client 0 4) (ops.Close 5) (Refused errors.BadHandle causes.Plain)) "+ c0.4 begin close\n" "c0.4 close BAD_HANDLE\n"
    ∷ row (began (client 0 4) (ops.SyncAsync 0 9) (Done answers.Nothing)) "+ c0.4 begin syncasync\n" "c0.4 syncasync OK\n"
    ∷ row (began (client 1 2) (ops.OpenAsync 0 100 (codes "ck") 3 None) (Done answers.Nothing)) "+ c1.2 begin openasync\n" "c1.2 openasync OK\n"
    ∷ [])
unfolding texts
a_call_that_ends_where_it_begins_prints_its_result = refl

the_end_of_an_asynchronous_operation_prints_no_line : Print (
    row (ended (client 0 4) words.SyncAsync (Done (answers.Pulled 1)) beside.Nothing) "+ c0.4 look done\n" ""
    ∷ row (ended (client 1 2) words.OpenAsync (Done (answers.Opened 1)) beside.Nothing) "+ c1.2 look done\n" ""
    ∷ row (ended (client 1 3) words.OpenAsync (Refused errors.NoResources (causes.Count 16)) beside.Nothing) "+ c1.3 look done\n" ""
    ∷ [])
unfolding texts
the_end_of_an_asynchronous_operation_prints_no_line = refl

-- ---- other events

a_moment_that_was_set_is_a_step : Print (
    row (labels.Moved (pos 0)) "+ at 0\n" ""
    ∷ row (labels.Moved (negsuc 9223372036854775807)) "+ at -9223372036854775808\n" ""
    ∷ row (labels.Moved (pos 9223372036854775806)) "+ at 9223372036854775806\n" ""
    ∷ row (labels.Moved (pos 9223372036854775807)) "+ at end\n" ""
    ∷ [])
unfolding texts
a_moment_that_was_set_is_a_step = refl

-- a row of a label that has no step
abbrev says : Label → String → Row
says label own = row label "" own

-- a row of a pull of a checkpoint, with so many updates
abbrev pulls_so : ℕ → ℕ → String → Row
pulls_so k count line = says (labels.Pulled k (pulls.Ok count)) line

numbers_have_as_many_digits_as_they_need : Print (
    pulls_so 9 0 "K9 pull OK 0\n"
    ∷ pulls_so 10 99 "K10 pull OK 99\n"
    ∷ pulls_so 100 999 "K100 pull OK 999\n"
    ∷ pulls_so 1000 9999 "K1000 pull OK 9999\n"
    ∷ pulls_so 9080 7006 "K9080 pull OK 7006\n"
    ∷ pulls_so 10000 10000 "K10000 pull OK 10000\n"
    ∷ pulls_so 1 (2 ^ 64 - 1) "K1 pull OK 18446744073709551615\n"
    ∷ [])
unfolding texts
numbers_have_as_many_digits_as_they_need = refl

other_events_have_their_own_lines : Print (
    says (labels.Failed 1 true) "n1 fail OK\n"
    ∷ says (labels.Failed 0 false) "n0 fail DOWN\n"
    ∷ says (labels.Joined 1 (Some 2)) "n1 join OK 2\n"
    ∷ says (labels.Joined 1 None) "n1 join LIVE\n"
    ∷ says (labels.Pulled 1 (pulls.Ok 1)) "K1 pull OK 1\n"
    ∷ says (labels.Pulled 1 (pulls.Held (client 0 3))) "K1 pull HELD c0.3\n"
    ∷ says (labels.Pulled 9 pulls.Nothing) "K9 pull NONE\n"
    ∷ says (labels.Put 1 1 (puts.Ok 1)) "K1 put n1 OK 1\n"
    ∷ says (labels.Put 1 2 (puts.Stale 1 2)) "K1 put n2 STALE 1 2\n"
    ∷ says (labels.Put 1 2 (puts.Old 2 1)) "K1 put n2 OLD 2 1\n"
    ∷ says (labels.Put 1 2 puts.Nothing) "K1 put n2 NONE\n"
    ∷ [])
unfolding texts
other_events_have_their_own_lines = refl

a_word_answers_a_line : Print (
    says (labels.Word (Actor (Client 0)) (lines.Op words.Client) said.Live) "c0 client LIVE\n"
    ∷ says (labels.Word (Actor (Client 1)) (lines.Op words.Client) said.Down) "c1 client DOWN\n"
    ∷ says (labels.Word (Actor (Client 0)) (lines.Op words.Read) said.Busy) "c0 read BUSY\n"
    ∷ says (labels.Word (Actor (Client 0)) lines.Step said.Idle) "c0 step IDLE\n"
    ∷ says (labels.Word (Call (client 0 4)) lines.Finish said.Idle) "c0.4 finish IDLE\n"
    ∷ says (labels.Word (Actor (Node 1)) (lines.Op words.Copy) said.Down) "n1 copy DOWN\n"
    ∷ [])
unfolding texts
a_word_answers_a_line = refl

-- a replica with this generation and count and what stands on it, and with one section, the default one, which never expires
abbrev replica : ℕ → Bool → ℕ → ℕ → ShownSlot → List ℕ → ShownReplica
replica r active generation count slot bytes =
    record { node = r; active = active; generation = generation; count = count; slot = slot; sections = record { descriptor = record { id = []; expiration = end_of_time; size = 3; state = states.Valid; last_update = pos 0 }; first = bytes } ∷ [] }

-- the same with no section
abbrev bare : ℕ → Bool → ℕ → ℕ → ShownSlot → ShownReplica
bare r active generation count slot = record (replica r active generation count slot []) { sections = [] }

a_checkpoint_is_shown_replica_by_replica : Print (
    says (labels.Shown 1 (Some (replica 1 true 3 3 slots.Free (codes "new") ∷ replica 2 false 2 3 slots.Free (codes "new") ∷ [])))
    "K1 n1* g3 u3 free x VALID end 3 x6e6577\nK1 n2 g2 u3 free x VALID end 3 x6e6577\n"
    ∷ says (labels.Shown 2 (Some (bare 0 true 1 0 (slots.Held (client 0 3)) ∷ replica 1 false 1 0 (slots.Mark (client 0 3)) (codes "abc") ∷ [])))
    "K2 n0* g1 u0 held c0.3\nK2 n1 g1 u0 mark c0.3 x VALID end 3 x616263\n"
    ∷ says (labels.Shown 3 None) "K3 gone\n"
    ∷ [])
unfolding texts
a_checkpoint_is_shown_replica_by_replica = refl
