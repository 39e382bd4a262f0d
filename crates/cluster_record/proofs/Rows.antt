-- Worked examples of the record's answers and steps, each by computation. A state has a name where the next example goes on
-- from it.
use Rattle.std.proofs.Common.{◌≡◌, ℕ, ◌+◌, ◌-◌, ◌^◌, List, [], ◌∷◌, map, replicate, codes, pos, Option, Some, None, Ok, Err, true, false, refl}
use Rattle.std.specs.Prelude.{ℤ, slice_index}
use Rattle.std.specs.Option.{option_map}
use Rattle.ckpt_types.specs.declared.ais_error.AisError.TheVariants.{NotExist, Exist, BadOperation}
use Rattle.ckpt_types.specs.declared.attributes.CreationAttributes.{CreationAttributes}
use Rattle.ckpt_types.specs.declared.calls.OpenAsk.{OpenAsk}
use Rattle.ckpt_types.specs.declared.identities.ActorName.TheVariants.{Client, Node}
use Rattle.ckpt_types.specs.declared.identities.CallId.{CallId}
use Rattle.ckpt_types.specs.Limits.{wr_all_replicas, wr_active_replica, checkpoint_collocated, end_of_time}
use Rattle.cluster_record.specs.declared.opening.OpenAnswer.TheVariants.{Opened, Made, Refused}
use Rattle.cluster_record.specs.DueOpen.{targets_of}
use Rattle.cluster_record.specs.LookUps.{identity_in}
use Rattle.cluster_record.specs.Makings.{making_finished, making_undone, makings_of}
use Rattle.cluster_record.specs.Opening.{open_answer, after_open}
use Rattle.cluster_record.specs.RecordState.{RecordState, empty_record, brought_up, entered, new_entry, entry_of, complete_of, identity_of, named, is_live, retained_until, swept, moved, opened, closed, unlinked, retained, hold_set, active_set, departed}
use Rattle.cluster_record.specs.Refusals.{enter_answer, all_taken, plainly, held_by, unlink_answer, retain_answer, hold_answer}

-- ---- the words of the examples

-- one section of up to so many bytes, kept so long after the last close
abbrev example_sized : ℕ → ℤ → CreationAttributes
example_sized bytes retention = record { creation_flags = wr_all_replicas; checkpoint_size = bytes; retention_duration = retention; max_sections = 1; max_section_size = 16; max_section_id_size = 8 }

-- a example_call of a client, with its number
abbrev example_call : ℕ → ℕ → CallId
example_call c n = record { actor = Client c; number = n }

-- an open of a client on n0
abbrev example_ask : ℕ → List ℕ → Option CreationAttributes → OpenAsk
example_ask c name a = record { name = name; attrs = a; client = c; node = 0 }

abbrev ck : List ℕ
ck = codes "ck"

-- the identities of the checkpoints that are example_there
abbrev example_there : RecordState → List ℕ
example_there R = map identity_of R.entries

-- how often a client has a checkpoint open, and the moment of its last close
abbrev example_open : ℕ → ℕ → RecordState → Option ℕ
example_open c k R = option_map (λ e. slice_index e.references c) (entry_of k R.entries)

abbrev closed_last : ℕ → RecordState → Option ℤ
closed_last k R = option_map (λ e. e.idle) (entry_of k R.entries)

-- ---- clients: c0 by its example_call 1 and c1 by its example_call 7, both on n0

abbrev two_clients : RecordState
two_clients = entered 1 0 7 (entered 0 0 1 (brought_up 1 empty_record))

pub call_of_this_life_is_live : is_live two_clients (example_call 1 7) ≡ true
call_of_this_life_is_live = refl

pub call_of_an_earlier_life_is_not_live : is_live two_clients (example_call 1 6) ≡ false
call_of_an_earlier_life_is_not_live = refl

pub call_of_a_client_that_is_not_live : is_live two_clients (example_call 2 9) ≡ false
call_of_a_client_that_is_not_live = refl

-- a copying is a node's example_call: n0 is up, n1 is not
pub copying_of_a_node_that_is_up : is_live two_clients (record { actor = Node 0; number = 1 }) ≡ true
copying_of_a_node_that_is_up = refl

pub copying_of_a_node_that_is_down : is_live two_clients (record { actor = Node 1; number = 1 }) ≡ false
copying_of_a_node_that_is_down = refl

-- the 64th client comes, a 65th does not
pub client_64_becomes_live : enter_answer (record two_clients { clients = replicate 63 (record { client = 0; node = 0; incarnation = 1; initialize = 1 }) }) ≡ Ok tt
client_64_becomes_live = refl

pub client_65_is_refused : enter_answer (record two_clients { clients = replicate 64 (record { client = 0; node = 0; incarnation = 1; initialize = 1 }) }) ≡ Err (all_taken 64)
client_65_is_refused = refl

-- ---- a making

-- what is not example_there is opened by nobody, and example_made where attributes are given
pub open_of_what_is_not_there : open_answer two_clients (example_ask 0 (codes "no") None) ≡ Refused (plainly NotExist)
open_of_what_is_not_there = refl

pub first_checkpoint_is_made : open_answer two_clients (example_ask 0 ck (Some (example_sized 16 (pos 0)))) ≡ Made 1
first_checkpoint_is_made = refl

abbrev example_making : RecordState
example_making = after_open (example_call 0 2) (example_ask 0 ck (Some (example_sized 16 (pos 0)))) two_clients

-- another client is told to try again, whatever attributes it gives, and so is who unlinks it
pub open_of_what_another_is_making : open_answer example_making (example_ask 1 ck None) ≡ Refused (held_by (example_call 0 2))
open_of_what_another_is_making = refl

pub try_again_comes_before_exist : open_answer example_making (example_ask 1 ck (Some (example_sized 15 (pos 0)))) ≡ Refused (held_by (example_call 0 2))
try_again_comes_before_exist = refl

pub unlink_of_what_another_is_making : unlink_answer (named ck example_making.entries) ≡ Err (held_by (example_call 0 2))
unlink_of_what_another_is_making = refl

-- no sweep takes it, though nobody has it open
pub sweep_leaves_what_is_in_the_making : example_there (swept example_making) ≡ 1 ∷ []
sweep_leaves_what_is_in_the_making = refl

-- with its maker it goes, and then it is not example_there
pub maker_leaves_with_its_making : open_answer (departed 0 example_making) (example_ask 1 ck None) ≡ Refused (plainly NotExist)
maker_leaves_with_its_making = refl

abbrev example_made : RecordState
example_made = making_finished 1 example_making

-- it counts among its maker's makings until it ends
pub making_counts_for_its_maker : makings_of 0 example_making.entries ≡ 1
making_counts_for_its_maker = refl

pub making_counts_for_no_other : makings_of 1 example_making.entries ≡ 0
making_counts_for_no_other = refl

pub what_is_made_counts_no_more : makings_of 0 example_made.entries ≡ 0
what_is_made_counts_no_more = refl

pub undone_making_counts_no_more : makings_of 0 (making_undone 1 example_making).entries ≡ 0
undone_making_counts_no_more = refl

pub maker_has_it_open : example_open 0 1 example_made ≡ Some 1
maker_has_it_open = refl

-- ---- a collocated making: of three nodes that are up, by c0, which is on n1

-- the attributes of one section of 16 bytes, collocated
abbrev example_collocated : CreationAttributes
example_collocated = record (example_sized 16 (pos 0)) { creation_flags = wr_active_replica + checkpoint_collocated }

abbrev example_on_n1 : RecordState
example_on_n1 = entered 0 1 1 (brought_up 3 empty_record)

-- it is made on its opener's node alone
pub collocated_is_made_with_its_opener : targets_of (record { name = ck; attrs = Some example_collocated; client = 0; node = 1 }) example_on_n1 ≡ 0 ∷ 1 ∷ 0 ∷ 0 ∷ 0 ∷ 0 ∷ 0 ∷ 0 ∷ []
collocated_is_made_with_its_opener = refl

abbrev collocated_made : RecordState
collocated_made = making_finished 1 (after_open (example_call 0 2) (record { name = ck; attrs = Some example_collocated; client = 0; node = 1 }) example_on_n1)

-- and complete there alone
pub collocated_is_complete_with_its_opener : complete_of (entry_of 1 collocated_made.entries) ≡ 0 ∷ 1 ∷ 0 ∷ 0 ∷ 0 ∷ 0 ∷ 0 ∷ 0 ∷ []
collocated_is_complete_with_its_opener = refl

-- with no active, where another checkpoint has its lowest node
pub collocated_has_no_active_yet : option_map (λ e. e.active) (entry_of 1 collocated_made.entries) ≡ Some None
collocated_has_no_active_yet = refl

pub another_has_its_lowest_node : option_map (λ e. e.active) (entry_of 1 example_made.entries) ≡ Some (Some 0)
another_has_its_lowest_node = refl

-- ---- opened by c1, which is on n2

abbrev collocated_with_two : RecordState
collocated_with_two = entered 1 2 2 collocated_made

-- that adds a replica on n2
pub open_from_another_node_adds_a_replica : open_answer collocated_with_two (example_ask 1 ck None) ≡ Opened 1 true
open_from_another_node_adds_a_replica = refl

abbrev collocated_on_two : RecordState
collocated_on_two = opened 1 1 collocated_with_two

pub it_is_complete_on_both_nodes : complete_of (entry_of 1 collocated_on_two.entries) ≡ 0 ∷ 1 ∷ 1 ∷ 0 ∷ 0 ∷ 0 ∷ 0 ∷ 0 ∷ []
it_is_complete_on_both_nodes = refl

pub it_has_no_active_still : option_map (λ e. e.active) (entry_of 1 collocated_on_two.entries) ≡ Some None
it_has_no_active_still = refl

pub both_have_it_open : (example_open 0 1 collocated_on_two ≡ Some 1) × (example_open 1 1 collocated_on_two ≡ Some 1)
both_have_it_open = (refl, refl)

-- a second open from there adds none, nor does any open of another checkpoint
pub second_open_adds_none : open_answer collocated_on_two (example_ask 1 ck None) ≡ Opened 1 false
second_open_adds_none = refl

pub open_of_what_is_not_collocated_adds_none : open_answer example_made (example_ask 1 ck None) ≡ Opened 1 false
open_of_what_is_not_collocated_adds_none = refl

-- ---- its active, set by c1 on n2 and then by c0 on n1

-- what its active and its generation are, and who holds it
abbrev example_led : RecordState → Option (Option ℕ × ℕ × Option CallId)
example_led R = option_map (λ e. (e.active, e.generation, e.hold)) (entry_of 1 R.entries)

-- without an active there is nothing to hold
pub nothing_to_hold_without_an_active : (hold_answer (example_call 1 3) (entry_of 1 collocated_on_two.entries) ≡ Ok tt) × (hold_set 1 (example_call 1 3) collocated_on_two ≡ collocated_on_two)
nothing_to_hold_without_an_active = (refl, refl)

abbrev led_by_n2 : RecordState
led_by_n2 = active_set 1 2 collocated_on_two

pub first_active_is_of_the_next_generation : example_led led_by_n2 ≡ Some (Some 2, 2, None)
first_active_is_of_the_next_generation = refl

-- set once more it is of the same generation
pub same_active_again_changes_nothing : active_set 1 2 led_by_n2 ≡ led_by_n2
same_active_again_changes_nothing = refl

-- n0 is not complete, and n8 is no node
pub active_is_complete : (active_set 1 0 led_by_n2 ≡ led_by_n2) × (active_set 1 8 led_by_n2 ≡ led_by_n2)
active_is_complete = (refl, refl)

-- a call of c0 holds it, once or twice
abbrev held_by_c0 : RecordState
held_by_c0 = hold_set 1 (example_call 0 3) led_by_n2

pub hold_leaves_the_active : example_led held_by_c0 ≡ Some (Some 2, 2, Some (example_call 0 3))
hold_leaves_the_active = refl

pub own_hold_again_changes_nothing : (hold_answer (example_call 0 3) (entry_of 1 held_by_c0.entries) ≡ Ok tt) × (hold_set 1 (example_call 0 3) held_by_c0 ≡ held_by_c0)
own_hold_again_changes_nothing = (refl, refl)

-- another is told to try again
pub hold_of_another_refuses : hold_answer (example_call 1 4) (entry_of 1 held_by_c0.entries) ≡ Err (held_by (example_call 0 3))
hold_of_another_refuses = refl

-- the hold ends with the next active, and with the same one, which is of no other generation
pub next_active_ends_the_hold : example_led (active_set 1 1 held_by_c0) ≡ Some (Some 1, 3, None)
next_active_ends_the_hold = refl

pub same_active_ends_the_hold : active_set 1 2 held_by_c0 ≡ led_by_n2
same_active_ends_the_hold = refl

-- what is not collocated is not held, and keeps its active
pub another_is_not_held : (hold_answer (example_call 1 8) (entry_of 1 example_made.entries) ≡ Ok tt) × (hold_set 1 (example_call 1 8) example_made ≡ example_made)
another_is_not_held = (refl, refl)

abbrev made_on_three : RecordState
made_on_three = making_finished 1 (after_open (example_call 0 2) (example_ask 0 ck (Some (example_sized 16 (pos 0)))) example_on_n1)

pub another_keeps_its_active : (example_led made_on_three ≡ Some (Some 0, 1, None)) × (active_set 1 2 made_on_three ≡ made_on_three)
another_keeps_its_active = (refl, refl)

-- ---- attributes

-- the retention that is asked for may be another, and nothing else
pub same_but_for_the_retention : open_answer example_made (example_ask 0 ck (Some (example_sized 16 (pos 5)))) ≡ Opened 1 false
same_but_for_the_retention = refl

pub another_size_is_another_checkpoint : open_answer example_made (example_ask 0 ck (Some (example_sized 15 (pos 0)))) ≡ Refused (plainly Exist)
another_size_is_another_checkpoint = refl

-- the 16th checkpoint is example_made, a 17th is not
abbrev with_so_many : ℕ → RecordState
with_so_many n = record two_clients { entries = replicate n (new_entry (example_call 0 2) ck (example_sized 16 (pos 0)) two_clients) }

pub checkpoint_16_is_made : open_answer (with_so_many 15) (example_ask 0 (codes "no") (Some (example_sized 16 (pos 0)))) ≡ Made 1
checkpoint_16_is_made = refl

pub checkpoint_17_is_refused : open_answer (with_so_many 16) (example_ask 0 (codes "no") (Some (example_sized 16 (pos 0)))) ≡ Refused (all_taken 16)
checkpoint_17_is_refused = refl

-- ---- an unlink

-- the name goes at once, the checkpoint with its last close
abbrev example_unlinked : RecordState
example_unlinked = unlinked 1 example_made

pub unlinked_stays_while_it_is_open : example_there (swept example_unlinked) ≡ 1 ∷ []
unlinked_stays_while_it_is_open = refl

pub second_unlink_finds_none : unlink_answer (named ck example_unlinked.entries) ≡ Err (plainly NotExist)
second_unlink_finds_none = refl

-- another takes the name, under the next identity
pub new_one_takes_the_name : open_answer example_unlinked (example_ask 0 ck (Some (example_sized 16 (pos 0)))) ≡ Made 2
new_one_takes_the_name = refl

abbrev old_and_new : RecordState
old_and_new = making_finished 2 (after_open (example_call 0 5) (example_ask 0 ck (Some (example_sized 16 (pos 0)))) example_unlinked)

pub name_is_of_the_new_one : identity_in (named ck old_and_new.entries) ≡ Some 2
name_is_of_the_new_one = refl

pub unlinked_keeps_no_retention : retain_answer (entry_of 1 old_and_new.entries) ≡ Err (plainly BadOperation)
unlinked_keeps_no_retention = refl

pub last_close_deletes_the_unlinked : example_there (swept (closed 1 0 old_and_new)) ≡ 2 ∷ []
last_close_deletes_the_unlinked = refl

-- ---- a retention of 10

abbrev kept_10 : RecordState
kept_10 = making_finished 1 (after_open (example_call 0 2) (example_ask 0 ck (Some (example_sized 16 (pos 10)))) two_clients)

-- closed at 5, it is example_there at 14 and not at 15
abbrev closed_at_5 : RecordState
closed_at_5 = closed 1 0 (moved (pos 5) kept_10)

pub kept_before_its_end : example_there (moved (pos 14) closed_at_5) ≡ 1 ∷ []
kept_before_its_end = refl

pub gone_at_its_end : example_there (moved (pos 15) closed_at_5) ≡ []
gone_at_its_end = refl

-- opened by two at 14 and closed by both, at 14 and at 16, it is example_there at 25 and not at 26
abbrev open_again : RecordState
open_again = after_open (example_call 1 8) (example_ask 1 ck None) (after_open (example_call 0 4) (example_ask 0 ck None) (moved (pos 14) closed_at_5))

pub first_close_leaves_the_moment : closed_last 1 (closed 1 0 open_again) ≡ Some (pos 5)
first_close_leaves_the_moment = refl

abbrev closed_at_16 : RecordState
closed_at_16 = closed 1 1 (moved (pos 16) (closed 1 0 open_again))

pub last_close_sets_the_moment : closed_last 1 closed_at_16 ≡ Some (pos 16)
last_close_sets_the_moment = refl

pub kept_from_the_last_close : example_there (moved (pos 25) closed_at_16) ≡ 1 ∷ []
kept_from_the_last_close = refl

pub gone_after_the_last_close : open_answer (moved (pos 26) closed_at_16) (example_ask 0 ck None) ≡ Refused (plainly NotExist)
gone_after_the_last_close = refl

-- a client that leaves closes all that it has open
pub leaving_is_a_last_close : closed_last 1 (departed 1 (moved (pos 16) (closed 1 0 open_again))) ≡ Some (pos 16)
leaving_is_a_last_close = refl

-- ---- a retention that ends with time

-- the sum stops at the end of time, which no moment is
abbrev kept_for_ever : RecordState
kept_for_ever = retained 1 end_of_time closed_at_5

pub sum_stops_at_the_end_of_time : option_map retained_until (entry_of 1 kept_for_ever.entries) ≡ Some end_of_time
sum_stops_at_the_end_of_time = refl

pub kept_at_the_last_moment : example_there (moved (pos (2 ^ 63 - 2)) kept_for_ever) ≡ 1 ∷ []
kept_at_the_last_moment = refl
