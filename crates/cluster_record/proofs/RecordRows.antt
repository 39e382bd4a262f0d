-- Worked examples of what a record tells, and of a checkpoint's life on it, each by computation; the answers of an open, an
-- unlink and a hold stand in Rows. A table is a map over its questions.
use Rattle.std.proofs.Common.{◌≡◌, ℕ, List, [], ◌∷◌, map, codes, pos, Option, Some, None, Ok, Err, true, false, refl}
use Rattle.std.specs.Prelude.{◌-◌, ◌^◌, slice_index, slice_set}
use Rattle.std.specs.Option.{option_map}
use Rattle.ckpt_types.specs.declared.ais_error.AisError.TheVariants.{NotExist, Exist}
use Rattle.ckpt_types.specs.declared.attributes.CreationAttributes.{CreationAttributes}
use Rattle.ckpt_types.specs.declared.calls.OpenAsk.{OpenAsk}
use Rattle.ckpt_types.specs.declared.identities.ActorName.TheVariants.{Client, Node}
use Rattle.ckpt_types.specs.declared.identities.CallId.{CallId}
use Rattle.ckpt_types.specs.Limits.{wr_all_replicas}
use Rattle.cluster_record.specs.declared.entries.Entry.{Entry}
use Rattle.cluster_record.specs.declared.opening.OpenAnswer.{OpenAnswer}
use Rattle.cluster_record.specs.declared.opening.OpenAnswer.TheVariants.{Opened, Made, Refused}
use Rattle.cluster_record.specs.LookUps.{identity_in, life_of, node_in, up_as}
use Rattle.cluster_record.specs.Makings.{making_finished, making_undone}
use Rattle.cluster_record.specs.Numbers.{numbers_left}
use Rattle.cluster_record.specs.Opening.{open_answer, after_open}
use Rattle.cluster_record.specs.Places.{find_key}
use Rattle.cluster_record.specs.RecordState.{RecordState, client_key, empty_record, brought_up, entered, entry_of, identity_of, is_live, is_live_client, named, moved, closed, retained, departed}
use Rattle.cluster_record.specs.Refusals.{all_taken, plainly, retain_answer, unlink_answer}

-- ---- the words of the examples

-- one section of up to 64 bytes, kept for 10 after the last close
abbrev kept_for_10 : CreationAttributes
kept_for_10 = record { creation_flags = wr_all_replicas; checkpoint_size = 64; retention_duration = pos 10; max_sections = 1; max_section_size = 64; max_section_id_size = 8 }

-- an open by a client, with attributes or without
abbrev asks : ℕ → List ℕ → Option CreationAttributes → OpenAsk
asks c name a = record { name = name; attrs = a; client = c; node = 0 }

-- what it gets, and the record behind it
abbrev gets : ℕ → List ℕ → Option CreationAttributes → RecordState → OpenAnswer
gets c name a R = open_answer R (asks c name a)

abbrev opens : ℕ → List ℕ → Option CreationAttributes → RecordState → RecordState
opens c name a R = after_open (record { actor = Client c; number = 2 }) (asks c name a) R

-- a client begins to make the checkpoint of a name
abbrev begins : ℕ → List ℕ → RecordState → RecordState
begins c name R = opens c name (Some kept_for_10) R

-- the identities of the checkpoints that are there, and of the one that has a name
abbrev identities : RecordState → List ℕ
identities R = map identity_of R.entries

abbrev ckpt_named : RecordState → List ℕ → Option ℕ
ckpt_named R name = identity_in (named name R.entries)

-- how often a client has a checkpoint open
abbrev references_by : ℕ → RecordState → ℕ → Option ℕ
references_by k R c = option_map (λ e. slice_index e.references c) (entry_of k R.entries)

-- ---- nodes

pub no_node_is_up_at_first : up_as 0 empty_record ≡ None
no_node_is_up_at_first = refl

-- n0, n1, n2 and what is no node, where two nodes are up: each with its incarnation and its first call
pub first_nodes_are_up_in_their_first_life : map (λ r. up_as r (brought_up 2 empty_record)) (0 ∷ 1 ∷ 2 ∷ 8 ∷ []) ≡ Some (1, 1) ∷ Some (1, 1) ∷ None ∷ None ∷ []
first_nodes_are_up_in_their_first_life = refl

pub incarnations_of_two_nodes : (brought_up 2 empty_record).up ≡ 1 ∷ 1 ∷ 0 ∷ 0 ∷ 0 ∷ 0 ∷ 0 ∷ 0 ∷ []
incarnations_of_two_nodes = refl

-- ---- c3, live on n1 by its call 7

abbrev c3_on_n1 : RecordState
c3_on_n1 = entered 3 1 7 (brought_up 2 empty_record)

-- its node, its incarnation and its Initialize call; c4 is not live
pub client_is_told_with_its_life : map (λ c. life_of (find_key client_key c c3_on_n1.clients)) (3 ∷ 4 ∷ []) ≡ Some (1, 1, 7) ∷ None ∷ []
client_is_told_with_its_life = refl

pub client_is_told_with_its_node : map (λ c. node_in (find_key client_key c c3_on_n1.clients)) (3 ∷ 4 ∷ []) ≡ Some 1 ∷ None ∷ []
client_is_told_with_its_node = refl

pub client_is_live : map (λ c. is_live_client c c3_on_n1) (3 ∷ 4 ∷ []) ≡ true ∷ false ∷ []
client_is_live = refl

-- its Initialize, a later call, and one of an earlier life; c4 is not live
pub call_is_live_in_the_life_in_which_it_began : map (λ call. is_live c3_on_n1 call)
    (record { actor = Client 3; number = 7 } ∷ record { actor = Client 3; number = 8 } ∷ record { actor = Client 3; number = 6 } ∷ record { actor = Client 4; number = 9 } ∷ [])
    ≡ true ∷ true ∷ false ∷ false ∷ []
call_is_live_in_the_life_in_which_it_began = refl

-- a copying of a node that is up, and one before this life; n2 is down, and there is no n8
pub copying_is_live_while_its_node_is_up : map (λ call. is_live c3_on_n1 call)
    (record { actor = Node 1; number = 1 } ∷ record { actor = Node 1; number = 0 } ∷ record { actor = Node 2; number = 1 } ∷ record { actor = Node 8; number = 1 } ∷ [])
    ≡ true ∷ false ∷ false ∷ false ∷ []
copying_is_live_while_its_node_is_up = refl

-- ---- identities

abbrev with_a_and_ab : RecordState
with_a_and_ab = begins 3 (codes "ab") (begins 3 (codes "a") (brought_up 1 empty_record))

pub identities_rise : identities with_a_and_ab ≡ 1 ∷ 2 ∷ []
identities_rise = refl

-- a name is no other that it begins
pub each_has_its_own_name : map (ckpt_named with_a_and_ab) (codes "a" ∷ codes "ab" ∷ codes "abc" ∷ []) ≡ Some 1 ∷ Some 2 ∷ None ∷ []
each_has_its_own_name = refl

-- the first is undone, and its name made anew
abbrev a_made_anew : RecordState
a_made_anew = begins 3 (codes "a") (making_undone 1 with_a_and_ab)

pub undone_name_is_free : map (ckpt_named (making_undone 1 with_a_and_ab)) (codes "a" ∷ codes "ab" ∷ []) ≡ None ∷ Some 2 ∷ []
undone_name_is_free = refl

pub no_identity_is_given_again : identities a_made_anew ≡ 2 ∷ 3 ∷ []
no_identity_is_given_again = refl

pub name_is_of_the_later_one : ckpt_named a_made_anew (codes "a") ≡ Some 3
name_is_of_the_later_one = refl

pub few_numbers_leave_some : numbers_left with_a_and_ab ≡ true
few_numbers_leave_some = refl

-- each checkpoint changed so
abbrev each_changed : (Entry → Entry) → RecordState
each_changed f = record with_a_and_ab { entries = map f with_a_and_ab.entries }

-- each number that rises, at this one of 32 bits, or the generation at this one of 64
abbrev at_each_number : ℕ → ℕ → List RecordState
at_each_number n g =
    record with_a_and_ab { last_identity = n }
    ∷ record with_a_and_ab { last_incarnations = 1 ∷ n ∷ [] }
    ∷ each_changed (λ e. record e { references = slice_set e.references 99 n })
    ∷ each_changed (λ e. record e { generation = g })
    ∷ []

pub one_below_the_greatest_leaves_some : map numbers_left (at_each_number (2 ^ 32 - 2) (2 ^ 64 - 2)) ≡ true ∷ true ∷ true ∷ true ∷ []
one_below_the_greatest_leaves_some = refl

pub the_greatest_of_any_number_leaves_none : map numbers_left (at_each_number (2 ^ 32 - 1) (2 ^ 64 - 1)) ≡ false ∷ false ∷ false ∷ false ∷ []
the_greatest_of_any_number_leaves_none = refl

-- ---- sixteen checkpoints

-- c3 makes a checkpoint of each of these names of one byte
abbrev begins_each : List ℕ → RecordState → RecordState
begins_each [] R = R
begins_each (n ∷ names) R = begins_each names (begins 3 (n ∷ []) R)

abbrev sixteen : RecordState
sixteen = begins_each (0 ∷ 1 ∷ 2 ∷ 3 ∷ 4 ∷ 5 ∷ 6 ∷ 7 ∷ 8 ∷ 9 ∷ 10 ∷ 11 ∷ 12 ∷ 13 ∷ 14 ∷ 15 ∷ []) (brought_up 1 empty_record)

pub sixteen_are_there : identities sixteen ≡ 1 ∷ 2 ∷ 3 ∷ 4 ∷ 5 ∷ 6 ∷ 7 ∷ 8 ∷ 9 ∷ 10 ∷ 11 ∷ 12 ∷ 13 ∷ 14 ∷ 15 ∷ 16 ∷ []
sixteen_are_there = refl

pub no_seventeenth : gets 3 (16 ∷ []) (Some kept_for_10) sixteen ≡ Refused (all_taken 16)
no_seventeenth = refl

pub refused_one_takes_no_identity : (begins 3 (16 ∷ []) sixteen).last_identity ≡ 16
refused_one_takes_no_identity = refl

pub undone_one_leaves_room : gets 3 (16 ∷ []) (Some kept_for_10) (making_undone 9 sixteen) ≡ Made 17
undone_one_leaves_room = refl

-- ---- the end of a making: of two nodes that are up, by c3

-- what a making sets: which call makes it, the nodes that are complete, and the active
abbrev made_as : Entry → Option CallId × List ℕ × Option ℕ
made_as e = (e.making, e.complete, e.active)

abbrev a_begun : RecordState
a_begun = begins 3 (codes "a") (brought_up 2 empty_record)

abbrev a_made : RecordState
a_made = making_finished 1 a_begun

pub nothing_is_complete_in_the_making : option_map made_as (entry_of 1 a_begun.entries) ≡ Some (Some (record { actor = Client 3; number = 2 }), 0 ∷ 0 ∷ 0 ∷ 0 ∷ 0 ∷ 0 ∷ 0 ∷ 0 ∷ [], None)
nothing_is_complete_in_the_making = refl

pub what_is_made_is_complete_on_its_nodes : option_map made_as (entry_of 1 a_made.entries) ≡ Some (None, 1 ∷ 1 ∷ 0 ∷ 0 ∷ 0 ∷ 0 ∷ 0 ∷ 0 ∷ [], Some 0)
what_is_made_is_complete_on_its_nodes = refl

-- a making that is over stays so
pub making_ends_once : making_finished 1 a_made ≡ a_made
making_ends_once = refl

pub what_is_made_is_not_undone : making_undone 1 a_made ≡ a_made
what_is_made_is_not_undone = refl

-- c3 and c99 open it, and c0 does not
pub each_open_is_a_reference_more : map (references_by 1 (opens 99 (codes "a") None (opens 3 (codes "a") None a_made))) (3 ∷ 99 ∷ 0 ∷ []) ≡ Some 2 ∷ Some 1 ∷ Some 0 ∷ []
each_open_is_a_reference_more = refl

-- ---- opens with attributes: of c4 with two sections, with another retention, and with none; of c5 with two sections

abbrev of_two_sections : CreationAttributes
of_two_sections = record kept_for_10 { max_sections = 2 }

abbrev kept_for_11 : CreationAttributes
kept_for_11 = record kept_for_10 { retention_duration = pos 11 }

abbrev opened_by_c4 : RecordState
opened_by_c4 = opens 4 (codes "a") None (opens 5 (codes "a") (Some of_two_sections) (opens 4 (codes "a") (Some kept_for_11) (opens 4 (codes "a") (Some of_two_sections) a_made)))

pub attributes_are_asked_for : map (λ a. gets 4 (codes "a") a a_made) (Some of_two_sections ∷ Some kept_for_11 ∷ None ∷ []) ≡ Refused (plainly Exist) ∷ Opened 1 false ∷ Opened 1 false ∷ []
attributes_are_asked_for = refl

pub refused_open_is_no_reference : map (references_by 1 opened_by_c4) (4 ∷ 5 ∷ []) ≡ Some 2 ∷ Some 0 ∷ []
refused_open_is_no_reference = refl

-- ---- the sweep: `open` is open, nobody has `idle` open, and `new` is in the making

abbrev three : RecordState
three = begins 3 (codes "new") (closed 2 3 (making_finished 2 (begins 3 (codes "idle") (making_finished 1 (begins 3 (codes "open") (brought_up 1 empty_record))))))

pub retention_is_not_over : identities (moved (pos 9) three) ≡ 1 ∷ 2 ∷ 3 ∷ []
retention_is_not_over = refl

pub sweep_takes_what_nobody_has_open : map (ckpt_named (moved (pos 10) three)) (codes "open" ∷ codes "idle" ∷ codes "new" ∷ []) ≡ Some 1 ∷ None ∷ Some 3 ∷ []
sweep_takes_what_nobody_has_open = refl

-- ---- closes: c3 has it open twice, and c4 once; at 5 c3 closes it twice, and at 40 c4

abbrev open_to_two : RecordState
open_to_two = moved (pos 5) (opens 4 (codes "a") None (opens 3 (codes "a") None a_made))

abbrev closed_by_c3 : RecordState
closed_by_c3 = closed 1 3 (closed 1 3 open_to_two)

pub close_is_a_reference_fewer : references_by 1 (closed 1 3 open_to_two) 3 ≡ Some 1
close_is_a_reference_fewer = refl

pub then_none_is_left : references_by 1 closed_by_c3 3 ≡ Some 0
then_none_is_left = refl

-- nor is there a client c100
pub close_of_what_is_not_open_changes_nothing : map (λ c. closed 1 c closed_by_c3) (3 ∷ 100 ∷ []) ≡ closed_by_c3 ∷ closed_by_c3 ∷ []
close_of_what_is_not_open_changes_nothing = refl

pub stays_while_another_has_it_open : identities (moved (pos 40) closed_by_c3) ≡ 1 ∷ []
stays_while_another_has_it_open = refl

abbrev closed_by_both : RecordState
closed_by_both = closed 1 4 (moved (pos 40) closed_by_c3)

pub retention_begins_with_the_last_close : map (λ t. identities (moved t closed_by_both)) (pos 49 ∷ pos 50 ∷ []) ≡ (1 ∷ []) ∷ [] ∷ []
retention_begins_with_the_last_close = refl

-- ---- an unlink, and a retention that is set

pub what_is_made_is_unlinked : unlink_answer (named (codes "a") a_made.entries) ≡ Ok tt
what_is_made_is_unlinked = refl

pub what_is_not_there_is_not_unlinked : unlink_answer (named (codes "a") empty_record.entries) ≡ Err (plainly NotExist)
what_is_not_there_is_not_unlinked = refl

-- of the first and of what is not there
pub retention_is_set_of_what_is_there : map (λ k. retain_answer (entry_of k a_made.entries)) (1 ∷ 2 ∷ []) ≡ Ok tt ∷ Err (plainly NotExist) ∷ []
retention_is_set_of_what_is_there = refl

-- closed at 0, with a retention of 2 instead; at 1, with one of 3
abbrev kept_for_2 : RecordState
kept_for_2 = retained 1 (pos 2) (closed 1 3 a_made)

pub shorter_retention : map (λ t. identities (moved t kept_for_2)) (pos 1 ∷ pos 2 ∷ []) ≡ (1 ∷ []) ∷ [] ∷ []
shorter_retention = refl

pub longer_retention : map (λ t. identities (moved t (retained 1 (pos 3) (moved (pos 1) kept_for_2)))) (pos 2 ∷ pos 3 ∷ []) ≡ (1 ∷ []) ∷ [] ∷ []
longer_retention = refl

-- ---- c3 leaves at 7: with c4 it has `a` open, `b` is its alone, and it is making `c`, as c4 is `d`

-- both have `a` open
abbrev a_open_to_both : RecordState
a_open_to_both = opens 4 (codes "a") None (opens 3 (codes "a") None (making_finished 1 (begins 3 (codes "a") (entered 4 0 1 (entered 3 0 1 (brought_up 1 empty_record))))))

abbrev before_it_leaves : RecordState
before_it_leaves = moved (pos 7) (begins 4 (codes "d") (begins 3 (codes "c") (making_finished 2 (begins 3 (codes "b") a_open_to_both))))

abbrev c3_has_left : RecordState
c3_has_left = departed 3 before_it_leaves

pub who_leaves_is_live_no_more : map (λ c. is_live_client c c3_has_left) (3 ∷ 4 ∷ []) ≡ false ∷ true ∷ []
who_leaves_is_live_no_more = refl

pub who_leaves_has_nothing_open : map (references_by 1 c3_has_left) (3 ∷ 4 ∷ []) ≡ Some 0 ∷ Some 1 ∷ []
who_leaves_has_nothing_open = refl

pub its_making_goes_and_no_other : map (ckpt_named c3_has_left) (codes "c" ∷ codes "d" ∷ []) ≡ None ∷ Some 4 ∷ []
its_making_goes_and_no_other = refl

-- what it had alone is kept for 10 from then on
pub its_leaving_is_a_last_close : map (λ t. ckpt_named (moved t c3_has_left) (codes "b")) (pos 16 ∷ pos 17 ∷ []) ≡ Some 2 ∷ None ∷ []
its_leaving_is_a_last_close = refl
