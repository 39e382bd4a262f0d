-- Worked examples of a client's iterations and of the places that stand for them, each by computation. A table is a map over
-- its places. An iteration is known by its room.
use Rattle.std.proofs.Common.{◌≡◌, ℕ, ◌+◌, List, [], ◌∷◌, map, Option, Some, None, Ok, Err, true, false, refl}
use Rattle.std.specs.Option.{option_map}
use Rattle.ckpt_types.specs.declared.ais_error.AisError.TheVariants.{BadHandle}
use Rattle.section_iter.specs.KeptIds.{KeptIds}
use Rattle.client_handles.proofs.HandleRows.{a_new_client, opens, each_at}
use Rattle.client_handles.specs.ClientState.{ClientState, iterated_at, iterated_handle, kept_at, is_lent, has_iteration_room, has_iteration_numbers, added, added_answer, lent, returned, ended, ended_answer, dropped, released, emptied}
use Rattle.client_handles.specs.declared.handle_view.HandleView.{HandleView}

-- ---- the words of the examples

abbrev of_room : ℕ → KeptIds
of_room ids = record { ids = []; room = record { ids = ids; id_size = 8 } }

-- an iteration with this room is begun at a place, over the handle of that number
abbrev begins : ℕ → ℕ → ℕ → ClientState → ClientState
begins place handle ids s = added place handle (of_room ids) s

-- so at each of these places, over the handle 1, with the room behind its number
abbrev begins_each : List ℕ → ClientState → ClientState
begins_each [] s = s
begins_each (place ∷ places) s = begins_each places (begins place 1 (place + 1) s)

-- the number of the handle over which the iteration of each of these places goes
abbrev each_over : ClientState → List ℕ → List (Option ℕ)
each_over s places = map (λ place. option_map (λ (h : HandleView). h.handle) (iterated_at place s)) places

-- the room of the one that is kept for each of these places
abbrev each_kept : ClientState → List ℕ → List (Option ℕ)
each_kept s places = map (λ place. option_map (λ (kept : KeptIds). kept.room.ids) (kept_at place s)) places

-- ---- 8 iterations at most, at i0 to i7

abbrev with_7 : ClientState
with_7 = begins_each (0 ∷ 1 ∷ 2 ∷ 3 ∷ 4 ∷ 5 ∷ 6 ∷ []) (opens 0 7 a_new_client)

abbrev with_8 : ClientState
with_8 = begins 7 1 8 with_7

pub the_eighth_is_begun : added_answer with_7 ≡ Ok tt
the_eighth_is_begun = refl

pub the_ninth_is_refused : added_answer with_8 ≡ Err (record { count = 8 })
the_ninth_is_refused = refl

pub though_there_are_numbers : (has_iteration_room with_7 ≡ true) × (has_iteration_room with_8 ≡ false) × (has_iteration_numbers with_8 ≡ true)
though_there_are_numbers = (refl, refl, refl)

pub each_place_has_its_own : each_kept with_8 (0 ∷ 1 ∷ 2 ∷ 3 ∷ 4 ∷ 5 ∷ 6 ∷ 7 ∷ 20 ∷ []) ≡ Some 1 ∷ Some 2 ∷ Some 3 ∷ Some 4 ∷ Some 5 ∷ Some 6 ∷ Some 7 ∷ Some 8 ∷ None ∷ []
each_place_has_its_own = refl

-- the fourth is ended, and one is begun in its stead
pub ended_one_leaves_room : added_answer (ended 3 with_8) ≡ Ok tt
ended_one_leaves_room = refl

pub it_is_ended_once : ended_answer 3 (ended 3 with_8) ≡ Err BadHandle
it_is_ended_once = refl

abbrev with_8_again : ClientState
with_8_again = begins 20 1 9 (ended 3 with_8)

pub ended_place_stands_for_none : each_kept with_8_again (0 ∷ 3 ∷ 4 ∷ 20 ∷ []) ≡ Some 1 ∷ None ∷ Some 5 ∷ Some 9 ∷ []
ended_place_stands_for_none = refl

pub again_there_is_no_more : added_answer with_8_again ≡ Err (record { count = 8 })
again_there_is_no_more = refl

-- ---- a place that was set again: all of them begin at i99, the second and the eighth over h1, and the others over h0

abbrev two_handles : ClientState
two_handles = opens 1 7 (opens 0 7 a_new_client)

-- i99 was never set, and there is no i100
pub place_that_was_never_set : each_over two_handles (99 ∷ 100 ∷ []) ≡ None ∷ None ∷ []
place_that_was_never_set = refl

pub nothing_is_ended_there : map (λ place. ended_answer place two_handles) (99 ∷ 100 ∷ []) ≡ Err BadHandle ∷ Err BadHandle ∷ []
nothing_is_ended_there = refl

pub nothing_is_lent_there : each_kept two_handles (99 ∷ []) ≡ None ∷ []
nothing_is_lent_there = refl

abbrev first_two : ClientState
first_two = begins 99 2 2 (begins 99 1 1 two_handles)

pub place_stands_for_the_second : each_over first_two (99 ∷ []) ≡ Some 2 ∷ []
place_stands_for_the_second = refl

abbrev all_eight : ClientState
all_eight = begins 99 2 8 (begins 99 1 7 (begins 99 1 6 (begins 99 1 5 (begins 99 1 4 (begins 99 1 3 first_two)))))

pub all_of_them_count : added_answer all_eight ≡ Err (record { count = 8 })
all_of_them_count = refl

pub place_stands_for_the_last : each_kept all_eight (99 ∷ []) ≡ Some 8 ∷ []
place_stands_for_the_last = refl

-- the last is ended, and a ninth begun at i98: seven others still count
abbrev last_in_its_stead : ClientState
last_in_its_stead = begins 98 2 9 (ended 99 all_eight)

pub ended_it_stands_for_none : (ended_answer 99 all_eight ≡ Ok tt) × (ended_answer 99 (ended 99 all_eight) ≡ Err BadHandle)
ended_it_stands_for_none = (refl, refl)

pub seven_others_still_count : (each_kept last_in_its_stead (98 ∷ 99 ∷ []) ≡ Some 9 ∷ None ∷ []) × (added_answer last_in_its_stead ≡ Err (record { count = 8 }))
seven_others_still_count = (refl, refl)

-- six end with h0, so six are begun, and no more
abbrev six_in_their_stead : ClientState
six_in_their_stead = begins 4 2 15 (begins 3 2 14 (begins 2 2 13 (begins 1 2 12 (begins 0 2 11 (dropped 0 last_in_its_stead)))))

pub six_leave_room_for_six : (added_answer six_in_their_stead ≡ Ok tt) × (added_answer (begins 5 2 16 six_in_their_stead) ≡ Err (record { count = 8 }))
six_leave_room_for_six = (refl, refl)

-- ---- the iterations of a handle end with it: two over h0, and one over h1

abbrev three_over_two : ClientState
three_over_two = begins 2 1 3 (begins 1 2 2 (begins 0 1 1 two_handles))

pub each_goes_over_its_handle : each_over three_over_two (0 ∷ 1 ∷ 2 ∷ []) ≡ Some 1 ∷ Some 2 ∷ Some 1 ∷ []
each_goes_over_its_handle = refl

abbrev h0_closed : ClientState
h0_closed = dropped 0 three_over_two

pub two_end_with_it : each_over h0_closed (0 ∷ 1 ∷ 2 ∷ []) ≡ None ∷ Some 2 ∷ None ∷ []
two_end_with_it = refl

pub nothing_of_them_is_kept : each_kept h0_closed (0 ∷ 1 ∷ 2 ∷ []) ≡ None ∷ Some 2 ∷ None ∷ []
nothing_of_them_is_kept = refl

pub ended_they_do_not_end : ended_answer 2 h0_closed ≡ Err BadHandle
ended_they_do_not_end = refl

-- a new handle at h0, and one over it at i5
abbrev over_a_new_handle : ClientState
over_a_new_handle = begins 5 3 4 (opens 0 7 h0_closed)

pub old_places_stand_for_none : (each_over over_a_new_handle (0 ∷ 2 ∷ 5 ∷ []) ≡ None ∷ None ∷ Some 3 ∷ []) × (each_kept over_a_new_handle (2 ∷ 5 ∷ []) ≡ None ∷ Some 4 ∷ [])
old_places_stand_for_none = (refl, refl)

-- that of i1 is ended, and another begun there
abbrev another_at_i1 : ClientState
another_at_i1 = begins 1 3 5 (ended 1 over_a_new_handle)

pub one_is_ended_and_no_other : (ended_answer 1 over_a_new_handle ≡ Ok tt) × (each_kept (ended 1 over_a_new_handle) (1 ∷ 5 ∷ []) ≡ None ∷ Some 4 ∷ [])
one_is_ended_and_no_other = (refl, refl)

pub another_takes_its_place : (each_over another_at_i1 (1 ∷ []) ≡ Some 3 ∷ []) × (each_kept another_at_i1 (0 ∷ []) ≡ None ∷ [])
another_takes_its_place = (refl, refl)

-- ---- an iteration that is lent: i3, over h0

abbrev with_i3 : ClientState
with_i3 = begins 3 1 5 (opens 0 7 a_new_client)

abbrev i3_lent : ClientState
i3_lent = lent 3 with_i3

-- i4 stands for none, and there is no i103
pub one_place_is_lent : map (λ place. is_lent place i3_lent) (3 ∷ 4 ∷ 103 ∷ []) ≡ true ∷ false ∷ false ∷ []
one_place_is_lent = refl

pub lent_it_is_told_still : each_over i3_lent (3 ∷ 4 ∷ []) ≡ Some 1 ∷ None ∷ []
lent_it_is_told_still = refl

pub returned_it_is_as_before : returned 3 (of_room 5) i3_lent ≡ with_i3
returned_it_is_as_before = refl

pub returned_it_is_not_lent : is_lent 3 (returned 3 (of_room 5) i3_lent) ≡ false
returned_it_is_not_lent = refl

-- it ends by itself, with its handle, and with all that the client has
pub lent_it_ends_too : (ended_answer 3 i3_lent ≡ Ok tt) × (ended_answer 3 (ended 3 i3_lent) ≡ Err BadHandle)
lent_it_ends_too = (refl, refl)

pub lent_it_ends_with_its_handle : (each_over (released 1 i3_lent) (3 ∷ []) ≡ None ∷ []) × (ended_answer 3 (released 1 i3_lent) ≡ Err BadHandle)
lent_it_ends_with_its_handle = (refl, refl)

pub lent_it_ends_with_its_client : (iterated_handle 3 (emptied i3_lent) ≡ Err BadHandle) × (each_at (emptied i3_lent) (0 ∷ []) ≡ None ∷ [])
lent_it_ends_with_its_client = (refl, refl)

-- ---- a client that leaves keeps nothing: one iteration over h0, and one over h99

abbrev before_it_leaves : ClientState
before_it_leaves = begins 99 2 2 (begins 0 1 1 (opens 99 7 (opens 0 7 a_new_client)))

abbrev has_left : ClientState
has_left = emptied before_it_leaves

pub both_were_there : each_kept before_it_leaves (0 ∷ 99 ∷ []) ≡ Some 1 ∷ Some 2 ∷ []
both_were_there = refl

pub no_iteration_is_left : (each_over has_left (0 ∷ []) ≡ None ∷ []) × (ended_answer 99 has_left ≡ Err BadHandle)
no_iteration_is_left = (refl, refl)

pub no_handle_is_left : each_at has_left (0 ∷ 99 ∷ []) ≡ None ∷ None ∷ []
no_handle_is_left = refl

-- a handle comes at h5, and an iteration over it at i7
abbrev comes_again : ClientState
comes_again = begins 7 3 4 (opens 5 7 has_left)

pub handle_has_the_next_number : each_at comes_again (0 ∷ 5 ∷ []) ≡ None ∷ Some (7, 3) ∷ []
handle_has_the_next_number = refl

pub old_places_stay_empty : (each_over comes_again (7 ∷ []) ≡ Some 3 ∷ []) × (each_kept comes_again (0 ∷ []) ≡ None ∷ [])
old_places_stay_empty = (refl, refl)
