-- Worked examples of a client's handles and of the places that stand for them, each by computation. A table is a map over its
-- places, and tells of each the checkpoint and the number of its handle.
use Rattle.std.proofs.Common.{◌≡◌, ℕ, List, [], ◌∷◌, map, Option, Some, None, Ok, Err, true, false, refl}
use Rattle.std.specs.Option.{option_map}
use Rattle.ckpt_types.specs.declared.ais_error.AisError.TheVariants.{BadHandle}
use Rattle.ckpt_types.specs.declared.calls.CallbackSet.{CallbackSet}
use Rattle.ckpt_types.specs.declared.open_flags.OpenFlags.{OpenFlags}
use Rattle.ckpt_types.specs.Limits.{wr_all_replicas}
use Rattle.client_handles.specs.ClientState.{ClientState, new_client, handle_at, handle_numbered, named_handle, has_handle_room, has_handle_numbers, taken, taken_number, released, bound, dropped}
use Rattle.client_handles.specs.declared.handle_view.HandleView.{HandleView}

-- ---- the words of the examples

abbrev no_callbacks : CallbackSet
no_callbacks = record { opens = false; syncs = false }

abbrev pub a_new_client : ClientState
a_new_client = new_client no_callbacks

-- one handle more, of this checkpoint, to read
abbrev takes : ℕ → ClientState → ClientState
takes id s = taken id (record { read = true; write = false; create = false }) wr_all_replicas s

-- and a place is set to it
abbrev pub opens : ℕ → ℕ → ClientState → ClientState
opens place id s = bound place (takes id s).last_number (takes id s)

-- so at each of these places
abbrev opens_each : List ℕ → ℕ → ClientState → ClientState
opens_each [] id s = s
opens_each (place ∷ places) id s = opens_each places id (opens place id s)

-- the checkpoint and the number of a handle
abbrev told : HandleView → ℕ × ℕ
told h = (h.id, h.handle)

-- those of the handle for which each of these places stands
abbrev pub each_at : ClientState → List ℕ → List (Option (ℕ × ℕ))
each_at s places = map (λ place. option_map told (handle_at place s)) places

-- the checkpoint of the handle of each of these numbers
abbrev each_numbered : ClientState → List ℕ → List (Option ℕ)
each_numbered s numbers = map (λ number. option_map (λ (h : HandleView). h.id) (handle_numbered number s.handles)) numbers

-- ---- a place stands for the handle to which it was set last

pub new_client_has_no_handle : each_at a_new_client (0 ∷ 99 ∷ []) ≡ None ∷ None ∷ []
new_client_has_no_handle = refl

pub nothing_is_closed_at_a_place_that_was_never_set : dropped 0 a_new_client ≡ a_new_client
nothing_is_closed_at_a_place_that_was_never_set = refl

-- h0 has the first handle, and h99 the second
abbrev with_two : ClientState
with_two = opens 99 4 (opens 0 3 a_new_client)

-- there is no h100, and no h255
pub other_places_stand_for_none : each_at with_two (0 ∷ 1 ∷ 98 ∷ 99 ∷ 100 ∷ 255 ∷ []) ≡ Some (3, 1) ∷ None ∷ None ∷ Some (4, 2) ∷ None ∷ None ∷ []
other_places_stand_for_none = refl

pub nothing_is_closed_past_the_last_place : dropped 100 with_two ≡ with_two
nothing_is_closed_past_the_last_place = refl

-- h50 is set to the first, too, and h0 to a third
abbrev with_three : ClientState
with_three = opens 0 5 (bound 50 1 with_two)

pub place_that_is_set_again_closes_nothing : each_at with_three (0 ∷ 50 ∷ 99 ∷ []) ≡ Some (5, 3) ∷ Some (3, 1) ∷ Some (4, 2) ∷ []
place_that_is_set_again_closes_nothing = refl

-- the third is closed, the first, and the second
pub each_is_closed_alone : map (λ s. each_at s (0 ∷ 50 ∷ 99 ∷ [])) (dropped 0 with_three ∷ dropped 50 (dropped 0 with_three) ∷ dropped 99 (dropped 50 (dropped 0 with_three)) ∷ [])
    ≡ (None ∷ Some (3, 1) ∷ Some (4, 2) ∷ []) ∷ (None ∷ None ∷ Some (4, 2) ∷ []) ∷ (None ∷ None ∷ None ∷ []) ∷ []
each_is_closed_alone = refl

pub it_is_closed_once : dropped 0 (dropped 0 with_three) ≡ dropped 0 with_three
it_is_closed_once = refl

-- ---- a closed place stands for none, though a handle came since: h3 and h8 stood for the first, h4 stands for the next

abbrev one_at_two_places : ClientState
one_at_two_places = bound 8 1 (opens 3 1 a_new_client)

pub two_places_of_one_handle : each_at one_at_two_places (3 ∷ 8 ∷ []) ≡ Some (1, 1) ∷ Some (1, 1) ∷ []
two_places_of_one_handle = refl

abbrev closed_and_next : ClientState
closed_and_next = opens 4 2 (dropped 3 one_at_two_places)

pub closed_places_stand_for_none : each_at closed_and_next (3 ∷ 8 ∷ 4 ∷ []) ≡ None ∷ None ∷ Some (2, 2) ∷ []
closed_places_stand_for_none = refl

pub nothing_is_closed_there : dropped 8 closed_and_next ≡ closed_and_next
nothing_is_closed_there = refl

-- h3 is set to the next, too, and that is closed there
pub closed_place_may_be_set_again : each_at (bound 3 2 closed_and_next) (3 ∷ 4 ∷ []) ≡ Some (2, 2) ∷ Some (2, 2) ∷ []
closed_place_may_be_set_again = refl

pub handle_is_closed_at_all_its_places : each_at (dropped 3 (bound 3 2 closed_and_next)) (3 ∷ 4 ∷ []) ≡ None ∷ None ∷ []
handle_is_closed_at_all_its_places = refl

-- ---- a handle that is given back, its number too: the third of three, at no place

abbrev with_third : ClientState
with_third = takes 9 (opens 1 7 (opens 0 7 a_new_client))

pub it_is_found_by_its_number : each_numbered with_third (2 ∷ 3 ∷ []) ≡ Some 7 ∷ Some 9 ∷ []
it_is_found_by_its_number = refl

pub given_back_it_is_gone : each_numbered (released 3 with_third) (2 ∷ 3 ∷ []) ≡ Some 7 ∷ None ∷ []
given_back_it_is_gone = refl

-- no handle has the number 4 or 0
pub number_that_no_handle_has : map (λ number. released number with_third) (4 ∷ 0 ∷ []) ≡ with_third ∷ with_third ∷ []
number_that_no_handle_has = refl

pub next_has_another_number : each_at (opens 2 8 (released 3 with_third)) (0 ∷ 1 ∷ 2 ∷ []) ≡ Some (7, 1) ∷ Some (7, 2) ∷ Some (8, 4) ∷ []
next_has_another_number = refl

-- ---- a handle tells what it was taken with

abbrev to_write_and_create : OpenFlags
to_write_and_create = record { read = false; write = true; create = true }

abbrev one_at_h7 : ClientState
one_at_h7 = bound 7 1 (taken 6 to_write_and_create 12 (new_client (record { opens = true; syncs = false })))

pub callbacks_are_those_registered : one_at_h7.callbacks ≡ record { opens = true; syncs = false }
callbacks_are_those_registered = refl

pub it_tells_all : named_handle 7 one_at_h7 ≡ Ok (record { id = 6; flags = to_write_and_create; creation_flags = 12; handle = 1 })
it_tells_all = refl

pub closed_it_is_bad_handle : named_handle 7 (dropped 7 one_at_h7) ≡ Err BadHandle
closed_it_is_bad_handle = refl

-- ---- 32 handles at most, at h0 to h31

abbrev with_31 : ClientState
with_31 = opens_each (0 ∷ 1 ∷ 2 ∷ 3 ∷ 4 ∷ 5 ∷ 6 ∷ 7 ∷ 8 ∷ 9 ∷ 10 ∷ 11 ∷ 12 ∷ 13 ∷ 14 ∷ 15 ∷ 16 ∷ 17 ∷ 18 ∷ 19 ∷ 20 ∷ 21 ∷ 22 ∷ 23 ∷ 24 ∷ 25 ∷ 26 ∷ 27 ∷ 28 ∷ 29 ∷ 30 ∷ []) 7 a_new_client

abbrev with_32 : ClientState
with_32 = opens 31 7 with_31

pub the_32nd_is_given : taken_number with_31 ≡ Ok 32
the_32nd_is_given = refl

pub the_33rd_is_refused : taken_number with_32 ≡ Err (record { count = 32 })
the_33rd_is_refused = refl

pub though_there_are_numbers : (has_handle_room with_32 ≡ false) × (has_handle_numbers with_32 ≡ true)
though_there_are_numbers = (refl, refl)

pub first_and_last_are_open : each_at with_32 (0 ∷ 31 ∷ 40 ∷ []) ≡ Some (7, 1) ∷ Some (7, 32) ∷ None ∷ []
first_and_last_are_open = refl

-- one is closed, and one is given in its stead
abbrev with_32_again : ClientState
with_32_again = opens 40 9 (dropped 5 with_32)

pub closed_one_leaves_room : taken_number (dropped 5 with_32) ≡ Ok 33
closed_one_leaves_room = refl

pub closed_one_stays_closed : each_at with_32_again (5 ∷ 40 ∷ []) ≡ None ∷ Some (9, 33) ∷ []
closed_one_stays_closed = refl

pub again_there_is_no_more : taken_number with_32_again ≡ Err (record { count = 32 })
again_there_is_no_more = refl
