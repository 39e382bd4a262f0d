-- Worked examples of the definitions on asynchronous calls, each by computation.
use Rattle.std.proofs.Common.{◌≡◌, ℕ, true, false, [], ◌∷◌, replicate, Some, None, Ok, Err, refl}
use Rattle.ckpt_types.specs.declared.ais_error.AisError.TheVariants.{InvalidParam, Timeout}
use Rattle.ckpt_types.specs.declared.answers.Answer.TheVariants.{Nothing, Opened}
use Rattle.ckpt_types.specs.declared.answers.Cause.TheVariants.{Plain}
use Rattle.ckpt_types.specs.declared.answers.Outcome.{Outcome}
use Rattle.ckpt_types.specs.declared.answers.Outcome.TheVariants.{Done, Refused}
use Rattle.ckpt_types.specs.declared.calls.AsyncKind.TheVariants.{Open, Sync}
use Rattle.ckpt_types.specs.declared.identities.ActorName.TheVariants.{Client, Node}
use Rattle.ckpt_types.specs.declared.identities.CallId.{CallId}
use Rattle.call_dispatch.specs.declared.async_call.AsyncCall.{AsyncCall}
use Rattle.call_dispatch.specs.PendingCalls.{PendingCalls, begun_answer, callback_of, dispatched, ended_call, ended_in, find_async, forgotten, forgotten_over, given_answer, given_by, given_number, has_callbacks, is_call, is_pending, no_pending, pending_count, with_begun}

-- ---- the words of the examples

-- the call of that number of the client c3
abbrev call : ℕ → CallId
call number = record { actor = Client 3; number = number }

-- an open that asks for the place h1, with the call's number for its invocation
abbrev open_of : ℕ → AsyncCall
open_of number = record { call = call number; kind = Open 1; invocation = number; handle = 0 }

-- a synchronisation over the handle of that number
abbrev sync_of : ℕ → ℕ → AsyncCall
sync_of number handle = record { call = call number; kind = Sync; invocation = number; handle = handle }

-- what an open answers that was done, of the checkpoint K7
abbrev opened : Outcome
opened = Done (Opened 7)

-- what a synchronisation answers that was done
abbrev synchronised : Outcome
synchronised = Done Nothing

-- an open and two synchronisations under way, over the handles 2 and 5
abbrev three_begun : PendingCalls
three_begun = with_begun (sync_of 6 5) (with_begun (sync_of 5 2) (with_begun (open_of 4) no_pending))

-- the last has ended first, and then the open, with the handle 9
abbrev two_ended : PendingCalls
two_ended = ended_in (call 4) (Some 9) opened (ended_in (call 6) None synchronised three_begun)

-- so many calls under way, which differ in nothing
abbrev alike : ℕ → PendingCalls
alike count = record { unfinished = replicate count (open_of 4); finished = [] }

-- ---- how calls begin

-- they stand in the order of their beginning
begun_in_order : three_begun ≡ record { unfinished = open_of 4 ∷ sync_of 5 2 ∷ sync_of 6 5 ∷ []; finished = [] }
begun_in_order = refl

-- a call is named by its client and its number; a node with the number of a client is another actor
named_by_both : is_call (call 4) (call 4) ≡ true
named_by_both = refl

another_number : is_call (call 4) (call 5) ≡ false
another_number = refl

another_actor : is_call (call 4) (record { actor = Node 3; number = 4 }) ≡ false
another_actor = refl

-- a 16th may begin, and a 17th may not
sixteenth : begun_answer (alike 15) ≡ Ok tt
sixteenth = refl

seventeenth : begun_answer (alike 16) ≡ Err (record { count = 16 })
seventeenth = refl

-- those that have ended count too
ended_count : pending_count two_ended ≡ 3
ended_count = refl

-- ---- how calls end

-- they stand in the order of their ends, an open with the handle that it has opened; the others stay in order
ended_in_order : two_ended ≡ record { unfinished = sync_of 5 2 ∷ []; finished = ended_call None synchronised (sync_of 6 5) ∷ ended_call (Some 9) opened (open_of 4) ∷ [] }
ended_in_order = refl

-- a call that has ended is kept, and is not found among those under way
kept_ended : is_pending (call 4) two_ended ≡ true
kept_ended = refl

not_under_way : find_async (call 4) two_ended.unfinished ≡ None
not_under_way = refl

still_under_way : find_async (call 5) two_ended.unfinished ≡ Some (sync_of 5 2)
still_under_way = refl

-- a call that has ended does not end again, and one that never began does not end
ends_once : ended_in (call 4) (Some 8) (Refused Timeout Plain) two_ended ≡ two_ended
ends_once = refl

never_began : ended_in (call 9) (Some 8) opened two_ended ≡ two_ended
never_began = refl

-- ---- how calls are forgotten

-- by name, whether a call has ended or not
forgets_ended : forgotten (call 6) two_ended ≡ record { unfinished = sync_of 5 2 ∷ []; finished = ended_call (Some 9) opened (open_of 4) ∷ [] }
forgets_ended = refl

forgets_unfinished : forgotten (call 5) three_begun ≡ record { unfinished = open_of 4 ∷ sync_of 6 5 ∷ []; finished = [] }
forgets_unfinished = refl

-- over a handle, synchronisations alone: the open that has opened the handle 9 stays
forgets_over : forgotten_over 5 two_ended ≡ record { unfinished = sync_of 5 2 ∷ []; finished = ended_call (Some 9) opened (open_of 4) ∷ [] }
forgets_over = refl

keeps_opens : forgotten_over 9 two_ended ≡ two_ended
keeps_opens = refl

-- ---- what a dispatch gives

-- with the flag 1 the one that has ended first; with 2 all, in the order of their ends
gives_one : given_by 1 two_ended ≡ ended_call None synchronised (sync_of 6 5) ∷ []
gives_one = refl

gives_all : given_by 2 two_ended ≡ ended_call None synchronised (sync_of 6 5) ∷ ended_call (Some 9) opened (open_of 4) ∷ []
gives_all = refl

counts_one : given_answer 1 two_ended ≡ Ok (record { given = 1; left = 1 })
counts_one = refl

counts_all : given_answer 2 two_ended ≡ Ok (record { given = 2; left = 0 })
counts_all = refl

-- where none has ended, none is given
gives_none : given_answer 1 three_begun ≡ Ok (record { given = 0; left = 0 })
gives_none = refl

-- there is no flag 3, and none 0
no_flag_3 : given_answer 3 two_ended ≡ Err InvalidParam
no_flag_3 = refl

no_flag_0 : given_answer 0 two_ended ≡ Err InvalidParam
no_flag_0 = refl

-- what was given goes, and those under way stay
one_dispatched : dispatched (given_number 1 two_ended) two_ended ≡ record { unfinished = sync_of 5 2 ∷ []; finished = ended_call (Some 9) opened (open_of 4) ∷ [] }
one_dispatched = refl

all_dispatched : has_callbacks (dispatched (given_number 2 two_ended) two_ended) ≡ false
all_dispatched = refl

-- a callback tells the kind, the invocation and the outcome
tells_of_open : callback_of (ended_call (Some 9) opened (open_of 4)) ≡ record { kind = Open 1; invocation = 4; outcome = opened }
tells_of_open = refl

-- ---- dispatches one behind another

-- the call 6 is dispatched, and then the call 5 ends, behind the call 4
abbrev then_5_ends : PendingCalls
then_5_ends = ended_in (call 5) None synchronised (dispatched (given_number 1 two_ended) two_ended)

the_others_in_the_order_of_their_ends : given_by 2 then_5_ends ≡ ended_call (Some 9) opened (open_of 4) ∷ ended_call None synchronised (sync_of 5 2) ∷ []
the_others_in_the_order_of_their_ends = refl

counts_the_others : given_answer 2 then_5_ends ≡ Ok (record { given = 2; left = 0 })
counts_the_others = refl

none_twice : given_answer 2 (dispatched (given_number 2 then_5_ends) then_5_ends) ≡ Ok (record { given = 0; left = 0 })
none_twice = refl

-- a call that has ended keeps its place till it is dispatched
abbrev one_of_16_ended : PendingCalls
one_of_16_ended = ended_in (call 7) (Some 1) opened (with_begun (open_of 7) (alike 15))

ended_keeps_its_place : begun_answer one_of_16_ended ≡ Err (record { count = 16 })
ended_keeps_its_place = refl

its_callback_leaves_a_place : given_answer 1 one_of_16_ended ≡ Ok (record { given = 1; left = 0 })
its_callback_leaves_a_place = refl

then_one_may_begin : begun_answer (dispatched 1 one_of_16_ended) ≡ Ok tt
then_one_may_begin = refl

-- the synchronisation over the handle 5 goes, and then the open by its name
what_was_forgotten_is_not_given : given_answer 2 (forgotten (call 4) (forgotten_over 5 two_ended)) ≡ Ok (record { given = 0; left = 0 })
what_was_forgotten_is_not_given = refl
