-- A call that goes on behind its beginning: its client waits for its end, or it goes on by itself.
use Rattle.section_iter.specs.KeptIds.{KeptIds}
use Rattle.std.proofs.Common.{◌≡◌, inr, ℕ, ◌<◌, List, length, Bool, true, false, Option, Some, None, refl, sym, ap, subst, ◌∙◌}
use Rattle.std.specs.Prelude.{IsTrue, slice_get}
use Rattle.ckpt_types.specs.declared.answers.Answer.TheVariants as answers
use Rattle.ckpt_types.specs.declared.answers.Outcome.{Outcome}
use Rattle.ckpt_types.specs.declared.answers.Outcome.TheVariants.{Done, NoMemory}
use Rattle.ckpt_types.specs.declared.identities.ActorName.TheVariants.{Client}
use Rattle.ckpt_types.specs.declared.identities.CallId.{CallId}
use Rattle.ckpt_types.specs.declared.identities.Who.TheVariants.{Actor, Call}
use Rattle.ckpt_types.specs.declared.operation.Op.{Op}
use Rattle.ckpt_types.specs.declared.operation.Op.TheVariants as ops
use Rattle.ckpt_types.specs.Asks.{MayAsk, asked, IsBuilt}
use Rattle.ckpt_types.specs.Limits.{client_numbers}
use Rattle.ckpt_types.specs.OpWord.{is_async, word_of_op, stepped_as}
use Rattle.node_msgs.specs.declared.details.Details.TheVariants as beside
use Rattle.run_labels.specs.declared.labels.Label.TheVariants.{Began}
use Rattle.client_handles.specs.declared.handle_view.HandleView.{HandleView}
use Rattle.cluster_record.specs.RecordState.{is_live_client}
use Rattle.cluster_record.proofs.Places.{there_is}
use Rattle.snap_copy.specs.Snapshots.{Snapshot}
use Rattle.ckpt_machine.specs.Beginning.{Standing, begin_end, takes_memory_at_once}
use Rattle.ckpt_machine.specs.BeginRows.{BeginRow}
use Rattle.ckpt_machine.specs.Driving.{Kept, driver_start}
use Rattle.ckpt_machine.specs.Due.{IsBeginEnd, MayBegin, kept_at_beginning}
use Rattle.ckpt_machine.specs.Tables.{handle_asked}
use Rattle.ckpt_machine.proofs.BeginRows.{row_of}
use Rattle.ckpt_machine.proofs.Whose.{stepped_as-plain, stepped_as-async}
use Rattle.client_calls.specs.declared.in_hand.InHand.{InHand}
use Rattle.world_core.specs.declared.world.World.{World}
use Rattle.world_core.specs.Answering.{IsAnsweredAtOnce, IsNextBegun}
use Rattle.client_calls.specs.HandBegun.{IsHandBegun}
use Rattle.client_calls.specs.HandRooms.{room_for, copy_room_for}
use Rattle.world_core.specs.HandsState.{HandsState, HasAlone, hand_at, set_at, with_alone}
use Rattle.world_core.specs.Happenings.{Begins}
use Rattle.world_core.specs.Shows.{IsShown}
use Rattle.world_core.specs.TablesState.{standing_in, kept_by, pending_by, at_client}
use Rattle.client_calls.specs.TableState.{TableState, next_in, begun_with}
use Rattle.world_core.proofs.HandLaws.{client_set, with_alone-at}
use Rattle.world_core.proofs.Answered.{told_alone, was_unrefused}
use Rattle.world_core.proofs.Begin.{IsBegunAs, call_begins, idle}
use Rattle.world_core.proofs.Maps.{HasUnder}

-- ---- as the code has it

-- nothing is there
pub none_there : {X : Type 0} (o : Option X) → ((x : X) → o ≡ Some x → ⊥) → o ≡ None
none_there None absent = refl
none_there (Some x) absent = absurd (absent x refl)

-- the call that begins, with what is asked of it
pub next_begun : (w : World) (c number : ℕ) (op : Op) (h : Option HandleView) (live : Bool) (due end : Option Outcome) → c < client_numbers → c < length w.tables → MayAsk (Client c) (asked op) → IsBuilt op → hand_at w.hands (Actor (Client c)) ≡ None → MayBegin w.cluster (Client c) (asked op) → number ≡ next_in (slice_get w.tables c) → h ≡ handle_asked (asked op) (kept_by w.tables c)
    → live ≡ is_live_client c w.cluster → due ≡ begin_end (standing_in live h c w.tables) (asked op) → IsBeginEnd (asked op) due end → IsNextBegun w c (record { actor = Client c; number = number }) op h end
next_begun w c number op h live due end client table asker built none may number_is handle live_is due_is answer = record {
  client = client;
  table = table;
  built = built;
  none = none;
  asker = asker;
  may = may;
  call_is = ap (λ n. record { actor = Client c; number = n }) number_is;
  handle = handle;
  end_is = subst (λ o. IsBeginEnd (asked op) o end) (due_is ∙ ap (λ live. begin_end (standing_in live h c w.tables) (asked op)) live_is) answer;
}

-- the call in hand
pub hand_begun : (call : CallId) (op : Op) (kept : Kept) (hand : InHand) (iteration : Option KeptIds) (snapshot : Option Snapshot) → hand ≡ record hand { call = call; op = op; iteration = iteration; snapshot = snapshot; made = None } → iteration ≡ room_for (asked op) kept.room → snapshot ≡ copy_room_for (asked op) kept.declares
    → driver_start call (asked op) kept ≡ Some hand.driver → IsHandBegun call op kept hand
hand_begun call op kept hand iteration snapshot is room copy driven = record {
  call_is = ap (λ (h : InHand). h.call) is;
  op_is = ap (λ (h : InHand). h.op) is;
  iteration = ap (λ (h : InHand). h.iteration) is ∙ room;
  snapshot = ap (λ (h : InHand). h.snapshot) is ∙ copy;
  made = ap (λ (h : InHand). h.made) is;
  driven = driven;
}

-- ---- its client waits for it

-- what is not answered at once is no asynchronous call
waits_row : (st : Standing) (op : Op) → BeginRow st (asked op) None → is_async (word_of_op op) ≡ false
waits_row st (ops.OpenAsync place invocation name flags a) row = absurd (let it = row.1 in cc it)
waits_row st (ops.SyncAsync place invocation) row = absurd (let it = row.1 in cc it)
waits_row st op row = refl

-- it is in its client's place
pub waits : (w : World) (c : ℕ) (call : CallId) (op : Op) (h : Option HandleView) (hand : InHand) (tables : List TableState) → IsNextBegun w c call op h None → IsHandBegun call op (kept_at_beginning w.cluster call.actor h) hand → c < length w.hands.clients
    → tables ≡ at_client c (begun_with None call op h) w.tables → Begins (Client c) op w (record w { tables = tables; hands = set_at w.hands (Actor (Client c)) (Some hand) }) (Began call op None beside.Nothing)
waits w c call op h hand tables is begun within tables_are =
    let plain = waits_row (standing_in (is_live_client c w.cluster) h c w.tables) op (row_of (standing_in (is_live_client c w.cluster) h c w.tables) (asked op) is.built None is.end_is) in
    let own : stepped_as call (word_of_op op) ≡ Actor (Client c) = stepped_as-plain call (word_of_op op) plain ∙ ap (λ (x : CallId). Actor x.actor) is.call_is in
    let under : HasUnder w.hands (stepped_as call (word_of_op op)) (Some hand) (set_at w.hands (Actor (Client c)) (Some hand))
    = let (x, there) = there_is w.hands.clients c within in
    subst (λ v. HasUnder w.hands v (Some hand) (set_at w.hands (Actor (Client c)) (Some hand))) (sym own) (client_set w.hands c x there (Some hand)) in
    let client : call.actor ≡ Client c = ap (λ (x : CallId). x.actor) is.call_is in
    call_begins w c call op h None beside.Nothing (Some hand) tables (set_at w.hands (Actor (Client c)) (Some hand)) is refl (subst (λ a. IsHandBegun call op (kept_at_beginning w.cluster a h) hand) client begun) under tables_are

-- ---- it goes on by itself

-- it is in hand under its own name
pub goes_alone : (w : World) (c : ℕ) (call : CallId) (op : Op) (h : Option HandleView) (hand : InHand) (hands : HandsState) (new : World) → IsShown w → IsAnsweredAtOnce w c call op h (Done answers.Nothing) → is_async (word_of_op op) ≡ true → IsHandBegun call op (kept_at_beginning w.cluster call.actor h) hand
    → HasAlone hand.call.actor w.hands → hands ≡ with_alone hand w.hands → new ≡ record w { tables = at_client c (begun_with (Some (Done answers.Nothing)) call op h) w.tables; hands = hands } → Begins (Client c) op w new (Began call op (Some (Done answers.Nothing)) beside.Nothing)
goes_alone w c call op h hand hands new shown is async begun there hands_are new_is =
    let name = stepped_as-async call (word_of_op op) async in
    let client : call.actor ≡ Client c = ap (λ (x : CallId). x.actor) is.call_is in
    let own : Call hand.call ≡ stepped_as call (word_of_op op) = ap Call begun.call_is ∙ sym name in
    let none = ap (hand_at w.hands) own ∙ idle w c call (word_of_op op) shown is.call_is is.none in
    let under : HasUnder w.hands (stepped_as call (word_of_op op)) (Some hand) hands
    = subst (λ (hands : HandsState). HasUnder w.hands (stepped_as call (word_of_op op)) (Some hand) hands) (sym hands_are) (subst (λ v. HasUnder w.hands v (Some hand) (with_alone hand w.hands)) own (with_alone-at hand w.hands there none)) in
    subst (λ x. Begins (Client c) op w x (Began call op (Some (Done answers.Nothing)) beside.Nothing)) (sym new_is)
    (call_begins w c call op h (Some (Done answers.Nothing)) beside.Nothing (Some hand) (at_client c (begun_with (Some (Done answers.Nothing)) call op h) w.tables) hands is (sym (told_alone op async (Some (Done answers.Nothing)) (pending_by w.tables c)))
    (subst (λ b. IsBegunAs b call op (kept_at_beginning w.cluster (Client c) h) (Some hand)) (sym async) (subst (λ a. IsHandBegun call op (kept_at_beginning w.cluster a h) hand) client begun)) under refl)

-- it takes memory for that
takes_memory : (op : Op) → is_async (word_of_op op) ≡ true → IsTrue (takes_memory_at_once (asked op))
takes_memory (ops.OpenAsync place invocation name flags a) async = refl
takes_memory (ops.SyncAsync place invocation) async = refl
takes_memory op async = absurd (cc async)

-- where its memory is refused, it is answered so
pub lacks_memory : (w : World) (c : ℕ) (call : CallId) (op : Op) (h : Option HandleView) → IsAnsweredAtOnce w c call op h (Done answers.Nothing) → is_async (word_of_op op) ≡ true → IsAnsweredAtOnce w c call op h NoMemory
lacks_memory w c call op h is async = record {
  client = is.client;
  table = is.table;
  built = is.built;
  none = is.none;
  asker = is.asker;
  may = is.may;
  call_is = is.call_is;
  handle = is.handle;
  end_is = inr (takes_memory op async, was_unrefused (asked op) (begin_end (standing_in (is_live_client c w.cluster) h c w.tables) (asked op)) answers.Nothing is.end_is, refl);
}
