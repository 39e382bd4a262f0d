-- A beginning, whatever the operation, and by whatever name its call goes on.
use Rattle.std.proofs.Common.{◌≡◌, ℕ, ◌+◌, Bool, true, false, List, [], refl, sym, ap, subst, ◌∙◌, cond}
use Rattle.std.specs.Prelude.{Option, Some, None, slice_get, slice_set}
use Rattle.ckpt_types.specs.declared.answers.Outcome.{Outcome}
use Rattle.ckpt_types.specs.declared.attributes.CreationAttributes.{CreationAttributes}
use Rattle.ckpt_types.specs.declared.identities.ActorName.{ActorName}
use Rattle.ckpt_types.specs.declared.identities.ActorName.TheVariants.{Client, Node}
use Rattle.ckpt_types.specs.declared.identities.CallId.{CallId}
use Rattle.ckpt_types.specs.declared.identities.Who.{Who}
use Rattle.ckpt_types.specs.declared.identities.Who.TheVariants.{Actor}
use Rattle.ckpt_types.specs.declared.operation.Op.{Op}
use Rattle.ckpt_types.specs.Asks.{Ask, asked}
use Rattle.ckpt_types.specs.OpWord.{word_of_op, stepped_as}
use Rattle.node_msgs.specs.declared.details.Details.{Details}
use Rattle.run_labels.specs.declared.labels.Label.{Label}
use Rattle.run_labels.specs.declared.labels.Label.TheVariants.{Began}
use Rattle.client_handles.specs.declared.handle_view.HandleView.{HandleView}
use Rattle.cluster_record.specs.Calls.{put_actor}
use Rattle.cluster_record.specs.RecordState.{is_live_client}
use Rattle.cluster_record.proofs.Places.{there_is}
use Rattle.snap_copy.specs.Snapshots.{Snapshot}
use Rattle.ckpt_machine.specs.Beginning.{begin_end, callbacks_told}
use Rattle.ckpt_machine.specs.Drivers.{Driver}
use Rattle.ckpt_machine.specs.Driving.{Kept}
use Rattle.ckpt_machine.specs.Facts.{Facts}
use Rattle.ckpt_machine.specs.After.{after, call_begun, goes_on, pending_begun}
use Rattle.ckpt_machine.specs.Due.{IsDue, IsBegun, IsBeginEnd, kept_at_beginning}
use Rattle.ckpt_machine.specs.Tables.{handle_asked, ended_at_once, takes_copy}
use Rattle.ckpt_machine.specs.Whose.{put_who}
use Rattle.ckpt_machine.proofs.Starting.{driven_begun, none_begun}
use Rattle.ckpt_machine.proofs.Whose.{put_who-same}
use Rattle.client_calls.specs.declared.in_hand.InHand.{InHand}
use Rattle.world_core.specs.declared.world.World.{World}
use Rattle.world_core.specs.Answering.{IsAnsweredAtOnce, IsNextBegun}
use Rattle.client_calls.specs.HandBegun.{IsHandBegun}
use Rattle.client_calls.specs.HandRooms.{room_for, copy_room, copy_room_for}
use Rattle.world_core.specs.HandsState.{HandsState, hand_at}
use Rattle.world_core.specs.Happenings.{Begins, KeepsOther}
use Rattle.world_core.specs.Runs.{GoesOn, IsThereIf}
use Rattle.client_calls.specs.MadeIds.{made_told}
use Rattle.world_core.specs.Shows.{Beginning, Does, HistoryFits, FitsHand, History, IsShown, machine_of, next_of, tables_of, pending_of, hand_of, shown_hand}
use Rattle.ckpt_machine.specs.Shown.{IsRoomToCopy}
use Rattle.world_core.specs.TablesState.{standing_in, kept_by, pending_by, table_changed, at_client}
use Rattle.client_calls.specs.TableState.{TableState, next_in, kept_in, pending_in, begun_with}
use Rattle.world_core.proofs.LiveRooms.{rooms_set}
use Rattle.world_core.proofs.Maps.{HasUnder, fits_hand, put_hand, told_as, under_other, under_own}
use Rattle.world_core.proofs.NewCalls.{new_idle}
use Rattle.world_core.proofs.TableFields.{field_put}
use Rattle.std.specs.Option.{option_map}

-- ---- the call in hand

-- it is in hand just where it goes on
abbrev pub IsBegunAs : Bool → CallId → Op → Kept → Option InHand → Type 0
IsBegunAs false call op kept o = o ≡ None
IsBegunAs true call op kept None = ⊥
IsBegunAs true call op kept (Some hand) = IsHandBegun call op kept hand

-- where nothing is in hand under the name, nothing changes
pub none_put : (hands : HandsState) (v : Who) → hand_at hands v ≡ None → HasUnder hands v None hands
none_put hands v none u = sym (put_who-same (hand_at hands) v None (sym none) u)

-- the room that was taken for a copy is for what was declared then
pub roomed : (declares : Option CreationAttributes) → option_map (λ (t : Snapshot). t.attributes) (copy_room declares) ≡ declares
roomed None = refl
roomed (Some a) = refl

room_to_copy : (ask : Ask) (declares : Option CreationAttributes) → IsRoomToCopy ask declares (copy_room_for ask declares)
room_to_copy ask declares = elim (takes_copy ask) as (λ b. option_map (λ (t : Snapshot). t.attributes) (cond b (copy_room declares) None) ≡ cond b declares None) [ true ↦ roomed declares | false ↦ refl ]

-- its beginning, where it is in hand
abbrev began_as : Kept → Option InHand → Driver → Beginning
began_as kept None driver = record { kept = kept; driver = driver }
began_as kept (Some hand) driver = record { kept = kept; driver = hand.driver }

module _ (w : World) (call : CallId) (op : Op) (kept : Kept) (end : Option Outcome) (new : HandsState) where
  abbrev pub name : Who
  name = stepped_as call (word_of_op op)

  abbrev its : Option InHand → History → Beginning
  its o h = began_as kept o (h.beginnings name).driver

  -- what is told from here on
  abbrev pub later : Option InHand → History → History
  later o h = told_as h name (its o h) [] None None

  -- the calls in hand behind the beginning, in the machine and in the world
  call_shown : (b : Bool) (o : Option InHand) (driver : Driver) → goes_on (word_of_op op) end ≡ b → IsBegunAs b call op kept o → call_begun end call op kept ≡ shown_hand (began_as kept o driver) [] None None o
  call_shown false None driver goes is = none_begun end call op kept goes
  call_shown false (Some hand) driver goes is = absurd (cc is)
  call_shown true None driver goes is = absurd is
  call_shown true (Some hand) driver goes is = driven_begun end call op kept hand.driver goes is.driven ∙ (λ i. Some (record { call = sym is.call_is i; op = sym is.op_is i; kept = kept; begun = hand.driver; steps = []; created = None; snapshot = None }))

  pub hands_are : (o : Option InHand) (h : History) → IsBegunAs (goes_on (word_of_op op) end) call op kept o → HasUnder w.hands name o new → (u : Who) → put_who (hand_of h w.hands) name (call_begun end call op kept) u ≡ hand_of (later o h) new u
  hands_are o h is under u =
      ap (λ x. put_who (hand_of h w.hands) name x u) (call_shown (goes_on (word_of_op op) end) o (h.beginnings name).driver refl is) ∙ put_hand h w.hands new name o under (its o h) [] None None u

  -- and they fit
  call_fits : (b : Bool) (o : Option InHand) (driver : Driver) → IsBegunAs b call op kept o → FitsHand (began_as kept o driver) [] None None o
  call_fits b None driver is = tt
  call_fits false (Some hand) driver is = absurd (cc is)
  call_fits true (Some hand) driver is = record {
    driver = refl;
    iteration = is.iteration ∙ ap (λ op. room_for (asked op) kept.room) (sym is.op_is);
    room = subst (λ (z : Op × Option Snapshot). IsRoomToCopy (asked z.0) kept.declares z.1) (λ i. (sym is.op_is i, sym is.snapshot i)) (room_to_copy (asked op) kept.declares);
    copy = tt;
    made = λ has creates. ap made_told is.made;
  }

  pub fit_behind : (o : Option InHand) (h : History) → IsBegunAs (goes_on (word_of_op op) end) call op kept o → HasUnder w.hands name o new → HistoryFits w h → (u : Who) → FitsHand ((later o h).beginnings u) ((later o h).steps u) ((later o h).created u) ((later o h).pulled u) (hand_at new u)
  fit_behind o h is under fits = fits_hand h w.hands new name o under (its o h) [] None None (call_fits (goes_on (word_of_op op) end) o (h.beginnings name).driver is) fits.hands

  -- the call is in hand just where it goes on
  there : (b : Bool) (o : Option InHand) → IsBegunAs b call op kept o → IsThereIf b call op o
  there false o is = is
  there true None is = absurd is
  there true (Some hand) is = (is.call_is, is.op_is)

  pub begun_here : (o : Option InHand) → IsBegunAs (goes_on (word_of_op op) end) call op kept o → HasUnder w.hands name o new → GoesOn call op end (hand_at new name)
  begun_here o is under = subst (IsThereIf (goes_on (word_of_op op) end) call op) (sym (under_own w.hands new name o under)) (there (goes_on (word_of_op op) end) o is)

-- ---- the whole

-- it is due
pub is_begun : (w : World) (c : ℕ) (call : CallId) (op : Op) (h : Option HandleView) (end : Option Outcome) (details : Details) → IsNextBegun w c call op h end → details ≡ callbacks_told end (asked op) (pending_by w.tables c) → (history : History) → IsBegun (machine_of w history) call op end details
is_begun w c call op h end details is told history = subst (λ (x : CallId). IsBegun (machine_of w history) x op end details) (sym is.call_is) (record {
  asker = is.asker;
  built = is.built;
  number = refl;
  none_in_hand = ap (shown_hand (history.beginnings (Actor (Client c))) (history.steps (Actor (Client c))) (history.created (Actor (Client c))) (history.pulled (Actor (Client c)))) is.none;
  may = is.may;
  answer = subst (λ o. IsBeginEnd (asked op) (begin_end (standing_in (is_live_client c w.cluster) o c w.tables) (asked op)) end) is.handle is.end_is;
  told = told;
})

module _ (w : World) (c : ℕ) (op : Op) (end : Option Outcome) (t : TableState) (table : slice_get w.tables c ≡ Some t) (o : Option InHand) (new : HandsState) where
  abbrev found : Option HandleView
  found = handle_asked (asked op) (kept_by w.tables c)

  abbrev kept : Kept
  kept = kept_at_beginning w.cluster (Client c) found

  abbrev call : CallId
  call = record { actor = Client c; number = next_in (slice_get w.tables c) }

  abbrev t' : TableState
  t' = begun_with end call op found t

  abbrev w' : World
  w' = record w { tables = slice_set w.tables c t'; hands = new }

  nexts : (h : History) (a : ActorName) → put_actor (machine_of w h).next (Client c) ((machine_of w h).next (Client c) + 1) a ≡ next_of w' a
  nexts h (Client d) = field_put w c t t' table next_in (next_in (slice_get w.tables c) + 1) (ap (λ o. next_in o + 1) table) d
  nexts h (Node r) = refl

  keeps : (h : History) (a : ActorName) → put_actor (machine_of w h).tables (Client c) (ended_at_once end (asked op) (pending_by w.tables c) (kept_by w.tables c)) a ≡ tables_of w'.tables a
  keeps h (Client d) = field_put w c t t' table kept_in (ended_at_once end (asked op) (pending_by w.tables c) (kept_by w.tables c)) (ap (λ o. ended_at_once end (asked op) (pending_in o) (kept_in o)) table) d
  keeps h (Node r) = refl

  pendings : (h : History) (a : ActorName) → put_actor (machine_of w h).pending (Client c) (pending_begun end call op found (pending_by w.tables c)) a ≡ pending_of w'.tables a
  pendings h (Client d) = field_put w c t t' table pending_in (pending_begun end call op found (pending_by w.tables c)) (ap (λ o. pending_begun end call op found (pending_in o)) table) d
  pendings h (Node r) = refl

  module _ (details : Details) (is : IsNextBegun w c call op found end) (told : details ≡ callbacks_told end (asked op) (pending_by w.tables c)) (begun : IsBegunAs (goes_on (word_of_op op) end) call op kept o) (under : HasUnder w.hands (stepped_as call (word_of_op op)) o new) where
    abbrev label : Label
    label = Began call op end details

    after_is : (h : History) → after (machine_of w h) label ≡ machine_of w' (later w call op kept end new o h)
    after_is h = λ i. record (machine_of w' (later w call op kept end new o h)) {
      next = λ a. nexts h a i;
      tables = λ a. keeps h a i;
      pending = λ a. pendings h a i;
      in_hand = λ u. hands_are w call op kept end new o h begun under u i;
    }

    fits_later : (h : History) → HistoryFits w h → HistoryFits w' (later w call op kept end new o h)
    fits_later h fits = record { replicas = fits.replicas; copies = fits.copies; hands = fit_behind w call op kept end new o h begun under fits }

    begin_does : Does w w' label
    begin_does = record {
      due_is = λ m s f. subst (λ m. IsDue m label) (sym s.same) (is_begun w c call op found end details is told s.history);
      shows = λ m s f. record { history = later w call op kept end new o s.history; same = ap (λ m. after m label) s.same ∙ after_is s.history; fits = fits_later s.history s.fits; holds = s.holds; keeps = s.keeps; rooms = rooms_set w w.cluster c t t' table refl s.rooms };
    }

    other_hands : KeepsOther (stepped_as call (word_of_op op)) w w'
    other_hands b apart = under_other w.hands new (stepped_as call (word_of_op op)) o under (Actor b) apart

    begins_so : Begins (Client c) op w w' label
    begins_so = record {
      begins = record { actor = refl; op_is = refl; here = begun_here w call op kept end new o begun under; others = other_hands };
      does = begin_does;
    }

-- A CALL OF A CLIENT BEGINS, with the parts as the code names them
pub call_begins : (w : World) (c : ℕ) (call : CallId) (op : Op) (h : Option HandleView) (end : Option Outcome) (details : Details) (o : Option InHand) (tables : List TableState) (hands : HandsState) →
    IsNextBegun w c call op h end → details ≡ callbacks_told end (asked op) (pending_by w.tables c) → IsBegunAs (goes_on (word_of_op op) end) call op (kept_at_beginning w.cluster (Client c) h) o → HasUnder w.hands (stepped_as call (word_of_op op)) o hands →
    tables ≡ at_client c (begun_with end call op h) w.tables → Begins (Client c) op w (record w { tables = tables; hands = hands }) (Began call op end details)
call_begins w c call op h end details o tables hands is told begun under tables_are =
    let (t, table) = there_is w.tables c is.table in
    let b : slice_set w.tables c (begun_with end call op h t) ≡ tables = ap (table_changed c (begun_with end call op h) w.tables) (sym table) ∙ sym tables_are in
    subst (λ (x : List TableState). Begins (Client c) op w (record w { tables = x; hands = hands }) (Began call op end details)) b
    (subst (λ (z : CallId × Option HandleView). IsNextBegun w c z.0 op z.1 end → IsBegunAs (goes_on (word_of_op op) end) z.0 op (kept_at_beginning w.cluster (Client c) z.1) o → HasUnder w.hands (stepped_as z.0 (word_of_op op)) o hands → Begins (Client c) op w (record w { tables = slice_set w.tables c (begun_with end z.0 op z.1 t); hands = hands }) (Began z.0 op end details))
    (λ i. (sym is.call_is i, sym is.handle i)) (λ is begun under. begins_so w c op end t table o hands details is told begun under) is begun under)

-- ---- one that is answered at once, and does not go on

-- nothing is in hand under the name of the next call
pub idle : (w : World) (c : ℕ) (next : CallId) (word : _) → IsShown w → next ≡ record { actor = Client c; number = next_in (slice_get w.tables c) } → hand_at w.hands (Actor (Client c)) ≡ None → hand_at w.hands (stepped_as next word) ≡ None
idle w c next word shown next_is none = subst (λ (x : CallId). hand_at w.hands (stepped_as x word) ≡ None) (sym next_is) (new_idle w shown.shows.history (subst Facts shown.shows.same shown.facts) c word none)

-- so it is over with its beginning
pub answered_begins : (w : World) (c : ℕ) (call : CallId) (op : Op) (h : Option HandleView) (end : Outcome) (details : Details) (new : World) → IsShown w → IsAnsweredAtOnce w c call op h end → details ≡ callbacks_told (Some end) (asked op) (pending_by w.tables c) → goes_on (word_of_op op) (Some end) ≡ false
    → new ≡ record w { tables = at_client c (begun_with (Some end) call op h) w.tables } → Begins (Client c) op w new (Began call op (Some end) details)
answered_begins w c call op h end details new shown is told ends new_is =
    let none = idle w c call (word_of_op op) shown is.call_is is.none in
    subst (λ x. Begins (Client c) op w x (Began call op (Some end) details)) (sym new_is)
    (call_begins w c call op h (Some end) details None (at_client c (begun_with (Some end) call op h) w.tables) w.hands is told
    (subst (λ b. IsBegunAs b call op (kept_at_beginning w.cluster (Client c) h) None) (sym ends) refl) (none_put w.hands (stepped_as call (word_of_op op)) none) refl)
