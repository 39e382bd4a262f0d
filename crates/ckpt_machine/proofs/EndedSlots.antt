-- A call that has ended has no slot, from then on: it owns none, and in none its update is staged. And the calls of slots have begun in the log.
use Rattle.std.proofs.Common.{◌≡◌, ◌≢◌, ◌⊎◌, ℕ, inl, inr, List, [], ◌∷◌, ◌++◌, Option, Some, None, Bool, true, false, ℤ, refl, sym, ap, subst, ◌∙◌, append_assoc}
use Rattle.std.proofs.lemmas.Option.{same_Some}
use Rattle.ckpt_types.specs.declared.answers.Outcome.{Outcome}
use Rattle.ckpt_types.specs.declared.attributes.CreationAttributes.{CreationAttributes}
use Rattle.ckpt_types.specs.declared.identities.CallId.{CallId}
use Rattle.ckpt_types.specs.declared.operation.Op.TheVariants as ops
use Rattle.ckpt_types.specs.declared.update.Update.{Update}
use Rattle.ckpt_types.specs.declared.words.OpWord.{OpWord}
use Rattle.ckpt_types.specs.Asks.{Ask, asked, update_of}
use Rattle.ckpt_types.specs.Asks as asks
use Rattle.node_msgs.specs.declared.details.Details.{Details}
use Rattle.node_msgs.specs.declared.steps.StepReply.{StepReply}
use Rattle.node_msgs.specs.declared.steps.Verb.{Verb}
use Rattle.run_labels.specs.declared.labels.Label.{Label}
use Rattle.run_labels.specs.declared.labels.Label.TheVariants as labels
use Rattle.cluster_record.specs.Calls.{IsClient, client_of}
use Rattle.cluster_record.specs.declared.entries.Entry.{Entry}
use Rattle.cluster_record.specs.DueUpdate.{UpdateState}
use Rattle.cluster_record.specs.Placement.{is_all}
use Rattle.cluster_record.specs.Places.{find_key}
use Rattle.cluster_record.specs.RecordState.{client_key, is_live}
use Rattle.ckpt_machine.specs.After.{after, committed_slot, slot_claimed, staged_moment, step_of, with_lead}
use Rattle.ckpt_machine.specs.Dead.{IsDead}
use Rattle.ckpt_machine.specs.Drivers.{update_in}
use Rattle.ckpt_machine.specs.Due.{IsDue, driver_of}
use Rattle.ckpt_machine.specs.Guards.{Allowed, Row}
use Rattle.ckpt_machine.specs.InHand.{IsCopyIn, IsInPlace, IsUpdateAsk, IsUpdateIn}
use Rattle.ckpt_machine.specs.Invariant.{Invariant}
use Rattle.ckpt_machine.specs.LastStep.{IsLastStep}
use Rattle.ckpt_machine.specs.Machine.{Machine, Staged, ReplicaState, Snapshot, CallState, who}
use Rattle.ckpt_machine.specs.Owners.{HasBegunIn}
use Rattle.ckpt_machine.specs.Runs.{last, IsRun}
use Rattle.ckpt_machine.specs.Shape.{Shape}
use Rattle.ckpt_machine.specs.WasAsked.{WasAsked}
use Rattle.ckpt_machine.proofs.Askers.{IsCopyAsk, client_asks}
use Rattle.ckpt_machine.proofs.BegunBefore.{AllBegan, began_more, each_began}
use Rattle.ckpt_machine.proofs.Dropped.{held_as}
use Rattle.ckpt_machine.proofs.EachKept.{IsStagedLike, having_copied}
use Rattle.ckpt_machine.proofs.EachReplica.{IsKeptWhen, after_each, run_copies, run_each}
use Rattle.ckpt_machine.proofs.EndedCalls.{IsOver, over_after, ended_over}
use Rattle.ckpt_machine.proofs.EndedTables.{live_as}
use Rattle.ckpt_machine.proofs.GoodArguments.{good_arguments}
use Rattle.ckpt_machine.proofs.Histories.{HasHistory, IsUpdater, run_history, slot_calls}
use Rattle.ckpt_machine.proofs.Lives.{asks_enter, held_not_dead, state_enters}
use Rattle.ckpt_machine.proofs.OneReplica.{StepsWhen}
use Rattle.ckpt_machine.proofs.Runs.{along, last-push, run_before, run_front}
use Rattle.ckpt_machine.proofs.SameClients.{awaits_change, client_stays}
use Rattle.ckpt_machine.proofs.SameNodes.{HasSameNodes, nodes_stay}
use Rattle.ckpt_machine.proofs.UpdateIn.{does_update}
use Rattle.ckpt_machine.proofs.Whose.{one_call}

-- ---- what is so of the calls of each slot

-- of the owner of the replica's slot, and of the call whose update is staged
abbrev OfItsCalls : (CallId → Type 0) → ReplicaState → Type 0
OfItsCalls P x = (slot : Staged) → x.slot ≡ Some slot → P slot.owner × P slot.origin

abbrev OfSlots : (CallId → Type 0) → Machine → Type 0
OfSlots P m = (k r : ℕ) (x : ReplicaState) → m.replicas k r ≡ Some x → OfItsCalls P x

claimed_of : (P : CallId → Type 0) (call : CallId) (o : Option Staged) → P call → ((slot : Staged) → o ≡ Some slot → P slot.owner × P slot.origin) → (slot : Staged) → slot_claimed call o ≡ Some slot → P slot.owner × P slot.origin
claimed_of P call None new was slot is = absurd (cc is)
claimed_of P call (Some old) new was slot is = subst (λ (z : Staged). P z.owner × P z.origin) (same_Some (record old { owner = call }) slot is) (new, (was old refl).1)

committed_of : (P : CallId → Type 0) (a : CreationAttributes) (x : ReplicaState) → OfItsCalls P x → OfItsCalls P (committed_slot a x x.slot)
committed_of P a x was = by_slot x.slot refl
  where
    by_slot : (o : Option Staged) → x.slot ≡ o → OfItsCalls P (committed_slot a x o)
    by_slot None is = was
    by_slot (Some slot) is = λ other none. absurd (cc none)

led_of : (P : CallId → Type 0) (o : Option Snapshot) (g : ℕ) (x : ReplicaState) → OfItsCalls P x → OfItsCalls P (with_lead o g x)
led_of P None g x was = was
led_of P (Some s) g x was = was

-- one that a copying has brought to its node has the slot of another
copied_of : (P : CallId → Type 0) (e f : Entry) (call : CallId) (t : ℤ) (s : Snapshot) (all : Bool) → IsStagedLike (λ o r x. OfItsCalls P x) e call t s all → OfItsCalls P (having_copied call t f s all)
copied_of P e f call t s false like = λ slot none. absurd (cc none)
copied_of P e f call t s true (q, y, was, slot, effects) = λ z is. was z (slot ∙ is)

-- it is kept, where it is so of each call that takes a step of an update
kept_of : (P : CallId → Type 0) (When : Machine → Type 0) (log : List Label) → ((m : Machine) (s : CallState) (verb : Verb) (k r : ℕ) (x : ReplicaState) → StepsWhen When log m s verb k r x → P s.call) → IsKeptWhen (λ o r x. OfItsCalls P x) (λ e s. Unit {0}) When log
kept_of P When log new = record {
  opened = λ e r slot none. absurd (cc none);
  stays = λ e f r x same stays made was. was;
  stays_copied = λ e f s same stays made is. tt;
  led = λ e f r o x same goes made free none copied was. led_of P o f.generation x was;
  pulled = λ e r x none is. tt;
  put = λ e r s x present free none copied was. was;
  completed = λ e f r call t s same goes made copied like. copied_of P e f call t s (is_all f.attributes) like;
  staged = λ m s k r x step was slot is. (
      let staged : Staged = record { owner = s.call; origin = s.call; update = update_of s.op; moment = staged_moment m k } in
      let own = new m s _ k r x step in
      subst (λ (z : Staged). P z.owner × P z.origin) (same_Some staged slot is) (own, own));
  claimed = λ m s k r x step was. claimed_of P s.call x.slot (new m s _ k r x step) was;
  withdrawn = λ m s k r x step was slot none. absurd (cc none);
  committed = λ m s k r x e step all was. committed_of P e.attributes x was;
  applied = λ m s k r x e step active none was. was;
  marked = λ m s k r x e step active can was. was;
  element = λ m s k r x e marks step active stand was. was;
  unmarked = λ m s k r x e marks step active stand was. was;
  broken_off = λ e r x marks stand free none abandoned was. was;
}

-- ---- the calls of slots have begun

-- who was asked for an update, or was copying, has begun
asked_begun : (log : List Label) (k : ℕ) (call : CallId) (update : Update) → WasAsked log k call update → HasBegunIn log call
asked_begun log k call update (inl asked) = record { op = asked.op; ckpt = Some k; begun = asked.begun }
asked_begun log k call update (inr copying) = record { op = ops.Copy; ckpt = None; begun = copying.begun }

pub slots_begun : (log : List Label) → IsRun log → (k r : ℕ) (x : ReplicaState) (slot : Staged) → (last log).replicas k r ≡ Some x → x.slot ≡ Some slot → HasBegunIn log slot.owner × HasBegunIn log slot.origin
slots_begun log run k r x slot there staged =
    (run_each (λ o r x. OfItsCalls (HasBegunIn log) x) (λ e s. Unit {0}) log (kept_of (HasBegunIn log) (λ m. Unit {0}) log (λ m s verb k r x step. asked_begun log k s.call (update_of s.op) step.asked)) run).replica k r x there slot staged

-- ---- a call without a slot

-- the call owns none
abbrev OwnsNoSlot : CallId → Machine → Type 0
OwnsNoSlot c m = OfSlots (λ d. d ≢ c) m

-- it is not in hand as an update, or as a copying
abbrev IsNoUpdate : CallId → Machine → Type 0
IsNoUpdate c m = (s : CallState) → m.in_hand (who s) ≡ Some s → s.call ≡ c → IsUpdateAsk (asked s.op) → ⊥

-- so it gets none
free_after : (front : List Label) (l : Label) → IsRun front → Allowed (last front) l → IsDue (last front) l → (c : CallId) → IsNoUpdate c (last front) → OwnsNoSlot c (last front) → OwnsNoSlot c (after (last front) l)
free_after front l before allowed due c none free =
    let (inv, history) = run_history front before in
    let copies = run_copies front before in
    let log : List Label = front ++ l ∷ [] in
    let began : AllBegan log (last front) = λ s held. began_more front (l ∷ []) s.call s.op s.kept.ckpt (each_began front before s held) in
    (after_each (λ o r x. OfItsCalls (λ d. d ≢ c) x) (λ e s. Unit {0}) (IsNoUpdate c) log (kept_of (λ d. d ≢ c) (IsNoUpdate c) log (λ m s verb k r x step same. step.when s step.held same step.asks)) (last front) none began
    (record { front = front; rest = l ∷ []; log_is = refl; state_is = refl }) inv history (good_arguments front before)
    (record { replica = λ k r x there. free k r x there; snapshot = copies.snapshot; in_hand = copies.in_hand; ahead = copies.ahead }) l ([], refl) allowed due).replica

-- ---- a call that has ended

-- it is over, and has no slot
pub record IsThrough (c : CallId) (m : Machine) : Type 0 where
  pub over : IsOver c m
  pub free : OwnsNoSlot c m

through_after : (front : List Label) (l : Label) → IsRun front → Allowed (last front) l → IsDue (last front) l → (c : CallId) → IsThrough c (last front) → IsThrough c (after (last front) l)
through_after front l before allowed due c through =
    let (inv, history) = run_history front before in
    record {
      over = over_after (last front) l inv history allowed due c through.over;
      free = free_after front l before allowed due c (λ s held same word. through.over.none (who s) s held same) through.free;
    }

-- what asks for an update, or for a copying, which does some
abbrev is_update : Ask → Bool
is_update (asks.Change place update) = true
is_update asks.Copy = true
is_update ask = false

asks_update : (ask : Ask) → IsUpdateAsk ask → is_update ask ≡ true
asks_update (asks.Change place update) is = refl
asks_update asks.Copy is = refl
asks_update ask none = absurd none

-- such a call enters nothing
update_stays : (ask : Ask) → is_update ask ≡ true → asks_enter ask ≡ false
update_stays (asks.Change place update) is = refl
update_stays asks.Copy is = refl
update_stays ask is = absurd (cc is)

-- which of both it is
change_or_copy : (ask : Ask) → is_update ask ≡ true → ((place : ℕ) × (update : Update) × (ask ≡ asks.Change place update)) ⊎ (ask ≡ asks.Copy)
change_or_copy (asks.Change place update) is = inl (place, update, refl)
change_or_copy asks.Copy is = inr refl
change_or_copy ask is = absurd (cc is)

-- a call that does an update asks for one
doer_asks : (m : Machine) (shapes : ℕ → Shape) (s : CallState) (u : UpdateState) → IsInPlace m shapes s (driver_of s) → update_in (driver_of s) ≡ Some u → is_update (asked s.op) ≡ true
doer_asks m shapes s u here does = elim (does_update (driver_of s) u does) [
  | inl is ↦ (let at : IsUpdateIn m shapes s u = subst (IsInPlace m shapes s) is here in asks_update (asked s.op) at.asks)
  | inr (c, is, staging) ↦ (let at : IsCopyIn m shapes s c = subst (IsInPlace m shapes s) is here in ap is_update at.asks)
]

module _ (front : List Label) (call : CallId) (op : OpWord) (verb : Verb) (k r : Option ℕ) (reply : StepReply) (end : Outcome) (details : Details) (run : IsRun (front ++ labels.Stepped call op verb k r reply (Some end) details ∷ [])) where
  abbrev l : Label
  l = labels.Stepped call op verb k r reply (Some end) details

  abbrev m : Machine
  m = last front

  abbrev n : Machine
  n = last (front ++ l ∷ [])

  before : IsRun front
  before = (run_before _ front l run).0

  abbrev due : IsDue m l
  due = (run_before _ front l run).2

  allowed : Allowed m l
  allowed = (run_before _ front l run).1

  inv : Invariant m
  inv = (run_history front before).0

  history : HasHistory m
  history = (run_history front before).1

  abbrev s : CallState
  s = due.state

  held : m.in_hand (who s) ≡ Some s
  held = held_as m call op s due.in_hand due.call_is due.word

  -- it is in hand as this alone
  as_s : (z : CallState) → m.in_hand (who z) ≡ Some z → z.call ≡ call → z ≡ s
  as_s z at same = one_call m.in_hand m.pending m.next inv.holds.calls (who z) (who s) z s at held (same ∙ sym due.call_is)

  over : IsOver call n
  over = ended_over front l run call refl

  -- one that asks for no update has no slot, and gets none
  no_update : is_update (asked s.op) ≡ false → OwnsNoSlot call n
  no_update other = subst (OwnsNoSlot call) (sym (last-push front l)) (free_after front l before allowed due call none free)
    where
      none : IsNoUpdate call m
      none z at same it = let w : true ≡ false = sym (asks_update (asked z.op) it) ∙ ap (λ (z : CallState). is_update (asked z.op)) (as_s z at same) ∙ other in cc w

      apart : (d : CallId) → IsUpdater m d ⊎ IsDead m d → d ≢ call
      apart d (inl by) same =
          let asks_it = doer_asks m inv.shapes by.state by.driver (inv.holds.hands (who by.state) by.state by.in_hand).here by.driver_is in
          let w : true ≡ false = sym asks_it ∙ ap (λ (z : CallState). is_update (asked z.op)) (as_s by.state by.in_hand (by.call_is ∙ same)) ∙ other in cc w
      apart d (inr dead) same = held_not_dead m inv.shapes inv.holds s held (subst (IsDead m) (same ∙ sym due.call_is) dead)

      free : OwnsNoSlot call m
      free j q x there slot staged =
          let (owner, origin) = slot_calls m inv.shapes inv.holds history.bare j q x slot there staged in
          (apart slot.owner owner, apart slot.origin origin)

  -- of one that does the client, or the node, is still live behind its last step, so it is neither in hand nor dead
  an_update : is_update (asked s.op) ≡ true → OwnsNoSlot call n
  an_update is = free
    where
      live : is_live m.cluster s.call ≡ true
      live = (inv.holds.hands (who s) s held).live (state_enters s (inv.holds.hands (who s) s held).driven ∙ update_stays (asked s.op) is)

      row : Row m s verb (record { verb = verb; ckpt = k; node = r; reply = reply; end = Some end; details = details })
      row = let state : allowed.state ≡ s = same_Some allowed.state s (sym allowed.in_hand ∙ due.in_hand) in subst (λ z. Row m z verb (record { verb = verb; ckpt = k; node = r; reply = reply; end = Some end; details = details })) state allowed.row

      -- a client's call is no copying
      same_client : IsClient s.call.actor → find_key client_key (client_of s.call) (after m l).cluster.clients ≡ find_key client_key (client_of s.call) m.cluster.clients
      same_client client = elim (change_or_copy (asked s.op) is) [
        | inl (place, update, asks_is) ↦ (
            ap (λ o. find_key client_key (client_of s.call) (step_of m o verb k r reply (Some end)).cluster.clients) due.in_hand
            ∙ client_stays m inv s held s held (asks.Change place update) asks_is (awaits_change place update) (Some end) details verb k r reply row)
        | inr copies ↦ absurd (client_asks s.call.actor (asked s.op) (inv.holds.hands (who s) s held).asker client (subst IsCopyAsk (sym copies) tt))
      ]

      same_nodes : HasSameNodes m.cluster (after m l).cluster
      same_nodes = subst (λ o. HasSameNodes m.cluster (step_of m o verb k r reply (Some end)).cluster) (sym due.in_hand) (let it = nodes_stay m s verb k r reply in record { up = it.up; first_calls = it.first_calls })

      live_then : is_live n.cluster call ≡ true
      live_then =
          ap (λ (n : Machine). is_live n.cluster call) (last-push front l)
          ∙ ap (is_live (after m l).cluster) (sym due.call_is)
          ∙ live_as m.cluster (after m l).cluster s.call (asked s.op) (inv.holds.hands (who s) s held).asker same_client same_nodes.up same_nodes.first_calls
          ∙ live

      apart : (d : CallId) → IsUpdater n d ⊎ IsDead n d → d ≢ call
      apart d (inl by) same = over.none (who by.state) by.state by.in_hand (by.call_is ∙ same)
      apart d (inr dead) same = let w : true ≡ false = sym live_then ∙ ap (is_live n.cluster) (sym same) ∙ dead.gone in cc w

      free : OwnsNoSlot call n
      free j q x there slot staged =
          let (inv_n, history_n) = run_history (front ++ l ∷ []) run in
          let (owner, origin) = slot_calls n inv_n.shapes inv_n.holds history_n.bare j q x slot there staged in
          (apart slot.owner owner, apart slot.origin origin)

  through_by : IsThrough call n
  through_by = record { over = over; free = by_ask (is_update (asked s.op)) refl }
    where
      by_ask : (b : Bool) → is_update (asked s.op) ≡ b → OwnsNoSlot call n
      by_ask true is = an_update is
      by_ask false is = no_update is

-- so it is right behind the last step of the call
ended_through : (front : List Label) (l : Label) → IsRun (front ++ l ∷ []) → (c : CallId) → IsLastStep l c → IsThrough c (last (front ++ l ∷ []))
ended_through front (labels.Stepped call op verb k r reply (Some end) details) run c same =
    subst (λ c. IsThrough c (last (front ++ labels.Stepped call op verb k r reply (Some end) details ∷ []))) same (through_by front call op verb k r reply end details run)
ended_through front l run c is = absurd is

-- THE LAW: and at every time from then on
pub through_then : (log : List Label) → IsRun log → (before behind : List Label) (l : Label) → log ≡ before ++ l ∷ behind → (c : CallId) → IsLastStep l c → IsThrough c (last log)
through_then log run before behind l is c ends =
    let log_is : log ≡ (before ++ l ∷ []) ++ behind = is ∙ sym (append_assoc before (l ∷ []) behind) in
    let first = ended_through before l (run_front log (before ++ l ∷ []) behind log_is run) c ends in
    subst (λ log. IsThrough c (last log)) (sym log_is) (along (λ log m. IsThrough c m) (λ front l there allowed due through. through_after front l there allowed due c through) (before ++ l ∷ []) behind (subst IsRun log_is run) first)
