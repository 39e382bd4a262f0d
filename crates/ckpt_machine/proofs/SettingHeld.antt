-- What is so of the setting of an active that is in hand: its client is on the node that it keeps, and what it has in its hand the active had when it held the checkpoint.
use Rattle.std.proofs.Common.{◌≡◌, ℕ, ◌<◌, inl, inr, List, [], ◌∷◌, ◌++◌, Option, Some, None, true, false, refl, sym, ap, subst, ◌∙◌, append_assoc, arith}
use Rattle.std.specs.Option.{option_map}
use Rattle.std.proofs.lemmas.Option.{same_Some}
use Rattle.ckpt_types.specs.declared.answers.Outcome.{Outcome}
use Rattle.ckpt_types.specs.declared.identities.CallId.{CallId}
use Rattle.ckpt_types.specs.declared.operation.Op.{Op}
use Rattle.ckpt_types.specs.declared.words.OpWord.{OpWord}
use Rattle.ckpt_types.specs.Asks.{Ask, MayAsk, asked}
use Rattle.ckpt_types.specs.Asks as asks
use Rattle.ckpt_types.specs.OpWord.{stepped_as, word_of_op}
use Rattle.node_msgs.specs.declared.details.Details.{Details}
use Rattle.node_msgs.specs.declared.steps.StepReply.{StepReply}
use Rattle.node_msgs.specs.declared.steps.StepReply.TheVariants as words
use Rattle.node_msgs.specs.declared.steps.Verb.{Verb}
use Rattle.node_msgs.specs.declared.steps.Verb.TheVariants as verbs
use Rattle.run_labels.specs.declared.labels.Label.{Label}
use Rattle.run_labels.specs.declared.labels.Label.TheVariants as labels
use Rattle.cluster_record.specs.Calls.{IsClient, client_of, left}
use Rattle.cluster_record.specs.Places.{find_key}
use Rattle.cluster_record.specs.RecordState.{RecordState, entry_of, client_key, home_of, node_of_client}
use Rattle.ckpt_machine.specs.ActivesSet.{IsHoldOf, WasActiveWith, HasHeld}
use Rattle.ckpt_machine.specs.Driving.{Kept}
use Rattle.ckpt_machine.specs.Guards.{IsOnOwn, Row, Allowed}
use Rattle.ckpt_machine.specs.ActiveGuards.{HoldOk, MayLead}
use Rattle.ckpt_machine.specs.Invariant.{Invariant}
use Rattle.ckpt_machine.specs.Machine.{Machine, Effect, Snapshot, CallState, who}
use Rattle.ckpt_machine.specs.Propagation.{copied}
use Rattle.ckpt_machine.specs.Runs.{last, IsRun}
use Rattle.ckpt_machine.specs.After.{call_begun, changed, kept_by, pulled_by, kept_behind, step_of, after}
use Rattle.ckpt_machine.specs.Due.{Told, IsDue}
use Rattle.ckpt_machine.specs.Whose.{same_who}
use Rattle.ckpt_machine.proofs.Askers.{IsCopyAsk, asker_client, client_home, kept_still}
use Rattle.ckpt_machine.proofs.BegunOnce.{step_below}
use Rattle.ckpt_machine.proofs.Quiet.{quiet}
use Rattle.ckpt_machine.proofs.Dropped.{held_as}
use Rattle.ckpt_machine.proofs.HeldIn.{IsHeldIn, held_in}
use Rattle.ckpt_machine.proofs.Histories.{follows, on_replica-there, run_history}
use Rattle.ckpt_machine.proofs.OptionLemmas.{IsSomeAnd-from}
use Rattle.ckpt_machine.proofs.Refusing.{at_node}
use Rattle.ckpt_machine.proofs.Runs.{last_or, along}
use Rattle.ckpt_machine.proofs.SameClients.{client_stays, awaits_setting}
use Rattle.ckpt_machine.proofs.Starting.{first_kept, begun_as}
use Rattle.ckpt_machine.proofs.Sync.{left_is}
use Rattle.ckpt_machine.proofs.Whose.{same_who-refl, put_who-cases}

-- ---- what is so of one in hand

-- this is in its hand, of the checkpoint that it keeps, and the active had these effects
pub record HeldInHand (before : List Label) (k r : ℕ) (kept : Kept) (snapshot : Option Snapshot) : Type 0 where
  pub ckpt : kept.ckpt ≡ Some k
  pub copy : Snapshot
  pub in_hand : snapshot ≡ Some copy
  pub active : WasActiveWith (last before) k r copy.effects

-- its client is on the node that it keeps; whenever it held a checkpoint, it has in its hand what the active had then; and it has nothing else
pub record IsSettingOf (log : List Label) (R : RecordState) (call : CallId) (kept : Kept) (snapshot : Option Snapshot) : Type 0 where
  pub home : kept.node ≡ home_of (client_of call) R
  pub all : (before behind : List Label) (hold : Label) (k r : ℕ) → log ≡ before ++ hold ∷ behind → IsHoldOf hold call k r → HeldInHand before k r kept snapshot
  pub some : (k : ℕ) (copy : Snapshot) → kept.ckpt ≡ Some k → snapshot ≡ Some copy → HasHeld log call k copy.effects

abbrev pub AllSetting : List Label → Machine → Type 0
AllSetting log m = (z : CallState) → m.in_hand (who z) ≡ Some z → (place : ℕ) → asked z.op ≡ asks.SetActive place → IsSettingOf log m.cluster z.call z.kept z.snapshot

-- what was held in a log was so in a longer one
held_longer : (log : List Label) (l : Label) (call : CallId) (k : ℕ) (effects : List Effect) → HasHeld log call k effects → HasHeld (log ++ l ∷ []) call k effects
held_longer log l call k effects has = record {
  before = has.before;
  behind = has.behind ++ l ∷ [];
  hold = has.hold;
  node = has.node;
  log_is = ap (λ (xs : List Label). xs ++ l ∷ []) has.log_is ∙ append_assoc has.before (has.hold ∷ has.behind) (l ∷ []);
  hold_is = has.hold_is;
  held = has.held;
}

-- behind a label that is no hold of the call, and leaves its client as it was
longer : (log : List Label) (l : Label) (R S : RecordState) (call : CallId) (kept : Kept) (snapshot : Option Snapshot) → ((k r : ℕ) → IsHoldOf l call k r → ⊥) → find_key client_key (client_of call) S.clients ≡ find_key client_key (client_of call) R.clients → IsSettingOf log R call kept snapshot → IsSettingOf (log ++ l ∷ []) S call kept snapshot
longer log l R S call kept snapshot no_hold same was = record {
  home = was.home ∙ ap node_of_client (sym same);
  all = λ before behind hold k r is of. elim (last_or log l before hold behind is) [
    | inl here ↦ absurd (no_hold k r (subst (λ (l : Label). IsHoldOf l call k r) (sym here.1) of))
    | inr there ↦ was.all before there.0 hold k r there.1 of
  ];
  some = λ k copy ckpt has. held_longer log l call k copy.effects (was.some k copy ckpt has);
}

-- a call that has held a checkpoint in a run has a number below the next
hold_below : (log : List Label) → IsRun log → (before behind : List Label) (hold : Label) (call : CallId) (k r : ℕ) → log ≡ before ++ hold ∷ behind → IsHoldOf hold call k r → call.number < (last log).next call.actor
hold_below log run before behind (labels.Stepped d word verbs.Hold (Some j) (Some q) words.Ok end details) call k r is of = step_below log run before behind d word verbs.Hold (Some j) (Some q) words.Ok end details call is of.0
hold_below log run before behind l call k r is of = absurd of

-- a hold is a step of its call
hold_of : (d : CallId) (word : OpWord) (verb : Verb) (j q : Option ℕ) (reply : StepReply) (end : Option Outcome) (details : Details) (call : CallId) (k r : ℕ) → IsHoldOf (labels.Stepped d word verb j q reply end details) call k r → d ≡ call
hold_of d word verbs.Hold (Some j) (Some q) words.Ok end details call k r of = of.0
hold_of d word verb j q reply end details call k r of = absurd of

-- one that begins has held nothing
begins_setting : (log : List Label) → IsRun log → (call : CallId) (op : Op) (end : Option Outcome) (details : Details) (z : CallState) → call.number ≡ (last log).next call.actor → MayAsk call.actor (asked op) → call_begun end call op (first_kept (last log) call op) ≡ Some z → (place : ℕ) → asked z.op ≡ asks.SetActive place → IsSettingOf (log ++ labels.Began call op end details ∷ []) (last log).cluster z.call z.kept z.snapshot
begins_setting log run call op end details z number asker is place asks_is =
    let (d, driven, same) = begun_as end call op (first_kept (last log) call op) z is in
    let its : asked op ≡ asks.SetActive place = ap (λ (z : CallState). asked z.op) same ∙ asks_is in
    let client : IsClient call.actor = asker_client call.actor (asked op) asker (subst IsCopyAsk its) in
    subst (λ (z : CallState). IsSettingOf (log ++ labels.Began call op end details ∷ []) (last log).cluster z.call z.kept z.snapshot) same (record {
      home = client_home (last log).cluster call.actor client;
      all = λ before behind hold k r is of. elim (last_or log (labels.Began call op end details) before hold behind is) [
        | inl here ↦ absurd (subst (λ (l : Label). IsHoldOf l call k r) (sym here.1) of)
        | inr there ↦ (let below = hold_below log run before there.0 hold call k r there.1 of in absurd (omega (arith, below, number)))
      ];
      some = λ k copy ckpt has. absurd (cc has);
    })

-- ---- its own step

module _ (log : List Label) (inv : Invariant (last log)) (s : CallState) (held : (last log).in_hand (who s) ≡ Some s) (place : ℕ) (asks_is : asked s.op ≡ asks.SetActive place) (was : IsSettingOf log (last log).cluster s.call s.kept s.snapshot) (d : CallId) (call_is : s.call ≡ d) (word : OpWord) (end : Option Outcome) (details : Details) where
  abbrev m : Machine
  m = last log

  abbrev l_of : Verb → Option ℕ → Option ℕ → StepReply → Label
  l_of verb j q reply = labels.Stepped d word verb j q reply end details

  abbrev t_of : Verb → Option ℕ → Option ℕ → StepReply → Told
  t_of verb j q reply = record { verb = verb; ckpt = j; node = q; reply = reply; end = end; details = details }

  -- what it keeps behind the step
  abbrev SetsBy : Verb → Option ℕ → Option ℕ → StepReply → Type 0
  SetsBy verb j q reply = IsSettingOf (log ++ l_of verb j q reply ∷ []) (changed m s verb j q reply).cluster s.call s.kept (pulled_by m s verb j q reply)

  stays_by : (verb : Verb) (j q : Option ℕ) (reply : StepReply) → Row m s verb (t_of verb j q reply) → ((k r : ℕ) → IsHoldOf (l_of verb j q reply) s.call k r → ⊥) → pulled_by m s verb j q reply ≡ s.snapshot → SetsBy verb j q reply
  stays_by verb j q reply row no_hold same = subst (IsSettingOf (log ++ l_of verb j q reply ∷ []) (changed m s verb j q reply).cluster s.call s.kept) (sym same)
      (longer log (l_of verb j q reply) m.cluster (changed m s verb j q reply).cluster s.call s.kept s.snapshot no_hold (client_stays m inv s held s held (asks.SetActive place) asks_is (awaits_setting place) end details verb j q reply row) was)

  -- it holds its checkpoint, which it did not before, and has in its hand what the active has
  holds_by : (j q : ℕ) → Some j ≡ s.kept.ckpt → Row m s verbs.Hold (t_of verbs.Hold (Some j) (Some q) words.Ok) → SetsBy verbs.Hold (Some j) (Some q) words.Ok
  holds_by j q own row =
      let (e, x, found, there, ok) = on_replica-there m j q (HoldOk s q end) row.0.2 in
      let may : MayLead s.call q e.hold e.active = subst (λ o. MayLead s.call q o e.active) (sym ok.free) (subst (MayLead s.call q None) (sym ok.active) refl) in
      let empty : s.snapshot ≡ None = subst (IsHeldIn m j s e) ok.free (held_in m inv s held place asks_is j q (sym own) e found may) in
      let copy : option_map copied (m.replicas j q) ≡ Some (copied x) = ap (option_map copied) there in
      let active : WasActiveWith m j q (copied x).effects = record { active = IsSomeAnd-from (entry_of j m.cluster.entries) (λ e. e.active ≡ Some q) e found ok.active; replica = x; there = there; effects_are = refl } in
      let here : HeldInHand log j q s.kept (option_map copied (m.replicas j q)) = record { ckpt = sym own; copy = copied x; in_hand = copy; active = active } in
      record {
        home = was.home ∙ ap node_of_client (sym (client_stays m inv s held s held (asks.SetActive place) asks_is (awaits_setting place) end details verbs.Hold (Some j) (Some q) words.Ok row));
        all = λ before behind hold k r is of. elim (last_or log (l_of verbs.Hold (Some j) (Some q) words.Ok) before hold behind is) [
          | inl last_is ↦ (
              let own_of : IsHoldOf (l_of verbs.Hold (Some j) (Some q) words.Ok) s.call k r = subst (λ (l : Label). IsHoldOf l s.call k r) (sym last_is.1) of in
              subst (λ (before : List Label). HeldInHand before k r s.kept (option_map copied (m.replicas j q))) last_is.0
              (subst (λ r. HeldInHand log k r s.kept (option_map copied (m.replicas j q))) own_of.2 (subst (λ k. HeldInHand log k q s.kept (option_map copied (m.replicas j q))) own_of.1 here)))
          | inr earlier ↦ (
              let has = was.all before earlier.0 hold k r earlier.1 of in
              absurd (let w : None ≡ Some has.copy = sym empty ∙ has.in_hand in cc w))
        ];
        some = λ k z ckpt has.
            let same : copied x ≡ z = same_Some (copied x) z (sym copy ∙ has) in
            subst (λ (z : Snapshot). HasHeld (log ++ l_of verbs.Hold (Some j) (Some q) words.Ok ∷ []) s.call k z.effects) same
            (subst (λ k. HasHeld (log ++ l_of verbs.Hold (Some j) (Some q) words.Ok ∷ []) s.call k (copied x).effects) (same_Some j k (own ∙ ckpt))
            (record { before = log; behind = []; hold = l_of verbs.Hold (Some j) (Some q) words.Ok; node = q; log_is = refl; hold_is = (sym call_is, refl, refl); held = active }));
      }

  -- it asks for nothing else
  no_ask : (ask : Ask) → asked s.op ≡ ask → (asks.SetActive place ≡ ask → ⊥) → ⊥
  no_ask ask is other = other (sym asks_is ∙ is)

  sets_by : (verb : Verb) (j q : Option ℕ) (reply : StepReply) → IsOnOwn verb j s.kept.ckpt → Row m s verb (t_of verb j q reply) → SetsBy verb j q reply
  sets_by verbs.Hold (Some j) (Some q) words.Ok own row = holds_by j q own row
  sets_by verbs.Pull j q reply own row = absurd (at_node j q _ row.0 (λ k r p. elim p [ inl sync ↦ no_ask _ sync.2 (λ w. cc w) | inr copy ↦ no_ask _ copy.0 (λ w. cc w) ]))
  sets_by verbs.Reserve j q reply own row = absurd (at_node j q _ row.0 (λ k r p. elim p [ inl making ↦ no_ask _ making.2.asks (λ w. cc w) | inr copy ↦ no_ask _ copy.0 (λ w. cc w) ]))
  sets_by verb j q reply own row = stays_by verb j q reply row (λ k r of. of) refl

-- ---- in every state of a run

module _ (log : List Label) (run : IsRun log) (all : AllSetting log (last log)) where
  -- a label of no call
  other_setting : (l : Label) (R : RecordState) (z : CallState) → (last log).in_hand (who z) ≡ Some z → (place : ℕ) → asked z.op ≡ asks.SetActive place → find_key client_key (client_of z.call) R.clients ≡ find_key client_key (client_of z.call) (last log).cluster.clients → ((k r : ℕ) → IsHoldOf l z.call k r → ⊥) → IsSettingOf (log ++ l ∷ []) R z.call z.kept z.snapshot
  other_setting l R z held place is same no_hold = longer log l (last log).cluster R z.call z.kept z.snapshot no_hold same (all z held place is)

  after_setting : (l : Label) → Allowed (last log) l → IsDue (last log) l → AllSetting (log ++ l ∷ []) (after (last log) l)
  after_setting (labels.Began call op end details) allowed due z held place is =
      elim (put_who-cases (last log).in_hand (stepped_as call (word_of_op op)) (call_begun end call op (first_kept (last log) call op)) (who z) z held) [
        | inl own ↦ begins_setting log run call op end details z due.number due.asker own.1 place is
        | inr other ↦ other_setting (labels.Began call op end details) (last log).cluster z other.1 place is refl (λ k r of. of)
      ]
  after_setting (labels.Stepped call op verb j q reply end details) allowed due z in_hand place is =
      let l : Label = labels.Stepped call op verb j q reply end details in
      let t : Told = record { verb = verb; ckpt = j; node = q; reply = reply; end = end; details = details } in
      let s = due.state in
      let held : (last log).in_hand (who s) ≡ Some s = held_as (last log) call op s due.in_hand due.call_is due.word in
      let same : allowed.state ≡ s = same_Some allowed.state s (sym allowed.in_hand ∙ due.in_hand) in
      let row : Row (last log) s verb t = subst (λ z. Row (last log) z verb t) same allowed.row in
      let own : IsOnOwn verb j s.kept.ckpt = subst (λ (z : CallState). IsOnOwn verb j z.kept.ckpt) same allowed.own in
      let (inv, history) = run_history log run in
      let n : Machine = changed (last log) s verb j q reply in
      let behind : CallState = kept_behind (last log) s n.cluster verb j q reply in
      let there = subst (λ o. (step_of (last log) o verb j q reply end).in_hand (who z) ≡ Some z) due.in_hand in_hand in
      subst (λ o. IsSettingOf (log ++ l ∷ []) (step_of (last log) o verb j q reply end).cluster z.call z.kept z.snapshot) (sym due.in_hand) (elim (put_who-cases n.in_hand (who s) (left end behind) (who z) z there) [
        | inl here ↦ (
            let it : behind ≡ z = left_is end behind z here.1 in
            let asks_own : asked s.op ≡ asks.SetActive place = ap (λ (z : CallState). asked z.op) it ∙ is in
            let kept_is : kept_by (last log) s verb j reply ≡ s.kept = kept_still (last log) s verb j reply (subst IsCopyAsk asks_own) in
            subst (λ (z : CallState). IsSettingOf (log ++ l ∷ []) n.cluster z.call z.kept z.snapshot) it
            (subst (λ kept. IsSettingOf (log ++ l ∷ []) n.cluster s.call kept (pulled_by (last log) s verb j q reply)) (sym kept_is)
            (sets_by log inv s held place asks_own (all s held place asks_own) call due.call_is op end details verb j q reply own row)))
        | inr other ↦ (
            let was : (last log).in_hand (who z) ≡ Some z = (follows (last log) inv history s held t row).in_hand (who z) z other.1 in
            let no_hold : (k r : ℕ) → IsHoldOf l z.call k r → ⊥ = λ k r of.
            let name : who z ≡ who s = inv.holds.calls.one_name (who z) (who s) z s was held (sym (hold_of call op verb j q reply end details z.call k r of) ∙ sym due.call_is) in
            let w : true ≡ false = sym (ap (λ w. same_who w (who s)) name ∙ same_who-refl (who s)) ∙ other.0 in
            cc w in
            longer log l (last log).cluster n.cluster z.call z.kept z.snapshot no_hold (client_stays (last log) inv s held z was (asks.SetActive place) is (awaits_setting place) end details verb j q reply row) (all z was place is))
      ])
  after_setting l allowed due z held place is =
      let inv = (run_history log run).0 in
      let still = quiet (last log) inv l tt due in
      let was : (last log).in_hand (who z) ≡ Some z = still.held (who z) z held in
      let client : IsClient z.call.actor = asker_client z.call.actor (asked z.op) (inv.holds.hands (who z) z was).asker (subst IsCopyAsk is) in
      other_setting l (after (last log) l).cluster z was place is (still.client (who z) z held client) (λ k r of. of)

-- so in a run
pub all_setting : (log : List Label) → IsRun log → AllSetting log (last log)
all_setting log run = along AllSetting (λ front l before allowed due all. after_setting front before all l allowed due) [] log run (λ z held place is. absurd (cc held))
