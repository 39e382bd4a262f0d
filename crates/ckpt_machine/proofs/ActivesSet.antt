-- What is so behind a label that answers OK to the setting of an active: the client's node leads the checkpoint, with what the active had when it was held.
use Rattle.std.proofs.Common.{◌≡◌, ◌⊎◌, ℕ, inl, inr, List, [], ◌∷◌, ◌++◌, Option, Some, None, true, false, cond, not, ◌&&◌, refl, sym, ap, subst, ◌∙◌, append_assoc}
use Rattle.std.specs.Prelude.{is_some}
use Rattle.std.proofs.lemmas.Option.{same_Some}
use Rattle.ckpt_types.specs.declared.answers.Answer.{Answer}
use Rattle.ckpt_types.specs.declared.answers.Answer.TheVariants as answers
use Rattle.ckpt_types.specs.declared.answers.Outcome.TheVariants.{Done}
use Rattle.ckpt_types.specs.declared.identities.CallId.{CallId}
use Rattle.ckpt_types.specs.declared.operation.Op.{Op}
use Rattle.ckpt_types.specs.declared.operation.Op.TheVariants as ops
use Rattle.ckpt_types.specs.declared.words.OpWord.{OpWord}
use Rattle.ckpt_types.specs.declared.words.OpWord.TheVariants as opwords
use Rattle.ckpt_types.specs.Asks.{Ask, asked}
use Rattle.ckpt_types.specs.Asks as asks
use Rattle.ckpt_types.specs.OpWord.{word_of_op}
use Rattle.node_msgs.specs.declared.details.Details.{Details}
use Rattle.node_msgs.specs.declared.steps.StepReply.{StepReply}
use Rattle.node_msgs.specs.declared.steps.StepReply.TheVariants as words
use Rattle.node_msgs.specs.declared.steps.Verb.{Verb}
use Rattle.node_msgs.specs.declared.steps.Verb.TheVariants as verbs
use Rattle.run_labels.specs.declared.labels.Label.{Label}
use Rattle.run_labels.specs.declared.labels.Label.TheVariants as labels
use Rattle.cluster_record.specs.declared.entries.Entry.{Entry}
use Rattle.cluster_record.specs.Calls.{client_of}
use Rattle.cluster_record.specs.DueSync.{SyncState}
use Rattle.cluster_record.specs.Placement.{is_collocated}
use Rattle.cluster_record.specs.Places.{find_key}
use Rattle.cluster_record.specs.RecordState.{RecordState, entry_of, client_key, node_of_client, home_of, is_live_client, stays, generation_under, with_active, active_set}
use Rattle.cluster_record.specs.StepDone.{generation_in}
use Rattle.ckpt_machine.specs.Acknowledged.{HasBegun}
use Rattle.ckpt_machine.specs.ActivesSet.{SetsActive, IsHoldOf, WasActiveWith, HasHeld, HadNoOther, IsActiveSet, ActivesAreSet}
use Rattle.ckpt_machine.specs.Beginning.{Standing}
use Rattle.ckpt_machine.specs.BeginRows.{BeginRow}
use Rattle.ckpt_machine.specs.Drivers as drivers
use Rattle.ckpt_machine.specs.Guards.{IsOnOwn, Row, Allowed}
use Rattle.ckpt_machine.specs.LookGuards.{LookDone, LookRow}
use Rattle.ckpt_machine.specs.ActiveGuards.{HoldOk, HoldKeptOff, MayLead, ActivateOk}
use Rattle.ckpt_machine.specs.InHand.{is_enter, IsSettingIn}
use Rattle.ckpt_machine.specs.Invariant.{Invariant}
use Rattle.ckpt_machine.specs.Laws.{OfEachRun}
use Rattle.ckpt_machine.specs.Machine.{Machine, ReplicaState, Snapshot, CallState, empty_cluster, who}
use Rattle.ckpt_machine.specs.Runs.{last, IsRun}
use Rattle.ckpt_machine.specs.Shape.{IsCompleteOn}
use Rattle.ckpt_machine.specs.After.{with_lead, led_from, change_replica, record_step, changed, kept_behind, stepped, step_of}
use Rattle.ckpt_machine.specs.Due.{Told, IsDue, driver_of}
use Rattle.ckpt_machine.proofs.Askers.{IsCopyAsk, asker_client}
use Rattle.ckpt_machine.proofs.BegunBefore.{all_began, begun_on-other}
use Rattle.ckpt_machine.proofs.Copying.{put2-here}
use Rattle.ckpt_machine.proofs.Dropped.{held_as}
use Rattle.ckpt_machine.proofs.EntrySteps.{entry_here, record_is, left_snapshots}
use Rattle.ckpt_machine.proofs.HeldIn.{IsHeldIn, held_in}
use Rattle.ckpt_machine.proofs.Histories.{on_replica-there, run_history}
use Rattle.ckpt_machine.proofs.OpenReady.{client_live}
use Rattle.ckpt_machine.proofs.OptionLemmas.{IsSomeAnd-at, IsSomeAnd-from, IfSome-at, what_is}
use Rattle.ckpt_machine.proofs.Propagated.{complete_there}
use Rattle.ckpt_machine.proofs.Refusing.{row_at_ckpt, at_node, at_none, at_node_alone}
use Rattle.ckpt_machine.proofs.Runs.{last-push, run_before, run_front}
use Rattle.ckpt_machine.proofs.HeldIdentity.{with_active-identity}
use Rattle.ckpt_machine.proofs.SettingHeld.{IsSettingOf, all_setting}
use Rattle.ckpt_machine.proofs.SyncSteps.{drives_setting}

-- ---- the step of the record

module _ (m : Machine) (inv : Invariant m) (s : CallState) (held : m.in_hand (who s) ≡ Some s) where
  -- the node leads the checkpoint, with what the call has in its hand, or what it had; and clients are as they were
  record IsLedBy (n : Machine) (k r : ℕ) (e : Entry) : Type 0 where
    found : entry_of k n.cluster.entries ≡ Some (record e { active = Some r; generation = generation_under r e; hold = None })
    replica : ReplicaState
    was : m.replicas k r ≡ Some replica
    there : n.replicas k r ≡ Some (with_lead s.snapshot (generation_under r e) replica)
    clients : n.cluster.clients ≡ m.cluster.clients

  module _ (u : SyncState) (local : ℕ) (is : driver_of s ≡ drivers.Sync u) (at : IsSettingIn m s u local) (e : Entry) (found : entry_of u.ckpt m.cluster.entries ≡ Some e) where
    abbrev k : ℕ
    k = u.ckpt

    made : e.making ≡ None
    made = IfSome-at (entry_of k m.cluster.entries) (λ (e : Entry). e.making ≡ None) at.made.made e found

    collocated : is_collocated e.attributes ≡ true
    collocated = IfSome-at (entry_of k m.cluster.entries) (λ (e : Entry). is_collocated e.attributes ≡ true) at.collocated e found

    complete : IsCompleteOn e local
    complete = IfSome-at (entry_of k m.cluster.entries) (λ (e : Entry). IsCompleteOn e local) at.complete e found

    -- its entry then
    abbrev led_entry : Entry
    led_entry = record e { active = Some local; generation = generation_under local e; hold = None }

    led_is : with_active local e ≡ led_entry
    led_is = ap (λ b. cond b led_entry e) (λ i. collocated i && not (complete i))

    abbrev R : RecordState
    R = active_set k local m.cluster

    -- the state that the record's step leaves
    abbrev led_record : Machine
    led_record = record m { cluster = R; snapshots = left_snapshots m inv.shapes inv.holds s u held is e found made (with_active local) (with_active-identity local) led_entry led_is made refl (ap (λ (x : Entry). x.attributes) led_is) (ap (stays m.cluster.moment) led_is) }

    led_step_is : record_step (active_set k local) m ≡ led_record
    led_step_is = record_is m inv.shapes inv.holds s u held is e found made (with_active local) (with_active-identity local) led_entry led_is made refl (ap (λ (x : Entry). x.attributes) led_is) (ap (stays m.cluster.moment) led_is)

    led_here : entry_of k R.entries ≡ Some led_entry
    led_here = entry_here m inv.shapes inv.holds s u held is e found made (with_active local) (with_active-identity local) led_entry led_is made refl (ap (λ (x : Entry). x.attributes) led_is) (ap (stays m.cluster.moment) led_is)

    led_at : IsLedBy (led_from s.snapshot k local (record_step (active_set k local) m)) k local e
    led_at =
        let (x, there) = what_is (m.replicas k local) (complete_there m inv.shapes inv.holds k local e found complete) in
        subst (λ (b : Machine). IsLedBy (led_from s.snapshot k local b) k local e) (sym led_step_is)
        (subst (λ (z : Option ReplicaState × ℕ). IsLedBy (change_replica led_record k local z.0 (with_lead s.snapshot z.1)) k local e) (λ i. (sym there i, generation_in (sym led_here i)))
        (record { found = led_here; replica = x; was = there; there = put2-here m.replicas k local (Some (with_lead s.snapshot (generation_under local e) x)); clients = refl }))

  -- so it is behind the step
  led : (place : ℕ) → asked s.op ≡ asks.SetActive place → (k r : ℕ) (e : Entry) → s.kept.ckpt ≡ Some k → r ≡ s.kept.node → entry_of k m.cluster.entries ≡ Some e → IsLedBy (changed m s verbs.Activate (Some k) (Some r) words.Ok) k r e × (is_enter (driver_of s) ≡ false)
  led place asks_is k r e kept node found =
      let (u, local, is, at) = drives_setting m inv.shapes s place asks_is (driver_of s) (inv.holds.hands (who s) s held).here in
      let ckpt : u.ckpt ≡ k = same_Some u.ckpt k (sym at.kept ∙ kept) in
      let here : local ≡ r = at.node ∙ sym node in
      let there = led_at u local is at e (ap (λ k. entry_of k m.cluster.entries) ckpt ∙ found) in
      (subst (λ r. IsLedBy (changed m s verbs.Activate (Some k) (Some r) words.Ok) k r e) here (subst (λ k. IsLedBy (changed m s verbs.Activate (Some k) (Some local) words.Ok) k local e) ckpt there), ap is_enter is)

  -- where nothing is in its hand, no other node was the active
  no_other : (k r : ℕ) (e : Entry) (o : Option CallId) → MayLead s.call r o e.active → IsHeldIn m k s e o → s.snapshot ≡ None → (e.active ≡ None) ⊎ (e.active ≡ Some r)
  no_other k r e (Some holder) may held empty = absurd (let w : true ≡ false = sym held.0 ∙ ap (λ o. is_some o) empty in cc w)
  no_other k r e None may none empty = by_active e.active refl may
    where
      by_active : (o : Option ℕ) → e.active ≡ o → MayLead s.call r None o → (e.active ≡ None) ⊎ (e.active ≡ Some r)
      by_active None is may = inl is
      by_active (Some q) is may = inr (is ∙ ap Some may)

-- ---- the label

-- what is asked for is the setting of an active
abbrev IsSetting : Ask → Type 0
IsSetting (asks.SetActive place) = Unit {0}
IsSetting ask = ⊥

-- the word asks for it
abbrev IsSettingWord : OpWord → Type 0
IsSettingWord opwords.Active = Unit {0}
IsSettingWord word = ⊥

-- a call with this word does
asks_by : (op : Op) → IsSettingWord (word_of_op op) → (place : ℕ) × (asked op ≡ asks.SetActive place)
asks_by (ops.Active place) is = (place, refl)
asks_by op is = absurd is

module _ (log : List Label) (run : IsRun log) (d : CallId) (answer : Answer) (details : Details) where
  abbrev l_of : Verb → Option ℕ → Option ℕ → StepReply → Label
  l_of verb j q reply = labels.Stepped d opwords.Active verb j q reply (Some (Done answer)) details

  abbrev t_of : Verb → Option ℕ → Option ℕ → StepReply → Told
  t_of verb j q reply = record { verb = verb; ckpt = j; node = q; reply = reply; end = Some (Done answer); details = details }

  module _ (s : CallState) (held : (last log).in_hand (who s) ≡ Some s) (call_is : s.call ≡ d) (word : word_of_op s.op ≡ opwords.Active) (place : ℕ) (asks_is : asked s.op ≡ asks.SetActive place) where
    -- the state behind such a step
    abbrev behind : Verb → Option ℕ → Option ℕ → StepReply → Machine
    behind verb j q reply = let n = changed (last log) s verb j q reply in stepped n (kept_behind (last log) s n.cluster verb j q reply) (Some (Done answer))

    set_by : (k r : ℕ) → last (log ++ l_of verbs.Activate (Some k) (Some r) words.Ok ∷ []) ≡ behind verbs.Activate (Some k) (Some r) words.Ok → Some k ≡ s.kept.ckpt → Row (last log) s verbs.Activate (t_of verbs.Activate (Some k) (Some r) words.Ok) → IsActiveSet log (l_of verbs.Activate (Some k) (Some r) words.Ok) d
    set_by k r then_is own row = record {
      op = s.op;
      word = word;
      ckpt = k;
      begun = subst (λ c. HasBegun log c s.op (Some k)) call_is (subst (HasBegun log s.call s.op) (begun_on-other (asked s.op) s.kept.ckpt (subst IsCopyAsk asks_is) ∙ sym own) (all_began log run s held));
      entry = record e { active = Some r; generation = generation_under r e; hold = None };
      found = subst (λ (n : Machine). entry_of k n.cluster.entries ≡ Some (record e { active = Some r; generation = generation_under r e; hold = None })) (sym then_is) leads.0.found;
      made = made_there;
      collocated = ok.collocated;
      free = refl;
      live = subst (λ (n : Machine). is_live_client (client_of d) n.cluster ≡ true) (sym then_is) (subst (λ (c : CallId). is_live_client (client_of c) then_machine.cluster ≡ true) call_is (ap (λ cs. is_some (find_key client_key (client_of s.call) cs)) leads.0.clients ∙ live_before));
      node = r;
      node_is = subst (λ (n : Machine). r ≡ home_of (client_of d) n.cluster) (sym then_is) (subst (λ (c : CallId). r ≡ home_of (client_of c) then_machine.cluster) call_is (ok.local ∙ setting.home ∙ ap (λ cs. node_of_client (find_key client_key (client_of s.call) cs)) (sym leads.0.clients)));
      active = refl;
      replica = leader s.snapshot;
      there = subst (λ (n : Machine). n.replicas k r ≡ Some (leader s.snapshot)) (sym then_is) leads.0.there;
      present = refl;
      from = by_hand s.snapshot refl;
      held = λ before rest hold j q is of.
          let has = setting.all before rest hold j q is (subst (λ c. IsHoldOf hold c j q) (sym call_is) of) in
          (same_Some j k (sym has.ckpt ∙ sym own), subst (WasActiveWith (last before) j q) (sym (ap (λ o. (leader o).effects) has.in_hand)) has.active);
    }
      where
        inv : Invariant (last log)
        inv = (run_history log run).0

        at_entry : (e : Entry) × (entry_of k (last log).cluster.entries ≡ Some e) × ActivateOk s r (Some (Done answer)) e
        at_entry = IsSomeAnd-at (entry_of k (last log).cluster.entries) (ActivateOk s r (Some (Done answer))) row.0.2

        e : Entry
        e = at_entry.0

        ok : ActivateOk s r (Some (Done answer)) e
        ok = at_entry.2

        then_machine : Machine
        then_machine = behind verbs.Activate (Some k) (Some r) words.Ok

        leads : IsLedBy (last log) inv s held (changed (last log) s verbs.Activate (Some k) (Some r) words.Ok) k r e × (is_enter (driver_of s) ≡ false)
        leads = led (last log) inv s held place asks_is k r e (sym own) ok.local at_entry.1

        setting : IsSettingOf log (last log).cluster s.call s.kept s.snapshot
        setting = all_setting log run s held place asks_is

        -- the replica that leads
        leader : Option Snapshot → ReplicaState
        leader o = with_lead o (generation_under r e) leads.0.replica

        made_there : e.making ≡ None
        made_there =
            let (u, local, is, at) = drives_setting (last log) inv.shapes s place asks_is (driver_of s) (inv.holds.hands (who s) s held).here in
            IfSome-at (entry_of u.ckpt (last log).cluster.entries) (λ (e : Entry). e.making ≡ None) at.made.made e (ap (λ k. entry_of k (last log).cluster.entries) (same_Some u.ckpt k (sym at.kept ∙ sym own)) ∙ at_entry.1)

        live_before : is_live_client (client_of s.call) (last log).cluster ≡ true
        live_before = let hand = inv.holds.hands (who s) s held in client_live (last log).cluster s.call (asker_client s.call.actor (asked s.op) hand.asker (subst IsCopyAsk asks_is)) (hand.live leads.1)

        by_hand : (o : Option Snapshot) → s.snapshot ≡ o → HasHeld log d k (leader s.snapshot).effects ⊎ HadNoOther (last log) k r (leader s.snapshot).effects
        by_hand (Some copy) is = inl (subst (HasHeld log d k) (sym (ap (λ o. (leader o).effects) is)) (subst (λ c. HasHeld log c k copy.effects) call_is (setting.some k copy (sym own) is)))
        by_hand None is = inr (record {
          active = IsSomeAnd-from (entry_of k (last log).cluster.entries) (λ e. (e.active ≡ None) ⊎ (e.active ≡ Some r)) e at_entry.1 (no_other (last log) inv s held k r e e.hold ok.may (held_in (last log) inv s held place asks_is k r (sym own) e at_entry.1 ok.may) is);
          replica = leads.0.replica;
          there = leads.0.was;
          effects_are = ap (λ o. (leader o).effects) is;
        })

    -- a hold ends no call
    no_hold : (k r : ℕ) (reply : StepReply) → Row (last log) s verbs.Hold (t_of verbs.Hold (Some k) (Some r) reply) → ⊥
    no_hold k r words.Ok row =
        let (e, x, found, there, ok) = on_replica-there (last log) k r (HoldOk s r (Some (Done answer))) row.0.2 in
        let is = ok.answer in cc is
    no_hold k r (words.Held by) row =
        let (e, x, found, there, kept) = on_replica-there (last log) k r (HoldKeptOff (last log) s r by (t_of verbs.Hold (Some k) (Some r) (words.Held by))) row.0.2 in
        let is = kept.held.answer in cc is
    no_hold k r reply row = row.0.2

    -- nor does a look answer it OK
    no_look : (reply : StepReply) → LookRow (last log) s reply (Some (Done answer)) → ⊥
    no_look words.Done row = subst (λ ask. LookDone (last log) s ask answer) asks_is row
    no_look reply row = row

    -- it asks for nothing else
    no_ask : (ask : Ask) → asked s.op ≡ ask → IsSetting ask
    no_ask ask is = subst IsSetting (sym asks_is ∙ is) tt

    -- so it is answered OK where its node is set as the active, and by no other step
    by_verb : (verb : Verb) (j q : Option ℕ) (reply : StepReply) → last (log ++ l_of verb j q reply ∷ []) ≡ behind verb j q reply → IsOnOwn verb j s.kept.ckpt → Row (last log) s verb (t_of verb j q reply) → IsActiveSet log (l_of verb j q reply) d
    by_verb verbs.Activate (Some k) (Some r) words.Ok then_is own row = set_by k r then_is own row
    by_verb verbs.Activate (Some k) (Some r) reply then_is own row = absurd row.0.2
    by_verb verbs.Activate (Some k) None reply then_is own row = absurd row.0
    by_verb verbs.Activate None q reply then_is own row = absurd row.0
    by_verb verbs.Hold (Some k) (Some r) reply then_is own row = absurd (no_hold k r reply row)
    by_verb verbs.Hold (Some k) None reply then_is own row = absurd row.0
    by_verb verbs.Hold None q reply then_is own row = absurd row.0
    by_verb verbs.Look j q reply then_is own row = absurd (no_look reply row.2)
    by_verb verbs.Pull j q reply then_is own row = absurd (at_node j q _ row.0 (λ k r p. elim p [ inl sync ↦ no_ask _ sync.2 | inr copy ↦ no_ask _ copy.0 ]))
    by_verb verbs.Install j q reply then_is own row = absurd (at_node j q _ row.0 (λ k r p. no_ask _ p.2))
    by_verb verbs.Enter j q reply then_is own row = absurd (at_node_alone j q _ row.0 (λ q p. no_ask _ p.2))
    by_verb verbs.Open j q reply then_is own row = absurd (row_at_ckpt j q _ row.0 (λ k p. no_ask _ p.2.asks))
    by_verb verbs.Create j q reply then_is own row = absurd (row_at_ckpt j q _ row.0 (λ k p. no_ask _ p.2.asks))
    by_verb verbs.Reserve j q reply then_is own row = absurd (at_node j q _ row.0 (λ k r p. elim p [ inl making ↦ no_ask _ making.2.asks | inr copy ↦ no_ask _ copy.0 ]))
    by_verb verbs.Finish j q reply then_is own row = absurd (row_at_ckpt j q _ row.0 (λ k p. no_ask _ p.2.asks))
    by_verb verbs.Undo j q reply then_is own row = absurd (row_at_ckpt j q _ row.0 (λ k p. no_ask _ p.2.asks))
    by_verb verbs.Stage j q reply then_is own row = absurd (at_node j q _ row.0 (λ k r p. elim p [ inl change ↦ no_ask _ change.2 | inr copy ↦ no_ask _ copy.0 ]))
    by_verb verbs.Claim j q reply then_is own row = absurd (at_node j q _ row.0 (λ k r p. elim p [ inl change ↦ no_ask _ change.2 | inr copy ↦ no_ask _ copy.0 ]))
    by_verb verbs.Withdraw j q reply then_is own row = absurd (at_node j q _ row.0 (λ k r p. elim p [ inl change ↦ no_ask _ change.2 | inr copy ↦ no_ask _ copy.0 ]))
    by_verb verbs.Commit j q reply then_is own row = absurd (at_node j q _ row (λ k r p. elim p [ inl change ↦ no_ask _ change.2 | inr copy ↦ no_ask _ copy.0 ]))
    by_verb verbs.Apply j q reply then_is own row = absurd (at_node j q _ row (λ k r p. no_ask _ p.2))
    by_verb verbs.Mark j q reply then_is own row = absurd (at_node j q _ row (λ k r p. no_ask _ p.2))
    by_verb verbs.Element j q reply then_is own row = absurd (at_node j q _ row (λ k r p. no_ask _ p.2))
    by_verb verbs.Unmark j q reply then_is own row = absurd (at_node j q _ row (λ k r p. no_ask _ p.2))
    by_verb verbs.Read j q reply then_is own row = absurd (at_node j q _ row (λ k r p. no_ask _ p.2))
    by_verb verbs.Status j q reply then_is own row = absurd (at_node j q _ row (λ k r p. no_ask _ p.1))
    by_verb verbs.Iter j q reply then_is own row = absurd (at_node j q _ row.0 (λ k r p. no_ask _ p.4))
    by_verb verbs.Next j q reply then_is own row = absurd (at_node j q _ row (λ k r p. no_ask _ p.1))
    by_verb verbs.Leave j q reply then_is own row = absurd (at_none j q _ row.0 (λ p. no_ask _ p.0))
    by_verb verbs.Close j q reply then_is own row = absurd (row_at_ckpt j q _ row.0 (λ k p. no_ask _ p.1))
    by_verb verbs.Unlink j q reply then_is own row = absurd (row_at_ckpt j q _ row.0 (λ k p. no_ask _ p.1))
    by_verb verbs.Retain j q reply then_is own row = absurd (row_at_ckpt j q _ row.0 (λ k p. no_ask _ p.2))
    by_verb verbs.Complete j q reply then_is own row = absurd (at_node j q _ row.0 (λ k r p. no_ask _ p.0))

  -- whichever step ends it
  by_step : (verb : Verb) (j q : Option ℕ) (reply : StepReply) → Allowed (last log) (l_of verb j q reply) → IsDue (last log) (l_of verb j q reply) → IsActiveSet log (l_of verb j q reply) d
  by_step verb j q reply allowed due =
      let s = due.state in
      let held : (last log).in_hand (who s) ≡ Some s = held_as (last log) d opwords.Active s due.in_hand due.call_is due.word in
      let same : allowed.state ≡ s = same_Some allowed.state s (sym allowed.in_hand ∙ due.in_hand) in
      let (place, asks_is) = asks_by s.op (subst IsSettingWord (sym due.word) tt) in
      by_verb s held due.call_is due.word place asks_is verb j q reply
      (last-push log (l_of verb j q reply) ∙ ap (λ o. step_of (last log) o verb j q reply (Some (Done answer))) due.in_hand)
      (subst (λ (z : CallState). IsOnOwn verb j z.kept.ckpt) same allowed.own)
      (subst (λ z. Row (last log) z verb (t_of verb j q reply)) same allowed.row)

-- it is answered OK at no beginning
not_at_once : (st : Standing) (place : ℕ) (answer : Answer) → BeginRow st (asks.SetActive place) (Some (Done answer)) → ⊥
not_at_once st place answers.Nothing row = let at_once = row.1 in cc at_once
not_at_once st place (answers.Dispatched given) row = absurd row.1
not_at_once st place answer row = absurd row

-- any label that answers OK to one
sets : (log : List Label) → IsRun log → (l : Label) → Allowed (last log) l → IsDue (last log) l → (call : CallId) → SetsActive l call → IsActiveSet log l call
sets log run (labels.Began d (ops.Active place) (Some (Done answer)) details) allowed due call is = absurd (not_at_once _ place answer allowed.row)
sets log run (labels.Stepped d opwords.Active verb j q reply (Some (Done answer)) details) allowed due call is = subst (IsActiveSet log (labels.Stepped d opwords.Active verb j q reply (Some (Done answer)) details)) is (by_step log run d answer details verb j q reply allowed due)
sets log run l allowed due call is = absurd is

-- THE LAW: what the setting of an active leaves that was answered OK
pub actives_are_set : OfEachRun ActivesAreSet
actives_are_set log run front back l call is answers =
    let (before, allowed, due) = run_before empty_cluster front l (run_front log (front ++ l ∷ []) back (is ∙ sym (append_assoc front (l ∷ []) back)) run) in
    sets front before l allowed due call answers
