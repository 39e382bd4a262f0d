-- The steps of a synchronisation: which of them serve a node, and that it pulls first.
use Rattle.std.proofs.Common.{◌≡◌, ◌⊎◌, ℕ, zero, suc, ◌+◌, inl, inr, List, [], ◌∷◌, Option, Some, None, Bool, true, false, cond, ◌==◌, ◌&&◌, ◌||◌, ℤ, refl, sym, ap, subst, ◌∙◌, arith}
use Rattle.std.specs.List.{list_any}
use Rattle.std.specs.Option.{option_map}
use Rattle.std.specs.Prelude.{slice_index}
use Rattle.std.proofs.lemmas.Bool.{eqb-true, eq-eqb, and_parts}
use Rattle.moment_rules.specs.Times.{is_reached}
use Rattle.ckpt_types.specs.declared.ais_error.AisError.TheVariants.{NotExist, TryAgain, Timeout}
use Rattle.ckpt_types.specs.declared.answers.Answer.TheVariants as answers
use Rattle.ckpt_types.specs.declared.answers.Cause.TheVariants.{Plain, Generations, Deadline}
use Rattle.ckpt_types.specs.declared.answers.Outcome.{Outcome}
use Rattle.ckpt_types.specs.declared.answers.Outcome.TheVariants.{Done, Refused}
use Rattle.ckpt_types.specs.declared.identities.CallId.{CallId}
use Rattle.ckpt_types.specs.Asks.{Ask, asked}
use Rattle.ckpt_types.specs.Asks as asks
use Rattle.node_msgs.specs.declared.next.Next.TheVariants.{End}
use Rattle.node_msgs.specs.declared.steps.Verb.TheVariants as verbs
use Rattle.cluster_record.specs.declared.calls.PulledAt.{PulledAt}
use Rattle.cluster_record.specs.declared.calls.SyncKind.{SyncKind}
use Rattle.cluster_record.specs.declared.calls.SyncKind.TheVariants.{Synchronize, ActiveSet}
use Rattle.cluster_record.specs.declared.entries.Entry.{Entry}
use Rattle.cluster_record.specs.DueOnce as once
use Rattle.cluster_record.specs.DueOnce.{OneStep}
use Rattle.cluster_record.specs.DueOpen.{in_time}
use Rattle.cluster_record.specs.DueSync.{SyncState, install_next, unless_stale, synchronize_next, kind_next, sync_on, sync_next, first_unserved}
use Rattle.cluster_record.specs.RecordState.{entry_of}
use Rattle.cluster_record.specs.StepDone.{StepDone}
use Rattle.ckpt_machine.specs.Drivers.{Driver}
use Rattle.ckpt_machine.specs.Drivers as drivers
use Rattle.ckpt_machine.specs.ActiveGuards.{is_service, serves, all_served}
use Rattle.ckpt_machine.specs.GuardTerms.{deadline_of}
use Rattle.ckpt_machine.specs.InHand.{active_kind, pulled_as, IsSynchronizeIn, IsSettingIn, IsSyncBy, IsOnceAt, IsUpdateAsk, IsInPlace}
use Rattle.ckpt_machine.specs.Invariant.{Invariant}
use Rattle.ckpt_machine.specs.Listing.{is_active}
use Rattle.ckpt_machine.specs.Machine.{Machine, Snapshot, CallState, who}
use Rattle.ckpt_machine.specs.Shape.{Shape}
use Rattle.ckpt_machine.specs.Due.{Told, IsDone, due, driver_of, rooms_of}
use Rattle.ckpt_machine.specs.Driving.{driver_next}

-- ---- which steps serve a node

-- a step that is no service serves none
serves_none : (r : ℕ) (d : StepDone) → is_service d.verb d.reply ≡ false → serves r d ≡ false
serves_none r d none = by_node (is_active d.node r) (is_service d.verb d.reply) none
  where
    by_node : (here service : Bool) → service ≡ false → (here && service) ≡ false
    by_node true service none = none
    by_node false service none = refl

-- behind a step that is no service those nodes are served that were
pub served_as : (r : ℕ) (d : StepDone) (steps : List StepDone) → is_service d.verb d.reply ≡ false → list_any (serves r) (d ∷ steps) ≡ list_any (serves r) steps
served_as r d steps none = ap (λ b. b || list_any (serves r) steps) (serves_none r d none)

-- a step that is a service serves its node
pub served_here : (r : ℕ) (d : StepDone) (steps : List StepDone) → d.node ≡ Some r → is_service d.verb d.reply ≡ true → list_any (serves r) (d ∷ steps) ≡ true
served_here r d steps node service = ap (λ b. b || list_any (serves r) steps) ((λ i. is_active (node i) r && service i) ∙ ap (λ b. b && true) (eq-eqb r r refl))

-- a node that was served is so behind any step
pub served_more : (r : ℕ) (d : StepDone) (steps : List StepDone) → list_any (serves r) steps ≡ true → list_any (serves r) (d ∷ steps) ≡ true
served_more r d steps was = elim (serves r d) as (λ b. (b || list_any (serves r) steps) ≡ true) [ true ↦ refl | false ↦ was ]

-- a node that is served behind a step is the node of the step, or was served
pub served_then : (r : ℕ) (d : StepDone) (steps : List StepDone) → list_any (serves r) (d ∷ steps) ≡ true → (d.node ≡ Some r) ⊎ (list_any (serves r) steps ≡ true)
served_then r d steps is = by_first (serves r d) refl is
  where
    node_is : (o : Option ℕ) → is_active o r ≡ true → o ≡ Some r
    node_is None none = absurd (cc none)
    node_is (Some q) here = ap Some (eqb-true q r here)

    by_first : (b : Bool) → serves r d ≡ b → (b || list_any (serves r) steps) ≡ true → (d.node ≡ Some r) ⊎ (list_any (serves r) steps ≡ true)
    by_first true here is = inl (node_is d.node (and_parts (is_active d.node r) (is_service d.verb d.reply) here).0)
    by_first false other is = inr is

-- where all complete nodes are served, each of them is served by one of the steps
pub served_each : (steps : List StepDone) (n : ℕ) (cs : List ℕ) → all_served steps n cs ≡ true → (d : ℕ) → (slice_index cs d == 0) ≡ false → list_any (serves (n + d)) steps ≡ true
served_each steps n [] all d some = absurd (cc some)
served_each steps n (c ∷ cs) all zero some =
    let first = (and_parts (c == 0 || list_any (serves n) steps) (all_served steps (n + 1) cs) all).0 in
    let here : n ≡ n + 0 = omega arith in
    subst (λ r. list_any (serves r) steps ≡ true) here (subst (λ b. (b || list_any (serves n) steps) ≡ true) some first)
served_each steps n (c ∷ cs) all (suc d) some =
    let rest = (and_parts (c == 0 || list_any (serves n) steps) (all_served steps (n + 1) cs) all).1 in
    let there : n + 1 + d ≡ n + suc d = omega arith in
    subst (λ r. list_any (serves r) steps ≡ true) there (served_each steps (n + 1) cs rest d some)

-- ---- what drives it

-- what is asked for is a synchronisation
abbrev pub IsSynchronize : Ask → Type 0
IsSynchronize (asks.Synchronize place timeout) = Unit {0}
IsSynchronize ask = ⊥

-- a synchronisation drives a call in hand that asks for one
pub drives_sync : (m : Machine) (shapes : ℕ → Shape) (s : CallState) (place : ℕ) (timeout : Option ℤ) → asked s.op ≡ asks.Synchronize place timeout → (d : Driver) → IsInPlace m shapes s d → (u : SyncState) × (d ≡ drivers.Sync u) × IsSynchronizeIn m s u
drives_sync m shapes s place timeout is (drivers.Sync u) at = (u, refl, by_kind u.kind at)
  where
    by_kind : (kind : SyncKind) → IsSyncBy m s u kind → IsSynchronizeIn m s u
    by_kind (Synchronize deadline) at = at
    by_kind (ActiveSet local) at = absurd (let w = sym is ∙ at.asks in cc w)
drives_sync m shapes s place timeout is (drivers.Open o) at = absurd (let w = sym is ∙ at.asks.asks in cc w)
drives_sync m shapes s place timeout is (drivers.Update u) at = absurd (subst IsUpdateAsk is at.asks)
drives_sync m shapes s place timeout is (drivers.Copy c) at = absurd (let w = sym is ∙ at.asks in cc w)
drives_sync m shapes s place timeout is (drivers.Active a) at = absurd (let w : None ≡ Some a.kind = ap (active_kind s.kept.all s.kept.weak) (sym is) ∙ at.kind in cc w)
drives_sync m shapes s place timeout is (drivers.Once x) at = absurd (by_step x at)
  where
    by_step : (x : OneStep) → IsOnceAt m s x → ⊥
    by_step (once.Enter r) at = let w = sym is ∙ at.asks in cc w
    by_step once.Leave at = let w = sym is ∙ at.asks in cc w
    by_step (once.Close k) at = let w = sym is ∙ at.asks in cc w
    by_step (once.Unlink name) at = let w = sym is ∙ at in cc w
    by_step (once.Retain k duration) at = let w = sym is ∙ at.asks in cc w

-- the setting of an active drives a call in hand that asks for one
pub drives_setting : (m : Machine) (shapes : ℕ → Shape) (s : CallState) (place : ℕ) → asked s.op ≡ asks.SetActive place → (d : Driver) → IsInPlace m shapes s d → (u : SyncState) × (local : ℕ) × (d ≡ drivers.Sync u) × IsSettingIn m s u local
drives_setting m shapes s place is (drivers.Sync u) at = by_kind u.kind at
  where
    by_kind : (kind : SyncKind) → IsSyncBy m s u kind → (v : SyncState) × (local : ℕ) × (drivers.Sync u ≡ drivers.Sync v) × IsSettingIn m s v local
    by_kind (Synchronize deadline) at = absurd (let w = sym is ∙ at.asks in cc w)
    by_kind (ActiveSet local) at = (u, local, refl, at)
drives_setting m shapes s place is (drivers.Open o) at = absurd (let w = sym is ∙ at.asks.asks in cc w)
drives_setting m shapes s place is (drivers.Update u) at = absurd (subst IsUpdateAsk is at.asks)
drives_setting m shapes s place is (drivers.Copy c) at = absurd (let w = sym is ∙ at.asks in cc w)
drives_setting m shapes s place is (drivers.Active a) at = absurd (let w : None ≡ Some a.kind = ap (active_kind s.kept.all s.kept.weak) (sym is) ∙ at.kind in cc w)
drives_setting m shapes s place is (drivers.Once x) at = absurd (by_step x at)
  where
    by_step : (x : OneStep) → IsOnceAt m s x → ⊥
    by_step (once.Enter r) at = let w = sym is ∙ at.asks in cc w
    by_step once.Leave at = let w = sym is ∙ at.asks in cc w
    by_step (once.Close k) at = let w = sym is ∙ at.asks in cc w
    by_step (once.Unlink name) at = let w = sym is ∙ at in cc w
    by_step (once.Retain k duration) at = let w = sym is ∙ at.asks in cc w

-- ---- when it pulls

module _ (m : Machine) (s : CallState) (t : Told) (pulls : t.verb ≡ verbs.Pull) where
  -- an end is no pull
  no_end : (o : Outcome) → IsDone m s (End o) t → ⊥
  no_end o looked = let w : verbs.Look ≡ verbs.Pull = ap (λ (t : Told). t.verb) (sym looked) ∙ pulls in cc w

  -- an installation is no pull
  no_install : (call : CallId) (k count : ℕ) (o : Option ℕ) → IsDone m s (install_next call k count o) t → ⊥
  no_install call k count None done = no_end (Done (answers.Pulled count)) done
  no_install call k count (Some r) done = let w : verbs.Install ≡ verbs.Pull = sym done.verb ∙ pulls in cc w

  -- a synchronisation that pulls has pulled nothing
  pulls_first : (u : SyncState) (deadline : Option ℤ) → u.kind ≡ Synchronize deadline → IsDone m s (sync_next m.cluster u) t → u.pulled ≡ None
  pulls_first u deadline kind done = by_entry (entry_of u.ckpt m.cluster.entries) done
    where
      by_pulled : (e : Entry) (r : ℕ) (o : Option PulledAt) → u.pulled ≡ o → IsDone m s (unless_stale u e r o) t → u.pulled ≡ None
      by_pulled e r None is done = is
      by_pulled e r (Some p) is done = absurd (by_test (p.generation == e.generation) done)
        where
          by_test : (b : Bool) → IsDone m s (cond b (install_next u.call u.ckpt p.count (first_unserved 0 e.complete u.served)) (End (Refused TryAgain (Generations p.generation e.generation)))) t → ⊥
          by_test true done = no_install u.call u.ckpt p.count (first_unserved 0 e.complete u.served) done
          by_test false done = no_end (Refused TryAgain (Generations p.generation e.generation)) done

      by_deadline : (e : Entry) (r : ℕ) (o : Option ℤ) → IsDone m s (in_time o m.cluster.moment (unless_stale u e r u.pulled)) t → u.pulled ≡ None
      by_deadline e r None done = by_pulled e r u.pulled refl done
      by_deadline e r (Some end) done = by_test (is_reached end m.cluster.moment) done
        where
          by_test : (b : Bool) → IsDone m s (cond b (End (Refused Timeout (Deadline end m.cluster.moment))) (unless_stale u e r u.pulled)) t → u.pulled ≡ None
          by_test true done = absurd (no_end (Refused Timeout (Deadline end m.cluster.moment)) done)
          by_test false done = by_pulled e r u.pulled refl done

      by_active : (e : Entry) (o : Option ℕ) → IsDone m s (synchronize_next m.cluster u deadline e o) t → u.pulled ≡ None
      by_active e None done = absurd (no_end (Refused NotExist Plain) done)
      by_active e (Some r) done = by_deadline e r deadline done

      by_entry : (o : Option Entry) → IsDone m s (sync_on m.cluster u o) t → u.pulled ≡ None
      by_entry None done = absurd (no_end (Refused NotExist Plain) done)
      by_entry (Some e) done = by_active e e.active (subst (λ kind. IsDone m s (kind_next m.cluster u e kind) t) kind done)

-- the hand of a synchronisation that pulls is empty
pub pulls_empty : (m : Machine) (inv : Invariant m) (s : CallState) (t : Told) (place : ℕ) (timeout : Option ℤ) → m.in_hand (who s) ≡ Some s → asked s.op ≡ asks.Synchronize place timeout → IsDone m s (due m s) t → t.verb ≡ verbs.Pull → s.snapshot ≡ None
pulls_empty m inv s t place timeout held is done pulls =
    let (u, driver, at) = drives_sync m inv.shapes s place timeout is (driver_of s) (inv.holds.hands (who s) s held).here in
    let next = subst (λ d. IsDone m s (driver_next m.cluster (rooms_of m s) d) t) driver done in
    empty s.snapshot (sym at.pulled ∙ pulls_first m s t pulls u (deadline_of s) at.kind next)
  where
    empty : (o : Option Snapshot) → option_map pulled_as o ≡ None → o ≡ None
    empty None none = refl
    empty (Some z) some = absurd (cc some)
