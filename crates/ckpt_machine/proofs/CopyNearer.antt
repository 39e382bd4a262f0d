-- Each step of a copying brings it nearer to its end: by what is left at the checkpoint that it is at, and how many others its node lacks.
use Rattle.std.proofs.Common.{◌≡◌, ℕ, zero, suc, ◌+◌, ◌*◌, ◌≤◌, ◌<◌, ◌==◌, Bool, true, false, cond, not, ◌&&◌, List, [], ◌∷◌, length, refl, sym, ap, subst, ◌∙◌, arith}
use Rattle.std.specs.Prelude.{Option, Some, None, is_some, slice_index, slice_set}
use Rattle.std.proofs.lemmas.Bool.{eqb-true}
use Rattle.std.proofs.lemmas.Option.{same_Some}
use Rattle.node_msgs.specs.declared.steps.StepReply.TheVariants as words
use Rattle.cluster_record.specs.declared.calls.UpdatePhase.TheVariants as updating
use Rattle.cluster_record.specs.declared.copying.Copying.{Copying}
use Rattle.cluster_record.specs.declared.copying.CopyPhase.{CopyPhase}
use Rattle.cluster_record.specs.declared.copying.CopyPhase.TheVariants.{Reserved, Staging, PulledActive, PulledStaged, Committing}
use Rattle.cluster_record.specs.declared.entries.Entry.{Entry}
use Rattle.cluster_record.specs.DueCopy.{CopyState, behind_completion, complete_taken, copy_at, copy_next, copy_on, done_by, lacks_replica, next_to_copy, onward, phase_next, pull_taken, pulled_phase, reserve_next, reserve_taken, staging_phase, unless_done, with_phase}
use Rattle.cluster_record.specs.DueUpdate.{UpdateState, by_phase, commit_at, update_begun, update_joined, update_led, update_on}
use Rattle.cluster_record.specs.Identities.{IdentitiesRise}
use Rattle.cluster_record.specs.Joining.{completed, completed_on}
use Rattle.cluster_record.specs.Placement.{is_all, is_collocated}
use Rattle.cluster_record.specs.RecordState.{RecordState, complete_of, entry_of, stays, swept}
use Rattle.cluster_record.specs.StepDone.{first_lacking, has, last_having}
use Rattle.cluster_record.proofs.CopyStaging.{staging_told}
use Rattle.cluster_record.proofs.JoinLaws.{rest_stays}
use Rattle.ckpt_machine.specs.Drivers as drivers
use Rattle.ckpt_machine.specs.Entries.{AllStay}
use Rattle.ckpt_machine.specs.Left.{at_ckpt_left, copied_within, copying_left, having, lacked_besides, lacking, or_one, owner_met, phase_left, steps_left, update_left, update_left_by}
use Rattle.ckpt_machine.specs.Machine.{ReplicaState}
use Rattle.ckpt_machine.proofs.CopyLeft.{besides_changed, besides_had, besides_lacked, lacked_at, next_lacked, some_lacked}
use Rattle.ckpt_machine.proofs.EntryLists.{AllStay-change_key, filter-stays}
use Rattle.ckpt_machine.proofs.FewSteps.{nodes_few, update_few}
use Rattle.ckpt_machine.proofs.NodeLists.{has-itself, last_having-is}
use Rattle.ckpt_machine.proofs.StepsLeft.{having-some, not_afresh}

-- ---- by numbers

-- one that is at most one is so where at least one is left
or_one_least : (n : ℕ) → n ≤ or_one n
or_one_least n = elim (n == 0) as (λ b. (n == 0) ≡ b → n ≤ cond b 1 n) [ true ↦ λ is. (let none : n ≡ 0 = eqb-true n 0 is in omega (arith, none)) | false ↦ λ some. omega arith ] refl

or_one_most : (n b : ℕ) → n < b → 1 < b → or_one n < b
or_one_most n b less one = elim (n == 0) as (λ z. cond z 1 n < b) [ true ↦ one | false ↦ less ]

-- fewer are left, where there is one at least behind them
fewer : (a b : ℕ) → a < b → 1 < b → or_one a < or_one b
fewer a b less one = let most = or_one_most a b less one in let least = or_one_least b in omega (arith, most, least)

abbrev one_if : Bool → ℕ
one_if b = cond b 1 0

-- where a node joins with this incarnation, and has its slot, one more is had
pub having-joined : (cs os : List ℕ) (r n : ℕ) → length os ≡ length cs → r < length cs → (n == 0) ≡ false → slice_index cs r ≡ 0 → having (slice_set cs r n) (slice_set os r n) ≡ having cs os + 1
having-joined [] os r n same within some free = absurd (omega (arith, within))
having-joined (c ∷ cs) [] r n same within some free = absurd (omega (arith, same))
having-joined (c ∷ cs) (o ∷ os) zero n same within some free =
    let now_has : one_if (has n n) ≡ 1 = ap one_if (has-itself n some) in
    let none : one_if (has c o) ≡ 0 = ap (λ c. one_if (has c o)) free in
    omega (arith, now_has, none)
having-joined (c ∷ cs) (o ∷ os) (suc r) n same within some free =
    let rest : having (slice_set cs r n) (slice_set os r n) ≡ having cs os + 1 = having-joined cs os r n (omega (arith, same)) (omega (arith, within)) some free in
    omega (arith, rest)

-- ---- at a checkpoint that is there

module _ (R : RecordState) (c : CopyState) (at : Copying) (some : c.copying ≡ Some at) (e : Entry) (found : entry_of at.ckpt R.entries ≡ Some e) where
  -- the others that its node lacks
  abbrev others : ℕ
  others = lacked_besides c.node (Some at.ckpt) R.entries

  -- so many are left by what it keeps of this one
  abbrev pub left_with : (ℕ → ℕ → Option ReplicaState) → UpdateState → CopyPhase → ℕ
  left_with f u phase = phase_left (is_all e.attributes) (update_left e.complete (f at.ckpt) u) (having e.complete u.owned) phase + copied_within * others

  -- those of the copying
  left_is : (f : ℕ → ℕ → Option ReplicaState) → steps_left R f (drivers.Copy c) ≡ or_one (left_with f c.staging at.phase)
  left_is f = ap (copying_left R f c) some ∙ ap (λ o. or_one (at_ckpt_left o (f at.ckpt) c at.phase + copied_within * others)) found

  -- and behind a step that leaves this of it
  left_then : (f : ℕ → ℕ → Option ReplicaState) (u : UpdateState) (change : CopyPhase → CopyPhase) → steps_left R f (drivers.Copy (record c { copying = with_phase change c.copying; staging = u })) ≡ or_one (left_with f u (change at.phase))
  left_then f u change =
      ap (λ o. copying_left R f (record c { copying = with_phase change o; staging = u }) (with_phase change o)) some
      ∙ ap (λ o. or_one (at_ckpt_left o (f at.ckpt) (record c { copying = with_phase change (Some at); staging = u }) (change at.phase) + copied_within * others)) found

  -- it is nearer, where fewer are left, and some were
  nearer_by : (f g : ℕ → ℕ → Option ReplicaState) (u : UpdateState) (change : CopyPhase → CopyPhase) → left_with f u (change at.phase) < left_with g c.staging at.phase → 1 < left_with g c.staging at.phase → steps_left R f (drivers.Copy (record c { copying = with_phase change c.copying; staging = u })) < steps_left R g (drivers.Copy c)
  nearer_by f g u change less one =
      subst (λ n. n < steps_left R g (drivers.Copy c)) (sym (left_then f u change)) (subst (λ n. or_one (left_with f u (change at.phase)) < n) (sym (left_is g)) (fewer (left_with f u (change at.phase)) (left_with g c.staging at.phase) less one))

  -- its update is being staged, or is to be
  abbrev pub IsBeforePull : CopyPhase → Type 0
  IsBeforePull Reserved = is_all e.attributes ≡ true
  IsBeforePull Staging = Unit {0}
  IsBeforePull phase = ⊥

  -- A STEP OF ITS UPDATE while that is being staged: fewer steps of this are left
  pub staging_nearer : (f g : ℕ → ℕ → Option ReplicaState) (u : UpdateState) → IsBeforePull at.phase → update_left e.complete (f at.ckpt) u < update_left e.complete (g at.ckpt) c.staging → steps_left R f (drivers.Copy (staging_told c u)) < steps_left R g (drivers.Copy c)
  staging_nearer f g u before less = by_phase at.phase before (λ smaller one. nearer_by f g u staging_phase smaller one)
    where
      by_phase : (phase : CopyPhase) → IsBeforePull phase → (left_with f u (staging_phase phase) < left_with g c.staging phase → 1 < left_with g c.staging phase → steps_left R f (drivers.Copy (staging_told c u)) < steps_left R g (drivers.Copy c)) → steps_left R f (drivers.Copy (staging_told c u)) < steps_left R g (drivers.Copy c)
      by_phase Reserved all nearer =
          let had = having e.complete c.staging.owned in
          let left : phase_left (is_all e.attributes) (update_left e.complete (g at.ckpt) c.staging) had Reserved ≡ update_left e.complete (g at.ckpt) c.staging + 3 = ap (λ b. phase_left b (update_left e.complete (g at.ckpt) c.staging) had Reserved) all in
          nearer (omega (arith, less, left)) (omega (arith, left))
      by_phase Staging before nearer = nearer (omega (arith, less)) (omega arith)
      by_phase (PulledActive generation) before nearer = absurd before
      by_phase PulledStaged before nearer = absurd before
      by_phase Committing before nearer = absurd before

  -- A COMMIT of it: it has one slot fewer, and has another, or its node lacks another checkpoint
  pub commit_nearer : (f g : ℕ → ℕ → Option ReplicaState) (u : UpdateState) → at.phase ≡ Committing → having e.complete u.owned + 1 ≡ having e.complete c.staging.owned → 1 ≤ having e.complete u.owned + others → steps_left R f (drivers.Copy (staging_told c u)) < steps_left R g (drivers.Copy c)
  commit_nearer f g u phase one_fewer more =
      let then_left : left_with f u (staging_phase at.phase) ≡ having e.complete u.owned + copied_within * others = ap (λ p. left_with f u (staging_phase p)) phase in
      let now_left : left_with g c.staging at.phase ≡ having e.complete c.staging.owned + copied_within * others = ap (left_with g c.staging) phase in
      nearer_by f g u staging_phase (omega (arith, then_left, now_left, one_fewer)) (omega (arith, now_left, one_fewer, more))

  -- A PULL of the active
  pub active_pull_nearer : (f g : ℕ → ℕ → Option ReplicaState) (generation : ℕ) → at.phase ≡ Reserved → is_all e.attributes ≡ false → steps_left R f (drivers.Copy (pull_taken generation c words.Ok)) < steps_left R g (drivers.Copy c)
  active_pull_nearer f g generation phase alone =
      let then_left : left_with f c.staging (pulled_phase generation at.phase) ≡ 1 + copied_within * others = ap (λ p. left_with f c.staging (pulled_phase generation p)) phase in
      let now_left : left_with g c.staging at.phase ≡ 2 + copied_within * others
      = ap (left_with g c.staging) phase ∙ ap (λ b. phase_left b (update_left e.complete (g at.ckpt) c.staging) (having e.complete c.staging.owned) Reserved + copied_within * others) alone in
      nearer_by f g c.staging (pulled_phase generation) (omega (arith, then_left, now_left)) (omega (arith, now_left))

  -- a pull while its update is staged on all, of which it has some
  pub staged_pull_nearer : (f g : ℕ → ℕ → Option ReplicaState) (generation : ℕ) → at.phase ≡ Staging → c.staging.phase ≡ updating.Staging → 1 ≤ having e.complete c.staging.owned → steps_left R f (drivers.Copy (pull_taken generation c words.Ok)) < steps_left R g (drivers.Copy c)
  staged_pull_nearer f g generation phase staging had =
      let l = lacking e.complete c.staging.owned in
      let h = having e.complete c.staging.owned in
      let then_left : left_with f c.staging (pulled_phase generation at.phase) ≡ h + 2 + copied_within * others = ap (λ p. left_with f c.staging (pulled_phase generation p)) phase in
      let now_left : left_with g c.staging at.phase ≡ update_left e.complete (g at.ckpt) c.staging + 3 + copied_within * others = ap (left_with g c.staging) phase in
      let met = owner_met (g at.ckpt) (first_lacking 0 e.complete c.staging.owned) in
      let left : update_left e.complete (g at.ckpt) c.staging ≡ 2 * l + h = ap (update_left_by l h c.staging.owner met) staging ∙ not_afresh h l (2 * l + h) (is_some met) had (omega (arith, had)) in
      nearer_by f g c.staging (pulled_phase generation) (omega (arith, then_left, now_left, left)) (omega (arith, now_left))

-- ---- a completion

-- behind it the checkpoint is this, its node has it, and the others are as many
module _ (R N : RecordState) (c : CopyState) (at : Copying) (some : c.copying ≡ Some at) (e f : Entry) (found : entry_of at.ckpt R.entries ≡ Some e) (then_found : entry_of at.ckpt N.entries ≡ Some f) (as_many : lacked_besides c.node (Some at.ckpt) N.entries ≡ lacked_besides c.node (Some at.ckpt) R.entries) where
  abbrev rest : ℕ
  rest = lacked_besides c.node (Some at.ckpt) R.entries

  -- OF WHAT IS STAGED ON ALL: its node has a slot too, and all are to be committed
  pub staged_complete_nearer : (p q : ℕ → ℕ → Option ReplicaState) (n : ℕ) → at.phase ≡ PulledStaged → f.complete ≡ slice_set e.complete c.node n → length c.staging.owned ≡ length e.complete → c.node < length e.complete → (n == 0) ≡ false → slice_index e.complete c.node ≡ 0 → steps_left N p (drivers.Copy (complete_taken n c words.Ok)) < steps_left R q (drivers.Copy c)
  staged_complete_nearer p q n phase joined same within up lacked =
      let h = having e.complete c.staging.owned in
      let owned = slice_set c.staging.owned c.node n in
      let one_more : having f.complete owned ≡ h + 1 = ap (λ cs. having cs owned) joined ∙ having-joined e.complete c.staging.owned c.node n same within up lacked in
      let before : steps_left R q (drivers.Copy c) ≡ or_one (h + 2 + copied_within * rest) = left_is R c at some e found q ∙ ap (λ ph. or_one (phase_left (is_all e.attributes) (update_left e.complete (q at.ckpt) c.staging) h ph + copied_within * rest)) phase in
      let then_left : steps_left N p (drivers.Copy (complete_taken n c words.Ok)) ≡ or_one (having f.complete owned + copied_within * lacked_besides c.node (Some at.ckpt) N.entries)
      = ap (λ o. steps_left N p (drivers.Copy (behind_completion n c o))) some
      ∙ ap (λ ph. steps_left N p (drivers.Copy (behind_completion n c (Some (record at { phase = ph }))))) phase
      ∙ ap (λ o. or_one (at_ckpt_left o (p at.ckpt) (record c { copying = Some (record { ckpt = at.ckpt; phase = Committing }); staging = update_joined c.node n c.staging }) Committing + copied_within * lacked_besides c.node (Some at.ckpt) N.entries)) then_found in
      subst (λ k. k < steps_left R q (drivers.Copy c)) (sym then_left) (subst (λ k. or_one (having f.complete owned + copied_within * lacked_besides c.node (Some at.ckpt) N.entries) < k) (sym before)
      (fewer (having f.complete owned + copied_within * lacked_besides c.node (Some at.ckpt) N.entries) (h + 2 + copied_within * rest) (omega (arith, one_more, as_many)) (omega arith)))

  -- OF WHAT THE ACTIVE HAD: it is at none, and lacks another, since it goes on
  pub active_complete_nearer : (p q : ℕ → ℕ → Option ReplicaState) (n generation : ℕ) → at.phase ≡ PulledActive generation → IdentitiesRise N.entries → lacks_replica c.node f ≡ false → done_by (copy_next N (complete_taken n c words.Ok)) ≡ None → steps_left N p (drivers.Copy (complete_taken n c words.Ok)) < steps_left R q (drivers.Copy c)
  active_complete_nearer p q n generation phase rises had goes_on =
      let at_none : complete_taken n c words.Ok ≡ record c { copying = None } = ap (behind_completion n c) some ∙ ap (λ ph. behind_completion n c (Some (record at { phase = ph }))) phase in
      let all = lacked_besides c.node None N.entries in
      let besides : all ≡ lacked_besides c.node (Some at.ckpt) N.entries = besides_had c.node at.ckpt N.entries rises (ap (lacked_at c.node) then_found ∙ had) in
      let one : 1 ≤ all = one_lacked (next_to_copy c.node N.entries) refl (subst (λ d. done_by (copy_next N d) ≡ None) at_none goes_on) in
      let before : steps_left R q (drivers.Copy c) ≡ or_one (1 + copied_within * rest) = left_is R c at some e found q ∙ ap (λ ph. or_one (phase_left (is_all e.attributes) (update_left e.complete (q at.ckpt) c.staging) (having e.complete c.staging.owned) ph + copied_within * rest)) phase in
      let then_left : steps_left N p (drivers.Copy (complete_taken n c words.Ok)) ≡ or_one (copied_within * all) = ap (λ d. steps_left N p (drivers.Copy d)) at_none in
      subst (λ k. k < steps_left R q (drivers.Copy c)) (sym then_left) (subst (λ k. or_one (copied_within * all) < k) (sym before) (fewer (copied_within * all) (1 + copied_within * rest) (omega (arith, besides, as_many)) (omega (arith, besides, as_many, one))))
    where
      one_lacked : (first : Option ℕ) → next_to_copy c.node N.entries ≡ first → done_by (reserve_next c.node first) ≡ None → 1 ≤ lacked_besides c.node None N.entries
      one_lacked None is goes = absurd (cc goes)
      one_lacked (Some k) is goes = some_lacked c.node k N.entries rises is

-- behind a completion, and the sweep, the others are as many
pub completed_besides : (k r : ℕ) (R : RecordState) → AllStay R.moment R.entries → lacked_besides r (Some k) (swept (completed k r R)).entries ≡ lacked_besides r (Some k) R.entries
completed_besides k r R stay =
    let f : Entry → Entry = completed_on r (slice_index R.up r) in
    ap (lacked_besides r (Some k)) (filter-stays R.moment (completed k r R).entries (AllStay-change_key R.moment f k R.entries stay (λ e found stays_there. ap (stays R.moment) (rest_stays r (slice_index R.up r) e) ∙ stays_there)))
    ∙ besides_changed r k f (λ e. ap (λ (x : Entry). x.identity) (rest_stays r (slice_index R.up r) e)) R.entries

-- ---- a reservation

-- a node that is complete for one does not lack it
pub not_lacked : (r : ℕ) (e : Entry) → (slice_index e.complete r == 0) ≡ false → lacks_replica r e ≡ false
not_lacked r e had = ap (λ b. (not (is_some e.making) && not (is_collocated e.attributes)) && b) had ∙ by_test (not (is_some e.making) && not (is_collocated e.attributes))
  where
    by_test : (b : Bool) → (b && false) ≡ false
    by_test true = refl
    by_test false = refl

-- it has no more to do at the checkpoint that it is at: its node does not lack that, or it is gone
abbrev pub HasNoMore : RecordState → CopyState → Type 0
HasNoMore R c = (at : Copying) → c.copying ≡ Some at → lacked_at c.node (entry_of at.ckpt R.entries) ≡ false

-- so it is where it is at none
pub no_more-none : (R : RecordState) (c : CopyState) → c.copying ≡ None → HasNoMore R c
no_more-none R c none at some = absurd (let clash : None ≡ Some at = sym none ∙ some in cc clash)

-- and where that at which it is is gone
pub no_more-gone : (R : RecordState) (c : CopyState) (here : Copying) → c.copying ≡ Some here → entry_of here.ckpt R.entries ≡ None → HasNoMore R c
no_more-gone R c here some gone at is = ap (λ (x : Copying). lacked_at c.node (entry_of x.ckpt R.entries)) (same_Some at here (sym is ∙ some)) ∙ ap (lacked_at c.node) gone

-- or its node is complete for it
pub no_more-had : (R : RecordState) (c : CopyState) (here : Copying) → c.copying ≡ Some here → (e : Entry) → entry_of here.ckpt R.entries ≡ Some e → (slice_index e.complete c.node == 0) ≡ false → HasNoMore R c
no_more-had R c here some e found had at is =
    ap (λ (x : Copying). lacked_at c.node (entry_of x.ckpt R.entries)) (same_Some at here (sym is ∙ some)) ∙ ap (lacked_at c.node) found ∙ not_lacked c.node e had

module _ (R : RecordState) (rises : IdentitiesRise R.entries) (eight : (k : ℕ) → length (complete_of (entry_of k R.entries)) ≡ 8) (c : CopyState) (k : ℕ) (next : next_to_copy c.node R.entries ≡ Some k) where
  abbrev besides : ℕ
  besides = lacked_besides c.node (Some k) R.entries

  -- what is left at the new one is less than one takes
  reserved_few : (f : ℕ → ℕ → Option ReplicaState) (o : Option Entry) → entry_of k R.entries ≡ o → at_ckpt_left o (f k) (record c { copying = Some (record { ckpt = k; phase = Reserved }); staging = update_begun c.call k }) Reserved ≤ 44
  reserved_few f None gone = omega arith
  reserved_few f (Some e) there =
      let nodes : length e.complete ≡ 8 = sym (ap (λ o. length (complete_of o)) there) ∙ eight k in
      let u : UpdateState = update_begun c.call k in
      let left : update_left e.complete (f k) u ≤ 41 = update_few (lacking e.complete u.owned) (having e.complete u.owned) u.owner _ u.phase (nodes_few e.complete u.owned nodes) in
      by_all (is_all e.attributes) (update_left e.complete (f k) u) (having e.complete u.owned) left
    where
      by_all : (all : Bool) (left had : ℕ) → left ≤ 41 → phase_left all left had Reserved ≤ 44
      by_all true left had few = omega (arith, few)
      by_all false left had few = omega arith

  -- before it as many were left as the checkpoints that its node lacks take
  all_left : (g : ℕ → ℕ → Option ReplicaState) → HasNoMore R c → copied_within * (besides + 1) ≤ steps_left R g (drivers.Copy c)
  all_left g no_more = by_at c.copying refl
    where
      all : lacked_besides c.node None R.entries ≡ besides + 1
      all = besides_lacked c.node k R.entries rises (next_lacked c.node k R.entries rises next)

      by_at : (o : Option Copying) → c.copying ≡ o → copied_within * (besides + 1) ≤ copying_left R g c o
      by_at None none = let least : copied_within * lacked_besides c.node None R.entries ≤ or_one (copied_within * lacked_besides c.node None R.entries) = or_one_least (copied_within * lacked_besides c.node None R.entries) in omega (arith, all, least)
      by_at (Some at) some =
          let here = at_ckpt_left (entry_of at.ckpt R.entries) (g at.ckpt) c at.phase in
          let same : lacked_besides c.node None R.entries ≡ lacked_besides c.node (Some at.ckpt) R.entries = besides_had c.node at.ckpt R.entries rises (no_more at some) in
          let least : here + copied_within * lacked_besides c.node (Some at.ckpt) R.entries ≤ or_one (here + copied_within * lacked_besides c.node (Some at.ckpt) R.entries) = or_one_least (here + copied_within * lacked_besides c.node (Some at.ckpt) R.entries) in
          omega (arith, all, same, least)

  -- A RESERVATION for the next one
  pub reserve_nearer : (f g : ℕ → ℕ → Option ReplicaState) → HasNoMore R c → steps_left R f (drivers.Copy (reserve_taken c (Some k) words.Ok)) < steps_left R g (drivers.Copy c)
  reserve_nearer f g no_more =
      let before = all_left g no_more in
      let few = reserved_few f (entry_of k R.entries) refl in
      let here = at_ckpt_left (entry_of k R.entries) (f k) (record c { copying = Some (record { ckpt = k; phase = Reserved }); staging = update_begun c.call k }) Reserved in
      or_one_most (here + copied_within * besides) (steps_left R g (drivers.Copy c)) (omega (arith, before, few)) (omega (arith, before))

-- ---- what goes on behind a commit

-- a copying that goes on with its update committing has another slot, or its node lacks another checkpoint
pub goes_on_lacks : (R : RecordState) → IdentitiesRise R.entries → (c : CopyState) (at : Copying) → c.copying ≡ Some at → at.phase ≡ Committing → (e : Entry) → entry_of at.ckpt R.entries ≡ Some e → c.staging.ckpt ≡ at.ckpt → (active : ℕ) → e.active ≡ Some active → c.staging.phase ≡ updating.Committing → length c.staging.owned ≡ length e.complete → lacks_replica c.node e ≡ false → done_by (copy_next R c) ≡ None → 1 ≤ having e.complete c.staging.owned + lacked_besides c.node (Some at.ckpt) R.entries
goes_on_lacks R rises c at some phase e found ckpt active led committing same had goes_on = by_last (last_having 0 e.complete c.staging.owned) refl
  where
    u : UpdateState
    u = c.staging

    -- where no slot is left, the next checkpoint is next
    next_is : last_having 0 e.complete u.owned ≡ None → copy_next R c ≡ onward R c
    next_is none =
        ap (copy_at R c) some
        ∙ ap (copy_on R c at) found
        ∙ ap (phase_next R c at.ckpt e) phase
        ∙ ap (unless_done (onward R c)) (ap (λ k. update_on u R.moment (entry_of k R.entries)) ckpt ∙ ap (update_on u R.moment) found ∙ ap (update_led u R.moment e) led ∙ ap (by_phase u R.moment (first_lacking 0 e.complete u.owned) (last_having 0 e.complete u.owned)) committing ∙ ap (commit_at u) none)

    by_first : (first : Option ℕ) → next_to_copy c.node R.entries ≡ first → done_by (reserve_next c.node first) ≡ None → 1 ≤ lacked_besides c.node None R.entries
    by_first None is goes = absurd (cc goes)
    by_first (Some k) is goes = some_lacked c.node k R.entries rises is

    by_last : (last : Option ℕ) → last_having 0 e.complete u.owned ≡ last → 1 ≤ having e.complete u.owned + lacked_besides c.node (Some at.ckpt) R.entries
    by_last None none =
        let all : lacked_besides c.node None R.entries ≡ lacked_besides c.node (Some at.ckpt) R.entries = besides_had c.node at.ckpt R.entries rises (ap (lacked_at c.node) found ∙ had) in
        let one : 1 ≤ lacked_besides c.node None R.entries = by_first (next_to_copy c.node R.entries) refl (ap done_by (sym (next_is none)) ∙ goes_on) in
        omega (arith, all, one)
    by_last (Some r) is =
        let it = last_having-is 0 e.complete u.owned r same is in
        let one : 1 ≤ having e.complete u.owned = having-some e.complete u.owned it.place same it.had in
        omega (arith, one)
