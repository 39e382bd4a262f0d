-- A copying whose update is staged on all complete nodes pulls what the lowest of them has.
use Rattle.std.specs.Option.{option_map}
use Rattle.std.proofs.Common.{◌≡◌, ℕ, ◌≤◌, inr, List, length, Option, Some, None, Bool, true, false, refl, sym, ap, subst, ◌∙◌}
use Rattle.std.specs.Prelude.{slice_index}
use Rattle.std.proofs.lemmas.Option.{same_Some}
use Rattle.ckpt_types.specs.declared.answers.Answer.TheVariants as answers
use Rattle.weak_marks.specs.Marks.{Marked, call_of}
use Rattle.cluster_record.specs.declared.calls.UpdatePhase.{UpdatePhase}
use Rattle.cluster_record.specs.declared.calls.UpdatePhase.TheVariants as updating
use Rattle.cluster_record.specs.declared.copying.Copying.{Copying}
use Rattle.cluster_record.specs.declared.copying.CopyPhase.TheVariants.{PulledStaged}
use Rattle.cluster_record.specs.declared.copying.CopyPhase.TheVariants as phases
use Rattle.cluster_record.specs.declared.entries.Entry.{Entry}
use Rattle.cluster_record.specs.DueCopy.{CopyState, copy_next, copy_on, done_by, pulled_phase, with_phase}
use Rattle.cluster_record.specs.DueUpdate.{UpdateState, staged_by, staged_on}
use Rattle.cluster_record.specs.Placement.{is_all, is_collocated}
use Rattle.cluster_record.specs.RecordState.{entry_of, first_complete}
use Rattle.cluster_record.specs.StepDone.{first_lacking, generation_in, last_having}
use Rattle.node_msgs.specs.declared.replies.Reply.TheVariants as replies
use Rattle.node_msgs.specs.declared.requests.Request.{Request}
use Rattle.node_msgs.specs.declared.requests.Request.TheVariants as requests
use Rattle.node_core.specs.Seen.{record_seen}
use Rattle.node_core.specs.Serving.{pull_reply, reply_at}
use Rattle.ckpt_machine.specs.After.{left_in_hand}
use Rattle.ckpt_machine.specs.CopyGuards.{CopyPullOk}
use Rattle.ckpt_machine.specs.Drivers.{update_in}
use Rattle.ckpt_machine.specs.Drivers as drivers
use Rattle.ckpt_machine.specs.Due.{IsServed, Told, details_due, driver_of, ended_details, payload_due}
use Rattle.ckpt_machine.specs.InHand.{IsCopiedSoFar, IsCopyIn, IsCopyingAt, IsUpdateIn, PhaseKeeps}
use Rattle.ckpt_machine.specs.Invariant.{Invariant, InvariantIn, IsGoodIn}
use Rattle.ckpt_machine.specs.Machine.{Machine, ReplicaState, CallState, who}
use Rattle.ckpt_machine.specs.Propagation.{copied}
use Rattle.ckpt_machine.specs.Seen.{seen, seen_at, seen_by}
use Rattle.ckpt_machine.specs.Shape.{IsActiveBy, IsCompleteOn, IsOwner, IsShaped, IsSpread, IsStaging, PhaseFits, Shape}
use Rattle.ckpt_machine.proofs.ActiveBy.{lowest_complete}
use Rattle.ckpt_machine.proofs.CopyHand.{its, its_at}
use Rattle.ckpt_machine.proofs.Lacking.{lacked_parts}
use Rattle.ckpt_machine.proofs.CopyNearer.{staged_pull_nearer}
use Rattle.ckpt_machine.proofs.CopyPulled.{copy_then, driver_then, pulled_keeps, state_then, then_machine}
use Rattle.ckpt_machine.proofs.DueStep.{Goes}
use Rattle.ckpt_machine.proofs.NodeLists.{first_lacking-None, not-lacked}
use Rattle.ckpt_machine.proofs.OptionLemmas.{IsSomeAnd-from}
use Rattle.ckpt_machine.proofs.Owning.{had_owned, owns_had, replica_at}
use Rattle.ckpt_machine.proofs.StepLabels.{IsServed-told}
use Rattle.ckpt_machine.specs.Left.{having}
use Rattle.ckpt_machine.proofs.StepsLeft.{having-some}
use Rattle.ckpt_machine.proofs.UpdateIn.{does_staging}
use Rattle.ckpt_machine.proofs.Whose.{put_who-here, same_state}

-- what it means that an update is staged on all complete nodes
pub record StagedOnAll (complete : List ℕ) (u : UpdateState) : Type 0 where
  pub phase : u.phase ≡ updating.Staging
  pub lacks_none : first_lacking 0 complete u.owned ≡ None

pub staged_parts : (complete : List ℕ) (u : UpdateState) → staged_on complete u ≡ true → StagedOnAll complete u
staged_parts complete u staged = by_nodes u.phase refl (first_lacking 0 complete u.owned) refl (last_having 0 complete u.owned) staged
  where
    by_nodes : (phase : UpdatePhase) → u.phase ≡ phase → (first : Option ℕ) → first_lacking 0 complete u.owned ≡ first → (last : Option ℕ) → staged_by phase first last ≡ true → StagedOnAll complete u
    by_nodes updating.Staging phase None lacks (Some r) staged = record { phase = phase; lacks_none = lacks }
    by_nodes updating.Staging phase None lacks None staged = absurd (cc staged)
    by_nodes updating.Staging phase (Some r) lacks last staged = absurd (cc staged)
    by_nodes updating.Committing phase first lacks last staged = absurd (cc staged)
    by_nodes updating.Claiming phase first lacks last staged = absurd (cc staged)
    by_nodes updating.Claimed phase first lacks last staged = absurd (cc staged)
    by_nodes updating.Withdrawing phase first lacks last staged = absurd (cc staged)
    by_nodes updating.Resolving phase first lacks last staged = absurd (cc staged)

-- where updates are on all replicas, the lowest complete node is the active
pub lowest_leads : (collocated all : Bool) (complete : List ℕ) (active : Option ℕ) → collocated ≡ false → all ≡ true → IsActiveBy collocated all complete active → active ≡ first_complete 0 complete
lowest_leads true all complete active apart is_all led = absurd (cc apart)
lowest_leads false true complete active apart is_all led = led
lowest_leads false false complete active apart is_all led = absurd (cc is_all)

module _ (m : Machine) (shapes : ℕ → Shape) (inv : InvariantIn shapes m) (s : CallState) (c : CopyState) (held : m.in_hand (who s) ≡ Some s) (is : driver_of s ≡ drivers.Copy c) (at : Copying) (e : Entry) (some : c.copying ≡ Some at) (found : entry_of at.ckpt m.cluster.entries ≡ Some e) (phase : at.phase ≡ phases.Staging) (staged : staged_on e.complete c.staging ≡ true)
    (r : ℕ) (lowest : first_complete 0 e.complete ≡ Some r) where
  abbrev k : ℕ
  k = at.ckpt

  own : IsCopyIn m shapes s c
  own = its m shapes inv s c held is

  there : IsCopyingAt m shapes s c at
  there = its_at m shapes inv s c held is at some

  so_far : IsCopiedSoFar m (shapes k) s c e phases.Staging
  so_far = subst (IsCopiedSoFar m (shapes k) s c e) phase (there.so_far e found)

  all : is_all e.attributes ≡ true
  all = so_far.1

  -- its update
  abbrev u : UpdateState
  u = c.staging

  does : update_in (driver_of s) ≡ Some u
  does = ap update_in is ∙ does_staging c at some

  staging : IsUpdateIn m shapes s u
  staging = there.update e found all

  found_staged : entry_of u.ckpt m.cluster.entries ≡ Some e
  found_staged = ap (λ j. entry_of j m.cluster.entries) there.ckpt ∙ found

  spread : IsSpread m k (shapes k) e
  spread = subst (IsGoodIn m k (shapes k) e) (lacked_parts c.node e so_far.0.lacks).made (inv.entries k e found)

  parts : StagedOnAll e.complete u
  parts = staged_parts e.complete u staged

  -- it owns the slot of each complete node
  owns_all : (q : ℕ) → IsCompleteOn e q → (shapes k).owners q ≡ Some s.call
  owns_all q complete =
      ap (λ j. (shapes j).owners q) (sym there.ckpt)
      ∙ owns_had m shapes inv s u held does staging e found_staged q complete (not-lacked (slice_index e.complete q) (slice_index u.owned q) complete (first_lacking-None 0 e.complete u.owned (staging.nodes ∙ sym spread.nodes) parts.lacks_none q))

  complete_here : IsCompleteOn e r
  complete_here = lowest_complete e.complete r lowest

  -- what stands there
  on_node : (x : ReplicaState) × (m.replicas k r ≡ Some x) × IsShaped (shapes k) (Some s.call) x
  on_node = subst (λ j. (x : ReplicaState) × (m.replicas j r ≡ Some x) × IsShaped (shapes j) (Some s.call) x) there.ckpt (
      let (x, here, shaped) = replica_at m shapes inv s u held does staging e found_staged r complete_here in
      (x, here, subst (λ o. IsShaped (shapes u.ckpt) o x) (ap (λ j. (shapes j).owners r) there.ckpt ∙ owns_all r complete_here) shaped))

  abbrev x : ReplicaState
  x = on_node.0

  here : m.replicas k r ≡ Some x
  here = on_node.1

  shaped : IsShaped (shapes k) (Some s.call) x
  shaped = on_node.2

  abbrev to_pull : Request
  to_pull = requests.Pull c.call k

  its_seen : seen_at m k r ≡ Some (seen k e.attributes x)
  its_seen = ap (λ o. seen_by k o (m.replicas k r)) found ∙ ap (seen_by k (Some e)) here

  answered : (t : Told) (served : IsServed m s r to_pull t) → served.answer ≡ replies.Done (answers.Pulled (length x.effects))
  answered t served =
      served.may
      ∙ ap (reply_at to_pull (payload_due m s) (record_seen m.cluster k r)) its_seen
      ∙ ap (λ (marks : Option Marked). pull_reply (call_of marks) (length x.effects)) shaped.unmarked

  -- ---- behind it

  abbrev phase_is : pulled_phase e.generation at.phase ≡ PulledStaged
  phase_is = ap (pulled_phase e.generation) phase

  abbrev machine_then : Machine
  machine_then = then_machine m shapes inv s c held is at e some found r x here PulledStaged phase_is

  abbrev call_then : CallState
  call_then = state_then m shapes inv s c held is at e some found r x here PulledStaged phase_is

  abbrev copying_then : CopyState
  copying_then = copy_then m shapes inv s c held is at e some found r x here PulledStaged phase_is

  -- its update is where it was
  staging_then : IsUpdateIn machine_then shapes call_then u
  staging_then = record {
    call = staging.call;
    asks = staging.asks;
    kept = staging.kept;
    made = staging.made;
    all = staging.all;
    nodes = staging.nodes;
    owns = staging.owns;
    keeps = λ f there. subst (PhaseKeeps machine_then (shapes u.ckpt) call_then u) (sym parts.phase) tt;
    within = staging.within;
    no_later = staging.no_later;
  }

  so_far_then : IsCopiedSoFar machine_then (shapes k) call_then copying_then e PulledStaged
  so_far_then = (
    record { lacks = so_far.0.lacks; reserved = so_far.0.reserved },
    record {
      all = all;
      phase = parts.phase;
      owns = owns_all;
      pulled = IsSomeAnd-from (option_map copied (m.replicas k r)) (λ pulled. (pulled.sections ≡ (shapes k).sections) × (pulled.effects ≡ (shapes k).effects)) (copied x) (ap (option_map copied) here) (shaped.sections, shaped.effects);
    },
  )

  -- what it owned it owns still
  own_slots : (j q : ℕ) (f : Entry) → entry_of j m.cluster.entries ≡ Some f → IsSpread m j (shapes j) f → (shapes j).owners q ≡ Some s.call → IsOwner m j (shapes j) s.call → IsOwner machine_then j (shapes j) s.call
  own_slots j q f f_found was owns by =
      let state : by.state ≡ s = same_state m.in_hand m.pending m.next inv.calls by.state s by.in_hand held by.call_is in
      let driver : by.driver ≡ u = same_Some by.driver u (sym by.driver_is ∙ ap (λ z. update_in (driver_of z)) state ∙ does) in
      let fits : IsStaging (shapes j) s u = subst (PhaseFits m (shapes j) s u) parts.phase (subst (λ v. PhaseFits m (shapes j) s v v.phase) driver (subst (λ z. PhaseFits m (shapes j) z by.driver by.driver.phase) state by.phase)) in
      record {
        state = call_then;
        in_hand = put_who-here m.in_hand (who s) (Some call_then);
        call_is = refl;
        driver = u;
        driver_is = ap update_in (driver_then m shapes inv s c held is at e some found r x here PulledStaged phase_is);
        ckpt = ap (λ (v : UpdateState). v.ckpt) (sym driver) ∙ by.ckpt;
        phase = subst (PhaseFits machine_then (shapes j) call_then u) (sym parts.phase) (record { origin = fits.origin; update = fits.update; moment = fits.moment; undone = fits.undone; alone = fits.alone });
      }

  holds_then : InvariantIn shapes machine_then
  holds_then = pulled_keeps m shapes inv s c held is at e some found r x here PulledStaged phase_is (λ is_all. staging_then) so_far_then own_slots

  -- it goes on to complete its node
  goes_on : done_by (copy_next m.cluster copying_then) ≡ None
  goes_on = ap (λ o. done_by (copy_on m.cluster copying_then (record at { phase = PulledStaged }) o)) found

  -- as the step tells it
  ends : done_by (copy_next m.cluster (record c { copying = with_phase (pulled_phase (generation_in (entry_of k m.cluster.entries))) c.copying })) ≡ None
  ends =
      (λ i. done_by (copy_next m.cluster (record c { copying = with_phase (pulled_phase (generation_in (found i))) (some i) })))
      ∙ ap (λ phase. done_by (copy_next m.cluster (record c { copying = Some (record at { phase = phase }) }))) phase_is
      ∙ goes_on

  -- it has a slot
  has_some : 1 ≤ having e.complete u.owned
  has_some = having-some e.complete u.owned r (staging.nodes ∙ sym spread.nodes) (had_owned m shapes inv s u held does staging e found_staged r (ap (λ j. (shapes j).owners r) there.ckpt ∙ owns_all r complete_here))

  -- THE PULL of what is staged on all
  pub pull_staged_goes : (t : Told) → IsServed m s r to_pull t → Goes m s (drivers.Copy c) t
  pull_staged_goes t served = subst (Goes m s (drivers.Copy c)) (sym (IsServed-told m s r to_pull t (drivers.Copy c) (replies.Done (answers.Pulled (length x.effects))) served is (answered t served))) (record {
    row = (
      inr (
        own.asks,
        IsSomeAnd-from (entry_of k m.cluster.entries) _ e found (IsSomeAnd-from (m.replicas k r) (CopyPullOk _ r e) x here (record {
          apart = (lacked_parts c.node e so_far.0.lacks).apart;
          active = lowest_leads (is_collocated e.attributes) (is_all e.attributes) e.complete e.active (lacked_parts c.node e so_far.0.lacks).apart all spread.active ∙ lowest;
          unmarked = shaped.unmarked;
          answer = ends;
        })),
      ),
      ap (λ end. ended_details end (details_due m s to_pull r)) ends,
    );
    holds = subst (λ end. Invariant (left_in_hand m call_then end)) (sym ends) (record { shapes = shapes; holds = holds_then });
    nearer = λ goes_on. staged_pull_nearer m.cluster c at some e found m.replicas m.replicas (generation_in (entry_of k m.cluster.entries)) phase parts.phase has_some;
  })
