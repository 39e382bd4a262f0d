-- The setting of an active: it holds its checkpoint, where another node leads it, and then has its client's node lead it; by a look it is refused where the checkpoint is gone, or another call holds it.
use Rattle.std.specs.Option.{option_map}
use Rattle.std.proofs.Common.{◌≡◌, ◌≢◌, ◌⊎◌, ℕ, ◌+◌, ◌<◌, ◌≤◌, inl, inr, Option, Some, None, Bool, true, false, cond, not, ◌&&◌, ◌==◌, refl, sym, ap, subst, ◌∙◌, arith}
use Rattle.std.specs.Prelude.{is_some, IsSomeAnd, IfSome, slice_index}
use Rattle.std.proofs.lemmas.Bool.{eqb-true, eq-eqb}
use Rattle.std.proofs.lemmas.Option.{same_Some}
use Rattle.ckpt_types.specs.declared.ais_error.AisError.TheVariants.{NotExist, TryAgain}
use Rattle.ckpt_types.specs.declared.answers.Answer.TheVariants as answers
use Rattle.ckpt_types.specs.declared.answers.Cause.TheVariants.{Plain, Holder}
use Rattle.ckpt_types.specs.declared.answers.Outcome.TheVariants.{Done, Refused}
use Rattle.ckpt_types.specs.declared.identities.CallId.{CallId}
use Rattle.weak_marks.specs.Marks.{Marked, call_of}
use Rattle.node_msgs.specs.declared.details.Details.TheVariants as beside
use Rattle.node_msgs.specs.declared.next.Next.TheVariants.{Event, End}
use Rattle.node_msgs.specs.declared.next.RecordStep.TheVariants as events
use Rattle.node_msgs.specs.declared.steps.StepReply.TheVariants as words
use Rattle.node_msgs.specs.declared.steps.Verb.TheVariants as verbs
use Rattle.cluster_record.specs.declared.calls.SyncKind.{SyncKind}
use Rattle.cluster_record.specs.declared.calls.SyncKind.TheVariants.{Synchronize, ActiveSet}
use Rattle.cluster_record.specs.declared.entries.Entry.{Entry}
use Rattle.cluster_record.specs.Calls.{same_call}
use Rattle.cluster_record.specs.DueSync.{SyncState, lead_next, unless_held, kind_next, sync_on, sync_next}
use Rattle.cluster_record.specs.Placement.{is_collocated, is_all}
use Rattle.cluster_record.specs.Places.{put2}
use Rattle.cluster_record.specs.RecordState.{RecordState, entry_of, stays, swept, is_active, with_hold, hold_set, generation_under, with_active, active_set}
use Rattle.cluster_record.specs.StepDone.{StepDone, done_of, counting, generation_in}
use Rattle.ckpt_machine.specs.Drivers as drivers
use Rattle.ckpt_machine.specs.Driving.{event_ckpt, event_node, event_refusal, making_in, driver_taken}
use Rattle.ckpt_machine.specs.LookGuards.{GoneLook, LookRefused}
use Rattle.ckpt_machine.specs.ActiveGuards.{HoldOk, HoldKeptOff, MayLead, ActivateOk}
use Rattle.ckpt_machine.specs.InHand.{is_marked_by, is_held_by, is_enter, IsInPlace, IsInHand, IsSettingIn, IsSyncBy}
use Rattle.ckpt_machine.specs.Invariant.{IsGoodIn, IsOfGeneration, IsCompleteAt, InvariantIn, Invariant}
use Rattle.ckpt_machine.specs.Left.{setting_left, kind_left, steps_left}
use Rattle.ckpt_machine.specs.Machine.{Machine, ReplicaState, Snapshot, CallState, who}
use Rattle.ckpt_machine.specs.Propagation.{on_node, copied}
use Rattle.ckpt_machine.specs.Shape.{Shape, IsCompleteOn, marks_at, IsApart, IsShapedBy, IsActiveBy, IsHolder, IsSpread}
use Rattle.ckpt_machine.specs.After.{with_record, record_step, with_lead, change_replica, led_from, kept_behind, left_in_hand}
use Rattle.ckpt_machine.specs.Due.{event_done, Told, IsDone, IsEvent, IsEventAnswer, marks_on, kept_off, driver_of, counted_at}
use Rattle.ckpt_machine.proofs.ActiveBy.{active_by-complete}
use Rattle.ckpt_machine.proofs.Actors.{same_call-true, same_call-refl, same_call-false}
use Rattle.ckpt_machine.proofs.CallsKept.{same_call-None, same_call-Some, apart_from}
use Rattle.ckpt_machine.proofs.DueStep.{Goes}
use Rattle.ckpt_machine.proofs.EntrySteps.{marker_other, gone_ends, entry_here, record_is, WasMade-then, left_snapshots, then_machine, entry_keeps, entry_other}
use Rattle.ckpt_machine.proofs.HeldBy.{held_by}
use Rattle.ckpt_machine.proofs.Installing.{synchronize_goes}
use Rattle.ckpt_machine.proofs.Joining.{collocated_apart}
use Rattle.ckpt_machine.proofs.MarksAt.{marks_here, none_marked}
use Rattle.ckpt_machine.proofs.OnComplete.{present_generation}
use Rattle.ckpt_machine.proofs.OnTheActive.{marker_live}
use Rattle.ckpt_machine.proofs.OptionLemmas.{IsSomeAnd-at, IsSomeAnd-from, IfSome-at}
use Rattle.ckpt_machine.proofs.OtherCalls.{LooksLater, IsMarker-alike, home_stays}
use Rattle.ckpt_machine.proofs.PlainCalls.{is_plain_sync, is_plain, holder_apart, look_ends, look_goes, plain_ends}
use Rattle.ckpt_machine.proofs.StepLabels.{Told-is, unhindered-told, IsEvent-told}
use Rattle.ckpt_machine.specs.Whose.{put_who}
use Rattle.ckpt_machine.proofs.Whose.{put_who-other, put_who-here}
use Rattle.ckpt_machine.proofs.HeldIdentity.{with_hold-identity, with_active-identity}
use Rattle.ckpt_types.proofs.Options.{none_of}

-- the generation rises where the active changes, and only there
pub generation_under-rises : (r : ℕ) (e : Entry) → e.generation ≤ generation_under r e
generation_under-rises r e = elim (is_active e.active r) as (λ b. e.generation ≤ cond b e.generation (e.generation + 1)) [ true ↦ omega arith | false ↦ omega arith ]

-- a node that is told to be the active is
is_active-true : (r : ℕ) (active : Option ℕ) → is_active active r ≡ true → active ≡ Some r
is_active-true r None is = absurd (cc is)
is_active-true r (Some q) is = ap Some (eqb-true q r is)

pub generation_under-same : (r : ℕ) (e : Entry) → generation_under r e ≡ e.generation → e.active ≡ Some r
generation_under-same r e same = by_test (is_active e.active r) refl same
  where
    by_test : (b : Bool) → is_active e.active r ≡ b → cond b e.generation (e.generation + 1) ≡ e.generation → e.active ≡ Some r
    by_test true is same = is_active-true r e.active is
    by_test false other same = absurd (omega (arith, same))

pub generation_under-stays : (r : ℕ) (e : Entry) → e.active ≡ Some r → generation_under r e ≡ e.generation
generation_under-stays r e active = ap (λ b. cond b e.generation (e.generation + 1)) (ap (λ o. is_active o r) active ∙ eq-eqb r r refl)

module _ (m : Machine) (shapes : ℕ → Shape) (inv : InvariantIn shapes m) (s : CallState) (u : SyncState) (held : m.in_hand (who s) ≡ Some s) (is : driver_of s ≡ drivers.Sync u) (local : ℕ) (kind : u.kind ≡ ActiveSet local) where
  -- where its steps have led it
  pub at_setting : IsSettingIn m s u local
  at_setting = subst (IsSyncBy m s u) kind (subst (λ d. IsInPlace m shapes s d) is (inv.hands (who s) s held).here)

  abbrev pub k : ℕ
  k = u.ckpt

  -- its checkpoint is gone
  gone_goes : entry_of k m.cluster.entries ≡ None → (t : Told) → IsDone m s (End (Refused NotExist Plain)) t → Goes m s (driver_of s) t
  gone_goes gone t done = look_ends m shapes inv s held NotExist Plain t
      (subst (λ ask. LookRefused m s ask NotExist Plain) (sym at_setting.asks) (subst (λ o. GoneLook m o NotExist Plain) (sym at_setting.kept) gone)) (ap making_in is) (gone_ends m shapes inv s u held is gone) done

  module _ (e : Entry) (found : entry_of k m.cluster.entries ≡ Some e) where
    -- it is made
    pub made : e.making ≡ None
    made = IfSome-at (entry_of k m.cluster.entries) (λ e. e.making ≡ None) at_setting.made.made e found

    pub spread : IsSpread m k (shapes k) e
    spread = subst (IsGoodIn m k (shapes k) e) made (inv.entries k e found)

    -- it is collocated, so its updates go to the active alone
    pub collocated : is_collocated e.attributes ≡ true
    collocated = IfSome-at (entry_of k m.cluster.entries) (λ e. is_collocated e.attributes ≡ true) at_setting.collocated e found

    pub alone : is_all e.attributes ≡ false
    alone = collocated_apart e.attributes collocated

    -- so nothing is staged on it
    no_slot : {P : Type 0} → (q : ℕ) (d : CallId) → (shapes k).owners q ≡ Some d → P
    no_slot q d owns = absurd (let w : true ≡ false = sym (spread.all q d owns) ∙ alone in cc w)

    -- a replica on a node on which it is complete
    pub record OnNode (q : ℕ) : Type 0 where
      pub replica : ReplicaState
      pub there : m.replicas k q ≡ Some replica
      pub apart : IsApart (marks_at e.active (shapes k).marks q) replica

    pub on_complete : (q : ℕ) → IsCompleteOn e q → OnNode q
    on_complete q complete =
        let (x, there, shaped) = IsSomeAnd-at (m.replicas k q) (IsShapedBy (is_all e.attributes) (shapes k) e.active q) (spread.replicas q complete) in
        record { replica = x; there = there; apart = subst (λ b. IsShapedBy b (shapes k) e.active q x) alone shaped }

    -- it is complete on the client's node
    pub complete_here : IsCompleteOn e local
    complete_here = IfSome-at (entry_of k m.cluster.entries) (λ e. IsCompleteOn e local) at_setting.complete e found

    pub own_hold : is_held_by s.call e.hold ≡ is_some s.snapshot
    own_hold = IfSome-at (entry_of k m.cluster.entries) (λ e. is_held_by s.call e.hold ≡ is_some s.snapshot) at_setting.held e found

    -- it is plain where it does not hold it
    plain_unless : is_held_by s.call e.hold ≡ false → is_plain (driver_of s) s.snapshot ≡ true
    plain_unless not_own = ap (λ d. is_plain d s.snapshot) is ∙ ap (λ kind. is_plain_sync kind s.snapshot) kind ∙ ap (λ o. not (is_some o)) (none_of s.snapshot (sym own_hold ∙ not_own))

    -- another call holds it
    other_goes : (by : CallId) → e.hold ≡ Some by → same_call by s.call ≡ false → (t : Told) → IsDone m s (End (Refused TryAgain (Holder by))) t → Goes m s (driver_of s) t
    other_goes by holds other t done =
        let plain : is_plain (driver_of s) s.snapshot ≡ true = plain_unless (ap (is_held_by s.call) holds ∙ other) in
        look_goes m shapes inv s held plain TryAgain (Holder by) t (subst (λ ask. LookRefused m s ask TryAgain (Holder by)) (sym at_setting.asks) (held_by m shapes inv k e found made by holds s held (holder_apart m shapes inv s held plain k e.active by) at_setting.kept (λ e. Unit {0}) tt)) done

    -- ---- it is held

    module _ (r : ℕ) (active : e.active ≡ Some r) (other : (r == local) ≡ false) (free : e.hold ≡ None) where
      abbrev leads : OnNode r
      leads = on_complete r (active_by-complete (is_collocated e.attributes) (is_all e.attributes) e.complete e.active spread.active r active)

      -- the marks of the checkpoint stand there
      marks_are : leads.replica.marks ≡ (shapes k).marks
      marks_are = leads.apart.marks_are ∙ marks_here e.active (shapes k).marks r active

      plain_free : is_plain (driver_of s) s.snapshot ≡ true
      plain_free = plain_unless (ap (is_held_by s.call) free)

      -- its entry once it is held
      abbrev held_entry : Entry
      held_entry = record e { hold = Some s.call }

      held_is : with_hold s.call e ≡ held_entry
      held_is = ap (λ b. cond b (record e { hold = Some s.call }) e) (λ i. collocated i && is_some (active i))

      -- the call behind its hold, with such a record
      abbrev hold_done : RecordState → StepDone
      hold_done S = counting (counted_at m verbs.Hold (Some k) (Some r) words.Ok) (done_of S verbs.Hold (Some k) (Some r) words.Ok)

      abbrev then_state : RecordState → CallState
      then_state S = kept_behind m s S verbs.Hold (Some k) (Some r) words.Ok

      -- the state that the record's step leaves
      abbrev step_is : with_record m (swept (hold_set k s.call m.cluster)) ≡ record m { cluster = hold_set k s.call m.cluster; snapshots = left_snapshots m shapes inv s u held is e found made (with_hold s.call) (with_hold-identity s.call) held_entry held_is made refl (ap (λ (x : Entry). x.attributes) held_is) (ap (stays m.cluster.moment) held_is) }
      step_is = record_is m shapes inv s u held is e found made (with_hold s.call) (with_hold-identity s.call) held_entry held_is made refl (ap (λ (x : Entry). x.attributes) held_is) (ap (stays m.cluster.moment) held_is)

      here_is : entry_of k (hold_set k s.call m.cluster).entries ≡ Some held_entry
      here_is = entry_here m shapes inv s u held is e found made (with_hold s.call) (with_hold-identity s.call) held_entry held_is made refl (ap (λ (x : Entry). x.attributes) held_is) (ap (stays m.cluster.moment) held_is)

      module _ (unmarked : (shapes k).marks ≡ None) where
        -- the state after it
        abbrev held_machine : Machine
        held_machine = then_machine m shapes inv s u held is e found made (with_hold s.call) (with_hold-identity s.call) held_entry held_is made refl (ap (λ (x : Entry). x.attributes) held_is) (ap (stays m.cluster.moment) held_is)
            m.replicas (λ j q apart. refl) (Some (then_state (hold_set k s.call m.cluster)))

        -- a copy is in its hand
        copy_there : is_some (option_map copied (m.replicas k r)) ≡ true
        copy_there = ap (λ o. is_some (option_map copied o)) leads.there

        holder_then : IsHolder held_machine k e.active s.call
        holder_then = record {
          state = then_state (hold_set k s.call m.cluster);
          in_hand = put_who-here m.in_hand (who s) (Some (then_state (hold_set k s.call m.cluster)));
          call_is = refl;
          driver = u;
          driver_is = ap (driver_taken (hold_done (hold_set k s.call m.cluster))) is;
          local = local;
          kind = kind;
          ckpt = refl;
          some = copy_there;
          copies = λ led. ap (λ o. option_map copied (on_node (m.replicas k) o)) (sym active);
        }

        spread_then : IsSpread held_machine k (shapes k) held_entry
        spread_then = record {
          well_formed = spread.well_formed;
          nodes = spread.nodes;
          some = spread.some;
          up = spread.up;
          active = spread.active;
          replicas = spread.replicas;
          fits = spread.fits;
          all = spread.all;
          complete = spread.complete;
          lowest = spread.lowest;
          first = λ p q d below there owns own. no_slot q d owns;
          owned = λ q d owns. no_slot q d owns;
          led = spread.led;
          marked = λ marks stand. absurd (let w : Some marks ≡ None = sym stand ∙ unmarked in cc w);
          held = λ d holds. record { collocated = collocated; unmarked = unmarked; holder = subst (IsHolder held_machine k e.active) (same_Some s.call d holds) holder_then };
        }

        looks_then : (z : CallState) → z.call ≢ s.call → LooksLater m.cluster.up z (shapes k) e held_entry
        looks_then z apart = record {
          complete = λ all q there. inl refl;
          grows = λ q there. there;
          lacks = λ apart q own lacks. lacks;
          attributes = refl;
          rises = omega arith;
          generation = λ own. refl;
          active = λ same. refl;
          hold = same_call-false s.call z.call (λ same. apart (sym same)) ∙ sym (ap (is_held_by z.call) free);
        }

        here_then : IsSettingIn held_machine (then_state (hold_set k s.call m.cluster)) u local
        here_then = record {
          call = at_setting.call;
          place = at_setting.place;
          asks = at_setting.asks;
          node = at_setting.node;
          within = at_setting.within;
          kept = at_setting.kept;
          made = WasMade-then m shapes inv s u held is e found made (with_hold s.call) (with_hold-identity s.call) held_entry held_is made refl (ap (λ (x : Entry). x.attributes) held_is) (ap (stays m.cluster.moment) held_is) k at_setting.made;
          collocated = subst (λ o. IfSome o (λ (x : Entry). is_collocated x.attributes ≡ true)) (sym here_is) collocated;
          complete = subst (λ o. IfSome o (λ (x : Entry). IsCompleteOn x local)) (sym here_is) complete_here;
          declares = subst (λ o. IfSome o (λ (x : Entry). s.kept.declares ≡ Some x.attributes)) (sym here_is) (IfSome-at (entry_of k m.cluster.entries) (λ e. s.kept.declares ≡ Some e.attributes) at_setting.declares e found);
          held = subst (λ o. IfSome o (λ (x : Entry). is_held_by s.call x.hold ≡ is_some (option_map copied (m.replicas k r)))) (sym here_is) (same_call-refl s.call ∙ sym copy_there);
        }

        held_keeps : InvariantIn shapes held_machine
        held_keeps = entry_keeps m shapes inv s u held is e found made (with_hold s.call) (with_hold-identity s.call) held_entry held_is made refl (ap (λ (x : Entry). x.attributes) held_is) (ap (stays m.cluster.moment) held_is)
            m.replicas (λ j q apart. refl) (Some (then_state (hold_set k s.call m.cluster))) looks_then (same_call-Some s (then_state (hold_set k s.call m.cluster)) refl refl) (λ lives. spread_then)
            (λ j q x there. generation_then j q x there (j == k) refl)
            (λ z same. subst (IsInHand held_machine shapes (who s)) (same_Some (then_state (hold_set k s.call m.cluster)) z same) (let hand = inv.hands (who s) s held in record {
              whose = refl;
              asker = hand.asker;
              number = hand.number;
              built = hand.built;
              driven = hand.driven;
              live = λ others. hand.live (ap is_enter is);
              home = λ others. hand.home (ap is_enter is) ∙ sym (home_stays s.call.actor m.cluster (hold_set k s.call m.cluster) refl);
              here = subst (IsInPlace held_machine shapes (then_state (hold_set k s.call m.cluster))) (sym (ap (driver_taken (hold_done (hold_set k s.call m.cluster))) is)) (subst (IsSyncBy held_machine (then_state (hold_set k s.call m.cluster)) u) (sym kind) here_then);
            }))
          where
            generation_then : (j q : ℕ) (x : ReplicaState) → m.replicas j q ≡ Some x → (b : Bool) → (j == k) ≡ b → IsCompleteAt (hold_set k s.call m.cluster) j q x.generation
            generation_then j q x there false apart = subst (λ o. IsSomeAnd o (λ (g : Entry). IsCompleteOn g q × IsOfGeneration g q x.generation)) (sym (entry_other m shapes inv s u held is e found made (with_hold s.call) (with_hold-identity s.call) held_entry held_is made refl (ap (λ (x : Entry). x.attributes) held_is) (ap (stays m.cluster.moment) held_is) j apart)) (inv.replicas j q x there)
            generation_then j q x there true same =
                let k_is : j ≡ k = eqb-true j k same in
                let was = subst (λ o. IsSomeAnd o (λ (g : Entry). IsCompleteOn g q × IsOfGeneration g q x.generation)) (ap (λ n. entry_of n m.cluster.entries) k_is ∙ found) (inv.replicas j q x there) in
                subst (λ o. IsSomeAnd o (λ (g : Entry). IsCompleteOn g q × IsOfGeneration g q x.generation)) (sym (ap (λ n. entry_of n (hold_set k s.call m.cluster).entries) k_is ∙ here_is)) (was.0, record { within = was.1.within; led = was.1.led })

        -- fewer steps are left
        left_then : setting_left u.call (entry_of k (swept (hold_set k s.call m.cluster)).entries) ≡ 1
        left_then =
            ap (setting_left u.call) (ap (λ (n : Machine). entry_of k n.cluster.entries) step_is ∙ here_is)
            ∙ ap (λ b. cond b 1 2) (ap (λ c. same_call s.call c) at_setting.call ∙ same_call-refl s.call)

        left_before : setting_left u.call (entry_of k m.cluster.entries) ≡ 2
        left_before = ap (setting_left u.call) found ∙ ap (λ o. cond (is_held_by u.call o) 1 2) free

        hold_ok : (t : Told) → IsEvent m s (events.Hold r) t → kept_off m t.ckpt (events.Hold r) ≡ None → Goes m s (driver_of s) t
        hold_ok t event unkept = elim (unhindered-told m s (events.Hold r) t (drivers.Sync u) event is refl unkept) [
          | inl ok ↦ subst (Goes m s (driver_of s)) (sym ok) (record {
            row = (
              (at_setting.place, at_setting.asks, IsSomeAnd-from (entry_of k m.cluster.entries) _ e found (IsSomeAnd-from (m.replicas k r) (HoldOk s r None e) leads.replica leads.there (record { collocated = collocated; active = active; other = ap (λ q. r == q) (sym at_setting.node) ∙ other; free = free; unmarked = marks_are ∙ unmarked; answer = refl }))),
              refl,
            );
            holds = subst (λ (b : Machine). Invariant (left_in_hand b (then_state b.cluster) None)) (sym step_is) (record { shapes = shapes; holds = held_keeps });
            nearer = λ goes_on. subst (λ d. steps_left (swept (hold_set k s.call m.cluster)) (record_step (hold_set k s.call) m).replicas (driver_taken (hold_done (swept (hold_set k s.call m.cluster))) d) < steps_left m.cluster m.replicas d) (sym is)
                (subst (λ kd. kind_left (entry_of k (swept (hold_set k s.call m.cluster)).entries) u kd < kind_left (entry_of k m.cluster.entries) u kd) (sym kind) (let a = left_then in let b = left_before in omega (arith, a, b)));
          })
          | inr memory ↦ absurd (cc (memory.0))
        ]

      -- the marks of another call keep it off
      kept_goes : (marks : Marked) → (shapes k).marks ≡ Some marks → (t : Told) → IsEvent m s (events.Hold r) t → kept_off m t.ckpt (events.Hold r) ≡ Some marks.call → Goes m s (driver_of s) t
      kept_goes marks stand t event keeps =
          let answer = subst (λ o. IsEventAnswer o (event_refusal m.cluster (events.Hold r) (driver_of s)) (event_done m s (events.Hold r) t) (events.Hold r) t) keeps event.answer in
          let marker = spread.marked marks stand in
          subst (Goes m s (driver_of s)) (sym (Told-is t (record { verb = verbs.Hold; ckpt = Some k; node = Some r; reply = words.Held marks.call; end = Some (Refused TryAgain (Holder marks.call)); details = beside.Nothing }) event.verb (ckpt_then event) (node_then event) answer.0 answer.1 event.details)) (record {
            row = (
              (
                at_setting.place,
                at_setting.asks,
                IsSomeAnd-from (entry_of k m.cluster.entries) _ e found (IsSomeAnd-from (m.replicas k r) (HoldKeptOff m s r marks.call _ e) leads.replica leads.there (record {
                  collocated = collocated;
                  active = active;
                  other = ap (λ q. r == q) (sym at_setting.node) ∙ other;
                  free = free;
                  held = record {
                    marks = subst (λ o. IsSomeAnd o (λ (w : Marked). w.call ≡ marks.call)) (sym (marks_are ∙ stand)) refl;
                    another = same_call-false marks.call s.call (λ same. apart_from m.in_hand m.pending m.next inv.calls s held (who marker.state) marker.state marker.in_hand (marker_other m shapes inv s u held is k marks marker) (marker.call_is ∙ same));
                    live = marker_live m shapes k marks inv marker;
                    answer = refl;
                    told = refl;
                  };
                })),
              ),
              refl,
            );
            holds = record { shapes = shapes; holds = plain_ends m shapes inv s held plain_free };
            nearer = λ none. absurd (cc none);
          })
        where
          ckpt_then : IsEvent m s (events.Hold r) t → t.ckpt ≡ Some k
          ckpt_then event = event.ckpt ∙ ap (λ d. event_ckpt m.cluster d (events.Hold r)) is

          node_then : IsEvent m s (events.Hold r) t → t.node ≡ Some r
          node_then event = event.node ∙ ap (λ d. event_node d (events.Hold r)) is

      -- by the marks on the active
      pub hold_goes : (t : Told) → IsEvent m s (events.Hold r) t → Goes m s (driver_of s) t
      hold_goes t event = by_marks (shapes k).marks refl
        where
          kept_is : (o : Option Marked) → (shapes k).marks ≡ o → kept_off m t.ckpt (events.Hold r) ≡ call_of o
          kept_is o stand =
              ap (λ c. kept_off m c (events.Hold r)) (event.ckpt ∙ ap (λ d. event_ckpt m.cluster d (events.Hold r)) is)
              ∙ ap (λ x. call_of (marks_on x)) leads.there ∙ ap call_of (marks_are ∙ stand)

          by_marks : (o : Option Marked) → (shapes k).marks ≡ o → Goes m s (driver_of s) t
          by_marks None stand = hold_ok stand t event (kept_is None stand)
          by_marks (Some marks) stand = kept_goes marks stand t event (kept_is (Some marks) stand)

    -- ---- its node leads

    -- no call holds it but this one, and where none does, no other node leads it
    module _ (own : (d : CallId) → e.hold ≡ Some d → d ≡ s.call) (lone : e.hold ≡ None → (q : ℕ) → e.active ≡ Some q → q ≡ local) where
      -- no marks stand on it, unless its node leads it already
      calm : ((shapes k).marks ≡ None) ⊎ (e.active ≡ Some local)
      calm = by_hold e.hold refl
        where
          no_marks : e.active ≡ None → (o : Option Marked) → (shapes k).marks ≡ o → (shapes k).marks ≡ None
          no_marks active None stand = stand
          no_marks active (Some marks) stand = absurd (let w : false ≡ true = sym (ap (λ o. is_some o) active) ∙ spread.led marks stand in cc w)

          by_active : e.hold ≡ None → (o : Option ℕ) → e.active ≡ o → ((shapes k).marks ≡ None) ⊎ (e.active ≡ Some local)
          by_active free None active = inl (no_marks active (shapes k).marks refl)
          by_active free (Some q) active = inr (active ∙ ap Some (lone free q active))

          by_hold : (o : Option CallId) → e.hold ≡ o → ((shapes k).marks ≡ None) ⊎ (e.active ≡ Some local)
          by_hold None free = by_active free e.active refl
          by_hold (Some d) holds = inl (spread.held d holds).unmarked

      abbrev here : OnNode local
      here = on_complete local complete_here

      -- its entry then
      abbrev led_entry : Entry
      led_entry = record e { active = Some local; generation = generation_under local e; hold = None }

      led_is : with_active local e ≡ led_entry
      led_is = ap (λ b. cond b led_entry e) (λ i. collocated i && not (complete_here i))

      -- its replica then
      abbrev led_replica : ReplicaState
      led_replica = with_lead s.snapshot (generation_under local e) here.replica

      abbrev led_replicas : ℕ → ℕ → Option ReplicaState
      led_replicas = put2 m.replicas k local (Some led_replica)

      abbrev R : RecordState
      R = active_set k local m.cluster

      -- the state that the record's step leaves
      abbrev led_record : Machine
      led_record = record m { cluster = R; snapshots = left_snapshots m shapes inv s u held is e found made (with_active local) (with_active-identity local) led_entry led_is made refl (ap (λ (x : Entry). x.attributes) led_is) (ap (stays m.cluster.moment) led_is) }

      led_step_is : with_record m (swept R) ≡ led_record
      led_step_is = record_is m shapes inv s u held is e found made (with_active local) (with_active-identity local) led_entry led_is made refl (ap (λ (x : Entry). x.attributes) led_is) (ap (stays m.cluster.moment) led_is)

      led_here : entry_of k R.entries ≡ Some led_entry
      led_here = entry_here m shapes inv s u held is e found made (with_active local) (with_active-identity local) led_entry led_is made refl (ap (λ (x : Entry). x.attributes) led_is) (ap (stays m.cluster.moment) led_is)

      led_elsewhere : (j q : ℕ) → (j == k) ≡ false → led_replicas j q ≡ m.replicas j q
      led_elsewhere j q apart = ap (λ b. cond (b && (q == local)) (Some led_replica) (m.replicas j q)) apart

      -- the state after it
      abbrev led_machine : Machine
      led_machine = then_machine m shapes inv s u held is e found made (with_active local) (with_active-identity local) led_entry led_is made refl (ap (λ (x : Entry). x.attributes) led_is) (ap (stays m.cluster.moment) led_is) led_replicas led_elsewhere None

      -- the marks of each node stay
      marks_stay : (q : ℕ) → marks_at e.active (shapes k).marks q ≡ marks_at (Some local) (shapes k).marks q
      marks_stay q = by_calm calm
        where
          by_calm : ((shapes k).marks ≡ None) ⊎ (e.active ≡ Some local) → marks_at e.active (shapes k).marks q ≡ marks_at (Some local) (shapes k).marks q
          by_calm (inl none) = ap (λ o. marks_at e.active o q) none ∙ none_marked e.active q ∙ sym (ap (λ o. marks_at (Some local) o q) none ∙ none_marked (Some local) q)
          by_calm (inr led) = ap (λ o. marks_at o (shapes k).marks q) led

      -- what is held leaves slot and marks
      lead_apart : (o : Option Snapshot) (n : ℕ) (marks : Option Marked) (x : ReplicaState) → IsApart marks x → IsApart marks (with_lead o n x)
      lead_apart None n marks x at = record { free = at.free; marks_are = at.marks_are }
      lead_apart (Some copy) n marks x at = record { free = at.free; marks_are = at.marks_are }

      replicas_then : (q : ℕ) → IsCompleteOn e q → IsSomeAnd (led_replicas k q) (IsShapedBy (is_all e.attributes) (shapes k) (Some local) q)
      replicas_then q complete =
          subst (λ b. IsSomeAnd (cond (b && (q == local)) (Some led_replica) (m.replicas k q)) (IsShapedBy (is_all e.attributes) (shapes k) (Some local) q)) (sym (eq-eqb k k refl))
          (subst (λ all. IsSomeAnd (cond (q == local) (Some led_replica) (m.replicas k q)) (IsShapedBy all (shapes k) (Some local) q)) (sym alone)
          (elim (q == local) as (λ b. (q == local) ≡ b → IsSomeAnd (cond b (Some led_replica) (m.replicas k q)) (IsApart (marks_at (Some local) (shapes k).marks q))) [
            | true ↦ λ same. subst (λ (n : ℕ). IsApart (marks_at (Some local) (shapes k).marks n) led_replica) (sym (eqb-true q local same)) (subst (λ marks. IsApart marks led_replica) (marks_stay local) (lead_apart s.snapshot (generation_under local e) (marks_at e.active (shapes k).marks local) here.replica here.apart))
            | false ↦ λ apart. (let at = on_complete q complete in IsSomeAnd-from (m.replicas k q) (IsApart (marks_at (Some local) (shapes k).marks q)) at.replica at.there (subst (λ marks. IsApart marks at.replica) (marks_stay q) at.apart))
          ] refl))

      led_spread : IsSpread led_machine k (shapes k) led_entry
      led_spread = record {
        well_formed = spread.well_formed;
        nodes = spread.nodes;
        some = spread.some;
        up = spread.up;
        active = subst (λ b. IsActiveBy b (is_all e.attributes) e.complete (Some local)) (sym collocated) complete_here;
        replicas = replicas_then;
        fits = spread.fits;
        all = spread.all;
        complete = spread.complete;
        lowest = spread.lowest;
        first = λ p q d below there owns own. no_slot q d owns;
        owned = λ q d owns. no_slot q d owns;
        led = λ marks stand. refl;
        marked = λ marks stand. let has = spread.marked marks stand in IsMarker-alike m led_machine k marks has (put_who-other m.in_hand (who s) _ (who has.state) (marker_other m shapes inv s u held is k marks has));
        held = λ d none. absurd (cc none);
      }

      -- to another call it looks as it did
      led_looks : (z : CallState) → z.call ≢ s.call → LooksLater m.cluster.up z (shapes k) e led_entry
      led_looks z apart = record {
        complete = λ all q there. inl refl;
        grows = λ q there. there;
        lacks = λ apart q own lacks. lacks;
        attributes = refl;
        rises = generation_under-rises local e;
        generation = λ marked. by_calm calm marked;
        active = λ same. sym (generation_under-same local e same);
        hold = sym (by_hold e.hold refl);
      }
        where
          by_calm : ((shapes k).marks ≡ None) ⊎ (e.active ≡ Some local) → is_marked_by z.call (shapes k).marks ≡ true → generation_under local e ≡ e.generation
          by_calm (inl none) marked = absurd (let w : false ≡ true = sym (ap (is_marked_by z.call) none) ∙ marked in cc w)
          by_calm (inr led) marked = generation_under-stays local e led

          by_hold : (o : Option CallId) → e.hold ≡ o → is_held_by z.call o ≡ false
          by_hold None holds = refl
          by_hold (Some d) holds = same_call-false d z.call (λ same. apart (sym same ∙ own d holds))

      led_generation : (j q : ℕ) (x : ReplicaState) → led_replicas j q ≡ Some x → IsCompleteAt R j q x.generation
      led_generation j q x there = by_test (j == k) refl there
        where
          by_node : (b : Bool) → (q == local) ≡ b → cond b (Some led_replica) (m.replicas k q) ≡ Some x → IsCompleteOn led_entry q × IsOfGeneration led_entry q x.generation
          by_node true same there = (
            ap (λ n. slice_index e.complete n == 0) (eqb-true q local same) ∙ complete_here,
            present_generation led_entry q x.generation (ap (λ (y : ReplicaState). y.generation) (sym (same_Some led_replica x there))),
          )
          by_node false apart there =
              let was = subst (λ o. IsSomeAnd o (λ (g : Entry). IsCompleteOn g q × IsOfGeneration g q x.generation)) found (inv.replicas k q x there) in
              let at_most : x.generation ≤ e.generation = was.1.within in
              let rises : e.generation ≤ generation_under local e = generation_under-rises local e in (
                was.0,
                record {
                  within = omega (arith, at_most, rises);
                  led = λ led. absurd (let w : true ≡ false = sym (eq-eqb q local (sym (same_Some local q led))) ∙ apart in cc w);
                },
              )

          by_test : (b : Bool) → (j == k) ≡ b → cond (b && (q == local)) (Some led_replica) (m.replicas j q) ≡ Some x → IsCompleteAt R j q x.generation
          by_test false apart there = subst (λ o. IsSomeAnd o (λ (g : Entry). IsCompleteOn g q × IsOfGeneration g q x.generation)) (sym (entry_other m shapes inv s u held is e found made (with_active local) (with_active-identity local) led_entry led_is made refl (ap (λ (x : Entry). x.attributes) led_is) (ap (stays m.cluster.moment) led_is) j apart)) (inv.replicas j q x there)
          by_test true same there =
              let k_is : j ≡ k = eqb-true j k same in
              subst (λ o. IsSomeAnd o (λ (g : Entry). IsCompleteOn g q × IsOfGeneration g q x.generation)) (sym (ap (λ n. entry_of n R.entries) k_is ∙ led_here)) (by_node (q == local) refl (ap (λ n. cond (q == local) (Some led_replica) (m.replicas n q)) (sym k_is) ∙ there))

      led_keeps : InvariantIn shapes led_machine
      led_keeps = entry_keeps m shapes inv s u held is e found made (with_active local) (with_active-identity local) led_entry led_is made refl (ap (λ (x : Entry). x.attributes) led_is) (ap (stays m.cluster.moment) led_is)
          led_replicas led_elsewhere None led_looks (same_call-None s) (λ lives. led_spread) led_generation (λ z none. absurd (cc none))

      -- the node may lead
      may_lead : MayLead s.call local e.hold e.active
      may_lead = by_hold e.hold refl
        where
          by_hold : (o : Option CallId) → e.hold ≡ o → MayLead s.call local o e.active
          by_hold (Some d) holds = own d holds
          by_hold None holds = unheld holds e.active refl
            where
              unheld : e.hold ≡ None → (o : Option ℕ) → e.active ≡ o → MayLead s.call local None o
              unheld holds None active = tt
              unheld holds (Some q) active = lone holds q active

      activate_goes : (t : Told) → IsEvent m s (events.Activate local) t → Goes m s (driver_of s) t
      activate_goes t event = elim (IsEvent-told m s (events.Activate local) t (drivers.Sync u) event is refl tt) [
        | inl ok ↦ subst (Goes m s (driver_of s)) (sym ok) (record {
          row = (
            (at_setting.place, at_setting.asks, IsSomeAnd-from (entry_of k m.cluster.entries) (ActivateOk s local (Some (Done answers.Nothing))) e found (record { collocated = collocated; local = at_setting.node; may = may_lead; answer = refl })),
            refl,
          );
          holds = subst (λ (b : Machine). Invariant (record (led_from s.snapshot k local b) { in_hand = put_who (led_from s.snapshot k local b).in_hand (who s) None })) (sym led_step_is)
              (subst (λ (z : Option ReplicaState × ℕ). Invariant (record (change_replica led_record k local z.0 (with_lead s.snapshot z.1)) { in_hand = put_who (change_replica led_record k local z.0 (with_lead s.snapshot z.1)).in_hand (who s) None })) (λ i. (sym here.there i, generation_in (sym led_here i)))
              (record { shapes = shapes; holds = led_keeps }));
          nearer = λ none. absurd (cc none);
        })
        | inr memory ↦ absurd (cc (memory.0))
      ]

    -- ---- whatever is next

    -- no call holds it
    lead_goes : e.hold ≡ None → (o : Option ℕ) → e.active ≡ o → (t : Told) → IsDone m s (lead_next local o) t → Goes m s (driver_of s) t
    lead_goes free None active t done = activate_goes (λ d holds. absurd (let w : None ≡ Some d = sym free ∙ holds in cc w)) (λ none q led. absurd (let w : None ≡ Some q = sym active ∙ led in cc w)) t done
    lead_goes free (Some r) active t done = by_test (r == local) refl done
      where
        by_test : (b : Bool) → (r == local) ≡ b → IsDone m s (cond b (Event (events.Activate local)) (Event (events.Hold r))) t → Goes m s (driver_of s) t
        by_test true same done = activate_goes (λ d holds. absurd (let w : None ≡ Some d = sym free ∙ holds in cc w)) (λ none q led. same_Some q r (sym led ∙ active) ∙ eqb-true r local same) t done
        by_test false other done = hold_goes r active other free t done

    -- by the hold on it
    held_goes : (o : Option CallId) → e.hold ≡ o → (t : Told) → IsDone m s (unless_held u.call local e.active o) t → Goes m s (driver_of s) t
    held_goes None free t done = lead_goes free e.active refl t done
    held_goes (Some by) holds t done = by_test (same_call by u.call) refl done
      where
        by_test : (b : Bool) → same_call by u.call ≡ b → IsDone m s (cond b (Event (events.Activate local)) (End (Refused TryAgain (Holder by)))) t → Goes m s (driver_of s) t
        by_test true same done =
            activate_goes (λ d also. same_Some d by (sym also ∙ holds) ∙ same_call-true by u.call same ∙ at_setting.call) (λ free q led. absurd (let w : None ≡ Some by = sym free ∙ holds in cc w)) t done
        by_test false other done = other_goes by holds (ap (same_call by) (sym at_setting.call) ∙ other) t done

  -- the next step of the setting of an active
  pub setting_goes : (t : Told) → IsDone m s (sync_next m.cluster u) t → Goes m s (driver_of s) t
  setting_goes t done = by_entry (entry_of k m.cluster.entries) refl
    where
      by_entry : (o : Option Entry) → entry_of k m.cluster.entries ≡ o → Goes m s (driver_of s) t
      by_entry None gone = gone_goes gone t (subst (λ next. IsDone m s next t) (ap (sync_on m.cluster u) gone) done)
      by_entry (Some e) found = held_goes e found e.hold refl t (subst (λ next. IsDone m s next t) (ap (sync_on m.cluster u) found ∙ ap (kind_next m.cluster u e) kind) done)

-- ---- either of the two

-- the next step of a synchronisation or of the setting of an active
pub sync_goes : (m : Machine) (shapes : ℕ → Shape) (inv : InvariantIn shapes m) (s : CallState) (u : SyncState) → m.in_hand (who s) ≡ Some s → driver_of s ≡ drivers.Sync u → (t : Told) → IsDone m s (sync_next m.cluster u) t → Goes m s (driver_of s) t
sync_goes m shapes inv s u held is t done = by_kind u.kind refl
  where
    by_kind : (kind : SyncKind) → u.kind ≡ kind → Goes m s (driver_of s) t
    by_kind (Synchronize deadline) sync = synchronize_goes m shapes inv s u held is (deadline, sync) t done
    by_kind (ActiveSet local) kind = setting_goes m shapes inv s u held is local kind t done
