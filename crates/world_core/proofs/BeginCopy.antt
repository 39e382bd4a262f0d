-- The beginning of a node's copying: it is in hand, or was refused the memory for that.
use Rattle.std.proofs.Common.{◌≡◌, ℕ, ◌+◌, ◌<◌, true, false, length, inl, inr, refl, sym, ap, subst, ◌∙◌, cond, ◌==◌}
use Rattle.std.specs.Prelude.{Option, Some, None, slice_get, slice_set}
use Rattle.ckpt_types.specs.declared.answers.Outcome.{Outcome}
use Rattle.ckpt_types.specs.declared.answers.Outcome.TheVariants as outcomes
use Rattle.ckpt_types.specs.declared.identities.ActorName.{ActorName}
use Rattle.ckpt_types.specs.declared.identities.ActorName.TheVariants.{Client, Node}
use Rattle.ckpt_types.specs.declared.identities.CallId.{CallId}
use Rattle.ckpt_types.specs.declared.identities.Who.TheVariants.{Actor}
use Rattle.ckpt_types.specs.declared.operation.Op.TheVariants as ops
use Rattle.ckpt_types.specs.declared.words.OpWord.TheVariants as opwords
use Rattle.ckpt_types.specs.Asks as asks
use Rattle.ckpt_types.specs.Limits.{nodes_max}
use Rattle.node_msgs.specs.declared.details.Details.TheVariants as beside
use Rattle.run_labels.specs.declared.labels.Label.{Label}
use Rattle.run_labels.specs.declared.labels.Label.TheVariants.{Began}
use Rattle.call_dispatch.specs.PendingCalls.{PendingCalls}
use Rattle.client_handles.specs.ClientState.{ClientState}
use Rattle.client_handles.specs.declared.handle_view.HandleView.{HandleView}
use Rattle.cluster_record.specs.Calls.{put_actor}
use Rattle.cluster_record.proofs.Places.{get_set, there_is}
use Rattle.ckpt_machine.specs.After.{after, goes_on, pending_begun}
use Rattle.ckpt_machine.specs.Beginning.{callbacks_told}
use Rattle.ckpt_machine.specs.Driving.{Kept}
use Rattle.ckpt_machine.specs.Due.{IsBeginEnd, IsBegun, IsDue, MayBegin, kept_at_beginning}
use Rattle.ckpt_machine.specs.Tables.{ended_at_once}
use Rattle.ckpt_machine.proofs.ByActor.{put_actor-same}
use Rattle.client_calls.specs.CopyHands.{copy_hand}
use Rattle.client_calls.specs.declared.in_hand.InHand.{InHand}
use Rattle.world_core.specs.declared.world.World.{World}
use Rattle.world_core.specs.Copying.{IsCopyPut}
use Rattle.world_core.specs.HandsState.{HandsState, hand_at, set_at}
use Rattle.world_core.specs.Happenings.{Begins, KeepsOther}
use Rattle.world_core.specs.Shows.{Does, History, HistoryFits, machine_of, next_of, number_in, shown_hand}
use Rattle.world_core.proofs.Begin.{IsBegunAs, begun_here, fit_behind, hands_are, later, none_put}
use Rattle.world_core.proofs.HandLaws.{node_set}
use Rattle.world_core.proofs.Maps.{HasUnder, under_other}

-- ---- it makes nothing of what its node keeps, and nothing is told beside it

told_nothing : (end : Option Outcome) (p : PendingCalls) → callbacks_told end asks.Copy p ≡ beside.Nothing
told_nothing None p = refl
told_nothing (Some (outcomes.Done answer)) p = refl
told_nothing (Some o) p = refl

keeps_tables : (end : Option Outcome) (p : PendingCalls) (t : ClientState) → ended_at_once end asks.Copy p t ≡ t
keeps_tables None p t = refl
keeps_tables (Some (outcomes.Done answer)) p t = refl
keeps_tables (Some o) p t = refl

keeps_calls : (end : Option Outcome) (call : CallId) (h : Option HandleView) (p : PendingCalls) → pending_begun end call ops.Copy h p ≡ p
keeps_calls None call h p = refl
keeps_calls (Some (outcomes.Done answer)) call h p = refl
keeps_calls (Some o) call h p = refl

-- ---- the whole

-- how it may end at its beginning
abbrev MayEndSo : Option Outcome → Type 0
MayEndSo end = IsBeginEnd asks.Copy None end

module _ (w : World) (r : ℕ) (n : ℕ) (number : slice_get w.numbers r ≡ Some n) (end : Option Outcome) (o : Option InHand) (new : HandsState) where
  abbrev call : CallId
  call = record { actor = Node r; number = number_in (slice_get w.numbers r) }

  abbrev kept : Kept
  kept = kept_at_beginning w.cluster (Node r) None

  abbrev w' : World
  w' = record w { numbers = slice_set w.numbers r (number_in (slice_get w.numbers r) + 1); hands = new }

  nexts : (h : History) (a : ActorName) → put_actor (machine_of w h).next (Node r) ((machine_of w h).next (Node r) + 1) a ≡ next_of w' a
  nexts h (Client c) = refl
  nexts h (Node q) =
      let next : ℕ = number_in (slice_get w.numbers r) + 1 in
      sym (ap number_in (get_set w.numbers r next n q number)
      ∙ elim (q == r) as (λ b. number_in (cond b (Some next) (slice_get w.numbers q)) ≡ cond b next (number_in (slice_get w.numbers q))) [ true ↦ refl | false ↦ refl ])

  module _ (within : r < nodes_max) (none : hand_at w.hands (Actor (Node r)) ≡ None) (up : MayBegin w.cluster (Node r) asks.Copy) (ends : MayEndSo end) (begun : IsBegunAs (goes_on opwords.Copy end) call ops.Copy kept o) (under : HasUnder w.hands (Actor (Node r)) o new) where
    abbrev label : Label
    label = Began call ops.Copy end beside.Nothing

    is_due : (h : History) → IsBegun (machine_of w h) call ops.Copy end beside.Nothing
    is_due h = record {
      asker = within;
      built = tt;
      number = refl;
      none_in_hand = ap (shown_hand (h.beginnings (Actor (Node r))) (h.steps (Actor (Node r))) (h.created (Actor (Node r))) (h.pulled (Actor (Node r)))) none;
      may = up;
      answer = ends;
      told = sym (told_nothing end ((machine_of w h).pending (Node r)));
    }

    after_is : (h : History) → after (machine_of w h) label ≡ machine_of w' (later w call ops.Copy kept end new o h)
    after_is h =
        let m = machine_of w h in
        λ i. record (machine_of w' (later w call ops.Copy kept end new o h)) {
          next = λ a. nexts h a i;
          tables = λ a. put_actor-same m.tables (Node r) (ended_at_once end asks.Copy (m.pending (Node r)) (m.tables (Node r))) (keeps_tables end (m.pending (Node r)) (m.tables (Node r))) a i;
          pending = λ a. put_actor-same m.pending (Node r) (pending_begun end call ops.Copy None (m.pending (Node r))) (keeps_calls end call None (m.pending (Node r))) a i;
          in_hand = λ u. hands_are w call ops.Copy kept end new o h begun under u i;
        }

    fits_later : (h : History) → HistoryFits w h → HistoryFits w' (later w call ops.Copy kept end new o h)
    fits_later h fits = record { replicas = fits.replicas; copies = fits.copies; hands = fit_behind w call ops.Copy kept end new o h begun under fits }

    begin_does : Does w w' label
    begin_does = record {
      due_is = λ m s f. subst (λ m. IsDue m label) (sym s.same) (is_due s.history);
      shows = λ m s f. record {
        history = later w call ops.Copy kept end new o s.history;
        same = ap (λ m. after m label) s.same ∙ after_is s.history;
        fits = fits_later s.history s.fits;
        holds = s.holds;
        keeps = s.keeps;
        rooms = s.rooms;
      };
    }

    other_hands : KeepsOther (Actor (Node r)) w w'
    other_hands b apart = under_other w.hands new (Actor (Node r)) o under (Actor b) apart

    begins_so : Begins (Node r) ops.Copy w w' label
    begins_so = record {
      begins = record { actor = refl; op_is = refl; here = begun_here w call ops.Copy kept end new o begun under; others = other_hands };
      does = begin_does;
    }

-- ---- THE COPYING OF A NODE BEGINS, with the parts as the code names them

module _ (w : World) (r : ℕ) (within : r < nodes_max) (none : hand_at w.hands (Actor (Node r)) ≡ None) (up : MayBegin w.cluster (Node r) asks.Copy) (has : r < length w.numbers) where
  abbrev next_call : CallId
  next_call = record { actor = Node r; number = number_in (slice_get w.numbers r) }

  abbrev counted : World
  counted = record w { numbers = slice_set w.numbers r (number_in (slice_get w.numbers r) + 1) }

  put_so : (end : Option Outcome) (new : World) → IsCopyPut r next_call end counted new → Begins (Node r) ops.Copy w new (Began next_call ops.Copy end beside.Nothing)
  put_so None new put =
      let (n, number) = there_is w.numbers r has in
      let (x, there) = there_is w.hands.nodes r put.0 in
      let hand : InHand = copy_hand next_call in
      let hands : HandsState = set_at w.hands (Actor (Node r)) (Some hand) in
      subst (λ (x : World). Begins (Node r) ops.Copy w x (Began next_call ops.Copy None beside.Nothing)) (sym put.1)
      (begins_so w r n number None (Some hand) hands within none up (inl refl) (record { call_is = refl; op_is = refl; iteration = refl; snapshot = refl; made = refl; driven = refl }) (node_set w.hands r x there (Some hand)))
  put_so (Some end) new put =
      let (n, number) = there_is w.numbers r has in
      subst (λ (z : World × Outcome). Begins (Node r) ops.Copy w z.0 (Began next_call ops.Copy (Some z.1) beside.Nothing)) (λ i. (sym put.1 i, sym put.0 i))
      (begins_so w r n number (Some outcomes.NoMemory) None w.hands within none up (inr (refl, refl, refl)) refl (none_put w.hands (Actor (Node r)) none))

  pub copying_begins : (given : CallId) (end : Option Outcome) (new : World) → given ≡ next_call → IsCopyPut r given end counted new → Begins (Node r) ops.Copy w new (Began given ops.Copy end beside.Nothing)
  copying_begins given end new is put =
      subst (λ (x : CallId). Begins (Node r) ops.Copy w new (Began x ops.Copy end beside.Nothing)) (sym is) (put_so end new (subst (λ (x : CallId). IsCopyPut r x end counted new) is put))
