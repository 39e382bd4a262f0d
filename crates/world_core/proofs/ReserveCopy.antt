-- A copying reserves, with room for a snapshot of the checkpoint from then on; or it is refused the memory for either, and ends.
use Rattle.std.proofs.Common.{◌≡◌, inl, inr, ℕ, ◌<◌, Bool, true, false, List, length, refl, sym, ap, subst, ◌∙◌, arith}
use Rattle.std.specs.Option.{option_and_then}
use Rattle.std.specs.Prelude.{Option, Some, None, IsSomeAnd, is_some, not, ◌&&◌}
use Rattle.ckpt_types.specs.declared.answers.Outcome.{Outcome}
use Rattle.ckpt_types.specs.declared.identities.ActorName.TheVariants.{Node}
use Rattle.ckpt_types.specs.declared.identities.CallId.{CallId}
use Rattle.ckpt_types.specs.declared.identities.Who.{Who}
use Rattle.ckpt_types.specs.declared.identities.Who.TheVariants.{Actor}
use Rattle.ckpt_types.specs.declared.words.OpWord.TheVariants as opwords
use Rattle.ckpt_types.specs.Asks.{Ask, asked}
use Rattle.ckpt_types.specs.Asks as asks
use Rattle.ckpt_types.specs.Attributes.{is_malformed}
use Rattle.ckpt_types.specs.OpWord.{word_of_op}
use Rattle.node_msgs.specs.declared.details.Details.TheVariants as beside
use Rattle.node_msgs.specs.declared.next.Next.TheVariants.{Serve}
use Rattle.node_msgs.specs.declared.replies.Reply.{Reply}
use Rattle.node_msgs.specs.declared.replies.Reply.TheVariants.{Done}
use Rattle.node_msgs.specs.declared.requests.Request.TheVariants.{Reserve}
use Rattle.node_msgs.specs.declared.steps.Verb.TheVariants as verbs
use Rattle.node_msgs.specs.Steps.{word_of}
use Rattle.run_labels.specs.declared.labels.Label.{Label}
use Rattle.run_labels.specs.declared.labels.Label.TheVariants.{Stepped}
use Rattle.snap_copy.specs.Snapshots as copies
use Rattle.replica.specs.Replicas.{Replica}
use Rattle.cluster_record.specs.declared.entries.Entry.{Entry}
use Rattle.cluster_record.specs.Calls.{left}
use Rattle.cluster_record.specs.Ends.{served_done}
use Rattle.cluster_record.specs.RecordState.{RecordState, entry_of}
use Rattle.cluster_record.specs.StepDone.{StepDone, counting, count_told, done_of}
use Rattle.node_core.specs.Fitting.{MayBeMade}
use Rattle.node_core.specs.Lending.{nothing_lent}
use Rattle.node_core.specs.Nodes.{MayReserve}
use Rattle.node_core.specs.Payloads.{Payload, payload_of}
use Rattle.node_core.specs.Seen.{entry_seen, record_seen}
use Rattle.ckpt_machine.specs.After.{kept_by, pulled_by}
use Rattle.ckpt_machine.specs.Asking.{MayCome}
use Rattle.ckpt_machine.specs.Driving.{driver_end, driver_next, driver_taken}
use Rattle.ckpt_machine.specs.Due.{declared_at, ended_details, kept_reserving, payload_due}
use Rattle.ckpt_machine.specs.Facts.{IsReservable, IsServable}
use Rattle.ckpt_machine.specs.Machine.{CallState, Effect, Machine}
use Rattle.ckpt_machine.specs.Nodes.{node_at, nodes_after}
use Rattle.ckpt_machine.specs.Seen.{seen_at}
use Rattle.ckpt_machine.specs.Shown.{IsRoomToCopy}
use Rattle.ckpt_machine.specs.Tables.{takes_copy}
use Rattle.ckpt_machine.specs.Taking.{AsksNode}
use Rattle.ckpt_machine.proofs.HoldingLaws.{holds_served}
use Rattle.ckpt_machine.proofs.Reserving.{none_read}
use Rattle.client_calls.specs.CopyHands.{IsCopyHand, with_copy_room}
use Rattle.client_calls.specs.HandRooms.{copy_room}
use Rattle.client_calls.specs.HandSteps.{end_by, hand_taken}
use Rattle.client_calls.specs.Names.{client_by}
use Rattle.client_calls.specs.Taking.{hand_outcome, hand_told}
use Rattle.client_calls.specs.declared.in_hand.InHand.{InHand}
use Rattle.world_core.specs.declared.world.World.{World}
use Rattle.world_core.specs.Happenings.{IsNext, IsStep, rooms_at}
use Rattle.world_core.specs.HandsState.{hand_at, set_at}
use Rattle.world_core.specs.Shows.{Does, History, IsShown, machine_of}
use Rattle.world_core.proofs.Begin.{roomed}
use Rattle.world_core.proofs.CallSteps.{IsKnown, known, known_by, step_before, step_under}
use Rattle.world_core.proofs.Finding as finding
use Rattle.world_core.proofs.Freeing.{does_before}
use Rattle.world_core.proofs.Held.{IsCopyBehind, copy_stays, driver_is, next_for, state_in, with_made}
use Rattle.world_core.proofs.MadeIds.{made_stays}
use Rattle.world_core.proofs.Maps.{hand_left}
use Rattle.world_core.proofs.Reserve.{no_count, reserves}
use Rattle.world_core.proofs.Taking.{hand_ends, hand_keeps}
use Rattle.world_core.proofs.Told.{told_world}

-- ---- by a reply

-- the room that it has behind the reply, and what it has pulled into that
abbrev copy_after : Reply → Option copies.Snapshot → Option copies.Snapshot → Option copies.Snapshot
copy_after (Done answer) room had = room
copy_after reply room had = had

abbrev pulled_after : Reply → Option (List Effect) → Option (List Effect)
pulled_after (Done answer) had = None
pulled_after reply had = had

-- so it is in the hand
room_taken : (reply : Reply) (room : Option copies.Snapshot) (hand : InHand) → with_copy_room reply room hand ≡ with_made hand (copy_after reply room hand.snapshot) hand.made
room_taken (Done answer) room hand = refl
room_taken reply room hand = refl

-- nothing is told beside it
tells_nothing : (end : Option Outcome) → ended_details end beside.Nothing ≡ beside.Nothing
tells_nothing None = refl
tells_nothing (Some end) = refl

-- a copying may be refused the memory even where its replica stands
may_copy : (stands : Bool) (ask : Ask) (reply : Reply) → ask ≡ asks.Copy → MayReserve false reply → MayReserve (stands && not (takes_copy ask)) reply
may_copy stands ask reply copies may = subst (λ (a : Ask). MayReserve (stands && not (takes_copy a)) reply) (sym copies) (elim stands as (λ b. MayReserve (b && false) reply) [ true ↦ may | false ↦ may ])

-- ---- what it asks of its node

malformed_not : (R : RecordState) (q : ℕ) (o : Option Entry) → IsSomeAnd o (IsReservable R q) → IsSomeAnd o (λ e. is_malformed e.attributes ≡ false)
malformed_not R q None can = absurd can
malformed_not R q (Some e) can = can.well_formed

may_be_made : (q : ℕ) (o : Option Entry) → IsSomeAnd o (λ e. is_malformed e.attributes ≡ false) → MayBeMade (entry_seen q o)
may_be_made q None well = absurd well
may_be_made q (Some e) well = well

module _ (w : World) (n q k : ℕ) (hand : InHand) (held : hand_at w.hands (Actor (Node n)) ≡ Some hand) (its : IsNext w (Actor (Node n)) (Serve q (Reserve k))) (shown : IsShown w) where
  can_reserve : (q < 8) × IsSomeAnd (entry_of k w.cluster.entries) (IsReservable w.cluster q)
  can_reserve = let is = known w shown in finding.ready w shown.shows.history (Actor (Node n)) q (Reserve k) hand is.facts is.fits held (next_for w (Actor (Node n)) (Serve q (Reserve k)) hand held its)

  pub asks_node : q < 8
  asks_node = can_reserve.0

  pub asks_well_formed : IsSomeAnd (entry_of k w.cluster.entries) (λ e. is_malformed e.attributes ≡ false)
  asks_well_formed = malformed_not w.cluster q (entry_of k w.cluster.entries) can_reserve.1

  pub asks_may : MayCome w.cluster (node_at w.nodes q) (Reserve k) nothing_lent
  asks_may = may_be_made q (entry_of k w.cluster.entries) asks_well_formed

-- ---- the step

module _ (w : World) (n q k : ℕ) (hand : InHand) (reply : Reply) (held : hand_at w.hands (Actor (Node n)) ≡ Some hand) (its : IsNext w (Actor (Node n)) (Serve q (Reserve k))) (copies_is : IsCopyHand hand) (may : MayReserve false reply) (eight : length w.nodes ≡ 8) (small : q < 8) where
  abbrev v : Who
  v = Actor (Node n)

  abbrev next : driver_next w.cluster (rooms_at w (client_by (Actor (Node n)))) hand.driver ≡ Serve q (Reserve k)
  next = next_for w (Actor (Node n)) (Serve q (Reserve k)) hand held its

  abbrev p : Payload
  p = payload_of nothing_lent

  abbrev behind : World
  behind = record w { nodes = nodes_after w.cluster w.nodes q (Reserve k) p reply }

  -- the room that was taken for it
  abbrev room : Option copies.Snapshot
  room = copy_room (declared_at w.cluster (Some k))

  abbrev copy : Option copies.Snapshot
  copy = copy_after reply room hand.snapshot

  abbrev done : StepDone
  done = served_done w.cluster (Reserve k) q reply

  abbrev end : Option Outcome
  end = end_by w.cluster done reply hand

  abbrev label : Label
  label = Stepped hand.call (word_of_op hand.op) verbs.Reserve (Some k) (Some q) (word_of reply) end beside.Nothing

  abbrev told : World
  told = told_world behind (Actor (Node n)) hand copy hand.made done end

  within : q < length w.nodes
  within = let e : length w.nodes ≡ 8 = eight in let s : q < 8 = small in omega (arith, e, s)

  asks_copy : asked hand.op ≡ asks.Copy
  asks_copy = ap asked copies_is.op

  none_counted : 0 ≡ count_told reply
  none_counted = no_count w v q k hand p reply held next may within

  -- what the hand has then
  copy_is : (h : History) → IsKnown w h → IsCopyBehind (kept_by (machine_of w h) (state_in h v hand) verbs.Reserve (Some k) (word_of reply)) hand (pulled_by (machine_of w h) (state_in h v hand) verbs.Reserve (Some k) (Some q) (word_of reply)) (pulled_after reply (h.pulled v)) copy
  copy_is h known =
      let m : Machine = machine_of w h in
      let s : CallState = state_in h v hand in
      elim may [
        | inl is ↦ subst (λ (a : Reply). IsCopyBehind (kept_by m s verbs.Reserve (Some k) (word_of a)) hand (pulled_by m s verbs.Reserve (Some k) (Some q) (word_of a)) (pulled_after a (h.pulled v)) (copy_after a room hand.snapshot)) (sym is) (record {
          same = refl;
          room = subst (λ (a : Ask). IsRoomToCopy a (kept_reserving a k w.cluster s.kept).declares room) (sym asks_copy) (roomed (declared_at w.cluster (Some k)));
          counts = tt;
        })
        | inr is ↦ subst (λ (a : Reply). IsCopyBehind (kept_by m s verbs.Reserve (Some k) (word_of a)) hand (pulled_by m s verbs.Reserve (Some k) (Some q) (word_of a)) (pulled_after a (h.pulled v)) (copy_after a room hand.snapshot)) (sym is) (copy_stays w h v hand held known.fits)
      ]

  copy_does : Does w told label
  copy_does =
      does_before w told label
      (step_before w v hand held behind (λ h. h) verbs.Reserve (Some k) (Some q) (word_of reply) end beside.Nothing (count_told reply) copy hand.made (λ h. pulled_after reply (h.pulled v)) (Serve q (Reserve k)) next held (λ h. refl) (λ h known. record {
        done = record {
          answer = reply;
          may = may_copy (is_some ((machine_of w h).reserved k q)) (asked hand.op) reply asks_copy may;
          verb = refl;
          ckpt = refl;
          node = refl;
          reply = refl;
          details = sym (ap (ended_details end) (none_read k (payload_due (machine_of w h) (state_in h v hand)) (record_seen w.cluster k q) (seen_at (machine_of w h) k q)) ∙ tells_nothing end);
          end = λ i. let d = counting (sym none_counted i) (done_of w.cluster verbs.Reserve (Some k) (Some q) (word_of reply)) in driver_end w.cluster hand.op d reply (driver_taken d (driver_is w h v hand held known.fits i));
        };
        change = (reserves w v q k hand p reply held next may within h known).change;
        fits = (reserves w v q k hand p reply held next may within h known).fits;
        count_is = none_counted;
        made_is = made_stays w h v hand held known.fits verbs.Reserve (Some k) (Some q) done refl tt;
        copy_is = copy_is h known;
      }))
      (λ m s f. let is = known_by w m s f in holds_served w.cluster w.nodes q (Reserve k) p reply is.holds within (λ j e. subst (IsServable (machine_of w s.history) q) e (finding.ready w s.history v q (Reserve k) hand is.facts is.fits held next).1))
      (λ m s f. s.keeps)
      (λ m s f. s.rooms)

  -- what is lent to nothing is asked of the node
  asks_of : (given : InHand) → given ≡ with_copy_room reply room hand → AsksNode w.cluster given.driver q (Reserve k)
  asks_of given is = record { rooms = rooms_at w (client_by v); next_is = ap (λ (z : InHand). driver_next w.cluster (rooms_at w (client_by v)) z.driver) (is ∙ room_taken reply room hand) ∙ next }

  -- THE STEP, with the parts as the code names them
  pub reserved_step : (call : CallId) (given taken : InHand) (its_end : Option Outcome) (slot : Option InHand) (nodes : List (List Replica)) (told_so : Label) → call ≡ hand.call → given ≡ with_copy_room reply room hand → taken ≡ hand_told w.cluster reply given → its_end ≡ hand_outcome w.cluster reply given →
      slot ≡ option_and_then (left its_end) (Some taken) → nodes ≡ nodes_after w.cluster w.nodes q (Reserve k) p reply → told_so ≡ Stepped call opwords.Copy verbs.Reserve (Some k) (Some q) (word_of reply) its_end beside.Nothing →
      IsStep (Actor (Node n)) w (record w { nodes = nodes; hands = set_at w.hands (Actor (Node n)) slot }) told_so
  reserved_step call given taken its_end slot nodes told_so call_is given_is taken_is end_is slot_is nodes_is label_is =
      let next_hand : InHand = hand_taken done (with_made hand copy hand.made) in
      let asking = asks_of given given_is in
      let held_so : given ≡ with_made hand copy hand.made = given_is ∙ room_taken reply room hand in
      let taken_so : taken ≡ next_hand = taken_is ∙ hand_keeps w.cluster reply q (Reserve k) given asking ∙ ap (hand_taken done) held_so in
      let ends_so : its_end ≡ end = end_is ∙ hand_ends w.cluster reply q (Reserve k) given taken asking taken_is ∙ ap (λ (z : InHand). driver_end w.cluster z.op done reply z.driver) taken_so in
      let world_is : record w { nodes = nodes; hands = set_at w.hands v slot } ≡ told = λ i. record w { nodes = nodes_is i; hands = set_at w.hands v ((slot_is ∙ (λ j. left (ends_so j) (taken_so j))) i) } in
      let word_is : opwords.Copy ≡ word_of_op hand.op = ap word_of_op (sym copies_is.op) in
      let says : told_so ≡ label = label_is ∙ (λ i. Stepped (call_is i) (word_is i) verbs.Reserve (Some k) (Some q) (word_of reply) (ends_so i) beside.Nothing) in
      subst (λ (z : World × Label). IsStep (Actor (Node n)) w z.0 z.1) (λ i. (sym world_is i, sym says i))
      (step_under v w told hand next_hand (word_of_op hand.op) verbs.Reserve (Some k) (Some q) (word_of reply) end beside.Nothing held refl refl (hand_left w.hands v hand next_hand end held refl) copy_does)
