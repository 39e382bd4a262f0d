-- A client whose room is taken is shown as before.
use Rattle.std.proofs.Common.{◌≡◌, ℕ, ◌-◌, ◌^◌, ◌<◌, Bool, true, false, Option, Some, refl, sym, ap, subst, ◌∙◌, cond, ◌==◌}
use Rattle.std.proofs.lemmas.Bool.{eq-eqb}
use Rattle.std.specs.Prelude.{slice_get, slice_set}
use Rattle.ckpt_types.specs.declared.identities.ActorName.{ActorName}
use Rattle.ckpt_types.specs.declared.identities.ActorName.TheVariants.{Client, Node}
use Rattle.node_msgs.specs.declared.next.Next.{Next}
use Rattle.run_labels.specs.declared.labels.Label.{Label}
use Rattle.client_handles.specs.ClientState.{ClientState}
use Rattle.cluster_record.specs.Makings.{makings_of}
use Rattle.ckpt_machine.specs.Driving.{driver_next}
use Rattle.ckpt_machine.specs.Machine.{Machine}
use Rattle.ckpt_machine.specs.Tables.{rooms_in}
use Rattle.world_core.specs.declared.world.World.{World}
use Rattle.world_core.specs.Happenings.{IsNext, IsStep}
use Rattle.world_core.specs.LiveRooms.{room_is_taken}
use Rattle.world_core.specs.Shows.{Shows, IsShown, HasNumbersLeft, History, machine_of, pending_of, tables_of}
use Rattle.client_calls.specs.TableState.{TableState, next_in, kept_in, pending_in, with_room}
use Rattle.client_calls.specs.Names.{client_by}
use Rattle.ckpt_types.specs.declared.identities.Who.{Who}
use Rattle.world_core.proofs.TableFields.{field_same, nexts_same, table_at}

-- what is known of the world is known of it with the room, and a step of it then is a step of the world
pub record KeepsWithRoom (w : World) (v : Who) (taken : World) : Type 0 where
  pub shown : IsShown w → IsShown taken
  pub next : (n : Next) → IsNext w v n → IsNext taken v n
  pub roomy : HasNumbersLeft w → HasNumbersLeft taken
  pub has_room : room_is_taken (slice_get taken.tables (client_by v)) ≡ true
  pub step : (new : World) (label : Label) → IsStep v taken new label → IsStep v w new label

module _ (w : World) (v : Who) (t : TableState) (table : slice_get w.tables (client_by v) ≡ Some t) where
  abbrev with_it : World
  with_it = record w { tables = slice_set w.tables (client_by v) (with_room t) }

  same : {X : Type 0} (f : Option TableState → X) → f (Some t) ≡ f (Some (with_room t)) → (d : ℕ) → f (slice_get w.tables d) ≡ f (slice_get with_it.tables d)
  same = field_same w (client_by v) t (with_room t) table

  tables_same : (a : ActorName) → tables_of w.tables a ≡ tables_of with_it.tables a
  tables_same (Client d) = same kept_in refl d
  tables_same (Node r) = refl

  pending_same : (a : ActorName) → pending_of w.tables a ≡ pending_of with_it.tables a
  pending_same (Client d) = same pending_in refl d
  pending_same (Node r) = refl

  machine_is : (h : History) → machine_of w h ≡ machine_of with_it h
  machine_is h = λ i. record (machine_of with_it h) {
    next = λ a. nexts_same w (client_by v) t (with_room t) table refl a i;
    tables = λ a. tables_same a i;
    pending = λ a. pending_same a i;
  }

  roomy_there : (d : ℕ) → room_is_taken (slice_get w.tables d) ≡ true → room_is_taken (slice_get with_it.tables d) ≡ true
  roomy_there d roomy = subst (λ (o : Option TableState). room_is_taken o ≡ true) (table_at w (client_by v) t (with_room t) table d) (by_test (d == client_by v)) where
    by_test : (b : Bool) → room_is_taken (cond b (Some (with_room t)) (slice_get w.tables d)) ≡ true
    by_test true = refl
    by_test false = roomy

  shows_it : (m : Machine) → Shows w m → Shows with_it m
  shows_it m s = record {
    history = s.history;
    same = s.same ∙ machine_is s.history;
    fits = record { replicas = s.fits.replicas; copies = s.fits.copies; hands = s.fits.hands };
    holds = s.holds;
    keeps = s.keeps;
    rooms = λ d live. roomy_there d (s.rooms d live);
  }

  has_it : room_is_taken (slice_get with_it.tables (client_by v)) ≡ true
  has_it = subst (λ (o : Option TableState). room_is_taken o ≡ true) (table_at w (client_by v) t (with_room t) table (client_by v)) (ap (λ b. room_is_taken (cond b (Some (with_room t)) (slice_get w.tables (client_by v)))) (eq-eqb (client_by v) (client_by v) refl))

  keeps : KeepsWithRoom w v with_it
  keeps = record {
    shown = λ shown. record { state = shown.state; shows = shows_it shown.state shown.shows; facts = shown.facts };
    next = λ n next. record { hand = next.hand; held = next.held; next_is = ap (λ (kept : ClientState). driver_next w.cluster (rooms_in (makings_of (client_by v) w.cluster.entries) kept) next.hand.driver) (sym (same kept_in refl (client_by v))) ∙ next.next_is };
    roomy = λ roomy. record {
      next = λ d. subst (λ n. n < 2 ^ 32 - 1) (same next_in refl d) (roomy.next d);
      copies = roomy.copies;
      handles = λ d. subst (λ n. n < 2 ^ 32 - 1) (same (λ o. (kept_in o).last_number) refl d) (roomy.handles d);
      iterations = λ d. subst (λ n. n < 2 ^ 32 - 1) (same (λ o. (kept_in o).last_iteration) refl d) (roomy.iterations d);
      updates = roomy.updates;
      identity = roomy.identity;
      generations = roomy.generations;
      references = roomy.references;
      incarnations = roomy.incarnations;
    };
    has_room = has_it;
    step = λ new label step. record {
      hand = step.hand;
      held = step.held;
      op = step.op;
      verb = step.verb;
      ckpt = step.ckpt;
      node = step.node;
      reply = step.reply;
      end = step.end;
      details = step.details;
      label_is = step.label_is;
      next = step.next;
      same_call = step.same_call;
      same_op = step.same_op;
      here = step.here;
      others = step.others;
      does = record { due_is = λ m s f. step.does.due_is m (shows_it m s) f; shows = λ m s f. step.does.shows m (shows_it m s) f };
    };
  }

-- with the table as the code names it
pub keeps_taken : (w : World) (v : Who) (c : ℕ) (t taken : TableState) → c ≡ client_by v → slice_get w.tables c ≡ Some t → taken ≡ with_room t → KeepsWithRoom w v (record w { tables = slice_set w.tables c taken })
keeps_taken w v c t taken its table taken_is =
    subst (λ (z : ℕ × TableState). KeepsWithRoom w v (record w { tables = slice_set w.tables z.0 z.1 })) (λ i. (sym its i, sym taken_is i))
    (keeps w v t (subst (λ n. slice_get w.tables n ≡ Some t) its table))
