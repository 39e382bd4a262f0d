-- What is told of one client's table is told of the tables of all, where it stands among them.
use Rattle.std.proofs.Common.{◌≡◌, ℕ, ◌<◌, List, length, Bool, Option, Some, None, true, sym, ap, subst, ◌∙◌}
use Rattle.std.specs.Prelude.{◌-◌, ◌^◌, slice_get, slice_set}
use Rattle.std.proofs.lemmas.Option.{slice_get_within}
use Rattle.ckpt_types.specs.declared.answers.Outcome.{Outcome}
use Rattle.ckpt_types.specs.declared.operation.Op.{Op}
use Rattle.ckpt_types.specs.Asks.{asked}
use Rattle.node_msgs.specs.declared.next.RecordStep.{RecordStep}
use Rattle.node_msgs.specs.declared.next.RecordStep.TheVariants as events
use Rattle.node_msgs.specs.declared.replies.Reply.{Reply}
use Rattle.node_msgs.specs.declared.replies.Reply.TheVariants as replies
use Rattle.node_msgs.specs.declared.requests.Request.{Request}
use Rattle.node_msgs.specs.declared.requests.Request.TheVariants as requests
use Rattle.section_iter.specs.KeptIds.{KeptIds}
use Rattle.client_handles.specs.declared.handle_view.HandleView.{HandleView}
use Rattle.client_handles.specs.ClientState.{ClientState, has_handle_room}
use Rattle.cluster_record.specs.RecordState.{RecordState}
use Rattle.ckpt_machine.specs.Tables.{started}
use Rattle.client_calls.specs.Lending.{lending, come_back, table_lending, table_keeping}
use Rattle.world_core.specs.TablesLending.{tables_lending, tables_keeping}
use Rattle.world_core.specs.LiveRooms.{room_is_taken}
use Rattle.world_core.specs.declared.world.World.{World}
use Rattle.client_calls.specs.Standings.{standing}
use Rattle.ckpt_machine.proofs.NodeMaps.{set_again}
use Rattle.world_core.specs.TablesState.{standing_in, kept_by, pending_by, table_changed, at_client}
use Rattle.client_calls.specs.TableSettling.{table_settled, table_looked, MayGive, MaySettle}
use Rattle.world_core.specs.Settling.{settled, looked, CanGive, CanSettle}
use Rattle.client_calls.specs.TableState.{TableState, next_in, kept_in, pending_in, with_client}

module _ (tables : List TableState) (c : ℕ) (t : TableState) (there : slice_get tables c ≡ Some t) where
  pub within : c < length tables
  within = slice_get_within tables c t there

  pub kept_is : kept_by tables c ≡ t.client
  kept_is = ap kept_in there

  pub pending_is : pending_by tables c ≡ t.pending
  pending_is = ap pending_in there

  pub next_is : next_in (slice_get tables c) ≡ t.next
  next_is = ap next_in there

  -- what a beginning looks at
  pub standing_is : (live : Bool) (h : Option HandleView) → standing live h t ≡ standing_in live h c tables
  standing_is live h = λ i. record { live = live; handle = h; callbacks = (sym kept_is i).callbacks; pending = sym pending_is i }

  -- with it changed
  pub changed_is : (change : TableState → TableState) → slice_set tables c (change t) ≡ at_client c change tables
  changed_is change = ap (table_changed c change tables) (sym there)

  -- where it stays
  pub stays : slice_set tables c t ≡ tables
  stays = set_again tables c t there

  pub settled_is : (R : RecordState) (op : Op) (step : RecordStep) (k : Option ℕ) → slice_set tables c (table_settled R op step k t) ≡ settled R c op step k tables
  settled_is R op step k = changed_is (table_settled R op step k)

  pub looked_is : (end : Outcome) (op : Op) → slice_set tables c (table_looked end op t) ≡ looked end c op tables
  looked_is end op = changed_is (table_looked end op)

  pub lending_is : (request : Request) (op : Op) → slice_set tables c (table_lending request op t) ≡ tables_lending request c op tables
  lending_is (requests.Next call k) op = changed_is (with_client (lending (asked op)))
  lending_is request op = stays

  pub keeping_is : (request : Request) (op : Op) (reply : Reply) (kept : Option KeptIds) → slice_set tables c (table_keeping request op reply kept t) ≡ tables_keeping request c op reply kept tables
  keeping_is (requests.Iterate call k choice) op (replies.Done answer) None = stays
  keeping_is (requests.Iterate call k choice) op (replies.Done answer) (Some kept) = changed_is (with_client (started (asked op) kept.room (λ choice. kept.ids)))
  keeping_is (requests.Iterate call k choice) op reply None = stays
  keeping_is (requests.Iterate call k choice) op reply (Some kept) = stays
  keeping_is (requests.Next call k) op reply None = stays
  keeping_is (requests.Next call k) op reply (Some kept) = changed_is (with_client (come_back (asked op) kept))
  keeping_is request op reply None = stays
  keeping_is request op reply (Some kept) = stays

  may_give : (op : Op) → CanGive c op tables → MayGive op t
  may_give op can = record {
    built = can.built;
    roomy = sym (ap room_is_taken there) ∙ can.roomy;
    room = subst (λ (s : ClientState). has_handle_room s ≡ true) kept_is can.room;
    number = subst (λ (s : ClientState). s.last_number < 2 ^ 32 - 1) kept_is can.number;
  }

  pub may_settle : (op : Op) (step : RecordStep) → CanSettle c op step tables → MaySettle op step t
  may_settle op events.Enter can = sym (ap room_is_taken there) ∙ can
  may_settle op events.Open can = may_give op can
  may_settle op events.Finish can = may_give op can
  may_settle op step can = tt

-- so the world stays as it was
pub world_stays : (w : World) (c : ℕ) (t same : TableState) → slice_get w.tables c ≡ Some t → same ≡ t → record w { tables = slice_set w.tables c same } ≡ w
world_stays w c t same there is = ap (λ (tables : List TableState). record w { tables = tables }) (ap (slice_set w.tables c) is ∙ stays w.tables c t there)
