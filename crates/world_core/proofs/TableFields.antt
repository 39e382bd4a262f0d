-- A client's table with another one in its place, as the machine has it.
use Rattle.std.proofs.Common.{◌≡◌, ℕ, Bool, true, false, List, Option, Some, None, refl, sym, ap, ◌∙◌, cond, ◌==◌}
use Rattle.std.specs.Prelude.{slice_get, slice_set}
use Rattle.std.proofs.lemmas.Bool.{eqb-true}
use Rattle.ckpt_types.specs.declared.identities.ActorName.{ActorName}
use Rattle.ckpt_types.specs.declared.identities.ActorName.TheVariants.{Client, Node}
use Rattle.call_dispatch.specs.PendingCalls.{PendingCalls, no_pending}
use Rattle.client_handles.specs.ClientState.{ClientState}
use Rattle.cluster_record.specs.Calls.{put_actor}
use Rattle.cluster_record.proofs.Places.{get_set}
use Rattle.ckpt_machine.specs.Machine.{Machine, no_tables}
use Rattle.ckpt_machine.specs.After.{with_pending, with_tables}
use Rattle.world_core.specs.declared.world.World.{World}
use Rattle.client_calls.specs.TableState.{TableState, next_in, kept_in, pending_in, with_calls, with_client}
use Rattle.world_core.specs.TablesState.{kept_by, pending_by, table_changed, at_client}
use Rattle.world_core.specs.Shows.{History, machine_of, next_of, pending_of, tables_of}
use Rattle.ckpt_machine.proofs.NodeMaps.{same_there, set_again}

-- what is the same of two tables is the same where the one stands for the other
field_case : {X : Type 0} (f : Option TableState → X) (t t' : TableState) → f (Some t) ≡ f (Some t') → (b : Bool) (o : Option TableState) → (b ≡ true → o ≡ Some t) → f o ≡ f (cond b (Some t') o)
field_case f t t' same true o is = ap f (is refl) ∙ same
field_case f t t' same false o is = refl

-- what is told anew of the one is what the other has
put_case : {X : Type 0} (f : Option TableState → X) (t' : TableState) (x : X) → x ≡ f (Some t') → (b : Bool) (o : Option TableState) → cond b x (f o) ≡ f (cond b (Some t') o)
put_case f t' x is true o = is
put_case f t' x is false o = refl

module _ (w : World) (c : ℕ) (t t' : TableState) (table : slice_get w.tables c ≡ Some t) where
  abbrev pub new_world : World
  new_world = record w { tables = slice_set w.tables c t' }

  pub its_table : (d : ℕ) → (d == c) ≡ true → slice_get w.tables d ≡ Some t
  its_table d e = ap (slice_get w.tables) (eqb-true d c e) ∙ table

  pub table_at : (d : ℕ) → cond (d == c) (Some t') (slice_get w.tables d) ≡ slice_get new_world.tables d
  table_at d = sym (get_set w.tables c t' t d table)

  -- a field that is the same of both
  pub field_same : {X : Type 0} (f : Option TableState → X) → f (Some t) ≡ f (Some t') → (d : ℕ) → f (slice_get w.tables d) ≡ f (slice_get new_world.tables d)
  field_same f same d = field_case f t t' same (d == c) (slice_get w.tables d) (its_table d) ∙ ap f (table_at d)

  -- and one that is not
  pub field_put : {X : Type 0} (f : Option TableState → X) (x : X) → x ≡ f (Some t') → (d : ℕ) → cond (d == c) x (f (slice_get w.tables d)) ≡ f (slice_get new_world.tables d)
  field_put f x is d = put_case f t' x is (d == c) (slice_get w.tables d) ∙ ap f (table_at d)

  -- the numbers of the next calls, where that of the client is the same
  pub nexts_same : t.next ≡ t'.next → (a : ActorName) → next_of w a ≡ next_of new_world a
  nexts_same same (Client d) = field_same next_in same d
  nexts_same same (Node r) = refl

  -- what each client keeps, where that of the client is the same
  pub tables_same : t.client ≡ t'.client → (a : ActorName) → tables_of w.tables a ≡ tables_of new_world.tables a
  tables_same same (Client d) = field_same kept_in same d
  tables_same same (Node r) = refl

  -- and the asynchronous calls
  pub pendings_same : t.pending ≡ t'.pending → (a : ActorName) → pending_of w.tables a ≡ pending_of new_world.tables a
  pendings_same same (Client d) = field_same pending_in same d
  pendings_same same (Node r) = refl

-- a change that changes nothing leaves all as they were
pub client_same : (tables : List TableState) (c : ℕ) (change : TableState → TableState) → ((t : TableState) → change t ≡ t) → at_client c change tables ≡ tables
client_same tables c change same = by_table (slice_get tables c) refl where
  by_table : (o : Option TableState) → slice_get tables c ≡ o → table_changed c change tables o ≡ tables
  by_table None table = refl
  by_table (Some t) table = ap (slice_set tables c) (same t) ∙ set_again tables c t table

-- ---- a change of what a client keeps

module _ (w : World) (h : History) (c : ℕ) (change : ClientState → ClientState) where
  abbrev m : Machine
  m = machine_of w h

  -- a client that has no table keeps nothing
  keeps_none : slice_get w.tables c ≡ None → change no_tables ≡ no_tables → (a : ActorName) → put_actor m.tables (Client c) (change (kept_by w.tables c)) a ≡ m.tables a
  keeps_none table none (Client d) =
      let is : kept_by w.tables c ≡ no_tables = ap kept_in table in
      same_there (d == c) (change (kept_by w.tables c)) (kept_by w.tables d) (λ e. ap (kept_by w.tables) (eqb-true d c e) ∙ is ∙ sym (ap change is ∙ none))
  keeps_none table none (Node r) = refl

  keeps_changed : (t : TableState) → slice_get w.tables c ≡ Some t → (a : ActorName) → put_actor m.tables (Client c) (change (kept_by w.tables c)) a ≡ tables_of (slice_set w.tables c (with_client change t)) a
  keeps_changed t table (Client d) = field_put w c t (with_client change t) table kept_in (change (kept_by w.tables c)) (ap (λ o. change (kept_in o)) table) d
  keeps_changed t table (Node r) = refl

  change_by : (o : Option TableState) → slice_get w.tables c ≡ o → (o ≡ None → change no_tables ≡ no_tables) → with_tables (Client c) change m ≡ machine_of (record w { tables = table_changed c (with_client change) w.tables o }) h
  change_by None table none = λ i. record m { tables = λ a. keeps_none table (none refl) a i }
  change_by (Some t) table none = λ i. record (machine_of (record w { tables = slice_set w.tables c (with_client change t) }) h) {
    tables = λ a. keeps_changed t table a i;
    next = λ a. nexts_same w c t (with_client change t) table refl a i;
    pending = λ a. pendings_same w c t (with_client change t) table refl a i;
  }

  -- in the machine and in the world it is one
  pub change_is : (slice_get w.tables c ≡ None → change no_tables ≡ no_tables) → with_tables (Client c) change m ≡ machine_of (record w { tables = at_client c (with_client change) w.tables }) h
  change_is none = change_by (slice_get w.tables c) refl none

-- ---- a change of its asynchronous calls

-- of a table its calls are changed, and nothing else
pub record ChangesCalls (change : TableState → TableState) (t : TableState) : Type 0 where
  pub next : t.next ≡ (change t).next
  pub client : t.client ≡ (change t).client

module _ (w : World) (h : History) (c : ℕ) (x : PendingCalls) (change : TableState → TableState) (others : (t : TableState) → ChangesCalls change t) where
  abbrev its : Machine
  its = machine_of w h

  calls_none : slice_get w.tables c ≡ None → x ≡ no_pending → (a : ActorName) → put_actor its.pending (Client c) x a ≡ its.pending a
  calls_none table none (Client d) = same_there (d == c) x (pending_by w.tables d) (λ e. ap (pending_by w.tables) (eqb-true d c e) ∙ ap pending_in table ∙ sym none)
  calls_none table none (Node r) = refl

  calls_changed : (t : TableState) → slice_get w.tables c ≡ Some t → x ≡ (change t).pending → (a : ActorName) → put_actor its.pending (Client c) x a ≡ pending_of (slice_set w.tables c (change t)) a
  calls_changed t table is (Client d) = field_put w c t (change t) table pending_in x is d
  calls_changed t table is (Node r) = refl

  calls_by : (o : Option TableState) → slice_get w.tables c ≡ o → (o ≡ None → x ≡ no_pending) → ((t : TableState) → o ≡ Some t → x ≡ (change t).pending) → record its { pending = put_actor its.pending (Client c) x } ≡ machine_of (record w { tables = table_changed c change w.tables o }) h
  calls_by None table none some = λ i. record its { pending = λ a. calls_none table (none refl) a i }
  calls_by (Some t) table none some = λ i. record (machine_of (record w { tables = slice_set w.tables c (change t) }) h) {
    tables = λ a. tables_same w c t (change t) table (others t).client a i;
    next = λ a. nexts_same w c t (change t) table (others t).next a i;
    pending = λ a. calls_changed t table (some t refl) a i;
  }

  -- in the machine and in the world it is one, where this is what is left of them
  pub calls_are : (slice_get w.tables c ≡ None → x ≡ no_pending) → ((t : TableState) → slice_get w.tables c ≡ Some t → x ≡ (change t).pending) → record its { pending = put_actor its.pending (Client c) x } ≡ machine_of (record w { tables = at_client c change w.tables }) h
  calls_are none some = calls_by (slice_get w.tables c) refl none some

-- so it is where they alone are looked at
pub calls_is : (w : World) (h : History) (c : ℕ) (change : PendingCalls → PendingCalls) → change no_pending ≡ no_pending → with_pending (Client c) change (machine_of w h) ≡ machine_of (record w { tables = at_client c (with_calls change) w.tables }) h
calls_is w h c change none = calls_are w h c (change (pending_by w.tables c)) (with_calls change) (λ t. record { next = refl; client = refl }) (λ table. ap (λ o. change (pending_in o)) table ∙ none) (λ t table. ap (λ o. change (pending_in o)) table)
