-- The clients that are live have their room, whatever a call makes of the record and of a table.
use Rattle.std.proofs.Common.{◌≡◌, ℕ, Bool, true, false, List, [], ◌∷◌, ◌++◌, Option, Some, None, refl, sym, ap, subst, ◌∙◌, cond, ◌==◌}
use Rattle.std.specs.Prelude.{filter, is_some, not, slice_get, slice_set, slice_index}
use Rattle.std.proofs.lemmas.Bool.{eqb-true}
use Rattle.ckpt_types.specs.declared.answers.Outcome.{Outcome}
use Rattle.ckpt_types.specs.declared.answers.Outcome.TheVariants.{Done}
use Rattle.ckpt_types.specs.declared.identities.CallId.{CallId}
use Rattle.ckpt_types.specs.declared.identities.Who.{Who}
use Rattle.ckpt_types.specs.declared.identities.Who.TheVariants.{Actor, Call}
use Rattle.call_dispatch.specs.PendingCalls.{PendingCalls}
use Rattle.world_core.specs.Alone.{ended_tables}
use Rattle.client_calls.specs.TableEnds.{table_ended}
use Rattle.ckpt_types.specs.declared.operation.Op.{Op}
use Rattle.node_msgs.specs.declared.next.RecordStep.{RecordStep}
use Rattle.cluster_record.specs.declared.clients.LiveClient.{LiveClient}
use Rattle.cluster_record.specs.Calls.{client_of}
use Rattle.cluster_record.specs.Places.{find_key}
use Rattle.cluster_record.specs.RecordState.{RecordState, client_key}
use Rattle.ckpt_machine.specs.Drivers.{Driver}
use Rattle.ckpt_machine.specs.Drivers as drivers
use Rattle.cluster_record.specs.DueOnce as once
use Rattle.world_core.specs.declared.world.World.{World}
use Rattle.client_handles.specs.ClientState.{ClientState}
use Rattle.ckpt_machine.specs.RecordAfter.{event_after}
use Rattle.world_core.specs.LiveRooms.{room_is_taken, LiveHaveRoom}
use Rattle.world_core.specs.Settling.{settled, looked}
use Rattle.ckpt_types.specs.Asks.{asked}
use Rattle.ckpt_machine.specs.Tables.{tables_done}
use Rattle.node_msgs.specs.Steps.{event_verb}
use Rattle.client_calls.specs.TableSettling.{table_looked}
use Rattle.client_calls.specs.TableState.{TableState, with_calls, with_client}
use Rattle.world_core.specs.TablesState.{table_changed, at_client}
use Rattle.ckpt_machine.proofs.KeptEntries.{clients_behind, event_declared}
use Rattle.world_core.proofs.TableFields.{field_same}

-- ---- another table in a client's place

module _ (w : World) (R : RecordState) (c : ℕ) where
  -- with as much room taken
  pub rooms_set : (t t' : TableState) → slice_get w.tables c ≡ Some t → t.roomy ≡ t'.roomy → LiveHaveRoom R w.tables → LiveHaveRoom R (slice_set w.tables c t')
  rooms_set t t' table same rooms d live = sym (field_same w c t t' table room_is_taken same d) ∙ rooms d live

  changed : (f : TableState → TableState) → ((t : TableState) → t.roomy ≡ (f t).roomy) → (o : Option TableState) → slice_get w.tables c ≡ o → LiveHaveRoom R w.tables → LiveHaveRoom R (table_changed c f w.tables o)
  changed f same None is rooms = rooms
  changed f same (Some t) is rooms = rooms_set t (f t) is (same t) rooms

  pub rooms_at : (f : TableState → TableState) → ((t : TableState) → t.roomy ≡ (f t).roomy) → LiveHaveRoom R w.tables → LiveHaveRoom R (at_client c f w.tables)
  rooms_at f same rooms = changed f same (slice_get w.tables c) refl rooms

  -- what is kept there changes no room
  pub rooms_client : (change : ClientState → ClientState) → LiveHaveRoom R w.tables → LiveHaveRoom R (at_client c (with_client change) w.tables)
  rooms_client change rooms = rooms_at (with_client change) (λ t. refl) rooms

  -- nor do its asynchronous calls
  pub rooms_calls : (change : PendingCalls → PendingCalls) → LiveHaveRoom R w.tables → LiveHaveRoom R (at_client c (with_calls change) w.tables)
  rooms_calls change rooms = rooms_at (with_calls change) (λ t. refl) rooms

  -- by what a step of the record makes of it
  pub rooms_settled : (N : RecordState) (op : Op) (step : RecordStep) (k : Option ℕ) → LiveHaveRoom R w.tables → LiveHaveRoom R (settled N c op step k w.tables)
  rooms_settled N op step k rooms = rooms_client (tables_done N (asked op) (event_verb step) k) rooms

  -- and a look at it
  looked_roomy : (end : Outcome) (op : Op) (t : TableState) → t.roomy ≡ (table_looked end op t).roomy
  looked_roomy (Done answer) op t = refl
  looked_roomy end op t = refl

  pub rooms_looked : (end : Outcome) (op : Op) → LiveHaveRoom R w.tables → LiveHaveRoom R (looked end c op w.tables)
  rooms_looked end op rooms = rooms_at (table_looked end op) (looked_roomy end op) rooms

-- an end of which a client is to be told changes none either
pub rooms_ended : (w : World) (R : RecordState) (v : Who) (end : Option Outcome) → LiveHaveRoom R w.tables → LiveHaveRoom R (ended_tables v end w.tables)
rooms_ended w R (Actor a) end rooms = rooms
rooms_ended w R (Call call) None rooms = rooms
rooms_ended w R (Call call) (Some end) rooms = rooms_at w R (client_of call) (table_ended call end) (λ t. refl) rooms

-- ---- another record

-- of fewer clients
fewer_step : (p : LiveClient → Bool) (d : ℕ) (x : LiveClient) (xs : List LiveClient) (stays is : Bool) → (is_some (find_key client_key d (filter p xs)) ≡ true → is_some (find_key client_key d xs) ≡ true) → (client_key x == d) ≡ is
    → is_some (find_key client_key d (cond stays (x ∷ filter p xs) (filter p xs))) ≡ true → is_some (cond is (Some x) (find_key client_key d xs)) ≡ true
fewer_step p d x xs stays true behind same found = refl
fewer_step p d x xs true false behind same found = behind (ap (λ b. is_some (cond b (Some x) (find_key client_key d (filter p xs)))) (sym same) ∙ found)
fewer_step p d x xs false false behind same found = behind found

fewer_rooms : (p : LiveClient → Bool) (d : ℕ) (xs : List LiveClient) → is_some (find_key client_key d (filter p xs)) ≡ true → is_some (find_key client_key d xs) ≡ true
fewer_rooms p d [] found = found
fewer_rooms p d (x ∷ xs) found = fewer_step p d x xs (p x) (client_key x == d) (fewer_rooms p d xs) refl found

-- one more is live
more : (P : ℕ → Type 0) (new : LiveClient) (d : ℕ) (xs : List LiveClient) → P (client_key new) → (is_some (find_key client_key d xs) ≡ true → P d) → is_some (find_key client_key d (xs ++ new ∷ [])) ≡ true → P d
more P new d [] here there found = by_key (client_key new == d) refl found where
  by_key : (a : Bool) → (client_key new == d) ≡ a → is_some (cond a (Some new) None) ≡ true → P d
  by_key true same found = subst P (eqb-true (client_key new) d same) here
  by_key false same found = absurd (cc found)
more P new d (x ∷ xs) here there found = by_key (client_key x == d) there (λ later. more P new d xs here later) found where
  by_key : (a : Bool) → (is_some (cond a (Some x) (find_key client_key d xs)) ≡ true → P d) → ((is_some (find_key client_key d xs) ≡ true → P d) → is_some (find_key client_key d (xs ++ new ∷ [])) ≡ true → P d) → is_some (cond a (Some x) (find_key client_key d (xs ++ new ∷ []))) ≡ true → P d
  by_key true there behind found = there refl
  by_key false there behind found = behind there found

-- a client that becomes live has its room
abbrev pub EntersWithRoom : CallId → Driver → List TableState → Type 0
EntersWithRoom call (drivers.Once (once.Enter r)) tables = room_is_taken (slice_get tables (client_of call)) ≡ true
EntersWithRoom call driver tables = Unit {0}

-- so it is after a step of the record
pub rooms_after : (call : CallId) (x : Driver) (step : RecordStep) (R : RecordState) (tables : List TableState) → EntersWithRoom call x tables → LiveHaveRoom R tables → LiveHaveRoom (event_after call x step R) tables
rooms_after call x step R tables enters rooms = λ d live. by_driver d x enters (subst (λ (clients : List LiveClient). is_some (find_key client_key d clients) ≡ true) (event_declared R call x step).2 live) where
  by_driver : (d : ℕ) (x : Driver) → EntersWithRoom call x tables → is_some (find_key client_key d (clients_behind call x R)) ≡ true → room_is_taken (slice_get tables d) ≡ true
  by_driver d (drivers.Once (once.Enter r)) enters live = more (λ d. room_is_taken (slice_get tables d) ≡ true) (record { client = client_of call; node = r; incarnation = slice_index R.up r; initialize = call.number }) d R.clients enters (rooms d) live
  by_driver d (drivers.Once once.Leave) enters live = rooms d (fewer_rooms (λ l. not (client_key l == client_of call)) d R.clients live)
  by_driver d x enters live = rooms d live
