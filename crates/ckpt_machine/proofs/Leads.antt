-- A replica that comes to lead a checkpoint, with what was held, where something was.
use Rattle.std.proofs.Common.{◌≡◌, ℕ, List, [], Bool, true, false, cond, refl, sym, subst}
use Rattle.std.specs.Prelude.{Option, Some, None, IsSome, is_some, ◌==◌, slice_index}
use Rattle.cluster_record.specs.declared.entries.Entry.{Entry}
use Rattle.ckpt_types.specs.declared.identities.CallId.{CallId}
use Rattle.node_core.specs.Nodes.{replica_key}
use Rattle.replica.specs.Replicas.{Replica}
use Rattle.snap_copy.specs.Snapshots as copies
use Rattle.ckpt_machine.specs.Machine.{Effect, ReplicaState, Snapshot}
use Rattle.ckpt_machine.specs.After.{with_lead}
use Rattle.ckpt_machine.specs.Leading.{copy_held, leading, CanLead}
use Rattle.ckpt_machine.specs.Shown.{FitsCopy, FitsReplica, FitsSlot, FitsSnapshot, shown_copy, shown_replica, shown_slot, shown_snapshot}

-- ---- what is held

-- what is held counts the effects that the machine's snapshot has
pub record HeldAs (snapshot : Option Snapshot) (held : Option copies.Snapshot) : Type 0 where
  pub effects : List Effect
  pub same : snapshot ≡ shown_snapshot effects held
  pub counts : FitsSnapshot effects held

-- a call has in hand what it has pulled, just where its checkpoint is held
pub held_as : (pulled : Option (List Effect)) (copy : Option copies.Snapshot) (e : Entry) → is_some (shown_copy pulled copy) ≡ is_some e.hold → FitsCopy pulled copy → HeldAs (shown_copy pulled copy) (copy_held (Some e) copy)
held_as None copy e held counts = subst (λ b. HeldAs None (cond b copy None)) held (record { effects = []; same = refl; counts = tt })
held_as (Some E) None e held counts = subst (λ b. HeldAs None (cond b None None)) held (record { effects = []; same = refl; counts = tt })
held_as (Some E) (Some t) e held counts = subst (λ b. HeldAs (shown_copy (Some E) (Some t)) (cond b (Some t) None)) held (record { effects = E; same = refl; counts = counts })

-- something is held only where something is in hand
pub held_is_there : (pulled : Option (List Effect)) (copy : Option copies.Snapshot) (e : Entry) → is_some (shown_copy pulled copy) ≡ is_some e.hold → (t : copies.Snapshot) → copy_held (Some e) copy ≡ Some t → IsSome (shown_copy pulled copy) × (copy ≡ Some t)
held_is_there pulled copy e held t is = by_hold (is_some e.hold) held is where
  by_hold : (b : Bool) → is_some (shown_copy pulled copy) ≡ b → cond b copy None ≡ Some t → IsSome (shown_copy pulled copy) × (copy ≡ Some t)
  by_hold true some is = (some, is)
  by_hold false some is = absurd (cc is)

-- ---- what the replica has then

-- its effects
abbrev pub effects_led : Option Snapshot → List Effect → List Effect
effects_led None E = E
effects_led (Some s) E = s.effects

abbrev shown_state : List Effect → CallId → Replica → ReplicaState
shown_state E o x = record { sections = x.sections; effects = E; generation = x.generation; slot = shown_slot o x.slot; marks = x.marks }

pub led_state : (snapshot : Option Snapshot) (held : Option copies.Snapshot) (C : List Effect) → snapshot ≡ shown_snapshot C held → (E : List Effect) (o : CallId) (x : Replica) (generation : ℕ) →
    Some (with_lead snapshot generation (shown_state E o x)) ≡ shown_replica (effects_led snapshot E) o (Some (leading held generation x))
led_state snapshot held C is E o x generation = subst (λ s. Some (with_lead s generation (shown_state E o x)) ≡ shown_replica (effects_led s E) o (Some (leading held generation x))) (sym is) (by_held held) where
  by_held : (held : Option copies.Snapshot) → Some (with_lead (shown_snapshot C held) generation (shown_state E o x)) ≡ shown_replica (effects_led (shown_snapshot C held) E) o (Some (leading held generation x))
  by_held None = refl
  by_held (Some s) = refl

pub leads_key : (held : Option copies.Snapshot) (generation : ℕ) (x : Replica) → replica_key (leading held generation x) ≡ replica_key x
leads_key None generation x = refl
leads_key (Some s) generation x = refl

pub led_fits : (snapshot : Option Snapshot) (held : Option copies.Snapshot) (C : List Effect) → snapshot ≡ shown_snapshot C held → FitsSnapshot C held → (k : ℕ) (e : Entry) (E : List Effect) (x : Replica) (generation : ℕ) → (IsSome held → x.slot ≡ None) → FitsReplica k (Some e) E (Some x) →
    FitsReplica k (Some e) (effects_led snapshot E) (Some (leading held generation x))
led_fits snapshot held C is counts k e E x generation rest its = subst (λ s. FitsReplica k (Some e) (effects_led s E) (Some (leading held generation x))) (sym is) (by_held held counts rest) where
  by_held : (held : Option copies.Snapshot) → FitsSnapshot C held → (IsSome held → x.slot ≡ None) → FitsReplica k (Some e) (effects_led (shown_snapshot C held) E) (Some (leading held generation x))
  by_held None counts rest = its
  by_held (Some s) counts rest = (its.0, its.1, counts, subst (FitsSlot s.count x.marks) (sym (rest refl)) tt)

-- nothing is staged on the replica that takes over what is held
pub led_free : (r : ℕ) (held : Option copies.Snapshot) (x : Replica) (e : Entry) → (slice_index e.complete r == 0) ≡ false → CanLead r held (Some x) (Some e) → IsSome held → x.slot ≡ None
led_free r None x e complete can some = absurd (cc some)
led_free r (Some s) x e complete can some = (can complete).free
