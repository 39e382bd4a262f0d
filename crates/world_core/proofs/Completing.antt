-- A node comes to be complete for a checkpoint, with what its copying has pulled: what the world shows then.
use Rattle.std.proofs.Common.{◌≡◌, inl, ℕ, ◌≤◌, ℤ, List, length, Bool, true, false, cond, refl, sym, ap, subst, ◌∙◌}
use Rattle.std.specs.Prelude.{Option, Some, None, IsSome, IsSomeAnd, is_some, ◌==◌, ◌&&◌, slice_index}
use Rattle.std.proofs.lemmas.Bool.{eq-eqb}
use Rattle.std.proofs.lemmas.Option.{same_Some}
use Rattle.ckpt_types.specs.declared.attributes.CreationAttributes.{CreationAttributes}
use Rattle.ckpt_types.specs.declared.identities.CallId.{CallId}
use Rattle.cluster_record.specs.declared.entries.Entry.{Entry}
use Rattle.cluster_record.specs.DueCopy.{lacks_replica}
use Rattle.cluster_record.specs.Joining.{completed, completed_on}
use Rattle.cluster_record.specs.Places.{change_key, put2}
use Rattle.cluster_record.specs.RecordState.{RecordState, entry_of, is_up, swept}
use Rattle.node_core.specs.Nodes.{is_there, replica_key}
use Rattle.node_core.proofs.OnceByKey.{counted, counted-change_key}
use Rattle.replica.specs.Replicas.{Replica, opened_replica}
use Rattle.snap_copy.specs.Snapshots as copies
use Rattle.ckpt_machine.specs.Machine.{Machine, Effect, Snapshot}
use Rattle.ckpt_machine.specs.After.{with_record}
use Rattle.ckpt_machine.specs.Holding.{replicas_on, HoldsOnlyWhatStands, IsHeld}
use Rattle.ckpt_machine.specs.Nodes.{freed, replica_in, with_changed}
use Rattle.ckpt_machine.specs.Shown.{FitsReplica, shown_replica}
use Rattle.ckpt_machine.proofs.FreedNodes.{filtered_once, holds_behind, replica_in-freed}
use Rattle.ckpt_machine.proofs.GoesAt.{GoesAt}
use Rattle.ckpt_machine.proofs.Going.{complete_then, complete_there, completed_goes, completed_once, declares, entry_then, raised, raised_nodes, raised_there, reserved_replica}
use Rattle.ckpt_machine.proofs.HoldingLaws.{StandsFor, held_at, holds_by_key, once_set}
use Rattle.ckpt_machine.proofs.NodeMaps.{both_true, changed_here}
use Rattle.ckpt_machine.proofs.ServedNodes.{node_within}
use Rattle.ckpt_machine.proofs.StepDone.{replica_given}
use Rattle.world_core.specs.Copying.{copied_over, nodes_copied}
use Rattle.world_core.specs.declared.world.World.{World}
use Rattle.world_core.specs.Freeing.{freed_world}
use Rattle.world_core.specs.Shows.{History, HistoryFits, machine_of}
use Rattle.world_core.proofs.CallSteps.{IsKnown}
use Rattle.world_core.proofs.CopiedNodes.{copied_as, copied_key}
use Rattle.world_core.proofs.Freeing.{Fits-freed, machine_of-freed}
use Rattle.world_core.proofs.Recording.{record_fits, record_is, with_effects}
use Rattle.world_core.proofs.ReplicaChanged.{IsShownBy, replica_put}

-- ---- the replica that takes over what was pulled

-- that which a reservation has made shows what the machine gives it then
copied_shown : (call : CallId) (moment : Option ℤ) (f : Entry) (s : copies.Snapshot) (C : List Effect) (x : Replica) → x.slot ≡ None → x.marks ≡ None →
    replica_given call moment (Some f) (Some (record { sections = s.sections; effects = C; generation = s.generation })) ≡ shown_replica C call (Some (copied_over call moment f.generation s x))
copied_shown call None f s C x free unmarked = sym (λ i. shown_replica C call (Some (copied_over call None f.generation s (record x { slot = free i; marks = unmarked i }))))
copied_shown call (Some t) f s C x free unmarked = sym (λ i. shown_replica C call (Some (copied_over call (Some t) f.generation s (record x { slot = free i; marks = unmarked i }))))

-- and it counts the effects
copied_fits : (call : CallId) (moment : Option ℤ) (f : Entry) (s : copies.Snapshot) (C : List Effect) (k : ℕ) (a : CreationAttributes) (made : ℤ) → a ≡ f.attributes → length C ≡ s.count → FitsReplica k (Some f) C (Some (copied_over call moment f.generation s (opened_replica k a made)))
copied_fits call None f s C k a made declares counts = (refl, declares, counts, tt)
copied_fits call (Some t) f s C k a made declares counts = (refl, declares, counts, (refl, refl))

-- ---- the world behind it

module _ (w : World) (h : History) (is : IsKnown w h) (k r : ℕ) (e : Entry) (found : entry_of k w.cluster.entries ≡ Some e) (some : IsSome ((machine_of w h).reserved k r)) (lacks : lacks_replica r e ≡ true) (up : is_up r w.cluster ≡ true) (wide : length e.complete ≡ 8) where
  abbrev m : Machine
  m = machine_of w h

  -- the record behind it, and the entry
  abbrev pub R : RecordState
  R = swept (completed k r w.cluster)

  abbrev pub f : Entry
  f = completed_on r (slice_index w.cluster.up r) e

  -- the replica that the reservation has made
  abbrev pub x : Replica
  x = opened_replica k e.attributes e.made

  abbrev high : List (List Replica)
  high = raised_nodes m w.nodes (λ k r. refl) is.facts is.holds k r e found some lacks up wide

  -- the world with the record behind it, where the node's replica has the generation that its checkpoint has then
  abbrev between : World
  between = record w { cluster = R; nodes = high }

  goes : (j q : ℕ) → GoesAt w.cluster.up j (entry_of j w.cluster.entries) (entry_of j R.entries) q (replica_in w.nodes j q) (replica_in high j q)
  goes = completed_goes m w.nodes (λ k r. refl) is.facts is.holds k r e found some lacks up wide

  pub entry_behind : entry_of k R.entries ≡ Some f
  entry_behind = entry_then m w.nodes (λ k r. refl) is.facts is.holds k r e found some lacks up wide

  -- it is what the machine has with that record
  pub between_is : with_record m R ≡ machine_of between (with_effects w h)
  between_is = record_is w h R high w.snapshots goes refl is.keeps (λ k. refl)

  between_fits : HistoryFits between (with_effects w h)
  between_fits = record_fits w h R high w.snapshots goes refl is.keeps (λ k. refl) is.fits

  between_holds : HoldsOnlyWhatStands R (freed R.entries high)
  between_holds = holds_behind w.cluster R w.nodes high refl goes is.holds (completed_once m w.nodes (λ k r. refl) is.facts is.holds k r e found some lacks up wide)

  -- ---- with what was pulled

  module _ (call : CallId) (moment : Option ℤ) (s : copies.Snapshot) (C : List Effect) (counts : length C ≡ s.count) where
    abbrev F : Replica → Replica
    F = copied_over call moment f.generation s

    abbrev left : List (List Replica)
    left = freed R.entries w.nodes

    abbrev nodes : List (List Replica)
    nodes = with_changed k r F left

    -- the world behind the completion
    abbrev pub copied_world : World
    copied_world = record (freed_world (record w { cluster = R })) { nodes = nodes }

    -- with this history
    abbrev pub copied_history : History
    copied_history = record (with_effects w h) { effects = put2 (with_effects w h).effects k r C; origins = put2 h.origins k r call }

    -- what is freed leaves the node's replica
    pub left_there : replica_in left k r ≡ Some x
    left_there = replica_in-freed R.entries w.nodes k r ∙ ap (λ o. cond (is_some o) (replica_in w.nodes k r) None) entry_behind ∙ reserved_replica m w.nodes (λ k r. refl) is.facts is.holds k r e found some lacks up wide

    high_there : replica_in (freed R.entries high) k r ≡ Some (raised f.generation x)
    high_there =
        replica_in-freed R.entries high k r ∙ ap (λ o. cond (is_some o) (replica_in high k r) None) entry_behind
        ∙ raised_there m w.nodes (λ k r. refl) is.facts is.holds k r e found some lacks up wide k r
        ∙ (λ i. cond (eq-eqb k k refl i && eq-eqb r r refl i) (Some (raised f.generation x)) (replica_in w.nodes k r))

    -- and each other as it was
    same_else : (j q : ℕ) → ((j == k) && (q == r)) ≡ false → replica_in left j q ≡ replica_in (freed R.entries high) j q
    same_else j q other =
        replica_in-freed R.entries w.nodes j q
        ∙ ap (λ y. cond (is_some (entry_of j R.entries)) y None) (sym (raised_there m w.nodes (λ k r. refl) is.facts is.holds k r e found some lacks up wide j q ∙ ap (λ b. cond b (Some (raised f.generation x)) (replica_in w.nodes j q)) other))
        ∙ sym (replica_in-freed R.entries high j q)

    at_each : (j q : ℕ) → replica_in nodes j q ≡ cond ((j == k) && (q == r)) (Some (F x)) (replica_in (freed R.entries high) j q)
    at_each j q = changed_here left k r F (copied_key call moment f.generation s) x left_there j q ∙ elim ((j == k) && (q == r)) as (λ b. ((j == k) && (q == r)) ≡ b → cond b (Some (F x)) (replica_in left j q) ≡ cond b (Some (F x)) (replica_in (freed R.entries high) j q)) [ true ↦ λ here. refl | false ↦ λ other. same_else j q other ] refl

    -- they hold only what stands
    held_copied : IsHeld R r (F x)
    held_copied = record {
      up = up;
      stands = subst (λ j. IsSomeAnd (entry_of j R.entries) (StandsFor R r (F x))) (sym (copied_key call moment f.generation s x))
          (subst (λ o. IsSomeAnd o (StandsFor R r (F x))) (sym entry_behind) (inl (complete_then m w.nodes (λ k r. refl) is.facts is.holds k r e found some lacks up wide)));
    }

    held_each : (j q : ℕ) (z : Replica) → replica_in nodes j q ≡ Some z → IsHeld R q z
    held_each j q z has = by_here ((j == k) && (q == r)) refl (sym (at_each j q) ∙ has) where
      by_here : (b : Bool) → ((j == k) && (q == r)) ≡ b → cond b (Some (F x)) (replica_in (freed R.entries high) j q) ≡ Some z → IsHeld R q z
      by_here true here same = subst (λ (y : ℕ × Replica). IsHeld R y.0 y.1) (λ i. (sym (both_true j k q r here).1 i, same_Some (F x) z same i)) held_copied
      by_here false other same = (held_at R (freed R.entries high) between_holds j q z same).0

    left_once : (q j : ℕ) → counted replica_key j (replicas_on left q) ≤ 1
    left_once = filtered_once (is_there R.entries) w.nodes is.holds.once

    holds_copied : HoldsOnlyWhatStands R nodes
    holds_copied = holds_by_key R nodes held_each (once_set left r (node_within left k r x left_there) (change_key replica_key k F (replicas_on left r))
        (λ j. subst (λ n. n ≤ 1) (sym (counted-change_key replica_key k j F (copied_key call moment f.generation s) (replicas_on left r))) (left_once r j)) left_once)

    put_there : IsShownBy (record (machine_of (freed_world between) (with_effects w h)) { replicas = put2 (machine_of (freed_world between) (with_effects w h)).replicas k r (shown_replica C call (Some (F x))) }) copied_world copied_history
    put_there = replica_put (freed_world between) (with_effects w h) (Fits-freed between (with_effects w h) between_fits) k r f entry_behind (complete_there m w.nodes (λ k r. refl) is.facts is.holds k r e found some lacks up wide) (raised f.generation x) high_there C call nodes (F x) at_each holds_copied
        (copied_fits call moment f s C k e.attributes e.made (sym (declares m w.nodes (λ k r. refl) is.facts is.holds k r e found some lacks up wide)) counts)

    -- the world shows what the machine has with that replica
    pub copied_is : let pulled : Snapshot = record { sections = s.sections; effects = C; generation = s.generation } in
        IsShownBy (record (machine_of between (with_effects w h)) { replicas = put2 (machine_of between (with_effects w h)).replicas k r (replica_given call moment (entry_of k R.entries) (Some pulled)) }) copied_world copied_history
    copied_is = record {
      same =
          ap (λ y. record (machine_of between (with_effects w h)) { replicas = put2 (machine_of between (with_effects w h)).replicas k r y }) (ap (λ o. replica_given call moment o (Some (record { sections = s.sections; effects = C; generation = s.generation }))) entry_behind ∙ copied_shown call moment f s C x refl refl)
          ∙ ap (λ (n : Machine). record n { replicas = put2 n.replicas k r (shown_replica C call (Some (F x))) }) (sym (machine_of-freed between (with_effects w h)))
          ∙ put_there.same;
      fits = put_there.fits;
      holds = put_there.holds;
    }

    -- the nodes are what the code makes of them
    pub nodes_are : nodes_copied k r call moment (Some s) (entry_of k R.entries) left ≡ nodes
    nodes_are = sym (copied_as left k r call moment (entry_of k R.entries) f entry_behind (Some s) s refl (complete_there m w.nodes (λ k r. refl) is.facts is.holds k r e found some lacks up wide))
