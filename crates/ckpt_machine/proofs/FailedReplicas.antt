-- What the failure of a node leaves of a replica: what it was, unless its weak write was cut short, or its node is the active by the failure.
use Rattle.std.proofs.Common.{◌≡◌, ℕ, Option, Some, None, Bool, true, false, cond, ◌==◌, option_map, refl, sym, ap, subst, ◌∙◌}
use Rattle.std.specs.Prelude.{slice_index}
use Rattle.std.proofs.lemmas.Bool.{eqb-true}
use Rattle.std.proofs.lemmas.Option.{same_Some}
use Rattle.cluster_record.specs.declared.entries.Entry.{Entry}
use Rattle.cluster_record.specs.Failing.{goes_with_node}
use Rattle.cluster_record.specs.RecordState.{RecordState, entry_of, complete_of, is_active, is_live}
use Rattle.cluster_record.specs.Placement.{is_all}
use Rattle.weak_marks.specs.Marks.{Marked}
use Rattle.ckpt_machine.specs.Failing.{broken, broken_unless, failed_at, made_present, replica_left}
use Rattle.ckpt_machine.specs.Invariant.{Invariant, IsOfGeneration}
use Rattle.ckpt_machine.specs.Machine.{Machine, ReplicaState}
use Rattle.ckpt_machine.specs.Shape.{IsCompleteOn, IsShapedBy, marks_at}
use Rattle.ckpt_machine.specs.Due.{count_in}
use Rattle.ckpt_machine.specs.Under.{replica_under, replicas_under}
use Rattle.ckpt_machine.proofs.FailedActive.{active_is}
use Rattle.ckpt_machine.proofs.FailedEntries.{IsFailedEntry}
use Rattle.ckpt_machine.proofs.FailedHands.{WasEntry, was_entry}
use Rattle.ckpt_machine.proofs.FailureLaw.{replica_was}
use Rattle.ckpt_machine.proofs.Follows.{IsBare}
use Rattle.ckpt_machine.proofs.NodeGone.{complete_was}
use Rattle.ckpt_machine.proofs.OptionLemmas.{IsSomeAnd-at}
use Rattle.ckpt_machine.proofs.ShapedReplicas.{shaped_there, made_where_complete}

module _ (m : Machine) (inv : Invariant m) (bare : IsBare m) (r : ℕ) where
  -- the record behind the failure
  abbrev R : RecordState
  R = (failed_at r m).cluster

  -- how many updates the replicas have
  abbrev counts : ℕ → ℕ → ℕ
  counts k q = count_in (m.replicas k q)

  -- what becomes of a replica on a node, whose checkpoint was this and is that
  pub data Becomes (e f : Entry) (q : ℕ) (x y : ReplicaState) : Type 0 where
    -- it stays as it was, with marks of a call that is live, or none
    stays : y ≡ x → Becomes e f q x y
    -- its weak write was cut short, on an active that stays
    cut_short : (marks : Marked) → x.marks ≡ Some marks → is_live R marks.call ≡ false → e.active ≡ Some q → f.active ≡ Some q → f.generation ≡ e.generation → y ≡ broken marks x → Becomes e f q x y
    -- its node is the active now, where the one that failed was
    leads : is_active e.active r ≡ true → f.active ≡ Some q → x.marks ≡ None → y ≡ record x { generation = f.generation } → Becomes e f q x y

  -- a replica behind the failure, and what it was
  pub record WasReplica (k q : ℕ) (y : ReplicaState) : Type 0 where
    pub before : Entry
    pub then : Entry
    pub was : entry_of k m.cluster.entries ≡ Some before
    pub found : entry_of k R.entries ≡ Some then
    pub left : IsFailedEntry (counts before.identity) (goes_with_node m.cluster r) r before then
    pub made : before.making ≡ None
    pub complete : IsCompleteOn then q
    pub elsewhere : (q == r) ≡ false
    pub replica : ReplicaState
    pub there : m.replicas k q ≡ Some replica
    -- with marks on it nothing is staged
    pub free : (w : Marked) → replica.marks ≡ Some w → replica.slot ≡ None
    pub becomes : Becomes before then q replica y

  -- marks on a replica are on that of the active
  on_active : (o : Option ℕ) (marks : Option Marked) (q : ℕ) (w : Marked) → marks_at o marks q ≡ Some w → o ≡ Some q
  on_active None marks q w none = absurd (cc none)
  on_active (Some p) marks q w some = elim (q == p) as (λ b. (q == p) ≡ b → cond b marks None ≡ Some w → Some p ≡ Some q) [
    | true ↦ λ here is. ap Some (sym (eqb-true q p here))
    | false ↦ λ other none. absurd (cc none)
  ] refl some

  module _ (k q : ℕ) (e f : Entry) (x : ReplicaState) (was : entry_of k m.cluster.entries ≡ Some e) (found : entry_of k R.entries ≡ Some f) (left : IsFailedEntry (counts e.identity) (goes_with_node m.cluster r) r e f) (elsewhere : (q == r) ≡ false) (there : m.replicas k q ≡ Some x) where
    -- marks stand on the active alone
    stands : (w : Marked) → x.marks ≡ Some w → e.active ≡ Some q
    stands w stand = by_all (is_all e.attributes) (shaped_there m inv.shapes inv.holds bare k q x e there was).shaped
      where
        by_all : (all : Bool) → IsShapedBy all (inv.shapes k) e.active q x → e.active ≡ Some q
        by_all true shaped = absurd (let v : None ≡ Some w = sym shaped.unmarked ∙ stand in cc v)
        by_all false alone = on_active e.active (inv.shapes k).marks q w (sym alone.marks_are ∙ stand)

    -- and nothing is staged there
    free_by : (w : Marked) → x.marks ≡ Some w → x.slot ≡ None
    free_by w stand = by_all (is_all e.attributes) (shaped_there m inv.shapes inv.holds bare k q x e there was).shaped
      where
        by_all : (all : Bool) → IsShapedBy all (inv.shapes k) e.active q x → x.slot ≡ None
        by_all true shaped = absurd (let v : None ≡ Some w = sym shaped.unmarked ∙ stand in cc v)
        by_all false alone = alone.free

    -- the replica on an active that stays has the generation that this has
    present : is_active e.active r ≡ false → f.active ≡ Some q → x.generation ≡ f.generation
    present not_it led =
        let same = left.led not_it in
        let (g, found_e, may) = IsSomeAnd-at (entry_of k m.cluster.entries) (λ (e : Entry). IsCompleteOn e q × IsOfGeneration e q x.generation) (inv.holds.replicas k q x there) in
        let of_e : IsOfGeneration e q x.generation = subst (λ (e : Entry). IsOfGeneration e q x.generation) (same_Some g e (sym found_e ∙ was)) may.1 in
        of_e.led (sym same.0 ∙ led) ∙ sym same.1

    -- by its marks, and by whether the node has the active then
    becomes_by : (marks : Option Marked) → x.marks ≡ marks → (b : Bool) → is_active f.active q ≡ b → (y : ReplicaState) → cond b (record (broken_unless R marks x) { generation = f.generation }) (broken_unless R marks x) ≡ y → Becomes e f q x y
    becomes_by None none false other y is = stays (sym is)
    becomes_by None none true led y is = by_active (is_active e.active r) refl
      where
        by_active : (c : Bool) → is_active e.active r ≡ c → Becomes e f q x y
        by_active true it = leads it (active_is f.active q led) none (sym is)
        by_active false not_it = stays (sym is ∙ ap (λ g. record x { generation = g }) (sym (present not_it (active_is f.active q led))))
    becomes_by (Some marked) stand b led y is =
        let active : e.active ≡ Some q = stands marked stand in
        let not_it : is_active e.active r ≡ false = ap (λ o. is_active o r) active ∙ elsewhere in
        let then_active : f.active ≡ Some q = (left.led not_it).0 ∙ active in
        by_live active then_active (left.led not_it).1 (present not_it then_active) (is_live R marked.call) refl b is
      where
        by_live : e.active ≡ Some q → f.active ≡ Some q → f.generation ≡ e.generation → x.generation ≡ f.generation → (c : Bool) → is_live R marked.call ≡ c → (b : Bool)
            → cond b (record (cond c x (broken marked x)) { generation = f.generation }) (cond c x (broken marked x)) ≡ y → Becomes e f q x y
        by_live active then_active same own true live true is = stays (sym is ∙ ap (λ g. record x { generation = g }) (sym own))
        by_live active then_active same own true live false is = stays (sym is)
        by_live active then_active same own false dead true is = cut_short marked stand dead active then_active same (sym is ∙ ap (λ g. record (broken marked x) { generation = g }) (sym own))
        by_live active then_active same own false dead false is = cut_short marked stand dead active then_active same (sym is)

  -- WHAT IT WAS
  pub was_replica : (k q : ℕ) (y : ReplicaState) → (failed_at r m).replicas k q ≡ Some y → WasReplica k q y
  was_replica k q y is = by_under (replicas_under m.cluster R m.replicas k q) refl is
    where
      by_found : (f : Entry) → entry_of k R.entries ≡ Some f → (x : ReplicaState) → replicas_under m.cluster R m.replicas k q ≡ Some x → replica_left R k q x ≡ y → WasReplica k q y
      by_found f found x under same =
          let it : WasEntry m inv.shapes inv.holds r k f = was_entry m inv.shapes inv.holds r k f found in
          let (complete, there) = replica_was m inv.shapes inv.holds r k q f found x under in
          let elsewhere = (complete_was it.e.complete r q (ap (λ cs. slice_index cs q == 0) (sym it.left.complete) ∙ complete)).0 in
          record {
            before = it.e;
            then = f;
            was = it.was;
            found = found;
            left = it.left;
            made = made_where_complete m inv k q it.e it.was (complete_was it.e.complete r q (ap (λ cs. slice_index cs q == 0) (sym it.left.complete) ∙ complete)).1;
            complete = complete;
            elsewhere = elsewhere;
            replica = x;
            there = there;
            free = free_by k q it.e f x it.was found it.left elsewhere there;
            becomes = becomes_by k q it.e f x it.was found it.left elsewhere there x.marks refl (is_active f.active q) refl y (ap (λ o. made_present o q (broken_unless R x.marks x)) (sym found) ∙ same);
          }

      by_entry : (o : Option Entry) → entry_of k R.entries ≡ o → (x : ReplicaState) → replicas_under m.cluster R m.replicas k q ≡ Some x → replica_left R k q x ≡ y → WasReplica k q y
      by_entry None none x under same = absurd (let w : None ≡ Some x = sym (ap (λ o. replica_under o (slice_index (complete_of (entry_of k m.cluster.entries)) q) q (m.replicas k q)) none) ∙ under in cc w)
      by_entry (Some f) found x under same = by_found f found x under same

      by_under : (o : Option ReplicaState) → replicas_under m.cluster R m.replicas k q ≡ o → option_map (replica_left R k q) o ≡ Some y → WasReplica k q y
      by_under None none gone = absurd (cc gone)
      by_under (Some x) under some = by_entry (entry_of k R.entries) refl x under (same_Some (replica_left R k q x) y some)
