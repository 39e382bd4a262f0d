-- What the failure of a node leaves of this one, change by change: behind each that is due the same is left, in fewer changes, until none is due.
use Rattle.std.proofs.Common.{◌≡◌, ℕ, ◌+◌, ◌<◌, ◌≤◌, Bool, true, false, cond, not, ◌==◌, List, [], ◌∷◌, map, filter, length, refl, sym, ap, subst, ◌∙◌, arith, eqb-true, eq-eqb}
use Rattle.std.specs.Prelude.{Option, Some, None, is_some, ◌&&◌}
use Rattle.std.proofs.lemmas.Bool.{and_parts}
use Rattle.std.proofs.lemmas.Option.{same_Some}
use Rattle.cluster_record.specs.declared.entries.Entry.{Entry}
use Rattle.cluster_record.specs.Places.{find_key, change_key}
use Rattle.cluster_record.specs.RecordState.{RecordState, entry_of, is_active}
use Rattle.node_msgs.specs.declared.changes.NodeChange.{NodeChange}
use Rattle.node_msgs.specs.declared.changes.NodeChange.TheVariants as changes
use Rattle.replica.specs.Replicas.{Replica, abandoned}
use Rattle.weak_marks.specs.Marks.{Marked}
use Rattle.node_core.specs.declared.lent.Lent.{Lent}
use Rattle.node_core.specs.Changing.{replicas_changed, changed_node, ChangeFits}
use Rattle.node_core.specs.Failing.{is_cut_short, is_to_lead, change_due, or_later, first_due, clear_due, next_change, WantsNothing, HoldsEachOnce, unless_cut_short, of_present, replica_left, replicas_left, node_left}
use Rattle.node_core.specs.Nodes.{NodeState, replica_key, is_there}
use Rattle.node_core.specs.Payloads.{Payload}
use Rattle.node_core.specs.Seen.{RecordSeen}
use Rattle.node_core.proofs.OnceByKey.{counted-behind, first-other, counted-change_key, counted-filter}

-- ---- how many changes are due

abbrev one_if : Bool → ℕ
one_if b = cond b 1 0

-- at a replica, one after the other
abbrev due_by : RecordState → ℕ → Option Entry → Replica → ℕ
due_by R r None x = 1
due_by R r (Some e) x = one_if (is_cut_short R x.marks) + one_if (is_to_lead r e x)

abbrev due_at : RecordState → ℕ → Replica → ℕ
due_at R r x = due_by R r (entry_of x.ckpt R.entries) x

-- at all of these
abbrev due_in : RecordState → ℕ → List Replica → ℕ
due_in R r [] = 0
due_in R r (x ∷ xs) = due_at R r x + due_in R r xs

-- at a node, or on the one that failed as many as it has replicas
abbrev pub changes_left : RecordState → ℕ → NodeState → ℕ
changes_left R failed n = cond (n.number == failed) (length n.replicas) (due_in R n.number n.replicas)

-- ---- what a change comes to

-- a replica's checkpoint stands, and the failure leaves it as it is
record Stays (R : RecordState) (r : ℕ) (o : Option Entry) (x : Replica) : Type 0 where
  there : is_some o ≡ true
  same : of_present r o (unless_cut_short R x) ≡ x

-- of another replica of its checkpoint the same is left, in fewer changes
record ComesTo (R : RecordState) (r : ℕ) (x y : Replica) : Type 0 where
  ckpt : y.ckpt ≡ x.ckpt
  left : replica_left R r y ≡ replica_left R r x
  fewer : due_at R r y < due_at R r x

-- and of other replicas, no two of which are of one checkpoint where no two were
record AllComeTo (R : RecordState) (r : ℕ) (xs ys : List Replica) : Type 0 where
  left : replicas_left R r ys ≡ replicas_left R r xs
  fewer : due_in R r ys < due_in R r xs

-- a change wants nothing, and behind it, whatever it sees, is what these replicas come to
record GoesOn (R : RecordState) (r : ℕ) (xs : List Replica) (change : NodeChange) : Type 0 where
  wants : WantsNothing change
  once : HoldsEachOnce xs → (seen : RecordSeen) (p : Payload) → HoldsEachOnce (replicas_changed seen change p xs)
  comes : (seen : RecordSeen) (p : Payload) → AllComeTo R r xs (replicas_changed seen change p xs)

-- the same of a node, for whichever has failed
pub record NodeGoesOn (R : RecordState) (failed : ℕ) (n : NodeState) (change : NodeChange) : Type 0 where
  pub wants : WantsNothing change
  pub once : HoldsEachOnce n.replicas → (seen : RecordSeen) (p : Payload) → HoldsEachOnce (changed_node seen change p n).replicas
  pub left : (seen : RecordSeen) (p : Payload) → node_left R failed (changed_node seen change p n) ≡ node_left R failed n
  pub fewer : (seen : RecordSeen) (p : Payload) → changes_left R failed (changed_node seen change p n) < changes_left R failed n

-- an ended weak write is of the same checkpoint
abandoned-ckpt : (x : Replica) (marks : Option Marked) → (abandoned x marks).ckpt ≡ x.ckpt
abandoned-ckpt x None = refl
abandoned-ckpt x (Some marked) = refl

module _ (R : RecordState) (r : ℕ) where
  -- the change that is due at a replica
  abbrev due : Replica → Option NodeChange
  due x = change_due R r (entry_of x.ckpt R.entries) x

  -- what is left of these, where a test lets the first in
  abbrev with_first : Bool → Replica → List Replica → List Replica
  with_first b x xs = map (replica_left R r) (cond b (x ∷ filter (is_there R.entries) xs) (filter (is_there R.entries) xs))

  -- ---- where none is due

  generation-same : (e : Entry) (x : Replica) → is_to_lead r e x ≡ false → of_present r (Some e) x ≡ x
  generation-same e x is = by (is_active e.active r) (x.generation == e.generation) refl is where
    by : (b c : Bool) → (x.generation == e.generation) ≡ c → (b && not c) ≡ false → cond b (record x { generation = e.generation }) x ≡ x
    by false c same is = refl
    by true true same is = ap (λ g. record x { generation = g }) (sym (eqb-true x.generation e.generation same))
    by true false same is = absurd cc

  stays : (o : Option Entry) (x : Replica) → change_due R r o x ≡ None → Stays R r o x
  stays None x none = absurd cc
  stays (Some e) x none = by (is_cut_short R x.marks) (is_to_lead r e x) refl refl none where
    by : (b c : Bool) → is_cut_short R x.marks ≡ b → is_to_lead r e x ≡ c → cond b (Some (changes.Break x.ckpt)) (cond c (Some (changes.Lead x.ckpt e.generation)) None) ≡ None → Stays R r (Some e) x
    by true c short lead none = absurd cc
    by false true short lead none = absurd cc
    by false false short lead none = record { there = refl; same = ap (λ b. of_present r (Some e) (cond b (abandoned x x.marks) x)) short ∙ generation-same e x lead }

  -- each replica is as the failure leaves it
  left-end : (xs : List Replica) → first_due R r xs ≡ None → replicas_left R r xs ≡ xs
  left-end [] none = refl
  left-end (x ∷ xs) none = by (due x) refl none (left-end xs) where
    by : (o : Option NodeChange) → due x ≡ o → or_later o (first_due R r xs) ≡ None → (first_due R r xs ≡ None → replicas_left R r xs ≡ xs) → replicas_left R r (x ∷ xs) ≡ x ∷ xs
    by (Some change) is none more = absurd cc
    by None is none more =
        let s = stays (entry_of x.ckpt R.entries) x is in
        ap (λ b. with_first b x xs) s.there ∙ ap (λ z. z ∷ replicas_left R r xs) s.same ∙ ap (λ zs. x ∷ zs) (more none)

  -- ---- a replica that is changed

  -- what is left of the others is told of all
  left-cons : (x : Replica) (xs ys : List Replica) → replicas_left R r ys ≡ replicas_left R r xs → replicas_left R r (x ∷ ys) ≡ replicas_left R r (x ∷ xs)
  left-cons x xs ys rest = elim (is_there R.entries x) as (λ b. with_first b x ys ≡ with_first b x xs) [ true ↦ ap (λ zs. replica_left R r x ∷ zs) rest | false ↦ rest ]

  comes-cons : (x : Replica) (xs ys : List Replica) → AllComeTo R r xs ys → AllComeTo R r (x ∷ xs) (x ∷ ys)
  comes-cons x xs ys c = record { left = left-cons x xs ys c.left; fewer = let fewer = c.fewer in omega (arith, fewer) }

  comes-first : (x y : Replica) (xs : List Replica) → ComesTo R r x y → AllComeTo R r (x ∷ xs) (y ∷ xs)
  comes-first x y xs c = record {
    left = ap (λ k. with_first (is_some (entry_of k R.entries)) y xs) c.ckpt ∙ elim (is_there R.entries x) as (λ b. with_first b y xs ≡ with_first b x xs) [ true ↦ ap (λ z. z ∷ replicas_left R r xs) c.left | false ↦ refl ];
    fewer = let fewer = c.fewer in omega (arith, fewer);
  }

  -- the one of a checkpoint is changed
  one-changed : (k : ℕ) (f : Replica → Replica) (x : Replica) → ComesTo R r x (f x) → (xs : List Replica) → find_key replica_key k xs ≡ Some x → AllComeTo R r xs (change_key replica_key k f xs)
  one-changed k f x c [] is = absurd cc
  one-changed k f x c (y ∷ ys) is = by (y.ckpt == k) is (one-changed k f x c ys) where
    by : (b : Bool) → cond b (Some y) (find_key replica_key k ys) ≡ Some x → (find_key replica_key k ys ≡ Some x → AllComeTo R r ys (change_key replica_key k f ys)) → AllComeTo R r (y ∷ ys) (cond b (f y ∷ ys) (y ∷ change_key replica_key k f ys))
    by true is more = subst (λ z. AllComeTo R r (z ∷ ys) (f z ∷ ys)) (sym (same_Some y x is)) (comes-first x (f x) ys c)
    by false is more = comes-cons y ys (change_key replica_key k f ys) (more is)

  -- ---- a replica that goes

  no-more : (p : Replica → Bool) (xs : List Replica) → due_in R r (filter p xs) ≤ due_in R r xs
  no-more p [] = omega arith
  no-more p (x ∷ xs) =
      let fewer = no-more p xs in
      elim (p x) as (λ b. due_in R r (cond b (x ∷ filter p xs) (filter p xs)) ≤ due_at R r x + due_in R r xs) [ true ↦ omega (arith, fewer) | false ↦ omega (arith, fewer) ]

  module _ (k : ℕ) (gone : entry_of k R.entries ≡ None) where
    abbrev others : List Replica → List Replica
    others xs = filter (λ (x : Replica). not (x.ckpt == k)) xs

    gone-at : (x : Replica) → (x.ckpt == k) ≡ true → entry_of x.ckpt R.entries ≡ None
    gone-at x is = ap (λ k. entry_of k R.entries) (eqb-true x.ckpt k is) ∙ gone

    gone-left : (xs : List Replica) → replicas_left R r (others xs) ≡ replicas_left R r xs
    gone-left [] = refl
    gone-left (x ∷ xs) = by (x.ckpt == k) refl (gone-left xs) where
      by : (b : Bool) → (x.ckpt == k) ≡ b → replicas_left R r (others xs) ≡ replicas_left R r xs → replicas_left R r (cond (not b) (x ∷ others xs) (others xs)) ≡ replicas_left R r (x ∷ xs)
      by true is rest = rest ∙ ap (λ o. with_first (is_some o) x xs) (sym (gone-at x is))
      by false is rest = left-cons x xs (others xs) rest

    gone-fewer : (x : Replica) (xs : List Replica) → find_key replica_key k xs ≡ Some x → due_in R r (others xs) < due_in R r xs
    gone-fewer x [] is = absurd cc
    gone-fewer x (y ∷ ys) is = by (y.ckpt == k) refl is (gone-fewer x ys) where
      by : (b : Bool) → (y.ckpt == k) ≡ b → cond b (Some y) (find_key replica_key k ys) ≡ Some x → (find_key replica_key k ys ≡ Some x → due_in R r (others ys) < due_in R r ys) → due_in R r (cond (not b) (y ∷ others ys) (others ys)) < due_in R r (y ∷ ys)
      by true at is more =
          let one : due_at R r y ≡ 1 = ap (λ o. due_by R r o y) (gone-at y at) in
          let less = no-more (λ (x : Replica). not (x.ckpt == k)) ys in
          omega (arith, one, less)
      by false at is more = let less = more is in omega (arith, less)

  -- ---- the changes

  -- a weak write that was cut short ends
  breaks : (e : Entry) (x : Replica) (marks : Option Marked) → entry_of x.ckpt R.entries ≡ Some e → x.marks ≡ marks → is_cut_short R marks ≡ true → ComesTo R r x (abandoned x marks)
  breaks e x None there at short = absurd cc
  breaks e x (Some marked) there at short =
      let y = abandoned x (Some marked) in
      record {
        ckpt = refl;
        left = ap (of_present r (entry_of x.ckpt R.entries)) (sym (ap (λ marks. cond (is_cut_short R marks) (abandoned x marks) x) at ∙ ap (λ b. cond b y x) short));
        fewer = subst (λ o. due_by R r o y < due_by R r o x) (sym there) (let one : one_if (is_cut_short R x.marks) ≡ 1 = ap one_if (ap (is_cut_short R) at ∙ short) in omega (arith, one));
      }

  -- a new active gets the generation
  leads : (e : Entry) (x : Replica) → entry_of x.ckpt R.entries ≡ Some e → is_cut_short R x.marks ≡ false → is_to_lead r e x ≡ true → ComesTo R r x (record x { generation = e.generation })
  leads e x there short lead =
      let y : Replica = record x { generation = e.generation } in
      let active : is_active e.active r ≡ true = (and_parts (is_active e.active r) (not (x.generation == e.generation)) lead).0 in
      let done : is_to_lead r e y ≡ false = ap (λ b. b && not (e.generation == e.generation)) active ∙ ap not (eq-eqb e.generation e.generation refl) in
      record {
        ckpt = refl;
        left =
            ap (λ b. of_present r (entry_of x.ckpt R.entries) (cond b (abandoned y y.marks) y)) short
            ∙ subst (λ o. of_present r o y ≡ of_present r o x) (sym there) (ap (λ b. cond b (record x { generation = e.generation }) y) active ∙ sym (ap (λ b. cond b (record x { generation = e.generation }) x) active))
            ∙ sym (ap (λ b. of_present r (entry_of x.ckpt R.entries) (cond b (abandoned x x.marks) x)) short);
        fewer =
            subst (λ o. due_by R r o y < due_by R r o x) (sym there)
            (let none : one_if (is_to_lead r e y) ≡ 0 = ap one_if done in let one : one_if (is_to_lead r e x) ≡ 1 = ap one_if lead in omega (arith, none, one));
      }

  -- the change that is due at the replica of a checkpoint
  due-goes : (xs : List Replica) (x : Replica) (o : Option Entry) (change : NodeChange) → entry_of x.ckpt R.entries ≡ o → find_key replica_key x.ckpt xs ≡ Some x → change_due R r o x ≡ Some change → GoesOn R r xs change
  due-goes xs x None change gone found is = subst (GoesOn R r xs) (same_Some (changes.Drop x.ckpt) change is) (record {
    wants = tt;
    once = λ once seen p k. let few = counted-filter replica_key (λ (y : Replica). not (y.ckpt == x.ckpt)) k xs in let one = once k in omega (arith, few, one);
    comes = λ seen p. record { left = gone-left x.ckpt gone xs; fewer = gone-fewer x.ckpt gone x xs found };
  })
  due-goes xs x (Some e) change there found is = by (is_cut_short R x.marks) (is_to_lead r e x) refl refl is where
    kept : (f : Replica → Replica) → ((y : Replica) → (f y).ckpt ≡ y.ckpt) → HoldsEachOnce xs → HoldsEachOnce (change_key replica_key x.ckpt f xs)
    kept f same once k = subst (λ n. n ≤ 1) (sym (counted-change_key replica_key x.ckpt k f same xs)) (once k)

    by : (b c : Bool) → is_cut_short R x.marks ≡ b → is_to_lead r e x ≡ c → cond b (Some (changes.Break x.ckpt)) (cond c (Some (changes.Lead x.ckpt e.generation)) None) ≡ Some change → GoesOn R r xs change
    by true c short lead is = subst (GoesOn R r xs) (same_Some (changes.Break x.ckpt) change is) (record {
      wants = tt;
      once = λ once seen p. kept (λ (y : Replica). abandoned y y.marks) (λ y. abandoned-ckpt y y.marks) once;
      comes = λ seen p. one-changed x.ckpt (λ (y : Replica). abandoned y y.marks) x (breaks e x x.marks there refl short) xs found;
    })
    by false true short lead is = subst (GoesOn R r xs) (same_Some (changes.Lead x.ckpt e.generation) change is) (record {
      wants = tt;
      once = λ once seen p. kept (λ (y : Replica). record y { generation = e.generation }) (λ y. refl) once;
      comes = λ seen p. one-changed x.ckpt (λ (y : Replica). record y { generation = e.generation }) x (leads e x there short lead) xs found;
    })
    by false false short lead is = absurd cc

  -- the first change that is due is due at the replica of its checkpoint
  due-first : (xs : List Replica) (change : NodeChange) → HoldsEachOnce xs → first_due R r xs ≡ Some change → (x : Replica) × (find_key replica_key x.ckpt xs ≡ Some x) × (due x ≡ Some change)
  due-first [] change once is = absurd cc
  due-first (x ∷ xs) change once is = by (due x) refl is (due-first xs change (λ k. counted-behind replica_key k x xs (once k))) where
    by : (o : Option NodeChange) → due x ≡ o → or_later o (first_due R r xs) ≡ Some change → (first_due R r xs ≡ Some change → (y : Replica) × (find_key replica_key y.ckpt xs ≡ Some y) × (due y ≡ Some change)) →
        (y : Replica) × (find_key replica_key y.ckpt (x ∷ xs) ≡ Some y) × (due y ≡ Some change)
    by (Some first) here is more = (x, ap (λ b. cond b (Some x) (find_key replica_key x.ckpt xs)) (eq-eqb x.ckpt x.ckpt refl), here ∙ is)
    by None here is more =
        let (y, found, at) = more is in
        (y, ap (λ b. cond b (Some x) (find_key replica_key y.ckpt xs)) (first-other replica_key y.ckpt x xs y (once y.ckpt) found) ∙ found, at)

  first-goes : (xs : List Replica) (change : NodeChange) → HoldsEachOnce xs → first_due R r xs ≡ Some change → GoesOn R r xs change
  first-goes xs change once is = let (x, found, at) = due-first xs change once is in due-goes xs x (entry_of x.ckpt R.entries) change refl found at

-- ---- the node

-- a change that wants nothing fits always
pub wants-fits : (seen : RecordSeen) (n : NodeState) (change : NodeChange) (lent : Lent) → WantsNothing change → ChangeFits seen n change lent
wants-fits seen n (changes.Add k generation) lent wants = absurd wants
wants-fits seen n (changes.Lend k) lent wants = absurd wants
wants-fits seen n (changes.Take k generation) lent wants = absurd wants
wants-fits seen n (changes.Stage call k t) lent wants = absurd wants
wants-fits seen n (changes.Lead k generation) lent wants = tt
wants-fits seen n (changes.Break k) lent wants = tt
wants-fits seen n (changes.Drop k) lent wants = tt
wants-fits seen n changes.Clear lent wants = tt

-- where none is due at the node, it is as the failure leaves it
pub node_left-end : (R : RecordState) (failed : ℕ) (n : NodeState) → next_change R failed n ≡ None → node_left R failed n ≡ n
node_left-end R failed n none = ap (λ xs. record n { replicas = xs }) (by (n.number == failed) n.replicas none) where
  by : (b : Bool) (xs : List Replica) → cond b (clear_due xs) (first_due R n.number xs) ≡ None → cond b [] (replicas_left R n.number xs) ≡ xs
  by true [] none = refl
  by true (x ∷ xs) none = absurd cc
  by false xs none = left-end R n.number xs none

-- behind the next one the same is left of the node, in fewer changes
pub node_goes-on : (R : RecordState) (failed : ℕ) (n : NodeState) (change : NodeChange) → HoldsEachOnce n.replicas → next_change R failed n ≡ Some change → NodeGoesOn R failed n change
node_goes-on R failed n change once is = by (n.number == failed) refl n.replicas refl is where
  by : (b : Bool) → (n.number == failed) ≡ b → (xs : List Replica) → n.replicas ≡ xs → cond b (clear_due xs) (first_due R n.number xs) ≡ Some change → NodeGoesOn R failed n change
  by true own [] these is = absurd cc
  by true own (x ∷ xs) these is = subst (NodeGoesOn R failed n) (same_Some changes.Clear change is) (record {
    wants = tt;
    once = λ once seen p k. omega arith;
    left = λ seen p. ap (λ b. record n { replicas = cond b [] (replicas_left R n.number []) }) own ∙ sym (ap (λ b. record n { replicas = cond b [] (replicas_left R n.number n.replicas) }) own);
    fewer = λ seen p.
        let now : changes_left R failed n ≡ length (x ∷ xs) = ap (λ b. cond b (length n.replicas) (due_in R n.number n.replicas)) own ∙ ap length these in
        let behind : changes_left R failed (record n { replicas = [] }) ≡ 0 = ap (λ b. cond b 0 0) own in
        omega (arith, now, behind);
  })
  by false other xs these is =
      let g = first-goes R n.number n.replicas change once (subst (λ xs. first_due R n.number xs ≡ Some change) (sym these) is) in
      record {
        wants = g.wants;
        once = g.once;
        left = λ seen p.
            let ys = replicas_changed seen change p n.replicas in
            ap (λ b. record n { replicas = cond b [] (replicas_left R n.number ys) }) other
            ∙ ap (λ zs. record n { replicas = zs }) (g.comes seen p).left
            ∙ sym (ap (λ b. record n { replicas = cond b [] (replicas_left R n.number n.replicas) }) other);
        fewer = λ seen p.
            let ys = replicas_changed seen change p n.replicas in
            let now : changes_left R failed n ≡ due_in R n.number n.replicas = ap (λ b. cond b (length n.replicas) (due_in R n.number n.replicas)) other in
            let behind : changes_left R failed (changed_node seen change p n) ≡ due_in R n.number ys = ap (λ b. cond b (length ys) (due_in R n.number ys)) other in
            let less = (g.comes seen p).fewer in
            omega (arith, now, behind, less);
      }
