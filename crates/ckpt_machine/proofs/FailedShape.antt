-- The replicas and the shape of a checkpoint behind the failure of a node.
use Rattle.std.proofs.Common.{◌≡◌, ℕ, Option, Some, None, Bool, true, false, cond, ◌==◌, refl, sym, ap, subst, ◌∙◌}
use Rattle.std.specs.Prelude.{if◌then◌else◌}
use Rattle.std.proofs.lemmas.Bool.{eqb-true}
use Rattle.std.proofs.lemmas.Option.{same_Some}
use Rattle.ckpt_types.specs.declared.identities.CallId.{CallId}
use Rattle.cluster_record.specs.declared.entries.Entry.{Entry}
use Rattle.cluster_record.specs.RecordState.{RecordState, entry_of, is_active, is_live}
use Rattle.weak_marks.specs.Marks.{Marked}
use Rattle.ckpt_machine.specs.Machine.{ReplicaState}
use Rattle.ckpt_machine.specs.Shape.{Shape, IsShaped, IsApart, IsShapedBy, marks_at}
use Rattle.ckpt_machine.specs.Failing.{broken, broken_unless, made_present, replica_left}
use Rattle.ckpt_machine.proofs.MarksAt.{none_marked}

-- ---- the shape

-- marks stand still where their call is live
abbrev pub marks_left : RecordState → Option Marked → Option Marked
marks_left R None = None
marks_left R (Some marks) = if is_live R marks.call then Some marks else None

-- the shape of a checkpoint with this active: no slot is on the node any more, and no marks where it had the active
abbrev pub shape_left : RecordState → ℕ → Option ℕ → Shape → Shape
shape_left R r active z = record z { owners = λ q. cond (q == r) None (z.owners q); marks = cond (is_active active r) None (marks_left R z.marks) }

-- of a checkpoint that is there
abbrev pub shape_then : RecordState → ℕ → Option Entry → Shape → Shape
shape_then R r None z = z
shape_then R r (Some e) z = shape_left R r e.active z

-- an owner that is left was one, on another node
pub owner_left : (R : RecordState) (r : ℕ) (active : Option ℕ) (z : Shape) (q : ℕ) (d : CallId) → (shape_left R r active z).owners q ≡ Some d → ((q == r) ≡ false) × (z.owners q ≡ Some d)
owner_left R r active z q d owns = elim (q == r) as (λ b. cond b None (z.owners q) ≡ Some d → (b ≡ false) × (z.owners q ≡ Some d)) [ true ↦ λ gone. absurd (cc gone) | false ↦ λ was. (refl, was) ] owns

-- and an owner on another node is left
pub owner_stays : (R : RecordState) (r : ℕ) (active : Option ℕ) (z : Shape) (q : ℕ) → (q == r) ≡ false → (shape_left R r active z).owners q ≡ z.owners q
owner_stays R r active z q other = ap (λ b. cond b None (z.owners q)) other

-- marks that are left stood, of a call that is live still, and not where the node had the active
pub marks_were : (R : RecordState) (r : ℕ) (active : Option ℕ) (z : Shape) (marks : Marked) → (shape_left R r active z).marks ≡ Some marks → (is_active active r ≡ false) × (z.marks ≡ Some marks) × (is_live R marks.call ≡ true)
marks_were R r active z marks is = elim (is_active active r) as (λ b. cond b None (marks_left R z.marks) ≡ Some marks → (b ≡ false) × (z.marks ≡ Some marks) × (is_live R marks.call ≡ true)) [
  | true ↦ λ gone. absurd (cc gone)
  | false ↦ λ left. (let (was, live) = stood z.marks left in (refl, was, live))
] is
  where
    stood : (o : Option Marked) → marks_left R o ≡ Some marks → (o ≡ Some marks) × (is_live R marks.call ≡ true)
    stood None left = absurd (cc left)
    stood (Some w) left = elim (is_live R w.call) as (λ b. is_live R w.call ≡ b → cond b (Some w) None ≡ Some marks → (Some w ≡ Some marks) × (is_live R marks.call ≡ true)) [
      | true ↦ λ live same. (same, ap (λ (x : Marked). is_live R x.call) (sym (same_Some w marks same)) ∙ live)
      | false ↦ λ dead gone. absurd (cc gone)
    ] refl left

-- where none stood, none are left
pub none_left : (R : RecordState) (r : ℕ) (active : Option ℕ) (z : Shape) → z.marks ≡ None → (shape_left R r active z).marks ≡ None
none_left R r active z none = elim (is_active active r) as (λ b. cond b None (marks_left R z.marks) ≡ None) [ true ↦ refl | false ↦ ap (marks_left R) none ]

-- ---- a replica

-- what does not look at the generation
present-same : {X : Type 0} (P : ReplicaState → X) → ((x : ReplicaState) (g : ℕ) → P (record x { generation = g }) ≡ P x) → (o : Option Entry) (q : ℕ) (x : ReplicaState) → P (made_present o q x) ≡ P x
present-same P same None q x = refl
present-same P same (Some e) q x = elim (is_active e.active q) as (λ b. P (cond b (record x { generation = e.generation }) x) ≡ P x) [ true ↦ same x e.generation | false ↦ refl ]

-- one without marks is what it was but for its generation
pub unmarked-same : {X : Type 0} (P : ReplicaState → X) → ((x : ReplicaState) (g : ℕ) → P (record x { generation = g }) ≡ P x) → (R : RecordState) (k q : ℕ) (x : ReplicaState) → x.marks ≡ None → P (replica_left R k q x) ≡ P x
unmarked-same P same R k q x none = present-same P same (entry_of k R.entries) q (broken_unless R x.marks x) ∙ ap (λ o. P (broken_unless R o x)) none

-- its slot stays
slot-broken : (R : RecordState) (o : Option Marked) (x : ReplicaState) → (broken_unless R o x).slot ≡ x.slot
slot-broken R None x = refl
slot-broken R (Some marked) x = elim (is_live R marked.call) as (λ b. (cond b x (broken marked x)).slot ≡ x.slot) [ true ↦ refl | false ↦ refl ]

-- and its marks where their call is live
marks-broken : (R : RecordState) (o : Option Marked) (x : ReplicaState) → x.marks ≡ o → (broken_unless R o x).marks ≡ marks_left R o
marks-broken R None x is = is
marks-broken R (Some marked) x is = elim (is_live R marked.call) as (λ b. (cond b x (broken marked x)).marks ≡ cond b (Some marked) None) [ true ↦ is | false ↦ refl ]

-- its generation
generation-broken : (R : RecordState) (o : Option Marked) (x : ReplicaState) → (broken_unless R o x).generation ≡ x.generation
generation-broken R None x = refl
generation-broken R (Some marked) x = elim (is_live R marked.call) as (λ b. (cond b x (broken marked x)).generation ≡ x.generation) [ true ↦ refl | false ↦ refl ]

-- is that of its checkpoint on the active, and its own elsewhere
pub generation_led : (R : RecordState) (k q : ℕ) (f : Entry) (x : ReplicaState) → entry_of k R.entries ≡ Some f → (replica_left R k q x).generation ≡ cond (is_active f.active q) f.generation x.generation
generation_led R k q f x found =
    ap (λ o. (made_present o q (broken_unless R x.marks x)).generation) found
    ∙ elim (is_active f.active q) as (λ b. (cond b (record (broken_unless R x.marks x) { generation = f.generation }) (broken_unless R x.marks x)).generation ≡ cond b f.generation x.generation) [ true ↦ refl | false ↦ generation-broken R x.marks x ]

-- so its slot stays
pub slot_left : (R : RecordState) (k q : ℕ) (x : ReplicaState) → (replica_left R k q x).slot ≡ x.slot
slot_left R k q x = present-same (λ (y : ReplicaState). y.slot) (λ x g. refl) (entry_of k R.entries) q (broken_unless R x.marks x) ∙ slot-broken R x.marks x

-- and its marks are those that are left
pub marks_stay : (R : RecordState) (k q : ℕ) (x : ReplicaState) → (replica_left R k q x).marks ≡ marks_left R x.marks
marks_stay R k q x = present-same (λ (y : ReplicaState). y.marks) (λ x g. refl) (entry_of k R.entries) q (broken_unless R x.marks x) ∙ marks-broken R x.marks x refl

-- ---- by the shape

module _ (R : RecordState) (k r : ℕ) (active : Option ℕ) (z : Shape) where
  -- the shape behind the failure
  abbrev sh : Shape
  sh = shape_left R r active z

  -- what the shape says of a replica by its owner, it says still
  IsShaped-owner : (o : Option CallId) (x : ReplicaState) → IsShaped z o x → IsShaped sh o x
  IsShaped-owner None x is = record { slot = is.slot; sections = is.sections; effects = is.effects; unmarked = is.unmarked }
  IsShaped-owner (Some d) x is = record { slot = is.slot; sections = is.sections; effects = is.effects; unmarked = is.unmarked }

  -- where updates are on all replicas
  pub IsShaped-left : (q : ℕ) (x : ReplicaState) → (q == r) ≡ false → IsShaped z (z.owners q) x → IsShaped sh (sh.owners q) (replica_left R k q x)
  IsShaped-left q x other was =
      let is = IsShaped-owner (z.owners q) x was in
      subst (λ o. IsShaped sh o (replica_left R k q x)) (sym (owner_stays R r active z q other)) (record {
        slot = slot_left R k q x ∙ is.slot;
        sections = unmarked-same (λ (y : ReplicaState). y.sections) (λ x g. refl) R k q x is.unmarked ∙ is.sections;
        effects = unmarked-same (λ (y : ReplicaState). y.effects) (λ x g. refl) R k q x is.unmarked ∙ is.effects;
        unmarked = marks_stay R k q x ∙ ap (marks_left R) is.unmarked;
      })

  -- the marks that are left on a node are those on it that are left
  marks_left-at : (o : Option ℕ) (q : ℕ) → marks_left R (marks_at o z.marks q) ≡ marks_at o (marks_left R z.marks) q
  marks_left-at None q = refl
  marks_left-at (Some p) q = elim (q == p) as (λ b. marks_left R (cond b z.marks None) ≡ cond b (marks_left R z.marks) None) [ true ↦ refl | false ↦ refl ]

  -- the marks on a node that stays
  marks_then : (then_active : Option ℕ) (q : ℕ) → (q == r) ≡ false → (is_active active r ≡ false → then_active ≡ active) → marks_left R (marks_at active z.marks q) ≡ marks_at then_active sh.marks q
  marks_then then_active q other same = elim (is_active active r) as (λ b. is_active active r ≡ b → marks_left R (marks_at active z.marks q) ≡ marks_at then_active (cond b None (marks_left R z.marks)) q) [
    | true ↦ λ gone. ap (marks_left R) (elsewhere active gone) ∙ sym (none_marked then_active q)
    | false ↦ λ stays. marks_left-at active q ∙ ap (λ o. marks_at o (marks_left R z.marks) q) (sym (same stays))
  ] refl
    where
      elsewhere : (o : Option ℕ) → is_active o r ≡ true → marks_at o z.marks q ≡ None
      elsewhere None is = absurd (cc is)
      elsewhere (Some p) is = ap (λ b. cond b z.marks None) (ap (λ (n : ℕ). q == n) (eqb-true p r is) ∙ other)

  -- where they are on the active alone
  pub IsApart-left : (then_active : Option ℕ) (q : ℕ) (x : ReplicaState) → (q == r) ≡ false → (is_active active r ≡ false → then_active ≡ active) → IsApart (marks_at active z.marks q) x → IsApart (marks_at then_active sh.marks q) (replica_left R k q x)
  IsApart-left then_active q x other same was = record {
    free = slot_left R k q x ∙ was.free;
    marks_are = marks_stay R k q x ∙ ap (marks_left R) was.marks_are ∙ marks_then then_active q other same;
  }

  -- either way
  pub IsShapedBy-left : (all : Bool) (then_active : Option ℕ) (q : ℕ) (x : ReplicaState) → (q == r) ≡ false → (is_active active r ≡ false → then_active ≡ active) → IsShapedBy all z active q x → IsShapedBy all sh then_active q (replica_left R k q x)
  IsShapedBy-left true then_active q x other same was = IsShaped-left q x other was
  IsShapedBy-left false then_active q x other same was = IsApart-left then_active q x other same was
