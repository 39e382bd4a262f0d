-- What is so where the record does not refuse.
use Rattle.std.proofs.Common.{◌≡◌, ℕ, ◌+◌, length, Option, Some, None, Bool, true, false, not, cond, nat_le, refl, ap}
use Rattle.std.specs.Prelude.{Ok}
use Rattle.ckpt_types.specs.declared.ais_error.AisError.TheVariants.{Exist}
use Rattle.ckpt_types.specs.declared.attributes.CreationAttributes.{CreationAttributes}
use Rattle.ckpt_types.specs.declared.identities.CallId.{CallId}
use Rattle.ckpt_types.specs.Limits.{checkpoints_max}
use Rattle.cluster_record.specs.declared.entries.Entry.{Entry}
use Rattle.cluster_record.specs.declared.opening.OpenAnswer.TheVariants.{Opened, Made, Refused}
use Rattle.cluster_record.specs.DueOpen.{accepts}
use Rattle.cluster_record.specs.LookUps.{identity_in}
use Rattle.cluster_record.specs.Makings.{making_call}
use Rattle.cluster_record.specs.Opening.{answer_by, answer_free, answer_named}
use Rattle.cluster_record.specs.Placement.{adds}
use Rattle.cluster_record.specs.RecordState.{RecordState}
use Rattle.cluster_record.specs.Refusals.{all_taken, plainly, unless_making, unlinkable}

unless_making-Ok : {X : Type 0} (o : Option CallId) (x y : X) → unless_making o x ≡ Ok y → x ≡ y
unless_making-Ok None x y e = cc
unless_making-Ok (Some call) x y e = absurd cc

-- an unlink is for the checkpoint that is there
pub unlinkable-Ok : (o : Option Entry) (k : ℕ) → unlinkable o ≡ Ok k → identity_in o ≡ Some k
unlinkable-Ok None k e = absurd cc
unlinkable-Ok (Some x) k e = ap Some (unless_making-Ok x.making x.identity k e)

unless_making-made : {X : Type 0} (o : Option CallId) (x y : X) → unless_making o x ≡ Ok y → o ≡ None
unless_making-made None x y e = refl
unless_making-made (Some call) x y e = absurd cc

-- which is not in the making
pub unlinkable-made : (o : Option Entry) (k : ℕ) → unlinkable o ≡ Ok k → making_call o ≡ None
unlinkable-made None k e = absurd cc
unlinkable-made (Some x) k e = unless_making-made x.making x.identity k e

-- nor is one that an open opens
answer_by-made : (call : Option CallId) (a : Option CreationAttributes) (opener : ℕ) (e : Entry) (k : ℕ) (added : Bool) → answer_by call a opener e ≡ Opened k added → (call ≡ None) × (e.identity ≡ k)
answer_by-made None a opener e k added is = by (accepts a e) is where
  by : (b : Bool) → cond (not b) (Refused (plainly Exist)) (Opened e.identity (adds e.attributes opener e.complete)) ≡ Opened k added → (◌≡◌ {A = Option CallId} None None) × (e.identity ≡ k)
  by true is = (refl, cc)
  by false is = absurd cc
answer_by-made (Some call) a opener e k added is = absurd cc

answer_free-opens : (R : RecordState) (a : Option CreationAttributes) (k : ℕ) (added : Bool) → answer_free R a ≡ Opened k added → ⊥
answer_free-opens R None k added is = cc
answer_free-opens R (Some a) k added is = by (nat_le checkpoints_max (length R.entries)) is where
  by : (b : Bool) → cond b (Refused (all_taken checkpoints_max)) (Made (R.last_identity + 1)) ≡ Opened k added → ⊥
  by true is = cc
  by false is = cc

pub open_answer-made : (R : RecordState) (a : Option CreationAttributes) (opener : ℕ) (o : Option Entry) (k : ℕ) (added : Bool) → answer_named R a opener o ≡ Opened k added → (making_call o ≡ None) × (identity_in o ≡ Some k)
open_answer-made R a opener None k added is = absurd (answer_free-opens R a k added is)
open_answer-made R a opener (Some e) k added is = let f = answer_by-made e.making a opener e k added is in (f.0, ap Some f.1)
