-- What is kept by actor, where that of one of them is changed.
use Rattle.std.proofs.Common.{◌≡◌, true, false, cond, refl, sym, ap, ◌∙◌}
use Rattle.ckpt_types.specs.declared.identities.ActorName.{ActorName}
use Rattle.client_handles.specs.ClientState.{ClientState}
use Rattle.cluster_record.specs.Calls.{same_actor, put_actor}
use Rattle.ckpt_machine.specs.Machine.{Machine}
use Rattle.ckpt_machine.specs.After.{with_tables}
use Rattle.ckpt_machine.proofs.Actors.{same_actor-refl, same_actor-true}

-- what an actor has after one actor's was changed
pub put_actor-here : {X : Type 0} (f : ActorName → X) (a : ActorName) (x : X) → put_actor f a x a ≡ x
put_actor-here f a x = ap (λ b. cond b x (f a)) (same_actor-refl a)

pub put_actor-other : {X : Type 0} (f : ActorName → X) (a : ActorName) (x : X) (b : ActorName) → same_actor b a ≡ false → put_actor f a x b ≡ f b
put_actor-other f a x b other = ap (λ t. cond t x (f b)) other

-- where the one is put that was there, all stay
pub put_actor-same : {X : Type 0} (f : ActorName → X) (a : ActorName) (x : X) → x ≡ f a → (b : ActorName) → put_actor f a x b ≡ f b
put_actor-same f a x same b = elim (same_actor b a) as (λ t. same_actor b a ≡ t → cond t x (f b) ≡ f b) [ true ↦ λ is. same ∙ ap f (sym (same_actor-true b a is)) | false ↦ λ other. refl ] refl

-- where nothing is made of an actor's tables the state stays
pub same_tables : (m : Machine) (a : ActorName) (change : ClientState → ClientState) → change (m.tables a) ≡ m.tables a → with_tables a change m ≡ m
same_tables m a change same = λ i. record m { tables = λ b. put_actor-same m.tables a (change (m.tables a)) same b i }
