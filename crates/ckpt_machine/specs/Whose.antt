-- By whose name a call is stepped: that of an actor, or its own.
use Rattle.std.specs.Prelude.{Bool, false, if◌then◌else◌}
use Rattle.ckpt_types.specs.declared.identities.ActorName.{ActorName}
use Rattle.ckpt_types.specs.declared.identities.Who.{Who}
use Rattle.ckpt_types.specs.declared.identities.Who.TheVariants.{Actor, Call}
use Rattle.cluster_record.specs.Calls.{same_actor, same_call}

-- two of one actor, or of one call
abbrev pub same_who : Who → Who → Bool
same_who (Actor a) (Actor b) = same_actor a b
same_who (Call c) (Call d) = same_call c d
same_who (Actor a) (Call d) = false
same_who (Call c) (Actor b) = false

-- a map by whose name a call is stepped, with one value changed
abbrev pub put_who : {X : Type 0} → (Who → X) → Who → X → Who → X
put_who f w x v = if same_who v w then x else f v

-- it is the name of an asynchronous call of this actor
abbrev pub is_of : ActorName → Who → Bool
is_of a (Actor b) = false
is_of a (Call call) = same_actor call.actor a
