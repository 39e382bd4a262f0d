-- What a run promises to whoever uses the service, all of it told of the log.
use Rattle.std.specs.Prelude.{List}
use Rattle.run_labels.specs.declared.labels.Label.{Label}
use Rattle.ckpt_machine.specs.Refusals.{EachRefusalLeaves}
use Rattle.ckpt_machine.specs.AllOrNone.{IsAllOrNoneThroughout}
use Rattle.ckpt_machine.specs.Acknowledged.{AcknowledgedStay}
use Rattle.ckpt_machine.specs.BrokenCorrupt.{OnlyBrokenCorrupt}
use Rattle.ckpt_machine.specs.InOrder.{EffectsKeepOrder}
use Rattle.ckpt_machine.specs.References.{HandlesAreReferencesThroughout}
use Rattle.ckpt_machine.specs.Replays.{EffectsTellThroughout}
use Rattle.ckpt_machine.specs.Stays.{ReplicasStay}
use Rattle.ckpt_machine.specs.Synchronized.{SynchronizedTell}
use Rattle.ckpt_machine.specs.WasAsked.{OnlyAskedThroughout}
use Rattle.ckpt_machine.specs.Owners.{OwnersInHandThroughout}
use Rattle.ckpt_machine.specs.ActivesSet.{ActivesAreSet}
use Rattle.ckpt_machine.specs.CallsEnd.{CallsEnd}
use Rattle.ckpt_machine.specs.Copied.{CopiesTell}
use Rattle.ckpt_machine.specs.Callbacks.{CallbacksTold}
use Rattle.ckpt_machine.specs.Causes.{EachEndIsAllowed}

-- the log keeps all that a run promises
pub record KeepsPromises (log : List Label) : Type 0 where
  -- a call that is refused, or is refused its own memory, leaves all as it was but a making of its own, which is undone; it has nothing then: no slot,
  -- no marks, no making and no hold, and no replica has an effect of it, but for those of a copying, which change nothing
  pub refused : EachRefusalLeaves log
  -- after each front of the log, an update of a checkpoint that has them on all replicas is on all complete ones or on none
  pub all_or_none : IsAllOrNoneThroughout log
  -- an update that was answered OK is on each complete replica from then on; or where updates go to the active alone, on the active's, as long as no
  -- failure takes the node of the active
  pub acknowledged : AcknowledgedStay log
  -- after each front, each replica is the replay of the updates that it has taken, each once; where they go to the active alone, of the active's first
  -- ones, if it follows the active
  pub effects : EffectsTellThroughout log
  -- at each label, a replica that is there keeps what it has taken, in that order, unless it is older than its checkpoint and the label replaces it; and it
  -- goes only with its node or with its checkpoint
  pub stay : ReplicasStay log
  -- after each front, no replica has an update of a call in front of one of a call that had ended before that began: by its own step, by the failure of a
  -- node, or with its client or its handle
  pub order : EffectsKeepOrder log
  -- after each front, a section of a replica is corrupted only if an element of a weak write that was cut short there names it; and each such write is of a
  -- call that a failure has abandoned while it was in hand: no step of it has ended it, and it is neither in hand nor live
  pub corrupted : OnlyBrokenCorrupt log
  -- behind a synchronisation that was answered OK, to a call that began with one, each complete replica has the checkpoint's generation, and first what the
  -- active had when it was pulled, unless it is of a collocated checkpoint, on a node that has failed since the call served it
  pub synchronized : SynchronizedTell log
  -- only what was asked for is done: each effect of each replica, and what is staged or marked there, is of a call that began in the log with this very
  -- update, of this very checkpoint, or of a copying of it, whose update changes nothing
  pub asked : OnlyAskedThroughout log
  -- marks, makings and holds are of calls in hand alone, and slots of such or of calls that were abandoned, so a call that has ended leaves none; and each
  -- call in hand began in the log, with the operation that it has in hand, and no step of it has ended it
  pub owners : OwnersInHandThroughout log
  -- behind a completion the node that copies has what its call has pulled, and behind a copying that was answered OK it has a complete replica of each
  -- checkpoint that is made and not collocated; and the call of both began as a copying
  pub copies : CopiesTell log
  -- behind the setting of an active that was answered OK, the client's node is the active, and has what the one before it had
  pub actives : ActivesAreSet log
  -- a call that was in hand is so no more by its own step, by the failure of a node, or with its client or its handle, and in no other way
  pub ends : CallsEnd log
  -- each end of a call is allowed where it comes, so its cause is there
  pub causes : EachEndIsAllowed log
  -- after each front, a client has as many handles of each checkpoint that is there as the record has references of it, none of one in the making, and
  -- none where it is not live; and the checkpoint of each handle is there, unless a node failed on which alone it was complete
  pub references : HandlesAreReferencesThroughout log
  -- a dispatch gives the first or all of what its client is owed: the ends of its asynchronous calls, in their order, each once, and none behind the close
  -- of its handle, a Finalize of the client or the failure of its node; and nothing else tells a callback
  pub callbacks : CallbacksTold log
