-- Each run keeps what a run promises.
use Rattle.ckpt_machine.specs.Laws.{RunsKeepPromises}
use Rattle.ckpt_machine.proofs.Acknowledged.{acknowledged_stay}
use Rattle.ckpt_machine.proofs.ActivesSet.{actives_are_set}
use Rattle.ckpt_machine.proofs.AllOrNone.{on_all_or_none}
use Rattle.ckpt_machine.proofs.BrokenCorrupt.{only_broken_corrupt}
use Rattle.ckpt_machine.proofs.Callbacks.{callbacks_are_told}
use Rattle.ckpt_machine.proofs.CallsEnd.{calls_end}
use Rattle.ckpt_machine.proofs.Causes.{ends_allowed}
use Rattle.ckpt_machine.proofs.CopiesTold.{copies_tell}
use Rattle.ckpt_machine.proofs.EffectsTell.{effects_tell}
use Rattle.ckpt_machine.proofs.InOrder.{effects_keep_order}
use Rattle.ckpt_machine.proofs.OnlyAsked.{only_asked}
use Rattle.ckpt_machine.proofs.OwnersInHand.{owners_in_hand}
use Rattle.ckpt_machine.proofs.ReferencesKept.{handles_are_references}
use Rattle.ckpt_machine.proofs.RefusedRuns.{run_leaves}
use Rattle.ckpt_machine.proofs.Stays.{replicas_stay}
use Rattle.ckpt_machine.proofs.Synchronized.{synchronisations_tell}

pub promises_kept : RunsKeepPromises
promises_kept log run = record {
  refused = run_leaves log run;
  all_or_none = on_all_or_none log run;
  acknowledged = acknowledged_stay log run;
  effects = effects_tell log run;
  stay = replicas_stay log run;
  order = effects_keep_order log run;
  corrupted = only_broken_corrupt log run;
  synchronized = synchronisations_tell log run;
  asked = only_asked log run;
  owners = owners_in_hand log run;
  copies = copies_tell log run;
  actives = actives_are_set log run;
  ends = calls_end log run;
  causes = ends_allowed log run;
  references = handles_are_references log run;
  callbacks = callbacks_are_told log run;
}
