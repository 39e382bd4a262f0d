use Rattle.std.proofs.Common.{◌≡◌, ◌++◌, take}
use Rattle.std.specs.List.{flat_map}
use Rattle.run_labels.specs.Callbacks.{callback_line}
use Rattle.run_labels.proofs.callbacks.append_each_callback.Given as goal

abbrev pub invariant-loop-callback : goal.invariant-loop-callback
invariant-loop-callback l = l.out.items ≡ l.initial.out.items ++ flat_map (callback_line l.client) (take l.callback-index l.callbacks)
