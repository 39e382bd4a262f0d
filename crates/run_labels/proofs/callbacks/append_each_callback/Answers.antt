use Rattle.std.proofs.Common.{◌++◌, ap, sym, take_all, ◌∙◌}
use Rattle.std.proofs.lemmas.List.{append-nil}
use Rattle.std.specs.List.{flat_map}
use Rattle.run_labels.specs.Callbacks.{callback_line}
use Rattle.run_labels.proofs.EachText.{append-flat_map-next}
use Rattle.run_labels.proofs.callbacks.append_each_callback.Goals as goal

pub loop-callback-preserved : goal.loop-callback-preserved
loop-callback-preserved c =
    rw c.loop-callback.invariant at c.in_ok-append_callback.ensures
    ∙ append-flat_map-next (callback_line c.args.client) c.args.out.now.items c.args.callbacks.now c.loop-callback.callback-index _ c.loop-callback-test.true

pub loop-callback-init : goal.loop-callback-init
loop-callback-init c = sym (append-nil c.args.out.now.items)

pub returns : goal.returns
returns c =
    c.loop-callback.invariant
    ∙ ap (λ callbacks. c.args.out.now.items ++ flat_map (callback_line c.args.client) callbacks) (take_all c.loop-callback.callback-index c.args.callbacks.now c.loop-callback-test.false)
