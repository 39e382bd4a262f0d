use Rattle.std.proofs.Common.{refl, subst}
use Rattle.client_calls.specs.CopyHands.{IsCopyHand}
use Rattle.client_calls.proofs.copy_hand.CopyHand.call.Goals as goal

pub returns-clause-copies : goal.returns-clause-copies
returns-clause-copies c = subst IsCopyHand c.self.view_is (record { op = refl; driver = c.self.inside.driver; driven = refl; iteration = refl; made = refl })
