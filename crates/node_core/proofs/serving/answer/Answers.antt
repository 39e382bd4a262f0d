use Rattle.std.proofs.Common.{rules}
use Rattle.node_core.proofs.serving.answer.Goals as goal

pub returns-in-Stage : goal.returns-in-Stage
returns-in-Stage c = search rules

pub returns-in-Claim : goal.returns-in-Claim
returns-in-Claim c = search rules

pub returns-in-Commit : goal.returns-in-Commit
returns-in-Commit c = search rules

pub returns-in-Withdraw : goal.returns-in-Withdraw
returns-in-Withdraw c = search rules

pub returns-in-Apply : goal.returns-in-Apply
returns-in-Apply c = search rules

pub returns-in-Mark : goal.returns-in-Mark
returns-in-Mark c = search rules

pub returns-in-Element : goal.returns-in-Element
returns-in-Element c = search rules

pub returns-in-Unmark : goal.returns-in-Unmark
returns-in-Unmark c = search rules

pub returns-in-Read : goal.returns-in-Read
returns-in-Read c = search rules

pub returns-in-Status : goal.returns-in-Status
returns-in-Status c = search rules

pub returns-in-Iterate : goal.returns-in-Iterate
returns-in-Iterate c = search rules

pub returns-in-Next : goal.returns-in-Next
returns-in-Next c = search rules

pub returns-in-Pull : goal.returns-in-Pull
returns-in-Pull c = search rules

pub returns-in-Install : goal.returns-in-Install
returns-in-Install c = search rules

pub returns-in-Reserve : goal.returns-in-Reserve
returns-in-Reserve c = search rules
