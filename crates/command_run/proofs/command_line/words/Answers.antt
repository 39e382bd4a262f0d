use Rattle.std.proofs.Common.{◌+◌, List, IfSome, String, Global, subst, sym, arith}
use Rattle.std.proofs.lemmas.Grind.{common_steps}
use Rattle.command_run.specs.Arguments.{IsWordAt}
use Rattle.command_run.proofs.Called.{HasTaken, taken_more, cause_of}
use Rattle.command_run.proofs.command_line.words.Goals as goal

-- what ends the reading of one word ends that of all
pub returns-in-Err-clause-cause : goal.returns-in-Err-clause-cause
returns-in-Err-clause-cause g c =
    cause_of (g.A.Arguments.called c.args.arguments.now) c.loop-number.number c.in-Err.status c.loop-number.invariant.behind c.in-Err.ensures.cause

-- one word more is taken
pub loop-number-preserved : goal.loop-number-preserved
loop-number-preserved g c =
    let told = g.A.Arguments.called c.args.arguments.now in
    let number = c.loop-number.number in
    let read = subst (λ word. IfSome told (λ called. IsWordAt called number word)) c.in-Ok-Some.field-0-is c.in-Ok-Some.ensures.word in
    record {
      taken = subst (HasTaken told (number + 1)) (sym {A = List (String Global)} c.in-Ok.ensures.items)
          (taken_more told number c.loop-number.words.items c.in-Ok-Some.word c.loop-number.invariant.behind c.loop-number.invariant.taken read);
      behind = omega arith;
    }

pub returns-in-Ok-None-clause-all : goal.returns-in-Ok-None-clause-all
returns-in-Ok-None-clause-all g c = grind (arith, common_steps)
