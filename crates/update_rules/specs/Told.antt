-- What a check answers: that there is no refusal, or the refusal.
use Rattle.std.specs.Prelude.{Result, Ok, Err}
use Rattle.ckpt_types.specs.Updates.{Refusal}
use Rattle.update_rules.specs.declared.refused.Refused.{Refused}

-- a refusal, as a check tells it
abbrev pub refused_of : Refusal → Refused
refused_of refusal = record { error = refusal.error; index = refusal.index }

-- the answer of a check that tells a value where there is no refusal
abbrev pub answer_with : {A B : Type 0} → B → Result A Refusal → Result B Refused
answer_with value (Ok x) = Ok value
answer_with value (Err refusal) = Err (refused_of refusal)

-- the answer of a check: the refusal, or only that there is none
abbrev pub check_answer : {A : Type 0} → Result A Refusal → Result (Unit {0}) Refused
check_answer outcome = answer_with tt outcome
