-- What the answer of a check says of the definition's outcome.
use Rattle.std.proofs.Common.{◌≡◌, Result, Ok, Err, ap, refl}
use Rattle.ckpt_types.specs.Updates.{Refusal}
use Rattle.update_rules.specs.declared.refused.Refused.{Refused}
use Rattle.update_rules.specs.Told.{answer_with, check_answer, refused_of}

-- where a value is told there is an outcome, and the value is the one to tell
pub answer_with-Ok : {A B : Type 0} (value told : B) (r : Result A Refusal) → answer_with value r ≡ Ok told → (x : A) × (r ≡ Ok x) × (value ≡ told)
answer_with-Ok value told (Ok x) is = (x, refl, cc is)
answer_with-Ok value told (Err refusal) is = absurd (cc is)

-- where a refusal is told the definition has it
pub answer_with-Err : {A B : Type 0} (value : B) (r : Result A Refusal) (refused : Refused) → answer_with value r ≡ Err refused → r ≡ Err (record { error = refused.error; index = refused.index })
answer_with-Err value (Ok x) refused is = absurd (cc is)
answer_with-Err value (Err refusal) refused is =
    let same : refused_of refusal ≡ refused = cc is in
    ap (λ r. Err (record { error = r.error; index = r.index })) same

-- where the check answers Ok there is an outcome
pub check_answer-Ok : {A : Type 0} (r : Result A Refusal) → check_answer r ≡ Ok tt → (x : A) × (r ≡ Ok x)
check_answer-Ok r is = let (x, there, same) = answer_with-Ok tt tt r is in (x, there)

-- where the check tells a refusal the definition has it
pub check_answer-Err : {A : Type 0} (r : Result A Refusal) (refused : Refused) → check_answer r ≡ Err refused → r ≡ Err (record { error = refused.error; index = refused.index })
check_answer-Err r refused is = answer_with-Err tt r refused is
