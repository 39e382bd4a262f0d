-- The summary of a run: how many calls ended, how many with each code, and in how many steps.
use Rattle.std.specs.Prelude.{ℕ, List, [], ◌∷◌, ◌++◌, Bool, true, false, Option, Some, None, is_some, nat_eq, ◌==◌, if◌then◌else◌, count_by, flat_map, codes, decimal}
use Rattle.ckpt_types.specs.AisError.{code_of, error_text}
use Rattle.ckpt_types.specs.declared.ais_error.AisError.{AisError}
use Rattle.ckpt_types.specs.declared.ais_error.AisError.TheVariants as errors
use Rattle.ckpt_types.specs.declared.answers.Outcome.{Outcome}
use Rattle.ckpt_types.specs.declared.answers.Outcome.TheVariants as outcomes
use Rattle.run_labels.specs.declared.labels.Label.{Label}
use Rattle.run_labels.specs.declared.labels.Label.TheVariants as labels

-- the codes that the service answers, by their numbers in the standard
abbrev pub all_codes : List AisError
all_codes =
    errors.Ok ∷ errors.Version ∷ errors.Init ∷ errors.Timeout ∷ errors.TryAgain ∷ errors.InvalidParam ∷ errors.NoMemory ∷ errors.BadHandle
    ∷ errors.Access ∷ errors.NotExist ∷ errors.Exist ∷ errors.NoSpace ∷ errors.NoResources ∷ errors.BadOperation ∷ errors.BadFlags ∷ errors.NoSections ∷ []

-- the code with which a call ended; one that was abandoned, or not begun as its client was busy, has none
abbrev pub outcome_code : Outcome → Option AisError
outcome_code (outcomes.Done answer) = Some errors.Ok
outcome_code (outcomes.Refused error cause) = Some error
outcome_code outcomes.NoMemory = Some errors.NoMemory
outcome_code outcomes.Abandoned = None
outcome_code outcomes.Busy = None
outcome_code outcomes.Astray = None

-- the same, where the call has ended
abbrev pub end_code : Option Outcome → Option AisError
end_code None = None
end_code (Some outcome) = outcome_code outcome

-- the code with which a call ended by this label
abbrev pub label_code : Label → Option AisError
label_code (labels.Began call op end details) = end_code end
label_code (labels.Stepped call op verb ckpt _ reply end details) = end_code end
label_code label = None

-- a call ended by the label, with some code
abbrev pub ends_call : Label → Bool
ends_call label = is_some (label_code label)

-- it is this code
abbrev pub is_code : AisError → Option AisError → Bool
is_code error None = false
is_code error (Some told) = nat_eq (code_of told) (code_of error)

-- a call ended by the label, with this code
abbrev pub ends_with : AisError → Label → Bool
ends_with error label = is_code error (label_code label)

-- a call took a step
abbrev pub is_step : Label → Bool
is_step (labels.Stepped call op verb ckpt _ reply end details) = true
is_step label = false

-- a word, a space and a number, on a line
abbrev pub count_line : List ℕ → ℕ → List ℕ
count_line word count = word ++ codes " " ++ decimal count ++ codes "\n"

-- the line of a code, where some call ended with it
abbrev pub code_line : AisError → ℕ → List ℕ
code_line error count = if count == 0 then [] else count_line (error_text error) count

-- the lines of the codes with which calls ended
abbrev pub code_lines : List Label → List ℕ
code_lines log = flat_map (λ error. code_line error (count_by (ends_with error) log)) all_codes

-- THE SUMMARY OF A RUN
abbrev pub summary : List Label → List ℕ
summary log = count_line (codes "calls") (count_by ends_call log) ++ code_lines log ++ count_line (codes "steps") (count_by is_step log)
