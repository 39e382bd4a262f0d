-- Why bytes are no script: the words of the reasons, and what the answers of the readers tell.
use Rattle.std.specs.Prelude.{◌≡◌, ℕ, List, codes, Option, Some, None, Result, Ok, Err, ⊤}
use Rattle.script_words.specs.declared.reason.Reason.{Reason}
use Rattle.script_words.specs.declared.reason.Reason.TheVariants as reasons
use Rattle.script_words.specs.declared.reason.LineError.{LineError}
use Rattle.script_words.specs.declared.reason.LineError.TheVariants as line_errors

-- the reason as a message prints it
abbrev pub reason_text : Reason → List ℕ
reason_text reasons.Length = codes "length"
reason_text reasons.Lines = codes "lines"
reason_text reasons.Word = codes "word"
reason_text reasons.Count = codes "count"
reason_text reasons.Number = codes "number"
reason_text reasons.Bytes = codes "bytes"
reason_text reasons.Nodes = codes "nodes"
reason_text reasons.Moment = codes "moment"
reason_text reasons.Race = codes "race"
reason_text reasons.Reads = codes "reads"
reason_text reasons.Shows = codes "shows"
reason_text reasons.NotBuilt = codes "not built"

infixl 10 ◌>>=◌
-- the second step, if the first gave a value
abbrev pub ◌>>=◌ : {A B : Type 0} → Result A Reason → (A → Result B Reason) → Result B Reason
(Ok x) >>= f = f x
(Err reason) >>= f = Err reason

-- the value, or the reason why there is none
abbrev pub or_reason : {A : Type 0} → Reason → Option A → Result A Reason
or_reason reason (Some x) = Ok x
or_reason reason None = Err reason

-- An error is the fault that the definition tells; want of memory may stand for any answer.
abbrev pub Fails : {X : Type 0} → LineError → Result X Reason → Type 0
Fails (line_errors.Fault reason) said = said ≡ Err reason
Fails line_errors.NoMemory said = ⊤

-- A reader of a line or a word answers what the definition says.
abbrev pub Reads : {X : Type 0} → Result X LineError → Result X Reason → Type 0
Reads (Ok x) said = said ≡ Ok x
Reads (Err e) said = Fails e said
