-- What the answers of the readers of parts of a line tell.
use Rattle.std.specs.Prelude.{◌≡◌, Result, Ok, Err}
use Rattle.script_words.specs.declared.reason.Reason.{Reason}
use Rattle.script_words.specs.declared.reason.LineError.{LineError}
use Rattle.script_words.specs.Reasons.{Fails}

-- A reader whose answer is seen by a view answers what the definition says.
abbrev pub Gives : {X Y : Type 0} → (X → Y) → Result X LineError → Result Y Reason → Type 0
Gives view (Ok x) said = said ≡ Ok (view x)
Gives view (Err e) said = Fails e said
