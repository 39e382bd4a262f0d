-- When an object outside the program may be said to have failed.
use Rattle.std.specs.Prelude.{ℕ, ◌+◌, ◌-◌, ◌^◌, ◌≤◌, min, Result, Ok, Err, OnErr}

-- the last value of a count, at which it stands still
abbrev pub last_count : ℕ
last_count = 2 ^ 64 - 1

-- one more, up to the last value
abbrev pub next_count : ℕ → ℕ
next_count count = min (count + 1) last_count

-- the count of faults after a call: one more where the call failed
abbrev pub faults_after : {T E : Type 0} → ℕ → Result T E → ℕ
faults_after before (Ok x) = before
faults_after before (Err e) = next_count before

-- the count rose in between, or stands at its last value
abbrev pub Rose : ℕ → ℕ → Type 0
Rose before now = next_count before ≤ now

-- the count of faults never falls nor passes its last value, and a call that failed raised it
pub record HasCause {T E : Type 0} (before now : ℕ) (result : Result T E) : Type 0 where
  pub later : before ≤ now
  pub bounded : now ≤ last_count
  pub failed : OnErr result (Rose before now)
