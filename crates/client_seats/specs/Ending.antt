-- How a step ends the call of a seat.
use Rattle.std.specs.Prelude.{ℕ, ◌==◌, Option, Some, None, if◌then◌else◌}
use Rattle.ckpt_types.specs.declared.answers.Outcome.{Outcome}
use Rattle.ckpt_types.specs.declared.answers.Outcome.TheVariants.{Astray}
use Rattle.client_seats.specs.Seats.{steps_max}

-- the last step that a call may make ends it, where it would go on
abbrev pub end_at : ℕ → Option Outcome → Option Outcome
end_at steps (Some end) = Some end
end_at steps None = if steps == steps_max then Some Astray else None
