-- Times, in nanoseconds: moments, which lie below the end of time, and expirations and deadlines, which may be the end.
use Rattle.std.specs.Prelude.{◌-◌, ◌^◌, ℤ, pos, ◌+ℤ◌, Bool, not, ◌&&◌, int_lt}
use Rattle.std.specs.Int.{int_min}

-- the end of time, which no moment is: as an expiration or a deadline it never comes
abbrev pub never : ℤ
never = pos (2 ^ 63 - 1)

-- an expiration has come: it is not above the moment
abbrev pub is_expired : ℤ → ℤ → Bool
is_expired expiration now = not (int_lt now expiration)

-- a time some duration after another, or the end of time where that comes first
abbrev pub sum_until_end : ℤ → ℤ → ℤ
sum_until_end moment duration = int_min (moment +ℤ duration) never

-- a deadline has come: the moment is equal to it or later, and it is not the end of time
abbrev pub is_reached : ℤ → ℤ → Bool
is_reached deadline now = not (int_lt now deadline) && int_lt deadline never
