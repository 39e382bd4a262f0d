-- Which operations the calls of a seat may have.
use Rattle.std.specs.Prelude.{Option, Some, None}
use Rattle.ckpt_types.specs.Asks.{Ask}
use Rattle.ckpt_types.specs.Asks as asks

-- what may stand among calls that go on at once: no client becomes live or leaves there, and none asks for what goes on by itself
abbrev pub MayRace : Ask → Type 0
MayRace (asks.Enter r version callbacks) = ⊥
MayRace (asks.Open place name flags None a) = ⊥
MayRace asks.Leave = ⊥
MayRace (asks.Synchronize place None) = ⊥
MayRace (asks.Dispatch flags) = ⊥
MayRace asks.Copy = ⊥
MayRace ask = Unit {0}
