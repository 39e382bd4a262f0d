use Rattle.std.proofs.Common.{◌≡◌, ◌+◌, drop}
use Rattle.node_core.specs.Lending.{bytes_asked}
use Rattle.node_core.proofs.lending.bytes_asked.Given as goal

abbrev pub invariant-loop-element : goal.invariant-loop-element
invariant-loop-element l = l.total + bytes_asked (drop l.element-index l.elements) ≡ bytes_asked l.elements
