-- The requests by which a weak write goes on behind its marks.
use Rattle.node_msgs.specs.declared.requests.Request.{Request}
use Rattle.node_msgs.specs.declared.requests.Request.TheVariants as requests

-- it asks for the next element of a weak write, or for the end of its marks
abbrev pub IsOfMarks : Request → Type 0
IsOfMarks (requests.Element call k) = Unit {0}
IsOfMarks (requests.Unmark call k) = Unit {0}
IsOfMarks request = ⊥
