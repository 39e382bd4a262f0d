-- How marks show themselves.
use Rattle.std.specs.Prelude.{Option}
use Rattle.weak_marks.specs.Marks.{Marked}
use Rattle.weak_marks.specs.declared.marks.Marked.TheInside as marked
use Rattle.weak_marks.specs.declared.marks.Marks.TheInside as marks

-- a weak write that is under way, as contracts see it
abbrev pub marked_shown : marked.Inside → Marked
marked_shown m = record { call = m.call; update = m.update; moment = m.moment; done = m.done; generation = m.generation }

-- marks as contracts see them: the write that is under way, if one is
abbrev pub marks_shown : marks.Inside → Option Marked
marks_shown m = m.marked
