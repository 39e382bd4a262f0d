-- What the lines of each form can say.
use Rattle.std.specs.Prelude.{◌≡◌, ◌<◌, ◌≤◌, ◌⊎◌, ⊤, true, false, List, [], ◌∷◌, length, Option, Some, None}
use Rattle.ckpt_types.specs.Limits.{line_elements_max}
use Rattle.script_words.specs.Fitting.{CanSay}
use Rattle.script_words.specs.Words.{Class}
use Rattle.ckpt_types.specs.declared.words.FirstWord.{FirstWord}
use Rattle.script_lines.specs.declared.lines.Line.{Line}
use Rattle.script_lines.specs.Table.{Values, LineShape, just, maybe, times, LineValues, form, is_later, may_begin, only_begun}

-- each value is one that a word of its class can say
abbrev pub FitAll : (cs : List Class) → Values cs → Type 0
FitAll [] v = ⊤
FitAll (c ∷ cs) v = CanSay c v.0 × FitAll cs v.1

-- the values that a line may have or lack are, where it has them, ones that words of their classes can say
abbrev pub FitMore : (ds : List Class) → Option (Values ds) → Type 0
FitMore ds None = ⊤
FitMore ds (Some v) = FitAll ds v

-- each element of a line has values that words of their classes can say
abbrev pub FitGroups : (ds : List Class) → List (Values ds) → Type 0
FitGroups ds [] = ⊤
FitGroups ds (v ∷ vs) = FitAll ds v × FitGroups ds vs

-- the words of a line of this shape can say so
abbrev pub FitValues : (s : LineShape) → LineValues s → Type 0
FitValues (just cs) v = FitAll cs v
FitValues (maybe cs ds) v = FitAll cs v.0 × FitMore ds v.1
FitValues (times cs ds) v = FitAll cs v.0 × FitGroups ds v.1 × (0 < length v.1) × (length v.1 ≤ line_elements_max)

-- a line of a form that is built, plain or behind `begin`
abbrev pub IsLine : Line → Type 0
IsLine x = (k : FirstWord) × (v : LineValues (form k).shape) × FitValues (form k).shape v × (is_later k ≡ false) × ((x ≡ (form k).line v) ⊎ ((may_begin k ≡ true) × (x ≡ only_begun ((form k).line v))))
