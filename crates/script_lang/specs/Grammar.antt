-- A script: its lines one after the other, and the first that is at fault.
use Rattle.std.specs.Prelude.{ℕ, ◌+◌, ◌≤◌, Bool, true, false, not, cond, ◌&&◌, ◌||◌, List, [], ◌∷◌, length, reverse, ℤ, pos, Option, Some, None, is_some, option_map, Result, Ok, Err, nat_le, nat_lt, int_lt, ◌==◌, if◌then◌else◌, sum_by}
use Rattle.std.specs.List.{slice_split, onto_first}
use Rattle.ckpt_types.specs.declared.operation.Op.{Op}
use Rattle.ckpt_types.specs.declared.operation.Op.TheVariants as ops
use Rattle.ckpt_types.specs.Limits.{block_lines_max, script_reads_max, script_shows_max, script_lines_max, script_bytes_max}
use Rattle.script_words.specs.declared.reason.Reason.{Reason}
use Rattle.script_words.specs.declared.reason.Reason.TheVariants as reasons
use Rattle.script_words.specs.Words.{or_else}
use Rattle.script_lang.specs.declared.faults.ScriptFault.{ScriptFault}
use Rattle.script_lines.specs.declared.lines.Line.{Line}
use Rattle.script_lines.specs.declared.lines.Line.TheVariants as lines
use Rattle.script_lang.specs.declared.marks.Marks.{Marks}
use Rattle.script_lines.specs.Table.{line_said}

-- the lines, each ended by the byte 10; the last may lack it
abbrev pub text_lines : List ℕ → List (List ℕ)
text_lines [] = []
text_lines (b ∷ bs) = if b == 10 then [] ∷ text_lines bs else onto_first b (text_lines bs)

-- the byte that parts two words
abbrev pub is_space : ℕ → Bool
is_space b = b == 32

-- the words of a line: what stands between its spaces; one is empty where two spaces meet, or one stands at an end
abbrev pub words_of : List ℕ → List (List ℕ)
words_of line = slice_split is_space line

-- a line that is there
abbrev pub some_line : Result Line Reason → Result (Option Line) Reason
some_line (Ok x) = Ok (Some x)
some_line (Err reason) = Err reason

-- what a line says, and nothing where it is empty or a comment
unfoldable pub reading : List ℕ → Result (Option Line) Reason
reading [] = Ok None
reading (b ∷ bs) = if b == 35 then Ok None else some_line (line_said (words_of (b ∷ bs)))

-- WHAT THE LINES BEFORE ALLOW. The lines before are given with the latest first.

-- the moment behind a line
abbrev pub moment_behind : ℤ → Line → ℤ
moment_behind now (lines.At t) = t
moment_behind now _ = now

-- the moment behind these lines: 0 where none sets one
abbrev pub moment_behind_all : List Line → ℤ
moment_behind_all [] = pos 0
moment_behind_all (x ∷ earlier) = moment_behind (moment_behind_all earlier) x

-- the number of lines so far of the block that a line stands in, behind that line
abbrev pub block_after : Line → Option ℕ → Option ℕ
block_after lines.Race block = Some 0
block_after lines.End block = None
block_after _ block = option_map (λ n. n + 1) block

-- the number of lines so far of the block that is open behind these lines, if one is
abbrev pub block_of : List Line → Option ℕ
block_of [] = None
block_of (x ∷ earlier) = block_after x (block_of earlier)

-- that number, and 0 where no block is open
abbrev pub block_size : Option ℕ → ℕ
block_size None = 0
block_size (Some n) = n

-- how many bytes a call asks to read
abbrev pub asked_by : Op → ℕ
asked_by (ops.Read place elements) = sum_by (λ e. e.len) elements
asked_by _ = 0

-- how many bytes a line asks to read, by a call that is plain or behind `begin`
abbrev pub asked_in : Line → ℕ
asked_in (lines.Call client op) = asked_by op
asked_in (lines.Begin actor op) = asked_by op
asked_in _ = 0

-- how many bytes these lines ask to read together
abbrev pub asked_of : List Line → ℕ
asked_of [] = 0
asked_of (x ∷ earlier) = asked_in x + asked_of earlier

-- a line that lists the replicas of a checkpoint
abbrev pub is_show : Line → Bool
is_show (lines.Show k) = true
is_show _ = false

-- the number of such lines so far, behind a line
abbrev pub shows_after : Line → ℕ → ℕ
shows_after x n = if is_show x then n + 1 else n

-- how many of these lines are such
abbrev pub shows_of : List Line → ℕ
shows_of [] = 0
shows_of (x ∷ earlier) = shows_after x (shows_of earlier)

-- no line was before, so that the next is to bring the nodes up
abbrev pub no_lines : List Line → Bool
no_lines [] = true
no_lines (x ∷ earlier) = false

-- what the lines before tell of themselves
unfoldable pub marks_of : List Line → Marks
marks_of earlier = record { none = no_lines earlier; moment = moment_behind_all earlier; block = block_of earlier; asked = asked_of earlier; shows = shows_of earlier }

-- the same with one line more
unfoldable pub marks_after : Line → Marks → Marks
marks_after x m = record { none = false; moment = moment_behind m.moment x; block = block_after x m.block; asked = asked_in x + m.asked; shows = shows_after x m.shows }

-- the line that brings the nodes up
abbrev pub is_nodes : Line → Bool
is_nodes (lines.Nodes n) = true
is_nodes _ = false

-- the moment would fall
abbrev pub goes_back : Line → ℤ → Bool
goes_back (lines.At t) now = int_lt t now
goes_back _ now = false

-- a call that may stand in a block: none that begins or ends a client, or is asynchronous, or dispatches
abbrev pub may_race_op : Op → Bool
may_race_op (ops.Client n v set) = false
may_race_op ops.Finalize = false
may_race_op (ops.OpenAsync h i b f a) = false
may_race_op (ops.SyncAsync h i) = false
may_race_op (ops.Dispatch f) = false
may_race_op _ = true

-- what may stand in a block, or ends it
abbrev pub may_race : Line → Bool
may_race (lines.Call client op) = may_race_op op
may_race (lines.Fail n) = true
may_race lines.End = true
may_race _ = false

-- the line that ends a block
abbrev pub is_end : Line → Bool
is_end lines.End = true
is_end _ = false

-- a line that may not stand in the block, or is one too many; or an end without a block
abbrev pub breaks_block : Line → Option ℕ → Bool
breaks_block x None = is_end x
breaks_block x (Some n) = not (may_race x) || (nat_le block_lines_max n && not (is_end x))

-- the fault of a line where it stands
unfoldable pub order_fault : Marks → Line → Option Reason
order_fault m x =
    if cond m.none (not (is_nodes x)) (is_nodes x) then Some reasons.Nodes
    else if goes_back x m.moment then Some reasons.Moment
    else if breaks_block x m.block then Some reasons.Race
    else None

-- and of what the script asks for in all
unfoldable pub limit_fault : Marks → Line → Option Reason
limit_fault m x =
    if nat_lt script_reads_max (m.asked + asked_in x) then Some reasons.Reads
    else if is_show x && nat_le script_shows_max m.shows then Some reasons.Shows
    else None

-- the first fault of a line that is read, in their order
unfoldable pub fault_after : Marks → Line → Option Reason
fault_after m x = or_else (order_fault m x) (limit_fault m x)

-- the first fault of a line behind these lines
abbrev pub fault_of : List Line → Line → Option Reason
fault_of earlier x = fault_after (marks_of earlier) x

-- what no line that was taken has passed
abbrev pub IsSmall : Marks → Type 0
IsSmall m = (block_size m.block ≤ block_lines_max) × (m.asked ≤ script_reads_max) × (m.shows ≤ script_shows_max)

-- HOW FAR A SCRIPT IS READ: the lines counted, the line of the last race, and what was said, the latest first
pub record Progress : Type 0 where
  pub number : ℕ
  pub race : ℕ
  pub earlier : List Line

-- nothing is read yet
abbrev pub start : Progress
start = record { number = 0; race = 0; earlier = [] }

-- the line of that number is at fault; 0 is the script as a whole
abbrev pub fault : {X : Type 0} → ℕ → Reason → Result X ScriptFault
fault n r = Err (record { line = n; reason = r })

-- the line that opens a block
abbrev pub is_race : Line → Bool
is_race lines.Race = true
is_race _ = false

-- a line more
abbrev pub with_line : Progress → Line → Progress
with_line p x = record { number = p.number + 1; race = if is_race x then p.number + 1 else p.race; earlier = x ∷ p.earlier }

-- a line is taken, unless it has a fault
abbrev pub if_allowed : Progress → Line → Option Reason → Result Progress ScriptFault
if_allowed p x None = Ok (with_line p x)
if_allowed p x (Some r) = fault (p.number + 1) r

-- what a line of the text makes: one that is empty or a comment is counted, and says nothing
abbrev pub after_reading : Progress → Result (Option Line) Reason → Result Progress ScriptFault
after_reading p (Err r) = fault (p.number + 1) r
after_reading p (Ok None) = Ok (record p { number = p.number + 1 })
after_reading p (Ok (Some x)) = if_allowed p x (fault_of p.earlier x)

-- one more line of the text, where it is not one too many
unfoldable pub take_line : Progress → List ℕ → Result Progress ScriptFault
take_line p text = if nat_le script_lines_max p.number then fault (p.number + 1) reasons.Lines else after_reading p (reading text)

-- the second step, if the first gave a value
abbrev pub if_no_fault : {A B : Type 0} → Result A ScriptFault → (A → Result B ScriptFault) → Result B ScriptFault
if_no_fault (Ok x) f = f x
if_no_fault (Err e) f = Err e

-- the lines of the text in order, up to the first that is at fault
unfoldable pub take_lines : Progress → List (List ℕ) → Result Progress ScriptFault
take_lines p [] = Ok p
take_lines p (text ∷ rest) = if_no_fault (take_line p text) (λ q. take_lines q rest)

-- a block that is left open is the fault of its first line
abbrev pub whole_script : Progress → Result (List Line) ScriptFault
whole_script p = if is_some (block_of p.earlier) then fault p.race reasons.Race else Ok (reverse p.earlier)

-- THE SCRIPT that the bytes spell, or the first line at fault
unfoldable pub script_of : List ℕ → Result (List Line) ScriptFault
script_of bytes = if nat_lt script_bytes_max (length bytes) then fault 0 reasons.Length else if_no_fault (take_lines start (text_lines bytes)) whole_script
