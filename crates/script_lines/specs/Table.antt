-- The forms of lines, and how a line is read by its form.
use Rattle.std.specs.Prelude.{ℕ, zero, suc, ◌+◌, ◌*◌, ◌-◌, ◌%◌, ◌/◌, ◌^◌, Bool, true, false, ◌&&◌, ◌||◌, List, [], ◌∷◌, length, map, Option, Some, None, option_map, Result, Ok, Err, nat_le, nat_lt, ◌==◌, if◌then◌else◌, bytes_eq, find}
use Rattle.std.specs.List.{list_any}
use denote.Ref.{Bor}
use Rattle.ckpt_types.specs.declared.attributes.CreationAttributes.{CreationAttributes}
use Rattle.ckpt_types.specs.declared.identities.ActorName.TheVariants as actor
use Rattle.ckpt_types.specs.declared.operation.Op.TheVariants as ops
use Rattle.ckpt_types.specs.declared.update.IoElement.{IoElement}
use Rattle.ckpt_types.specs.declared.update.ReadElement.{ReadElement}
use Rattle.ckpt_types.specs.declared.update.Update.TheVariants as updates
use Rattle.ckpt_types.specs.Limits.{line_elements_max, line_steps_max, nodes_max}
use Rattle.script_words.specs.declared.reason.Reason.{Reason}
use Rattle.script_words.specs.declared.reason.Reason.TheVariants as reasons
use Rattle.script_words.specs.Reasons.{◌>>=◌}
use Rattle.script_words.specs.Words.{or_else, Class, a_client, a_node, a_place, an_iteration, a_ckpt, a_number, a_time, a_moment, some_bytes, an_id, a_new_id, a_version, the_callbacks, a_who, Meaning, read_word}
use Rattle.ckpt_types.specs.declared.words.FirstWord.{FirstWord}
use Rattle.ckpt_types.specs.declared.words.FirstWord.TheVariants as words
use Rattle.ckpt_types.specs.declared.words.OpWord.TheVariants as calls
use Rattle.ckpt_types.specs.FirstWord.{begin_text, first_word_text}
use Rattle.script_lines.specs.declared.lines.Line.{Line}
use Rattle.script_lines.specs.declared.lines.Line.TheVariants as lines

-- what the slices hold
abbrev pub texts : List (Bor (List ℕ)) → List (List ℕ)
texts ws = map (λ w. w.now) ws

-- what words of these classes say
abbrev pub Values : List Class → Type 0
Values [] = Unit {0}
Values (c ∷ cs) = Meaning c × Values cs

-- which words a line may have behind its first
pub data LineShape : Type 0 where
  -- just these
  just : List Class → LineShape
  -- these, or these and those
  maybe : List Class → List Class → LineShape
  -- these, and then those once or more, as often as a line has elements
  times : List Class → List Class → LineShape

-- what the words of a line say
abbrev pub LineValues : LineShape → Type 0
LineValues (just cs) = Values cs
LineValues (maybe cs ds) = Values cs × Option (Values ds)
LineValues (times cs ds) = Values cs × List (Values ds)

-- a form of line: the words behind its first, and the line that they make
pub record Form : Type 0 where
  pub shape : LineShape
  pub line : LineValues shape → Line

-- a number of 64 bits
abbrev pub any_number : Class
any_number = a_number 0 (2 ^ 64 - 1)

-- flags, or another number of 32 bits
abbrev pub flags : Class
flags = a_number 0 (2 ^ 32 - 1)

-- the six words of creation attributes
abbrev pub attributes : List Class
attributes = flags ∷ any_number ∷ a_time ∷ flags ∷ any_number ∷ any_number ∷ []

-- the attributes that these words say
abbrev pub attributes_of : Values attributes → CreationAttributes
attributes_of v = record { creation_flags = v.0; checkpoint_size = v.1.0; retention_duration = v.1.1.0; max_sections = v.1.1.1.0; max_section_size = v.1.1.1.1.0; max_section_id_size = v.1.1.1.1.1.0 }

-- the three words of an element of a write
abbrev pub io_group : List Class
io_group = an_id ∷ any_number ∷ some_bytes ∷ []

-- the element of a write that these words say
abbrev pub io_element : Values io_group → IoElement
io_element v = record { id = v.0; offset = v.1.0; bytes = v.1.1.0 }

-- the three words of an element of a read
abbrev pub read_group : List Class
read_group = an_id ∷ any_number ∷ any_number ∷ []

-- the element of a read that these words say
abbrev pub read_element : Values read_group → ReadElement
read_element v = record { id = v.0; offset = v.1.0; len = v.1.1.0 }

-- THE TABLE: the form of each line
abbrev pub form : FirstWord → Form
form words.Nodes = record { shape = just (a_number 1 nodes_max ∷ []); line = λ v. lines.Nodes v.0 }
form (words.Op calls.Client) = record { shape = just (a_client ∷ a_node ∷ a_version ∷ the_callbacks ∷ []); line = λ v. lines.Call v.0 (ops.Client v.1.0 v.1.1.0 v.1.1.1.0) }
form (words.Op calls.Finalize) = record { shape = just (a_client ∷ []); line = λ v. lines.Call v.0 ops.Finalize }
form (words.Op calls.Open) = record { shape = maybe (a_client ∷ a_place ∷ some_bytes ∷ flags ∷ a_time ∷ []) attributes; line = λ v. lines.Call v.0.0 (ops.Open v.0.1.0 v.0.1.1.0 v.0.1.1.1.0 v.0.1.1.1.1.0 (option_map attributes_of v.1)) }
form (words.Op calls.OpenAsync) = record { shape = maybe (a_client ∷ a_place ∷ any_number ∷ some_bytes ∷ flags ∷ []) attributes; line = λ v. lines.Call v.0.0 (ops.OpenAsync v.0.1.0 v.0.1.1.0 v.0.1.1.1.0 v.0.1.1.1.1.0 (option_map attributes_of v.1)) }
form (words.Op calls.Close) = record { shape = just (a_client ∷ a_place ∷ []); line = λ v. lines.Call v.0 (ops.Close v.1.0) }
form (words.Op calls.Unlink) = record { shape = just (a_client ∷ some_bytes ∷ []); line = λ v. lines.Call v.0 (ops.Unlink v.1.0) }
form (words.Op calls.Retain) = record { shape = just (a_client ∷ a_place ∷ a_time ∷ []); line = λ v. lines.Call v.0 (ops.Retain v.1.0 v.1.1.0) }
form (words.Op calls.Active) = record { shape = just (a_client ∷ a_place ∷ []); line = λ v. lines.Call v.0 (ops.Active v.1.0) }
form (words.Op calls.Status) = record { shape = just (a_client ∷ a_place ∷ []); line = λ v. lines.Call v.0 (ops.Status v.1.0) }
form (words.Op calls.Create) = record { shape = just (a_client ∷ a_place ∷ a_new_id ∷ a_time ∷ some_bytes ∷ []); line = λ v. lines.Call v.0 (ops.Create v.1.0 (updates.Create v.1.1.0 v.1.1.1.0 v.1.1.1.1.0)) }
form (words.Op calls.Delete) = record { shape = just (a_client ∷ a_place ∷ an_id ∷ []); line = λ v. lines.Call v.0 (ops.Delete v.1.0 (updates.Delete v.1.1.0)) }
form (words.Op calls.Expire) = record { shape = just (a_client ∷ a_place ∷ an_id ∷ a_time ∷ []); line = λ v. lines.Call v.0 (ops.Expire v.1.0 (updates.SetExpiration v.1.1.0 v.1.1.1.0)) }
form (words.Op calls.Iter) = record { shape = just (a_client ∷ an_iteration ∷ a_place ∷ any_number ∷ a_time ∷ []); line = λ v. lines.Call v.0 (ops.Iter v.1.0 v.1.1.0 v.1.1.1.0 v.1.1.1.1.0) }
form (words.Op calls.Next) = record { shape = just (a_client ∷ an_iteration ∷ []); line = λ v. lines.Call v.0 (ops.Next v.1.0) }
form (words.Op calls.EndIter) = record { shape = just (a_client ∷ an_iteration ∷ []); line = λ v. lines.Call v.0 (ops.EndIter v.1.0) }
form (words.Op calls.Write) = record { shape = times (a_client ∷ a_place ∷ []) io_group; line = λ v. lines.Call v.0.0 (ops.Write v.0.1.0 (updates.Write (map io_element v.1))) }
form (words.Op calls.Over) = record { shape = just (a_client ∷ a_place ∷ an_id ∷ some_bytes ∷ []); line = λ v. lines.Call v.0 (ops.Over v.1.0 (updates.Overwrite v.1.1.0 v.1.1.1.0)) }
form (words.Op calls.Read) = record { shape = times (a_client ∷ a_place ∷ []) read_group; line = λ v. lines.Call v.0.0 (ops.Read v.0.1.0 (map read_element v.1)) }
form (words.Op calls.Sync) = record { shape = just (a_client ∷ a_place ∷ a_time ∷ []); line = λ v. lines.Call v.0 (ops.Sync v.1.0 v.1.1.0) }
form (words.Op calls.SyncAsync) = record { shape = just (a_client ∷ a_place ∷ any_number ∷ []); line = λ v. lines.Call v.0 (ops.SyncAsync v.1.0 v.1.1.0) }
form (words.Op calls.Dispatch) = record { shape = just (a_client ∷ flags ∷ []); line = λ v. lines.Call v.0 (ops.Dispatch v.1.0) }
form words.Step = record { shape = just (a_who ∷ a_number 1 line_steps_max ∷ []); line = λ v. lines.Step v.0 v.1.0 }
form words.Finish = record { shape = just (a_who ∷ []); line = λ v. lines.Finish v.0 }
form (words.Op calls.Copy) = record { shape = just (a_node ∷ []); line = λ v. lines.Copy v.0 }
form words.Fail = record { shape = just (a_node ∷ []); line = λ v. lines.Fail v.0 }
form words.Join = record { shape = just (a_node ∷ []); line = λ v. lines.Join v.0 }
form words.At = record { shape = just (a_moment ∷ []); line = λ v. lines.At v.0 }
form words.Pull = record { shape = just (a_ckpt ∷ []); line = λ v. lines.Pull v.0 }
form words.Put = record { shape = just (a_ckpt ∷ a_node ∷ []); line = λ v. lines.Put v.0 v.1.0 }
form words.Propagate = record { shape = just (a_ckpt ∷ []); line = λ v. lines.Propagate v.0 }
form words.Show = record { shape = just (a_ckpt ∷ []); line = λ v. lines.Show v.0 }
form words.Race = record { shape = just []; line = λ v. lines.Race }
form words.End = record { shape = just []; line = λ v. lines.End }

-- the one of these words that is spelled so
abbrev pub named_among : List FirstWord → List ℕ → Option FirstWord
named_among ks w = find (λ k. bytes_eq w (first_word_text k)) ks

-- a first word of the calls that are most used
unfoldable pub word_of_first : List ℕ → Option FirstWord
word_of_first w = named_among ((words.Op calls.Write) ∷ (words.Op calls.Read) ∷ (words.Op calls.Open) ∷ (words.Op calls.Client) ∷ (words.Op calls.Close) ∷ (words.Op calls.Unlink) ∷ (words.Op calls.Retain) ∷ (words.Op calls.Status) ∷ (words.Op calls.Create) ∷ (words.Op calls.Delete) ∷ (words.Op calls.Expire) ∷ (words.Op calls.Over) ∷ []) w

-- a first word of other calls, or of the lines `nodes`, `copy` and `at`
unfoldable pub word_of_second : List ℕ → Option FirstWord
word_of_second w = named_among ((words.Op calls.Finalize) ∷ (words.Op calls.OpenAsync) ∷ (words.Op calls.Active) ∷ (words.Op calls.Iter) ∷ (words.Op calls.Next) ∷ (words.Op calls.EndIter) ∷ (words.Op calls.Sync) ∷ (words.Op calls.SyncAsync) ∷ (words.Op calls.Dispatch) ∷ (words.Op calls.Copy) ∷ words.Nodes ∷ words.At ∷ []) w

-- a first word of the other lines
unfoldable pub word_of_third : List ℕ → Option FirstWord
word_of_third w = named_among (words.Step ∷ words.Finish ∷ words.Fail ∷ words.Join ∷ words.Pull ∷ words.Put ∷ words.Propagate ∷ words.Show ∷ words.Race ∷ words.End ∷ []) w

-- the first word that is spelled so
unfoldable pub first_word_of : List ℕ → Option FirstWord
first_word_of w = or_else (word_of_first w) (or_else (word_of_second w) (word_of_third w))

-- THE WORDS WHOSE LINES ARE NOT BUILT YET, one row each
abbrev pub is_later : FirstWord → Bool
is_later words.Race = true
is_later words.End = true
is_later _ = false

-- what may stand behind `begin`: a call or a copying
abbrev pub may_begin : FirstWord → Bool
may_begin (words.Op call) = true
may_begin _ = false

-- the numbers of words that a line may have behind its first
abbrev pub counts : LineShape → ℕ → Bool
counts (just cs) n = n == length cs
counts (maybe cs ds) n = n == length cs || n == length cs + length ds
counts (times cs ds) n = nat_lt (length cs) n && (n - length cs) % length ds == 0 && nat_le (n - length cs) (line_elements_max * length ds)

-- what the words in front say by these classes, and the words behind them; the fault is the first from the left
abbrev pub fields : (cs : List Class) → List (List ℕ) → Result (Values cs × List (List ℕ)) Reason
fields [] ws = Ok (tt, ws)
fields (c ∷ cs) [] = Err reasons.Count
fields (c ∷ cs) (w ∷ ws) = do
  v ← read_word c w
  vs ← fields cs ws
  Ok ((v, vs.0), vs.1)

-- the same n times
unfoldable pub groups : (ds : List Class) → ℕ → List (List ℕ) → Result (List (Values ds)) Reason
groups ds zero ws = Ok []
groups ds (suc n) ws = do
  v ← fields ds ws
  vs ← groups ds n v.1
  Ok (v.0 ∷ vs)

-- the words of these classes, where there are any
abbrev pub rest_of : (ds : List Class) → List (List ℕ) → Result (Option (Values ds)) Reason
rest_of ds [] = Ok None
rest_of ds (w ∷ ws) = do
  v ← fields ds (w ∷ ws)
  Ok (Some v.0)

-- what the words behind the first say by their shape
abbrev pub values_told : (s : LineShape) → List (List ℕ) → Result (LineValues s) Reason
values_told (just cs) ws = do
  v ← fields cs ws
  Ok v.0
values_told (maybe cs ds) ws = do
  v ← fields cs ws
  more ← rest_of ds v.1
  Ok (v.0, more)
values_told (times cs ds) ws = do
  v ← fields cs ws
  more ← groups ds (length v.1 / length ds) v.1
  Ok (v.0, more)

-- a line of a form, from the words behind its first
abbrev pub line_by : Form → List (List ℕ) → Result Line Reason
line_by f ws = if counts f.shape (length ws) then (values_told f.shape ws >>= λ v. Ok (f.line v)) else Err reasons.Count

-- a line of the form of this word
unfoldable pub said_by : FirstWord → List (List ℕ) → Result Line Reason
said_by k ws = line_by (form k) ws

-- the words of these classes made into a value, where there are any
abbrev pub more_made : {X : Type 0} → (ds : List Class) → (Values ds → X) → List (List ℕ) → Result (Option X) Reason
more_made ds f ws = rest_of ds ws >>= λ v. Ok (option_map f v)

-- one group made into a value, and the words behind it
abbrev pub one_made : {X : Type 0} → (ds : List Class) → (Values ds → X) → List (List ℕ) → Result (X × List (List ℕ)) Reason
one_made ds f ws = fields ds ws >>= λ v. Ok (f v.0, v.1)

-- so many groups made into values
abbrev pub gather : {X : Type 0} → (ds : List Class) → (Values ds → X) → ℕ → List (List ℕ) → Result (List X) Reason
gather ds f n ws = groups ds n ws >>= λ vs. Ok (map f vs)

-- a call or a copying that is begun and not stepped
abbrev pub only_begun : Line → Line
only_begun (lines.Call c o) = lines.Begin (actor.Client c) o
only_begun (lines.Copy n) = lines.Begin (actor.Node n) ops.Copy
only_begun other = other

-- the line that a first word and the words behind it say
abbrev pub plain_by : Option FirstWord → List (List ℕ) → Result Line Reason
plain_by None ws = Err reasons.Word
plain_by (Some k) ws = said_by k ws

-- the line that a word and those behind it say, where they stand behind `begin`
abbrev pub begun_by : Option FirstWord → List (List ℕ) → Result Line Reason
begun_by None ws = Err reasons.Word
begun_by (Some k) ws = if may_begin k then (said_by k ws >>= λ x. Ok (only_begun x)) else Err reasons.Word

-- the line that the words behind `begin` say
abbrev pub begin : List (List ℕ) → Result Line Reason
begin [] = Err reasons.Count
begin (w ∷ ws) = begun_by (first_word_of w) ws

-- the line that these words say, none of them empty
abbrev pub line_in : List (List ℕ) → Result Line Reason
line_in [] = Err reasons.Word
line_in (w ∷ ws) = if bytes_eq w begin_text then begin ws else plain_by (first_word_of w) ws

-- a word with no byte, which no line may have
abbrev pub is_empty : List ℕ → Bool
is_empty w = length w == 0

-- a first word whose lines are not built yet
abbrev pub is_later_word : Option FirstWord → Bool
is_later_word None = false
is_later_word (Some k) = is_later k

-- the same of the word behind `begin`, where there is one
abbrev pub begins_later : List (List ℕ) → Bool
begins_later [] = false
begins_later (w ∷ ws) = is_later_word (first_word_of w)

-- a line that is not built by its first word, or by the word behind `begin`
abbrev pub not_built : List (List ℕ) → Bool
not_built [] = false
not_built (w ∷ ws) = if bytes_eq w begin_text then begins_later ws else is_later_word (first_word_of w)

-- the line that these words say
unfoldable pub line_said : List (List ℕ) → Result Line Reason
line_said ws = if not_built ws then Err reasons.NotBuilt else if list_any is_empty ws then Err reasons.Word else line_in ws
