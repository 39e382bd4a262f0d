-- The one spelling of each line.
use Rattle.std.specs.Prelude.{ℕ, Bool, true, false, List, [], ◌∷◌, ◌++◌, map, Option, Some, None, option_map, if◌then◌else◌, flat_map}
use Rattle.std.specs.List.{join_with_byte}
use Rattle.ckpt_types.specs.declared.attributes.CreationAttributes.{CreationAttributes}
use Rattle.ckpt_types.specs.declared.identities.ActorName.{ActorName}
use Rattle.ckpt_types.specs.declared.identities.ActorName.TheVariants as actor
use Rattle.ckpt_types.specs.declared.operation.Op.{Op}
use Rattle.ckpt_types.specs.declared.operation.Op.TheVariants as ops
use Rattle.ckpt_types.specs.declared.update.IoElement.{IoElement}
use Rattle.ckpt_types.specs.declared.update.ReadElement.{ReadElement}
use Rattle.ckpt_types.specs.declared.update.Update.{Update}
use Rattle.ckpt_types.specs.declared.update.Update.TheVariants as updates
use Rattle.ckpt_types.specs.FirstWord.{begin_text, first_word_text}
use Rattle.script_words.specs.Spelling.{spell}
use Rattle.script_words.specs.Words.{Class}
use Rattle.ckpt_types.specs.declared.words.FirstWord.{FirstWord}
use Rattle.ckpt_types.specs.declared.words.FirstWord.TheVariants as words
use Rattle.ckpt_types.specs.declared.words.OpWord.TheVariants as calls
use Rattle.script_lines.specs.declared.lines.Line.{Line}
use Rattle.script_lines.specs.declared.lines.Line.TheVariants as lines
use Rattle.script_lines.specs.Table.{Values, LineShape, just, maybe, times, LineValues, form, attributes, io_group, read_group}

-- the words of these classes that say this
abbrev pub spell_all : (cs : List Class) → Values cs → List (List ℕ)
spell_all [] v = []
spell_all (c ∷ cs) v = spell c v.0 ∷ spell_all cs v.1

-- the words that a line may have or lack, where it has them
abbrev pub spell_more : (ds : List Class) → Option (Values ds) → List (List ℕ)
spell_more ds None = []
spell_more ds (Some v) = spell_all ds v

-- the words behind the first that say this
abbrev pub spell_values : (s : LineShape) → LineValues s → List (List ℕ)
spell_values (just cs) v = spell_all cs v
spell_values (maybe cs ds) v = spell_all cs v.0 ++ spell_more ds v.1
spell_values (times cs ds) v = spell_all cs v.0 ++ flat_map (spell_all ds) v.1

-- the first word of a line, and what its other words say
abbrev pub Parts : Type 0
Parts = (k : FirstWord) × LineValues (form k).shape

-- what the six words of these attributes say
abbrev pub attributes_values : CreationAttributes → Values attributes
attributes_values a = (a.creation_flags, (a.checkpoint_size, (a.retention_duration, (a.max_sections, (a.max_section_size, (a.max_section_id_size, tt))))))

-- what the three words of an element of a write say
abbrev pub io_values : IoElement → Values io_group
io_values e = (e.id, (e.offset, (e.bytes, tt)))

-- what the three words of an element of a read say
abbrev pub read_values : ReadElement → Values read_group
read_values e = (e.id, (e.offset, (e.len, tt)))

-- an update through a handle: what it is tells its first word
abbrev pub update_parts : ℕ → ℕ → Update → Parts
update_parts c h (updates.Write es) = ((words.Op calls.Write), ((c, (h, tt)), map io_values es))
update_parts c h (updates.Overwrite id b) = ((words.Op calls.Over), (c, (h, (id, (b, tt)))))
update_parts c h (updates.Create id t b) = ((words.Op calls.Create), (c, (h, (id, (t, (b, tt))))))
update_parts c h (updates.Delete id) = ((words.Op calls.Delete), (c, (h, (id, tt))))
update_parts c h (updates.SetExpiration id t) = ((words.Op calls.Expire), (c, (h, (id, (t, tt)))))
update_parts c h updates.Nothing = ((words.Op calls.Write), ((c, (h, tt)), []))

-- a call of a client
abbrev pub call_parts : ℕ → Op → Parts
call_parts c (ops.Client n v k) = ((words.Op calls.Client), (c, (n, (v, (k, tt)))))
call_parts c ops.Finalize = ((words.Op calls.Finalize), (c, tt))
call_parts c (ops.Open h b f t a) = ((words.Op calls.Open), ((c, (h, (b, (f, (t, tt))))), option_map attributes_values a))
call_parts c (ops.OpenAsync h i b f a) = ((words.Op calls.OpenAsync), ((c, (h, (i, (b, (f, tt))))), option_map attributes_values a))
call_parts c (ops.Close h) = ((words.Op calls.Close), (c, (h, tt)))
call_parts c (ops.Unlink b) = ((words.Op calls.Unlink), (c, (b, tt)))
call_parts c (ops.Retain h t) = ((words.Op calls.Retain), (c, (h, (t, tt))))
call_parts c (ops.Active h) = ((words.Op calls.Active), (c, (h, tt)))
call_parts c (ops.Status h) = ((words.Op calls.Status), (c, (h, tt)))
call_parts c (ops.Create h u) = update_parts c h u
call_parts c (ops.Delete h u) = update_parts c h u
call_parts c (ops.Expire h u) = update_parts c h u
call_parts c (ops.Iter i h n t) = ((words.Op calls.Iter), (c, (i, (h, (n, (t, tt))))))
call_parts c (ops.Next i) = ((words.Op calls.Next), (c, (i, tt)))
call_parts c (ops.EndIter i) = ((words.Op calls.EndIter), (c, (i, tt)))
call_parts c (ops.Write h u) = update_parts c h u
call_parts c (ops.Over h u) = update_parts c h u
call_parts c (ops.Read h es) = ((words.Op calls.Read), ((c, (h, tt)), map read_values es))
call_parts c (ops.Sync h t) = ((words.Op calls.Sync), (c, (h, (t, tt))))
call_parts c (ops.SyncAsync h i) = ((words.Op calls.SyncAsync), (c, (h, (i, tt))))
call_parts c (ops.Dispatch f) = ((words.Op calls.Dispatch), (c, (f, tt)))
call_parts c ops.Copy = ((words.Op calls.Copy), (c, tt))

-- a call of a client or a node that is begun
abbrev pub begun_parts : ActorName → Op → Parts
begun_parts (actor.Client c) o = call_parts c o
begun_parts (actor.Node n) o = ((words.Op calls.Copy), (n, tt))

-- a line, as its form takes it apart
abbrev pub parts : Line → Parts
parts (lines.Nodes n) = (words.Nodes, (n, tt))
parts (lines.Call c o) = call_parts c o
parts (lines.Begin a o) = begun_parts a o
parts (lines.Step a n) = (words.Step, (a, (n, tt)))
parts (lines.Finish a) = (words.Finish, (a, tt))
parts (lines.Copy n) = ((words.Op calls.Copy), (n, tt))
parts (lines.Fail n) = (words.Fail, (n, tt))
parts (lines.Join n) = (words.Join, (n, tt))
parts (lines.At t) = (words.At, (t, tt))
parts (lines.Pull k) = (words.Pull, (k, tt))
parts (lines.Put k n) = (words.Put, (k, (n, tt)))
parts (lines.Propagate k) = (words.Propagate, (k, tt))
parts (lines.Show k) = (words.Show, (k, tt))
parts lines.Race = (words.Race, tt)
parts lines.End = (words.End, tt)

-- the words that these parts make, with the first
abbrev pub words_by : Parts → List (List ℕ)
words_by p = first_word_text p.0 ∷ spell_values (form p.0).shape p.1

-- a line with `begin` in front, whose call is only begun
abbrev pub is_begin : Line → Bool
is_begin (lines.Begin a o) = true
is_begin _ = false

-- the words of a line
abbrev pub line_words : Line → List (List ℕ)
line_words x = if is_begin x then begin_text ∷ words_by (parts x) else words_by (parts x)

-- the words with one space between two
unfoldable pub line_text : Line → List ℕ
line_text x = join_with_byte 32 (line_words x)

-- each word with a space in front of it
abbrev pub tail_text : List (List ℕ) → List ℕ
tail_text [] = []
tail_text (w ∷ ws) = 32 ∷ w ++ tail_text ws

-- the words with one space between two, stated word after word as they are written
abbrev pub with_spaces : List (List ℕ) → List ℕ
with_spaces [] = []
with_spaces (w ∷ ws) = w ++ tail_text ws

-- the text of an update, word after word
unfoldable pub written_update : ℕ → ℕ → Update → List ℕ
written_update c h u = with_spaces (words_by (update_parts c h u))

-- the text of a call, word after word
unfoldable pub written_call : ℕ → Op → List ℕ
written_call c o = with_spaces (words_by (call_parts c o))

-- the text of a line, word after word
unfoldable pub written_line : Line → List ℕ
written_line x = with_spaces (line_words x)
