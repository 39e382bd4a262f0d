-- What is read asks for no more than what is built.
use Rattle.std.proofs.Common.{◌≡◌, refl, ◌^◌, ◌-◌, ◌<◌, ◌≤◌, Bool, true, false, not, List, [], ◌∷◌, length, map, ℤ, pos, negsuc, ◌≤ℤ◌, int_lt, Option, Some, None, option_map, sum_by, arith, subst, sym, ap, ◌∙◌, inl, inr, if◌then◌else◌}
use Rattle.std.specs.List.{All}
use Rattle.std.proofs.lemmas.Int.{ints}
use Rattle.std.proofs.lemmas.List.{length-map}
use Rattle.std.proofs.lemmas.List.Elements.{All-nil, All-cons}
use Rattle.std.proofs.lemmas.List.Sums.{sum_by-cons}
use Rattle.ckpt_types.specs.declared.update.ReadElement.{ReadElement}
use Rattle.ckpt_types.specs.declared.update.Update.TheVariants as updates
use Rattle.ckpt_types.specs.Limits.{script_lines_max, script_reads_max, line_elements_max}
use Rattle.script_words.specs.declared.reason.Reason.{Reason}
use Rattle.script_words.specs.declared.reason.Reason.TheVariants as reasons
use Rattle.script_words.specs.Fitting.{IsMoment}
use Rattle.ckpt_types.specs.declared.words.FirstWord.{FirstWord}
use Rattle.ckpt_types.specs.declared.words.FirstWord.TheVariants as words
use Rattle.ckpt_types.specs.declared.words.OpWord.TheVariants as calls
use Rattle.script_lines.specs.declared.lines.Line.{Line}
use Rattle.script_lines.specs.declared.lines.Line.TheVariants as lines
use Rattle.script_lines.specs.Table.{Values, LineValues, form, is_later, only_begun, attributes, attributes_of, io_group, io_element, read_group, read_element}
use Rattle.script_lang.specs.Grammar.{marks_of, moment_behind_all, order_fault, is_nodes, goes_back, asked_in}
use Rattle.script_lines.specs.Fitting.{FitAll, FitMore, FitGroups, FitValues, IsLine}
use Rattle.script_lang.specs.Scripts.{Orderly, IsScript}
use Rattle.script_lang.specs.BuiltScripts.{HasNumbersInRange, HaveNumbersInRange, IsIoElement, IsReadElement, AreWrites, AreReads, IsBuiltLine, AreBuiltLines, AreFirstNodes, AreNodesFirst, IsBuiltScript}

-- WHAT THE WORDS OF A LINE SAY IS IN ITS RANGE

numbers : (v : Values attributes) → FitAll attributes v → HasNumbersInRange (attributes_of v)
numbers v f = record {
  flags = omega (arith, f.0.1);
  sections = omega (arith, f.1.1.1.0.1);
  size = omega (arith, f.1.0.1);
  section_size = omega (arith, f.1.1.1.1.0.1);
  id_size = omega (arith, f.1.1.1.1.1.0.1);
}

all_numbers : (o : Option (Values attributes)) → FitMore attributes o → HaveNumbersInRange (option_map attributes_of o)
all_numbers None f = tt
all_numbers (Some v) f = numbers v f

io_elements : (vs : List (Values io_group)) → FitGroups io_group vs → All IsIoElement (map io_element vs)
io_elements [] f = All-nil IsIoElement
io_elements (v ∷ vs) f = All-cons IsIoElement (io_element v) (map io_element vs) (omega (arith, f.0.1.0.1), f.0.0.1) (io_elements vs f.1)

writes_built : (vs : List (Values io_group)) → FitGroups io_group vs → 0 < length vs → length vs ≤ line_elements_max → AreWrites (updates.Write (map io_element vs))
writes_built vs f some most = let n = length-map vs io_element in (omega (arith, n, some), omega (arith, n, most), io_elements vs f)

read_elements : (vs : List (Values read_group)) → FitGroups read_group vs → sum_by (λ e. e.len) (map read_element vs) ≤ script_reads_max → All IsReadElement (map read_element vs)
read_elements [] f asked = All-nil IsReadElement
read_elements (v ∷ vs) f asked =
    let all = sum_by-cons (λ (e : ReadElement). e.len) (read_element v) (map read_element vs) in
    All-cons IsReadElement (read_element v) (map read_element vs) (omega (arith, f.0.1.0.1), omega (arith, all, asked), f.0.0.1) (read_elements vs f.1 (omega (arith, all, asked)))

reads_built : (vs : List (Values read_group)) → FitGroups read_group vs → 0 < length vs → length vs ≤ line_elements_max → sum_by (λ e. e.len) (map read_element vs) ≤ script_reads_max → AreReads (map read_element vs)
reads_built vs f some most asked = let n = length-map vs read_element in (omega (arith, n, some), omega (arith, n, most), read_elements vs f asked, asked)

-- a moment that the one before allows
later_moment : (t u : ℤ) → IsMoment u → int_lt u t ≡ false → (t ≤ℤ u) × (u ≤ℤ pos (2 ^ 63 - 2))
later_moment t (pos n) f h = (grind (arith, ints, h), grind (arith, ints, f))
later_moment t (negsuc n) f h = absurd f

-- ONE CASE FOR EACH WORD: a line of a form that is built asks for what is built, or brings the nodes up

line_built : (t : ℤ) (k : FirstWord) (v : LineValues (form k).shape) → FitValues (form k).shape v → is_later k ≡ false → is_nodes ((form k).line v) ≡ false → goes_back ((form k).line v) t ≡ false → asked_in ((form k).line v) ≤ script_reads_max → IsBuiltLine t ((form k).line v)
line_built t words.Nodes v f b n m asked = absurd (cc n)
line_built t (words.Op calls.Client) v f b n m asked = (omega (arith, f.0), omega (arith, f.1.0), f.1.1.0)
line_built t (words.Op calls.Open) v f b n m asked = (omega (arith, f.0.0), omega (arith, f.0.1.0), (omega (arith, f.0.1.1.1.0.1), all_numbers v.1 f.1))
line_built t (words.Op calls.OpenAsync) v f b n m asked = (omega (arith, f.0.0), omega (arith, f.0.1.0), (omega (arith, f.0.1.1.0.1), omega (arith, f.0.1.1.1.1.0.1), all_numbers v.1 f.1))
line_built t (words.Op calls.Active) v f b n m asked = (omega (arith, f.0), omega (arith, f.1.0), tt)
line_built t (words.Op calls.Status) v f b n m asked = (omega (arith, f.0), omega (arith, f.1.0), tt)
line_built t (words.Op calls.Finalize) v f b n m asked = (omega (arith, f.0), tt, tt)
line_built t (words.Op calls.Close) v f b n m asked = (omega (arith, f.0), omega (arith, f.1.0), tt)
line_built t (words.Op calls.Unlink) v f b n m asked = (omega (arith, f.0), tt, tt)
line_built t (words.Op calls.Retain) v f b n m asked = (omega (arith, f.0), omega (arith, f.1.0), f.1.1.0)
line_built t (words.Op calls.Create) v f b n m asked = (omega (arith, f.0), omega (arith, f.1.0), (f.1.1.0, f.1.1.1.0))
line_built t (words.Op calls.Delete) v f b n m asked = (omega (arith, f.0), omega (arith, f.1.0), f.1.1.0.1)
line_built t (words.Op calls.Expire) v f b n m asked = (omega (arith, f.0), omega (arith, f.1.0), (f.1.1.0.1, f.1.1.1.0))
line_built t (words.Op calls.Iter) v f b n m asked = (omega (arith, f.0), (omega (arith, f.1.0), omega (arith, f.1.1.0)), omega (arith, f.1.1.1.0.1))
line_built t (words.Op calls.Next) v f b n m asked = (omega (arith, f.0), omega (arith, f.1.0), tt)
line_built t (words.Op calls.EndIter) v f b n m asked = (omega (arith, f.0), omega (arith, f.1.0), tt)
line_built t (words.Op calls.Write) v f b n m asked = (omega (arith, f.0.0), omega (arith, f.0.1.0), writes_built v.1 f.1 f.2 f.3)
line_built t (words.Op calls.Over) v f b n m asked = (omega (arith, f.0), omega (arith, f.1.0), f.1.1.0.1)
line_built t (words.Op calls.Read) v f b n m asked = (omega (arith, f.0.0), omega (arith, f.0.1.0), reads_built v.1 f.1 f.2 f.3 asked)
line_built t (words.Op calls.Sync) v f b n m asked = (omega (arith, f.0), omega (arith, f.1.0), f.1.1.0)
line_built t (words.Op calls.SyncAsync) v f b n m asked = (omega (arith, f.0), omega (arith, f.1.0), omega (arith, f.1.1.0.1))
line_built t (words.Op calls.Dispatch) v f b n m asked = (omega (arith, f.0), tt, omega (arith, f.1.0.1))
line_built t words.Step v f b n m asked = (f.0, omega (arith, f.1.0.0), f.1.0.1)
line_built t words.Finish v f b n m asked = f.0
line_built t words.At v f b n m asked = later_moment t v.0 f.0 m
line_built t words.Pull v f b n m asked = tt
line_built t words.Put v f b n m asked = omega (arith, f.1.0)
line_built t words.Propagate v f b n m asked = tt
line_built t words.Show v f b n m asked = tt
line_built t words.Fail v f b n m asked = omega (arith, f.0)
line_built t words.Join v f b n m asked = omega (arith, f.0)
line_built t (words.Op calls.Copy) v f b n m asked = omega (arith, f.0)
line_built t _ v f b n m asked = absurd (cc b)

node_built : (k : FirstWord) (v : LineValues (form k).shape) → FitValues (form k).shape v → is_nodes ((form k).line v) ≡ true → AreFirstNodes ((form k).line v)
node_built words.Nodes v f n = (omega (arith, f.0.0), f.0.1)
node_built (words.Op calls.Client) v f n = absurd (cc n)
node_built (words.Op _) v f n = absurd (cc n)
node_built _ v f n = absurd (cc n)

-- THE SAME LINE, BEGUN: what is told of it stays

begun_nodes : (x : Line) → is_nodes (only_begun x) ≡ is_nodes x
begun_nodes (lines.Call c o) = refl
begun_nodes _ = refl

begun_back : (x : Line) (t : ℤ) → goes_back (only_begun x) t ≡ goes_back x t
begun_back (lines.Call c o) t = refl
begun_back _ t = refl

begun_asked : (x : Line) → asked_in (only_begun x) ≡ asked_in x
begun_asked (lines.Call c o) = refl
begun_asked _ = refl

begun_built : (t : ℤ) (x : Line) → IsBuiltLine t x → IsBuiltLine t (only_begun x)
begun_built t (lines.Call c o) h = h
begun_built t (lines.Copy n) h = (h, tt, tt)
begun_built t _ h = h

begun_first : (x : Line) → AreFirstNodes x → AreFirstNodes (only_begun x)
begun_first (lines.Call c o) h = absurd h
begun_first (lines.Copy n) h = absurd h
begun_first _ h = h

-- FOR ALL AT ONCE

as_line : (t : ℤ) (x : Line) → IsLine x → is_nodes x ≡ false → goes_back x t ≡ false → asked_in x ≤ script_reads_max → IsBuiltLine t x
as_line t x f n m asked =
    let y = (form f.0).line f.1 in
    elim f.4 [
      | inl e ↦ subst (IsBuiltLine t) (sym e) (line_built t f.0 f.1 f.2 f.3 (ap is_nodes (sym e) ∙ n) (ap (λ z. goes_back z t) (sym e) ∙ m) (subst (λ z. asked_in z ≤ script_reads_max) e asked))
      | inr p ↦
          let plain : asked_in y ≤ script_reads_max = subst (λ n. n ≤ script_reads_max) (ap asked_in p.1 ∙ begun_asked y) asked in
          subst (IsBuiltLine t) (sym p.1) (begun_built t y (line_built t f.0 f.1 f.2 f.3 (sym (ap is_nodes p.1 ∙ begun_nodes y) ∙ n) (sym (ap (λ z. goes_back z t) p.1 ∙ begun_back y t) ∙ m) plain))
    ]

as_node : (x : Line) → IsLine x → is_nodes x ≡ true → AreFirstNodes x
as_node x f n =
    let y = (form f.0).line f.1 in
    elim f.4 [
      | inl e ↦ subst AreFirstNodes (sym e) (node_built f.0 f.1 f.2 (ap is_nodes (sym e) ∙ n))
      | inr p ↦ subst AreFirstNodes (sym p.1) (begun_first y (node_built f.0 f.1 f.2 (sym (ap is_nodes p.1 ∙ begun_nodes y) ∙ n)))
    ]

no_nodes_fault : (b : Bool) (o : Option Reason) → (if b then Some reasons.Nodes else o) ≡ None → (b ≡ false) × (o ≡ None)
no_nodes_fault true o e = absurd (cc)
no_nodes_fault false o e = (refl, e)

no_moment_fault : (b : Bool) (o : Option Reason) → (if b then Some reasons.Moment else o) ≡ None → b ≡ false
no_moment_fault true o e = absurd (cc)
no_moment_fault false o e = refl

was_not : (b : Bool) → not b ≡ false → b ≡ true
was_not true h = refl
was_not false h = absurd (cc)

first_brings_nodes : (x : Line) → order_fault (marks_of []) x ≡ None → is_nodes x ≡ true
unfolding order_fault marks_of
first_brings_nodes x e = was_not (is_nodes x) (no_nodes_fault (not (is_nodes x)) _ e).0

later_nodes : (y : Line) (earlier : List Line) (x : Line) → order_fault (marks_of (y ∷ earlier)) x ≡ None → (is_nodes x ≡ false) × (goes_back x (moment_behind_all (y ∷ earlier)) ≡ false)
unfolding order_fault marks_of
later_nodes y earlier x e =
    let p = no_nodes_fault (is_nodes x) _ e in
    (p.0, no_moment_fault (goes_back x (moment_behind_all (y ∷ earlier))) _ p.1)

-- no moment is set by the line of the nodes
nodes_moment : (x : Line) → is_nodes x ≡ true → moment_behind_all (x ∷ []) ≡ pos 0
nodes_moment (lines.At u) n = absurd (cc n)
nodes_moment _ n = refl

lines_built : (y : Line) (earlier xs : List Line) → Orderly (y ∷ earlier) xs → AreBuiltLines (moment_behind_all (y ∷ earlier)) xs
lines_built y earlier [] o = tt
lines_built y earlier (x ∷ xs) o =
    let now = moment_behind_all (y ∷ earlier) in
    let p = later_nodes y earlier x o.1 in
    (as_line now x o.0 p.0 p.1 o.2, lines_built x (y ∷ earlier) xs o.3)

first_built : (xs : List Line) → IsScript xs → AreNodesFirst xs
first_built [] o = tt
first_built (x ∷ xs) o =
    let n = first_brings_nodes x o.1 in
    (as_node x o.0 n, subst (λ t. AreBuiltLines t xs) (nodes_moment x n) (lines_built x [] xs o.3))

pub built_script : (xs : List Line) → IsScript xs → length xs ≤ script_lines_max → IsBuiltScript xs
built_script xs o few = (first_built xs o, few)
