-- A line is read again from its words. The lemmas by cases on the first word have one case for each row of the table.
use Rattle.std.proofs.Common.{◌≡◌, refl, sym, ◌∙◌, ap, subst, ℕ, Bool, true, false, cond, not, ◌==◌, List, [], ◌∷◌, ◌++◌, length, map, Option, Some, None, Result, Ok, Err, arith, rules, bytes_eq, ◌⊎◌, inl, inr, flat_map}
use Rattle.script_words.specs.declared.reason.Reason.{Reason}
use Rattle.script_words.specs.declared.reason.Reason.TheVariants as reasons
use Rattle.ckpt_types.specs.declared.words.FirstWord.{FirstWord}
use Rattle.ckpt_types.specs.declared.words.FirstWord.TheVariants as words
use Rattle.ckpt_types.specs.declared.words.OpWord.TheVariants as calls
use Rattle.ckpt_types.specs.FirstWord.{begin_text, first_word_text}
use Rattle.script_lines.specs.declared.lines.Line.{Line}
use Rattle.script_words.specs.Reasons.{◌>>=◌}
use Rattle.script_words.specs.Words.{Class}
use Rattle.script_lines.specs.Table.{Values, LineShape, just, maybe, times, LineValues, form, values_told, counts, line_by, said_by, first_word_of, word_of_first, word_of_second, word_of_third, may_begin, plain_by, only_begun, begun_by, begin, line_in, attributes, io_element, read_element, io_group, read_group}
use Rattle.script_lines.specs.Spelling.{spell_all, spell_more, spell_values, Parts, parts, words_by, is_begin, line_words, io_values, read_values}
use Rattle.script_lines.specs.Table.{not_built, is_later_word, begins_later}
use Rattle.script_lines.specs.Fitting.{FitAll, FitMore, FitGroups, FitValues, IsLine}
use Rattle.script_words.proofs.Plain.{Plain}
use Rattle.script_words.proofs.Plain as class
use Rattle.script_lines.proofs.Told.{AllGood, GoodShape, told_again, counts_again, told_said, bind_ok, ok_inj}

-- ONE CASE FOR EACH ROW

pub good_form : (k : FirstWord) → GoodShape (form k).shape
good_form words.Nodes = search rules
good_form (words.Op calls.Client) = search rules
good_form (words.Op calls.Finalize) = search rules
good_form (words.Op calls.Open) = search rules
good_form (words.Op calls.OpenAsync) = search rules
good_form (words.Op calls.Close) = search rules
good_form (words.Op calls.Unlink) = search rules
good_form (words.Op calls.Retain) = search rules
good_form (words.Op calls.Active) = search rules
good_form (words.Op calls.Status) = search rules
good_form (words.Op calls.Create) = search rules
good_form (words.Op calls.Delete) = search rules
good_form (words.Op calls.Expire) = search rules
good_form (words.Op calls.Iter) = search rules
good_form (words.Op calls.Next) = search rules
good_form (words.Op calls.EndIter) = search rules
good_form (words.Op calls.Write) = search rules
good_form (words.Op calls.Over) = search rules
good_form (words.Op calls.Read) = search rules
good_form (words.Op calls.Sync) = search rules
good_form (words.Op calls.SyncAsync) = search rules
good_form (words.Op calls.Dispatch) = search rules
good_form words.Step = search rules
good_form words.Finish = search rules
good_form (words.Op calls.Copy) = search rules
good_form words.Fail = search rules
good_form words.Join = search rules
good_form words.At = search rules
good_form words.Pull = search rules
good_form words.Put = search rules
good_form words.Propagate = search rules
good_form words.Show = search rules
good_form words.Race = search rules
good_form words.End = search rules

word_again : (k : FirstWord) → first_word_of (first_word_text k) ≡ Some k
unfolding first_word_of word_of_first word_of_second word_of_third
word_again (words.Op calls.Client) = refl
word_again (words.Op _) = refl
word_again words.Nodes = refl
word_again _ = refl

not_begin : (k : FirstWord) → bytes_eq (first_word_text k) begin_text ≡ false
not_begin (words.Op calls.Client) = refl
not_begin (words.Op _) = refl
not_begin words.Nodes = refl
not_begin _ = refl

pub first_word_plain : (k : FirstWord) → Plain (first_word_text k)
first_word_plain (words.Op calls.Client) = record { graphic = refl; some = omega arith }
first_word_plain (words.Op _) = record { graphic = refl; some = omega arith }
first_word_plain words.Nodes = record { graphic = refl; some = omega arith }
first_word_plain _ = record { graphic = refl; some = omega arith }

form_plain : (k : FirstWord) (v : LineValues (form k).shape) → is_begin ((form k).line v) ≡ false
form_plain (words.Op calls.Client) v = refl
form_plain (words.Op _) v = refl
form_plain words.Nodes v = refl
form_plain _ v = refl

map_again : {X Y : Type 0} (f : X → Y) (g : Y → X) → ((y : Y) → f (g y) ≡ y) → (ys : List Y) → map f (map g ys) ≡ ys
map_again f g e [] = refl
map_again f g e (y ∷ ys) = rw (e y, map_again f g e ys) refl

parts_again : (k : FirstWord) (v : LineValues (form k).shape) → parts ((form k).line v) ≡ (k, v)
parts_again words.Nodes v = refl
parts_again (words.Op calls.Client) v = refl
parts_again (words.Op calls.Finalize) v = refl
parts_again (words.Op calls.Open) v = elim v.1 as (λ (o : Option (Values attributes)). parts ((form (words.Op calls.Open)).line (v.0, o)) ≡ ((words.Op calls.Open), (v.0, o))) [ None ↦ refl | Some a ↦ refl ]
parts_again (words.Op calls.OpenAsync) v = elim v.1 as (λ (o : Option (Values attributes)). parts ((form (words.Op calls.OpenAsync)).line (v.0, o)) ≡ ((words.Op calls.OpenAsync), (v.0, o))) [ None ↦ refl | Some a ↦ refl ]
parts_again (words.Op calls.Close) v = refl
parts_again (words.Op calls.Unlink) v = refl
parts_again (words.Op calls.Retain) v = refl
parts_again (words.Op calls.Active) v = refl
parts_again (words.Op calls.Status) v = refl
parts_again (words.Op calls.Create) v = refl
parts_again (words.Op calls.Delete) v = refl
parts_again (words.Op calls.Expire) v = refl
parts_again (words.Op calls.Iter) v = refl
parts_again (words.Op calls.Next) v = refl
parts_again (words.Op calls.EndIter) v = refl
parts_again (words.Op calls.Write) v = let P : List (Values io_group) → Parts = λ vs. ((words.Op calls.Write), (v.0, vs)) in ap P (map_again io_values io_element (λ y. refl) v.1)
parts_again (words.Op calls.Over) v = refl
parts_again (words.Op calls.Read) v = let P : List (Values read_group) → Parts = λ vs. ((words.Op calls.Read), (v.0, vs)) in ap P (map_again read_values read_element (λ y. refl) v.1)
parts_again (words.Op calls.Sync) v = refl
parts_again (words.Op calls.SyncAsync) v = refl
parts_again (words.Op calls.Dispatch) v = refl
parts_again words.Step v = refl
parts_again words.Finish v = refl
parts_again (words.Op calls.Copy) v = refl
parts_again words.Fail v = refl
parts_again words.Join v = refl
parts_again words.At v = refl
parts_again words.Pull v = refl
parts_again words.Put v = refl
parts_again words.Propagate v = refl
parts_again words.Show v = refl
parts_again words.Race v = refl
parts_again words.End v = refl

begun_again : (k : FirstWord) (v : LineValues (form k).shape) → may_begin k ≡ true → (is_begin (only_begun ((form k).line v)) ≡ true) × (parts (only_begun ((form k).line v)) ≡ parts ((form k).line v))
begun_again (words.Op calls.Client) v h = (refl, refl)
begun_again (words.Op _) v h = (refl, refl)
begun_again words.Nodes v h = absurd (cc)
begun_again _ v h = absurd (cc)

-- FOR ALL ROWS AT ONCE

by_again : (k : FirstWord) (v : LineValues (form k).shape) → FitValues (form k).shape v → line_by (form k) (spell_values (form k).shape v) ≡ Ok ((form k).line v)
by_again k v f = rw (counts_again (form k).shape (good_form k) v f, told_again (form k).shape (good_form k) v f) refl

pub line_words_plain : (k : FirstWord) (v : LineValues (form k).shape) → line_words ((form k).line v) ≡ first_word_text k ∷ spell_values (form k).shape v
line_words_plain k v = rw (form_plain k v) (ap words_by (parts_again k v))

pub line_words_begun : (k : FirstWord) (v : LineValues (form k).shape) → may_begin k ≡ true → line_words (only_begun ((form k).line v)) ≡ begin_text ∷ first_word_text k ∷ spell_values (form k).shape v
line_words_begun k v h =
    let b = begun_again k v h in
    rw (b.0) (ap (λ ps. begin_text ∷ words_by ps) (b.1 ∙ parts_again k v))

-- how a line is of its form: plain, or behind `begin`
abbrev Said : Line → (k : FirstWord) → LineValues (form k).shape → Type 0
Said x k v = (x ≡ (form k).line v) ⊎ ((may_begin k ≡ true) × (x ≡ only_begun ((form k).line v)))

-- a line is read again from its words
pub line_again : (x : Line) → IsLine x → line_in (line_words x) ≡ Ok x
unfolding said_by
line_again x f = go f.4
  where
    go : Said x f.0 f.1 → line_in (line_words x) ≡ Ok x
    go (inl e) = subst (λ y. line_in (line_words y) ≡ Ok y) (sym e) (rw (line_words_plain f.0 f.1, not_begin f.0, word_again f.0) (by_again f.0 f.1 f.2))
    go (inr p) = subst (λ y. line_in (line_words y) ≡ Ok y) (sym p.1) (rw (line_words_begun f.0 f.1 p.0, word_again f.0, p.0, by_again f.0 f.1 f.2) refl)

-- and its words are of a line that is built
pub built : (x : Line) → IsLine x → not_built (line_words x) ≡ false
built x f = go f.4
  where
    go : Said x f.0 f.1 → not_built (line_words x) ≡ false
    go (inl e) = subst (λ ws. not_built ws ≡ false) (sym (ap line_words e ∙ line_words_plain f.0 f.1)) (rw (not_begin f.0, word_again f.0) (f.3))
    go (inr p) = subst (λ ws. not_built ws ≡ false) (sym (ap line_words p.1 ∙ line_words_begun f.0 f.1 p.0)) (ap is_later_word (word_again f.0) ∙ f.3)

pub picked : {A : Type 0} (b : Bool) (x y : Result A Reason) (z : A) → cond b x y ≡ Ok z → ((b ≡ true) × (x ≡ Ok z)) ⊎ ((b ≡ false) × (y ≡ Ok z))
picked true x y z e = inl (refl, e)
picked false x y z e = inr (refl, e)

by_said : (k : FirstWord) (ws : List (List ℕ)) (x : Line) → line_by (form k) ws ≡ Ok x → (v : LineValues (form k).shape) × FitValues (form k).shape v × (x ≡ (form k).line v)
by_said k ws x e = go (picked (counts (form k).shape (length ws)) (values_told (form k).shape ws >>= λ v. Ok ((form k).line v)) (Err reasons.Count) x e)
  where
    go : ((counts (form k).shape (length ws) ≡ true) × ((values_told (form k).shape ws >>= λ v. Ok ((form k).line v)) ≡ Ok x)) ⊎ ((counts (form k).shape (length ws) ≡ false) × (Err reasons.Count ≡ Ok x)) → (v : LineValues (form k).shape) × FitValues (form k).shape v × (x ≡ (form k).line v)
    go (inl p) =
        let q = bind_ok (values_told (form k).shape ws) _ x p.1 in
        (q.0, told_said (form k).shape (good_form k) ws q.0 p.0 q.1, sym (ok_inj ((form k).line q.0) x q.2))
    go (inr p) = absurd (cc p.1)

plain_said : (o : Option FirstWord) (ws : List (List ℕ)) (x : Line) → is_later_word o ≡ false → plain_by o ws ≡ Ok x → IsLine x
unfolding said_by
plain_said None ws x b e = absurd (cc)
plain_said (Some k) ws x b e =
    let q = by_said k ws x e in
    (k, q.0, q.1, b, inl q.2)

begun_said : (o : Option FirstWord) (ws : List (List ℕ)) (x : Line) → is_later_word o ≡ false → begun_by o ws ≡ Ok x → IsLine x
unfolding said_by
begun_said None ws x b e = absurd (cc)
begun_said (Some k) ws x b e =
    elim (picked (may_begin k) (line_by (form k) ws >>= λ y. Ok (only_begun y)) (Err reasons.Word) x e) [
      | inl r ↦
          let s = bind_ok (line_by (form k) ws) _ x r.1 in
          let q = by_said k ws s.0 s.1 in
          (k, q.0, q.1, b, inr (r.0, sym (ok_inj (only_begun s.0) x s.2) ∙ ap only_begun q.2))
      | inr r ↦ absurd (cc r.1)
    ]

begin_said : (ws : List (List ℕ)) (x : Line) → begins_later ws ≡ false → begin ws ≡ Ok x → IsLine x
begin_said [] x b e = absurd (cc e)
begin_said (w ∷ ws) x b e = begun_said (first_word_of w) ws x b e

picked_both : (b m n : Bool) (x y : Result Line Reason) (z : Line) → cond b m n ≡ false → cond b x y ≡ Ok z → ((m ≡ false) × (x ≡ Ok z)) ⊎ ((n ≡ false) × (y ≡ Ok z))
picked_both true m n x y z h e = inl (h, e)
picked_both false m n x y z h e = inr (h, e)

-- a line that is read is of a form that is built
pub line_in-IsLine : (ws : List (List ℕ)) (x : Line) → not_built ws ≡ false → line_in ws ≡ Ok x → IsLine x
line_in-IsLine [] x b e = absurd (cc e)
line_in-IsLine (w ∷ ws) x b e =
    elim (picked_both (bytes_eq w begin_text) (begins_later ws) (is_later_word (first_word_of w)) (begin ws) (plain_by (first_word_of w) ws) x b e) [ inl p ↦ begin_said ws x p.0 p.1 | inr p ↦ plain_said (first_word_of w) ws x p.0 p.1 ]

-- THE WORDS ARE PLAIN

abbrev pub AllPlain : List (List ℕ) → Type 0
AllPlain [] = Unit {0}
AllPlain (w ∷ ws) = Plain w × AllPlain ws

join_plain : (a b : List (List ℕ)) → AllPlain a → AllPlain b → AllPlain (a ++ b)
join_plain [] b h k = k
join_plain (w ∷ a) b h k = (h.0, join_plain a b h.1 k)

all_plain : (cs : List Class) → AllGood cs → (v : Values cs) → FitAll cs v → AllPlain (spell_all cs v)
all_plain [] g v f = tt
all_plain (c ∷ cs) g v f = (class.spell_plain c g.0 v.0 f.0, all_plain cs g.1 v.1 f.1)

more_plain : (ds : List Class) → AllGood ds → (o : Option (Values ds)) → FitMore ds o → AllPlain (spell_more ds o)
more_plain ds g None f = tt
more_plain ds g (Some v) f = all_plain ds g v f

groups_plain : (ds : List Class) → AllGood ds → (vs : List (Values ds)) → FitGroups ds vs → AllPlain (flat_map (spell_all ds) vs)
groups_plain ds g [] f = tt
groups_plain ds g (v ∷ vs) f = join_plain (spell_all ds v) (flat_map (spell_all ds) vs) (all_plain ds g v f.0) (groups_plain ds g vs f.1)

told_plain : (s : LineShape) → GoodShape s → (v : LineValues s) → FitValues s v → AllPlain (spell_values s v)
told_plain (just cs) g v f = all_plain cs g v f
told_plain (maybe cs ds) g v f = join_plain (spell_all cs v.0) (spell_more ds v.1) (all_plain cs g.0 v.0 f.0) (more_plain ds g.1 v.1 f.1)
told_plain (times cs ds) g v f = join_plain (spell_all cs v.0) (flat_map (spell_all ds) v.1) (all_plain cs g.0 v.0 f.0) (groups_plain ds g.1 v.1 f.1)

abbrev pub starts_no_comment : List ℕ → Bool
starts_no_comment [] = false
starts_no_comment (c ∷ w) = not (c == 35)

-- the first byte is no `#`
abbrev pub no_hash : List (List ℕ) → Bool
no_hash [] = false
no_hash (w ∷ ws) = starts_no_comment w

first_word_starts : (k : FirstWord) → starts_no_comment (first_word_text k) ≡ true
first_word_starts (words.Op calls.Client) = refl
first_word_starts (words.Op _) = refl
first_word_starts words.Nodes = refl
first_word_starts _ = refl

pub words_plain : (x : Line) → IsLine x → AllPlain (line_words x) × (no_hash (line_words x) ≡ true)
words_plain x f = go f.4
  where
    told_so : AllPlain (spell_values (form f.0).shape f.1)
    told_so = told_plain (form f.0).shape (good_form f.0) f.1 f.2

    go : Said x f.0 f.1 → AllPlain (line_words x) × (no_hash (line_words x) ≡ true)
    go (inl e) = subst (λ ws. AllPlain ws × (no_hash ws ≡ true)) (sym (ap line_words e ∙ line_words_plain f.0 f.1)) ((first_word_plain f.0, told_so), first_word_starts f.0)
    go (inr p) = subst (λ ws. AllPlain ws × (no_hash ws ≡ true)) (sym (ap line_words p.1 ∙ line_words_begun f.0 f.1 p.0)) ((record { graphic = refl; some = omega arith }, (first_word_plain f.0, told_so)), refl)
