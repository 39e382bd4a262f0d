-- A script that was read is read again from its spelling.
use Rattle.std.proofs.Common.{◌≡◌, refl, sym, ◌∙◌, ap, subst, ℕ, ◌+◌, ◌<◌, ◌≤◌, Bool, true, false, cond, not, ◌==◌, List, [], ◌∷◌, ◌++◌, length, map, reverse, Option, Some, None, is_some, Result, Ok, Err, nat_lt, nat_le, arith, if◌then◌else◌, ◌⊎◌, inl, inr, flat_map, append_assoc}
use Rattle.std.specs.List.{list_any, list_all, join_with_byte, All}
use Rattle.std.proofs.lemmas.List.Folds.{list_all-append}
use Rattle.std.proofs.lemmas.List.{append-nil, reverse-reverse, reverse-append}
use Rattle.std.proofs.lemmas.List.Splits.{slice_split_at, slice_split_none}
use Rattle.std.proofs.lemmas.List.Elements.{All-nil, All-cons}
use Rattle.ckpt_types.specs.Limits.{script_lines_max, script_bytes_max, script_reads_max}
use Rattle.script_words.specs.declared.reason.Reason.{Reason}
use Rattle.script_words.specs.declared.reason.Reason.TheVariants as reasons
use Rattle.script_lang.specs.declared.faults.ScriptFault.{ScriptFault}
use Rattle.script_lines.specs.declared.lines.Line.{Line}
use Rattle.script_words.specs.Words.{is_graphic, or_else}
use Rattle.script_lines.specs.Table.{line_in, is_empty, line_said, not_built}
use Rattle.script_lang.specs.Grammar.{text_lines, is_space, words_of, some_line, reading, fault_of, Progress, start, fault, with_line, if_allowed, after_reading, take_line, take_lines, if_no_fault, whole_script, script_of, block_of}
use Rattle.script_lines.specs.Spelling.{line_words, line_text}
use Rattle.script_lang.specs.Spelling.{spelling}
use Rattle.script_lang.specs.Grammar.{marks_of, order_fault, limit_fault, fault_after, asked_in}
use Rattle.script_lines.specs.Fitting.{IsLine}
use Rattle.script_lang.specs.Scripts.{Orderly, IsScript}
use Rattle.script_words.proofs.Plain.{both_pass}
use Rattle.script_lines.proofs.Told.{ok_inj}
use Rattle.script_lines.proofs.Rows.{AllPlain, no_hash, starts_no_comment, line_again, line_in-IsLine, words_plain, built, picked}

-- WORDS

no_space : (w : List ℕ) → list_all is_graphic w ≡ true → All (λ x. is_space x ≡ false) w
no_space [] h = All-nil (λ x. is_space x ≡ false)
no_space (c ∷ w) h =
    let b = both_pass (is_graphic c) (list_all is_graphic w) h in
    let first : is_space c ≡ false = grind (arith, b.0) in
    All-cons (λ x. is_space x ≡ false) c w first (no_space w b.1)

words_again : (w : List ℕ) (ws : List (List ℕ)) → AllPlain (w ∷ ws) → words_of (join_with_byte 32 (w ∷ ws)) ≡ w ∷ ws
words_again w [] h = slice_split_none is_space w (no_space w h.0.graphic)
words_again w (v ∷ ws) h = slice_split_at is_space w 32 (join_with_byte 32 (v ∷ ws)) (no_space w h.0.graphic) refl ∙ ap (λ vs. w ∷ vs) (words_again v ws h.1)

plain_none_empty : (ws : List (List ℕ)) → AllPlain ws → list_any is_empty ws ≡ false
plain_none_empty [] h = refl
plain_none_empty (w ∷ ws) h =
    let first : is_empty w ≡ false = grind (arith, h.0.some) in
    rw (first, plain_none_empty ws h.1) refl

-- a text that is no comment is read by its words
read_by_words : (text : List ℕ) → starts_no_comment text ≡ true → reading text ≡ some_line (line_said (words_of text))
unfolding reading
read_by_words [] h = absurd (cc)
read_by_words (c ∷ text) h = let other : (c == 35) ≡ false = grind (arith, h) in rw other refl

joined_start : (ws : List (List ℕ)) → no_hash ws ≡ true → starts_no_comment (join_with_byte 32 ws) ≡ true
joined_start [] h = absurd (cc)
joined_start ([] ∷ ws) h = absurd (cc)
joined_start ((c ∷ w) ∷ []) h = h
joined_start ((c ∷ w) ∷ v ∷ ws) h = h

line_text_again : (ws : List (List ℕ)) (x : Line) → not_built ws ≡ false → AllPlain ws → no_hash ws ≡ true → line_in ws ≡ Ok x → reading (join_with_byte 32 ws) ≡ Ok (Some x)
unfolding line_said
line_text_again [] x b h k e = absurd (cc)
line_text_again (w ∷ ws) x b h k e = read_by_words (join_with_byte 32 (w ∷ ws)) (joined_start (w ∷ ws) k) ∙ rw (words_again w ws h, b, plain_none_empty (w ∷ ws) h, e) refl

reading_again : (x : Line) → IsLine x → reading (line_text x) ≡ Ok (Some x)
unfolding line_text
reading_again x f = let p = words_plain x f in line_text_again (line_words x) x (built x f) p.0 p.1 (line_again x f)

some_ok : (r : Result Line Reason) (o : Option Line) → some_line r ≡ Ok o → (x : Line) × (r ≡ Ok x) × ◌≡◌ {A = Result (Option Line) Reason} (Ok (Some x)) (Ok o)
some_ok (Ok x) o e = (x, refl, e)
some_ok (Err d) o e = absurd (cc)

reading_said : (text : List ℕ) (x : Line) → reading text ≡ Ok (Some x) → IsLine x
unfolding reading line_said
reading_said [] x e = let h : None ≡ Some x = ok_inj None (Some x) e in absurd (cc)
reading_said (c ∷ text) x e =
    elim (picked (c == 35) (Ok None) (some_line (line_said (words_of (c ∷ text)))) (Some x) e) [
      | inl p ↦ let h : None ≡ Some x = ok_inj None (Some x) p.1 in absurd (cc)
      | inr p ↦
          let q = some_ok (line_said (words_of (c ∷ text))) (Some x) p.1 in
          let h : Some q.0 ≡ Some x = ok_inj (Some q.0) (Some x) q.2 in
          let same : q.0 ≡ x = cc in
          elim (picked (not_built (words_of (c ∷ text))) (Err reasons.NotBuilt) (if list_any is_empty (words_of (c ∷ text)) then Err reasons.Word else line_in (words_of (c ∷ text))) q.0 q.1) [
            | inl n ↦ absurd (cc n.1)
            | inr n ↦
                elim (picked (list_any is_empty (words_of (c ∷ text))) (Err reasons.Word) (line_in (words_of (c ∷ text))) q.0 n.1) [
                  | inl r ↦ absurd (cc r.1)
                  | inr r ↦ subst IsLine same (line_in-IsLine (words_of (c ∷ text)) q.0 n.0 r.1)
                ]
          ]
    ]

-- LINES

abbrev not_newline : ℕ → Bool
not_newline b = not (b == 10)

graphic_inline : (w : List ℕ) → list_all is_graphic w ≡ true → list_all not_newline w ≡ true
graphic_inline [] h = refl
graphic_inline (c ∷ w) h =
    let b = both_pass (is_graphic c) (list_all is_graphic w) h in
    let first : not_newline c ≡ true = grind (arith, b.0) in
    rw (first, graphic_inline w b.1) refl

joined_inline : (ws : List (List ℕ)) → AllPlain ws → list_all not_newline (join_with_byte 32 ws) ≡ true
joined_inline [] h = refl
joined_inline (w ∷ []) h = graphic_inline w h.0.graphic
joined_inline (w ∷ v ∷ ws) h = rw (list_all-append not_newline w (32 ∷ join_with_byte 32 (v ∷ ws)), graphic_inline w h.0.graphic, joined_inline (v ∷ ws) h.1) refl

line_inline : (x : Line) → IsLine x → list_all not_newline (line_text x) ≡ true
unfolding line_text
line_inline x f = joined_inline (line_words x) (words_plain x f).0

one_line : (l rest : List ℕ) → list_all not_newline l ≡ true → text_lines (l ++ 10 ∷ rest) ≡ l ∷ text_lines rest
one_line [] rest h = refl
one_line (c ∷ l) rest h =
    let b = both_pass (not_newline c) (list_all not_newline l) h in
    let other : (c == 10) ≡ false = grind (arith, b.0) in
    rw (other, one_line l rest b.1) refl

abbrev AllLines : List Line → Type 0
AllLines [] = Unit {0}
AllLines (x ∷ xs) = IsLine x × AllLines xs

lines_again : (xs : List Line) → AllLines xs → text_lines (spelling xs) ≡ map line_text xs
unfolding spelling
lines_again [] f = refl
lines_again (x ∷ xs) f = rw (append_assoc (line_text x) (10 ∷ []) (flat_map (λ y. line_text y ++ 10 ∷ []) xs), one_line (line_text x) (flat_map (λ y. line_text y ++ 10 ∷ []) xs) (line_inline x f.0)) (ap (λ ls. line_text x ∷ ls) (lines_again xs f.1))

-- STEPS

picked_fault : {A : Type 0} (b : Bool) (x y : Result A ScriptFault) (z : A) → cond b x y ≡ Ok z → ((b ≡ true) × (x ≡ Ok z)) ⊎ ((b ≡ false) × (y ≡ Ok z))
picked_fault true x y z e = inl (refl, e)
picked_fault false x y z e = inr (refl, e)

then_ok : {A B : Type 0} (r : Result A ScriptFault) (f : A → Result B ScriptFault) (y : B) → if_no_fault r f ≡ Ok y → (x : A) × (r ≡ Ok x) × (f x ≡ Ok y)
then_ok (Ok x) f y e = (x, refl, e)
then_ok (Err d) f y e = absurd (cc)

fine_inj : {A : Type 0} (x y : A) → ◌≡◌ {A = Result A ScriptFault} (Ok x) (Ok y) → x ≡ y
fine_inj x y e = cc

-- what one step of a script did: it passed nothing, or a line that is allowed
data Stepped (p q : Progress) : Type 0 where
  skipped : q.earlier ≡ p.earlier → q.number ≡ p.number + 1 → p.number < script_lines_max → Stepped p q
  took : (x : Line) → IsLine x → fault_of p.earlier x ≡ None → q.earlier ≡ x ∷ p.earlier → q.number ≡ p.number + 1 → p.number < script_lines_max → Stepped p q

if_taken : (p q : Progress) (x : Line) (o : Option Reason) → IsLine x → fault_of p.earlier x ≡ o → p.number < script_lines_max → if_allowed p x o ≡ Ok q → Stepped p q
if_taken p q x None f h lt e = let same : with_line p x ≡ q = fine_inj (with_line p x) q e in took x f h (sym (ap (λ (r : Progress). r.earlier) same)) (sym (ap (λ (r : Progress). r.number) same)) lt
if_taken p q x (Some r) f h lt e = absurd (cc)

stepped_by : (p q : Progress) (text : List ℕ) (r : Result (Option Line) Reason) → reading text ≡ r → p.number < script_lines_max → after_reading p r ≡ Ok q → Stepped p q
stepped_by p q text (Err d) h lt e = absurd (cc)
stepped_by p q text (Ok None) h lt e = let same : record p { number = p.number + 1 } ≡ q = fine_inj (record p { number = p.number + 1 }) q e in skipped (sym (ap (λ (r : Progress). r.earlier) same)) (sym (ap (λ (r : Progress). r.number) same)) lt
stepped_by p q text (Ok (Some x)) h lt e = if_taken p q x (fault_of p.earlier x) (reading_said text x h) refl lt e

taken_line : (p q : Progress) (text : List ℕ) → take_line p text ≡ Ok q → Stepped p q
unfolding take_line
taken_line p q text e = elim (picked_fault (nat_le script_lines_max p.number) (fault (p.number + 1) reasons.Lines) (after_reading p (reading text)) q e) [
  | inl h ↦ absurd (cc h.1)
  | inr h ↦ let lt : p.number < script_lines_max = grind (arith, h.0) in stepped_by p q text (reading text) refl lt h.1
]

-- a line that was allowed is allowed again
take_again : (r : Progress) (x : Line) → IsLine x → fault_of r.earlier x ≡ None → r.number < script_lines_max → take_line r (line_text x) ≡ Ok (with_line r x)
unfolding take_line
take_again r x f none lt =
    let early : nat_le script_lines_max r.number ≡ false = grind (arith, lt) in
    rw (early, reading_again x f, none) refl

no_first : (o l : Option Reason) → or_else o l ≡ None → (o ≡ None) × (l ≡ None)
no_first None l e = (refl, e)
no_first (Some r) l e = absurd (cc)

ordered : (earlier : List Line) (x : Line) → fault_of earlier x ≡ None → order_fault (marks_of earlier) x ≡ None
unfolding fault_after
ordered earlier x e = (no_first (order_fault (marks_of earlier) x) (limit_fault (marks_of earlier) x) e).0

no_reads_fault : (n : ℕ) (o : Option Reason) → (if nat_lt script_reads_max n then Some reasons.Reads else o) ≡ None → n ≤ script_reads_max
no_reads_fault n o e = go (nat_lt script_reads_max n) refl e
  where
    go : (b : Bool) → nat_lt script_reads_max n ≡ b → (if b then Some reasons.Reads else o) ≡ None → n ≤ script_reads_max
    go true h none = absurd (cc)
    go false h none = grind (arith, h)

asked_before : (earlier : List Line) (x : Line) → fault_of earlier x ≡ None → asked_in x ≤ script_reads_max
unfolding fault_after limit_fault
asked_before earlier x e =
    let limits = (no_first (order_fault (marks_of earlier) x) (limit_fault (marks_of earlier) x) e).1 in
    let all = no_reads_fault ((marks_of earlier).asked + asked_in x) _ limits in
    omega (arith, all)

abbrev joined_to : List Line → List Line → List Line
joined_to news late = news ++ late

-- the lines that steps took, and that they are taken again by a reader that is not further on
record Retaken (p q : Progress) : Type 0 where
  news : List Line
  fit : AllLines news
  orderly : (late : List Line) → Orderly q.earlier late → Orderly p.earlier (joined_to news late)
  told : q.earlier ≡ reverse news ++ p.earlier
  count : length news + p.number ≤ q.number
  most : p.number ≤ script_lines_max → q.number ≤ script_lines_max
  again : (r : Progress) → r.earlier ≡ p.earlier → r.number ≤ p.number → (t : Progress) × (take_lines r (map line_text news) ≡ Ok t) × (t.earlier ≡ q.earlier)

one_step : (p s q : Progress) → Stepped p s → Retaken s q → Retaken p q
unfolding take_lines
one_step p s q (skipped same number lt) k = record {
  news = k.news;
  fit = k.fit;
  orderly = λ late h. subst (λ e. Orderly e (joined_to k.news late)) same (k.orderly late h);
  told = k.told ∙ ap (λ e. reverse k.news ++ e) same;
  count = omega (arith, k.count, number);
  most = λ le. k.most (omega (arith, number, lt));
  again = λ r e le. k.again r (e ∙ sym same) (omega (arith, le, number));
}
one_step p s q (took x f none same number lt) k = record {
  news = x ∷ k.news;
  fit = (f, k.fit);
  orderly = λ late h. (f, ordered p.earlier x none, asked_before p.earlier x none, subst (λ e. Orderly e (joined_to k.news late)) same (k.orderly late h));
  told = k.told ∙ ap (λ e. reverse k.news ++ e) same ∙ sym (ap (λ l. l ++ p.earlier) (reverse-append (x ∷ []) k.news) ∙ append_assoc (reverse k.news) (x ∷ []) p.earlier);
  count = omega (arith, k.count, number);
  most = λ le. k.most (omega (arith, number, lt));
  again = λ r e le.
      let allowed : fault_of r.earlier x ≡ None = ap (λ l. fault_of l x) e ∙ none in
      let first = take_again r x f allowed (omega (arith, le, lt)) in
      let rest = k.again (with_line r x) (ap (λ l. x ∷ l) e ∙ sym same) (omega (arith, le, number)) in
      (rest.0, ap (λ y. if_no_fault y (λ z. take_lines z (map line_text k.news))) first ∙ rest.1, rest.2);
}

retaken : (texts : List (List ℕ)) (p q : Progress) → take_lines p texts ≡ Ok q → Retaken p q
unfolding take_lines
retaken [] p q e =
    let same : p ≡ q = fine_inj p q e in
    record { news = []; fit = tt; orderly = λ late h. subst (λ e. Orderly e late) (sym (ap (λ (r : Progress). r.earlier) same)) h; told = sym (ap (λ (r : Progress). r.earlier) same); count = let n : p.number ≡ q.number = ap (λ (r : Progress). r.number) same in omega (arith, n); most = λ le. let n : p.number ≡ q.number = ap (λ (r : Progress). r.number) same in omega (arith, n, le); again = λ r h le. (r, refl, h ∙ ap (λ (z : Progress). z.earlier) same) }
retaken (text ∷ texts) p q e =
    let h = then_ok (take_line p text) (λ s. take_lines s texts) q e in
    one_step p h.0 q (taken_line p h.0 text h.1) (retaken texts h.0 q h.2)

finish_again : (q t : Progress) (s : List Line) → t.earlier ≡ q.earlier → whole_script q ≡ Ok s → (s ≡ reverse q.earlier) × (whole_script t ≡ Ok s)
finish_again q t s same e = elim (picked_fault (is_some (block_of q.earlier)) (fault q.race reasons.Race) (Ok (reverse q.earlier)) s e) [
  | inl h ↦ absurd (cc h.1)
  | inr h ↦
      let closed : is_some (block_of t.earlier) ≡ false = ap (λ l. is_some (block_of l)) same ∙ h.0 in
      let is : reverse q.earlier ≡ s = fine_inj (reverse q.earlier) s h.1 in
      (sym is, rw closed (ap (λ l. Ok (reverse l)) same ∙ ap (λ l. Ok l) is))
]

pub script_again : (bytes : List ℕ) (s : List Line) → script_of bytes ≡ Ok s → length (spelling s) ≤ script_bytes_max → script_of (spelling s) ≡ Ok s
unfolding script_of
script_again bytes s e short = elim (picked_fault (nat_lt script_bytes_max (length bytes)) (fault 0 reasons.Length) (if_no_fault (take_lines start (text_lines bytes)) whole_script) s e) [
  | inl h ↦ absurd (cc h.1)
  | inr h ↦
      let p = then_ok (take_lines start (text_lines bytes)) whole_script s h.1 in
      let k = retaken (text_lines bytes) start p.0 p.1 in
      let r = k.again start refl (omega arith) in
      let f = finish_again p.0 r.0 s r.2 p.2 in
      let news : s ≡ k.news = f.0 ∙ ap reverse (k.told ∙ append-nil (reverse k.news)) ∙ reverse-reverse k.news in
      let fits : nat_lt script_bytes_max (length (spelling s)) ≡ false = grind (arith, short) in
      let lines : text_lines (spelling s) ≡ map line_text k.news = ap (λ xs. text_lines (spelling xs)) news ∙ lines_again k.news k.fit in
      rw (fits, lines, r.1) f.1
]

no_block : (o : Option ℕ) → is_some o ≡ false → o ≡ None
no_block None h = refl
no_block (Some n) h = absurd (cc)

-- what is read is a script, of no more lines than it may have
pub script_fits : (bytes : List ℕ) (s : List Line) → script_of bytes ≡ Ok s → IsScript s × (length s ≤ script_lines_max)
unfolding script_of
script_fits bytes s e = elim (picked_fault (nat_lt script_bytes_max (length bytes)) (fault 0 reasons.Length) (if_no_fault (take_lines start (text_lines bytes)) whole_script) s e) [
  | inl h ↦ absurd (cc h.1)
  | inr h ↦
      let p = then_ok (take_lines start (text_lines bytes)) whole_script s h.1 in
      let k = retaken (text_lines bytes) start p.0 p.1 in
      elim (picked_fault (is_some (block_of p.0.earlier)) (fault p.0.race reasons.Race) (Ok (reverse p.0.earlier)) s p.2) [
        | inl b ↦ absurd (cc b.1)
        | inr b ↦
            let is : s ≡ k.news = sym (fine_inj (reverse p.0.earlier) s b.1) ∙ ap reverse (k.told ∙ append-nil (reverse k.news)) ∙ reverse-reverse k.news in
            let all : Orderly [] (joined_to k.news []) = k.orderly [] (no_block (block_of p.0.earlier) b.0) in
            let few : length k.news ≤ script_lines_max = omega (arith, k.count, k.most (omega arith)) in
            (subst IsScript (sym (is ∙ sym (append-nil k.news))) all, subst (λ xs. length xs ≤ script_lines_max) (sym is) few)
      ]
]
