-- What a sink has got of the lines of some labels while the rest of them stand in a text at hand.
use Rattle.std.proofs.Common.{◌≡◌, ℕ, ◌+◌, List, [], ◌++◌, Option, take, drop, sym, ap, ◌∙◌, subst, append_assoc, append-nil, take-append-drop, refl}
use Rattle.std.proofs.Math.Seq.{take-add}
use Rattle.std.specs.Io.KnownBytes.{Appends}
use Rattle.std.proofs.KnownBytes.{Appends-nil, Appends-trans}
use Rattle.std.proofs.lemmas.Grind.{flat_map-append}
use Rattle.std.specs.Prelude.{Some, slice_get, Bool, true, false, Result, Ok, Err, OnOk, OnErr}
use Rattle.std.specs.Result.{is_err}
use Rattle.std.proofs.lemmas.Bool.{true≢false, false≢true}
use Rattle.run_labels.specs.declared.labels.Label.{Label}
use Rattle.run_labels.specs.Callbacks.{callback_lines}
use Rattle.run_labels.specs.Lines.{line_of}
use Rattle.run_labels.proofs.EachText.{append-flat_map-take}
use Rattle.command_run.specs.Headline.{WritesPart, printed}

-- what was written and the text at hand are the lines
abbrev pub Wrote : Option (List ℕ) → Option (List ℕ) → List ℕ → List ℕ → Type 0
Wrote old now text lines = (front : List ℕ) × Appends old now front × (front ++ text ≡ lines)

-- the front of a piece, and then the front of its rest
pub written_more : (a b c : Option (List ℕ)) (bytes : List ℕ) (at count : ℕ) → Appends a b (take at bytes) → Appends b c (take count (drop at bytes)) → Appends a c (take (at + count) bytes)
written_more a b c bytes at count one two =
    subst (Appends a c) (sym (take-add at count bytes)) (Appends-trans a b c (take at bytes) (take count (drop at bytes)) one two)

-- all of the bytes are a front of them
pub part_of_all : (a b : Option (List ℕ)) (bytes : List ℕ) → Appends a b bytes → WritesPart a b bytes
part_of_all a b bytes all = (bytes, [], append-nil bytes, all)

-- a line is put behind the text
pub wrote_line : (a b : Option (List ℕ)) (text lines line : List ℕ) → Wrote a b text lines → Wrote a b (text ++ line) (lines ++ line)
wrote_line a b text lines line (front, appends, is) =
    (front, appends, sym (append_assoc front text line) ∙ ap (λ l. l ++ line) is)

-- the text is written
pub wrote_text : (a b c : Option (List ℕ)) (text lines : List ℕ) → Wrote a b text lines → Appends b c text → Wrote a c [] lines
wrote_text a b c text lines (front, appends, is) more =
    (front ++ text, Appends-trans a b c front text appends more, append-nil (front ++ text) ∙ is)

-- a front of the text is written, and no more
pub wrote_part : (a b c : Option (List ℕ)) (text lines rest all : List ℕ) → Wrote a b text lines → lines ++ rest ≡ all → WritesPart b c text → WritesPart a c all
wrote_part a b c text lines rest all (front, appends, is) whole (part, left, parts, more) =
    let step : (front ++ part) ++ (left ++ rest) ≡ lines ++ rest =
    append_assoc front part (left ++ rest) ∙ ap (λ l. front ++ l) (sym (append_assoc part left rest) ∙ ap (λ l. l ++ rest) parts)
    ∙ sym (append_assoc front text rest) ∙ ap (λ l. l ++ rest) is in
    (front ++ part, left ++ rest, step ∙ whole, Appends-trans a b c front part appends more)

pub wrote_whole : (a b c : Option (List ℕ)) (text all : List ℕ) → Wrote a b text all → Appends b c text → Appends a c all
wrote_whole a b c text all (front, appends, is) more =
    subst (Appends a c) is (Appends-trans a b c front text appends more)

-- what a label prints, with its callbacks
abbrev pub lines_with_callbacks : Bool → Label → List ℕ
lines_with_callbacks steps label = line_of steps label ++ callback_lines label

-- the lines of the first labels, of the next one and of all
pub printed_next : (steps : Bool) (labels : List Label) (i : ℕ) (label : Label) → slice_get labels i ≡ Some label → printed steps (take i labels) ++ lines_with_callbacks steps label ≡ printed steps (take (i + 1) labels)
printed_next steps labels i label at_i = append-flat_map-take (lines_with_callbacks steps) [] labels i label at_i

pub printed_parts : (steps : Bool) (labels : List Label) (i : ℕ) → printed steps (take i labels) ++ printed steps (drop i labels) ≡ printed steps labels
printed_parts steps labels i = sym (flat_map-append (lines_with_callbacks steps) (take i labels) (drop i labels)) ∙ ap (printed steps) (take-append-drop i labels)

-- the next label's lines stand behind the text
pub wrote_next : (steps : Bool) (a b : Option (List ℕ)) (text out : List ℕ) (labels : List Label) (i : ℕ) (label : Label) → slice_get labels i ≡ Some label → out ≡ text ++ lines_with_callbacks steps label
    → Wrote a b text (printed steps (take i labels)) → Wrote a b out (printed steps (take (i + 1) labels))
wrote_next steps a b text out labels i label at_i grown wrote =
    subst (λ l. Wrote a b l (printed steps (take (i + 1) labels))) (sym grown)
    (subst (Wrote a b (text ++ lines_with_callbacks steps label)) (printed_next steps labels i label at_i) (wrote_line a b text (printed steps (take i labels)) (lines_with_callbacks steps label) wrote))

-- the text is written whole, or a front of it
pub wrote_front : (steps : Bool) (a b c : Option (List ℕ)) (text : List ℕ) (labels : List Label) (i : ℕ) → Wrote a b text (printed steps (take i labels)) → WritesPart b c text → WritesPart a c (printed steps labels)
wrote_front steps a b c text labels i wrote part = wrote_part a b c text _ _ _ wrote (printed_parts steps labels i) part

-- nothing of the text is written
pub wrote_no_more : (steps : Bool) (a b : Option (List ℕ)) (text : List ℕ) (labels : List Label) (i : ℕ) → Wrote a b text (printed steps (take i labels)) → WritesPart a b (printed steps labels)
wrote_no_more steps a b text labels i wrote = wrote_front steps a b b text labels i wrote ([], text, refl, Appends-nil b)

-- a failed call has what it has at a failure
pub at_error : {T E P : Type 0} (r : Result T E) → true ≡ is_err r → OnErr r P → P
at_error (Ok x) h p = absurd (true≢false h)
at_error (Err e) h p = p

-- a call that did not fail has what it has then
pub at_ok : {T E P : Type 0} (r : Result T E) → false ≡ is_err r → OnOk r P → P
at_ok (Ok x) h p = p
at_ok (Err e) h p = absurd (false≢true h)
