-- Groups of words, written one after the other.
use Rattle.std.proofs.Common.{◌≡◌, refl, sym, ◌∙◌, ap, ℕ, ◌+◌, ◌<◌, List, [], ◌∷◌, ◌++◌, length, map, take, get_or, flat_map, append_assoc, Option, option_map, decimal}
use Rattle.std.proofs.lemmas.List.{append-nil, take_more}
use Rattle.ckpt_types.specs.declared.attributes.CreationAttributes.{CreationAttributes}
use Rattle.ckpt_types.specs.declared.operation.Op.TheVariants as ops
use Rattle.ckpt_types.specs.declared.words.OpWord.TheVariants as calls
use Rattle.ckpt_types.specs.OpWord.{op_text}
use Rattle.ckpt_types.specs.Spelling.{bytes_text}
use Rattle.script_words.specs.Spelling.{spell}
use Rattle.script_words.specs.Words.{Class, a_client, a_place}
use Rattle.script_lines.specs.Table.{Values, attributes}
use Rattle.script_lines.specs.Spelling.{spell_all, spell_more, tail_text, written_call, attributes_values}

tail_append : (a b : List (List ℕ)) → tail_text (a ++ b) ≡ tail_text a ++ tail_text b
tail_append [] b = refl
tail_append (w ∷ a) b = ap (λ t. 32 ∷ w ++ t) (tail_append a b) ∙ sym (ap (λ t. 32 ∷ t) (append_assoc w (tail_text a) (tail_text b)))

abbrev pub written_groups : {X : Type 0} → (ds : List Class) → (X → Values ds) → List X → List ℕ
written_groups ds f xs = tail_text (flat_map (spell_all ds) (map f xs))

written_push : {X : Type 0} (ds : List Class) (f : X → Values ds) (xs : List X) (x : X) → written_groups ds f (xs ++ x ∷ []) ≡ written_groups ds f xs ++ tail_text (spell_all ds (f x))
written_push ds f [] x = ap tail_text (append-nil (spell_all ds (f x)))
written_push ds f (y ∷ xs) x =
    tail_append (spell_all ds (f y)) (flat_map (spell_all ds) (map f (xs ++ x ∷ [])))
    ∙ ap (λ t. tail_text (spell_all ds (f y)) ++ t) (written_push ds f xs x)
    ∙ sym (append_assoc (tail_text (spell_all ds (f y))) (written_groups ds f xs) (tail_text (spell_all ds (f x))))
    ∙ ap (λ t. t ++ tail_text (spell_all ds (f x))) (sym (tail_append (spell_all ds (f y)) (flat_map (spell_all ds) (map f xs))))

pub one_written_more : {X : Type 0} (ds : List Class) (f : X → Values ds) (xs : List X) (i : ℕ) (x : X) (old now next : List ℕ) → i < length xs → x ≡ get_or xs i x
    → now ≡ old ++ written_groups ds f (take i xs) → next ≡ now ++ tail_text (spell_all ds (f x)) → next ≡ old ++ written_groups ds f (take (i + 1) xs)
one_written_more ds f xs i x old now next lt is so_far wrote =
    let more : take (i + 1) xs ≡ take i xs ++ x ∷ [] = take_more xs i x lt ∙ ap (λ y. take i xs ++ y ∷ []) (sym is) in
    wrote ∙ ap (λ t. t ++ tail_text (spell_all ds (f x))) so_far
    ∙ append_assoc old (written_groups ds f (take i xs)) (tail_text (spell_all ds (f x)))
    ∙ ap (λ t. old ++ t) (sym (written_push ds f (take i xs) x) ∙ ap (λ ys. written_groups ds f ys) (sym more))

-- an asynchronous open: the words in front of its name, and the others
pub open_async_text : (c h i f : ℕ) (name : List ℕ) (a : Option CreationAttributes) (old front out : List ℕ) → front ≡ old ++ op_text calls.OpenAsync ++ tail_text (spell a_client c ∷ spell a_place h ∷ decimal i ∷ [])
    → out ≡ front ++ tail_text (bytes_text name ∷ decimal f ∷ spell_more attributes (option_map attributes_values a)) → out ≡ old ++ written_call c (ops.OpenAsync h i name f a)
unfolding written_call
open_async_text c h i f name a old front out in_front wrote =
    let first : List (List ℕ) = spell a_client c ∷ spell a_place h ∷ decimal i ∷ [] in
    let others : List (List ℕ) = bytes_text name ∷ decimal f ∷ spell_more attributes (option_map attributes_values a) in
    let word : List ℕ = op_text calls.OpenAsync in
    wrote ∙ ap (λ t. t ++ tail_text others) in_front
    ∙ append_assoc (old ++ word) (tail_text first) (tail_text others)
    ∙ append_assoc old word (tail_text first ++ tail_text others)
    ∙ ap (λ t. old ++ (word ++ t)) (sym (tail_append first others))
