-- What the calls of callbacks, one for each call that has ended, make of the one that is called.
use Rattle.std.proofs.Common.{◌≡◌, ℕ, ◌+◌, ◌<◌, List, [], ◌∷◌, ◌++◌, length, take, slice_index_or, sym, ap, subst, ◌∙◌, fold}
use Rattle.std.specs.List.{FoldsTo}
use Rattle.std.proofs.lemmas.Fn.{FoldsTo-push}
use Rattle.std.proofs.lemmas.List.{take_more, append-nil, append_assoc}

-- one more is told
pub told-more : {C A : Type 0} (called : C → A → C → Type 0) (first : C) (xs : List A) (i : ℕ) (d : A) (before after : C) → i < length xs → FoldsTo called first (take i xs) before → called before (slice_index_or xs i d) after → FoldsTo called first (take (i + 1) xs) after
told-more called first xs i d before after within front next =
    subst (λ ys. FoldsTo called first ys after) (sym (take_more xs i d within)) (FoldsTo-push called first (take i xs) before (slice_index_or xs i d) after front next)

-- where each call is heard behind those before it, all of them are, in their order
pub heard-told : {C A : Type 0} (called : C → A → C → Type 0) (heard : C → List A) → ((before : C) (x : A) (after : C) → called before x after → heard after ≡ heard before ++ x ∷ []) → (first : C) (xs : List A) (last : C) → FoldsTo called first xs last → heard last ≡ heard first ++ xs
heard-told called heard each first [] last same = ap heard (sym same) ∙ sym (append-nil (heard first))
heard-told called heard each first (x ∷ xs) last (next, told, more) =
    heard-told called heard each next xs last more
    ∙ (ap (λ ys. ys ++ xs) (each first x next told) ∙ append_assoc (heard first) (x ∷ []) xs)

-- where each call leaves what a function makes of it, all of them leave what it makes in turn
pub fold-told : {C A : Type 0} (called : C → A → C → Type 0) (made : C → A → C) → ((before : C) (x : A) (after : C) → called before x after → after ≡ made before x) → (first : C) (xs : List A) (last : C) → FoldsTo called first xs last → last ≡ fold made first xs
fold-told called made each first [] last same = sym same
fold-told called made each first (x ∷ xs) last (next, told, more) =
    fold-told called made each next xs last more ∙ ap (λ c. fold made c xs) (each first x next told)
