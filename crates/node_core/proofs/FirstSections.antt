-- The first sections, and one more, that keep to what is declared.
use Rattle.std.proofs.Common.{◌≡◌, ℕ, ◌+◌, ◌≤◌, List, length, take, slice_get, Some, All, sym, subst}
use Rattle.std.proofs.lemmas.List.{take_all}
use Rattle.std.proofs.lemmas.List.Elements.{All-push}
use Rattle.ckpt_types.specs.Sections.{Section}
use Rattle.ckpt_types.proofs.FirstSections.{take-next}

-- what holds of the first, and of the next one
pub All-next : (P : Section → Type 0) (sections : List Section) (i : ℕ) (s : Section) → slice_get sections i ≡ Some s → All P (take i sections) → P s → All P (take (i + 1) sections)
All-next P sections i s is first next = subst (All P) (sym (take-next sections i s is)) (All-push P (take i sections) s first next)

-- all of them are the first so many
pub all_first : (sections : List Section) (n : ℕ) → length sections ≤ n → take n sections ≡ sections
all_first sections n past = take_all n sections past
