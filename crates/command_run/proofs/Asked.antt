-- What the words of a command ask for, one thing alone.
use Rattle.std.proofs.Common.{◌≡◌, ℕ, List, [], ◌∷◌, codes, inl, inr, sym, ap, refl, ◌∙◌}
use Rattle.std.specs.Prelude.{bytes_eq, if◌then◌else◌}
use Rattle.std.specs.declared.alloc.Global.{Global}
use Rattle.std.specs.declared.string.String.{String}
use Rattle.command_run.specs.Headline.{AsksLoad, IsCommand, IsRun, asks_steps, form_asked}
use Rattle.command_run.specs.declared.writing.Form.TheVariants.{Lines, Summary}

-- of a run its lines are told
pub run_form : (words : List (String Global)) → IsRun words → form_asked words ≡ Lines (asks_steps words)
run_form [] run = absurd run
run_form (word ∷ []) run = refl
run_form (word ∷ option ∷ []) run = ap (λ (w : List ℕ). if bytes_eq w (codes "load") then Summary else Lines (asks_steps (word ∷ option ∷ []))) run.0
run_form (word ∷ option ∷ third ∷ more) run = absurd run

-- and of a load its summary
pub load_form : (words : List (String Global)) (turns : ℕ) → AsksLoad words turns → form_asked words ≡ Summary
load_form [] turns asks = absurd asks
load_form (word ∷ []) turns asks = absurd asks
load_form (word ∷ count ∷ []) turns asks = ap (λ (w : List ℕ). if bytes_eq w (codes "load") then Summary else Lines (asks_steps (word ∷ count ∷ []))) asks.0
load_form (word ∷ count ∷ third ∷ more) turns asks = absurd asks

-- no words ask for both
pub not_both : (words : List (String Global)) (turns : ℕ) → IsRun words → AsksLoad words turns → ⊥
not_both [] turns run asks = asks
not_both (word ∷ []) turns run asks = asks
not_both (word ∷ count ∷ []) turns run asks =
    let same : codes "run" ≡ codes "load" = sym run.0 ∙ asks.0 in
    absurd (cc)
not_both (word ∷ count ∷ third ∷ more) turns run asks = asks

-- a command that asks for no load asks for a run
pub is_run : (words : List (String Global)) → IsCommand words → ((turns : ℕ) → AsksLoad words turns → ⊥) → IsRun words
is_run words (inl run) none = run
is_run words (inr (turns, asks)) none = absurd (none turns asks)
