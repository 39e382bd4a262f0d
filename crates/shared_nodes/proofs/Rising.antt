-- A trail with a label more, whose ticket is above all others.
use Rattle.std.proofs.Common.{◌≡◌, ℕ, zero, suc, ◌<◌, List, [], ◌∷◌, ◌++◌, arith, refl, ap, subst, sym}
use Rattle.std.specs.Prelude.{All}
use Rattle.shared_nodes.specs.declared.trail.Noted.{Noted}
use Rattle.shared_nodes.specs.Trails.{tickets_of, AreRising}

all_more : (P : ℕ → Type 0) (tickets : List ℕ) (last : ℕ) → All P tickets → P last → All P (tickets ++ last ∷ [])
all_more P [] last all here zero d lt = here
all_more P [] last all here (suc k) d lt = absurd (omega arith)
all_more P (t ∷ tickets) last all here zero d lt = all 0 d (omega arith)
all_more P (t ∷ tickets) last all here (suc k) d lt = all_more P tickets last (λ j e l. all (suc j) e (omega (arith, l))) here k d (omega arith)

rising_more : (tickets : List ℕ) (last : ℕ) → AreRising tickets → All (λ t. t < last) tickets → AreRising (tickets ++ last ∷ [])
rising_more [] last rising above = ((λ k d lt. absurd (omega (arith, lt))), tt)
rising_more (t ∷ tickets) last rising above = (all_more (λ other. t < other) tickets last rising.0 (above 0 0 (omega arith)), rising_more tickets last rising.1 (λ k d lt. above (suc k) d (omega (arith, lt))))

tickets_of_more : (notes : List Noted) (note : Noted) → tickets_of (notes ++ note ∷ []) ≡ tickets_of notes ++ note.ticket ∷ []
tickets_of_more [] note = refl
tickets_of_more (n ∷ notes) note = ap (λ (tickets : List ℕ). n.ticket ∷ tickets) (tickets_of_more notes note)

pub notes_rise : (notes : List Noted) (note : Noted) → AreRising (tickets_of notes) → All (λ t. t < note.ticket) (tickets_of notes) → AreRising (tickets_of (notes ++ note ∷ []))
notes_rise notes note rising above = subst AreRising (sym (tickets_of_more notes note)) (rising_more (tickets_of notes) note.ticket rising above)
