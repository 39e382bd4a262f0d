-- Each line of a script of what is built can be played.
use Rattle.std.proofs.Common.{◌≡◌, ℕ, zero, suc, ◌+◌, ◌-◌, ◌^◌, List, [], ◌∷◌, ℤ, pos, ◌≤ℤ◌, refl, sym, subst, arith}
use Rattle.std.proofs.lemmas.Int.{ints}
use Rattle.ckpt_types.specs.declared.identities.ActorName.TheVariants.{Client, Node}
use Rattle.ckpt_types.specs.declared.identities.Who.{Who}
use Rattle.ckpt_types.specs.declared.identities.Who.TheVariants.{Actor, Call}
use Rattle.run_labels.specs.declared.labels.Label.{Label}
use Rattle.script_lines.specs.declared.lines.Line.{Line}
use Rattle.script_lines.specs.declared.lines.Line.TheVariants as lines
use Rattle.script_lang.specs.BuiltScripts.{IsStepped, IsBuiltLine, AreBuiltLines, AreNodesFirst}
use Rattle.script_lang.specs.Grammar.{moment_behind}
use Rattle.cluster_record.specs.RecordState.{IsMomentFrom}
use Rattle.session_run.specs.Growing.{AreLeft, CanPlay}
use Rattle.world_core.specs.Runs.{MayBeStepped}
use Rattle.session_run.specs.Playable.{IsPlayableLine, ArePlayable, IsPlayable}

-- a moment that is before 2^63-1 is before the end of time
is_moment : (t u : ℤ) → t ≤ℤ u → u ≤ℤ pos (2 ^ 63 - 2) → IsMomentFrom t u
is_moment t u from before = (from, omega (arith, ints, before))

is_stepped : (who : Who) → IsStepped who → MayBeStepped who
is_stepped (Actor (Client c)) is = is
is_stepped (Actor (Node r)) is = tt
is_stepped (Call call) is = tt

is_playable : (t : ℤ) (line : Line) → IsBuiltLine t line → IsPlayableLine t line
is_playable t (lines.Call client op) built = (built.0, built.1)
is_playable t (lines.Begin a op) built = (built.0, built.1)
is_playable t (lines.Copy r) built = built
is_playable t (lines.Step who steps) built = (is_stepped who built.0, built.1)
is_playable t (lines.Finish who) built = is_stepped who built
is_playable t (lines.Pull k) built = tt
is_playable t (lines.Put k r) built = built
is_playable t (lines.Propagate k) built = tt
is_playable t (lines.Show k) built = tt
is_playable t (lines.Fail r) built = built
is_playable t (lines.Join r) built = built
is_playable t (lines.At u) built = is_moment t u built.0 built.1
is_playable t line built = absurd built

are_playable : (t : ℤ) (xs : List Line) → AreBuiltLines t xs → ArePlayable t xs
are_playable t [] built = tt
are_playable t (x ∷ xs) built = (is_playable t x built.0, are_playable (moment_behind t x) xs built.1)

-- a script of what is built can be played
pub playable : (xs : List Line) → AreNodesFirst xs → IsPlayable xs
playable [] built = tt
playable (x ∷ xs) built = (built.0, are_playable (pos 0) xs built.1)

-- ---- line by line

-- the next line of those that are left
pub CanPlay-next : (i : ℕ) (t : ℤ) (line : Line) (rest : List Line) (log : List Label) → AreLeft i t (line ∷ rest) → (i ≡ 0 → log ≡ []) → CanPlay t log line
CanPlay-next zero t (lines.Nodes count) rest log left first = (left.0.0, left.0.1, first refl)
CanPlay-next zero t line rest log left first = absurd left.0
CanPlay-next (suc i) t (lines.Nodes count) rest log left first = absurd left.0
CanPlay-next (suc i) t line rest log left first = left.0

-- the nodes come up at the moment 0, and the moment is 0 behind it
first_moment : (t : ℤ) (line : Line) (rest : List Line) → t ≡ pos 0 → IsPlayable (line ∷ rest) → ArePlayable (moment_behind t line) rest
first_moment t (lines.Nodes count) rest start left = subst (λ t. ArePlayable t rest) (sym start) left.1
first_moment t line rest start left = absurd left.0

-- those behind it
pub AreLeft-next : (i : ℕ) (t u : ℤ) (line : Line) (rest : List Line) → AreLeft i t (line ∷ rest) → (i ≡ 0 → t ≡ pos 0) → u ≡ moment_behind t line → AreLeft (i + 1) u rest
AreLeft-next i t u line rest left start u_is = let next : suc i ≡ i + 1 = omega arith in subst (λ n. AreLeft n u rest) next (subst (λ t. ArePlayable t rest) (sym u_is) (behind i left start)) where
  behind : (i : ℕ) → AreLeft i t (line ∷ rest) → (i ≡ 0 → t ≡ pos 0) → ArePlayable (moment_behind t line) rest
  behind zero left start = first_moment t line rest (start refl) left
  behind (suc i) left start = left.1
