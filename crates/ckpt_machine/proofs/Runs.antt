-- A run goes on by one label.
use Rattle.std.proofs.Common.{◌≡◌, ◌⊎◌, inl, inr, List, [], ◌∷◌, ◌++◌, refl, sym, ap, subst, append_assoc}
use Rattle.std.proofs.lemmas.List.{append-nil}
use Rattle.run_labels.specs.declared.labels.Label.{Label}
use Rattle.ckpt_machine.specs.Machine.{Machine, empty_cluster}
use Rattle.ckpt_machine.specs.After.{after}
use Rattle.ckpt_machine.specs.Due.{IsDue}
use Rattle.ckpt_machine.specs.Guards.{Allowed}
use Rattle.ckpt_machine.specs.Runs.{last_from, last, IsRunFrom, IsRun}

-- the state after one label more
pub last_from-push : (m : Machine) (log : List Label) (l : Label) → last_from m (log ++ l ∷ []) ≡ after (last_from m log) l
last_from-push m [] l = refl
last_from-push m (x ∷ log) l = last_from-push (after m x) log l

-- the same from the empty cluster
pub last-push : (log : List Label) (l : Label) → last (log ++ l ∷ []) ≡ after (last log) l
last-push log l = last_from-push empty_cluster log l

-- from any state, labels that may come go on by one that may come
pub IsRunFrom-push : (m : Machine) (log : List Label) (l : Label) → IsRunFrom m log → Allowed (last_from m log) l → IsDue (last_from m log) l → IsRunFrom m (log ++ l ∷ [])
IsRunFrom-push m [] l run allowed due = (allowed, due, tt)
IsRunFrom-push m (x ∷ log) l run allowed due = (run.0, run.1, IsRunFrom-push (after m x) log l run.2 allowed due)

-- what is before the last label is a run, and the label is allowed and due where it comes
pub run_before : (m : Machine) (log : List Label) (l : Label) → IsRunFrom m (log ++ l ∷ []) → IsRunFrom m log × Allowed (last_from m log) l × IsDue (last_from m log) l
run_before m [] l run = (tt, run.0, run.1)
run_before m (x ∷ log) l run = let (before, allowed, is) = run_before (after m x) log l run.2 in ((run.0, run.1, before), allowed, is)

-- the state after two lists of labels is the state after the second from the state after the first
pub last_from-append : (m : Machine) (xs ys : List Label) → last_from m (xs ++ ys) ≡ last_from (last_from m xs) ys
last_from-append m [] ys = refl
last_from-append m (x ∷ xs) ys = last_from-append (after m x) xs ys

-- what comes behind a front may come from the state after it
pub IsRunFrom-back : (m : Machine) (front back : List Label) → IsRunFrom m (front ++ back) → IsRunFrom (last_from m front) back
IsRunFrom-back m [] back run = run
IsRunFrom-back m (l ∷ front) back run = IsRunFrom-back (after m l) front back run.2

-- a front of a run is a run
pub IsRunFrom-front : (m : Machine) (front back : List Label) → IsRunFrom m (front ++ back) → IsRunFrom m front
IsRunFrom-front m [] back run = tt
IsRunFrom-front m (l ∷ front) back run = (run.0, run.1, IsRunFrom-front (after m l) front back run.2)

-- of a run from the empty cluster
pub run_front : (log front back : List Label) → log ≡ front ++ back → IsRun log → IsRun front
run_front log front back is run = IsRunFrom-front empty_cluster front back (subst IsRun is run)

-- a run of the machine goes on by a label that is allowed and due
pub run_more : (log : List Label) (l : Label) → IsRun log → Allowed (last log) l → IsDue (last log) l → IsRun (log ++ l ∷ [])
run_more log l run allowed due = IsRunFrom-push empty_cluster log l run allowed due

-- ---- a log with a label more

-- a label there is the last, or stood there before
pub last_or : (xs : List Label) (l : Label) (ys : List Label) (y : Label) (vs : List Label) → xs ++ l ∷ [] ≡ ys ++ y ∷ vs → ((xs ≡ ys) × (l ≡ y)) ⊎ ((cs : List Label) × (xs ≡ ys ++ y ∷ cs) × (vs ≡ cs ++ l ∷ []))
last_or [] l [] y vs is = inl (refl, (let head : l ≡ y = cc is in head))
last_or [] l (z ∷ ys) y vs is = let tail : [] ≡ ys ++ y ∷ vs = cc is in absurd (nothing_behind ys tail)
  where
    nothing_behind : (ys : List Label) → [] ≡ ys ++ y ∷ vs → ⊥
    nothing_behind [] is = cc is
    nothing_behind (w ∷ ys) is = cc is
last_or (z ∷ xs) l [] y vs is =
    let head : z ≡ y = cc is in
    let tail : xs ++ l ∷ [] ≡ vs = cc is in
    inr (xs, ap (λ (w : Label). w ∷ xs) head, sym tail)
last_or (z ∷ xs) l (w ∷ ys) y vs is =
    let head : z ≡ w = cc is in
    let tail : xs ++ l ∷ [] ≡ ys ++ y ∷ vs = cc is in
    elim (last_or xs l ys y vs tail) [
      | inl same ↦ inl ((λ i. head i ∷ same.0 i), same.1)
      | inr before ↦ inr (before.0, (λ i. head i ∷ before.1 i), before.2)
    ]

-- ---- what holds in a run

-- what holds behind a front of a run, and stays with each label that comes, holds behind the whole
pub along : (P : List Label → Machine → Type 0) → ((front : List Label) (l : Label) → IsRun front → Allowed (last front) l → IsDue (last front) l → P front (last front) → P (front ++ l ∷ []) (after (last front) l))
    → (front more : List Label) → IsRun (front ++ more) → P front (last front) → P (front ++ more) (last (front ++ more))
along P stays front [] run holds = subst (λ (log : List Label). P log (last log)) (sym (append-nil front)) holds
along P stays front (l ∷ more) run holds =
    let there = IsRunFrom-back empty_cluster front (l ∷ more) run in
    let then = stays front l (IsRunFrom-front empty_cluster front (l ∷ more) run) there.0 there.1 holds in
    let longer = append_assoc front (l ∷ []) more in
    subst (λ (log : List Label). P log (last log)) longer (along P stays (front ++ l ∷ []) more (subst IsRun (sym longer) run) (subst (P (front ++ l ∷ [])) (sym (last-push front l)) then))
