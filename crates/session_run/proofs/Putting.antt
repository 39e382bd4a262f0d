-- A pull and the puts behind it: one label more, and what could come where a propagation stops early.
use Rattle.std.proofs.Common.{◌≡◌, ℕ, zero, suc, ◌+◌, ◌-◌, ◌<◌, ◌≤◌, Bool, true, false, List, [], ◌∷◌, ◌++◌, length, map, drop, refl, sym, ap, subst, ◌∙◌, append_assoc, append-nil, arith}
use Rattle.std.proofs.lemmas.List.{drop_all, length-drop}
use Rattle.std.proofs.lemmas.Option.{same_Some}
use Rattle.std.specs.Prelude.{Option, Some, cond, slice_get, if◌then◌else◌}
use Rattle.std.specs.List.{filter}
use Rattle.ckpt_types.specs.Limits.{nodes_max}
use Rattle.run_labels.specs.declared.labels.Label.{Label}
use Rattle.run_labels.specs.declared.labels.Label.TheVariants as labels
use Rattle.run_labels.specs.declared.labels.PutReply.TheVariants as puts
use Rattle.cluster_record.specs.RecordState.{RecordState, all_nodes, complete_of, entry_of}
use Rattle.ckpt_machine.specs.Machine.{Machine}
use Rattle.ckpt_machine.specs.Runs.{last}
use Rattle.world_core.specs.declared.world.World.{World}
use Rattle.world_core.specs.declared.world.Event.TheVariants as happenings
use Rattle.world_core.specs.Runs.{Happens, IsPulledOf, IsPutOf, IsRunTo}
use Rattle.session_run.specs.Growing.{GrowsBy, GrowsTowards, GrowsToPuts}
use Rattle.session_run.specs.Puts.{active_in, ArePuts, tells_pulled, takes_put, other_nodes, IsPropagation, IsPull}

-- ---- the labels of a line

-- the label that answers a pull
pub pull_alone : (k : ℕ) (l : Label) → IsPulledOf k l → IsPull k (l ∷ [])
pull_alone k (labels.Pulled other reply) is = (is, refl)
pull_alone k l is = absurd is

-- a put stands before the puts at other nodes
pub put_before : (k r : ℕ) (rest : List ℕ) (l : Label) (more : List Label) → IsPutOf k r l → ArePuts k rest more → ArePuts k (r ∷ rest) (l ∷ more)
put_before k r rest (labels.Put other node reply) more is f = (is.0, is.1, f)
put_before k r rest l more is f = absurd is

-- a pull by which nothing was pulled stands alone
pub pull_ends : (k : ℕ) (nodes : List ℕ) (l : Label) → IsPulledOf k l → tells_pulled l ≡ false → IsPropagation k nodes (l ∷ [])
pull_ends k nodes (labels.Pulled other reply) is pulled = (is, subst (λ (b : Bool). ArePuts k (if b then nodes else []) []) (sym pulled) refl)
pull_ends k nodes l is pulled = absurd is

-- else it stands before the puts
pub pull_before : (k : ℕ) (nodes : List ℕ) (l : Label) (more : List Label) → IsPulledOf k l → tells_pulled l ≡ true → ArePuts k nodes more → IsPropagation k nodes (l ∷ more)
pull_before k nodes (labels.Pulled other reply) more is pulled f = (is, subst (λ (b : Bool). ArePuts k (if b then nodes else []) more) (sym pulled) f)
pull_before k nodes l more is pulled f = absurd is

-- ---- from node to node

-- the label behind a log stands at the place that is its length
pub label_behind : (old new : List Label) (l x : Label) → new ≡ old ++ l ∷ [] → slice_get new (length old) ≡ Some x → x ≡ l
label_behind old new l x grows at = same_Some x l (sym (ap (λ (xs : List Label). slice_get xs (length old)) (sym grows) ∙ at) ∙ seam old l)
  where
    seam : (xs : List Label) (y : Label) → slice_get (xs ++ y ∷ []) (length xs) ≡ Some y
    seam [] y = refl
    seam (x ∷ xs) y = seam xs y

-- the nodes from one on
next_node : (r : ℕ) → r < nodes_max → drop r all_nodes ≡ r ∷ drop (r + 1) all_nodes
next_node zero below = refl
next_node (suc zero) below = refl
next_node (suc (suc zero)) below = refl
next_node (suc (suc (suc zero))) below = refl
next_node (suc (suc (suc (suc zero)))) below = refl
next_node (suc (suc (suc (suc (suc zero))))) below = refl
next_node (suc (suc (suc (suc (suc (suc zero)))))) below = refl
next_node (suc (suc (suc (suc (suc (suc (suc zero))))))) below = refl
next_node (suc (suc (suc (suc (suc (suc (suc (suc r)))))))) below = absurd (omega (arith, below))

-- those of them that take a put
abbrev pub taking : (ℕ → Bool) → ℕ → List ℕ
taking p r = filter p (drop r all_nodes)

pub next_taking : (p : ℕ → Bool) (r : ℕ) (b : Bool) → r < nodes_max → b ≡ p r → (if b then r ∷ taking p (r + 1) else taking p (r + 1)) ≡ taking p r
next_taking p r b below is = ap (λ (b : Bool). if b then r ∷ taking p (r + 1) else taking p (r + 1)) is ∙ sym (ap (filter p) (next_node r below))

pub none_taking : (p : ℕ → Bool) (r : ℕ) → nodes_max ≤ r → taking p r ≡ []
none_taking p r above = ap (filter p) (drop_all r all_nodes above)

-- they are those of the state that the world shows
pub entry_shown_nodes : (w : World) (log : List Label) (k : ℕ) (complete : List ℕ) (active : Option ℕ) → IsRunTo w log → complete ≡ complete_of (entry_of k w.cluster.entries) → active ≡ active_in (entry_of k w.cluster.entries)
    → filter (takes_put complete active) all_nodes ≡ other_nodes (entry_of k (last log).cluster.entries)
entry_shown_nodes w log k complete active run complete_is active_is =
    let same : w.cluster ≡ (last log).cluster = sym (ap (λ (m : Machine). m.cluster) run.shows.same) in
    ap (λ (cs : List ℕ). filter (takes_put cs active) all_nodes) complete_is
    ∙ ap (λ (a : Option ℕ). filter (takes_put (complete_of (entry_of k w.cluster.entries)) a) all_nodes) active_is
    ∙ ap (λ (R : RecordState). other_nodes (entry_of k R.entries)) same

-- the puts at one node more
pub puts_follow : (k : ℕ) (left next nodes : List ℕ) (old log new : List Label) → GrowsToPuts k left next log new → GrowsToPuts k next nodes old log → GrowsToPuts k left nodes old new
puts_follow k left next nodes old log new one goes more f =
    let g = one more f in
    let h = goes g.0 g.2 in
    (h.0, g.1 ∙ h.1, h.2)

-- a put at this node, or none
pub puts_one : (k r : ℕ) (takes : Bool) (old new : World) (log longer : List Label) → takes ≡ true → Happens (happenings.Put k r) old new log longer → (rest : List ℕ) → GrowsToPuts k rest (if takes then r ∷ rest else rest) log longer
puts_one k r takes old new log longer is h rest more f = (
  h.label ∷ more,
  ap (λ xs. xs ++ more) h.grows ∙ append_assoc log (h.label ∷ []) more,
  subst (λ (b : Bool). ArePuts k (if b then r ∷ rest else rest) (h.label ∷ more)) (sym is) (put_before k r rest h.label more h.answers.0 f),
)

pub puts_none : (k r : ℕ) (takes : Bool) (log : List Label) → takes ≡ false → (rest : List ℕ) → GrowsToPuts k rest (if takes then r ∷ rest else rest) log log
puts_none k r takes log is rest more f = (more, refl, subst (λ (b : Bool). ArePuts k (if b then r ∷ rest else rest) more) (sym is) f)

-- where none is left
pub puts_end : (k : ℕ) (left nodes : List ℕ) (old new : List Label) → left ≡ [] → GrowsToPuts k left nodes old new → GrowsBy old new (ArePuts k nodes)
puts_end k left nodes old new none goes =
    let g = goes [] (subst (λ (rs : List ℕ). ArePuts k rs []) (sym none) refl) in
    (g.0, sym (append-nil new) ∙ g.1, g.2)

-- ---- puts that could come

could_put : ℕ → List ℕ → List Label
could_put k rs = map (λ r. labels.Put k r puts.Nothing) rs

could_put-puts : (k : ℕ) (rs : List ℕ) → ArePuts k rs (could_put k rs)
unfolding could_put
could_put-puts k [] = refl
could_put-puts k (r ∷ rs) = (refl, refl, could_put-puts k rs)

could_put-few : (k : ℕ) (rs : List ℕ) → length (could_put k rs) ≡ length rs
unfolding could_put
could_put-few k [] = refl
could_put-few k (r ∷ rs) = ap suc (could_put-few k rs)

filter_few : (p : ℕ → Bool) (xs : List ℕ) → length (filter p xs) ≤ length xs
filter_few p [] = omega arith
filter_few p (x ∷ xs) = by_test (p x) (filter_few p xs)
  where
    by_test : (b : Bool) → length (filter p xs) ≤ length xs → length (cond b (x ∷ filter p xs) (filter p xs)) ≤ length (x ∷ xs)
    by_test true few = omega (arith, few)
    by_test false few = omega (arith, few)

pub taking_few : (p : ℕ → Bool) (r : ℕ) → length (taking p r) ≤ nodes_max
taking_few p r =
    let few : length (filter p (drop r all_nodes)) ≤ length (drop r all_nodes) = filter_few p (drop r all_nodes) in
    let all : length (drop r all_nodes) ≡ length all_nodes - r = length-drop r all_nodes in
    let eight : length all_nodes ≡ 8 = refl in
    omega (arith, few, all, eight)

-- puts at the nodes that are left, where no label came
pub towards_puts : (k : ℕ) (left nodes : List ℕ) (old log new : List Label) → length left ≤ nodes_max → new ≡ log → GrowsToPuts k left nodes old log → GrowsTowards old new (ArePuts k nodes)
towards_puts k left nodes old log new few same goes =
    let short : length (could_put k left) ≡ length left = could_put-few k left in
    (could_put k left, omega (arith, few, short), subst (λ (xs : List Label). GrowsBy old (xs ++ could_put k left) (ArePuts k nodes)) (sym same) (goes (could_put k left) (could_put-puts k left)))
