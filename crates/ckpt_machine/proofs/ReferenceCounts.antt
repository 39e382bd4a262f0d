-- How often each client has an entry open, behind each change of it.
use Rattle.std.proofs.Common.{◌≡◌, ℕ, zero, suc, ◌+◌, ◌-◌, ◌<◌, List, [], ◌∷◌, length, Some, None, Bool, true, false, cond, ◌==◌, ℤ, refl, sym, ap, ◌∙◌, arith}
use Rattle.std.specs.Prelude.{slice_index, slice_set}
use Rattle.std.proofs.lemmas.Bool.{eqb-true}
use Rattle.ckpt_types.specs.declared.identities.CallId.{CallId}
use Rattle.cluster_record.specs.declared.entries.Entry.{Entry}
use Rattle.cluster_record.specs.Failing.{references_left, left_open, without_clients, led_anew, without_node, entry_failed}
use Rattle.cluster_record.specs.Placement.{adds}
use Rattle.cluster_record.specs.RecordState.{has_references, idle_from, referred, opened_with, made_with, unreferred, released_all, can_be_held, with_hold, can_lead, generation_under, is_active, with_active}
use Rattle.ckpt_machine.proofs.NodeLists.{index-set, index-other, length-slice_set}

-- as many of each client are open of the second as the change makes of those of the first
pub record Refers (change : ℕ → ℕ → ℕ) (e f : Entry) : Type 0 where
  pub each : (d : ℕ) → slice_index f.references d ≡ change d (slice_index e.references d)
  pub clients : length f.references ≡ length e.references

-- as many as before
abbrev pub as_before : ℕ → ℕ → ℕ
as_before d n = n

abbrev pub RefersAlike : Entry → Entry → Type 0
RefersAlike e f = Refers as_before e f

-- of one client another number
abbrev pub of_client : ℕ → (ℕ → ℕ) → ℕ → ℕ → ℕ
of_client c change d n = cond (d == c) (change n) n

-- none of the clients that go
abbrev pub of_others : (ℕ → Bool) → ℕ → ℕ → ℕ
of_others goes d n = cond (goes d) 0 n

-- ---- the same references

pub alike : (e f : Entry) → f.references ≡ e.references → RefersAlike e f
alike e f same = record { each = λ d. ap (λ references. slice_index references d) same; clients = ap length same }

pub held_alike : (call : CallId) (e : Entry) → RefersAlike e (with_hold call e)
held_alike call e = alike e (with_hold call e) (elim (can_be_held e) as (λ b. (cond b (record e { hold = Some call }) e).references ≡ e.references) [ true ↦ refl | false ↦ refl ])

pub led_alike : (r : ℕ) (e : Entry) → RefersAlike e (with_active r e)
led_alike r e = alike e (with_active r e) (elim (can_lead r e) as (λ b. (cond b (record e { active = Some r; generation = generation_under r e; hold = None }) e).references ≡ e.references) [ true ↦ refl | false ↦ refl ])

-- the last close leaves them
idle_from-references : (t : ℤ) (e : Entry) → (idle_from t e).references ≡ e.references
idle_from-references t e = elim (has_references e) as (λ b. (cond b e (record e { idle = t })).references ≡ e.references) [ true ↦ refl | false ↦ refl ]

-- ---- one client's

-- where its number is set
one_set : (e : Entry) (c n : ℕ) → c < length e.references → (d : ℕ) → slice_index (slice_set e.references c n) d ≡ cond (d == c) n (slice_index e.references d)
one_set e c n within d = by_test (d == c) refl
  where
    by_test : (b : Bool) → (d == c) ≡ b → slice_index (slice_set e.references c n) d ≡ cond b n (slice_index e.references d)
    by_test true same = ap (slice_index (slice_set e.references c n)) (eqb-true d c same) ∙ index-set e.references c n within
    by_test false other = index-other e.references c d n other

-- the number of the client itself
own_number : (change : ℕ → ℕ) (references : List ℕ) (c d : ℕ) → cond (d == c) (change (slice_index references c)) (slice_index references d) ≡ of_client c change d (slice_index references d)
own_number change references c d = by_test (d == c) refl
  where
    by_test : (b : Bool) → (d == c) ≡ b → cond b (change (slice_index references c)) (slice_index references d) ≡ cond b (change (slice_index references d)) (slice_index references d)
    by_test true same = ap (λ (x : ℕ). change (slice_index references x)) (sym (eqb-true d c same))
    by_test false other = refl

-- one more
abbrev pub one_more : ℕ → ℕ
one_more n = n + 1

referred_more : (c : ℕ) (e : Entry) → c < length e.references → Refers (of_client c one_more) e (referred c e)
referred_more c e within = record {
  each = λ d. one_set e c (slice_index e.references c + 1) within d ∙ own_number one_more e.references c d;
  clients = length-slice_set e.references c (slice_index e.references c + 1);
}

pub opened_more : (opener : ℕ) (up : List ℕ) (c : ℕ) (e : Entry) → c < length e.references → Refers (of_client c one_more) e (opened_with opener up c e)
opened_more opener up c e within = elim (adds e.attributes opener e.complete) as (λ b. Refers (of_client c one_more) e (referred c (cond b (record e { complete = slice_set e.complete opener (slice_index up opener) }) e))) [
  | true ↦ (let more = referred_more c e within in record { each = more.each; clients = more.clients })
  | false ↦ referred_more c e within
]

pub made_more : (opener : ℕ) (up : List ℕ) (c : ℕ) (e : Entry) → c < length e.references → Refers (of_client c one_more) e (made_with opener up c e)
made_more opener up c e within = let more = referred_more c e within in record { each = more.each; clients = more.clients }

-- another number, by which nothing comes of none
taken_from : (change : ℕ → ℕ) (c : ℕ) (t : ℤ) (e : Entry) → c < length e.references → change 0 ≡ 0 → Refers (of_client c change) e (cond (slice_index e.references c == 0) e (idle_from t (record e { references = slice_set e.references c (change (slice_index e.references c)) })))
taken_from change c t e within none = by_test (slice_index e.references c == 0) refl
  where
    less : Entry
    less = record e { references = slice_set e.references c (change (slice_index e.references c)) }

    by_client : slice_index e.references c ≡ 0 → (d : ℕ) (b : Bool) → (d == c) ≡ b → slice_index e.references d ≡ cond b (change (slice_index e.references d)) (slice_index e.references d)
    by_client zero_it d true same = let is : slice_index e.references d ≡ 0 = ap (slice_index e.references) (eqb-true d c same) ∙ zero_it in is ∙ sym (ap change is ∙ none)
    by_client zero_it d false other = refl

    by_test : (b : Bool) → (slice_index e.references c == 0) ≡ b → Refers (of_client c change) e (cond b e (idle_from t less))
    by_test true is = record { each = λ d. by_client (eqb-true (slice_index e.references c) 0 is) d (d == c) refl; clients = refl }
    by_test false is = record {
      each = λ d. ap (λ references. slice_index references d) (idle_from-references t less) ∙ one_set e c (change (slice_index e.references c)) within d ∙ own_number change e.references c d;
      clients = ap length (idle_from-references t less) ∙ length-slice_set e.references c (change (slice_index e.references c));
    }

-- one fewer
abbrev pub one_fewer : ℕ → ℕ
one_fewer n = n - 1

pub unreferred_fewer : (c : ℕ) (t : ℤ) (e : Entry) → c < length e.references → Refers (of_client c one_fewer) e (unreferred c t e)
unreferred_fewer c t e within = taken_from one_fewer c t e within refl

-- none
abbrev pub no_more : ℕ → ℕ
no_more n = 0

pub released_none : (c : ℕ) (t : ℤ) (e : Entry) → c < length e.references → Refers (of_client c no_more) e (released_all c t e)
released_none c t e within = taken_from no_more c t e within refl

-- ---- the failure of a node

references_left-index : (goes : ℕ → Bool) (c : ℕ) (ns : List ℕ) (d : ℕ) → slice_index (references_left goes c ns) d ≡ cond (goes (c + d)) 0 (slice_index ns d)
references_left-index goes c [] d = elim (goes (c + d)) as (λ b. ◌≡◌ {A = ℕ} 0 (cond b 0 0)) [ true ↦ refl | false ↦ refl ]
references_left-index goes c (n ∷ ns) zero = ap (λ i. cond (goes i) 0 n) (let at : c ≡ c + 0 = omega arith in at)
references_left-index goes c (n ∷ ns) (suc d) = references_left-index goes (c + 1) ns d ∙ ap (λ i. cond (goes i) 0 (slice_index ns d)) (let at : c + 1 + d ≡ c + suc d = omega arith in at)

references_left-length : (goes : ℕ → Bool) (c : ℕ) (ns : List ℕ) → length (references_left goes c ns) ≡ length ns
references_left-length goes c [] = refl
references_left-length goes c (n ∷ ns) = ap suc (references_left-length goes (c + 1) ns)

-- without the references of those that go
left_open-references : (goes : ℕ → Bool) (t : ℤ) (e : Entry) → (left_open goes t e).references ≡ references_left goes 0 e.references
left_open-references goes t e = elim (has_references e) as (λ b. (cond b (idle_from t (record e { references = references_left goes 0 e.references })) (record e { references = references_left goes 0 e.references })).references ≡ references_left goes 0 e.references) [
  | true ↦ idle_from-references t (record e { references = references_left goes 0 e.references })
  | false ↦ refl
]

pub without_clients_others : (goes : ℕ → Bool) (t : ℤ) (e : Entry) → Refers (of_others goes) e (without_clients goes t e)
without_clients_others goes t e = record {
  each = λ d. ap (λ references. slice_index references d) (left_open-references goes t e) ∙ references_left-index goes 0 e.references d ∙ ap (λ i. of_others goes i (slice_index e.references d)) (let at : 0 + d ≡ d = omega arith in at);
  clients = ap length (left_open-references goes t e) ∙ references_left-length goes 0 e.references;
}

-- the node itself has none
pub failed_alike : (counts : ℕ → ℕ) (r : ℕ) (e : Entry) → RefersAlike e (entry_failed counts r e)
failed_alike counts r e = alike e (entry_failed counts r e) (elim (is_active e.active r) as (λ b. (cond b (led_anew counts (without_node r e)) (without_node r e)).references ≡ e.references) [ true ↦ refl | false ↦ refl ])
