-- Each step on the word keeps its rule.
use Rattle.std.proofs.Common.{◌≡◌, ◌⊎◌, ℕ, ◌+◌, ◌-◌, ◌%◌, ◌^◌, ◌<◌, ◌≤◌, List, [], ◌∷◌, ◌++◌, length, set, refl, sym, ap, ◌∙◌, subst, inl, inr, ⊎_elim, arith, length-append}
use Rattle.std.specs.Prelude.{slice_index, slice_set, sum_by, cond, ◌==◌}
use Rattle.std.proofs.Math.Nat.{mod-eq_of_lt}
use Rattle.std.proofs.lemmas.List.Sums.{sum_by_push}
use mathlib.Core.Option.{some, none, some-injective}
use lib.ListN.{get_elem?}
use Rattle.atomic_table.specs.Table.{Me, State, Allows, Splits, Joins, Final, Seen, step, keeps}
use Rattle.atomic_table.proofs.Lists.{at_set, at_snoc}
use Rattle.ticket_word.specs.declared.rule.View.{View}
use Rattle.ticket_word.specs.Rule.{spent_view, drawn_view, left_view, new_view, joined_view, CountsTickets, IsDraw}
use Rattle.ticket_word.specs.Seats.{count_of, once_below, AreAllBelow}
use Rattle.ticket_word.proofs.Counts.{sum_set, sum_at, sum_one, count_of-append, count_of_push, count_of_none, once_below_next, all_below}

-- what the rule adds up
abbrev allowed : View → ℕ
allowed v = v.allowance

abbrev drawn : View → ℕ
drawn v = length v.tickets

abbrev drawn_as : ℕ → View → ℕ
drawn_as number v = count_of number v.tickets

-- the views all know the total, but for those that are spent
abbrev AreNamed : ℕ → List View → Type 0
AreNamed total views = (place : ℕ) (v : View) → get_elem? views place ≡ some v → (v.total ≡ total) ⊎ (v ≡ spent_view)

named_set : (total : ℕ) (views : List View) (place : ℕ) (new : View) → (new.total ≡ total) ⊎ (new ≡ spent_view) → AreNamed total views → AreNamed total (set views place new)
named_set total views place new one all j v at =
    ⊎_elim (λ here. subst (λ (y : View). (y.total ≡ total) ⊎ (y ≡ spent_view)) here.1 one) (λ other. all j v other.1) (at_set views place j new v at)

named_push : (total : ℕ) (views : List View) (new : View) → new.total ≡ total → AreNamed total views → AreNamed total (views ++ new ∷ [])
named_push total views new one all j v at =
    ⊎_elim (λ was. all j v was) (λ is. subst (λ (y : View). (y.total ≡ total) ⊎ (y ≡ spent_view)) is (inl one)) (at_snoc views new v j at)

-- a draw: the word goes on by one, and what it was is the ticket
pub draws : (total slots place : ℕ) (me : Me ℕ View) → me.0.total ≡ total → 0 < me.0.allowance
    → Allows (λ (s : State ℕ View). CountsTickets total s.words s.views) slots place me 0 (λ n. (n + 1) % 2 ^ 64) (IsDraw (step slots 0 1 0 none) me)
draws total slots place me is_total may s kept homes at small =
    let n : ℕ = slice_index s.words 0 in
    let v : View = me.0 in
    let w : View = drawn_view v n in
    let is : n ≡ kept.drawn = ap (λ l. slice_index l 0) kept.word in
    let whole : kept.drawn + sum_by allowed s.views ≡ total = kept.whole in
    let most : v.allowance ≤ sum_by allowed s.views = sum_at allowed s.views place v at in
    let few : total ≤ 2 ^ 63 = kept.few in
    let below : n < v.total = omega (arith, is, whole, most, may, is_total) in
    let low : n < 2 ^ 63 = omega (arith, below, few, is_total) in
    let next : (n + 1) % 2 ^ 64 ≡ n + 1 = mod-eq_of_lt (omega (arith, low)) in (
      w,
      keeps,
      tt,
      record {
        drawn = n + 1;
        word = ap (λ l. slice_set l 0 ((n + 1) % 2 ^ 64)) kept.word ∙ ap (λ k. k ∷ []) next;
        few = few;
        whole = (let changed : sum_by allowed (set s.views place w) + v.allowance ≡ sum_by allowed s.views + (v.allowance - 1) = sum_set allowed s.views place v w at in omega (arith, changed, is, whole, may));
        count = (let changed : sum_by drawn (set s.views place w) + length v.tickets ≡ sum_by drawn s.views + length (v.tickets ++ n ∷ []) = sum_set drawn s.views place v w at in
            let longer : length (v.tickets ++ n ∷ []) ≡ length v.tickets + 1 = length-append v.tickets (n ∷ []) in
            let count : sum_by drawn s.views ≡ kept.drawn = kept.count in omega (arith, changed, longer, count, is));
        each = λ number.
            (let changed : sum_by (drawn_as number) (set s.views place w) + count_of number v.tickets ≡ sum_by (drawn_as number) s.views + count_of number (v.tickets ++ n ∷ []) = sum_set (drawn_as number) s.views place v w at in
            let longer : count_of number (v.tickets ++ n ∷ []) ≡ count_of number v.tickets + cond (n == number) 1 0 = count_of_push number v.tickets n in
            let each : sum_by (drawn_as number) s.views ≡ once_below number kept.drawn = kept.each number in
            let was : once_below number kept.drawn ≡ once_below number n = ap (once_below number) (sym is) in
            let more : once_below number (n + 1) ≡ once_below number n + cond (n == number) 1 0 = once_below_next number n in
            omega (arith, changed, longer, each, was, more));
        named = named_set total s.views place w (inl is_total) kept.named;
      },
      record {
        view = refl;
        slots = refl;
        above = all_below v.tickets n (λ number. (let most : count_of number v.tickets ≤ sum_by (drawn_as number) s.views = sum_at (drawn_as number) s.views place v at in
            let each : sum_by (drawn_as number) s.views ≡ once_below number kept.drawn = kept.each number in
            let was : once_below number kept.drawn ≡ once_below number n = ap (once_below number) (sym is) in omega (arith, most, each, was)));
        below = below;
        small = low;
      },
    )

-- a split: what the one may draw less, the new one may
pub splits : (total place amount : ℕ) (v : View) → v.total ≡ total → amount ≤ v.allowance
    → Splits (λ (s : State ℕ View). CountsTickets total s.words s.views) place v (left_view amount v) (new_view amount v)
splits total place amount v is_total fits s kept at =
    let l : View = left_view amount v in
    let w : View = new_view amount v in
    let vs : List View = set s.views place l in record {
      drawn = kept.drawn;
      word = kept.word;
      few = kept.few;
      whole = (let changed : sum_by allowed vs + v.allowance ≡ sum_by allowed s.views + (v.allowance - amount) = sum_set allowed s.views place v l at in
          let more : sum_by allowed (vs ++ w ∷ []) ≡ sum_by allowed vs + amount = sum_by_push allowed vs w in
          let whole : kept.drawn + sum_by allowed s.views ≡ total = kept.whole in omega (arith, changed, more, whole, fits));
      count = (let changed : sum_by drawn vs + length v.tickets ≡ sum_by drawn s.views + length v.tickets = sum_set drawn s.views place v l at in
          let more : sum_by drawn (vs ++ w ∷ []) ≡ sum_by drawn vs + 0 = sum_by_push drawn vs w in
          let count : sum_by drawn s.views ≡ kept.drawn = kept.count in omega (arith, changed, more, count));
      each = λ number.
          (let changed : sum_by (drawn_as number) vs + count_of number v.tickets ≡ sum_by (drawn_as number) s.views + count_of number v.tickets = sum_set (drawn_as number) s.views place v l at in
          let more : sum_by (drawn_as number) (vs ++ w ∷ []) ≡ sum_by (drawn_as number) vs + 0 = sum_by_push (drawn_as number) vs w in
          let each : sum_by (drawn_as number) s.views ≡ once_below number kept.drawn = kept.each number in omega (arith, changed, more, each));
      named = named_push total vs w is_total (named_set total s.views place l (inl is_total) kept.named);
    }

-- a join: what the other has, the one has too, and the other is spent
pub joins : (total place : ℕ) (v : View) (other : ℕ) (u : View) → v.total ≡ total
    → Joins (λ (s : State ℕ View). CountsTickets total s.words s.views) place v other u (joined_view v u) spent_view
joins total place v other u is_total s kept at apart was =
    let w : View = joined_view v u in
    let vs : List View = set s.views place w in record {
      drawn = kept.drawn;
      word = kept.word;
      few = kept.few;
      whole = (let more : sum_by allowed vs + v.allowance ≡ sum_by allowed s.views + (v.allowance + u.allowance) = sum_set allowed s.views place v w at in
          let less : sum_by allowed (set vs other spent_view) + u.allowance ≡ sum_by allowed vs + 0 = sum_set allowed vs other u spent_view was in
          let whole : kept.drawn + sum_by allowed s.views ≡ total = kept.whole in omega (arith, more, less, whole));
      count = (let more : sum_by drawn vs + length v.tickets ≡ sum_by drawn s.views + length (v.tickets ++ u.tickets) = sum_set drawn s.views place v w at in
          let less : sum_by drawn (set vs other spent_view) + length u.tickets ≡ sum_by drawn vs + 0 = sum_set drawn vs other u spent_view was in
          let both : length (v.tickets ++ u.tickets) ≡ length v.tickets + length u.tickets = length-append v.tickets u.tickets in
          let count : sum_by drawn s.views ≡ kept.drawn = kept.count in omega (arith, more, less, both, count));
      each = λ number.
          (let more : sum_by (drawn_as number) vs + count_of number v.tickets ≡ sum_by (drawn_as number) s.views + count_of number (v.tickets ++ u.tickets) = sum_set (drawn_as number) s.views place v w at in
          let less : sum_by (drawn_as number) (set vs other spent_view) + count_of number u.tickets ≡ sum_by (drawn_as number) vs + 0 = sum_set (drawn_as number) vs other u spent_view was in
          let both : count_of number (v.tickets ++ u.tickets) ≡ count_of number v.tickets + count_of number u.tickets = count_of-append number v.tickets u.tickets in
          let each : sum_by (drawn_as number) s.views ≡ once_below number kept.drawn = kept.each number in omega (arith, more, less, both, each));
      named = named_set total vs other spent_view (inr refl) (named_set total s.views place w (inl is_total) kept.named);
    }

-- a seat that has all that may be drawn has all that was drawn
pub has_all : (total place : ℕ) (v : View) (words homes : List ℕ) (n : ℕ) → Final (Seen (λ (s : State ℕ View). CountsTickets total s.words s.views) place v) words homes
    → length v.tickets + v.allowance ≡ total → get_elem? words 0 ≡ some n → AreAllBelow n v.tickets × (n ≡ length v.tickets)
has_all total place v words homes n final all first =
    let s : State ℕ View = final.0 in
    let kept = final.1.0 in
    let at : get_elem? s.views place ≡ some v = final.1.1 in
    let same : s.words ≡ words = final.2 in
    let is : kept.drawn ≡ n = some-injective kept.drawn n (ap (λ l. get_elem? l 0) (sym kept.word ∙ same) ∙ first) in
    let may : v.allowance ≤ sum_by allowed s.views = sum_at allowed s.views place v at in
    let mine : length v.tickets ≤ sum_by drawn s.views = sum_at drawn s.views place v at in
    let whole : kept.drawn + sum_by allowed s.views ≡ total = kept.whole in
    let count : sum_by drawn s.views ≡ kept.drawn = kept.count in
    let only : sum_by drawn s.views ≡ length v.tickets = omega (arith, may, mine, whole, count, all) in (
      (λ number. sym (sum_one (drawn_as number) drawn (λ u none. count_of_none number u.tickets none) s.views place v at only) ∙ kept.each number ∙ ap (once_below number) is),
      omega (arith, only, count, is),
    )
