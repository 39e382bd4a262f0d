use Rattle.std.proofs.Common.{◌+◌, ◌-◌, ◌^◌, ◌<◌, List, min, All, rules, arith}
use Rattle.std.specs.List.Sorted.{IsNonDecreasingBy}
use Rattle.std.proofs.lemmas.List.Sorted.{All-permutation, IsNonDecreasingBy-from_sort_by_key}
use Rattle.section_store.specs.Extents.{end_of}
use Rattle.section_store.specs.declared.extents.Extent.{Extent}
use Rattle.section_store.proofs.packing.put_in_order.Goals as goal

-- where no string ends too late for a number, the ends rise
ends_rise : (es : List Extent) → All (λ e. end_of e < 2 ^ 64) es → IsNonDecreasingBy (λ e. min (e.start + e.len) (2 ^ 64 - 1)) es → IsNonDecreasingBy end_of es
ends_rise es within up j k d le lt = omega (arith, up j k d le lt, within j d (omega arith), within k d lt)

pub returns-clause-rise : goal.returns-clause-rise
returns-clause-rise c =
    let sorted = c.sort_unstable_by_key.new.self.items in
    ends_rise sorted (All-permutation (λ e. end_of e < 2 ^ 64) c.args.extents.now.items sorted c.sort_unstable_by_key.ensures.permutation c.requires.within)
    (IsNonDecreasingBy-from_sort_by_key (λ e. min (e.start + e.len) (2 ^ 64 - 1)) _ c.sort_unstable_by_key.ensures.sorted (λ a r q k. search rules))
