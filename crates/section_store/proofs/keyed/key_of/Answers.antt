use Rattle.std.proofs.Common.{◌≡◌, ℕ, suc, ◌+◌, ◌-◌, ◌*◌, ◌^◌, ◌<◌, ◌≤◌, get_or, drop, sym, ap, ◌∙◌, inl, inr, arith, rules}
use Rattle.std.proofs.Math.Nat.{pow-le-pow_right}
use Rattle.std.proofs.lemmas.Bool.{cases_eq}
use Rattle.std.proofs.lemmas.Grind.{pow_more}
use Rattle.section_store.specs.Keys.{key_from}
use Rattle.section_store.proofs.KeyLemmas.{key_from-next, get_or-drop, drop-drop}
use Rattle.section_store.proofs.keyed.key_of.Goals as goal

-- one byte more keeps below the bound of one place more
grows : (key byte place : ℕ) → key < 256 ^ place → byte < 256 → key * 256 + byte < 256 ^ (place + 1)
grows key byte place small one = let more : 256 ^ (place + 1) ≡ 256 ^ place * 256 = pow_more 256 place in omega arith

-- eight bytes at most are a number below 2 ^ 64
fits : (key byte place : ℕ) → place < 8 → key < 256 ^ place → byte < 256 → key * 256 + byte < 2 ^ 64
fits key byte place lt small one =
    let most : 256 ^ (place + 1) ≤ 256 ^ 8 = pow-le-pow_right {n = 256} (omega arith) {i = place + 1} {j = 8} (omega arith) in
    omega (arith, grows key byte place small one)

pub overflow_mul-key : goal.overflow_mul-key
overflow_mul-key c =
    let product : c.loop-place.key * 256 < 2 ^ 64 = omega (arith, fits c.loop-place.key 0 c.loop-place.place (omega arith) c.loop-place.invariant.small (omega arith)) in
    search (rules, product)

pub overflow_add-key : goal.overflow_add-key
overflow_add-key c =
    let sum : c.loop-place.key * 256 + c.byte_at.result < 2 ^ 64 = fits c.loop-place.key c.byte_at.result c.loop-place.place (omega arith) c.loop-place.invariant.small c.byte_at.ensures.small in
    search (rules, sum)

pub loop-place-preserved : goal.loop-place-preserved
loop-place-preserved c =
    let key = c.loop-place.key in
    let place = c.loop-place.place in
    let bytes = c.args.bytes.now in
    let left : 8 - place ≡ suc (8 - (place + 1)) = omega arith in
    let here : get_or (drop place bytes) 0 0 ≡ c.byte_at.result = get_or-drop bytes place ∙ sym c.byte_at.ensures.byte in
    let next : suc place ≡ place + 1 = omega arith in
    let step : key_from key (8 - place) (drop place bytes) ≡ key_from (key * 256 + c.byte_at.result) (8 - (place + 1)) (drop (place + 1) bytes) =
    ap (λ n. key_from key n (drop place bytes)) left ∙ key_from-next key (8 - (place + 1)) (drop place bytes)
    ∙ ap (λ b. key_from (key * 256 + b) (8 - (place + 1)) (drop 1 (drop place bytes))) here
    ∙ ap (key_from (key * 256 + c.byte_at.result) (8 - (place + 1))) (drop-drop bytes place ∙ ap (λ n. drop n bytes) next) in
    record {
      going = sym step ∙ c.loop-place.invariant.going;
      small = grows key c.byte_at.result place c.loop-place.invariant.small c.byte_at.ensures.small;
      bytes = λ i lt. elim (cases_eq i place) [
        | inl same ↦ omega (arith, ap (λ n. get_or bytes n 0) same, c.byte_at.ensures.byte, c.byte_at.ensures.small)
        | inr other ↦ c.loop-place.invariant.bytes i (omega arith)
      ];
    }
