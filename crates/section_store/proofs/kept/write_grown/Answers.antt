use Rattle.std.proofs.Common.{◌≡◌, ◌+◌, ◌≤◌, ◌<◌, [], List, ℕ, length, ap, ◌∙◌, arith}
use Rattle.std.specs.Prelude.{remove, sum_by}
use Rattle.std.proofs.lemmas.List.Sums.{sum_by-remove}
use Rattle.ckpt_types.specs.Updates.{written}
use Rattle.ckpt_types.proofs.Fitting.{length-written}
use Rattle.section_store.specs.RegionState.{RegionState, string_at, with_string, resized}
use Rattle.section_store.proofs.RegionLemmas.{length-resized, sum-with_string}
use Rattle.section_store.proofs.KeptSections.{length-with_string, string_at-changed, with_string-twice, with_string-agree, written-resized}
use Rattle.section_store.proofs.kept.write_grown.Goals as goal

-- how many bytes the others have, and all behind the write
grown : (r : RegionState) (slot offset : ℕ) (bytes : List ℕ) → slot < length r.strings
    → (sum_by length (remove r.strings slot) + length (string_at slot r.strings) ≡ sum_by length r.strings)
    × (sum_by length (with_string (λ s. written s offset bytes) slot r.strings) + length (string_at slot r.strings) ≡ sum_by length r.strings + length (written (string_at slot r.strings) offset bytes))
grown r slot offset bytes there = (sum_by-remove (length {A = ℕ}) r.strings slot [] there, sum-with_string (λ s. written s offset bytes) slot r.strings there)

pub overflow_add-end : goal.overflow_add-end
overflow_add-end c =
    let r = c.args.region.now in
    let (others, all) = grown r c.args.slot c.args.offset c.args.bytes.now c.requires.there in
    omega (arith, others, all, length-written (string_at c.args.slot r.strings) c.args.offset c.args.bytes.now, c.requires.fits, c.requires.small)

pub returns-then-end-before-clause-grown : goal.returns-then-end-before-clause-grown
returns-then-end-before-clause-grown c =
    let r = c.args.region.now in
    let (others, all) = grown r c.args.slot c.args.offset c.args.bytes.now c.requires.there in
    omega (arith, all, ap (λ x. sum_by length x.strings) c.write.ensures, length-written (string_at c.args.slot r.strings) c.args.offset c.args.bytes.now, c.if-end-before.true, c.len_at-before.ensures)

pub resize-requires-clause-fits : goal.resize-requires-clause-fits
resize-requires-clause-fits c =
    let r = c.args.region.now in
    let (others, all) = grown r c.args.slot c.args.offset c.args.bytes.now c.requires.there in
    omega (arith, others, all, length-written (string_at c.args.slot r.strings) c.args.offset c.args.bytes.now, c.requires.fits)

pub write-requires-2-clause-there : goal.write-requires-2-clause-there
write-requires-2-clause-there c =
    omega (arith, c.requires.there, ap (λ r. length r.strings) c.resize.ensures, length-with_string (resized (c.args.offset + length c.args.bytes.now)) c.args.slot c.args.region.now.strings)

pub write-requires-2-clause-within : goal.write-requires-2-clause-within
write-requires-2-clause-within c =
    let n = c.args.offset + length c.args.bytes.now in
    let strings = c.args.region.now.strings in
    let is : string_at c.args.slot c.resize.new.self.strings ≡ resized n (string_at c.args.slot strings) = ap (λ r. string_at c.args.slot r.strings) c.resize.ensures ∙ string_at-changed (resized n) c.args.slot strings c.requires.there in
    omega (arith, ap length is, length-resized n (string_at c.args.slot strings))

-- the region behind the write
behind : (c : goal.After-write-2) → c.write-2.new.self ≡ record c.args.region.now { strings = with_string (λ s. written s c.args.offset c.args.bytes.now) c.args.slot c.args.region.now.strings }
behind c =
    let bytes = c.args.bytes.now in
    let n = c.args.offset + length bytes in
    let strings = c.args.region.now.strings in
    let put : List (List ℕ) → RegionState = λ xs. record c.args.region.now { strings = xs } in
    let write : List ℕ → List ℕ = λ s. written s c.args.offset bytes in
    let short : length (string_at c.args.slot strings) ≤ n = omega (arith, c.if-end-before.false, c.len_at-before.ensures) in
    c.write-2.ensures ∙ ap (λ (r : RegionState). record r { strings = with_string write c.args.slot r.strings }) c.resize.ensures
    ∙ ap put (with_string-twice (resized n) write c.args.slot strings
    ∙ with_string-agree (λ s. write (resized n s)) write c.args.slot strings (written-resized (string_at c.args.slot strings) c.args.offset bytes short))

pub returns-clause-written : goal.returns-clause-written
returns-clause-written c = behind c

pub returns-clause-grown : goal.returns-clause-grown
returns-clause-grown c =
    let r = c.args.region.now in
    let (others, all) = grown r c.args.slot c.args.offset c.args.bytes.now c.requires.there in
    omega (arith, all, ap (λ x. sum_by length x.strings) (behind c), length-written (string_at c.args.slot r.strings) c.args.offset c.args.bytes.now, c.if-end-before.false, c.len_at-before.ensures)
