use Rattle.std.proofs.Common.{◌≡◌, List, ℕ, length, ap, ◌∙◌, arith}
use Rattle.ckpt_types.specs.Updates.{written}
use Rattle.section_store.specs.RegionState.{RegionState, string_at, with_string, resized}
use Rattle.section_store.proofs.RegionLemmas.{length-resized}
use Rattle.section_store.proofs.KeptSections.{length-with_string, string_at-changed, with_string-twice, with_string-agree, written-whole}
use Rattle.section_store.proofs.kept.replace.Goals as goal

pub write-requires-clause-there : goal.write-requires-clause-there
write-requires-clause-there c =
    omega (arith, c.requires.there, ap (λ r. length r.strings) c.resize.ensures, length-with_string (resized (length c.args.bytes.now)) c.args.slot c.args.region.now.strings)

pub write-requires-clause-within : goal.write-requires-clause-within
write-requires-clause-within c =
    let n = length c.args.bytes.now in
    let strings = c.args.region.now.strings in
    let is : string_at c.args.slot c.resize.new.self.strings ≡ resized n (string_at c.args.slot strings) = ap (λ r. string_at c.args.slot r.strings) c.resize.ensures ∙ string_at-changed (resized n) c.args.slot strings c.requires.there in
    omega (arith, ap length is, length-resized n (string_at c.args.slot strings))

pub returns : goal.returns
returns c =
    let bytes = c.args.bytes.now in
    let strings = c.args.region.now.strings in
    let put : List (List ℕ) → RegionState = λ xs. record c.args.region.now { strings = xs } in
    let write : List ℕ → List ℕ = λ s. written s 0 bytes in
    c.write.ensures ∙ ap (λ (r : RegionState). record r { strings = with_string write c.args.slot r.strings }) c.resize.ensures
    ∙ ap put (with_string-twice (resized (length bytes)) write c.args.slot strings
    ∙ with_string-agree (λ s. write (resized (length bytes) s)) (λ s. bytes) c.args.slot strings (written-whole (string_at c.args.slot strings) bytes))
