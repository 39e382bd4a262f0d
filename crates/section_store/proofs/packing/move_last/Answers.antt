use Rattle.std.proofs.Common.{◌≡◌, ◌+◌, ◌-◌, ◌≤◌, length, set, map, sym, ap, subst, ◌∙◌, arith}
use Rattle.section_store.specs.Extents.{strings_in, extent_at, end_of, AreLaid}
use Rattle.section_store.specs.Packing.{lowered}
use Rattle.section_store.specs.declared.extents.Extent.{Extent}
use Rattle.section_store.proofs.ExtentLemmas.{extent_read}
use Rattle.section_store.proofs.Turning.{turned, length-turned, turned-is, strings_in-turned, AreLaid-turned}
use Rattle.section_store.proofs.packing.move_last.Goals as goal

-- where the string is that is moved
read : (c : goal.After-extents-1) → c.index-moved.result.now ≡ extent_at c.args.place c.args.extents.now.items
read c = sym (extent_read c.args.extents.now.items c.args.place c.index-moved.result.now c.requires.there c.index-moved.ensures)

-- the extents behind the move
moved : (c : goal.After-extents-1) (e' : Extent) → set c.move_down.new.extents.items c.args.place e' ≡ set (map (lowered (extent_at c.args.place c.args.extents.now.items)) c.args.extents.now.items) c.args.place e'
moved c e' = ap (λ xs. set xs c.args.place e') c.move_down.ensures.extents ∙ ap (λ x. set (map (lowered x) c.args.extents.now.items) c.args.place e') (read c)

-- the bytes behind the move
bytes : (c : goal.After-extents-1) → c.turn.new.buffer.items ≡ turned (extent_at c.args.place c.args.extents.now.items).start (extent_at c.args.place c.args.extents.now.items).len c.args.buffer.now.items
bytes c = c.turn.ensures.bytes ∙ ap (λ x. turned x.start x.len c.args.buffer.now.items) (read c)

-- there are as many
size : (c : goal.After-extents-1) → length c.turn.new.buffer.items ≡ length c.args.buffer.now.items
size c =
    let e = extent_at c.args.place c.args.extents.now.items in
    ap length (bytes c) ∙ length-turned e.start e.len c.args.buffer.now.items (c.requires.laid.within c.args.place _ c.requires.there)

pub returns-clause-strings : goal.returns-clause-strings
returns-clause-strings c =
    let es = c.args.extents.now.items in
    let b = c.args.buffer.now.items in
    let p = c.args.place in
    let e = extent_at p es in
    let e' : Extent = record c.index-moved.result.now { start = c.len.result - c.index-moved.result.now.len } in
    let within : end_of e ≤ length b = c.requires.laid.within p _ c.requires.there in
    let len : e'.len ≡ e.len = ap (λ x. x.len) (read c) in
    let end : e'.start + e.len ≡ length b = omega (arith, size c, len, c.len.ensures) in
    (λ i. strings_in (bytes c i) (moved c e' i)) ∙ strings_in-turned b es p e' (set (map (lowered e) es) p e') c.requires.laid c.requires.there (turned-is (length b) es p e' c.requires.laid c.requires.there c.requires.some) end len

pub returns-clause-laid : goal.returns-clause-laid
returns-clause-laid c =
    let es = c.args.extents.now.items in
    let b = c.args.buffer.now.items in
    let p = c.args.place in
    let e = extent_at p es in
    let e' : Extent = record c.index-moved.result.now { start = c.len.result - c.index-moved.result.now.len } in
    let within : end_of e ≤ length b = c.requires.laid.within p _ c.requires.there in
    let len : e'.len ≡ e.len = ap (λ x. x.len) (read c) in
    let end : e'.start + e.len ≡ length b = omega (arith, size c, len, c.len.ensures) in
    let laid : AreLaid (length b) (set (map (lowered e) es) p e') = AreLaid-turned (length b) es p e' (set (map (lowered e) es) p e') c.requires.laid c.requires.there c.requires.some (turned-is (length b) es p e' c.requires.laid c.requires.there c.requires.some) end len in
    subst (λ n. AreLaid n (set c.move_down.new.extents.items p e')) (sym (size c)) (subst (AreLaid (length b)) (sym (moved c e')) laid)
