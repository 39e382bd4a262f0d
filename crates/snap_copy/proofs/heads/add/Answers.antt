use Rattle.std.proofs.Common.{◌≡◌, ◌+◌, ◌++◌, ◌∷◌, [], List, ℕ, length, ap, ◌∙◌, arith, length-append}
use Rattle.ckpt_types.specs.Sections.{section_of}
use Rattle.snap_copy.specs.Heads.{sections_in}
use Rattle.snap_copy.specs.declared.heads.Head.{Head}
use Rattle.snap_copy.proofs.HeadLemmas.{bytes-behind, sections_in-push}
use Rattle.snap_copy.proofs.heads.add.Goals as goal

pub returns-clause-sections : goal.returns-clause-sections
returns-clause-sections c =
    let bytes : List ℕ = c.args.bytes.now.items in
    let heads : List Head = c.args.heads.now.items in
    let s = c.args.section.now in
    let more : List ℕ = s.bytes.now in
    let h : Head = record { id = s.id.now; start = c.len-start.result; end = c.len.result; expiration = s.expiration; state = s.state; last_update = s.last_update } in
    let begin : c.len-start.result ≡ length bytes = omega (arith, c.len-start.ensures) in
    let end : c.len.result ≡ length bytes + length more = omega (arith, c.len.ensures, ap length c.extend_reserved.ensures.items, length-append bytes more) in
    let copied = bytes-behind bytes more c.len-start.result c.len.result begin end in
    ap (λ xs. sections_in xs c.push_reserved.new.self.items) c.extend_reserved.ensures.items
    ∙ ap (sections_in (bytes ++ more)) (c.push_reserved.ensures.items ∙ ap (λ x. heads ++ x ∷ []) c.head_of.ensures)
    ∙ sections_in-push bytes more heads h (section_of s) c.requires.within (λ i. record { id = s.id.now; bytes = copied i; expiration = s.expiration; state = s.state; last_update = s.last_update })
