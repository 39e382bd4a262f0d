use Rattle.std.proofs.Common.{◌≡◌, ◌≤◌, List, length, Ok, Some, take, drop, ap, ◌∙◌, sym, subst}
use Rattle.std.specs.Prelude.{IsOk}
use Rattle.std.proofs.lemmas.Option.{none-some, same_Some}
use Rattle.ckpt_types.specs.declared.update.ReadElement.{ReadElement}
use Rattle.ckpt_types.specs.Reads.{piece_read}
use Rattle.ckpt_types.specs.Sections.{Section, place_of, section_at, size_of}
use Rattle.ckpt_types.proofs.Presence.{section_at-no_place}
use Rattle.section_store.specs.KeptState.{section_in}
use Rattle.section_store.proofs.Placed.{Ok_from_IsOk}
use Rattle.section_store.proofs.Reading.{piece_read-Ok, piece_read-Some}
use Rattle.section_store.proofs.KeptLemmas.{section_at-kept}
use Rattle.section_store.proofs.reads.piece.Goals as goal

pub unreachable-requires : goal.unreachable-requires
unreachable-requires c =
    let sections = c.args.kept.now.sections in
    let (piece, is) = Ok_from_IsOk (piece_read 0 c.args.element.now sections) c.requires.readable in
    let reads = piece_read-Ok 0 c.args.element.now sections piece is in
    none-some reads.of (sym (section_at-no_place c.args.element.now.id sections (ap (λ id. place_of id c.args.kept.now.sections) (sym c.as_slice.ensures) ∙ sym c.find.ensures.place ∙ c.in_default.is)) ∙ reads.there)

-- the section that an element reads is long enough
within : (e : ReadElement) (sections : List Section) (s : Section) → IsOk (piece_read 0 e sections) → section_at e.id sections ≡ Some s → e.offset ≤ size_of s
within e sections s readable found =
    let (piece, is) = Ok_from_IsOk (piece_read 0 e sections) readable in
    let reads = piece_read-Ok 0 e sections piece is in
    subst (λ x. e.offset ≤ size_of x) (same_Some reads.of s (sym reads.there ∙ found)) reads.within

pub part-requires : goal.part-requires
part-requires c =
    let kept = c.args.kept.now in
    let found = section_at-kept c.args.element.now.id kept c.in-Some.place (ap (λ id. place_of id kept.sections) (sym c.as_slice.ensures) ∙ sym c.find.ensures.place ∙ c.in-Some.is) c.in-Some.ensures.within in
    subst (λ bytes. c.args.element.now.offset ≤ length bytes) (sym c.bytes.ensures) (within c.args.element.now kept.sections (section_in kept c.in-Some.place) c.requires.readable found)

pub returns : goal.returns
returns c =
    let kept = c.args.kept.now in
    let e = c.args.element.now in
    let s = section_in kept c.in-Some.place in
    let found = section_at-kept e.id kept c.in-Some.place (ap (λ id. place_of id kept.sections) (sym c.as_slice.ensures) ∙ sym c.find.ensures.place ∙ c.in-Some.is) c.in-Some.ensures.within in
    let long : e.offset ≤ size_of s = within e kept.sections s c.requires.readable found in
    piece_read-Some 0 e kept.sections s found long ∙ ap (λ bytes. Ok (take e.len (drop e.offset bytes))) (sym c.bytes.ensures) ∙ ap Ok (sym c.part.ensures)
