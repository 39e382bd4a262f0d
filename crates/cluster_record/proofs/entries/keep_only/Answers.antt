use Rattle.std.proofs.Common.{◌≡◌, ◌<◌, ◌≤◌, ℕ, suc, take, drop, length, List, Bool, false, refl, sym, subst, ap, ◌∙◌, arith}
use Rattle.std.specs.Prelude.{All, IfSome, remove}
use Rattle.std.proofs.lemmas.List.Elements.{All-append, All-drop, All-take}
use Rattle.std.proofs.lemmas.Option.{get_or_from_slice_get}
use Rattle.cluster_record.specs.declared.entries.Entry.{Entry}
use Rattle.cluster_record.specs.Kept.{HasTimes}
use Rattle.cluster_record.specs.NamesOf.{stays_by, without_gone, without_name}
use Rattle.cluster_record.proofs.Places.{there_is}
use Rattle.cluster_record.proofs.Walking.{walked, walked-goes, walked-end, names-goes, names-end}
use Rattle.cluster_record.proofs.entries.keep_only.Goals as goal

pub loop-place-preserved : goal.loop-place-preserved
loop-place-preserved c =
    let p : Entry → Bool = stays_by c.args.staying in
    let es : List Entry = c.loop-place.entries.items in
    let i : ℕ = c.loop-place.place in
    let within : i < length es = omega (arith, c.loop-place-test.true, c.len.ensures) in
    let (e, is) = there_is es i within in
    let same : c.index.result.now ≡ e = c.index.ensures ∙ get_or_from_slice_get es i e c.index.result.now is in
    let goes : p e ≡ false = sym (ap p same) ∙ sym c.keeps.ensures ∙ c.if-keeps.false in
    let unnamed : c.take_gone.new.names ≡ without_name e.name c.loop-place.names = subst (λ o. IfSome o (λ (e : Entry). c.take_gone.new.names ≡ without_name e.name c.loop-place.names)) is c.take_gone.ensures.names in
    record {
      items = ap (walked p i) c.take_gone.ensures.items ∙ walked-goes p es i e is goes ∙ c.loop-place.invariant.items;
      names =
          ap (λ (es : List Entry). without_gone p (drop i es) c.take_gone.new.names) c.take_gone.ensures.items
          ∙ ap (without_gone p (drop i (remove es i))) unnamed
          ∙ names-goes p es i e c.loop-place.names is goes
          ∙ c.loop-place.invariant.names;
      capacity = c.take_gone.ensures.capacity ∙ c.loop-place.invariant.capacity;
      times = subst (All HasTimes) (sym c.take_gone.ensures.items) (All-append HasTimes (take i es) (drop (suc i) es) (All-take HasTimes i es c.loop-place.invariant.times) (All-drop HasTimes (suc i) es c.loop-place.invariant.times));
    }

pub loop-place-init : goal.loop-place-init
loop-place-init c = record { items = refl; names = refl; capacity = refl; times = c.requires }

pub keeps-requires : goal.keeps-requires
keeps-requires c =
    let within : c.loop-place.place < length c.loop-place.entries.items = omega (arith, c.loop-place-test.true, c.len.ensures) in
    subst HasTimes (sym c.index.ensures) (c.loop-place.invariant.times c.loop-place.place c.index.result.now within)

pub returns-clause-items : goal.returns-clause-items
returns-clause-items c =
    let over : length c.loop-place.entries.items ≤ c.loop-place.place = omega (arith, c.loop-place-test.false, c.len.ensures) in
    sym (walked-end (stays_by c.args.staying) c.loop-place.entries.items c.loop-place.place over) ∙ c.loop-place.invariant.items

pub returns-clause-capacity : goal.returns-clause-capacity
returns-clause-capacity c = c.loop-place.invariant.capacity

pub returns-clause-names : goal.returns-clause-names
returns-clause-names c =
    let over : length c.loop-place.entries.items ≤ c.loop-place.place = omega (arith, c.loop-place-test.false, c.len.ensures) in
    sym (names-end (stays_by c.args.staying) c.loop-place.entries.items c.loop-place.place c.loop-place.names over) ∙ c.loop-place.invariant.names
