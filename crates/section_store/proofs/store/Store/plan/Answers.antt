use Rattle.std.proofs.Common.{◌≡◌, ◌<◌, length, Some, is_some, true, [], ◌∷◌, ◌++◌, slice_get, ap, ◌∙◌, sym, subst, w64, arith}
use Rattle.std.specs.Prelude.{IsOk}
use Rattle.std.proofs.lemmas.Int.{to_z-of_z}
use Rattle.ckpt_types.specs.Sections.{place_of, present}
use Rattle.ckpt_types.specs.Updates.{outcome, new_id}
use Rattle.ckpt_types.proofs.Presence.{place_of-lt}
use Rattle.section_store.specs.Places.{count_below, place_among_present}
use Rattle.section_store.specs.Planned.{planned, size_found}
use Rattle.section_store.proofs.KeptLemmas.{section_in-slice_get}
use Rattle.section_store.proofs.PlannedUpdates.{overwritten-there, section_deleted-there, expiration_set-there, planned-overwritten, planned-section_created, planned-section_deleted, planned-expiration_set}
use Rattle.section_store.proofs.store.Store.plan.Goals as goal

pub place_of-place-requires : goal.place_of-place-requires
place_of-place-requires c =
    let accepted = subst (λ u. IsOk (outcome c.args.self.now.attributes u c.args.now c.args.self.now.sections)) c.in-Overwrite.is c.requires.accepted in
    subst (λ id. is_some (place_of id c.args.self.now.sections) ≡ true) (sym c.as_slice-in-Overwrite.ensures) (overwritten-there c.args.self.now.attributes c.in-Overwrite.id c.in-Overwrite.bytes c.args.now c.args.self.now.sections c.law.ensures.rises accepted)

pub planned-requires : goal.planned-requires
planned-requires c =
    let there = place_of-lt c.as_slice-in-Overwrite.result.now c.args.self.now.sections c.place_of-place.result c.place_of-place.ensures in
    omega (arith, there)

pub place_of-place-requires-in-Delete : goal.place_of-place-requires-in-Delete
place_of-place-requires-in-Delete c =
    let accepted = subst (λ u. IsOk (outcome c.args.self.now.attributes u c.args.now c.args.self.now.sections)) c.in-Delete.is c.requires.accepted in
    subst (λ id. is_some (place_of id c.args.self.now.sections) ≡ true) (sym c.as_slice-in-Delete.ensures) (section_deleted-there c.args.self.now.attributes c.in-Delete.id c.args.now c.args.self.now.sections c.law.ensures.rises accepted)

pub planned-requires-in-Delete : goal.planned-requires-in-Delete
planned-requires-in-Delete c =
    let there = place_of-lt c.as_slice-in-Delete.result.now c.args.self.now.sections c.place_of-place-in-Delete.result c.place_of-place-in-Delete.ensures in
    omega (arith, there)

pub place_of-place-requires-in-SetExpiration : goal.place_of-place-requires-in-SetExpiration
place_of-place-requires-in-SetExpiration c =
    let accepted = subst (λ u. IsOk (outcome c.args.self.now.attributes u c.args.now c.args.self.now.sections)) c.in-SetExpiration.is c.requires.accepted in
    subst (λ id. is_some (place_of id c.args.self.now.sections) ≡ true) (sym c.as_slice-in-SetExpiration.ensures) (expiration_set-there c.args.self.now.attributes c.in-SetExpiration.id c.in-SetExpiration.field-1 c.args.now c.args.self.now.sections c.law.ensures.rises accepted)

pub size-requires : goal.size-requires
size-requires c = rw (← c.self.view_is) at (place_of-lt c.as_slice-in-SetExpiration.result.now c.args.self.now.sections c.place_of-place-in-SetExpiration.result c.place_of-place-in-SetExpiration.ensures)

pub planned-requires-in-SetExpiration : goal.planned-requires-in-SetExpiration
planned-requires-in-SetExpiration c =
    let there = place_of-lt c.as_slice-in-SetExpiration.result.now c.args.self.now.sections c.place_of-place-in-SetExpiration.result c.place_of-place-in-SetExpiration.ensures in
    omega (arith, there)

pub returns-in-Overwrite : goal.returns-in-Overwrite
returns-in-Overwrite c =
    let accepted = subst (λ u. IsOk (outcome c.args.self.now.attributes u c.args.now c.args.self.now.sections)) c.in-Overwrite.is c.requires.accepted in
    let sections = c.args.self.now.sections in
    let moment = to_z-of_z w64 c.args.now c.ranges.now in
    let place : place_of c.in-Overwrite.id sections ≡ Some c.place_of-place.result = subst (λ id. place_of id sections ≡ Some c.place_of-place.result) c.as_slice-in-Overwrite.ensures c.place_of-place.ensures in
    let entry : c.planned.result ≡ record { place = place_among_present c.args.now c.place_of-place.result sections; size = length c.in-Overwrite.bytes } = c.planned.ensures ∙ (λ i. record { place = place_among_present (moment i) c.place_of-place.result sections; size = length (c.as_slice-in-Overwrite-2.ensures i) }) in
    c.push.ensures ∙ (λ i. c.clear.ensures i ++ entry i ∷ []) ∙ planned-overwritten c.args.self.now.attributes c.in-Overwrite.id c.in-Overwrite.bytes c.args.now sections c.place_of-place.result c.law.ensures.rises c.law.ensures.fits place accepted ∙ ap (λ u. planned c.args.self.now.attributes u c.args.now sections) (sym c.in-Overwrite.is)

pub returns-in-Create : goal.returns-in-Create
returns-in-Create c =
    let accepted = subst (λ u. IsOk (outcome c.args.self.now.attributes u c.args.now c.args.self.now.sections)) c.in-Create.is c.requires.accepted in
    let sections = c.args.self.now.sections in
    let moment = to_z-of_z w64 c.args.now c.ranges.now in
    let place : c.place_made-place.result ≡ count_below (new_id c.in-Create.new (present c.args.now sections)) sections = c.place_made-place.ensures.place ∙ ap (λ m. count_below (new_id c.in-Create.new (present m sections)) sections) moment in
    let entry : c.planned-in-Create.result ≡ record { place = place_among_present c.args.now (count_below (new_id c.in-Create.new (present c.args.now sections)) sections) sections; size = length c.in-Create.bytes } = c.planned-in-Create.ensures ∙ (λ i. record { place = place_among_present (moment i) (place i) sections; size = length (c.as_slice-in-Create.ensures i) }) in
    c.push-in-Create.ensures ∙ (λ i. c.clear.ensures i ++ entry i ∷ []) ∙ planned-section_created c.args.self.now.attributes c.in-Create.new c.in-Create.field-1 c.in-Create.bytes c.args.now sections c.law.ensures.rises c.law.ensures.fits accepted ∙ ap (λ u. planned c.args.self.now.attributes u c.args.now sections) (sym c.in-Create.is)

pub returns-in-Delete : goal.returns-in-Delete
returns-in-Delete c =
    let accepted = subst (λ u. IsOk (outcome c.args.self.now.attributes u c.args.now c.args.self.now.sections)) c.in-Delete.is c.requires.accepted in
    let sections = c.args.self.now.sections in
    let moment = to_z-of_z w64 c.args.now c.ranges.now in
    let place : place_of c.in-Delete.id sections ≡ Some c.place_of-place-in-Delete.result = subst (λ id. place_of id sections ≡ Some c.place_of-place-in-Delete.result) c.as_slice-in-Delete.ensures c.place_of-place-in-Delete.ensures in
    let entry : c.planned-in-Delete.result ≡ record { place = place_among_present c.args.now c.place_of-place-in-Delete.result sections; size = 0 } = c.planned-in-Delete.ensures ∙ (λ i. record { place = place_among_present (moment i) c.place_of-place-in-Delete.result sections; size = 0 }) in
    c.push-in-Delete.ensures ∙ (λ i. c.clear.ensures i ++ entry i ∷ []) ∙ planned-section_deleted c.args.self.now.attributes c.in-Delete.id c.args.now sections c.place_of-place-in-Delete.result c.law.ensures.rises place accepted ∙ ap (λ u. planned c.args.self.now.attributes u c.args.now sections) (sym c.in-Delete.is)

pub returns-in-SetExpiration : goal.returns-in-SetExpiration
returns-in-SetExpiration c =
    let accepted = subst (λ u. IsOk (outcome c.args.self.now.attributes u c.args.now c.args.self.now.sections)) c.in-SetExpiration.is c.requires.accepted in
    let sections = c.args.self.now.sections in
    let moment = to_z-of_z w64 c.args.now c.ranges.now in
    let place : place_of c.in-SetExpiration.id sections ≡ Some c.place_of-place-in-SetExpiration.result = subst (λ id. place_of id sections ≡ Some c.place_of-place-in-SetExpiration.result) c.as_slice-in-SetExpiration.ensures c.place_of-place-in-SetExpiration.ensures in
    let i = c.place_of-place-in-SetExpiration.result in
    let kept = c.self.inside.kept in
    let there : i < length kept.sections = rw (← c.self.view_is) at (place_of-lt c.in-SetExpiration.id sections i place) in
    let size : c.size.result ≡ size_found (slice_get sections i) = c.size.ensures ∙ ap size_found (sym (section_in-slice_get kept i there)) ∙ ap (λ s. size_found (slice_get s.sections i)) c.self.view_is in
    let entry : c.planned-in-SetExpiration.result ≡ record { place = place_among_present c.args.now c.place_of-place-in-SetExpiration.result sections; size = size_found (slice_get sections c.place_of-place-in-SetExpiration.result) } = c.planned-in-SetExpiration.ensures ∙ (λ i. record { place = place_among_present (moment i) c.place_of-place-in-SetExpiration.result sections; size = size i }) in
    c.push-in-SetExpiration.ensures ∙ (λ i. c.clear.ensures i ++ entry i ∷ []) ∙ planned-expiration_set c.args.self.now.attributes c.in-SetExpiration.id c.in-SetExpiration.field-1 c.args.now sections c.place_of-place-in-SetExpiration.result c.law.ensures.rises c.law.ensures.fits place accepted ∙ ap (λ u. planned c.args.self.now.attributes u c.args.now sections) (sym c.in-SetExpiration.is)
