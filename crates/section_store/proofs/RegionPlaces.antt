-- What a region keeps of the string at a place.
use Rattle.std.proofs.Common.{◌≡◌, ℕ, ◌+◌, ◌<◌, ◌≤◌, List, [], length, get_or, sym, ap, ◌∙◌, arith}
use Rattle.std.specs.Prelude.{remove, sum_by}
use Rattle.std.proofs.lemmas.List.{length-map}
use Rattle.std.proofs.lemmas.List.Sums.{sum_by-remove}
use Rattle.ckpt_types.specs.Updates.{written}
use Rattle.section_store.specs.Extents.{no_extent, bytes_at, strings_in, extent_at, end_of}
use Rattle.section_store.specs.Region.{region_state, HasRoom}
use Rattle.section_store.specs.RegionState.{RegionState, string_at, with_string}
use Rattle.section_store.specs.declared.extents.Extent.{Extent}
use Rattle.section_store.specs.declared.region.Region.TheInside.{Inside}
use Rattle.section_store.proofs.ExtentLemmas.{extent_read, extent_at-any}
use Rattle.section_store.proofs.RegionLemmas.{length-string_at, put_at, length-put_at, strings_in-put_at}

-- the string at a place lies where its extent says, and the others have the rest of the bytes
pub record HasPlace (r : Inside) (p : ℕ) (e : Extent) : Type 0 where
  pub there : p < length r.extents.items
  pub shown : p < length (strings_in r.buffer.items r.extents.items)
  pub read : extent_at p r.extents.items ≡ e
  pub within : end_of e ≤ length r.buffer.items
  pub long : length (string_at p (strings_in r.buffer.items r.extents.items)) ≡ e.len
  pub others : sum_by length (remove (strings_in r.buffer.items r.extents.items) p) + e.len ≡ sum_by length (strings_in r.buffer.items r.extents.items)

pub has_place : (r : Inside) (v : RegionState) (p : ℕ) (e : Extent) → region_state r ≡ v → HasRoom r → p < length v.strings → e ≡ get_or r.extents.items p e → HasPlace r p e
has_place r v p e view room place is =
    let b = r.buffer.items in
    let es = r.extents.items in
    let none : Extent = no_extent in
    let shown : p < length (strings_in b es) = omega (arith, ap (λ x. length x.strings) view) in
    let there : p < length es = omega (arith, length-map es (bytes_at b)) in
    let read : extent_at p es ≡ e = extent_read es p e there is in
    let within : end_of (extent_at p es) ≤ length b = room.laid.within p none there in
    let long : length (string_at p (strings_in b es)) ≡ e.len = length-string_at b es p there within ∙ ap (λ x. x.len) read in
    record {
      there = there;
      shown = shown;
      read = read;
      within = omega (arith, ap end_of read);
      long = long;
      others = omega (arith, sum_by-remove (length {A = ℕ}) (strings_in b es) p [] shown, long);
    }

-- the same where no extent was read
pub has_place_of : (r : Inside) (v : RegionState) (p : ℕ) → region_state r ≡ v → HasRoom r → p < length v.strings → HasPlace r p (extent_at p r.extents.items)
has_place_of r v p view room place =
    let there : p < length r.extents.items = omega (arith, ap (λ x. length x.strings) view, length-map r.extents.items (bytes_at r.buffer.items)) in
    has_place r v p (extent_at p r.extents.items) view room place (sym (extent_at-any r.extents.items p (extent_at p r.extents.items) there))

-- bytes are put over those of the string at a place: that string is written, and the buffer is as long as before
pub record HasWritten (r : Inside) (p offset : ℕ) (bytes b' : List ℕ) : Type 0 where
  pub strings : strings_in b' r.extents.items ≡ with_string (λ s. written s offset bytes) p (strings_in r.buffer.items r.extents.items)
  pub size : length b' ≡ length r.buffer.items

pub has_written : (r : Inside) (p offset : ℕ) (e : Extent) (bytes b' : List ℕ) → HasRoom r → HasPlace r p e → offset + length bytes ≤ e.len → b' ≡ put_at (e.start + offset) bytes r.buffer.items → HasWritten r p offset bytes b'
has_written r p offset e bytes b' room place inside put =
    let b = r.buffer.items in
    let es = r.extents.items in
    let put_there : b' ≡ put_at ((extent_at p es).start + offset) bytes b = put ∙ ap (λ x. put_at (x.start + offset) bytes b) (sym place.read) in
    let inside_there : offset + length bytes ≤ (extent_at p es).len = omega (arith, inside, ap (λ x. x.len) place.read) in
    let strings = ap (λ xs. strings_in xs es) put_there ∙ strings_in-put_at b es p offset bytes room.laid place.there inside_there in
    record {
      strings = strings;
      size = ap length put ∙ length-put_at (e.start + offset) bytes b (omega (arith, inside, place.within));
    }
