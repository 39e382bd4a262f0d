use Rattle.std.proofs.Common.{◌≡◌, ℕ, ◌-◌, ◌^◌, ◌<◌, drop, get_or}
use Rattle.section_store.specs.Keys.{key_from, key_of}
use Rattle.section_store.proofs.keyed.key_of.Given as goal

abbrev pub invariant-loop-place : goal.invariant-loop-place
invariant-loop-place l = record {
  going : key_from l.key (8 - l.place) (drop l.place l.bytes) ≡ key_of l.bytes;
  small : l.key < 256 ^ l.place;
  bytes : (i : ℕ) → i < l.place → get_or l.bytes i 0 < 256;
}
