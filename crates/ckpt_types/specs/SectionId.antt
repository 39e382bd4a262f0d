-- How an identifier is kept: its bytes at the front of 256, and zeros behind them.
use Rattle.std.specs.Prelude.{◌≡◌, ℕ, ◌-◌, ◌≤◌, ◌++◌, List, length, take, drop, replicate}
use Rattle.std.proofs.Common.{sym, ap, ◌∙◌, arith}
use Rattle.std.proofs.lemmas.List.{length-take-le, take-append-drop}
use Rattle.ckpt_types.specs.Limits.{section_id_max}
use Rattle.ckpt_types.specs.declared.section_id.SectionId.TheInside.{Inside}

-- the bytes of the identifier
abbrev pub used_bytes : Inside → List ℕ
used_bytes id = take id.len id.bytes

-- the identifier ends within the 256 bytes, and only zeros stand behind it
pub record IsPadded (id : Inside) : Type 0 where
  pub whole : length id.bytes ≡ section_id_max
  pub within : id.len ≤ section_id_max
  pub zeros : drop id.len id.bytes ≡ replicate (section_id_max - id.len) 0

-- the identifier of these bytes, as it is kept
abbrev pub padded_bytes : List ℕ → Inside
padded_bytes bytes = record { bytes = bytes ++ replicate (section_id_max - length bytes) 0; len = length bytes }

-- what is kept follows from the bytes of the identifier
pub padded_bytes-used : (id : Inside) → IsPadded id → padded_bytes (used_bytes id) ≡ id
padded_bytes-used id padded =
    let within : id.len ≤ length id.bytes = omega arith in
    let len : length (used_bytes id) ≡ id.len = length-take-le id.len id.bytes within in
    let behind : replicate (section_id_max - length (used_bytes id)) 0 ≡ drop id.len id.bytes = ap (λ n. replicate (section_id_max - n) 0) len ∙ sym padded.zeros in
    let bytes : used_bytes id ++ replicate (section_id_max - length (used_bytes id)) 0 ≡ id.bytes = ap (λ rest. used_bytes id ++ rest) behind ∙ take-append-drop id.len id.bytes in
    λ i. record { bytes = bytes i; len = len i }
