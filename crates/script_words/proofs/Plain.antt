-- A spelled word is not empty, and has printing bytes alone.
use Rattle.std.proofs.Common.{◌≡◌, refl, ℕ, suc, ◌-◌, ◌^◌, ◌<◌, Bool, true, false, ◌&&◌, ◌==◌, List, [], ◌∷◌, ◌++◌, length, length-append, ℤ, pos, negsuc, arith, if◌then◌else◌, codes, decimal}
use Rattle.std.specs.Str.{all_ascii_digits}
use Rattle.std.specs.List.{list_all}
use Rattle.std.proofs.lemmas.List.Folds.{list_all-append}
use Rattle.std.proofs.lemmas.List.Sums.{list_all-from_AllPass}
use Rattle.std.proofs.lemmas.Fmt.{digits_decimal, decimal_nonempty}
use Rattle.hex.specs.Hex.{encode_lower, is_hex_digit, IsBytes}
use Rattle.hex.proofs.HexLemmas.{decode_of-encode_lower, decode_of-ok}
use Rattle.ckpt_types.specs.declared.calls.CallbackSet.{CallbackSet}
use Rattle.ckpt_types.specs.declared.calls.Version.{Version}
use Rattle.ckpt_types.specs.declared.identities.ActorName.{ActorName}
use Rattle.ckpt_types.specs.declared.identities.ActorName.TheVariants as actor
use Rattle.ckpt_types.specs.declared.identities.Who.{Who}
use Rattle.ckpt_types.specs.declared.identities.Who.TheVariants as whose
use Rattle.ckpt_types.specs.declared.update.NewId.{NewId}
use Rattle.ckpt_types.specs.declared.update.NewId.TheVariants as new_ids
use Rattle.script_words.specs.Words.{Class, a_client, a_node, a_place, an_iteration, a_ckpt, a_number, a_time, a_moment, some_bytes, an_id, a_new_id, a_version, the_callbacks, a_who, Meaning, is_graphic}
use Rattle.ckpt_types.specs.Spelling.{time_text, actor_text, who_text}
use Rattle.script_words.specs.Spelling.{spell, new_id_text, callbacks_text}
use Rattle.script_words.proofs.Numbers.{own}
use Rattle.script_words.proofs.Spelled.{call_spelled, time_spelled, version_spelled}
use Rattle.script_words.specs.Fitting.{CanSay, Good, IsTime, IsMoment, IsVersion, IsNewId, IsActor, IsCaller, IsWho}

pub record Plain (w : List ℕ) : Type 0 where
  pub graphic : list_all is_graphic w ≡ true
  pub some : 0 < length w

digits_graphic : (w : List ℕ) → all_ascii_digits w ≡ true → list_all is_graphic w ≡ true
digits_graphic [] h = refl
digits_graphic (c ∷ w) h =
    let first : is_graphic c ≡ true = grind (arith, h) in
    let more : all_ascii_digits w ≡ true = grind (arith, h) in
    rw (first, digits_graphic w more) refl

one_graphic : (c : ℕ) → is_hex_digit c ≡ true → is_graphic c ≡ true
one_graphic c h = grind (arith, h)

pub both_pass : (a b : Bool) → (a && b) ≡ true → (a ≡ true) × (b ≡ true)
both_pass true b h = (refl, h)
both_pass false b h = absurd (cc)

hex_graphic : (w : List ℕ) → list_all is_hex_digit w ≡ true → list_all is_graphic w ≡ true
hex_graphic [] h = refl
hex_graphic (c ∷ w) h =
    let both = both_pass (is_hex_digit c) (list_all is_hex_digit w) h in
    rw (one_graphic c both.0, hex_graphic w both.1) refl

pub decimal_plain : (n : ℕ) → n < 2 ^ 64 → Plain (decimal n)
decimal_plain n small = record { graphic = digits_graphic (decimal n) (digits_decimal own n small); some = decimal_nonempty n small }

after_letter : (c : ℕ) (w : List ℕ) → is_graphic c ≡ true → list_all is_graphic w ≡ true → Plain (c ∷ w)
after_letter c w h k = record { graphic = rw (h, k) refl; some = omega arith }

hex_plain : (b : List ℕ) → IsBytes b → list_all is_graphic (encode_lower b) ≡ true
hex_plain b h = hex_graphic (encode_lower b) (list_all-from_AllPass is_hex_digit (encode_lower b) (decode_of-ok (encode_lower b) b (decode_of-encode_lower b h)).1)

time_plain : (t : ℤ) → IsTime t → Plain (time_text t)
time_plain (pos n) fits = rw (time_spelled n) (go (n == 2 ^ 63 - 1))
  where
    go : (b : Bool) → Plain (if b then codes "end" else decimal n)
    go true = record { graphic = refl; some = omega arith }
    go false = decimal_plain n (omega (arith, fits))
time_plain (negsuc n) fits = after_letter 45 (decimal (suc n)) refl (decimal_plain (suc n) (omega (arith, fits))).graphic

version_plain : (v : Version) → IsVersion v → Plain (spell a_version v)
version_plain v f =
    let first : is_graphic v.release ≡ true = grind (arith, f.0, f.1) in
    let major = (decimal_plain v.major (omega (arith, f.2))).graphic in
    let minor = (decimal_plain v.minor (omega (arith, f.3))).graphic in
    rw (version_spelled v) (after_letter v.release (46 ∷ (decimal v.major ++ 46 ∷ decimal v.minor)) first (rw (list_all-append is_graphic (decimal v.major) (46 ∷ decimal v.minor), major, minor) refl))

moment_time : (t : ℤ) → IsMoment t → IsTime t
moment_time (pos n) fits = omega (arith, fits)
moment_time (negsuc n) fits = absurd fits

new_id_plain : (id : NewId) → IsNewId id → Plain (new_id_text id)
new_id_plain (new_ids.Given id) f = after_letter 120 (encode_lower id) refl (hex_plain id f.0)
new_id_plain new_ids.Generated f = record { graphic = refl; some = omega arith }

callbacks_plain : (set : CallbackSet) → Plain (callbacks_text set)
callbacks_plain set = go set.opens set.syncs
  where
    go : (opens syncs : Bool) → Plain (callbacks_text (record { opens = opens; syncs = syncs }))
    go true true = record { graphic = refl; some = omega arith }
    go true false = record { graphic = refl; some = omega arith }
    go false true = record { graphic = refl; some = omega arith }
    go false false = record { graphic = refl; some = omega arith }

actor_plain : (name : ActorName) → IsActor name → Plain (actor_text name)
actor_plain (actor.Client c) f = after_letter 99 (decimal c) refl (decimal_plain c (omega (arith, f))).graphic
actor_plain (actor.Node n) f = after_letter 110 (decimal n) refl (decimal_plain n (omega (arith, f))).graphic

IsCaller-IsActor : (name : ActorName) → IsCaller name → IsActor name
IsCaller-IsActor (actor.Client c) f = f
IsCaller-IsActor (actor.Node n) f = absurd f

who_plain : (who : Who) → IsWho who → Plain (who_text who)
who_plain (whose.Actor name) f = actor_plain name f
who_plain (whose.Call call) f =
    let front = actor_plain call.actor (IsCaller-IsActor call.actor f.0) in
    let back = (decimal_plain call.number (omega (arith, f.2))).graphic in
    rw (call_spelled call) (record {
      graphic = rw (list_all-append is_graphic (actor_text call.actor) (46 ∷ decimal call.number), front.graphic, back) refl;
      some = rw (length-append (actor_text call.actor) (46 ∷ decimal call.number)) (omega arith);
    })

pub spell_plain : (c : Class) → Good c → (v : Meaning c) → CanSay c v → Plain (spell c v)
spell_plain a_client g v f = after_letter 99 (decimal v) refl (decimal_plain v (omega (arith, f))).graphic
spell_plain a_node g v f = after_letter 110 (decimal v) refl (decimal_plain v (omega (arith, f))).graphic
spell_plain a_place g v f = after_letter 104 (decimal v) refl (decimal_plain v (omega (arith, f))).graphic
spell_plain an_iteration g v f = after_letter 105 (decimal v) refl (decimal_plain v (omega (arith, f))).graphic
spell_plain a_ckpt g v f = after_letter 75 (decimal v) refl (decimal_plain v (omega (arith, f.1))).graphic
spell_plain (a_number low high) g v f = decimal_plain v (omega (arith, f.1, g))
spell_plain a_time g v f = time_plain v f
spell_plain a_moment g v f = time_plain v (moment_time v f)
spell_plain some_bytes g v f = after_letter 120 (encode_lower v) refl (hex_plain v f)
spell_plain an_id g v f = after_letter 120 (encode_lower v) refl (hex_plain v f.0)
spell_plain a_new_id g v f = new_id_plain v f
spell_plain a_version g v f = version_plain v f
spell_plain the_callbacks g v f = callbacks_plain v
spell_plain a_who g v f = who_plain v f
