-- What is read of a word is what its class can say.
use Rattle.std.proofs.Common.{◌≡◌, refl, ◌∙◌, ap, subst, ℕ, zero, suc, ◌-◌, ◌^◌, ◌<◌, ◌≤◌, Bool, true, false, cond, not, ◌&&◌, ◌==◌, List, [], ◌∷◌, length, ℤ, pos, neg_ℤ, Option, Some, None, option_and_then, option_map, Result, Ok, Err, nat_le, arith, if◌then◌else◌, bytes_eq, codes, ◌⊎◌, inl, inr}
use Rattle.std.specs.Result.{result_ok}
use Rattle.std.specs.List.{list_all, before_first, after_first}
use Rattle.hex.specs.Hex.{decode_of, IsBytes}
use Rattle.hex.specs.declared.error.FromHexError.{FromHexError}
use Rattle.hex.proofs.HexLemmas.{decode_of-ok}
use Rattle.ckpt_types.specs.declared.calls.Version.{Version}
use Rattle.ckpt_types.specs.declared.identities.ActorName.TheVariants as actor
use Rattle.ckpt_types.specs.declared.identities.CallId.{CallId}
use Rattle.ckpt_types.specs.declared.identities.Who.{Who}
use Rattle.ckpt_types.specs.declared.identities.Who.TheVariants as whose
use Rattle.ckpt_types.specs.declared.update.NewId.{NewId}
use Rattle.ckpt_types.specs.declared.update.NewId.TheVariants as new_ids
use Rattle.ckpt_types.specs.Limits.{client_numbers, ckpt_numbers, nodes_max, places_max, section_id_max}
use Rattle.script_words.specs.declared.reason.Reason.{Reason}
use Rattle.script_words.specs.Reasons.{or_reason}
use Rattle.script_words.specs.Words.{Class, a_client, a_node, a_place, an_iteration, a_ckpt, a_number, a_time, a_moment, some_bytes, an_id, a_new_id, a_version, the_callbacks, a_who, Meaning, read_word, numeral, number_within, lettered, time_of, bytes_of, id_of, new_id_of, version_of, named_call, who_of, or_else, is_graphic, is_dot}
use Rattle.script_words.specs.Fitting.{CanSay, IsTime, IsMoment, IsVersion, IsNewId, IsWho}

ok_from : {A : Type 0} (r : Reason) (o : Option A) (x : A) → or_reason r o ≡ Ok x → o ≡ Some x
ok_from r (Some y) x e = let h : y ≡ x = cc in ap (λ z. Some z) h
ok_from r None x e = absurd (cc)

cond_cases : {A : Type 0} (b : Bool) (x y : Option A) (z : A) → cond b x y ≡ Some z → ((b ≡ true) × (x ≡ Some z)) ⊎ ((b ≡ false) × (y ≡ Some z))
cond_cases true x y z e = inl (refl, e)
cond_cases false x y z e = inr (refl, e)

within : (low high : ℕ) (o : Option ℕ) (n : ℕ) → option_and_then (λ n. if nat_le low n && nat_le n high then Some n else None) o ≡ Some n → (low ≤ n) × (n ≤ high)
within low high None n e = absurd (cc)
within low high (Some m) n e = go (cond_cases (nat_le low m && nat_le m high) (Some m) None n e)
  where
    go : (((nat_le low m && nat_le m high) ≡ true) × (Some m ≡ Some n)) ⊎ (((nat_le low m && nat_le m high) ≡ false) × (None ≡ Some n)) → (low ≤ n) × (n ≤ high)
    go (inl (t, h)) = let same : m ≡ n = cc in grind (arith, t, same)
    go (inr (t, h)) = absurd (cc)

pub number_said : (low high : ℕ) (w : List ℕ) (n : ℕ) → number_within low high w ≡ Some n → (low ≤ n) × (n ≤ high)
unfolding number_within
number_said low high w n e = within low high (numeral w) n e

pub lettered_said : (letter low end : ℕ) (w : List ℕ) (n : ℕ) → 0 < end → lettered letter low end w ≡ Some n → (low ≤ n) × (n < end)
unfolding lettered
lettered_said letter low end [] n some e = absurd (cc)
lettered_said letter low end (c ∷ w) n some e =
    elim (cond_cases (c == letter) (number_within low (end - 1) w) None n e) [
      | inl p ↦
          let within = number_said low (end - 1) w n p.1 in
          (within.0, omega (arith, some, within.1))
      | inr p ↦ absurd (cc p.1)
    ]

mapped : {A B : Type 0} (f : A → B) (o : Option A) (y : B) → option_map f o ≡ Some y → (x : A) × (o ≡ Some x) × (f x ≡ y)
mapped f (Some x) y e = (x, refl, cc)
mapped f None y e = absurd (cc)

minus : (n : ℕ) → 1 ≤ n → n ≤ 2 ^ 63 → IsTime (neg_ℤ (pos n))
minus zero some le = absurd (omega (arith, some))
minus (suc n) some le = omega (arith, le)

pub time_said : (w : List ℕ) (t : ℤ) → time_of w ≡ Some t → IsTime t
unfolding time_of
time_said [] t e = absurd (cc)
time_said (c ∷ w) t e =
    elim (cond_cases (bytes_eq (c ∷ w) (codes "end")) (Some (pos (2 ^ 63 - 1))) (if c == 45 then option_map (λ n. neg_ℤ (pos n)) (number_within 1 (2 ^ 63) w) else option_map pos (number_within 0 (2 ^ 63 - 1) (c ∷ w))) t e) [
      | inl p ↦ let same : pos (2 ^ 63 - 1) ≡ t = cc (p.1) in subst IsTime same (omega arith)
      | inr p ↦ elim (cond_cases (c == 45) (option_map (λ n. neg_ℤ (pos n)) (number_within 1 (2 ^ 63) w)) (option_map pos (number_within 0 (2 ^ 63 - 1) (c ∷ w))) t p.1) [
        | inl q ↦
            let m = mapped (λ (n : ℕ). neg_ℤ (pos n)) (number_within 1 (2 ^ 63) w) t q.1 in
            let r = number_said 1 (2 ^ 63) w m.0 m.1 in
            subst IsTime m.2 (minus m.0 r.0 r.1)
        | inr q ↦
            let m = mapped (λ (n : ℕ). pos n) (number_within 0 (2 ^ 63 - 1) (c ∷ w)) t q.1 in
            let r = number_said 0 (2 ^ 63 - 1) (c ∷ w) m.0 m.1 in
            let P : IsTime (pos m.0) = omega (arith, r.1) in
            subst IsTime m.2 P
      ]
    ]

graphic_bytes : (w : List ℕ) → list_all is_graphic w ≡ true → IsBytes w
graphic_bytes [] h i = omega arith
graphic_bytes (b ∷ w) h zero = grind (arith, h)
graphic_bytes (b ∷ w) h (suc i) = let more : list_all is_graphic w ≡ true = grind (arith, h) in graphic_bytes w more i

hex_bytes : (w bytes : List ℕ) (r : Result (List ℕ) FromHexError) → decode_of w ≡ r → result_ok r ≡ Some bytes → IsBytes bytes
hex_bytes w bytes (Ok b) e h = let same : b ≡ bytes = cc in (decode_of-ok w bytes (e ∙ ap (λ z. Ok z) same)).3
hex_bytes w bytes (Err d) e h = absurd (cc)

pub bytes_said : (w bytes : List ℕ) → bytes_of w ≡ Some bytes → IsBytes bytes
unfolding bytes_of
bytes_said [] bytes e = absurd (cc)
bytes_said (c ∷ w) bytes e =
    elim (cond_cases (c == 120) (result_ok (decode_of w)) (if c == 39 then (if not (length w == 0) && list_all is_graphic w then Some w else None) else None) bytes e) [
      | inl p ↦ hex_bytes w bytes (decode_of w) refl p.1
      | inr p ↦ elim (cond_cases (c == 39) (if not (length w == 0) && list_all is_graphic w then Some w else None) None bytes p.1) [
        | inl q ↦ elim (cond_cases (not (length w == 0) && list_all is_graphic w) (Some w) None bytes q.1) [
          | inl r ↦
              let all : list_all is_graphic w ≡ true = grind (arith, r.0) in
              let same : w ≡ bytes = cc (r.1) in
              subst IsBytes same (graphic_bytes w all)
          | inr r ↦ absurd (cc r.1)
        ]
        | inr q ↦ absurd (cc q.1)
      ]
    ]

short_id : (o : Option (List ℕ)) (bytes : List ℕ) → ((b : List ℕ) → o ≡ Some b → IsBytes b) → option_and_then (λ bytes. if nat_le (length bytes) section_id_max then Some bytes else None) o ≡ Some bytes → IsBytes bytes × (length bytes ≤ section_id_max)
short_id None bytes f e = absurd (cc)
short_id (Some b) bytes f e = elim (cond_cases (nat_le (length b) section_id_max) (Some b) None bytes e) [
  | inl p ↦
      let same : b ≡ bytes = cc (p.1) in
      let small : length b ≤ section_id_max = grind (arith, p.0) in
      (subst IsBytes same (f b refl), subst (λ x. length x ≤ section_id_max) same small)
  | inr p ↦ absurd (cc p.1)
]

pub id_said : (w bytes : List ℕ) → id_of w ≡ Some bytes → IsBytes bytes × (length bytes ≤ section_id_max)
unfolding id_of
id_said w bytes e = short_id (bytes_of w) bytes (bytes_said w) e

version_parts : (c : ℕ) (M m : Option ℕ) (v : Version) → (c ≤ 255) → ((n : ℕ) → M ≡ Some n → n ≤ 255) → ((n : ℕ) → m ≡ Some n → n ≤ 255)
    → option_and_then (λ major. option_map (λ minor. record { release = c; major = major; minor = minor }) m) M ≡ Some v → (v.release ≡ c) × (v.major ≤ 255) × (v.minor ≤ 255)
version_parts c None m v lt f g e = absurd (cc)
version_parts c (Some a) None v lt f g e = absurd (cc)
version_parts c (Some a) (Some b) v lt f g e =
    let w : Version = record { release = c; major = a; minor = b } in
    let same : w ≡ v = cc in
    subst (λ (x : Version). (x.release ≡ c) × (x.major ≤ 255) × (x.minor ≤ 255)) same (refl, f a refl, g b refl)

pub version_said : (w : List ℕ) (v : Version) → version_of w ≡ Some v → IsVersion v
unfolding version_of
version_said [] v e = absurd (cc)
version_said (c ∷ []) v e = absurd (cc)
version_said (c ∷ d ∷ w) v e =
    elim (cond_cases (nat_le 65 c && nat_le c 90 && d == 46) (option_and_then (λ major. option_map (λ minor. record { release = c; major = major; minor = minor }) (number_within 0 255 (after_first is_dot w))) (number_within 0 255 (before_first is_dot w))) None v e) [
      | inl p ↦
          let low : 65 ≤ c = grind (arith, p.0) in
          let high : c ≤ 90 = grind (arith, p.0) in
          let q = version_parts c (number_within 0 255 (before_first is_dot w)) (number_within 0 255 (after_first is_dot w)) v (omega (arith, high)) (λ n h. (number_said 0 255 (before_first is_dot w) n h).1) (λ n h. (number_said 0 255 (after_first is_dot w) n h).1) p.1 in
          (omega (arith, q.0, low), omega (arith, q.0, high), q.1, q.2)
      | inr p ↦ absurd (cc p.1)
    ]

moment_said : (w : List ℕ) (t : ℤ) → option_map pos (number_within 0 (2 ^ 63 - 2) w) ≡ Some t → IsMoment t
moment_said w t e =
    let m = mapped (λ (n : ℕ). pos n) (number_within 0 (2 ^ 63 - 2) w) t e in
    let r = number_said 0 (2 ^ 63 - 2) w m.0 m.1 in
    let P : IsMoment (pos m.0) = omega (arith, r.1) in
    subst IsMoment m.2 P

new_id_said : (w : List ℕ) (id : NewId) → new_id_of w ≡ Some id → IsNewId id
unfolding new_id_of
new_id_said w id e = elim (cond_cases (bytes_eq w (codes "gen")) (Some new_ids.Generated) (option_map new_ids.Given (id_of w)) id e) [
  | inl p ↦ let same : new_ids.Generated ≡ id = cc (p.1) in subst IsNewId same tt
  | inr p ↦
      let m = mapped new_ids.Given (id_of w) id p.1 in
      subst IsNewId m.2 (id_said w m.0 m.1)
]

call_fits : (c n : Option ℕ) (call : CallId) → ((k : ℕ) → c ≡ Some k → k < client_numbers) → ((k : ℕ) → n ≡ Some k → (1 ≤ k) × (k < 2 ^ 32))
    → option_and_then (λ c. option_map (λ n. record { actor = actor.Client c; number = n }) n) c ≡ Some call → IsWho (whose.Call call)
call_fits None n call f g e = absurd (cc)
call_fits (Some c) None call f g e = absurd (cc)
call_fits (Some c) (Some n) call f g e =
    let named : CallId = record { actor = actor.Client c; number = n } in
    let same : named ≡ call = cc in
    subst (λ (x : CallId). IsWho (whose.Call x)) same (f c refl, (g n refl).0, (g n refl).1)

call_said : (w : List ℕ) (call : CallId) → named_call w ≡ Some call → IsWho (whose.Call call)
unfolding named_call
call_said w call e =
    call_fits (lettered 99 0 client_numbers (before_first is_dot w)) (number_within 1 (2 ^ 32 - 1) (after_first is_dot w)) call
    (λ k h. (lettered_said 99 0 client_numbers (before_first is_dot w) k (omega arith) h).1)
    (λ k h. let r = number_said 1 (2 ^ 32 - 1) (after_first is_dot w) k h in (r.0, omega (arith, r.1)))
    e

either : {A : Type 0} (a b : Option A) (x : A) → or_else a b ≡ Some x → (a ≡ Some x) ⊎ (b ≡ Some x)
either (Some y) b x e = inl e
either None b x e = inr e

who_said : (w : List ℕ) (who : Who) → who_of w ≡ Some who → IsWho who
unfolding who_of
who_said w who e = elim (either (option_map (λ c. whose.Actor (actor.Client c)) (lettered 99 0 client_numbers w)) _ who e) [
  | inl p ↦
      let m = mapped (λ (c : ℕ). whose.Actor (actor.Client c)) (lettered 99 0 client_numbers w) who p in
      subst IsWho m.2 (lettered_said 99 0 client_numbers w m.0 (omega arith) m.1).1
  | inr p ↦ elim (either (option_map (λ n. whose.Actor (actor.Node n)) (lettered 110 0 nodes_max w)) _ who p) [
    | inl q ↦
        let m = mapped (λ (n : ℕ). whose.Actor (actor.Node n)) (lettered 110 0 nodes_max w) who q in
        subst IsWho m.2 (lettered_said 110 0 nodes_max w m.0 (omega arith) m.1).1
    | inr q ↦
        let m = mapped whose.Call (named_call w) who q in
        subst IsWho m.2 (call_said w m.0 m.1)
  ]
]

-- WHAT IS READ is what the class can say
pub said : (c : Class) (w : List ℕ) (v : Meaning c) → read_word c w ≡ Ok v → CanSay c v
unfolding read_word
said a_client w v e = (lettered_said 99 0 client_numbers w v (omega arith) (ok_from _ (lettered 99 0 client_numbers w) v e)).1
said a_node w v e = (lettered_said 110 0 nodes_max w v (omega arith) (ok_from _ (lettered 110 0 nodes_max w) v e)).1
said a_place w v e = (lettered_said 104 0 places_max w v (omega arith) (ok_from _ (lettered 104 0 places_max w) v e)).1
said an_iteration w v e = (lettered_said 105 0 places_max w v (omega arith) (ok_from _ (lettered 105 0 places_max w) v e)).1
said a_ckpt w v e = lettered_said 75 1 ckpt_numbers w v (omega arith) (ok_from _ (lettered 75 1 ckpt_numbers w) v e)
said (a_number low high) w v e = number_said low high w v (ok_from _ (number_within low high w) v e)
said a_time w v e = time_said w v (ok_from _ (time_of w) v e)
said a_moment w v e = moment_said w v (ok_from _ (option_map pos (number_within 0 (2 ^ 63 - 2) w)) v e)
said some_bytes w v e = bytes_said w v (ok_from _ (bytes_of w) v e)
said an_id w v e = id_said w v (ok_from _ (id_of w) v e)
said a_new_id w v e = new_id_said w v (ok_from _ (new_id_of w) v e)
said a_version w v e = version_said w v (ok_from _ (version_of w) v e)
said the_callbacks w v e = tt
said a_who w v e = who_said w v (ok_from _ (who_of w) v e)
