-- A line that is read at once.
use Rattle.std.proofs.Common.{◌≡◌, refl, sym, ◌∙◌, ap, ℕ, ◌+◌, ◌-◌, ◌^◌, ◌≤◌, Bool, true, false, not, ◌&&◌, ◌==◌, if◌then◌else◌, List, [], ◌∷◌, ◌++◌, length, take, drop, Option, Some, None, option_and_then, Ok, IfSome, arith, nat_le, codes, bytes_eq, nat_lt, sum_by}
use Rattle.std.specs.Char.{is_ascii_digit}
use Rattle.std.specs.Str.{all_ascii_digits}
use Rattle.std.specs.Str.Parse.{digits_value}
use Rattle.std.specs.List.{list_any, list_all}
use denote.Ref.{Bor}
use Rattle.script_words.specs.declared.reason.Reason.TheVariants as reasons
use Rattle.script_words.specs.Reasons.{or_reason}
use Rattle.script_words.specs.Words.{read_word, a_client, a_place, an_id, some_bytes, number_within, numeral, lettered, is_graphic, bytes_of, id_of, starts_well}
use Rattle.script_words.proofs.Numbers.{digit_alone}
use Rattle.ckpt_types.specs.declared.identities.ActorName.{ActorName}
use Rattle.ckpt_types.specs.declared.operation.Op.TheVariants as ops
use Rattle.ckpt_types.specs.declared.update.Update.TheVariants as updates
use Rattle.ckpt_types.specs.declared.words.FirstWord.{FirstWord}
use Rattle.ckpt_types.specs.declared.words.FirstWord.TheVariants as words
use Rattle.ckpt_types.specs.declared.words.OpWord.TheVariants as calls
use Rattle.ckpt_types.specs.FirstWord.{begin_text}
use Rattle.script_lines.specs.declared.lines.Line.{Line}
use Rattle.script_lines.specs.declared.lines.Line.TheVariants as lines
use Rattle.script_lang.specs.declared.quick.Front.{Front}
use Rattle.script_lang.specs.declared.quick.Quick.{Quick}
use Rattle.script_lang.specs.declared.quick.Quick.TheVariants as quicks
use Rattle.script_lines.specs.Table.{any_number, said_by, groups, first_word_of, word_of_first, is_later, may_begin, only_begun, is_empty, line_said}
use Rattle.ckpt_types.specs.declared.update.ReadElement.{ReadElement}
use Rattle.ckpt_types.specs.declared.update.Update.{Update}
use Rattle.ckpt_types.specs.Limits.{script_reads_max}
use Rattle.script_lang.specs.Grammar.{is_space, words_of, fault_after, order_fault, limit_fault, marks_after}
use Rattle.script_lang.specs.Plain.{SaysFirst, SaysFront, SaysBehind, SaysLine, OnlyAsks}
use Rattle.script_lines.proofs.Groups.{rest_from}

digit_no_space : (d : ℕ) → is_ascii_digit d ≡ true → is_space d ≡ false
digit_no_space d h = grind (arith, h)

small_digit : (d top : ℕ) → 9 ≤ top → is_ascii_digit d ≡ true → number_within 0 top (d ∷ []) ≡ Some (d - 48)
small_digit d top le h =
    let alone = digit_alone 0 top d h in
    let most : d ≤ 57 = grind (arith, h) in
    let within : (nat_le 0 (d - 48) && nat_le (d - 48) top) ≡ true = grind (arith, le, most) in
    alone ∙ rw within refl

-- a letter, a digit and a space in front
short_words : (l d : ℕ) (rest : List ℕ) → is_space l ≡ false → is_ascii_digit d ≡ true → words_of (l ∷ d ∷ 32 ∷ rest) ≡ (l ∷ d ∷ []) ∷ words_of rest
short_words l d rest letter digit = rw (letter, digit_no_space d digit) refl

-- the same of a text that is cut behind them
short_cut : (l d : ℕ) (text rest : List ℕ) → is_space l ≡ false → is_ascii_digit d ≡ true → text ≡ l ∷ d ∷ 32 ∷ drop 3 text → rest ≡ take (length text - 3) (drop 3 text)
    → words_of text ≡ (l ∷ d ∷ []) ∷ words_of rest
short_cut l d text rest letter digit is cut =
    ap (λ w. words_of w) is ∙ short_words l d (drop 3 text) letter digit ∙ ap (λ w. (l ∷ d ∷ []) ∷ words_of w) (sym (cut ∙ rest_from text 3))

-- what a function tells of a digit and what lies behind it
abbrev pub DigitFront : ℕ → List ℕ → Option (ℕ × Bor (List ℕ)) → Type 0
DigitFront d rest found = IfSome found (λ p. (is_ascii_digit d ≡ true) × (p.0 ≡ d - 48) × (p.1.now ≡ rest))

pub client_said : (text : List ℕ) (d : ℕ) (found : Option (ℕ × Bor (List ℕ))) → text ≡ 99 ∷ d ∷ 32 ∷ drop 3 text → DigitFront d (take (length text - 3) (drop 3 text)) found → IfSome found (λ p. SaysFirst a_client text p.0 p.1.now)
unfolding read_word lettered
client_said text d None is h = tt
client_said text d (Some p) is h = record { word = 99 ∷ d ∷ []; words = short_cut 99 d text p.1.now refl h.0 is h.2; says = ap (λ n. or_reason reasons.Word n) (small_digit d 99 (omega arith) h.0 ∙ ap (λ n. Some n) (sym h.1)) }

pub place_is : (text : List ℕ) (d : ℕ) (found : Option (ℕ × Bor (List ℕ))) → text ≡ 104 ∷ d ∷ 32 ∷ drop 3 text → DigitFront d (take (length text - 3) (drop 3 text)) found → IfSome found (λ p. SaysFirst a_place text p.0 p.1.now)
unfolding read_word lettered
place_is text d None is h = tt
place_is text d (Some p) is h = record { word = 104 ∷ d ∷ []; words = short_cut 104 d text p.1.now refl h.0 is h.2; says = ap (λ n. or_reason reasons.Word n) (small_digit d 99 (omega arith) h.0 ∙ ap (λ n. Some n) (sym h.1)) }

-- LINES OF SUCH WORDS

-- no word of these classes is empty
some_letter : (b : ℕ) (bs : List ℕ) → is_empty (b ∷ bs) ≡ false
some_letter b bs = grind arith

client_not_empty : (w : List ℕ) (n : ℕ) → read_word a_client w ≡ Ok n → is_empty w ≡ false
unfolding read_word lettered
client_not_empty [] n h = absurd (cc)
client_not_empty (b ∷ bs) n h = some_letter b bs

place_not_empty : (w : List ℕ) (n : ℕ) → read_word a_place w ≡ Ok n → is_empty w ≡ false
unfolding read_word lettered
place_not_empty [] n h = absurd (cc)
place_not_empty (b ∷ bs) n h = some_letter b bs

number_not_empty : (w : List ℕ) (n : ℕ) → read_word any_number w ≡ Ok n → is_empty w ≡ false
unfolding read_word number_within numeral
number_not_empty [] n h = absurd (cc)
number_not_empty (b ∷ bs) n h = some_letter b bs

no_id : (w : List ℕ) (id : List ℕ) → read_word an_id w ≡ Ok id → is_empty w ≡ false
unfolding read_word id_of bytes_of
no_id [] id h = absurd (cc)
no_id (b ∷ bs) id h = some_letter b bs

no_bytes : (w : List ℕ) (bytes : List ℕ) → read_word some_bytes w ≡ Ok bytes → is_empty w ≡ false
unfolding read_word bytes_of
no_bytes [] bytes h = absurd (cc)
no_bytes (b ∷ bs) bytes h = some_letter b bs

-- where all bytes pass a test that no space passes, they are one word
one_word : (p : ℕ → Bool) → ((b : ℕ) → p b ≡ true → is_space b ≡ false) → (w : List ℕ) → list_all p w ≡ true → words_of w ≡ w ∷ []
one_word p apart [] all = refl
one_word p apart (b ∷ bs) all =
    let both : (p b ≡ true) × (list_all p bs ≡ true) = grind (arith, all) in
    rw (apart b both.0, one_word p apart bs both.1) refl

graphic_no_space : (b : ℕ) → is_graphic b ≡ true → is_space b ≡ false
graphic_no_space b h = grind (arith, h)

digits_no_space : (w : List ℕ) → all_ascii_digits w ≡ true → words_of w ≡ w ∷ []
digits_no_space [] all = refl
digits_no_space (b ∷ bs) all =
    let both : (is_ascii_digit b ≡ true) × (all_ascii_digits bs ≡ true) = grind (arith, all) in
    rw (digit_no_space b both.0, digits_no_space bs both.1) refl

quoted : (w : List ℕ) (bytes : List ℕ) → read_word some_bytes (39 ∷ w) ≡ Ok bytes → list_all is_graphic w ≡ true
unfolding read_word bytes_of
quoted w bytes h = go (list_all is_graphic w) (not (length w == 0)) h
  where
    go : (all some : Bool) → or_reason reasons.Bytes (if some && all then Some w else None) ≡ Ok bytes → all ≡ true
    go true some e = refl
    go false true e = absurd (cc)
    go false false e = absurd (cc)

-- what stands behind a quote to the end is one word
quoted_alone : (w : List ℕ) (bytes : List ℕ) → read_word some_bytes (39 ∷ w) ≡ Ok bytes → words_of (39 ∷ w) ≡ (39 ∷ w) ∷ []
quoted_alone w bytes h = rw (one_word is_graphic graphic_no_space w (quoted w bytes h)) refl

pub quoted_word : (text w : List ℕ) (bytes : List ℕ) → text ≡ 39 ∷ w → read_word some_bytes (39 ∷ w) ≡ Ok bytes → (read_word some_bytes text ≡ Ok bytes) × (words_of text ≡ text ∷ [])
quoted_word text w bytes is h = rw is (h, quoted_alone w bytes h)

-- a number to the end is one word
pub number_alone : (w : List ℕ) (n : ℕ) → read_word any_number w ≡ Ok n → words_of w ≡ w ∷ []
unfolding read_word number_within numeral
number_alone w n h = digits_no_space w (go (all_ascii_digits w) (starts_well w) h)
  where
    go : (all well : Bool) → or_reason reasons.Number (option_and_then (λ k. if nat_le 0 k && nat_le k (2 ^ 64 - 1) then Some k else None) (if well && all then Some (digits_value 10 w) else None)) ≡ Ok n → all ≡ true
    go true well e = refl
    go false true e = absurd (cc)
    go false false e = absurd (cc)

write_said : (wc wp wi wo wb : List ℕ) (c p o : ℕ) (i b : List ℕ) → read_word a_client wc ≡ Ok c → read_word a_place wp ≡ Ok p → read_word an_id wi ≡ Ok i → read_word any_number wo ≡ Ok o → read_word some_bytes wb ≡ Ok b
    → said_by (words.Op calls.Write) (wc ∷ wp ∷ wi ∷ wo ∷ wb ∷ []) ≡ Ok (lines.Call c (ops.Write p (updates.Write (record { id = i; offset = o; bytes = b } ∷ []))))
unfolding said_by groups
write_said wc wp wi wo wb c p o i b client place id offset bytes = rw (client, place, id, offset, bytes) refl

read_said : (wc wp wi wo wl : List ℕ) (c p o l : ℕ) (i : List ℕ) → read_word a_client wc ≡ Ok c → read_word a_place wp ≡ Ok p → read_word an_id wi ≡ Ok i → read_word any_number wo ≡ Ok o → read_word any_number wl ≡ Ok l
    → said_by (words.Op calls.Read) (wc ∷ wp ∷ wi ∷ wo ∷ wl ∷ []) ≡ Ok (lines.Call c (ops.Read p (record { id = i; offset = o; len = l } ∷ [])))
unfolding said_by groups
read_said wc wp wi wo wl c p o l i client place id offset len = rw (client, place, id, offset, len) refl

-- the words of a front, and the last
front_words : (text : List ℕ) (front : Front) (says : SaysFront text front) → words_of front.last.now ≡ front.last.now ∷ []
    → words_of text ≡ says.client.word ∷ says.place.word ∷ front.id.now ∷ says.offset.word ∷ front.last.now ∷ []
front_words text front says last = rw (says.client.words, says.place.words, says.id, says.offset.words, last) refl

-- none of them is empty
words_not_empty : (text : List ℕ) (front : Front) (id : List ℕ) (says : SaysFront text front) → read_word an_id front.id.now ≡ Ok id → is_empty front.last.now ≡ false → words_of front.last.now ≡ front.last.now ∷ []
    → list_any is_empty (words_of text) ≡ false
words_not_empty text front id says named some last =
    let client = client_not_empty says.client.word front.client says.client.says in
    let place = place_not_empty says.place.word front.place says.place.says in
    let named = no_id front.id.now id named in
    let offset = number_not_empty says.offset.word front.offset says.offset.says in
    rw (front_words text front says last, client, place, named, offset, some) refl

pub write_behind : (text : List ℕ) (front : Front) (id bytes : List ℕ) → SaysFront text front → read_word an_id front.id.now ≡ Ok id → read_word some_bytes front.last.now ≡ Ok bytes → words_of front.last.now ≡ front.last.now ∷ []
    → (list_any is_empty (words_of text) ≡ false) × (said_by (words.Op calls.Write) (words_of text) ≡ Ok (lines.Call front.client (ops.Write front.place (updates.Write (record { id = id; offset = front.offset; bytes = bytes } ∷ [])))))
write_behind text front id bytes says named told last = (
  words_not_empty text front id says named (no_bytes front.last.now bytes told) last,
  rw (front_words text front says last) (write_said says.client.word says.place.word front.id.now says.offset.word front.last.now front.client front.place front.offset id bytes says.client.says says.place.says named says.offset.says told),
)

pub read_behind : (text : List ℕ) (front : Front) (id : List ℕ) (len : ℕ) → SaysFront text front → read_word an_id front.id.now ≡ Ok id → read_word any_number front.last.now ≡ Ok len
    → (list_any is_empty (words_of text) ≡ false) × (said_by (words.Op calls.Read) (words_of text) ≡ Ok (lines.Call front.client (ops.Read front.place (record { id = id; offset = front.offset; len = len } ∷ []))))
read_behind text front id len says named told =
    let last = number_alone front.last.now len told in (
      words_not_empty text front id says named (number_not_empty front.last.now len told) last,
      rw (front_words text front says last) (read_said says.client.word says.place.word front.id.now says.offset.word front.last.now front.client front.place front.offset len id says.client.says says.place.says named says.offset.says told),
    )

-- a line of a first word, where it is built and no word is empty
pub line_behind : (k : FirstWord) (first : List ℕ) (ws : List (List ℕ)) (x : Line) → bytes_eq first (begin_text) ≡ false → first_word_of first ≡ Some k → is_later k ≡ false → is_empty first ≡ false
    → list_any is_empty ws ≡ false → said_by k ws ≡ Ok x → line_said (first ∷ ws) ≡ Ok x
unfolding line_said
line_behind k first ws x other named built some none said = rw (other, named, built, some, none, said) refl

-- the same behind `begin`
pub line_begun : (k : FirstWord) (first : List ℕ) (ws : List (List ℕ)) (x : Line) → first_word_of first ≡ Some k → is_later k ≡ false → may_begin k ≡ true → is_empty first ≡ false
    → list_any is_empty ws ≡ false → said_by k ws ≡ Ok x → line_said (begin_text ∷ first ∷ ws) ≡ Ok (only_begun x)
unfolding line_said
line_begun k first ws x named built may some none said = rw (named, built, may, some, none, said) refl

pub begins_write : (text rest : List ℕ) (quick : Quick) → text ≡ codes "write" ++ 32 ∷ rest → SaysBehind (words.Op calls.Write) rest quick → SaysLine text quick
unfolding first_word_of word_of_first
begins_write text rest (quicks.Write c p u) is h = (rw is (line_behind (words.Op calls.Write) (codes "write") (words_of rest) _ refl refl refl refl h.0.0 h.0.1, line_begun (words.Op calls.Write) (codes "write") (words_of rest) _ refl refl refl refl h.0.0 h.0.1), tt)
begins_write text rest (quicks.Read c p e asked) is h = (rw is (line_behind (words.Op calls.Write) (codes "write") (words_of rest) _ refl refl refl refl h.0.0 h.0.1, line_begun (words.Op calls.Write) (codes "write") (words_of rest) _ refl refl refl refl h.0.0 h.0.1), h.1)
begins_write text rest quicks.Other is h = (tt, tt)

pub begins_read : (text rest : List ℕ) (quick : Quick) → text ≡ codes "read" ++ 32 ∷ rest → SaysBehind (words.Op calls.Read) rest quick → SaysLine text quick
unfolding first_word_of word_of_first
begins_read text rest (quicks.Write c p u) is h = (rw is (line_behind (words.Op calls.Read) (codes "read") (words_of rest) _ refl refl refl refl h.0.0 h.0.1, line_begun (words.Op calls.Read) (codes "read") (words_of rest) _ refl refl refl refl h.0.0 h.0.1), tt)
begins_read text rest (quicks.Read c p e asked) is h = (rw is (line_behind (words.Op calls.Read) (codes "read") (words_of rest) _ refl refl refl refl h.0.0 h.0.1, line_begun (words.Op calls.Read) (codes "read") (words_of rest) _ refl refl refl refl h.0.0 h.0.1), h.1)
begins_read text rest quicks.Other is h = (tt, tt)

-- THE MARKS BEHIND SUCH LINES

no_more : (asked room : ℕ) → asked ≤ room → nat_lt room asked ≡ false
no_more asked room le = grind (arith, le)

pub write_asks : (c p : ℕ) (u : Update) → OnlyAsks (lines.Call c (ops.Write p u)) 0
unfolding fault_after order_fault limit_fault marks_after
write_asks c p u m some none le =
    let room : nat_lt script_reads_max (m.asked + 0) ≡ false = no_more (m.asked + 0) script_reads_max le in
    let same : m.asked + 0 ≡ m.asked = omega arith in
    let front : 0 + m.asked ≡ m.asked = omega arith in
    (rw (some, none, room) refl, rw (some, none, same, front) refl)

pub begun_write_asks : (a : ActorName) (p : ℕ) (u : Update) → OnlyAsks (lines.Begin a (ops.Write p u)) 0
unfolding fault_after order_fault limit_fault marks_after
begun_write_asks a p u m some none le =
    let room : nat_lt script_reads_max (m.asked + 0) ≡ false = no_more (m.asked + 0) script_reads_max le in
    let same : m.asked + 0 ≡ m.asked = omega arith in
    let front : 0 + m.asked ≡ m.asked = omega arith in
    (rw (some, none, room) refl, rw (some, none, same, front) refl)

pub read_asks : (c p asked : ℕ) (es : List ReadElement) → sum_by (λ e. e.len) es ≡ asked → OnlyAsks (lines.Call c (ops.Read p es)) asked
unfolding fault_after order_fault limit_fault marks_after
read_asks c p asked es is m some none le =
    let room : nat_lt script_reads_max (m.asked + asked) ≡ false = no_more (m.asked + asked) script_reads_max le in
    let same : asked + m.asked ≡ m.asked + asked = omega arith in
    (rw (is, some, none, room) refl, rw (is, some, none, same) refl)

pub begun_read_asks : (a : ActorName) (p asked : ℕ) (es : List ReadElement) → sum_by (λ e. e.len) es ≡ asked → OnlyAsks (lines.Begin a (ops.Read p es)) asked
unfolding fault_after order_fault limit_fault marks_after
begun_read_asks a p asked es is m some none le =
    let room : nat_lt script_reads_max (m.asked + asked) ≡ false = no_more (m.asked + asked) script_reads_max le in
    let same : asked + m.asked ≡ m.asked + asked = omega arith in
    (rw (is, some, none, room) refl, rw (is, some, none, same) refl)
