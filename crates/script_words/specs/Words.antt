-- The classes of words: how the words of each are spelled, and what they say.
use Rattle.std.specs.Prelude.{ℕ, ◌^◌, ◌-◌, Bool, true, false, not, ◌&&◌, ◌||◌, List, [], ◌∷◌, length, ℤ, pos, neg_ℤ, nat_abs, codes, Option, Some, None, option_map, option_and_then, Result, nat_le, ◌==◌, if◌then◌else◌, bytes_eq}
use Rattle.std.specs.Str.{all_ascii_digits}
use Rattle.std.specs.Str.Parse.{digits_value}
use Rattle.std.specs.List.{list_all, before_first, after_first}
use Rattle.std.specs.Result.{result_ok}
use Rattle.hex.specs.Hex.{decode_of}
use Rattle.ckpt_types.specs.declared.calls.CallbackSet.{CallbackSet}
use Rattle.ckpt_types.specs.declared.calls.Version.{Version}
use Rattle.ckpt_types.specs.declared.identities.ActorName.TheVariants as actor
use Rattle.ckpt_types.specs.declared.identities.CallId.{CallId}
use Rattle.ckpt_types.specs.declared.identities.Who.{Who}
use Rattle.ckpt_types.specs.declared.identities.Who.TheVariants as whose
use Rattle.ckpt_types.specs.declared.update.NewId.{NewId}
use Rattle.ckpt_types.specs.declared.update.NewId.TheVariants as new_ids
use Rattle.ckpt_types.specs.Limits.{client_numbers, ckpt_numbers, end_of_time, nodes_max, places_max, section_id_max}
use Rattle.script_words.specs.declared.reason.Reason.{Reason}
use Rattle.script_words.specs.declared.reason.Reason.TheVariants as reasons
use Rattle.script_words.specs.Reasons.{or_reason}

-- the word has a first byte, which is no zero in front of others
abbrev pub starts_well : List ℕ → Bool
starts_well [] = false
starts_well (d ∷ ds) = not (d == 48) || length ds == 0

-- the number that the word says: one or more decimal digits, with no zero in front of others
unfoldable pub numeral : List ℕ → Option ℕ
numeral w = if starts_well w && all_ascii_digits w then Some (digits_value 10 w) else None

-- the number that the word says, where it is one from low to high
unfoldable pub number_within : ℕ → ℕ → List ℕ → Option ℕ
number_within low high w = option_and_then (λ n. if nat_le low n && nat_le n high then Some n else None) (numeral w)

-- a letter and a number from low on, below an end
unfoldable pub lettered : ℕ → ℕ → ℕ → List ℕ → Option ℕ
lettered letter low end [] = None
lettered letter low end (c ∷ w) = if c == letter then number_within low (end - 1) w else None

-- `end`, which is the end of time; a number from 0 to it; or a minus and a number from 1
unfoldable pub time_of : List ℕ → Option ℤ
time_of [] = None
time_of (c ∷ w) =
    if bytes_eq (c ∷ w) (codes "end") then Some end_of_time
    else if c == 45 then option_map (λ n. neg_ℤ (pos n)) (number_within 1 (2 ^ 63) w)
    else option_map pos (number_within 0 (nat_abs end_of_time) (c ∷ w))

-- a byte from `!` to `~`
abbrev pub is_graphic : ℕ → Bool
is_graphic b = nat_le 33 b && nat_le b 126

-- the bytes that a word says: `x` and an even number of hexadecimal digits in either case, or `'` and one or more bytes from `!` to `~`
unfoldable pub bytes_of : List ℕ → Option (List ℕ)
bytes_of [] = None
bytes_of (c ∷ w) =
    if c == 120 then result_ok (decode_of w)
    else if c == 39 then (if not (length w == 0) && list_all is_graphic w then Some w else None)
    else None

-- the same, where they are no more than an identifier has
unfoldable pub id_of : List ℕ → Option (List ℕ)
id_of w = option_and_then (λ bytes. if nat_le (length bytes) section_id_max then Some bytes else None) (bytes_of w)

-- an identifier; or `gen`, where the service is to make one
unfoldable pub new_id_of : List ℕ → Option NewId
new_id_of w = if bytes_eq w (codes "gen") then Some new_ids.Generated else option_map new_ids.Given (id_of w)

-- the byte `.`, which parts a word into its parts
abbrev pub is_dot : ℕ → Bool
is_dot b = b == 46

-- a capital letter and two numbers up to 255, with dots between
unfoldable pub version_of : List ℕ → Option Version
version_of [] = None
version_of (c ∷ []) = None
version_of (c ∷ d ∷ w) =
    if nat_le 65 c && nat_le c 90 && d == 46
    then option_and_then (λ major. option_map (λ minor. record { release = c; major = major; minor = minor }) (number_within 0 255 (after_first is_dot w))) (number_within 0 255 (before_first is_dot w))
    else None

-- which callbacks are registered
unfoldable pub callbacks_of : List ℕ → Option CallbackSet
callbacks_of w =
    if bytes_eq w (codes "none") then Some (record { opens = false; syncs = false })
    else if bytes_eq w (codes "open") then Some (record { opens = true; syncs = false })
    else if bytes_eq w (codes "sync") then Some (record { opens = false; syncs = true })
    else if bytes_eq w (codes "both") then Some (record { opens = true; syncs = true })
    else None

-- a client, a dot and a number: a call of the client
unfoldable pub named_call : List ℕ → Option CallId
named_call w = option_and_then (λ c. option_map (λ n. record { actor = actor.Client c; number = n }) (number_within 1 (2 ^ 32 - 1) (after_first is_dot w))) (lettered 99 0 client_numbers (before_first is_dot w))

-- the first value, where there is one, else the second
abbrev pub or_else : {A : Type 0} → Option A → Option A → Option A
or_else (Some x) other = Some x
or_else None other = other

-- a client or a node, for its call in hand, or a call
unfoldable pub who_of : List ℕ → Option Who
who_of w =
    or_else (option_map (λ c. whose.Actor (actor.Client c)) (lettered 99 0 client_numbers w))
    (or_else (option_map (λ n. whose.Actor (actor.Node n)) (lettered 110 0 nodes_max w))
    (option_map whose.Call (named_call w)))

-- THE CLASSES
pub data Class : Type 0 where
  -- `c` and a number of a client
  a_client : Class
  -- `n` and a number of a node
  a_node : Class
  -- `h` and the place of a handle
  a_place : Class
  -- `i` and the place of an iteration
  an_iteration : Class
  -- `K` and a number of a checkpoint, from 1 on
  a_ckpt : Class
  -- a number from one to another
  a_number : ℕ → ℕ → Class
  -- a time or `end`
  a_time : Class
  -- a time from 0 on, and before the end
  a_moment : Class
  some_bytes : Class
  -- the bytes of an identifier
  an_id : Class
  -- the same, or `gen`
  a_new_id : Class
  a_version : Class
  the_callbacks : Class
  -- a client, a node or a call
  a_who : Class

-- what the words of a class say
abbrev pub Meaning : Class → Type 0
Meaning a_client = ℕ
Meaning a_node = ℕ
Meaning a_place = ℕ
Meaning an_iteration = ℕ
Meaning a_ckpt = ℕ
Meaning (a_number low high) = ℕ
Meaning a_time = ℤ
Meaning a_moment = ℤ
Meaning some_bytes = List ℕ
Meaning an_id = List ℕ
Meaning a_new_id = NewId
Meaning a_version = Version
Meaning the_callbacks = CallbackSet
Meaning a_who = Who

-- what a word says, or why it is not of the class
unfoldable pub read_word : (c : Class) → List ℕ → Result (Meaning c) Reason
read_word a_client w = or_reason reasons.Word (lettered 99 0 client_numbers w)
read_word a_node w = or_reason reasons.Word (lettered 110 0 nodes_max w)
read_word a_place w = or_reason reasons.Word (lettered 104 0 places_max w)
read_word an_iteration w = or_reason reasons.Word (lettered 105 0 places_max w)
read_word a_ckpt w = or_reason reasons.Word (lettered 75 1 ckpt_numbers w)
read_word (a_number low high) w = or_reason reasons.Number (number_within low high w)
read_word a_time w = or_reason reasons.Number (time_of w)
read_word a_moment w = or_reason reasons.Number (option_map pos (number_within 0 (nat_abs end_of_time - 1) w))
read_word some_bytes w = or_reason reasons.Bytes (bytes_of w)
read_word an_id w = or_reason reasons.Bytes (id_of w)
read_word a_new_id w = or_reason reasons.Bytes (new_id_of w)
read_word a_version w = or_reason reasons.Word (version_of w)
read_word the_callbacks w = or_reason reasons.Word (callbacks_of w)
read_word a_who w = or_reason reasons.Word (who_of w)
