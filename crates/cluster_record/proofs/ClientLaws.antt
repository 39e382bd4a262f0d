-- What is kept of the live clients is told of each, and kept where one comes.
use Rattle.std.proofs.Common.{◌≡◌, ◌≢◌, ℕ, ◌<◌, List, [], ◌∷◌, ◌++◌, All, Some, Bool, true, false, cond, not, ◌==◌, nat_lt, refl, sym, ap, subst, ◌∙◌}
use Rattle.std.specs.Prelude.{is_some, slice_index}
use Rattle.std.proofs.lemmas.Bool.{and_parts, eqb-true, eqb-false, ltb-true}
use Rattle.std.proofs.lemmas.List.Elements.{All-nil, All-cons, All-push}
use Rattle.std.proofs.lemmas.List.Quantifiers.{all_pairs_push}
use Rattle.ckpt_types.specs.declared.identities.ActorName.{ActorName}
use Rattle.ckpt_types.specs.declared.identities.ActorName.TheVariants.{Client, Node}
use Rattle.ckpt_types.specs.Limits.{nodes_max, client_numbers}
use Rattle.cluster_record.specs.declared.clients.LiveClient.{LiveClient}
use Rattle.cluster_record.specs.Calls.{number_of, IsClient}
use Rattle.cluster_record.specs.Kept.{IsKeptClient, AreKeptClients}
use Rattle.cluster_record.specs.Places.{find_key}
use Rattle.cluster_record.specs.RecordState.{RecordState, client_key, is_up}
use Rattle.cluster_record.proofs.KeptLaws.{All-find_key}

module _ {X : Type 0} (key : X → ℕ) (k : ℕ) where
  -- what is found has the key
  found-is : (xs : List X) (x : X) → find_key key k xs ≡ Some x → key x ≡ k
  found-is [] x e = absurd cc
  found-is (y ∷ xs) x e = by (key y == k) refl (found-is xs x) e where
    by : (b : Bool) → (key y == k) ≡ b → (find_key key k xs ≡ Some x → key x ≡ k) → cond b (Some y) (find_key key k xs) ≡ Some x → key x ≡ k
    by true is more e = let same : y ≡ x = cc in ap key (sym same) ∙ eqb-true (key y) k is
    by false is more e = more e

  -- where none is found, none has it
  none-is : (xs : List X) → is_some (find_key key k xs) ≡ false → All (λ x. key x ≢ k) xs
  none-is [] e = All-nil (λ x. key x ≢ k)
  none-is (y ∷ xs) e = by (key y == k) refl (none-is xs) e where
    by : (b : Bool) → (key y == k) ≡ b → (is_some (find_key key k xs) ≡ false → All (λ x. key x ≢ k) xs) → is_some (cond b (Some y) (find_key key k xs)) ≡ false → All (λ x. key x ≢ k) (y ∷ xs)
    by true is more e = absurd cc
    by false is more e = All-cons (λ x. key x ≢ k) y xs (eqb-false (key y) k is) (more e)

-- a client that is live, and its node
pub live_within : (c : ℕ) (clients : List LiveClient) (live : LiveClient) → AreKeptClients clients → find_key client_key c clients ≡ Some live → (c < client_numbers) × (live.node < nodes_max)
live_within c clients live kept found =
    let is = All-find_key IsKeptClient client_key c clients live kept.each found in
    (subst (λ c. c < client_numbers) (found-is client_key c clients live found) is.client, is.node)

-- one comes that was not live
pub clients-entered : (clients : List LiveClient) (live : LiveClient) → AreKeptClients clients → IsKeptClient live → is_some (find_key client_key live.client clients) ≡ false → AreKeptClients (clients ++ live ∷ [])
clients-entered clients live kept is absent = record {
  each = All-push IsKeptClient clients live kept.each is;
  each_once = all_pairs_push (λ a b. a.client ≢ b.client) clients live kept.each_once (none-is client_key live.client clients absent);
}

pub IsClient-number : (a : ActorName) → IsClient a → number_of a < client_numbers
IsClient-number (Client c) is = is
IsClient-number (Node r) is = absurd is

-- a node that is up is one of the nodes
pub up_within : (r : ℕ) (R : RecordState) → is_up r R ≡ true → r < nodes_max
up_within r R up = ltb-true r nodes_max (and_parts (nat_lt r nodes_max) (not (slice_index R.up r == 0)) up).0
