-- Who is up and live behind the failure of a node.
use Rattle.std.proofs.Common.{◌≡◌, ℕ, List, [], ◌∷◌, filter, Option, Some, None, is_some, Bool, true, false, cond, not, ◌&&◌, ◌==◌, refl, sym, ap, ◌∙◌}
use Rattle.std.specs.Prelude.{nat_lt, slice_index}
use Rattle.std.proofs.lemmas.Bool.{eqb-true, and_right}
use Rattle.ckpt_types.specs.declared.identities.ActorName.{ActorName}
use Rattle.ckpt_types.specs.declared.identities.ActorName.TheVariants.{Client, Node}
use Rattle.ckpt_types.specs.declared.identities.CallId.{CallId}
use Rattle.cluster_record.specs.declared.clients.LiveClient.{LiveClient}
use Rattle.cluster_record.specs.Calls.{IsClient, client_of, number_of}
use Rattle.cluster_record.specs.Places.{find_key}
use Rattle.cluster_record.specs.RecordState.{RecordState, client_key, is_up, is_live, is_live_from, is_live_client, home_of, node_of_client, swept}
use Rattle.cluster_record.specs.Failing.{goes_with_node, lives_on, is_of_those, failed}
use Rattle.ckpt_machine.specs.Failing.{is_of_node}
use Rattle.ckpt_machine.proofs.NodeLists.{index-other}
use Rattle.ckpt_types.proofs.Lists.{slice_index-cleared}

-- ---- lists

-- of those that stay by a test of their keys
module _ {X : Type 0} (key : X → ℕ) (p : ℕ → Bool) where
  -- those whose keys fail the test
  abbrev passing : List X → List X
  passing xs = filter (λ x. not (p (key x))) xs

  -- what is found of them was found, unless its key passes
  pub find_key-passing : (c : ℕ) (xs : List X) → find_key key c (passing xs) ≡ cond (p c) None (find_key key c xs)
  find_key-passing c [] = either (p c)
    where
      either : (b : Bool) → find_key key c [] ≡ cond b None (find_key key c [])
      either true = refl
      either false = refl
  find_key-passing c (x ∷ xs) =
      let rest = find_key-passing c xs in
      elim (key x == c) as (λ b. (key x == c) ≡ b → find_key key c (cond (not (p (key x))) (x ∷ passing xs) (passing xs)) ≡ cond (p c) None (cond b (Some x) (find_key key c xs))) [
        | true ↦ λ is. by_goes rest (eqb-true (key x) c is) (ap (λ b. cond b (Some x) (find_key key c (passing xs))) is) (p (key x)) refl
        | false ↦ λ is. elim (p (key x)) as (λ b. find_key key c (cond (not b) (x ∷ passing xs) (passing xs)) ≡ cond (p c) None (find_key key c xs)) [ true ↦ rest | false ↦ ap (λ b. cond b (Some x) (find_key key c (passing xs))) is ∙ rest ]
      ] refl
    where
      by_goes : find_key key c (passing xs) ≡ cond (p c) None (find_key key c xs) → key x ≡ c → find_key key c (x ∷ passing xs) ≡ Some x → (b : Bool) → p (key x) ≡ b → find_key key c (cond (not b) (x ∷ passing xs) (passing xs)) ≡ cond (p c) None (Some x)
      by_goes rest same here true goes = rest ∙ ap (λ b. cond b None (find_key key c xs)) (ap p (sym same) ∙ goes) ∙ sym (ap (λ b. cond b None (Some x)) (ap p (sym same) ∙ goes))
      by_goes rest same here false goes = here ∙ sym (ap (λ b. cond b None (Some x)) (ap p (sym same) ∙ goes))

-- ---- the record

module _ (counts : ℕ → ℕ → ℕ) (r : ℕ) (R : RecordState) where
  -- the record behind the failure
  abbrev then_record : RecordState
  then_record = swept (failed counts r R)

  -- another node is up if it was
  pub up_other : (q : ℕ) → (q == r) ≡ false → is_up q then_record ≡ is_up q R
  up_other q other = ap (λ n. nat_lt q 8 && not (n == 0)) (index-other R.up r q 0 other)

  -- the node itself is not
  pub up_gone : is_up r then_record ≡ false
  up_gone = and_right (nat_lt r 8) _ (ap (λ n. not (n == 0)) (slice_index-cleared R.up r))

  -- a client that is found stays
  pub found_then : (c : ℕ) → find_key client_key c then_record.clients ≡ cond (goes_with_node R r c) None (find_key client_key c R.clients)
  found_then c = find_key-passing client_key (goes_with_node R r) c R.clients

  -- one that stays is as it was
  pub found_staying : (c : ℕ) → goes_with_node R r c ≡ false → find_key client_key c then_record.clients ≡ find_key client_key c R.clients
  found_staying c stays = found_then c ∙ ap (λ b. cond b None (find_key client_key c R.clients)) stays

  -- and one that goes is not found
  pub found_gone : (c : ℕ) → goes_with_node R r c ≡ true → find_key client_key c then_record.clients ≡ None
  found_gone c goes = found_then c ∙ ap (λ b. cond b None (find_key client_key c R.clients)) goes

  -- of an actor that stays all are live that were
  pub live_staying : (call : CallId) → is_of_node R r call.actor ≡ false → is_live then_record call ≡ is_live R call
  live_staying call stays = by_actor call.actor call.number stays
    where
      by_actor : (a : ActorName) (n : ℕ) → is_of_node R r a ≡ false → is_live then_record (record { actor = a; number = n }) ≡ is_live R (record { actor = a; number = n })
      by_actor (Client c) n stays = ap (λ o. is_live_from o n) (found_staying c stays)
      by_actor (Node q) n other = ap (λ b. b && not (nat_lt n (slice_index R.first_calls q))) (up_other q other)

  -- and of one that goes none
  pub live_gone : (call : CallId) → is_of_node R r call.actor ≡ true → is_live then_record call ≡ false
  live_gone call goes = by_actor call.actor call.number goes
    where
      by_actor : (a : ActorName) (n : ℕ) → is_of_node R r a ≡ true → is_live then_record (record { actor = a; number = n }) ≡ false
      by_actor (Client c) n goes = ap (λ o. is_live_from o n) (found_gone c goes)
      by_actor (Node q) n same = ap (λ b. b && not (nat_lt n (slice_index R.first_calls q))) (ap (λ (p : ℕ). is_up p then_record) (eqb-true q r same) ∙ up_gone)

  -- who was not live is not
  pub dead_then : (call : CallId) → is_live R call ≡ false → is_live then_record call ≡ false
  dead_then call dead = by_actor call.actor call.number dead
    where
      by_actor : (a : ActorName) (n : ℕ) → is_live R (record { actor = a; number = n }) ≡ false → is_live then_record (record { actor = a; number = n }) ≡ false
      by_actor (Client c) n dead = elim (goes_with_node R r c) as (λ b. goes_with_node R r c ≡ b → is_live_from (find_key client_key c then_record.clients) n ≡ false) [
        | true ↦ λ goes. ap (λ o. is_live_from o n) (found_gone c goes)
        | false ↦ λ stays. ap (λ o. is_live_from o n) (found_staying c stays) ∙ dead
      ] refl
      by_actor (Node q) n dead = elim (q == r) as (λ b. (q == r) ≡ b → (is_up q then_record && not (nat_lt n (slice_index R.first_calls q))) ≡ false) [
        | true ↦ λ same. ap (λ b. b && not (nat_lt n (slice_index R.first_calls q))) (ap (λ (p : ℕ). is_up p then_record) (eqb-true q r same) ∙ up_gone)
        | false ↦ λ other. ap (λ b. b && not (nat_lt n (slice_index R.first_calls q))) (up_other q other) ∙ dead
      ] refl

-- ---- clients

-- a client's call is of the node by its client
pub of_node_client : (R : RecordState) (r : ℕ) (a : ActorName) → IsClient a → is_of_node R r a ≡ goes_with_node R r (number_of a)
of_node_client R r (Client c) client = refl
of_node_client R r (Node q) client = absurd client

-- a client's call is of those that go where its client is
pub of_those : (goes : ℕ → Bool) (call : CallId) → IsClient call.actor → is_of_those goes (Some call) ≡ goes (client_of call)
of_those goes call client = by_actor call.actor call.number client
  where
    by_actor : (a : ActorName) (n : ℕ) → IsClient a → is_of_those goes (Some (record { actor = a; number = n })) ≡ goes (number_of a)
    by_actor (Client c) n client = refl
    by_actor (Node q) n client = absurd client

-- a client that stays and is live is on another node
pub home_elsewhere : (R : RecordState) (r c : ℕ) → is_live_client c R ≡ true → goes_with_node R r c ≡ false → (home_of c R == r) ≡ false
home_elsewhere R r c live stays = by_found (find_key client_key c R.clients) live stays
  where
    by_found : (o : Option LiveClient) → is_some o ≡ true → lives_on r o ≡ false → (node_of_client o == r) ≡ false
    by_found None live stays = absurd (cc live)
    by_found (Some x) live stays = stays
