-- The calls in hand, by name, behind each change of them.
use Rattle.std.proofs.Common.{◌≡◌, ◌≢◌, ℕ, zero, suc, Bool, true, false, List, [], ◌∷◌, ◌++◌, refl, sym, ap, ◌∙◌, cond}
use Rattle.std.specs.Prelude.{Option, Some, None, Result, Ok, Err, OnErr, not, filter, ◌&&◌, ◌==◌, slice_get, slice_set}
use Rattle.ckpt_types.specs.declared.identities.ActorName.{ActorName}
use Rattle.ckpt_types.specs.declared.identities.ActorName.TheVariants.{Client, Node}
use Rattle.ckpt_types.specs.declared.identities.CallId.{CallId}
use Rattle.ckpt_types.specs.declared.identities.Who.{Who}
use Rattle.ckpt_types.specs.declared.identities.Who.TheVariants.{Actor, Call}
use Rattle.run_labels.specs.declared.labels.Label.{Label}
use Rattle.cluster_record.specs.Calls.{same_actor, same_call}
use Rattle.cluster_record.specs.Places.{list_or, or_none}
use Rattle.cluster_record.specs.RecordState.{RecordState}
use Rattle.replica.specs.Replicas.{Replica}
use Rattle.cluster_record.proofs.Places.{get_set, tests_agree, tests_differ, there_is}
use Rattle.call_dispatch.specs.PendingCalls.{PendingCalls, find_async, no_pending}
use Rattle.ckpt_machine.specs.After.{goes_with, is_over}
use Rattle.ckpt_machine.specs.Whose.{is_of, put_who, same_who}
use Rattle.ckpt_machine.proofs.Actors.{same_actor-true, same_call-false, same_call-refl, same_call-true}
use Rattle.client_calls.specs.declared.in_hand.InHand.{InHand}
use Rattle.client_calls.specs.AlonePlaces.{changed_alone, found_alone, has_call, has_other, without_met}
use Rattle.world_core.specs.declared.snapshots.Background.{Background}
use Rattle.world_core.specs.declared.world.World.{World}
use Rattle.world_core.specs.Alone.{calls_gone, syncs_gone}
use Rattle.world_core.specs.HandsState.{HandsState, HasAlone, alone_in, alone_with, hand_at, set_at, with_alone, with_alone_in, without_call, without_those}
use Rattle.world_core.specs.TablesState.{pending_by}
use Rattle.ckpt_machine.proofs.NodeLists.{list_again}
use Rattle.ckpt_machine.proofs.AsyncNames.{goes_with-actor}

-- ---- two calls

-- calls that are told apart are two
two : (a b : CallId) → same_call a b ≡ false → a ≢ b
two a b apart same = let it : true ≡ false = sym (same_call-refl a) ∙ ap (same_call a) same ∙ apart in cc it

-- calls of two actors are told apart
apart_call : (call other : CallId) → same_actor other.actor call.actor ≡ false → same_call other call ≡ false
apart_call call other apart = ap (λ b. b && (other.number == call.number)) apart

-- what is found of a call, and of each other as before
by_call : (f g : CallId → Option InHand) (call : CallId) (o : Option InHand) → f call ≡ o → ((other : CallId) → other ≢ call → f other ≡ g other) → (other : CallId) → f other ≡ cond (same_call other call) o (g other)
by_call f g call o own others other = elim (same_call other call) as (λ b. same_call other call ≡ b → f other ≡ cond b o (g other)) [ true ↦ λ is. ap f (same_call-true other call is) ∙ own | false ↦ λ apart. others other (two other call apart) ] refl

-- ---- what is found among the asynchronous calls of one client

-- a place that has a call has no other
has_one : (call other : CallId) → other ≢ call → (x : Option InHand) → has_call call x ≡ true → has_call other x ≡ false
has_one call other apart None is = refl
has_one call other apart (Some h) is = same_call-false h.call other (λ same. apart (sym same ∙ same_call-true h.call call is))

module _ (call : CallId) where
  -- what is found is of the name
  pub found-call : (xs : List (Option InHand)) (h : InHand) → found_alone call xs ≡ Some h → same_call h.call call ≡ true
  found-call [] h e = absurd (cc e)
  found-call (x ∷ xs) h e = elim (has_call call x) as (λ b. has_call call x ≡ b → cond b x (found_alone call xs) ≡ Some h → same_call h.call call ≡ true) [ true ↦ λ is here. ap (has_call call) (sym here) ∙ is | false ↦ λ apart more. found-call xs h more ] refl e

  -- another state of it is found in its place
  changed-own : (o : Option InHand) → has_call call o ≡ true → (xs : List (Option InHand)) (h : InHand) → found_alone call xs ≡ Some h → found_alone call (changed_alone call o xs) ≡ o
  changed-own o has [] h e = absurd (cc e)
  changed-own o has (x ∷ xs) h e =
      elim (has_call call x) as (λ b. has_call call x ≡ b → cond b x (found_alone call xs) ≡ Some h → found_alone call (cond b (o ∷ xs) (x ∷ changed_alone call o xs)) ≡ o) [
        | true ↦ λ is here. ap (λ b. cond b o (found_alone call xs)) has
        | false ↦ λ apart more. ap (λ b. cond b x (found_alone call (changed_alone call o xs))) apart ∙ changed-own o has xs h more
      ] refl e

  -- and each other as before
  changed-other : (o : Option InHand) (other : CallId) → other ≢ call → has_call other o ≡ false → (xs : List (Option InHand)) → found_alone other (changed_alone call o xs) ≡ found_alone other xs
  changed-other o other apart none [] = refl
  changed-other o other apart none (x ∷ xs) =
      elim (has_call call x) as (λ b. has_call call x ≡ b → found_alone other (cond b (o ∷ xs) (x ∷ changed_alone call o xs)) ≡ found_alone other (x ∷ xs)) [
        | true ↦ λ is. ap (λ b. cond b o (found_alone other xs)) none ∙ ap (λ b. cond b x (found_alone other xs)) (sym (has_one call other apart x is))
        | false ↦ λ no. ap (cond (has_call other x) x) (changed-other o other apart none xs)
      ] refl

  -- what is there, set again, changes nothing
  changed-same : (xs : List (Option InHand)) (o : Option InHand) → found_alone call xs ≡ o → changed_alone call o xs ≡ xs
  changed-same [] o is = refl
  changed-same (x ∷ xs) o is =
      elim (has_call call x) as (λ b. cond b x (found_alone call xs) ≡ o → cond b (o ∷ xs) (x ∷ changed_alone call o xs) ≡ x ∷ xs) [ true ↦ λ is. ap (λ (z : Option InHand). z ∷ xs) (sym is) | false ↦ λ is. ap (λ zs. x ∷ zs) (changed-same xs o is) ] is

-- where those go whose names meet a test, each call
found-kept : (keeps : Option InHand → Bool) (gone : CallId → Bool) → ((h : InHand) → keeps (Some h) ≡ not (gone h.call)) → (xs : List (Option InHand)) (other : CallId) → found_alone other (filter keeps xs) ≡ cond (gone other) None (found_alone other xs)
found-kept keeps gone is [] other = elim (gone other) as (λ b. ◌≡◌ {A = Option InHand} None (cond b None None)) [ true ↦ refl | false ↦ refl ]
found-kept keeps gone is (None ∷ xs) other =
    let rest = filter keeps xs in
    elim (keeps None) as (λ b. found_alone other (cond b (None ∷ rest) rest) ≡ cond (gone other) None (found_alone other xs)) [ true ↦ found-kept keeps gone is xs other | false ↦ found-kept keeps gone is xs other ]
found-kept keeps gone is (Some x ∷ xs) other =
    let rest = filter keeps xs in
    let more = found-kept keeps gone is xs other in
    ap (λ b. found_alone other (cond b (Some x ∷ rest) rest)) (is x)
    ∙ elim (same_call x.call other) as (λ t. same_call x.call other ≡ t → found_alone other (cond (not (gone x.call)) (Some x ∷ rest) rest) ≡ cond (gone other) None (cond t (Some x) (found_alone other xs))) [
      | true ↦ λ same. ap (λ z. found_alone other (cond (not (gone z)) (Some x ∷ rest) rest)) (same_call-true x.call other same)
          ∙ elim (gone other) as (λ g. gone other ≡ g → found_alone other (cond (not g) (Some x ∷ rest) rest) ≡ cond g None (Some x)) [ true ↦ λ g. more ∙ ap (λ b. cond b None (found_alone other xs)) g | false ↦ λ g. ap (λ b. cond b (Some x) (found_alone other rest)) same ] refl
      | false ↦ λ apart. elim (gone x.call) as (λ g. found_alone other (cond (not g) (Some x ∷ rest) rest) ≡ cond (gone other) None (found_alone other xs)) [ true ↦ more | false ↦ ap (λ b. cond b (Some x) (found_alone other rest)) apart ∙ more ]
    ] refl

-- where none meets it, all are left
kept-all : (test : Who → Bool) → ((v : Who) → test v ≡ false) → (xs : List (Option InHand)) → without_met test xs ≡ xs
kept-all test none [] = refl
kept-all test none (None ∷ xs) = ap (λ zs. None ∷ zs) (kept-all test none xs)
kept-all test none (Some h ∷ xs) = let rest = without_met test xs in ap (λ b. cond (not b) (Some h ∷ rest) rest) (none (Call h.call)) ∙ ap (λ zs. Some h ∷ zs) (kept-all test none xs)

module _ (h : InHand) where
  -- a call more is found where it was not
  added-own : (xs : List (Option InHand)) → found_alone h.call xs ≡ None → found_alone h.call (xs ++ Some h ∷ []) ≡ Some h
  added-own [] none = ap (λ b. cond b (Some h) None) (same_call-refl h.call)
  added-own (None ∷ xs) none = added-own xs none
  added-own (Some x ∷ xs) none = elim (same_call x.call h.call) as (λ b. cond b (Some x) (found_alone h.call xs) ≡ None → cond b (Some x) (found_alone h.call (xs ++ Some h ∷ [])) ≡ Some h) [ true ↦ λ there. absurd (cc there) | false ↦ λ none. added-own xs none ] none

  -- and each other as before
  added-other : (other : CallId) → other ≢ h.call → (xs : List (Option InHand)) → found_alone other (xs ++ Some h ∷ []) ≡ found_alone other xs
  added-other other apart [] = ap (λ b. cond b (Some h) None) (same_call-false h.call other (λ same. apart (sym same)))
  added-other other apart (x ∷ xs) = ap (cond (has_call other x) x) (added-other other apart xs)

-- ---- where those of one client are changed

list_at : {X : Type 0} (lists : List (List X)) (c d : ℕ) (y : List X) → (slice_get lists c ≡ None → y ≡ []) → list_or (slice_get (slice_set lists c y) d) ≡ cond (d == c) y (list_or (slice_get lists d))
list_at {X} [] c d y none = elim (d == c) as (λ b. ◌≡◌ {A = List X} [] (cond b y [])) [ true ↦ sym (none refl) | false ↦ refl ]
list_at (xs ∷ lists) zero zero y none = refl
list_at (xs ∷ lists) zero (suc d) y none = let t : (suc d == 0) ≡ false = tests_differ (suc d) 0 (λ e. cc) in rw t refl
list_at (xs ∷ lists) (suc c) zero y none = let t : (0 == suc c) ≡ false = tests_differ 0 (suc c) (λ e. cc) in rw t refl
list_at (xs ∷ lists) (suc c) (suc d) y none = let t : (suc d == suc c) ≡ (d == c) = tests_agree (suc d) (suc c) d c (λ e. cc) (λ e. cc) in rw t (list_at lists c d y none)

-- the actor has no list
abbrev LacksAlone : ActorName → List (List (Option InHand)) → Type 0
LacksAlone (Client c) lists = slice_get lists c ≡ None
LacksAlone (Node r) lists = Unit {0}

-- who has one does not lack it
lacks_none : (a : ActorName) (hands : HandsState) → HasAlone a hands → LacksAlone a hands.alone → ⊥
lacks_none (Client c) hands has lacks = let clash = sym lacks ∙ (there_is hands.alone c has).1 in cc clash
lacks_none (Node r) hands has lacks = has

-- those of each
alone_at : (a b : ActorName) (change : List (Option InHand) → List (Option InHand)) (lists : List (List (Option InHand))) → (LacksAlone a lists → change [] ≡ []) → alone_in (alone_with a change lists) b ≡ cond (same_actor b a) (change (alone_in lists a)) (alone_in lists b)
alone_at (Client c) (Client d) change lists none = list_at lists c d (change (list_or (slice_get lists c))) (λ lacks. ap (λ o. change (list_or o)) lacks ∙ none lacks)
alone_at (Client c) (Node r) change lists none = refl
alone_at (Node q) (Client d) change lists none = refl
alone_at (Node q) (Node r) change lists none = elim (r == q) as (λ b. ◌≡◌ {A = List (Option InHand)} [] (cond b (change []) [])) [ true ↦ sym (none tt) | false ↦ refl ]

-- what is changed to what it was is as it was
alone_same : (a : ActorName) (change : List (Option InHand) → List (Option InHand)) (lists : List (List (Option InHand))) → change (alone_in lists a) ≡ alone_in lists a → alone_with a change lists ≡ lists
alone_same (Client c) change lists same = ap (slice_set lists c) same ∙ list_again lists c
alone_same (Node r) change lists same = refl

-- where a test that only names of such calls meet tells what is found of these, the call under each name
at_each : (a : ActorName) (change : List (Option InHand) → List (Option InHand)) (hands : HandsState) → (LacksAlone a hands.alone → change [] ≡ []) → (test : Who → Bool) (o : Option InHand) → ((b : ActorName) → test (Actor b) ≡ false)
    → ((other : CallId) → found_alone other (change (alone_in hands.alone a)) ≡ cond (test (Call other)) o (found_alone other (alone_in hands.alone a)))
    → ((other : CallId) → same_actor other.actor a ≡ false → test (Call other) ≡ false)
    → (u : Who) → hand_at (with_alone_in a change hands) u ≡ cond (test u) o (hand_at hands u)
at_each a change hands none test o plain law apart (Actor b) = ap (λ t. cond t o (hand_at hands (Actor b))) (sym (plain b))
at_each a change hands none test o plain law apart (Call other) =
    ap (found_alone other) (alone_at a other.actor change hands.alone none)
    ∙ elim (same_actor other.actor a) as (λ b. same_actor other.actor a ≡ b → found_alone other (cond b (change (alone_in hands.alone a)) (alone_in hands.alone other.actor)) ≡ cond (test (Call other)) o (found_alone other (alone_in hands.alone other.actor))) [
      | true ↦ λ own. law other ∙ ap (λ b. cond (test (Call other)) o (found_alone other (alone_in hands.alone b))) (sym (same_actor-true other.actor a own))
      | false ↦ λ two. ap (λ t. cond t o (found_alone other (alone_in hands.alone other.actor))) (sym (apart other two))
    ] refl

-- ---- what is in hand, by name

-- where the place of a client is set, the call under each name
pub client_set : (hands : HandsState) (c : ℕ) (x : Option InHand) → slice_get hands.clients c ≡ Some x → (o : Option InHand) (u : Who) → hand_at (set_at hands (Actor (Client c)) o) u ≡ put_who (hand_at hands) (Actor (Client c)) o u
client_set hands c x there o (Actor (Client d)) = ap or_none (get_set hands.clients c o x d there) ∙ elim (d == c) as (λ b. or_none (cond b (Some o) (slice_get hands.clients d)) ≡ cond b o (or_none (slice_get hands.clients d))) [ true ↦ refl | false ↦ refl ]
client_set hands c x there o (Actor (Node r)) = refl
client_set hands c x there o (Call call) = refl

-- and where that of a node is
pub node_set : (hands : HandsState) (r : ℕ) (x : Option InHand) → slice_get hands.nodes r ≡ Some x → (o : Option InHand) (u : Who) → hand_at (set_at hands (Actor (Node r)) o) u ≡ put_who (hand_at hands) (Actor (Node r)) o u
node_set hands r x there o (Actor (Node q)) = ap or_none (get_set hands.nodes r o x q there) ∙ elim (q == r) as (λ b. or_none (cond b (Some o) (slice_get hands.nodes q)) ≡ cond b o (or_none (slice_get hands.nodes q))) [ true ↦ refl | false ↦ refl ]
node_set hands r x there o (Actor (Client c)) = refl
node_set hands r x there o (Call call) = refl

module _ (call : CallId) (hands : HandsState) where
  abbrev its : List (Option InHand)
  its = alone_in hands.alone call.actor

  -- where that of an asynchronous call is set to what is of no other
  set-at : (o : Option InHand) → ((other : CallId) → other ≢ call → has_call other o ≡ false) → (u : Who) → hand_at (set_at hands (Call call) o) u ≡ put_who (hand_at hands) (Call call) (found_alone call (changed_alone call o its)) u
  set-at o none =
      at_each call.actor (changed_alone call o) hands (λ lacks. refl) (λ u. same_who u (Call call)) (found_alone call (changed_alone call o its)) (λ b. refl)
      (by_call (λ z. found_alone z (changed_alone call o its)) (λ z. found_alone z its) call (found_alone call (changed_alone call o its)) refl (λ other apart. changed-other call o other apart (none other apart) its)) (apart_call call)

  -- to another state of it
  pub next_set : (hand next : InHand) → hand_at hands (Call call) ≡ Some hand → next.call ≡ hand.call → (u : Who) → hand_at (set_at hands (Call call) (Some next)) u ≡ put_who (hand_at hands) (Call call) (Some next) u
  next_set hand next held same u =
      let is : same_call next.call call ≡ true = ap (λ z. same_call z call) same ∙ found-call call its hand held in
      set-at (Some next) (λ other apart. has_one call other apart (Some next) is) u
      ∙ ap (λ o. put_who (hand_at hands) (Call call) o u) (changed-own call (Some next) is its hand held)

  -- without it
  without_call-at : (u : Who) → hand_at (without_call call hands) u ≡ put_who (hand_at hands) (Call call) None u
  without_call-at = at_each call.actor (filter (has_other call)) hands (λ lacks. refl) (λ u. same_who u (Call call)) None (λ b. refl) (found-kept (has_other call) (λ z. same_call z call) (λ h. refl) its) (apart_call call)

-- once it has ended
pub ended-at : (call : CallId) (hands : HandsState) (u : Who) → hand_at (without_call call (set_at hands (Call call) None)) u ≡ put_who (hand_at hands) (Call call) None u
ended-at call hands u =
    without_call-at call (set_at hands (Call call) None) u ∙ ap (λ o. cond (same_who u (Call call)) None o) (set-at call hands None (λ other apart. refl) u)
    ∙ elim (same_who u (Call call)) as (λ b. cond b None (cond b (found_alone call (changed_alone call None (alone_in hands.alone call.actor))) (hand_at hands u)) ≡ cond b None (hand_at hands u)) [ true ↦ refl | false ↦ refl ]

-- with an asynchronous call more
pub with_alone-at : (h : InHand) (hands : HandsState) → HasAlone h.call.actor hands → hand_at hands (Call h.call) ≡ None → (u : Who) → hand_at (with_alone h hands) u ≡ put_who (hand_at hands) (Call h.call) (Some h) u
with_alone-at h hands has none =
    let xs = alone_in hands.alone h.call.actor in
    at_each h.call.actor (λ xs. xs ++ Some h ∷ []) hands (λ lacks. absurd (lacks_none h.call.actor hands has lacks)) (λ u. same_who u (Call h.call)) (Some h) (λ b. refl)
    (by_call (λ z. found_alone z (xs ++ Some h ∷ [])) (λ z. found_alone z xs) h.call (Some h) (added-own h xs none) (λ other apart. added-other h other apart xs)) (apart_call h.call)

-- nor does a call of another actor
goes_with-apart : (handle : Option ℕ) (a : ActorName) (p : PendingCalls) (other : CallId) → same_actor other.actor a ≡ false → goes_with handle a p (Call other) ≡ false
goes_with-apart None a p other apart = refl
goes_with-apart (Some handle) a p other apart = ap (λ b. b && is_over handle (find_async other p.unfinished)) apart

-- where a client's handle is closed
pub syncs_gone-at : (c : ℕ) (handle : Option ℕ) (w : World) (u : Who) → hand_at (syncs_gone c handle w).hands u ≡ cond (goes_with handle (Client c) (pending_by w.tables c) u) None (hand_at w.hands u)
syncs_gone-at c handle w =
    let goes = goes_with handle (Client c) (pending_by w.tables c) in
    at_each (Client c) (without_met goes) w.hands (λ lacks. refl) goes None (goes_with-actor handle (Client c) (pending_by w.tables c)) (found-kept _ (λ z. goes (Call z)) (λ h. refl) (alone_in w.hands.alone (Client c))) (goes_with-apart handle (Client c) (pending_by w.tables c))

-- and where it leaves
pub calls_gone-at : (c : ℕ) (w : World) (u : Who) → hand_at (calls_gone c w).hands u ≡ cond (is_of (Client c) u) None (hand_at w.hands u)
calls_gone-at c w (Actor b) = refl
calls_gone-at c w (Call other) =
    ap (found_alone other) (alone_at (Client c) other.actor (λ xs. []) w.hands.alone (λ lacks. refl))
    ∙ elim (same_actor other.actor (Client c)) as (λ b. found_alone other (cond b [] (alone_in w.hands.alone other.actor)) ≡ cond b None (found_alone other (alone_in w.hands.alone other.actor))) [ true ↦ refl | false ↦ refl ]

-- ---- where none goes

-- all are in hand as they were
pub none_go : (c : ℕ) (test : Who → Bool) → ((v : Who) → test v ≡ false) → (hands : HandsState) → without_those c test hands ≡ hands
none_go c test none hands = ap (λ lists. record hands { alone = lists }) (alone_same (Client c) (without_met test) hands.alone (kept-all test none (alone_in hands.alone (Client c))))

goes_with-none : (handle : Option ℕ) (a : ActorName) (v : Who) → goes_with handle a no_pending v ≡ false
goes_with-none None a v = refl
goes_with-none (Some handle) a (Actor b) = refl
goes_with-none (Some handle) a (Call call) = elim (same_actor call.actor a) as (λ b. (b && false) ≡ false) [ true ↦ refl | false ↦ refl ]

-- so it is where a client has no asynchronous calls
pub none_over : (handle : Option ℕ) (c : ℕ) (p : PendingCalls) → p ≡ no_pending → (hands : HandsState) → hands ≡ without_those c (λ v. goes_with handle (Client c) p v) hands
none_over handle c p none hands = sym (ap (λ p. without_those c (λ v. goes_with handle (Client c) p v) hands) none ∙ none_go c (goes_with handle (Client c) no_pending) (goes_with-none handle (Client c)) hands)

-- ---- a place that was lent comes back

place_same : (xs : List (Option InHand)) (c : ℕ) (place : Option InHand) → or_none (slice_get xs c) ≡ place → slice_set xs c place ≡ xs
place_same [] c place is = refl
place_same (x ∷ xs) zero place is = ap (λ (z : Option InHand). z ∷ xs) (sym is)
place_same (x ∷ xs) (suc c) place is = ap (λ zs. x ∷ zs) (place_same xs c place is)

-- as it was
come_back_same : (hands : HandsState) (v : Who) (place : Option InHand) → hand_at hands v ≡ place → set_at hands v place ≡ hands
come_back_same hands (Actor (Client c)) place is = ap (λ xs. record hands { clients = xs }) (place_same hands.clients c place is)
come_back_same hands (Actor (Node r)) place is = ap (λ xs. record hands { nodes = xs }) (place_same hands.nodes r place is)
come_back_same hands (Call call) place is = ap (λ lists. record hands { alone = lists }) (alone_same call.actor (changed_alone call place) hands.alone (changed-same call (alone_in hands.alone call.actor) place is))

-- so the world is as it was
pub same_world : (w : World) (v : Who) (place : Option InHand) → hand_at w.hands v ≡ place → record w { hands = set_at w.hands v place } ≡ w
same_world w v place is = ap (λ (hands : HandsState). record w { hands = hands }) (come_back_same w.hands v place is)

-- also where record, nodes and snapshots were lent, and came back as they were
pub as_it_was : (w : World) (v : Who) (place : Option InHand) (R : RecordState) (nodes : List (List Replica)) (snapshots : List Background) → hand_at w.hands v ≡ place → (R ≡ w.cluster) × (nodes ≡ w.nodes) × (snapshots ≡ w.snapshots) → record w { cluster = R; nodes = nodes; snapshots = snapshots; hands = set_at w.hands v place } ≡ w
as_it_was w v place R nodes snapshots is same = (λ i. record w { cluster = same.0 i; nodes = same.1 i; snapshots = same.2 i; hands = set_at w.hands v place }) ∙ same_world w v place is

-- what holds where it fails holds where it is not done
pub when_not_ok : {T E : Type 0} (P : Type 0) (result : Result T E) → ((done : T) → result ≡ Ok done → ⊥) → OnErr result P → P
when_not_ok P (Ok done) not_ok so = absurd (not_ok done refl)
when_not_ok P (Err error) not_ok so = so

-- want of memory in between leaves it and the log so
pub left_alone : {E : Type 0} (result : Result (Unit {0}) E) (w : World) (v : Who) (place : Option InHand) (labels : List Label) → hand_at w.hands v ≡ place → OnErr result ((record w { hands = set_at w.hands v place } ≡ w) × (labels ≡ labels))
left_alone (Ok done) w v place labels is = tt
left_alone (Err error) w v place labels is = (same_world w v place is, refl)
