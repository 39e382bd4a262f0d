-- The tables of one actor change: what holds of the calls of others stays, and of its own asynchronous ones, which look at no handle; the handle of the one that it waits for stays there.
use Rattle.std.proofs.Common.{◌≡◌, ℕ, ◌+◌, ◌≤◌, length, Some, None, Bool, true, false, cond, refl, sym, ap, subst, ◌∙◌, arith}
use Rattle.std.specs.Prelude.{Contains, IsSome}
use Rattle.ckpt_types.specs.declared.identities.ActorName.{ActorName}
use Rattle.ckpt_types.specs.declared.identities.ActorName.TheVariants.{Client}
use Rattle.ckpt_types.specs.declared.identities.Who.{Who}
use Rattle.ckpt_types.specs.declared.identities.Who.TheVariants.{Actor}
use Rattle.ckpt_types.specs.Asks.{asked}
use Rattle.ckpt_types.specs.Limits.{handles_max}
use Rattle.ckpt_types.specs.OpWord.{is_async, word_of_op}
use Rattle.client_handles.specs.ClientState.{ClientState, NoneLent}
use Rattle.client_handles.specs.declared.handle_view.HandleView.{HandleView}
use Rattle.cluster_record.specs.Calls.{same_actor}
use Rattle.cluster_record.specs.Makings.{makings_of}
use Rattle.ckpt_machine.specs.InHand.{IsInHand}
use Rattle.ckpt_machine.specs.Invariant.{IsGoodHandle, InvariantIn}
use Rattle.ckpt_machine.specs.Machine.{Machine, CallState, who}
use Rattle.ckpt_machine.specs.After.{with_tables}
use Rattle.ckpt_machine.specs.Tables.{handle_asked}
use Rattle.ckpt_machine.specs.Shape.{Shape}
use Rattle.ckpt_machine.proofs.Actors.{same_actor-true}
use Rattle.ckpt_machine.proofs.Lives.{LivesOn, lives_on-fewer, enters-fewer, dead_on}
use Rattle.ckpt_machine.proofs.LaterIncarnations.{incarnations_stay}
use Rattle.ckpt_machine.proofs.OtherCalls.{LooksAlike, LooksLater-refl, LiesUnder-refl, making_still, IsInHand-alike, IsGoodIn-alike}
use Rattle.ckpt_machine.proofs.Whose.{stepped_as-plain}

-- the handle that an actor's call is about, for which it waits, is there still
abbrev pub KeepsHandle : Machine → ActorName → (ClientState → ClientState) → Type 0
KeepsHandle m a change = (z : CallState) → m.in_hand (Actor a) ≡ Some z → IsSome (handle_asked (asked z.op) (m.tables a)) → IsSome (handle_asked (asked z.op) (change (m.tables a)))

-- it waits for none
pub idle_keeps : (m : Machine) (a : ActorName) (change : ClientState → ClientState) → m.in_hand (Actor a) ≡ None → KeepsHandle m a change
idle_keeps m a change idle z at there = absurd (let none : None ≡ Some z = sym idle ∙ at in cc none)

module _ (m : Machine) (shapes : ℕ → Shape) (inv : InvariantIn shapes m) (a : ActorName) (change : ClientState → ClientState) (stays : KeepsHandle m a change) where
  abbrev then_machine : Machine
  then_machine = with_tables a change m

  -- a call that is no asynchronous one has its handle
  plain_there : (z : CallState) → m.in_hand (who z) ≡ Some z → is_async (word_of_op z.op) ≡ false → IsSome (handle_asked (asked z.op) (m.tables z.call.actor)) → IsSome (handle_asked (asked z.op) (then_machine.tables z.call.actor))
  plain_there z at plain there = by_actor (same_actor z.call.actor a) refl
    where
      by_actor : (b : Bool) → same_actor z.call.actor a ≡ b → IsSome (handle_asked (asked z.op) (cond b (change (m.tables a)) (m.tables z.call.actor)))
      by_actor false other = there
      by_actor true same =
          let is_a : z.call.actor ≡ a = same_actor-true z.call.actor a same in
          let held : m.in_hand (Actor a) ≡ Some z = ap (λ b. m.in_hand (Actor b)) (sym is_a) ∙ ap m.in_hand (sym (stepped_as-plain z.call (word_of_op z.op) plain)) ∙ at in
          stays z held (subst (λ b. IsSome (handle_asked (asked z.op) (m.tables b))) is_a there)

  looks_same : (z : CallState) → m.in_hand (who z) ≡ Some z → LooksAlike m then_machine shapes shapes z
  looks_same z at = record {
    up = λ r up. up;
    incarnations = incarnations_stay m.cluster m.cluster refl refl;
    lives = λ client. refl;
    node = λ r own. refl;
    home = refl;
    handle = by_word (is_async (word_of_op z.op)) refl;
    making = λ o at. making_still m then_machine z o (λ w at. record { there = at.there; declares = at.declares; nodes = at.nodes; reserved = at.reserved; only = at.only; within = at.within; no_later = at.no_later }) at;
    made = λ k was. was;
    later = λ k was e found. (e, found, LooksLater-refl m.cluster.up z (shapes k) e);
    reserved = λ k r was own f found free. refl;
    owners = λ k was r. refl;
    marks = λ k was. refl;
    under = λ k was e found all. LiesUnder-refl (shapes k);
    dead = λ k f was found. dead_on m then_machine (λ d. refl) refl (enters-fewer m then_machine (λ w z held. held));
    done = λ k was done. done;
  }
    where
      by_word : (b : Bool) → is_async (word_of_op z.op) ≡ b → IsSome (cond b None (handle_asked (asked z.op) (m.tables z.call.actor))) → IsSome (cond b None (handle_asked (asked z.op) (then_machine.tables z.call.actor)))
      by_word true async none = none
      by_word false plain there = plain_there z at plain there

  hands_then : (w : Who) (z : CallState) → then_machine.in_hand w ≡ Some z → IsInHand then_machine shapes w z
  hands_then w z held = let was = inv.hands w z held in IsInHand-alike m then_machine shapes shapes z (looks_same z (ap m.in_hand was.whose ∙ held)) w (λ live. live) was.number was

  lives : LivesOn m then_machine
  lives = lives_on-fewer m then_machine shapes shapes inv (λ d. refl) refl refl hands_then (λ w z held. held)

  -- the invariant holds after it, where no iteration is lent then, each handle that it has then is good, and there are no more of them than a client may have
  pub tables_keep : NoneLent (change (m.tables a)) → ((h : HandleView) → Contains (change (m.tables a)).handles h → IsGoodHandle m.cluster a h) → ((c : ℕ) → a ≡ Client c → length (change (m.tables a)).handles + makings_of c m.cluster.entries ≤ handles_max) → InvariantIn shapes then_machine
  tables_keep at_rest good few = record {
    up = inv.up;
    first_up = inv.first_up;
    incarnations = inv.incarnations;
    none_live = inv.none_live;
    rises = inv.rises;
    up_to = inv.up_to;
    few = inv.few;
    swept = inv.swept;
    entries = λ k e found. IsGoodIn-alike m then_machine k lives (shapes k) e (λ r there. refl) (λ r d owns own. refl) (λ marks stand own. refl) (λ active d own. refl) (λ d own. refl) e.making (inv.entries k e found);
    replicas = inv.replicas;
    reserves = inv.reserves;
    handles = λ b h. elim (same_actor b a) as (λ t. same_actor b a ≡ t → Contains (cond t (change (m.tables a)) (m.tables b)).handles h → IsGoodHandle m.cluster b h) [ true ↦ λ same among. subst (λ c. IsGoodHandle m.cluster c h) (sym (same_actor-true b a same)) (good h among) | false ↦ λ other among. inv.handles b h among ] refl;
    rest = λ b. elim (same_actor b a) as (λ t. NoneLent (cond t (change (m.tables a)) (m.tables b))) [ true ↦ at_rest | false ↦ inv.rest b ];
    clients = inv.clients;
    places = λ c. elim (same_actor (Client c) a) as (λ t. same_actor (Client c) a ≡ t → length (cond t (change (m.tables a)) (m.tables (Client c))).handles + makings_of c m.cluster.entries ≤ handles_max) [ true ↦ λ same. few c (sym (same_actor-true (Client c) a same)) | false ↦ λ other. inv.places c ] refl;
    hands = hands_then;
    calls = inv.calls;
  }

  -- where it has no handle that it did not have, and no more of them
  pub fewer_keep : NoneLent (change (m.tables a)) → ((h : HandleView) → Contains (change (m.tables a)).handles h → Contains (m.tables a).handles h) → length (change (m.tables a)).handles ≤ length (m.tables a).handles → InvariantIn shapes then_machine
  fewer_keep at_rest among_them fewer = tables_keep at_rest (λ h among. inv.handles a h (among_them h among)) (λ c is.
      let was : length (m.tables a).handles + makings_of c m.cluster.entries ≤ handles_max = subst (λ b. length (m.tables b).handles + makings_of c m.cluster.entries ≤ handles_max) (sym is) (inv.places c) in
      omega (arith, was, fewer))
