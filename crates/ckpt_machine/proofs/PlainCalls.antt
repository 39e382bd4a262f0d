-- A call that is no update, has no marks and makes no checkpoint owns nothing and makes nothing: where it goes on or ends, what holds of all others stays.
use Rattle.std.proofs.Common.{◌≡◌, ℕ, inl, inr, List, [], Option, Some, None, Bool, true, false, filter, not, refl, sym, ap, subst, ◌∙◌}
use Rattle.std.specs.Prelude.{is_some, IsSome, IfSome, Contains}
use Rattle.std.proofs.lemmas.Option.{same_Some}
use Rattle.ckpt_types.specs.declared.ais_error.AisError.{AisError}
use Rattle.ckpt_types.specs.declared.answers.Cause.{Cause}
use Rattle.ckpt_types.specs.declared.answers.Outcome.TheVariants.{Refused}
use Rattle.ckpt_types.specs.declared.identities.ActorName.{ActorName}
use Rattle.ckpt_types.specs.declared.identities.CallId.{CallId}
use Rattle.node_msgs.specs.declared.next.Next.TheVariants.{End}
use Rattle.node_msgs.specs.declared.steps.Verb.TheVariants as verbs
use Rattle.node_msgs.specs.declared.steps.StepReply.TheVariants as words
use Rattle.client_handles.specs.declared.handle_view.HandleView.{HandleView}
use Rattle.cluster_record.specs.declared.calls.SyncKind.{SyncKind}
use Rattle.cluster_record.specs.declared.calls.SyncKind.TheVariants.{Synchronize, ActiveSet}
use Rattle.cluster_record.specs.declared.calls.Making.{Making}
use Rattle.cluster_record.specs.declared.copying.Copying.{Copying}
use Rattle.cluster_record.specs.declared.entries.Entry.{Entry}
use Rattle.cluster_record.specs.DueUpdate.{UpdateState}
use Rattle.cluster_record.specs.DueOpen.{making_ckpt}
use Rattle.cluster_record.specs.Calls.{IsClient, number_of, client_of}
use Rattle.cluster_record.specs.Identities.{IdentitiesRise, AllUpTo}
use Rattle.cluster_record.specs.Makings.{making_of}
use Rattle.cluster_record.specs.Placement.{is_collocated}
use Rattle.cluster_record.specs.Places.{find_key, change_key}
use Rattle.cluster_record.specs.RecordState.{RecordState, entry_of, identity_of, client_key, is_live, no_nodes, stays, swept}
use Rattle.cluster_record.proofs.IdentityLaws.{KeepsIdentity, IdentitiesRise-filter, AllUpTo-filter, IdentitiesRise-change_key, AllUpTo-change_key}
use Rattle.ckpt_machine.specs.Drivers.{Driver, staging_at, update_in}
use Rattle.ckpt_machine.specs.Drivers as drivers
use Rattle.ckpt_machine.specs.Driving.{making_in}
use Rattle.ckpt_machine.specs.Machine.{Machine, Snapshot, CallState, who}
use Rattle.ckpt_types.specs.Asks.{asked}
use Rattle.ckpt_machine.specs.After.{with_record, without_making, kept_behind, left_in_hand}
use Rattle.ckpt_machine.specs.Due.{Told, IsDone, driver_of}
use Rattle.ckpt_machine.specs.LookGuards.{LookRefused}
use Rattle.ckpt_machine.specs.Shape.{Shape, IsOwner, IsMarker, IsHolder}
use Rattle.weak_marks.specs.Marks.{Marked}
use Rattle.ckpt_machine.specs.InHand.{IsInHand}
use Rattle.ckpt_machine.specs.Invariant.{IsMaker, IsGoodClient, InvariantIn, Invariant}
use Rattle.ckpt_machine.specs.Later.{IsLaterEntry, IsLaterRecord}
use Rattle.ckpt_machine.specs.Dead.{IsDead}
use Rattle.ckpt_machine.proofs.Lives.{LivesOn, lives_on-one, enters-one, dead_on}
use Rattle.ckpt_machine.proofs.OtherCalls.{IsIn-apart, IsGoodIn-apart}
use Rattle.ckpt_machine.proofs.Entries.{ComesOf, ComesOf-filter, ComesOf-change_found, ComesOf-then, found_filter, there_still}
use Rattle.ckpt_machine.proofs.Moment.{IsLaterEntry-refl, making_stays}
use Rattle.ckpt_machine.proofs.OwnMaking.{making_is}
use Rattle.ckpt_machine.proofs.RecordSteps.{record_keeps}
use Rattle.ckpt_machine.proofs.CallsKept.{IsSameCall, same_call-None, calls_left}
use Rattle.ckpt_machine.proofs.DueStep.{Goes}
use Rattle.ckpt_machine.specs.Whose.{put_who, same_who}
use Rattle.ckpt_types.specs.declared.identities.Who.{Who}
use Rattle.ckpt_machine.proofs.Whose.{same_who-true, put_who-cases, put_who-other}
use Rattle.ckpt_machine.proofs.EntryLists.{AllStay-swept}

-- a synchronisation, or the setting of an active with nothing in its hand
abbrev pub is_plain_sync : SyncKind → Option Snapshot → Bool
is_plain_sync (Synchronize deadline) copy = true
is_plain_sync (ActiveSet local) copy = not (is_some copy)

-- neither an update on all replicas, nor a weak write that has marks, nor an open that is making a checkpoint, nor the setting of an active that has
-- something in its hand, nor a copying that is at a checkpoint
abbrev pub is_plain : Driver → Option Snapshot → Bool
is_plain (drivers.Once x) copy = true
is_plain (drivers.Open o) copy = not (is_some o.making)
is_plain (drivers.Update u) copy = false
is_plain (drivers.Active a) copy = not (is_some a.marks)
is_plain (drivers.Sync u) copy = is_plain_sync u.kind copy
is_plain (drivers.Copy c) copy = not (is_some c.copying)

-- what does an update is not plain
pub does_not_plain : (d : Driver) (u : UpdateState) (copy : Option Snapshot) → update_in d ≡ Some u → is_plain d copy ≡ false
does_not_plain (drivers.Update v) u copy is = refl
does_not_plain (drivers.Copy c) u copy is = by_copying c.copying is
  where
    by_copying : (o : Option Copying) → staging_at o c.staging ≡ Some u → not (is_some o) ≡ false
    by_copying None none = absurd (cc none)
    by_copying (Some at) some = refl
does_not_plain (drivers.Once x) u copy is = absurd (cc is)
does_not_plain (drivers.Open o) u copy is = absurd (cc is)
does_not_plain (drivers.Active a) u copy is = absurd (cc is)
does_not_plain (drivers.Sync v) u copy is = absurd (cc is)

-- one that is none of these makes nothing
makes_none : (d : Driver) (copy : Option Snapshot) → is_plain d copy ≡ true → making_in d ≡ None
makes_none (drivers.Once x) copy plain = refl
makes_none (drivers.Open o) copy plain = by_making o.making plain where
  by_making : (w : Option Making) → not (is_some w) ≡ true → making_ckpt w ≡ None
  by_making None plain = refl
  by_making (Some w) plain = absurd (cc plain)
makes_none (drivers.Update u) copy plain = refl
makes_none (drivers.Active a) copy plain = refl
makes_none (drivers.Sync u) copy plain = refl
makes_none (drivers.Copy c) copy plain = refl

-- the call is in hand no more
abbrev pub ending : CallState → Machine → Machine
ending s m = record m { in_hand = put_who m.in_hand (who s) None }

pub IsLaterEntry-then : (up : List ℕ) (e f g : Entry) → IsLaterEntry up e f → IsLaterEntry up f g → IsLaterEntry up e g
IsLaterEntry-then up e f g first second = record {
  making = second.making ∙ first.making;
  unmade = λ some. second.unmade (ap (λ o. is_some o) first.making ∙ some) ∙ first.unmade some;
  placed = λ apart. second.placed (ap is_collocated first.attributes ∙ apart) ∙ first.placed apart;
  nodes = second.nodes ∙ first.nodes;
  grows = λ r there. second.grows r (first.grows r there);
  lives = λ was. second.lives (first.lives was);
  active = second.active ∙ first.active;
  attributes = second.attributes ∙ first.attributes;
  generation = second.generation ∙ first.generation;
  hold = second.hold ∙ first.hold;
  clients = second.clients ∙ first.clients;
}

-- a call that makes nothing is refused by a look, and ends
pub look_ends : (m : Machine) (shapes : ℕ → Shape) → InvariantIn shapes m → (s : CallState) → m.in_hand (who s) ≡ Some s → (error : AisError) (cause : Cause) (t : Told) → LookRefused m s (asked s.op) error cause → making_in (driver_of s) ≡ None → InvariantIn shapes (ending s m) → IsDone m s (End (Refused error cause)) t → Goes m s (driver_of s) t
look_ends m shapes inv s held error cause t look makes ends done =
    let none : making_of s.call m.cluster ≡ None = making_is m shapes inv s held ∙ makes in
    subst (Goes m s (driver_of s)) (sym done) (record {
      row = (refl, refl, look, refl);
      holds = subst (λ k. let behind = without_making k m in Invariant (left_in_hand behind (kept_behind m s behind.cluster verbs.Look None None words.Refused) (Some (Refused error cause)))) (sym none) (record { shapes = shapes; holds = ends });
      nearer = λ none. absurd (cc none);
    })

-- ---- a step of the record behind which what is over is swept away

module _ (n : Machine) (R : RecordState) (rises : IdentitiesRise R.entries) (later : ComesOf (IsLaterEntry n.cluster.up) n.cluster.entries R.entries) where
  left_later : ComesOf (IsLaterEntry n.cluster.up) n.cluster.entries (swept R).entries
  left_later = ComesOf-then (IsLaterEntry n.cluster.up) (IsLaterEntry n.cluster.up) (IsLaterEntry n.cluster.up) (IsLaterEntry-then n.cluster.up) n.cluster.entries R.entries (swept R).entries later (ComesOf-filter (IsLaterEntry n.cluster.up) (IsLaterEntry-refl n.cluster.up) (stays R.moment) R.entries rises)

  -- what is in the making is not swept away
  makes_still : (k : ℕ) (e : Entry) (call : CallId) → entry_of k n.cluster.entries ≡ Some e → e.making ≡ Some call → IsSome (entry_of k R.entries) → IsSome (entry_of k (swept R).entries)
  makes_still k e call was by some = by_entry (entry_of k R.entries) refl some
    where
      by_entry : (o : Option Entry) → entry_of k R.entries ≡ o → is_some o ≡ true → IsSome (entry_of k (swept R).entries)
      by_entry None gone some = absurd (cc some)
      by_entry (Some f) found some =
          let (g, there, after) = later k f found in
          let same : g ≡ e = same_Some g e (sym there ∙ was) in
          let made_by : f.making ≡ Some call = after.making ∙ ap (λ (x : Entry). x.making) same ∙ by in
          ap is_some (found_filter (stays R.moment) k R.entries f found (making_stays R.moment f (ap is_some made_by)))

-- a call in hand once another has ended is another's, and was in hand
pub left_other : {P : Type 0} → (s : CallState) (m : Machine) (a : Who) (z : CallState) → put_who m.in_hand (who s) None a ≡ Some z → (same_who a (who s) ≡ false → m.in_hand a ≡ Some z → P) → P
left_other {P} s m a z left then_it = elim (put_who-cases m.in_hand (who s) None a z left) [
  | inl here ↦ absurd (let w : None ≡ Some z = here.1 in cc w)
  | inr other ↦ then_it other.0 other.1
]

-- ---- a plain call

module _ (m : Machine) (shapes : ℕ → Shape) (inv : InvariantIn shapes m) (s : CallState) (held : m.in_hand (who s) ≡ Some s) (plain : is_plain (driver_of s) s.snapshot ≡ true) where
  -- who has one of these in hand is another
  apart_from : (a : Who) (z : CallState) → m.in_hand a ≡ Some z → is_plain (driver_of z) z.snapshot ≡ false → same_who a (who s) ≡ false
  apart_from a z at not_plain = by_test (same_who a (who s)) refl
    where
      by_test : (b : Bool) → same_who a (who s) ≡ b → same_who a (who s) ≡ false
      by_test false is_not = is_not
      by_test true same =
          let state : s ≡ z = same_Some s z (sym held ∙ ap m.in_hand (sym (same_who-true a (who s) same)) ∙ at) in
          absurd (let w : true ≡ false = sym plain ∙ ap (λ (x : CallState). is_plain (driver_of x) x.snapshot) state ∙ not_plain in cc w)

  pub owner_apart : (k : ℕ) (sh : Shape) (d : CallId) (own : IsOwner m k sh d) → same_who (who own.state) (who s) ≡ false
  owner_apart k sh d own = apart_from (who own.state) own.state own.in_hand (does_not_plain (driver_of own.state) own.driver own.state.snapshot own.driver_is)

  pub marker_apart : (k : ℕ) (marks : Marked) (own : IsMarker m k marks) → same_who (who own.state) (who s) ≡ false
  marker_apart k marks own = apart_from (who own.state) own.state own.in_hand (ap (λ d. is_plain d own.state.snapshot) own.driver_is ∙ ap (λ w. not (is_some w)) own.made_is)

  pub holder_apart : (k : ℕ) (active : Option ℕ) (d : CallId) (own : IsHolder m k active d) → same_who (who own.state) (who s) ≡ false
  holder_apart k active d own = apart_from (who own.state) own.state own.in_hand (ap (λ d. is_plain d own.state.snapshot) own.driver_is ∙ ap (λ kind. is_plain_sync kind own.state.snapshot) own.kind ∙ ap not own.some)

  pub maker_apart : (k : ℕ) (d : CallId) (maker : IsMaker m k d) → same_who (who maker.state) (who s) ≡ false
  maker_apart k d maker = apart_from (who maker.state) maker.state maker.in_hand (ap (λ d. is_plain d maker.state.snapshot) maker.driver_is ∙ ap (λ w. not (is_some w)) maker.making_is)

  -- ---- it goes on or ends, and nothing else changes

  -- what is left of it is where its steps have led it
  pub plain_steps : (o : Option CallState) → IsSameCall s o → ((z : CallState) → o ≡ Some z → IsInHand (record m { in_hand = put_who m.in_hand (who s) o }) shapes (who s) z) → InvariantIn shapes (record m { in_hand = put_who m.in_hand (who s) o })
  plain_steps o same own = record {
    up = inv.up;
    first_up = inv.first_up;
    incarnations = inv.incarnations;
    none_live = inv.none_live;
    rises = inv.rises;
    up_to = inv.up_to;
    few = inv.few;
    swept = inv.swept;
    entries = λ k e found. IsGoodIn-apart m shapes m.next m.pending (put_who m.in_hand (who s) o) lives
        (λ k sh r d owns own. put_who-other m.in_hand (who s) o (who own.state) (owner_apart k sh d own)) (λ k sh marks stand own. put_who-other m.in_hand (who s) o (who own.state) (marker_apart k marks own)) (λ k active d own. put_who-other m.in_hand (who s) o (who own.state) (holder_apart k active d own)) (λ k d own. put_who-other m.in_hand (who s) o (who own.state) (maker_apart k d own))
        k (shapes k) e e.making (inv.entries k e found);
    replicas = inv.replicas;
    reserves = inv.reserves;
    handles = inv.handles;
    rest = inv.rest;
    clients = inv.clients;
    places = inv.places;
    hands = hands_then;
    calls = calls_left m.in_hand m.pending m.next inv.calls s held o same;
  }
    where
      dead : (d : CallId) → IsDead m d → IsDead (record m { in_hand = put_who m.in_hand (who s) o }) d
      dead = dead_on m (record m { in_hand = put_who m.in_hand (who s) o }) (λ d. refl) refl (enters-one m (record m { in_hand = put_who m.in_hand (who s) o }) s held (inv.hands (who s) s held).driven o same (λ z is. (own z is).driven) (λ w. refl))

      hands_then : (a : Who) (z : CallState) → put_who m.in_hand (who s) o a ≡ Some z → IsInHand (record m { in_hand = put_who m.in_hand (who s) o }) shapes a z
      hands_then a z left = elim (put_who-cases m.in_hand (who s) o a z left) [
        | inl here ↦ subst (λ b. IsInHand (record m { in_hand = put_who m.in_hand (who s) o }) shapes b z) (sym here.0) (own z here.1)
        | inr other ↦ (let was = inv.hands a z other.1 in record { whose = was.whose; asker = was.asker; number = was.number; built = was.built; driven = was.driven; live = was.live; home = was.home; here = IsIn-apart m shapes m.next m.pending (put_who m.in_hand (who s) o) dead z was.asker (driver_of z) was.here })
      ]

      lives : LivesOn m (record m { in_hand = put_who m.in_hand (who s) o })
      lives = lives_on-one m (record m { in_hand = put_who m.in_hand (who s) o }) shapes shapes inv (λ d. refl) refl refl hands_then s held o same (λ w. refl)

  -- it ends
  pub plain_ends : InvariantIn shapes (record m { in_hand = put_who m.in_hand (who s) None })
  plain_ends = plain_steps None (same_call-None s) (λ z none. absurd (cc none))

  -- it ends by a look that refuses it
  pub look_goes : (error : AisError) (cause : Cause) (t : Told) → LookRefused m s (asked s.op) error cause → IsDone m s (End (Refused error cause)) t → Goes m s (driver_of s) t
  look_goes error cause t look done = look_ends m shapes inv s held error cause t look (makes_none (driver_of s) s.snapshot plain) plain_ends done

  -- ---- it ends with a step of the record, and what is over is swept away

  module _ (R : RecordState) (rises : IdentitiesRise R.entries) (up_to : AllUpTo m.cluster.last_identity R.entries) (up : R.up ≡ m.cluster.up) (incarnations : R.last_incarnations ≡ m.cluster.last_incarnations) (first_calls : R.first_calls ≡ m.cluster.first_calls) (last : R.last_identity ≡ m.cluster.last_identity) (later : ComesOf (IsLaterEntry m.cluster.up) m.cluster.entries R.entries)
      (none_live : m.cluster.up ≡ no_nodes → R.clients ≡ []) (clients : (c : ℕ) → IfSome (find_key client_key c R.clients) (IsGoodClient m.next R c)) (dead : (d : CallId) → IsDead m d → is_live R d ≡ false)
      (live : (a : Who) (z : CallState) → same_who a (who s) ≡ false → m.in_hand a ≡ Some z → is_live m.cluster z.call ≡ true → is_live R z.call ≡ true)
      (lives : (a : Who) (z : CallState) → same_who a (who s) ≡ false → m.in_hand a ≡ Some z → IsClient z.call.actor → find_key client_key (client_of z.call) R.clients ≡ find_key client_key (client_of z.call) m.cluster.clients)
      (makes : (a : Who) (z : CallState) (k : ℕ) (e : Entry) → same_who a (who s) ≡ false → m.in_hand a ≡ Some z → entry_of k m.cluster.entries ≡ Some e → e.making ≡ Some z.call → IsSome (entry_of k R.entries))
      (homes : (a : ActorName) (h : HandleView) → Contains (m.tables a).handles h → find_key client_key (number_of a) R.clients ≡ find_key client_key (number_of a) m.cluster.clients) where
    swept_later : IsLaterRecord m (swept R) (put_who m.in_hand (who s) None)
    swept_later = record {
      up = up;
      incarnations = incarnations;
      first_calls = first_calls;
      last = last;
      rises = IdentitiesRise-filter (stays R.moment) R.entries rises;
      up_to = subst (λ i. AllUpTo i (filter (stays R.moment) R.entries)) (sym last) (AllUpTo-filter (stays R.moment) m.cluster.last_identity R.entries up_to);
      swept = AllStay-swept R.moment R.entries;
      later = left_later m R rises later;
      none_live = none_live;
      clients = clients;
      was_held = λ a z left. left_other s m a z left (λ other at. at);
      dead = dead;
      live = λ a z left. left_other s m a z left (λ other at. live a z other at);
      lives = λ a z left. left_other s m a z left (λ other at. lives a z other at);
      makes = λ a z k e left was by. makes_still m R rises later k e z.call was by (left_other s m a z left (λ other at. makes a z k e other at was by));
      homes = homes;
      owners = λ k sh d own. put_who-other m.in_hand (who s) None (who own.state) (owner_apart k sh d own);
      markers = λ k marks there own. put_who-other m.in_hand (who s) None (who own.state) (marker_apart k marks own);
      holders = λ k active d there own. put_who-other m.in_hand (who s) None (who own.state) (holder_apart k active d own);
      makers = λ k d there own. put_who-other m.in_hand (who s) None (who own.state) (maker_apart k d own);
    }

    pub swept_keeps : InvariantIn shapes (record (with_record m (swept R)) { in_hand = put_who m.in_hand (who s) None })
    swept_keeps = record_keeps m shapes inv (swept R) (put_who m.in_hand (who s) None) swept_later

  -- one entry was changed
  pub changed_keeps : (k : ℕ) (f : Entry → Entry) → KeepsIdentity f → ((e : Entry) → entry_of k m.cluster.entries ≡ Some e → IsLaterEntry m.cluster.up e (f e)) → InvariantIn shapes (record (with_record m (swept (record m.cluster { entries = change_key identity_of k f m.cluster.entries }))) { in_hand = put_who m.in_hand (who s) None })
  changed_keeps k f keeps later = swept_keeps (record m.cluster { entries = change_key identity_of k f m.cluster.entries })
      (IdentitiesRise-change_key f keeps k m.cluster.entries inv.rises) (AllUpTo-change_key f keeps m.cluster.last_identity k m.cluster.entries inv.up_to) refl refl refl refl
      (ComesOf-change_found (IsLaterEntry m.cluster.up) (IsLaterEntry-refl m.cluster.up) f keeps k m.cluster.entries later) inv.none_live inv.clients (λ d dead. dead.gone)
      (λ a z other at live. live) (λ a z other at client. refl) (λ a z j e other at was by. there_still f keeps k j m.cluster.entries e was) (λ a h among. refl)
