-- The making of a call is undone, and the call ends: what holds of every other call and of every other checkpoint stays.
use Rattle.std.proofs.Common.{◌≡◌, ◌≢◌, ℕ, inl, inr, filter, Option, Some, None, Bool, true, false, cond, not, ◌==◌, refl, sym, ap, ◌∙◌}
use Rattle.std.specs.Prelude.{is_some, IsSome}
use Rattle.std.proofs.lemmas.Bool.{eq-eqb}
use Rattle.ckpt_types.specs.declared.identities.CallId.{CallId}
use Rattle.cluster_record.specs.declared.calls.Making.{Making}
use Rattle.cluster_record.specs.declared.entries.Entry.{Entry}
use Rattle.cluster_record.specs.DueOpen.{OpenState}
use Rattle.cluster_record.specs.RecordState.{RecordState, entry_of, identity_of, stays, swept, undone}
use Rattle.cluster_record.proofs.IdentityLaws.{IdentitiesRise-filter, AllUpTo-filter}
use Rattle.ckpt_machine.specs.Drivers as drivers
use Rattle.ckpt_machine.specs.Machine.{Machine, CallState, who}
use Rattle.ckpt_machine.specs.After.{record_step}
use Rattle.ckpt_machine.specs.Due.{driver_of}
use Rattle.ckpt_machine.specs.Shape.{Shape}
use Rattle.ckpt_machine.specs.Invariant.{IsMaker, InvariantIn, Invariant}
use Rattle.ckpt_machine.specs.Later.{IsLaterEntry, IsLaterRecord}
use Rattle.ckpt_machine.proofs.EntryLists.{find_key-key, find_key-without, AllStay-swept}
use Rattle.ckpt_machine.proofs.CallsKept.{apart_from}
use Rattle.ckpt_machine.proofs.Entries.{ComesOf, ComesOf-filter, ComesOf-then, found_filter}
use Rattle.ckpt_machine.proofs.Moment.{IsLaterEntry-refl, making_stays}
use Rattle.ckpt_machine.proofs.OwnMaking.{owner_apart, marker_apart, holder_apart, maker_same, entry_apart}
use Rattle.ckpt_machine.proofs.PlainCalls.{ending, IsLaterEntry-then}
use Rattle.ckpt_machine.specs.Whose.{put_who, same_who}
use Rattle.ckpt_types.specs.declared.identities.Who.{Who}
use Rattle.ckpt_machine.proofs.Whose.{same_who-true, put_who-cases, put_who-other}
use Rattle.ckpt_machine.proofs.RecordSteps.{record_keeps}

module _ (m : Machine) (shapes : ℕ → Shape) (inv : InvariantIn shapes m) (s : CallState) (o : OpenState) (making : Making) (held : m.in_hand (who s) ≡ Some s) (is : driver_of s ≡ drivers.Open o) (makes : o.making ≡ Some making) where
  -- the entry is another one
  abbrev others : Entry → Bool
  others e = not (e.identity == making.ckpt)

  -- the record without its entry, swept
  abbrev R : RecordState
  R = swept (undone making.ckpt m.cluster)

  -- the calls in hand without it
  abbrev left_hands : Who → Option CallState
  left_hands = put_who m.in_hand (who s) None

  -- the entries that are left
  undone_later : ComesOf (IsLaterEntry m.cluster.up) m.cluster.entries R.entries
  undone_later = ComesOf-then (IsLaterEntry m.cluster.up) (IsLaterEntry m.cluster.up) (IsLaterEntry m.cluster.up) (IsLaterEntry-then m.cluster.up) m.cluster.entries (filter others m.cluster.entries) R.entries
      (ComesOf-filter (IsLaterEntry m.cluster.up) (IsLaterEntry-refl m.cluster.up) others m.cluster.entries inv.rises)
      (ComesOf-filter (IsLaterEntry m.cluster.up) (IsLaterEntry-refl m.cluster.up) (stays m.cluster.moment) (filter others m.cluster.entries) (IdentitiesRise-filter others m.cluster.entries inv.rises))

  -- its own is gone
  own_gone : entry_of making.ckpt (filter others m.cluster.entries) ≡ None
  own_gone = find_key-without identity_of making.ckpt making.ckpt m.cluster.entries ∙ ap (λ b. cond b None (entry_of making.ckpt m.cluster.entries)) (eq-eqb making.ckpt making.ckpt refl)

  -- what another call makes is left
  makes_still : (z : CallState) → z.call ≢ s.call → (j : ℕ) (e : Entry) → entry_of j m.cluster.entries ≡ Some e → e.making ≡ Some z.call → IsSome (entry_of j R.entries)
  makes_still z other j e found by =
      let apart : (j == making.ckpt) ≡ false = entry_apart m shapes inv s o making held is makes j e z.call found by other in
      let identity : e.identity ≡ j = find_key-key identity_of j m.cluster.entries e found in
      ap is_some (found_filter (stays m.cluster.moment) j (filter others m.cluster.entries) e
      (found_filter others j m.cluster.entries e found (ap (λ n. not (n == making.ckpt)) identity ∙ ap not apart))
      (making_stays m.cluster.moment e (ap is_some by)))

  -- the maker of what is left is another
  maker_other : (j : ℕ) (d : CallId) → IsSome (entry_of j R.entries) → (own : IsMaker m j d) → same_who (who own.state) (who s) ≡ false
  maker_other j d there own = by_test (same_who (who own.state) (who s)) refl
    where
      by_test : (b : Bool) → same_who (who own.state) (who s) ≡ b → same_who (who own.state) (who s) ≡ false
      by_test false is_not = is_not
      by_test true same =
          let at_k : j ≡ making.ckpt = maker_same m s o held is making makes j d own (same_who-true (who own.state) (who s) same) in
          absurd (let gone = gone_still j (ap (λ n. entry_of n (filter others m.cluster.entries)) at_k ∙ own_gone) in let w : false ≡ true = sym (ap is_some gone) ∙ there in cc w)
        where
          -- what is gone is gone in a sweep
          gone_still : (j : ℕ) → entry_of j (filter others m.cluster.entries) ≡ None → entry_of j R.entries ≡ None
          gone_still j none = by_entry (entry_of j R.entries) refl
            where
              by_entry : (x : Option Entry) → entry_of j R.entries ≡ x → entry_of j R.entries ≡ None
              by_entry None gone = gone
              by_entry (Some f) found =
                  let (e, was, later) = ComesOf-filter (IsLaterEntry m.cluster.up) (IsLaterEntry-refl m.cluster.up) (stays m.cluster.moment) (filter others m.cluster.entries) (IdentitiesRise-filter others m.cluster.entries inv.rises) j f found in
                  absurd (let w : None ≡ Some e = sym none ∙ was in cc w)

  -- another's, where it is left
  left_other : {P : Type 0} → (a : Who) (z : CallState) → left_hands a ≡ Some z → (same_who a (who s) ≡ false → m.in_hand a ≡ Some z → P) → P
  left_other {P} a z left then_it = elim (put_who-cases m.in_hand (who s) None a z left) [
    | inl here ↦ absurd (let w : None ≡ Some z = here.1 in cc w)
    | inr other ↦ then_it other.0 other.1
  ]

  -- the record is later than it was
  later : IsLaterRecord m R left_hands
  later = record {
    up = refl;
    incarnations = refl;
    first_calls = refl;
    last = refl;
    rises = IdentitiesRise-filter (stays m.cluster.moment) (filter others m.cluster.entries) (IdentitiesRise-filter others m.cluster.entries inv.rises);
    up_to = AllUpTo-filter (stays m.cluster.moment) m.cluster.last_identity (filter others m.cluster.entries) (AllUpTo-filter others m.cluster.last_identity m.cluster.entries inv.up_to);
    swept = AllStay-swept m.cluster.moment (filter others m.cluster.entries);
    later = undone_later;
    none_live = inv.none_live;
    clients = inv.clients;
    was_held = λ a z left. left_other a z left (λ other at. at);
    dead = λ d dead. dead.gone;
    live = λ a z left live. live;
    lives = λ a z left client. refl;
    makes = λ a z j e left found by. left_other a z left (λ other at. makes_still z (apart_from m.in_hand m.pending m.next inv.calls s held a z at other) j e found by);
    owners = λ j sh d own. put_who-other m.in_hand (who s) None (who own.state) (owner_apart m s o held is j sh d own);
    markers = λ j marks there own. put_who-other m.in_hand (who s) None (who own.state) (marker_apart m s o held is j marks own);
    homes = λ a h among. refl;
    holders = λ j active d there own. put_who-other m.in_hand (who s) None (who own.state) (holder_apart m s o held is j active d own);
    makers = λ j d there own. put_who-other m.in_hand (who s) None (who own.state) (maker_other j d there own);
  }

  -- the invariant holds after it
  pub undone_keeps : Invariant (ending s (record_step (undone making.ckpt) m))
  undone_keeps = record { shapes = shapes; holds = record_keeps m shapes inv R left_hands later }
