-- An open of a checkpoint that is there: its client has one reference more, and the handle once its call has ended; a collocated one has a replica on its client's node.
use Rattle.std.proofs.Common.{◌≡◌, ℕ, ◌+◌, ◌<◌, arith, length, Option, Some, None, Bool, true, false, cond, not, ◌==◌, nat_lt, refl, sym, ap, subst, ◌∙◌}
use Rattle.std.specs.Prelude.{IfSome, slice_index}
use Rattle.std.proofs.lemmas.Bool.{eq-eqb, ltb-true, and_parts}
use Rattle.std.proofs.lemmas.Option.{same_Some}
use Rattle.cluster_record.specs.Calls.{IsClient, client_of}
use Rattle.cluster_record.specs.Makings.{makings_of}
use Rattle.cluster_record.proofs.MakingCounts.{makings_of-swept, makings_of-opened}
use Rattle.ckpt_types.specs.Limits.{handles_max}
use Rattle.cluster_record.specs.Placement.{is_collocated}
use Rattle.cluster_record.specs.declared.entries.Entry.{Entry}
use Rattle.cluster_record.specs.RecordState.{RecordState, identity_of, entry_of, is_live_client, home_of, stays, opened_with, opened, swept}
use Rattle.cluster_record.proofs.IdentityLaws.{KeepsIdentity, IdentitiesRise-change_key}
use Rattle.ckpt_machine.specs.Entries.{WasMade}
use Rattle.ckpt_machine.specs.Invariant.{IsGoodIn, InvariantIn, Invariant}
use Rattle.ckpt_machine.specs.Machine.{Machine, CallState, who}
use Rattle.ckpt_machine.specs.After.{with_given, record_step}
use Rattle.ckpt_machine.specs.Due.{driver_of}
use Rattle.ckpt_machine.specs.Shape.{Shape, IsCompleteOn, IsSpread}
use Rattle.ckpt_machine.specs.Later.{IsLaterEntry}
use Rattle.ckpt_machine.proofs.Entries.{ComesOf, ComesOf-change_found, ComesOf-filter, ComesOf-then}
use Rattle.ckpt_machine.proofs.EntryLists.{entry_of-given, find_key-change_key}
use Rattle.ckpt_machine.proofs.Handles.{IsGivable}
use Rattle.ckpt_machine.proofs.OpenReady.{home_is_up}
use Rattle.ckpt_machine.proofs.OptionLemmas.{IfSome-from}
use Rattle.ckpt_machine.proofs.Moment.{IsLaterEntry-refl}
use Rattle.ckpt_machine.proofs.Joining.{joined-attributes, joined-here, opened_with-identity, opened_with-later}
use Rattle.ckpt_machine.proofs.OpenFacts.{given_ends}
use Rattle.ckpt_machine.proofs.PlainCalls.{is_plain, ending, IsLaterEntry-then, changed_keeps}

-- what is not true is false
pub not_not : (b : Bool) → not b ≡ true → b ≡ false
not_not true is = absurd (cc is)
not_not false is = refl

module _ (m : Machine) (shapes : ℕ → Shape) (inv : InvariantIn shapes m) (s : CallState) (held : m.in_hand (who s) ≡ Some s) (plain : is_plain (driver_of s) s.snapshot ≡ true) (client : IsClient s.call.actor) (live : is_live_client (client_of s.call) m.cluster ≡ true) (e : Entry) (there : entry_of e.identity m.cluster.entries ≡ Some e) (made : e.making ≡ None) where
  -- the client
  abbrev c : ℕ
  c = client_of s.call

  -- the record with the reference, swept
  abbrev R : RecordState
  R = swept (opened e.identity c m.cluster)

  -- what the open makes of its entry
  abbrev change : Entry → Entry
  change = opened_with (home_of c m.cluster) m.cluster.up c

  change-identity : KeepsIdentity change
  change-identity = opened_with-identity (home_of c m.cluster) m.cluster.up c

  -- its entry is a later one
  change-later : (x : Entry) → entry_of e.identity m.cluster.entries ≡ Some x → IsLaterEntry m.cluster.up x (change x)
  change-later x found = opened_with-later (home_of c m.cluster) m.cluster.up c x (ap (λ (y : Entry). y.making) (same_Some x e (sym found ∙ there)) ∙ made)

  -- the entries are later ones
  opened_later : ComesOf (IsLaterEntry m.cluster.up) m.cluster.entries R.entries
  opened_later = ComesOf-then (IsLaterEntry m.cluster.up) (IsLaterEntry m.cluster.up) (IsLaterEntry m.cluster.up) (IsLaterEntry-then m.cluster.up) m.cluster.entries (opened e.identity c m.cluster).entries R.entries
      (ComesOf-change_found (IsLaterEntry m.cluster.up) (IsLaterEntry-refl m.cluster.up) change change-identity e.identity m.cluster.entries change-later)
      (ComesOf-filter (IsLaterEntry m.cluster.up) (IsLaterEntry-refl m.cluster.up) (stays m.cluster.moment) (opened e.identity c m.cluster).entries (IdentitiesRise-change_key change change-identity e.identity m.cluster.entries inv.rises))

  -- it was made, and is
  was_made : WasMade R e.identity
  was_made = record {
    given = entry_of-given m.cluster.last_identity e.identity m.cluster.entries e inv.up_to there;
    made = by_entry (entry_of e.identity R.entries) refl;
  }
    where
      by_entry : (o : Option Entry) → entry_of e.identity R.entries ≡ o → IfSome o (λ x. x.making ≡ None)
      by_entry None gone = tt
      by_entry (Some f) found =
          let (g, was, later) = opened_later e.identity f found in
          later.making ∙ ap (λ (x : Entry). x.making) (same_Some g e (sym was ∙ there)) ∙ made

  -- a collocated one is complete on the client's node
  home_there : is_collocated (change e).attributes ≡ true → IsCompleteOn (change e) (home_of c m.cluster)
  home_there collocated =
      let up_there = home_is_up m shapes inv c live in
      let (below, some) = and_parts (nat_lt (home_of c m.cluster) 8) (not (slice_index m.cluster.up (home_of c m.cluster) == 0)) up_there in
      let spread : IsSpread m e.identity (shapes e.identity) e = subst (IsGoodIn m e.identity (shapes e.identity) e) made (inv.entries e.identity e there) in
      joined-here (home_of c m.cluster) m.cluster.up e (ap is_collocated (sym (joined-attributes (home_of c m.cluster) m.cluster.up e)) ∙ collocated) (subst (λ (n : ℕ). home_of c m.cluster < n) (sym spread.nodes) (ltb-true (home_of c m.cluster) 8 below)) (not_not (slice_index m.cluster.up (home_of c m.cluster) == 0) some)

  -- the client may be given a handle
  may_give : IsGivable R s.call.actor e.identity
  may_give = record {
    client = client;
    live = live;
    made = was_made;
    placed = IfSome-from (entry_of e.identity R.entries) _ (λ f found.
        let (g, was, same) = ComesOf-filter (λ x y. x ≡ y) (λ x. refl) (stays m.cluster.moment) (opened e.identity c m.cluster).entries (IdentitiesRise-change_key change change-identity e.identity m.cluster.entries inv.rises) e.identity f found in
        let here : entry_of e.identity (opened e.identity c m.cluster).entries ≡ Some (change e) = find_key-change_key identity_of e.identity e.identity change change-identity m.cluster.entries e there ∙ ap (λ b. cond b (Some (change e)) (entry_of e.identity m.cluster.entries)) (eq-eqb e.identity e.identity refl) in
        let f_is : change e ≡ f = same_Some (change e) f (sym here ∙ was ∙ ap Some same) in
        subst (λ (x : Entry). is_collocated x.attributes ≡ true → IsCompleteOn x (home_of c m.cluster)) f_is home_there);
  }

  -- the call ends, and its client has the handle, where there is room for it
  pub opened_keeps : length (m.tables s.call.actor).handles + makings_of c m.cluster.entries < handles_max → Invariant (ending s (with_given s e.identity (record_step (opened e.identity c) m)))
  opened_keeps room = record {
    shapes = shapes;
    holds = given_ends (record_step (opened e.identity c) m) shapes s e.identity (changed_keeps m shapes inv s held plain e.identity change change-identity change-later) may_give (
        let same : makings_of c R.entries ≡ makings_of c m.cluster.entries = makings_of-swept c (opened e.identity c m.cluster) ∙ makings_of-opened c m.cluster e.identity c in
        omega (arith, room, same));
  }
