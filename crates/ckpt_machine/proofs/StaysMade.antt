-- A checkpoint that is made stays as it was made, whatever step the record takes but the setting of its active; and also behind that it stays made.
use Rattle.std.proofs.Common.{◌≡◌, ◌⊎◌, ℕ, ◌+◌, ◌-◌, ◌≤◌, inl, inr, List, [], ◌∷◌, ◌++◌, filter, Option, Some, None, Bool, true, false, cond, not, ◌==◌, ℤ, refl, sym, ap, subst, ◌∙◌, arith}
use Rattle.std.specs.Prelude.{IsSomeAnd, slice_index, slice_set}
use Rattle.std.proofs.lemmas.Bool.{eqb-true}
use Rattle.std.proofs.lemmas.Option.{same_Some}
use Rattle.ckpt_types.specs.declared.answers.Outcome.{Outcome}
use Rattle.ckpt_types.specs.declared.attributes.CreationAttributes.{CreationAttributes}
use Rattle.ckpt_types.specs.declared.identities.CallId.{CallId}
use Rattle.node_msgs.specs.declared.steps.Verb.{Verb}
use Rattle.node_msgs.specs.declared.steps.Verb.TheVariants as verbs
use Rattle.node_msgs.specs.declared.steps.StepReply.{StepReply}
use Rattle.node_msgs.specs.declared.steps.StepReply.TheVariants as words
use Rattle.node_msgs.specs.declared.details.Details.{Details}
use Rattle.cluster_record.specs.declared.entries.Entry.{Entry}
use Rattle.cluster_record.specs.Identities.{IdentitiesRise, AllUpTo}
use Rattle.cluster_record.specs.Places.{change_key}
use Rattle.cluster_record.specs.RecordState.{RecordState, entry_of, identity_of, stays, swept, created_as, new_entry, home_of, made_with, opened_with, unreferred, released_all, retaining, is_call_of, departed, has_references, can_be_held, with_hold}
use Rattle.cluster_record.proofs.IdentityLaws.{KeepsIdentity, IdentitiesRise-change_key, IdentitiesRise-filter, IdentitiesRise-map, IdentitiesRise-push}
use Rattle.ckpt_types.specs.Asks.{Ask}
use Rattle.ckpt_types.specs.Asks as asks
use Rattle.ckpt_machine.specs.Guards.{Row}
use Rattle.ckpt_machine.specs.Invariant.{Invariant}
use Rattle.ckpt_machine.specs.Machine.{Machine, CallState}
use Rattle.cluster_record.specs.Placement.{is_collocated}
use Rattle.ckpt_machine.specs.Shape.{IsCompleteOn}
use Rattle.ckpt_machine.specs.After.{created_for, retained_for}
use Rattle.ckpt_machine.proofs.OwnMaking.{making_there}
use Rattle.ckpt_machine.proofs.Entries.{ComesOf-filter, ComesOf-change_key, ComesOf-map, ComesOf-then}
use Rattle.ckpt_machine.proofs.EntryLists.{find_key-key, find_key-change_key}
use Rattle.ckpt_machine.proofs.OptionLemmas.{IsSomeAnd-at}
use Rattle.ckpt_machine.proofs.Joining.{joined-making, joined-active, joined-attributes, joined-made, joined-generation, joined-placed, joined-complete}
use Rattle.ckpt_machine.proofs.References.{released_all-identity}

-- it is made with the same active and the same generation, and declares the same; it is on the same nodes, and a collocated one maybe on more
pub record IsMadeAs (e f : Entry) : Type 0 where
  pub made : f.making ≡ None
  pub generation : f.generation ≡ e.generation
  pub complete : is_collocated e.attributes ≡ false → f.complete ≡ e.complete
  pub remains : (r : ℕ) → IsCompleteOn e r → IsCompleteOn f r
  pub active : f.active ≡ e.active
  pub attributes : f.attributes ≡ e.attributes

-- it stays made, where it is; and it declares the same, and is of the same moment
pub record StaysMade (e f : Entry) : Type 0 where
  pub made : e.making ≡ None → IsMadeAs e f
  pub attributes : f.attributes ≡ e.attributes
  pub since : f.made ≡ e.made

pub StaysMade-same : (e : Entry) → StaysMade e e
StaysMade-same e = record { made = λ made. record { made = made; generation = refl; complete = λ apart. refl; remains = λ r there. there; active = refl; attributes = refl }; attributes = refl; since = refl }

-- where none of that is changed
pub StaysMade-kept : (e f : Entry) → f.making ≡ e.making → f.complete ≡ e.complete → f.active ≡ e.active → f.attributes ≡ e.attributes → f.made ≡ e.made → f.generation ≡ e.generation → StaysMade e f
StaysMade-kept e f making complete active attributes since generation = record {
  made = λ made. record {
    made = making ∙ made;
    generation = generation;
    complete = λ apart. complete;
    remains = λ r there. subst (λ (nodes : List ℕ). (slice_index nodes r == 0) ≡ false) (sym complete) there;
    active = active;
    attributes = attributes;
  };
  attributes = attributes;
  since = since;
}

pub StaysMade-then : (e f g : Entry) → StaysMade e f → StaysMade f g → StaysMade e g
StaysMade-then e f g first second = record {
  made = λ made.
      let between = first.made made in
      let later = second.made between.made in
      record {
        made = later.made;
        generation = later.generation ∙ between.generation;
        complete = λ apart. later.complete (ap is_collocated between.attributes ∙ apart) ∙ between.complete apart;
        remains = λ r there. later.remains r (between.remains r there);
        active = later.active ∙ between.active;
        attributes = later.attributes ∙ between.attributes;
      };
  attributes = second.attributes ∙ first.attributes;
  since = second.since ∙ first.since;
}

-- ---- what a checkpoint keeps that may get another active

-- it is made, of no lower generation; and while this stays its active is the one that it was
pub record IsMadeFrom (e f : Entry) : Type 0 where
  pub made : f.making ≡ None
  pub generation : e.generation ≤ f.generation
  pub active : f.generation ≡ e.generation → f.active ≡ e.active

-- where it is made it is such a one; and it declares the same, and is of the same moment
pub record GoesOnMade (e f : Entry) : Type 0 where
  pub made : e.making ≡ None → IsMadeFrom e f
  pub attributes : f.attributes ≡ e.attributes
  pub since : f.made ≡ e.made

-- one that stays made goes on so
pub StaysMade-goes : (e f : Entry) → StaysMade e f → GoesOnMade e f
StaysMade-goes e f stays = record {
  made = λ made.
      let still = stays.made made in
      record {
        made = still.made;
        generation = (let same = still.generation in omega (arith, same));
        active = λ same. still.active;
      };
  attributes = stays.attributes;
  since = stays.since;
}

-- what was made is made still, declares the same, and is complete on the nodes on which it was, but for those that are gone
pub record RemainsBut (Gone : ℕ → Type 0) (e f : Entry) : Type 0 where
  pub made : e.making ≡ None → f.making ≡ None
  pub attributes : f.attributes ≡ e.attributes
  pub complete : (r : ℕ) → (Gone r → ⊥) → IsCompleteOn e r → IsCompleteOn f r

-- as each does that stays as it is
pub GoesOnMade-same : (e : Entry) → GoesOnMade e e
GoesOnMade-same e = StaysMade-goes e e (StaysMade-same e)

-- ---- what the steps of the record leave

-- whether a call can hold it or not
pub held_made : (call : CallId) (e : Entry) → StaysMade e (with_hold call e)
held_made call e = elim (can_be_held e) as (λ b. StaysMade e (cond b (record e { hold = Some call }) e)) [ true ↦ StaysMade-kept e (record e { hold = Some call }) refl refl refl refl refl refl | false ↦ StaysMade-same e ]

-- a hold leaves the identity as it is
pub held-identity : (call : CallId) (e : Entry) → (with_hold call e).identity ≡ e.identity
held-identity call e = elim (can_be_held e) as (λ b. (cond b (record e { hold = Some call }) e).identity ≡ e.identity) [ true ↦ refl | false ↦ refl ]

-- whether any references are left or not
left_made : (e : Entry) (t : ℤ) (references : List ℕ) (none left : Bool) → StaysMade e (cond none e (cond left (record e { references = references }) (record e { references = references; idle = t })))
left_made e t references true left = StaysMade-same e
left_made e t references false true = StaysMade-kept e (record e { references = references }) refl refl refl refl refl refl
left_made e t references false false = StaysMade-kept e (record e { references = references; idle = t }) refl refl refl refl refl refl

pub released_made : (c : ℕ) (t : ℤ) (e : Entry) → StaysMade e (unreferred c t e)
released_made c t e = left_made e t (slice_set e.references c (slice_index e.references c - 1)) (slice_index e.references c == 0) (has_references (record e { references = slice_set e.references c (slice_index e.references c - 1) }))

pub released_all_made : (c : ℕ) (t : ℤ) (e : Entry) → StaysMade e (released_all c t e)
released_all_made c t e = left_made e t (slice_set e.references c 0) (slice_index e.references c == 0) (has_references (record e { references = slice_set e.references c 0 }))

-- an open may add a node
pub opened_made : (opener : ℕ) (up : List ℕ) (c : ℕ) (e : Entry) → StaysMade e (opened_with opener up c e)
opened_made opener up c e = record {
  made = λ made. record {
    made = joined-making opener up e ∙ made;
    generation = joined-generation opener up e;
    complete = joined-placed opener up e;
    remains = joined-complete opener up e;
    active = joined-active opener up e;
    attributes = joined-attributes opener up e;
  };
  attributes = joined-attributes opener up e;
  since = joined-made opener up e;
}

-- what a step makes of the record, of this checkpoint
pub record MadeOn (k : ℕ) (R S : RecordState) : Type 0 where
  pub last : R.last_identity ≤ S.last_identity
  pub rises : IdentitiesRise S.entries
  pub made : (f : Entry) → entry_of k S.entries ≡ Some f → (e : Entry) × (entry_of k R.entries ≡ Some e) × StaysMade e f

pub MadeOn-swept : (k : ℕ) (R S : RecordState) → MadeOn k R S → MadeOn k R (swept S)
MadeOn-swept k R S on = record {
  last = on.last;
  rises = IdentitiesRise-filter (stays S.moment) S.entries on.rises;
  made = λ f found.
      let (g, between, same) = ComesOf-filter (λ e f. e ≡ f) (λ e. refl) (stays S.moment) S.entries on.rises k f found in
      let (e, was, keeps) = on.made g between in
      (e, was, subst (StaysMade e) same keeps);
}

module _ (k : ℕ) (R : RecordState) (given : k ≤ R.last_identity) (rises : IdentitiesRise R.entries) (up_to : AllUpTo R.last_identity R.entries) where
  pub same_on : MadeOn k R R
  same_on = record { last = omega arith; rises = rises; made = λ f found. (f, found, StaysMade-same f) }

  pub changed_on : (j : ℕ) (f : Entry → Entry) → KeepsIdentity f → ((e : Entry) → StaysMade e (f e)) → MadeOn k R (record R { entries = change_key identity_of j f R.entries })
  changed_on j f keeps made = record {
    last = omega arith;
    rises = IdentitiesRise-change_key f keeps j R.entries rises;
    made = ComesOf-change_key StaysMade StaysMade-same f keeps made j R.entries k;
  }

  pub filter_on : (p : Entry → Bool) → MadeOn k R (record R { entries = filter p R.entries })
  filter_on p = record { last = omega arith; rises = IdentitiesRise-filter p R.entries rises; made = ComesOf-filter StaysMade StaysMade-same p R.entries rises k }

  pub departed_on : (c : ℕ) → MadeOn k R (departed c R)
  departed_on c = record {
    last = omega arith;
    rises = IdentitiesRise-map (released_all c R.moment) (released_all-identity c R.moment) (filter others R.entries) (IdentitiesRise-filter others R.entries rises);
    made = ComesOf-then StaysMade StaysMade StaysMade StaysMade-then R.entries (filter others R.entries) (departed c R).entries (ComesOf-filter StaysMade StaysMade-same others R.entries rises)
        (ComesOf-map StaysMade (released_all c R.moment) (released_all-identity c R.moment) (released_all_made c R.moment) (filter others R.entries)) k;
  }
    where
      others : Entry → Bool
      others e = not (is_call_of c e.making)

  -- an entry that is found was there, or is the new one
  found_push : (es : List Entry) (new e : Entry) → entry_of k (es ++ new ∷ []) ≡ Some e → (entry_of k es ≡ Some e) ⊎ (new ≡ e)
  found_push [] new e found = elim (new.identity == k) as (λ b. cond b (Some new) None ≡ Some e → (entry_of k [] ≡ Some e) ⊎ (new ≡ e)) [ true ↦ λ here. inr (same_Some new e here) | false ↦ λ none. absurd (cc none) ] found
  found_push (x ∷ xs) new e found = elim (x.identity == k) as (λ b. cond b (Some x) (entry_of k (xs ++ new ∷ [])) ≡ Some e → (cond b (Some x) (entry_of k xs) ≡ Some e) ⊎ (new ≡ e)) [
    | true ↦ λ here. inl here
    | false ↦ λ there. found_push xs new e there
  ] found

  -- a new one has another identity
  created_on : (call : CallId) (name : List ℕ) (a : Option CreationAttributes) → MadeOn k R (created_as call name a R)
  created_on call name None = same_on
  created_on call name (Some a) = record {
    last = omega arith;
    rises = IdentitiesRise-push R.last_identity R.entries (new_entry call name a R) rises up_to (omega arith);
    made = λ f found. elim (found_push R.entries (new_entry call name a R) f found) [
      | inl was ↦ (f, was, StaysMade-same f)
      | inr new ↦ absurd (
          let is : R.last_identity + 1 ≡ k = ap (λ (e : Entry). e.identity) new ∙ find_key-key identity_of k (R.entries ++ new_entry call name a R ∷ []) f found in
          omega (arith, is, given))
    ];
  }

  -- what was in the making is not this one
  pub finished_on : (call : CallId) (j c : ℕ) → IsSomeAnd (entry_of j R.entries) (λ e. e.making ≡ Some call) → MadeOn k R (record R { entries = change_key identity_of j (made_with (home_of c R) R.up c) R.entries })
  finished_on call j c by = record {
    last = omega arith;
    rises = IdentitiesRise-change_key (made_with (home_of c R) R.up c) (λ e. refl) j R.entries rises;
    made = λ f found.
        let (x, there, making) = IsSomeAnd-at (entry_of j R.entries) (λ e. e.making ≡ Some call) by in
        elim (k == j) as (λ b. (k == j) ≡ b → cond b (Some (made_with (home_of c R) R.up c x)) (entry_of k R.entries) ≡ Some f → (e : Entry) × (entry_of k R.entries ≡ Some e) × StaysMade e f) [
          | true ↦ λ same here. (
            x,
            subst (λ i. entry_of i R.entries ≡ Some x) (sym (eqb-true k j same)) there,
            record {
              made = λ none. absurd (let w : Some call ≡ None = sym making ∙ none in cc w);
              attributes = ap (λ (e : Entry). e.attributes) (sym (same_Some (made_with (home_of c R) R.up c x) f here));
              since = ap (λ (e : Entry). e.made) (sym (same_Some (made_with (home_of c R) R.up c x) f here));
            },
          )
          | false ↦ λ other here. (f, here, StaysMade-same f)
        ] refl (sym (find_key-change_key identity_of j k (made_with (home_of c R) R.up c) (λ e. refl) R.entries x there) ∙ found);
  }

  -- by what is asked for
  pub created_for_on : (call : CallId) (ask : Ask) → MadeOn k R (created_for call ask R)
  created_for_on call (asks.Open place name flags timeout a) = created_on call name a
  created_for_on call ask = same_on

  pub retained_for_on : (ask : Ask) (j : ℕ) → MadeOn k R (retained_for ask j R)
  retained_for_on (asks.Retain place duration) j = changed_on j (retaining duration) (λ e. refl) (λ e. StaysMade-kept e (retaining duration e) refl refl refl refl refl refl)
  retained_for_on ask j = same_on

-- ---- a step's row

-- what a step needs of its row: what it finishes was in the making by its call
abbrev pub StepNeeds : RecordState → CallId → Verb → Option ℕ → StepReply → Type 0
StepNeeds R call verbs.Finish (Some j) words.Ok = IsSomeAnd (entry_of j R.entries) (λ e. e.making ≡ Some call)
StepNeeds R call verb j reply = Unit {0}

pub row_needs : (m : Machine) → Invariant m → (s : CallState) (verb : Verb) (j q : Option ℕ) (reply : StepReply) (end : Option Outcome) (details : Details) → Row m s verb (record { verb = verb; ckpt = j; node = q; reply = reply; end = end; details = details }) → StepNeeds m.cluster s.call verb j reply
row_needs m inv s verbs.Finish (Some j) None words.Ok end details row = making_there m.cluster inv.holds.rises s.call j row.0.3.0
row_needs m inv s verbs.Finish (Some j) (Some q) words.Ok end details row = absurd row.0
row_needs m inv s verb j q reply end details row = tt
