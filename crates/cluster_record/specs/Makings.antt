-- The end of a making, by the call whose it is, and how many makings are of a client's calls.
use Rattle.std.specs.Prelude.{◌≡◌, ℕ, List, filter, length, Option, Some, None, Bool, false, find}
use Rattle.ckpt_types.specs.declared.identities.CallId.{CallId}
use Rattle.cluster_record.specs.declared.entries.Entry.{Entry}
use Rattle.cluster_record.specs.Calls.{same_call, client_of}
use Rattle.cluster_record.specs.LookUps.{identity_in}
use Rattle.cluster_record.specs.RecordState.{RecordState, entry_of, finished, undone, is_call_of}

-- the call that is making a checkpoint, where one is
abbrev pub making_call : Option Entry → Option CallId
making_call None = None
making_call (Some e) = e.making

-- the making of a checkpoint is finished for the client of this call; nothing changes where there is no call
abbrev pub finished_by : Option CallId → ℕ → RecordState → RecordState
finished_by None k R = R
finished_by (Some call) k R = finished k (client_of call) R

-- a making is finished, and the client of its call has the checkpoint open; what is not in the making stays
abbrev pub making_finished : ℕ → RecordState → RecordState
making_finished k R = finished_by (making_call (entry_of k R.entries)) k R

-- the making of a checkpoint is undone, if a call is making it
abbrev pub undone_by : Option CallId → ℕ → RecordState → RecordState
undone_by None k R = R
undone_by (Some call) k R = undone k R

-- a making is undone; what is not in the making stays
abbrev pub making_undone : ℕ → RecordState → RecordState
making_undone k R = undone_by (making_call (entry_of k R.entries)) k R

-- a call of this client is making it
abbrev pub IsOf : ℕ → Option CallId → Type 0
IsOf c None = ⊥
IsOf c (Some call) = client_of call ≡ c

-- the checkpoint, where one is meant, is in the making by a call of this client
abbrev pub IsMakingOf : RecordState → ℕ → Option ℕ → Type 0
IsMakingOf R c None = Unit {0}
IsMakingOf R c (Some k) = IsOf c (making_call (entry_of k R.entries))

-- the call that is making a checkpoint, where one is, is this one
abbrev pub is_by : CallId → Option CallId → Bool
is_by call None = false
is_by call (Some maker) = same_call maker call

-- the checkpoint that a call is making
abbrev pub making_of : CallId → RecordState → Option ℕ
making_of call R = identity_in (find (λ e. is_by call e.making) R.entries)

-- how many of the checkpoints are in the making by calls of this client
abbrev pub makings_of : ℕ → List Entry → ℕ
makings_of c entries = length (filter (λ (e : Entry). is_call_of c e.making) entries)
