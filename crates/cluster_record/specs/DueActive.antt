-- What a call to the active replica does next, by its own steps and the record.
use Rattle.std.specs.Prelude.{ℕ, ◌-◌, Option, Some, None, Bool, true, false, not, ◌&&◌, ◌==◌, if◌then◌else◌}
use Rattle.ckpt_types.specs.declared.ais_error.AisError.TheVariants.{NotExist, NoResources, TryAgain}
use Rattle.ckpt_types.specs.declared.answers.Answer.{Answer}
use Rattle.ckpt_types.specs.declared.answers.Cause.TheVariants.{Plain, Count, Holder, Generations}
use Rattle.ckpt_types.specs.declared.answers.Outcome.{Outcome}
use Rattle.ckpt_types.specs.declared.answers.Outcome.TheVariants.{Done, Refused}
use Rattle.ckpt_types.specs.declared.identities.CallId.{CallId}
use Rattle.ckpt_types.specs.Limits.{iterations_max}
use Rattle.node_msgs.specs.declared.requests.Request.{Request}
use Rattle.node_msgs.specs.declared.requests.Request.TheVariants as requests
use Rattle.node_msgs.specs.declared.next.Next.{Next}
use Rattle.node_msgs.specs.declared.next.Next.TheVariants.{Serve, End}
use Rattle.node_msgs.specs.declared.steps.Verb.{Verb}
use Rattle.node_msgs.specs.declared.steps.Verb.TheVariants as verbs
use Rattle.node_msgs.specs.declared.steps.StepReply.{StepReply}
use Rattle.node_msgs.specs.declared.steps.StepReply.TheVariants as words
use Rattle.cluster_record.specs.declared.entries.Entry.{Entry}
use Rattle.cluster_record.specs.declared.calls.ActiveKind.{ActiveKind}
use Rattle.cluster_record.specs.declared.calls.ActiveKind.TheVariants as kinds
use Rattle.cluster_record.specs.declared.calls.MarksMade.{MarksMade}
use Rattle.cluster_record.specs.RecordState.{RecordState, entry_of}
use Rattle.cluster_record.specs.StepDone.{StepDone}

-- what a call to the active keeps: for a weak write the marks that it has made there, once it has
pub record ActiveState : Type 0 where
  pub call : CallId
  pub ckpt : ℕ
  pub kind : ActiveKind
  pub marks : Option MarksMade

-- a call that begins
abbrev pub active_begun : CallId → ℕ → ActiveKind → ActiveState
active_begun call k kind = record { call = call; ckpt = k; kind = kind; marks = None }

-- ---- what it asks for

-- a weak write asks for its marks, then for one element after the other, and for the end of its marks where none is left
abbrev pub weak_request : CallId → ℕ → Option MarksMade → Request
weak_request call k None = requests.Mark call k
weak_request call k (Some marks) = if marks.left == 0 then requests.Unmark call k else requests.Element call k

-- what it asks of the active
abbrev pub request_by : CallId → ℕ → ActiveKind → Option MarksMade → Request
request_by call k kinds.Apply marks = requests.Apply call k
request_by call k (kinds.Weak n) marks = weak_request call k marks
request_by call k kinds.Read marks = requests.Read k
request_by call k kinds.Status marks = requests.Status k
request_by call k (kinds.Iterate choice) marks = requests.Iterate call k choice
request_by call k kinds.Next marks = requests.Next call k

-- the request with which the active is asked
abbrev pub active_request : ActiveState → Request
active_request a = request_by a.call a.ckpt a.kind a.marks

-- it starts an iteration, for which its client needs a free place
abbrev pub starts_iteration : ActiveKind → Bool
starts_iteration (kinds.Iterate choice) = true
starts_iteration kind = false

-- it changes the sections
abbrev pub is_update : ActiveKind → Bool
is_update kinds.Apply = true
is_update (kinds.Weak n) = true
is_update kind = false

-- ---- what is next

-- a hold on the checkpoint has an update try again, with the call whose it is
abbrev pub unless_on_hold : ActiveKind → Option CallId → Next → Next
unless_on_hold kind None next = next
unless_on_hold kind (Some holder) next = if is_update kind then End (Refused TryAgain (Holder holder)) else next

-- where the generation is another than that in which the call made its marks, they are gone, and it is to try again
abbrev pub unless_changed : Option MarksMade → ℕ → Next → Next
unless_changed None generation next = next
unless_changed (Some marks) generation next = if marks.generation == generation then next else End (Refused TryAgain (Generations marks.generation generation))

-- the active is asked, where there is one, unless a hold or another generation has the call try again; an iteration starts only where its client has
-- room for one more
abbrev pub on_active : Bool → ActiveState → ℕ → Option CallId → Option ℕ → Next
on_active room a generation hold None = End (Refused NotExist Plain)
on_active room a generation hold (Some r) =
    if starts_iteration a.kind && not room then End (Refused NoResources (Count iterations_max))
    else unless_on_hold a.kind hold (unless_changed a.marks generation (Serve r (active_request a)))

-- what is next by the checkpoint's entry; a checkpoint that is gone is refused with NOT_EXIST
abbrev pub active_on : Bool → ActiveState → Option Entry → Next
active_on room a None = End (Refused NotExist Plain)
active_on room a (Some e) = on_active room a e.generation e.hold e.active

-- what is next of a call to the active, by the record and by whether its client has room for an iteration
abbrev pub active_next : RecordState → Bool → ActiveState → Next
active_next R room a = active_on room a (entry_of a.ckpt R.entries)

-- ---- behind a step

-- so many elements are to be done of what is asked for
abbrev pub elements_of_kind : ActiveKind → ℕ
elements_of_kind (kinds.Weak n) = n
elements_of_kind kind = 0

-- the marks behind an element: one less is left
abbrev pub element_taken : Option MarksMade → Option MarksMade
element_taken None = None
element_taken (Some marks) = Some (record marks { left = marks.left - 1 })

-- where marks are made, all elements are left; behind each element one less
abbrev pub marks_taken : StepDone → ActiveKind → Verb → StepReply → Option MarksMade → Option MarksMade
marks_taken d kind verbs.Mark words.Ok marks = Some (record { generation = d.generation; left = elements_of_kind kind })
marks_taken d kind verbs.Element words.Ok marks = element_taken marks
marks_taken d kind verb reply marks = marks

-- what the call keeps behind a step
abbrev pub active_taken : StepDone → ActiveState → ActiveState
active_taken d a = record a { marks = marks_taken d a.kind d.verb d.reply a.marks }

-- how a call ends by a reply that was done: the marks of a weak write and its elements leave it going on
abbrev pub active_end : Answer → Verb → Option Outcome
active_end answer verbs.Mark = None
active_end answer verbs.Element = None
active_end answer verb = Some (Done answer)
