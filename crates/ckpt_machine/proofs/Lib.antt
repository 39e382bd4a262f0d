pub mod ActiveBy
pub mod AsyncNames
pub mod ByActor
pub mod ByNumber
pub mod FewEntries
pub mod CopyLeft
pub mod CopyNearer
mod FewSteps
pub mod HeldIdentity
pub mod MostSteps
pub mod PendingNames
pub mod OnComplete
mod CopyHand
mod CopyFrame
mod CopyLacks
mod CopyReserve
mod CopyLook
mod CopyPulled
mod CopyPull
mod CopyPullStaged
mod CompletedEntry
mod CompletedRecord
mod CompletingFrame
mod CompletingActive
mod CompletingStaged
mod CopyMoves
mod DueReady
mod CopyReady
pub mod Handles
pub mod Served
pub mod Sync
pub mod Installing
pub mod Propagated
pub mod Deadlines
pub mod NextOf
pub mod Calls
pub mod CallsKept
pub mod Lives
pub mod HasUpdates
pub mod CallsPending
pub mod Refusing
pub mod Endings
pub mod Begun
pub mod Commit
pub mod Finished
pub mod StepsLeft
pub mod Moment
pub mod Replaying
pub mod NodeLists
pub mod Owning
pub mod Joining
pub mod JoinedNodes
pub mod AsyncCalls
pub mod DroppedCalls
pub mod Closing
pub mod Leaving
pub mod FewerCalls
pub mod FewerMakings
pub mod KeptLists
pub mod RecordSteps
pub mod SixFacts
pub mod Stage
pub mod StagedMoment
pub mod StaysMade
pub mod CompletedMade
pub mod StepsMade
pub mod StepsRemain
pub mod CopyCommits
pub mod Completions
pub mod EachThere
pub mod SameNodes
pub mod AtRest
pub mod ClientTables
pub mod AllOrNone
pub mod Update
pub mod UpdateIn
mod CopiesStay
mod Lacking
mod NodeCalls
mod LaterIncarnations
pub mod Start
pub mod Starting
pub mod UpdateReady
pub mod OtherCalls
pub mod Entries
pub mod PlainCalls
mod ChangedHands
mod HandleCounts
mod HandleNumbers
mod ReferenceCounts
mod Referring
mod ReferenceSteps
mod ReferenceRows
mod ChangedTables
mod ClosingCalls
mod FailedReferences
mod ReferencesKept
mod ReferenceExamples
mod LeftPending
pub mod OwedLabels
pub mod OwedLists
pub mod OwedCalls
pub mod OwedBegun
pub mod OwedSteps
pub mod Callbacks
pub mod EndedAsync
pub mod EndedTables
pub mod OneReplica
pub mod OnAll
pub mod OneStepCalls
pub mod Enter
pub mod UpdateStays
pub mod Acknowledged
pub mod AcknowledgedExamples
pub mod ClaimExamples
pub mod BegunBefore
pub mod Copying
pub mod BegunOnce
pub mod GoodArguments
pub mod UpdateAnswers
pub mod Activating
pub mod Active
pub mod ActiveNode
pub mod ActiveSteps
pub mod MarksAt
pub mod ReservedUnder
pub mod Targets
pub mod OnTheActive
pub mod Weak
pub mod Apply
pub mod Beginnings
pub mod BeginRows
pub mod BeginExamples
pub mod BroughtUp
pub mod OwnCheckpoint
pub mod Lawful
pub mod Counting
pub mod Facts
pub mod Nearer
pub mod OptionLemmas
pub mod Actors
pub mod Askers
pub mod CopyingHands
pub mod CopyingLeft
pub mod CopiesTold
pub mod LabelsLeave
pub mod Whose
pub mod Dropped
pub mod DueStep
pub mod StepLabels
pub mod EntryLists
pub mod Runs
pub mod Quiet
pub mod RunLaws
pub mod AskedFor
pub mod OpenFacts
pub mod OwnMaking
pub mod Reserved
pub mod Undone
pub mod Created
pub mod OpenThere
pub mod OpenAsking
pub mod OpenMaking
pub mod OpenSteps
pub mod References
pub mod OpenReady
pub mod Follows
pub mod HeldIn
pub mod HasHistory
pub mod StepHistory
pub mod Histories
pub mod RefusedRuns
pub mod RefusedRows
pub mod ElementsDone
pub mod Prefixes
pub mod Installed
pub mod EachReplica
pub mod PulledInHand
pub mod Generations
pub mod EffectsOnce
pub mod Growing
pub mod SyncSteps
pub mod Bringing
pub mod Synchronized
pub mod ActiveAhead
pub mod EffectsTell
pub mod OnlyAsked
pub mod OwnersInHand
pub mod UnderWay
pub mod SameClients
pub mod SettingHeld
pub mod ActivesSet
pub mod Causes
pub mod Promises
pub mod HeldBy
pub mod EntrySteps
pub mod SettingActive
pub mod NodeGone
pub mod FailedEntries
pub mod FailedClients
pub mod FailedCalls
pub mod FailedActive
pub mod FailedShape
pub mod FailedSpread
pub mod FailedHands
pub mod FailureLaw
pub mod SettleExamples
pub mod StaysExamples
pub mod DueRuns
pub mod CutRuns
pub mod JoinExamples
pub mod CopyExamples
pub mod CallbackRows
pub mod FailureExamples
pub mod Asking
pub mod GoingOn
pub mod OpenRoom
pub mod Readiness
pub mod Granted
pub mod NodeMaps
pub mod HoldingLaws
pub mod Reserving
pub mod Adding
pub mod GoesAt
pub mod FreedNodes
pub mod KeptEntries
pub mod WholeLists
pub mod Carried
pub mod RequestRows
pub mod CopySteps
pub mod Leads
pub mod ServedNodes
pub mod LentReplicas
pub mod Going
pub mod DriverTaking
mod EachKept
mod FailedEach
mod CompletedEach
mod FailedMade
mod FailedReplicas
pub mod StepTaking
pub mod RunExamples
pub mod StepDone
pub mod NodeListings
mod ShapedReplicas
mod BrokenCorrupt
mod CorruptedSections
mod CutShort
mod DeadCalls
pub mod FailedCounts
pub mod FailedNodes
mod EndedCalls
mod EndedSlots
mod InOrder
mod Stays
mod CallsEnd
pub mod Claim
pub mod BehindStep
pub mod UpdatesBy
pub mod CopyStages
pub mod Frame
pub mod LetGo
pub mod Resolve
pub mod Turns
pub mod UpdateMoves
pub mod UpdateNearer
