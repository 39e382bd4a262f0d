-- What comes beside the reply of a node, in what was lent.
use Rattle.std.specs.Prelude.{Option, Some, None}
use Rattle.ckpt_types.specs.Buffer.{Buffer}
use Rattle.ckpt_types.specs.declared.answers.Answer.TheVariants as answers
use Rattle.ckpt_types.specs.declared.sections.CheckpointDescriptor.{CheckpointDescriptor}
use Rattle.ckpt_types.specs.declared.sections.SectionDescriptor.{SectionDescriptor}
use Rattle.node_msgs.specs.declared.details.Details.{Details}
use Rattle.node_msgs.specs.declared.details.Details.TheVariants as beside
use Rattle.node_msgs.specs.declared.replies.Reply.{Reply}
use Rattle.node_msgs.specs.declared.replies.Reply.TheVariants as replies
use Rattle.node_core.specs.declared.lent.Lent.{Lent}

-- the pieces in a buffer
abbrev pub pieces_told : Option Buffer → Details
pieces_told None = beside.Nothing
pieces_told (Some read) = beside.Pieces read.pieces

-- a status, in the place for it
abbrev pub status_told : Option CheckpointDescriptor → Details
status_told None = beside.Nothing
status_told (Some status) = beside.Status status

-- a section, in the place for it
abbrev pub section_told : Option SectionDescriptor → Details
section_told None = beside.Nothing
section_told (Some section) = beside.Section section

-- what comes beside a reply, in what was lent
abbrev pub details_told : Reply → Lent → Details
details_told (replies.Done answers.Pieces) lent = pieces_told lent.read
details_told (replies.Done answers.Created) lent = pieces_told lent.read
details_told (replies.Done answers.Status) lent = status_told lent.status
details_told (replies.Done answers.Section) lent = section_told lent.section
details_told reply lent = beside.Nothing

-- what comes beside a reply, where this section stands in the place for one
abbrev pub section_put : Reply → SectionDescriptor → Details
section_put (replies.Done answers.Section) section = beside.Section section
section_put reply section = beside.Nothing
