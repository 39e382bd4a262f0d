-- What an iteration answers, and what it keeps then.
use Rattle.std.specs.Prelude.{Option, Some, None, Result, Ok, Err}
use Rattle.ckpt_types.specs.Reads.{NextGiven, description}
use Rattle.ckpt_types.specs.declared.sections.SectionDescriptor.{SectionDescriptor}
use Rattle.section_iter.specs.KeptIds.{KeptIds}
use Rattle.section_iter.specs.declared.iteration.NoSections.{NoSections}

-- what is told of the section that is given, or that there is none
abbrev pub given_answer : Option NextGiven → Result SectionDescriptor NoSections
given_answer None = Err (record {})
given_answer (Some next) = Ok (description next.section)

-- the identifiers behind the one that is given; all of them where nothing is given
abbrev pub kept_after : KeptIds → Option NextGiven → KeptIds
kept_after kept None = kept
kept_after kept (Some next) = record kept { ids = next.rest }
