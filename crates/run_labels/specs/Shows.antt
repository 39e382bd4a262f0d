-- How the replicas of a checkpoint are shown.
use Rattle.std.specs.Prelude.{ℕ, List, [], ◌++◌, Option, Some, None, Bool, if◌then◌else◌, codes, decimal}
use Rattle.std.specs.List.{flat_map}
use Rattle.run_labels.specs.declared.shown.ShownReplica.{ShownReplica}
use Rattle.run_labels.specs.declared.shown.ShownSection.{ShownSection}
use Rattle.run_labels.specs.declared.shown.ShownSlot.{ShownSlot}
use Rattle.run_labels.specs.declared.shown.ShownSlot.TheVariants as slots
use Rattle.ckpt_types.specs.Spelling.{node_text, ckpt_text, call_text, time_text, bytes_text}
use Rattle.run_labels.specs.Words.{state_text}

-- what stands on a replica for a call
abbrev pub slot_text : ShownSlot → List ℕ
slot_text slots.Free = codes " free"
slot_text (slots.Held call) = codes " held " ++ call_text call
slot_text (slots.Mark call) = codes " mark " ++ call_text call

-- the active has a star
abbrev pub star_text : Bool → List ℕ
star_text active = if active then codes "*" else []

-- a section that is present, and its first bytes
abbrev pub shown_section_text : ShownSection → List ℕ
shown_section_text section =
    codes " " ++ bytes_text section.descriptor.id
    ++ codes " " ++ state_text section.descriptor.state
    ++ codes " " ++ time_text section.descriptor.expiration
    ++ codes " " ++ decimal section.descriptor.size
    ++ codes " " ++ bytes_text section.first

-- which replica it is: `K1 n0*`
abbrev pub replica_front : ℕ → ℕ → Bool → List ℕ
replica_front ckpt node active = ckpt_text ckpt ++ codes " " ++ node_text node ++ star_text active

-- its own generation, and how many updates it has
abbrev pub replica_counts : ℕ → ℕ → List ℕ
replica_counts generation count = codes " g" ++ decimal generation ++ codes " u" ++ decimal count

-- the line of one replica
abbrev pub replica_line : ℕ → ShownReplica → List ℕ
replica_line ckpt replica =
    replica_front ckpt replica.node replica.active
    ++ replica_counts replica.generation replica.count
    ++ slot_text replica.slot
    ++ flat_map shown_section_text replica.sections ++ codes "\n"

-- the lines of all replicas of a checkpoint, or that it is gone
abbrev pub shown_lines : ℕ → Option (List ShownReplica) → List ℕ
shown_lines ckpt None = ckpt_text ckpt ++ codes " gone\n"
shown_lines ckpt (Some replicas) = flat_map (replica_line ckpt) replicas
