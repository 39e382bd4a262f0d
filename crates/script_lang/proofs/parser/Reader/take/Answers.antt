use Rattle.script_lang.specs.declared.quick.Quick.TheVariants as quicks
use Rattle.script_lang.specs.Plain.{SaysLine}
use Rattle.script_lang.proofs.Plain.{write_asks, read_asks}
use Rattle.script_lang.proofs.parser.Reader.take.Goals as goal

pub add_access-requires-clause-marks : goal.add_access-requires-clause-marks
add_access-requires-clause-marks c = write_asks c.in-Write.client c.in-Write.place c.in-Write.update

pub add_access-requires-in-Read-clause-marks : goal.add_access-requires-in-Read-clause-marks
add_access-requires-in-Read-clause-marks c =
    let said : SaysLine c.args.text.now (quicks.Read c.in-Read.client c.in-Read.place c.in-Read.elements c.in-Read.len) = rw c.in-Read.is at c.in_ok-client.ensures in
    read_asks c.in-Read.client c.in-Read.place c.in-Read.len c.in-Read.elements said.1
