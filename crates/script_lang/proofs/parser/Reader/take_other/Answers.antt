use Rattle.ckpt_types.specs.declared.identities.ActorName.TheVariants.{Client}
use Rattle.script_lang.specs.declared.quick.Quick.TheVariants as quicks
use Rattle.script_lang.specs.Plain.{SaysLine}
use Rattle.script_lang.proofs.Plain.{begun_write_asks, begun_read_asks}
use Rattle.script_lang.proofs.parser.Reader.take_other.Goals as goal

pub add_access-requires-clause-marks : goal.add_access-requires-clause-marks
add_access-requires-clause-marks c = begun_write_asks (Client c.in-Write.client) c.in-Write.place c.in-Write.update

pub add_access-requires-in-Read-clause-marks : goal.add_access-requires-in-Read-clause-marks
add_access-requires-in-Read-clause-marks c =
    let said : SaysLine c.in-Some.rest.now (quicks.Read c.in-Read.client c.in-Read.place c.in-Read.elements c.in-Read.len) = rw c.in-Read.is at c.in_ok-client.ensures in
    begun_read_asks (Client c.in-Read.client) c.in-Read.place c.in-Read.len c.in-Read.elements said.1
