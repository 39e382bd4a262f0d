use Rattle.std.proofs.Common.{sym, rules}
use Rattle.name_table.proofs.TableLemmas.{unlinked-absent}
use Rattle.name_table.proofs.names.Names.unlink.Goals as goal

pub returns-in_err-id-clause-unlinked : goal.returns-in_err-id-clause-unlinked
returns-in_err-id-clause-unlinked c = sym (unlinked-absent c.args.name.now c.args.self.now (sym c.in_err-id.ensures.found))

pub returns-clause-found : goal.returns-clause-found
returns-clause-found c = search rules
