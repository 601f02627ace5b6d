use Rattle.x10_verify.proofs.Entries.{entry_valid}
use Rattle.x10_verify.proofs.entry.entry.Goals as goal

pub returns-clause-valid : goal.returns-clause-valid
returns-clause-valid c = entry_valid c.args.signature.now.parameters (record { kinds = c.kinds.result; homes = c.homes.result }) c.requires.flags
    (record { kinds = c.kinds.ensures; homes = c.homes.ensures })
