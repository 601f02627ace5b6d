use Rattle.x10_place.proofs.stay.Stay.is_waiting.Goals as goal

pub has_open_finish-requires : goal.has_open_finish-requires
has_open_finish-requires c = c.requires.open c.instr-instr.result c.instr-instr.ensures c.in-Fine.is
