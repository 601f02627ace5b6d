use Rattle.x10_stats.proofs.lines.push_function.Goals as goal

pub returns : goal.returns
returns c = rw (← c.function_pad_of-pad.ensures) c.writeln.ensures.bytes
