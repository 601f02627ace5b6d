use Rattle.x10_asm.proofs.flaws.flaw_of.Goals as goal

pub returns : goal.returns
returns c = c.flaw_in.ensures c.args.line.now
    (record { is_said = c.line_of.ensures.statement; are_others = c.line_of.ensures.rest; is_after = c.line_of.ensures.after })
