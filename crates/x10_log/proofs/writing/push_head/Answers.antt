use Rattle.x10_log.proofs.writing.push_head.Goals as goal

pub returns-clause-text : goal.returns-clause-text
returns-clause-text c = rw (c.in_ok-image.ensures, c.as_slice.ensures) at c.write.ensures.bytes
