use Rattle.x10_place.proofs.receiving.read.Goals as goal

pub returns-in-Ok-clause-only : goal.returns-in-Ok-clause-only
returns-in-Ok-clause-only c f spelled = let e = c.in-Ok.ensures.only f spelled in cc
