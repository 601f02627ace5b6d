use Rattle.x10_model.proofs.Finishes.{IsWithin-trans}
use Rattle.x10_model.proofs.laws.governing_is_transitive.Goals as goal

pub returns : goal.returns
returns c = λ w outer inner a h g. IsWithin-trans w.net.enclosing outer inner (w.book.activities a).under h g
