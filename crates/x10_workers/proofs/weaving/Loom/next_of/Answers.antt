use Rattle.std.proofs.Common.{refl, sym, ap, ◌∙◌, arith}
use Rattle.std.specs.Prelude.{slice_get}
use Rattle.std.proofs.lemmas.Option.{slice_get_read}
use Rattle.x10_workers.proofs.weaving.Loom.next_of.Goals as goal

pub returns-clause-next : goal.returns-clause-next
returns-clause-next c = record {
  trail = c.index-trails-place.result;
  trail_is = slice_get_read c.args.trails.now _ c.args.place c.index-trails-place.result refl
      (omega (arith, c.if-place-trails.false)) c.index-trails-place.is;
  cursor_is = slice_get_read c.args.self.now.cursors.items _ c.args.place c.index-cursor.result.now refl
      (omega (arith, c.if-place-len.false, c.len.ensures)) c.index-cursor.ensures;
  own_is = ap (λ ts. slice_get ts c.index-cursor.result.now) (sym c.turns-turns.ensures) ∙ c.at.ensures;
}
