use Rattle.std.proofs.Common.{◌-◌, sym, ap, ◌∙◌, arith}
use Rattle.std.specs.Prelude.{slice_get}
use Rattle.x10_workers.proofs.worker.Worker.is_again.Goals as goal

pub returns : goal.returns
returns c same = record {
  last = c.at.result.now;
  some = omega (arith, c.if-len-eq0.false, c.len.ensures);
  is_last = ap (λ n. slice_get c.args.self.now.kept.items (n - 1)) (sym c.len-2.ensures) ∙ c.at.ensures;
  alike = c.is_same_silent.ensures same;
}
