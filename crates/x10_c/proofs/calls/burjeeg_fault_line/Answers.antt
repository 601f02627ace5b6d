use Rattle.std.proofs.Common.{sym, ap, ◌∙◌, length}
use Rattle.x10_c.proofs.Lines.{same_line}
use Rattle.x10_c.proofs.calls.burjeeg_fault_line.Goals as goal

pub returns-clause-length : goal.returns-clause-length
returns-clause-length c = λ f is e.
    c.copy.ensures.needed ∙ ap length (c.deref.ensures.value ∙ c.in-Ok.ensures
    ∙ same_line f c.in-Some.fault c.args.told.now is (sym c.fault.ensures ∙ c.in-Some.is))
