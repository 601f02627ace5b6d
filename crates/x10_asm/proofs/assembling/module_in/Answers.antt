use Rattle.std.proofs.Common.{◌∙◌, ℕ, sym, ap, Result, Err, arith}
use Rattle.x10_model.specs.Modules.{Module}
use Rattle.x10_asm.specs.declared.fault.AsmFault.{AsmFault}
use Rattle.x10_asm.specs.Lines.{lines}
use Rattle.x10_asm.specs.Reading.{module_of, nothing_read, read_from}
use Rattle.x10_asm.proofs.TextLines.{passed_more, passed_fault, passed_all, not_finished, finished}
use Rattle.x10_asm.proofs.assembling.module_in.Goals as goal

-- a fault as a text's
fault_is : AsmFault → Result Module AsmFault
fault_is f = Err f

pub loop-line-init : goal.loop-line-init
unfolding module_of
loop-line-init c = record {
  utf8 = c.utf8.text;
  bound = omega arith;
  passed = record {
    state = nothing_read;
    stands = c.nothing_read-source.ensures;
    left = ap (λ (n : ℕ). read_from n nothing_read 1 (lines c.args.text.now)) c.classes_in-classes.ensures;
  };
}

pub returns-in-Err-clause-exact : goal.returns-in-Err-clause-exact
unfolding fault_is
returns-in-Err-clause-exact c = λ ne.
    let p = c.loop-line.invariant.passed in
    passed_fault c.loop-line.source c.classes_in-classes.result c.loop-line.number (lines c.loop-line.rest.now)
    (lines c.in-Some.after.now) c.in-Some.line.now (module_of c.args.text.now) p c.in-Err.cause c.in-Some.ensures.lines
    (c.in-Err.ensures p.state p.stands (λ e. ne (c.fault_at.ensures.cause ∙ e)))
    ∙ ap fault_is (sym (c.fault_at.ensures.line (λ e. ne (c.fault_at.ensures.cause ∙ e))))

pub loop-line-preserved : goal.loop-line-preserved
loop-line-preserved c =
    let p = c.loop-line.invariant.passed in
    record {
      utf8 = c.in-Some.ensures.utf8.1;
      bound = omega (arith, c.loop-line.invariant.bound, c.in-Some.ensures.shorter);
      passed = passed_more c.loop-line.source c.take.new.self c.classes_in-classes.result c.loop-line.number (lines c.loop-line.rest.now)
          (lines c.in-Some.after.now) c.in-Some.line.now (module_of c.args.text.now) p c.in-Some.ensures.lines
          (c.in_default-take.ensures p.state p.stands);
    }

pub returns-then-not-is_finished-clause-exact : goal.returns-then-not-is_finished-clause-exact
unfolding fault_is
returns-then-not-is_finished-clause-exact c = λ ne.
    let p = c.loop-line.invariant.passed in
    passed_all c.loop-line.source c.classes_in-classes.result c.loop-line.number (lines c.loop-line.rest.now)
    (module_of c.args.text.now) p c.in_default.ensures.lines
    ∙ not_finished c.loop-line.source p.state c.loop-line.number p.stands (sym c.is_finished.ensures ∙ c.if-not-is_finished.true)
    ∙ ap fault_is (sym (c.fault_at-then-not-is_finished.ensures.line (λ e. ne (c.fault_at-then-not-is_finished.ensures.cause ∙ e))))

pub returns-clause-exact : goal.returns-clause-exact
returns-clause-exact c =
    let p = c.loop-line.invariant.passed in
    passed_all c.loop-line.source c.classes_in-classes.result c.loop-line.number (lines c.loop-line.rest.now)
    (module_of c.args.text.now) p c.in_default.ensures.lines
    ∙ finished c.loop-line.source p.state c.loop-line.number p.stands (sym c.is_finished.ensures ∙ c.if-not-is_finished.false)
