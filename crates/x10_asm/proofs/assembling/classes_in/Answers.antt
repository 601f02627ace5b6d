use Rattle.std.proofs.Common.{◌∙◌, ap, sym, arith}
use Rattle.x10_asm.specs.Lines.{lines}
use Rattle.x10_asm.specs.Reading.{classes_in}
use Rattle.x10_asm.proofs.TextLines.{counted_more, counted_other, no_classes}
use Rattle.x10_asm.proofs.assembling.classes_in.Goals as goal

pub loop-line-preserved-then-is_class : goal.loop-line-preserved-then-is_class
loop-line-preserved-then-is_class c =
    let e = counted_more (lines c.loop-line.rest.now) (lines c.in-Some.after.now) c.in-Some.line.now c.in-Some.ensures.lines
    (sym c.is_class.ensures ∙ c.if-is_class.true) in
    record {
      utf8 = c.in-Some.ensures.utf8.1;
      bound = omega (arith, c.loop-line.invariant.bound, c.in-Some.ensures.shorter);
      counted = omega (arith, e, c.loop-line.invariant.counted);
    }

pub loop-line-preserved : goal.loop-line-preserved
loop-line-preserved c =
    let e = counted_other (lines c.loop-line.rest.now) (lines c.in-Some.after.now) c.in-Some.line.now c.in-Some.ensures.lines
    (sym c.is_class.ensures ∙ c.if-is_class.false) in
    record {
      utf8 = c.in-Some.ensures.utf8.1;
      bound = omega (arith, c.loop-line.invariant.bound, c.in-Some.ensures.shorter);
      counted = omega (arith, e, c.loop-line.invariant.counted);
    }

pub returns : goal.returns
returns c = omega (arith, c.loop-line.invariant.counted, ap classes_in c.in_default.ensures.lines ∙ no_classes)
