use Rattle.std.proofs.Common.{sym, ap, ◌∙◌}
use Rattle.x10_asm.specs.declared.statement.Statement.{Statement}
use Rattle.x10_asm.specs.Lines.{lines}
use Rattle.x10_asm.specs.Reading.{version_by, version_in}
use Rattle.x10_asm.proofs.TextLines.{version_told, version_by_other, no_version}
use Rattle.x10_asm.proofs.assembling.version_in.Goals as goal

pub loop-line-preserved : goal.loop-line-preserved
loop-line-preserved c =
    let rest = lines c.in-Some.after.now in
    let e = version_told (lines c.loop-line.rest.now) rest c.in-Some.line.now c.line_of.result.statement c.in-Some.ensures.lines
    c.line_of.ensures.statement in
    record {
      utf8 = c.in-Some.ensures.utf8.1;
      left = sym (e ∙ ap (λ (x : Statement). version_by x (version_in rest)) c.in-Silent.is) ∙ c.loop-line.invariant.left;
    }

pub returns-in-Version : goal.returns-in-Version
returns-in-Version c =
    let rest = lines c.in-Some.after.now in
    let e = version_told (lines c.loop-line.rest.now) rest c.in-Some.line.now c.line_of.result.statement c.in-Some.ensures.lines
    c.line_of.ensures.statement in
    sym (e ∙ ap (λ (x : Statement). version_by x (version_in rest)) c.in-Version.is) ∙ c.loop-line.invariant.left

pub returns-in_default-statement : goal.returns-in_default-statement
returns-in_default-statement c =
    let rest = lines c.in-Some.after.now in
    let e = version_told (lines c.loop-line.rest.now) rest c.in-Some.line.now c.line_of.result.statement c.in-Some.ensures.lines
    c.line_of.ensures.statement in
    sym (e ∙ version_by_other c.line_of.result.statement (version_in rest) c.in_default-statement.not-Silent c.in_default-statement.not-Version)
    ∙ c.loop-line.invariant.left

pub returns : goal.returns
returns c = sym (ap version_in c.in_default.ensures.lines ∙ no_version) ∙ c.loop-line.invariant.left
