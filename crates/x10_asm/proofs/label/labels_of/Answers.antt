use Rattle.std.proofs.Common.{◌∙◌, sym, ap, arith}
use Rattle.x10_asm.specs.Lines.{lines, words}
use Rattle.x10_asm.specs.LabelLines.{ends_labels, labels_from}
use Rattle.x10_asm.proofs.Names.{line_label_ends}
use Rattle.x10_asm.proofs.LabelTables.{labelled_end, labelled_before_end, labelled_more}
use Rattle.x10_asm.proofs.label.labels_of.Goals as goal

pub returns-then-ends_labels : goal.returns-then-ends_labels
returns-then-ends_labels c =
    let ends = ap ends_labels (sym c.line_of-line.ensures.statement) ∙ sym c.ends_labels.ensures ∙ c.if-ends_labels.true in
    labelled_before_end c.loop-text.table c.loop-text.number c.loop-text.index (lines c.loop-text.rest.now)
    (lines c.in-Some.after.now) c.in-Some.text.now (labels_from c.args.number 0 (lines c.args.text.now)) c.loop-text.invariant.labelled
    c.in-Some.ensures.lines ends

pub define_by-requires : goal.define_by-requires
define_by-requires c = record {
  label = λ e. rw c.line_of-line.ensures.first
      (line_label_ends (words c.in-Some.text.now) (sym c.line_of-line.ensures.statement ∙ e));
}

pub loop-text-preserved : goal.loop-text-preserved
loop-text-preserved c = record {
  utf8 = c.in-Some.ensures.utf8.1;
  bound = omega (arith, c.loop-text.invariant.bound, c.in-Some.ensures.shorter);
  few = c.index_after-index.ensures.few;
  labelled = labelled_more c.loop-text.table c.define_by.new.table c.loop-text.number c.loop-text.index c.index_after-index.result
      (lines c.loop-text.rest.now) (lines c.in-Some.after.now) c.in-Some.text.now
      (labels_from c.args.number 0 (lines c.args.text.now)) c.line_of-line.result.statement c.line_of-line.result.first.now
      c.loop-text.invariant.labelled c.in-Some.ensures.lines c.line_of-line.ensures.statement c.line_of-line.ensures.first
      (sym c.ends_labels.ensures ∙ c.if-ends_labels.false) c.in_ok-define_by.ensures c.index_after-index.ensures.value;
}

pub returns : goal.returns
returns c = labelled_end c.loop-text.table c.loop-text.number c.loop-text.index (lines c.loop-text.rest.now)
    (labels_from c.args.number 0 (lines c.args.text.now)) c.loop-text.invariant.labelled c.in_default.ensures.lines
