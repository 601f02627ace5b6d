use Rattle.std.specs.String.{string_bytes}
use Rattle.x10_asm.specs.Lines.{lines}
use Rattle.x10_asm.proofs.Commented.{line_feedless, comment_told, silence_told}
use Rattle.x10_explain.proofs.commented.push_commented.Goals as goal

pub push_comment-requires : goal.push_comment-requires
push_comment-requires c = line_feedless c.loop-line.rest.now c.in-Some.line.now (lines c.in-Some.after.now) c.in-Some.ensures.lines

pub loop-line-preserved : goal.loop-line-preserved
loop-line-preserved c = record {
  utf8 = c.in-Some.ensures.utf8.1;
  told = silence_told (string_bytes c.args.out.now) (string_bytes c.loop-line.out) (string_bytes c.push_comment.new.out) c.loop-line.invariant.told
      (comment_told (string_bytes c.loop-line.out) (string_bytes c.push_comment.new.out) c.in-Some.line.now
      (line_feedless c.loop-line.rest.now c.in-Some.line.now (lines c.in-Some.after.now) c.in-Some.ensures.lines) c.in_ok-push_comment.ensures);
}
