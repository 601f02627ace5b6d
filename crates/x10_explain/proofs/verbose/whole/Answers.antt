use Rattle.std.proofs.Common.{[], ◌∷◌, ◌++◌}
use Rattle.std.specs.String.{string_bytes}
use Rattle.x10_asm.proofs.Commented.{then_told}
use Rattle.x10_explain.proofs.Told.{rest_utf8, parted, line_more}
use Rattle.x10_explain.proofs.verbose.whole.Goals as goal

pub loop-line-preserved : goal.loop-line-preserved
loop-line-preserved c =
    let (i, j, found, line, after, _, _, _) = c.in-Some.ensures.cases in
    let (done, so_far, told) = c.loop-line.invariant.told in
    record {
      utf8 = rest_utf8 c.loop-line.rest.now c.in-Some.after.now i j c.loop-line.invariant.utf8 found after;
      told = (
        done ++ (c.in-Some.line.now ++ 10 ∷ []),
        line_more c.args.plain.now done c.loop-line.rest.now c.in-Some.line.now c.in-Some.after.now so_far
            (parted c.loop-line.rest.now c.in-Some.line.now c.in-Some.after.now i j found line after),
        then_told [] (string_bytes c.loop-line.out) (string_bytes c.push_line.new.out) done (c.in-Some.line.now ++ 10 ∷ []) told
            c.in_ok-push_line.ensures,
      );
    }
