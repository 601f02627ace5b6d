use Rattle.std.proofs.Common.{refl}
use Rattle.std.proofs.lemmas.Option.{slice_get_read}
use Rattle.std.specs.Prelude.{length}
use Rattle.x10_hall.specs.Halls.{frame_of}
use Rattle.x10_workers.proofs.WorkLemmas.{differ_at, true_false}
use Rattle.x10_workers.proofs.weaving.same_frames.Goals as goal

pub returns-then-not-same_frame : goal.returns-then-not-same_frame
returns-then-not-same_frame c =
    let one = slice_get_read c.args.one.now (length c.args.one.now) c.loop-at.at c.index-one-at.result refl c.loop-at-test.true c.index-one-at.is in
    let other = slice_get_read c.args.other.now (length c.args.one.now) c.loop-at.at c.index-other-at.result c.if-one-other.false c.loop-at-test.true
    c.index-other-at.is in (
      λ t. absurd cc,
      λ same. absurd (differ_at frame_of c.args.one.now c.args.other.now c.loop-at.at c.index-one-at.result c.index-other-at.result one
          other (λ e. true_false c.same_frame.result (c.same_frame.ensures.1 e) c.if-not-same_frame.true) same),
    )
