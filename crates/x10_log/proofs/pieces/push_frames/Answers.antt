use Rattle.std.proofs.Common.{◌++◌, map, refl}
use Rattle.std.specs.List.{flat_map}
use Rattle.std.specs.String.{string_bytes}
use Rattle.x10_hall.specs.Halls.{frame_of}
use Rattle.x10_log.specs.Logs.{frame_word}
use Rattle.x10_log.specs.Limits.{FitsFrame}
use Rattle.x10_log.proofs.Fitting.{one_fits, all_fit, mapped_fit}
use Rattle.x10_log.proofs.Pushed.{one_pushed, all_pushed}
use Rattle.x10_log.proofs.pieces.push_frames.Goals as goal

pub loop-at-preserved : goal.loop-at-preserved
loop-at-preserved c = (
  one_pushed (λ xs. flat_map frame_word (map frame_of xs)) (λ x. frame_word (frame_of x)) (λ x xs. refl)
      (string_bytes c.args.text.now ++ flat_map frame_word (map frame_of c.args.frames.now)) (string_bytes c.loop-at.text)
      (string_bytes c.push_frame.new.text) c.args.frames.now c.loop-at.at c.index-frames-at.result c.loop-at.invariant.0 c.loop-at-test.true
      c.index-frames-at.is c.in_ok-push_frame.ensures.text,
  one_fits (λ x. FitsFrame (frame_of x)) c.args.frames.now c.loop-at.at c.index-frames-at.result c.loop-at.invariant.1 c.loop-at-test.true
      c.index-frames-at.is c.in_ok-push_frame.ensures.fits,
)

pub returns-clause-text : goal.returns-clause-text
returns-clause-text c = all_pushed (λ xs. flat_map frame_word (map frame_of xs)) refl
    (string_bytes c.args.text.now ++ flat_map frame_word (map frame_of c.args.frames.now)) (string_bytes c.loop-at.text) c.args.frames.now
    c.loop-at.at
    c.loop-at.invariant.0 c.loop-at-test.false

pub returns-clause-fits : goal.returns-clause-fits
returns-clause-fits c = mapped_fit FitsFrame frame_of c.args.frames.now
    (all_fit (λ x. FitsFrame (frame_of x)) c.args.frames.now c.loop-at.at c.loop-at.invariant.1 c.loop-at-test.false)
