use Rattle.std.proofs.Common.{◌++◌, map, refl}
use Rattle.std.specs.List.{flat_map}
use Rattle.std.specs.String.{string_bytes}
use Rattle.x10_place.specs.StandsFor.{line_as}
use Rattle.x10_log.specs.Logs.{line_word}
use Rattle.x10_log.specs.Limits.{FitsLine}
use Rattle.x10_log.proofs.Fitting.{one_fits, all_fit, mapped_fit}
use Rattle.x10_log.proofs.Pushed.{one_pushed, all_pushed}
use Rattle.x10_log.proofs.pieces.push_lines.Goals as goal

pub loop-at-preserved : goal.loop-at-preserved
loop-at-preserved c = (
  one_pushed (λ xs. flat_map line_word (map line_as xs)) (λ x. line_word (line_as x)) (λ x xs. refl)
      (string_bytes c.args.text.now ++ flat_map line_word (map line_as c.args.lines.now)) (string_bytes c.loop-at.text)
      (string_bytes c.push_line.new.text) c.args.lines.now c.loop-at.at c.index-lines-at.result c.loop-at.invariant.0 c.loop-at-test.true
      c.index-lines-at.is c.in_ok-push_line.ensures.text,
  one_fits (λ x. FitsLine (line_as x)) c.args.lines.now c.loop-at.at c.index-lines-at.result c.loop-at.invariant.1 c.loop-at-test.true
      c.index-lines-at.is c.in_ok-push_line.ensures.fits,
)

pub returns-clause-text : goal.returns-clause-text
returns-clause-text c = all_pushed (λ xs. flat_map line_word (map line_as xs)) refl
    (string_bytes c.args.text.now ++ flat_map line_word (map line_as c.args.lines.now)) (string_bytes c.loop-at.text) c.args.lines.now c.loop-at.at
    c.loop-at.invariant.0 c.loop-at-test.false

pub returns-clause-fits : goal.returns-clause-fits
returns-clause-fits c = mapped_fit FitsLine line_as c.args.lines.now
    (all_fit (λ x. FitsLine (line_as x)) c.args.lines.now c.loop-at.at c.loop-at.invariant.1 c.loop-at-test.false)
