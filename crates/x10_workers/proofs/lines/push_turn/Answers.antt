use Rattle.std.proofs.Common.{◌++◌, map, refl, ap, ◌∙◌, arith}
use Rattle.std.proofs.lemmas.Option.{slice_get_read}
use Rattle.x10_place.specs.StandsFor.{line_as}
use Rattle.x10_workers.proofs.ReportLines.{adds_at, adds_nowhere, ok_map}
use Rattle.x10_workers.proofs.lines.push_turn.Goals as goal

pub returns-then-place-len : goal.returns-then-place-len
returns-then-place-len c =
    ok_map c.push_lines.result _ _
    (λ pushed. adds_at c.args.lists.now.items c.from-place.result c.index_mut.result.now c.push_lines.new.to c.args.turn.now c.from-place.ensures
    (slice_get_read c.args.lists.now.items _ c.from-place.result c.index_mut.result.now refl
    (omega (arith, c.if-place-len.true)) c.index_mut.ensures.value)
    (pushed ∙ ap (λ ls. map line_as c.index_mut.result.now.items ++ map line_as ls) c.deref.ensures.value))
    c.push_lines.ensures

pub returns : goal.returns
returns c = adds_nowhere c.args.lists.now.items c.args.turn.now (omega (arith, c.if-place-len.false, c.from-place.ensures))
