use Rattle.std.proofs.Common.{Bool, ◌==◌, ◌&&◌, sym, ap, ◌∙◌, arith}
use Rattle.x10_model.specs.Structure.{around}
use Rattle.x10_bounds.proofs.SpotTests.{jump_is}
use Rattle.x10_bounds.proofs.rules.jumps_forward.Goals as goal

pub returns-then-begins_before : goal.returns-then-begins_before
returns-then-begins_before c =
    c.keeps.ensures
    ∙ ap (λ (b : Bool). b && ((c.spot_at-from.result.finishes == c.spot_at-to.result.finishes) &&
    (c.spot_at-from.result.atomics == c.spot_at-to.result.atomics))) (sym c.if-begins_before.true)
    ∙ jump_is c.args.code.now c.args.pc c.args.x c.spot_at-from.result c.spot_at-to.result c.begins_before.result (omega arith)
    (omega arith) c.spot_at-from.ensures c.spot_at-to.ensures (c.begins_before.ensures (around c.args.code.now c.args.x) c.spot_at-to.ensures)

pub returns-else-begins_before : goal.returns-else-begins_before
returns-else-begins_before c =
    c.if-begins_before.false
    ∙ ap (λ (b : Bool). b && ((c.spot_at-from.result.finishes == c.spot_at-to.result.finishes) &&
    (c.spot_at-from.result.atomics == c.spot_at-to.result.atomics))) (sym c.if-begins_before.false)
    ∙ jump_is c.args.code.now c.args.pc c.args.x c.spot_at-from.result c.spot_at-to.result c.begins_before.result (omega arith)
    (omega arith) c.spot_at-from.ensures c.spot_at-to.ensures (c.begins_before.ensures (around c.args.code.now c.args.x) c.spot_at-to.ensures)
