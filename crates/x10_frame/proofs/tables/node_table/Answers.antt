use Rattle.std.proofs.Common.{◌+◌, arith}
use Rattle.std.proofs.lemmas.Result.{err_from_is_err_and}
use Rattle.x10_model.specs.Frames.{node_bytes, next_turn, turn, FitsNode}
use Rattle.x10_model.specs.Readers.{many}
use Rattle.x10_model.specs.ReadingFrames.{node_at}
use Rattle.x10_model.proofs.GraphLaws.{node_reads}
use Rattle.x10_model.proofs.Offsets.{ends_small, ends_bytes}
use Rattle.x10_frame.specs.Faults.{named}
use Rattle.x10_frame.specs.Items.{tables_in}
use Rattle.x10_bytes.proofs.TableLoops.{placed_start, placed_next, placed_fault}
use Rattle.x10_frame.proofs.Turns.{placed_nodes, next_is}
use Rattle.x10_frame.proofs.tables.node_table.Goals as goal

pub loop-number-init : goal.loop-number-init
loop-number-init c = placed_start (node_at c.args.version c.args.places (tables_in c.args.all.now)) next_turn
    (node_bytes c.args.version) c.args.frame.now c.args.count (turn 0 (tables_in c.args.used.now)) c.args.bytes.now c.new-table.result.items
    c.new-table.ensures.items c.requires.ends

pub overflow_sub-at : goal.overflow_sub-at
overflow_sub-at c = omega (arith, ends_small _ _ c.loop-number.invariant.ends)

pub loop-number-preserved : goal.loop-number-preserved
loop-number-preserved c =
    placed_next (node_at c.args.version c.args.places (tables_in c.args.all.now)) next_turn (node_bytes c.args.version)
    (FitsNode c.args.places (tables_in c.args.all.now)) (node_reads c.args.version c.args.places (tables_in c.args.all.now) c.ranges.places.fits
    (record { texts = c.requires.texts; rails = c.requires.rails; nodes = c.requires.nodes }))
    c.args.frame.now c.args.count c.loop-number.number (turn 0 (tables_in c.args.used.now)) (turn c.loop-number.number (tables_in c.loop-number.met))
    (turn (c.loop-number.number + 1) (tables_in c.in_ok-after.after)) c.loop-number.rest.now c.loop-number.table.items c.push.new.self.items
    c.in_ok-after.ensures.exact.node c.in_ok-after.left.now (many
    (node_at c.args.version c.args.places (tables_in c.args.all.now)) next_turn c.args.count
    (turn 0 (tables_in c.args.used.now)) c.args.bytes.now)
    c.loop-number-test.true (ends_bytes _ _ (λ k. omega (arith, c.type_inv.frame k)) c.loop-number.invariant.ends) c.loop-number.invariant
    c.in_ok-after.ensures.exact.reads (next_is c.loop-number.number _ _ c.in_ok-after.ensures.exact.node c.in_ok-after.ensures.exact.state)
    c.in_ok-push.ensures.items

pub returns-in_err-after : goal.returns-in_err-after
returns-in_err-after c =
    let p = err_from_is_err_and c.from_residual.result c.from_residual.ensures.1 in
    rw (p.1, p.2) (record {
      exact = placed_fault (node_at c.args.version c.args.places (tables_in c.args.all.now)) next_turn
          (node_bytes c.args.version) c.args.frame.now c.args.count c.loop-number.number (turn 0 (tables_in c.args.used.now))
          (turn c.loop-number.number (tables_in c.loop-number.met)) c.loop-number.rest.now c.loop-number.table.items
          (many (node_at c.args.version c.args.places (tables_in c.args.all.now)) next_turn c.args.count
          (turn 0 (tables_in c.args.used.now)) c.args.bytes.now) (named c.in_err-after.field-0.0) c.loop-number-test.true c.loop-number.invariant
          c.in_err-after.ensures.exact;
    })

pub returns : goal.returns
returns c = record {
  exact = placed_nodes (node_at c.args.version c.args.places (tables_in c.args.all.now))
      (node_bytes c.args.version) c.args.frame.now c.args.count c.loop-number.number (tables_in c.args.used.now)
      (tables_in c.loop-number.met) c.loop-number.rest.now c.loop-number.table.items
      (many (node_at c.args.version c.args.places (tables_in c.args.all.now)) next_turn c.args.count
      (turn 0 (tables_in c.args.used.now)) c.args.bytes.now) c.loop-number-test.false c.loop-number.invariant;
}
