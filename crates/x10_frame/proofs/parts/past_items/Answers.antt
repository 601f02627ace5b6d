use Rattle.std.proofs.lemmas.Result.{err_from_is_err_and}
use Rattle.x10_model.specs.Frames.{uses}
use Rattle.x10_model.specs.Readers.{many}
use Rattle.x10_model.specs.ReadingFrames.{item_at}
use Rattle.x10_frame.specs.Faults.{named}
use Rattle.x10_frame.specs.Items.{tables_in}
use Rattle.x10_bytes.proofs.Loops.{along_start, along_next, along_fault, walked}
use Rattle.x10_frame.proofs.parts.past_items.Goals as goal

pub loop-init : goal.loop-init
loop-init c = along_start (item_at c.args.version c.args.places (tables_in c.args.all.now)) uses c.args.count
    (tables_in c.args.used.now) c.args.bytes.now

pub loop-preserved : goal.loop-preserved
loop-preserved c = along_next (item_at c.args.version c.args.places (tables_in c.args.all.now)) uses c.args.count c.loop.counter
    (tables_in c.args.used.now) (tables_in c.loop.met) _ c.loop.rest.now _ c.in_ok-item.after.now
    (many (item_at c.args.version c.args.places (tables_in c.args.all.now)) uses c.args.count (tables_in c.args.used.now) c.args.bytes.now)
    c.loop-test.true c.loop.invariant c.in_ok-item.ensures.exact c.with-met.ensures

pub returns-in_err-item : goal.returns-in_err-item
returns-in_err-item c =
    let p = err_from_is_err_and c.from_residual.result c.from_residual.ensures.1 in
    rw (p.1, p.2) (record {
      exact = along_fault (item_at c.args.version c.args.places (tables_in c.args.all.now)) uses c.args.count c.loop.counter
          (tables_in c.args.used.now) (tables_in c.loop.met) c.loop.rest.now
          (many (item_at c.args.version c.args.places (tables_in c.args.all.now)) uses c.args.count (tables_in c.args.used.now) c.args.bytes.now)
          (named c.in_err-item.field-0.0) c.loop-test.true c.loop.invariant c.in_err-item.ensures.exact;
    })

pub returns : goal.returns
returns c = record {
  exact = walked (item_at c.args.version c.args.places (tables_in c.args.all.now)) uses c.args.count c.loop.counter
      (tables_in c.args.used.now) (tables_in c.loop.met) c.loop.rest.now
      (many (item_at c.args.version c.args.places (tables_in c.args.all.now)) uses c.args.count (tables_in c.args.used.now) c.args.bytes.now)
      c.loop-test.false c.loop.invariant;
}
