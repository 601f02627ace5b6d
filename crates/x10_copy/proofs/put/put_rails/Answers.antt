use Rattle.std.proofs.Common.{ℕ, ◌<◌, length, get_or, [], sym, arith, below_more}
use Rattle.std.proofs.lemmas.Option.{get_or_from_slice_get}
use Rattle.x10_model.specs.Frames.{FitsRail}
use Rattle.x10_model.specs.Frames.{blob_bytes}
use Rattle.x10_copy.specs.Graphs.{rail_at}
use Rattle.x10_copy.proofs.WrittenLemmas.{part_next, part_end, all_at}
use Rattle.x10_copy.proofs.put.put_rails.Goals as goal

pub loop-i-preserved : goal.loop-i-preserved
loop-i-preserved c =
    let lt : c.loop-i.i < length c.args.marks.now.rails = omega (arith, c.loop-i-test.true, c.rails-i-end.ensures.value) in
    let is = sym (get_or_from_slice_get c.args.heap.now.rails c.rail.result c.rail-in-loop-i.result.now [] c.rail-in-loop-i.ensures.value) in
    let here : FitsRail (rail_at c.args.heap.now (get_or c.args.marks.now.rails c.loop-i.i 0)) =
    rw (← c.rail.ensures, ← is) c.rail-in-loop-i.ensures.fits in
    record {
      left = part_next blob_bytes (rail_at c.args.heap.now) c.args.marks.now.rails c.loop-i.i c.rail.result c.args.writer.now c.loop-i.writer
          c.rail-in-loop-i-2.new.self c.rail-in-loop-i.result.now
          c.loop-i.invariant.left lt c.rail.ensures is c.in_ok-rail.ensures.value;
      fit = below_more (λ (j : ℕ). FitsRail (rail_at c.args.heap.now (get_or c.args.marks.now.rails j 0))) c.loop-i.i c.loop-i.invariant.fit here;
    }

pub returns-clause-value : goal.returns-clause-value
returns-clause-value c = part_end blob_bytes (rail_at c.args.heap.now) c.args.marks.now.rails c.loop-i.i c.args.writer.now c.loop-i.writer
    c.loop-i.invariant.left
    (omega (arith, c.loop-i-test.false, c.rails-i-end.ensures.value))

pub returns-clause-fits : goal.returns-clause-fits
returns-clause-fits c = all_at FitsRail (rail_at c.args.heap.now) c.args.marks.now.rails
    (λ i lt. c.loop-i.invariant.fit i (omega (arith, lt, c.loop-i-test.false, c.rails-i-end.ensures.value)))
