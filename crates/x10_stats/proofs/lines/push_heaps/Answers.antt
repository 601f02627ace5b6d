use Rattle.std.specs.String.{string_bytes}
use Rattle.x10_stats.proofs.HeapLines.{heap_more}
use Rattle.x10_stats.proofs.lines.push_heaps.Goals as goal

pub loop-place-preserved : goal.loop-place-preserved
loop-place-preserved c = heap_more (string_bytes c.args.text.now) (string_bytes c.loop-place.text) (string_bytes c.push_heap_at.new.text)
    c.loop-place.place c.args.world.now.places c.loop-place.invariant c.in_ok-push_heap_at.ensures
