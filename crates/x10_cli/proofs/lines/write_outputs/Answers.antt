use Rattle.std.proofs.Common.{◌+◌, ◌<◌, map, take, add-one, subst, sym}
use Rattle.std.specs.Io.KnownBytes.{Appends}
use Rattle.x10_place.specs.StandsFor.{line_as}
use Rattle.x10_world.specs.Endings.{lines_at}
use Rattle.x10_cli.specs.Lines.{place_lines, all_lines}
use Rattle.x10_cli.proofs.LinesPrinted.{output_more, no_place}
use Rattle.x10_cli.proofs.lines.write_outputs.Goals.{in-Some+in_ok-write_lines-in-Some, in-None}
use Rattle.x10_cli.proofs.lines.write_outputs.Goals as goal

pub loop-place-preserved : goal.loop-place-preserved
loop-place-preserved g = λ c. elim c.match-output.branch [
  | in-Some+in_ok-write_lines-in-Some w ↦ subst (λ o. Appends (g.O.Write.contents c.args.out.now) (g.O.Write.contents o)
      (all_lines c.args.json 0 (take (c.loop-place.place + 1) (lines_at c.args.world.now.places)))) (sym w.out-is)
      (output_more c.args.json (g.O.Write.contents c.args.out.now) (g.O.Write.contents c.loop-place.out)
      (g.O.Write.contents w.write_lines.new.out) c.loop-place.place
      (c.loop-place.place + 1) c.args.world.now.places w.in-Some.ensures.0 w.in-Some.lines.now
      (add-one c.loop-place.place) w.in-Some.ensures.1 w.in-Some.ensures.2 c.loop-place.invariant
      (subst (λ n. Appends (g.O.Write.contents c.loop-place.out) (g.O.Write.contents w.write_lines.new.out)
      (place_lines c.args.json n (map line_as w.in-Some.lines.now))) w.from.ensures w.in_ok-write_lines-in-Some.ensures.ok))
  | in-None w ↦ absurd (no_place c.args.world.now.places c.loop-place.place
      (subst (λ n. c.loop-place.place < n) c.count-place-end.ensures c.loop-place-test.true) w.in-None.ensures)
]
