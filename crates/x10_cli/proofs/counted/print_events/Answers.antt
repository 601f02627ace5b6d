use Rattle.std.proofs.lemmas.Result.{err_from_is_err_and}
use Rattle.std.proofs.Common.{inr}
use Rattle.std.specs.Prelude.{option_map}
use Rattle.std.specs.String.{string_bytes}
use Rattle.x10_cli.proofs.CountLemmas.{some_counts}
use Rattle.x10_cli.proofs.counted.print_events.Goals as goal

pub returns-in_err-ended-clause-stopped : goal.returns-in_err-ended-clause-stopped
returns-in_err-ended-clause-stopped g = λ c.
    let told = err_from_is_err_and c.from_residual-in_err-ended.result c.from_residual-in_err-ended.ensures.1 in
    rw told.1 (inr (inr (some_counts c.args.verified.now c.args.world.now c.count_run-ended.new.world c.args.task.now.limit
    c.args.task.now.activities c.in_err-ended.field-0.0 told.0
    c.in_ok-counts.counts c.count_run-ended.new.counts c.args.task.now.json (option_map string_bytes c.print_with_counts.new.stats)
    (g.O.Write.contents c.args.out.now) (g.O.Write.contents c.print_with_counts.new.out) c.count_run-ended.ensures.runs told.2
    c.in_ok-counts.ensures (c.in_err-ended.ensures.cut c.requires.goes) c.in_ok-print_with_counts.ensures.ok
    c.in_ok-print_with_counts.ensures.told)))
