use Rattle.std.proofs.Common.{arith, inr}
use Rattle.std.specs.Prelude.{option_map}
use Rattle.std.specs.String.{string_bytes}
use Rattle.std.proofs.KnownBytes.{Keeps-trans}
use Rattle.x10_cli.specs.declared.fault.Fault.TheVariants as told
use Rattle.x10_cli.specs.Counts.{CountsAll}
use Rattle.x10_cli.proofs.Answered.{status_told}
use Rattle.x10_cli.proofs.CountLemmas.{all_kept, counts_printed, some_kept}
use Rattle.x10_cli.proofs.UndoneLemmas.{no_failure, same_status}
use Rattle.x10_cli.proofs.counted.run_counted.Goals as goal

pub returns-then-is_err-clause-status : goal.returns-then-is_err-clause-status
returns-then-is_err-clause-status w = λ c. status_told _ told.File c.tell.ensures.status

pub returns-in-Err-clause-status : goal.returns-in-Err-clause-status
returns-in-Err-clause-status w = λ c. status_told _ c.in-Err.fault c.refuse.ensures.status

pub returns-in-Ok-clause-counted : goal.returns-in-Ok-clause-counted
returns-in-Ok-clause-counted w = λ c. λ e. all_kept c.args.task.now.places c.args.bytes.now (CountsAll c.args.task.now.limit c.args.task.now.activities) c.args.task.now.json
    (option_map string_bytes c.print_counted-done.new.stats) (w.O.Write.contents c.args.out.now)
    (w.O.Write.contents c.print_counted-done.new.out) (w.O.Write.contents c.flush.new.self) c.in-Ok.ensures.counted c.flush.ensures.bytes

pub returns-in-Ok-clause-printed : goal.returns-in-Ok-clause-printed
returns-in-Ok-clause-printed w = λ c. λ e.
    counts_printed c.args.task.now.places c.args.bytes.now c.args.task.now.limit c.args.task.now.activities c.args.task.now.json
    (option_map string_bytes c.print_counted-done.new.stats) (w.O.Write.contents c.args.out.now) (w.O.Write.contents c.flush.new.self)
    (all_kept c.args.task.now.places c.args.bytes.now (CountsAll c.args.task.now.limit c.args.task.now.activities) c.args.task.now.json
    (option_map string_bytes c.print_counted-done.new.stats) (w.O.Write.contents c.args.out.now)
    (w.O.Write.contents c.print_counted-done.new.out) (w.O.Write.contents c.flush.new.self) c.in-Ok.ensures.counted c.flush.ensures.bytes)

pub returns-in-Err-clause-left_refused : goal.returns-in-Err-clause-left_refused
returns-in-Err-clause-left_refused w = λ c. λ s.
    let h = c.in-Err.ensures.refused_early (same_status c.refuse.result 1 c.in-Err.fault c.refuse.ensures.status s (λ x. omega (arith, x))) in (
      h.0,
      Keeps-trans (w.O.Write.contents c.args.out.now) (w.O.Write.contents c.print_counted-done.new.out) (w.O.Write.contents c.flush.new.self)
          h.1 c.flush.ensures.bytes,
    )

pub returns-in-Err-clause-left_stopped : goal.returns-in-Err-clause-left_stopped
returns-in-Err-clause-left_stopped w = λ c. λ s. (
  c.in-Err.fault,
  some_kept c.args.task.now.places c.args.bytes.now c.args.task.now.limit c.args.task.now.activities c.in-Err.fault c.args.task.now.json
      (option_map string_bytes c.print_counted-done.new.stats) (w.O.Write.contents c.args.out.now)
      (w.O.Write.contents c.print_counted-done.new.out) (w.O.Write.contents c.flush.new.self)
      (c.in-Err.ensures.stopped (same_status c.refuse.result 2 c.in-Err.fault c.refuse.ensures.status s (λ x. omega (arith, x))))
      c.flush.ensures.bytes,
  c.refuse.ensures.told (no_failure c.refuse.result (inr s)),
)
