use Rattle.std.proofs.Common.{refl, inl, ◌∙◌}
use Rattle.x10_task.specs.declared.task.Verb.TheVariants as verb
use Rattle.x10_c.specs.Calls.{asked_of}
use Rattle.x10_c.proofs.Coming.{came_by}
use Rattle.x10_c.proofs.work.ran.Goals as goal

pub returns : goal.returns
returns c = came_by verb.Run c.task-task.result.json c.task-task.result.places (asked_of c.args.places) c.args.image.now c.args.text.now.items
    c.print_run-done.new.out.items c.print_run-done.result c.settled.result c.settled.new.text.items c.task-task.ensures.json
    (c.task-task.ensures.places ∙ c.asked.ensures) c.requires.empty (inl refl)
    (record {
      can = c.print_run-done.ensures.done;
      prints = c.print_run-done.ensures.printed;
      cannot = c.print_run-done.ensures.refused;
      due = c.print_run-done.ensures.due;
      refused = c.print_run-done.ensures.refused_early;
      stopped = c.print_run-done.ensures.stopped;
    })
    c.settled.ensures
