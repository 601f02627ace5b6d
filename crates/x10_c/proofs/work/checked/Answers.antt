use Rattle.std.proofs.Common.{None, [], refl, arith}
use Rattle.x10_task.specs.declared.task.Verb.TheVariants as verb
use Rattle.x10_c.proofs.Coming.{came_by, from_kept}
use Rattle.x10_c.proofs.work.checked.Goals as goal

pub returns : goal.returns
returns c = came_by verb.Check c.task.result.json None None c.args.bytes.now c.args.text.now.items c.print_check-done.new.out.items
    c.print_check-done.result c.settled.result c.settled.new.text.items c.task.ensures.json refl c.requires.empty ([], refl)
    (record {
      can = c.print_check-done.ensures.done;
      prints = c.print_check-done.ensures.printed;
      cannot = c.print_check-done.ensures.refused;
      due = c.print_check-done.ensures.due None;
      refused = from_kept c.print_check-done.result 1 _ _ (λ k. k) (λ x. omega (arith, x)) c.print_check-done.ensures.reported;
      stopped = from_kept c.print_check-done.result 2 _ _ (λ k. k) (λ x. omega (arith, x)) c.print_check-done.ensures.reported;
    })
    c.settled.ensures
