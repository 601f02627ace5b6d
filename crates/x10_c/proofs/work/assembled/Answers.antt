use Rattle.std.proofs.Common.{None, false, refl, arith}
use Rattle.x10_task.specs.declared.task.Verb.TheVariants as verb
use Rattle.x10_c.proofs.Coming.{came_by, from_kept}
use Rattle.x10_c.proofs.work.assembled.Goals as goal

pub returns : goal.returns
returns c = came_by verb.Asm false None None c.args.bytes.now c.args.text.now.items c.print_image-done.new.out.items
    c.print_image-done.result c.settled.result c.settled.new.text.items refl refl c.requires.empty refl
    (record {
      can = c.print_image-done.ensures.done;
      prints = c.print_image-done.ensures.printed;
      cannot = c.print_image-done.ensures.refused;
      due = c.print_image-done.ensures.due None;
      refused = from_kept c.print_image-done.result 1 _ _ (λ k. k) (λ x. omega (arith, x)) c.print_image-done.ensures.kept;
      stopped = from_kept c.print_image-done.result 2 _ _ (λ k. k) (λ x. omega (arith, x)) c.print_image-done.ensures.kept;
    })
    c.settled.ensures
