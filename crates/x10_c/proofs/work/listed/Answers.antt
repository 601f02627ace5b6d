use Rattle.std.proofs.Common.{None, refl, arith}
use Rattle.x10_task.specs.declared.task.Verb.TheVariants as verb
use Rattle.x10_c.proofs.Coming.{came_by, from_kept}
use Rattle.x10_c.proofs.work.listed.Goals as goal

pub returns : goal.returns
returns c = came_by verb.List c.task.result.json None None c.args.image.now c.args.text.now.items c.print_listing-done.new.out.items
    c.print_listing-done.result c.settled.result c.settled.new.text.items c.task.ensures.json refl c.requires.empty refl
    (record {
      can = c.print_listing-done.ensures.done;
      prints = c.print_listing-done.ensures.printed;
      cannot = c.print_listing-done.ensures.refused;
      due = c.print_listing-done.ensures.due None;
      refused = from_kept c.print_listing-done.result 1 _ _ (λ k. k) (λ x. omega (arith, x)) c.print_listing-done.ensures.kept;
      stopped = from_kept c.print_listing-done.result 2 _ _ (λ k. k) (λ x. omega (arith, x)) c.print_listing-done.ensures.kept;
    })
    c.settled.ensures
