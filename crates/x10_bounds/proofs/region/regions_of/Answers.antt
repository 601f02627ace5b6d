use Rattle.std.proofs.Common.{◌++◌, Option, Vec, Global, sym, ap, ◌∙◌, append-nil}
use Rattle.x10_bounds.specs.declared.region.Region.{Region}
use Rattle.x10_bounds.specs.Regions.{in_list, regions_of}
use Rattle.x10_bounds.proofs.Closers.{regions_more}
use Rattle.x10_bounds.proofs.region.regions_of.Goals as goal
use Rattle.x10_bounds.proofs.region.regions_of.Goals.{in-Some+in_ok-push, in_default}

pub loop-pc-preserved : goal.loop-pc-preserved
loop-pc-preserved c =
    regions_more c.args.code.now c.loop-pc.pc c.loop-pc.found.items c.match-opened_at.found.items c.opened_at.result (regions_of c.args.code.now)
    (elim c.match-opened_at.branch [
      | in-Some+in_ok-push w ↦
          ap (λ (v : Vec Region Global). v.items) w.found-is ∙ w.in_ok-push.ensures.items
          ∙ ap (λ (o : Option Region). c.loop-pc.found.items ++ in_list o) (sym w.in-Some.is)
      | in_default w ↦
          ap (λ (v : Vec Region Global). v.items) w.found-is ∙ sym (append-nil c.loop-pc.found.items)
          ∙ ap (λ (o : Option Region). c.loop-pc.found.items ++ in_list o) (sym w.in_default.is)
    ])
    c.loop-pc-test.true c.opened_at.ensures c.loop-pc.invariant
