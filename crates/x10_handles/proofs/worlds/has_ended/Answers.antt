use Rattle.std.proofs.Common.{Some, rules, sym, ap, subst, ◌∙◌}
use Rattle.std.specs.Prelude.{MatchOption}
use Rattle.x10_handles.specs.Worlds.{IsEnded, LacksWorld, ShowsWorld}
use Rattle.x10_handles.proofs.worlds.has_ended.Goals.{in-World, in-Module, in-Place}
use Rattle.x10_handles.proofs.worlds.has_ended.Goals as goal

pub returns : goal.returns
returns c = elim c.match-deref.branch [
  | in-World w ↦ subst (λ o. MatchOption o (LacksWorld c.args.handle.now c.put.new.handle)
      (λ ended. ShowsWorld c.args.handle.now c.put.new.handle (λ x. IsEnded x ended))) (sym w.ended-is) (
        w.in-World.run',
        c.in_ok-inside.ensures.taken ∙ ap Some (sym c.deref.ensures ∙ w.in-World.is),
        c.put.ensures ∙ sym c.in_ok-inside.ensures.taken,
        w.ended_in.ensures.run,
        w.ended_in.ensures.ended,
      )
  | in-Module w ↦ search rules
  | in-Place w ↦ search rules
]
