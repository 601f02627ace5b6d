use Rattle.std.proofs.Common.{sym, subst}
use Rattle.std.specs.Prelude.{IfSome}
use Rattle.x10_world.specs.Rounds.{RoundsState, TurnsTo, IsNextEvent}
use Rattle.x10_world.proofs.RunCounts.{if_err}
use Rattle.x10_world.proofs.rounds.Rounds.next.Goals as goal

pub returns-in_err-event-clause-refused : goal.returns-in_err-event-clause-refused
returns-in_err-event-clause-refused c =
    if_err c.from_residual-in_err-event.result (λ _. TurnsTo c.args.world.now c.args.self.now c.find.new.self)
    (λ _. subst (λ (t : RoundsState). TurnsTo c.args.world.now t c.find.new.self) c.look.ensures c.in_err-event.ensures.refused)

pub returns-clause-next : goal.returns-clause-next
returns-clause-next c =
    subst (λ (t : RoundsState). IfSome c.in_ok-event.event (λ e. IsNextEvent c.args.world.now t e c.watch-2.new.self)) c.look.ensures
    (subst (λ (t : RoundsState). IfSome c.in_ok-event.event (λ e. IsNextEvent c.args.world.now c.look.new.self e t))
    (sym c.watch-2.ensures) c.in_ok-event.ensures.next)
