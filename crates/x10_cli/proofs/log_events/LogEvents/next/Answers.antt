use Rattle.std.proofs.Common.{length, refl, sym, subst, ◌∙◌, [], ◌≡◌, arith}
use Rattle.std.proofs.lemmas.Option.{slice_get_read}
use Rattle.x10_cli.specs.Shown.{left_of_turns}
use Rattle.x10_cli.proofs.LogEventLemmas.{left_end, left_next, nothing_of}
use Rattle.x10_cli.proofs.log_events.LogEvents.next.Goals as goal

pub loop-self-preserved : goal.loop-self-preserved
loop-self-preserved c =
    let turns = c.self.inside.turns.now in
    let at = c.loop-self.self-inside in (
      c.loop-self.invariant.0,
      sym (left_next turns at.turn at.made.taken at.made.steps c.index-turns-self.result
          (slice_get_read turns (length turns) at.turn c.index-turns-self.result refl c.loop-self-test.true c.index-turns-self.is)
          (nothing_of c.next-event.result _ _ c.next-event.ensures (sym c.is_some.ensures ∙ c.if-is_some.false))) ∙ c.loop-self.invariant.1,
    )

pub returns : goal.returns
returns c =
    let at = c.loop-self.self-inside in
    let none = left_end c.self.inside.turns.now at.turn at.made.taken at.made.steps (omega (arith, c.loop-self-test.false)) in (
      sym c.loop-self.invariant.1 ∙ none,
      subst (λ ts. left_of_turns ts at.turn at.made.taken at.made.steps ≡ []) c.loop-self.invariant.0 none,
    )
