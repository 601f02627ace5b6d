use Rattle.std.proofs.Common.{◌≡◌, List, ◌∷◌, true, false, Some, None, MatchOption, sym, ◌∙◌, ap, subst, rules}
use Rattle.x10_model.specs.declared.finish.Finish.{Finish}
use Rattle.x10_finish.specs.declared.count.Count.{Count}
use Rattle.x10_finish.specs.Ledgers.{count_of}
use Rattle.x10_finish.specs.Met.{IsCounted, if_met, is_of_finish, listed}
use Rattle.x10_finish.proofs.MetLemmas.{among_counted, latest_counted, met_of, same_of, shown_of}
use Rattle.x10_finish.proofs.met.Met.count.Goals as goal
use Rattle.x10_finish.proofs.met.Met.count.Goals.{in-Some, in-None}

pub returns-then-not-is_of : goal.returns-then-not-is_of
returns-then-not-is_of c =
    let latest = if_met c.self.inside.is_met c.self.inside.latest in
    let other : is_of_finish latest c.args.finish ≡ false = search rules in
    subst (λ (m : List (Finish × Count)). MatchOption c.count.result ((count_of m c.args.finish ≡ None)
    × (listed latest c.count.new.self ≡ m))
    (λ counted. IsCounted m c.args.finish c.args.change counted (listed latest c.count.new.self))) c.self.view_is
    (among_counted latest c.self.inside.others c.count.new.self c.args.finish c.args.change c.count.result other c.count.ensures)

pub returns : goal.returns
returns c =
    let it : is_of_finish (if_met c.self.inside.is_met c.self.inside.latest) c.args.finish ≡ true = search rules in
    elim c.match-self.branch [
      | in-Some w ↦
          let is : c.self.inside.latest ≡ Some w.in-Some.latest = search rules in
          let met = met_of c.self.inside.is_met c.self.inside.latest c.args.finish it in
          rw (w.result-is, w.self-inside-is) (subst (λ b. IsCounted c.args.self.now c.args.finish c.args.change w.apply.result
          (listed (if_met b (Some (record { finish = w.in-Some.latest.finish; count = w.apply.new.count }))) c.self.inside.others)) (sym met)
          (subst (λ (m : List (Finish × Count)). IsCounted m c.args.finish c.args.change w.apply.result
          ((w.in-Some.latest.finish, w.apply.new.count) ∷ c.self.inside.others))
          (ap (λ o. listed o c.self.inside.others)
          (sym (shown_of c.self.inside.is_met c.self.inside.latest w.in-Some.latest c.args.finish it is)) ∙ c.self.view_is)
          (latest_counted w.in-Some.latest c.self.inside.others c.args.finish c.args.change w.apply.result w.apply.new.count
          (same_of c.self.inside.is_met c.self.inside.latest w.in-Some.latest c.args.finish it is)
          w.apply.ensures.ok w.apply.ensures.whole w.apply.ensures.full w.apply.ensures.err)))
      | in-None w ↦ absurd (search rules)
    ]
