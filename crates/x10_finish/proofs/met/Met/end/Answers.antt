use Rattle.std.proofs.Common.{◌≡◌, ◌-◌, List, ◌∷◌, true, false, Some, sym, ◌∙◌, ap, subst, rules}
use Rattle.x10_model.specs.declared.finish.Finish.{Finish}
use Rattle.x10_finish.specs.declared.count.Count.{Count}
use Rattle.x10_finish.specs.Met.{Lowers, if_met, is_of_finish, listed}
use Rattle.x10_finish.proofs.MetLemmas.{among_lowered, latest_lowered, met_of, same_of, shown_of}
use Rattle.x10_finish.proofs.met.Met.end.Goals as goal
use Rattle.x10_finish.proofs.met.Met.end.Goals.{in-Some, in_default}

pub returns-then-not-is_of : goal.returns-then-not-is_of
returns-then-not-is_of c =
    let latest = if_met c.self.inside.is_met c.self.inside.latest in
    let other : is_of_finish latest c.args.finish ≡ false = search rules in
    subst (λ (m : List (Finish × Count)). Lowers m c.args.finish (listed latest c.end.new.self)) c.self.view_is
    (among_lowered latest c.self.inside.others c.end.new.self c.args.finish other c.end.ensures)

pub returns : goal.returns
returns c =
    let it : is_of_finish (if_met c.self.inside.is_met c.self.inside.latest) c.args.finish ≡ true = search rules in
    elim c.match-self.branch [
      | in-Some w ↦
          let is : c.self.inside.latest ≡ Some w.in-Some.latest = search rules in
          let met = met_of c.self.inside.is_met c.self.inside.latest c.args.finish it in
          let lower : Count = record w.in-Some.latest.count { live = w.in-Some.latest.count.live - 1 } in
          rw w.self-inside-is (subst (λ b. Lowers c.args.self.now c.args.finish
          (listed (if_met b (Some (record { finish = w.in-Some.latest.finish; count = lower }))) c.self.inside.others)) (sym met)
          (subst (λ (m : List (Finish × Count)). Lowers m c.args.finish ((w.in-Some.latest.finish, lower) ∷ c.self.inside.others))
          (ap (λ o. listed o c.self.inside.others)
          (sym (shown_of c.self.inside.is_met c.self.inside.latest w.in-Some.latest c.args.finish it is)) ∙ c.self.view_is)
          (latest_lowered w.in-Some.latest c.self.inside.others c.args.finish
          (same_of c.self.inside.is_met c.self.inside.latest w.in-Some.latest c.args.finish it is))))
      | in_default w ↦ absurd (search rules)
    ]
