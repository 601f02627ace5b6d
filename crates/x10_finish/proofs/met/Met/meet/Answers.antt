use Rattle.std.proofs.Common.{◌≡◌, List, Bool, true, false, Option, Some, None, refl, sym, ◌∙◌, ap, rules}
use Rattle.x10_model.specs.declared.finish.Finish.{Finish}
use Rattle.x10_model.specs.Totals.{nothing}
use Rattle.x10_finish.specs.declared.count.Count.{Count}
use Rattle.x10_finish.specs.declared.met.Named.{Named}
use Rattle.x10_finish.specs.Counts.{IsWhole, counted}
use Rattle.x10_finish.specs.Ledgers.{count_of}
use Rattle.x10_finish.specs.Met.{if_met, listed}
use Rattle.x10_finish.specs.contracts.met.Met.{the_view}
use Rattle.x10_finish.proofs.MetLemmas.{entered}
use Rattle.x10_finish.proofs.met.Met.meet.Goals as goal
use Rattle.x10_finish.proofs.met.Met.meet.Goals.{then-not-self+in_default, else-not-self}

pub returns-in-Some-clause-ok : goal.returns-in-Some-clause-ok
returns-in-Some-clause-ok c =
    let unmet : c.self.inside.is_met ≡ false = search rules in
    let others : c.self.inside.others ≡ c.args.self.now =
    ap (λ b. listed (if_met b c.self.inside.latest) c.self.inside.others) (sym unmet) ∙ c.self.view_is in
    let none : counted c.clear.new.count ≡ nothing = search rules in
    let whole : IsWhole c.args.places c.clear.new.count = search rules in
    record {
      count = c.clear.new.count;
      nothing_yet = none;
      whole = whole;
      writes = entered c.args.self.now c.self.inside.others c.args.finish c.clear.new.count (λ f. ap (λ l. count_of l f) others);
    }

-- there is no latest one, or its finish was met
none_shown : (b : Bool) (o : Option Named) (others : List (Finish × Count)) → ((n : Named) → o ≡ Some n → ⊥)
    → listed o others ≡ listed (if_met b o) others
none_shown true o others none = refl
none_shown false None others none = refl
none_shown false (Some n) others none = absurd (none n refl)

pub returns-clause-ok : goal.returns-clause-ok
returns-clause-ok c =
    let inside = c.if-not-self.self-inside in
    let shown : listed inside.latest inside.others ≡ c.args.self.now = elim c.if-not-self.branch [
      | then-not-self+in_default w ↦
          none_shown inside.is_met inside.latest inside.others
          (λ n e. w.in_default.not-Some n (ap (λ i. i.latest) (sym w.self-inside-is) ∙ e))
          ∙ ap the_view w.self-inside-is ∙ c.self.view_is
      | else-not-self w ↦
          let met : c.self.inside.is_met ≡ true = search rules in
          ap (λ b. listed (if_met b inside.latest) inside.others) (sym (ap (λ i. i.is_met) w.self-inside-is ∙ met))
          ∙ ap the_view w.self-inside-is ∙ c.self.view_is
    ] in
    record {
      count = c.in-Ok.count;
      nothing_yet = c.in-Ok.ensures.nothing;
      whole = c.in-Ok.ensures.whole;
      writes = entered c.args.self.now c.set_aside.new.others c.args.finish c.in-Ok.count
          (λ f. c.in_ok-set_aside.ensures.ok.1 f ∙ ap (λ l. count_of l f) shown);
    }
