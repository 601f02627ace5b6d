use Rattle.std.proofs.Common.{ℕ, List, length, sym, ap, ◌∙◌}
use Rattle.x10_hall.specs.KeyLists.{keys_in}
use Rattle.x10_hall.proofs.KeyRounds.{long}
use Rattle.x10_hall.proofs.keys.Keys.len.Goals as goal

pub returns-in-Round : goal.returns-in-Round
returns-in-Round c = sym (ap (λ (ks : List ℕ). length ks) (sym c.self.view_is ∙ ap keys_in c.in-Round.is)
    ∙ long c.in-Round.field-0.items c.in-Round.count)
