use Rattle.std.proofs.Common.{◌++◌, ap₂, ◌∙◌}
use Rattle.std.specs.String.{string_bytes}
use Rattle.x10_moments.specs.Moments.{one_text}
use Rattle.x10_moments.proofs.Moments.{shown_at, shown_put}
use Rattle.x10_moments.proofs.parts.push_changed_place.Goals as goal

pub returns-clause-text : goal.returns-clause-text
returns-clause-text c = c.in_ok-push_one.ensures ∙ ap₂ (λ o n. string_bytes c.args.text.now ++ one_text c.args.id o n)
    (shown_at c.args.places.now.items c.args.id c.from-at.result c.index.result.now c.from-at.ensures c.requires c.index.ensures)
    (shown_put c.args.places.now.items c.args.id c.from-at.result c.args.parts c.from-at.ensures c.requires)
