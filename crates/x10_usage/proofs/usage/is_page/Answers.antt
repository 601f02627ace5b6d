use Rattle.std.specs.Prelude.{codes}
use Rattle.std.proofs.lemmas.Str.Pattern.{ends_text}
use Rattle.x10_usage.proofs.usage.is_page.Goals as goal

pub returns-in-Some : goal.returns-in-Some
returns-in-Some c = rw c.in-Some.is (ends_text c.ends_with.result (codes ".html") c.in-Some.name.now c.ends_with.ensures.cases)
