use Rattle.std.proofs.Common.{◌≡◌, length, sym, ap, ◌∙◌, arith}
use Rattle.x10_hall.specs.KeyLists.{in_rounds}
use Rattle.x10_hall.proofs.KeyRounds.{whole}
use Rattle.x10_hall.proofs.keys.listed.Goals as goal

pub returns : goal.returns
returns c =
    let made = c.extend.new.list.items in
    let all : c.len-all.result ≡ length made = omega (arith, c.len-all.ensures, c.extend.new.list.ok) in
    ap (in_rounds made) all ∙ sym (whole made) ∙ c.in_ok-extend.ensures
