use Rattle.std.proofs.Common.{◌≡◌, ◌*◌, replicate, refl, arith}
use Rattle.x10_finish.specs.Pairs.{no_pair}
use Rattle.x10_finish.proofs.Balances.{blank_kept, none_in, none_kept}
use Rattle.x10_finish.proofs.book.Book.open.Goals as goal

-- all pairs are nothing
pairs_are : (c : goal.After-new) → c.zero.new.self ≡ replicate (c.args.places * c.args.places) no_pair
pairs_are c = none_in c.args.places c.from.result c.from-2.result c.zero.new.self c.from.ensures c.from-2.ensures c.in_ok-zero.ensures.ok

pub invariant_of-result : goal.invariant_of-result
invariant_of-result c = blank_kept c.args.finish.home c.args.places c.zero.new.self c.requires (omega arith) (pairs_are c)

pub returns-clause-ok : goal.returns-clause-ok
returns-clause-ok c = record { finish = refl; places_is = refl; kept = none_kept c.args.places c.zero.new.self (pairs_are c) }
