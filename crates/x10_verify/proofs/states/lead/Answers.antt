use Rattle.std.proofs.Common.{false, sym, ◌∙◌, arith, subst}
use Rattle.x10_verify.proofs.Tabled.{led_to_itself, led_back, led_on}
use Rattle.x10_verify.specs.States.{Arrives}
use Rattle.x10_verify.proofs.states.lead.Goals as goal

pub returns-then-target-at-clause-arrives : goal.returns-then-target-at-clause-arrives
returns-then-target-at-clause-arrives c = λ entry is. subst (λ t. Arrives c.args.table.now.items t entry.known c.args.table.now.items false)
    (sym c.if-target-at.true) (led_to_itself c.args.table.now.items c.args.at c.requires.done entry is)

pub returns-then-target-at-2-clause-arrives : goal.returns-then-target-at-2-clause-arrives
returns-then-target-at-2-clause-arrives c = (led_back c.args.table.now.items c.split_at_mut-before.result.0.now c.split_at_mut-before.result.1.now
    c.args.table.now.len c.args.at c.args.target c.index-rest-0.result c.index-before-target.result c.receive.new.self c.receive.result
    (sym c.deref_mut.ensures.value ∙ c.split_at_mut-before.ensures.value)
    (omega arith) c.split_at_mut-before.ensures.front_len c.if-target-at-2.true c.requires.within c.index-rest-0.is c.index-before-target.is
    c.receive.ensures).0

pub returns-then-target-at-2-clause-kept : goal.returns-then-target-at-2-clause-kept
returns-then-target-at-2-clause-kept c = (led_back c.args.table.now.items c.split_at_mut-before.result.0.now c.split_at_mut-before.result.1.now
    c.args.table.now.len c.args.at c.args.target c.index-rest-0.result c.index-before-target.result c.receive.new.self c.receive.result
    (sym c.deref_mut.ensures.value ∙ c.split_at_mut-before.ensures.value)
    (omega arith) c.split_at_mut-before.ensures.front_len c.if-target-at-2.true c.requires.within c.index-rest-0.is c.index-before-target.is
    c.receive.ensures).1

pub returns-clause-arrives : goal.returns-clause-arrives
returns-clause-arrives c = (led_on c.args.table.now.items c.split_at_mut-before-2.result.0.now c.split_at_mut-before-2.result.1.now
    c.args.table.now.len c.args.at c.args.target c.index-before-at.result c.index-rest-0-2.result c.receive-2.new.self c.receive-2.result
    (sym c.deref_mut-2.ensures.value ∙ c.split_at_mut-before-2.ensures.value) (omega arith) c.split_at_mut-before-2.ensures.front_len
    (omega arith) c.requires.target c.index-before-at.is c.index-rest-0-2.is c.receive-2.ensures).0

pub returns-clause-kept : goal.returns-clause-kept
returns-clause-kept c = (led_on c.args.table.now.items c.split_at_mut-before-2.result.0.now c.split_at_mut-before-2.result.1.now c.args.table.now.len
    c.args.at c.args.target c.index-before-at.result c.index-rest-0-2.result c.receive-2.new.self c.receive-2.result
    (sym c.deref_mut-2.ensures.value ∙ c.split_at_mut-before-2.ensures.value) (omega arith) c.split_at_mut-before-2.ensures.front_len
    (omega arith) c.requires.target c.index-before-at.is c.index-rest-0-2.is c.receive-2.ensures).1
