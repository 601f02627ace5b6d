use Rattle.std.proofs.Common.{refl, sym, ap, ◌∙◌}
use Rattle.std.specs.Prelude.{is_some}
use Rattle.x10_asm.proofs.LabelTables.{table_again, table_more, key_of, key_finds, key_updates}
use Rattle.x10_asm.proofs.label.define.Goals as goal

pub returns-in_ok-insert : goal.returns-in_ok-insert
returns-in_ok-insert c = λ all t.
    let key = key_of c.front-front.result c.args.name in
    let there = sym (key_finds c.args.name.now key c.args.table.now c.front-front.ensures refl) ∙ sym c.in_ok-first.ensures.old ∙ c.in-Some.is in
    table_again c.args.table.now c.insert.new.self c.insert-in-Some.new.self all _ c.in-Some.first t there
    (key_updates c.args.name.now key c.args.table.now c.insert.new.self _ c.front-front.ensures refl c.in_ok-first.ensures.updates)
    (key_updates c.args.name.now key c.insert.new.self c.insert-in-Some.new.self _ c.front-front.ensures refl c.in_ok-insert.ensures.updates)

pub returns-in_default : goal.returns-in_default
returns-in_default c = λ all t.
    let key = key_of c.front-front.result c.args.name in
    let absent = sym (key_finds c.args.name.now key c.args.table.now c.front-front.ensures refl) ∙ sym c.in_ok-first.ensures.old ∙ c.in_default.is in
    table_more c.args.table.now c.insert.new.self all _ t (ap is_some absent)
    (key_updates c.args.name.now key c.args.table.now c.insert.new.self _ c.front-front.ensures refl c.in_ok-first.ensures.updates)
