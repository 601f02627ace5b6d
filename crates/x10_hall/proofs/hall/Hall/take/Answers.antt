use Rattle.std.proofs.Common.{◌<◌, length, arith}
use Rattle.std.proofs.lemmas.List.{get_or_read}
use Rattle.x10_hall.specs.Rows.{empty_row, row_at}
use Rattle.x10_hall.proofs.RowLogs.{counts, rows_set, rest_taken, take_tells}
use Rattle.x10_hall.proofs.hall.Hall.take.Goals as goal

pub take-requires : goal.take-requires
take-requires c =
    let here : c.from-2.result < length c.self.inside.rows.items = omega arith in
    let row = get_or_read c.self.inside.rows.items c.from-2.result c.index_mut-row.result.now here c.index_mut-row.ensures.value empty_row in
    rw row (counts c.self.inside.log.items c.self.inside.posted c.self.inside.rows.items c.from-2.result c.self.invariant here)

pub invariant_of-self : goal.invariant_of-self
invariant_of-self c =
    let here : c.from-2.result < length c.self.inside.rows.items = omega arith in
    let row = get_or_read c.self.inside.rows.items c.from-2.result c.index_mut-row.result.now here c.index_mut-row.ensures.value empty_row in
    rows_set c.self.inside.log.items c.self.inside.posted c.self.inside.rows.items c.from-2.result c.take.new.self c.self.invariant here
    (rest_taken _ (row_at c.self.inside.rows.items c.from-2.result) c.take.new.self c.take.result (c.self.invariant.each c.from-2.result here)
    (rw row at c.take.ensures.none) (rw row at c.take.ensures.some))

pub returns : goal.returns
returns c =
    let here : c.from-2.result < length c.self.inside.rows.items = omega arith in
    let row = get_or_read c.self.inside.rows.items c.from-2.result c.index_mut-row.result.now here c.index_mut-row.ensures.value empty_row in
    rw (← c.self.view_is, ← c.from-2.ensures) (take_tells c.self.inside.log.items c.self.inside.rows.items c.self.inside.state c.from-2.result here
    c.take.new.self c.take.result
    (c.self.invariant.each c.from-2.result here) (rw row at c.take.ensures.none) (rw row at c.take.ensures.some))
