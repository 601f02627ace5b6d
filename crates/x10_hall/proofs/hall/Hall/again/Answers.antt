use Rattle.std.proofs.Common.{◌≡◌, ◌-◌, length, ◌∙◌, ap, sym, inl, refl, arith}
use Rattle.std.specs.Prelude.{slice_get}
use Rattle.std.proofs.lemmas.Option.{same_Some}
use Rattle.x10_hall.specs.Repetitions.{IsLast}
use Rattle.x10_hall.proofs.PostedTurns.{same_hall, delivered, rows_posted, hall_posted}
use Rattle.x10_hall.proofs.hall.Hall.again.Goals as goal

pub returns-in-Err-clause-err : goal.returns-in-Err-clause-err
returns-in-Err-clause-err c = (
  same_hall c.self.inside.log.items c.self.inside.rows.items c.make_room.new.rows.items c.self.inside.state
      c.make_room.ensures.count c.make_room.ensures.taken ∙ c.self.view_is,
  inl c.in-Err.ensures.err,
)

pub returns-in-Err-again-clause-err : goal.returns-in-Err-again-clause-err
returns-in-Err-again-clause-err c = (
  rw c.in-Err-again.ensures.err (same_hall c.self.inside.log.items c.self.inside.rows.items c.make_room.new.rows.items c.self.inside.state
      c.make_room.ensures.count c.make_room.ensures.taken ∙ c.self.view_is),
  inl refl,
)

pub invariant_of-self-2 : goal.invariant_of-self-2
invariant_of-self-2 c =
    let last : IsLast c.self.inside.log.items c.at-turn.result.now =
    ap (λ n. slice_get c.self.inside.log.items (n - 1)) (sym c.len.ensures) ∙ c.at-turn.ensures in
    let done = delivered c.at-turn.result.now c.self.inside.posted c.self.inside.rows.items c.make_room.new.rows.items c.deliver.new.rows.items
    c.in_ok-copies.copies.items
    c.make_room.ensures.count c.make_room.ensures.left c.make_room.ensures.taken c.deliver.ensures.count c.deliver.ensures.left
    c.deliver.ensures.taken
    (rw c.deref.ensures.value at c.in_ok-copies.ensures.ok) in
    let count : c.len-count.result ≡ length c.at-turn.result.now.frames.items = omega arith in
    rw (c.in_default-again.ensures.ok c.at-turn.result.now last) (rows_posted c.self.inside.log.items c.self.inside.posted c.self.inside.rows.items
    c.deliver.new.rows.items c.at-turn.result.now c.len-count.result c.self.invariant done count (omega arith))

pub returns-clause-ok : goal.returns-clause-ok
returns-clause-ok c turn is_last =
    let last : IsLast c.self.inside.log.items c.at-turn.result.now =
    ap (λ n. slice_get c.self.inside.log.items (n - 1)) (sym c.len.ensures) ∙ c.at-turn.ensures in
    let done = delivered c.at-turn.result.now c.self.inside.posted c.self.inside.rows.items c.make_room.new.rows.items c.deliver.new.rows.items
    c.in_ok-copies.copies.items
    c.make_room.ensures.count c.make_room.ensures.left c.make_room.ensures.taken c.deliver.ensures.count c.deliver.ensures.left
    c.deliver.ensures.taken
    (rw c.deref.ensures.value at c.in_ok-copies.ensures.ok) in
    let which = same_Some c.at-turn.result.now turn
    (sym last ∙ ap (λ h. slice_get h.log (length h.log - 1)) c.self.view_is ∙ is_last) in
    rw (c.in_default-again.ensures.ok c.at-turn.result.now last, ← which, ← c.self.view_is) (hall_posted c.self.inside.log.items
    c.self.inside.posted c.self.inside.rows.items c.deliver.new.rows.items c.self.inside.state c.at-turn.result.now done)
