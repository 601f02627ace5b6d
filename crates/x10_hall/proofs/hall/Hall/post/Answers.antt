use Rattle.std.proofs.Common.{◌≡◌, length, ◌∙◌, inl, refl, arith}
use Rattle.x10_hall.proofs.PostedTurns.{same_hall, delivered, rows_posted, hall_posted}
use Rattle.x10_hall.proofs.hall.Hall.post.Goals as goal

pub returns-in-Err-clause-err : goal.returns-in-Err-clause-err
returns-in-Err-clause-err c = (
  same_hall c.self.inside.log.items c.self.inside.rows.items c.make_room.new.rows.items c.self.inside.state
      c.make_room.ensures.count c.make_room.ensures.taken ∙ c.self.view_is,
  inl c.in-Err.ensures.err,
)

pub returns-in-Err-push-clause-err : goal.returns-in-Err-push-clause-err
returns-in-Err-push-clause-err c = (
  rw c.in-Err-push.ensures.err (same_hall c.self.inside.log.items c.self.inside.rows.items c.make_room.new.rows.items c.self.inside.state
      c.make_room.ensures.count c.make_room.ensures.taken ∙ c.self.view_is),
  inl refl,
)

pub invariant_of-self-2 : goal.invariant_of-self-2
invariant_of-self-2 c =
    let done = delivered c.args.turn c.self.inside.posted c.self.inside.rows.items c.make_room.new.rows.items c.deliver.new.rows.items
    c.in_ok-copies.copies.items
    c.make_room.ensures.count c.make_room.ensures.left c.make_room.ensures.taken c.deliver.ensures.count c.deliver.ensures.left
    c.deliver.ensures.taken
    (rw c.deref.ensures.value at c.in_ok-copies.ensures.ok) in
    let count : c.len-count.result ≡ length c.args.turn.frames.items = omega arith in
    rw c.in_default-push.ensures.ok (rows_posted c.self.inside.log.items c.self.inside.posted c.self.inside.rows.items c.deliver.new.rows.items c.args.turn
    c.len-count.result c.self.invariant done count (omega arith))

pub returns-clause-ok : goal.returns-clause-ok
returns-clause-ok c =
    let done = delivered c.args.turn c.self.inside.posted c.self.inside.rows.items c.make_room.new.rows.items c.deliver.new.rows.items
    c.in_ok-copies.copies.items
    c.make_room.ensures.count c.make_room.ensures.left c.make_room.ensures.taken c.deliver.ensures.count c.deliver.ensures.left
    c.deliver.ensures.taken
    (rw c.deref.ensures.value at c.in_ok-copies.ensures.ok) in
    rw (c.in_default-push.ensures.ok, ← c.self.view_is) (hall_posted c.self.inside.log.items c.self.inside.posted c.self.inside.rows.items
    c.deliver.new.rows.items c.self.inside.state c.args.turn done)
