use Rattle.std.proofs.Common.{refl, sym, ap, ◌∙◌, arith}
use Rattle.std.specs.Prelude.{length, slice_get}
use Rattle.std.proofs.lemmas.Option.{slice_get_read}
use Rattle.x10_hall.proofs.Picks.{picked_length, picked_at, within_at}
use Rattle.x10_hall.proofs.repeats.Repeats.at.Goals as goal

pub index-requires : goal.index-requires
index-requires g c =
    let many = picked_length c.self.inside.kept.items c.self.inside.order.items c.self.invariant in
    let seen = ap (λ r. length r.items) c.self.view_is in
    omega (arith, c.requires, many, seen, c.self.inside.order.ok.0)

pub index-requires-2 : goal.index-requires-2
index-requires-2 g c =
    let many = picked_length c.self.inside.kept.items c.self.inside.order.items c.self.invariant in
    let seen = ap (λ r. length r.items) c.self.view_is in
    let within = within_at (length c.self.inside.kept.items) c.self.inside.order.items c.args.position c.index.result.now c.self.invariant
    (omega (arith, c.requires, many, seen)) in
    omega (arith, within, c.index.ensures, c.self.inside.kept.ok.0)

pub returns : goal.returns
returns g c =
    let many = picked_length c.self.inside.kept.items c.self.inside.order.items c.self.invariant in
    let seen = ap (λ r. length r.items) c.self.view_is in
    let within = within_at (length c.self.inside.kept.items) c.self.inside.order.items c.args.position c.index.result.now c.self.invariant
    (omega (arith, c.requires, many, seen)) in
    ap (λ r. slice_get r.items c.args.position) (sym c.self.view_is)
    ∙ picked_at c.self.inside.kept.items c.self.inside.order.items c.args.position c.index.result.now c.index-2.result.now c.self.invariant
    (slice_get_read c.self.inside.order.items _ c.args.position c.index.result.now refl (omega (arith, c.requires, many, seen)) c.index.ensures)
    (slice_get_read c.self.inside.kept.items _ c.index.result.now c.index-2.result.now refl (omega (arith, within, c.index.ensures)) c.index-2.ensures)
