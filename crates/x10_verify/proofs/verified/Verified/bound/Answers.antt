use Rattle.std.proofs.Common.{◌≡◌, ◌<◌, Some, subst, sym, length, arith, refl}
use Rattle.std.specs.Prelude.{slice_get}
use Rattle.x10_verify.specs.Certified.{Certified}
use Rattle.x10_verify.proofs.Wholes.{bound_below}
use Rattle.x10_verify.proofs.verified.Verified.bound.Goals as goal
use Rattle.std.proofs.lemmas.Option.{slice_get_read}

pub index-requires : goal.index-requires
index-requires c =
    let lt = subst (λ (v : Certified). c.args.f < length v.program.functions) (sym c.self.view_is) c.requires in
    let h = bound_below c.self.inside.image c.self.inside.bounds.items c.args.f c.self.invariant.certified.verified.bounds_are lt in
    omega arith

pub returns : goal.returns
returns c =
    let lt = subst (λ (v : Certified). c.args.f < length v.program.functions) (sym c.self.view_is) c.requires in
    let h = bound_below c.self.inside.image c.self.inside.bounds.items c.args.f c.self.invariant.certified.verified.bounds_are lt in
    subst (λ (v : Certified). slice_get v.bounds c.args.f ≡ Some c.index.result.now) c.self.view_is
    (slice_get_read c.self.inside.bounds.items _ c.args.f c.index.result.now refl h c.index.ensures)
