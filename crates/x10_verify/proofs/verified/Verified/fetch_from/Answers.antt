use Rattle.std.proofs.Common.{◌≡◌, Some, subst}
use Rattle.x10_model.specs.Ranges.{instr_at}
use Rattle.x10_verify.specs.Certified.{Certified, IsCertified}
use Rattle.x10_verify.proofs.Wholes.{fetched_in_range, fetched_follows}
use Rattle.x10_verify.proofs.verified.Verified.fetch_from.Goals as goal

pub returns-clause-in_range : goal.returns-clause-in_range
returns-clause-in_range c =
    let certified = subst (λ (v : Certified). IsCertified v) c.self.view_is c.self.invariant.certified in
    let value = subst (λ (v : Certified). instr_at v.program c.args.f c.args.pc ≡ Some c.instr_from.result) c.self.view_is
    c.instr_from.ensures.value in
    fetched_in_range c.args.self.now.program c.args.f c.args.pc c.instr_from.result certified.verified.in_range value

pub returns-clause-follows : goal.returns-clause-follows
returns-clause-follows c =
    let certified = subst (λ (v : Certified). IsCertified v) c.self.view_is c.self.invariant.certified in
    let value = subst (λ (v : Certified). instr_at v.program c.args.f c.args.pc ≡ Some c.instr_from.result) c.self.view_is
    c.instr_from.ensures.value in
    fetched_follows c.args.self.now.program c.args.self.now.bounds c.args.f c.args.pc c.instr_from.result certified.verified.bounds_are value
