use Rattle.std.proofs.Common.{refl}
use Rattle.x10_verify.proofs.Flows.{flaws_by}
use Rattle.x10_verify.proofs.Solved.{solved_least}
use Rattle.x10_verify.proofs.Wholes.{names_in}
use Rattle.x10_verify.proofs.flow.flow_fault.Goals as goal

pub returns-in-Some : goal.returns-in-Some
returns-in-Some c = λ function there. (refl, c.in-Some.ensures.first function there)

pub solve-requires-clause-names : goal.solve-requires-clause-names
solve-requires-clause-names c = names_in c.args.image.now c.args.f c.fits.ensures c.in_default.ensures.first

pub returns-in-Ok : goal.returns-in-Ok
returns-in-Ok c = λ function there. (
  c.in_default.ensures.first function there,
  solved_least c.args.image.now function c.solve.new.table.items (c.in-Ok.ensures.solved function there),
)

pub returns-in-Err : goal.returns-in-Err
returns-in-Err c = rw c.named.ensures (λ function there. (
  refl,
  flaws_by c.args.image.now function c.in-Err.fault.pc c.solve.new.table.items c.in-Err.fault.cause (record {
    range = c.in_default.ensures.first function there;
    without = c.in-Err.ensures.without function there;
    stops = c.in-Err.ensures.cause function there;
    shows = c.in-Err.ensures.shows function there;
  }),
))
