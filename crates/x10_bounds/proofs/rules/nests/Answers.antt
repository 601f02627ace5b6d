use Rattle.std.proofs.Common.{sym, ap, ◌∙◌}
use Rattle.std.proofs.lemmas.Option.{same_Some}
use Rattle.x10_code.specs.declared.instr.Instr.{Instr}
use Rattle.x10_model.specs.Structure.{around}
use Rattle.x10_bounds.specs.Shapes.{shape_of}
use Rattle.x10_bounds.proofs.SpotTests.{return_nests}
use Rattle.x10_bounds.proofs.rules.nests.Goals as goal

pub returns-in-Return : goal.returns-in-Return
returns-in-Return c i e =
    let same = same_Some i c.instr_at.result (sym e ∙ c.instr_at.ensures) in
    c.is_in_loops.ensures ∙ return_nests i.op (around c.args.code.now c.args.pc) c.spot_at-spot.result
    (ap (λ (j : Instr). shape_of j.op) same ∙ sym c.classify.ensures ∙ c.in-Return.is) c.spot_at-spot.ensures
