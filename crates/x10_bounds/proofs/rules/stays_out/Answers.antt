use Rattle.std.proofs.Common.{sym, ap, ◌∙◌}
use Rattle.std.proofs.lemmas.Option.{same_Some}
use Rattle.x10_code.specs.declared.instr.Instr.{Instr}
use Rattle.x10_model.specs.Structure.{around, is_kept_out}
use Rattle.x10_bounds.proofs.AtomicRegions.{out_is}
use Rattle.x10_bounds.proofs.rules.stays_out.Goals as goal

pub returns-else-not-is_kept_out : goal.returns-else-not-is_kept_out
returns-else-not-is_kept_out c i e =
    let same = same_Some i c.instr_at.result (sym e ∙ c.instr_at.ensures) in
    out_is i.op (around c.args.code.now c.args.pc) c.spot_at.result
    (ap (λ (j : Instr). is_kept_out j.op) same ∙ sym c.is_kept_out.ensures ∙ c.if-not-is_kept_out.false) c.spot_at.ensures
