use Rattle.std.proofs.Common.{◌∙◌, arith, refl}
use Rattle.std.proofs.Math.ListN.{length-set}
use Rattle.x10_verify.proofs.Prints.{noted_more, noted_all}
use Rattle.x10_verify.proofs.printing.note.Goals as goal
use Rattle.std.proofs.lemmas.Option.{slice_get_read}

pub loop-pc-preserved : goal.loop-pc-preserved
loop-pc-preserved c = record {
  noted = noted_more c.args.image.now c.args.f c.loop-pc.pc c.args.table.now.items c.loop-pc.row.items c.instr_from.result c.index.result.now
      c.prints.result (omega arith) c.instr_from.ensures.value
      (slice_get_read c.args.table.now.items _ c.loop-pc.pc c.index.result.now refl (omega arith) c.index.ensures) c.prints.ensures
      c.loop-pc.invariant.noted;
  size = length-set c.loop-pc.row.items c.loop-pc.pc c.prints.result ∙ c.loop-pc.invariant.size;
}

pub returns-clause-noted : goal.returns-clause-noted
returns-clause-noted c = noted_all c.args.image.now c.args.f c.loop-pc.pc c.args.table.now.items c.loop-pc.row.items (omega arith)
    (omega arith) c.loop-pc.invariant.noted
