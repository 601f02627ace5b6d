use Rattle.std.proofs.Common.{◌≡◌, length, arith}
use Rattle.x10_verify.specs.Known.{state_of}
use Rattle.x10_verify.proofs.InFunction.{code_length, same_entry, same_result}
use Rattle.x10_verify.proofs.Solved.{begins}
use Rattle.x10_verify.proofs.Tabled.{arrives_size}
use Rattle.x10_verify.proofs.solver.solve.Goals as goal

pub loop-at-init : goal.loop-at-init
loop-at-init c = record {
  solves = λ function there.
      let size : length function.code ≡ c.code_len-len.result =
      code_length c.args.image.now c.args.f c.code_len-len.result function there c.code_len-len.ensures.value in
      begins c.args.image.now function c.entry-first.result c.args.table.now.items c.arrive.new.table.items c.arrive.result
      (omega arith) c.requires.fresh c.arrive.ensures
      (same_entry c.args.image.now c.args.f function c.signature-signature.result
      (state_of c.entry-first.result) c.signature-signature.ensures.value there c.entry-first.ensures.same) c.entry-first.ensures.valid
      c.narrow.ensures;
  size = arrives_size c.args.table.now.items 0 c.entry-first.result c.arrive.new.table.items c.arrive.result c.arrive.ensures;
}

pub returns-clause-solved : goal.returns-clause-solved
returns-clause-solved c = λ function there.
    let size : length function.code ≡ c.code_len-len.result = code_length c.args.image.now c.args.f c.code_len-len.result function there
    c.code_len-len.ensures.value in
    (c.loop-at.at, omega arith, c.loop-at.invariant.solves function there)

pub returns-in-Err-clause-without : goal.returns-in-Err-clause-without
returns-in-Err-clause-without c = λ function there.
    (c.in-Err.ensures.steps function there (same_result c.args.image.now c.args.f function c.signature-signature.result c.result-slot.result
    c.signature-signature.ensures.value c.result-slot.ensures.value there) (c.loop-at.invariant.solves function there)).0

pub returns-in-Err-clause-cause : goal.returns-in-Err-clause-cause
returns-in-Err-clause-cause c = λ function there.
    (c.in-Err.ensures.steps function there (same_result c.args.image.now c.args.f function c.signature-signature.result c.result-slot.result
    c.signature-signature.ensures.value c.result-slot.ensures.value there) (c.loop-at.invariant.solves function there)).1

pub returns-in-Err-clause-shows : goal.returns-in-Err-clause-shows
returns-in-Err-clause-shows c = λ function there.
    (c.in-Err.ensures.steps function there (same_result c.args.image.now c.args.f function c.signature-signature.result c.result-slot.result
    c.signature-signature.ensures.value c.result-slot.ensures.value there) (c.loop-at.invariant.solves function there)).2
