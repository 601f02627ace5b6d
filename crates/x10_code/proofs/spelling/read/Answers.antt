use Rattle.std.proofs.Common.{ℕ, ◌<◌, sym, refl, ◌∙◌, arith}
use Rattle.std.specs.Prelude.{slice_index}
use Rattle.x10_code.proofs.CodecLemmas.{read_unknown, read_used, read_unused}
use Rattle.x10_code.proofs.Unused.{read_fits}
use Rattle.x10_code.proofs.spelling.read.Goals as goal

pub returns-in_default : goal.returns-in_default
returns-in_default c = sym (read_unknown c.args.bytes.now (sym c.op_with_code.ensures.value ∙ c.in_default.is))

pub returns-then-read_u64-unused-ne0 : goal.returns-then-read_u64-unused-ne0
returns-then-read_u64-unused-ne0 c =
    let bytes : (k : ℕ) → slice_index c.args.bytes.now k < 256 = λ k. omega (arith, c.type_inv.bytes k) in
    read_unused c.args.bytes.now c.in-Some.op _ (sym c.op_with_code.ensures.value ∙ c.in-Some.is) refl
    (λ fits. c.if-read_u64-unused-ne0.true ((read_fits c.args.bytes.now c.in-Some.op c.read_u64.result c.unused.result _ bytes c.read_u64.ensures refl
    c.unused.ensures.value).1 fits))

pub returns : goal.returns
returns c =
    let bytes : (k : ℕ) → slice_index c.args.bytes.now k < 256 = λ k. omega (arith, c.type_inv.bytes k) in
    read_used c.args.bytes.now c.in-Some.op c.read_u32.result (sym c.op_with_code.ensures.value ∙ c.in-Some.is) c.read_u32.ensures
    ((read_fits c.args.bytes.now c.in-Some.op c.read_u64.result c.unused.result c.read_u32.result bytes c.read_u64.ensures c.read_u32.ensures
    c.unused.ensures.value).0 c.if-read_u64-unused-ne0.false)
