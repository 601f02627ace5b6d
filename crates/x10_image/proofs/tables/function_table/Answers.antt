use Rattle.std.proofs.Common.{suc, ◌+◌, arith, add-one}
use Rattle.std.proofs.lemmas.Result.{err_from_is_err_and}
use Rattle.x10_model.specs.Modules.{FitsFunction}
use Rattle.x10_model.specs.Images.{function_bytes}
use Rattle.x10_model.specs.Readers.{numbered}
use Rattle.x10_model.specs.ReadingImages.{function_at}
use Rattle.x10_model.proofs.FunctionLaws.{function_reads}
use Rattle.x10_model.proofs.Offsets.{ends_small, ends_bytes}
use Rattle.x10_image.specs.Faults.{named}
use Rattle.x10_bytes.proofs.TableLoops.{placed_start, placed_next, placed_fault, placed_end}
use Rattle.x10_image.proofs.tables.function_table.Goals as goal

pub loop-function-init : goal.loop-function-init
loop-function-init c = placed_start (function_at c.args.version c.args.classes)
    (λ s _. suc s) function_bytes c.args.image.now c.args.count 0 c.args.bytes.now c.new-table.result.items c.new-table.ensures.items c.requires

pub overflow_sub-at : goal.overflow_sub-at
overflow_sub-at c = omega (arith, ends_small _ _ c.loop-function.invariant.ends)

pub loop-function-preserved : goal.loop-function-preserved
loop-function-preserved c =
    placed_next (function_at c.args.version c.args.classes) (λ s _. suc s) function_bytes (λ _. FitsFunction c.args.version c.args.classes)
    (function_reads c.args.version c.args.classes c.ranges.classes.fits) c.args.image.now c.args.count c.loop-function.function 0
    c.loop-function.function (c.loop-function.function + 1) c.loop-function.rest.now c.loop-function.table.items c.push.new.self.items
    c.in_ok-rest.ensures.exact.0 c.in_ok-rest.rest.now (numbered c.args.count (function_at c.args.version c.args.classes) c.args.bytes.now)
    c.loop-function-test.true (ends_bytes _ _ (λ k. omega (arith, c.type_inv.image k)) c.loop-function.invariant.ends) c.loop-function.invariant
    c.in_ok-rest.ensures.exact.1 (add-one _) c.in_ok-push.ensures.items

pub returns-in_err-rest : goal.returns-in_err-rest
returns-in_err-rest c =
    let p = err_from_is_err_and c.from_residual.result c.from_residual.ensures.1 in
    rw (p.1, p.2) (record {
      exact = placed_fault (function_at c.args.version c.args.classes)
          (λ s _. suc s) function_bytes c.args.image.now c.args.count c.loop-function.function 0 c.loop-function.function c.loop-function.rest.now
          c.loop-function.table.items (numbered c.args.count (function_at c.args.version c.args.classes) c.args.bytes.now)
          (named c.in_err-rest.field-0.0.fault) c.loop-function-test.true c.loop-function.invariant c.in_err-rest.ensures.exact;
    })

pub returns : goal.returns
returns c = record {
  exact = placed_end (function_at c.args.version c.args.classes)
      (λ s _. suc s) function_bytes c.args.image.now c.args.count c.loop-function.function 0 c.loop-function.function c.loop-function.rest.now
      c.loop-function.table.items (numbered c.args.count (function_at c.args.version c.args.classes) c.args.bytes.now) c.loop-function-test.false
      c.loop-function.invariant;
}
