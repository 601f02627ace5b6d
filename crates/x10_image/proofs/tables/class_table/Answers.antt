use Rattle.std.proofs.Common.{ℕ, refl, arith}
use Rattle.std.proofs.lemmas.Result.{err_from_is_err_and}
use Rattle.x10_model.specs.Modules.{FitsClass}
use Rattle.x10_model.specs.Images.{class_bytes}
use Rattle.x10_model.specs.Readers.{times}
use Rattle.x10_model.specs.ReadingImages.{class_at}
use Rattle.x10_model.proofs.ImageParts.{class_reads}
use Rattle.x10_model.proofs.Offsets.{ends_small, ends_bytes}
use Rattle.x10_image.specs.Faults.{named}
use Rattle.x10_bytes.proofs.TableLoops.{placed_start, placed_next, placed_fault, placed_end}
use Rattle.x10_image.proofs.tables.class_table.Goals as goal

pub loop-init : goal.loop-init
loop-init c = placed_start (λ (_ : ℕ). class_at c.args.count)
    (λ s _. s) class_bytes c.args.image.now c.args.count 0 c.args.bytes.now c.new-table.result.items c.new-table.ensures.items c.requires

pub overflow_sub-at : goal.overflow_sub-at
overflow_sub-at c = omega (arith, ends_small _ _ c.loop.invariant.ends)

pub loop-preserved : goal.loop-preserved
loop-preserved c =
    placed_next (λ (_ : ℕ). class_at c.args.count) (λ s _. s) class_bytes (λ _. FitsClass c.args.count)
    (λ _. class_reads c.args.count c.ranges.count.fits) c.args.image.now c.args.count c.loop.counter 0 0 0 c.loop.rest.now c.loop.table.items
    c.push.new.self.items c.in_ok-rest.ensures.exact.0 c.in_ok-rest.rest.now (times c.args.count (class_at c.args.count) c.args.bytes.now)
    c.loop-test.true (ends_bytes _ _ (λ k. omega (arith, c.type_inv.image k)) c.loop.invariant.ends) c.loop.invariant c.in_ok-rest.ensures.exact.1
    refl c.in_ok-push.ensures.items

pub returns-in_err-rest : goal.returns-in_err-rest
returns-in_err-rest c =
    let p = err_from_is_err_and c.from_residual.result c.from_residual.ensures.1 in
    rw (p.1, p.2) (record {
      exact = placed_fault (λ (_ : ℕ). class_at c.args.count)
          (λ s _. s) class_bytes c.args.image.now c.args.count c.loop.counter 0 0 c.loop.rest.now c.loop.table.items
          (times c.args.count (class_at c.args.count) c.args.bytes.now)
          (named c.in_err-rest.field-0.0.fault) c.loop-test.true c.loop.invariant c.in_err-rest.ensures.exact;
    })

pub returns : goal.returns
returns c = record {
  exact = placed_end (λ (_ : ℕ). class_at c.args.count)
      (λ s _. s) class_bytes c.args.image.now c.args.count c.loop.counter 0 0 c.loop.rest.now c.loop.table.items
      (times c.args.count (class_at c.args.count) c.args.bytes.now) c.loop-test.false c.loop.invariant;
}
