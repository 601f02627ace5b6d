use Rattle.std.proofs.Common.{ℕ, refl, arith}
use Rattle.std.proofs.lemmas.Result.{err_from_is_err_and}
use Rattle.x10_model.specs.Modules.{FitsText}
use Rattle.x10_model.specs.Frames.{blob_bytes}
use Rattle.x10_model.specs.Readers.{times}
use Rattle.x10_model.specs.ReadingFrames.{text_at}
use Rattle.x10_model.proofs.GraphLaws.{text_reads}
use Rattle.x10_model.proofs.Offsets.{ends_small, ends_bytes}
use Rattle.x10_frame.specs.Faults.{named}
use Rattle.x10_bytes.proofs.TableLoops.{placed_start, placed_next, placed_fault, placed_end}
use Rattle.x10_frame.proofs.tables.text_table.Goals as goal

pub loop-init : goal.loop-init
loop-init c = placed_start (λ (_ : ℕ). text_at) (λ s _. s) blob_bytes c.args.frame.now c.args.count 0 c.args.bytes.now c.new-table.result.items
    c.new-table.ensures.items c.requires

pub overflow_sub-at : goal.overflow_sub-at
overflow_sub-at c = omega (arith, ends_small _ _ c.loop.invariant.ends)

pub loop-preserved : goal.loop-preserved
loop-preserved c =
    placed_next (λ (_ : ℕ). text_at) (λ s _. s) blob_bytes (λ _. FitsText)
    (λ _. text_reads) c.args.frame.now c.args.count c.loop.counter 0 0 0 c.loop.rest.now c.loop.table.items c.push.new.self.items
    c.in_ok-rest.ensures.exact.0 c.in_ok-rest.rest.now (times c.args.count text_at c.args.bytes.now)
    c.loop-test.true (ends_bytes _ _ (λ k. omega (arith, c.type_inv.frame k)) c.loop.invariant.ends) c.loop.invariant c.in_ok-rest.ensures.exact.1
    refl c.in_ok-push.ensures.items

pub returns-in_err-rest : goal.returns-in_err-rest
returns-in_err-rest c =
    let p = err_from_is_err_and c.from_residual.result c.from_residual.ensures.1 in
    rw (p.1, p.2) (record {
      exact = placed_fault (λ (_ : ℕ). text_at)
          (λ s _. s) blob_bytes c.args.frame.now c.args.count c.loop.counter 0 0 c.loop.rest.now c.loop.table.items
          (times c.args.count text_at c.args.bytes.now) (named c.in_err-rest.field-0.0) c.loop-test.true c.loop.invariant c.in_err-rest.ensures.exact;
    })

pub returns : goal.returns
returns c = record {
  exact = placed_end (λ (_ : ℕ). text_at)
      (λ s _. s) blob_bytes c.args.frame.now c.args.count c.loop.counter 0 0 c.loop.rest.now c.loop.table.items
      (times c.args.count text_at c.args.bytes.now) c.loop-test.false c.loop.invariant;
}
