use Rattle.std.proofs.Common.{ℕ, ◌++◌, ◌<◌, ◌^◌, length, sym, ◌∙◌, arith}
use Rattle.std.proofs.lemmas.Result.{on_ok_weaker}
use Rattle.std.specs.String.{string_bytes}
use Rattle.std.proofs.lemmas.Bool.{false≢true}
use Rattle.x10_log.specs.Logs.{runs}
use Rattle.x10_log.proofs.Fitting.{first_fits, next_fits, all_fit}
use Rattle.x10_log.proofs.KeyRuns.{run_words, some_keys, one_counted, same_counted, next_counted, last_counted}
use Rattle.x10_log.proofs.pieces.push_keys.Goals as goal
use Rattle.x10_log.proofs.pieces.push_keys.Goals.{then-next-key, else-next-key+in_ok-push_run}

pub loop-at-init : goal.loop-at-init
loop-at-init c = (
  one_counted (string_bytes c.args.text.now) c.at-key.result c.args.keys.now
      (some_keys c.args.keys.now (λ e. false≢true (sym c.if-is_empty.false ∙ c.is_empty.ensures.1 e))) c.at-key.ensures,
  first_fits c.at-key.result c.args.keys.now c.at-key.type_inv c.at-key.ensures,
)

pub overflow_add-count : goal.overflow_add-count
overflow_add-count c = omega (arith, c.loop-at.invariant.0.few, c.loop-at-test.true, c.len-at-end.type_inv)

pub loop-at-preserved : goal.loop-at-preserved
loop-at-preserved c =
    let whole = string_bytes c.args.text.now ++ run_words (runs c.args.keys.now) in
    let lt : c.loop-at.at < length c.args.keys.now = omega (arith, c.loop-at-test.true, c.len-at-end.ensures) in
    let fits = next_fits c.args.keys.now c.loop-at.at c.at-next.result c.loop-at.invariant.1 lt c.at-next.ensures c.at-next.type_inv in
    elim c.if-next-key.branch [
      | then-next-key w ↦ rw (w.text-is, w.key-is, w.count-is) (
        same_counted whole (string_bytes c.loop-at.text) c.loop-at.key c.loop-at.count c.args.keys.now c.loop-at.at c.loop-at.invariant.0 lt
            (sym c.at-next.ensures ∙ w.if-next-key.true),
        fits,
      )
      | else-next-key+in_ok-push_run w ↦ rw (w.text-is, w.key-is, w.count-is) (
        next_counted whole (string_bytes c.loop-at.text) (string_bytes w.push_run.new.text) c.loop-at.key c.loop-at.count c.args.keys.now
            c.loop-at.at c.at-next.result c.loop-at.invariant.0 lt c.at-next.ensures w.if-next-key.false c.loop-at.auto.at
            w.in_ok-push_run.ensures,
        fits,
      )
    ]

pub returns-clause-text : goal.returns-clause-text
returns-clause-text c =
    let whole = string_bytes c.args.text.now ++ run_words (runs c.args.keys.now) in
    on_ok_weaker c.push_run-2.result (λ d. last_counted whole (string_bytes c.loop-at.text) (string_bytes c.push_run-2.new.text) c.loop-at.key
    c.loop-at.count c.args.keys.now c.loop-at.at c.loop-at.invariant.0 (omega (arith, c.loop-at-test.false, c.len-at-end.ensures)) d)
    c.push_run-2.ensures

pub returns-clause-fits : goal.returns-clause-fits
returns-clause-fits c =
    on_ok_weaker c.push_run-2.result (λ d. all_fit (λ (n : ℕ). n < 2 ^ 64) c.args.keys.now c.loop-at.at c.loop-at.invariant.1
    (omega (arith, c.loop-at-test.false, c.len-at-end.ensures))) c.push_run-2.ensures
