use Rattle.std.proofs.Common.{◌≡◌, ◌∙◌, Some, arith, refl}
use Rattle.std.specs.Prelude.{slice_get}
use Rattle.x10_verify.specs.Least.{HasLeast}
use Rattle.x10_verify.specs.Solving.{Stops}
use Rattle.x10_verify.proofs.Prints.{rows_all, rows_more, rows_set}
use Rattle.x10_verify.proofs.Wholes.{first_without_is, function_there, all_functions, functions_more, has_names, least_assigns}
use Rattle.x10_verify.proofs.whole.check_flow.Goals as goal
use Rattle.std.proofs.lemmas.Option.{slice_get_read}

pub check_function-requires-clause-names : goal.check_function-requires-clause-names
check_function-requires-clause-names c = has_names c.args.image.now c.loop-function.function c.fits.ensures c.requires.range

pub returns-in-Err-clause-err : goal.returns-in-Err-clause-err
returns-in-Err-clause-err c = first_without_is c.args.image.now c.loop-function.function (omega arith)
    (λ g function lt e. least_assigns c.args.image.now function (c.loop-function.invariant.assigned g function lt e)) c.in-Err.ensures.decides

pub returns-in-Err-clause-cause : goal.returns-in-Err-clause-cause
returns-in-Err-clause-cause c = function_there c.args.image.now c.loop-function.function
    (λ function. Stops c.args.image.now function c.in-Err.fault.pc c.in-Err.fault.cause) (omega arith) c.in-Err.ensures.cause

pub returns-clause-ok : goal.returns-clause-ok
returns-clause-ok c = all_functions c.args.image.now (HasLeast c.args.image.now) c.loop-function.function
    (omega arith) c.loop-function.invariant.assigned

pub loop-function-preserved : goal.loop-function-preserved
loop-function-preserved c =
    let there : slice_get c.loop-function.rows.items c.loop-function.function ≡ Some c.index_mut.result.now =
    slice_get_read c.loop-function.rows.items _ c.loop-function.function c.index_mut.result.now refl
    (omega (arith, c.loop-function.invariant.rows.count)) c.index_mut.ensures.value in record {
      assigned = functions_more c.args.image.now (HasLeast c.args.image.now) c.loop-function.function c.loop-function.invariant.assigned
          c.in_default.ensures.decides;
      rows = rows_set c.args.image.now c.loop-function.rows.items c.loop-function.function c.index_mut.result.now c.check_function.new.row
          c.loop-function.invariant.rows there c.in_default.ensures.row;
      noted = rows_more c.args.image.now c.loop-function.rows.items c.loop-function.function c.index_mut.result.now c.check_function.new.row there
          c.loop-function.invariant.noted c.in_default.ensures.noted;
      fresh = c.in_default.ensures.fresh;
      size = c.in_default.ensures.size ∙ c.loop-function.invariant.size;
    }

pub returns-clause-noted : goal.returns-clause-noted
returns-clause-noted c = rows_all c.args.image.now c.loop-function.rows.items c.loop-function.function c.loop-function.invariant.rows
    (omega arith) c.loop-function.invariant.noted
