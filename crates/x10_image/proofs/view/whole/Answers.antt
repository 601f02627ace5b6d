use Rattle.std.proofs.Common.{sym, ◌∙◌, arith, rules, tests}
use Rattle.std.proofs.lemmas.Result.{err_from_is_err_and}
use Rattle.x10_model.proofs.Offsets.{ends_small}
use Rattle.x10_image.specs.Faults.{named}
use Rattle.x10_image.specs.Headers.{seen}
use Rattle.x10_image.proofs.Whole.{header_ends, ints_end, header_fault, classes_fault, ints_fault, texts_fault, functions_fault, Steps, trailing, no_entry, read_is, is_view, is_in}
use Rattle.x10_image.proofs.view.whole.Goals as goal

pub returns-in_err-header : goal.returns-in_err-header
returns-in_err-header c =
    let p = err_from_is_err_and c.from_residual.result c.from_residual.ensures.1 in
    rw (p.1, p.2) (record { exact = header_fault c.args.bytes.now (named c.in_err-header.field-0.0.fault) c.in_err-header.ensures.exact })

pub class_table-requires : goal.class_table-requires
class_table-requires c = header_ends c.args.bytes.now (seen c.in_ok-header.header) c.in_ok-header.rest.now
    (λ k. omega (arith, c.type_inv.bytes k)) c.in_ok-header.ensures.exact

pub returns-in_err-classes : goal.returns-in_err-classes
returns-in_err-classes c =
    let p = err_from_is_err_and c.from_residual-in_err-classes.result c.from_residual-in_err-classes.ensures.1 in
    rw (p.1, p.2) (record {
      exact = classes_fault c.args.bytes.now (seen c.in_ok-header.header) c.in_ok-header.rest.now
          (named c.in_err-classes.field-0.0) c.in_ok-header.ensures.exact c.in_err-classes.ensures.exact;
    })

pub overflow_sub-ints : goal.overflow_sub-ints
overflow_sub-ints c = omega (arith, ends_small _ _ c.in_ok-classes.ensures.exact.ends)

pub returns-in_err-rest : goal.returns-in_err-rest
returns-in_err-rest c =
    let p = err_from_is_err_and c.from_residual-in_err-rest.result c.from_residual-in_err-rest.ensures.1 in
    rw (p.1, p.2) (record {
      exact = ints_fault c.args.bytes.now
          (seen c.in_ok-header.header) c.in_ok-header.rest.now c.in_ok-classes.classes.items c.in_ok-classes.rest.now
          (named c.in_err-rest.field-0.0.fault) c.in_ok-header.ensures.exact c.in_ok-classes.ensures.exact c.in_err-rest.ensures.exact;
    })

pub text_table-requires : goal.text_table-requires
text_table-requires c = ints_end c.args.bytes.now (seen c.in_ok-header.header) c.in_ok-classes.rest.now c.in_ok-rest.rest.now
    (λ k. omega (arith, c.type_inv.bytes k)) c.in_ok-classes.ensures.exact.ends c.in_ok-rest.ensures.exact

pub returns-in_err-texts : goal.returns-in_err-texts
returns-in_err-texts c =
    let p = err_from_is_err_and c.from_residual-in_err-texts.result c.from_residual-in_err-texts.ensures.1 in
    rw (p.1, p.2) (record {
      exact = texts_fault c.args.bytes.now
          (seen c.in_ok-header.header) c.in_ok-header.rest.now c.in_ok-classes.classes.items c.in_ok-classes.rest.now c.in_ok-rest.rest.now
          (named c.in_err-texts.field-0.0) c.in_ok-header.ensures.exact c.in_ok-classes.ensures.exact c.in_ok-rest.ensures.exact
          c.in_err-texts.ensures.exact;
    })

pub function_table-requires : goal.function_table-requires
function_table-requires c = c.in_ok-texts.ensures.exact.ends

pub returns-in_err-functions : goal.returns-in_err-functions
returns-in_err-functions c =
    let p = err_from_is_err_and c.from_residual-in_err-functions.result c.from_residual-in_err-functions.ensures.1 in
    rw (p.1, p.2) (record {
      exact = functions_fault c.args.bytes.now
          (seen c.in_ok-header.header) c.in_ok-header.rest.now c.in_ok-classes.classes.items c.in_ok-classes.rest.now c.in_ok-rest.rest.now
          c.in_ok-texts.texts.items c.in_ok-texts.rest.now (named c.in_err-functions.field-0.0) c.in_ok-header.ensures.exact
          c.in_ok-classes.ensures.exact c.in_ok-rest.ensures.exact c.in_ok-texts.ensures.exact c.in_err-functions.ensures.exact;
    })

pub has_entry-requires : goal.has_entry-requires
has_entry-requires c = rw c.deref.ensures.value (c.in_ok-functions.ensures.exact.items, c.in_ok-functions.ensures.exact.places)

pub returns-then-not-is_empty : goal.returns-then-not-is_empty
returns-then-not-is_empty c =
    let s : Steps c.args.bytes.now c.in_ok-header.header c.in_ok-header.rest.now c.in_ok-classes.classes.items c.in_ok-classes.rest.now
    c.in_ok-rest.rest.now c.in_ok-texts.texts.items c.in_ok-texts.rest.now c.in_ok-functions.functions.items c.in_ok-functions.rest.now =
    record {
      small = λ k. omega (arith, c.type_inv.bytes k);
      header = c.in_ok-header.ensures.exact;
      classes = c.in_ok-classes.ensures.exact;
      ints = c.in_ok-rest.ensures.exact;
      texts = c.in_ok-texts.ensures.exact;
      functions = c.in_ok-functions.ensures.exact;
    } in
    record {
      exact = trailing c.args.bytes.now c.in_ok-header.header c.in_ok-header.rest.now c.in_ok-classes.classes.items c.in_ok-classes.rest.now
          c.in_ok-rest.rest.now c.in_ok-texts.texts.items c.in_ok-texts.rest.now c.in_ok-functions.functions.items c.in_ok-functions.rest.now s
          (search (rules, tests));
    }

pub returns-then-not-has_entry : goal.returns-then-not-has_entry
returns-then-not-has_entry c =
    let s : Steps c.args.bytes.now c.in_ok-header.header c.in_ok-header.rest.now c.in_ok-classes.classes.items c.in_ok-classes.rest.now
    c.in_ok-rest.rest.now c.in_ok-texts.texts.items c.in_ok-texts.rest.now c.in_ok-functions.functions.items c.in_ok-functions.rest.now =
    record {
      small = λ k. omega (arith, c.type_inv.bytes k);
      header = c.in_ok-header.ensures.exact;
      classes = c.in_ok-classes.ensures.exact;
      ints = c.in_ok-rest.ensures.exact;
      texts = c.in_ok-texts.ensures.exact;
      functions = c.in_ok-functions.ensures.exact;
    } in
    let entry = c.has_entry.ensures c.in_ok-functions.ensures.exact.items (rw c.deref.ensures.value c.in_ok-functions.ensures.exact.places) in
    record {
      exact = no_entry c.args.bytes.now c.in_ok-header.header c.in_ok-header.rest.now c.in_ok-classes.classes.items c.in_ok-classes.rest.now
          c.in_ok-rest.rest.now c.in_ok-texts.texts.items c.in_ok-texts.rest.now c.in_ok-functions.functions.items c.in_ok-functions.rest.now s
          (search (rules, tests)) (sym entry ∙ c.if-not-has_entry.true);
    }

pub invariant_of-result : goal.invariant_of-result
invariant_of-result c =
    let s : Steps c.args.bytes.now c.in_ok-header.header c.in_ok-header.rest.now c.in_ok-classes.classes.items c.in_ok-classes.rest.now
    c.in_ok-rest.rest.now c.in_ok-texts.texts.items c.in_ok-texts.rest.now c.in_ok-functions.functions.items c.in_ok-functions.rest.now =
    record {
      small = λ k. omega (arith, c.type_inv.bytes k);
      header = c.in_ok-header.ensures.exact;
      classes = c.in_ok-classes.ensures.exact;
      ints = c.in_ok-rest.ensures.exact;
      texts = c.in_ok-texts.ensures.exact;
      functions = c.in_ok-functions.ensures.exact;
    } in
    let entry = c.has_entry.ensures c.in_ok-functions.ensures.exact.items (rw c.deref.ensures.value c.in_ok-functions.ensures.exact.places) in
    is_view c.args.bytes.now c.in_ok-header.header c.in_ok-header.rest.now c.in_ok-classes.classes.items c.in_ok-classes.rest.now
    c.in_ok-rest.rest.now c.in_ok-texts.texts.items c.in_ok-texts.rest.now c.in_ok-functions.functions.items c.in_ok-functions.rest.now s
    (read_is c.args.bytes.now c.in_ok-header.header c.in_ok-header.rest.now c.in_ok-classes.classes.items c.in_ok-classes.rest.now
    c.in_ok-rest.rest.now c.in_ok-texts.texts.items c.in_ok-texts.rest.now c.in_ok-functions.functions.items c.in_ok-functions.rest.now s
    (search (rules, tests)) (sym entry ∙ c.if-not-has_entry.false))

pub returns : goal.returns
returns c =
    let s : Steps c.args.bytes.now c.in_ok-header.header c.in_ok-header.rest.now c.in_ok-classes.classes.items c.in_ok-classes.rest.now
    c.in_ok-rest.rest.now c.in_ok-texts.texts.items c.in_ok-texts.rest.now c.in_ok-functions.functions.items c.in_ok-functions.rest.now =
    record {
      small = λ k. omega (arith, c.type_inv.bytes k);
      header = c.in_ok-header.ensures.exact;
      classes = c.in_ok-classes.ensures.exact;
      ints = c.in_ok-rest.ensures.exact;
      texts = c.in_ok-texts.ensures.exact;
      functions = c.in_ok-functions.ensures.exact;
    } in
    let entry = c.has_entry.ensures c.in_ok-functions.ensures.exact.items (rw c.deref.ensures.value c.in_ok-functions.ensures.exact.places) in
    record {
      exact = is_in c.args.bytes.now _ (read_is c.args.bytes.now c.in_ok-header.header c.in_ok-header.rest.now c.in_ok-classes.classes.items
          c.in_ok-classes.rest.now c.in_ok-rest.rest.now c.in_ok-texts.texts.items c.in_ok-texts.rest.now c.in_ok-functions.functions.items
          c.in_ok-functions.rest.now s (search (rules, tests)) (sym entry ∙ c.if-not-has_entry.false));
    }
