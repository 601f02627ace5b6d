use Rattle.std.proofs.Common.{sym, ap, ◌∙◌, arith, rules, tests}
use Rattle.std.proofs.lemmas.Option.{slice_get_past}
use Rattle.x10_model.specs.ReadingImages.{is_entry}
use Rattle.x10_model.proofs.Offsets.{same_length}
use Rattle.x10_image.proofs.Functions.{function_in, function_small, entry_is, entry_not}
use Rattle.x10_image.proofs.view.has_entry.Goals as goal

pub returns-then-functions-entry : goal.returns-then-functions-entry
returns-then-functions-entry c = λ all places. sym (ap is_entry (slice_get_past all c.args.entry (omega (arith, same_length _ _ _ places))))

pub bounds-bytes-at : goal.bounds-bytes-at
bounds-bytes-at c =
    let f = function_in _ _ _ c.from-entry.result c.args.entry c.requires.1 c.if-functions-entry.false c.from-entry.ensures in
    omega (arith, function_small _ _ _ f.2)

pub overflow_add-result : goal.overflow_add-result
overflow_add-result c =
    let f = function_in _ _ _ c.from-entry.result c.args.entry c.requires.1 c.if-functions-entry.false c.from-entry.ensures in
    omega (arith, function_small _ _ _ f.2)

pub bounds-bytes-at-then-bytes-at-eq0 : goal.bounds-bytes-at-then-bytes-at-eq0
bounds-bytes-at-then-bytes-at-eq0 c =
    let f = function_in _ _ _ c.from-entry.result c.args.entry c.requires.1 c.if-functions-entry.false c.from-entry.ensures in
    omega (arith, function_small _ _ _ f.2)

pub returns-then-bytes-at-eq0 : goal.returns-then-bytes-at-eq0
returns-then-bytes-at-eq0 c = λ all places.
    let f = function_in _ _ _ c.from-entry.result c.args.entry places c.if-functions-entry.false c.from-entry.ensures in
    entry_is _ _ f.0 f.2 (search (rules, tests)) ∙ ap is_entry (sym f.1)

pub returns-else-bytes-at-eq0 : goal.returns-else-bytes-at-eq0
returns-else-bytes-at-eq0 c = λ all places.
    let f = function_in _ _ _ c.from-entry.result c.args.entry places c.if-functions-entry.false c.from-entry.ensures in
    entry_not _ _ f.0 f.2 (search (rules, tests)) ∙ ap is_entry (sym f.1)
