use Rattle.std.proofs.Common.{◌∙◌}
use Rattle.x10_log.specs.Reading.{said, tail_bytes, draft_value}
use Rattle.x10_log.proofs.Faults.{done_handed_on}
use Rattle.x10_log.proofs.Words.{leading_on, leading_end, word_fault, count_fault}
use Rattle.x10_log.proofs.draft.Draft.add_all.Goals as goal

pub returns-in_err-item-clause-found : goal.returns-in_err-item-clause-found
returns-in_err-item-clause-found c = λ ss fits e few.
    let leads = rw c.in-Some.is at c.loop-rest.invariant in
    done_handed_on c.from_residual.result _ _ c.from_residual.ensures.1
    (λ cause is. is ∙ word_fault (draft_value c.args.self.now) (draft_value c.loop-rest.self) (tail_bytes c.args.text) c.in-Some.here.now ss
    c.in_err-item.field-0.0 leads c.in_err-item.ensures.found fits e few)

pub returns-in_err-add-clause-found : goal.returns-in_err-add-clause-found
returns-in_err-add-clause-found c = λ ss fits e few.
    let leads = rw c.in-Some.is at c.loop-rest.invariant in
    done_handed_on c.from_residual-in_err-add.result _ _ c.from_residual-in_err-add.ensures.1
    (λ cause is. is ∙ count_fault (draft_value c.args.self.now) (draft_value c.loop-rest.self) (tail_bytes c.args.text) c.in-Some.here.now
    (tail_bytes c.in_ok-item.after) (said c.in_ok-item.item) ss c.in_err-add.field-0.0 leads c.in_ok-item.ensures.found
    c.in_err-add.ensures.err fits e few)

pub loop-rest-preserved : goal.loop-rest-preserved
loop-rest-preserved c =
    let leads = rw c.in-Some.is at c.loop-rest.invariant in
    leading_on (draft_value c.args.self.now) (draft_value c.loop-rest.self) (draft_value c.add.new.self) (tail_bytes c.args.text) c.in-Some.here.now
    (tail_bytes c.in_ok-item.after) (said c.in_ok-item.item) leads c.in_ok-item.ensures.found c.in_ok-add.ensures.ok c.in_ok-add.ensures.kept

pub returns-clause-found : goal.returns-clause-found
returns-clause-found c = λ ss fits e few.
    let leads = rw c.in_default.is at c.loop-rest.invariant in
    leading_end (draft_value c.args.self.now) (draft_value c.loop-rest.self) (tail_bytes c.args.text) ss leads fits e few
