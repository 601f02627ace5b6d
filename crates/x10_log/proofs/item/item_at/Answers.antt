use Rattle.std.proofs.Common.{ap, ◌∙◌, sym}
use Rattle.x10_model.specs.Places.{Words}
use Rattle.x10_log.specs.Reading.{said, said_word, tail_bytes, Printed}
use Rattle.x10_log.proofs.Faults.{both_handed_on}
use Rattle.x10_log.proofs.Words.{is_text, plain_from, word_lacks}
use Rattle.x10_log.proofs.item.item_at.Goals as goal

pub returns-in_err-words-clause-found : goal.returns-in_err-words-clause-found
returns-in_err-words-clause-found c = λ s rest fits end e.
    let t = is_text s c.in-Some.quoted.now rest fits (sym c.in-Some.ensures.some ∙ e) in
    both_handed_on said tail_bytes c.from_residual.result _ s rest c.from_residual.ensures.1
    (λ cause is. is ∙ c.in_err-words.ensures.found t.text rest t.utf8 end t.word)

pub returns-in-Some-clause-found : goal.returns-in-Some-clause-found
returns-in-Some-clause-found c = λ s rest fits end e.
    let t = is_text s c.in-Some.quoted.now rest fits (sym c.in-Some.ensures.some ∙ e) in
    let parts = c.in_ok-words.ensures.found t.text rest t.utf8 end t.word in
    (ap (λ bytes. Printed (Words bytes)) parts.0 ∙ sym t.is, parts.1)

pub returns-in_err-item-clause-found : goal.returns-in_err-item-clause-found
returns-in_err-item-clause-found c = λ s rest fits end e.
    let plain = plain_from s rest c.args.text.now e c.in_default.ensures.none in
    let parts = c.word_of.ensures.found (said_word s) rest (word_lacks s fits plain) end e in
    both_handed_on said tail_bytes c.from_residual-in_err-item.result _ s rest c.from_residual-in_err-item.ensures.1
    (λ cause is. is ∙ c.in_err-item.ensures s fits plain parts.0)

pub returns-clause-found : goal.returns-clause-found
returns-clause-found c = λ s rest fits end e.
    let plain = plain_from s rest c.args.text.now e c.in_default.ensures.none in
    let parts = c.word_of.ensures.found (said_word s) rest (word_lacks s fits plain) end e in
    (c.in_ok-item.ensures s fits plain parts.0, parts.1)
