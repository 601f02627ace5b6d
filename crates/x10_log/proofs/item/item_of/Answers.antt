use Rattle.std.proofs.Common.{◌≡◌, ℤ, pos, ap, ◌∙◌, sym, subst}
use Rattle.std.specs.Prelude.{FitsSigned}
use Rattle.std.specs.Int.{w64}
use Rattle.std.proofs.lemmas.Int.{to_z-of_z}
use Rattle.x10_model.specs.Places.{Number}
use Rattle.x10_log.specs.Reading.{Taken, Printed, Shows, said}
use Rattle.x10_log.proofs.Faults.{no_fault, value_is}
use Rattle.x10_log.proofs.Words.{is_taken, is_sent, is_printed, is_steps}
use Rattle.x10_log.proofs.item.item_of.Goals as goal

pub returns-in_err-frame_number : goal.returns-in_err-frame_number
returns-in_err-frame_number c = λ s fits plain e.
    let t = is_taken s c.in-Some.digits.now fits plain (sym c.in-Some.ensures.some ∙ e) in
    absurd (no_fault c.in_err-frame_number.field-0.0 t.number (c.in_err-frame_number.ensures t.number t.fits t.word))

pub returns-in-Some : goal.returns-in-Some
returns-in-Some c = λ s fits plain e.
    let t = is_taken s c.in-Some.digits.now fits plain (sym c.in-Some.ensures.some ∙ e) in
    ap Taken (value_is c.in_ok-frame_number.field-0 t.number 0 (c.in_ok-frame_number.ensures t.number t.fits t.word)) ∙ sym t.is

pub returns-in-Some-stripped : goal.returns-in-Some-stripped
returns-in-Some-stripped c = λ s fits plain e.
    let t = is_sent s c.in-Some-stripped.frame.now fits plain (sym c.in-Some-stripped.ensures.some ∙ e) in
    subst (Shows said c.sent.result) (sym t.is) (c.sent.ensures t.frame t.fits t.word)

pub returns-in_err-int_of : goal.returns-in_err-int_of
returns-in_err-int_of c = λ s fits plain e.
    let t = is_printed s c.in-Some-stripped-2.digits.now fits plain (sym c.in-Some-stripped-2.ensures.some ∙ e) in
    absurd (no_fault c.in_err-int_of.field-0.0 t.number (c.in_err-int_of.ensures t.number t.fits t.word))

pub returns-in-Some-stripped-2 : goal.returns-in-Some-stripped-2
returns-in-Some-stripped-2 c = λ s fits plain e.
    let t = is_printed s c.in-Some-stripped-2.digits.now fits plain (sym c.in-Some-stripped-2.ensures.some ∙ e) in
    let number : c.in_ok-int_of.field-0 ≡ t.number = value_is c.in_ok-int_of.field-0 t.number (pos 0)
    (c.in_ok-int_of.ensures t.number t.fits t.word) in
    ap (λ (z : ℤ). Printed (Number z)) (to_z-of_z w64 c.in_ok-int_of.field-0 (subst (FitsSigned w64) (sym number) t.fits) ∙ number) ∙ sym t.is

pub returns : goal.returns
returns c = λ s fits plain e.
    let t = is_steps s c.args.word.now fits plain e c.in_default.ensures.none c.in_default-stripped.ensures.none
    c.in_default-stripped-2.ensures.none in
    subst (Shows said c.steps.result) (sym t.is) (c.steps.ensures t.key t.count t.small t.few t.word)
