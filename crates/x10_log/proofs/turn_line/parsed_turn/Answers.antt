use Rattle.std.proofs.Common.{◌≡◌, ◌∙◌, arith}
use Rattle.std.specs.List.{flat_map}
use Rattle.std.specs.Prelude.{decimal}
use Rattle.x10_log.specs.Logs.{turn_value}
use Rattle.x10_log.specs.Reading.{said_text, draft_value, with_all}
use Rattle.x10_log.proofs.Faults.{no_fault, value_is, handed_on}
use Rattle.x10_log.proofs.Words.{words_end}
use Rattle.x10_log.proofs.TurnWords.{saids, saids_fit, all_said, few_said, line_begins}
use Rattle.x10_log.proofs.turn_line.parsed_turn.Goals as goal

pub returns-in_err-place-clause-found : goal.returns-in_err-place-clause-found
returns-in_err-place-clause-found c = λ t w f e.
    let begins = line_begins c.args.places t c.args.line.now (omega (arith, c.ranges.places.fits)) w e in
    let parts = c.word_of.ensures.found (decimal t.place) (flat_map said_text (saids t)) begins.lacks (words_end (saids t)) begins.split in
    absurd (no_fault c.in_err-place.field-0.0 t.place (c.in_err-place.ensures t.place begins.small parts.0))

pub returns-then-place-places-clause-found : goal.returns-then-place-places-clause-found
returns-then-place-places-clause-found c = λ t w f e.
    let begins = line_begins c.args.places t c.args.line.now (omega (arith, c.ranges.places.fits)) w e in
    let parts = c.word_of.ensures.found (decimal t.place) (flat_map said_text (saids t)) begins.lacks (words_end (saids t)) begins.split in
    absurd (omega (
      arith,
      c.if-place-places.true,
      w.place,
      value_is c.in_ok-place.place t.place 0
          (c.in_ok-place.ensures t.place begins.small parts.0),
    ))

pub returns-in_err-add_all-clause-found : goal.returns-in_err-add_all-clause-found
returns-in_err-add_all-clause-found c = λ t w f e.
    let begins = line_begins c.args.places t c.args.line.now (omega (arith, c.ranges.places.fits)) w e in
    let parts = c.word_of.ensures.found (decimal t.place) (flat_map said_text (saids t)) begins.lacks (words_end (saids t)) begins.split in
    let place : c.in_ok-place.place ≡ t.place = value_is c.in_ok-place.place t.place 0 (c.in_ok-place.ensures t.place begins.small parts.0) in
    let all = all_said t (draft_value c.new-draft.result) c.in_ok-place.place c.new-draft.ensures place in
    handed_on turn_value c.from_residual-in_err-add_all.result _ t c.from_residual-in_err-add_all.ensures.1
    (λ cause is. is ∙ c.in_err-add_all.ensures.found (saids t) (saids_fit c.args.places t w f) parts.1
    (few_said c.args.places t (with_all (draft_value c.new-draft.result) (saids t)) w all))

pub returns-clause-found : goal.returns-clause-found
returns-clause-found c = λ t w f e.
    let begins = line_begins c.args.places t c.args.line.now (omega (arith, c.ranges.places.fits)) w e in
    let parts = c.word_of.ensures.found (decimal t.place) (flat_map said_text (saids t)) begins.lacks (words_end (saids t)) begins.split in
    let place : c.in_ok-place.place ≡ t.place = value_is c.in_ok-place.place t.place 0 (c.in_ok-place.ensures t.place begins.small parts.0) in
    let all = all_said t (draft_value c.new-draft.result) c.in_ok-place.place c.new-draft.ensures place in
    c.in_ok-turn.ensures ∙ c.in_ok-add_all.ensures.found (saids t) (saids_fit c.args.places t w f) parts.1
    (few_said c.args.places t (with_all (draft_value c.new-draft.result) (saids t)) w all) ∙ all
