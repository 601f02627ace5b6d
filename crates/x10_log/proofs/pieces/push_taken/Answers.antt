use Rattle.std.proofs.Common.{◌++◌, get_or, refl}
use Rattle.std.specs.List.{flat_map}
use Rattle.std.specs.String.{string_bytes}
use Rattle.x10_log.specs.Logs.{taken_word}
use Rattle.x10_log.proofs.Fitting.{numbers_fit}
use Rattle.x10_log.proofs.Pushed.{get_or_default, one_pushed, all_pushed}
use Rattle.x10_log.proofs.pieces.push_taken.Goals as goal

pub loop-at-preserved : goal.loop-at-preserved
loop-at-preserved c = one_pushed (flat_map taken_word) taken_word (λ x xs. refl) (string_bytes c.args.text.now ++ flat_map taken_word
    c.args.taken.now)
    (string_bytes c.loop-at.text) (string_bytes c.write.new.self) c.args.taken.now c.loop-at.at (get_or c.args.taken.now c.loop-at.at 0)
    c.loop-at.invariant c.loop-at-test.true (get_or_default c.args.taken.now c.loop-at.at 0 (get_or c.args.taken.now c.loop-at.at 0)
    c.loop-at-test.true) c.in_ok-write.ensures.bytes

pub returns-clause-text : goal.returns-clause-text
returns-clause-text c = all_pushed (flat_map taken_word) refl (string_bytes c.args.text.now ++ flat_map taken_word c.args.taken.now) (string_bytes
    c.loop-at.text)
    c.args.taken.now c.loop-at.at c.loop-at.invariant c.loop-at-test.false

pub returns-clause-fits : goal.returns-clause-fits
returns-clause-fits c = numbers_fit c.args.taken.now c.type_inv.taken
