use Rattle.std.proofs.Common.{List, ℕ, [], ◌∷◌, ◌++◌, map, refl, sym, ap, arith, ◌∙◌, append_assoc}
use Rattle.std.specs.List.{flat_map}
use Rattle.std.specs.String.{string_bytes}
use Rattle.std.proofs.lemmas.Option.{get_or_from_slice_get}
use Rattle.x10_log.specs.Logs.{turn_value, turn_line, ended_line}
use Rattle.x10_log.specs.Limits.{FitsTurn}
use Rattle.x10_log.proofs.Fitting.{one_fits, all_fit, mapped_fit}
use Rattle.x10_log.proofs.Pushed.{one_pushed, all_pushed}
use Rattle.x10_log.proofs.writing.push_turns.Goals as goal

pub loop-at-preserved : goal.loop-at-preserved
loop-at-preserved c = (
  one_pushed (λ ts. flat_map ended_line (map turn_value ts)) (λ t. ended_line (turn_value t)) (λ t ts. refl)
      (string_bytes c.args.text.now ++ flat_map ended_line (map turn_value c.args.turns.now.items)) (string_bytes c.loop-at.text)
      (string_bytes c.push_str.new.self) c.args.turns.now.items c.loop-at.at c.at.result.now c.loop-at.invariant.0 (omega (arith, c.loop-at-test.true, c.len-at-end.ensures))
      (sym (get_or_from_slice_get c.args.turns.now.items c.loop-at.at c.at.result.now c.at.result.now c.at.ensures)) (c.in_ok-push_str.ensures.bytes ∙ ap (λ (t : List ℕ). t ++ 10 ∷ []) c.in_ok-push_turn.ensures.text
      ∙ append_assoc (string_bytes c.loop-at.text) (turn_line (turn_value c.at.result.now)) (10 ∷ [])),
  one_fits (λ t. FitsTurn (turn_value t)) c.args.turns.now.items c.loop-at.at c.at.result.now c.loop-at.invariant.1 (omega (arith, c.loop-at-test.true, c.len-at-end.ensures))
      (sym (get_or_from_slice_get c.args.turns.now.items c.loop-at.at c.at.result.now c.at.result.now c.at.ensures)) c.in_ok-push_turn.ensures.fits,
)

pub returns-clause-text : goal.returns-clause-text
returns-clause-text c = all_pushed (λ ts. flat_map ended_line (map turn_value ts)) refl
    (string_bytes c.args.text.now ++ flat_map ended_line (map turn_value c.args.turns.now.items)) (string_bytes c.loop-at.text) c.args.turns.now.items
    c.loop-at.at c.loop-at.invariant.0 (omega (arith, c.loop-at-test.false, c.len-at-end.ensures))

pub returns-clause-fits : goal.returns-clause-fits
returns-clause-fits c = mapped_fit FitsTurn turn_value c.args.turns.now.items
    (all_fit (λ t. FitsTurn (turn_value t)) c.args.turns.now.items c.loop-at.at c.loop-at.invariant.1 (omega (arith, c.loop-at-test.false, c.len-at-end.ensures)))
