-- What comes last changes what came before last; and whom a frame's message is for.
use Rattle.std.proofs.Common.{[], ◌∷◌, ◌++◌, refl, sym, ap, ◌∙◌, append_assoc}
use Rattle.std.proofs.lemmas.List.Concat.{flat_map-cons}
use Rattle.x10_model.specs.Places as places
use Rattle.x10_model.specs.Frames as frames
use Rattle.x10_model.specs.Frames.{Frame}
use Rattle.x10_model.specs.Totals.{totals_after}
use Rattle.x10_model.specs.Logs.{events_of_turn, events_of}
use Rattle.x10_model.proofs.SameFinishes.{same_self}
use Rattle.x10_model.specs.Laws.{TotalsGoOn, ReportsAreDue, LogsGoOn, FramesCarryTo}
use Rattle.std.proofs.lemmas.Option.{same_Some}

pub totals_go_on : TotalsGoOn
totals_go_on f t [] h = refl
totals_go_on f t (g ∷ hs) h = totals_go_on f (totals_after f t g) hs h

pub reports_are_due : ReportsAreDue
reports_are_due here f t back message = (rw (same_self f f refl) refl, refl)

pub logs_go_on : LogsGoOn
logs_go_on [] second = refl
logs_go_on (t ∷ turns) second =
    flat_map-cons events_of_turn t (turns ++ second)
    ∙ ap (λ es. events_of_turn t ++ es) (logs_go_on turns second)
    ∙ sym (append_assoc (events_of_turn t) (events_of turns) (events_of second))
    ∙ ap (λ es. es ++ events_of second) (sym (flat_map-cons events_of_turn t turns))

pub frames_carry_to : FramesCarryTo
frames_carry_to (frames.Spawn from to home number function graph) m e = ap places.receiver (sym (same_Some _ m e))
frames_carry_to (frames.Shift from to waiting home number function graph) m e = ap places.receiver (sym (same_Some _ m e))
frames_carry_to (frames.Back from to waiting graph) m e = ap places.receiver (sym (same_Some _ m e))
frames_carry_to (frames.Report from to number sent received) m e = absurd cc
