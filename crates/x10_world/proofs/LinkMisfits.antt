-- What fits its receiver is no misfit there, and a result that does is awaited.
use Rattle.std.proofs.Common.{refl, sym, ◌∙◌, ap}
use Rattle.x10_model.specs.Ranges.{function_at}
use Rattle.x10_model.specs.Places.{Spawn, Shift, Back}
use Rattle.x10_model.specs.Wrong.{not_here, graph, torn, spawn, shift, back}
use Rattle.x10_finish.specs.Nesting.{stays_in}
use Rattle.x10_world.specs.Links.{FittingIsNoMisfit, FittingResultIsAwaited}

pub fitting_result_is_awaited : FittingResultIsAwaited
fitting_result_is_awaited setting net from to waiting g place e f =
    let w = f.2 in (
      w.stay,
      w.call,
      f.1,
      record {
        is_there = sym (ap (λ o. stays_in o waiting) e) ∙ w.is_there;
        is_away = w.is_away;
        call_is = w.call_is;
        is_at = w.is_at;
        is_from = w.to_is;
        callee_is = ap (function_at setting.program) w.function_is ∙ f.3;
      },
      f.4,
    )

pub fitting_is_no_misfit : FittingIsNoMisfit
fitting_is_no_misfit setting net (Spawn from to under function g) place e f fits (not_here message ne) = ne refl
fitting_is_no_misfit setting net (Spawn from to under function g) place e f fits (graph message never) = never fits
fitting_is_no_misfit setting net (Spawn from to under function g) place e f fits (torn message never) = never f.3
fitting_is_no_misfit setting net (Spawn from to under function g) place e f fits (spawn from' to' under' function' g' never) = never f.0 f.1 f.2
fitting_is_no_misfit setting net (Shift from to waiting under function g) place e f fits (not_here message ne) = ne refl
fitting_is_no_misfit setting net (Shift from to waiting under function g) place e f fits (graph message never) = never fits
fitting_is_no_misfit setting net (Shift from to waiting under function g) place e f fits (torn message never) = never f.3
fitting_is_no_misfit setting net (Shift from to waiting under function g) place e f fits (shift from' to' waiting' under' function' g' never) =
    never f.0 f.1
fitting_is_no_misfit setting net (Back from to waiting g) place e f fits (not_here message ne) = ne refl
fitting_is_no_misfit setting net (Back from to waiting g) place e f fits (graph message never) = never fits
fitting_is_no_misfit setting net (Back from to waiting g) place e f fits (torn message never) = never f.5
fitting_is_no_misfit setting net (Back from to waiting g) place e f fits (back from' to' waiting' g' never) =
    let h = fitting_result_is_awaited setting net from to waiting g place e f in
    never h.0 h.1 h.2 h.3 h.4
