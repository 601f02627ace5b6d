use Rattle.std.proofs.Common.{sym, ap, ◌∙◌}
use Rattle.x10_place.specs.declared.call_frame.CallFrame.{CallFrame}
use Rattle.x10_place.proofs.FetchedInstructions.{function_within, pc_within}
use Rattle.x10_place.proofs.place.Place.at.Goals as goal

pub fetch-instr-requires-clause-function : goal.fetch-instr-requires-clause-function
fetch-instr-requires-clause-function c =
    let placed = (c.self.invariant.0.1.some c.args.key c.in_ok-stay.stay.now (sym c.in_ok-stay.ensures)).2.placed in
    function_within c.self.inside.ground.verified.now.program _ _ _ c.from.result placed.top
    (c.from.ensures ∙ ap (λ (f : CallFrame). f.function) c.frame-top.ensures)

pub fetch-instr-requires-clause-pc : goal.fetch-instr-requires-clause-pc
fetch-instr-requires-clause-pc c =
    let placed = (c.self.invariant.0.1.some c.args.key c.in_ok-stay.stay.now (sym c.in_ok-stay.ensures)).2.placed in
    pc_within c.self.inside.ground.verified.now.program _ _ _ c.from.result c.from-2.result placed.top
    (c.from.ensures ∙ ap (λ (f : CallFrame). f.function) c.frame-top.ensures)
    (c.from-2.ensures ∙ ap (λ (f : CallFrame). f.pc) c.frame-top.ensures)
