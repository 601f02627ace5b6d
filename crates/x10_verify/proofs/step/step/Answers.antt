use Rattle.std.proofs.Common.{Ok, refl, [], ◌∙◌, arith}
use Rattle.x10_model.specs.Modules.{Function}
use Rattle.x10_verify.specs.Known.{state_of}
use Rattle.x10_verify.specs.Knowledge.{point}
use Rattle.std.proofs.lemmas.Result.{err_from_is_err_and}
use Rattle.x10_verify.proofs.Stepped.{step_on, step_refused, step_jumps_out, step_runs_out, step_total, step_size, jumped_size, taken_done, taken_entry, taken_read, jumped_on, handed_on}
use Rattle.x10_verify.proofs.Tables.{can_apply, results_fit}
use Rattle.x10_verify.proofs.step.step.Goals as goal

pub returns-in_err-effect-clause-steps : goal.returns-in_err-effect-clause-steps
returns-in_err-effect-clause-steps c = (
    let t = taken_read c.args.table.now.items c.args.at c.finish.ensures.0 c.known_at.result.now c.finish.new.table.items c.finish.ensures.1
    c.known_at.ensures.known in
    let p = err_from_is_err_and c.from_residual.result c.from_residual.ensures.1 in
    rw (p.1, p.2) (λ function same is size. step_refused c.args.image.now function c.args.at c.args.instr c.known_at.result.now _
    c.args.table.now.items c.finish.new.table.items is t
    (c.in_err-effect.ensures.decides function c.args.at same) (c.in_err-effect.ensures.cause function c.args.at same)))

pub jump-requires-clause-done : goal.jump-requires-clause-done
jump-requires-clause-done c = taken_done c.args.table.now.items c.args.at c.finish.ensures.0 c.finish.new.table.items c.finish.ensures.1

pub returns-in_err-next-clause-steps : goal.returns-in_err-next-clause-steps
returns-in_err-next-clause-steps c = (
    let t = taken_read c.args.table.now.items c.args.at c.finish.ensures.0 c.known_at.result.now c.finish.new.table.items c.finish.ensures.1
    c.known_at.ensures.known in
    let e = taken_entry c.args.table.now.items c.args.at c.known_at.result.now c.finish.new.table.items t in
    let j = c.in_err-next.ensures.jumps e.0 e.1 in
    let p = err_from_is_err_and c.from_residual-in_err-next.result c.from_residual-in_err-next.ensures.1 in
    rw (p.1, p.2) (λ function same is size. step_jumps_out c.args.image.now function c.args.at c.args.len c.args.instr c.known_at.result.now
    c.in_ok-effect.effect _ c.args.table.now.items c.finish.new.table.items c.jump.new.table.items size is t
    (c.in_ok-effect.ensures.decides function c.args.at same) j.0 j.1 j.2 j.3))

pub hand_on-requires-clause-room : goal.hand_on-requires-clause-room
hand_on-requires-clause-room c =
    let t = taken_read c.args.table.now.items c.args.at c.finish.ensures.0 c.known_at.result.now c.finish.new.table.items c.finish.ensures.1
    c.known_at.ensures.known in
    let j = jumped_on c.args.instr c.args.at c.args.len c.args.table.now.items c.known_at.result.now c.finish.new.table.items
    (Ok c.in_ok-next.next) c.jump.new.table.items t c.in_ok-next.ensures.jumps in
    omega (
      arith,
      jumped_size c.args.instr c.args.at c.args.len c.known_at.result.now c.in_ok-next.next c.args.table.now.items
          c.finish.new.table.items c.jump.new.table.items t j,
    )

pub hand_on-requires-clause-can : goal.hand_on-requires-clause-can
hand_on-requires-clause-can c =
    let any : Function = record { parameters = []; registers = 0; loops = 0; result = c.args.slot.now; code = [] } in
    can_apply (point c.args.image.now any 0 c.args.instr) (state_of c.known_at.result.now) c.in_ok-effect.effect c.known_at.ensures.narrow
    (results_fit c.args.image.now c.fits.ensures) c.requires.named (c.in_ok-effect.ensures.decides any 0 refl)

pub returns-in_err-hand_on-clause-steps : goal.returns-in_err-hand_on-clause-steps
returns-in_err-hand_on-clause-steps c = (
    let t = taken_read c.args.table.now.items c.args.at c.finish.ensures.0 c.known_at.result.now c.finish.new.table.items c.finish.ensures.1
    c.known_at.ensures.known in
    let j = jumped_on c.args.instr c.args.at c.args.len c.args.table.now.items c.known_at.result.now c.finish.new.table.items
    (Ok c.in_ok-next.next) c.jump.new.table.items t c.in_ok-next.ensures.jumps in
    let e = taken_entry c.args.table.now.items c.args.at c.known_at.result.now c.finish.new.table.items t in
    let g = c.in_err-hand_on.ensures e.0 (c.in_ok-next.ensures.kept ∙ e.1) in
    let p = err_from_is_err_and c.from_residual-in_err-hand_on.result c.from_residual-in_err-hand_on.ensures.1 in
    rw (p.1, p.2) (λ function same is size. step_runs_out c.args.image.now function c.args.at c.args.len c.args.instr c.known_at.result.now
    c.in_ok-effect.effect _ c.in_ok-next.next c.args.table.now.items c.finish.new.table.items c.jump.new.table.items c.hand_on.new.table.items
    size is (results_fit c.args.image.now c.fits.ensures) c.requires.named.small.place t
    (c.in_ok-effect.ensures.decides function c.args.at same) j g.0 g.1 g.2 g.3))

pub returns-clause-steps : goal.returns-clause-steps
returns-clause-steps c =
    let t = taken_read c.args.table.now.items c.args.at c.finish.ensures.0 c.known_at.result.now c.finish.new.table.items c.finish.ensures.1
    c.known_at.ensures.known in
    let j = jumped_on c.args.instr c.args.at c.args.len c.args.table.now.items c.known_at.result.now c.finish.new.table.items
    (Ok c.in_ok-next.next) c.jump.new.table.items t c.in_ok-next.ensures.jumps in
    let g = handed_on c.args.instr c.args.at c.args.len c.in_ok-effect.effect c.args.table.now.items c.known_at.result.now c.finish.new.table.items
    c.jump.new.table.items (Ok tt) c.hand_on.new.table.items t c.in_ok-next.ensures.kept c.in_ok-hand_on.ensures in
    λ function same is size. step_on c.args.image.now function c.args.at c.args.len c.args.instr c.known_at.result.now c.in_ok-effect.effect
    c.in_ok-next.next c.args.table.now.items c.finish.new.table.items c.jump.new.table.items c.hand_on.new.table.items size is
    (results_fit c.args.image.now c.fits.ensures) c.requires.named.small.place t (c.in_ok-effect.ensures.decides function c.args.at same) j g

pub returns-clause-falls : goal.returns-clause-falls
returns-clause-falls c =
    let t = taken_read c.args.table.now.items c.args.at c.finish.ensures.0 c.known_at.result.now c.finish.new.table.items c.finish.ensures.1
    c.known_at.ensures.known in
    let j = jumped_on c.args.instr c.args.at c.args.len c.args.table.now.items c.known_at.result.now c.finish.new.table.items
    (Ok c.in_ok-next.next) c.jump.new.table.items t c.in_ok-next.ensures.jumps in
    let g = handed_on c.args.instr c.args.at c.args.len c.in_ok-effect.effect c.args.table.now.items c.known_at.result.now c.finish.new.table.items
    c.jump.new.table.items (Ok tt) c.hand_on.new.table.items t c.in_ok-next.ensures.kept c.in_ok-hand_on.ensures in
    step_total c.args.instr c.args.at c.args.len c.known_at.result.now c.in_ok-effect.effect c.in_ok-next.next c.args.table.now.items
    c.finish.new.table.items c.jump.new.table.items c.hand_on.new.table.items t j g

pub returns-clause-size : goal.returns-clause-size
returns-clause-size c =
    let t = taken_read c.args.table.now.items c.args.at c.finish.ensures.0 c.known_at.result.now c.finish.new.table.items c.finish.ensures.1
    c.known_at.ensures.known in
    let j = jumped_on c.args.instr c.args.at c.args.len c.args.table.now.items c.known_at.result.now c.finish.new.table.items
    (Ok c.in_ok-next.next) c.jump.new.table.items t c.in_ok-next.ensures.jumps in
    let g = handed_on c.args.instr c.args.at c.args.len c.in_ok-effect.effect c.args.table.now.items c.known_at.result.now c.finish.new.table.items
    c.jump.new.table.items (Ok tt) c.hand_on.new.table.items t c.in_ok-next.ensures.kept c.in_ok-hand_on.ensures in
    step_size c.args.instr c.args.at c.args.len c.known_at.result.now c.in_ok-effect.effect c.in_ok-next.next c.args.table.now.items
    c.finish.new.table.items c.jump.new.table.items c.hand_on.new.table.items t j g
