use Rattle.std.proofs.Common.{◌<◌, ◌^◌, false, rules, sym, ap, subst, refl, ◌∙◌, arith}
use Rattle.x10_copy.specs.Captured.{kinds_of, Refuses}
use Rattle.x10_place.specs.Frames.{word_at}
use Rattle.x10_place.specs.Parting.{IsGoing, TakesAlong}
use Rattle.x10_place.specs.StandsFor.{place_of, IsHindered}
use Rattle.x10_place.specs.Sending.{StandForSome, slots_of_call, words_from}
use Rattle.x10_place.specs.declared.call_frame.CallFrame.{CallFrame}
use Rattle.x10_place.specs.Stays.{innermost_at}
use Rattle.x10_place.proofs.StandingFrames.{checked}
use Rattle.x10_place.proofs.RoutesOfOne.{is_going}
use Rattle.x10_place.proofs.Supplies.{place_fits, err_gives, function_small, arguments_of, too_many, departs_so, arguments_refused}
use Rattle.x10_place.proofs.ground.Ground.depart.Goals as goal

pub overflow_cast-to : goal.overflow_cast-to
overflow_cast-to c = let few = place_fits c.args.self.now.verified.now c.args.self.now.stays c.args.self.now.store c.args.key c.args.instr
    (checked c.args.self.now.verified.now c.certificate.ensures) c.requires c.index-stay.result.now c.index-stay.ensures c.args.departure
    c.requires.op_is c.word-to.result (c.word-to.ensures ∙ ap (λ (f : CallFrame). word_at f.registers.items c.args.instr.c)
    c.frame-top.ensures) in omega (arith, few)

pub returns-then-sent-clause-refused : goal.returns-then-sent-clause-refused
returns-then-sent-clause-refused c =
    too_many c.args.self.now.verified.now c.args.self.now.stays c.args.self.now.store c.args.key c.args.instr
    (checked c.args.self.now.verified.now c.certificate.ensures) c.requires c.args.departure c.requires.op_is c.index-stay.result.now
    c.innermost-under.result c.word-to.result c.sent.result c.index-stay.ensures
    (c.innermost-under.ensures ∙ ap (λ h. innermost_at h c.index-stay.result.now) c.locality-here.ensures.here)
    (c.word-to.ensures ∙ ap (λ (f : CallFrame). word_at f.registers.items c.args.instr.c) c.frame-top.ensures) c.sent.ensures c.if-sent.true

pub overflow_cast-instr : goal.overflow_cast-instr
overflow_cast-instr c = let few = function_small c.args.self.now.verified.now c.args.self.now.stays c.args.self.now.store c.args.key c.args.instr
    (checked c.args.self.now.verified.now c.certificate.ensures) c.requires c.args.departure c.requires.op_is in omega (arith, few)

pub arguments-requires-clause-op : goal.arguments-requires-clause-op
arguments-requires-clause-op c = subst IsGoing (sym c.requires.op_is) (is_going c.args.departure)

pub arguments-requires-clause-standing : goal.arguments-requires-clause-standing
arguments-requires-clause-standing c =
    subst (λ (f : CallFrame). StandForSome c.args.self.now.verified.now.program c.args.self.now.store
    (slots_of_call c.args.self.now.verified.now.program c.args.instr)
    (words_from f c.args.instr.b (slots_of_call c.args.self.now.verified.now.program c.args.instr))) (sym c.frame-top.ensures)
    (arguments_of c.args.self.now.verified.now c.args.self.now.stays c.args.self.now.store c.args.key c.args.instr
    (checked c.args.self.now.verified.now c.certificate.ensures) c.requires c.index-stay.result.now c.index-stay.ensures c.args.departure
    c.requires.op_is)

pub returns-in_err-bytes-clause-refused : goal.returns-in_err-bytes-clause-refused
returns-in_err-bytes-clause-refused c =
    err_gives c.from_residual.result c.in_err-bytes.field-0.0 (IsHindered
    (place_of c.args.self.now.verified.now c.args.self.now.stays c.args.self.now.store false) c.args.key) c.from_residual.ensures.1
    (arguments_refused c.args.self.now.verified.now c.args.self.now.stays c.args.self.now.store c.args.key c.args.instr
    (checked c.args.self.now.verified.now c.certificate.ensures) c.requires c.index-stay.result.now c.index-stay.ensures c.args.departure
    c.requires.op_is c.in_err-bytes.field-0.0 (subst (λ (f : CallFrame).
    Refuses c.args.self.now.verified.now.program.classes c.args.self.now.store.heap
    (kinds_of (slots_of_call c.args.self.now.verified.now.program c.args.instr))
    (words_from f c.args.instr.b (slots_of_call c.args.self.now.verified.now.program c.args.instr)) c.in_err-bytes.field-0.0) c.frame-top.ensures
    c.in_err-bytes.ensures.err))

pub returns-clause-ok : goal.returns-clause-ok
returns-clause-ok c =
    departs_so c.args.self.now.verified.now c.args.self.now.stays c.args.self.now.store c.args.key c.args.instr
    (checked c.args.self.now.verified.now c.certificate.ensures) c.requires c.index-stay.result.now c.index-stay.ensures c.args.departure
    c.requires.op_is _ c.part.new.stays c.spawned.new.self c.arguments.new.store
    c.innermost-under.result _ c.head_of-head.result c.locality-here.result.here
    (c.innermost-under.ensures ∙ ap (λ h. innermost_at h c.index-stay.result.now) c.locality-here.ensures.here)
    (let few : c.innermost-under.result.number < 2 ^ 32 = search rules in few) c.locality-here.ensures.here
    (c.word-to.ensures ∙ ap (λ (f : CallFrame). word_at f.registers.items c.args.instr.c) c.frame-top.ensures) refl
    c.part.ensures c.head_of-head.ensures.value (subst (λ (f : CallFrame).
    TakesAlong c.args.self.now.verified.now.program c.args.self.now.store (slots_of_call c.args.self.now.verified.now.program c.args.instr)
    (words_from f c.args.instr.b (slots_of_call c.args.self.now.verified.now.program c.args.instr)) c.head_of-head.result
    c.in_ok-bytes.bytes.items) c.frame-top.ensures c.in_ok-bytes.ensures.copy) c.in_ok-bytes.ensures.kept c.in_ok-spawned.ensures.ok
