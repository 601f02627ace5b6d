use Rattle.std.proofs.Common.{sym, ap, subst, false, ◌∙◌}
use Rattle.x10_copy.specs.Captured.{kinds_of, Refuses}
use Rattle.x10_place.specs.declared.call_frame.CallFrame.{CallFrame}
use Rattle.x10_place.specs.Sending.{StandForSome, slots_of_end, words_from}
use Rattle.x10_place.specs.StandsFor.{place_of, IsHindered}
use Rattle.x10_place.specs.Stays.{StayState, origin_as}
use Rattle.x10_place.proofs.StandingFrames.{checked}
use Rattle.x10_place.proofs.Supplies.{err_gives, result_of_it, result_refused, live_before}
use Rattle.x10_place.proofs.ground.Ground.leave.Goals.{in-Some+in_ok-result-in-Some, in-None}
use Rattle.x10_place.proofs.ground.Ground.leave.Goals as goal

pub result-requires-clause-standing : goal.result-requires-clause-standing
result-requires-clause-standing c =
    subst (λ (f : CallFrame). StandForSome c.args.self.now.verified.now.program c.args.self.now.store
    (slots_of_end c.args.self.now.verified.now.program f) (words_from f c.args.instr.a (slots_of_end c.args.self.now.verified.now.program f)))
    (sym c.frame.ensures)
    (result_of_it c.args.self.now.verified.now c.args.self.now.stays c.args.self.now.store c.args.key c.args.instr
    (checked c.args.self.now.verified.now c.certificate.ensures) c.requires c.index-stay.result.now c.index-stay.ensures)

pub returns-in_err-result-in-Some-clause-refused : goal.returns-in_err-result-in-Some-clause-refused
returns-in_err-result-in-Some-clause-refused c =
    err_gives c.from_residual.result c.in_err-result-in-Some.field-0.0
    (IsHindered (place_of c.args.self.now.verified.now c.args.self.now.stays c.args.self.now.store false) c.args.key) c.from_residual.ensures.1
    (result_refused c.args.self.now.verified.now c.args.self.now.stays c.args.self.now.store c.args.key c.args.instr
    (checked c.args.self.now.verified.now c.certificate.ensures) c.requires c.index-stay.result.now c.index-stay.ensures
    (record { place = c.in-Some.origin.place; key = c.in-Some.origin.key }) c.in_err-result-in-Some.field-0.0
    (ap (λ (q : StayState). q.back) (sym c.stay.view_is) ∙ ap origin_as c.in-Some.is)
    (subst (λ (f : CallFrame). Refuses c.args.self.now.verified.now.program.classes c.args.self.now.store.heap
    (kinds_of (slots_of_end c.args.self.now.verified.now.program f))
    (words_from f c.args.instr.a (slots_of_end c.args.self.now.verified.now.program f)) c.in_err-result-in-Some.field-0.0) c.frame.ensures
    c.in_err-result-in-Some.ensures.err))

pub report-requires-clause-live : goal.report-requires-clause-live
report-requires-clause-live c =
    elim c.match-stay.branch [
      | in-Some+in_ok-result-in-Some w ↦ live_before c.args.self.now.verified.now c.args.self.now.stays c.args.self.now.store c.args.key c.args.instr
          (checked c.args.self.now.verified.now c.certificate.ensures) c.requires c.index-stay.result.now c.index-stay.ensures
          c.match-stay.self.1.1.1.1.0 c.stay.inside.inherited (ap (λ t. t.1.1.1.1.0) w.self-is ∙ w.in_ok-result-in-Some.ensures.kept)
          (ap (λ (q : StayState). q.inherited) c.stay.view_is)
      | in-None w ↦ live_before c.args.self.now.verified.now c.args.self.now.stays c.args.self.now.store c.args.key c.args.instr
          (checked c.args.self.now.verified.now c.certificate.ensures) c.requires c.index-stay.result.now c.index-stay.ensures
          c.match-stay.self.1.1.1.1.0 c.stay.inside.inherited (ap (λ t. t.1.1.1.1.0) w.self-is)
          (ap (λ (q : StayState). q.inherited) c.stay.view_is)
    ]

pub end-requires : goal.end-requires
end-requires c =
    elim c.match-stay.branch [
      | in-Some+in_ok-result-in-Some w ↦ live_before c.args.self.now.verified.now c.args.self.now.stays c.args.self.now.store c.args.key c.args.instr
          (checked c.args.self.now.verified.now c.certificate.ensures) c.requires c.index-stay.result.now c.index-stay.ensures
          c.match-stay.self.1.1.1.1.0 c.stay.inside.inherited (ap (λ t. t.1.1.1.1.0) w.self-is ∙ w.in_ok-result-in-Some.ensures.kept)
          (ap (λ (q : StayState). q.inherited) c.stay.view_is)
      | in-None w ↦ live_before c.args.self.now.verified.now c.args.self.now.stays c.args.self.now.store c.args.key c.args.instr
          (checked c.args.self.now.verified.now c.certificate.ensures) c.requires c.index-stay.result.now c.index-stay.ensures
          c.match-stay.self.1.1.1.1.0 c.stay.inside.inherited (ap (λ t. t.1.1.1.1.0) w.self-is)
          (ap (λ (q : StayState). q.inherited) c.stay.view_is)
    ]
