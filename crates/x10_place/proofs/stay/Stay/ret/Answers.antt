use Rattle.std.proofs.Common.{sym, ap, subst, ◌∙◌}
use Rattle.x10_place.specs.declared.call_frame.CallFrame.{CallFrame}
use Rattle.x10_place.specs.Stays.{StayState, IsCalling, frames_of}
use Rattle.x10_place.proofs.Chains.{caller_is, frames_with}
use Rattle.x10_place.proofs.stay.Stay.ret.Goals as goal

pub resume-requires-clause-calling : goal.resume-requires-clause-calling
resume-requires-clause-calling c =
    let top = c.deref.ensures ∙ ap (λ (a : StayState). a.top) c.self.view_is in
    let callers = ap (λ (a : StayState). a.callers) (sym c.self.view_is)
    ∙ frames_with c.self.inside.callers.items c.pop.new.self.items c.in-Some.caller c.in-Some.ensures.items in
    let calling = (caller_is c.args.verified.now.program c.args.self.now
    (frames_of c.pop.new.self.items) c.in-Some.caller.value c.requires.placed callers).0 in
    subst (λ f. IsCalling c.args.verified.now.program f c.deref.result.now.function) (sym c.deref_mut.ensures.value)
    (subst (λ (f : CallFrame). IsCalling c.args.verified.now.program c.in-Some.caller.value f.function) (sym top) calling)
