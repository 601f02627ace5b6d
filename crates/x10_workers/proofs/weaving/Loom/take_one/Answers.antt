use Rattle.std.proofs.Common.{Some, refl, sym, ap, ◌∙◌, arith}
use Rattle.std.proofs.lemmas.Option.{same_Some, slice_get_read}
use Rattle.std.specs.Prelude.{◌≡◌, Option, None}
use Rattle.std.specs.Borrow.{Bor}
use Rattle.x10_hall.specs.declared.turn.Posted.{Posted}
use Rattle.x10_hall.specs.Halls.{frame_of, told}
use Rattle.x10_workers.proofs.WorkLemmas.{held_off, not_off, true_false}
use Rattle.x10_workers.proofs.weaving.Loom.take_one.Goals as goal

pub returns-in-Some-clause-takes : goal.returns-in-Some-clause-takes
returns-in-Some-clause-takes c t =
    held_off c.args.self.now.flying.items c.args.place c.in-Some.posted (told c.args.frame.now)
    (slice_get_read c.args.self.now.flying.items _ c.args.frame.now.number c.index.result.now refl
    (omega (arith, c.if-number-len.false)) c.index.ensures ∙ ap Some c.in-Some.is)
    (c.goes_to.ensures.0 c.if-goes_to.true)

pub returns-in_default-clause-refuses : goal.returns-in_default-clause-refuses
returns-in_default-clause-refuses c f after off =
    not_off c.args.self.now.flying.items c.args.place c.index.result.now (told c.args.frame.now) after
    (slice_get_read c.args.self.now.flying.items _ c.args.frame.now.number c.index.result.now refl
    (omega (arith, c.if-number-len.false)) c.index.ensures)
    (λ p e same. true_false c.goes_to.result (c.goes_to.ensures.1
    (ap (λ q. frame_of q.now) (same_Some c.in-Some.posted p (sym c.in-Some.is ∙ e)) ∙ same)) c.if-goes_to.false)
    off

pub returns-in_default-2-clause-refuses : goal.returns-in_default-2-clause-refuses
returns-in_default-2-clause-refuses c f after off =
    not_off c.args.self.now.flying.items c.args.place c.index.result.now (told c.args.frame.now) after
    (slice_get_read c.args.self.now.flying.items _ c.args.frame.now.number c.index.result.now refl
    (omega (arith, c.if-number-len.false)) c.index.ensures)
    (λ p e same. wrong c.index.result.now p c.in_default.is e)
    off
  where
    wrong : (o : Option (Bor Posted)) (p : Bor Posted) → o ≡ None → o ≡ Some p → ⊥
    wrong o p none is = cc
