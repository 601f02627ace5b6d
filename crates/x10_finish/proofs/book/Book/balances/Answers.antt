use Rattle.std.proofs.Common.{◌↔◌, IsTrue, true, false, refl, sym, ◌∙◌, subst, arith}
use Rattle.x10_model.specs.Totals.{IsBalanced, entry_of, seen_from}
use Rattle.x10_finish.specs.Books.{kept_of}
use Rattle.x10_finish.proofs.Balances.{balanced_zero, zero_balanced, apart_unbalanced, all_agreed, no_iff, yes_iff}
use Rattle.x10_finish.proofs.book.Book.balances.Goals as goal

pub returns-then-self-ne0 : goal.returns-then-self-ne0
returns-then-self-ne0 c own s r =
    subst (λ b. IsTrue false ↔ IsBalanced b.places (seen_from b.finish.home (entry_of own) (kept_of b))) c.self.view_is
    (no_iff (λ b. c.if-self-ne0.true (c.self.invariant.counted
    ∙ balanced_zero c.self.inside.finish.home c.self.inside.places c.self.inside.pairs (entry_of own) b)))

pub returns-then-not-agrees : goal.returns-then-not-agrees
returns-then-not-agrees c own s r =
    subst (λ b. IsTrue false ↔ IsBalanced b.places (seen_from b.finish.home (entry_of own) (kept_of b))) c.self.view_is
    (no_iff (λ b. apart_unbalanced c.self.inside.finish.home c.self.inside.places c.from-hint.result c.self.inside.pairs (entry_of own)
    c.args.sent.now c.args.received.now c.from-home.result c.from-places.result c.self.inside.pairs c.from-home.ensures
    c.from-places.ensures refl
    (record { sent = s; received = r }) c.self.invariant.is_place (omega arith)
    (sym c.agrees.ensures ∙ c.if-not-agrees.true) b))

pub returns-in-Some : goal.returns-in-Some
returns-in-Some c own s r =
    subst (λ b. IsTrue false ↔ IsBalanced b.places (seen_from b.finish.home (entry_of own) (kept_of b))) c.self.view_is
    (no_iff (λ b. apart_unbalanced c.self.inside.finish.home c.self.inside.places c.in-Some.apart c.self.inside.pairs (entry_of own)
    c.args.sent.now c.args.received.now c.from-home.result c.self.inside.places c.self.inside.pairs c.from-home.ensures refl
    refl
    (record { sent = s; received = r }) c.self.invariant.is_place c.in-Some.ensures.some.0
    c.in-Some.ensures.some.1 b))

pub returns-in-None : goal.returns-in-None
returns-in-None c own s r =
    subst (λ b. IsTrue true ↔ IsBalanced b.places (seen_from b.finish.home (entry_of own) (kept_of b))) c.self.view_is
    (yes_iff (zero_balanced c.self.inside.finish.home c.self.inside.places c.self.inside.pairs (entry_of own)
    c.args.sent.now c.args.received.now (record { sent = s; received = r }) c.self.invariant.is_place
    (sym c.self.invariant.counted ∙ c.if-self-ne0.false)
    (all_agreed c.self.inside.finish.home c.self.inside.places c.self.inside.pairs c.args.sent.now c.args.received.now
    c.from-home.result c.self.inside.places c.self.inside.pairs
    c.from-home.ensures refl refl c.in-None.ensures.none)))
