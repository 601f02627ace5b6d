use Rattle.std.proofs.Common.{◌≡◌, ◌+◌, ◌*◌, ℕ, max, List, sym, ◌∙◌, ap, subst, arith, slice_set}
use Rattle.x10_finish.specs.declared.pairs.Pair.{Pair}
use Rattle.x10_finish.specs.Pairs.{difference, unequal_in, pair_at, raised_at}
use Rattle.x10_finish.proofs.Squares.{read_at, unequal_written, unequal_small, raised_written}
use Rattle.x10_finish.proofs.pairs.raise.Goals as goal

pub overflow_add-result : goal.overflow_add-result
overflow_add-result c =
    let few = unequal_small c.args.home c.args.places c.args.pairs.now c.requires.few in
    let same = c.requires.unequal in
    omega arith

-- how many differ before and after
counts : (c : goal.After-differs-2) → unequal_in c.args.home c.args.places
    (slice_set c.args.pairs.now (c.args.from * c.args.places + c.args.to)
    (record { sent = c.max.result; received = c.max-2.result })) + c.differs-2.result ≡ c.args.unequal + c.differs.result
counts c =
    let old = read_at c.args.places c.args.pairs.now c.args.from c.args.to c.get-old.result c.requires.from c.requires.to
    c.get-old.ensures in
    let whole = unequal_written c.args.home c.args.places c.args.pairs.now c.args.from c.args.to
    (record { sent = c.max.result; received = c.max-2.result }) c.requires.from c.requires.to c.requires.whole in
    let before = c.differs-2.ensures.value ∙ ap (difference c.args.home c.args.from c.args.to) old in
    let after = c.differs.ensures.value in
    let all = c.requires.unequal in
    omega arith

pub overflow_sub-result : goal.overflow_sub-result
overflow_sub-result c = let e = counts c in omega arith

pub returns-clause-unequal : goal.returns-clause-unequal
returns-clause-unequal c =
    let e = counts c in
    let written = ap (unequal_in c.args.home c.args.places) c.set.ensures in
    omega arith

pub returns-clause-pairs : goal.returns-clause-pairs
returns-clause-pairs c =
    let old = read_at c.args.places c.args.pairs.now c.args.from c.args.to c.get-old.result c.requires.from c.requires.to
    c.get-old.ensures in
    subst (λ (xs : List Pair). (a b : ℕ) → pair_at c.args.places xs a b
    ≡ raised_at c.args.from c.args.to c.args.by (pair_at c.args.places c.args.pairs.now) a b) (sym c.set.ensures)
    (raised_written c.args.places c.args.pairs.now c.args.from c.args.to c.args.by
    (record { sent = c.max.result; received = c.max-2.result }) c.requires.from c.requires.to c.requires.whole
    (λ i. record {
      sent = (c.max.ensures ∙ ap (λ (p : Pair). max p.sent c.args.by.sent) old) i;
      received = (c.max-2.ensures ∙ ap (λ (p : Pair). max p.received c.args.by.received) old) i;
    }))
