use Rattle.std.proofs.Common.{◌≡◌, ◌≢◌, ◌+◌, ◌-◌, ◌<◌, ◌≤◌, ℕ, Ok, Option, IfSome, rules, arith, sym, ap, subst, ◌∙◌}
use Rattle.x10_code.specs.declared.instr.Instr.{Instr}
use Rattle.x10_place.specs.declared.outcome.Outcome.TheVariants as outcome
use Rattle.x10_place.specs.WorkingStays.{IsTypedFrame}
use Rattle.x10_place.specs.Stays.{location, StayState}
use Rattle.x10_place.specs.Stretches.{Paused, Stretch, still}
use Rattle.x10_place.specs.contracts.stay.Stay.{the_view}
use Rattle.x10_place.specs.contracts.store.Store as store
use Rattle.x10_place.proofs.GoingOn.{typed_top}
use Rattle.x10_place.proofs.StandingFrames.{checked}
use Rattle.x10_place.proofs.HeapReads.{working_reads}
use Rattle.x10_place.proofs.StretchesOfStay.{fetched_there, stretched_on, working_on, further_by, paused_there}
use Rattle.x10_place.proofs.stay.Stay.run_stretch.Goals as goal

-- ---- how many were made, by how many are left

none_made : (most : ℕ) → 0 ≡ most - most
none_made most = omega arith

some_made : (most left count : ℕ) → left ≤ most → count ≤ left → most - left + count ≡ most - (left - count)
some_made most left count l c = omega (arith, l, c)

one_more : (most left count : ℕ) → left ≤ most → count < left → most - left + count + 1 ≡ most - (left - count - 1)
one_more most left count l c = omega (arith, l, c)

pub loop-instr-init : goal.loop-instr-init
loop-instr-init c = (
  c.requires,
  subst (λ n. Stretch (location c.args.verified.now.program c.args.locality) c.args.self.now c.args.store.now n c.args.self.now c.args.store.now)
      (none_made c.args.most) still,
  omega arith,
)

pub run_instructions-count-requires-clause-typed : goal.run_instructions-count-requires-clause-typed
run_instructions-count-requires-clause-typed c =
    subst (λ s. IsTypedFrame c.args.verified.now.program s c.deref_mut.result.now) (ap (λ s. s.heap) (sym c.store.view_is))
    (subst (λ f. IsTypedFrame c.args.verified.now.program c.loop-instr.store.heap f)
    (sym (c.deref_mut.ensures.value ∙ ap (λ (a : StayState). a.top) c.self.view_is))
    (typed_top (location c.args.verified.now.program c.args.locality) c.loop-instr.self c.loop-instr.store c.loop-instr.invariant.0.typed))

pub returns-in_default-clause-ran : goal.returns-in_default-clause-ran
returns-in_default-clause-ran c =
    subst (λ n. Stretch (location c.args.verified.now.program c.args.locality) c.args.self.now c.args.store.now n
    (record (the_view c.self.inside) { top = c.run_instructions-count.new.self })
    (record (store.the_view c.store.inside) { heap = c.run_instructions-count.new.heap }))
    (some_made c.args.most c.loop-instr.left c.run_instructions-count.result.0 c.loop-instr.invariant.2 c.run_instructions-count.ensures.few)
    (stretched_on (location c.args.verified.now.program c.args.locality) c.args.self.now c.args.store.now
    (c.args.most - c.loop-instr.left) (the_view c.self.inside) c.loop-instr.self
    (store.the_view c.store.inside) c.loop-instr.store c.run_instructions-count.new.self c.run_instructions-count.new.heap
    c.run_instructions-count.result.0 (checked c.args.verified.now c.certificate.ensures) c.self.view_is c.store.view_is c.loop-instr.invariant.0
    c.loop-instr.invariant.1 c.deref_mut.result.now c.deref_mut.ensures.value c.run_instructions-count.ensures.ran
    c.run_instructions-count.ensures.kept).stretch

pub step-made-requires-clause-placed : goal.step-made-requires-clause-placed
step-made-requires-clause-placed c = (stretched_on (location c.args.verified.now.program c.args.locality) c.args.self.now c.args.store.now
    (c.args.most - c.loop-instr.left) (the_view c.self.inside) c.loop-instr.self
    (store.the_view c.store.inside) c.loop-instr.store c.run_instructions-count.new.self c.run_instructions-count.new.heap
    c.run_instructions-count.result.0 (checked c.args.verified.now c.certificate.ensures) c.self.view_is c.store.view_is c.loop-instr.invariant.0
    c.loop-instr.invariant.1 c.deref_mut.result.now c.deref_mut.ensures.value c.run_instructions-count.ensures.ran
    c.run_instructions-count.ensures.kept).working.typed.stands.placed

pub step-made-requires-clause-reads : goal.step-made-requires-clause-reads
step-made-requires-clause-reads c =
    working_reads (location c.args.verified.now.program c.args.locality) _ _
    (stretched_on (location c.args.verified.now.program c.args.locality) c.args.self.now c.args.store.now (c.args.most - c.loop-instr.left)
    (the_view c.self.inside) c.loop-instr.self (store.the_view c.store.inside) c.loop-instr.store c.run_instructions-count.new.self
    c.run_instructions-count.new.heap c.run_instructions-count.result.0
    (checked c.args.verified.now c.certificate.ensures) c.self.view_is c.store.view_is c.loop-instr.invariant.0 c.loop-instr.invariant.1
    c.deref_mut.result.now c.deref_mut.ensures.value c.run_instructions-count.ensures.ran c.run_instructions-count.ensures.kept).working
    (checked c.args.verified.now c.certificate.ensures) c.in-Some.instr
    (fetched_there c.args.verified.now.program c.run_instructions-count.new.self c.run_instructions-count.result.1 c.in-Some.instr
    c.run_instructions-count.ensures.next c.in-Some.is)

pub loop-instr-preserved : goal.loop-instr-preserved
loop-instr-preserved c =
    let before = stretched_on (location c.args.verified.now.program c.args.locality) c.args.self.now c.args.store.now (c.args.most - c.loop-instr.left)
    (the_view c.self.inside) c.loop-instr.self (store.the_view c.store.inside) c.loop-instr.store c.run_instructions-count.new.self
    c.run_instructions-count.new.heap c.run_instructions-count.result.0
    (checked c.args.verified.now c.certificate.ensures) c.self.view_is c.store.view_is c.loop-instr.invariant.0 c.loop-instr.invariant.1
    c.deref_mut.result.now c.deref_mut.ensures.value c.run_instructions-count.ensures.ran c.run_instructions-count.ensures.kept in
    let fetched = fetched_there c.args.verified.now.program c.run_instructions-count.new.self c.run_instructions-count.result.1 c.in-Some.instr
    c.run_instructions-count.ensures.next c.in-Some.is in
    let goes = (let goes : c.step-made.result ≡ Ok outcome.Goes = search rules in goes) in
    let less : c.run_instructions-count.result.0 < c.loop-instr.left =
    subst (λ (o : Option Instr). IfSome o (λ j. c.run_instructions-count.result.0 < c.loop-instr.left)) c.in-Some.is
    c.run_instructions-count.ensures.fewer in (
      working_on (location c.args.verified.now.program c.args.locality) _ c.step-made.new.self _ c.step-made.new.store c.in-Some.instr
          (checked c.args.verified.now c.certificate.ensures) before.working fetched c.step-made.result goes c.step-made.ensures.ok,
      subst (λ n. Stretch (location c.args.verified.now.program c.args.locality) c.args.self.now c.args.store.now n c.step-made.new.self
          c.step-made.new.store)
          (one_more c.args.most c.loop-instr.left c.run_instructions-count.result.0 c.loop-instr.invariant.2 less)
          (further_by (location c.args.verified.now.program c.args.locality) c.args.self.now _ c.step-made.new.self c.args.store.now _
          c.step-made.new.store ((c.args.most - c.loop-instr.left) + c.run_instructions-count.result.0) c.in-Some.instr before.stretch
          before.working.typed.stands.placed fetched c.step-made.result goes c.step-made.ensures.ok),
      omega (arith, less, c.loop-instr.invariant.2),
    )

pub returns-then-ne-clause-ran : goal.returns-then-ne-clause-ran
returns-then-ne-clause-ran c =
    let before = stretched_on (location c.args.verified.now.program c.args.locality) c.args.self.now c.args.store.now (c.args.most - c.loop-instr.left)
    (the_view c.self.inside) c.loop-instr.self (store.the_view c.store.inside) c.loop-instr.store c.run_instructions-count.new.self
    c.run_instructions-count.new.heap c.run_instructions-count.result.0
    (checked c.args.verified.now c.certificate.ensures) c.self.view_is c.store.view_is c.loop-instr.invariant.0 c.loop-instr.invariant.1
    c.deref_mut.result.now c.deref_mut.ensures.value c.run_instructions-count.ensures.ran c.run_instructions-count.ensures.kept in
    subst (λ n. Paused c.step-made.result (location c.args.verified.now.program c.args.locality) c.args.self.now c.args.store.now n
    c.step-made.new.self c.step-made.new.store)
    (some_made c.args.most c.loop-instr.left c.run_instructions-count.result.0 c.loop-instr.invariant.2 c.run_instructions-count.ensures.few)
    (paused_there (location c.args.verified.now.program c.args.locality) c.args.self.now _ c.step-made.new.self c.args.store.now _
    c.step-made.new.store ((c.args.most - c.loop-instr.left) + c.run_instructions-count.result.0) c.in-Some.instr before.stretch
    before.working.typed.stands.placed (fetched_there c.args.verified.now.program c.run_instructions-count.new.self
    c.run_instructions-count.result.1 c.in-Some.instr c.run_instructions-count.ensures.next c.in-Some.is) c.step-made.result
    (let on : c.step-made.result ≢ Ok outcome.Goes = search rules in on) c.step-made.ensures.ok c.step-made.ensures.err)
