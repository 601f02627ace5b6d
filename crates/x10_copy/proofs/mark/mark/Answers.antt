use Rattle.std.proofs.Common.{◌≡◌, ℕ, ◌<◌, length, get_or, subst, arith}
use Rattle.std.proofs.lemmas.Result.{err_from_is_err_and}
use Rattle.x10_copy.specs.Captured.{kinds_of}
use Rattle.x10_copy.specs.Walks.{Walked}
use Rattle.x10_copy.proofs.TurnsOfObjects.{words_of, wordy, start, start_over, next, next_over, next_long}
use Rattle.x10_copy.proofs.mark.mark.Goals as goal

pub note_roots-requires : goal.note_roots-requires
note_roots-requires c = words_of c.args.places c.args.heap.now (kinds_of c.args.slots.now) c.args.words.now (omega arith) c.requires.words

pub returns-in_err-note_roots-clause-err : goal.returns-in_err-note_roots-clause-err
returns-in_err-note_roots-clause-err c =
    let p = err_from_is_err_and c.from_residual.result c.from_residual.ensures.1 in
    rw (p.1, p.2) (start_over c.args.image.now.classes c.args.heap.now (kinds_of c.args.slots.now) c.args.words.now c.args.places
    c.in_err-note_roots.field-0.0 c.requires.words (rw c.clear.ensures at c.in_err-note_roots.ensures.err))

pub loop-k-init : goal.loop-k-init
loop-k-init c = record {
  within = omega arith;
  walked = rw (c.in_ok-note_roots.ensures.ok, c.clear.ensures)
      (start c.args.image.now.classes c.args.heap.now (kinds_of c.args.slots.now) c.args.words.now c.args.places c.requires.words
      c.note_roots.ensures.small);
}

pub note_object-requires : goal.note_object-requires
note_object-requires c =
    let lt : c.loop-k.k < length c.loop-k.marks.objects = omega (arith, c.loop-k-test.true, c.objects.ensures.value) in
    let there = (c.loop-k.invariant.walked.there.objects c.loop-k.k lt).below in
    rw (c.object-object.ensures, c.look_ahead-seen.ensures) (wordy c.args.image.now.classes c.args.places c.args.heap.now
    (get_or c.loop-k.marks.objects c.loop-k.k 0) (omega arith) there
    (c.requires.heap (get_or c.loop-k.marks.objects c.loop-k.k 0) there))

pub returns-in_err-note_object-clause-err : goal.returns-in_err-note_object-clause-err
returns-in_err-note_object-clause-err c =
    let lt : c.loop-k.k < length c.loop-k.marks.objects = omega (arith, c.loop-k-test.true, c.objects.ensures.value) in
    let there = (c.loop-k.invariant.walked.there.objects c.loop-k.k lt).below in
    let p = err_from_is_err_and c.from_residual-in_err-note_object.result c.from_residual-in_err-note_object.ensures.1 in
    rw (p.1, p.2) (next_over c.args.image.now.classes c.args.heap.now
    (kinds_of c.args.slots.now) c.args.words.now c.args.places c.loop-k.k c.loop-k.marks
    c.in_err-note_object.field-0.0 c.loop-k.invariant.walked lt
    (c.requires.heap (get_or c.loop-k.marks.objects c.loop-k.k 0) there)
    (rw (c.object-object.ensures, c.look_ahead-seen.ensures) at c.in_err-note_object.ensures.err))

pub loop-k-preserved : goal.loop-k-preserved
loop-k-preserved c =
    let lt : c.loop-k.k < length c.loop-k.marks.objects = omega (arith, c.loop-k-test.true, c.objects.ensures.value) in
    let there = (c.loop-k.invariant.walked.there.objects c.loop-k.k lt).below in
    record {
      within = rw (c.in_ok-note_object.ensures.ok, c.object-object.ensures, c.look_ahead-seen.ensures)
          (next_long c.args.image.now.classes c.args.heap.now c.loop-k.k c.loop-k.marks lt);
      walked = rw (c.in_ok-note_object.ensures.ok, c.object-object.ensures, c.look_ahead-seen.ensures)
          (next c.args.image.now.classes c.args.heap.now (kinds_of c.args.slots.now) c.args.words.now c.args.places c.loop-k.k c.loop-k.marks
          c.loop-k.invariant.walked lt
          (c.requires.heap (get_or c.loop-k.marks.objects c.loop-k.k 0) there)
          (rw (c.object-object.ensures, c.look_ahead-seen.ensures) at c.note_object.ensures.small));
    }

pub returns-clause-ok : goal.returns-clause-ok
returns-clause-ok c =
    let end : c.loop-k.k ≡ length c.loop-k.marks.objects = omega (arith, c.loop-k-test.false, c.objects.ensures.value, c.loop-k.invariant.within) in
    subst (λ (k : ℕ). Walked c.args.image.now.classes c.args.places c.args.heap.now (kinds_of c.args.slots.now) c.args.words.now k c.loop-k.marks) end
    c.loop-k.invariant.walked
