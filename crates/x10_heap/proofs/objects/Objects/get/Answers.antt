use Rattle.std.proofs.Common.{◌∙◌, sym, arith}
use Rattle.std.proofs.lemmas.Option.{same_Some, slice_get_within}
use Rattle.x10_heap.proofs.Laid.{there, word_of}
use Rattle.x10_heap.proofs.objects.Objects.get.Goals as goal

pub start_in-requires : goal.start_in-requires
start_in-requires c = rw c.deref.ensures.value (omega (
  arith,
  (there c.self.inside.classes.items c.self.inside.ends.items c.self.inside.words.items c.args.self.now c.args.object c.self.invariant
      c.self.view_is (slice_get_within _ _ _ c.requires.1)).end_there,
))

pub overflow_add-start_in : goal.overflow_add-start_in
overflow_add-start_in c =
    let t = there c.self.inside.classes.items c.self.inside.ends.items c.self.inside.words.items c.args.self.now c.args.object c.self.invariant
    c.self.view_is (slice_get_within _ _ _ c.requires.1) in
    let w = word_of c.self.inside.classes.items c.self.inside.ends.items c.self.inside.words.items c.args.self.now c.args.object c.args.field
    c.requires.0 t c.requires.1 c.requires.2 in
    rw (c.start_in.ensures, c.deref.ensures.value) (omega (arith, w.word_there, c.self.inside.words.ok, c.self.inside.words.small))

pub index-requires : goal.index-requires
index-requires c =
    let t = there c.self.inside.classes.items c.self.inside.ends.items c.self.inside.words.items c.args.self.now c.args.object c.self.invariant
    c.self.view_is (slice_get_within _ _ _ c.requires.1) in
    let w = word_of c.self.inside.classes.items c.self.inside.ends.items c.self.inside.words.items c.args.self.now c.args.object c.args.field
    c.requires.0 t c.requires.1 c.requires.2 in
    rw (c.start_in.ensures, c.deref.ensures.value) (omega (arith, w.word_there, c.self.inside.words.ok))

pub returns : goal.returns
returns c = λ o e.
    let t = there c.self.inside.classes.items c.self.inside.ends.items c.self.inside.words.items c.args.self.now c.args.object c.self.invariant
    c.self.view_is (slice_get_within _ _ _ c.requires.1) in
    let same = same_Some c.requires.0 o (sym c.requires.1 ∙ e) in
    let w = word_of c.self.inside.classes.items c.self.inside.ends.items c.self.inside.words.items c.args.self.now c.args.object c.args.field o t e
    (rw same at c.requires.2) in
    w.is c.index.result.now (rw (c.start_in.ensures, c.deref.ensures.value) at c.index.ensures)
