use Rattle.std.proofs.Common.{◌∙◌, sym, arith}
use Rattle.std.proofs.lemmas.Option.{same_Some, slice_get_within}
use Rattle.x10_heap.proofs.Laid.{there, word_of, put_there}
use Rattle.x10_heap.proofs.objects.Objects.put.Goals as goal

pub start_in-start-requires : goal.start_in-start-requires
start_in-start-requires c = rw c.deref.ensures.value (omega (
  arith,
  (there c.self.inside.classes.items c.self.inside.ends.items c.self.inside.words.items c.args.self.now c.args.object c.self.invariant
      c.self.view_is (slice_get_within _ _ _ c.requires.1)).end_there,
))

pub overflow_add-start : goal.overflow_add-start
overflow_add-start c =
    let t = there c.self.inside.classes.items c.self.inside.ends.items c.self.inside.words.items c.args.self.now c.args.object c.self.invariant
    c.self.view_is (slice_get_within _ _ _ c.requires.1) in
    let w = word_of c.self.inside.classes.items c.self.inside.ends.items c.self.inside.words.items c.args.self.now c.args.object c.args.field
    c.requires.0 t c.requires.1 c.requires.2 in
    rw (c.start_in-start.ensures, c.deref.ensures.value) (omega (arith, w.word_there, c.self.inside.words.ok, c.self.inside.words.small))

pub index_mut-requires : goal.index_mut-requires
index_mut-requires c =
    let t = there c.self.inside.classes.items c.self.inside.ends.items c.self.inside.words.items c.args.self.now c.args.object c.self.invariant
    c.self.view_is (slice_get_within _ _ _ c.requires.1) in
    let w = word_of c.self.inside.classes.items c.self.inside.ends.items c.self.inside.words.items c.args.self.now c.args.object c.args.field
    c.requires.0 t c.requires.1 c.requires.2 in
    rw (c.start_in-start.ensures, c.deref.ensures.value) (omega (arith, w.word_there, c.self.inside.words.ok))

pub returns : goal.returns
returns c = λ o e.
    let t = there c.self.inside.classes.items c.self.inside.ends.items c.self.inside.words.items c.args.self.now c.args.object c.self.invariant
    c.self.view_is (slice_get_within _ _ _ c.requires.1) in
    let same = same_Some c.requires.0 o (sym c.requires.1 ∙ e) in
    rw (c.start_in-start.ensures, c.deref.ensures.value) (put_there c.self.inside.classes.items c.self.inside.ends.items c.self.inside.words.items
    c.args.self.now c.args.object c.args.field c.args.word o c.self.invariant c.self.view_is t e (rw same at c.requires.2))
