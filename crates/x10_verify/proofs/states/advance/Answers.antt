use Rattle.std.proofs.Common.{◌≡◌, ◌+◌, Some, set, arith, refl, sym, ap, subst, ◌∙◌}
use Rattle.std.specs.Prelude.{slice_get}
use Rattle.std.proofs.lemmas.Option.{same_Some, slice_get_read}
use Rattle.x10_verify.specs.declared.known.Known.{Known}
use Rattle.x10_verify.specs.declared.states.Entry.{Entry}
use Rattle.x10_verify.specs.Solving.{Advances}
use Rattle.x10_verify.proofs.states.advance.Goals as goal

pub returns : goal.returns
returns c = λ entry is.
    let here : slice_get c.args.table.now.items c.args.at ≡ Some c.index.result.now =
    slice_get_read c.args.table.now.items _ c.args.at c.index.result.now refl (omega arith) c.index.ensures in
    let same : entry.known ≡ c.index.result.now.known = ap (λ (e : Entry). e.known) (same_Some entry c.index.result.now (sym is ∙ here)) in
    let r = c.receive_after.ensures in
    subst (λ (k : Known). Advances c.args.at c.args.register c.args.effect k c.args.table.now.items
    (set c.args.table.now.items (c.args.at + 1) c.receive_after.new.self)) (sym same) (
      r.0,
      r.1,
      r.2,
      r.3,
      record {
        entry = c.receive_after.new.self;
        before = c.index_mut.result.now;
        was = slice_get_read c.args.table.now.items _ (c.args.at + 1) c.index_mut.result.now refl (omega arith) c.index_mut.ensures.value;
        received = r.4;
        is = refl;
      },
    )
