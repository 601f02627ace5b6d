use Rattle.std.proofs.Common.{◌≡◌, Some, arith, refl, sym, ap, ◌∙◌}
use Rattle.std.specs.Prelude.{slice_get}
use Rattle.x10_verify.specs.States.{waits_in}
use Rattle.x10_verify.proofs.states.finish.Goals as goal
use Rattle.std.proofs.lemmas.Option.{slice_get_read}

pub returns : goal.returns
returns c =
    let was : slice_get c.args.table.now.items c.args.at ≡ Some c.index_mut.result.now =
    slice_get_read c.args.table.now.items _ c.args.at c.index_mut.result.now refl (omega arith) c.index_mut.ensures.value in (
      c.index_mut.result.now.known,
      record {
        before = c.index_mut.result.now;
        was = was;
        known_is = refl;
        waited = sym (ap waits_in was) ∙ c.requires.waiting;
        is = refl;
      },
    )
