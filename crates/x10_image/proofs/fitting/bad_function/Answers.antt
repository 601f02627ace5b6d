use Rattle.std.proofs.Common.{refl}
use Rattle.std.proofs.lemmas.Option.{slice_get_read}
use Rattle.x10_image.proofs.fitting.bad_function.Goals as goal

pub returns-in-Some : goal.returns-in-Some
returns-in-Some c =
    let here = slice_get_read _ _ c.loop-number.number _ refl c.loop-number-test.true c.index-functions-number.is in
    let there = c.in-Some.ensures in (
      c.loop-number-test.true,
      c.index-functions-number.result,
      here,
      rw c.deref.ensures.value at there.0,
      there.1,
      rw c.deref.ensures.value at there.2,
      there.3,
    )
