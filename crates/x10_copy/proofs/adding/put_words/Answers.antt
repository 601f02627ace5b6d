use Rattle.std.proofs.Common.{arith, sym, ◌∙◌}
use Rattle.x10_copy.specs.Arrived.{word_at}
use Rattle.x10_copy.proofs.Additions.{written_next}
use Rattle.x10_copy.proofs.SameTests.{met_at, left_after, some_left}
use Rattle.x10_copy.proofs.adding.put_words.Goals as goal

pub step-requires : goal.step-requires
step-requires c = some_left c.args.node.now.fields c.loop-j.values c.loop-j.j c.loop-j.invariant.1
    (omega (arith, c.loop-j-test.true, c.fields-j-end.ensures.value))

pub loop-j-preserved : goal.loop-j-preserved
loop-j-preserved c =
    let is = sym c.loop-j.invariant.1 ∙ c.step.ensures in (
      written_next (word_at c.args.bases.now.texts c.args.bases.now.rails c.args.bases.now.objects) c.args.node.now.fields c.loop-j.j _
          c.word.result c.loop-j.words c.loop-j.invariant.0 (met_at c.args.node.now.fields c.loop-j.j _ c.step.new.self is) c.word.ensures
          (omega arith),
      left_after c.args.node.now.fields c.loop-j.j _ c.step.new.self is,
    )
