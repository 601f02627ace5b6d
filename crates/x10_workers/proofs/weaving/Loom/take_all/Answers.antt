use Rattle.std.proofs.Common.{suc, refl, sym, subst, ◌∙◌}
use Rattle.std.specs.Prelude.{length, map, take, drop}
use Rattle.std.proofs.lemmas.Option.{slice_get_read}
use Rattle.x10_hall.specs.Halls.{told}
use Rattle.x10_workers.specs.Looms.{woven}
use Rattle.x10_workers.specs.Weaves.{TakesOffEach}
use Rattle.x10_workers.proofs.WorkLemmas.{takes_off_more, no_more_taken, map_split, map_take_more}
use Rattle.x10_workers.proofs.weaving.Loom.take_all.Goals as goal

pub returns-then-not-take_one-clause-refuses : goal.returns-then-not-take_one-clause-refuses
returns-then-not-take_one-clause-refuses c f after off =
    let there = slice_get_read c.args.frames.now (length c.args.frames.now) c.loop-at.at c.index-frames-at.result refl c.loop-at-test.true
    c.index-frames-at.is in
    no_more_taken (woven c.args.self.now).flying (woven c.loop-at.self).flying after c.args.place (map told c.args.frames.now)
    (map told (take c.loop-at.at c.args.frames.now)) (told c.index-frames-at.result) (map told (drop (suc c.loop-at.at) c.args.frames.now))
    (map_split told c.args.frames.now c.loop-at.at c.index-frames-at.result there) c.loop-at.invariant.1
    (c.take_one.ensures.refuses c.if-not-take_one.true) off

pub loop-at-preserved : goal.loop-at-preserved
loop-at-preserved c =
    let there = slice_get_read c.args.frames.now (length c.args.frames.now) c.loop-at.at c.index-frames-at.result refl c.loop-at-test.true
    c.index-frames-at.is in (
      c.take_one.ensures.cursors ∙ c.loop-at.invariant.0,
      subst (λ fs. TakesOffEach (woven c.args.self.now).flying c.args.place fs (woven c.take_one.new.self).flying)
          (sym (map_take_more told c.args.frames.now c.loop-at.at c.index-frames-at.result there))
          (takes_off_more (woven c.args.self.now).flying (woven c.loop-at.self).flying (woven c.take_one.new.self).flying c.args.place
          (map told (take c.loop-at.at c.args.frames.now)) (told c.index-frames-at.result) c.loop-at.invariant.1
          (c.take_one.ensures.takes c.if-not-take_one.false)),
    )
