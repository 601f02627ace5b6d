use Rattle.std.proofs.Common.{◌++◌, ap, append-nil, arith, length, refl, sym, ◌∙◌}
use Rattle.x10_moments.specs.Moments.{first_places}
use Rattle.std.specs.String.{string_bytes}
use Rattle.x10_moments.proofs.Moments.{count_more, next_shown, none_shown, text_more}
use Rattle.x10_moments.proofs.recorder.Recorder.push_places.Goals as goal

pub loop-id-preserved : goal.loop-id-preserved
loop-id-preserved c =
    let a = c.in_ok-push_first.ensures.added in
    let old = c.loop-id.self.places in
    let new = c.push_first.new.self.places in
    record {
      text = text_more (string_bytes c.args.text.now) (string_bytes c.loop-id.text) (string_bytes c.push_first.new.text) old new a.0 c.loop-id.id
          c.loop-id.invariant.count c.loop-id.invariant.text a.3 a.2;
      places = next_shown c.args.self.now.program c.args.self.now.kinds c.loop-id.self.program c.loop-id.self.kinds c.loop-id.invariant.program
          c.loop-id.invariant.kinds c.args.world.now.places c.loop-id.id
          (omega (arith, c.loop-id-test.true, c.count-id-end.ensures)) old new a.0 c.loop-id.invariant.places a.1 a.2;
      count = count_more old new a.0 c.loop-id.id c.loop-id.invariant.count a.2;
      program = c.push_first.ensures.program ∙ c.loop-id.invariant.program;
      kinds = c.push_first.ensures.kinds ∙ c.loop-id.invariant.kinds;
    }

pub loop-id-init : goal.loop-id-init
loop-id-init c = record {
  text = sym (append-nil (string_bytes c.args.text.now)) ∙ ap (λ ts. string_bytes c.args.text.now ++ first_places 0 ts) (sym c.requires);
  places = none_shown c.args.self.now.program c.args.self.now.kinds c.args.world.now.places c.args.self.now.places c.requires;
  count = ap length c.requires;
  program = refl;
  kinds = refl;
}
