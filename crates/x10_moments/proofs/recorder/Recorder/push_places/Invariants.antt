use Rattle.std.proofs.Common.{◌≡◌, ◌++◌, length, take}
use Rattle.std.specs.String.{string_bytes}
use Rattle.x10_moments.specs.Moments.{AreShown, first_places}
use Rattle.x10_moments.proofs.recorder.Recorder.push_places.Given as goal

abbrev pub invariant-loop-id : goal.invariant-loop-id
invariant-loop-id l = record {
  text : string_bytes l.text ≡ string_bytes l.initial.text ++ first_places 0 l.self.places;
  places : AreShown l.initial.self.program l.initial.self.kinds (take l.id l.world.places) l.self.places;
  count : length l.self.places ≡ l.id;
  program : l.self.program ≡ l.initial.self.program;
  kinds : l.self.kinds ≡ l.initial.self.kinds;
}
