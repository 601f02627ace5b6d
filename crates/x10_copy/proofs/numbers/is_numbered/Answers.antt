use Rattle.std.proofs.Common.{refl}
use Rattle.x10_copy.proofs.Position.{past_places, past_parts, tells}
use Rattle.x10_copy.proofs.numbers.is_numbered.Goals as goal

pub returns-then-part-places : goal.returns-then-part-places
returns-then-part-places c = past_places c.args.places.now c.args.parts.now c.args.part c.requires c.if-part-places.true

pub returns-then-k-parts : goal.returns-then-k-parts
returns-then-k-parts c = past_parts c.args.places.now c.args.parts.now c.args.part _ c.requires refl c.if-k-parts.true

pub returns : goal.returns
returns c = tells c.args.places.now c.args.parts.now c.args.part _ _ c.requires refl c.if-k-parts.false refl
