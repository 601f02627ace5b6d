use Rattle.std.specs.String.{string_bytes}
use Rattle.x10_moments.proofs.Words.{told_words}
use Rattle.x10_moments.proofs.posts.words.Goals as goal

pub returns-in-Ok : goal.returns-in-Ok
returns-in-Ok c = told_words c.args.places c.args.bytes.now (string_bytes c.in-Ok.text) c.ranges.places.fits c.in-Ok.ensures.told
