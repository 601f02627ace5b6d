use Rattle.std.proofs.Common.{◌++◌, length, slice_get, refl, ap, ◌∙◌}
use Rattle.std.proofs.lemmas.Option.{slice_get_read}
use Rattle.std.specs.String.{string_bytes}
use Rattle.x10_moments.specs.Changes.{bytes_of, entry_if}
use Rattle.x10_moments.proofs.Pieces.{one_more, element}
use Rattle.x10_moments.proofs.changes.push_entries.Goals as goal

pub loop-i-preserved : goal.loop-i-preserved
loop-i-preserved c = one_more c.loop-i.i (λ i. entry_if (slice_get (bytes_of c.args.old.now) i) i (slice_get (bytes_of c.args.new.now) i))
    (string_bytes c.args.text.now) (string_bytes c.loop-i.text) (string_bytes c.push_entry.new.text) c.loop-i.invariant
    (c.in_ok-push_entry.ensures ∙ ap (λ o. string_bytes c.loop-i.text ++ entry_if (slice_get (bytes_of c.args.old.now) c.loop-i.i) c.loop-i.i o)
    (element c.args.new.now c.loop-i.i c.index-new-i.result c.deref.result.now (slice_get_read c.args.new.now (length c.args.new.now) c.loop-i.i c.index-new-i.result refl c.loop-i-test.true c.index-new-i.is)
    c.deref.ensures))
