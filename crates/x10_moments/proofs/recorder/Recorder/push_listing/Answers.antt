use Rattle.std.proofs.Common.{◌++◌, List, ℕ, ap, codes, ◌∙◌}
use Rattle.std.specs.String.{string_bytes}
use Rattle.x10_asm.specs.Listing.{listing}
use Rattle.x10_states.specs.Json.{json}
use Rattle.x10_states.proofs.Pieces.{told}
use Rattle.x10_moments.specs.Pages.{listing_part}
use Rattle.x10_moments.proofs.recorder.Recorder.push_listing.Goals as goal

pub returns : goal.returns
unfolding listing_part
returns c = told c.push_named.result (string_bytes c.push_named.new.text) (string_bytes c.args.text.now)
    (codes "{\"listing\":" ++ json c.deref.result.now) (codes "{\"listing\":" ++ json (listing c.args.self.now.program))
    (ap (λ (t : List ℕ). codes "{\"listing\":" ++ json t) (c.deref.ensures ∙ c.in_ok-listing.ensures.exact ∙ ap (λ m. listing m) c.image.ensures))
    c.push_named.ensures
