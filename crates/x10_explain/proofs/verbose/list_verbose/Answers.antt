use Rattle.std.proofs.Common.{ap, ◌∙◌}
use Rattle.std.specs.String.{string_bytes}
use Rattle.x10_asm.proofs.ListingAgain.{read_commented}
use Rattle.x10_asm.specs.Comments.{said}
use Rattle.x10_explain.proofs.verbose.list_verbose.Goals as goal

pub returns-clause-says : goal.returns-clause-says
returns-clause-says c = c.in_ok-listing.ensures ∙ ap said (c.as_str.ensures.value ∙ c.in_ok-plain.ensures.exact)

pub returns-clause-again : goal.returns-clause-again
returns-clause-again c = read_commented c.args.image.now (string_bytes c.in_ok-listing.listing) c.fits.ensures
    (c.in_ok-listing.ensures ∙ ap said (c.as_str.ensures.value ∙ c.in_ok-plain.ensures.exact))
