use Rattle.std.proofs.Common.{◌++◌, [], ◌∷◌, map, ap, refl, ◌∙◌}
use Rattle.std.proofs.lemmas.List.{map-append}
use Rattle.std.specs.String.{string_bytes}
use Rattle.x10_states.specs.Json.{comma}
use Rattle.x10_moments.specs.Moments.{nothing, place_text, shown_by}
use Rattle.x10_moments.proofs.Pieces.{joined}
use Rattle.x10_moments.proofs.recorder.Recorder.push_first.Goals as goal

pub returns-clause-added : goal.returns-clause-added
returns-clause-added c =
    let parts = c.in_ok-parts.parts in (
      shown_by parts,
      (λ p there. (parts, c.in_ok-parts.ensures p there, refl)),
      ap (map shown_by) c.in_ok-push.ensures.items ∙ map-append shown_by c.self.inside.places.items (parts ∷ [])
          ∙ ap (λ v. v.places ++ shown_by parts ∷ []) c.self.view_is,
      joined (string_bytes c.args.text.now) (string_bytes c.push_comma.new.out) (string_bytes c.push_place.new.text) (comma c.args.id)
          (place_text c.args.id nothing (shown_by parts))
          (c.in_ok-push_comma.ensures ∙ ap (λ n. string_bytes c.args.text.now ++ comma n) c.from.ensures)
          (c.in_ok-push_place.ensures
          ∙ ap (λ o. string_bytes c.push_comma.new.out ++ place_text c.args.id o (shown_by parts)) c.no_parts.ensures),
    )
