-- All that a place shows.
use Rattle.std.specs.Prelude.{◌≡◌, ℕ, List, ◌∷◌, [], ◌++◌, map}
use Rattle.std.specs.Fmt.{signed_decimal}
use Rattle.std.specs.String.{string_bytes}
use Rattle.x10_model.specs.Modules.{Module}
use Rattle.x10_place.specs.declared.line.Line.{Line}
use Rattle.x10_place.specs.declared.line.Line.TheVariants as line
use Rattle.x10_place.specs.StandsFor.{PlaceState}
use Rattle.x10_verify.specs.Flows.{FlowFacts}
use Rattle.x10_states.specs.declared.parts.Parts.{Parts}
use Rattle.x10_states.specs.Json.{json}
use Rattle.x10_states.specs.Objects.{export_text, numbers_text, object_text}
use Rattle.x10_states.specs.Stays.{AreStays}

-- a line of output, in quotes
abbrev pub line_text : Line → List ℕ
line_text (line.Int z) = 34 ∷ (signed_decimal z ++ 34 ∷ [])
line_text (line.Text t) = json (string_bytes t)

-- a text for each stay, object, rail, text, export and line of a place
pub record ArePartsOf (program : Module) (flows : List FlowFacts) (p : PlaceState)
    (parts : Parts) : Type 0 where
  pub stays : AreStays flows p (map string_bytes parts.stays.items)
  pub objects : map string_bytes parts.objects.items
      ≡ map (object_text program.classes p.heap) p.heap.objects
  pub rails : map string_bytes parts.rails.items ≡ map numbers_text p.heap.rails
  pub texts : map string_bytes parts.texts.items ≡ map json p.heap.texts
  pub exports : map string_bytes parts.exports.items ≡ map export_text p.heap.exports
  pub lines : map string_bytes parts.lines.items ≡ map line_text p.lines
