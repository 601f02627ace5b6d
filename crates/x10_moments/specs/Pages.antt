-- What stands around the moments of a page.
use Rattle.std.specs.Prelude.{ℕ, Bool, true, false, List, ◌++◌, codes, decimal}
use Rattle.x10_asm.specs.Listing.{listing}
use Rattle.x10_flights.specs.Flights.{FlightsState}
use Rattle.x10_model.specs.Modules.{Module}
use Rattle.x10_page.specs.declared.head.TheConstants.{HEAD}
use Rattle.x10_page.specs.declared.tail.TheConstants.{TAIL}
use Rattle.x10_states.specs.Json.{json}
use Rattle.x10_moments.specs.Moments.{flights_text}

-- the module's listing, behind its name
unfoldable pub listing_part : Module → List ℕ
listing_part program = codes "{\"listing\":" ++ json (listing program)

-- how many places there are, and how many events were made before
unfoldable pub counts_part : (places before : ℕ) → List ℕ
counts_part places before = codes ",\"places\":" ++ (decimal places
    ++ (codes ",\"before\":" ++ decimal before))

-- the frames in flight, and how the moments begin
unfoldable pub flights_part : (places : ℕ) → FlightsState → List ℕ
flights_part places s = codes ",\"flights\":" ++ (flights_text places s
    ++ codes ",\"moments\":[\n")

-- how the data begin
unfoldable pub data_front : Module → (places before : ℕ) → FlightsState → List ℕ
data_front program places before s = listing_part program
    ++ (counts_part places before ++ flights_part places s)

-- how a page begins: what is the same of every page, and how its data do
unfoldable pub page_front : Module → (places before : ℕ) → FlightsState → List ℕ
page_front program places before s = HEAD.now ++ data_front program places before s

-- whether the run ended, in words
abbrev pub end_word : Bool → List ℕ
end_word true = codes "\n],\"end\":\"ended\"}\n"
end_word false = codes "\n],\"end\":\"stopped\"}\n"

-- how a page ends
abbrev pub page_end : Bool → List ℕ
page_end ended = end_word ended ++ TAIL.now
