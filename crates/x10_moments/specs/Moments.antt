-- The moments of a run: what its places show, and how that changes with each event.
use Rattle.std.specs.Prelude.{◌≡◌, ℕ, ◌+◌, List, [], ◌∷◌, ◌++◌, Option, Some, None, Result, Ok, Err, codes, decimal, length, slice_index, slice_index_or}
use Rattle.x10_model.specs.declared.event.Event.{Event}
use Rattle.x10_model.specs.declared.event.Event.TheVariants.{Step, Deliver}
use Rattle.x10_model.specs.Frames.{Frame}
use Rattle.x10_model.specs.Modules.{Module}
use Rattle.x10_model.specs.ReadingFrames.{FrameFault, frame_at}
use Rattle.x10_flights.specs.Flights.{Flight, FlightsState, flight_of}
use Rattle.x10_frame_lines.specs.Lines.{frame_text}
use Rattle.x10_verify.specs.Flows.{FlowFacts}
use Rattle.x10_world.specs.declared.done.Done.{Done}
use Rattle.x10_world.specs.declared.done.Done.TheVariants as done
use Rattle.x10_world.specs.StandsForWorld.{WorldState}
use Rattle.x10_trace.specs.Trace.{in_range, trace_lines}
use Rattle.x10_states.specs.Json.{comma, elements, json}
use Rattle.x10_states.specs.declared.parts.Parts.{Parts}
use Rattle.x10_states.specs.Parts.{ArePartsOf}
use Rattle.x10_place.specs.StandsFor.{PlaceState}
use Rattle.x10_moments.specs.Changes.{bytes_of, change_text, pieces}

-- ---- places

-- what a place shows: the texts of its stays by key, of what its heap has, and of its lines
pub record Shown : Type 0 where
  pub stays : List (List ℕ)
  pub objects : List (List ℕ)
  pub rails : List (List ℕ)
  pub texts : List (List ℕ)
  pub exports : List (List ℕ)
  pub lines : List (List ℕ)

-- nothing
abbrev pub nothing : Shown
nothing = record { stays = []; objects = []; rails = []; texts = []; exports = []; lines = [] }

abbrev pub shown_by : Parts → Shown
shown_by parts = record {
  stays = bytes_of parts.stays.items;
  objects = bytes_of parts.objects.items;
  rails = bytes_of parts.rails.items;
  texts = bytes_of parts.texts.items;
  exports = bytes_of parts.exports.items;
  lines = bytes_of parts.lines.items;
}

-- a place of a module shows this, by the kinds that the functions' assignments know
abbrev pub IsShown : Module → List FlowFacts → PlaceState → Shown → Type 0
IsShown program kinds p s = (parts : Parts) × ArePartsOf program kinds p parts × (s ≡ shown_by parts)

-- each place of some shows what is listed
abbrev pub AreShown : Module → List FlowFacts → List PlaceState → List Shown → Type 0
AreShown program kinds [] [] = Unit {0}
AreShown program kinds (p ∷ ps) (s ∷ ss) = IsShown program kinds p s
    × AreShown program kinds ps ss
AreShown program kinds _ _ = ⊥

-- how one of its lists changed, behind its name
unfoldable pub list_text : (name : List ℕ) → (old new : List (List ℕ)) → List ℕ
list_text name old new = name ++ change_text old new

-- how what a place shows changed
unfoldable pub parts_text : (old new : Shown) → List ℕ
parts_text old new = list_text (codes "{\"stays\":") old.stays new.stays
    ++ (list_text (codes ",\"objects\":") old.objects new.objects
    ++ (list_text (codes ",\"rails\":") old.rails new.rails
    ++ (list_text (codes ",\"texts\":") old.texts new.texts
    ++ (list_text (codes ",\"exports\":") old.exports new.exports
    ++ (list_text (codes ",\"lines\":") old.lines new.lines ++ codes "}")))))

unfoldable pub place_text : ℕ → (old new : Shown) → List ℕ
place_text id old new = codes "[" ++ (decimal id ++ (codes "," ++ (parts_text old new ++ codes "]")))

-- ---- frames

-- what a frame says, as lines, if it is one
abbrev pub words_read : ℕ → Result Frame FrameFault → List ℕ
words_read version (Ok frame) = frame_text version frame
words_read version (Err fault) = []

abbrev pub words_of : (places : ℕ) → List ℕ → List ℕ
words_of places bytes = words_read (slice_index bytes 0) (frame_at places bytes)

-- its number, where it goes, and what it says
unfoldable pub told_text : (number to : ℕ) → List ℕ → List ℕ
told_text number to words = codes "[" ++ (decimal number ++ (codes "," ++ (decimal to
    ++ (codes "," ++ (json words ++ codes "]")))))

-- a frame in flight, if there is one
unfoldable pub post_text : (places : ℕ) → Option Flight → List ℕ
post_text places None = codes "null"
post_text places (Some f) = told_text f.number f.to (words_of places f.bytes)

-- so many frames in flight, numbered one after another from a number on
unfoldable pub frames_text : (places : ℕ) → FlightsState → (first count : ℕ) → List ℕ
frames_text places s first count = codes "["
    ++ (elements count (λ i. post_text places (flight_of s (first + i))) ++ codes "]")

-- the frames that an event put out
abbrev pub posts_text : (places : ℕ) → FlightsState → Done → List ℕ
posts_text places s (done.Moved function pc op first count) =
    frames_text places s first (in_range first count)
posts_text places s _ = codes "[]"

-- a frame in flight, if there is one, behind a comma
abbrev pub flight_piece : (places : ℕ) → Option Flight → List ℕ
flight_piece places None = []
flight_piece places (Some f) = 44 ∷ told_text f.number f.to (words_of places f.bytes)

-- those of the first so many frames that are in flight
abbrev pub flight_pieces : (places : ℕ) → FlightsState → ℕ → List ℕ
flight_pieces places s n = pieces n (λ i. flight_piece places (flight_of s i))

-- how many frames were put out, and those of them that are in flight
unfoldable pub flights_text : (places : ℕ) → FlightsState → List ℕ
flights_text places s = codes "["
    ++ (decimal s.posted ++ (flight_pieces places s s.posted ++ codes "]"))

-- ---- moments

-- each part behind its name
unfoldable pub event_part : List ℕ → List ℕ
event_part event = codes "{\"event\":" ++ json event

unfoldable pub places_part : List ℕ → List ℕ
places_part places = codes ",\"places\":" ++ places

unfoldable pub posts_part : List ℕ → List ℕ
posts_part posts = codes ",\"posts\":" ++ (posts ++ codes "}")

unfoldable pub moment_text : (event places posts : List ℕ) → List ℕ
moment_text event places posts = event_part event ++ (places_part places ++ posts_part posts)

-- what places show that are numbered from one number on, with a comma before all but place 0
abbrev pub first_places : ℕ → List Shown → List ℕ
first_places n [] = []
first_places n (s ∷ ss) = (comma n ++ place_text n nothing s) ++ first_places (n + 1) ss

-- what the places show at the beginning
unfoldable pub first_moment : List Shown → List ℕ
first_moment shown = codes "{\"event\":\"\",\"places\":["
    ++ (first_places 0 shown ++ codes "],\"posts\":[]}")

-- the place that an event changed
abbrev pub changed_place : Event → Done → Option ℕ
changed_place (Step id key) (done.Moved function pc op first count) = Some id
changed_place (Deliver number) (done.Taken to) = Some to
changed_place _ _ = None

-- one place, as a list
unfoldable pub one_text : ℕ → (old new : Shown) → List ℕ
one_text id old new = codes "[" ++ (place_text id old new ++ codes "]")

abbrev pub changed_text : Option ℕ → (old new : List Shown) → List ℕ
changed_text None old new = codes "[]"
changed_text (Some id) old new = one_text id (slice_index_or old id nothing)
    (slice_index_or new id nothing)

-- an event, how what its place shows changed with it, and the frames that it put out
abbrev pub next_moment : (old new : List Shown) → Event → Done → WorldState → List ℕ
next_moment old new event did z = moment_text (trace_lines z event did)
    (changed_text (changed_place event did) old new) (posts_text (length z.places) z.flights did)

-- the moment after an event that led from one state of a world to another
pub record IsMoment (program : Module) (kinds : List FlowFacts) (y : WorldState) (event : Event)
    (did : Done) (z : WorldState) (text : List ℕ) : Type 0 where
  pub old : List Shown
  pub before : AreShown program kinds y.places old
  pub new : List Shown
  pub after : AreShown program kinds z.places new
  pub text_is : text ≡ next_moment old new event did z
