-- The lines that tell what was in a run. Their numbers stand one below another.
use Rattle.std.specs.Prelude.{ℕ, zero, suc, ◌+◌, ◌==◌, nat_lt, List, [], ◌∷◌, ◌++◌, Option, Some, None, length, codes, decimal, slice_get, if◌then◌else◌}
use Rattle.x10_heap.specs.Heaps.{HeapState}
use Rattle.x10_place.specs.StandsFor.{PlaceState}
use Rattle.x10_verify.specs.Certified.{Certified}
use Rattle.x10_stats.specs.Counts.{CountsState}
use Rattle.x10_stats.specs.Tallies.{TallyState}
use Rattle.x10_stats.specs.declared.activity.Activity.{Activity}
use Rattle.x10_stats.specs.declared.stats.Stats.{Stats}
use Rattle.x10_stats.specs.declared.stats.Volume.{Volume}
use Rattle.x10_stats.specs.declared.tally.Begun.{Begun}

-- a name, with the spaces that stand behind it, and a number
abbrev pub line : List ℕ → ℕ → List ℕ
line name n = name ++ (decimal n ++ 10 ∷ [])

abbrev pub event_lines : Stats → (rounds : ℕ) → List ℕ
event_lines s rounds = line (codes "steps:                    ") s.steps
    ++ (line (codes "idle events:              ") s.idle
    ++ (line (codes "deliveries:               ") s.deliveries
    ++ (line (codes "rounds:                   ") rounds
    ++ line (codes "most stays at one time:   ") s.stays)))

-- frames that begin something where they go
abbrev pub begin_lines : (spawns shifts : Volume) → List ℕ
begin_lines spawns shifts = line (codes "Spawn frames:             ") spawns.frames
    ++ (line (codes "Spawn bytes:              ") spawns.bytes
    ++ (line (codes "Shift frames:             ") shifts.frames
    ++ line (codes "Shift bytes:              ") shifts.bytes))

-- and those that tell of an end
abbrev pub end_lines : (backs reports : Volume) → List ℕ
end_lines backs reports = line (codes "Back frames:              ") backs.frames
    ++ (line (codes "Back bytes:               ") backs.bytes
    ++ (line (codes "Report frames:            ") reports.frames
    ++ line (codes "Report bytes:             ") reports.bytes))

-- a space, where the number of a place has one digit
abbrev pub pad : ℕ → List ℕ
pad place = if nat_lt place 10 then codes " " else []

-- the spaces before the first number of a function's line
abbrev pub function_pad : ℕ → List ℕ
function_pad f = if nat_lt f 10 then codes "   "
    else (if nat_lt f 100 then codes "  " else codes " ")

-- a line of a place
abbrev pub place_line : ℕ → List ℕ → ℕ → List ℕ
place_line place name n = codes "place "
    ++ (decimal place ++ (name ++ (pad place ++ (decimal n ++ 10 ∷ []))))

-- what the heap of a place has
abbrev pub heap_lines : ℕ → HeapState → List ℕ
heap_lines place h = place_line place (codes ", objects:        ") (length h.objects)
    ++ (place_line place (codes ", rails:          ") (length h.rails)
    ++ (place_line place (codes ", texts:          ") (length h.texts)
    ++ place_line place (codes ", exports:        ") (length h.exports)))

-- that of a place, if it is there
abbrev pub any_heap_lines : ℕ → Option PlaceState → List ℕ
any_heap_lines place None = []
any_heap_lines place (Some p) = heap_lines place p.heap

-- the heaps of places, from a number on
abbrev pub all_heap_lines : ℕ → List PlaceState → List ℕ
all_heap_lines place [] = []
all_heap_lines place (p ∷ rest) = heap_lines place p.heap ++ all_heap_lines (place + 1) rest

-- a line of a function with which so many activities began, of which one made the most steps, and none may make more than its
-- bound
abbrev pub function_line : ℕ → Begun → ℕ → List ℕ
function_line f g bound = codes "function "
    ++ (decimal f ++ (codes ", activities:"
    ++ (function_pad f ++ (decimal g.activities ++ (codes ", most steps: "
    ++ (decimal g.most ++ (codes ", bound: " ++ (decimal bound ++ 10 ∷ []))))))))

-- none where no activity began with it
abbrev pub begun_lines : ℕ → Begun → ℕ → List ℕ
begun_lines f g bound = if g.activities == 0 then [] else function_line f g bound

abbrev pub any_begun_lines : ℕ → Option Begun → Option ℕ → List ℕ
any_begun_lines f None bound = []
any_begun_lines f (Some g) None = []
any_begun_lines f (Some g) (Some bound) = begun_lines f g bound

-- those of the first so many functions
abbrev pub function_lines : List Begun → List ℕ → ℕ → List ℕ
function_lines functions bounds zero = []
function_lines functions bounds (suc f) = function_lines functions bounds f
    ++ any_begun_lines f (slice_get functions f) (slice_get bounds f)

abbrev pub all_function_lines : List Begun → Certified → List ℕ
all_function_lines functions c = function_lines functions c.bounds (length c.program.functions)

-- a line of an activity with a number: with which function it began, and at which place; it has made so many steps, and may
-- make no more than its function's bound
abbrev pub activity_line : ℕ → Activity → ℕ → List ℕ
activity_line n a bound = codes "activity "
    ++ (decimal n ++ (codes ", function "
    ++ (decimal a.function ++ (codes ", place "
    ++ (decimal a.place ++ (codes ", steps: "
    ++ (decimal a.steps ++ (codes ", bound: " ++ (decimal bound ++ 10 ∷ [])))))))))

-- the bound of a function, if the module has it
abbrev pub bound_in : Certified → ℕ → Option ℕ
bound_in c f = if nat_lt f (length c.program.functions) then slice_get c.bounds f else None

abbrev pub bounded_lines : ℕ → Activity → Option ℕ → List ℕ
bounded_lines n a None = []
bounded_lines n a (Some bound) = activity_line n a bound

-- none where it isn't kept
abbrev pub any_activity_lines : ℕ → Option Activity → Certified → List ℕ
any_activity_lines n None c = []
any_activity_lines n (Some a) c = bounded_lines n a (bound_in c a.function)

-- those of the first so many activities
abbrev pub activity_lines : List Activity → Certified → ℕ → List ℕ
activity_lines all c zero = []
activity_lines all c (suc n) = activity_lines all c n ++ any_activity_lines n (slice_get all n) c

-- those of all that began
abbrev pub all_activity_lines : TallyState → Certified → List ℕ
all_activity_lines t c = activity_lines t.all c t.next

-- the lines that tell what was in a run of a module, which left the places so
abbrev pub stats_lines : Certified → CountsState → List PlaceState → List ℕ
stats_lines c s places = event_lines s.stats s.pace.rounds
    ++ (begin_lines s.stats.spawns s.stats.shifts
    ++ (end_lines s.stats.backs s.stats.reports
    ++ (all_function_lines s.tally.functions c
    ++ (all_activity_lines s.tally c ++ all_heap_lines 0 places))))
