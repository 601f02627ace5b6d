-- When a world of the program stands for a world of the machine.
use Rattle.std.specs.Prelude.{◌≡◌, ◌≢◌, ◌⊎◌, ℕ, ◌+◌, ◌^◌, ◌<◌, ◌≤◌, ◌==◌, Bool, IsTrue, List, [], length, Option, Some, None}
use Rattle.std.specs.Prelude.{MatchResult, Result, Ok, IfOk, IfErr, true, false, slice_get, slice_set}
use Rattle.slab.specs.Slab.{get}
use Rattle.x10_kinds.specs.declared.limit.Limit.{Limit}
use Rattle.x10_kinds.specs.declared.limit.Limit.TheVariants as limits
use Rattle.x10_kinds.specs.declared.stop.Stop.{Stop}
use Rattle.x10_kinds.specs.declared.stop.Stop.TheVariants as stop
use Rattle.x10_model.specs.Modules.{Module}
use Rattle.x10_model.specs.Structure.{bounds_of}
use Rattle.x10_model.specs.declared.event.Event.{Event}
use Rattle.x10_model.specs.declared.event.Event.TheVariants.{Step, Deliver}
use Rattle.x10_model.specs.Places as machine
use Rattle.x10_model.specs.declared.finish.Finish.{Finish}
use Rattle.x10_model.specs.Places.{Setting, Message, receiver, Waits}
use Rattle.x10_model.specs.Totals.{Totals, Cut, Report, nothing, zeros, reported}
use Rattle.x10_model.specs.Worlds.{World, Unused, Flying, same_finish, Ideal, Happens, Steps}
use Rattle.x10_model.specs.Wrong.{graph_of}
use Rattle.x10_copy.specs.declared.refusal.Refusal.{Refusal}
use Rattle.x10_copy.specs.declared.refusal.Refusal.TheVariants as refusal
use Rattle.x10_copy.specs.References.{OfReferences}
use Rattle.x10_finish.specs.Detection.{Told}
use Rattle.x10_finish.specs.Ledgers.{totals_of}
use Rattle.x10_verify.specs.Certified.{Certified}
use Rattle.x10_finish.specs.Watching.{WorldCounts, IsWatched}
use Rattle.x10_place.specs.declared.place.Stepped.{Stepped}
use Rattle.x10_place.specs.declared.place.Stepped.TheVariants as stepped
use Rattle.x10_place.specs.declared.sent.Outgoing.{Outgoing}
use Rattle.x10_place.specs.declared.sent.Sent.{Sent}
use Rattle.x10_place.specs.Stays.{StayState, IsDoneHere, finish_at, books_of, kept_in}
use Rattle.x10_place.specs.Messages.{Carries, CarriesReport, no_sent}
use Rattle.x10_place.specs.StandsFor.{PlaceState, store_of, Far, StandsFor, LeadsAll, Answers, Keeps, IsIdleAt, IsHindered, AreOutside}
use Rattle.x10_place.specs.Receiving.{IsTaken, IsRefusedBytes, stops}
use Rattle.x10_place.specs.Stretches.{Strides, StridesTo, BeginsLast}
use Rattle.x10_world.specs.Budget.{IsWithinBudget}
use Rattle.x10_flights.specs.Flights.{Flight, FlightsState, RisingBy, flight_of, posted_to, taken_from}
use Rattle.x10_world.specs.Links.{AreAnswered}
use Rattle.x10_world.specs.Prompt.{MayEnd, WorksIn, IsPrompt}

-- what callers see of a world: the module with the bounds of its functions, the places, the frames in flight, and whether
-- it has stopped
pub record WorldState : Type 0 where
  pub program : Module
  pub bounds : List ℕ
  pub places : List PlaceState
  pub flights : FlightsState
  pub stopped : Bool

-- a place of the world: of its module, with its own number, one of so many
pub record BelongsTo (program : Module) (bounds : List ℕ) (count id : ℕ)
    (p : PlaceState) : Type 0 where
  pub program_is : p.program ≡ program
  pub bounds_are : p.bounds ≡ bounds
  pub id_is : p.id ≡ id
  pub places_are : p.places ≡ count

abbrev pub BelongTo : Module → List ℕ → ℕ → List PlaceState → Type 0
BelongTo program bounds count places = (id : ℕ) (p : PlaceState) → slice_get places id ≡ Some p
    → BelongsTo program bounds count id p

-- no place has stopped
abbrev pub NoneStopped : List PlaceState → Type 0
NoneStopped places = (id : ℕ) (p : PlaceState) → slice_get places id ≡ Some p → p.stopped ≢ true

-- what does not change in a run
abbrev pub setting_in : Module → List PlaceState → Setting
setting_in program places = record { program = program; places = length places }

abbrev pub setting_of_world : WorldState → Setting
setting_of_world x = setting_in x.program x.places

-- what an event does not change
pub record KeepsSetting (x y : WorldState) : Type 0 where
  pub program : y.program ≡ x.program
  pub bounds : y.bounds ≡ x.bounds
  pub count : length y.places ≡ length x.places

-- ---- counts

-- what a place has counted of a finish, and what it keeps of reports for one of its own; nothing where there is no place
abbrev pub totals_at : Option PlaceState → Finish → Totals
totals_at None f = nothing
totals_at (Some p) f = totals_of p.ledger f

abbrev pub kept_at : Option PlaceState → ℕ → Cut
kept_at None number = λ p. zeros
kept_at (Some p) number = kept_in (books_of p.books number)

-- what places have counted, and the homes of finishes keep, with the reports that are in flight
abbrev pub counts_in : List PlaceState → (Finish → ℕ → Option Told) → WorldCounts
counts_in places told = record {
  totals = λ p f. totals_at (slice_get places p) f;
  kept = λ f. kept_at (slice_get places f.home) f.number;
  told = told;
}

-- ---- references to objects elsewhere

abbrev pub is_export : Option machine.Export → ℕ → Bool
is_export None class = false
is_export (Some e) class = e.class == class

abbrev pub exported_at : Option machine.Place → ℕ → ℕ → Bool
exported_at None id class = false
exported_at (Some m) id class = is_export (slice_get m.exports id) class

-- Which home, number and class name an object in a world. A place can't see which exports other places have, so what it
-- keeps true holds whatever they are; the world sees all places.
abbrev pub far_in : World → Far
far_in w home id class = exported_at (w.net.places home) id class

-- ---- what flies

-- The frame in flight with a number carries the message with that number, of which each global reference names an object.
pub record FliesAsMessage (program : Module) (places : ℕ) (w : World)
    (told : Finish → ℕ → Option Told) (number : ℕ) (flight : Flight) : Type 0 where
  pub message : Message
  pub flying : w.net.posts number ≡ Flying message
  pub to_is : flight.to ≡ receiver message
  pub carries : Carries program places flight.bytes message
  pub named : OfReferences (λ home id class. IsTrue (far_in w home id class)) (graph_of message)
  pub untold : (f : Finish) → told f number ≡ None

-- It carries a report for its receiver, and no message has the number.
pub record FliesAsReport (places : ℕ) (w : World) (told : Finish → ℕ → Option Told) (number : ℕ)
    (flight : Flight) : Type 0 where
  pub report : Report
  pub unused : w.net.posts number ≡ Unused
  pub carries : CarriesReport places flight.bytes flight.to report
  pub told_is : told (record { home = flight.to; number = report.number }) number
      ≡ Some (record { place = report.place; entry = reported report })
  pub others : (f : Finish) → same_finish f (record { home = flight.to; number = report.number })
      ≡ false → told f number ≡ None

-- The frames in flight are the messages of a world that fly, and reports. Numbers that were not given are unused.
pub record Flies (program : Module) (places : ℕ) (flights : FlightsState) (w : World)
    (told : Finish → ℕ → Option Told) : Type 0 where
  pub rising : RisingBy (λ f. f.number) 0 flights.flying flights.posted
  pub each : (number : ℕ) (flight : Flight) → flight_of flights number ≡ Some flight
      → FliesAsMessage program places w told number flight
      ⊎ FliesAsReport places w told number flight
  pub none : (number : ℕ) → flight_of flights number ≡ None
      → ((message : Message) → w.net.posts number ≡ Flying message → ⊥)
      × ((f : Finish) → told f number ≡ None)
  pub unused : (number : ℕ) → flights.posted ≤ number → w.net.posts number ≡ Unused

-- the frames in flight once more are posted
abbrev pub with_posted : FlightsState → Option Outgoing → FlightsState
with_posted s None = s
with_posted s (Some o) = posted_to s o.to o.bytes.items

-- the message first
abbrev pub with_sent : FlightsState → Sent → FlightsState
with_sent s out = with_posted (with_posted s out.message) out.report

abbrev pub after_step : FlightsState → Stepped → FlightsState
after_step s stepped.Idle = s
after_step s (stepped.Moved out) = with_sent s out

-- ---- what is stood for

-- Places of a module with these bounds, and frames in flight, stand for a world: each place for the machine's with its
-- number, and there are no others. What they have counted tells of the world; each message in flight fits the place that it
-- goes to; each activity is within its budget.
pub record AllStandFor (program : Module) (bounds : List ℕ) (places : List PlaceState)
    (flights : FlightsState) (w : World) : Type 0 where
  pub some : (id : ℕ) (p : PlaceState) → slice_get places id ≡ Some p
      → (m : machine.Place) × (w.net.places id ≡ Some m) × StandsFor (far_in w) p m
  pub none : (id : ℕ) → slice_get places id ≡ None → w.net.places id ≡ None
  pub told : Finish → ℕ → Option Told
  pub watched : IsWatched (length places) w (counts_in places told)
  pub answered : AreAnswered (setting_in program places) w.net
  pub budget : IsWithinBudget program bounds w
  pub flies : Flies program (length places) flights w told

abbrev pub StandsForWorld : WorldState → World → Type 0
StandsForWorld x w = AllStandFor x.program x.bounds x.places x.flights w

-- a world as its parts are seen
abbrev pub world_of : Certified → List PlaceState → FlightsState → Bool → WorldState
world_of c places flights stopped = record {
  program = c.program;
  bounds = c.bounds;
  places = places;
  flights = flights;
  stopped = stopped;
}

-- At most 64 places of one module, of which none has stopped unless the world has, and frames for them. They stand for some
-- world of the machine.
pub record IsWorld (program : Module) (bounds : List ℕ) (places : List PlaceState)
    (flights : FlightsState) (stopped : Bool) : Type 0 where
  pub belong : BelongTo program bounds (length places) places
  pub places_are : flights.places ≡ length places
  pub none_stopped : stopped ≢ true → NoneStopped places
  pub few : length places ≤ 64
  pub world : World
  pub stands : AllStandFor program bounds places flights world

-- ---- laws of lists of places and frames in flight, whoever holds them

-- A step of one place that leads each place of the machine on leads each world on for which all stand.
abbrev pub StepLeads : Type 0
StepLeads = (program : Module) (bounds : List ℕ) (places : List PlaceState) (flights : FlightsState)
    (w : World) (here key : ℕ) (p q : PlaceState)
    (answer : Stepped) → bounds_of program ≡ Ok bounds
    → BelongTo program bounds (length places) places
    → AllStandFor program bounds places flights w → slice_get places here ≡ Some p
    → LeadsAll p key answer q
    → (v : World) × (s : Steps Ideal (setting_in program places) w here key v)
    × Answers (far_in w) p answer s.effect
    × AllStandFor program bounds (slice_set places here q) (after_step flights answer) v

-- A frame in flight that its receiver takes in is a delivery of the world's message, or a report, which changes no world.
abbrev pub DeliveryLeads : Type 0
DeliveryLeads = (program : Module) (bounds : List ℕ) (places : List PlaceState)
    (flights : FlightsState) (w : World) (number : ℕ) (flight : Flight)
    (p q : PlaceState) → bounds_of program ≡ Ok bounds
    → BelongTo program bounds (length places) places
    → AllStandFor program bounds places flights w → flight_of flights number ≡ Some flight
    → slice_get places flight.to ≡ Some p → IsTaken p flight.bytes q
    → (v : World) × (h : Happens Ideal (setting_in program places) w (Deliver number) v)
    × IsPrompt Ideal (setting_in program places) w (Deliver number) v h
    × AllStandFor program bounds (slice_set places flight.to q) (taken_from flights number) v

-- the limits that a delivery may pass: objects, texts, rails, activities under one finish, and keys
abbrev pub IsDeliveryLimit : Limit → Type 0
IsDeliveryLimit limit = (limit ≡ limits.Objects) ⊎ (limit ≡ limits.Texts) ⊎ (limit ≡ limits.Rails)
    ⊎ (limit ≡ limits.Activities) ⊎ (limit ≡ limits.Keys)

-- memory is refused, or a limit would be passed
abbrev pub IsWantOfRoom : Refusal → Type 0
IsWantOfRoom why = (why ≡ refusal.Memory)
    ⊎ ((limit : Limit) × (why ≡ refusal.Limit limit) × IsDeliveryLimit limit)

-- A frame in flight is refused only where memory is refused, or at a limit.
abbrev pub NoneIsRefused : Type 0
NoneIsRefused = (program : Module) (bounds : List ℕ) (places : List PlaceState)
    (flights : FlightsState) (w : World) (number : ℕ) (flight : Flight)
    (p : PlaceState) (why : Refusal) → BelongTo program bounds (length places) places
    → AllStandFor program bounds places flights w → flight_of flights number ≡ Some flight
    → slice_get places flight.to ≡ Some p
    → IsRefusedBytes p flight.bytes why → IsWantOfRoom why

-- Where they stand for a world in which a finish may end, no frame flies, and its owner works in it, its home lets it end.
abbrev pub EndedIsDoneHere : Type 0
EndedIsDoneHere = (program : Module) (bounds : List ℕ) (places : List PlaceState)
    (flights : FlightsState) (w : World) (here key number : ℕ) (p : PlaceState)
    → BelongTo program bounds (length places) places → AllStandFor program bounds places flights w
    → flights.flying ≡ [] → slice_get places here ≡ Some p → WorksIn w here key number
    → MayEnd w (finish_at here number) → IsDoneHere (store_of p) number

-- ---- a step of one place

-- What a step of a place does that was made: nothing where it finds nothing to do, else a move of each place of the machine
-- that it stands for, which at the end of a finish may be a wait.
pub record IsMadeStep (p q : PlaceState) (key : ℕ) (answer : Stepped) : Type 0 where
  pub idle : IsIdleAt p key → (answer ≡ stepped.Idle) × (q ≡ p)
  pub only : answer ≡ stepped.Idle → IsIdleAt p key
  pub some : (a : StayState) → get p.stays key ≡ Some a → a.away ≡ false → AreOutside p.stays key
      → LeadsAll p key answer q
  pub goes : q.stopped ≢ true

-- What a step of a place does. Where it was refused, what it stands for is as it was.
pub record IsStepped (p q : PlaceState) (key : ℕ) (result : Result Stepped Stop) : Type 0 where
  pub kept : Keeps p q
  pub made : IfOk result (IsMadeStep p q key)
  pub hindered : p.stopped ≢ true → IfErr result (IsHindered p key)
  pub stop : IfErr result (λ why. q ≡ record p { stopped = true })

-- what a step of one place of a list does
pub record StepsOne (old new : List PlaceState) (id key : ℕ)
    (result : Result Stepped Stop) : Type 0 where
  pub gone : slice_get old id ≡ None → (result ≡ Ok stepped.Idle) × (new ≡ old)
  pub there : (p : PlaceState) → slice_get old id ≡ Some p
      → (q : PlaceState) × (new ≡ slice_set old id q) × IsStepped p q key result

-- What up to so many steps of one activity of a place do: n of them, of which each moves and only the last one puts
-- something out; and no more only where a step now would find nothing to do, where the last one began an activity or put
-- something out, or where one was refused.
pub record IsRunOn (p q : PlaceState) (key most n : ℕ) (result : Result Sent Stop) : Type 0 where
  pub kept : Keeps p q
  pub ran : MatchResult result (λ out. StridesTo key p n out q)
      (λ s. (r : PlaceState) × Strides key p n r × (q ≡ record r { stopped = true })
      × (p.stopped ≢ true → IsHindered r key s))
  pub few : n ≤ most
  pub all : IfOk result (λ out. n < most → IsIdleAt q key
      ⊎ (BeginsLast key p n q ⊎ (out ≡ no_sent → ⊥)))
  pub goes : IfOk result (λ out. q.stopped ≢ true)

-- what they do to one place of a list
pub record RunsOne (old new : List PlaceState) (id key most n : ℕ)
    (result : Result Sent Stop) : Type 0 where
  pub gone : slice_get old id ≡ None → (n ≡ 0) × (result ≡ Ok no_sent) × (new ≡ old)
  pub there : (p : PlaceState) → slice_get old id ≡ Some p
      → (q : PlaceState) × (new ≡ slice_set old id q) × IsRunOn p q key most n result

-- ---- a frame at one place

-- what a place does with a frame: it takes it in, or refuses it, and has stopped then or is as it was
pub record IsReceived {T : Type 0} (p q : PlaceState) (bytes : List ℕ)
    (result : Result T Refusal) : Type 0 where
  pub kept : Keeps p q
  pub taken : IfOk result (λ _. IsTaken p bytes q)
  pub goes : IfOk result (λ _. q.stopped ≢ true)
  pub left : IfErr result (λ why. q ≡ record p { stopped = stops why })
  pub refused : p.stopped ≢ true → IfErr result (IsRefusedBytes p bytes)

-- what a place of a list does
abbrev pub ReceivesOne : {T : Type 0} → List PlaceState → List PlaceState → ℕ → List ℕ
    → Result T Refusal → Type 0
ReceivesOne old new id bytes result = (p : PlaceState) × (q : PlaceState)
    × (slice_get old id ≡ Some p) × (new ≡ slice_set old id q) × IsReceived p q bytes result

-- ---- why a world stops

-- there is no room for two frames more: memory was refused, or there would be more than 2^64 - 1
abbrev pub IsRoomless : FlightsState → Stop → Type 0
IsRoomless s why = (why ≡ stop.Memory) ⊎ ((why ≡ stop.Limit limits.Frames)
    × (2 ^ 64 ≤ s.posted + 2))

-- a step of the activity with the key at a place was refused, or room for the frames that it may put out
abbrev pub IsHinderedStep : WorldState → (id key : ℕ) → Stop → Type 0
IsHinderedStep x id key why = IsRoomless x.flights why
    ⊎ ((p : PlaceState) × (slice_get x.places id ≡ Some p) × IsHindered p key why)

-- why a world stops where a frame in flight was refused
abbrev pub stop_for_refusal : Refusal → Stop
stop_for_refusal (refusal.Limit limit) = stop.Limit limit
stop_for_refusal _ = stop.Memory

-- a frame in flight was refused by the place that it goes to, for memory or at a limit, and this is why the world stops
pub record IsHinderedDelivery (x : WorldState) (number : ℕ) (why : Stop) : Type 0 where
  pub flight : Flight
  pub flying : flight_of x.flights number ≡ Some flight
  pub place : PlaceState
  pub is_there : slice_get x.places flight.to ≡ Some place
  pub refused_as : Refusal
  pub refused : IsRefusedBytes place flight.bytes refused_as
  pub for_room : IsWantOfRoom refused_as
  pub why_is : why ≡ stop_for_refusal refused_as

-- why an event is refused, after which the world has stopped
abbrev pub IsHinderedAt : WorldState → Event → Stop → Type 0
IsHinderedAt x (Step id key) why = IsHinderedStep x id key why
IsHinderedAt x (Deliver number) why = IsHinderedDelivery x number why

-- why a run ends before its events do: memory was refused, or there can be no more of what a limit counts
abbrev pub IsStepStop : Stop → Type 0
IsStepStop why = (why ≡ stop.Memory) ⊎ ((limit : Limit) × (why ≡ stop.Limit limit))

-- ---- one event

-- An event of the machine, to a world that the new state stands for. Where no frame flies, a step waits at the end of a
-- finish only where the finish may not end.
abbrev pub MakesEvent : WorldState → World → Event → WorldState → Type 0
MakesEvent x w event y = (v : World) × (h : Happens Ideal (setting_of_world x) w event v)
    × (x.flights.flying ≡ [] → IsPrompt Ideal (setting_of_world x) w event v h)
    × StandsForWorld y v

-- a Step of the key at the place would find nothing to do
abbrev pub IsIdleNow : WorldState → ℕ → ℕ → Type 0
IsIdleNow x place key = (p : PlaceState) → slice_get x.places place ≡ Some p → IsIdleAt p key

-- each frame that is put out goes to one of so many places
abbrev pub IsSentBelow : ℕ → Option Outgoing → Type 0
IsSentBelow count frame = (o : Outgoing) → frame ≡ Some o → o.to < count

pub record GoesBelow (count : ℕ) (out : Sent) : Type 0 where
  pub message : IsSentBelow count out.message
  pub report : IsSentBelow count out.report

-- the last of so many Steps of the key at the place began an activity
pub record BeganLast (x : WorldState) (place key n : ℕ) (y : WorldState) : Type 0 where
  pub old : PlaceState
  pub new : PlaceState
  pub old_is : slice_get x.places place ≡ Some old
  pub new_is : slice_get y.places place ≡ Some new
  pub begins : BeginsLast key old n new
