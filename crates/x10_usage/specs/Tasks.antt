-- Which tasks there are.
use Rattle.std.specs.List.{ends_with}
use Rattle.std.specs.Prelude.{◌≡◌, ◌≢◌, ◌≤◌, ℕ, ◌==◌, Bool, true, false, List, Option, Some, None, Err, Ok, IfSome, is_some, option_map, unwrap_or, if◌then◌else◌, codes}
use Rattle.std.specs.Str.{bytes_eq}
use Rattle.std.specs.Str.Parse.{ParsesUnsigned}
use Rattle.std.specs.declared.num.ParseIntError.{ParseIntError}
use Rattle.clap.specs.Matches.{first_value, one_text, subcommand_name_of}
use Rattle.clap.specs.Simple.{subcommand_rows_of}
use Rattle.clap.specs.Walk.{rows_of}
use Rattle.clap.specs.declared.parser.matches.ArgMatches.{ArgMatches}
use Rattle.clap.specs.declared.parser.matches.Found.{Found}
use Rattle.x10_model.specs.declared.limits.TheConstants.{MOST_PLACES}
use Rattle.x10_task.specs.declared.task.Color.{Color}
use Rattle.x10_task.specs.declared.task.Color.TheVariants as color
use Rattle.x10_task.specs.declared.task.Schedule.{Schedule}
use Rattle.x10_task.specs.declared.task.Schedule.TheVariants as order
use Rattle.x10_task.specs.declared.task.Task.{Task}
use Rattle.x10_task.specs.declared.task.Verb.{Verb}
use Rattle.x10_task.specs.declared.task.Verb.TheVariants as verb
use Rattle.x10_task.specs.declared.task.Window.{Window}

abbrev pub IsOneTo : ℕ → ℕ → Type 0
IsOneTo most n = (1 ≤ n) × (n ≤ most)

-- a number of an event that isn't before another one
abbrev pub IsUpTo : ℕ → ℕ → Type 0
IsUpTo from to = (from ≤ to) × (to ≤ 1000000000)

-- the commands that write a file
abbrev pub has_output : Verb → Bool
has_output verb.Asm = true
has_output verb.Draw = true
has_output verb.DrawPage = true
has_output _ = false

-- the commands that run a module
abbrev pub is_run : Verb → Bool
is_run verb.Run = true
is_run verb.Runs = true
is_run verb.Trace = true
is_run verb.TraceVerbose = true
is_run verb.Draw = true
is_run verb.DrawPage = true
is_run _ = false

-- the commands that show the events of a run
abbrev pub is_shown : Verb → Bool
is_shown verb.Trace = true
is_shown verb.TraceVerbose = true
is_shown verb.Draw = true
is_shown verb.DrawPage = true
is_shown _ = false

-- the commands that may have a number of places
abbrev pub has_places : Verb → Bool
has_places verb.Run = true
has_places verb.Runs = true
has_places verb.Trace = true
has_places verb.TraceVerbose = true
has_places verb.Draw = true
has_places verb.DrawPage = true
has_places verb.Frame = true
has_places _ = false

-- the commands that can print JSON
abbrev pub has_json : Verb → Bool
has_json verb.List = true
has_json verb.Check = true
has_json verb.Run = true
has_json verb.Audit = true
has_json _ = false

-- whether each activity is told: by a word that `list` and `trace` have too
abbrev pub tells_activities : Verb → (is_verbose : Bool) → Bool
tells_activities verb.Run is_verbose = is_verbose
tells_activities _ is_verbose = false

-- the commands that may have a log, with threads or without
abbrev pub may_have_log : Verb → Bool → Bool
may_have_log verb.Run threads = threads
may_have_log verb.Audit threads = true
may_have_log verb.Trace threads = true
may_have_log verb.TraceVerbose threads = true
may_have_log verb.Draw threads = true
may_have_log verb.DrawPage threads = true
may_have_log _ threads = false

-- A task has what its command takes: a file to write, a log, a number of places, threads, a schedule, a number of seeds, which
-- events are shown; the numbers are in their ranges. A log that is read says itself how many places there are, and which events, in which order. Of a
-- frame it is always said how many there are.
pub record IsTask (t : Task) : Type 0 where
  pub output : is_some t.output ≡ has_output t.verb
  pub places : IfSome t.places (IsOneTo MOST_PLACES)
  pub limit : IsOneTo 1000000000 t.limit
  pub seeds : IsOneTo 1000000 t.seeds
  pub runs : t.verb ≢ verb.Runs → t.seeds ≡ 100
  pub seeded : t.verb ≡ verb.Runs → t.schedule ≡ order.Rounds
  pub run : is_run t.verb ≡ false → t.limit ≡ 1000000
  pub from : IsOneTo 1000000000 t.window.from
  pub to : IfSome t.window.to (IsUpTo t.window.from)
  pub shown : is_shown t.verb ≡ false → t.window ≡ record { from = 1; to = None }
  pub placed : has_places t.verb ≡ false → t.places ≡ None
  pub frame : t.verb ≡ verb.Frame → is_some t.places ≡ true
  pub threads : t.threads ≡ true → t.verb ≡ verb.Run
  pub schedule : t.schedule ≢ order.Rounds → (is_run t.verb ≡ true) × (t.threads ≡ false)
  pub seed : is_some t.seed ≡ true → t.schedule ≡ order.Random
  pub json : t.json ≡ true → has_json t.verb ≡ true
  pub stats : t.stats ≡ true → (t.verb ≡ verb.Run) × (t.threads ≡ false)
  pub activities : t.activities ≡ true → t.stats ≡ true
  pub log : is_some t.log ≡ true → may_have_log t.verb t.threads ≡ true
  pub audit : t.verb ≡ verb.Audit → is_some t.log ≡ true
  pub logged : is_some t.log ≡ true → t.verb ≢ verb.Run
      → (t.places ≡ None) × (t.limit ≡ 1000000) × (t.schedule ≡ order.Rounds)

-- ---- how a task is read

-- whether the file to write is a page: by the end of its name, ".html"
abbrev pub is_page : Option (List ℕ) → Bool
is_page None = false
is_page (Some name) = ends_with (λ x y. x == y) name (codes ".html")

-- the command of a name; `list`, `trace` and `draw` have two
abbrev pub verb_named : List ℕ → (is_verbose is_page : Bool) → Verb
verb_named name is_verbose is_page =
    if bytes_eq name (codes "asm") then verb.Asm
    else (if bytes_eq name (codes "list") then (if is_verbose then verb.ListVerbose else verb.List)
    else (if bytes_eq name (codes "check") then verb.Check
    else (if bytes_eq name (codes "verify") then verb.Verify
    else (if bytes_eq name (codes "bounds") then verb.Bounds
    else (if bytes_eq name (codes "runs") then verb.Runs
    else (if bytes_eq name (codes "audit") then verb.Audit
    else (if bytes_eq name (codes "trace")
    then (if is_verbose then verb.TraceVerbose else verb.Trace)
    else (if bytes_eq name (codes "draw") then (if is_page then verb.DrawPage else verb.Draw)
    else (if bytes_eq name (codes "frame") then verb.Frame
    else (if bytes_eq name (codes "explain") then verb.Explain
    else verb.Run))))))))))

-- the schedule of a name; where there is none, rounds, or a random one where there is a seed
abbrev pub schedule_named : Option (List ℕ) → Bool → Schedule
schedule_named None has_seed = if has_seed then order.Random else order.Rounds
schedule_named (Some name) has_seed =
    if bytes_eq name (codes "random") then order.Random
    else (if bytes_eq name (codes "oldest") then order.Oldest
    else (if bytes_eq name (codes "newest") then order.Newest
    else order.Rounds))

-- whether more is said about a fault: by the word that asks for it, or as it is without one
abbrev pub explained_by : Option (List ℕ) → Bool → Bool
explained_by None otherwise = otherwise
explained_by (Some word) otherwise = if bytes_eq word (codes "no") then false else true

-- the colors of a name; where there is none, as the terminal says
abbrev pub color_named : Option (List ℕ) → Color
color_named None = color.Auto
color_named (Some name) =
    if bytes_eq name (codes "always") then color.Always
    else (if bytes_eq name (codes "never") then color.Never
    else color.Auto)

-- the number of so many bits that a text spells, if there is a text and it spells one
abbrev pub IsNumberIn : ℕ → Option (List ℕ) → Option ℕ → Type 0
IsNumberIn bits None answer = answer ≡ None
IsNumberIn bits (Some text) None = (e : ParseIntError) × ParsesUnsigned bits 10 text (Err e)
IsNumberIn bits (Some text) (Some n) = ParsesUnsigned {E = ParseIntError} bits 10 text (Ok n)

-- whether an option is there, by the text that was found for it
pub record IsFlagIn (text : Option (List ℕ)) (is_there : Bool) : Type 0 where
  pub none : text ≡ None → is_there ≡ false
  pub yes : text ≡ Some (codes "true") → is_there ≡ true
  pub no : text ≡ Some (codes "false") → is_there ≡ false

-- which events are shown, by what was found in the words
pub record IsWindowFound (found : Found) (w : Window) : Type 0 where
  pub asked : Option ℕ
  pub is_asked : IsNumberIn 64 (one_text found (codes "from")) asked
  pub from_is : w.from ≡ unwrap_or asked 1
  pub to_is : IsNumberIn 64 (one_text found (codes "to")) w.to

-- a task is what was found in the words: its command, the names of its files, its numbers and its options. What was found are
-- the rows of the command that the parse met. Where the words don't say whether faults are explained, the first argument does
pub record IsReadFrom (explain : Bool) (m : ArgMatches) (t : Task) : Type 0 where
  pub name : List ℕ
  pub is_verbose : Bool
  pub found : Found
  pub name_is : subcommand_name_of m ≡ Some name
  pub rows_are : option_map (λ p. p.1) (subcommand_rows_of m) ≡ Some (rows_of found)
  pub verbose_is : IsFlagIn (one_text found (codes "verbose")) is_verbose
  pub verb_is : t.verb ≡ verb_named name is_verbose
      (is_page (first_value found (codes "OUTPUT")))
  pub input_is : first_value found (codes "INPUT") ≡ Some t.input.now
  pub output_is : option_map (λ s. s.now) t.output ≡ first_value found (codes "OUTPUT")
  pub log_is : option_map (λ s. s.now) t.log ≡ first_value found (codes "LOG")
  pub places_is : IsNumberIn 16 (one_text found (codes "places")) t.places
  pub asked : Option ℕ
  pub is_asked : IsNumberIn 64 (one_text found (codes "limit")) asked
  pub limit_is : t.limit ≡ unwrap_or asked 1000000
  pub schedule_is : t.schedule ≡ schedule_named (first_value found (codes "schedule"))
      (is_some t.seed)
  pub seed_is : IsNumberIn 64 (one_text found (codes "seed")) t.seed
  pub asked_seeds : Option ℕ
  pub are_asked : IsNumberIn 64 (one_text found (codes "seeds")) asked_seeds
  pub seeds_is : t.seeds ≡ unwrap_or asked_seeds 100
  pub window_is : IsWindowFound found t.window
  pub threads_is : IsFlagIn (one_text found (codes "threads")) t.threads
  pub json_is : IsFlagIn (one_text found (codes "json")) t.json
  pub stats_is : IsFlagIn (one_text found (codes "stats")) t.stats
  pub activities_is : t.activities ≡ tells_activities t.verb is_verbose
  pub explain_is : t.explain ≡ explained_by (first_value found (codes "explain")) explain
  pub color_is : t.color ≡ color_named (first_value found (codes "color"))
