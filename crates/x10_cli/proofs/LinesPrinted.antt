-- What is printed line after line.
use Rattle.std.proofs.Common.{◌≡◌, ℕ, zero, suc, ◌+◌, ◌<◌, List, [], ◌∷◌, ◌++◌, Bool, length, get_or, map, Option, Some, None, sym, ap, subst, ◌∙◌, arith, append_assoc}
use Rattle.std.specs.Prelude.{slice_get, take, Vec}
use Rattle.std.specs.Global.{Global}
use Rattle.std.proofs.lemmas.List.{append-nil}
use Rattle.std.specs.Io.KnownBytes.{Appends, Keeps}
use Rattle.std.proofs.KnownBytes.{Appends-nil, Appends-trans, Appends-kept}
use Rattle.std.proofs.lemmas.Option.{same_Some}
use Rattle.x10_model.specs.declared.event.Event.{Event}
use Rattle.x10_model.specs.Places as machine
use Rattle.x10_model.specs.Worlds.{World, Ideal, Run, WithinBounds, opening}
use Rattle.x10_verify.specs.Certified.{Certified}
use Rattle.x10_place.specs.declared.line.Line.{Line}
use Rattle.x10_place.specs.StandsFor.{PlaceState, line_as}
use Rattle.x10_world.specs.Endings.{lines_at, lines_in}
use Rattle.x10_world.specs.Opening.{IsOpenedWorld}
use Rattle.x10_world.specs.Rounds.{NoneIsLeft, RunsTo}
use Rattle.x10_world.specs.StandsForWorld.{WorldState, setting_of_world, StandsForWorld}
use Rattle.x10_world.proofs.EndingLemmas.{map_length, lines_are}
use Rattle.x10_task.specs.declared.task.Verb.{Verb}
use Rattle.x10_task.specs.declared.task.Verb.TheVariants as verb
use Rattle.x10_task.specs.declared.task.Window.{Window}
use Rattle.x10_cli.specs.Answers.{HasBegun, HasRun, Prints, PrintsShown, ShowsAsked}
use Rattle.x10_cli.specs.Events.{HasShown}
use Rattle.x10_cli.specs.Lines.{line_in, place_lines, all_lines, bound_line, bound_lines}
use Rattle.x10_cli.proofs.UndoneLemmas.{window_kept}

-- one item more of a list
lines_more : (json : Bool) (place n : ℕ) (lines : List Line) (line : Line) → slice_get lines n ≡ Some line
    → place_lines json place (map line_as (take (suc n) lines))
    ≡ place_lines json place (map line_as (take n lines)) ++ line_in json place (line_as line)
lines_more json place n [] line e = absurd cc
lines_more json place zero (l ∷ ls) line e = ap (λ x. line_in json place (line_as x) ++ []) (same_Some l line e)
    ∙ append-nil (line_in json place (line_as line))
lines_more json place (suc n) (l ∷ ls) line e = ap (λ bs. line_in json place (line_as l) ++ bs) (lines_more json place n ls line e)
    ∙ sym (append_assoc (line_in json place (line_as l)) (place_lines json place (map line_as (take n ls))) (line_in json place (line_as line)))

outputs_more : (json : Bool) (from n : ℕ) (outputs : List (List machine.Line)) (lines : List machine.Line) → slice_get outputs n ≡ Some lines
    → all_lines json from (take (suc n) outputs) ≡ all_lines json from (take n outputs) ++ place_lines json (from + n) lines
outputs_more json from n [] lines e = absurd cc
outputs_more json from zero (l ∷ ls) lines e = append-nil (place_lines json from l) ∙ ap (λ x. place_lines json from x) (same_Some l lines e)
    ∙ ap (λ k. place_lines json k lines) (omega arith)
outputs_more json from (suc n) (l ∷ ls) lines e =
    ap (λ bs. place_lines json from l ++ bs) (outputs_more json (from + 1) n ls lines e)
    ∙ sym (append_assoc (place_lines json from l) (all_lines json (from + 1) (take n ls)) (place_lines json (from + 1 + n) lines))
    ∙ ap (λ k. (place_lines json from l ++ all_lines json (from + 1) (take n ls)) ++ place_lines json k lines) (omega arith)

bounds_more : (from n : ℕ) (bounds : List ℕ) (bound : ℕ) → slice_get bounds n ≡ Some bound
    → bound_lines from (take (suc n) bounds) ≡ bound_lines from (take n bounds) ++ bound_line (from + n) bound
bounds_more from n [] bound e = absurd cc
bounds_more from zero (b ∷ bs) bound e = append-nil (bound_line from b) ∙ ap (λ x. bound_line from x) (same_Some b bound e)
    ∙ ap (λ k. bound_line k bound) (omega arith)
bounds_more from (suc n) (b ∷ bs) bound e =
    ap (λ xs. bound_line from b ++ xs) (bounds_more (from + 1) n bs bound e)
    ∙ sym (append_assoc (bound_line from b) (bound_lines (from + 1) (take n bs)) (bound_line (from + 1 + n) bound))
    ∙ ap (λ k. (bound_line from b ++ bound_lines (from + 1) (take n bs)) ++ bound_line k bound) (omega arith)

-- ---- as they are written

pub line_more : (json : Bool) (a b c : Option (List ℕ)) (place n m : ℕ) (lines : List Line) (line : Line) → m ≡ suc n → slice_get lines n ≡ Some line
    → Appends a b (place_lines json place (map line_as (take n lines))) → Appends b c (line_in json place (line_as line))
    → Appends a c (place_lines json place (map line_as (take m lines)))
line_more json a b c place n m lines line e is before one = subst (λ k. Appends a c (place_lines json place (map line_as (take k lines)))) (sym e)
    (subst (λ bs. Appends a c bs) (sym (lines_more json place n lines line is)) (Appends-trans a b c _ _ before one))

pub bound_more : (a b c : Option (List ℕ)) (n m : ℕ) (bounds : List ℕ) (bound : ℕ) → m ≡ suc n → slice_get bounds n ≡ Some bound
    → Appends a b (bound_lines 0 (take n bounds)) → Appends b c (bound_line n bound) → Appends a c (bound_lines 0 (take m bounds))
bound_more a b c n m bounds bound e is before one =
    let at : 0 + n ≡ n = omega arith in
    subst (λ k. Appends a c (bound_lines 0 (take k bounds))) (sym e)
    (subst (λ bs. Appends a c bs) (sym (bounds_more 0 n bounds bound is ∙ ap (λ k. bound_lines 0 (take n bounds) ++ bound_line k bound) at))
    (Appends-trans a b c _ _ before one))

lines_there : (places : List PlaceState) (n : ℕ) (p : PlaceState) → slice_get places n ≡ Some p
    → slice_get (lines_at places) n ≡ Some (map line_as p.lines)
lines_there [] n p e = absurd cc
lines_there (q ∷ qs) zero p e = ap (λ (x : PlaceState). Some (map line_as x.lines)) (same_Some q p e)
lines_there (q ∷ qs) (suc n) p e = lines_there qs n p e

-- the lines of one place more
outputs_on : (json : Bool) (a b c : Option (List ℕ)) (n m : ℕ) (outputs : List (List machine.Line)) (lines : List machine.Line) → m ≡ suc n
    → slice_get outputs n ≡ Some lines → Appends a b (all_lines json 0 (take n outputs)) → Appends b c (place_lines json n lines)
    → Appends a c (all_lines json 0 (take m outputs))
outputs_on json a b c n m outputs lines e is before one =
    let at : 0 + n ≡ n = omega arith in
    let more = outputs_more json 0 n outputs lines is ∙ ap (λ k. all_lines json 0 (take n outputs) ++ place_lines json k lines) at in
    subst (λ k. Appends a c (all_lines json 0 (take k outputs))) (sym e)
    (subst (λ bs. Appends a c bs) (sym more) (Appends-trans a b c _ _ before one))

pub output_more : (json : Bool) (a b c : Option (List ℕ)) (n m : ℕ) (places : List PlaceState) (p : PlaceState) (lines : List Line) → m ≡ suc n
    → slice_get places n ≡ Some p → lines ≡ p.lines → Appends a b (all_lines json 0 (take n (lines_at places)))
    → Appends b c (place_lines json n (map line_as lines)) → Appends a c (all_lines json 0 (take m (lines_at places)))
output_more json a b c n m places p lines e is same before one =
    outputs_on json a b c n m (lines_at places) (map line_as p.lines) e (lines_there places n p is) before
    (subst (λ ls. Appends b c (place_lines json n (map line_as ls))) same one)

lines_read : (outputs : List (Vec Line Global)) (n : ℕ) (row : Vec Line Global) → slice_get outputs n ≡ Some row
    → slice_get (lines_in outputs) n ≡ Some (map line_as row.items)
lines_read [] n row e = absurd cc
lines_read (o ∷ os) zero row e = ap (λ (x : Vec Line Global). Some (map line_as x.items)) (same_Some o row e)
lines_read (o ∷ os) (suc n) row e = lines_read os n row e

pub report_more : (json : Bool) (a b c : Option (List ℕ)) (n m : ℕ) (outputs : List (Vec Line Global)) (row : Vec Line Global) (lines : List Line)
    → m ≡ suc n → slice_get outputs n ≡ Some row → lines ≡ row.items → Appends a b (all_lines json 0 (take n (lines_in outputs)))
    → Appends b c (place_lines json n (map line_as lines)) → Appends a c (all_lines json 0 (take m (lines_in outputs)))
report_more json a b c n m outputs row lines e is same before one =
    outputs_on json a b c n m (lines_in outputs) (map line_as row.items) e (lines_read outputs n row is) before
    (subst (λ ls. Appends b c (place_lines json n (map line_as ls))) same one)

pub nothing_printed : (a : Option (List ℕ)) → Appends a a []
nothing_printed a = Appends-nil a

-- ---- a run

-- the lines of a world that rounds led to, where the run has ended
pub has_run : (c : Certified) (count : ℕ) (x y : WorldState) → IsOpenedWorld c count x → RunsTo x y → NoneIsLeft y
    → HasRun c count (lines_at y.places)
has_run c count x y opened to ended = record {
  events = made.0;
  last = made.1;
  run = subst (λ s. Run Ideal s (WithinBounds c.bounds) (opening s 0) made.0 made.1) setting
      (subst (λ bs. Run Ideal (setting_of_world x) (WithinBounds bs) (opening (setting_of_world x) 0) made.0 made.1) opened.bounds made.2);
  over = ended.over made.1 made.3;
  count = map_length (λ (q : PlaceState). map line_as q.lines) y.places ∙ to.kept.count ∙ opened.places.count_is;
  lines = lines_are y made.1 made.3;
}
  where
    made : (events : List Event) × (v : World) × Run Ideal (setting_of_world x) (WithinBounds x.bounds) (opening (setting_of_world x) 0) events v
        × StandsForWorld y v
    made = to.runs (opening (setting_of_world x) 0) opened.stands

    setting : setting_of_world x ≡ record { program = c.program; places = count }
    setting = ap (λ m. record { program = m; places = length x.places }) opened.program
        ∙ ap (λ n. record { program = c.program; places = n }) opened.places.count_is

-- the same, as far as the run went
pub has_begun : (c : Certified) (count : ℕ) (x y : WorldState) → IsOpenedWorld c count x → RunsTo x y → HasBegun c count (lines_at y.places)
has_begun c count x y opened to = record {
  events = made.0;
  last = made.1;
  run = subst (λ s. Run Ideal s (WithinBounds c.bounds) (opening s 0) made.0 made.1) setting
      (subst (λ bs. Run Ideal (setting_of_world x) (WithinBounds bs) (opening (setting_of_world x) 0) made.0 made.1) opened.bounds made.2);
  count = map_length (λ (q : PlaceState). map line_as q.lines) y.places ∙ to.kept.count ∙ opened.places.count_is;
  lines = lines_are y made.1 made.3;
}
  where
    made : (events : List Event) × (v : World) × Run Ideal (setting_of_world x) (WithinBounds x.bounds) (opening (setting_of_world x) 0) events v
        × StandsForWorld y v
    made = to.runs (opening (setting_of_world x) 0) opened.stands

    setting : setting_of_world x ≡ record { program = c.program; places = count }
    setting = ap (λ m. record { program = m; places = length x.places }) opened.program
        ∙ ap (λ n. record { program = c.program; places = n }) opened.places.count_is

-- ---- what was printed stays where nothing more is written

shown_kept : {v : Verb} {w : Window} {c : Certified} {places : ℕ} {a b d : Option (List ℕ)} → Keeps b d → HasShown v w c places a b
    → HasShown v w c places a d
shown_kept k h = record {
  first = h.first;
  last = h.last;
  opened = h.opened;
  shows = record {
    skipped = h.shows.skipped;
    events = h.shows.events;
    ended = h.shows.ended;
    shows = window_kept k h.shows.shows;
    ends = h.shows.ends;
  };
}

all_kept : (v : Verb) (w : Window) (asked : Option ℕ) (bytes : List ℕ) (a b c : Option (List ℕ)) → Keeps b c → PrintsShown v w asked bytes a b
    → PrintsShown v w asked bytes a c
all_kept v w asked bytes a b c k p = (p.0, p.1, shown_kept k p.2)

pub asked_kept : (v : Verb) (w : Window) (asked : Option ℕ) (bytes : List ℕ) (a b c : Option (List ℕ)) → ShowsAsked v w asked bytes a b → Keeps b c
    → ShowsAsked v w asked bytes a c
asked_kept verb.Trace w asked bytes a b c p k = all_kept verb.Trace w asked bytes a b c k p
asked_kept verb.TraceVerbose w asked bytes a b c p k = all_kept verb.TraceVerbose w asked bytes a b c k p
asked_kept verb.Draw w asked bytes a b c p k = all_kept verb.Draw w asked bytes a b c k p
asked_kept verb.DrawPage w asked bytes a b c p k = all_kept verb.DrawPage w asked bytes a b c k p
asked_kept verb.Run w asked bytes a b c p k = tt
asked_kept verb.Runs w asked bytes a b c p k = tt
asked_kept verb.Audit w asked bytes a b c p k = tt
asked_kept verb.Asm w asked bytes a b c p k = tt
asked_kept verb.List w asked bytes a b c p k = tt
asked_kept verb.ListVerbose w asked bytes a b c p k = tt
asked_kept verb.Check w asked bytes a b c p k = tt
asked_kept verb.Verify w asked bytes a b c p k = tt
asked_kept verb.Bounds w asked bytes a b c p k = tt
asked_kept verb.Frame w asked bytes a b c p k = tt
asked_kept verb.Explain w asked bytes a b c p k = tt

pub prints_kept : (v : Verb) (json : Bool) (asked : Option ℕ) (bytes : List ℕ) (a b c : Option (List ℕ)) → Prints v json asked bytes a b → Keeps b c
    → Prints v json asked bytes a c
prints_kept verb.Asm json asked bytes a b c p k = (p.0, p.1, Appends-kept a b c _ p.2 k)
prints_kept verb.List json asked bytes a b c p k = (p.0, p.1, p.2, p.3, Appends-kept a b c _ p.4 k)
prints_kept verb.ListVerbose json asked bytes a b c p k = (p.0, p.1, p.2, p.3, p.4, Appends-kept a b c _ p.5 k)
prints_kept verb.Check json asked bytes a b c p k = (p.0, p.1, Appends-kept a b c _ p.2 k)
prints_kept verb.Verify json asked bytes a b c p k = (p.0, p.1, p.2, p.3, Appends-kept a b c _ p.4 k)
prints_kept verb.Bounds json asked bytes a b c p k = (p.0, p.1, p.2, p.3, Appends-kept a b c _ p.4 k)
prints_kept verb.Runs json asked bytes a b c p k = (p.0, p.1, (p.2.0, p.2.1, p.2.2, p.2.3, Appends-kept a b c _ p.2.4 k))
prints_kept verb.Run json asked bytes a b c p k = (p.0, p.1, p.2, p.3, Appends-kept a b c _ p.4 k)
prints_kept verb.Audit json asked bytes a b c p k = absurd p
prints_kept verb.Frame json asked bytes a b c p k = (p.0, p.1, Appends-kept a b c _ p.2 k)
prints_kept verb.Explain json asked bytes a b c p k = (p.0, Appends-kept a b c _ p.1 k)
prints_kept verb.Trace json asked bytes a b c p k = (p.0, all_kept verb.Trace p.0 asked bytes a b c k p.1)
prints_kept verb.TraceVerbose json asked bytes a b c p k = (p.0, all_kept verb.TraceVerbose p.0 asked bytes a b c k p.1)
prints_kept verb.Draw json asked bytes a b c p k = (p.0, all_kept verb.Draw p.0 asked bytes a b c k p.1)
prints_kept verb.DrawPage json asked bytes a b c p k = (p.0, all_kept verb.DrawPage p.0 asked bytes a b c k p.1)

-- ---- a place that is there

pub no_place : (places : List PlaceState) (n : ℕ) → n < length places → slice_get places n ≡ None → ⊥
no_place [] n lt e = omega (arith, lt)
no_place (p ∷ ps) zero lt e = cc
no_place (p ∷ ps) (suc n) lt e = no_place ps n (omega (arith, lt)) e

-- what was read at an index is there
pub read_there : (xs : List ℕ) (n r : ℕ) → n < length xs → r ≡ get_or xs n r → slice_get xs n ≡ Some r
read_there [] n r lt e = absurd (omega (arith, lt))
read_there (x ∷ xs) zero r lt e = ap Some (sym e)
read_there (x ∷ xs) (suc n) r lt e = read_there xs n r (omega (arith, lt)) e
