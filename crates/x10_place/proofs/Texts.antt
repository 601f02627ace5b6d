-- Which texts a step adds to the heap of its place.
use Rattle.std.proofs.Common.{◌≡◌, ◌≢◌, ℕ, ◌+◌, Bool, true, false, List, [], ◌∷◌, ◌++◌, length, Option, Some, None, refl, sym, ap, subst, ◌∙◌}
use Rattle.std.specs.Prelude.{nat_le}
use Rattle.std.proofs.lemmas.List.{append-nil}
use Rattle.slab.specs.Slab.{get}
use Rattle.x10_code.specs.declared.op.Op.{Op}
use Rattle.x10_code.specs.declared.op.Op.TheVariants as op
use Rattle.x10_code.specs.declared.instr.Instr.{Instr}
use Rattle.x10_model.specs.Modules.{Module}
use Rattle.x10_model.specs.declared.limits.TheConstants.{MOST_BYTES}
use Rattle.x10_model.specs.Results.{rail_length, byte_at}
use Rattle.x10_model.specs.Ranges.{instr_in}
use Rattle.x10_heap.specs.Heaps.{HeapState}
use Rattle.x10_place.specs.declared.route.Local.{Local}
use Rattle.x10_place.specs.declared.route.Local.TheVariants as local
use Rattle.x10_place.specs.declared.route.Make.TheVariants as make
use Rattle.x10_place.specs.declared.route.Route.{Route}
use Rattle.x10_place.specs.declared.route.Route.TheVariants as route
use Rattle.x10_place.specs.declared.route.Site.{Site}
use Rattle.x10_place.specs.declared.route.Site.TheVariants as site
use Rattle.x10_place.specs.declared.outcome.Outcome.TheVariants as outcome
use Rattle.x10_place.specs.Frames.{Workspace, space_of, text_in, IsFetchedFor, Acts, SetsByte, ActsAt, Puts, numbered, int_at}
use Rattle.x10_place.specs.Making.{Joins, MakesRail}
use Rattle.x10_place.specs.Routes.{route_of}
use Rattle.x10_place.specs.Stays.{StayState, StoreState, Location, Steps}
use Rattle.x10_place.specs.StandsFor.{PlaceState, AddsTexts}
use Rattle.x10_place.specs.Texts.{only_if, MakesTexts}
use Rattle.x10_place.proofs.HeapKept.{heap_kept}

abbrev texts : HeapState → List (List ℕ)
texts heap = heap.texts

-- ---- the same texts

local_texts : (l : Local) (program : Module) (w : Workspace) (i : Instr) (v : Workspace) → Acts l program w i v → texts v.heap ≡ texts w.heap
local_texts local.SetField program w i v acts = ap texts acts.becomes.heap_is
local_texts local.SetByte program w i v acts = set (byte_at acts.0 (int_at w.words i.b)) acts.2
  where
    set : (o : Option ℕ) → SetsByte o acts.0 w i v → texts v.heap ≡ texts w.heap
    set None s = ap texts s.heap_is
    set (Some byte) s = ap texts s.heap_is
local_texts l program w i v acts = ap texts (heap_kept l program w i v tt acts)

rail_texts : (o : Option ℕ) (w : Workspace) (i : Instr) (v : Workspace) → MakesRail o w i v → texts v.heap ≡ texts w.heap
rail_texts None w i v m = ap texts m.heap_is
rail_texts (Some count) w i v m = ap texts m.becomes.heap_is

site_texts : (k : Site) (here places : ℕ) (w : Workspace) (i : Instr) (v : Workspace) → ActsAt k here places w i v → texts v.heap ≡ texts w.heap
site_texts site.Here here places w i v a = ap texts a.heap_is
site_texts site.Count here places w i v a = ap texts a.2.heap_is
site_texts site.Next here places w i v a = ap texts a.heap_is
site_texts site.Numbered here places w i v a = put (numbered places (int_at w.words i.b)) a
  where
    put : (o : Option ℕ) → Puts o w i v → texts v.heap ≡ texts w.heap
    put None p = ap texts p.heap_is
    put (Some word) p = ap texts p.heap_is
site_texts site.IsHere here places w i v a = ap texts a.heap_is

-- ---- a step of a stay

module _ (at : Location) (a : StayState) (s : StoreState) (i : Instr) (b : StayState) (t : StoreState) where
  abbrev MakesNone : Route → Type 0
  MakesNone (route.Make make.Text) = ⊥
  MakesNone (route.Make make.JoinedText) = ⊥
  MakesNone _ = Unit {0}

  -- an operation that makes no text
  kept_by : (r : Route) → MakesNone r → Steps r at a s i outcome.Goes b t → texts t.heap ≡ texts s.heap
  kept_by (route.Local l) none steps = local_texts l at.program _ i _ steps.1.changes
  kept_by (route.Make make.Text) none steps = absurd none
  kept_by (route.Make make.JoinedText) none steps = absurd none
  kept_by (route.Make make.Object) none steps = ap texts steps.1.changes.2.becomes.heap_is
  kept_by (route.Make make.Rail) none steps = rail_texts (rail_length (int_at a.top.registers.items i.b)) _ i _ steps.1.changes
  kept_by (route.Site k) none steps = site_texts k at.here at.places _ i _ steps.1.changes
  kept_by route.Export none steps = ap texts steps.1.changes.becomes.heap_is
  kept_by route.Call none steps = ap (λ (q : StoreState). q.heap.texts) steps.2
  kept_by route.Return none steps = ap (λ (q : StoreState). q.heap.texts) steps.1
  kept_by route.Print none steps = ap (λ (q : StoreState). q.heap.texts) steps.1.store
  kept_by (route.Region inside) none steps = ap (λ (q : StoreState). q.heap.texts) steps.2
  kept_by route.OpenFinish none steps = ap texts steps.1.store.heap
  kept_by route.CloseFinish none steps = ap texts steps.store.heap
  kept_by route.Async none steps = absurd (let f = steps.0 in cc)
  kept_by route.At none steps = absurd (let f = steps.0 in cc)
  kept_by route.Ata none steps = absurd (let f = steps.0 in cc)

  -- the texts that it makes are added
  abbrev Added : Op → Type 0
  Added o = (new : List (List ℕ)) × MakesTexts o at.program s.heap a.top.registers.items i new × (t.heap.texts ≡ s.heap.texts ++ new)

  pub goes_added : (o : Op) → Steps (route_of o) at a s i outcome.Goes b t → Added o
  goes_added op.Textk steps = (let m = steps.1.changes in (m.0 ∷ [], (m.0, m.1, refl), ap texts m.2.becomes.heap_is))
  goes_added op.Tcat steps = (let m = steps.1.changes in joined m.0 m.1 m.2 m.3 (nat_le (length m.0 + length m.1) MOST_BYTES) refl m.4)
    where
      joined : (y z : List ℕ) → text_in s.heap a.top.registers.items i.b ≡ Some y → text_in s.heap a.top.registers.items i.c ≡ Some z → (few : Bool)
          → nat_le (length y + length z) MOST_BYTES ≡ few → Joins few (y ++ z) (space_of a.top s.heap) i (space_of b.top t.heap) → Added op.Tcat
      joined y z first second true is m = (
        (y ++ z) ∷ [],
        (y, z, first, second, ap (λ few. only_if few (y ++ z)) (sym is)),
        ap texts m.becomes.heap_is,
      )
      joined y z first second false is m = (
        [],
        (y, z, first, second, ap (λ few. only_if few (y ++ z)) (sym is)),
        ap texts m.heap_is ∙ sym (append-nil s.heap.texts),
      )
  goes_added o steps = ([], refl, kept_by (route_of o) tt steps ∙ sym (append-nil s.heap.texts))

-- ---- a step of the stay under a key

-- an operation that makes no text
pub makes_none : (o : Op) (program : Module) (heap : HeapState) (words : List ℕ) (i : Instr) → o ≢ op.Textk → o ≢ op.Tcat
    → MakesTexts o program heap words i []
makes_none op.Textk program heap words i textk tcat = absurd (textk refl)
makes_none op.Tcat program heap words i textk tcat = absurd (tcat refl)
makes_none o program heap words i textk tcat = refl

module _ (p : PlaceState) (key : ℕ) (a : StayState) (i : Instr) (e : get p.stays key ≡ Some a) (fetched : IsFetchedFor p.program a.top i)
    (q : PlaceState) where
  pub adds : (new : List (List ℕ)) → MakesTexts i.op p.program p.heap a.top.registers.items i new → q.heap.texts ≡ p.heap.texts ++ new
      → AddsTexts p key q
  adds new makes is = record {
    stay = a;
    is_there = e;
    instr = i;
    instr_is = subst (λ o. instr_in o a.top.pc ≡ Some i) (sym fetched.is_function) fetched.is_instr;
    texts = new;
    makes = makes;
    texts_are = is;
  }

  -- by an operation that makes none and leaves the heap as it is
  pub adds_none : i.op ≢ op.Textk → i.op ≢ op.Tcat → q.heap ≡ p.heap → AddsTexts p key q
  adds_none textk tcat same = adds [] (makes_none i.op p.program p.heap a.top.registers.items i textk tcat)
      (ap texts same ∙ sym (append-nil p.heap.texts))
