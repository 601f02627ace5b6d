-- An activity that begins with what a frame brings: what its begin is made of.
use Rattle.std.proofs.Common.{◌≡◌, ℕ, suc, ◌<◌, ◌≤◌, false, List, [], ◌∷◌, length, map, Some, None, refl, sym, ap, subst, ◌∙◌, inl, inr, arith}
use Rattle.std.specs.Prelude.{reverse}
use Rattle.std.proofs.lemmas.List.{length-map}
use Rattle.std.proofs.lemmas.Option.{same_Some}
use Rattle.slab.specs.Slab.{Slab, get, Updates}
use Rattle.x10_image.specs.Parts.{Signature}
use Rattle.x10_heap.specs.Heaps.{HeapState}
use Rattle.x10_model.specs.declared.slot.Slot.{Slot}
use Rattle.x10_model.specs.Maps.{Pairwise}
use Rattle.x10_model.specs.Modules.{Module, Function}
use Rattle.x10_model.specs.Marshalling.{value_of, snapshot_of}
use Rattle.x10_model.specs.Frames.{Graph, Frame}
use Rattle.x10_frame.specs.Heads.{graph_of}
use Rattle.x10_copy.specs.declared.refusal.Refusal.{Refusal}
use Rattle.x10_copy.specs.declared.refusal.Refusal.TheVariants as refusal
use Rattle.x10_copy.specs.Captured.{kinds_of}
use Rattle.x10_copy.specs.Arrived.{word_in, FitsArrival, IsBrought}
use Rattle.x10_copy.specs.Taken.{IsTakenIn}
use Rattle.x10_place.specs.declared.call_frame.CallFrame.{CallFrame}
use Rattle.x10_place.specs.declared.launching.Launch.{Launch}
use Rattle.x10_place.specs.Arrivals.{IsOpenHere, Settles, IsUnsettled, IsEntrance, Launches, FitsLaunch, IsLaunchRefused}
use Rattle.x10_place.specs.Frames.{IsEnteredWith}
use Rattle.x10_place.specs.Stays.{StayState, StoreState, origin_as}

-- ---- lists

pub pairwise_length : {X Y : Type 0} (R : X → Y → Type 0) (xs : List X) (ys : List Y) → Pairwise R xs ys → length xs ≡ length ys
pairwise_length R [] [] h = refl
pairwise_length R [] (y ∷ ys) h = absurd h
pairwise_length R (x ∷ xs) [] h = absurd h
pairwise_length R (x ∷ xs) (y ∷ ys) h = ap suc (pairwise_length R xs ys h.1)

-- as many words come as there are slots
pub roots_count : (m : Module) (here home : ℕ) (h k new : HeapState) (slots : List Slot) (g : Graph) (roots : List ℕ)
    → FitsArrival m here home h slots (snapshot_of g) → IsBrought k g roots new → length roots ≡ length slots
roots_count m here home h k new slots g roots fits brought =
    ap length brought.roots_are ∙ length-map g.roots (word_in k) ∙ sym (length-map g.roots (value_of g.texts))
    ∙ pairwise_length _ (map (value_of g.texts) g.roots) (kinds_of slots) fits.kinds.roots ∙ length-map slots (λ (s : Slot). s.kind)

-- what is taken in beside the same store
pub taken_beside : (q s : StoreState) (new : HeapState) (f : Frame) (roots : List ℕ) → q ≡ s
    → ((m : Module) (here home : ℕ) (slots : List Slot) → FitsArrival m here home q.heap slots (snapshot_of (graph_of f))
    → IsTakenIn m here q.heap slots f roots new)
    → (m : Module) (here home : ℕ) (slots : List Slot) → FitsArrival m here home s.heap slots (snapshot_of (graph_of f))
    → IsTakenIn m here s.heap slots f roots new
taken_beside q s new f roots e h = subst (λ (u : StoreState). (m : Module) (here home : ℕ) (slots : List Slot)
    → FitsArrival m here home u.heap slots (snapshot_of (graph_of f)) → IsTakenIn m here u.heap slots f roots new) e h

-- ---- what begins

module _ (program : Module) (s : StoreState) (f : Frame) (l : Launch) (fits : FitsLaunch program s f l) (sig : Signature)
    (entrance : IsEntrance program l sig) where
  same_callee : entrance.callee ≡ fits.callee
  same_callee = same_Some entrance.callee fits.callee (sym entrance.begins.0 ∙ fits.begins.0)

  -- the function has registers for what comes
  pub roots_few : (t : StoreState) (roots : List ℕ) (n count : ℕ) → Settles s (graph_of f) l roots t → n ≡ sig.registers → n ≤ count
      → length roots ≤ count
  roots_few t roots n count settles e le =
      let long : length roots ≡ length fits.callee.parameters =
      roots_count program s.here s.here s.heap s.heap t.heap fits.callee.parameters (graph_of f) roots fits.fits settles.brought in
      let same : length sig.parameters ≡ length entrance.callee.parameters = ap (λ (q : Signature). length q.parameters) entrance.signature_is in
      let other : length entrance.callee.parameters ≡ length fits.callee.parameters = ap (λ (q : Function). length q.parameters) same_callee in
      let room = entrance.room in
      omega (arith, long, same, other, room, e, le)

  pub registers_enough : (n count : ℕ) → n ≡ sig.registers → n ≤ count → fits.callee.registers ≤ count
  registers_enough n count e le =
      let same : sig.registers ≡ entrance.callee.registers = ap (λ (q : Signature). q.registers) entrance.signature_is in
      let other : entrance.callee.registers ≡ fits.callee.registers = ap (λ (q : Function). q.registers) same_callee in
      omega (arith, same, other, e, le)

  pub unsettled_refused : (old : Slab StayState) (why : Refusal) → IsOpenHere s l.under → IsUnsettled s (graph_of f) l why
      → IsLaunchRefused program old s f l why
  unsettled_refused old refusal.Memory is_open h = tt
  unsettled_refused old (refusal.Limit limit) is_open (inl h) = (fits, is_open, inl h)
  unsettled_refused old (refusal.Limit limit) is_open (inr h) = (fits, is_open, inr (inr h))
  unsettled_refused old _ is_open h = absurd h

  pub launches : (old new : Slab StayState) (t : StoreState) (roots : List ℕ) (n key count : ℕ) (top : CallFrame) (callers : List CallFrame)
      (numbers : List ℕ) → IsOpenHere s l.under → Settles s (graph_of f) l roots t
      → ((m : Module) (here home : ℕ) (slots : List Slot) → FitsArrival m here home s.heap slots (snapshot_of (graph_of f))
      → IsTakenIn m here s.heap slots f roots t.heap)
      → n ≡ sig.registers → n ≤ count → key ≡ old.vacant_key → get old key ≡ None → key < 4294967296 → IsEnteredWith l.function count roots top → callers ≡ [] → numbers ≡ []
      → Updates old new key (Some (record {
        top = top;
        callers = callers;
        finishes = reverse numbers;
        inherited = l.under;
        away = false;
        inside = false;
        back = origin_as l.back;
      })) → Launches program old s f l new t
  launches old new t roots n key count top callers numbers is_open settles taken e le vacant free few entered no_callers no_finishes added = record {
    callee = fits.callee;
    begins = fits.begins;
    fits = fits.fits;
    is_open = is_open;
    roots = roots;
    taken = taken program s.here s.here fits.callee.parameters fits.fits;
    settles = settles;
    key = key;
    vacant = vacant;
    free = free;
    few = few;
    child = record {
      top = top;
      callers = callers;
      finishes = reverse numbers;
      inherited = l.under;
      away = false;
      inside = false;
      back = origin_as l.back;
    };
    launched = record {
      count = count;
      registers = registers_enough n count e le;
      entered = entered;
      callers = no_callers;
      finishes = ap reverse no_finishes;
      inherited = refl;
      away = refl;
      inside = refl;
      back = refl;
    };
    added = added;
  }
