-- Stays of activities as text.
use Rattle.std.specs.Prelude.{◌≡◌, ◌↔◌, ℕ, ◌-◌, ◌+◌, ◌≤◌, Bool, IsTrue, List, [], ◌++◌, Option, Some, None, length, slice_get, slice_index, codes, decimal}
use Rattle.slab.specs.Slab.{get}
use Rattle.x10_finish.specs.Ledgers.{totals_of}
use Rattle.x10_model.specs.Places.{Origin}
use Rattle.x10_model.specs.Totals.{Totals}
use Rattle.x10_model.specs.declared.finish.Finish.{Finish}
use Rattle.x10_heap.specs.Heaps.{HeapState}
use Rattle.x10_place.specs.declared.call_frame.CallFrame.{CallFrame}
use Rattle.x10_place.specs.StandsFor.{PlaceState, IsIdleAt}
use Rattle.x10_place.specs.Stays.{StayState, finish_at}
use Rattle.x10_verify.specs.Flows.{FlowFacts}
use Rattle.x10_states.specs.Frames.{frame_text}
use Rattle.x10_states.specs.Json.{bool_word, elements, others}

-- ---- counts

-- a number for each place, between what stands before and behind them
unfoldable pub counts_text : (before : List ℕ) → ℕ → (ℕ → ℕ) → (behind : List ℕ) → List ℕ
counts_text before places count behind = before ++ (elements places (λ p. decimal (count p)) ++ behind)

-- what a place has counted of a finish: how many activities under it live there, how many were sent to each place, and how
-- many came from each
unfoldable pub totals_text : ℕ → Totals → List ℕ
totals_text places t = codes ",\"live\":" ++ (decimal t.live
    ++ (counts_text (codes ",\"sent\":[") places t.sent (codes "]")
    ++ counts_text (codes ",\"received\":[") places t.received (codes "]}")))

-- the same in lists by places, which may be shorter: what lacks is 0
abbrev pub totals_in : (live : ℕ) → (sent received : List ℕ) → Totals
totals_in live sent received = record {
  live = live;
  sent = slice_index sent;
  received = slice_index received;
}

-- a finish, and what the place has counted of it
unfoldable pub count_text : PlaceState → Finish → List ℕ
count_text p f = codes "{\"home\":" ++ (decimal f.home ++ (codes ",\"number\":"
    ++ (decimal f.number ++ totals_text p.places (totals_of p.ledger f))))

-- ---- stays

abbrev pub frame_if : List FlowFacts → HeapState → Option CallFrame → List ℕ
frame_if flows heap None = []
frame_if flows heap (Some f) = frame_text flows heap f

-- the call frames of those that called, the last one first
unfoldable pub callers_text : List FlowFacts → HeapState → List CallFrame → List ℕ
callers_text flows heap callers = others (length callers)
    (λ i. frame_if flows heap (slice_get callers (length callers - 1 - i))) ++ codes "]"

-- the call frames of a stay: that of the function that it executes, and each behind the one that it called
unfoldable pub frames_text : List FlowFacts → HeapState → StayState → List ℕ
frames_text flows heap a = codes "{\"frames\":["
    ++ (frame_text flows heap a.top ++ callers_text flows heap a.callers)

-- the finishes that a stay opened and that are open, the innermost first; their home is its place
unfoldable pub finishes_text : PlaceState → StayState → List ℕ
finishes_text p a = codes ",\"finishes\":[" ++ (elements (length a.finishes)
    (λ i. count_text p (finish_at p.id (slice_index a.finishes i))) ++ codes "]")

-- what a stay executes, and which finishes it opened
unfoldable pub own_text : List FlowFacts → PlaceState → StayState → List ℕ
own_text flows p a = frames_text flows p.heap a ++ finishes_text p a

-- the finish that it inherited
unfoldable pub under_text : PlaceState → Finish → List ℕ
under_text p f = codes ",\"under\":" ++ count_text p f

-- the stay that a result goes back to, if it goes back to one
abbrev pub origin_text : Option Origin → List ℕ
origin_text None = codes "null"
origin_text (Some o) = codes "[" ++ (decimal o.place ++ (codes "," ++ (decimal o.key ++ codes "]")))

unfoldable pub back_text : Option Origin → List ℕ
back_text o = codes ",\"back\":" ++ (origin_text o ++ codes "}")

-- whether it is away, whether it is inside an atomic region, and whether it is idle
unfoldable pub flags_text : (away inside idle : Bool) → List ℕ
flags_text away inside idle = (codes ",\"away\":" ++ bool_word away)
    ++ ((codes ",\"inside\":" ++ bool_word inside) ++ (codes ",\"idle\":" ++ bool_word idle))

-- how it goes on
unfoldable pub onward_text : StayState → (idle : Bool) → List ℕ
onward_text a idle = flags_text a.away a.inside idle ++ back_text a.back

-- a stay of a place, where it is told whether a step of it would find nothing to do
unfoldable pub stay_text : List FlowFacts → PlaceState → StayState → (idle : Bool) → List ℕ
stay_text flows p a idle = own_text flows p a
    ++ (under_text p a.inherited ++ onward_text a idle)

abbrev pub stay_or_null : List FlowFacts → PlaceState → Option StayState → (idle : Bool) → List ℕ
stay_or_null flows p None idle = codes "null"
stay_or_null flows p (Some a) idle = stay_text flows p a idle

-- the text of the stay with a key, or of a key that is free
pub record IsStay (flows : List FlowFacts) (p : PlaceState) (key : ℕ)
    (text : List ℕ) : Type 0 where
  pub idle : Bool
  pub idle_is : IsTrue idle ↔ IsIdleAt p key
  pub text_is : text ≡ stay_or_null flows p (get p.stays key) idle

-- each of these texts is that of the stay with its key, from 0 on
abbrev pub AreListed : List FlowFacts → PlaceState → List (List ℕ) → Type 0
AreListed flows p texts = (key : ℕ) (text : List ℕ) → slice_get texts key ≡ Some text
    → IsStay flows p key text

-- a text for each key, up to the last one in use
pub record AreStays (flows : List FlowFacts) (p : PlaceState) (texts : List (List ℕ)) : Type 0 where
  pub listed : AreListed flows p texts
  pub beyond : (key : ℕ) → length texts ≤ key → get p.stays key ≡ None
  pub last : (key : ℕ) → length texts ≡ key + 1 → (a : StayState) × (get p.stays key ≡ Some a)
