-- A frame is read again, and what is read is spelled so.
use Rattle.std.proofs.Common.{◌≡◌, ℕ, zero, suc, ◌^◌, ◌<◌, ◌≤◌, ◌&&◌, leb, List, [], ◌∷◌, ◌++◌, Result, Ok, refl, sym, ap, subst, ◌∙◌, arith, leb-true, le-leb}
use Rattle.std.specs.Int.{w16, w32, to_be_bytes}
use Rattle.std.proofs.lemmas.Bool.{and_from, and_parts}
use Rattle.x10_model.specs.declared.version.FrameVersion.{FrameVersion}
use Rattle.x10_model.specs.declared.version.FrameVersion.TheVariants.{Narrow, Wide}
use Rattle.x10_model.specs.Frames.{byte_of, most_of, IsSpelled, Graph, Launch, launch, Frame, Spawn, Shift, Back, Report, FitsGraph, FitsLaunch, FitsCounts, FitsBody, FitsFrame, graph_bytes, launch_bytes, counts_bytes, type_of, from_of, to_of, body_bytes, spelling}
use Rattle.x10_model.specs.Readers.{IsBytes, bind, given, byte, number, times, all_of}
use Rattle.x10_model.specs.ReadingFrames.{FrameFault, Short, FrameType, Place, Trailing, launch_at, body_at, version_at, after_version, parts_at, frame_at}
use Rattle.x10_model.proofs.ReaderLaws.{Reads, then_reads, last_reads, made_reads, such_that_reads, expect_reads, spelled_where}
use Rattle.x10_model.proofs.PartLaws.{byte_reads, number_reads, each_reads, all_again, all_takes, wide16, wide32}
use Rattle.x10_model.proofs.ItemLaws.{place_reads}
use Rattle.x10_model.proofs.GraphLaws.{graph_reads}

same_launch : (home number function : ℕ) (l : Launch) → l.home ≡ home → l.number ≡ number → l.function ≡ function
    → launch home number function l.graph ≡ l
same_launch home number function l h n f = rw (← h, ← n, ← f) refl

launch_reads : (v : FrameVersion) (places : ℕ) → places < 2 ^ 16 → Reads (launch_at v places) (launch_bytes v) (FitsLaunch v places)
unfolding launch_at launch_bytes
launch_reads v places few =
    then_reads (λ l. l.home) (λ l. to_be_bytes w32 l.number ++ (to_be_bytes w16 l.function ++ graph_bytes v l.graph)) (place_reads places few)
    (λ l g. g.home) (λ home hh.
    then_reads (λ l. l.number) (λ l. to_be_bytes w16 l.function ++ graph_bytes v l.graph) (number_reads w32 (2 ^ 32) wide32 Short) (λ l g. g.1.number)
    (λ finish hn.
    then_reads (λ l. l.function) (λ l. graph_bytes v l.graph) (number_reads w16 (2 ^ 16) wide16 Short) (λ l g. g.1.1.function) (λ function hf.
    last_reads (launch home finish function) (λ l. l.graph) (graph_reads v places 16 few (omega arith))
    (λ l g. (g.1.1.1.graph, same_launch home finish function l g.1.1.0 g.1.0 g.0))
    (λ graph hg. (refl, (refl, (refl, (refl, record { home = hh; number = hn; function = hf; graph = hg }))))))))

-- a frame that fits, of a type, from one place to another
abbrev Headed : FrameVersion → (places type from to : ℕ) → Frame → Type 0
Headed v places type from to y = (to_of y ≡ to) × ((from_of y ≡ from) × ((type_of y ≡ type) × FitsFrame v places y))

headed : (v : FrameVersion) (places from to : ℕ) (y : Frame) → from < places → to < places → from_of y ≡ from → to_of y ≡ to → FitsBody v places y
    → Headed v places (type_of y) from to y
headed v places from to y hf ht f t b = (t, (f, (refl, record { from = rw f hf; to = rw t ht; body = b })))

-- ---- a new activity

spawn : (from to : ℕ) → Launch → Frame
spawn from to l = Spawn from to l.home l.number l.function l.graph

spawn_case : (v : FrameVersion) (places from to : ℕ) (y : Frame) → Headed v places 1 from to y
    → (l : Launch) × (spawn from to l ≡ y) × FitsLaunch v places l
unfolding spawn
spawn_case v places from to (Spawn f t home number function graph) h = (launch home number function graph, rw (← h.0, ← h.1.0) refl, h.1.1.1.body)
spawn_case v places from to _ h = absurd (omega (arith, h.1.1.0))

spawn_reads : (v : FrameVersion) (places from to : ℕ) → places < 2 ^ 16 → from < places → to < places
    → Reads (body_at v places 1 from to) (body_bytes v) (Headed v places 1 from to)
unfolding body_at spawn
spawn_reads v places from to few hf ht = made_reads (spawn from to) (launch_reads v places few)
    (λ l h. headed v places from to (spawn from to l) hf ht refl refl h) (spawn_case v places from to) (λ l. refl)

-- ---- an activity that goes on elsewhere, and its way back

abbrev waiting_of : Frame → ℕ
waiting_of (Shift from to waiting home number function graph) = waiting
waiting_of (Back from to waiting graph) = waiting
waiting_of _ = 0

abbrev after_waiting : FrameVersion → Frame → List ℕ
after_waiting v (Shift from to waiting home number function graph) = launch_bytes v (launch home number function graph)
after_waiting v (Back from to waiting graph) = graph_bytes v graph
after_waiting v _ = []

shift : (from to waiting : ℕ) → Launch → Frame
shift from to waiting l = Shift from to waiting l.home l.number l.function l.graph

shift_case : (v : FrameVersion) (places from to waiting : ℕ) (y : Frame) → (waiting_of y ≡ waiting) × Headed v places 2 from to y
    → (l : Launch) × (shift from to waiting l ≡ y) × FitsLaunch v places l
unfolding shift
shift_case v places from to waiting (Shift f t w home number function graph) h =
    (launch home number function graph, rw (← h.0, ← h.1.0, ← h.1.1.0) refl, h.1.1.1.1.body.1)
shift_case v places from to waiting _ h = absurd (omega (arith, h.1.1.1.0))

shift_waits : (v : FrameVersion) (places from to : ℕ) (y : Frame) → Headed v places 2 from to y
    → (waiting_of y < 2 ^ 32) × (to_be_bytes w32 (waiting_of y) ++ after_waiting v y ≡ body_bytes v y)
shift_waits v places from to (Shift f t w home number function graph) h = (h.1.1.1.body.0, refl)
shift_waits v places from to _ h = absurd (omega (arith, h.1.1.0))

shift_reads : (v : FrameVersion) (places from to : ℕ) → places < 2 ^ 16 → from < places → to < places
    → Reads (body_at v places 2 from to) (body_bytes v) (Headed v places 2 from to)
unfolding body_at shift
shift_reads v places from to few hf ht = spelled_where
    (then_reads waiting_of (after_waiting v) (number_reads w32 (2 ^ 32) wide32 Short) (λ y g. (shift_waits v places from to y g).0) (λ waiting hw.
    made_reads (shift from to waiting) (launch_reads v places few)
    (λ l h. (refl, headed v places from to (shift from to waiting l) hf ht refl refl (hw, h))) (shift_case v places from to waiting) (λ l. refl)))
    (λ y g. (shift_waits v places from to y g).1)

back_case : (v : FrameVersion) (places from to waiting : ℕ) (y : Frame) → (waiting_of y ≡ waiting) × Headed v places 3 from to y
    → (g : Graph) × (Back from to waiting g ≡ y) × FitsGraph v places 1 g
back_case v places from to waiting (Back f t w graph) h = (graph, rw (← h.0, ← h.1.0, ← h.1.1.0) refl, h.1.1.1.1.body.1)
back_case v places from to waiting _ h = absurd (omega (arith, h.1.1.1.0))

back_waits : (v : FrameVersion) (places from to : ℕ) (y : Frame) → Headed v places 3 from to y
    → (waiting_of y < 2 ^ 32) × (to_be_bytes w32 (waiting_of y) ++ after_waiting v y ≡ body_bytes v y)
back_waits v places from to (Back f t w graph) h = (h.1.1.1.body.0, refl)
back_waits v places from to _ h = absurd (omega (arith, h.1.1.0))

back_reads : (v : FrameVersion) (places from to : ℕ) → places < 2 ^ 16 → from < places → to < places
    → Reads (body_at v places 3 from to) (body_bytes v) (Headed v places 3 from to)
unfolding body_at
back_reads v places from to few hf ht = spelled_where
    (then_reads waiting_of (after_waiting v) (number_reads w32 (2 ^ 32) wide32 Short) (λ y g. (back_waits v places from to y g).0) (λ waiting hw.
    made_reads (Back from to waiting) (graph_reads v places 1 few (omega arith))
    (λ graph h. (refl, headed v places from to (Back from to waiting graph) hf ht refl refl (hw, h))) (back_case v places from to waiting)
    (λ graph. refl)))
    (λ y g. (back_waits v places from to y g).1)

-- ---- a report

abbrev number_of : Frame → ℕ
number_of (Report from to number sent received) = number
number_of _ = 0

abbrev sent_of : Frame → List ℕ
sent_of (Report from to number sent received) = sent
sent_of _ = []

abbrev received_of : Frame → List ℕ
received_of (Report from to number sent received) = received
received_of _ = []

record IsReport (v : FrameVersion) (places from to : ℕ) (y : Frame) : Type 0 where
  number : number_of y < 2 ^ 32
  sent : FitsCounts places (sent_of y)
  received : FitsCounts places (received_of y)
  same : Report from to (number_of y) (sent_of y) (received_of y) ≡ y
  spelled : to_be_bytes w32 (number_of y) ++ (to_be_bytes w16 places ++ (counts_bytes (sent_of y) ++ counts_bytes (received_of y))) ≡ body_bytes v y

is_report : (v : FrameVersion) (places from to : ℕ) (y : Frame) → Headed v places 4 from to y → IsReport v places from to y
is_report v places from to (Report f t number sent received) h = record {
  number = h.1.1.1.body.0;
  sent = h.1.1.1.body.1;
  received = h.1.1.1.body.2;
  same = rw (← h.0, ← h.1.0) refl;
  spelled = rw h.1.1.1.body.1.0 refl;
}
is_report v places from to _ h = absurd (omega (arith, h.1.1.0))

report_is : (from to finish : ℕ) (sent : List ℕ) (y : Frame) → Report from to (number_of y) (sent_of y) (received_of y) ≡ y → number_of y ≡ finish
    → sent_of y ≡ sent → Report from to finish sent (received_of y) ≡ y
report_is from to finish sent y e n s = subst (λ (k : ℕ). Report from to k sent (received_of y) ≡ y) n
    (subst (λ (c : List ℕ). Report from to (number_of y) c (received_of y) ≡ y) s e)

counts_read : (places : ℕ) → Reads (times places (number w32 Short)) counts_bytes (FitsCounts places)
counts_read places = each_reads (λ s _. s) (λ _. number_reads w32 (2 ^ 32) wide32 Short) places 0

report_reads : (v : FrameVersion) (places from to : ℕ) → places < 2 ^ 16 → from < places → to < places
    → Reads (body_at v places 4 from to) (body_bytes v) (Headed v places 4 from to)
unfolding body_at
report_reads v places from to few hf ht = spelled_where
    (then_reads number_of (λ y. to_be_bytes w16 places ++ (counts_bytes (sent_of y) ++ counts_bytes (received_of y)))
    (number_reads w32 (2 ^ 32) wide32 Short) (λ y g. (is_report v places from to y g).number) (λ finish hn.
    expect_reads places Place (number_reads w16 (2 ^ 16) wide16 Short) few
    (then_reads sent_of (λ y. counts_bytes (received_of y)) (counts_read places) (λ y g. (is_report v places from to y g.1).sent) (λ sent hs.
    last_reads (Report from to finish sent) received_of (counts_read places)
    (λ y g. let r = is_report v places from to y g.1.1 in (r.received, report_is from to finish sent y r.same g.1.0 g.0))
    (λ received hr. (refl, (refl, (refl, headed v places from to (Report from to finish sent received) hf ht refl refl (hn, hs, hr)))))))))
    (λ y g. (is_report v places from to y g).spelled)

-- ---- the whole

body_reads : (v : FrameVersion) (places : ℕ) → places < 2 ^ 16 → (type from to : ℕ) → 1 ≤ type → type ≤ 4 → from < places → to < places
    → Reads (body_at v places type from to) (body_bytes v) (Headed v places type from to)
body_reads v places few zero from to low high hf ht = absurd (omega (arith, low))
body_reads v places few (suc zero) from to low high hf ht = spawn_reads v places from to few hf ht
body_reads v places few (suc (suc zero)) from to low high hf ht = shift_reads v places from to few hf ht
body_reads v places few (suc (suc (suc zero))) from to low high hf ht = back_reads v places from to few hf ht
body_reads v places few (suc (suc (suc (suc zero)))) from to low high hf ht = report_reads v places from to few hf ht
body_reads v places few (suc (suc (suc (suc (suc type))))) from to low high hf ht = absurd (omega (arith, high))

type_small : (y : Frame) → (1 ≤ type_of y) × (type_of y ≤ 4)
type_small (Spawn from to home number function graph) = (omega arith, omega arith)
type_small _ = (omega arith, omega arith)

-- what follows the first byte
abbrev after_first : FrameVersion → Frame → List ℕ
after_first v y = type_of y ∷ (to_be_bytes w16 (from_of y) ++ (to_be_bytes w16 (to_of y) ++ body_bytes v y))

after_reads : (v : FrameVersion) (places : ℕ) → places < 2 ^ 16 → Reads (after_version v places) (after_first v) (FitsFrame v places)
unfolding after_version
after_reads v places few =
    then_reads type_of (λ y. to_be_bytes w16 (from_of y) ++ (to_be_bytes w16 (to_of y) ++ body_bytes v y))
    (such_that_reads (λ n. leb 1 n && leb n 4) FrameType (byte_reads Short))
    (λ y g. let s = type_small y in (
      omega (arith, s),
      and_from (leb 1 (type_of y)) (leb (type_of y) 4) (le-leb 1 (type_of y) s.0)
          (le-leb (type_of y) 4 s.1),
    )) (λ type h.
    then_reads from_of (λ y. to_be_bytes w16 (to_of y) ++ body_bytes v y) (place_reads places few) (λ y g. g.1.from) (λ from hf.
    then_reads to_of (body_bytes v) (place_reads places few) (λ y g. g.1.1.to) (λ to ht.
    let b = and_parts (leb 1 type) (leb type 4) h.1 in
    body_reads v places few type from to (leb-true 1 type b.0) (leb-true type 4 b.1) hf ht)))

-- the first byte says how the others are read
by_first : (v : FrameVersion) (places : ℕ) (rest : List ℕ) → frame_at places (byte_of v ∷ rest) ≡ all_of (after_version v places) Trailing rest
unfolding frame_at all_of parts_at version_at bind given byte
by_first Narrow places rest = refl
by_first Wide places rest = refl

spelled_first : (v : FrameVersion) (f : Frame) → spelling v f ≡ byte_of v ∷ after_first v f
unfolding spelling
spelled_first v f = refl

-- what is spelled is read again
pub frame_again : (v : FrameVersion) (places : ℕ) → places < 2 ^ 16 → (f : Frame) → FitsFrame v places f → frame_at places (spelling v f) ≡ Ok f
frame_again v places few f fits = ap (frame_at places) (spelled_first v f) ∙ by_first v places (after_first v f)
    ∙ all_again (after_reads v places few) Trailing f fits

-- what is read is spelled so
after_takes : (v : FrameVersion) (places : ℕ) → places < 2 ^ 16 → (rest : List ℕ) (f : Frame) → IsBytes (byte_of v ∷ rest)
    → frame_at places (byte_of v ∷ rest) ≡ Ok f → IsSpelled places f (byte_of v ∷ rest)
after_takes v places few rest f b e =
    let t = all_takes (after_reads v places few) Trailing rest f (λ k. b (suc k)) (sym (by_first v places rest) ∙ e) in
    record { version = v; fits = t.0; is = ap (λ (l : List ℕ). byte_of v ∷ l) t.1 ∙ sym (spelled_first v f) }

pub frame_takes : (places : ℕ) → places < 2 ^ 16 → (bytes : List ℕ) (f : Frame) → IsBytes bytes → frame_at places bytes ≡ Ok f
    → IsSpelled places f bytes
unfolding frame_at all_of parts_at version_at bind given byte
frame_takes places few [] f b e = absurd cc
frame_takes places few (zero ∷ rest) f b e = absurd cc
frame_takes places few (suc zero ∷ rest) f b e = after_takes Narrow places few rest f b e
frame_takes places few (suc (suc zero) ∷ rest) f b e = after_takes Wide places few rest f b e
frame_takes places few (suc (suc (suc n)) ∷ rest) f b e = absurd cc

-- ---- one frame

abbrev read_frame : Frame → Result Frame FrameFault
read_frame f = Ok f

ok_same : (f g : Frame) → read_frame f ≡ read_frame g → f ≡ g
ok_same f g e = cc

same_version : (v w : FrameVersion) → byte_of v ≡ byte_of w → v ≡ w
same_version Narrow Narrow e = refl
same_version Narrow Wide e = absurd (omega (arith, e))
same_version Wide Narrow e = absurd (omega (arith, e))
same_version Wide Wide e = refl

same_first : (m n : ℕ) (xs ys : List ℕ) → m ∷ xs ≡ n ∷ ys → m ≡ n
same_first m n xs ys e = cc

-- no two frames share a spelling
pub one_frame : (v w : FrameVersion) (places : ℕ) → places < 2 ^ 16 → (f g : Frame) → FitsFrame v places f → FitsFrame w places g
    → spelling v f ≡ spelling w g → (v ≡ w) × (f ≡ g)
one_frame v w places few f g hf hg e = (
  same_version v w (same_first (byte_of v) (byte_of w) (after_first v f) (after_first w g) (sym (spelled_first v f) ∙ e ∙ spelled_first w g)),
  ok_same f g (sym (frame_again v places few f hf) ∙ ap (frame_at places) e ∙ frame_again w places few g hg),
)

-- ---- what fits version 1 fits version 2

pub most_wide : (v : FrameVersion) → most_of v ≤ most_of Wide
most_wide Narrow = omega arith
most_wide Wide = omega arith

pub graph_wider : (v : FrameVersion) (places most : ℕ) (g : Graph) → FitsGraph v places most g → FitsGraph Wide places most g
graph_wider v places most g h = record {
  count = h.count;
  roots = h.roots;
  texts = (omega (arith, h.texts.0, most_wide v), h.texts.1);
  rails = (omega (arith, h.rails.0, most_wide v), h.rails.1);
  nodes = (omega (arith, h.nodes.0, most_wide v), h.nodes.1);
  used = h.used;
}

launch_wider : (v : FrameVersion) (places : ℕ) (l : Launch) → FitsLaunch v places l → FitsLaunch Wide places l
launch_wider v places l h = record { home = h.home; number = h.number; function = h.function; graph = graph_wider v places 16 l.graph h.graph }

body_wider : (v : FrameVersion) (places : ℕ) (f : Frame) → FitsBody v places f → FitsBody Wide places f
body_wider v places (Spawn from to home number function graph) h = launch_wider v places (launch home number function graph) h
body_wider v places (Shift from to waiting home number function graph) h = (h.0, launch_wider v places (launch home number function graph) h.1)
body_wider v places (Back from to waiting graph) h = (h.0, graph_wider v places 1 graph h.1)
body_wider v places (Report from to number sent received) h = h

pub wider : (v : FrameVersion) (places : ℕ) (f : Frame) → FitsFrame v places f → FitsFrame Wide places f
wider v places f h = record { from = h.from; to = h.to; body = body_wider v places f h.body }
