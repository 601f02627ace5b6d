-- A frame is read as its head, and then what follows.
use Rattle.std.proofs.Common.{◌≡◌, ℕ, zero, suc, ◌^◌, ◌<◌, List, Option, Some, None, refl, ◌∙◌}
use Rattle.std.specs.Int.{w16, w32}
use Rattle.x10_model.specs.declared.version.FrameVersion.{FrameVersion}
use Rattle.x10_model.specs.Frames.{Launch, launch, Frame, Spawn, Shift}
use Rattle.x10_model.specs.Readers.{Reader, bind, done, given, number}
use Rattle.x10_model.specs.ReadingFrames.{FrameFault, Short, Version, FrameType, Place, place_at, graph_at, launch_at, body_at, version_of, version_at, after_version}
use Rattle.x10_model.proofs.PartLaws.{byte_reads, number_reads, wide16, wide32}
use Rattle.x10_model.proofs.ItemLaws.{place_reads}
use Rattle.x10_frame.specs.declared.head.What.{What}
use Rattle.x10_frame.specs.declared.head.What.TheVariants as what
use Rattle.x10_frame.specs.Heads.{head, finish, after_numbers, spawn_at, shift_at, back_at, report_at, numbers_at, head_at, counts_at, after_head}
use Rattle.x10_frame.proofs.Readers.{split, alike, done_next, made_twice, Drops, drops_reads, drops_done, drops_bind, drops_expect, drops_such_that}

abbrev spawned : ℕ → ℕ → Launch → Frame
spawned from to l = Spawn from to l.home l.number l.function l.graph

-- what follows the numbers of a frame from one place to another
abbrev after : FrameVersion → (places from to : ℕ) → What → Reader FrameFault Frame
after = after_numbers

spawn_is : (v : FrameVersion) (places from to : ℕ) (bytes : List ℕ)
    → body_at v places 1 from to bytes ≡ bind (spawn_at places) (after v places from to) bytes
unfolding body_at launch_at spawn_at
spawn_is v places from to bytes =
    alike _ _ (λ l. done (spawned from to l)) _ (after v places from to) (λ home.
    alike _ _ (λ l. done (spawned from to l)) _ (after v places from to) (λ number.
    alike _ _ (λ l. done (spawned from to l)) _ (after v places from to) (λ function rest.
    made_twice (graph_at v places 16) (launch home number function) (spawned from to) (what.Spawn (finish home number) function)
    (after v places from to) rest refl))) bytes

abbrev shifted : ℕ → ℕ → ℕ → Launch → Frame
shifted from to waiting l = Shift from to waiting l.home l.number l.function l.graph

shift_is : (v : FrameVersion) (places from to : ℕ) (bytes : List ℕ)
    → body_at v places 2 from to bytes ≡ bind (shift_at places) (after v places from to) bytes
unfolding body_at launch_at shift_at
shift_is v places from to bytes =
    split _ _ _ (after v places from to) (λ waiting.
    alike _ _ (λ l. done (shifted from to waiting l)) _ (after v places from to) (λ home.
    alike _ _ (λ l. done (shifted from to waiting l)) _ (after v places from to) (λ number.
    alike _ _ (λ l. done (shifted from to waiting l)) _ (after v places from to) (λ function rest.
    made_twice (graph_at v places 16) (launch home number function) (shifted from to waiting)
    (what.Shift waiting (finish home number) function) (after v places from to) rest refl)))) bytes

back_is : (v : FrameVersion) (places from to : ℕ) (bytes : List ℕ)
    → body_at v places 3 from to bytes ≡ bind back_at (after v places from to) bytes
unfolding body_at back_at
back_is v places from to bytes = split _ _ _ (after v places from to)
    (λ waiting rest. done_next (what.Back waiting) (after v places from to) rest) bytes

report_is : (v : FrameVersion) (places from to : ℕ) (bytes : List ℕ)
    → body_at v places 4 from to bytes ≡ bind (report_at places) (after v places from to) bytes
unfolding body_at report_at counts_at
report_is v places from to bytes = split _ _ _ (after v places from to)
    (λ number. split _ _ _ (after v places from to) (λ u rest. done_next (what.Report number) (after v places from to) rest)) bytes

none_is : (v : FrameVersion) (places from to : ℕ) (bytes : List ℕ)
    → given {A = Frame} None FrameType bytes ≡ bind (given {A = What} None FrameType) (after v places from to) bytes
unfolding bind given
none_is v places from to bytes = refl

body_is : (v : FrameVersion) (places type from to : ℕ) (bytes : List ℕ)
    → body_at v places type from to bytes ≡ bind (numbers_at places type) (after v places from to) bytes
unfolding body_at numbers_at
body_is v places zero from to bytes = none_is v places from to bytes
body_is v places (suc zero) from to bytes = spawn_is v places from to bytes
body_is v places (suc (suc zero)) from to bytes = shift_is v places from to bytes
body_is v places (suc (suc (suc zero))) from to bytes = back_is v places from to bytes
body_is v places (suc (suc (suc (suc zero)))) from to bytes = report_is v places from to bytes
body_is v places (suc (suc (suc (suc (suc type))))) from to bytes = none_is v places from to bytes

-- the places and the numbers are a head
numbers_are : (v : FrameVersion) (places type from to : ℕ) (bytes : List ℕ)
    → body_at v places type from to bytes
    ≡ bind (bind (numbers_at places type) (λ w. done (head from to w))) (after_head v places) bytes
numbers_are v places type from to bytes = body_is v places type from to bytes
    ∙ split _ _ _ (after_head v places) (λ w rest. done_next (head from to w) (after_head v places) rest) bytes

pub after_is : (v : FrameVersion) (places : ℕ) (bytes : List ℕ) → after_version v places bytes ≡ bind (head_at places) (after_head v places) bytes
unfolding after_version head_at
after_is v places bytes =
    split _ _ _ (after_head v places) (λ type.
    split _ _ _ (after_head v places) (λ from.
    split _ _ _ (after_head v places) (λ to rest. numbers_are v places type from to rest))) bytes

-- ---- what a head leaves

drops16 : Drops (number {E = FrameFault} w16 Short)
drops16 = drops_reads (number_reads w16 (2 ^ 16) wide16 Short)

drops32 : Drops (number {E = FrameFault} w32 Short)
drops32 = drops_reads (number_reads w32 (2 ^ 32) wide32 Short)

drops_place : (places : ℕ) → places < 2 ^ 16 → Drops (place_at places)
drops_place places few = drops_reads (place_reads places few)

drops_none : {A : Type 0} → Drops (given {E = FrameFault} {A = A} None FrameType)
unfolding given
drops_none bytes x rest b e = absurd cc

drops_numbers : (places : ℕ) → places < 2 ^ 16 → (type : ℕ) → Drops (numbers_at places type)
unfolding numbers_at spawn_at shift_at back_at report_at
drops_numbers places few zero = drops_none
drops_numbers places few (suc zero) =
    drops_bind _ _ (drops_place places few) (λ home. drops_bind _ _ drops32 (λ finish. drops_bind _ _ drops16 (λ function. drops_done _)))
drops_numbers places few (suc (suc zero)) =
    drops_bind _ _ drops32 (λ waiting. drops_bind _ _ (drops_place places few)
    (λ home. drops_bind _ _ drops32 (λ finish. drops_bind _ _ drops16 (λ function. drops_done _))))
drops_numbers places few (suc (suc (suc zero))) = drops_bind _ _ drops32 (λ waiting. drops_done _)
drops_numbers places few (suc (suc (suc (suc zero)))) =
    drops_bind _ _ drops32 (λ finish. drops_bind _ _ (drops_expect _ places Place drops16) (λ u. drops_done _))
drops_numbers places few (suc (suc (suc (suc (suc type))))) = drops_none

pub head_drops : (places : ℕ) → places < 2 ^ 16 → Drops (head_at places)
unfolding head_at
head_drops places few =
    drops_bind _ _ (drops_such_that _ _ FrameType (drops_reads (byte_reads Short))) (λ type.
    drops_bind _ _ (drops_place places few) (λ from.
    drops_bind _ _ (drops_place places few) (λ to.
    drops_bind _ _ (drops_numbers places few type) (λ w. drops_done _))))

drops_given : {A : Type 0} (o : Option A) (fault : FrameFault) → Drops (given o fault)
unfolding given done
drops_given (Some y) fault bytes x rest b e = drops_done {E = FrameFault} y bytes x rest b e
drops_given None fault bytes x rest b e = absurd cc

pub version_drops : Drops version_at
unfolding version_at
version_drops = drops_bind _ _ (drops_reads (byte_reads Short)) (λ first. drops_given (version_of first) Version)
