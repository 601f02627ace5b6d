-- What is known of a value that was read before, by its tag: enough bytes follow, and they are its numbers.
use Rattle.std.proofs.Common.{◌≡◌, ℕ, zero, suc, Bool, true, false, ◌≤◌, ◌<◌, List, [], ◌∷◌, length, take, drop, Result, Ok, Err, refl, arith, inl, inr, length-drop, ◌∙◌}
use Rattle.std.specs.Prelude.{IsOk, nat_lt, nat_le, ◌&&◌, slice_index}
use Rattle.std.specs.Int.{Width, byte_len, w16, w32, w64, from_be_bytes, cast_signed}
use Rattle.std.proofs.lemmas.Bool.{cases_lt, le-leb, lt-leb}
use Rattle.std.proofs.lemmas.List.{drop-drop}
use Rattle.x10_model.specs.declared.version.FrameVersion.{FrameVersion}
use Rattle.x10_model.specs.Frames.{width_of, most_of, Item, IntItem, PlaceItem, TextItem, RailItem, ObjectItem, NullItem, RefItem}
use Rattle.x10_model.specs.Readers.{Reader, bind, done, check, such_that, byte, number, given}
use Rattle.x10_model.specs.ReadingFrames.{FrameFault, Short, Tag, Place, Order, item_at, untagged_at, index_at, place_at}
use Rattle.x10_model.proofs.Offsets.{number_short, number_is}
use Rattle.x10_frame.specs.Items.{full}
use Rattle.x10_bytes.proofs.Fronts.{int_short, int_is}

-- so many bytes follow, and the value is this one
pub record IsKnown (n : ℕ) (rest : List ℕ) (x : Item) (read : Result (Item × List ℕ) FrameFault) : Type 0 where
  pub room : n ≤ length rest
  pub reads : read ≡ Ok (x, drop n rest)

no_err : {X : Type 0} (read : Result X FrameFault) (e : FrameFault) → read ≡ Err e → IsOk read → ⊥
no_err read e is h = let t : false ≡ true = rw is at h in absurd cc

-- a number that was there
record First {A : Type 0} (w : Width) (next : ℕ → Reader FrameFault A) (bytes : List ℕ) : Type 0 where
  room : byte_len w ≤ length bytes
  is : bind (number w Short) next bytes ≡ next (from_be_bytes w (take (byte_len w) bytes)) (drop (byte_len w) bytes)

first_of : {A : Type 0} (w : Width) (next : ℕ → Reader FrameFault A) (bytes : List ℕ) → IsOk (bind (number w Short) next bytes) → First w next bytes
unfolding bind
first_of w next bytes h =
    elim (cases_lt (length bytes) (byte_len w)) [
      | inl lt ↦ absurd (no_err (bind (number w Short) next bytes) Short (rw (number_short Short w bytes lt) refl) h)
      | inr le ↦ record { room = le; is = rw (number_is Short w bytes (from_be_bytes w (take (byte_len w) bytes)) le refl) refl }
    ]

-- a test that was passed changes nothing
chosen : {A : Type 0} (b : Bool) (fault : FrameFault) (n : ℕ) (rest : List ℕ) (next : ℕ → Reader FrameFault A)
    → IsOk (bind (bind (check b fault) (λ _. done n)) next rest) → bind (bind (check b fault) (λ _. done n)) next rest ≡ next n rest
unfolding bind check done
chosen true fault n rest next h = refl
chosen false fault n rest next h = absurd cc

tested_of : {A : Type 0} (o : Result (ℕ × List ℕ) FrameFault) (r : Reader FrameFault ℕ) (test : ℕ → Bool) (fault : FrameFault)
    (next : ℕ → Reader FrameFault A) (bytes : List ℕ) → r bytes ≡ o → IsOk (bind (such_that r test fault) next bytes)
    → bind (such_that r test fault) next bytes ≡ bind r next bytes
unfolding such_that bind
tested_of (Ok x) r test fault next bytes e h = rw e (chosen (test x.0) fault x.0 x.1 next (rw e at h))
tested_of (Err f) r test fault next bytes e h = rw e refl

tested : {A : Type 0} (r : Reader FrameFault ℕ) (test : ℕ → Bool) (fault : FrameFault) (next : ℕ → Reader FrameFault A) (bytes : List ℕ)
    → IsOk (bind (such_that r test fault) next bytes) → bind (such_that r test fault) next bytes ≡ bind r next bytes
tested r test fault next bytes h = tested_of (r bytes) r test fault next bytes refl h

-- a number that passed a test
one_number : (w : Width) (f : ℕ → Item) (test : ℕ → Bool) (fault : FrameFault) (rest : List ℕ)
    → IsOk (bind (such_that (number w Short) test fault) (λ n. done (f n)) rest)
    → IsKnown (byte_len w) rest (f (from_be_bytes w (take (byte_len w) rest))) (bind (such_that (number w Short) test fault) (λ n. done (f n)) rest)
unfolding done
one_number w f test fault rest h =
    let t = tested (number w Short) test fault (λ n. done (f n)) rest h in
    let one = first_of w (λ n. done (f n)) rest (rw t at h) in
    record { room = one.room; reads = t ∙ one.is }

three_numbers : (v : FrameVersion) (places : ℕ) (rest : List ℕ) → IsOk (untagged_at v places (full v) (full v) 7 rest)
    → IsKnown 8 rest (RefItem (from_be_bytes w16 (take 2 rest)) (from_be_bytes w32 (take 4 (drop 2 rest))) (from_be_bytes w16 (take 2 (drop 6 rest))))
    (untagged_at v places (full v) (full v) 7 rest)
unfolding untagged_at place_at done
three_numbers v places rest h =
    let class_next : (home id : ℕ) → ℕ → Reader FrameFault Item = λ home id class. done (RefItem home id class) in
    let id_next : ℕ → ℕ → Reader FrameFault Item = λ home id. bind (number w16 Short) (class_next home id) in
    let next : ℕ → Reader FrameFault Item = λ home. bind (number w32 Short) (id_next home) in
    let t = tested (number w16 Short) (λ p. nat_lt p places) Place next rest h in
    let one = first_of w16 next rest (rw t at h) in
    let home = from_be_bytes w16 (take 2 rest) in
    let after : List ℕ = drop 2 rest in
    let two = first_of w32 (id_next home) after (rw (t, one.is) at h) in
    let id = from_be_bytes w32 (take 4 after) in
    let three = first_of w16 (class_next home id) (drop 4 after) (rw (t, one.is, two.is) at h) in
    let e : drop 4 (drop 2 rest) ≡ drop 6 rest = drop-drop 4 2 rest in
    let f : drop 2 (drop 6 rest) ≡ drop 8 rest = drop-drop 2 6 rest in
    record {
      room = omega (arith, one.room, two.room, three.room, length-drop 2 rest, length-drop 4 after);
      reads = t ∙ one.is ∙ two.is ∙ three.is ∙ rw (e, f) refl;
    }

-- ---- by the tag

pub some_bytes : (v : FrameVersion) (places : ℕ) (bytes : List ℕ) → IsOk (item_at v places (full v) (full v) bytes) → 0 < length bytes
unfolding item_at such_that bind byte
some_bytes v places [] h = absurd cc
some_bytes v places (b ∷ bs) h = omega arith

pub int_again : (v : FrameVersion) (places : ℕ) (bytes : List ℕ) → IsOk (item_at v places (full v) (full v) bytes) → slice_index bytes 0 ≡ 1
    → IsKnown 8 (drop 1 bytes) (IntItem (cast_signed w64 (from_be_bytes w64 (take 8 (drop 1 bytes))))) (item_at v places (full v) (full v) bytes)
unfolding item_at untagged_at such_that bind check done byte
int_again v places [] h e = absurd cc
int_again v places (b ∷ rest) h e =
    let b1 : b ≡ 1 = e in
    let g : IsOk (item_at v places (full v) (full v) (1 ∷ rest)) = rw b1 at h in
    rw b1 (elim (cases_lt (length rest) 8) [
      | inl lt ↦ absurd (no_err (item_at v places (full v) (full v) (1 ∷ rest)) Short (rw (int_short Short rest lt) refl) g)
      | inr le ↦ record {
        room = le;
        reads = rw (int_is Short rest (from_be_bytes w64 (take 8 rest))
            (cast_signed w64 (from_be_bytes w64 (take 8 rest))) le refl refl) refl;
      }
    ])

pub place_again : (v : FrameVersion) (places : ℕ) (bytes : List ℕ) → IsOk (item_at v places (full v) (full v) bytes) → slice_index bytes 0 ≡ 2
    → IsKnown 2 (drop 1 bytes) (PlaceItem (from_be_bytes w16 (take 2 (drop 1 bytes)))) (item_at v places (full v) (full v) bytes)
unfolding item_at untagged_at place_at such_that bind check done byte
place_again v places [] h e = absurd cc
place_again v places (b ∷ rest) h e =
    let b2 : b ≡ 2 = e in
    let g : IsOk (item_at v places (full v) (full v) (2 ∷ rest)) = rw b2 at h in
    rw b2 (one_number w16 PlaceItem (λ p. nat_lt p places) Place rest g)

pub text_again : (v : FrameVersion) (places : ℕ) (bytes : List ℕ) → IsOk (item_at v places (full v) (full v) bytes) → slice_index bytes 0 ≡ 3
    → IsKnown (byte_len (width_of v)) (drop 1 bytes) (TextItem (from_be_bytes (width_of v) (take (byte_len (width_of v)) (drop 1 bytes))))
    (item_at v places (full v) (full v) bytes)
unfolding item_at untagged_at index_at such_that bind check done byte
text_again v places [] h e = absurd cc
text_again v places (b ∷ rest) h e =
    let b3 : b ≡ 3 = e in
    let g : IsOk (item_at v places (full v) (full v) (3 ∷ rest)) = rw b3 at h in
    rw b3 (one_number (width_of v) TextItem (λ i. nat_le i (most_of v) && nat_lt i (most_of v)) Order rest g)

pub rail_again : (v : FrameVersion) (places : ℕ) (bytes : List ℕ) → IsOk (item_at v places (full v) (full v) bytes) → slice_index bytes 0 ≡ 4
    → IsKnown (byte_len (width_of v)) (drop 1 bytes) (RailItem (from_be_bytes (width_of v) (take (byte_len (width_of v)) (drop 1 bytes))))
    (item_at v places (full v) (full v) bytes)
unfolding item_at untagged_at index_at such_that bind check done byte
rail_again v places [] h e = absurd cc
rail_again v places (b ∷ rest) h e =
    let b4 : b ≡ 4 = e in
    let g : IsOk (item_at v places (full v) (full v) (4 ∷ rest)) = rw b4 at h in
    rw b4 (one_number (width_of v) RailItem (λ i. nat_le i (most_of v) && nat_lt i (most_of v)) Order rest g)

pub object_again : (v : FrameVersion) (places : ℕ) (bytes : List ℕ) → IsOk (item_at v places (full v) (full v) bytes) → slice_index bytes 0 ≡ 5
    → IsKnown (byte_len (width_of v)) (drop 1 bytes) (ObjectItem (from_be_bytes (width_of v) (take (byte_len (width_of v)) (drop 1 bytes))))
    (item_at v places (full v) (full v) bytes)
unfolding item_at untagged_at index_at such_that bind check done byte
object_again v places [] h e = absurd cc
object_again v places (b ∷ rest) h e =
    let b5 : b ≡ 5 = e in
    let g : IsOk (item_at v places (full v) (full v) (5 ∷ rest)) = rw b5 at h in
    rw b5 (one_number (width_of v) ObjectItem (λ i. nat_le i (most_of v) && nat_lt i (most_of v)) Order rest g)

pub null_again : (v : FrameVersion) (places : ℕ) (bytes : List ℕ) → IsOk (item_at v places (full v) (full v) bytes) → slice_index bytes 0 ≡ 6
    → item_at v places (full v) (full v) bytes ≡ Ok (NullItem, drop 1 bytes)
unfolding item_at untagged_at such_that bind check done byte
null_again v places [] h e = absurd cc
null_again v places (b ∷ rest) h e =
    let b6 : b ≡ 6 = e in
    rw b6 refl

-- the tag that is left
last_tag : (v : FrameVersion) (places tag : ℕ) (rest : List ℕ) → IsOk (item_at v places (full v) (full v) (tag ∷ rest)) → (tag ≡ 1 → ⊥)
    → (tag ≡ 2 → ⊥) → (tag ≡ 3 → ⊥) → (tag ≡ 4 → ⊥) → (tag ≡ 5 → ⊥) → (tag ≡ 6 → ⊥) → tag ≡ 7
unfolding item_at untagged_at such_that bind check done byte given
last_tag v places zero rest h n1 n2 n3 n4 n5 n6 = absurd cc
last_tag v places (suc zero) rest h n1 n2 n3 n4 n5 n6 = absurd (n1 refl)
last_tag v places (suc (suc zero)) rest h n1 n2 n3 n4 n5 n6 = absurd (n2 refl)
last_tag v places (suc (suc (suc zero))) rest h n1 n2 n3 n4 n5 n6 = absurd (n3 refl)
last_tag v places (suc (suc (suc (suc zero)))) rest h n1 n2 n3 n4 n5 n6 = absurd (n4 refl)
last_tag v places (suc (suc (suc (suc (suc zero))))) rest h n1 n2 n3 n4 n5 n6 = absurd (n5 refl)
last_tag v places (suc (suc (suc (suc (suc (suc zero)))))) rest h n1 n2 n3 n4 n5 n6 = absurd (n6 refl)
last_tag v places (suc (suc (suc (suc (suc (suc (suc zero))))))) rest h n1 n2 n3 n4 n5 n6 = refl
last_tag v places (suc (suc (suc (suc (suc (suc (suc (suc tag)))))))) rest h n1 n2 n3 n4 n5 n6 =
    absurd (no_err (item_at v places (full v) (full v) ((suc (suc (suc (suc (suc (suc (suc (suc tag)))))))) ∷ rest)) Tag
    (rw (
      le-leb 1 (suc (suc (suc (suc (suc (suc (suc (suc tag)))))))) (omega arith),
      lt-leb (suc (suc (suc (suc (suc (suc (suc (suc tag)))))))) 7 (omega arith),
    ) refl) h)

pub ref_again : (v : FrameVersion) (places : ℕ) (bytes : List ℕ) → IsOk (item_at v places (full v) (full v) bytes)
    → (slice_index bytes 0 ≡ 1 → ⊥) → (slice_index bytes 0 ≡ 2 → ⊥) → (slice_index bytes 0 ≡ 3 → ⊥) → (slice_index bytes 0 ≡ 4 → ⊥)
    → (slice_index bytes 0 ≡ 5 → ⊥) → (slice_index bytes 0 ≡ 6 → ⊥)
    → IsKnown 8 (drop 1 bytes) (RefItem (from_be_bytes w16 (take 2 (drop 1 bytes))) (from_be_bytes w32 (take 4 (drop 2 (drop 1 bytes))))
    (from_be_bytes w16 (take 2 (drop 6 (drop 1 bytes))))) (item_at v places (full v) (full v) bytes)
unfolding item_at such_that bind check done byte
ref_again v places [] h n1 n2 n3 n4 n5 n6 = absurd cc
ref_again v places (b ∷ rest) h n1 n2 n3 n4 n5 n6 =
    let b7 : b ≡ 7 = last_tag v places b rest h n1 n2 n3 n4 n5 n6 in
    let g : IsOk (item_at v places (full v) (full v) (7 ∷ rest)) = rw b7 at h in
    rw b7 (three_numbers v places rest g)
