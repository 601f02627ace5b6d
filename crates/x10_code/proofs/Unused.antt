-- The bits that an operation doesn't use are 0 exactly where its form fits.
use Rattle.std.proofs.Common.{◌≡◌, ℕ, ◌+◌, ◌*◌, ◌<◌, ◌^◌, ◌%◌, true, ◌&&◌, List, take, drop, refl, sym, ap, ap₂, subst, ◌∙◌, arith}
use Rattle.std.specs.Prelude.{◌↔◌, IsTrue, bit_and, slice_index}
use Rattle.std.proofs.lemmas.Bool.{eq-eqb, eqb-true, and_parts, and_from}
use Rattle.std.proofs.lemmas.List.{get_or-drop, get_or-take}
use Rattle.std.proofs.lemmas.Nat.{and_mask, and_block}
use Rattle.byteorder.specs.Endian.{big_number}
use Rattle.x10_code.specs.declared.op.Op.{Op}
use Rattle.x10_code.specs.declared.operands.Operand.{Operand}
use Rattle.x10_code.specs.declared.operands.Operand.TheVariants as operand
use Rattle.x10_code.specs.Table.{form_of}
use Rattle.x10_code.specs.Spelling.{bits_if, fits_form, fits_operand, unused_of}
use Rattle.x10_code.proofs.Instructions.{instr}

and_zero : (n : ℕ) → bit_and n 0 ≡ 0
and_zero n = let e : bit_and n 0 ≡ n % 2 ^ 0 = and_mask n 0 in omega (arith, e)

-- ---- one operand

byte_whole : (n : ℕ) → n < 256 → bit_and n 255 ≡ n
byte_whole n below = let e : bit_and n 255 ≡ n % 256 = and_mask n 8 in omega (arith, e)

word_whole : (n : ℕ) → n < 4294967296 → bit_and n 4294967295 ≡ n
word_whole n below = let e : bit_and n 4294967295 ≡ n % 4294967296 = and_mask n 32 in omega (arith, e)

byte_fits : (o : Operand) (n : ℕ) → n < 256 → (bit_and n (bits_if o 255) ≡ 0) ↔ IsTrue (fits_operand o n)
byte_fits operand.Unused n below = (λ none. eq-eqb n 0 (sym (byte_whole n below) ∙ none), λ is. byte_whole n below ∙ eqb-true n 0 is)
byte_fits _ n below = (λ none. refl, λ is. and_zero n)

word_fits : (o : Operand) (n : ℕ) → n < 4294967296 → (bit_and n (bits_if o 4294967295) ≡ 0) ↔ IsTrue (fits_operand o n)
word_fits operand.Unused n below = (λ none. eq-eqb n 0 (sym (word_whole n below) ∙ none), λ is. word_whole n below ∙ eqb-true n 0 is)
word_fits _ n below = (λ none. refl, λ is. and_zero n)

-- ---- all of them

-- the bits of a byte are those of the byte, moved up
abbrev Moves : Operand → Type 0
Moves o = (bits_if o 0x00ff000000000000 ≡ bits_if o 255 * 0x1000000000000) × (bits_if o 0x0000ff0000000000 ≡ bits_if o 255 * 0x10000000000)
    × (bits_if o 0x000000ff00000000 ≡ bits_if o 255 * 0x100000000) × (bits_if o 255 < 256) × (bits_if o 4294967295 < 4294967296)

moves : (o : Operand) → Moves o
moves operand.Unused = (refl, refl, refl, omega arith, omega arith)
moves _ = (refl, refl, refl, omega arith, omega arith)

-- four bytes and a number of four bytes in one, and the bits of each
apart : (n a b c x k l m y : ℕ) → a < 256 → b < 256 → c < 256 → x < 4294967296 → k < 256 → l < 256 → m < 256 → y < 4294967296
    → bit_and ((((n * 256 + a) * 256 + b) * 256 + c) * 4294967296 + x) (((k * 256 + l) * 256 + m) * 4294967296 + y)
    ≡ ((bit_and a k * 256 + bit_and b l) * 256 + bit_and c m) * 4294967296 + bit_and x y
apart n a b c x k l m y a_below b_below c_below x_below k_below l_below m_below y_below =
    let high : bit_and (n * 256 + a) (0 * 256 + k) ≡ bit_and n 0 * 256 + bit_and a k = and_block 8 n 0 a k a_below k_below in
    let none : bit_and n 0 ≡ 0 = and_zero n in
    let same : k ≡ 0 * 256 + k = omega arith in
    let one : bit_and (n * 256 + a) k ≡ bit_and a k = ap (bit_and (n * 256 + a)) same ∙ high ∙ omega (arith, none) in
    let two : bit_and ((n * 256 + a) * 256 + b) (k * 256 + l) ≡ bit_and (n * 256 + a) k * 256 + bit_and b l =
    and_block 8 (n * 256 + a) k b l b_below l_below in
    let three : bit_and (((n * 256 + a) * 256 + b) * 256 + c) ((k * 256 + l) * 256 + m)
    ≡ bit_and ((n * 256 + a) * 256 + b) (k * 256 + l) * 256 + bit_and c m
    = and_block 8 ((n * 256 + a) * 256 + b) (k * 256 + l) c m c_below m_below in
    let four : bit_and ((((n * 256 + a) * 256 + b) * 256 + c) * 4294967296 + x) (((k * 256 + l) * 256 + m) * 4294967296 + y)
    ≡ bit_and (((n * 256 + a) * 256 + b) * 256 + c) ((k * 256 + l) * 256 + m) * 4294967296 + bit_and x y
    = and_block 32 (((n * 256 + a) * 256 + b) * 256 + c) ((k * 256 + l) * 256 + m) x y x_below y_below in
    four ∙ ap (λ d. d * 4294967296 + bit_and x y) (three ∙ ap (λ d. d * 256 + bit_and c m) (two ∙ ap (λ d. d * 256 + bit_and b l) one))

-- one number has none of some bits where each of its parts has none
none_in : (word n a b c x mask k l m y : ℕ) → a < 256 → b < 256 → c < 256 → x < 4294967296 → k < 256 → l < 256 → m < 256 → y < 4294967296
    → word ≡ (((n * 256 + a) * 256 + b) * 256 + c) * 4294967296 + x → mask ≡ ((k * 256 + l) * 256 + m) * 4294967296 + y
    → (bit_and word mask ≡ 0) ↔ ((bit_and a k ≡ 0) × (bit_and b l ≡ 0) × (bit_and c m ≡ 0) × (bit_and x y ≡ 0))
none_in word n a b c x mask k l m y a_below b_below c_below x_below k_below l_below m_below y_below word_is mask_is =
    let bits : bit_and word mask ≡ ((bit_and a k * 256 + bit_and b l) * 256 + bit_and c m) * 4294967296 + bit_and x y =
    ap₂ bit_and word_is mask_is ∙ apart n a b c x k l m y a_below b_below c_below x_below k_below l_below m_below y_below in (
      λ none.
          let all : ((bit_and a k * 256 + bit_and b l) * 256 + bit_and c m) * 4294967296 + bit_and x y ≡ 0 = sym bits ∙ none in
          (omega (arith, all), omega (arith, all), omega (arith, all), omega (arith, all)),
      λ each. let one = each.0 in let two = each.1 in let three = each.2 in let four = each.3 in bits ∙ omega (arith, one, two, three, four),
    )

-- the bits of an instruction's operands that its operation doesn't use
pub unused_fits : (o : Op) (word n a b c x : ℕ) → a < 256 → b < 256 → c < 256 → x < 4294967296
    → word ≡ (((n * 256 + a) * 256 + b) * 256 + c) * 4294967296 + x
    → (bit_and word (unused_of (form_of o)) ≡ 0) ↔ IsTrue (fits_form (instr o a b c x))
unused_fits o word n a b c x a_below b_below c_below x_below word_is =
    let a_fits = byte_fits (form_of o).a a a_below in
    let b_fits = byte_fits (form_of o).b b b_below in
    let c_fits = byte_fits (form_of o).c c c_below in
    let x_fits = word_fits (form_of o).x x x_below in
    let a_moves = moves (form_of o).a in
    let b_moves = moves (form_of o).b in
    let c_moves = moves (form_of o).c in
    let each = none_in word n a b c x (unused_of (form_of o)) (bits_if (form_of o).a 255) (bits_if (form_of o).b 255) (bits_if (form_of o).c 255)
    (bits_if (form_of o).x 4294967295)
    a_below b_below c_below x_below a_moves.3 b_moves.3 c_moves.3 (moves (form_of o).x).4 word_is
    (omega (arith, a_moves.0, b_moves.1, c_moves.2)) in (
      λ none. let e = each.0 none in and_from _ _ (and_from _ _ (and_from _ _ (a_fits.0 e.0) (b_fits.0 e.1)) (c_fits.0 e.2)) (x_fits.0 e.3),
      λ fits.
          let one = and_parts (fits_operand (form_of o).a a && fits_operand (form_of o).b b && fits_operand (form_of o).c c)
          (fits_operand (form_of o).x x) fits in
          let two = and_parts (fits_operand (form_of o).a a && fits_operand (form_of o).b b) (fits_operand (form_of o).c c) one.0 in
          let three = and_parts (fits_operand (form_of o).a a) (fits_operand (form_of o).b b) two.0 in
          each.1 (a_fits.1 three.0, b_fits.1 three.1, c_fits.1 two.1, x_fits.1 one.1),
    )

-- the last four of eight bytes
last_four : (bytes : List ℕ) (i : ℕ) → i < 4 → slice_index (take 4 (drop 4 bytes)) i ≡ slice_index bytes (4 + i)
last_four bytes i below = get_or-take 4 (drop 4 bytes) i 0 below ∙ get_or-drop 4 bytes i 0

pub last_below : (bytes : List ℕ) → ((k : ℕ) → slice_index bytes k < 256) → big_number 4 (take 4 (drop 4 bytes)) < 4294967296
last_below bytes fits =
    omega (
      arith,
      last_four bytes 0 (omega arith),
      last_four bytes 1 (omega arith),
      last_four bytes 2 (omega arith),
      last_four bytes 3 (omega arith),
      fits 4,
      fits 5,
      fits 6,
      fits 7,
    )

-- a first byte, three more and four of x, as one number
as_one : (bytes : List ℕ) (word x : ℕ) → word ≡ big_number 8 bytes → x ≡ big_number 4 (take 4 (drop 4 bytes))
    → word ≡ (((slice_index bytes 0 * 256 + slice_index bytes 1) * 256 + slice_index bytes 2) * 256 + slice_index bytes 3) * 4294967296 + x
as_one bytes word x word_is x_is =
    omega (
      arith,
      word_is,
      x_is,
      last_four bytes 0 (omega arith),
      last_four bytes 1 (omega arith),
      last_four bytes 2 (omega arith),
      last_four bytes 3 (omega arith),
    )

-- whether eight bytes fit their operation's form is one look at them as one number
pub read_fits : (bytes : List ℕ) (o : Op) (word mask x : ℕ) → ((k : ℕ) → slice_index bytes k < 256) → word ≡ big_number 8 bytes
    → x ≡ big_number 4 (take 4 (drop 4 bytes))
    → mask ≡ unused_of (form_of o) → (bit_and word mask ≡ 0) ↔ IsTrue
    (fits_form (instr o (slice_index bytes 1) (slice_index bytes 2) (slice_index bytes 3) x))
read_fits bytes o word mask x fits word_is x_is mask_is =
    subst (λ m. (bit_and word m ≡ 0) ↔ IsTrue (fits_form (instr o (slice_index bytes 1) (slice_index bytes 2) (slice_index bytes 3) x))) (sym mask_is)
    (unused_fits o word (slice_index bytes 0) (slice_index bytes 1) (slice_index bytes 2) (slice_index bytes 3) x (fits 1) (fits 2) (fits 3)
    (subst (λ n. n < 4294967296) (sym x_is) (last_below bytes fits)) (as_one bytes word x word_is x_is))
