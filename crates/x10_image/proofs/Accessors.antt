-- What the parts of a view are, by the module that it shows.
use Rattle.std.proofs.Common.{◌≡◌, ℕ, ℤ, ◌+◌, ◌*◌, ◌^◌, ◌<◌, ◌≤◌, List, [], ◌∷◌, ◌++◌, length, Some, FitsSigned, refl, ap, subst, ◌∙◌, arith, flat_map, slice_get}
use Rattle.std.specs.Prelude.{slice_range, slice_index}
use Rattle.std.specs.List.{AllByRecursion}
use Rattle.std.specs.Int.{w16, w64, to_be_bytes, from_be_bytes, cast_signed, cast_unsigned}
use Rattle.std.proofs.lemmas.Nat.{from_be_bytes-to_be_bytes_8}
use Rattle.std.proofs.lemmas.Int.{to_z-of_z}
use Rattle.std.proofs.Math.Facts.{Fits-of_z, Fits-lt-pow}
use Rattle.x10_kinds.specs.declared.kind.Kind.{Kind}
use Rattle.x10_model.specs.Modules.{Module, FitsImage, FitsClass, FitsText}
use Rattle.x10_model.specs.Images.{kind_bytes, class_bytes, int_bytes, text_bytes, function_bytes, header_of, spelling}
use Rattle.x10_model.proofs.ImageParts.{length-items}
use Rattle.x10_model.proofs.KindLaws.{length-kind_bytes}
use Rattle.x10_image.specs.declared.header.Header.{Header as KeptHeader}
use Rattle.x10_image.specs.Headers.{seen}
use Rattle.x10_image.specs.Views.{module_in, IsView}
use Rattle.x10_bytes.proofs.Parts.{number2_is}
use Rattle.x10_image.specs.Parts.{kinds_in}
use Rattle.x10_image.proofs.Decoded.{kinds_again}
use Rattle.x10_model.proofs.Lists.{all_at}
use Rattle.x10_model.specs.Offsets.{StandsAt, AreAt}
use Rattle.x10_model.proofs.Offsets.{later, narrow, place_small, first_is, range_is, item_at}

-- the view's facts about the module that it shows
pub record Shows (bytes : List ℕ) (header : KeptHeader) (ints : ℕ) (classes texts functions : List ℕ) (m : Module) : Type 0 where
  pub fits : FitsImage m
  pub spelled : bytes ≡ spelling m
  pub header_is : header_of m ≡ seen header
  pub ints_at : StandsAt bytes ints (flat_map int_bytes m.ints)
  pub classes_at : AreAt class_bytes bytes classes m.classes
  pub texts_at : AreAt text_bytes bytes texts m.texts
  pub functions_at : AreAt function_bytes bytes functions m.functions

pub shows : (bytes : List ℕ) (header : KeptHeader) (ints : ℕ) (classes texts functions : List ℕ) (m : Module)
    → IsView bytes header ints classes texts functions → module_in bytes ≡ m → Shows bytes header ints classes texts functions m
shows bytes header ints classes texts functions m v e = subst (Shows bytes header ints classes texts functions) e
    (record {
      fits = v.fits;
      spelled = v.spelled;
      header_is = v.header_is;
      ints_at = v.ints_at;
      classes_at = v.classes_at;
      texts_at = v.texts_at;
      functions_at = v.functions_at;
    })

-- ---- numbers

pub record IsIntAt (bytes : List ℕ) (at : ℕ) (z : ℤ) : Type 0 where
  pub room : at + 8 ≤ length bytes
  pub value : cast_signed w64 (from_be_bytes w64 (slice_range bytes at (at + 8))) ≡ z
  pub fits : FitsSigned w64 z

pub int_at : (bytes : List ℕ) (start at i : ℕ) (zs : List ℤ) → StandsAt bytes start (flat_map int_bytes zs) → AllByRecursion (FitsSigned w64) zs
    → i < length zs → at ≡ start + 8 * i → (z : ℤ) × (slice_get zs i ≡ Some z) × IsIntAt bytes at z
int_at bytes start at i zs s fits lt e =
    let found = item_at int_bytes 8 (λ z. refl) bytes start zs i at e s lt in
    let z = found.0 in
    let fit = all_at (FitsSigned w64) zs i z fits found.1 in
    let range = range_is bytes at (at + 8) (int_bytes z) refl found.2 in (
      z,
      found.1,
      record {
        room = place_small bytes at (int_bytes z) (omega arith) found.2;
        value = ap (λ (t : List ℕ). cast_signed w64 (from_be_bytes w64 t)) range
            ∙ ap (cast_signed w64) (from_be_bytes-to_be_bytes_8 (cast_unsigned w64 z) (Fits-lt-pow {w = w64} (Fits-of_z {w = w64} {z = z} fit)))
            ∙ to_z-of_z w64 z fit;
        fits = fit;
      },
    )

-- ---- texts

pub record IsTextAt (bytes : List ℕ) (at : ℕ) (text : List ℕ) : Type 0 where
  pub count_room : at + 2 ≤ length bytes
  pub count : from_be_bytes w16 (slice_range bytes at (at + 2)) ≡ length text
  pub room : at + 2 + length text ≤ length bytes
  pub range : slice_range bytes (at + 2) (at + 2 + length text) ≡ text

pub text_at : (bytes : List ℕ) (at : ℕ) (text : List ℕ) → FitsText text → StandsAt bytes at (text_bytes text) → IsTextAt bytes at text
unfolding text_bytes
text_at bytes at text fits s =
    let front = narrow bytes at (to_be_bytes w16 (length text)) text s in
    let back = later bytes at 2 (at + 2) (to_be_bytes w16 (length text)) text refl refl s in
    let small : at + (2 + length text) ≤ length bytes = omega (arith, place_small bytes at (to_be_bytes w16 (length text) ++ text) (omega arith) s) in
    record {
      count_room = omega (arith, small);
      count = number2_is bytes at (length text) fits.length front;
      room = omega (arith, small);
      range = range_is bytes (at + 2) (at + 2 + length text) text refl back;
    }

-- ---- classes

pub record IsClassAt (bytes : List ℕ) (at : ℕ) (fields : List Kind) : Type 0 where
  pub room : at + 1 + 3 * slice_index bytes at ≤ length bytes
  pub value : kinds_in (slice_range bytes (at + 1) (at + 1 + 3 * slice_index bytes at)) ≡ fields

pub class_at : (classes : ℕ) (bytes : List ℕ) (at : ℕ) (fields : List Kind) → classes < 2 ^ 16 → FitsClass classes fields
    → StandsAt bytes at (class_bytes fields) → IsClassAt bytes at fields
unfolding class_bytes
class_at classes bytes at fields few fits s =
    let count : slice_index bytes at ≡ length fields = first_is bytes at (length fields) (flat_map kind_bytes fields) s in
    let back = later bytes at 1 (at + 1) (length fields ∷ []) (flat_map kind_bytes fields) refl refl s in
    let long : length (flat_map kind_bytes fields) ≡ 3 * length fields = length-items kind_bytes 3 length-kind_bytes fields in
    let small = place_small bytes at (length fields ∷ flat_map kind_bytes fields) (omega arith) s in
    record {
      room = omega (arith, small, long, count);
      value = ap kinds_in (range_is bytes (at + 1) (at + 1 + 3 * slice_index bytes at) (flat_map kind_bytes fields) (omega (arith, long, count)) back)
          ∙ kinds_again classes fields few fits.kinds;
    }
