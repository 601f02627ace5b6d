-- A view of an image: its bytes, and where its parts begin.
use Rattle.std.specs.Prelude.{◌≡◌, ℕ, List, [], Result, Ok, Err}
use Rattle.std.specs.List.{flat_map}
use Rattle.x10_model.specs.declared.version.ImageVersion.TheVariants.{One}
use Rattle.x10_model.specs.Modules.{Module, FitsImage}
use Rattle.x10_model.specs.Images.{class_bytes, int_bytes, text_bytes, function_bytes, header_of, spelling}
use Rattle.x10_model.specs.ReadingImages.{ImageFault, module_at}
use Rattle.x10_model.specs.Offsets.{StandsAt, AreAt}
use Rattle.x10_image.specs.declared.header.Header.{Header}
use Rattle.x10_image.specs.Headers.{seen}

abbrev pub read_or_empty : Result Module ImageFault → Module
read_or_empty (Ok m) = m
read_or_empty (Err fault) = record {
  version = One;
  least_places = 0;
  classes = [];
  ints = [];
  texts = [];
  functions = [];
  entry = 0;
}

-- the module that the bytes decode to
unfoldable pub module_in : List ℕ → Module
module_in bytes = read_or_empty (module_at bytes)

-- the bytes are a module's image, and the tables say where its parts begin
pub record IsView (bytes : List ℕ) (header : Header) (ints : ℕ)
    (classes texts functions : List ℕ) : Type 0 where
  pub fits : FitsImage (module_in bytes)
  pub spelled : bytes ≡ spelling (module_in bytes)
  pub header_is : header_of (module_in bytes) ≡ seen header
  pub ints_at : StandsAt bytes ints (flat_map int_bytes (module_in bytes).ints)
  pub classes_at : AreAt class_bytes bytes classes (module_in bytes).classes
  pub texts_at : AreAt text_bytes bytes texts (module_in bytes).texts
  pub functions_at : AreAt function_bytes bytes functions (module_in bytes).functions
