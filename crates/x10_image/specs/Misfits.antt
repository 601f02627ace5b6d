-- Which part of bytes is refused, and by which fault.
use Rattle.std.specs.Prelude.{◌≡◌, ◌⊎◌, ℕ, List, Some, Ok, length, ◌<◌}
use Rattle.x10_model.specs.Images.{Header}
use Rattle.x10_model.specs.Readers.{times, int, all_of}
use Rattle.x10_model.specs.Modules.{Module}
use Rattle.x10_model.specs.ReadingImages.{Short, Trailing, header_at, class_at, text_at, function_at, parts_at}
use Rattle.x10_model.specs.declared.version.ImageVersion.{ImageVersion}
use Rattle.x10_image.specs.Faults.{named, IsFault}
use Rattle.x10_image.specs.declared.fault.ImageFault.{ImageFault}
use Rattle.x10_image.specs.declared.misfit.Item.{Item}
use Rattle.x10_image.specs.declared.misfit.Item.TheVariants as item

-- behind the header of an image of this version with so many classes, reading this part from these bytes on gives this fault
abbrev pub IsRefused : ImageVersion → ℕ → Item → List ℕ → ImageFault → Type 0
IsRefused version classes item.Header from fault = ⊥
IsRefused version classes (item.Class c) from fault = IsFault (named fault) (class_at classes from)
IsRefused version classes (item.Ints count) from fault =
    IsFault (named fault) (times count (int Short) from)
IsRefused version classes (item.Text t) from fault = IsFault (named fault) (text_at from)
IsRefused version classes (item.Function f) from fault =
    IsFault (named fault) (function_at version classes f from)
IsRefused version classes item.Behind from fault = (named fault ≡ Some Trailing) × (0 < length from)

-- the header at the beginning of the bytes is refused, or it is in order and a part behind it is refused, which is read by what
-- the header says
abbrev pub IsRefusedIn : List ℕ → Item → List ℕ → ImageFault → Type 0
IsRefusedIn bytes part from fault = ((part ≡ item.Header) × (from ≡ bytes)
    × IsFault (named fault) (header_at bytes))
    ⊎ ((header : Header) × (rest : List ℕ) × (header_at bytes ≡ Ok (header, rest))
    × IsRefused header.version header.classes part from fault)

-- the bytes are those of a header and of all the parts that it counts, each in order, and nothing behind; the entry aside
abbrev pub HasWholeParts : List ℕ → Type 0
HasWholeParts bytes = (m : Module) × (all_of parts_at Trailing bytes ≡ Ok m)
