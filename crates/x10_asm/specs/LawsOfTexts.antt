-- Laws of reading and listing.
use Rattle.std.specs.Prelude.{◌≡◌, ℕ, List, Ok}
use Rattle.x10_model.specs.Modules.{Module, FitsImage}
use Rattle.x10_asm.specs.Comments.{said}
use Rattle.x10_asm.specs.Listing.{listing}
use Rattle.x10_asm.specs.Lines.{lines}
use Rattle.x10_asm.specs.Reading.{version_in, module_of}

-- a listing is read again
abbrev pub ListingIsRead : Type 0
ListingIsRead = (m : Module) → FitsImage m → module_of (listing m) ≡ Ok m

-- so is a text that says what a listing says, with comments and blank lines between
abbrev pub CommentedIsRead : Type 0
CommentedIsRead = (m : Module) (text : List ℕ) → FitsImage m → said text ≡ said (listing m)
    → module_of text ≡ Ok m

-- a module that a text spells has an image
abbrev pub SpelledFits : Type 0
SpelledFits = (text : List ℕ) (m : Module) → module_of text ≡ Ok m → FitsImage m

-- the version that a text tells is that of the module that it spells
abbrev pub VersionIsTold : Type 0
VersionIsTold = (text : List ℕ) (m : Module) → module_of text ≡ Ok m
    → m.version ≡ version_in (lines text)
