-- An SVG document.
use Rattle.std.specs.Prelude.{◌≡◌, List, ℕ, ◌++◌, codes}

-- how an XML document begins whose root is an SVG 1.1 picture
abbrev pub head : List ℕ
head = codes "<?xml version=\"1.0\" encoding=\"UTF-8\"?>\n<svg xmlns=\"http://www.w3.org/2000/svg\" version=\"1.1\" "

-- how it ends
abbrev pub tail : List ℕ
tail = codes "</svg>\n"

-- a text is an SVG document: between its head and its tail stands something
pub record IsPage (text : List ℕ) : Type 0 where
  pub body : List ℕ
  pub is : text ≡ head ++ (body ++ tail)
