-- How texts lie one after another: each among the bytes of all.
use Rattle.std.specs.Prelude.{◌≡◌, ℕ, ◌-◌, ◌≤◌, List, [], ◌∷◌, length, take, drop}
use Rattle.x10_model.specs.Modules.{FitsText}

-- texts, from the one that starts at the first of the bytes; each ends at its place in `ends`, and places are counted so that
-- the first byte's is `start`
abbrev pub texts_from : (start : ℕ) → (ends bytes : List ℕ) → List (List ℕ)
texts_from start [] bytes = []
texts_from start (to ∷ ends) bytes = take (to - start) bytes ∷ texts_from to ends (drop (to - start) bytes)

-- none ends before it starts, the last ends where the bytes end, and each is UTF-8 of at most 65,535 bytes
abbrev pub AreTexts : (start : ℕ) → (ends bytes : List ℕ) → Type 0
AreTexts start [] bytes = length bytes ≡ 0
AreTexts start (to ∷ ends) bytes = (start ≤ to) × (to - start ≤ length bytes) × FitsText (take (to - start) bytes)
    × AreTexts to ends (drop (to - start) bytes)
