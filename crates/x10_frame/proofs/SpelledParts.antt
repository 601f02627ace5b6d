-- Parts that are written one after another.
use Rattle.std.proofs.Common.{◌≡◌, ℕ, ◌+◌, ◌<◌, ◌≤◌, List, [], ◌∷◌, ◌++◌, length, get_or, take, Result, Ok, Err, OnOk, refl, sym, ap, ◌∙◌, append_assoc, take_all, flat_map}
use Rattle.std.proofs.lemmas.List.{take_more, flat_map_more}
use Rattle.x10_model.specs.declared.version.FrameVersion.TheVariants.{Wide}
use Rattle.x10_model.specs.Frames.{item_bytes}
use Rattle.x10_frame.specs.declared.item.Item.{Item}
use Rattle.x10_frame.specs.Items.{item_of}
use Rattle.x10_frame.specs.Writing.{values_bytes}

-- one item more
pub one_more : {X : Type 0} (f : X → List ℕ) (start now new : List ℕ) (xs : List X) (i : ℕ) (x d : X) → i < length xs → x ≡ get_or xs i d
    → now ≡ start ++ flat_map f (take i xs) → new ≡ now ++ f x → new ≡ start ++ flat_map f (take (i + 1) xs)
one_more {X} f start now new xs i x d lt is so_far e =
    e ∙ ap (λ (t : List ℕ). t ++ f x) so_far
    ∙ flat_map_more f start (take i xs) x
    ∙ ap (λ (y : X). start ++ flat_map f (take i xs ++ y ∷ [])) is
    ∙ ap (λ (ys : List X). start ++ flat_map f ys) (sym (take_more xs i d lt))

pub values_are : (xs : List Item) → flat_map (λ x. (item_bytes Wide) (item_of x)) xs ≡ values_bytes xs
values_are [] = refl
values_are (x ∷ xs) = ap (λ (t : List ℕ). item_bytes Wide (item_of x) ++ t) (values_are xs)

pub on_ok : {X E P Q : Type 0} (r : Result X E) → (P → Q) → OnOk r P → OnOk r Q
on_ok (Ok x) next p = next p
on_ok (Err e) next p = tt

-- three parts
pub then_part : (start first now part new : List ℕ) → now ≡ start ++ first → new ≡ now ++ part → new ≡ start ++ (first ++ part)
then_part start first now part new s e = e ∙ ap (λ (t : List ℕ). t ++ part) s ∙ append_assoc start first part

pub all_written : (start now : List ℕ) (xs : List Item) (i : ℕ) → length xs ≤ i
    → now ≡ start ++ flat_map (λ x. (item_bytes Wide) (item_of x)) (take i xs) → now ≡ start ++ values_bytes xs
all_written start now xs i low e =
    e ∙ ap (λ (ys : List Item). start ++ flat_map (λ x. (item_bytes Wide) (item_of x)) ys) (take_all i xs low)
    ∙ ap (λ (t : List ℕ). start ++ t) (values_are xs)
