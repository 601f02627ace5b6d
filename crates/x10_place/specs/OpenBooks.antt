-- The books of finishes that are open, the latest before the others if it lies beside them.
use Rattle.std.specs.Prelude.{◌≡◌, ◌<◌, ◌==◌, ℕ, Bool, true, false, List, ◌∷◌, Option, Some, None, cond, if◌then◌else◌}
use Rattle.std.specs.Ordering.{nat_cmp}
use Rattle.std.specs.BTreeMap.{is_at}
use Rattle.x10_model.specs.declared.finish.Finish.{Finish}
use Rattle.x10_finish.specs.Books.{Kept, IsOpened, MergesCounts}
use Rattle.x10_place.specs.declared.books.Numbered.{Numbered}
use Rattle.x10_place.specs.Stays.{book_at}

abbrev pub listed : Option Numbered → List (ℕ × Kept) → List (ℕ × Kept)
listed None others = others
listed (Some latest) others = (latest.number, latest.book) ∷ others

-- the latest one, where its finish is open
abbrev pub if_open : Bool → Option Numbered → Option Numbered
if_open true latest = latest
if_open false latest = None

-- without the one with a number
abbrev pub without : Option Numbered → ℕ → Option Numbered
without None number = None
without (Some latest) number = if latest.number == number then None else Some latest

-- one book is entered under a number, or goes
abbrev pub Writes : List (ℕ × Kept) → ℕ → Option Kept → List (ℕ × Kept) → Type 0
Writes old k o new = (n : ℕ) → book_at new n ≡ cond (is_at (nat_cmp k) n) o (book_at old n)

-- a book of the finish is entered in which nothing was reported yet
pub record Enters (old : List (ℕ × Kept)) (finish : Finish) (places : ℕ)
    (new : List (ℕ × Kept)) : Type 0 where
  pub book : Kept
  pub is : IsOpened finish places book
  pub writes : Writes old finish.number (Some book) new

-- a book keeps the larger of each number that a place reports, and the others stay
pub record MergesAt (old : List (ℕ × Kept)) (number from : ℕ) (sent received : List ℕ)
    (b : Kept) (new : List (ℕ × Kept)) : Type 0 where
  pub book : Kept
  pub merges : MergesCounts b from sent received book
  pub writes : Writes old number (Some book) new

-- the book with the number does, where there is one
pub record IsMergedAt (old : List (ℕ × Kept)) (number from : ℕ) (sent received : List ℕ)
    (new : List (ℕ × Kept)) : Type 0 where
  pub some : (b : Kept) → book_at old number ≡ Some b → MergesAt old number from sent received b new
  pub none : book_at old number ≡ None → new ≡ old

-- no book with a greater number is there
abbrev pub NoneAbove : ℕ → List (ℕ × Kept) → Type 0
NoneAbove highest books = (n : ℕ) → highest < n → book_at books n ≡ None
