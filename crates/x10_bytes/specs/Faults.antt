-- What a function of the program answers, beside what reading the bytes gives. Faults F of the program stand for faults E of the definition.
use Rattle.std.specs.Prelude.{◌≡◌, ℕ, List, Option, Some, None, Result, Ok, Err}

-- the fault is that of reading
abbrev pub IsFault : {E Y : Type 0} → Option E → Result Y E → Type 0
IsFault None read = ⊥
IsFault (Some f) read = read ≡ Err f

-- the same, unless memory ran out
abbrev pub IsFaultOrMemory : {E Y : Type 0} → Option E → Result Y E → Type 0
IsFaultOrMemory None read = Unit {0}
IsFaultOrMemory (Some f) read = read ≡ Err f

-- what was answered, seen by view, is what reading gives
abbrev pub Answers : {F E X Y : Type 0} → (F → Option E) → (X → Y) → Result X F → Result Y E
    → Type 0
Answers named view (Ok x) read = read ≡ Ok (view x)
Answers named view (Err e) read = IsFault (named e) read

-- the same, unless memory ran out
abbrev pub Gives : {F E X Y : Type 0} → (F → Option E) → (X → Y) → Result X F → Result Y E → Type 0
Gives named view (Ok x) read = read ≡ Ok (view x)
Gives named view (Err e) read = IsFaultOrMemory (named e) read

-- what was answered is the bytes after what reading gives
abbrev pub Parses : {F E X Y : Type 0} → (F → Option E) → (X → List ℕ) → Result X F
    → Result (Y × List ℕ) E → Type 0
Parses {Y = Y} named rest (Ok x) read = (y : Y) × (read ≡ Ok (y, rest x))
Parses named rest (Err e) read = IsFault (named e) read
