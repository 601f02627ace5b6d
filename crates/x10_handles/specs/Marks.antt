-- The mark by which an open handle is known.
use Rattle.std.specs.Prelude.{ℕ}

-- "Burjeeg1" as a number
abbrev pub the_mark : ℕ
the_mark = 4788859580071634737
