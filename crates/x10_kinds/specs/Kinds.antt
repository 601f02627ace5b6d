-- Kinds: which value may stand where another kind is asked for, and what two kinds have in common.
use Rattle.std.specs.Prelude.{◌≡◌, Bool, true, false, ◌==◌, Option, Some, None, if◌then◌else◌}
use Rattle.x10_kinds.specs.declared.kind.Kind.{Kind}
use Rattle.x10_kinds.specs.declared.kind.Kind.TheVariants.{Int, Place, Text, Rail, Obj, Opt, GRef}

-- an object may stand where an object of its class or null is asked for; else a kind fits itself alone
abbrev pub Fits : Kind → Kind → Type 0
Fits (Obj have) (Opt want) = have ≡ want
Fits have want = have ≡ want

-- whether two kinds are the same
abbrev pub same_kind : Kind → Kind → Bool
same_kind Int Int = true
same_kind Place Place = true
same_kind Text Text = true
same_kind Rail Rail = true
same_kind (Obj c) (Obj d) = c == d
same_kind (Opt c) (Opt d) = c == d
same_kind (GRef c) (GRef d) = c == d
same_kind _ _ = false

-- the least kind that both fit, if there is one
abbrev pub meet_of : Kind → Kind → Option Kind
meet_of (Obj c) (Opt d) = if c == d then Some (Opt c) else None
meet_of (Opt c) (Obj d) = if c == d then Some (Opt c) else None
meet_of k l = if same_kind k l then Some k else None

-- the kinds of values that stand for a place
abbrev pub has_place : Kind → Bool
has_place Place = true
has_place (GRef c) = true
has_place _ = false
