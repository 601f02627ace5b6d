-- What the pointer of a handle owns.
use Rattle.std.specs.Prelude.{Option, Some, None}
use base.Fml.{Fml, ftrue}
use denote.RawPtr.{Ptr}
use mir.Syntax.{Ty}
use Rattle.std.specs.Box.Ownership.{box_owns}
use Rattle.std.specs.Global.{Global}
use Rattle.std_heap.specs.contracts.GlobalAllocator.TheImpl.{ghosts}
use Rattle.x10_handles.specs.contracts.inside.Inside as inside

-- the heap of the C library: `Global` has this value alone
abbrev pub the_heap : Global
the_heap = record { memory = record { seal = tt } }

-- the right to free a block of the heap
abbrev pub token : Ty → Ptr → Fml
token = ghosts.dealloc_token the_heap

-- that of a closed handle owns nothing, that of an open one its block, with the right to free it
abbrev pub holds : Ptr → Option inside.the_row.Denot → Fml
holds p None = ftrue
holds p (Some x) = box_owns token inside.the_row p x
