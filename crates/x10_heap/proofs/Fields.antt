-- What is known of an object that is there.
use Rattle.std.specs.Prelude.{◌≡◌, ℕ, ◌<◌, length, Some, slice_get}
use Rattle.x10_model.proofs.Decided.{get_below}
use Rattle.x10_heap.specs.Heaps.{HeapState, ObjectState, HasField}

-- an object that is there has the fields that it is known to have
pub has_field : (h : HeapState) (object field : ℕ) → object < length h.objects
    → ((o : ObjectState) → slice_get h.objects object ≡ Some o → field < length o.fields) → HasField h object field
has_field h object field there long = let at = get_below h.objects object there in record { it = at.0; is_there = at.1; has_it = long at.0 at.1 }
