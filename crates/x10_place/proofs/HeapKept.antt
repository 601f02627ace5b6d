-- The operations of one call frame that leave the heap as it is.
use Rattle.std.proofs.Common.{◌≡◌, ℤ, Bool, true, false, Option, Some, None}
use Rattle.std.specs.Prelude.{◌==◌}
use Rattle.x10_code.specs.declared.instr.Instr.{Instr}
use Rattle.x10_model.specs.Modules.{Module}
use Rattle.x10_place.specs.declared.route.Local.{Local}
use Rattle.x10_place.specs.declared.route.Local.TheVariants as local
use Rattle.x10_place.specs.Frames.{Workspace, Acts, Takes, CopiesUnless, word_at}

abbrev pub Keeps : Local → Type 0
Keeps local.SetField = ⊥
Keeps local.SetByte = ⊥
Keeps _ = Unit {0}

pub heap_kept : (l : Local) (program : Module) (w : Workspace) (i : Instr) (v : Workspace) → Keeps l → Acts l program w i v → v.heap ≡ w.heap
heap_kept (local.Number n) program w i v keeps acts = acts.2.2.heap_is
heap_kept (local.Partial d) program w i v keeps acts = taken acts.0 acts.2
  where
    taken : (z : Option ℤ) → Takes w i z v → v.heap ≡ w.heap
    taken None t = t.heap_is
    taken (Some z) t = t.2.heap_is
heap_kept local.NotNull program w i v keeps acts = copied (word_at w.words i.b == 0) acts
  where
    copied : (b : Bool) → CopiesUnless b w i v → v.heap ≡ w.heap
    copied true c = c.heap_is
    copied false c = c.heap_is
heap_kept local.GetField program w i v keeps acts = acts.becomes.heap_is
heap_kept local.SetField program w i v keeps acts = absurd keeps
heap_kept local.SetByte program w i v keeps acts = absurd keeps
heap_kept local.Open program w i v keeps acts = acts.2.heap_is
heap_kept _ program w i v keeps acts = acts.heap_is
