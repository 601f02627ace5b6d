-- An operation of a call frame alone: what the program makes of the frame and the heap, the machine makes too.
use Rattle.std.proofs.Common.{◌≡◌, ℕ, refl, subst}
use Rattle.x10_code.specs.declared.op.Op.{Op}
use Rattle.x10_code.specs.declared.op.Op.TheVariants as op
use Rattle.x10_model.specs.Maps.{IsIn}
use Rattle.x10_model.specs.Assignments.{State, Edges, Permits, Reaches}
use Rattle.x10_heap.specs.Heaps.{HeapState}
use Rattle.x10_heap.specs.Words.{HoldsHeap}
use Rattle.x10_place.specs.declared.call_frame.CallFrame.{CallFrame}
use Rattle.x10_place.specs.declared.route.Local.{Local}
use Rattle.x10_place.specs.declared.route.Local.TheVariants as local
use Rattle.x10_place.specs.declared.route.Route.TheVariants as route
use Rattle.x10_place.specs.Frames.{space_of, Acts}
use Rattle.x10_place.specs.Routes.{route_of}
use Rattle.x10_place.specs.StandsFor.{context, HoldsExports, IsWithinPlaces}
use Rattle.x10_place.proofs.Framed.{point_of, rule}
use Rattle.x10_place.proofs.FrameMoves.{Fetched, context_at, Done}
use Rattle.x10_place.proofs.Local.{local_moves}
use Rattle.x10_place.proofs.Made.{put_moves, rset_moves}

-- ---- an operation of a call frame alone

module _ (fetch : Fetched) (held : HoldsHeap (context_at fetch) fetch.m.cells) (exported : HoldsExports fetch.heap fetch.m.exports)
    (locality : IsWithinPlaces fetch.setting.program fetch.here fetch.setting.places) where
  open fetch use {setting, here, far, s, assigned, heap, f, h, i, fetched}

  local_by : (g : CallFrame) (new : HeapState) (l : Local) (o : Op) (out : Edges) → i.op ≡ o → route_of o ≡ route.Local l → g.function ≡ f.function
      → Acts l setting.program (space_of f heap) i (space_of g new)
      → Permits o (point_of setting.program h.function f i) h.state out
      → ((edge : ℕ × State) → IsIn edge out → Reaches (assigned f.function h.function h.is_function).0 edge)
      → Done fetch o g new
  local_by g new l op.Put out e r same acts permits edges =
      put_moves fetch held exported g new out same edges e permits
      (subst (λ k. Acts k setting.program (space_of f heap) i (space_of g new)) (let k : l ≡ local.SetField = cc in k) acts)
  local_by g new l op.Rset out e r same acts permits edges =
      rset_moves fetch held exported g new out same edges permits
      (subst (λ k. Acts k setting.program (space_of f heap) i (space_of g new)) (let k : l ≡ local.SetByte = cc in k) acts)
  local_by g new l o out e r same acts permits edges = local_moves fetch held exported locality l g new
      out same edges acts o e (λ q. absurd cc) (λ q. absurd cc) r permits

  pub local_done : (g : CallFrame) (new : HeapState) (l : Local) → route_of i.op ≡ route.Local l → g.function ≡ f.function
      → Acts l setting.program (space_of f heap) i (space_of g new) → Done fetch i.op g new
  local_done g new l r same acts = let at = rule setting.program assigned (context setting here heap far) f s.top h i fetched in
      local_by g new l i.op at.0 refl r same acts at.1 at.2
