use Rattle.std.proofs.Common.{◌≡◌, ◌+◌, ◌-◌, ◌<◌, ◌≤◌, arith, List, ℕ, length, sym, subst, refl, ◌∙◌, rules}
use Rattle.x10_place.specs.Frames.{Acts, workspace, space_of, with_space, IsWithin, IsFetched}
use Rattle.x10_place.specs.WorkingStays.{IsTypedFrame}
use Rattle.x10_place.specs.Stretches.{Locally, none, more}
use Rattle.x10_place.proofs.CalledFrames.{refilled}
use Rattle.x10_place.proofs.FetchedInstructions.{function_within, fetched_within, next_small, local_next, local_asks, local_within}
use Rattle.x10_place.proofs.GoingOn.{frame_typed}
use Rattle.x10_place.proofs.HeapReads.{frame_reads}
use Rattle.x10_place.proofs.call_frame.CallFrame.run_instructions.Goals as goal

-- ---- how many were made, by how many are left

none_made : (most : ℕ) → 0 ≡ most - most
none_made most = omega arith

one_more : (most left : ℕ) → left ≤ most → 0 < left → most - left + 1 ≡ most - (left - 1)
one_more most left l some = omega (arith, l, some)

pub loop-left-init : goal.loop-left-init
loop-left-init c = (
  subst (λ (ws : List ℕ). IsWithin c.args.verified.now.program c.args.self.now.function c.args.self.now.pc (length ws))
      (sym c.as_mut_slice-registers.ensures.value) c.requires.inside,
  subst (λ (ws : List ℕ). IsTypedFrame c.args.verified.now.program c.args.heap.now
      (with_space c.args.self.now (workspace c.args.self.now.pc ws c.args.self.now.loops c.args.heap.now)))
      (sym c.as_mut_slice-registers.ensures.value) c.requires.typed,
  subst (λ n. Locally c.args.verified.now.program c.args.self.now.function (space_of c.args.self.now c.args.heap.now) n
      (workspace c.args.self.now.pc c.as_mut_slice-registers.result.now c.args.self.now.loops c.args.heap.now)) (none_made c.args.most)
      (subst (λ (ws : List ℕ). Locally c.args.verified.now.program c.args.self.now.function (space_of c.args.self.now c.args.heap.now) 0
      (workspace c.args.self.now.pc ws c.args.self.now.loops c.args.heap.now)) (sym c.as_mut_slice-registers.ensures.value) none),
  omega arith,
)

pub fetch_from-instr-requires-clause-function : goal.fetch_from-instr-requires-clause-function
fetch_from-instr-requires-clause-function c = function_within c.args.verified.now.program c.args.self.now.function c.args.self.now.pc _
    c.from-function.result c.requires.inside c.from-function.ensures

pub act-jump-requires-clause-asks : goal.act-jump-requires-clause-asks
act-jump-requires-clause-asks c =
    let fetched : IsFetched c.args.verified.now.program c.args.self.now.function c.loop-left.pc
    (length c.loop-left.registers) c.fetch_from-instr.result =
    fetched_within c.args.verified.now.program c.args.self.now.function c.loop-left.pc
    (length c.loop-left.registers) c.from-function.result c.from.result c.fetch_from-instr.result c.certificate.ensures.fits
    c.loop-left.invariant.0
    (record {
      function_is = c.from-function.ensures;
      pc_is = c.from.ensures;
      value = c.fetch_from-instr.ensures.value;
      in_range = c.fetch_from-instr.ensures.in_range;
      follows = c.fetch_from-instr.ensures.follows;
    }) in
    local_asks c.args.verified.now.program c.args.self.now.function c.loop-left.pc
    (length c.loop-left.registers) c.fetch_from-instr.result fetched c.in-Local.local (sym c.classify.ensures ∙ c.in-Local.is)

pub act-jump-requires-clause-reads : goal.act-jump-requires-clause-reads
act-jump-requires-clause-reads c =
    let fetched : IsFetched c.args.verified.now.program c.args.self.now.function c.loop-left.pc
    (length c.loop-left.registers) c.fetch_from-instr.result =
    fetched_within c.args.verified.now.program c.args.self.now.function c.loop-left.pc
    (length c.loop-left.registers) c.from-function.result c.from.result c.fetch_from-instr.result c.certificate.ensures.fits
    c.loop-left.invariant.0
    (record {
      function_is = c.from-function.ensures;
      pc_is = c.from.ensures;
      value = c.fetch_from-instr.ensures.value;
      in_range = c.fetch_from-instr.ensures.in_range;
      follows = c.fetch_from-instr.ensures.follows;
    }) in
    frame_reads c.args.verified.now.program c.loop-left.heap (with_space c.args.self.now
    (workspace c.loop-left.pc c.loop-left.registers c.loop-left.loops c.loop-left.heap)) c.loop-left.invariant.1 c.fetch_from-instr.result fetched
    c.in-Local.local (sym c.classify.ensures ∙ c.in-Local.is)

pub landing-pc-requires : goal.landing-pc-requires
landing-pc-requires c =
    let fetched : IsFetched c.args.verified.now.program c.args.self.now.function c.loop-left.pc
    (length c.loop-left.registers) c.fetch_from-instr.result =
    fetched_within c.args.verified.now.program c.args.self.now.function c.loop-left.pc
    (length c.loop-left.registers) c.from-function.result c.from.result c.fetch_from-instr.result c.certificate.ensures.fits
    c.loop-left.invariant.0
    (record {
      function_is = c.from-function.ensures;
      pc_is = c.from.ensures;
      value = c.fetch_from-instr.ensures.value;
      in_range = c.fetch_from-instr.ensures.in_range;
      follows = c.fetch_from-instr.ensures.follows;
    }) in
    next_small c.args.verified.now.program c.args.self.now.function c.loop-left.pc (length c.loop-left.registers) c.fetch_from-instr.result fetched
    (local_next c.args.verified.now.program c.args.self.now.function c.loop-left.pc
    (length c.loop-left.registers) c.fetch_from-instr.result fetched c.in-Local.local (sym c.classify.ensures ∙ c.in-Local.is))

pub loop-left-preserved : goal.loop-left-preserved
loop-left-preserved c =
    let fetched : IsFetched c.args.verified.now.program c.args.self.now.function c.loop-left.pc
    (length c.loop-left.registers) c.fetch_from-instr.result =
    fetched_within c.args.verified.now.program c.args.self.now.function c.loop-left.pc
    (length c.loop-left.registers) c.from-function.result c.from.result c.fetch_from-instr.result c.certificate.ensures.fits
    c.loop-left.invariant.0
    (record {
      function_is = c.from-function.ensures;
      pc_is = c.from.ensures;
      value = c.fetch_from-instr.ensures.value;
      in_range = c.fetch_from-instr.ensures.in_range;
      follows = c.fetch_from-instr.ensures.follows;
    }) in
    let route_is = sym c.classify.ensures ∙ c.in-Local.is in
    let acts : Acts c.in-Local.local c.args.verified.now.program (workspace c.loop-left.pc c.loop-left.registers c.loop-left.loops c.loop-left.heap)
    c.fetch_from-instr.result (workspace c.landing-pc.result c.act-jump.new.registers c.act-jump.new.loops c.act-jump.new.heap) =
    subst (λ n. Acts c.in-Local.local c.args.verified.now.program (workspace c.loop-left.pc c.loop-left.registers c.loop-left.loops c.loop-left.heap)
    c.fetch_from-instr.result (workspace n c.act-jump.new.registers c.act-jump.new.loops c.act-jump.new.heap))
    (sym c.landing-pc.ensures) (c.act-jump.ensures c.loop-left.pc) in
    let before = workspace c.loop-left.pc c.loop-left.registers c.loop-left.loops c.loop-left.heap in
    let after = workspace c.landing-pc.result c.act-jump.new.registers c.act-jump.new.loops c.act-jump.new.heap in (
      local_within c.args.verified.now.program c.args.self.now.function before c.fetch_from-instr.result fetched c.in-Local.local after route_is
          acts,
      frame_typed c.args.verified.now.program (with_space c.args.self.now before)
          (with_space c.args.self.now after) c.loop-left.heap c.act-jump.new.heap c.fetch_from-instr.result c.in-Local.local c.loop-left.invariant.1
          fetched route_is refl acts,
      subst (λ n. Locally c.args.verified.now.program c.args.self.now.function (space_of c.args.self.now c.args.heap.now) n after)
          (one_more c.args.most c.loop-left.left c.loop-left.invariant.3 (let some : 0 < c.loop-left.left = search rules in some))
          (more (c.args.most - c.loop-left.left) before after c.loop-left.invariant.2
          (record { instr = c.fetch_from-instr.result; fetched = fetched; local = c.in-Local.local; route_is = route_is; acts = acts })),
      omega (arith, c.loop-left.invariant.3),
    )

pub returns-in_default-clause-next : goal.returns-in_default-clause-next
returns-in_default-clause-next c =
    let fetched : IsFetched c.args.verified.now.program c.args.self.now.function c.loop-left.pc
    (length c.loop-left.registers) c.fetch_from-instr.result =
    fetched_within c.args.verified.now.program c.args.self.now.function c.loop-left.pc
    (length c.loop-left.registers) c.from-function.result c.from.result c.fetch_from-instr.result c.certificate.ensures.fits
    c.loop-left.invariant.0
    (record {
      function_is = c.from-function.ensures;
      pc_is = c.from.ensures;
      value = c.fetch_from-instr.ensures.value;
      in_range = c.fetch_from-instr.ensures.in_range;
      follows = c.fetch_from-instr.ensures.follows;
    }) in
    let same : length c.loop-left.registers ≡ length c.args.self.now.registers.items = search rules in
    subst (λ (ws : List ℕ). IsFetched c.args.verified.now.program c.args.self.now.function c.loop-left.pc (length ws) c.fetch_from-instr.result)
    (sym (refilled c.args.self.now.registers.items c.loop-left.registers same)) fetched
