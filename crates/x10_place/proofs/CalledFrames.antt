-- The call frame of a called function: its arguments are in its first registers.
use Rattle.std.proofs.Common.{◌≡◌, ℕ, ◌+◌, ◌<◌, ◌≤◌, List, length, get_or, set, drop, replicate, Some, refl, sym, ap, subst, ◌∙◌, inl, inr, arith, get_or-set_same, get_or-set_other}
use Rattle.std.specs.Prelude.{slice_index, slice_set}
use Rattle.std.specs.List.{refill}
use Rattle.std.proofs.lemmas.Bool.{cases_lt, cases_eq}
use Rattle.std.proofs.lemmas.List.{take_at}
use Rattle.std.proofs.Math.ListN.{length-set}
use Rattle.x10_code.specs.declared.instr.Instr.{Instr}
use Rattle.x10_model.specs.Modules.{Module, Function}
use Rattle.x10_model.specs.Ranges.{function_at}
use Rattle.x10_image.specs.Parts.{Signature, signature_of}
use Rattle.x10_place.specs.declared.call_frame.CallFrame.{CallFrame}
use Rattle.x10_place.specs.Frames.{word_at, IsEntered}

-- so many registers, of which those below n have the words of the caller's from b on
pub record ArgumentsTo (from : List ℕ) (i : Instr) (registers : ℕ) (words : List ℕ) (n : ℕ) : Type 0 where
  pub count : length words ≡ registers
  pub same : (r : ℕ) → r < n → slice_index words r ≡ word_at from (i.b + r)

pub arguments_begin : (from : List ℕ) (i : Instr) (words : List ℕ) → ArgumentsTo from i (length words) words 0
arguments_begin from i words = record { count = refl; same = λ r lt. absurd (omega (arith, lt)) }

-- a slice that comes back with as many words is what the list holds then
pub refilled : (xs ws : List ℕ) → length ws ≡ length xs → refill (length xs) xs ws ≡ ws
refilled xs ws e = take_at ws (drop (length ws) xs) (length xs) e

-- one argument more
arguments_set : (from : List ℕ) (i : Instr) (registers n w : ℕ) (xs : List ℕ) → ArgumentsTo from i registers xs n → n < length xs
    → w ≡ word_at from (i.b + n) → ArgumentsTo from i registers (slice_set xs n w) (n + 1)
arguments_set from i registers n w xs before lt e = record {
  count = simp length-set before.count;
  same = λ r less. elim (cases_eq r n) [
    | inl at ↦ subst (λ q. get_or (set xs n w) q 0 ≡ word_at from (i.b + q)) (sym at) (get_or-set_same xs n w 0 lt ∙ e)
    | inr off ↦ get_or-set_other xs n r w 0 off ∙ before.same r (below r n less off)
  ];
}
  where
    below : (r n : ℕ) → r < n + 1 → (r ≡ n → ⊥) → r < n
    below r n less off = elim (cases_lt r n) [ inl lt ↦ lt | inr ge ↦ absurd (off (omega (arith, ge, less))) ]

pub arguments_more : (from : List ℕ) (i : Instr) (registers n w : ℕ) (xs ys : List ℕ) → ArgumentsTo from i registers xs n → n < length xs → ys ≡ xs
    → w ≡ word_at from (i.b + n) → ArgumentsTo from i registers (refill (length xs) xs (slice_set ys n w)) (n + 1)
arguments_more from i registers n w xs ys before lt same e =
    let is : refill (length xs) xs (slice_set ys n w) ≡ slice_set xs n w =
    refilled xs (slice_set ys n w) (simp length-set (ap length same)) ∙ ap (λ zs. slice_set zs n w) same in
    subst (λ zs. ArgumentsTo from i registers zs (n + 1)) (sym is) (arguments_set from i registers n w xs before lt e)

-- ---- the callee

-- a callee's registers hold its arguments
pub entered : (program image : Module) (from : List ℕ) (i : Instr) (words : List ℕ) (s : Signature) (n count : ℕ) (f : CallFrame) → image ≡ program
    → (g : Function) × (function_at image i.x ≡ Some g) × (s ≡ signature_of g)
    → ArgumentsTo from i count words n → s.registers ≤ count → length s.parameters ≤ n → f.function ≡ i.x → f.pc ≡ 0 → f.registers.items ≡ words
    → f.loops ≡ replicate 8 0 → IsEntered program from i f
entered program image from i words s n count f same g arguments room all function-is pc-is words-are loops-are = record {
  callee = g.0;
  is_callee = subst (λ (m : Module). function_at m i.x ≡ Some g.0) same g.1;
  function_is = function-is;
  pc_is = pc-is;
  registers = (let long : length f.registers.items ≡ count = ap length words-are ∙ arguments.count in
      let same-count : s.registers ≡ g.0.registers = ap (λ (t : Signature). t.registers) g.2 in omega (arith, long, same-count, room));
  arguments = λ r lt. ap (λ ws. slice_index ws r) words-are ∙ arguments.same r
      (let e : length s.parameters ≡ length g.0.parameters = ap (λ (t : Signature). length t.parameters) g.2 in omega (arith, lt, e, all));
  loops_are = loops-are;
}
