-- The potential falls with every step.
use Rattle.std.proofs.Common.{◌≡◌, ◌≢◌, ℕ, zero, suc, ◌+◌, ◌-◌, ◌*◌, ◌<◌, ◌≤◌, ◌==◌, ◌&&◌, Bool, true, false, List, [], ◌∷◌, ◌++◌, length, Option, Some, None, refl, sym, ap, subst, ◌∙◌, add-one, arith}
use Rattle.std.specs.Prelude.{slice_get, slice_index, nat_lt, nat_le, if◌then◌else◌}
use Rattle.std.proofs.lemmas.Option.{slice_get_within}
use Rattle.std.proofs.lemmas.Bool.{eqb-true, ne_eqb, ltb-true, leb-true, and_parts}
use Rattle.x10_code.specs.declared.op.Op.{Op}
use Rattle.x10_code.specs.declared.op.Op.TheVariants as op
use Rattle.x10_code.specs.declared.instr.Instr.{Instr}
use Rattle.x10_code.specs.Table.{form_of}
use Rattle.x10_model.specs.Maps.{with_entry}
use Rattle.x10_model.specs.Structure.{Region, Turning, Waiting, Atomic, opener_of, outside, regions_after, around, nests, depth_of, is_target, jumps_well, jumps_forward, jumps_back, has_slot, leaves_loops, is_call, cost, nesting_fault, or_else}
use Rattle.x10_model.proofs.Decided.{get_below}
use Rattle.x10_bounds.specs.Spots.{begins_before}
use Rattle.x10_bounds.specs.Potential.{inner, outer, total, levels_before, levels_from, pending, potential, IsStructured, PotentialFalls}
use Rattle.x10_bounds.proofs.Changes as nest
use Rattle.x10_bounds.proofs.Changes.{Nested}
use Rattle.x10_bounds.proofs.FirstFailure.{none_fails}
use Rattle.x10_bounds.proofs.Around.{left, AllFrom, IsLater, is_later, leaves-around, same_kept}
use Rattle.x10_bounds.proofs.Levels.{AllNest, levels-at, parted, begins_at}
use Rattle.x10_bounds.proofs.Spots.{around-more}
use Rattle.x10_bounds.proofs.Turns.{IsTail, AreOpened, tails, all_opened}

-- ---- what the structure says of an instruction

first_none : (o p : Option ℕ) → or_else o p ≡ None → o ≡ None
first_none None p e = refl
first_none (Some n) p e = absurd cc

pub all_nest : (code : List Instr) → nesting_fault code ≡ None → AllNest code
all_nest code none pc i at = none_fails (λ n j. nests j.op (around code n)) code pc i (first_none _ _ none) at

some_cost : (earlier : List ℕ) (i : Instr) → 1 ≤ cost earlier i
some_cost earlier i = go (is_call i.op)
  where
    go : (b : Bool) → 1 ≤ (if b then 1 + slice_index earlier i.x else 1)
    go true = omega arith
    go false = omega arith

below_length : (code : List Instr) (pc : ℕ) (i : Instr) → slice_get code pc ≡ Some i → pc ≤ length code
below_length code pc i at = omega (arith, slice_get_within code pc i at)

-- ---- levels

total_onward : (earlier : List ℕ) (o : Op) (i : Instr) (ls : List ℕ) → o ≢ op.Loop → o ≢ op.Endl
    → total (levels_before earlier o i ls) ≡ cost earlier i + total ls
total_onward earlier op.Loop i ls a b = absurd (a refl)
total_onward earlier op.Endl i ls a b = absurd (b refl)
total_onward earlier o i ls a b = omega (arith, parted ls)

pending_onward : (earlier : List ℕ) (code : List Instr) (slots : ℕ → ℕ) (o : Op) (pc : ℕ) (i : Instr) (rs after : List Region) → o ≢ op.Loop
    → o ≢ op.Endl → Nested pc i o rs after → pending earlier code slots after ≡ pending earlier code slots rs
pending_onward earlier code slots op.Loop pc i rs after a b (nest.opens_loop xs) = absurd (a refl)
pending_onward earlier code slots op.Endl pc i rs after a b (nest.closes_loop o l xs) = absurd (b refl)
pending_onward earlier code slots o pc i rs after a b (nest.no_loop p xs ys c d s) =
    sym (nest.kept (pending earlier code slots) (λ o zs. refl) (λ o zs. refl) pc xs ys s)

-- a slot that no loop around uses
pending_other : (earlier : List ℕ) (code : List Instr) (slots : ℕ → ℕ) (k v : ℕ) (rs : List Region) → depth_of rs ≤ k
    → pending earlier code (with_entry slots k v) rs ≡ pending earlier code slots rs
pending_other earlier code slots k v [] le = refl
pending_other earlier code slots k v (Turning o l ∷ rs) le =
    let ne : (depth_of rs == k) ≡ false = ne_eqb (depth_of rs) k (λ e. absurd (omega (arith, e, le))) in
    let rest : pending earlier code (with_entry slots k v) rs ≡ pending earlier code slots rs =
    pending_other earlier code slots k v rs (omega (arith, le)) in
    ap (λ b. ((if b then v else slots (depth_of rs)) - 1) * inner (levels_from earlier code (o + 1)) + pending earlier code (with_entry slots k v) rs)
    ne
    ∙ ap (λ n. (slots (depth_of rs) - 1) * inner (levels_from earlier code (o + 1)) + n) rest
pending_other earlier code slots k v (Waiting o ∷ rs) le = pending_other earlier code slots k v rs le
pending_other earlier code slots k v (Atomic o ∷ rs) le = pending_other earlier code slots k v rs le

at_slot : (slots : ℕ → ℕ) (k v : ℕ) → with_entry slots k v k ≡ v
at_slot slots k v = let e : (k == k) ≡ true = grind arith in ap (λ b. if b then v else slots k) e

-- ---- onward

pub falls_onward : (earlier : List ℕ) (code : List Instr) (pc : ℕ) (i : Instr) (slots : ℕ → ℕ) → AllNest code → slice_get code pc ≡ Some i
    → i.op ≢ op.Loop → i.op ≢ op.Endl → potential earlier code (pc + 1) slots + cost earlier i ≡ potential earlier code pc slots
falls_onward earlier code pc i slots fit at a b =
    let t : total (levels_from earlier code pc) ≡ cost earlier i + total (levels_from earlier code (pc + 1)) =
    ap total (levels-at earlier code pc i at) ∙ total_onward earlier i.op i (levels_from earlier code (pc + 1)) a b in
    let p : pending earlier code slots (around code (pc + 1)) ≡ pending earlier code slots (around code pc) =
    ap (pending earlier code slots) (around-more code pc i at)
    ∙ pending_onward earlier code slots i.op pc i (around code pc) _ a b (nest.nested i.op pc i (around code pc) (fit pc i at)) in
    omega (arith, t, p)

-- ---- loops

loop_numbers : (x h h2 r p q : ℕ) → 1 ≤ x → q ≡ p → (h + (h2 + r)) + ((x - 1) * h + q) + 1 ≤ ((1 + x * h + h2) + r) + p
loop_numbers zero h h2 r p q some e = absurd (omega (arith, some))
loop_numbers (suc x) h h2 r p q some e = let n : suc x - 1 ≡ x = omega arith in rw n (loop_sum x h h2 r p q e)
  where
    loop_sum : (x h h2 r p q : ℕ) → q ≡ p → (h + (h2 + r)) + (x * h + q) + 1 ≤ ((1 + suc x * h + h2) + r) + p
    loop_sum x h h2 r p q e = let m : suc x * h ≡ h + x * h = grind arith in omega (arith, e, m)

total_two : (ls : List ℕ) → inner ls + (inner (outer ls) + total (outer (outer ls))) ≡ total ls
total_two ls = ap (λ n. inner ls + n) (parted (outer ls)) ∙ parted ls

falls_in_loop : (earlier : List ℕ) (code : List Instr) (pc : ℕ) (i : Instr) (slots : ℕ → ℕ) (ls : List ℕ) (rs : List Region)
    → ls ≡ levels_from earlier code (pc + 1) → i.a ≡ depth_of rs → 1 ≤ i.x
    → total ls + pending earlier code (with_entry slots i.a i.x) (Turning pc i.x ∷ rs) + 1
    ≤ total (levels_before earlier op.Loop i ls) + pending earlier code slots rs
falls_in_loop earlier code pc i slots ls rs e slot some =
    let same : pending earlier code (with_entry slots i.a i.x) rs ≡ pending earlier code slots rs =
    pending_other earlier code slots i.a i.x rs (omega (arith, slot)) in
    let h : inner (levels_from earlier code (pc + 1)) ≡ inner ls = ap inner (sym e) in
    let turns : with_entry slots i.a i.x (depth_of rs) ≡ i.x = ap (λ k. with_entry slots i.a i.x k) (sym slot) ∙ at_slot slots i.a i.x in
    rw (← total_two ls, h, turns) (loop_numbers i.x (inner ls) (inner (outer ls)) (total (outer (outer ls))) (pending earlier code slots rs)
    (pending earlier code (with_entry slots i.a i.x) rs) some same)

record OpensLoop (i : Instr) (rs : List Region) : Type 0 where
  slot : i.a ≡ depth_of rs
  some : 1 ≤ i.x

opens_loop : (loops : ℕ) (rs : List Region) (i : Instr) → has_slot loops rs i op.Loop ≡ true → OpensLoop i rs
opens_loop loops rs i e =
    let h = and_parts (i.a == depth_of rs && nat_lt i.a loops && nat_le 1 i.x) (nat_le i.x 65535) e in
    let k = and_parts (i.a == depth_of rs && nat_lt i.a loops) (nat_le 1 i.x) h.0 in
    let l = and_parts (i.a == depth_of rs) (nat_lt i.a loops) k.0 in
    record { slot = eqb-true i.a (depth_of rs) l.0; some = leb-true 1 i.x k.1 }

slot_holds : (loops : ℕ) (code : List Instr) (pc : ℕ) (i : Instr) (o : Op) → IsStructured loops code → slice_get code pc ≡ Some i → i.op ≡ o
    → has_slot loops (around code pc) i o ≡ true
slot_holds loops code pc i o s at is = subst (λ p. has_slot loops (around code pc) i p ≡ true) is
    (none_fails (λ n j. has_slot loops (around code n) j j.op) code pc i s.slots at)

pub falls_loop : (loops : ℕ) (earlier : List ℕ) (code : List Instr) (pc : ℕ) (i : Instr) (slots : ℕ → ℕ) → IsStructured loops code
    → slice_get code pc ≡ Some i → i.op ≡ op.Loop
    → potential earlier code (pc + 1) (with_entry slots i.a i.x) + 1 ≤ potential earlier code pc slots
falls_loop loops earlier code pc i slots s at is =
    let o = opens_loop loops (around code pc) i (slot_holds loops code pc i op.Loop s at is) in
    let before : levels_from earlier code pc ≡ levels_before earlier op.Loop i (levels_from earlier code (pc + 1)) =
    levels-at earlier code pc i at ∙ ap (λ p. levels_before earlier p i (levels_from earlier code (pc + 1))) is in
    let next : around code (pc + 1) ≡ Turning pc i.x ∷ around code pc =
    around-more code pc i at ∙ ap (λ p. regions_after p pc i (around code pc)) is in
    subst (λ rs. total (levels_from earlier code (pc + 1)) + pending earlier code (with_entry slots i.a i.x) rs + 1 ≤ potential earlier code pc slots)
    (sym next)
    (subst (λ ls. total (levels_from earlier code (pc + 1)) + pending earlier code (with_entry slots i.a i.x) (Turning pc i.x ∷ around code pc) + 1
    ≤ total ls + pending earlier code slots (around code pc)) (sym before)
    (falls_in_loop earlier code pc i slots (levels_from earlier code (pc + 1)) (around code pc) refl o.slot o.some))

-- ---- the ends of loops

-- an ENDL stands in a loop, whose slot and whose first instruction it names
pub record ClosesLoop (code : List Instr) (i : Instr) (pc : ℕ) : Type 0 where
  pub opener : ℕ
  pub limit : ℕ
  pub rs : List Region
  pub inside : around code pc ≡ Turning opener limit ∷ rs
  pub slot : i.a ≡ depth_of rs
  pub back : i.x ≡ opener + 1

closes_in : (loops : ℕ) (code : List Instr) (i : Instr) (pc : ℕ) (rs : List Region) → around code pc ≡ rs → nests op.Endl rs ≡ true
    → has_slot loops rs i op.Endl ≡ true → jumps_back rs i.x ≡ true → ClosesLoop code i pc
closes_in loops code i pc [] e n s j = absurd cc
closes_in loops code i pc (Waiting o ∷ rs) e n s j = absurd cc
closes_in loops code i pc (Atomic o ∷ rs) e n s j = absurd cc
closes_in loops code i pc (Turning o l ∷ rs) e n s j = record {
  opener = o;
  limit = l;
  rs = rs;
  inside = e;
  slot = (let h = and_parts (i.a + 1 == depth_of rs + 1) (nat_lt i.a loops) s in
      let k : i.a + 1 ≡ depth_of rs + 1 = eqb-true (i.a + 1) (depth_of rs + 1) h.0 in omega (arith, k));
  back = eqb-true i.x (o + 1) j;
}

pub closes_loop : (loops : ℕ) (code : List Instr) (pc : ℕ) (i : Instr) → IsStructured loops code → slice_get code pc ≡ Some i → i.op ≡ op.Endl
    → ClosesLoop code i pc
closes_loop loops code pc i s at is = closes_in loops code i pc (around code pc) refl
    (subst (λ p. nests p (around code pc) ≡ true) is (all_nest code s.nests pc i at))
    (slot_holds loops code pc i op.Endl s at is)
    (subst (λ p. jumps_well code pc i p ≡ true) is (none_fails (λ n j. jumps_well code n j j.op) code pc i s.jumps at))

left_over : (s h p q : ℕ) → q ≡ p → p ≤ (s - 1) * h + p
left_over s h p q e = omega arith

pub falls_end : (loops : ℕ) (earlier : List ℕ) (code : List Instr) (pc : ℕ) (i : Instr) (slots : ℕ → ℕ) → IsStructured loops code
    → slice_get code pc ≡ Some i → i.op ≡ op.Endl
    → potential earlier code (pc + 1) (with_entry slots i.a (slots i.a - 1)) + 1 ≤ potential earlier code pc slots
falls_end loops earlier code pc i slots s at is =
    let c = closes_loop loops code pc i s at is in
    let ls : List ℕ = levels_from earlier code (pc + 1) in
    let before : levels_from earlier code pc ≡ 1 ∷ ls = levels-at earlier code pc i at ∙ ap (λ p. levels_before earlier p i ls) is in
    let next : around code (pc + 1) ≡ c.rs = around-more code pc i at ∙ ap (λ p. regions_after p pc i (around code pc)) is ∙ ap outside c.inside in
    let same : pending earlier code (with_entry slots i.a (slots i.a - 1)) c.rs ≡ pending earlier code slots c.rs =
    pending_other earlier code slots i.a (slots i.a - 1) c.rs (omega (arith, c.slot)) in
    let text : total (levels_from earlier code pc) ≡ 1 + total ls = ap total before in
    let more : pending earlier code slots (around code pc) ≡ (slots (depth_of c.rs) - 1) * inner
    (levels_from earlier code (c.opener + 1)) + pending earlier code slots c.rs = ap (pending earlier code slots) c.inside in
    let after : pending earlier code (with_entry slots i.a (slots i.a - 1)) (around code (pc + 1)) ≡ pending earlier code slots c.rs =
    ap (pending earlier code (with_entry slots i.a (slots i.a - 1))) next ∙ same in
    sum_end (total ls) (total (levels_from earlier code pc)) _ _ _ _ text more after
  where
    sum_end : (t u turns p before after : ℕ) → u ≡ 1 + t → before ≡ turns + p → after ≡ p → t + after + 1 ≤ u + before
    sum_end t u turns p before after a b c = omega (arith, a, b, c)

turn_numbers : (left h t p q : ℕ) → 0 < left → q ≡ p → (h + t) + ((left - 1) * h + q) + 1 ≤ (1 + t) + (left * h + p)
turn_numbers zero h t p q some e = absurd (omega (arith, some))
turn_numbers (suc left) h t p q some e = let n : suc left - 1 ≡ left = omega arith in rw n (turn_sum left h t p q e)
  where
    turn_sum : (left h t p q : ℕ) → q ≡ p → (h + t) + (left * h + q) + 1 ≤ (1 + t) + (suc left * h + p)
    turn_sum left h t p q e = let m : suc left * h ≡ h + left * h = grind arith in omega (arith, e, m)

pub falls_turn : (loops : ℕ) (earlier : List ℕ) (code : List Instr) (pc : ℕ) (i : Instr) (slots : ℕ → ℕ) → IsStructured loops code
    → slice_get code pc ≡ Some i → i.op ≡ op.Endl → 0 < slots i.a - 1
    → potential earlier code i.x (with_entry slots i.a (slots i.a - 1)) + 1 ≤ potential earlier code pc slots
falls_turn loops earlier code pc i slots s at is some =
    let c = closes_loop loops code pc i s at is in
    let ls : List ℕ = levels_from earlier code (pc + 1) in
    let first : List ℕ = levels_from earlier code (c.opener + 1) in
    let slots' : ℕ → ℕ = with_entry slots i.a (slots i.a - 1) in
    let le : pc ≤ length code = below_length code pc i at in
    let before : levels_from earlier code pc ≡ 1 ∷ ls = levels-at earlier code pc i at ∙ ap (λ p. levels_before earlier p i ls) is in
    let tail = subst (λ rs. IsTail earlier code (levels_from earlier code pc) rs) c.inside (tails earlier code pc (all_nest code s.nests) le) in
    let rest : ls ≡ outer first = ap outer (sym before) ∙ tail.0 in
    let opened = subst (λ rs. AreOpened code rs) c.inside (all_opened code pc) in
    let there : around code (c.opener + 1) ≡ Turning c.opener c.limit ∷ c.rs = ap (around code) (add-one c.opener) ∙ opened.0 in
    let same : pending earlier code slots' c.rs ≡ pending earlier code slots c.rs =
    pending_other earlier code slots i.a (slots i.a - 1) c.rs (omega (arith, c.slot)) in
    let text : total first ≡ inner first + total ls = sym (parted first) ∙ ap (λ l. inner first + total l) (sym rest) in
    let turn : slots' (depth_of c.rs) ≡ slots i.a - 1 = ap slots' (sym c.slot) ∙ at_slot slots i.a (slots i.a - 1) in
    let after : pending earlier code slots' (around code (c.opener + 1)) ≡ (slots i.a - 1 - 1) * inner first + pending earlier code slots' c.rs =
    ap (pending earlier code slots') there ∙ ap (λ n. (n - 1) * inner first + pending earlier code slots' c.rs) turn in
    let now : pending earlier code slots (around code pc) ≡ (slots i.a - 1) * inner first + pending earlier code slots c.rs =
    ap (pending earlier code slots) c.inside ∙ ap (λ k. (slots k - 1) * inner first + pending earlier code slots c.rs) (sym c.slot) in
    subst (λ n. potential earlier code n slots' + 1 ≤ potential earlier code pc slots) (sym c.back)
    (sums (total first) (total (levels_from earlier code pc)) (pending earlier code slots' (around code (c.opener + 1)))
    (pending earlier code slots (around code pc)) (inner first + total ls) (1 + total ls)
    ((slots i.a - 1 - 1) * inner first + pending earlier code slots' c.rs) ((slots i.a - 1) * inner first + pending earlier code slots c.rs) text
    (ap total before) after now
    (turn_numbers (slots i.a - 1) (inner first) (total ls) (pending earlier code slots c.rs) (pending earlier code slots' c.rs) some same))
  where
    sums : (a b p q a' b' p' q' : ℕ) → a ≡ a' → b ≡ b' → p ≡ p' → q ≡ q' → a' + p' + 1 ≤ b' + q' → a + p + 1 ≤ b + q
    sums a b p q a' b' p' q' ea eb ep eq le = omega (arith, ea, eb, ep, eq, le)

-- ---- jumps

-- each instruction takes something from its levels
falls_text : (loops : ℕ) (earlier : List ℕ) (code : List Instr) (pc : ℕ) (i : Instr) (o : Op) → IsStructured loops code → slice_get code pc ≡ Some i
    → i.op ≡ o → total (levels_from earlier code (pc + 1)) + 1 ≤ total (levels_from earlier code pc)
falls_text loops earlier code pc i op.Endl s at is =
    let before : levels_from earlier code pc ≡ 1 ∷ levels_from earlier code (pc + 1) =
    levels-at earlier code pc i at ∙ ap (λ p. levels_before earlier p i (levels_from earlier code (pc + 1))) is in
    let t : total (levels_from earlier code pc) ≡ 1 + total (levels_from earlier code (pc + 1)) = ap total before in
    omega (arith, t)
falls_text loops earlier code pc i op.Loop s at is =
    let ls : List ℕ = levels_from earlier code (pc + 1) in
    let o = opens_loop loops (around code pc) i (slot_holds loops code pc i op.Loop s at is) in
    let before : levels_from earlier code pc ≡ levels_before earlier op.Loop i ls =
    levels-at earlier code pc i at ∙ ap (λ p. levels_before earlier p i ls) is in
    let t : total (levels_from earlier code pc) ≡ (1 + i.x * inner ls + inner (outer ls)) + total (outer (outer ls)) = ap total before in
    text_loop i.x (inner ls) (inner (outer ls)) (total (outer (outer ls))) (total (levels_from earlier code pc)) (total ls) o.some t
    (sym (total_two ls))
  where
    text_loop : (x h h2 r t u : ℕ) → 1 ≤ x → t ≡ (1 + x * h + h2) + r → u ≡ h + (h2 + r) → u + 1 ≤ t
    text_loop zero h h2 r t u some a b = absurd (omega (arith, some))
    text_loop (suc x) h h2 r t u some a b = let m : suc x * h ≡ h + x * h = grind arith in omega (arith, a, b, m)
falls_text loops earlier code pc i o s at is =
    let a : i.op ≢ op.Loop = λ e. absurd (let f : o ≡ op.Loop = sym is ∙ e in cc) in
    let b : i.op ≢ op.Endl = λ e. absurd (let f : o ≡ op.Endl = sym is ∙ e in cc) in
    let t : total (levels_from earlier code pc) ≡ cost earlier i + total (levels_from earlier code (pc + 1)) =
    ap total (levels-at earlier code pc i at) ∙ total_onward earlier i.op i (levels_from earlier code (pc + 1)) a b in
    omega (arith, t, some_cost earlier i)

falls_far : (loops : ℕ) (earlier : List ℕ) (code : List Instr) (pc k : ℕ) → IsStructured loops code → pc + suc k ≤ length code
    → total (levels_from earlier code (pc + suc k)) + 1 ≤ total (levels_from earlier code pc)
falls_far loops earlier code pc zero s le =
    let at = get_below code pc (omega (arith, le)) in
    falls_text loops earlier code pc at.0 at.0.op s at.1 refl
falls_far loops earlier code pc (suc k) s le =
    let at = get_below code (pc + suc k) (omega (arith, le)) in
    let next : pc + suc (suc k) ≡ pc + suc k + 1 = omega arith in
    let far : total (levels_from earlier code (pc + suc k)) + 1 ≤ total (levels_from earlier code pc) =
    falls_far loops earlier code pc k s (omega (arith, le)) in
    let one : total (levels_from earlier code (pc + suc k + 1)) + 1 ≤ total (levels_from earlier code (pc + suc k)) =
    falls_text loops earlier code (pc + suc k) at.0 at.0.op s at.1 refl in
    subst (λ n. total (levels_from earlier code n) + 1 ≤ total (levels_from earlier code pc)) (sym next) (omega (arith, far, one))

falls_forward : (loops : ℕ) (earlier : List ℕ) (code : List Instr) (pc x : ℕ) → IsStructured loops code → pc < x → x ≤ length code
    → total (levels_from earlier code x) + 1 ≤ total (levels_from earlier code pc)
falls_forward loops earlier code pc x s lt le =
    let e : pc + suc (x - pc - 1) ≡ x = omega (arith, lt) in
    subst (λ n. total (levels_from earlier code n) + 1 ≤ total (levels_from earlier code pc)) e
    (falls_far loops earlier code pc (x - pc - 1) s (omega (arith, lt, le)))

-- fewer loops, fewer turns
pending_outside : (earlier : List ℕ) (code : List Instr) (slots : ℕ → ℕ) (rs : List Region)
    → pending earlier code slots (outside rs) ≤ pending earlier code slots rs
pending_outside earlier code slots [] = omega arith
pending_outside earlier code slots (Turning o l ∷ rs) = omega arith
pending_outside earlier code slots (Waiting o ∷ rs) = omega arith
pending_outside earlier code slots (Atomic o ∷ rs) = omega arith

pending_left : (earlier : List ℕ) (code : List Instr) (slots : ℕ → ℕ) (k : ℕ) (rs : List Region)
    → pending earlier code slots (left k rs) ≤ pending earlier code slots rs
pending_left earlier code slots zero rs = omega arith
pending_left earlier code slots (suc k) rs =
    let h : pending earlier code slots (left k (outside rs)) ≤ pending earlier code slots (outside rs) =
    pending_left earlier code slots k (outside rs) in
    omega (arith, h, pending_outside earlier code slots rs)

-- no region is entered that begins after the jump
none_entered : (pc : ℕ) (entered rest : List Region) → AllFrom pc entered → begins_before (entered ++ rest) pc ≡ true → entered ≡ []
none_entered pc [] rest a b = refl
none_entered pc (r ∷ entered) rest a b = let lt : opener_of r < pc = ltb-true (opener_of r) pc b in absurd (omega (arith, lt, a.0))

pending_jump : (earlier : List ℕ) (code : List Instr) (slots : ℕ → ℕ) (pc x : ℕ) → pc ≤ x → leaves_loops (around code pc) (around code x) ≡ true
    → pending earlier code slots (around code x) ≤ pending earlier code slots (around code pc)
pending_jump earlier code slots pc x le leaves =
    let h : IsLater pc (around code pc) (around code x) = is_later code pc x le in
    let before = (and_parts (begins_before (around code x) pc) (same_kept (around code pc) (around code x))
    (sym (leaves-around code pc x le) ∙ leaves)).0 in
    let none : h.entered ≡ [] = none_entered pc h.entered (left h.count (around code pc)) h.later
    (subst (λ rs. begins_before rs pc ≡ true) h.is before) in
    let is : around code x ≡ left h.count (around code pc) = h.is ∙ ap (λ rs. rs ++ left h.count (around code pc)) none in
    subst (λ rs. pending earlier code slots rs ≤ pending earlier code slots (around code pc)) (sym is)
    (pending_left earlier code slots h.count (around code pc))

pub record JumpsForward (code : List Instr) (pc x : ℕ) : Type 0 where
  pub later : pc < x
  pub within : x < length code
  pub leaves : leaves_loops (around code pc) (around code x) ≡ true

pub forward_is : (code : List Instr) (pc x : ℕ) → jumps_forward code pc x ≡ true → JumpsForward code pc x
forward_is code pc x e =
    let h = and_parts (nat_lt pc x && nat_lt x (length code)) (leaves_loops (around code pc) (around code x)) e in
    let k = and_parts (nat_lt pc x) (nat_lt x (length code)) h.0 in
    record { later = ltb-true pc x k.0; within = ltb-true x (length code) k.1; leaves = h.1 }

pub jump_is : (code : List Instr) (pc : ℕ) (i : Instr) (o : Op) → o ≢ op.Endl → is_target (form_of o).x ≡ true → jumps_well code pc i o ≡ true
    → jumps_forward code pc i.x ≡ true
jump_is code pc i op.Endl ne t e = absurd (ne refl)
jump_is code pc i o ne t e = ap (λ b. if b then jumps_forward code pc i.x else true) (sym t) ∙ e

pub falls_jump : (loops : ℕ) (earlier : List ℕ) (code : List Instr) (pc : ℕ) (i : Instr) (slots : ℕ → ℕ) → IsStructured loops code
    → slice_get code pc ≡ Some i → i.op ≢ op.Endl → is_target (form_of i.op).x ≡ true
    → potential earlier code i.x slots + 1 ≤ potential earlier code pc slots
falls_jump loops earlier code pc i slots s at ne t =
    let j = forward_is code pc i.x (jump_is code pc i i.op ne t (none_fails (λ n j. jumps_well code n j j.op) code pc i s.jumps at)) in
    omega (
      arith,
      falls_forward loops earlier code pc i.x s j.later (omega (arith, j.within)),
      pending_jump earlier code slots pc i.x (omega (arith, j.later)) j.leaves,
    )

-- ---- the whole

pub structured_falls : (loops : ℕ) (earlier : List ℕ) (code : List Instr) → IsStructured loops code → PotentialFalls loops earlier code
structured_falls loops earlier code s = record {
  begins = λ slots. (let b = begins_at earlier code (all_nest code s.nests) in omega (arith, b));
  onward = λ pc i slots at a b. falls_onward earlier code pc i slots (all_nest code s.nests) at a b;
  loop = λ pc i slots at is. falls_loop loops earlier code pc i slots s at is;
  turns = λ pc i slots at is some. falls_turn loops earlier code pc i slots s at is some;
  ends = λ pc i slots at is. falls_end loops earlier code pc i slots s at is;
  jump = λ pc i slots at ne t. falls_jump loops earlier code pc i slots s at ne t;
}
