-- Which instructions print a text: what is noted of it, and what that says of every consistent assignment.
use Rattle.std.proofs.Common.{◌≡◌, ◌⊎◌, ◌↔◌, ℕ, ◌+◌, ◌<◌, ◌≤◌, Bool, true, false, List, length, set, Option, Some, None, Vec, refl, sym, ap, subst, ◌∙◌, inl, inr, arith}
use Rattle.std.specs.Prelude.{slice_get}
use Rattle.std.proofs.lemmas.Bool.{and_parts, cases_eq, cases_lt}
use Rattle.std.proofs.lemmas.Option.{same_Some, slice_get_past, slice_get_within}
use Rattle.std.proofs.Math.ListN.{length-set}
use Rattle.std.specs.Global.{Global}
use Rattle.x10_kinds.specs.declared.kind.Kind.{Kind}
use Rattle.x10_kinds.specs.declared.kind.Kind.TheVariants.{Int, Text, Obj}
use Rattle.x10_kinds.specs.Kinds.{Fits}
use Rattle.x10_kinds.proofs.KindLemmas.{Fits-refl}
use Rattle.x10_code.specs.declared.op.Op.{Op}
use Rattle.x10_code.specs.declared.op.Op.TheVariants as op
use Rattle.x10_code.specs.declared.instr.Instr.{Instr}
use Rattle.x10_image.specs.Parts.{code_in, code_at}
use Rattle.x10_model.specs.Modules.{Module, Function}
use Rattle.x10_model.specs.Ranges.{function_at, instr_at, instr_in}
use Rattle.x10_model.specs.Assignments.{State, IsBelow, IsKind, Edges, Permits, HasAssignment}
use Rattle.x10_verify.specs.declared.states.Entry.{Entry}
use Rattle.x10_verify.specs.Knowledge.{point}
use Rattle.x10_verify.specs.Least.{HasLeast, IsReached}
use Rattle.x10_verify.specs.Solving.{IsSolved}
use Rattle.x10_verify.specs.Printing.{AreNoted, HasRows, PrintsText, bit_at, bit_if, bit_in, row_if, is_print, is_text, prints_in}
use Rattle.x10_verify.specs.States.{state_if, state_in, stated}
use Rattle.x10_model.proofs.Decided.{get_below}
use Rattle.x10_verify.proofs.InFunction.{code_length, same_function}
use Rattle.x10_verify.proofs.Solved.{solved}
use Rattle.x10_model.proofs.Lists.{set_here, set_off}

-- ---- bits

bit_set : (row : List Bool) (i : ℕ) (b : Bool) → i < length row → bit_in (set row i b) i ≡ b
bit_set row i b lt = let g = get_below row i lt in ap bit_if (set_here row i b (slice_get_within row i g.0 g.1))

-- one instruction more is noted
pub noted_more : (program : Module) (f pc : ℕ) (table : List Entry) (row : List Bool) (i : Instr) (e : Entry) (b : Bool) → pc < length row
    → instr_at program f pc ≡ Some i → slice_get table pc ≡ Some e → b ≡ prints_in (Some i) (state_if e.mark e.known)
    → ((q : ℕ) → q < pc → bit_in row q ≡ prints_in (instr_at program f q) (stated table q)) → (q : ℕ) → q < pc + 1
    → bit_in (set row pc b) q ≡ prints_in (instr_at program f q) (stated table q)
noted_more program f pc table row i e b within instr entry is before q lt = elim (cases_eq q pc) [
  | inl at ↦ subst (λ n. bit_in (set row pc b) n ≡ prints_in (instr_at program f n) (stated table n)) (sym at)
      (bit_set row pc b within ∙ is ∙ sym (ap (λ o. prints_in o (stated table pc)) instr ∙ ap (λ o. prints_in (Some i) (state_in o)) entry))
  | inr ne ↦ ap bit_if (set_off row pc q b ne) ∙ before q (omega arith)
]

no_instr : (o : Option Function) (pc : ℕ) → length (code_in o) ≤ pc → instr_in o pc ≡ None
no_instr None pc le = refl
no_instr (Some function) pc le = slice_get_past function.code pc le

-- all are noted
pub noted_all : (program : Module) (f n : ℕ) (table : List Entry) (row : List Bool) → length (code_at program f) ≤ n
    → length row ≡ length (code_at program f)
    → ((q : ℕ) → q < n → bit_in row q ≡ prints_in (instr_at program f q) (stated table q)) → (pc : ℕ)
    → bit_in row pc ≡ prints_in (instr_at program f pc) (stated table pc)
noted_all program f n table row le size before pc = elim (cases_lt pc n) [
  | inl lt ↦ before pc lt
  | inr ge ↦ ap bit_if (slice_get_past row pc (omega arith)) ∙ sym
      (ap (λ o. prints_in o (stated table pc)) (no_instr (function_at program f) pc (omega arith)))
]

-- ---- the rule of PRINT

fits_int : (k : Kind) → Fits k Int → k ≡ Int
fits_int Int e = refl
fits_int (Obj c) e = absurd cc
fits_int _ e = absurd cc

fits_text : (k : Kind) → Fits k Text → k ≡ Text
fits_text Text e = refl
fits_text (Obj c) e = absurd cc
fits_text _ e = absurd cc

-- the register is set to a number or to a text, and to nothing else
permits_print : (program : Module) (function : Function) (pc : ℕ) (i : Instr) (s : State) (out : Edges) → i.op ≡ op.Print
    → Permits i.op (point program function pc i) s out → (s.kinds i.a ≡ Some Int) ⊎ (s.kinds i.a ≡ Some Text)
permits_print program function pc i s out is permits = chosen (subst (λ o. Permits o (point program function pc i) s out) is permits).1.settles.0
  where
    chosen : IsKind s i.a Int ⊎ IsKind s i.a Text → (s.kinds i.a ≡ Some Int) ⊎ (s.kinds i.a ≡ Some Text)
    chosen (inl h) = inl (h.1 ∙ ap Some (fits_int h.0 h.2))
    chosen (inr h) = inr (h.1 ∙ ap Some (fits_text h.0 h.2))

pub print_kind : (program : Module) (function : Function) (pc : ℕ) (i : Instr) (s : State) (a : HasAssignment program function)
    → slice_get function.code pc ≡ Some i → i.op ≡ op.Print → a.0 pc ≡ Some s → (s.kinds i.a ≡ Some Int) ⊎ (s.kinds i.a ≡ Some Text)
print_kind program function pc i s a there is e =
    let h = a.1.permitted pc s e in
    permits_print program function pc i s h.1 is (subst (λ (j : Instr). Permits j.op (point program function pc j) s h.1)
    (same_Some h.0 i (sym h.2 ∙ there)) h.3)

-- a state that knows more knows the same of a register that is set to a number or a text
text_above : (s t : State) (r : ℕ) → IsBelow s t → s.kinds r ≡ Some Text → (t.kinds r ≡ Some Int) ⊎ (t.kinds r ≡ Some Text) → t.kinds r ≡ Some Text
text_above s t r below e (inr text) = text
text_above s t r below e (inl int) =
    let h = below.kinds r Int int in
    absurd (let f = fits_int h.0 h.2 in cc)

int_above : (s t : State) (r : ℕ) → IsBelow s t → s.kinds r ≡ Some Int → (t.kinds r ≡ Some Int) ⊎ (t.kinds r ≡ Some Text) → t.kinds r ≡ Some Int
int_above s t r below e (inl int) = int
int_above s t r below e (inr text) =
    let h = below.kinds r Text text in
    absurd (let f = fits_text h.0 h.2 in cc)

-- ---- the least assignment tells of all

module _ (program : Module) (f : ℕ) (function : Function) (there : function_at program f ≡ Some function) (least : HasLeast program function) where
  -- where it knows a text each assignment does
  text_prints : (pc : ℕ) (i : Instr) (s : State) → slice_get function.code pc ≡ Some i → i.op ≡ op.Print → least.0 pc ≡ Some s
      → s.kinds i.a ≡ Some Text → PrintsText program f pc
  text_prints pc i s is print e text = record {
    function = function;
    is_function = there;
    instr = i;
    is_instr = is;
    op_is = print;
    text = λ a. (
        let b = least.1.below pc s e a in
        (b.0, b.1, text_above s b.0 i.a b.2 text (print_kind program function pc i b.0 a is print b.1)));
  }

  print_of : (o : Op) → is_print o ≡ true → o ≡ op.Print
  print_of op.Print e = refl
  print_of _ e = absurd cc

  text_of : (k : Option Kind) → is_text k ≡ true → k ≡ Some Text
  text_of (Some Text) e = refl
  text_of _ e = absurd cc

  bit_prints : (pc : ℕ) (i : Option Instr) (o : Option State) → slice_get function.code pc ≡ i → least.0 pc ≡ o → prints_in i o ≡ true
      → PrintsText program f pc
  bit_prints pc None o is e bit = absurd cc
  bit_prints pc (Some i) None is e bit = absurd (let h = (and_parts (is_print i.op) false bit).1 in cc)
  bit_prints pc (Some i) (Some s) is e bit =
      let h = and_parts (is_print i.op) (is_text (s.kinds i.a)) bit in
      text_prints pc i s is (print_of i.op h.0) e (text_of (s.kinds i.a) h.1)

  prints_bit : (pc : ℕ) → PrintsText program f pc → prints_in (slice_get function.code pc) (least.0 pc) ≡ true
  prints_bit pc h =
      let same : h.function ≡ function = same_function program f h.function function h.is_function there in
      let own = subst (λ (g : Function). (slice_get g.code pc ≡ Some h.instr)
      × ((a : HasAssignment program g) → (s : State) × (a.0 pc ≡ Some s) × (s.kinds h.instr.a ≡ Some Text))) same (h.is_instr, h.text) in
      let s = own.1 (least.0, least.1.consistent) in
      rw (own.0, s.1, h.op_is, s.2) refl

  -- its bits are the answers
  pub prints_iff : (pc : ℕ) → prints_in (slice_get function.code pc) (least.0 pc) ≡ true ↔ PrintsText program f pc
  prints_iff pc = ((λ bit. bit_prints pc (slice_get function.code pc) (least.0 pc) refl refl bit), prints_bit pc)

  -- where the flow reaches a PRINT and it prints no text, each assignment knows a number
  pub prints_number : (pc : ℕ) → (PrintsText program f pc → ⊥) → IsReached program function pc → (i : Instr) → slice_get function.code pc ≡ Some i
      → i.op ≡ op.Print → (a : HasAssignment program function) (s : State) → a.0 pc ≡ Some s → IsKind s i.a Int
  prints_number pc never reached i is print a s e =
      let l = reached (least.0, least.1.consistent) in
      let b = least.1.below pc l.0 l.1 a in
      elim (print_kind program function pc i l.0 (least.0, least.1.consistent) is print l.1) [
        | inr text ↦ absurd (never (text_prints pc i l.0 is print l.1 text))
        | inl int ↦ (
          Int,
          int_above l.0 s i.a (subst (λ t. IsBelow l.0 t) (same_Some b.0 s (sym b.1 ∙ e)) b.2) int
              (print_kind program function pc i s a is print e),
          Fits-refl Int,
        )
      ]

-- what is noted of the states so far, once none waits
pub noted_solved : (program : Module) (f len : ℕ) (table : List Entry) (row : List Bool) → f < length program.functions
    → len ≡ length (code_at program f)
    → ((function : Function) → function_at program f ≡ Some function → IsSolved program function table)
    → ((pc : ℕ) → bit_in row pc ≡ prints_in (instr_at program f pc) (stated table pc)) → AreNoted program (bit_in row) f
noted_solved program f len table row lt size solves bits pc =
    let g = get_below program.functions f lt in
    let s = solves g.0 g.1 in
    let same : length g.0.code ≡ len = code_length program f len g.0 g.1 size in
    let least = solved program g.0 s.0 len table same (let past : length g.0.code ≤ s.0 = s.1 in omega arith) s.2 in
    let bit : bit_in row pc ≡ prints_in (slice_get g.0.code pc) (stated table pc) =
    bits pc ∙ ap (λ o. prints_in (instr_in o pc) (stated table pc)) g.1 in
    subst (λ b. b ≡ true ↔ PrintsText program f pc) (sym bit) (prints_iff program f g.0 g.1 (stated table, least) pc)

-- ---- a row for each function

pub rows_set : (program : Module) (rows : List (Vec Bool Global)) (f : ℕ) (old row : Vec Bool Global) → HasRows program rows
    → slice_get rows f ≡ Some old → length row.items ≡ length old.items → HasRows program (set rows f row)
rows_set program rows f old row h there size = record {
  count = length-set rows f row ∙ h.count;
  sizes = λ g r e. elim (cases_eq g f) [
    | inl at ↦ (
        let same : row ≡ r = same_Some row r (sym (set_here rows f row (slice_get_within rows f old there)) ∙ ap (slice_get (set rows f row)) (sym at)
        ∙ e) in
        ap (λ (v : Vec Bool Global). length v.items) (sym same) ∙ size ∙ h.sizes f old there ∙ ap (λ n. length (code_at program n)) (sym at))
    | inr ne ↦ h.sizes g r (sym (set_off rows f g row ne) ∙ e)
  ];
}

pub rows_more : (program : Module) (rows : List (Vec Bool Global)) (f : ℕ) (old row : Vec Bool Global) → slice_get rows f ≡ Some old
    → ((g : ℕ) → g < f → AreNoted program (bit_at rows g) g) → AreNoted program (bit_in row.items) f
    → (g : ℕ) → g < f + 1 → AreNoted program (bit_at (set rows f row) g) g
rows_more program rows f old row there before here g lt = elim (cases_eq g f) [
  | inl at ↦ subst (λ n. AreNoted program (bit_at (set rows f row) n) n) (sym at)
      (λ pc. subst (λ b. b ≡ true ↔ PrintsText program f pc) (sym (ap (λ o. row_if o pc) (set_here rows f row (slice_get_within rows f old there))))
      (here pc))
  | inr ne ↦ λ pc. subst (λ b. b ≡ true ↔ PrintsText program g pc) (sym (ap (λ o. row_if o pc) (set_off rows f g row ne))) (before g (omega arith) pc)
]

-- past the rows there is no function
pub rows_all : (program : Module) (rows : List (Vec Bool Global)) (n : ℕ) → HasRows program rows → length program.functions ≤ n
    → ((g : ℕ) → g < n → AreNoted program (bit_at rows g) g) → (f : ℕ) → AreNoted program (bit_at rows f) f
rows_all program rows n h le before f = elim (cases_lt f n) [
  | inl lt ↦ before f lt
  | inr ge ↦ λ pc. (
    (λ bit. absurd (let none : bit_at rows f pc ≡ false = ap (λ o. row_if o pc) (slice_get_past rows f (omega (arith, h.count))) in cc)),
    λ prints. absurd (let lt = slice_get_within program.functions f prints.function prints.is_function in omega arith),
  )
]

-- where a text is printed each assignment knows one
pub prints_as_text : (program : Module) (f pc : ℕ) (function : Function) → PrintsText program f pc → function_at program f ≡ Some function
    → (i : Instr) → slice_get function.code pc ≡ Some i → (a : HasAssignment program function) (s : State) → a.0 pc ≡ Some s → IsKind s i.a Text
prints_as_text program f pc function h there i is a s e =
    let same : h.function ≡ function = same_function program f h.function function h.is_function there in
    let own = subst (λ (g : Function). (slice_get g.code pc ≡ Some h.instr)
    × ((a : HasAssignment program g) → (s : State) × (a.0 pc ≡ Some s) × (s.kinds h.instr.a ≡ Some Text))) same (h.is_instr, h.text) in
    let t = own.1 a in
    let at : h.instr ≡ i = same_Some h.instr i (sym own.0 ∙ is) in (
      Text,
      subst (λ (j : Instr). s.kinds j.a ≡ Some Text) at (subst (λ u. u.kinds h.instr.a ≡ Some Text) (same_Some t.0 s (sym t.1 ∙ e)) t.2),
      Fits-refl Text,
    )
