-- Labels in a table, line by line.
use Rattle.std.proofs.Common.{◌≡◌, ℕ, suc, ◌+◌, Bool, true, false, List, [], ◌∷◌, ◌++◌, Option, Some, None, refl, sym, ap, subst, ◌∙◌, append_assoc, append-nil, add-one, inl, inr, Bor}
use Rattle.std.proofs.lemmas.Bool.{cases_Bool, cond-true, cond-false, true≢false, false≢true}
use Rattle.std.proofs.lemmas.Slice.Eq.{bytes_eq-Decides}
use Rattle.std.specs.Prelude.{find, is_some, if◌then◌else◌}
use Rattle.std.specs.Option.{option_map}
use Rattle.std.specs.Str.{bytes_eq}
use Rattle.std.specs.Map.{update, lookup, IsKeyTest, AreApart, KeepsOthers}
use Rattle.std.specs.BTreeMap.{get_by, is_at, UpdatesBy}
use Rattle.std.specs.Cmp.{IsTotalOrder}
use Rattle.std.specs.declared.cmp.Ordering.{Ordering}
use Rattle.std.specs.Ordering.{nat_cmp, is_eq, eq_by_cmp, ordering_then}
use Rattle.std.specs.declared.cmp.Ordering.TheVariants.{Less, Equal, Greater}
use Rattle.std.proofs.lemmas.Cmp.{then_total, on_total, nat_cmp_total, nat_list_cmp_total, nat_list_eq_equiv, eq_by_cmp_equiv}
use Rattle.std.proofs.lemmas.Map.Text.{is_eq-slice_cmp}
use Rattle.std.specs.Cmp.Lexicographic.{slice_cmp}
use Rattle.x10_asm.specs.declared.label.Definition.{Definition}
use Rattle.x10_asm.specs.declared.statement.Statement.{Statement}
use Rattle.x10_asm.specs.Lines.{words}
use Rattle.x10_asm.specs.Labels.{Label, label_of}
use Rattle.x10_asm.specs.LabelLines.{labels_from, defined, index_after, ends_labels}
use Rattle.x10_asm.specs.Statements.{statement_in, first_word}
use Rattle.x10_asm.specs.Tables.{definition_of, front, key_cmp, Table, IsTable}

-- with these labels found, all labels of the function are known
pub record AreFound (found : List Label) (line index : ℕ) (texts : List (List ℕ)) (all : List Label) : Type 0 where
  pub is : found ++ labels_from line index texts ≡ all

labels_end : (line index : ℕ) (text : List ℕ) (others : List (List ℕ)) → ends_labels (statement_in (words text)) ≡ true
    → labels_from line index (text ∷ others) ≡ []
unfolding labels_from
labels_end line index text others e = rw e refl

labels_go_on : (line index : ℕ) (text : List ℕ) (others : List (List ℕ)) → ends_labels (statement_in (words text)) ≡ false
    → labels_from line index (text ∷ others) ≡ defined (statement_in (words text)) (first_word (words text)) line index
    ++ labels_from (suc line) (index_after (statement_in (words text)) index) others
unfolding labels_from
labels_go_on line index text others e = rw e refl

no_labels : (line index : ℕ) → labels_from line index [] ≡ []
unfolding labels_from
no_labels line index = refl

pub found_at_end : (found : List Label) (line index : ℕ) (texts : List (List ℕ)) (all : List Label) → AreFound found line index texts all → texts ≡ []
    → found ≡ all
found_at_end found line index texts all a e = sym (append-nil found)
    ∙ ap (λ (t : List Label). found ++ t) (sym (ap (labels_from line index) e ∙ no_labels line index)) ∙ a.is

pub found_before_end : (found : List Label) (line index : ℕ) (texts others : List (List ℕ)) (text : List ℕ) (all : List Label)
    → AreFound found line index texts all → texts ≡ text ∷ others → ends_labels (statement_in (words text)) ≡ true → found ≡ all
found_before_end found line index texts others text all a e ends =
    sym (append-nil found) ∙ ap (λ (t : List Label). found ++ t) (sym (ap (labels_from line index) e ∙ labels_end line index text others ends)) ∙ a.is

pub found_more : (found new : List Label) (line index next : ℕ) (texts others : List (List ℕ)) (text : List ℕ) (all : List Label) (s : Statement)
    (word : List ℕ)
    → AreFound found line index texts all → texts ≡ text ∷ others → s ≡ statement_in (words text) → word ≡ first_word (words text)
    → ends_labels s ≡ false → new ≡ found ++ defined s word line index → next ≡ index_after s index → AreFound new (line + 1) next others all
found_more found new line index next texts others text all s word a e es ew ends m n =
    record {
      is = rw (m, n, add-one line, es, ew) (append_assoc found (defined (statement_in (words text)) (first_word (words text)) line index)
          (labels_from (suc line) (index_after (statement_in (words text)) index) others)
          ∙ ap (λ (t : List Label). found ++ t) (sym (ap (labels_from line index) e
          ∙ labels_go_on line index text others (ap ends_labels (sym es) ∙ ends)))
          ∙ a.is);
    }

-- ---- the table

find_more : (p : Label → Bool) (xs : List Label) (l : Label)
    → find p (xs ++ l ∷ []) ≡ (if is_some (find p xs) then find p xs else (if p l then Some l else None))
find_more p [] l = refl
find_more p (x ∷ xs) l = elim (p x) as (λ t. (if t then Some x else find p (xs ++ l ∷ []))
    ≡ (if is_some (if t then Some x else find p xs) then (if t then Some x else find p xs) else (if p l then Some l else None)))
    [ true ↦ refl | false ↦ find_more p xs l ]

none_is : {A : Type 0} (o : Option A) → is_some o ≡ false → o ≡ None
none_is None e = refl
none_is (Some x) e = absurd (true≢false e)

some_mapped : (o : Option Label) → is_some (option_map definition_of o) ≡ is_some o
some_mapped None = refl
some_mapped (Some l) = refl

-- the names of all but the last label
found_before : (all : List Label) (l : Label) (q : List ℕ) → is_some (label_of all q) ≡ true → label_of (all ++ l ∷ []) q ≡ label_of all q
found_before all l q e = find_more (λ k. bytes_eq k.name q) all l
    ∙ cond-true (is_some (label_of all q)) (label_of all q) (if bytes_eq l.name q then Some l else None) e

not_before : (all : List Label) (l : Label) (q : List ℕ) → is_some (label_of all q) ≡ false
    → label_of (all ++ l ∷ []) q ≡ (if bytes_eq l.name q then Some l else None)
not_before all l q e = find_more (λ k. bytes_eq k.name q) all l
    ∙ cond-false (is_some (label_of all q)) (label_of all q) (if bytes_eq l.name q then Some l else None) e

-- another name is that of no new label
other_name : (all : List Label) (l : Label) (q : List ℕ) → bytes_eq l.name q ≡ false → label_of (all ++ l ∷ []) q ≡ label_of all q
other_name all l q ne = elim (cases_Bool (is_some (label_of all q))) [
  | inl e ↦ found_before all l q e
  | inr e ↦ not_before all l q e ∙ cond-false (bytes_eq l.name q) (Some l) None ne ∙ sym (none_is (label_of all q) e)
]

first_stays : (all : List Label) (l : Label) (q : List ℕ) → is_some (label_of all l.name) ≡ true → label_of (all ++ l ∷ []) q ≡ label_of all q
first_stays all l q there = elim (cases_Bool (bytes_eq l.name q)) [
  | inl e ↦ found_before all l q (ap (λ (n : List ℕ). is_some (label_of all n)) (sym ((bytes_eq-Decides l.name q).0 e)) ∙ there)
  | inr ne ↦ other_name all l q ne
]

new_name : (all : List Label) (l : Label) (q : List ℕ) → is_some (label_of all l.name) ≡ false → bytes_eq l.name q ≡ true
    → label_of (all ++ l ∷ []) q ≡ Some l
new_name all l q absent e = not_before all l q (ap (λ (n : List ℕ). is_some (label_of all n)) (sym ((bytes_eq-Decides l.name q).0 e)) ∙ absent)
    ∙ cond-true (bytes_eq l.name q) (Some l) None e

-- a name that is there keeps its definition
pub table_kept : (table : Table) (all : List Label) (l : Label) → IsTable table all → is_some (get_by (key_cmp l.name) table) ≡ true
    → IsTable table (all ++ l ∷ [])
table_kept table all l t there = λ q. t q ∙ ap (option_map definition_of)
    (sym (first_stays all l q (sym (ap is_some (t l.name) ∙ some_mapped (label_of all l.name)) ∙ there)))

-- a name that is not there gets its definition
pub table_more : (table new : Table) (all : List Label) (l : Label) → IsTable table all → is_some (get_by (key_cmp l.name) table) ≡ false
    → ((q : List ℕ) → get_by (key_cmp q) new ≡ update bytes_eq (λ ds. get_by (key_cmp ds) table) l.name (Some (definition_of l)) q)
    → IsTable new (all ++ l ∷ [])
table_more table new all l t absent u = λ q. u q ∙ elim (cases_Bool (bytes_eq l.name q)) [
  | inl e ↦ cond-true (bytes_eq l.name q) (Some (definition_of l)) _ e
      ∙ ap (option_map definition_of) (sym (new_name all l q (sym (ap is_some (t l.name) ∙ some_mapped (label_of all l.name)) ∙ absent) e))
  | inr ne ↦ cond-false (bytes_eq l.name q) (Some (definition_of l)) _ ne ∙ t q ∙ ap (option_map definition_of) (sym (other_name all l q ne))
]

-- a name that is there is given another definition and then its own again
pub table_again : (table one two : Table) (all : List Label) (l : Label) (first : Definition) → IsTable table all
    → get_by (key_cmp l.name) table ≡ Some first
    → ((q : List ℕ) → get_by (key_cmp q) one ≡ update bytes_eq (λ ds. get_by (key_cmp ds) table) l.name (Some (definition_of l)) q)
    → ((q : List ℕ) → get_by (key_cmp q) two ≡ update bytes_eq (λ ds. get_by (key_cmp ds) one) l.name (Some first) q) → IsTable two (all ++ l ∷ [])
table_again table one two all l first t there u v = λ q. v q ∙ elim (cases_Bool (bytes_eq l.name q)) [
  | inl e ↦ cond-true (bytes_eq l.name q) (Some first) _ e ∙ sym there
      ∙ ap (λ (n : List ℕ). get_by (key_cmp n) table) ((bytes_eq-Decides l.name q).0 e) ∙ table_kept table all l t (ap is_some there) q
  | inr ne ↦ cond-false (bytes_eq l.name q) (Some first) _ ne ∙ u q ∙ cond-false (bytes_eq l.name q) (Some (definition_of l)) _ ne
      ∙ table_kept table all l t (ap is_some there) q
]

-- ---- keys

abbrev Key : Type 0
Key = ℕ × Bor (List ℕ)

abbrev pub key_of : ℕ → Bor (List ℕ) → Key
key_of number name = (number, name)

abbrev pair_cmp : Key → Key → Ordering
pair_cmp x y = ordering_then (nat_cmp x.0 y.0) (slice_cmp nat_cmp x.1.now y.1.now)

pair_total : IsTotalOrder pair_cmp
pair_total = then_total (on_total (λ (x : Key). x.0) nat_cmp_total) (on_total (λ (x : Key). x.1.now) nat_list_cmp_total)

second_tied : (a b : Ordering) → is_eq (ordering_then a b) ≡ true → is_eq b ≡ true
second_tied Less b e = absurd (false≢true e)
second_tied Equal b e = e
second_tied Greater b e = absurd (false≢true e)

second_apart : (a b : Ordering) → is_eq b ≡ false → is_eq (ordering_then a b) ≡ false
second_apart Less b e = refl
second_apart Equal b e = e
second_apart Greater b e = refl

apart : (bs cs ks : List ℕ) → bytes_eq bs cs ≡ false → bytes_eq bs ks ≡ true → bytes_eq cs ks ≡ false
apart bs cs ks n y = nat_list_eq_equiv.symm cs ks ∙ sym (nat_list_eq_equiv.congr bs ks cs y) ∙ n

other_entries : {X : Type 0} (eq : Key → Key → Bool) (test : Key → Bool) (old new : List (Key × X)) → KeepsOthers eq test old new
    → (other : Key → Bool) → IsKeyTest eq other → AreApart test other → lookup other new ≡ lookup other old
unfolding KeepsOthers
other_entries eq test old new h = h

-- the key of a name finds what the name finds
pub key_finds : (name : List ℕ) (key : Key) (m : Table) → key.0 ≡ front name → key.1.now ≡ name → get_by (pair_cmp key) m ≡ get_by (key_cmp name) m
key_finds name key m ef en =
    ap (λ (f : ℕ). get_by (λ k. ordering_then (nat_cmp f k.0) (slice_cmp nat_cmp key.1.now k.1.now)) m) ef
    ∙ ap (λ (n : List ℕ). get_by (λ k. ordering_then (nat_cmp (front name) k.0) (slice_cmp nat_cmp n k.1.now)) m) en

-- what a change at the key of a name leaves at each name
pub key_updates : (name : List ℕ) (key : Key) (m n : Table) (w : Option Definition) → key.0 ≡ front name → key.1.now ≡ name
    → UpdatesBy pair_cmp (pair_cmp key) m n w
    → (q : List ℕ) → get_by (key_cmp q) n ≡ update bytes_eq (λ ds. get_by (key_cmp ds) m) name w q
key_updates name key m n w ef en h = λ q. elim (cases_Bool (bytes_eq name q)) [
  | inl e ↦ ap (λ (t : List ℕ). get_by (key_cmp t) n) (sym ((bytes_eq-Decides name q).0 e)) ∙ sym (key_finds name key n ef en) ∙ h.1
      ∙ sym (cond-true (bytes_eq name q) w (get_by (key_cmp q) m) e)
  | inr ne ↦
      other_entries (eq_by_cmp pair_cmp) (is_at (pair_cmp key)) m.entries n.entries h.3 (is_at (key_cmp q))
      ((eq_by_cmp_equiv pair_total).congr (front q, record { ref_ptr = (0, 0); now = q }))
      (λ k y. second_apart (nat_cmp (front q) k.0) (slice_cmp nat_cmp q k.1.now) (is_eq-slice_cmp q k.1.now
      ∙ apart name q k.1.now ne (sym (is_eq-slice_cmp name k.1.now) ∙ ap (λ (t : List ℕ). is_eq (slice_cmp nat_cmp t k.1.now)) (sym en)
      ∙ second_tied (nat_cmp key.0 k.0) (slice_cmp nat_cmp key.1.now k.1.now) y)))
      ∙ sym (cond-false (bytes_eq name q) w (get_by (key_cmp q) m) ne)
]

-- ---- line by line

-- the table has the labels found, and with them all labels of the function are known
pub record IsLabelled (table : Table) (line index : ℕ) (texts : List (List ℕ)) (all : List Label) : Type 0 where
  pub found : List Label
  pub is_table : IsTable table found
  pub are_found : AreFound found line index texts all

pub labelled_end : (table : Table) (line index : ℕ) (texts : List (List ℕ)) (all : List Label) → IsLabelled table line index texts all → texts ≡ []
    → IsTable table all
labelled_end table line index texts all i e = subst (IsTable table) (found_at_end i.found line index texts all i.are_found e) i.is_table

pub labelled_before_end : (table : Table) (line index : ℕ) (texts others : List (List ℕ)) (text : List ℕ) (all : List Label)
    → IsLabelled table line index texts all → texts ≡ text ∷ others → ends_labels (statement_in (words text)) ≡ true → IsTable table all
labelled_before_end table line index texts others text all i e ends =
    subst (IsTable table) (found_before_end i.found line index texts others text all i.are_found e ends) i.is_table

pub labelled_more : (table new : Table) (line index next : ℕ) (texts others : List (List ℕ)) (text : List ℕ) (all : List Label) (s : Statement)
    (word : List ℕ)
    → IsLabelled table line index texts all → texts ≡ text ∷ others → s ≡ statement_in (words text) → word ≡ first_word (words text)
    → ends_labels s ≡ false
    → ((found : List Label) → IsTable table found → IsTable new (found ++ defined s word line index)) → next ≡ index_after s index
    → IsLabelled new (line + 1) next others all
labelled_more table new line index next texts others text all s word i e es ew ends more n = record {
  found = i.found ++ defined s word line index;
  is_table = more i.found i.is_table;
  are_found = found_more i.found (i.found ++ defined s word line index) line index next texts others text all s word i.are_found e es ew ends refl n;
}
