-- The parts of a world (its stays, what is opened, its activities' chains) after one place changed or an activity made a step.
use Rattle.std.proofs.Common.{◌≡◌, ℕ, ◌==◌, Bool, true, false, if◌then◌else◌, List, Option, Some, refl, sym, ◌∙◌, ap, subst}
use Rattle.std.proofs.Math.Path.{fun_ext}
use Rattle.x10_model.specs.Maps.{with_entry, with_pair}
use Rattle.x10_model.specs.Places as places
use Rattle.x10_model.specs.declared.finish.Finish.{Finish}
use Rattle.x10_model.specs.Places.{Stay}
use Rattle.x10_model.specs.Worlds.{Net, Activity, Book, counted, started}
use Rattle.x10_finish.specs.Nesting.{stays_in, opened_in, Stays, stays_of, opened_of, IsNested}
use Rattle.x10_finish.specs.Chains.{Name, AreLinked, AreCarried}
use Rattle.x10_finish.specs.Closing.{chains_of, unders_of, IsSound}
use Rattle.x10_finish.proofs.Entries.{at_entry}
use Rattle.x10_finish.proofs.NestedFinishes.{pair_same, pair_other}

-- ---- maps

pub entry_self : {V : Type 0} (f : ℕ → V) (k : ℕ) (v : V) → f k ≡ v → with_entry f k v ≡ f
entry_self f k v e = fun_ext (λ j. at_entry (λ w. w ≡ f j) f k j v (λ same. sym e ∙ ap f (sym same)) (λ apart. refl))

mapped_if : {V W : Type 0} (t : Bool) (g : V → W) (v w : V) (h : W) → g w ≡ h → g (if t then v else w) ≡ (if t then g v else h)
mapped_if true g v w h e = refl
mapped_if false g v w h e = e

pub map_entry : {V W : Type 0} (g : V → W) (f : ℕ → V) (k : ℕ) (v : V) (h : ℕ → W) → ((j : ℕ) → g (f j) ≡ h j)
    → (λ j. g (with_entry f k v j)) ≡ with_entry h k (g v)
map_entry g f k v h e = fun_ext (λ j. mapped_if (j == k) g v (f j) (h j) (e j))

-- the row of a map that changed, and another one
pub row_same : {V : Type 0} (f : ℕ → ℕ → V) (i j : ℕ) (v : V) → with_pair f i j v i ≡ with_entry (f i) j v
row_same f i j v = fun_ext (λ b. at_entry (λ w. with_pair f i j v i b ≡ w) (f i) j b v (λ same. ap (with_pair f i j v i) same ∙ pair_same f i j v)
    (λ apart. pair_other f i j i b v (λ both. apart both.1)))

pub row_other : {V : Type 0} (f : ℕ → ℕ → V) (i j p : ℕ) (v : V) → (p ≡ i → ⊥) → with_pair f i j v p ≡ f p
row_other f i j p v apart = fun_ext (λ b. pair_other f i j p b v (λ both. apart both.0))

-- ---- stays after one place changed

pub stays_row : (net : Net) (here p : ℕ) (new : places.Place) (stays : Stays) → new.stays ≡ stays here → ((p ≡ here → ⊥) → stays_of net p ≡ stays p)
    → stays_in (with_entry net.places here (Some new) p) ≡ stays p
stays_row net here p new stays e other =
    at_entry (λ (o : Option places.Place). stays_in o ≡ stays p) net.places here p (Some new)
    (λ same. subst (λ x. new.stays ≡ stays x) (sym same) e) other

pub stays_after : (net : Net) (here key : ℕ) (old new : places.Place) (o : Option Stay) → net.places here ≡ Some old
    → new.stays ≡ with_entry old.stays key o → (λ p. stays_in (with_entry net.places here (Some new) p)) ≡ with_pair (stays_of net) here key o
stays_after net here key old new o e changed =
    fun_ext (λ p. stays_row net here p new (with_pair (stays_of net) here key o)
    (changed ∙ ap (λ (f : ℕ → Option Stay). with_entry f key o) (sym (ap stays_in e)) ∙ sym (row_same (stays_of net) here key o))
    (λ apart. sym (row_other (stays_of net) here key p o apart)))

pub opened_after : (net : Net) (here n : ℕ) (new : places.Place) → new.opened ≡ n
    → (λ p. opened_in (with_entry net.places here (Some new) p)) ≡ with_entry (opened_of net) here n
opened_after net here n new e = map_entry opened_in net.places here (Some new) (opened_of net) (λ j. refl) ∙ ap (with_entry (opened_of net) here) e

pub opened_same : (net : Net) (here : ℕ) (old new : places.Place) → net.places here ≡ Some old → new.opened ≡ old.opened
    → (λ p. opened_in (with_entry net.places here (Some new) p)) ≡ opened_of net
opened_same net here old new e same = opened_after net here old.opened new same ∙ entry_self (opened_of net) here old.opened (ap opened_in e)

-- ---- activities after a step

pub chains_counted : (book : Book) (a : ℕ) → chains_of (counted book a) ≡ chains_of book
chains_counted book a = map_entry (λ (x : Activity). x.stays) book.activities a _ (chains_of book) (λ j. refl)
    ∙ entry_self (chains_of book) a (chains_of book a) refl

pub unders_counted : (book : Book) (a : ℕ) → unders_of (counted book a) ≡ unders_of book
unders_counted book a = map_entry (λ (x : Activity). x.under) book.activities a _ (unders_of book) (λ j. refl)
    ∙ entry_self (unders_of book) a (unders_of book a) refl

pub chains_started : (book : Book) (a function : ℕ) (under : Finish) (stays : List Name)
    → chains_of (started (counted book a) function under stays) ≡ with_entry (chains_of book) book.begun stays
chains_started book a function under stays =
    map_entry (λ (x : Activity). x.stays) (counted book a).activities book.begun _ (chains_of (counted book a)) (λ j. refl)
    ∙ ap (λ f. with_entry f book.begun stays) (chains_counted book a)

pub unders_started : (book : Book) (a function : ℕ) (under : Finish) (stays : List Name)
    → unders_of (started (counted book a) function under stays) ≡ with_entry (unders_of book) book.begun under
unders_started book a function under stays =
    map_entry (λ (x : Activity). x.under) (counted book a).activities book.begun _ (unders_of (counted book a)) (λ j. refl)
    ∙ ap (λ f. with_entry f book.begun under) (unders_counted book a)

-- a world of parts
pub sound_as : (net : Net) (book : Book) (stays : Stays) (opened : ℕ → ℕ) (chains : ℕ → List Name) (unders : ℕ → Finish) → stays_of net ≡ stays
    → opened_of net ≡ opened → chains_of book ≡ chains → unders_of book ≡ unders → IsNested stays opened net.enclosing net.posts
    → AreLinked stays book.begun chains unders book.belongs → AreCarried stays book.begun chains unders book.carries net.posts → IsSound net book
sound_as net book stays opened chains unders es eo ec eu n l c = record {
  nested = subst (λ x. IsNested x (opened_of net) net.enclosing net.posts) (sym es)
      (subst (λ x. IsNested stays x net.enclosing net.posts) (sym eo) n);
  linked = subst (λ x. AreLinked x book.begun (chains_of book) (unders_of book) book.belongs) (sym es)
      (subst (λ x. AreLinked stays book.begun x (unders_of book) book.belongs) (sym ec)
      (subst (λ x. AreLinked stays book.begun chains x book.belongs) (sym eu) l));
  carried = subst (λ x. AreCarried x book.begun (chains_of book) (unders_of book) book.carries net.posts) (sym es)
      (subst (λ x. AreCarried stays book.begun x (unders_of book) book.carries net.posts) (sym ec)
      (subst (λ x. AreCarried stays book.begun chains x book.carries net.posts) (sym eu) c));
}
