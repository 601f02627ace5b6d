-- Ledgers: what a change of one count does to the totals of all finishes.
use Rattle.std.proofs.Common.{◌≡◌, ℕ, Bool, true, false, cond, if◌then◌else◌, List, Option, Some, None, is_some, Result, Ok, Err, OnOk, OnErr, IfErr, inl, inr, refl, sym, ◌∙◌, ap, subst, arith}
use Rattle.x10_kinds.specs.declared.limit.Limit.TheVariants as limits
use Rattle.x10_kinds.specs.declared.stop.Stop.{Stop}
use Rattle.x10_kinds.specs.declared.stop.Stop.TheVariants as stop
use Rattle.x10_model.specs.Worlds.{same_finish}
use Rattle.x10_model.proofs.SameFinishes.{same_either, same_is}
use Rattle.x10_model.specs.Totals.{Totals, nothing, if_same}
use Rattle.x10_model.specs.declared.finish.Finish.{Finish}
use Rattle.x10_finish.specs.declared.count.Count.{Count}
use Rattle.x10_finish.specs.declared.count.Change.{Change}
use Rattle.x10_finish.specs.declared.count.Change.TheVariants.{Begins, Sends, Receives}
use Rattle.x10_finish.specs.Counts.{counted, IsWhole, IsLargest, IsFull}
use Rattle.x10_finish.specs.Met.{Writes, Removes}
use Rattle.x10_finish.specs.Ledgers.{count_of, counted_or_nothing, Ledger, totals_of, is_met, AreWhole, Counts, Forgets, Refuses}

picked : (b : Bool) (w : Count) (o : Option Count) (t : Totals) → (b ≡ true → counted w ≡ t)
    → counted_or_nothing (cond b (Some w) o) ≡ (if b then t else counted_or_nothing o)
picked true w o t h = h refl
picked false w o t h = refl

met_then : (b : Bool) (w : Count) (o : Option Count) → is_some (cond b (Some w) o) ≡ (if b then true else is_some o)
met_then true w o = refl
met_then false w o = refl

pub Counts-by : (old new : Ledger) (k : Finish) (w : Count) (change : Totals → Totals) → new.place ≡ old.place → new.places ≡ old.places
    → Writes old.counts k w new.counts
    → counted w ≡ change (totals_of old k) → Counts old k change new
Counts-by old new k w change e p h t = record {
  place = e;
  places = p;
  totals = λ g. ap counted_or_nothing (h g) ∙ subst (λ b. counted_or_nothing (cond b (Some w) (count_of old.counts g))
      ≡ if_same g k (change (totals_of old g)) (totals_of old g)) (sym (same_either k g))
      (picked (same_finish g k) w (count_of old.counts g) (change (totals_of old g))
      (λ s. t ∙ ap (λ f. change (totals_of old f)) (sym (same_is g k s))));
  met = λ g. ap is_some (h g) ∙ subst (λ b. is_some (cond b (Some w) (count_of old.counts g))
      ≡ (if same_finish g k then true else is_met old g)) (sym (same_either k g))
      (met_then (same_finish g k) w (count_of old.counts g));
}

whole_then : (places : ℕ) (b : Bool) (w c : Count) (o : Option Count) → IsWhole places w → (o ≡ Some c → IsWhole places c)
    → cond b (Some w) o ≡ Some c → IsWhole places c
whole_then places true w c o h g e = let same : w ≡ c = cc in subst (IsWhole places) same h
whole_then places false w c o h g e = g e

pub AreWhole-by : (places : ℕ) (old new : List (Finish × Count)) (k : Finish) (w : Count) → Writes old k w new → IsWhole places w
    → AreWhole places old → AreWhole places new
AreWhole-by places old new k w h g all f c e = whole_then places (same_finish k f) w c (count_of old f) g (all f c) (sym (h f) ∙ e)

gone : (b : Bool) (o : Option Count) → counted_or_nothing (cond b None o) ≡ (if b then nothing else counted_or_nothing o)
gone true o = refl
gone false o = refl

unmet : (b : Bool) (o : Option Count) → is_some (cond b None o) ≡ (if b then false else is_some o)
unmet true o = refl
unmet false o = refl

pub Forgets-by : (old new : Ledger) (k : Finish) → new.place ≡ old.place → new.places ≡ old.places → Removes old.counts k new.counts
    → Forgets old k new
Forgets-by old new k e p h = record {
  place = e;
  places = p;
  totals = λ g. ap counted_or_nothing (h g) ∙ gone (same_finish k g) (count_of old.counts g)
      ∙ ap (λ b. if b then nothing else totals_of old g) (same_either k g);
  met = λ g. ap is_some (h g) ∙ unmet (same_finish k g) (count_of old.counts g)
      ∙ ap (λ b. if b then false else is_met old g) (same_either k g);
}

whole_left : (places : ℕ) (b : Bool) (c : Count) (o : Option Count) → (o ≡ Some c → IsWhole places c) → cond b None o ≡ Some c → IsWhole places c
whole_left places true c o g e = absurd cc
whole_left places false c o g e = g e

pub AreWhole-left : (places : ℕ) (old new : List (Finish × Count)) (k : Finish) → Removes old k new → AreWhole places old → AreWhole places new
AreWhole-left places old new k h all f c e = whole_left places (same_finish k f) c (count_of old f) (all f c) (sym (h f) ∙ e)

-- what was not counted yet is not full
pub not_full : (change : Change) (t : Totals) → t ≡ nothing → IsFull change t → ⊥
not_full Begins t e f = let g : IsLargest 0 = subst (λ u. IsFull Begins u) e f in omega arith
not_full (Sends to) t e f = let g : IsLargest 0 = subst (λ u. IsFull (Sends to) u) e f in omega arith
not_full (Receives from) t e f = elim (subst (λ u. IsFull (Receives from) u) e f) [ inl g ↦ omega arith | inr g ↦ omega arith ]

pub on_ok : {T E : Type 0} {A B : Type 0} (r : Result T E) → OnOk r A → (A → B) → OnOk r B
on_ok (Ok x) a f = f a
on_ok (Err e) a f = tt

pub if_err : {T E : Type 0} {A B : E → Type 0} (r : Result T E) → IfErr r A → ((e : E) → A e → B e) → IfErr r B
if_err (Ok x) a f = tt
if_err (Err e) a f = f e a

pub if_both : {T E : Type 0} {A : E → Type 0} {B : Type 0} {C : E → Type 0} (r : Result T E) → IfErr r A → OnErr r B → ((e : E) → A e → B → C e)
    → IfErr r C
if_both (Ok x) a b f = tt
if_both (Err e) a b f = f e a b

pub Refuses-full : (met : Bool) (full : Type 0) (why : Stop) → why ≡ stop.Limit limits.Activities → full → Refuses met full why
Refuses-full met full why e h = subst (Refuses met full) (sym e) (h, refl)

pub Refuses-memory : (met : Bool) (full : Type 0) (why : Stop) → why ≡ stop.Memory → met ≡ false → Refuses met full why
Refuses-memory met full why e h = subst (Refuses met full) (sym e) h
