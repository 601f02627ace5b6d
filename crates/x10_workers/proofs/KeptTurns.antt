-- What the workers of a run hand over.
use Rattle.std.proofs.Common.{◌≡◌, ◌≤◌, ℕ, List, [], ◌∷◌, ◌++◌, Result, Ok, Some, length, map, zero, suc, refl, sym, ap, subst, ◌∙◌, inl, inr, arith}
use Rattle.std.specs.Prelude.{slice_get}
use Rattle.std.proofs.lemmas.Bool.{cases_lt}
use Rattle.std.proofs.lemmas.List.{append-nil, append_assoc, length-append}
use Rattle.std.proofs.lemmas.Option.{same_Some, slice_get_within}
use Rattle.x10_model.proofs.Lists.{append_get}
use Rattle.x10_verify.specs.Certified.{Certified}
use Rattle.x10_place.specs.Opening.{IsNew, Opens}
use Rattle.x10_place.specs.StandsFor.{PlaceState}
use Rattle.x10_world.specs.Opening.{IsOpenedPlace, IsForbidden}
use Rattle.x10_workers.specs.declared.halt.Halted.{Halted}
use Rattle.x10_workers.specs.declared.trail.Kept.{Kept}
use Rattle.x10_workers.specs.declared.trail.OwnTurn.{OwnTurn}
use Rattle.x10_workers.specs.declared.trail.Trail.{Trail}
use Rattle.x10_workers.specs.Causes.{AreAllEnds}
use Rattle.x10_workers.specs.Trails.{TrailLeads, trail_of}
use Rattle.x10_workers.specs.Workings.{IsTrailOf, IsKeptOf, AreAllKept, AreTrailsOf, WorksOn, IsKeptWhole}
use Rattle.x10_workers.proofs.ReplayFaults.{front, behind}

-- each with what it kept
abbrev pub all_ended : List Kept → List (Result Kept Halted)
all_ended trails = map (λ t. Ok t) trails

length_ended : (trails : List Kept) → length (all_ended trails) ≡ length trails
length_ended [] = refl
length_ended (t ∷ ts) = ap suc (length_ended ts)

ended_at : (trails : List Kept) (id : ℕ) (t : Kept) → slice_get trails id ≡ Some t → slice_get (all_ended trails) id ≡ Some (Ok t)
ended_at [] id t is = absurd cc
ended_at (u ∷ us) zero t is = ap (λ v. Some (Ok v)) (same_Some u t is)
ended_at (u ∷ us) (suc id) t is = ended_at us id t is

-- where all workers have ended, this is what they kept
pub trails_of : (c : Certified) (places : ℕ) (ends rest : List (Result Kept Halted)) (trails : List Kept) → ends ≡ all_ended trails ++ rest → rest ≡ []
    → AreAllEnds c places ends → AreAllKept c places trails
trails_of c places ends rest trails are none ended = record {
  count = sym (ap length same ∙ length_ended trails) ∙ ended.count;
  each = λ id t is. ended.each id (Ok t) (ap (λ es. slice_get es id) same ∙ ended_at trails id t is);
}
  where
    same : ends ≡ all_ended trails
    same = are ∙ ap (λ es. all_ended trails ++ es) none ∙ append-nil (all_ended trails)

pub none_left : {X : Type 0} (xs : List X) (n : ℕ) → n ≡ length xs → n ≡ 0 → xs ≡ []
none_left [] n long none = refl
none_left (x ∷ xs) n long none = absurd (omega (arith, long, none))

-- ---- trails

-- what was kept of a place whose turns lead from its beginning to its end
pub kept_whole : (c : Certified) (places id : ℕ) (first last : PlaceState) (made : List OwnTurn) (k : Kept) → c.program.least_places ≤ places
    → places ≤ 64 → IsNew c id places first → Opens first → WorksOn first [] last made → IsKeptWhole id last made k → IsKeptOf c places id k
kept_whole c places id first last made k enough few new opens goes whole = record {
  id_is = whole.id_is;
  trail = record {
    permitted = never;
    first = first;
    opened = subst (λ n. IsOpenedPlace c places n first) (sym whole.id_is) (record { is_new = new; stands = opens });
    ends = record {
      last = last;
      leads = subst (λ ts. TrailLeads first ts last) (sym (whole.turns ∙ goes.kept)) goes.leads;
      lines = whole.lines;
      closed = whole.closed;
    };
  };
}
  where
    never : IsForbidden c places → ⊥
    never (inl less) = absurd (omega (arith, less, enough))
    never (inr more) = absurd (omega (arith, more, few))

-- of some places there are trails, of the others what was kept
pub record MadeSoFar (c : Certified) (places : ℕ) (all : List Kept) (trails : List Trail) (rest : List Kept) : Type 0 where
  pub before : List Kept
  pub are : all ≡ before ++ rest
  pub long : length before ≡ length trails
  pub made : (id : ℕ) (t : Trail) → slice_get trails id ≡ Some t → IsTrailOf c places id t

pub made_none : (c : Certified) (places : ℕ) (all : List Kept) (trails : List Trail) (rest : List Kept) → trails ≡ [] → rest ≡ all
    → MadeSoFar c places all trails rest
made_none c places all trails rest none whole = record {
  before = [];
  are = sym whole;
  long = sym (ap length none);
  made = λ id t is. absurd (none_at id t (sym (ap (λ ts. slice_get ts id) none) ∙ is));
}
  where
    none_at : (id : ℕ) (t : Trail) → slice_get [] id ≡ Some t → ⊥
    none_at id t e = cc

-- the next of these was kept of the place with the next number
pub next_kept : (c : Certified) (places : ℕ) (all : List Kept) (trails : List Trail) (rest left : List Kept) (k : Kept) → AreAllKept c places all
    → MadeSoFar c places all trails rest → rest ≡ k ∷ left → IsKeptOf c places (length trails) k
next_kept c places all trails rest left k kept so is =
    subst (λ n. IsKeptOf c places n k) so.long (kept.each (length so.before) k
    (ap (λ ks. slice_get ks (length so.before)) (so.are ∙ ap (λ ks. so.before ++ ks) is) ∙ append_get so.before k left))

pub made_more : (c : Certified) (places : ℕ) (all : List Kept) (trails new : List Trail) (rest left : List Kept) (k : Kept) (made : Trail)
    → AreAllKept c places all → MadeSoFar c places all trails rest → rest ≡ k ∷ left → made ≡ trail_of c places k → new ≡ trails ++ made ∷ []
    → MadeSoFar c places all new left
made_more c places all trails new rest left k made kept so is same are = record {
  before = so.before ++ k ∷ [];
  are = so.are ∙ ap (λ ks. so.before ++ ks) is ∙ sym (append_assoc so.before (k ∷ []) left);
  long = omega (arith, length-append so.before (k ∷ []), length-append trails (made ∷ []), ap length are, so.long);
  made = λ id t at. elim (cases_lt id (length trails)) [
    | inl lt ↦ so.made id t (sym (front trails (made ∷ []) id lt) ∙ sym (ap (λ ts. slice_get ts id) are) ∙ at)
    | inr ge ↦ (
        let within = slice_get_within new id t at in
        let end : id ≡ length trails = omega (arith, ge, within, ap length are, length-append trails (made ∷ [])) in
        let which : trail_of c places k ≡ t = sym same ∙ same_Some made t
        (sym (behind trails made id end) ∙ sym (ap (λ ts. slice_get ts id) are) ∙ at) in
        let of : IsTrailOf c places id (trail_of c places k) = record {
          certified_is = refl;
          places_are = refl;
          id_is = (next_kept c places all trails rest left k kept so is).id_is ∙ sym end;
        } in
        subst (λ (u : Trail). IsTrailOf c places id u) which of
        )
  ];
}

-- there is a trail of each
pub made_all : (c : Certified) (places : ℕ) (all : List Kept) (trails : List Trail) (rest : List Kept) → AreAllKept c places all
    → MadeSoFar c places all trails rest → rest ≡ [] → AreTrailsOf c places trails
made_all c places all trails rest kept so none = record {
  count = sym so.long ∙ ap length (sym (so.are ∙ ap (λ ks. so.before ++ ks) none ∙ append-nil so.before)) ∙ kept.count;
  each = so.made;
}
