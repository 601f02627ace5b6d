-- The counts of the finishes that were met: one is found, written, entered or goes.
use Rattle.std.proofs.Common.{◌≡◌, ◌-◌, ◌<◌, ◌==◌, ◌&&◌, ◌+◌, ◌^◌, inl, inr, max, ℕ, Bool, true, false, cond, List, ◌∷◌, length, Option, Some, None, Result, Err, OnOk, IfErr, MatchOption, refl, sym, ◌∙◌, ap, subst, arith}
use Rattle.std.proofs.lemmas.Bool.{ne_eqb}
use Rattle.x10_kinds.specs.declared.limit.Limit.TheVariants as limits
use Rattle.x10_kinds.specs.declared.stop.Stop.{Stop}
use Rattle.x10_kinds.specs.declared.stop.Stop.TheVariants as stop
use Rattle.x10_model.specs.declared.finish.Finish.{Finish}
use Rattle.x10_model.specs.Worlds.{same_finish}
use Rattle.x10_model.specs.Totals.{nothing}
use Rattle.x10_model.proofs.SameFinishes.{same_either, same_is, same_self}
use Rattle.x10_finish.specs.declared.count.Count.{Count}
use Rattle.x10_finish.specs.declared.met.Named.{Named}
use Rattle.x10_finish.specs.declared.count.Change.{Change}
use Rattle.x10_finish.specs.declared.count.Change.TheVariants.{Begins, Sends, Receives}
use Rattle.x10_finish.specs.Counts.{IsFull, IsWhole, changed, counted}
use Rattle.x10_finish.specs.Ledgers.{count_of}
use Rattle.x10_finish.specs.Met.{IsApart, IsCounted, Lowers, Meets, NoneAbove, Removes, Writes, if_met, is_of_finish, listed}
use Rattle.x10_finish.proofs.Ledgers.{if_err}

-- ---- the latest one

written : (b : Bool) (w c : Count) (o : Option Count) → cond b (Some w) o ≡ cond b (Some w) (cond b (Some c) o)
written true w c o = refl
written false w c o = refl

pub latest_writes : (n : Named) (others : List (Finish × Count)) (k : Finish) (w : Count) → same_finish k n.finish ≡ true
    → Writes (listed (Some n) others) k w ((n.finish, w) ∷ others)
latest_writes n others k w same =
    subst (λ f. Writes (listed (Some n) others) f w ((n.finish, w) ∷ others)) (sym (same_is k n.finish same))
    (λ q. written (same_finish q n.finish) w n.count (count_of others q)
    ∙ ap (λ b. cond b (Some w) (cond (same_finish q n.finish) (Some n.count) (count_of others q))) (same_either q n.finish))

gone : (b : Bool) (c : Count) (o : Option Count) → (b ≡ true → o ≡ None) → o ≡ cond b None (cond b (Some c) o)
gone true c o h = h refl
gone false c o h = refl

pub latest_goes : (n : Named) (others : List (Finish × Count)) (k : Finish) → same_finish k n.finish ≡ true → IsApart (Some n) others
    → Removes (listed (Some n) others) k others
latest_goes n others k same apart =
    subst (λ f. Removes (listed (Some n) others) f others) (sym (same_is k n.finish same))
    (λ q. gone (same_finish q n.finish) n.count (count_of others q) (λ e. ap (count_of others) (same_is q n.finish e) ∙ apart)
    ∙ ap (λ b. cond b None (cond (same_finish q n.finish) (Some n.count) (count_of others q))) (same_either q n.finish))

false_true : false ≡ true → ⊥
false_true e = grind (arith, e)

-- the latest one is that of a finish, which was met
pub met_of : (b : Bool) (o : Option Named) (f : Finish) → is_of_finish (if_met b o) f ≡ true → b ≡ true
met_of true o f e = refl
met_of false o f e = absurd (false_true e)

pub same_of : (b : Bool) (o : Option Named) (n : Named) (f : Finish) → is_of_finish (if_met b o) f ≡ true → o ≡ Some n
    → same_finish f n.finish ≡ true
same_of b o n f e is = ap (λ t. is_of_finish t f) (sym (ap (λ t. if_met t o) (met_of b o f e) ∙ is)) ∙ e

pub shown_of : (b : Bool) (o : Option Named) (n : Named) (f : Finish) → is_of_finish (if_met b o) f ≡ true → o ≡ Some n
    → if_met b o ≡ Some n
shown_of b o n f e is = ap (λ t. if_met t o) (met_of b o f e) ∙ is

-- ---- one of the others

pub found_among : (o : Option Named) (others : List (Finish × Count)) (f : Finish) → is_of_finish o f ≡ false
    → count_of (listed o others) f ≡ count_of others f
found_among None others f e = refl
found_among (Some n) others f e = ap (λ b. cond b (Some n.count) (count_of others f)) e

both_ways : (b t : Bool) (c : Count) (x y z : Option Count) → (b ≡ true → t ≡ false) → y ≡ cond t z x
    → cond b (Some c) y ≡ cond t z (cond b (Some c) x)
both_ways true t c x y z apart e = ap (λ u. cond u z (Some c)) (sym (apart refl))
both_ways false t c x y z apart e = e

elsewhere : (n : Named) (k q : Finish) → same_finish k n.finish ≡ false → same_finish q n.finish ≡ true → same_finish k q ≡ false
elsewhere n k q e same = ap (same_finish k) (same_is q n.finish same) ∙ e

pub writes_among : (o : Option Named) (others more : List (Finish × Count)) (k : Finish) (w : Count) → is_of_finish o k ≡ false
    → Writes others k w more → Writes (listed o others) k w (listed o more)
writes_among None others more k w e h = h
writes_among (Some n) others more k w e h = λ q.
    both_ways (same_finish q n.finish) (same_finish k q) n.count (count_of others q) (count_of more q) (Some w) (elsewhere n k q e) (h q)

pub removes_among : (o : Option Named) (others fewer : List (Finish × Count)) (k : Finish) → is_of_finish o k ≡ false
    → Removes others k fewer → Removes (listed o others) k (listed o fewer)
removes_among None others fewer k e h = h
removes_among (Some n) others fewer k e h = λ q.
    both_ways (same_finish q n.finish) (same_finish k q) n.count (count_of others q) (count_of fewer q) None (elsewhere n k q e) (h q)

pub apart_written : (o : Option Named) (others more : List (Finish × Count)) (k : Finish) (w : Option Count) → is_of_finish o k ≡ false
    → IsApart o others → ((q : Finish) → count_of more q ≡ cond (same_finish k q) w (count_of others q)) → IsApart o more
apart_written None others more k w e apart h = tt
apart_written (Some n) others more k w e apart h = h n.finish ∙ ap (λ b. cond b w (count_of others n.finish)) e ∙ apart

-- ---- the latest one is set aside, and another is entered

pub set_aside : (n : Named) (others more : List (Finish × Count)) → Writes others n.finish n.count more
    → (f : Finish) → count_of more f ≡ count_of (listed (Some n) others) f
set_aside n others more h f = h f ∙ ap (λ b. cond b (Some n.count) (count_of others f)) (same_either n.finish f)

pub entered : (old others : List (Finish × Count)) (k : Finish) (w : Count) → ((f : Finish) → count_of others f ≡ count_of old f)
    → Writes old k w ((k, w) ∷ others)
entered old others k w h q =
    ap (λ o. cond (same_finish q k) (Some w) o) (h q) ∙ ap (λ b. cond b (Some w) (count_of old q)) (same_either q k)

-- ---- what changes is counted

pub among_counted : (o : Option Named) (others more : List (Finish × Count)) (f : Finish) (change : Change) (r : Option (Result (Unit {0}) Stop))
    → is_of_finish o f ≡ false
    → MatchOption r ((count_of others f ≡ None) × (more ≡ others)) (λ counted. IsCounted others f change counted more)
    → MatchOption r ((count_of (listed o others) f ≡ None) × (listed o more ≡ listed o others))
    (λ counted. IsCounted (listed o others) f change counted (listed o more))
among_counted o others more f change None e h = (found_among o others f e ∙ h.0, ap (listed o) h.1)
among_counted o others more f change (Some r) e h = record {
  was = h.was;
  was_there = found_among o others f e ∙ h.was_there;
  is = h.is;
  writes = writes_among o others more f h.is e h.writes;
  ok = h.ok;
  whole = h.whole;
  full = h.full;
  err = if_err r h.err (λ why x. (x.0, x.1, ap (listed o) x.2));
}

pub latest_counted : (n : Named) (others : List (Finish × Count)) (f : Finish) (change : Change) (r : Result (Unit {0}) Stop) (w : Count)
    → same_finish f n.finish ≡ true → OnOk r (counted w ≡ changed change (counted n.count)) → IsWhole (length n.count.sent.items) w
    → (IsFull change (counted n.count) → r ≡ Err (stop.Limit limits.Activities))
    → IfErr r (λ why. (why ≡ stop.Limit limits.Activities) × IsFull change (counted n.count) × (w ≡ n.count))
    → IsCounted (listed (Some n) others) f change r ((n.finish, w) ∷ others)
latest_counted n others f change r w same ok whole full err = record {
  was = n.count;
  was_there = ap (λ b. cond b (Some n.count) (count_of others f)) same;
  is = w;
  writes = latest_writes n others f w same;
  ok = ok;
  whole = whole;
  full = full;
  err = if_err r err (λ why x. (x.0, x.1, ap (λ (c : Count). (n.finish, c) ∷ others) x.2));
}

-- ---- one activity less lives

pub among_lowered : (o : Option Named) (others more : List (Finish × Count)) (f : Finish) → is_of_finish o f ≡ false → Lowers others f more
    → Lowers (listed o others) f (listed o more)
among_lowered o others more f e h = record {
  was = h.was;
  was_there = found_among o others f e ∙ h.was_there;
  writes = writes_among o others more f (record h.was { live = h.was.live - 1 }) e h.writes;
}

pub latest_lowered : (n : Named) (others : List (Finish × Count)) (f : Finish) → same_finish f n.finish ≡ true
    → Lowers (listed (Some n) others) f ((n.finish, record n.count { live = n.count.live - 1 }) ∷ others)
latest_lowered n others f same = record {
  was = n.count;
  was_there = ap (λ b. cond b (Some n.count) (count_of others f)) same;
  writes = latest_writes n others f (record n.count { live = n.count.live - 1 }) same;
}

-- ---- no finish with a greater number is there

and_no : (b t : Bool) → t ≡ false → (b && t) ≡ false
and_no true t e = e
and_no false t e = refl

greater_apart : (k f : Finish) → k.number < f.number → same_finish k f ≡ false
greater_apart k f lt = and_no (k.home == f.home) (k.number == f.number) (ne_eqb k.number f.number (λ e. omega (arith, e, lt)))

pub above_written : (highest now : ℕ) (old new : List (Finish × Count)) (k : Finish) (w : Count) → now ≡ max highest k.number
    → NoneAbove highest old → Writes old k w new → NoneAbove now new
above_written highest now old new k w is none h f lt =
    let apart = greater_apart k f (omega (arith, is, lt)) in
    h f ∙ ap (λ b. cond b (Some w) (count_of old f)) apart ∙ none f (omega (arith, is, lt))

none_either : (b : Bool) (o : Option Count) → o ≡ None → cond b None o ≡ None
none_either true o e = refl
none_either false o e = e

pub above_removed : (highest : ℕ) (old new : List (Finish × Count)) (k : Finish) → NoneAbove highest old → Removes old k new → NoneAbove highest new
above_removed highest old new k none h f lt = h f ∙ none_either (same_finish k f) (count_of old f) (none f lt)

-- ---- of a finish that is met now, nothing is as large as it can be

not_largest : 0 + 1 ≡ 2 ^ 32 → ⊥
not_largest e = omega (arith, e)

pub none_full : (change : Change) → IsFull change nothing → ⊥
none_full Begins e = not_largest e
none_full (Sends to) e = not_largest e
none_full (Receives from) (inl e) = not_largest e
none_full (Receives from) (inr e) = not_largest e

abbrev count_or : Count → Option Count → Count
count_or c None = c
count_or c (Some w) = w

some_same : (c w : Count) → Some c ≡ Some w → c ≡ w
some_same c w e = ap (λ (o : Option Count). count_or c o) e

pub first_not_full : (old new : List (Finish × Count)) (f : Finish) (places : ℕ) (change : Change) (was : Count) → Meets old f places new
    → count_of new f ≡ Some was → IsFull change (counted was) → ⊥
first_not_full old new f places change was m there full =
    let is : Some m.count ≡ Some was =
    sym (m.writes f ∙ ap (λ b. cond b (Some m.count) (count_of old f)) (same_self f f refl)) ∙ there in
    none_full change (subst (IsFull change) (sym (ap counted (some_same m.count was is)) ∙ m.nothing_yet) full)
