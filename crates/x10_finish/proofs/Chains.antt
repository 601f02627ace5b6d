-- The chains of stays of activities in each step.
use Rattle.std.proofs.Common.{◌≡◌, ℕ, ◌+◌, ◌<◌, true, false, List, [], ◌∷◌, Option, Some, None, inl, inr, refl, sym, ◌∙◌, ap, subst, arith}
use Rattle.std.proofs.lemmas.Bool.{cases_eq}
use Rattle.std.proofs.lemmas.Option.{same_Some}
use Rattle.x10_model.specs.Maps.{with_entry, with_pair}
use Rattle.x10_model.specs.declared.finish.Finish.{Finish}
use Rattle.x10_model.specs.Places.{Stay, Message, Spawn, Shift, Back, innermost}
use Rattle.x10_model.specs.Worlds.{Post, Flying, Taken}
use Rattle.x10_finish.specs.Nesting.{Stays}
use Rattle.x10_finish.specs.Chains.{Name, IsAmong, IsBegunBy, IsChain, AreLinked, Waits, Carries, AreCarried}
use Rattle.x10_finish.proofs.Entries.{at_entry, at_pair}
use Rattle.x10_finish.proofs.NestedFinishes.{pair_same, pair_other, no_stay}
use Rattle.x10_model.proofs.Events.{flying_is}
use Rattle.x10_model.proofs.Found.{head_is}
use Rattle.x10_model.proofs.Maps.{at_key, at_equal_key, off_key}

-- ---- names

same_name : (p k q l : ℕ) → p ≡ q → k ≡ l → let x : Name = (p, k) in x ≡ (q, l)
same_name p k q l e f = λ i. (e i, f i)

name_parts : (p k q l : ℕ) → (let x : Name = (p, k) in x ≡ (q, l)) → (p ≡ q) × (k ≡ l)
name_parts p k q l e = (ap (λ (x : Name). x.0) e, ap (λ (x : Name). x.1) e)

-- ---- chains

among_some : (stays : Stays) (under : Finish) (xs : List Name) (p k : ℕ) → IsChain stays under xs → IsAmong (p, k) xs
    → (s : Stay) × (stays p k ≡ Some s)
among_some stays under [] p k c m = absurd m
among_some stays under (a ∷ rest) p k c (inl e) = (c.0, subst (λ (x : Name). stays x.0 x.1 ≡ Some c.0) e c.1)
among_some stays under (a ∷ rest) p k c (inr m) = among_some stays under rest p k c.4 m

-- all but the first wait
rest_away : (stays : Stays) (under : Finish) (a : Name) (rest : List Name) (p k : ℕ) (s : Stay) → IsChain stays under (a ∷ rest) → IsAmong (p, k) rest
    → stays p k ≡ Some s → s.away ≡ true
rest_away stays under a [] p k s c m there = absurd m
rest_away stays under a (b ∷ rest) p k s c (inl e) there =
    subst (λ (x : Stay). x.away ≡ true) (same_Some c.2.0 s (sym (subst (λ (x : Name). stays x.0 x.1 ≡ Some c.2.0) e c.2.1) ∙ there)) c.2.2
rest_away stays under a (b ∷ rest) p k s c (inr m) there = rest_away stays under b rest p k s c.4 m there

pub ready_first : (stays : Stays) (under : Finish) (xs : List Name) (p k : ℕ) (s : Stay) → IsChain stays under xs → IsAmong (p, k) xs
    → stays p k ≡ Some s → s.away ≡ false → (rest : List Name) × (xs ≡ (p, k) ∷ rest)
ready_first stays under [] p k s c m there ready = absurd m
ready_first stays under (a ∷ rest) p k s c (inl e) there ready = (rest, ap (λ (x : Name). x ∷ rest) e)
ready_first stays under (a ∷ rest) p k s c (inr m) there ready = absurd (let x = rest_away stays under a rest p k s c m there in cc)

begun_apart : (stays : Stays) (under : Finish) (s : Stay) (rest : List Name) (here key : ℕ) (o : Option Stay) → (IsAmong (here, key) rest → ⊥)
    → IsBegunBy stays under s rest → IsBegunBy (with_pair stays here key o) under s rest
begun_apart stays under s [] here key o apart b = b
begun_apart stays under s (x ∷ rest) here key o apart b =
    (b.0, pair_other stays here key x.0 x.1 o (λ both. apart (inl (same_name x.0 x.1 here key both.0 both.1))) ∙ b.1, b.2, b.3, b.4)

pub chain_apart : (stays : Stays) (under : Finish) (xs : List Name) (here key : ℕ) (o : Option Stay) → (IsAmong (here, key) xs → ⊥)
    → IsChain stays under xs → IsChain (with_pair stays here key o) under xs
chain_apart stays under [] here key o apart c = tt
chain_apart stays under (a ∷ rest) here key o apart c = (
  c.0,
  pair_other stays here key a.0 a.1 o (λ both. apart (inl (same_name a.0 a.1 here key both.0 both.1))) ∙ c.1,
  begun_apart stays under c.0 rest here key o (λ m. apart (inr m)) c.2,
  c.3,
  chain_apart stays under rest here key o (λ m. apart (inr m)) c.4,
)

begun_as : (stays : Stays) (under : Finish) (s t : Stay) (rest : List Name) → t.back ≡ s.back → t.inherited ≡ s.inherited
    → IsBegunBy stays under s rest → IsBegunBy stays under t rest
begun_as stays under s t [] back same b = (back ∙ b.0, same ∙ b.1)
begun_as stays under s t (x ∷ rest) back same b = (b.0, b.1, b.2, back ∙ b.3, same ∙ b.4)

-- the first stay of a chain changes
first_changes : (stays : Stays) (under : Finish) (here key : ℕ) (s t : Stay) (rest : List Name) → stays here key ≡ Some s → t.back ≡ s.back
    → t.inherited ≡ s.inherited → IsChain stays under ((here, key) ∷ rest) → IsChain (with_pair stays here key (Some t)) under ((here, key) ∷ rest)
first_changes stays under here key s t rest there back same c =
    let s_is = same_Some s c.0 (sym there ∙ c.1) in (
      t,
      pair_same stays here key (Some t),
      begun_as (with_pair stays here key (Some t)) under c.0 t rest (back ∙ ap (λ (x : Stay). x.back) s_is)
          (same ∙ ap (λ (x : Stay). x.inherited) s_is) (begun_apart stays under c.0 rest here key (Some t) c.3 c.2),
      c.3,
      chain_apart stays under rest here key (Some t) c.3 c.4,
    )

-- the last stay of a chain inherited the activity's finish
pub chain_inherits : (stays : Stays) (under : Finish) (a : Name) (rest : List Name) → IsChain stays under (a ∷ rest)
    → (p k : ℕ) × (s : Stay) × (stays p k ≡ Some s) × (s.inherited ≡ under)
chain_inherits stays under a [] c = (a.0, a.1, c.0, c.1, c.2.1)
chain_inherits stays under a (b ∷ rest) c = chain_inherits stays under b rest c.4

-- ---- the stay that works changes

pub linked_changes : (stays : Stays) (begun : ℕ) (chains : ℕ → List Name) (unders : ℕ → Finish) (belongs : ℕ → ℕ → ℕ) (here key : ℕ) (s t : Stay)
    (rest : List Name) → AreLinked stays begun chains unders belongs → stays here key ≡ Some s
    → chains (belongs here key) ≡ (here, key) ∷ rest → t.back ≡ s.back → t.inherited ≡ s.inherited
    → AreLinked (with_pair stays here key (Some t)) begun chains unders belongs
linked_changes stays begun chains unders belongs here key s t rest l there first back same = record {
  chained = λ a lt. elim (cases_eq a (belongs here key)) [
    | inl e ↦ (let c = subst (IsChain stays (unders a)) (ap chains e ∙ first) (l.chained a lt) in
        subst (IsChain (with_pair stays here key (Some t)) (unders a)) (sym (ap chains e ∙ first))
        (first_changes stays (unders a) here key s t rest there back same c))
    | inr other ↦ chain_apart stays (unders a) (chains a) here key (Some t) (λ m. other (sym (l.owner a here key lt m))) (l.chained a lt)
  ];
  owner = l.owner;
  known = λ p k u h. at_pair (λ o. o ≡ Some u → (belongs p k < begun) × IsAmong (p, k) (chains (belongs p k))) stays here key p k (Some t)
      (λ ep ek is. l.known p k s (ap (λ x. stays x k) ep ∙ ap (stays here) ek ∙ there)) (λ other is. l.known p k u is) h;
}

-- a new activity, with no stay yet
pub linked_spawns : (stays : Stays) (begun : ℕ) (chains : ℕ → List Name) (unders : ℕ → Finish) (belongs : ℕ → ℕ → ℕ) (under : Finish)
    → AreLinked stays begun chains unders belongs
    → AreLinked stays (begun + 1) (with_entry chains begun []) (with_entry unders begun under) belongs
linked_spawns stays begun chains unders belongs under l = record {
  chained = λ a lt. at_entry (λ (xs : List Name). IsChain stays (with_entry unders begun under a) xs) chains begun a [] (λ e. tt)
      (λ other. subst (λ f. IsChain stays f (chains a)) (sym (off_key unders begun a under other)) (l.chained a (let ne = other in omega arith)));
  owner = λ a p k lt. at_entry (λ (xs : List Name). IsAmong (p, k) xs → belongs p k ≡ a) chains begun a [] (λ e m. absurd m)
      (λ other m. l.owner a p k (let ne = other in omega arith) m);
  known = λ p k s h. (let both = l.known p k s h in (
    omega (arith, both.0),
    at_entry (λ (xs : List Name). IsAmong (p, k) xs) chains begun (belongs p k) []
        (λ e. absurd (let lt = both.0 in omega (arith, lt, e))) (λ other. both.1),
  ));
}

enters_known : (stays : Stays) (begun : ℕ) (chains : ℕ → List Name) (unders : ℕ → Finish) (belongs : ℕ → ℕ → ℕ) (here key a : ℕ) (u : Stay)
    → AreLinked stays begun chains unders belongs → a < begun → (p k : ℕ) (s : Stay) → with_pair stays here key (Some u) p k ≡ Some s
    → (with_pair belongs here key a p k < begun) × IsAmong (p, k) (with_entry chains a ((here, key) ∷ chains a) (with_pair belongs here key a p k))
enters_known stays begun chains unders belongs here key a u l lt p k s h =
    at_pair (λ o. o ≡ Some s → (with_pair belongs here key a p k < begun)
    × IsAmong (p, k) (with_entry chains a ((here, key) ∷ chains a) (with_pair belongs here key a p k))) stays here key p k (Some u)
    (λ ep ek is. (let at : with_pair belongs here key a p k ≡ a = at_pair (λ v. v ≡ a) belongs here key p k a (λ x y. refl)
    (λ other. absurd (other (ep, ek))) in (
      omega (arith, at, lt),
      subst (λ x. IsAmong (p, k) (with_entry chains a ((here, key) ∷ chains a) x)) (sym at)
          (subst (IsAmong (p, k)) (sym (at_key chains a ((here, key) ∷ chains a))) (inl (sym (same_name p k here key ep ek)))),
    )))
    (λ other is. (let both = l.known p k s is in
    let at : with_pair belongs here key a p k ≡ belongs p k = pair_other belongs here key p k a other in (
      omega (arith, at, both.0),
      subst (λ x. IsAmong (p, k) (with_entry chains a ((here, key) ∷ chains a) x)) (sym at)
          (at_entry (IsAmong (p, k)) chains a (belongs p k) ((here, key) ∷ chains a) (λ e. inr (subst (λ x. IsAmong (p, k) (chains x)) e both.1))
          (λ apart. both.1)),
    ))) h

-- a stay begins as the first of an activity's chain
pub linked_enters : (stays : Stays) (begun : ℕ) (chains : ℕ → List Name) (unders : ℕ → Finish) (belongs : ℕ → ℕ → ℕ) (here key a : ℕ) (u : Stay)
    → AreLinked stays begun chains unders belongs → stays here key ≡ None → a < begun
    → IsBegunBy stays (unders a) u (chains a) → AreLinked (with_pair stays here key (Some u)) begun
    (with_entry chains a ((here, key) ∷ chains a)) unders (with_pair belongs here key a)
linked_enters stays begun chains unders belongs here key a u l free lt by =
    let fresh : (b : ℕ) → b < begun → IsAmong (here, key) (chains b)
    → ⊥ = λ b lb m. (let some = among_some stays (unders b) (chains b) here key (l.chained b lb) m in no_stay some.0 (sym free ∙ some.1)) in
    record {
      chained = λ b lb. at_entry (IsChain (with_pair stays here key (Some u)) (unders b)) chains a b ((here, key) ∷ chains a)
          (λ e. subst (λ x. IsChain (with_pair stays here key (Some u)) (unders x) ((here, key) ∷ chains a)) (sym e) (
            u,
            pair_same stays here key (Some u),
            begun_apart stays (unders a) u (chains a) here key (Some u) (fresh a lt) by,
            fresh a lt,
            chain_apart stays (unders a) (chains a) here key (Some u) (fresh a lt) (l.chained a lt),
          ))
          (λ other. chain_apart stays (unders b) (chains b) here key (Some u) (fresh b lb) (l.chained b lb));
      owner = λ b p k lb. at_entry (λ (xs : List Name). IsAmong (p, k) xs → with_pair belongs here key a p k ≡ b) chains a b ((here, key) ∷ chains a)
          (λ e m. elim m [
            | inl is ↦ (let parts = name_parts here key p k is in at_pair (λ v. v ≡ b) belongs here key p k a (λ ep ek. sym e)
                (λ other. absurd (other (sym parts.0, sym parts.1))))
            | inr was ↦ at_pair (λ v. v ≡ b) belongs here key p k a (λ ep ek. sym e) (λ other. l.owner a p k lt was ∙ sym e)
          ])
          (λ apart m. at_pair (λ v. v ≡ b) belongs here key p k a (λ ep ek.
          absurd (fresh b lb (subst (λ (x : Name). IsAmong x (chains b)) (same_name p k here key ep ek) m))) (λ other. l.owner b p k lb m));
      known = λ p k s h. enters_known stays begun chains unders belongs here key a u l lt p k s h;
    }

-- the stay that works ends
pub linked_ends : (stays : Stays) (begun : ℕ) (chains : ℕ → List Name) (unders : ℕ → Finish) (belongs : ℕ → ℕ → ℕ) (here key : ℕ) (s : Stay)
    (rest : List Name) → AreLinked stays begun chains unders belongs → stays here key ≡ Some s
    → chains (belongs here key) ≡ (here, key) ∷ rest → AreLinked (with_pair stays here key None) begun
    (with_entry chains (belongs here key) rest) unders belongs
linked_ends stays begun chains unders belongs here key s rest l there first =
    let a = belongs here key in
    let lt = (l.known here key s there).0 in
    let c = subst (IsChain stays (unders a)) first (l.chained a lt) in
    record {
      chained = λ b lb. at_entry (IsChain (with_pair stays here key None) (unders b)) chains a b rest
          (λ e. subst (λ x. IsChain (with_pair stays here key None) (unders x) rest) (sym e)
          (chain_apart stays (unders a) rest here key None c.3 c.4))
          (λ other. chain_apart stays (unders b) (chains b) here key None (λ m. other (sym (l.owner b here key lb m))) (l.chained b lb));
      owner = λ b p k lb. at_entry (λ (xs : List Name). IsAmong (p, k) xs → belongs p k ≡ b) chains a b rest
          (λ e m. l.owner a p k lt (subst (IsAmong (p, k)) (sym first) (inr m)) ∙ sym e) (λ other m. l.owner b p k lb m);
      known = λ p k u h. at_pair (λ o. o ≡ Some u → (belongs p k < begun) × IsAmong (p, k) (with_entry chains a rest (belongs p k))) stays here key p
          k None (λ ep ek is. no_stay u is)
          (λ other is. (let both = l.known p k u is in (
            both.0,
            at_entry (IsAmong (p, k)) chains a (belongs p k) rest
                (λ e. elim (subst (IsAmong (p, k)) first (subst (λ x. IsAmong (p, k) (chains x)) e both.1))
                [ inl is_it ↦ absurd (let parts = name_parts here key p k is_it in other (sym parts.0, sym parts.1)) | inr m ↦ m ])
                (λ apart. both.1),
          ))) h;
    }

-- ---- messages that carry activities

-- no message in flight carries the activity
abbrev pub IsUncarried : (ℕ → ℕ) → (ℕ → Post) → ℕ → Type 0
IsUncarried carries posts a = (m : ℕ) (message : Message) → posts m ≡ Flying message → carries m ≡ a → ⊥

waits_apart : (stays : Stays) (chain : List Name) (p k : ℕ) (P : Stay → Type 0) (here key : ℕ) (o : Option Stay) → (IsAmong (here, key) chain → ⊥)
    → Waits stays chain p k P → Waits (with_pair stays here key o) chain p k P
waits_apart stays chain p k P here key o apart w = (
  w.0,
  w.1,
  w.2,
  pair_other stays here key p k o (λ both. apart
      (subst (IsAmong (here, key)) (sym w.2) (inl (same_name p k here key both.0 both.1)))) ∙ w.3,
  w.4,
  w.5,
)

carries_apart : (stays : Stays) (chain : List Name) (under : Finish) (message : Message) (here key : ℕ) (o : Option Stay)
    → (IsAmong (here, key) chain → ⊥) → Carries stays chain under message → Carries (with_pair stays here key o) chain under message
carries_apart stays chain under (Spawn from to f function graph) here key o apart c = c
carries_apart stays chain under (Shift from to waiting f function graph) here key o apart c =
    waits_apart stays chain from waiting (λ s. f ≡ innermost from s) here key o apart c
carries_apart stays chain under (Back from to waiting graph) here key o apart c =
    waits_apart stays chain to waiting (λ s. Unit {0}) here key o apart c

-- a stay of an activity that nothing carries changes
pub carried_changes : (stays : Stays) (begun : ℕ) (chains : ℕ → List Name) (unders : ℕ → Finish) (belongs : ℕ → ℕ → ℕ) (carries : ℕ → ℕ)
    (posts : ℕ → Post) (here key : ℕ) (o : Option Stay) → AreLinked stays begun chains unders belongs
    → AreCarried stays begun chains unders carries posts → IsUncarried carries posts (belongs here key)
    → AreCarried (with_pair stays here key o) begun chains unders carries posts
carried_changes stays begun chains unders belongs carries posts here key o l c none = record {
  begun_one = c.begun_one;
  says = λ m message flies. carries_apart stays (chains (carries m)) (unders (carries m)) message here key o
      (λ among. none m message flies (sym (l.owner (carries m) here key (c.begun_one m message flies) among))) (c.says m message flies);
  single = c.single;
}

-- a stay is new
pub carried_fresh : (stays : Stays) (begun : ℕ) (chains : ℕ → List Name) (unders : ℕ → Finish) (belongs : ℕ → ℕ → ℕ) (carries : ℕ → ℕ)
    (posts : ℕ → Post) (here key : ℕ) (u : Stay) → AreLinked stays begun chains unders belongs
    → AreCarried stays begun chains unders carries posts → stays here key ≡ None
    → AreCarried (with_pair stays here key (Some u)) begun chains unders carries posts
carried_fresh stays begun chains unders belongs carries posts here key u l c free = record {
  begun_one = c.begun_one;
  says = λ m message flies. carries_apart stays (chains (carries m)) (unders (carries m)) message here key (Some u)
      (λ among. (let some = among_some stays (unders (carries m)) (chains (carries m)) here key
      (l.chained (carries m) (c.begun_one m message flies)) among in no_stay some.0 (sym free ∙ some.1))) (c.says m message flies);
  single = c.single;
}

-- the chain of an activity that nothing carries changes
pub carried_chain : (stays : Stays) (begun : ℕ) (chains : ℕ → List Name) (unders : ℕ → Finish) (carries : ℕ → ℕ) (posts : ℕ → Post) (a : ℕ)
    (chain : List Name) → AreCarried stays begun chains unders carries posts → IsUncarried carries posts a
    → AreCarried stays begun (with_entry chains a chain) unders carries posts
carried_chain stays begun chains unders carries posts a chain c none = record {
  begun_one = c.begun_one;
  says = λ m message flies. subst (λ xs. Carries stays xs (unders (carries m)) message)
      (sym (off_key chains a (carries m) chain (none m message flies))) (c.says m message flies);
  single = c.single;
}

-- there is one activity more
pub carried_begun : (stays : Stays) (begun : ℕ) (chains : ℕ → List Name) (unders : ℕ → Finish) (carries : ℕ → ℕ) (posts : ℕ → Post)
    (chain : List Name) (under : Finish) → AreCarried stays begun chains unders carries posts
    → AreCarried stays (begun + 1) (with_entry chains begun chain) (with_entry unders begun under) carries posts
carried_begun stays begun chains unders carries posts chain under c =
    let apart : (m : ℕ) (message : Message) → posts m ≡ Flying message → carries m ≡ begun
    → ⊥ = λ m message flies e. (let lt = c.begun_one m message flies in omega (arith, lt, e)) in
    record {
      begun_one = λ m message flies. (let lt = c.begun_one m message flies in omega (arith, lt));
      says = λ m message flies. subst (λ xs. Carries stays xs (with_entry unders begun under (carries m)) message)
          (sym (off_key chains begun (carries m) chain (apart m message flies)))
          (subst (λ f. Carries stays (chains (carries m)) f message) (sym (off_key unders begun (carries m) under (apart m message flies)))
          (c.says m message flies));
      single = c.single;
    }

-- a message is put out that carries an activity which nothing carried
pub carried_new : (stays : Stays) (begun : ℕ) (chains : ℕ → List Name) (unders : ℕ → Finish) (carries : ℕ → ℕ) (posts : ℕ → Post) (number a : ℕ)
    (message : Message) → AreCarried stays begun chains unders carries posts → IsUncarried carries posts a → a < begun
    → Carries stays (chains a) (unders a) message → AreCarried stays begun chains unders (with_entry carries number a)
    (with_entry posts number (Flying message))
carried_new stays begun chains unders carries posts number a message c none lt says = record {
  begun_one = λ m other flies. elim (cases_eq m number) [
    | inl e ↦ subst (λ x. x < begun) (sym (at_equal_key carries number m a e)) lt
    | inr apart ↦ subst (λ x. x < begun) (sym (off_key carries number m a apart))
        (c.begun_one m other (sym (off_key posts number m (Flying message) apart) ∙ flies))
  ];
  says = λ m other flies. elim (cases_eq m number) [
    | inl e ↦ subst (λ x. Carries stays (chains x) (unders x) other) (sym (at_equal_key carries number m a e))
        (subst (Carries stays (chains a) (unders a)) (flying_is message other (sym (at_equal_key posts number m (Flying message) e) ∙ flies)) says)
    | inr apart ↦ subst (λ x. Carries stays (chains x) (unders x) other) (sym (off_key carries number m a apart))
        (c.says m other (sym (off_key posts number m (Flying message) apart) ∙ flies))
  ];
  single = λ m n other another flies too same. elim (cases_eq m number) [
    | inl e ↦ elim (cases_eq n number) [
      | inl f ↦ e ∙ sym f
      | inr nf ↦ absurd (none n another (sym (off_key posts number n (Flying message) nf) ∙ too)
          (sym (off_key carries number n a nf) ∙ sym same ∙ at_equal_key carries number m a e))
    ]
    | inr ne ↦ elim (cases_eq n number) [
      | inl f ↦ absurd (none m other (sym (off_key posts number m (Flying message) ne) ∙ flies)
          (sym (off_key carries number m a ne) ∙ same ∙ at_equal_key carries number n a f))
      | inr nf ↦ c.single m n other another (sym (off_key posts number m (Flying message) ne) ∙ flies)
          (sym (off_key posts number n (Flying message) nf) ∙ too) (sym (off_key carries number m a ne) ∙ same ∙ off_key carries number n a nf)
    ]
  ];
}

taken_apart : (posts : ℕ → Post) (number m : ℕ) (message : Message) → with_entry posts number Taken m ≡ Flying message
    → (m ≡ number → ⊥) × (posts m ≡ Flying message)
taken_apart posts number m message flies = elim (cases_eq m number) [
  | inl e ↦ absurd (let x = sym (at_equal_key posts number m Taken e) ∙ flies in cc)
  | inr apart ↦ (apart, sym (off_key posts number m Taken apart) ∙ flies)
]

-- a message is taken in
pub carried_taken : (stays : Stays) (begun : ℕ) (chains : ℕ → List Name) (unders : ℕ → Finish) (carries : ℕ → ℕ) (posts : ℕ → Post) (number : ℕ)
    → AreCarried stays begun chains unders carries posts
    → AreCarried stays begun chains unders carries (with_entry posts number Taken)
carried_taken stays begun chains unders carries posts number c = record {
  begun_one = λ m message flies. c.begun_one m message (taken_apart posts number m message flies).1;
  says = λ m message flies. c.says m message (taken_apart posts number m message flies).1;
  single = λ m n message other flies too same. c.single m n message other (taken_apart posts number m message flies).1
      (taken_apart posts number n other too).1 same;
}

-- and nothing else carries its activity
pub taken_uncarried : (stays : Stays) (begun : ℕ) (chains : ℕ → List Name) (unders : ℕ → Finish) (carries : ℕ → ℕ) (posts : ℕ → Post) (number : ℕ)
    (message : Message) → AreCarried stays begun chains unders carries posts → posts number ≡ Flying message
    → IsUncarried carries (with_entry posts number Taken) (carries number)
taken_uncarried stays begun chains unders carries posts number message c flies m other too same =
    let apart = taken_apart posts number m other too in
    apart.0 (c.single m number other message apart.1 flies same)

-- nothing carries an activity that works
waits_ready : (stays : Stays) (chain : List Name) (p k : ℕ) (P : Stay → Type 0) (here key : ℕ) (s : Stay) (rest : List Name)
    → chain ≡ (here, key) ∷ rest → stays here key ≡ Some s → s.away ≡ false → Waits stays chain p k P → ⊥
waits_ready stays chain p k P here key s rest first there ready w =
    let is : (let x : Name = (p, k) in x ≡ (here, key)) = head_is (p, k) (here, key) w.0 rest (sym w.2 ∙ first) in
    let same : stays p k ≡ Some s = subst (λ (x : Name). stays x.0 x.1 ≡ Some s) (sym is) there in
    let away : s.away ≡ true = subst (λ (x : Stay). x.away ≡ true) (same_Some w.1 s (sym w.3 ∙ same)) w.4 in
    absurd cc

carries_ready : (stays : Stays) (chain : List Name) (under : Finish) (message : Message) (here key : ℕ) (s : Stay) (rest : List Name)
    → chain ≡ (here, key) ∷ rest → stays here key ≡ Some s → s.away ≡ false → Carries stays chain under message → ⊥
carries_ready stays chain under (Spawn from to f function graph) here key s rest first there ready c = absurd (let x = sym first ∙ c.0 in cc)
carries_ready stays chain under (Shift from to waiting f function graph) here key s rest first there ready c =
    waits_ready stays chain from waiting (λ s. f ≡ innermost from s) here key s rest first there ready c
carries_ready stays chain under (Back from to waiting graph) here key s rest first there ready c =
    waits_ready stays chain to waiting (λ s. Unit {0}) here key s rest first there ready c

pub ready_uncarried : (stays : Stays) (begun : ℕ) (chains : ℕ → List Name) (unders : ℕ → Finish) (carries : ℕ → ℕ) (posts : ℕ → Post) (a here key : ℕ)
    (s : Stay) (rest : List Name) → AreCarried stays begun chains unders carries posts → chains a ≡ (here, key) ∷ rest
    → stays here key ≡ Some s → s.away ≡ false → IsUncarried carries posts a
ready_uncarried stays begun chains unders carries posts a here key s rest c first there ready m message flies same =
    carries_ready stays (chains (carries m)) (unders (carries m)) message here key s rest (ap chains same ∙ first) there ready
    (c.says m message flies)
