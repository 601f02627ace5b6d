-- What the book lists, and what is quiet once nobody lives.
use Rattle.std.proofs.Common.{◌≡◌, ℕ, List, [], ◌∷◌, Some, inl, inr, refl, ◌∙◌, ap, subst}
use Rattle.x10_model.specs.declared.finish.Finish.{Finish}
use Rattle.x10_model.specs.Places.{Stay}
use Rattle.x10_finish.specs.Nesting.{stays_in, Stays, stays_of}
use Rattle.x10_finish.specs.Chains.{Name, IsAmong, IsChain}
use Rattle.x10_finish.specs.Closing.{chains_of, unders_of, QuietEventIsIdeal, StaysAreListed, OverIsQuiet}
use Rattle.x10_finish.proofs.QuietClosings.{sound_happens, happens_ideal, lives_by}

-- a stay in a chain is there
chain_there : (stays : Stays) (under : Finish) (xs : List Name) (p k : ℕ) → IsChain stays under xs → IsAmong (p, k) xs
    → (s : Stay) × (stays p k ≡ Some s)
chain_there stays under [] p k c m = absurd m
chain_there stays under (x ∷ rest) p k c (inl is) = (c.0, subst (λ (y : Name). stays y.0 y.1 ≡ Some c.0) is c.1)
chain_there stays under (x ∷ rest) p k c (inr m) = chain_there stays under rest p k c.4 m

pub stays_are_listed : StaysAreListed
stays_are_listed net book a p k i lt = (
  λ m. (chain_there (stays_of net) (unders_of book a) (chains_of book a) p k (i.linked.chained a lt) m, i.linked.owner a p k lt m),
  λ there. subst (λ b. IsAmong (p, k) (chains_of book b)) there.1 (i.linked.known p k there.0.0 there.0.1).1,
)

pub quiet_event_is_ideal : QuietEventIsIdeal
quiet_event_is_ideal setting w v event i h = (happens_ideal setting w v event i h, sound_happens setting w v event i h)

pub over_is_quiet : OverIsQuiet
over_is_quiet w f i over none = record {
  stays = λ p k place s place_is here same. (let there = ap (λ o. stays_in o k) place_is ∙ here in
      let known = i.linked.known p k s there in
      let a = w.book.belongs p k in
      over a (lives_by w a p k (chains_of w.book a) refl known.0 known.1));
  posts = λ number message flying under. none number message flying;
}
