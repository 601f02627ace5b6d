-- A tally and the machine's book stay tied where a message is taken in.
use Rattle.std.proofs.Common.{◌≡◌, ◌≢◌, ℕ, ◌+◌, ◌-◌, ◌<◌, ◌≤◌, ◌^◌, List, [], ◌∷◌, ◌++◌, length, None, refl, sym, ap, subst, ◌∙◌, inl, inr, arith}
use Rattle.std.proofs.lemmas.Bool.{cases_eq}
use Rattle.std.proofs.lemmas.List.{length-append}
use Rattle.x10_model.specs.Maps.{with_entry}
use Rattle.x10_model.specs.Copies.{Snapshot}
use Rattle.x10_model.specs.declared.finish.Finish.{Finish}
use Rattle.x10_model.specs.Places.{Message, Spawn, Shift, Back}
use Rattle.x10_model.specs.Worlds.{Post, Flying, Taken, Net, Book, IsSpawn, spawns, entered}
use Rattle.x10_model.proofs.Events.{flying_is}
use Rattle.x10_model.proofs.Lists.{last_or_before}
use Rattle.x10_model.proofs.Maps.{at_key, off_key}
use Rattle.x10_finish.specs.Chains.{Name}
use Rattle.x10_finish.specs.Closing.{IsSound, chains_of}
use Rattle.x10_finish.specs.Nesting.{stays_of}
use Rattle.x10_finish.specs.Telling.{HowMany}
use Rattle.x10_finish.proofs.Entries.{at_entry}
use Rattle.x10_finish.proofs.HowMany.{many_less as one_less_of, many_some as some_of}
use Rattle.x10_finish.proofs.Sound.{chains_entered}
use Rattle.x10_stats.specs.Entries.{AreEntries, Entry, IsSpawnFlying}
use Rattle.x10_stats.specs.Tallies.{TallyState, begun_from, taken_over}
use Rattle.x10_stats.proofs.EntryCounts.{AreSame, IsEntered, IsSame}
use Rattle.x10_stats.proofs.Tied.{HasAt, HasNext, IsTied}
use Rattle.x10_stats.proofs.TiedChanges.{spawns_off, tied_moved, tied_still}
use Rattle.x10_stats.proofs.TiedEntries.{tied_begun}
use Rattle.x10_stats.proofs.TiedMoves.{awaited_as, begun_more, first_stay, once_more}

pub same_entered : (book : Book) (a here key b : ℕ) → IsSame (book.activities b) ((entered book a here key).activities b)
same_entered book a here key b = at_entry (IsSame (book.activities b)) book.activities a b _
    (λ e. (ap (λ i. (book.activities i).function) (sym e), ap (λ i. (book.activities i).steps) (sym e))) (λ apart. (refl, refl))

module _ (made count : ℕ) (net : Net) (book : Book) (entries : List Entry) (t : TallyState) (number : ℕ)
    (tied : IsTied made count net.posts book entries t) (sound : IsSound net book) (short : length entries ≤ made) (little : made + 1 < 2 ^ 64) where
  abbrev a : ℕ
  a = book.carries number

  abbrev then : ℕ → Post
  then = with_entry net.posts number Taken

  -- another message still flies
  flew : (m : ℕ) (message : Message) → then m ≡ Flying message → (m ≢ number) × (net.posts m ≡ Flying message)
  flew m message flies = elim (cases_eq m number) [
    | inl same ↦ absurd (let e = sym (at_key net.posts number Taken) ∙ ap then (sym same) ∙ flies in cc)
    | inr apart ↦ (apart, sym (off_key net.posts number m Taken apart) ∙ flies)
  ]

  no_taken : (message : Message) → Taken ≡ Flying message → IsSpawn message → ⊥
  no_taken message e s = absurd cc

  still : (message : Message) → net.posts number ≡ Flying message → (IsSpawn message → ⊥) → AreEntries then book entries
  still message flies plain = record {
    begun = tied.entered.begun;
    once = tied.entered.once;
    flying = tied.entered.flying;
    spawns = spawns_off net.posts number tied.entered.flying Taken tied.entered.spawns
        (λ f. plain (subst IsSpawn (flying_is f.0 message (sym f.1 ∙ flies)) f.2)) no_taken;
    number = tied.entered.number;
  }

  -- ---- a result

  pub tied_result : (from to waiting : ℕ) (graph : Snapshot) → net.posts number ≡ Flying (Back from to waiting graph)
      → IsTied made count then book entries t
  tied_result from to waiting graph flies =
      tied_still made count net.posts then book book entries t tied (λ n e is. (refl, refl)) (λ b x rest lt is. (lt, is))
      (λ m message f. tied.awaited m message (flew m message f).1) (still (Back from to waiting graph) flies (λ s. elim s [ ]))

  -- ---- a stay begins

  module _ (here key : ℕ) (free : stays_of net here key ≡ None) (room : HasAt t here key) where
    abbrev after : Book
    after = entered book a here key

    chains_after : chains_of after ≡ with_entry (chains_of book) a ((here, key) ∷ chains_of book a)
    chains_after = chains_entered book a here key

    off_after : (b : ℕ) → b ≢ a → chains_of after b ≡ chains_of book b
    off_after b apart = ap (λ (f : ℕ → List Name). f b) chains_after ∙ off_key (chains_of book) a b _ apart

    at_after : chains_of after a ≡ (here, key) ∷ chains_of book a
    at_after = ap (λ (f : ℕ → List Name). f a) chains_after ∙ at_key (chains_of book) a _

    same_after : AreSame book after entries
    same_after n e is = same_entered book a here key e.activity

    none_here : (b : ℕ) (rest : List Name) → b < book.begun → chains_of book b ≡ (here, key) ∷ rest → ⊥
    none_here b rest lt is = (let s = first_stay net book b here key rest sound lt is in let e = sym free ∙ s.1 in cc)

    -- of an activity that waits elsewhere
    module _ (from to waiting : ℕ) (under : Finish) (function : ℕ) (graph : Snapshot)
        (flies : net.posts number ≡ Flying (Shift from to waiting under function graph)) where
      pub tied_shifted : IsTied made count then after entries (taken_over t here key from waiting)
      tied_shifted =
          let says = sound.carried.says number (Shift from to waiting under function graph) flies in
          let lt = sound.carried.begun_one number (Shift from to waiting under function graph) flies in
          let s = still (Shift from to waiting under function graph) flies (λ s. elim s [ ]) in
          tied_moved made count net.posts book after entries t a from waiting here key tied same_after refl
          (tied.firsts a from waiting says.0 lt says.2) (chains_of book a, at_after) off_after (λ b rest less apart is. none_here b rest less is) room then
          (λ m message f. awaited_as book after entries entries (book.carries m) (book.carries m) message (same_entered book a here key (book.carries m))
          (λ among. among) (tied.awaited m message (flew m message f).1))
          (record { begun = s.begun; once = s.once; flying = s.flying; spawns = s.spawns; number = s.number })

    -- of one that begins with it
    module _ (from to : ℕ) (under : Finish) (function : ℕ) (graph : Snapshot) (next : HasNext t)
        (flies : net.posts number ≡ Flying (Spawn from to under function graph)) where
      abbrev message : Message
      message = Spawn from to under function graph

      abbrev entry : Entry
      entry = record { activity = a; place = here }

      lt : a < book.begun
      lt = sound.carried.begun_one number message flies

      it : ((book.activities a).function ≡ function) × ((book.activities a).steps ≡ 0) × (IsEntered entries a → ⊥)
      it = tied.awaited number message flies

      chain : chains_of after a ≡ (here, key) ∷ []
      chain = at_after ∙ ap (λ (xs : List Name). (here, key) ∷ xs) (sound.carried.says number message flies).0

      is_other : (m : ℕ) (other : Message) → m ≢ number → net.posts m ≡ Flying other → book.carries m ≢ a
      is_other m other apart f same = apart (sound.carried.single m number other message f flies same)

      entered_before : (b : ℕ) → b ≢ a → IsEntered (entries ++ entry ∷ []) b → IsEntered entries b
      entered_before b apart (n, e, is, same) = elim (last_or_before entries entry e n is) [
        | inl before ↦ (n, e, before, same)
        | inr last ↦ absurd (apart (sym same ∙ ap (λ (x : Entry). x.activity) (sym last.1)))
      ]

      spawns_then : HowMany (IsSpawnFlying then) (tied.entered.flying - 1)
      spawns_then = one_less_of (IsSpawnFlying net.posts) (IsSpawnFlying then) tied.entered.flying number tied.entered.spawns
          (message, flies, spawns from to under function graph)
          (λ f. (let e = flew number f.0 f.1 in e.0 refl))
          (λ m apart f. (f.0, off_key net.posts number m Taken apart ∙ f.1, f.2))
          (λ m apart f. (f.0, sym (off_key net.posts number m Taken apart) ∙ f.1, f.2))

      pub tied_entered : IsTied made count then after (entries ++ entry ∷ []) (begun_from t here key function None)
      tied_entered =
          let same = same_entered book a here key a in
          tied_begun made count net.posts then book after entries t a here key function tied same_after (same.0 ∙ it.0) (same.1 ∙ it.1) it.2 chain
          (λ b less apart. (less, off_after b apart)) none_here room next short little
          (λ m other f. (let was = flew m other f in
          awaited_as book after entries (entries ++ entry ∷ []) (book.carries m) (book.carries m) other (same_entered book a here key (book.carries m))
          (entered_before (book.carries m) (is_other m other was.0 was.1)) (tied.awaited m other was.1)))
          (record {
            begun = begun_more entries entry book.begun after.begun (omega arith) lt tied.entered.begun;
            once = λ n m e f is too at. once_more entries entry n m e f it.2 tied.entered.once is too at;
            flying = tied.entered.flying - 1;
            spawns = spawns_then;
            number = (let all = tied.entered.number in
                let some = some_of (IsSpawnFlying net.posts) tied.entered.flying number tied.entered.spawns
                (message, flies, spawns from to under function graph) in
                let size = length-append entries (entry ∷ []) in
                omega (arith, all, some, size));
          })
