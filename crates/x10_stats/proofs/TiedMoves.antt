-- A tally and the machine's book stay tied in each move.
use Rattle.std.proofs.Common.{◌≡◌, ◌≢◌, ℕ, ◌+◌, ◌<◌, ◌≤◌, ◌^◌, false, List, [], ◌∷◌, ◌++◌, None, Some, refl, sym, ap, subst, ◌∙◌, inl, inr, arith}
use Rattle.std.specs.Prelude.{slice_get, slice_set}
use Rattle.std.proofs.lemmas.Bool.{cases_eq}
use Rattle.std.proofs.lemmas.List.{length-append}
use Rattle.std.proofs.lemmas.Option.{same_Some}
use Rattle.x10_model.specs.Maps.{with_entry}
use Rattle.x10_model.specs.Copies.{Snapshot}
use Rattle.x10_model.specs.declared.finish.Finish.{Finish}
use Rattle.x10_model.specs.Places.{Origin, Stay, Message, Spawn, Shift, Back}
use Rattle.x10_model.specs.Worlds as machine
use Rattle.x10_model.specs.Worlds.{Post, Unused, Flying, Net, Book, IsSpawn, spawns, carried, counted, left, owned, started}
use Rattle.x10_model.proofs.Events.{flying_is}
use Rattle.x10_model.proofs.Lists.{last_or_before, set_off}
use Rattle.x10_model.proofs.Maps.{at_key, off_key}
use Rattle.x10_finish.specs.Chains.{Name, IsAmong, IsBegunBy, IsChain}
use Rattle.x10_finish.specs.Closing.{IsSound, chains_of, unders_of}
use Rattle.x10_finish.specs.Nesting.{Stays, stays_of}
use Rattle.x10_finish.specs.Telling.{HowMany}
use Rattle.x10_finish.proofs.Entries.{at_entry}
use Rattle.x10_finish.proofs.HowMany.{many_more as one_more_of}
use Rattle.x10_finish.proofs.Sound.{chains_left, first_in}
use Rattle.x10_finish.proofs.WorldParts.{chains_counted}
use Rattle.x10_stats.specs.Entries.{Entry, IsSpawnFlying}
use Rattle.x10_stats.specs.Tallies.{TallyState, activity_at, begun_from, next_one, one_step, stepped, taken_over}
use Rattle.x10_stats.specs.declared.activity.Activity.{Activity}
use Rattle.x10_stats.proofs.EntryCounts.{AreSame, IsEntered, IsSame}
use Rattle.x10_world.proofs.Lists.{set_here}
use Rattle.x10_stats.proofs.Tied.{Grows, HasAt, HasNext, IsAlone, IsAwaited, IsTied, grows_set, grows_stepped, tied_stepped}
use Rattle.x10_stats.proofs.TiedChanges.{awaited_off, spawns_off, tied_moved, tied_still}
use Rattle.x10_stats.proofs.TiedEntries.{tied_begun}

-- nothing is asked of a message that is no Spawn
pub no_spawn : (book : Book) (entries : List Entry) (a : ℕ) (message : Message) → (IsSpawn message → ⊥) → IsAwaited book entries a message
no_spawn book entries a (Spawn from to under function graph) none = absurd (none (spawns from to under function graph))
no_spawn book entries a (Shift from to waiting under function graph) none = tt
no_spawn book entries a (Back from to waiting graph) none = tt

-- what is asked where the book says the same of the activity
pub awaited_as : (book after : Book) (entries more : List Entry) (a b : ℕ) (message : Message) → IsSame (book.activities a) (after.activities b)
    → (IsEntered more b → IsEntered entries a) → IsAwaited book entries a message → IsAwaited after more b message
awaited_as book after entries more a b (Spawn from to under function graph) same back h = (same.0 ∙ h.0, same.1 ∙ h.1, λ among. h.2 (back among))
awaited_as book after entries more a b (Shift from to waiting under function graph) same back h = tt
awaited_as book after entries more a b (Back from to waiting graph) same back h = tt

pub first_stay : (net : Net) (book : Book) (a p k : ℕ) (rest : List Name) → IsSound net book → a < book.begun → chains_of book a ≡ (p, k) ∷ rest
    → (s : Stay) × (stays_of net p k ≡ Some s)
first_stay net book a p k rest i lt is =
    let chain = subst (IsChain (stays_of net) (unders_of book a)) is (i.linked.chained a lt) in
    (chain.0, chain.1)

pub alone_in : (net : Net) (book : Book) (p k : ℕ) → IsSound net book → IsAlone book (book.belongs p k) p k
alone_in net book p k i b rest lt is = sym (i.linked.owner b p k lt (subst (IsAmong (p, k)) (sym is) (inl refl)))

-- what is in a list with one item set
some_set : {A : Type 0} (xs : List A) (i j : ℕ) (x y : A) → slice_get xs j ≡ Some y → (z : A) × (slice_get (slice_set xs i x) j ≡ Some z)
some_set xs i j x y is = elim (cases_eq j i) [
  | inl same ↦ (x, ap (slice_get (slice_set xs i x)) same ∙ set_here xs i x y (ap (slice_get xs) (sym same) ∙ is))
  | inr apart ↦ (y, set_off xs i j x apart ∙ is)
]

-- a stay for which none waits is the last one of its chain
pub no_rest : (stays : Stays) (under : Finish) (s : Stay) (rest : List Name) → IsBegunBy stays under s rest → s.back ≡ None → rest ≡ []
no_rest stays under s [] by none = refl
no_rest stays under s (b ∷ rest) by none = absurd (let e = sym by.3 ∙ none in cc)

-- the stay that waits for one is the next one of its chain
pub next_waits : (stays : Stays) (under : Finish) (s : Stay) (rest : List Name) (o : Origin) → IsBegunBy stays under s rest → s.back ≡ Some o
    → (below : List Name) × (t : Stay) × (rest ≡ (o.place, o.key) ∷ below) × (stays o.place o.key ≡ Some t)
next_waits stays under s [] o by back = absurd (let e = sym by.0 ∙ back in cc)
next_waits stays under s (b ∷ rest) o by back =
    let is : (let x : Origin = record { place = b.0; key = b.1 } in x) ≡ o = same_Some _ o (sym by.3 ∙ back) in
    (rest, by.0, (λ i. ((is i).place, (is i).key) ∷ rest), sym (ap (λ (x : Origin). stays x.place x.key) is) ∙ by.1)

pub same_left : (book : Book) (a b : ℕ) → IsSame (book.activities b) ((left book a).activities b)
same_left book a b = at_entry (IsSame (book.activities b)) book.activities a b _
    (λ e. (ap (λ i. (book.activities i).function) (sym e), ap (λ i. (book.activities i).steps) (sym e))) (λ apart. (refl, refl))

-- an entry more is of another activity
pub once_more : (entries : List Entry) (entry : Entry) (n m : ℕ) (e f : Entry) → (IsEntered entries entry.activity → ⊥)
    → ((i j : ℕ) (x y : Entry) → slice_get entries i ≡ Some x → slice_get entries j ≡ Some y → x.activity ≡ y.activity → i ≡ j)
    → slice_get (entries ++ entry ∷ []) n ≡ Some e → slice_get (entries ++ entry ∷ []) m ≡ Some f → e.activity ≡ f.activity → n ≡ m
once_more entries entry n m e f fresh once is too same = elim (last_or_before entries entry e n is) [
  | inl before ↦ elim (last_or_before entries entry f m too) [
    | inl again ↦ once n m e f before again same
    | inr last ↦ absurd (fresh (n, e, before, same ∙ ap (λ (x : Entry). x.activity) (sym last.1)))
  ]
  | inr last ↦ elim (last_or_before entries entry f m too) [
    | inl again ↦ absurd (fresh (m, f, again, sym same ∙ ap (λ (x : Entry). x.activity) (sym last.1)))
    | inr both ↦ last.0 ∙ sym both.0
  ]
]

-- each of them has begun, and so has one more
pub begun_more : (entries : List Entry) (entry : Entry) (begun after : ℕ) → begun ≤ after → entry.activity < after
    → ((n : ℕ) (e : Entry) → slice_get entries n ≡ Some e → e.activity < begun)
    → (n : ℕ) (e : Entry) → slice_get (entries ++ entry ∷ []) n ≡ Some e → e.activity < after
begun_more entries entry begun after less lt all n e is = elim (last_or_before entries entry e n is) [
  | inl before ↦ (let old = all n e before in omega (arith, old, less))
  | inr last ↦ (let at = ap (λ (x : Entry). x.activity) last.1 in omega (arith, at, lt))
]

module _ (made count : ℕ) (net : Net) (book : Book) (entries : List Entry) (t : TallyState) (here key number : ℕ)
    (tied : IsTied made count net.posts book entries t) (sound : IsSound net book) (stay : Stay) (there : stays_of net here key ≡ Some stay)
    (ready : stay.away ≡ false) (rooms : (p k : ℕ) (s : Stay) → stays_of net p k ≡ Some s → HasAt t p k) (unused : net.posts number ≡ Unused) (little : made + 2 < 2 ^ 64)
  where
    abbrev a : ℕ
    a = book.belongs here key

    abbrev then : Book
    then = counted book a

    abbrev on : TallyState
    on = stepped t here key

    first : (a < book.begun) × (rest : List Name) × (chains_of book a ≡ (here, key) ∷ rest)
    first = first_in net book here key stay sound there ready

    small : made + 1 < 2 ^ 64
    small = omega (arith, little)

    -- the activity makes its step, and nothing else is told
    pub tied_on : IsTied (made + 1) count net.posts then entries on
    tied_on = tied_stepped made count net.posts book entries t a here key tied first.0 first.1 first.2 (alone_in net book here key sound) small

    pub grows_on : Grows t on
    grows_on p k room =
        grows_stepped made count net.posts book entries t a here key tied first.0 first.1 first.2 (alone_in net book here key sound) small p k room

    none_there : IsSpawnFlying net.posts number → ⊥
    none_there f = (let e = sym unused ∙ f.1 in absurd cc)

    -- and a message is put out that is no Spawn
    pub tied_sent : (message : Message) → (IsSpawn message → ⊥)
        → IsTied (made + 1) count (with_entry net.posts number (Flying message)) (carried then number a) entries on
    tied_sent message plain =
        let after : Book = carried then number a in
        tied_still (made + 1) count net.posts (with_entry net.posts number (Flying message)) then after entries on tied_on (λ n e is. (refl, refl))
        (λ b x rest lt is. (lt, is))
        (awaited_off net.posts then after entries number (Flying message) tied_on.awaited
        (λ m other apart h. awaited_as then after entries entries (then.carries m) (after.carries m) other
        (ap (λ i. (then.activities i).function) (off_key then.carries number m a apart), ap (λ i. (then.activities i).steps) (off_key then.carries number m a apart))
        (λ among. subst (IsEntered entries) (off_key then.carries number m a apart) among) h)
        (λ other flies. no_spawn after entries (after.carries number) other (subst (λ x. IsSpawn x → ⊥) (flying_is message other flies) plain)))
        (record {
          begun = tied.entered.begun;
          once = tied.entered.once;
          flying = tied.entered.flying;
          spawns = spawns_off net.posts number tied.entered.flying (Flying message) tied.entered.spawns none_there
              (λ other flies. subst (λ x. IsSpawn x → ⊥) (flying_is message other flies) plain);
          number = tied.entered.number;
        })

    -- ---- an activity more

    no_entry : IsEntered entries book.begun → ⊥
    no_entry (n, e, is, same) = (let lt = tied.entered.begun n e is in omega (arith, lt, same))

    module _ (function : ℕ) (under : Finish) (stays : List Name) where
      abbrev more : Book
      more = started then function under stays

      same_more : (b : ℕ) → b ≢ book.begun → more.activities b ≡ then.activities b
      same_more b apart = off_key then.activities book.begun b _ apart

      entries_same : AreSame then more entries
      entries_same n e is =
          let apart : e.activity ≢ book.begun = λ same. (let lt = tied.entered.begun n e is in omega (arith, lt, same)) in
          (ap (λ (x : machine.Activity). x.function) (same_more e.activity apart), ap (λ (x : machine.Activity). x.steps) (same_more e.activity apart))

      new_is : more.activities book.begun ≡ record { function = function; under = under; steps = 0; stays = stays }
      new_is = at_key then.activities book.begun _

      carried_same : (m : ℕ) (message : Message) → net.posts m ≡ Flying message → IsSame (then.activities (book.carries m)) (more.activities (book.carries m))
      carried_same m message flies =
          let apart : book.carries m ≢ book.begun = λ same. (let lt = sound.carried.begun_one m message flies in omega (arith, lt, same)) in (
            ap (λ (x : machine.Activity). x.function) (same_more (book.carries m) apart),
            ap (λ (x : machine.Activity). x.steps) (same_more (book.carries m) apart),
          )

    -- its Spawn is put out
    module _ (function to : ℕ) (under : Finish) (graph : Snapshot) where
      abbrev message : Message
      message = Spawn here to under function graph

      abbrev sent : Book
      sent = carried (started then function under []) number book.begun

      abbrev posts : ℕ → Post
      posts = with_entry net.posts number (Flying message)

      chains_sent : (b : ℕ) (x : Name) (rest : List Name) → b < sent.begun → chains_of sent b ≡ x ∷ rest → (b < then.begun) × (chains_of then b ≡ x ∷ rest)
      chains_sent b x rest lt is = elim (cases_eq b book.begun) [
        | inl same ↦ absurd
            (let none : chains_of sent b ≡ [] = ap (chains_of sent) same ∙ ap (λ (y : machine.Activity). y.stays) (new_is function under []) in
            let e = sym none ∙ is in cc)
        | inr apart ↦ (omega (arith, lt, apart), sym (ap (λ (y : machine.Activity). y.stays) (same_more function under [] b apart)) ∙ is)
      ]

      awaits_it : (b : ℕ) (other : Message) → b ≡ book.begun → message ≡ other → IsAwaited sent entries b other
      awaits_it b other at is = subst (λ i. IsAwaited sent entries i other) (sym at) (subst (IsAwaited sent entries book.begun) is
          (ap (λ (y : machine.Activity). y.function) (new_is function under []), ap (λ (y : machine.Activity). y.steps) (new_is function under []), no_entry))

      awaited_sent : (m : ℕ) (other : Message) → posts m ≡ Flying other → IsAwaited sent entries (sent.carries m) other
      awaited_sent m other flies = elim (cases_eq m number) [
        | inl same ↦ awaits_it (sent.carries m) other (ap sent.carries same ∙ at_key book.carries number book.begun)
            (flying_is message other (sym (at_key net.posts number (Flying message)) ∙ ap posts (sym same) ∙ flies))
        | inr apart ↦
            let flew = sym (off_key net.posts number m (Flying message) apart) ∙ flies in
            subst (λ i. IsAwaited sent entries i other) (sym (off_key book.carries number m book.begun apart))
            (awaited_as then sent entries entries (book.carries m) (book.carries m) other (carried_same function under [] m other flew) (λ among. among)
            (tied_on.awaited m other flew))
      ]

      spawns_sent : HowMany (IsSpawnFlying posts) (tied.entered.flying + 1)
      spawns_sent = one_more_of (IsSpawnFlying net.posts) (IsSpawnFlying posts) tied.entered.flying number tied.entered.spawns none_there
          (message, at_key net.posts number (Flying message), spawns here to under function graph)
          (λ m apart f. (f.0, off_key net.posts number m (Flying message) apart ∙ f.1, f.2))
          (λ m apart f. (f.0, sym (off_key net.posts number m (Flying message) apart) ∙ f.1, f.2))

      pub tied_spawned : IsTied (made + 1) count posts sent entries on
      tied_spawned = tied_still (made + 1) count net.posts posts then sent entries on tied_on (entries_same function under []) chains_sent awaited_sent
          (record {
            begun = λ n e is. (let less = tied.entered.begun n e is in omega (arith, less));
            once = tied.entered.once;
            flying = tied.entered.flying + 1;
            spawns = spawns_sent;
            number = (let all = tied.entered.number in omega (arith, all));
          })

    -- it begins at its own place
    module _ (other function : ℕ) (under : Finish) (free : stays_of net here other ≡ None) (room : HasAt t here other) (next : HasNext t) where
      abbrev stays : List Name
      stays = (here, other) ∷ []

      abbrev after : Book
      after = owned (started then function under stays) here other book.begun

      abbrev entry : Entry
      entry = record { activity = book.begun; place = here }

      next_on : HasNext on
      next_on kept =
          let x : Activity = one_step (activity_at t here key) in
          some_set t.all x.number t.next x (next kept).0 (next kept).1

      others_after : (b : ℕ) → b < after.begun → b ≢ book.begun → (b < then.begun) × (chains_of after b ≡ chains_of then b)
      others_after b lt apart = (omega (arith, lt, apart), ap (λ (y : machine.Activity). y.stays) (same_more function under stays b apart))

      free_after : (b : ℕ) (rest : List Name) → b < then.begun → chains_of then b ≡ (here, other) ∷ rest → ⊥
      free_after b rest lt is =
          let chain : chains_of book b ≡ (here, other) ∷ rest = sym (ap (λ (f : ℕ → List Name). f b) (chains_counted book a)) ∙ is in
          let s = first_stay net book b here other rest sound lt chain in
          (let e = sym free ∙ s.1 in absurd cc)

      entered_before : (b : ℕ) → b < book.begun → IsEntered (entries ++ entry ∷ []) b → IsEntered entries b
      entered_before b lt (n, e, is, same) = elim (last_or_before entries entry e n is) [
        | inl before ↦ (n, e, before, same)
        | inr last ↦ absurd (let at = ap (λ (x : Entry). x.activity) last.1 in omega (arith, lt, same, at))
      ]

      awaited_after : (m : ℕ) (message : Message) → net.posts m ≡ Flying message → IsAwaited after (entries ++ entry ∷ []) (after.carries m) message
      awaited_after m message flies =
          awaited_as then after entries (entries ++ entry ∷ []) (book.carries m) (book.carries m) message (carried_same function under stays m message flies)
          (entered_before (book.carries m) (sound.carried.begun_one m message flies)) (tied_on.awaited m message flies)

      once_after : (n m : ℕ) (e f : Entry) → slice_get (entries ++ entry ∷ []) n ≡ Some e → slice_get (entries ++ entry ∷ []) m ≡ Some f
          → e.activity ≡ f.activity → n ≡ m
      once_after n m e f is too same = once_more entries entry n m e f no_entry tied.entered.once is too same

      pub tied_begins : IsTied (made + 1) count net.posts after (entries ++ entry ∷ []) (begun_from on here other function None)
      tied_begins = tied_begun (made + 1) count net.posts net.posts then after entries on book.begun here other function tied_on
          (entries_same function under stays)
          (ap (λ (y : machine.Activity). y.function) (new_is function under stays)) (ap (λ (y : machine.Activity). y.steps) (new_is function under stays)) no_entry
          (ap (λ (y : machine.Activity). y.stays) (new_is function under stays)) others_after free_after (grows_on here other room) next_on tied.short
          (omega (arith, little)) awaited_after
          (record {
            begun = begun_more entries entry book.begun after.begun (omega arith) (omega arith) tied.entered.begun;
            once = once_after;
            flying = tied.entered.flying;
            spawns = tied.entered.spawns;
            number = (let all = tied.entered.number in let size = length-append entries (entry ∷ []) in omega (arith, all, size));
          })

      pub grows_begins : Grows on (begun_from on here other function None)
      grows_begins p k there-is = grows_set on here other (next_one on here function) (grows_on here other room) p k there-is

    -- ---- it ends

    abbrev gone : Book
    gone = left then a

    chains_gone : chains_of gone ≡ with_entry (chains_of book) a first.1
    chains_gone = chains_left book a (here, key) first.1 first.2

    begun_by : IsBegunBy (stays_of net) (unders_of book a) stay first.1
    begun_by =
        let chain = subst (IsChain (stays_of net) (unders_of book a)) first.2 (sound.linked.chained a first.0) in
        subst (λ s. IsBegunBy (stays_of net) (unders_of book a) s first.1) (same_Some chain.0 stay (sym chain.1 ∙ there)) chain.2

    same_gone : AreSame then gone entries
    same_gone n e is = same_left then a e.activity

    off_gone : (b : ℕ) → b ≢ a → chains_of gone b ≡ chains_of book b
    off_gone b apart = ap (λ (f : ℕ → List Name). f b) chains_gone ∙ off_key (chains_of book) a b first.1 apart

    chains_then : (b : ℕ) → chains_of then b ≡ chains_of book b
    chains_then b = ap (λ (f : ℕ → List Name). f b) (chains_counted book a)

    awaited_gone : (m : ℕ) (message : Message) → IsAwaited then entries (book.carries m) message → IsAwaited gone entries (book.carries m) message
    awaited_gone m message h =
        awaited_as then gone entries entries (book.carries m) (book.carries m) message (same_left then a (book.carries m)) (λ among. among) h

    -- and nothing waits for it
    pub tied_ended : stay.back ≡ None → IsTied (made + 1) count net.posts gone entries on
    tied_ended back =
        let none : first.1 ≡ [] = no_rest (stays_of net) (unders_of book a) stay first.1 begun_by back in
        tied_still (made + 1) count net.posts net.posts then gone entries on tied_on same_gone
        (λ b x rest lt is. elim (cases_eq b a) [
          | inl same ↦ absurd
              (let here_none : chains_of gone b ≡ [] = ap (chains_of gone) same ∙ ap (λ (f : ℕ → List Name). f a) chains_gone
              ∙ at_key (chains_of book) a first.1 ∙ none in
              let e = sym here_none ∙ is in cc)
          | inr apart ↦ (lt, chains_then b ∙ sym (off_gone b apart) ∙ is)
        ])
        (λ m message flies. awaited_gone m message (tied_on.awaited m message flies))
        (record {
          begun = tied.entered.begun;
          once = tied.entered.once;
          flying = tied.entered.flying;
          spawns = tied.entered.spawns;
          number = tied.entered.number;
        })

    -- and the stay that waits for it goes on as its activity
    module _ (origin : Origin) (back_is : stay.back ≡ Some origin) (graph : Snapshot) where
      abbrev result : Message
      result = Back here origin.place origin.key graph

      abbrev later : Book
      later = carried gone number a

      abbrev posts_then : ℕ → Post
      posts_then = with_entry net.posts number (Flying result)

      no_back : IsSpawn result → ⊥
      no_back s = elim s [ ]

      waiting : (below : List Name) × (s : Stay) × (first.1 ≡ (origin.place, origin.key) ∷ below) × (stays_of net origin.place origin.key ≡ Some s)
      waiting = next_waits (stays_of net) (unders_of book a) stay first.1 origin begun_by back_is

      chain_later : chains_of later a ≡ (origin.place, origin.key) ∷ waiting.0
      chain_later = ap (λ (f : ℕ → List Name). f a) chains_gone ∙ at_key (chains_of book) a first.1 ∙ waiting.2

      free_later : (b : ℕ) (rest : List Name) → b < then.begun → b ≢ a → chains_of then b ≡ (origin.place, origin.key) ∷ rest → ⊥
      free_later b rest lt apart is =
          let its = sound.linked.owner b origin.place origin.key lt
          (subst (IsAmong (origin.place, origin.key)) (sym (sym (chains_then b) ∙ is)) (inl refl)) in
          let this = sound.linked.owner a origin.place origin.key first.0
          (subst (IsAmong (origin.place, origin.key)) (sym (first.2 ∙ ap (λ (xs : List Name). (here, key) ∷ xs) waiting.2)) (inr (inl refl))) in
          apart (sym its ∙ this)

      awaited_later : (m : ℕ) (message : Message) → posts_then m ≡ Flying message → IsAwaited later entries (later.carries m) message
      awaited_later = awaited_off net.posts then later entries number (Flying result) tied_on.awaited
          (λ m message apart h. subst (λ i. IsAwaited later entries i message) (sym (off_key book.carries number m a apart)) (awaited_gone m message h))
          (λ message flies. no_spawn later entries (later.carries number) message
          (subst (λ x. IsSpawn x → ⊥) (flying_is result message flies) no_back))

      pub tied_back : IsTied (made + 1) count posts_then later entries (taken_over on origin.place origin.key here key)
      tied_back = tied_moved (made + 1) count net.posts then later entries on a here key origin.place origin.key tied_on same_gone refl
          (tied_on.firsts a here key first.1 first.0 (chains_then a ∙ first.2)) (waiting.0, chain_later) (λ b apart. off_gone b apart ∙ sym (chains_then b))
          free_later (grows_on origin.place origin.key (rooms origin.place origin.key waiting.1 waiting.3)) posts_then awaited_later
          (record {
            begun = tied.entered.begun;
            once = tied.entered.once;
            flying = tied.entered.flying;
            spawns = spawns_off net.posts number tied.entered.flying (Flying result) tied.entered.spawns none_there
                (λ message flies. subst (λ x. IsSpawn x → ⊥) (flying_is result message flies) no_back);
            number = tied.entered.number;
          })

      pub grows_back : Grows on (taken_over on origin.place origin.key here key)
      grows_back p k room = grows_set on origin.place origin.key (activity_at on here key)
          (grows_on origin.place origin.key (rooms origin.place origin.key waiting.1 waiting.3)) p k room
