-- Who waits for whom, where one stay of the net changes, or one message; and what is captured keeps its kinds.
use Rattle.std.proofs.Common.{◌≡◌, ℕ, suc, ◌<◌, true, List, [], ◌∷◌, map, length, Option, Some, None, inl, inr, refl, sym, ◌∙◌, ap, subst}
use Rattle.std.specs.Prelude.{slice_index}
use Rattle.std.proofs.lemmas.Bool.{cases_eq}
use Rattle.std.proofs.lemmas.Option.{same_Some}
use Rattle.x10_kinds.specs.declared.kind.Kind.{Kind}
use Rattle.x10_kinds.specs.declared.kind.Kind.TheVariants as kind
use Rattle.x10_model.specs.Maps.{with_entry, with_pair, IsIn}
use Rattle.x10_model.specs.Modules.{Module}
use Rattle.x10_model.specs.declared.slot.Slot.{Slot}
use Rattle.x10_model.specs.Values.{Value, Int, Place, Text, Rail, Object, Null, Ref, Fields, Cells, IsObjectOf, IsOfKind}
use Rattle.x10_model.specs.Signatures.{HasHome, FitsSlotAt, FitSlots}
use Rattle.x10_model.specs.Copies.{Snapshot, IsNodeOf, IsOfKindIn, Names, named, IsInside, IsCopy, Captures}
use Rattle.x10_model.specs.Places.{Setting, CallFrame, Origin, Stay, Message, Spawn, Shift, Back}
use Rattle.x10_model.specs.Moves.{Situation, GivesBack, as_list}
use Rattle.x10_model.specs.Deliveries.{FitsResultAt}
use Rattle.x10_model.specs.Worlds.{Post, Flying, Taken, Net, posts_after}
use Rattle.x10_model.proofs.Decided.{get_below}
use Rattle.x10_model.proofs.Events.{flying_is}
use Rattle.x10_model.proofs.Maps.{at_key, off_key}
use Rattle.x10_finish.specs.Nesting.{Stays, stays_of}
use Rattle.x10_finish.proofs.Entries.{at_pair}
use Rattle.x10_finish.proofs.NestedFinishes.{pair_other}
use Rattle.x10_world.specs.Links.{first_function_of, first_function, WaitsAt, FitsReceiver, AreAnswered}

-- ---- the first function

-- it doesn't hang on the instruction or the registers
pub same_first : (top other : CallFrame) (callers : List CallFrame) → top.function ≡ other.function
    → first_function_of top callers ≡ first_function_of other callers
same_first top other [] same = same
same_first top other (caller ∷ callers) same = refl

-- ---- parts of the net

-- of stays and messages by themselves
abbrev pub StaysAnswered : Module → Stays → Type 0
StaysAnswered program stays = (p key : ℕ) (s : Stay) (o : Origin) → stays p key ≡ Some s → s.back ≡ Some o
    → WaitsAt program stays o.place o.key p (first_function s)

abbrev pub PostsFit : Setting → Stays → (ℕ → Post) → Type 0
PostsFit setting stays posts = (number : ℕ) (message : Message) → posts number ≡ Flying message → FitsReceiver setting stays message

pub answered_as : (setting : Setting) (net : Net) (stays : Stays) → stays_of net ≡ stays → StaysAnswered setting.program stays
    → PostsFit setting stays net.posts → AreAnswered setting net
answered_as setting net stays same s p =
    let both = subst (λ (x : Stays). StaysAnswered setting.program x × PostsFit setting x net.posts) (sym same) (s, p) in
    record { stays = both.0; posts = both.1 }

-- ---- a stay changes where nothing waits

-- nothing waits there
abbrev pub IsNotWaiting : Module → Stays → ℕ → ℕ → Type 0
IsNotWaiting program stays here key = (to function : ℕ) → WaitsAt program stays here key to function → ⊥

waits_at : (program : Module) (stays : Stays) (p k q l to function : ℕ) → (p ≡ q) × (k ≡ l) → WaitsAt program stays p k to function
    → WaitsAt program stays q l to function
waits_at program stays p k q l to function both w = subst (λ x. WaitsAt program stays x l to function) both.0
    (subst (λ y. WaitsAt program stays p y to function) both.1 w)

pub waits_apart : (program : Module) (stays : Stays) (here key p k to function : ℕ) (o : Option Stay) → ((p ≡ here) × (k ≡ key) → ⊥)
    → WaitsAt program stays p k to function → WaitsAt program (with_pair stays here key o) p k to function
waits_apart program stays here key p k to function o apart w = record {
  stay = w.stay;
  call = w.call;
  is_there = pair_other stays here key p k o apart ∙ w.is_there;
  is_away = w.is_away;
  call_is = w.call_is;
  is_at = w.is_at;
  function_is = w.function_is;
  to_is = w.to_is;
}

pub waits_on : (program : Module) (stays : Stays) (here key p k to function : ℕ) (o : Option Stay) → IsNotWaiting program stays here key
    → WaitsAt program stays p k to function → WaitsAt program (with_pair stays here key o) p k to function
waits_on program stays here key p k to function o none w =
    waits_apart program stays here key p k to function o (λ both. none to function (waits_at program stays p k here key to function both w)) w

-- the stay that waits for what the message brings about
abbrev pub IsAwaitedAt : Message → ℕ → ℕ → Type 0
IsAwaitedAt (Spawn from to under function graph) p k = ⊥
IsAwaitedAt (Shift from to waiting under function graph) p k = (from ≡ p) × (waiting ≡ k)
IsAwaitedAt (Back from to waiting graph) p k = (to ≡ p) × (waiting ≡ k)

awaited_waits : (setting : Setting) (stays : Stays) (message : Message) (p k : ℕ) → FitsReceiver setting stays message → IsAwaitedAt message p k
    → (to function : ℕ) × WaitsAt setting.program stays p k to function
awaited_waits setting stays (Spawn from to under function graph) p k f at = absurd at
awaited_waits setting stays (Shift from to waiting under function graph) p k f at =
    (to, function, waits_at setting.program stays from waiting p k to function at f.2)
awaited_waits setting stays (Back from to waiting graph) p k f at = (from, f.0, waits_at setting.program stays to waiting p k from f.0 at f.2)

pub fits_apart : (setting : Setting) (stays : Stays) (here key : ℕ) (o : Option Stay) (message : Message) → (IsAwaitedAt message here key → ⊥)
    → FitsReceiver setting stays message → FitsReceiver setting (with_pair stays here key o) message
fits_apart setting stays here key o (Spawn from to under function graph) apart f = f
fits_apart setting stays here key o (Shift from to waiting under function graph) apart f =
    (f.0, f.1, waits_apart setting.program stays here key from waiting to function o apart f.2, f.3)
fits_apart setting stays here key o (Back from to waiting graph) apart f =
    (f.0, f.1, waits_apart setting.program stays here key to waiting from f.0 o apart f.2, f.3, f.4, f.5)

pub posts_on : (setting : Setting) (stays : Stays) (posts : ℕ → Post) (here key : ℕ) (o : Option Stay) → IsNotWaiting setting.program stays here key
    → PostsFit setting stays posts → PostsFit setting (with_pair stays here key o) posts
posts_on setting stays posts here key o none fit number message flies =
    fits_apart setting stays here key o message (λ at. (let w = awaited_waits setting stays message here key (fit number message flies) at in
    none w.0 w.1 w.2)) (fit number message flies)

pub stays_on : (program : Module) (stays : Stays) (here key : ℕ) (o : Option Stay) → IsNotWaiting program stays here key
    → ((t : Stay) (x : Origin) → o ≡ Some t → t.back ≡ Some x → WaitsAt program stays x.place x.key here (first_function t))
    → StaysAnswered program stays → StaysAnswered program (with_pair stays here key o)
stays_on program stays here key o none own all p k s x there back =
    waits_on program stays here key x.place x.key p (first_function s) o none
    (at_pair (λ y. y ≡ Some s → WaitsAt program stays x.place x.key p (first_function s)) stays here key p k o
    (λ ep ek is. subst (λ q. WaitsAt program stays x.place x.key q (first_function s)) (sym ep) (own s x is back))
    (λ apart is. all p k s x is back) there)

-- where the stay is not away
pub ready_not_waiting : (program : Module) (stays : Stays) (here key : ℕ) (s : Stay) → stays here key ≡ Some s → (s.away ≡ true → ⊥)
    → IsNotWaiting program stays here key
ready_not_waiting program stays here key s there ready to function w =
    ready (subst (λ (x : Stay). x.away ≡ true) (same_Some w.stay s (sym w.is_there ∙ there)) w.is_away)

-- where there is none
pub free_not_waiting : (program : Module) (stays : Stays) (here key : ℕ) → stays here key ≡ None → IsNotWaiting program stays here key
free_not_waiting program stays here key free to function w = absurd (let x = sym free ∙ w.is_there in cc)

-- ---- messages

-- the message, if there is one, fits its receiver
abbrev pub FitsIfAny : Setting → Stays → Option Message → Type 0
FitsIfAny setting stays None = Unit {0}
FitsIfAny setting stays (Some message) = FitsReceiver setting stays message

pub posts_sent : (setting : Setting) (stays : Stays) (posts : ℕ → Post) (number : ℕ) (sent : Option Message) → FitsIfAny setting stays sent
    → PostsFit setting stays posts → PostsFit setting stays (posts_after posts number sent)
posts_sent setting stays posts number None fits all m other flies = all m other flies
posts_sent setting stays posts number (Some message) fits all m other flies = elim (cases_eq m number) [
  | inl e ↦ subst (FitsReceiver setting stays) (flying_is message other
      (sym (ap (with_entry posts number (Flying message)) e ∙ at_key posts number (Flying message)) ∙ flies)) fits
  | inr apart ↦ all m other (sym (off_key posts number m (Flying message) apart) ∙ flies)
]

pub taken_apart : (posts : ℕ → Post) (number m : ℕ) (message : Message) → with_entry posts number Taken m ≡ Flying message
    → (m ≡ number → ⊥) × (posts m ≡ Flying message)
taken_apart posts number m message flies = elim (cases_eq m number) [
  | inl e ↦ absurd (let x = sym (ap (with_entry posts number Taken) e ∙ at_key posts number Taken) ∙ flies in cc)
  | inr apart ↦ (apart, sym (off_key posts number m Taken apart) ∙ flies)
]

-- ---- kinds of what is captured

same_fields : (c d : ℕ) (xs ys : List Value) → Some (Fields c xs) ≡ Some (Fields d ys) → c ≡ d
same_fields c d xs ys e = cc

-- an object of a class is copied as a node of that class
object_in : (cells : Cells) (values : List Value) (g : Snapshot) (n : Names) → IsCopy cells values g n → (k class : ℕ) → k < length g.nodes
    → IsObjectOf cells (slice_index n.objects k) class → IsNodeOf g k class
object_in cells values g n c k class below o =
    let node = get_below g.nodes k below in
    (node.0, node.1, same_fields node.0.class class (map (named n) node.0.fields) o.0 (sym (c.nodes k node.0 node.1) ∙ o.1))

kind_in : (cells : Cells) (values : List Value) (g : Snapshot) (n : Names) → IsCopy cells values g n → (v : Value) (k : Kind) → IsInside g v
    → IsOfKind cells (named n v) k → IsOfKindIn g v k
kind_in cells values g n c (Int z) kind.Int inside h = tt
kind_in cells values g n c (Place p) kind.Place inside h = tt
kind_in cells values g n c (Text t) kind.Text inside h = tt
kind_in cells values g n c (Rail i) kind.Rail inside h = inside
kind_in cells values g n c (Object k) (kind.Obj class) inside h = object_in cells values g n c k class inside h
kind_in cells values g n c (Object k) (kind.Opt class) inside h = object_in cells values g n c k class inside h
kind_in cells values g n c Null (kind.Opt class) inside h = tt
kind_in cells values g n c (Ref home id class) (kind.GRef other) inside h = h
kind_in cells values g n c _ _ inside h = absurd h

home_in : (n : Names) (at : ℕ) (v : Value) → HasHome at (named n v) → HasHome at v
home_in n at (Ref home id class) h = h
home_in n at _ h = absurd h

slot_in : (cells : Cells) (values : List Value) (g : Snapshot) (n : Names) (at : ℕ) (v : Value) (slot : Slot) → IsCopy cells values g n → IsInside g v
    → FitsSlotAt (IsOfKind cells) at (named n v) slot → FitsSlotAt (IsOfKindIn g) at v slot
slot_in cells values g n at v slot c inside f = record {
  kind = kind_in cells values g n c v slot.kind inside f.kind;
  home = λ flag. home_in n at v (f.home flag);
}

slots_in : (cells : Cells) (values : List Value) (g : Snapshot) (n : Names) (at : ℕ) (roots : List Value) (slots : List Slot)
    → IsCopy cells values g n → ((v : Value) → IsIn v roots → IsInside g v)
    → FitSlots (IsOfKind cells) at (map (named n) roots) slots → FitSlots (IsOfKindIn g) at roots slots
slots_in cells values g n at [] [] c inside f = tt
slots_in cells values g n at [] (slot ∷ slots) c inside f = absurd f
slots_in cells values g n at (v ∷ vs) [] c inside f = absurd f
slots_in cells values g n at (v ∷ vs) (slot ∷ slots) c inside f =
    (slot_in cells values g n at v slot c (inside v (0, refl)) f.0, slots_in cells values g n at vs slots c (λ w is. inside w (suc is.0, is.1)) f.1)

-- arguments that fit fit in their copy too
pub arguments_in : (cells : Cells) (values : List Value) (g : Snapshot) (at : ℕ) (slots : List Slot) → Captures cells values g
    → FitSlots (IsOfKind cells) at values slots → FitSlots (IsOfKindIn g) at g.roots slots
arguments_in cells values g at slots c f = slots_in cells values g c.0 at g.roots slots c.1 c.1.whole.roots
    (subst (λ (vs : List Value). FitSlots (IsOfKind cells) at vs slots) c.1.roots f)

no_value : {A : Type 0} (v : Value) (vs : List Value) → [] ≡ v ∷ vs → A
no_value v vs e = absurd cc

first_value : (v w : Value) (vs ws : List Value) → v ∷ vs ≡ w ∷ ws → v ≡ w
first_value v w vs ws e = cc

rest_values : (v w : Value) (vs ws : List Value) → v ∷ vs ≡ w ∷ ws → vs ≡ ws
rest_values v w vs ws e = cc

result_roots : (s : Situation) (g : Snapshot) (n : Names) (slot : Option Slot) (result : Option Value) (roots : List Value)
    → IsCopy s.place.cells (as_list result) g n → ((v : Value) → IsIn v roots → IsInside g v) → as_list result ≡ map (named n) roots
    → GivesBack s slot result → FitsResultAt g s.here slot roots
result_roots s g n None None [] c inside e f = tt
result_roots s g n None None (w ∷ ws) c inside e f = no_value (named n w) (map (named n) ws) e
result_roots s g n None (Some v) roots c inside e f = absurd f
result_roots s g n (Some slot) None roots c inside e f = absurd f
result_roots s g n (Some slot) (Some v) [] c inside e f = no_value v [] (sym e)
result_roots s g n (Some slot) (Some v) (w ∷ []) c inside e f =
    slot_in s.place.cells (v ∷ []) g n s.here w slot c (inside w (0, refl))
    (subst (λ x. FitsSlotAt (IsOfKind s.place.cells) s.here x slot) (first_value v (named n w) [] [] e) f.1)
result_roots s g n (Some slot) (Some v) (w ∷ x ∷ xs) c inside e f =
    no_value (named n x) (map (named n) xs) (rest_values v (named n w) [] (named n x ∷ map (named n) xs) e)

-- and so does a result
pub result_in : (s : Situation) (slot : Option Slot) (result : Option Value) (g : Snapshot) → Captures s.place.cells (as_list result) g
    → GivesBack s slot result → FitsResultAt g s.here slot g.roots
result_in s slot result g c f = result_roots s g c.0 slot result g.roots c.1 c.1.whole.roots c.1.roots f
