-- The worked run over three places: its places on the way, and its moves.
use Rattle.std.proofs.Common.{ℕ, ◌+◌, pos, true, false, [], ◌∷◌, Option, Some, None, refl, inl, inr, arith, lit<, lit≤}
use Rattle.x10_model.specs.Values.{Int, Place, Cells}
use Rattle.x10_model.specs.Copies.{Snapshot, Names, IsWhole, IsCopy, Captures, Arrives}
use Rattle.x10_model.specs.Places as places
use Rattle.x10_model.specs.declared.finish.Finish.{Finish}
use Rattle.x10_model.specs.Places.{Setting, root, Origin, Stay, Message, Spawn, Shift, Back, Effect, Waits, Works, Spawns, Shifts, Opens, Closes, Ends, Number, with_stay, next, writes}
use Rattle.x10_model.specs.Moves.{Moves, new_stay, with_line}
use Rattle.x10_model.specs.Deliveries.{FitsPlace}
use Rattle.x10_model.specs.Worlds.{first_place, empty_place}
use Rattle.x10_model.specs.Relay.{relaying}
use Rattle.x10_model.proofs.MoveLemmas.{moves, IsAlone, nobody, and_one, is_free}

-- ---- nothing is passed

abbrev pub nothing : Snapshot
nothing = record { roots = []; rails = []; nodes = [] }

abbrev pub no_names : Names
no_names = record { objects = []; rails = [] }

pub nothing_whole : IsWhole nothing
nothing_whole = record {
  roots = λ v m. (let e = m.1 in absurd cc);
  fields = λ k node v e m. absurd cc;
  nodes_reached = λ k lt. absurd (omega arith);
  rails_reached = λ k lt. absurd (omega arith);
}

pub nothing_copied : (cells : Cells) → IsCopy cells [] nothing no_names
nothing_copied cells = record {
  whole = nothing_whole;
  names = record { objects = refl; rails = refl; objects_distinct = λ i j v e f. absurd cc; rails_distinct = λ i j v e f. absurd cc };
  roots = refl;
  nodes = λ k node e. absurd cc;
  bytes = λ i bytes e. absurd cc;
}

pub captured : (cells : Cells) → Captures cells [] nothing
captured cells = (no_names, nothing_copied cells)

pub arrived : (cells : Cells) → Arrives cells nothing [] cells
arrived cells = record {
  names = no_names;
  copy = nothing_copied cells;
  unused = λ r n. elim n [ inl m ↦ (let e = m.1 in absurd cc) | inr m ↦ (let e = m.1 in absurd cc) ];
  others = λ r never. refl;
}

pub nothing_fits : (here : ℕ) (place : places.Place) → FitsPlace relaying here place nothing
nothing_fits here place = record {
  classes = λ k node e. absurd cc;
  exports = record { roots = λ v m. (let e = m.1 in absurd cc); fields = λ k node v e m. absurd cc };
}

-- ---- places, stays and messages on the way

abbrev pub inner : Finish
inner = record { home = 0; number = 1 }

abbrev pub origin : Option Origin
origin = Some (record { place = 0; key = 0 })

-- main's stay
abbrev pub main0 : Stay
main0 = new_stay 2 [] root None

abbrev pub main1 : Stay
main1 = record main0 { top = next main0.top; finishes = 1 ∷ [] }

abbrev pub main2 : Stay
main2 = record main1 { top = writes main1.top 0 (Place 1) }

abbrev pub main3 : Stay
main3 = record main2 { away = true }

abbrev pub main4 : Stay
main4 = record main3 { top = next main3.top; away = false }

abbrev pub main5 : Stay
main5 = record main4 { top = next main4.top; finishes = [] }

abbrev pub main6 : Stay
main6 = record main5 { top = writes main5.top 0 (Int (pos 9)) }

abbrev pub main7 : Stay
main7 = record main6 { top = next main6.top }

abbrev pub home0 : places.Place
home0 = first_place relaying 0

abbrev pub home1 : places.Place
home1 = with_stay (record home0 { opened = home0.opened + 1 }) 0 (Some main1)

abbrev pub home2 : places.Place
home2 = with_stay home1 0 (Some main2)

abbrev pub home3 : places.Place
home3 = with_stay home2 0 (Some main3)

abbrev pub home4 : places.Place
home4 = with_stay (record home3 { cells = home3.cells }) 0 (Some main4)

abbrev pub home5 : places.Place
home5 = with_stay home4 0 (Some main5)

abbrev pub home6 : places.Place
home6 = with_stay home5 0 (Some main6)

abbrev pub home7 : places.Place
home7 = with_stay (with_line home6 (Number (pos 9))) 0 (Some main7)

abbrev pub home8 : places.Place
home8 = with_stay home7 0 None

-- its stay at place 1
abbrev pub there0 : Stay
there0 = new_stay 1 [] inner origin

abbrev pub there1 : Stay
there1 = record there0 { top = writes there0.top 0 (Place 2) }

abbrev pub there2 : Stay
there2 = record there1 { top = next there1.top }

abbrev pub middle0 : places.Place
middle0 = empty_place 0

abbrev pub middle1 : places.Place
middle1 = with_stay (record middle0 { cells = middle0.cells }) 0 (Some there0)

abbrev pub middle2 : places.Place
middle2 = with_stay middle1 0 (Some there1)

abbrev pub middle3 : places.Place
middle3 = with_stay middle2 0 (Some there2)

abbrev pub middle4 : places.Place
middle4 = with_stay middle3 0 None

-- the other activity's stay at place 2
abbrev pub other0 : Stay
other0 = new_stay 0 [] inner None

abbrev pub other1 : Stay
other1 = record other0 { top = writes other0.top 0 (Int (pos 5)) }

abbrev pub other2 : Stay
other2 = record other1 { top = next other1.top }

abbrev pub last0 : places.Place
last0 = empty_place 0

abbrev pub last1 : places.Place
last1 = with_stay (record last0 { cells = last0.cells }) 0 (Some other0)

abbrev pub last2 : places.Place
last2 = with_stay last1 0 (Some other1)

abbrev pub last3 : places.Place
last3 = with_stay (with_line last2 (Number (pos 5))) 0 (Some other2)

abbrev pub last4 : places.Place
last4 = with_stay last3 0 None

abbrev pub goes_there : Message
goes_there = Shift 0 1 0 inner 1 nothing

abbrev pub begins_other : Message
begins_other = Spawn 1 2 inner 0 nothing

abbrev pub comes_back : Message
comes_back = Back 1 0 0 nothing

-- ---- each place has one stay at most

home0_alone : IsAlone home0.stays 0
home0_alone = and_one _ (nobody 0)

home1_alone : IsAlone home1.stays 0
home1_alone = and_one _ home0_alone

home2_alone : IsAlone home2.stays 0
home2_alone = and_one _ home1_alone

home3_alone : IsAlone home3.stays 0
home3_alone = and_one _ home2_alone

home4_alone : IsAlone home4.stays 0
home4_alone = and_one _ home3_alone

home5_alone : IsAlone home5.stays 0
home5_alone = and_one _ home4_alone

home6_alone : IsAlone home6.stays 0
home6_alone = and_one _ home5_alone

home7_alone : IsAlone home7.stays 0
home7_alone = and_one _ home6_alone

middle0_alone : IsAlone middle0.stays 0
middle0_alone = nobody 0

middle1_alone : IsAlone middle1.stays 0
middle1_alone = and_one _ middle0_alone

middle2_alone : IsAlone middle2.stays 0
middle2_alone = and_one _ middle1_alone

middle3_alone : IsAlone middle3.stays 0
middle3_alone = and_one _ middle2_alone

last0_alone : IsAlone last0.stays 0
last0_alone = nobody 0

last1_alone : IsAlone last1.stays 0
last1_alone = and_one _ last0_alone

last2_alone : IsAlone last2.stays 0
last2_alone = and_one _ last1_alone

last3_alone : IsAlone last3.stays 0
last3_alone = and_one _ last2_alone

-- ---- the moves

pub move1 : Moves relaying 0 home0 0 home1 (Opens 1 root)
move1 = moves refl refl (is_free home0.stays 0 home0_alone) refl refl (record { a = tt; b = tt; c = tt; x = tt }) (refl, refl)

pub move2 : Moves relaying 0 home1 0 home2 (Works)
move2 = moves refl refl (is_free home1.stays 0 home1_alone) refl refl (record { a = lit< tt; b = tt; c = tt; x = lit< tt }) (refl, refl)

pub move3 : Moves relaying 0 home2 0 home3 (Shifts goes_there inner)
move3 = moves refl refl (is_free home2.stays 0 home2_alone) refl refl (record { a = tt; b = (λ e. refl, lit≤ tt); c = lit< tt; x = lit< tt })
    (_, [], 1, nothing, refl, record { callee_is = refl; held = tt; fit = tt }, captured home2.cells, refl, refl)

pub move5 : Moves relaying 1 middle1 0 middle2 (Works)
move5 = moves refl refl (is_free middle1.stays 0 middle1_alone) refl refl (record { a = lit< tt; b = tt; c = tt; x = lit< tt }) (refl, refl)

pub move6 : Moves relaying 1 middle2 0 middle3 (Spawns begins_other 0 inner)
move6 = moves refl refl (is_free middle2.stays 0 middle2_alone) refl refl (record { a = tt; b = (λ e. refl, lit≤ tt); c = lit< tt; x = lit< tt })
    (_, [], 2, nothing, refl, record { callee_is = refl; held = tt; fit = tt }, refl, captured middle2.cells, refl, refl)

pub move7 : Moves relaying 1 middle3 0 middle4 (Ends inner (Some comes_back))
move7 = moves refl refl (is_free middle3.stays 0 middle3_alone) refl refl (record { a = tt; b = tt; c = tt; x = tt })
    (None, tt, (Some comes_back, refl, (nothing, captured middle3.cells, refl), refl, refl))

pub move9 : Moves relaying 0 home4 0 home4 (Waits 1)
move9 = moves refl refl (is_free home4.stays 0 home4_alone) refl refl (record { a = tt; b = tt; c = tt; x = tt }) (1, [], refl, inl (refl, refl))

pub move11 : Moves relaying 2 last1 0 last2 (Works)
move11 = moves refl refl (is_free last1.stays 0 last1_alone) refl refl (record { a = lit< tt; b = tt; c = tt; x = lit< tt })
    (pos 5, refl, (refl, refl))

pub move12 : Moves relaying 2 last2 0 last3 (Works)
move12 = moves refl refl (is_free last2.stays 0 last2_alone) refl refl (record { a = lit< tt; b = tt; c = tt; x = tt })
    (Int (pos 5), Number (pos 5), refl, refl, (refl, refl))

pub move13 : Moves relaying 2 last3 0 last4 (Ends inner None)
move13 = moves refl refl (is_free last3.stays 0 last3_alone) refl refl (record { a = tt; b = tt; c = tt; x = tt })
    (None, tt, (None, refl, refl, refl, refl))

pub move14 : Moves relaying 0 home4 0 home5 (Closes 1)
move14 = moves refl refl (is_free home4.stays 0 home4_alone) refl refl (record { a = tt; b = tt; c = tt; x = tt }) (1, [], refl, inr (refl, refl))

pub move15 : Moves relaying 0 home5 0 home6 (Works)
move15 = moves refl refl (is_free home5.stays 0 home5_alone) refl refl (record { a = lit< tt; b = tt; c = tt; x = lit< tt })
    (pos 9, refl, (refl, refl))

pub move16 : Moves relaying 0 home6 0 home7 (Works)
move16 = moves refl refl (is_free home6.stays 0 home6_alone) refl refl (record { a = lit< tt; b = tt; c = tt; x = tt })
    (Int (pos 9), Number (pos 9), refl, refl, (refl, refl))

pub move17 : Moves relaying 0 home7 0 home8 (Ends root None)
move17 = moves refl refl (is_free home7.stays 0 home7_alone) refl refl (record { a = tt; b = tt; c = tt; x = tt })
    (None, tt, (None, refl, refl, refl, refl))
