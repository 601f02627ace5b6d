-- `into_loose` gives the pointer of a box and its allocator.
use Rattle.std.proofs.Common.{◌≡◌, Option, Some, None, List, [], ◌∷◌, ◌++◌, refl, sym, subst}
use Rattle.std.specs.Prelude.{IsSome}
use Rattle.std.proofs.lemmas.Bool.{false≢true}
use mir.Val.{Val, vptr}
use base.Logic.{SProp, ent, id⊢, never, fst∗}
use base.Fml.{ftrue}
use prog.Wp.{WpFn}
use types.Logic.{sem}
use types.Kit.{‵, raw, ◌⊛◌, ◌$◌, ◌∵◌, !, qed, done, move, keep, drop, split, join, fsplit, suffices, rewrite}
use types.Run.{stop, fld, of_opd, no_more, and_then, returns, enter}
use types.ByLocal.{alloc_all, pass_all, free_all, look_at, get, get_in, sets}
use types.Part.{agg, sub, whole}
use contract.Monad.{fact}
use contract.Running.{tables}
use denote.Exit.{yes}
use denote.RattleType.{owns}
use denote.Signature.{types_at, plain}
use denote.RawPtr.{Ptr, block_ptr, null_ptr, in_a_block}
use denote.Steps.{nothing, heard}
use denote.Triple.Walked.{says, Stays, stay_dropped, walk_of, ends_at, Goes-dropped}
use Rattle.std.proofs.alloc.Calls.{handle_tells}
use Rattle.std.proofs.raw_atomic.Walks.{proved_at}
use Rattle.std_heap.specs.contracts.GlobalAllocator.TheImpl.{ghosts}
use Rattle.std_heap.specs.contracts.Global as global
use Rattle.std_heap.proofs.Global.TheLaws.{the_row_laws}
use mir.Raw.{raw as bare}
use denote.Memory.{lone}
use Rattle.std.specs.Box.Ownership.{box_owns}
use Rattle.x10_handles.specs.Held.{holds, token}
use Rattle.x10_handles.specs.contracts.inside.Inside as inside
use Rattle.x10_handles.specs.contracts.held.Held as held
use Rattle.x10_handles.proofs.Parts.{pair, parts_good, parts_in, word, held_out, al}
use Rattle.x10_handles.specs.contracts.held.Held.into_loose as f
use Rattle.x10_handles.proofs.held.Held.into_loose.Statement.{statement}
use Rattle.x10_handles.proofs.held.Held.into_loose.Code as code

abbrev stayed : Stays f.ended.signature.params f.ended.kept
stayed = (stay_dropped (plain (λ _. held.the_row)) yes, (stay_dropped (plain (λ _. global.the_row)) yes, tt))

-- the value of an open handle
got : {X : Type 0} (i : Option X) → IsSome i → (x : X) × (i ≡ Some x)
got (Some x) t = (x, refl)
got None t = absurd (false≢true t)

pub into_loose_spec : {M : Type 1} → statement M
into_loose_spec 𝓤 𝓛 𝓜 𝓡 wired =
    let H = 𝓛.H in let 𝓣 = tables 𝓤 H 𝓜 𝓡 𝓡.env in let c = f.clauses 𝓛 𝓜.mem 𝓡.returns in
    proved_at 𝓛 f.ended stayed c 𝓜 𝓡 (
      Goes-dropped 𝓛 0 (plain (λ _. held.the_row)) yes (λ κs x f. refl),
      (
        Goes-dropped 𝓛 0 (plain
            (λ _. global.the_row)) yes (λ κs x f. refl),
        tt,
      ),
    )
    f.Key.name code.function (code.unfolded 𝓤 H 𝓜 𝓡 wired) (λ z are.
    let v = z.0.3.0 in let a = z.0.3.1.0 in let Post : Val → SProp 𝓤 = (walk_of 𝓛 f.ended stayed c).post z in
    let Run : List Val → SProp 𝓤 = λ ws. WpFn 𝓤 H 𝓣.C 𝓣.Λ code.function ws Post in
    qed 𝓛 ((‵ ftrue ⊛ ‵ (owns (types_at f.ended.signature.params z.0.0) z.0.3 z.0.4)) ∷ raw (fact 𝓤 (IsSome v.inside)) ∷ []) ∵
    move ! (1 ∷ []) $ heard ! (IsSome v.inside) (λ there. let g = got v.inside there in let x = g.0 in
    split ! $ drop ! $ fsplit ! $ held_out ! v z.0.4.0 (λ ws. rewrite ! 0 (λ (i : Option inside.the_row.Denot). ‵ (holds v.at i)) g.1 refl $
    in_a_block ! v.at (λ p. box_owns token inside.the_row p x) (fst∗ 𝓤 (never 𝓤) (sem 𝓛 (token (bare (lone inside.the_row.mir)) null_ptr))) (λ b o e.
    move ! (1 ∷ []) $ fsplit ! $ handle_tells (al inside.the_row global.the_row the_row_laws ghosts) ! a z.0.4.1.0 (λ h eh fits. keep ! (2 ∷ 0 ∷ []) $
    let us : List Val = word (block_ptr b o) ∷ h ∷ [] in let made = parts_good inside.the_row global.the_row the_row_laws ghosts b o h fits in
    let first : z.0.4.0 ≡ word (block_ptr b o) ∷ [] = subst (λ (p : Ptr). z.0.4.0 ≡ word p ∷ []) e ws in
    suffices ! (Run us) (subst (λ (vs : List Val). ent 𝓤 (Run us) (Run vs)) (sym (λ i. first i ++ (eh i ++ []))) (id⊢ 𝓤 (Run us))) $
    enter ! 𝓣.C 𝓣.Λ code.function us Post $ alloc_all ! (λ l. pass_all ! refl ((tt, (tt, tt)), (fits, tt)) $
    sets ! (of_opd ! (get_in ! (fld ! refl (stop !)) (sub ! 0 refl (whole !)))) refl (tt, tt) $ sets ! (of_opd ! (get ! refl)) refl (tt, tt) $
    sets ! (agg ! (and_then ! (get ! refl) (and_then ! (get ! refl) (no_more !)))) refl made $
    returns ! (look_at ! 0 refl) $ free_all ! refl $
    suffices ! _ (ends_at 𝓛 f.ended stayed c z (pair (vptr b o) h) (record { at = block_ptr b o; alloc = a; value = x }) (tt, (tt, tt)) (
      tt,
      (tt, tt),
    )) $ says ! (sym g.1) $
    parts_in inside.the_row global.the_row the_row_laws ghosts ! b o h a x $ nothing ! $ nothing ! $ join ! $ nothing ! $ join ! $ join ! $
    nothing ! $ join ! $ done !))))))
