use Rattle.std.proofs.Common.{[], ◌∷◌, sym, subst}
use Rattle.std.specs.Prelude.{IfOk}
use Rattle.x10_copy.specs.Taken.{IsTakenIn}
use Rattle.x10_place.specs.Sending.{slots_of}
use Rattle.x10_place.specs.Stays.{StoreState}
use Rattle.x10_place.proofs.resuming.arrive_as.Goals as goal

pub returns-in-Some-clause-taken : goal.returns-in-Some-clause-taken
returns-in-Some-clause-taken c =
    subst (λ m. IfOk c.arrive.result (λ roots. IsTakenIn m c.args.store.now.here c.args.store.now.heap
    (slots_of c.args.slot) c.args.view.now roots.items c.arrive.new.heap)) c.image-image.ensures
    (subst (λ o. IfOk c.arrive.result (λ roots. IsTakenIn c.image-image.result.now c.args.store.now.here c.args.store.now.heap
    (slots_of o) c.args.view.now roots.items c.arrive.new.heap)) (sym c.in-Some.is)
    (subst (λ n. IfOk c.arrive.result (λ roots. IsTakenIn c.image-image.result.now n c.args.store.now.heap
    (c.in-Some.slot ∷ []) c.args.view.now roots.items c.arrive.new.heap)) c.locality-here.ensures.here
    (subst (λ (s : StoreState). IfOk c.arrive.result (λ roots.
    IsTakenIn c.image-image.result.now c.locality-here.result.here s.heap (c.in-Some.slot ∷ []) c.args.view.now roots.items c.arrive.new.heap))
    c.store.view_is c.arrive.ensures.taken)))

pub returns-in-None-clause-taken : goal.returns-in-None-clause-taken
returns-in-None-clause-taken c =
    subst (λ m. IfOk c.arrive-in-None.result (λ roots. IsTakenIn m c.args.store.now.here c.args.store.now.heap
    (slots_of c.args.slot) c.args.view.now roots.items c.arrive-in-None.new.heap)) c.image-image.ensures
    (subst (λ o. IfOk c.arrive-in-None.result (λ roots. IsTakenIn c.image-image.result.now c.args.store.now.here c.args.store.now.heap
    (slots_of o) c.args.view.now roots.items c.arrive-in-None.new.heap)) (sym c.in-None.is)
    (subst (λ n. IfOk c.arrive-in-None.result (λ roots. IsTakenIn c.image-image.result.now n c.args.store.now.heap [] c.args.view.now roots.items
    c.arrive-in-None.new.heap)) c.locality-here.ensures.here
    (subst (λ (s : StoreState). IfOk c.arrive-in-None.result (λ roots.
    IsTakenIn c.image-image.result.now c.locality-here.result.here s.heap [] c.args.view.now roots.items c.arrive-in-None.new.heap))
    c.store.view_is c.arrive-in-None.ensures.taken)))
