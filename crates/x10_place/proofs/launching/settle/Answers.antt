use Rattle.std.proofs.Common.{◌≡◌, sym, ap, ◌∙◌, subst, rules}
use Rattle.x10_model.specs.Marshalling.{snapshot_of}
use Rattle.x10_frame.specs.Heads.{graph_of}
use Rattle.x10_copy.specs.Arrived.{FitsArrival, IsBrought}
use Rattle.x10_copy.specs.Taken.{IsTakenIn}
use Rattle.x10_place.specs.Arrivals.{Settles}
use Rattle.x10_place.specs.Stays.{StoreState}
use Rattle.x10_place.proofs.launching.settle.Goals as goal

pub returns-clause-taken : goal.returns-clause-taken
returns-clause-taken c = λ m here home slots fits.
    let same : c.store.inside.heap ≡ c.args.store.now.heap = ap (λ (s : StoreState). s.heap) c.store.view_is in
    let brought : IsBrought c.args.store.now.heap (graph_of c.args.view.now) c.in_ok-roots.roots.items c.bring.new.heap = search rules in
    let settles : Settles c.args.store.now (graph_of c.args.view.now) c.args.launch.now c.in_ok-roots.roots.items c.come.new.self = search rules in
    subst (λ h. IsTakenIn m here c.args.store.now.heap slots c.args.view.now c.in_ok-roots.roots.items h)
    (brought.heap_is ∙ sym settles.brought.heap_is)
    (subst (λ h. IsTakenIn m here h slots c.args.view.now c.in_ok-roots.roots.items c.bring.new.heap) same
    (c.in_ok-roots.ensures.taken m here home slots (subst (λ h. FitsArrival m here home h slots (snapshot_of (graph_of c.args.view.now)))
    (sym same) fits)))
