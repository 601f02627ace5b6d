use Rattle.std.proofs.Common.{◌≡◌, true, false, sym, ap, ◌∙◌, rules}
use Rattle.std.specs.Prelude.{Some}
use Rattle.x10_frame.specs.Heads.{graph_of}
use Rattle.x10_copy.proofs.SameTests.{no_roots, no_nodes, not_named, all_named}
use Rattle.x10_copy.proofs.arriving.values_found.Goals as goal

pub returns-then-not-roots_fit-clause-found : goal.returns-then-not-roots_fit-clause-found
returns-then-not-roots_fit-clause-found c = no_roots c.args.image.now c.args.here c.args.heap.now c.args.slots.now (graph_of c.args.view.now)
    (search rules)

pub returns-in_default-clause-found : goal.returns-in_default-clause-found
returns-in_default-clause-found c = no_nodes c.args.image.now c.args.here c.args.heap.now c.args.slots.now (graph_of c.args.view.now)
    (sym c.in_default.is ∙ c.nodes_found.ensures)

pub returns-then-not-exported-clause-found : goal.returns-then-not-exported-clause-found
returns-then-not-exported-clause-found c =
    let unnamed : c.in-Some.exported ≡ false = search rules in
    not_named c.args.image.now c.args.here c.args.heap.now c.args.slots.now (graph_of c.args.view.now) (search rules)
    (ap (λ b. Some b) (sym unnamed) ∙ sym c.in-Some.is ∙ c.nodes_found.ensures)

pub returns-clause-found : goal.returns-clause-found
returns-clause-found c =
    let named : c.in-Some.exported ≡ true = search rules in
    all_named c.args.image.now c.args.here c.args.heap.now c.args.slots.now (graph_of c.args.view.now) c.roots_exported.result (search rules)
    (ap (λ b. Some b) (sym named) ∙ sym c.in-Some.is ∙ c.nodes_found.ensures) c.roots_exported.ensures
