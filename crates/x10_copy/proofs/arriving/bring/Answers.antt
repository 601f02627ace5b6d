use Rattle.std.proofs.Common.{rules}
use Rattle.x10_frame.specs.Heads.{graph_of}
use Rattle.x10_copy.specs.Arrived.{IsArrived, IsBrought}
use Rattle.x10_copy.proofs.ArrivedLemmas.{taken}
use Rattle.x10_copy.proofs.arriving.bring.Goals as goal

pub returns-in-Ok-clause-taken : goal.returns-in-Ok-clause-taken
returns-in-Ok-clause-taken c = λ m here home slots fits.
    let g = graph_of c.args.view.now in
    let b : IsBrought c.args.heap.now g c.in_ok-words.words.items c.add_all.new.heap = search rules in
    let h : IsArrived m here home c.args.heap.now slots g c.in_ok-words.words.items c.add_all.new.heap =
    record { fits = fits; roots_are = b.roots_are; heap_is = b.heap_is } in
    taken m here home c.args.heap.now slots c.args.view.now c.in_ok-words.words.items c.add_all.new.heap h c.fits.ensures
