use Rattle.std.proofs.Common.{◌≡◌, true, false, rules}
use Rattle.x10_frame.specs.Heads.{graph_of}
use Rattle.x10_copy.specs.Fitting.{have_homes}
use Rattle.x10_copy.proofs.TestLemmas.{homes_tell}
use Rattle.x10_copy.proofs.arriving.check.Goals as goal

pub returns-then-not-have_homes-clause-err : goal.returns-then-not-have_homes-clause-err
returns-then-not-have_homes-clause-err c =
    let g = graph_of c.args.view.now in
    let found = rw c.in-Some.is at c.values_found.ensures.found in
    let misfit : have_homes c.args.home c.args.slots.now g.roots ≡ false = search rules in (
      found.0,
      λ h. let t : have_homes c.args.home c.args.slots.now g.roots ≡ true = (homes_tell c.args.home g c.args.slots.now).1
          h in absurd cc,
    )

pub returns-then-not-exported-clause-err : goal.returns-then-not-exported-clause-err
returns-then-not-exported-clause-err c =
    let g = graph_of c.args.view.now in
    let found = rw c.in-Some.is at c.values_found.ensures.found in
    let fit : have_homes c.args.home c.args.slots.now g.roots ≡ true = search rules in
    let unnamed : c.in-Some.exported ≡ false = search rules in (
      found.0,
      (homes_tell c.args.home g c.args.slots.now).0 fit,
      λ h. let t : c.in-Some.exported ≡ true = found.1.1
          h in absurd cc,
    )

pub returns-clause-ok : goal.returns-clause-ok
returns-clause-ok c =
    let g = graph_of c.args.view.now in
    let found = rw c.in-Some.is at c.values_found.ensures.found in
    let fit : have_homes c.args.home c.args.slots.now g.roots ≡ true = search rules in
    let named : c.in-Some.exported ≡ true = search rules in
    record { kinds = found.0; homes = (homes_tell c.args.home g c.args.slots.now).0 fit; exports = found.1.0 named }
