use Rattle.std.proofs.Common.{◌≡◌, Some, sym, ap, subst, ◌∙◌}
use Rattle.std.specs.Prelude.{slice_get, slice_set}
use Rattle.std.proofs.lemmas.Option.{same_Some, slice_get_within, slice_get-get_or}
use Rattle.std.specs.Vec.{with_item}
use Rattle.x10_findings.specs.contracts.findings.Findings.{the_view}
use Rattle.x10_findings.specs.Findings.{FindingsState, IsThis, one_more}
use Rattle.x10_findings.specs.Findings.IsAdded.{again}
use Rattle.x10_findings.proofs.findings.Findings.add.Goals as goal

pub returns-in-Some-clause-added : goal.returns-in-Some-clause-added
returns-in-Some-clause-added c =
    let found = c.in-Some.ensures in
    let there = subst (λ (s : FindingsState). slice_get s.found c.in-Some.at ≡ Some found.0) (sym c.self.view_is) found.1 in
    let here = slice_get-get_or c.self.inside.list.items c.in-Some.at c.index_mut.result.now
    (slice_get_within c.self.inside.list.items c.in-Some.at found.0 there) ∙ ap Some (sym c.index_mut.ensures.value) in
    let e = same_Some found.0 c.index_mut.result.now (sym there ∙ here) in
    again c.in-Some.at c.index_mut.result.now (subst (λ (s : FindingsState). slice_get s.found c.in-Some.at ≡ Some c.index_mut.result.now)
    c.self.view_is here)
    (subst (λ g. IsThis g c.args.output.items c.args.ended) e (subst (λ os. IsThis found.0 os c.args.ended) c.deref.ensures.value found.2))
    (subst (λ (s : FindingsState). the_view (record {
      list = with_item c.self.inside.list c.in-Some.at
          (record c.index_mut.result.now { count = c.saturating_add.result });
      others = c.self.inside.others;
    })
    ≡ record {
      found = slice_set s.found c.in-Some.at (record c.index_mut.result.now { count = one_more c.index_mut.result.now.count });
      others = s.others;
    }) c.self.view_is
    (ap (λ n. the_view (record {
      list = with_item c.self.inside.list c.in-Some.at (record c.index_mut.result.now { count = n });
      others = c.self.inside.others;
    })) c.saturating_add.ensures))
