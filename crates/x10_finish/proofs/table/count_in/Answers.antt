use Rattle.std.proofs.Common.{IsSome, refl, sym, ◌∙◌, ap, subst}
use Rattle.std.proofs.lemmas.Map.Steps.{set_value_same}
use Rattle.std.specs.Map.{set_value}
use Rattle.x10_model.specs.Worlds.{same_finish}
use Rattle.x10_finish.proofs.Ledgers.{if_err}
use Rattle.x10_finish.proofs.table.count_in.Goals as goal

pub returns : goal.returns
returns c =
    let now = c.get_mut.follows.holds c.apply.new.count in
    let there = c.in_ok-count.ensures.value in
    record {
      was = c.in_ok-count.count.now;
      was_there = sym there;
      is = c.apply.new.count;
      writes = (now.3 (subst IsSome there refl)).0;
      ok = c.apply.ensures.ok;
      whole = c.apply.ensures.whole;
      full = c.apply.ensures.full;
      err = if_err c.apply.result c.apply.ensures.err (λ why e. (
        e.0,
        e.1,
        now.0 ∙ ap (set_value (same_finish c.args.finish) c.args.counts.now.entries) e.2
            ∙ set_value_same (same_finish c.args.finish) c.args.counts.now.entries c.in_ok-count.count.now (sym there),
      ));
    }
