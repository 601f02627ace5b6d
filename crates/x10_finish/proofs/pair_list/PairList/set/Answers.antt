use Rattle.std.proofs.Common.{List, ◌∙◌, ap, slice_set}
use Rattle.x10_finish.specs.declared.pairs.Pair.{Pair}
use Rattle.x10_finish.proofs.PairLists.{one_written}
use Rattle.x10_finish.proofs.pair_list.PairList.set.Goals as goal

pub returns : goal.returns
returns c = one_written c.self.inside.round c.self.inside.items.items c.args.i c.args.pair
    ∙ ap (λ (xs : List Pair). slice_set xs c.args.i c.args.pair) c.self.view_is
