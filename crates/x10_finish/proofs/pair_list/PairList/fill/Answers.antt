use Rattle.std.proofs.Common.{◌≡◌, map, replicate, ◌∙◌, ap, rules}
use Rattle.std.specs.Vec.{vec_len}
use Rattle.x10_finish.specs.declared.pair_list.Stamped.{Stamped}
use Rattle.x10_finish.specs.Pairs.{no_pair, seen_in}
use Rattle.x10_finish.proofs.PairLists.{none_written}
use Rattle.x10_finish.proofs.pair_list.PairList.fill.Goals as goal

abbrev unwritten : Stamped
unwritten = record { round = 0; pair = no_pair }

pub returns-clause-ok : goal.returns-clause-ok
returns-clause-ok c =
    let len : vec_len c.resize.new.self ≡ c.args.size = search rules in
    ap (map (seen_in 0)) (c.fill.ensures.items (λ y e. e) ∙ ap (λ n. replicate n unwritten) len) ∙ none_written 0 c.args.size
