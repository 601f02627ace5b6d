use Rattle.std.proofs.Common.{arith, refl}
use Rattle.x10_verify.proofs.states.arrive.Goals as goal
use Rattle.std.proofs.lemmas.Option.{slice_get_read}

pub returns : goal.returns
returns c = record {
  entry = c.receive.new.self;
  before = c.index_mut.result.now;
  was = slice_get_read c.args.table.now.items _ c.args.target c.index_mut.result.now refl (omega arith) c.index_mut.ensures.value;
  received = c.receive.ensures;
  is = refl;
}
