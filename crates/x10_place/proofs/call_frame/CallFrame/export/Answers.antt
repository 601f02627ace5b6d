use Rattle.x10_place.proofs.HeapCalls.{exports}
use Rattle.x10_place.proofs.call_frame.CallFrame.export.Goals as goal

pub returns-clause-ok : goal.returns-clause-ok
returns-clause-ok c = exports c.args.self.now c.put.new.self c.args.heap.now c.export.new.self c.args.locality.here c.in_ok-id.id c.word.result
    c.reference.result c.args.instr c.requires.reads c.word.ensures c.in_ok-id.ensures.ok.0 c.fits.ensures.exports_few
    c.in_ok-id.ensures.ok.1 c.reference.ensures c.put.ensures
