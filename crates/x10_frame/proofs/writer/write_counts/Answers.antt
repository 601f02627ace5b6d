use Rattle.std.proofs.Common.{arith}
use Rattle.x10_model.specs.declared.version.FrameVersion.TheVariants.{Wide}
use Rattle.x10_frame.proofs.Drafts.{report_is}
use Rattle.x10_frame.proofs.writer.write_counts.Goals as goal

pub returns : goal.returns
returns c = record {
  value = report_is Wide c.args.from c.args.to c.args.number _ c.args.sent.now c.args.received.now c.in_ok-bytes.bytes.items
      c.put_head.new.out.items c.extend_from_slice.new.self.items c.put_counts.new.out.items c.put_counts-2.new.out.items
      (omega (arith, c.requires)) c.in_ok-bytes.ensures.items c.in_ok-put_head.ensures
      (rw c.to_be_bytes.ensures at c.in_ok-extend_from_slice.ensures.items) c.in_ok-put_counts.ensures c.in_ok-put_counts-2.ensures;
}
