use Rattle.x10_code.proofs.CodecLemmas.{encoded}
use Rattle.x10_code.proofs.spelling.encode.Goals as goal

pub returns : goal.returns
returns c = record { value = encoded c.args.instr c.code.result c.write_u32.new.buf c.code.ensures.value c.write_u32.ensures }
