use Rattle.std.proofs.Common.{arith}
use Rattle.x10_code.proofs.CodecLemmas.{is_found, is_only, is_unknown}
use Rattle.x10_code.proofs.spelling.decode_slice.Goals as goal

pub returns-clause-found : goal.returns-clause-found
returns-clause-found c = is_found c.args.bytes.now c.read.result c.requires (λ k. omega (arith, c.type_inv.bytes k)) c.read.ensures

pub returns-clause-only : goal.returns-clause-only
returns-clause-only c i is spelled = is_only c.args.bytes.now c.read.result i c.read.ensures is spelled

pub returns-clause-unknown : goal.returns-clause-unknown
returns-clause-unknown c = is_unknown c.args.bytes.now c.read.result c.read.ensures
