use Rattle.std.proofs.Common.{◌≡◌, take, ap, sym, ◌∙◌, arith, rules}
use Rattle.std.specs.Int.{w64, cast_signed, from_be_bytes}
use Rattle.x10_model.specs.Frames.{IntItem}
use Rattle.x10_bytes.proofs.Fronts.{signed_is}
use Rattle.x10_frame.proofs.known.first_int.Goals as goal

pub returns-clause-item : goal.returns-clause-item
returns-clause-item c =
    let e : c.read_u64.result ≡ from_be_bytes w64 (take 8 c.args.bytes.now) = omega (arith, rw c.split_at.ensures.front at c.read_u64.ensures) in
    ap IntItem (sym (signed_is c.read_u64.result c.cast_signed-number.result (search (rules, arith)) c.cast_signed-number.ensures)
    ∙ ap (λ n. cast_signed w64 n) e)
