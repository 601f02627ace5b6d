use Rattle.std.proofs.Common.{◌≡◌, List, ℕ, Ok, ap, ◌∙◌}
use Rattle.hex.specs.Hex.{decode_sized}
use Rattle.hex.proofs.HexLemmas.{decode_sized-encode_lower}
use Rattle.x10_log.proofs.Faults.{no_fault}
use Rattle.x10_log.proofs.reading.digest_of.Goals as goal

pub returns-in-Ok : goal.returns-in-Ok
returns-in-Ok c = λ bytes fits len e.
    let read : decode_sized c.as_bytes.result.now 32 ≡ Ok bytes =
    ap (λ (l : List ℕ). decode_sized l 32) (c.as_bytes.ensures.value ∙ e) ∙ decode_sized-encode_lower bytes 32 len fits in
    (rw read at c.in-Ok.ensures.value).1

pub returns-in-Err : goal.returns-in-Err
returns-in-Err c = λ bytes fits len e.
    let read : decode_sized c.as_bytes.result.now 32 ≡ Ok bytes =
    ap (λ (l : List ℕ). decode_sized l 32) (c.as_bytes.ensures.value ∙ e) ∙ decode_sized-encode_lower bytes 32 len fits in
    absurd (no_fault c.in-Err.field-0 tt (rw read at c.in-Err.ensures.value).0)
