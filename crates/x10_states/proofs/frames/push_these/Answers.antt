use Rattle.std.proofs.Common.{ℕ, List, ap, codes}
use Rattle.std.specs.String.{string_bytes}
use Rattle.x10_states.specs.Frames.{known_text, registers_text}
use Rattle.x10_states.specs.Kinds.{known_kind, known_registers}
use Rattle.x10_states.proofs.Pieces.{two}
use Rattle.x10_states.proofs.frames.push_these.Goals as goal

pub returns : goal.returns
unfolding known_text
returns c =
    let known = known_kind c.args.kinds.now c.args.frame.now.function c.args.frame.now.pc in
    let words = c.args.frame.now.registers.items in
    two c.push_list_of.result (string_bytes c.args.out.now) (string_bytes c.push_str.new.self) (string_bytes c.push_list_of.new.out)
    (codes ",\"registers\":") (registers_text c.args.heap.now known c.args.registers.now words)
    (registers_text c.args.heap.now known (known_registers known) words) c.in_ok-push_str.ensures.bytes
    (ap (λ (rs : List ℕ). registers_text c.args.heap.now known rs words) c.requires) c.push_list_of.ensures
