use Rattle.std.proofs.Common.{Result, Ok, Err}
use Rattle.std.specs.Prelude.{IfOk}
use Rattle.x10_copy.specs.Taken.{IsTakenIn}
use Rattle.x10_copy.proofs.arriving.arrive.Goals as goal

-- what holds of each answer that is no error
ok_then : {T E : Type 0} (P Q : T → Type 0) (r : Result T E) → ((x : T) → P x → Q x) → IfOk r P → IfOk r Q
ok_then P Q (Ok x) f h = f x h
ok_then P Q (Err e) f h = tt

pub returns-clause-taken : goal.returns-clause-taken
returns-clause-taken c =
    ok_then _ (λ roots. IsTakenIn c.args.image.now c.args.here c.args.heap.now c.args.slots.now c.args.view.now roots.items c.bring.new.heap)
    c.bring.result
    (λ roots h. h c.args.image.now c.args.here c.args.home c.args.slots.now c.in_ok-check.ensures.ok) c.bring.ensures.taken
