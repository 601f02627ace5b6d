use Rattle.std.proofs.Common.{sym, ap, codes}
use Rattle.std.specs.String.{string_bytes}
use Rattle.slab.specs.Slab.{get}
use Rattle.x10_states.specs.Stays.{stay_or_null, stay_text}
use Rattle.x10_states.proofs.Pieces.{told}
use Rattle.x10_states.proofs.parts.push_keyed.Goals as goal

pub returns-in-None : goal.returns-in-None
returns-in-None c = told c.push_null.result (string_bytes c.push_null.new.out) (string_bytes c.args.out.now) (codes "null")
    (stay_or_null c.args.kinds.now c.args.place.now (get c.args.place.now.stays c.args.key) c.args.idle)
    (sym (ap (λ o. stay_or_null c.args.kinds.now c.args.place.now o c.args.idle) c.in-None.ensures)) c.push_null.ensures

pub returns-in-Some : goal.returns-in-Some
returns-in-Some c = told c.push_stay.result (string_bytes c.push_stay.new.out) (string_bytes c.args.out.now)
    (stay_text c.args.kinds.now c.args.place.now c.in-Some.stay.now c.args.idle)
    (stay_or_null c.args.kinds.now c.args.place.now (get c.args.place.now.stays c.args.key) c.args.idle)
    (sym (ap (λ o. stay_or_null c.args.kinds.now c.args.place.now o c.args.idle) c.in-Some.ensures)) c.push_stay.ensures
