use Rattle.std.proofs.Common.{◌≤◌, length, sym, ap, subst, ◌∙◌, rules}
use Rattle.x10_place.specs.declared.ground.Ground.{Ground}
use Rattle.x10_place.specs.Arrivals.{IsEntrance}
use Rattle.x10_frame.specs.Heads.{graph_of}
use Rattle.x10_place.specs.declared.call_frame.CallFrame.{CallFrame}
use Rattle.x10_place.specs.Frames.{IsEnteredWith}
use Rattle.x10_place.specs.Arrivals.{IsOpenHere, FitsLaunch, IsUnsettled, Settles, IsLaunchRefused}
use Rattle.x10_place.specs.Stays.{frames_of}
use Rattle.x10_place.proofs.EntryLemmas.{roots_few, taken_beside, unsettled_refused, launches}
use Rattle.x10_place.proofs.ground.Ground.launch.Goals as goal

pub returns-in_err-roots-clause-refused : goal.returns-in_err-roots-clause-refused
returns-in_err-roots-clause-refused c =
    let fits : FitsLaunch c.args.self.now.verified.now.program c.args.self.now.store c.args.view.now c.args.launch = search rules in
    let is_open : IsOpenHere c.args.self.now.store c.args.launch.under = search rules in
    let why : IsUnsettled c.args.self.now.store (graph_of c.args.view.now) c.args.launch c.in_err-roots.field-0.0 = search rules in
    let refused : IsLaunchRefused c.args.self.now.verified.now.program c.args.self.now.stays c.args.self.now.store c.args.view.now c.args.launch
    c.in_err-roots.field-0.0 = unsettled_refused c.args.self.now.verified.now.program c.args.self.now.store c.args.view.now c.args.launch fits
    c.in_ok-signature.signature (subst (λ (g : Ground). IsEntrance g.verified.now.program c.args.launch c.in_ok-signature.signature)
    c.self.view_is c.in_ok-signature.ensures.ok) c.args.self.now.stays c.in_err-roots.field-0.0 is_open why in
    search rules

pub enter-requires : goal.enter-requires
enter-requires c =
    let fits : FitsLaunch c.args.self.now.verified.now.program c.args.self.now.store c.args.view.now c.args.launch = search rules in
    let settles : Settles c.args.self.now.store _ c.args.launch c.in_ok-roots.roots.items c.settle.new.store = search rules in
    subst (λ (f : CallFrame). length c.in_ok-roots.roots.items ≤ length f.registers.items) (sym c.deref_mut.ensures.value)
    (roots_few c.args.self.now.verified.now.program c.args.self.now.store c.args.view.now c.args.launch fits c.in_ok-signature.signature
    (subst (λ (g : Ground). IsEntrance g.verified.now.program c.args.launch c.in_ok-signature.signature) c.self.view_is
    c.in_ok-signature.ensures.ok) c.settle.new.store c.in_ok-roots.roots.items c.from.result _ settles
    (c.from.ensures ∙ c.registers.ensures.value) c.in_ok-top.ensures.count)

pub returns-clause-ok : goal.returns-clause-ok
returns-clause-ok c =
    let fits : FitsLaunch c.args.self.now.verified.now.program c.args.self.now.store c.args.view.now c.args.launch = search rules in
    let is_open : IsOpenHere c.args.self.now.store c.args.launch.under = search rules in
    let settles : Settles c.args.self.now.store _ c.args.launch c.in_ok-roots.roots.items c.settle.new.store = search rules in
    let entered = subst (λ (f : CallFrame). IsEnteredWith c.args.launch.function
    (length f.registers.items) c.in_ok-roots.roots.items c.enter.new.frame) c.deref_mut.ensures.value c.enter.ensures in
    launches c.args.self.now.verified.now.program c.args.self.now.store c.args.view.now c.args.launch fits c.in_ok-signature.signature
    (subst (λ (g : Ground). IsEntrance g.verified.now.program c.args.launch c.in_ok-signature.signature) c.self.view_is
    c.in_ok-signature.ensures.ok) c.args.self.now.stays c.insert_reserved.new.self c.settle.new.store c.in_ok-roots.roots.items c.from.result
    c.insert_reserved.result _ c.enter.new.frame (frames_of c.new.result.items) c.new-2.result.items
    is_open settles (taken_beside c.frame.new.self c.args.self.now.store c.settle.new.store.heap c.args.view.now c.in_ok-roots.roots.items
    (search rules) c.in_ok-roots.ensures.taken)
    (c.from.ensures ∙ c.registers.ensures.value) c.in_ok-top.ensures.count (search rules) (search rules) (search rules) entered
    (ap frames_of c.new.ensures.items) c.new-2.ensures.items (search rules)
