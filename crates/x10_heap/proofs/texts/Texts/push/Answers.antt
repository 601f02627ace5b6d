use Rattle.x10_model.specs.Modules.{FitsText}
use Rattle.x10_heap.proofs.LaidTexts.{appended}
use Rattle.x10_heap.proofs.texts.Texts.push.Goals as goal

pub invariant_of-self : goal.invariant_of-self
invariant_of-self c =
    let fits : FitsText c.args.text.now = record { length = c.requires; utf8 = c.utf8.text } in
    (appended c.append.result c.self.inside.ends.items c.self.inside.bytes.items _ _ c.args.text.now c.args.self.now c.self.invariant
    c.self.view_is fits c.append.ensures.ends (rw c.as_bytes.ensures.value at c.append.ensures.bytes) c.append.ensures.err).laid

pub returns-clause-ok : goal.returns-clause-ok
returns-clause-ok c =
    let fits : FitsText c.args.text.now = record { length = c.requires; utf8 = c.utf8.text } in
    (appended c.append.result c.self.inside.ends.items c.self.inside.bytes.items _ _ c.args.text.now c.args.self.now c.self.invariant
    c.self.view_is fits c.append.ensures.ends (rw c.as_bytes.ensures.value at c.append.ensures.bytes) c.append.ensures.err).are
