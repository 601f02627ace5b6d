use Rattle.x10_heap.proofs.Laid.{appended}
use Rattle.x10_heap.proofs.objects.Objects.push.Goals as goal

pub invariant_of-self : goal.invariant_of-self
invariant_of-self c = (appended c.append.result c.self.inside.classes.items c.self.inside.ends.items c.self.inside.words.items _ _ _ c.args.fields.now
    c.args.class c.args.self.now c.self.invariant c.self.view_is c.append.ensures.classes c.append.ensures.ends c.append.ensures.words
    c.append.ensures.err).laid

pub returns-clause-ok : goal.returns-clause-ok
returns-clause-ok c = (appended c.append.result c.self.inside.classes.items c.self.inside.ends.items c.self.inside.words.items _ _ _ c.args.fields.now
    c.args.class c.args.self.now c.self.invariant c.self.view_is c.append.ensures.classes c.append.ensures.ends c.append.ensures.words
    c.append.ensures.err).are
