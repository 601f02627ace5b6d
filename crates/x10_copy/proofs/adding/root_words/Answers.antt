use Rattle.x10_frame.specs.Heads.{graph_of}
use Rattle.x10_copy.specs.Arrived.{word_at}
use Rattle.x10_copy.proofs.Additions.{mapped_next}
use Rattle.x10_copy.proofs.adding.root_words.Goals as goal

pub loop-i-preserved : goal.loop-i-preserved
loop-i-preserved c = mapped_next (word_at c.args.bases.now.texts c.args.bases.now.rails c.args.bases.now.objects)
    (graph_of c.args.view.now).roots c.loop-i.i
    _ c.word.result c.loop-i.words.items c.push.new.self.items c.loop-i.invariant c.root.ensures.value c.word.ensures c.in_ok-push.ensures.ok
