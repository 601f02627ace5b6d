use Rattle.std.specs.String.{string_bytes}
use Rattle.x10_cli.proofs.ShowLemmas.{moment_told}
use Rattle.x10_cli.proofs.show.Show.tell.Goals as goal

pub returns-in-Page-clause-told : goal.returns-in-Page-clause-told
returns-in-Page-clause-told c = rw c.in-Page.is (moment_told string_bytes c.next.result c.in-Page.recorder.program c.in-Page.recorder.kinds
    c.in-Page.recorder.places c.next.new.self.places c.args.event c.args.done.now c.args.world.now c.next.ensures.told c.next.ensures.places)
