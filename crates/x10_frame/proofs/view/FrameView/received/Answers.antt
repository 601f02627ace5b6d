use Rattle.std.proofs.Common.{◌+◌, ◌*◌, refl}
use Rattle.x10_frame.proofs.Shows.{shows, received_at}
use Rattle.x10_frame.proofs.Spelled.{received_part}
use Rattle.x10_frame.proofs.view.FrameView.received.Goals as goal

pub count_in-requires : goal.count_in-requires
count_in-requires c =
    let v = shows _ _ _ _ _ _ _ _ _ _ c.self.invariant c.self.view_is in
    (received_at _ _ _ (c.self.inside.body.start + 4 * (c.from.result + c.args.place)) c.args.place _ _ v.has.counts_at v.fits c.requires
    (rw c.from.ensures refl)).2.room

pub returns-clause-value : goal.returns-clause-value
returns-clause-value c =
    let v = shows _ _ _ _ _ _ _ _ _ _ c.self.invariant c.self.view_is in
    let n = received_at _ _ _ (c.self.inside.body.start + 4 * (c.from.result + c.args.place)) c.args.place _ _ v.has.counts_at v.fits c.requires
    (rw c.from.ensures refl) in
    rw (c.count_in.ensures, n.2.value) n.1

pub returns-clause-part : goal.returns-clause-part
returns-clause-part c = λ v. received_part v _ c.args.place _ (returns-clause-value c)
