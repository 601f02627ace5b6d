use Rattle.std.proofs.Common.{◌++◌, ap, ◌∙◌}
use Rattle.std.proofs.lemmas.Result.{err_from_is_err_and}
use Rattle.std.specs.Vec.Iter.{into_iter_items}
use Rattle.x10_hall.specs.Mails.{turns_of, turns_in}
use Rattle.x10_hall.proofs.MailPosts.{stints_refused}
use Rattle.x10_hall.proofs.mail.Limited.post_all.Goals as goal

pub returns-in_err-post_stint-clause-err : goal.returns-in_err-post_stint-clause-err
returns-in_err-post_stint-clause-err c =
    let why = err_from_is_err_and c.from_residual.result c.from_residual.ensures.1 in
    let old = c.loop-stint.invariant in
    rw why.1 (stints_refused c.args.self.now.most c.loop-stint.self.most c.args.self.now.hall c.loop-stint.self.hall c.post_stint.new.self.hall
    (turns_in c.args.stints.items) old.posted (turns_of c.in-Some.stint) (turns_in (into_iter_items c.next.new.self)) why.0 old.most old.hall
    (old.turns ∙ ap (λ ss. old.posted ++ turns_in ss) c.in-Some.ensures.steps.0) (rw why.2 c.in_err-post_stint.ensures.err))
