use Rattle.std.proofs.Common.{refl, ap, ◌∙◌, arith}
use Rattle.std.proofs.lemmas.Result.{err_from_is_err_and}
use Rattle.std.specs.Prelude.{replicate}
use Rattle.x10_hall.specs.Mails.{with_turns}
use Rattle.x10_hall.proofs.MailPosts.{stint_refused, none_yet, some_there, last_many, one_more}
use Rattle.x10_hall.proofs.mail.Limited.post_stint.Goals as goal

pub returns-in_err-post-clause-err : goal.returns-in_err-post-clause-err
returns-in_err-post-clause-err c =
    let why = err_from_is_err_and c.from_residual.result c.from_residual.ensures.1 in
    rw why.1 (stint_refused c.args.self.now.most c.args.self.now.most c.args.self.now.hall c.args.self.now.hall c.post.new.self.hall c.args.stint.turn
    0 c.args.stint.times why.0 refl (none_yet c.args.self.now.hall c.args.stint.turn) (omega (arith, c.if-times-eq0.false))
    c.in_err-post.ensures.err.0 (rw why.2 c.in_err-post.ensures.err.1))

pub loop-init : goal.loop-init
loop-init c = record { most = c.post.ensures.most; some = omega arith; hall = c.in_ok-post.ensures.ok.1 }

pub again-requires : goal.again-requires
again-requires c = some_there c.args.self.now.hall.log c.loop.self.hall.log c.args.stint.turn c.loop.counter (ap (λ h. h.log) c.loop.invariant.hall)
    c.loop.invariant.some

pub returns-in_err-again-clause-most : goal.returns-in_err-again-clause-most
returns-in_err-again-clause-most c = c.again.ensures.most ∙ c.loop.invariant.most

pub returns-in_err-again-clause-err : goal.returns-in_err-again-clause-err
returns-in_err-again-clause-err c =
    let why = err_from_is_err_and c.from_residual-in_err-again.result c.from_residual-in_err-again.ensures.1 in
    let last = last_many c.args.self.now.hall.log c.loop.self.hall.log c.args.stint.turn c.loop.counter (ap (λ h. h.log) c.loop.invariant.hall)
    (omega (arith, c.loop.invariant.some)) in
    let refused = c.in_err-again.ensures.err c.args.stint.turn last in
    rw why.1 (stint_refused c.args.self.now.most c.loop.self.most c.args.self.now.hall c.loop.self.hall c.again.new.self.hall c.args.stint.turn
    c.loop.counter c.args.stint.times why.0 c.loop.invariant.most c.loop.invariant.hall c.loop-test.true refused.0 (rw why.2 refused.1))

pub loop-preserved : goal.loop-preserved
loop-preserved c =
    let last = last_many c.args.self.now.hall.log c.loop.self.hall.log c.args.stint.turn c.loop.counter (ap (λ h. h.log) c.loop.invariant.hall)
    (omega (arith, c.loop.invariant.some)) in
    record {
      most = c.again.ensures.most ∙ c.loop.invariant.most;
      some = omega (arith, c.loop.invariant.some);
      hall = one_more c.args.self.now.hall c.loop.self.hall c.again.new.self.hall c.args.stint.turn c.loop.counter c.loop.invariant.hall
          (c.in_ok-again.ensures.ok c.args.stint.turn last).1;
    }

pub returns-clause-most : goal.returns-clause-most
returns-clause-most c = c.loop.invariant.most

pub returns-clause-ok : goal.returns-clause-ok
returns-clause-ok c = c.loop.invariant.hall ∙ ap (λ n. with_turns c.args.self.now.hall (replicate n c.args.stint.turn))
    (omega (arith, c.loop-test.false, c.loop.auto.counter-end, c.if-times-eq0.false))
