use Rattle.x10_frame.specs.declared.head.What.TheVariants as what
use Rattle.x10_frame.specs.Heads.{head}
use Rattle.x10_frame.proofs.Bodies.{of_graph}
use Rattle.x10_frame.proofs.body.read_body.Goals as goal

pub returns-in-Spawn : goal.returns-in-Spawn
returns-in-Spawn c = record {
  exact = rw c.in-Spawn.is (of_graph c.args.version c.args.places
      (head c.args.head.now.from c.args.head.now.to (what.Spawn c.in-Spawn.under c.in-Spawn.function)) c.args.frame.now
      c.args.bytes.now (λ x. x.0) (λ x. x.1.now) c.read_graph.result tt c.read_graph.ensures.exact);
}

pub returns-in-Shift : goal.returns-in-Shift
returns-in-Shift c = record {
  exact = rw c.in-Shift.is (of_graph c.args.version c.args.places
      (head c.args.head.now.from c.args.head.now.to (what.Shift c.in-Shift.waiting c.in-Shift.under c.in-Shift.function))
      c.args.frame.now c.args.bytes.now (λ x. x.0) (λ x. x.1.now) c.read_graph-in-Shift.result tt
      c.read_graph-in-Shift.ensures.exact);
}

pub returns-in-Back : goal.returns-in-Back
returns-in-Back c = record {
  exact = rw c.in-Back.is (of_graph c.args.version c.args.places
      (head c.args.head.now.from c.args.head.now.to (what.Back c.in-Back.waiting)) c.args.frame.now c.args.bytes.now
      (λ x. x.0) (λ x. x.1.now) c.read_graph-in-Back.result tt c.read_graph-in-Back.ensures.exact);
}

pub returns-in-Report : goal.returns-in-Report
returns-in-Report c = record {
  exact = rw c.in-Report.is (c.read_counts.ensures.exact c.args.version c.args.head.now.from c.args.head.now.to c.in-Report.number);
}
