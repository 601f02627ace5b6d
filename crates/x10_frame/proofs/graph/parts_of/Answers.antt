use Rattle.std.proofs.Common.{sym, ◌∙◌, arith}
use Rattle.std.proofs.lemmas.Result.{err_from_is_err_and}
use Rattle.x10_model.proofs.Offsets.{ends_bytes}
use Rattle.x10_frame.specs.Faults.{named}
use Rattle.x10_frame.specs.Items.{tables_in}
use Rattle.x10_frame.proofs.Graphs.{roots_fault, roots_end, texts_fault, rails_fault, nodes_fault, Steps, not_all_used, graph_given}
use Rattle.x10_frame.proofs.graph.parts_of.Goals as goal

pub returns-in_err-used : goal.returns-in_err-used
returns-in_err-used c =
    let p = err_from_is_err_and c.from_residual.result c.from_residual.ensures.1 in
    rw (p.1, p.2) (record {
      exact = roots_fault c.args.version c.args.places c.args.roots (tables_in c.args.all.now) c.args.bytes.now
          (named c.in_err-used.field-0.0) (rw c.none.ensures at c.in_err-used.ensures.exact);
    })

pub text_table-requires : goal.text_table-requires
text_table-requires c = roots_end c.args.version c.args.places c.args.roots c.args.frame.now (tables_in c.args.all.now)
    (tables_in c.in_ok-used.used) c.args.bytes.now c.in_ok-used.rest.now c.ranges.places.fits
    (record { texts = c.requires.texts; rails = c.requires.rails; nodes = c.requires.nodes })
    (ends_bytes _ _ (λ k. omega (arith, c.type_inv.frame k)) c.requires.ends) c.requires.ends (rw c.none.ensures at c.in_ok-used.ensures.exact)

pub returns-in_err-texts : goal.returns-in_err-texts
returns-in_err-texts c =
    let p = err_from_is_err_and c.from_residual-in_err-texts.result c.from_residual-in_err-texts.ensures.1 in
    rw (p.1, p.2) (record {
      exact = texts_fault c.args.version c.args.places c.args.roots (tables_in c.args.all.now)
          (tables_in c.in_ok-used.used) c.args.bytes.now c.in_ok-used.rest.now (named c.in_err-texts.field-0.0)
          (rw c.none.ensures at c.in_ok-used.ensures.exact) c.in_err-texts.ensures.exact;
    })

pub returns-in_err-rails : goal.returns-in_err-rails
returns-in_err-rails c =
    let p = err_from_is_err_and c.from_residual-in_err-rails.result c.from_residual-in_err-rails.ensures.1 in
    rw (p.1, p.2) (record {
      exact = rails_fault c.args.version c.args.places c.args.roots c.args.frame.now (tables_in c.args.all.now)
          (tables_in c.in_ok-used.used) c.args.bytes.now c.in_ok-used.rest.now c.in_ok-texts.texts.items c.in_ok-texts.rest.now
          (named c.in_err-rails.field-0.0) (rw c.none.ensures at c.in_ok-used.ensures.exact) c.in_ok-texts.ensures.exact c.in_err-rails.ensures.exact;
    })

pub returns-in_err-nodes : goal.returns-in_err-nodes
returns-in_err-nodes c =
    let p = err_from_is_err_and c.from_residual-in_err-nodes.result c.from_residual-in_err-nodes.ensures.1 in
    rw (p.1, p.2) (record {
      exact = nodes_fault c.args.version c.args.places c.args.roots c.args.frame.now (tables_in c.args.all.now)
          (tables_in c.in_ok-used.used) c.args.bytes.now c.in_ok-used.rest.now c.in_ok-texts.texts.items c.in_ok-texts.rest.now
          c.in_ok-rails.rails.items c.in_ok-rails.rest.now (named c.in_err-nodes.field-0.0)
          (rw c.none.ensures at c.in_ok-used.ensures.exact) c.in_ok-texts.ensures.exact c.in_ok-rails.ensures.exact c.in_err-nodes.ensures.exact;
    })

pub returns-then-not-is_all : goal.returns-then-not-is_all
returns-then-not-is_all c =
    let s : Steps c.args.version c.args.places c.args.roots c.args.frame.now (tables_in c.args.all.now) (tables_in c.in_ok-used.used)
    (tables_in c.in_ok-nodes.used) c.args.bytes.now c.in_ok-used.rest.now c.in_ok-texts.texts.items c.in_ok-texts.rest.now
    c.in_ok-rails.rails.items c.in_ok-rails.rest.now c.in_ok-nodes.nodes.items c.in_ok-nodes.rest.now =
    record {
      roots = (rw c.none.ensures at c.in_ok-used.ensures.exact);
      texts = c.in_ok-texts.ensures.exact;
      rails = c.in_ok-rails.ensures.exact;
      nodes = c.in_ok-nodes.ensures.exact;
    } in
    record {
      exact = not_all_used c.args.version c.args.places c.args.roots c.args.frame.now (tables_in c.args.all.now) (tables_in c.in_ok-used.used)
          (tables_in c.in_ok-nodes.used) c.args.bytes.now c.in_ok-used.rest.now c.in_ok-texts.texts.items c.in_ok-texts.rest.now
          c.in_ok-rails.rails.items c.in_ok-rails.rest.now c.in_ok-nodes.nodes.items c.in_ok-nodes.rest.now s
          (sym c.is_all.ensures ∙ c.if-not-is_all.true);
    }

pub returns : goal.returns
returns c =
    let s : Steps c.args.version c.args.places c.args.roots c.args.frame.now (tables_in c.args.all.now) (tables_in c.in_ok-used.used)
    (tables_in c.in_ok-nodes.used) c.args.bytes.now c.in_ok-used.rest.now c.in_ok-texts.texts.items c.in_ok-texts.rest.now
    c.in_ok-rails.rails.items c.in_ok-rails.rest.now c.in_ok-nodes.nodes.items c.in_ok-nodes.rest.now =
    record {
      roots = (rw c.none.ensures at c.in_ok-used.ensures.exact);
      texts = c.in_ok-texts.ensures.exact;
      rails = c.in_ok-rails.ensures.exact;
      nodes = c.in_ok-nodes.ensures.exact;
    } in
    record {
      exact = graph_given c.args.version c.args.places c.args.roots c.args.frame.now (tables_in c.args.all.now) (tables_in c.in_ok-used.used)
          (tables_in c.in_ok-nodes.used) c.args.bytes.now c.in_ok-used.rest.now c.in_ok-texts.texts.items c.in_ok-texts.rest.now
          c.in_ok-rails.rails.items c.in_ok-rails.rest.now c.in_ok-nodes.nodes.items c.in_ok-nodes.rest.now c.ranges.places.fits
          (record { texts = c.requires.texts; rails = c.requires.rails; nodes = c.requires.nodes })
          (ends_bytes _ _ (λ k. omega (arith, c.type_inv.frame k)) c.requires.ends) c.requires.ends s (sym c.is_all.ensures ∙ c.if-not-is_all.false);
    }
