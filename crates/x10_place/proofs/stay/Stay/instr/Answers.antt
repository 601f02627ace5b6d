use Rattle.std.proofs.Common.{length, ap, ◌∙◌}
use Rattle.x10_place.specs.declared.call_frame.CallFrame.{CallFrame}
use Rattle.x10_place.proofs.FetchedInstructions.{function_within, pc_within, fetched_within}
use Rattle.x10_place.proofs.stay.Stay.instr.Goals as goal

pub fetch-requires-clause-function : goal.fetch-requires-clause-function
fetch-requires-clause-function c =
    let top = c.frame-top.ensures in
    function_within c.args.verified.now.program c.args.self.now.top.function c.args.self.now.top.pc _ c.from.result c.requires
    (c.from.ensures ∙ ap (λ (f : CallFrame). f.function) top)

pub fetch-requires-clause-pc : goal.fetch-requires-clause-pc
fetch-requires-clause-pc c =
    let top = c.frame-top.ensures in
    pc_within c.args.verified.now.program c.args.self.now.top.function c.args.self.now.top.pc _ c.from.result c.from-2.result c.requires
    (c.from.ensures ∙ ap (λ (f : CallFrame). f.function) top) (c.from-2.ensures ∙ ap (λ (f : CallFrame). f.pc) top)

pub returns : goal.returns
returns c =
    let top = c.frame-top.ensures in
    fetched_within c.args.verified.now.program c.args.self.now.top.function c.args.self.now.top.pc
    (length c.args.self.now.top.registers.items) c.from.result c.from-2.result c.fetch.result c.certificate.ensures.fits c.requires
    (record {
      function_is = c.from.ensures ∙ ap (λ (f : CallFrame). f.function) top;
      pc_is = c.from-2.ensures ∙ ap (λ (f : CallFrame). f.pc) top;
      value = c.fetch.ensures.value;
      in_range = c.fetch.ensures.in_range;
      follows = c.fetch.ensures.follows;
    })
