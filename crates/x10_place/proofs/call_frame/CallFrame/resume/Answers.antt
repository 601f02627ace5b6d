use Rattle.std.proofs.Common.{◌≡◌, ◌<◌, length, sym, subst, ◌∙◌}
use Rattle.x10_place.specs.Frames.{word_at}
use Rattle.x10_place.specs.Stays.{GoesNextWith}
use Rattle.x10_place.proofs.FetchedInstructions.{function_within, pc_within}
use Rattle.x10_place.proofs.ReturnLemmas.{at_call, caller_next, result_is, result_there, goes_with, goes_without, goes_back}
use Rattle.x10_place.proofs.call_frame.CallFrame.resume.Goals as goal

pub first_operand-to-requires-clause-function : goal.first_operand-to-requires-clause-function
first_operand-to-requires-clause-function c =
    function_within c.args.verified.now.program c.args.self.now.function c.args.self.now.pc _ c.from.result c.requires.calling.inside c.from.ensures

pub first_operand-to-requires-clause-pc : goal.first_operand-to-requires-clause-pc
first_operand-to-requires-clause-pc c =
    pc_within c.args.verified.now.program c.args.self.now.function c.args.self.now.pc _ c.from.result c.from-2.result c.requires.calling.inside
    c.from.ensures c.from-2.ensures

pub signature-signature-requires : goal.signature-signature-requires
signature-signature-requires c =
    subst (λ m. c.from-3.result < length m.functions) (sym c.image.ensures)
    (function_within c.args.verified.now.program c.args.ended.now.function c.args.ended.now.pc _ c.from-3.result c.requires.inside
    c.from-3.ensures)

pub put-requires-clause-there : goal.put-requires-clause-there
put-requires-clause-there c =
    let calling = c.requires.calling in
    let refetched = at_call c.args.verified.now c.args.self.now c.args.ended.now.function c.certificate.ensures calling in
    let result = result_is c.args.verified.now.program c.image.result.now c.args.ended.now c.from-3.result c.signature-signature.result
    c.result.result c.image.ensures c.from-3.ensures c.signature-signature.ensures.value c.result.ensures.value in
    let is : c.first_operand-to.result ≡ calling.call.a =
    c.first_operand-to.ensures calling.call (rw (c.from.ensures, c.from-2.ensures) calling.call_is) in
    rw is (result_there c.args.verified.now.program c.args.self.now c.args.ended.now c.args.self.now.function c.args.self.now.pc calling.call
    c.result.result calling refetched result (sym c.is_some.ensures ∙ c.if-is_some.true))

pub put-requires-clause-next : goal.put-requires-clause-next
put-requires-clause-next c =
    caller_next c.args.verified.now.program c.args.self.now c.args.ended.now.function c.args.self.now.function c.args.self.now.pc
    c.requires.calling.call c.certificate.ensures.fits c.requires.calling
    (at_call c.args.verified.now c.args.self.now c.args.ended.now.function c.certificate.ensures c.requires.calling)

pub next-requires : goal.next-requires
next-requires c =
    caller_next c.args.verified.now.program c.args.self.now c.args.ended.now.function c.args.self.now.function c.args.self.now.pc
    c.requires.calling.call c.certificate.ensures.fits c.requires.calling
    (at_call c.args.verified.now c.args.self.now c.args.ended.now.function c.certificate.ensures c.requires.calling)

pub returns-then-is_some : goal.returns-then-is_some
returns-then-is_some c =
    let calling = c.requires.calling in
    let result = result_is c.args.verified.now.program c.image.result.now c.args.ended.now c.from-3.result c.signature-signature.result
    c.result.result c.image.ensures c.from-3.ensures c.signature-signature.ensures.value c.result.ensures.value in
    let refetched = at_call c.args.verified.now c.args.self.now c.args.ended.now.function c.certificate.ensures calling in
    let is : c.first_operand-to.result ≡ calling.call.a =
    c.first_operand-to.ensures calling.call (rw (c.from.ensures, c.from-2.ensures) calling.call_is) in
    goes_back c.args.verified.now.program c.args.self.now c.args.ended.now _ c.args.instr calling.call c.args.self.now.function
    c.args.self.now.pc c.result.result c.certificate.ensures.fits calling refetched result
    (goes_with c.result.result c.args.self.now calling.call c.args.ended.now c.args.instr c.put.new.self
    (sym c.is_some.ensures ∙ c.if-is_some.true)
    (subst (λ r. GoesNextWith c.args.self.now r (word_at c.args.ended.now.registers.items c.args.instr.a) c.put.new.self) is
    (subst (λ w. GoesNextWith c.args.self.now c.first_operand-to.result w c.put.new.self) c.word.ensures c.put.ensures)))

pub returns-else-is_some : goal.returns-else-is_some
returns-else-is_some c =
    let calling = c.requires.calling in
    let result = result_is c.args.verified.now.program c.image.result.now c.args.ended.now c.from-3.result c.signature-signature.result
    c.result.result c.image.ensures c.from-3.ensures c.signature-signature.ensures.value c.result.ensures.value in
    let refetched = at_call c.args.verified.now c.args.self.now c.args.ended.now.function c.certificate.ensures calling in
    goes_back c.args.verified.now.program c.args.self.now c.args.ended.now _ c.args.instr calling.call c.args.self.now.function
    c.args.self.now.pc c.result.result c.certificate.ensures.fits calling refetched result
    (goes_without c.result.result c.args.self.now calling.call c.args.ended.now c.args.instr c.next.new.self
    (sym c.is_some.ensures ∙ c.if-is_some.false) c.next.ensures)
