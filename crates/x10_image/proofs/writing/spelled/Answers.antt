use Rattle.std.proofs.Common.{refl}
use Rattle.x10_image.specs.Headers.{seen}
use Rattle.x10_image.proofs.WrittenLaws.{form_of_all, written_is, header_is}
use Rattle.x10_image.proofs.writing.spelled.Goals as goal

pub returns-clause-value : goal.returns-clause-value
returns-clause-value c =
    written_is c.args.source.now (seen c.header.result) c.push_functions.new.out.items
    (header_is c.args.source.now (seen c.header.result) c.header.ensures)
    (rw (
      c.in_ok-push_functions.ensures,
      c.in_ok-push_texts.ensures,
      c.in_ok-push_ints.ensures.bytes,
      c.in_ok-push_classes.ensures,
      c.in_ok-push_header.ensures,
      c.new-out.ensures.items,
      c.deref.ensures.value,
      c.deref-2.ensures.value,
      c.deref-3.ensures.value,
      c.deref-4.ensures.value,
    ) refl)

pub push_functions-requires-clause-code : goal.push_functions-requires-clause-code
push_functions-requires-clause-code c = rw c.deref-4.ensures.value
    (form_of_all c.args.source.now.version c.args.source.now.functions.items c.requires.code)
