use Rattle.std.proofs.Common.{refl, ◌∙◌}
use Rattle.std.specs.Int.{w16}
use Rattle.std.specs.Str.{is_utf8}
use Rattle.x10_model.specs.Readers.{number, part, such_that}
use Rattle.x10_model.specs.ReadingImages.{Short, Text, text_at}
use Rattle.x10_model.proofs.ReaderLaws.{bind_is}
use Rattle.x10_image.proofs.parts.past_text.Goals as goal

pub returns-in-Ok-past_text : goal.returns-in-Ok-past_text
unfolding text_at
returns-in-Ok-past_text c =
    let rest = (rw c.from-length.ensures at c.in-Ok-past_text.ensures.exact) Text refl in
    record {
      exact = (
        rest.0,
        bind_is (number w16 Short) (λ length. such_that (part length Short) is_utf8 Text) c.args.bytes.now c.in-Ok.value.0
            c.in-Ok.value.1.now c.in-Ok.ensures.exact ∙ rest.1,
      );
    }
