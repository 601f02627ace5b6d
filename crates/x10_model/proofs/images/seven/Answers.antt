-- By computation.
use Rattle.std.proofs.Common.{refl}
use Rattle.std.specs.Str.{is_utf8}
use Rattle.x10_code.specs.Spelling.{decoded, spelling as instruction}
use Rattle.x10_model.specs.Images.{kind_bytes, slot_bytes, result_bytes, class_bytes, text_bytes, function_bytes, header_bytes, spelling}
use Rattle.x10_model.specs.Readers.{bind, done, check, such_that, expect, given, need, part, byte, number, int, many, all_of}
use Rattle.x10_model.specs.ReadingImages.{kind_at, slot_at, result_at, header_at, version_at, class_at, text_at, instruction_at, function_at, parts_at, module_at}
use Rattle.x10_model.proofs.images.seven.Goals as goal

pub returns-clause-spelled : goal.returns-clause-spelled
unfolding spelling header_bytes class_bytes text_bytes function_bytes result_bytes slot_bytes kind_bytes instruction
returns-clause-spelled c = (refl, refl)

pub returns-clause-read : goal.returns-clause-read
unfolding module_at all_of parts_at header_at version_at class_at text_at function_at instruction_at result_at slot_at kind_at bind done check
    such_that expect given need part byte number int many decoded is_utf8
returns-clause-read c = (refl, refl)

pub returns-clause-version : goal.returns-clause-version
unfolding module_at all_of parts_at header_at version_at class_at text_at function_at instruction_at result_at slot_at kind_at bind done check
    such_that expect given need part byte number int many decoded is_utf8
returns-clause-version c = (refl, refl)

pub returns-clause-short : goal.returns-clause-short
unfolding module_at all_of parts_at header_at version_at class_at text_at function_at instruction_at result_at slot_at kind_at bind done check
    such_that expect given need part byte number int many decoded is_utf8
returns-clause-short c = refl

pub returns-clause-trailing : goal.returns-clause-trailing
unfolding module_at all_of parts_at header_at version_at class_at text_at function_at instruction_at result_at slot_at kind_at bind done check
    such_that expect given need part byte number int many decoded is_utf8
returns-clause-trailing c = refl

pub returns-clause-operand : goal.returns-clause-operand
unfolding module_at all_of parts_at header_at version_at class_at text_at function_at instruction_at result_at slot_at kind_at bind done check
    such_that expect given need part byte number int many decoded is_utf8
returns-clause-operand c = refl
