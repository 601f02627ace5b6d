use Rattle.std.proofs.lemmas.Result.{IfErr-weaker, IfOk-weaker}
use Rattle.x10_asm.proofs.FlawedLines.{flawed_version, flawed_places, flawed_class, flawed_int, flawed_text, flawed_func, flawed_end, flawed_entry, flawed_label, flawed_instruction, flawed_unknown}
use Rattle.x10_asm.proofs.SoundLines.{if_ok_both, sound_silent, sound_version, sound_places, sound_class, sound_int, sound_text, sound_func, sound_end, sound_entry, sound_label, sound_instruction}
use Rattle.x10_asm.proofs.flaws.past_line.Goals as goal

pub returns-in-Version-clause-flawed : goal.returns-in-Version-clause-flawed
returns-in-Version-clause-flawed c = λ text is. IfErr-weaker c.past_version.result _ _
    (λ flaw f. flawed_version c.args.version c.args.classes text _ flaw.cause c.args.parts.statement
    is.is_said is.are_others c.in-Version.is f) c.past_version.ensures.flawed

pub returns-in-Places-clause-flawed : goal.returns-in-Places-clause-flawed
returns-in-Places-clause-flawed c = λ text is. IfErr-weaker c.past_one_number.result _ _
    (λ flaw f. flawed_places c.args.version c.args.classes text _ flaw.cause c.args.parts.statement
    is.is_said is.are_others c.in-Places.is f) c.past_one_number.ensures.flawed

pub returns-in-Class-clause-flawed : goal.returns-in-Class-clause-flawed
returns-in-Class-clause-flawed c = λ text is. IfErr-weaker c.past_class.result _ _
    (λ flaw f. flawed_class c.args.version c.args.classes text _ flaw.cause c.args.parts.statement
    is.is_said is.are_others c.in-Class.is f) c.past_class.ensures.flawed

pub returns-in-Int-clause-flawed : goal.returns-in-Int-clause-flawed
returns-in-Int-clause-flawed c = λ text is. IfErr-weaker c.past_one_int.result _ _
    (λ flaw f. flawed_int c.args.version c.args.classes text _ flaw.cause c.args.parts.statement
    is.is_said is.are_others c.in-Int.is f) c.past_one_int.ensures.flawed

pub returns-in-Func-clause-flawed : goal.returns-in-Func-clause-flawed
returns-in-Func-clause-flawed c = λ text is. IfErr-weaker c.past_func.result _ _
    (λ flaw f. flawed_func c.args.version c.args.classes text _ flaw.cause c.args.parts.statement
    is.is_said is.are_others c.in-Func.is f) c.past_func.ensures.flawed

pub returns-in-End-clause-flawed : goal.returns-in-End-clause-flawed
returns-in-End-clause-flawed c = λ text is. IfErr-weaker c.past_all.result _ _
    (λ flaw f. flawed_end c.args.version c.args.classes text _ flaw.cause c.args.parts.statement
    is.is_said is.are_others c.in-End.is f) c.past_all.ensures.flawed

pub returns-in-Entry-clause-flawed : goal.returns-in-Entry-clause-flawed
returns-in-Entry-clause-flawed c = λ text is. IfErr-weaker c.past_one_number-in-Entry.result _ _
    (λ flaw f. flawed_entry c.args.version c.args.classes text _ flaw.cause c.args.parts.statement
    is.is_said is.are_others c.in-Entry.is f) c.past_one_number-in-Entry.ensures.flawed

pub returns-in-Label-clause-flawed : goal.returns-in-Label-clause-flawed
returns-in-Label-clause-flawed c = λ text is. IfErr-weaker c.past_all-in-Label.result _ _
    (λ flaw f. flawed_label c.args.version c.args.classes text _ flaw.cause c.args.parts.statement
    is.is_said is.are_others c.in-Label.is f) c.past_all-in-Label.ensures.flawed

pub returns-in-Text-clause-flawed : goal.returns-in-Text-clause-flawed
returns-in-Text-clause-flawed c = λ text is. IfErr-weaker c.past_text.result _ _
    (λ flaw f. flawed_text c.args.version c.args.classes text _ flaw.cause c.args.parts.statement
    is.is_said is.is_after c.in-Text.is f) c.past_text.ensures.flawed

pub returns-in-Instruction-clause-flawed : goal.returns-in-Instruction-clause-flawed
returns-in-Instruction-clause-flawed c = λ text is. IfErr-weaker c.past_instruction.result _ _
    (λ flaw f. flawed_instruction c.args.version c.args.classes text _ flaw.cause c.in-Instruction.op c.args.parts.statement
    is.is_said is.are_others c.in-Instruction.is f) c.past_instruction.ensures.flawed

pub returns-in-Unknown-clause-flawed : goal.returns-in-Unknown-clause-flawed
returns-in-Unknown-clause-flawed c = λ text is. flawed_unknown c.args.version c.args.classes text c.at_first.result.cause
    c.args.parts.statement is.is_said c.in-Unknown.is c.at_first.ensures

pub returns-in-Silent-clause-passed : goal.returns-in-Silent-clause-passed
returns-in-Silent-clause-passed c = λ text is. sound_silent c.args.version c.args.classes text c.args.parts.statement
    is.is_said c.in-Silent.is

pub returns-in-Version-clause-passed : goal.returns-in-Version-clause-passed
returns-in-Version-clause-passed c = λ text is. IfOk-weaker c.past_version.result _ _
    (λ u f. sound_version c.args.version c.args.classes text _ c.args.parts.statement is.is_said
    is.are_others c.in-Version.is f) c.past_version.ensures.passed

pub returns-in-Places-clause-passed : goal.returns-in-Places-clause-passed
returns-in-Places-clause-passed c = λ text is. IfOk-weaker c.past_one_number.result _ _
    (λ u f. sound_places c.args.version c.args.classes text _ f.0 c.args.parts.statement is.is_said
    is.are_others c.in-Places.is f.1) c.past_one_number.ensures.passed

pub returns-in-Int-clause-passed : goal.returns-in-Int-clause-passed
returns-in-Int-clause-passed c = λ text is. IfOk-weaker c.past_one_int.result _ _
    (λ u f. sound_int c.args.version c.args.classes text _ f.0 c.args.parts.statement is.is_said
    is.are_others c.in-Int.is f.1) c.past_one_int.ensures.passed

pub returns-in-Text-clause-passed : goal.returns-in-Text-clause-passed
returns-in-Text-clause-passed c = λ text is. IfOk-weaker c.past_text.result _ _
    (λ u f. sound_text c.args.version c.args.classes text _ c.args.parts.statement is.is_said
    is.is_after c.in-Text.is f) c.past_text.ensures.passed

pub returns-in-End-clause-passed : goal.returns-in-End-clause-passed
returns-in-End-clause-passed c = λ text is. IfOk-weaker c.past_all.result _ _
    (λ u f. sound_end c.args.version c.args.classes text _ c.args.parts.statement is.is_said
    is.are_others c.in-End.is f) c.past_all.ensures.passed

pub returns-in-Entry-clause-passed : goal.returns-in-Entry-clause-passed
returns-in-Entry-clause-passed c = λ text is. IfOk-weaker c.past_one_number-in-Entry.result _ _
    (λ u f. sound_entry c.args.version c.args.classes text _ f.0 c.args.parts.statement is.is_said
    is.are_others c.in-Entry.is f.1) c.past_one_number-in-Entry.ensures.passed

pub returns-in-Label-clause-passed : goal.returns-in-Label-clause-passed
returns-in-Label-clause-passed c = λ text is. IfOk-weaker c.past_all-in-Label.result _ _
    (λ u f. sound_label c.args.version c.args.classes text _ c.args.parts.statement is.is_said
    is.are_others c.in-Label.is f) c.past_all-in-Label.ensures.passed

pub returns-in-Instruction-clause-passed : goal.returns-in-Instruction-clause-passed
returns-in-Instruction-clause-passed c = λ text is. if_ok_both c.past_instruction.result _ _ _
    (λ u k f. sound_instruction c.args.version c.args.classes text _ c.in-Instruction.op c.args.parts.statement
    is.is_said is.are_others c.in-Instruction.is k f) c.past_instruction.ensures.known
    c.past_instruction.ensures.passed

pub returns-in-Class-clause-passed : goal.returns-in-Class-clause-passed
returns-in-Class-clause-passed c = λ text is. if_ok_both c.past_class.result _ _ _
    (λ u k f. sound_class c.args.version c.args.classes text _ f.0 c.args.parts.statement is.is_said
    is.are_others c.in-Class.is k f.1) c.past_class.ensures.known c.past_class.ensures.passed

pub returns-in-Func-clause-passed : goal.returns-in-Func-clause-passed
returns-in-Func-clause-passed c = λ text is. if_ok_both c.past_func.result _ _ _
    (λ u k f. sound_func c.args.version c.args.classes text _ f.0 c.args.parts.statement is.is_said
    is.are_others c.in-Func.is k f.1) c.past_func.ensures.known c.past_func.ensures.passed
