-- What an operation means for the structure of a function.
use Rattle.std.specs.Prelude.{if◌then◌else◌}
use Rattle.x10_code.specs.declared.op.Op.{Op}
use Rattle.x10_code.specs.declared.op.Op.TheVariants as op
use Rattle.x10_code.specs.Table.{form_of}
use Rattle.x10_model.specs.Structure.{is_target}
use Rattle.x10_bounds.specs.declared.shape.Shape.{Shape}
use Rattle.x10_bounds.specs.declared.shape.Shape.TheVariants as shape

abbrev pub jump_or_other : Op → Shape
jump_or_other o = if is_target (form_of o).x then shape.Jump else shape.Other

abbrev pub shape_of : Op → Shape
shape_of op.Loop = shape.Loop
shape_of op.Endl = shape.EndOfLoop
shape_of op.Finb = shape.Finish
shape_of op.Fine = shape.EndOfFinish
shape_of op.Atomb = shape.Atomic
shape_of op.Atome = shape.EndOfAtomic
shape_of op.Ret = shape.Return
shape_of op.Call = shape.Call
shape_of op.At = shape.Call
shape_of o = jump_or_other o
