use Rattle.std.proofs.Common.{◌+◌, ◌*◌, ℤ, Some, refl, sym, ap, ◌∙◌, arith}
use Rattle.std.specs.Int.{w64}
use Rattle.std.proofs.lemmas.Int.{to_z-of_z}
use Rattle.x10_image.proofs.Accessors.{shows, int_at}
use Rattle.x10_image.proofs.Spelled.{int_part}
use Rattle.x10_image.proofs.view.ImageView.int.Goals as goal

pub overflow_mul-i : goal.overflow_mul-i
overflow_mul-i c =
    let v = shows _ _ _ _ _ _ _ c.self.invariant c.self.view_is in
    let found = int_at c.self.inside.bytes.now c.self.inside.ints
    (c.self.inside.ints + 8 * c.args.i) c.args.i c.args.self.now.ints v.ints_at v.fits.ints.1 c.requires refl in
    omega (arith, found.2.room)

pub overflow_add-self-inside : goal.overflow_add-self-inside
overflow_add-self-inside c =
    let v = shows _ _ _ _ _ _ _ c.self.invariant c.self.view_is in
    let found = int_at c.self.inside.bytes.now c.self.inside.ints
    (c.self.inside.ints + 8 * c.args.i) c.args.i c.args.self.now.ints v.ints_at v.fits.ints.1 c.requires refl in
    omega (arith, found.2.room)

pub i64_in-requires : goal.i64_in-requires
i64_in-requires c =
    let v = shows _ _ _ _ _ _ _ c.self.invariant c.self.view_is in
    let found = int_at c.self.inside.bytes.now c.self.inside.ints
    (c.self.inside.ints + 8 * c.args.i) c.args.i c.args.self.now.ints v.ints_at v.fits.ints.1 c.requires refl in
    found.2.room

pub returns-clause-value : goal.returns-clause-value
returns-clause-value c =
    let v = shows _ _ _ _ _ _ _ c.self.invariant c.self.view_is in
    let found = int_at c.self.inside.bytes.now c.self.inside.ints
    (c.self.inside.ints + 8 * c.args.i) c.args.i c.args.self.now.ints v.ints_at v.fits.ints.1 c.requires refl in
    rw (c.i64_in.ensures, found.2.value) (found.1 ∙ ap (λ (z : ℤ). Some z) (sym (to_z-of_z w64 found.0 found.2.fits)))

pub returns-clause-part : goal.returns-clause-part
returns-clause-part c = int_part _ _ _ (returns-clause-value c)
