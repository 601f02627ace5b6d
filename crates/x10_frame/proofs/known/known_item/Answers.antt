use Rattle.std.proofs.Common.{◌≡◌, sym, ◌∙◌, rules}
use Rattle.x10_frame.proofs.KnownItems.{some_bytes, int_again, place_again, text_again, rail_again, object_again, null_again, ref_again}
use Rattle.x10_frame.proofs.known.known_item.Goals as goal

pub first_byte-tag-requires : goal.first_byte-tag-requires
first_byte-tag-requires c = some_bytes c.args.version c.requires.0 c.args.bytes.now c.requires.1

pub first_int-requires : goal.first_int-requires
first_int-requires c = rw c.first_byte-tag.ensures.after (int_again c.args.version c.requires.0 c.args.bytes.now c.requires.1
    (sym c.first_byte-tag.ensures.number ∙ c.in-1.is)).room

pub first_u16-place-requires : goal.first_u16-place-requires
first_u16-place-requires c = rw c.first_byte-tag.ensures.after
    (place_again c.args.version c.requires.0 c.args.bytes.now c.requires.1 (sym c.first_byte-tag.ensures.number ∙ c.in-2.is)).room

pub first_number-index-requires : goal.first_number-index-requires
first_number-index-requires c = rw c.first_byte-tag.ensures.after
    (text_again c.args.version c.requires.0 c.args.bytes.now c.requires.1 (sym c.first_byte-tag.ensures.number ∙ c.in-3.is)).room

pub first_number-index-requires-in-4 : goal.first_number-index-requires-in-4
first_number-index-requires-in-4 c = rw c.first_byte-tag.ensures.after
    (rail_again c.args.version c.requires.0 c.args.bytes.now c.requires.1 (sym c.first_byte-tag.ensures.number ∙ c.in-4.is)).room

pub first_number-index-requires-in-5 : goal.first_number-index-requires-in-5
first_number-index-requires-in-5 c = rw c.first_byte-tag.ensures.after
    (object_again c.args.version c.requires.0 c.args.bytes.now c.requires.1 (sym c.first_byte-tag.ensures.number ∙ c.in-5.is)).room

pub returns-in-1 : goal.returns-in-1
returns-in-1 c = λ places there.
    rw (c.first_int.ensures.item, c.first_int.ensures.after, c.first_byte-tag.ensures.after)
    (int_again c.args.version places c.args.bytes.now there (sym c.first_byte-tag.ensures.number ∙ c.in-1.is)).reads

pub returns-in-2 : goal.returns-in-2
returns-in-2 c = λ places there.
    rw (c.first_u16-place.ensures.number, c.first_u16-place.ensures.after, c.first_byte-tag.ensures.after)
    (place_again c.args.version places c.args.bytes.now there (sym c.first_byte-tag.ensures.number ∙ c.in-2.is)).reads

pub returns-in-3 : goal.returns-in-3
returns-in-3 c = λ places there.
    rw (c.first_number-index.ensures.number, c.first_number-index.ensures.after, c.first_byte-tag.ensures.after)
    (text_again c.args.version places c.args.bytes.now there (sym c.first_byte-tag.ensures.number ∙ c.in-3.is)).reads

pub returns-in-4 : goal.returns-in-4
returns-in-4 c = λ places there.
    rw (c.first_number-index-in-4.ensures.number, c.first_number-index-in-4.ensures.after, c.first_byte-tag.ensures.after)
    (rail_again c.args.version places c.args.bytes.now there (sym c.first_byte-tag.ensures.number ∙ c.in-4.is)).reads

pub returns-in-5 : goal.returns-in-5
returns-in-5 c = λ places there.
    rw (c.first_number-index-in-5.ensures.number, c.first_number-index-in-5.ensures.after, c.first_byte-tag.ensures.after)
    (object_again c.args.version places c.args.bytes.now there (sym c.first_byte-tag.ensures.number ∙ c.in-5.is)).reads

pub returns-in-6 : goal.returns-in-6
returns-in-6 c = λ places there.
    rw c.first_byte-tag.ensures.after
    (null_again c.args.version places c.args.bytes.now there (sym c.first_byte-tag.ensures.number ∙ c.in-6.is))

pub first_ref-requires : goal.first_ref-requires
first_ref-requires c =
    let e = sym c.first_byte-tag.ensures.number in
    let not_1 : c.first_byte-tag.result.0 ≡ 1 → ⊥ = search rules in
    let not_2 : c.first_byte-tag.result.0 ≡ 2 → ⊥ = search rules in
    let not_3 : c.first_byte-tag.result.0 ≡ 3 → ⊥ = search rules in
    let not_4 : c.first_byte-tag.result.0 ≡ 4 → ⊥ = search rules in
    let not_5 : c.first_byte-tag.result.0 ≡ 5 → ⊥ = search rules in
    let not_6 : c.first_byte-tag.result.0 ≡ 6 → ⊥ = search rules in
    let last = ref_again c.args.version c.requires.0 c.args.bytes.now c.requires.1 (λ h. not_1 (sym e ∙ h)) (λ h. not_2 (sym e ∙ h))
    (λ h. not_3 (sym e ∙ h)) (λ h. not_4 (sym e ∙ h)) (λ h. not_5 (sym e ∙ h)) (λ h. not_6 (sym e ∙ h)) in
    rw c.first_byte-tag.ensures.after last.room

pub returns-in_default : goal.returns-in_default
returns-in_default c = λ places there.
    let e = sym c.first_byte-tag.ensures.number in
    let not_1 : c.first_byte-tag.result.0 ≡ 1 → ⊥ = search rules in
    let not_2 : c.first_byte-tag.result.0 ≡ 2 → ⊥ = search rules in
    let not_3 : c.first_byte-tag.result.0 ≡ 3 → ⊥ = search rules in
    let not_4 : c.first_byte-tag.result.0 ≡ 4 → ⊥ = search rules in
    let not_5 : c.first_byte-tag.result.0 ≡ 5 → ⊥ = search rules in
    let not_6 : c.first_byte-tag.result.0 ≡ 6 → ⊥ = search rules in
    let last = ref_again c.args.version places c.args.bytes.now there (λ h. not_1 (sym e ∙ h)) (λ h. not_2 (sym e ∙ h)) (λ h. not_3 (sym e ∙ h))
    (λ h. not_4 (sym e ∙ h)) (λ h. not_5 (sym e ∙ h)) (λ h. not_6 (sym e ∙ h)) in
    rw (c.first_ref.ensures.item, c.first_ref.ensures.after, c.first_byte-tag.ensures.after) last.reads
