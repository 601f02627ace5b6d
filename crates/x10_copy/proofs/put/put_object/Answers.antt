use Rattle.std.proofs.Common.{◌≡◌, ℕ, [], length, sym, ◌∙◌, ap, arith}
use Rattle.std.proofs.lemmas.Option.{slice_get-get_or, get_or_from_slice_get}
use Rattle.x10_frame.proofs.SpelledParts.{on_ok}
use Rattle.x10_copy.specs.Graphs.{kinds_at, no_object, object_at}
use Rattle.x10_copy.proofs.NotedWords.{same_count}
use Rattle.x10_copy.proofs.WrittenLemmas.{node_written}
use Rattle.x10_copy.proofs.put.put_object.Goals as goal

pub overflow_cast-words : goal.overflow_cast-words
overflow_cast-words c =
    let o = object_at c.args.heap.now c.args.object in
    let at = slice_get-get_or c.args.heap.now.objects c.args.object no_object c.requires.words.there in
    let ef = c.fields-words.ensures o at in
    omega (arith, ap length ef, same_count (kinds_at c.args.image.now.classes o.class) o.fields c.requires.words.words, c.requires.few)

pub put_fields-requires-clause-words : goal.put_fields-requires-clause-words
put_fields-requires-clause-words c =
    let o = object_at c.args.heap.now c.args.object in
    let at = slice_get-get_or c.args.heap.now.objects c.args.object no_object c.requires.words.there in
    let ef = c.fields-words.ensures o at in
    let ec = c.from.ensures ∙ c.class-number.ensures o at in
    let ek : c.class-class.result ≡ kinds_at c.args.image.now.classes o.class =
    sym (get_or_from_slice_get c.args.image.now.classes c.from.result c.class-class.result [] c.class-class.ensures.value) ∙ ap
    (λ (n : ℕ). kinds_at c.args.image.now.classes n) ec in
    rw (ek, ef) c.requires.words.words

pub put_fields-requires-clause-found : goal.put_fields-requires-clause-found
put_fields-requires-clause-found c =
    let o = object_at c.args.heap.now c.args.object in
    let at = slice_get-get_or c.args.heap.now.objects c.args.object no_object c.requires.words.there in
    let ef = c.fields-words.ensures o at in
    let ec = c.from.ensures ∙ c.class-number.ensures o at in
    let ek : c.class-class.result ≡ kinds_at c.args.image.now.classes o.class =
    sym (get_or_from_slice_get c.args.image.now.classes c.from.result c.class-class.result [] c.class-class.ensures.value) ∙ ap
    (λ (n : ℕ). kinds_at c.args.image.now.classes n) ec in
    rw (ek, ef) c.requires.found

pub returns : goal.returns
returns c =
    let o = object_at c.args.heap.now c.args.object in
    let at = slice_get-get_or c.args.heap.now.objects c.args.object no_object c.requires.words.there in
    let ef = c.fields-words.ensures o at in
    let ec = c.class-number.ensures o at in
    let ek : c.class-class.result ≡ kinds_at c.args.image.now.classes o.class =
    sym (get_or_from_slice_get c.args.image.now.classes c.from.result c.class-class.result [] c.class-class.ensures.value) ∙ ap
    (λ (n : ℕ). kinds_at c.args.image.now.classes n) (c.from.ensures ∙ ec) in
    on_ok c.put_fields.result (λ e. node_written c.args.image.now.classes c.args.heap.now c.args.marks.now c.args.object c.class-number.result
    (length c.fields-words.result.now) c.args.writer.now c.begin_node.new.self c.put_fields.new.writer
    c.requires.words.words ec (ap length ef) c.in_ok-begin_node.ensures.value (rw (ek, ef) at e)) c.put_fields.ensures
