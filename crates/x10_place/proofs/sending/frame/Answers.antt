use Rattle.std.proofs.Common.{sym, ap, subst}
use Rattle.x10_model.specs.Modules.{Module}
use Rattle.x10_copy.specs.Captured.{kinds_of}
use Rattle.x10_copy.specs.Names.{AreSound}
use Rattle.x10_copy.specs.Graphs.{IsSoundHeap}
use Rattle.x10_heap.specs.Heaps.{HeapState}
use Rattle.x10_place.specs.Stays.{StoreState}
use Rattle.x10_place.proofs.Payloads.{sound_words}
use Rattle.x10_place.proofs.sending.frame.Goals as goal

pub capture-requires-clause-words : goal.capture-requires-clause-words
capture-requires-clause-words c =
    let sound = sound_words c.standing_is_sound.ensures c.args.verified.now.program c.args.store.now c.args.slots.now c.args.words.now
    c.requires.standing c.certificate.ensures.fits c.requires.slots in
    subst (λ n. AreSound n c.store.inside.heap (kinds_of c.args.slots.now) c.args.words.now) (sym c.locality-places.ensures.places)
    (subst (λ (q : HeapState). AreSound c.args.store.now.places q (kinds_of c.args.slots.now) c.args.words.now)
    (ap (λ (s : StoreState). s.heap) (sym c.store.view_is)) sound.0)

pub capture-requires-clause-heap : goal.capture-requires-clause-heap
capture-requires-clause-heap c =
    let sound = sound_words c.standing_is_sound.ensures c.args.verified.now.program c.args.store.now c.args.slots.now c.args.words.now
    c.requires.standing c.certificate.ensures.fits c.requires.slots in
    subst (λ (m : Module). IsSoundHeap m.classes c.locality-places.result.places c.store.inside.heap) (sym c.image-image.ensures)
    (subst (λ n. IsSoundHeap c.args.verified.now.program.classes n c.store.inside.heap) (sym c.locality-places.ensures.places)
    (subst (λ (q : HeapState). IsSoundHeap c.args.verified.now.program.classes c.args.store.now.places q)
    (ap (λ (s : StoreState). s.heap) (sym c.store.view_is)) sound.1))
