use Rattle.std.proofs.Common.{◌≡◌, ◌+◌, ◌∷◌, ◌++◌, [], take, get_or, length, refl, sym, subst, ◌∙◌, arith}
use Rattle.std.proofs.lemmas.Bool.{eqb-true}
use Rattle.std.proofs.lemmas.List.{take_more, take_all}
use Rattle.x10_flights.specs.Flights.{RisingBy}
use Rattle.x10_world.proofs.LivingLemmas.{Lives, Every, every_push, rising_more, exact_at}
use Rattle.x10_world.proofs.rounds.is_exact.Goals as goal

pub loop-key-preserved : goal.loop-key-preserved
loop-key-preserved c =
    let key = get_or c.args.keys.now c.loop-key.key-index 0 in
    let more : take (c.loop-key.key-index + 1) c.args.keys.now ≡ take c.loop-key.key-index c.args.keys.now ++ key ∷ [] =
    take_more c.args.keys.now c.loop-key.key-index 0 c.loop-key-test.true in
    record {
      rising = subst (λ ks. RisingBy (λ n. n) 0 ks c.in-Some.next) (sym more)
          (subst (λ top. RisingBy (λ n. n) 0 (take c.loop-key.key-index c.args.keys.now ++ key ∷ []) top) (sym c.in-Some.ensures.1)
          (rising_more 0 (take c.loop-key.key-index c.args.keys.now) c.loop-key.least key
          (omega arith) c.loop-key.invariant.rising c.if-key-least.false));
      every = subst (λ ks. Every (Lives c.args.world.now.places c.args.place) ks) (sym more)
          (every_push (Lives c.args.world.now.places c.args.place) (take c.loop-key.key-index c.args.keys.now) key c.loop-key.invariant.every
          (c.if-not-has_key.ensures.0 refl));
    }

pub returns : goal.returns
returns c = λ t.
    (let all = take_all c.loop-key.key-index c.args.keys.now c.loop-key-test.false in
    exact_at c.args.world.now.places c.args.place c.args.keys.now c.loop-key.least
    (subst (λ ks. RisingBy (λ n. n) 0 ks c.loop-key.least) all c.loop-key.invariant.rising)
    (subst (λ ks. Every (Lives c.args.world.now.places c.args.place) ks) all c.loop-key.invariant.every)
    (eqb-true (length c.args.keys.now) c.live.result t ∙ c.live.ensures))
