use Rattle.std.proofs.Common.{◌++◌, ◌∷◌, ◌∙◌}
use Rattle.x10_log.proofs.LogLines.{image_words, places_words, image_lacks, places_lack, after_first_line}
use Rattle.x10_log.proofs.reading.head_in.Goals as goal

pub returns-in_err-second-clause-found : goal.returns-in_err-second-clause-found
returns-in_err-second-clause-found c = λ bytes n rest fits len some few e.
    let one = after_first_line c.in-Some.rest.now bytes n rest c.args.text.now c.in-Some.ensures.some e in
    absurd (c.in_err-second.ensures.found (image_words bytes) (places_words n ++ 10 ∷ rest) (image_lacks bytes) one)

pub returns-in-Err-clause-found : goal.returns-in-Err-clause-found
returns-in-Err-clause-found c = λ bytes n rest fits len some few e.
    let one = after_first_line c.in-Some.rest.now bytes n rest c.args.text.now c.in-Some.ensures.some e in
    let two = c.in_ok-second.ensures.found (image_words bytes) (places_words n ++ 10 ∷ rest) (image_lacks bytes) one in
    c.fault_on-in-Err.ensures ∙ c.in-Err.ensures.found bytes fits len two.0

pub returns-in_err-third-clause-found : goal.returns-in_err-third-clause-found
returns-in_err-third-clause-found c = λ bytes n rest fits len some few e.
    let one = after_first_line c.in-Some.rest.now bytes n rest c.args.text.now c.in-Some.ensures.some e in
    let two = c.in_ok-second.ensures.found (image_words bytes) (places_words n ++ 10 ∷ rest) (image_lacks bytes) one in
    absurd (c.in_err-third.ensures.found (places_words n) rest (places_lack n few) two.1)

pub returns-in-Err-places_in-clause-found : goal.returns-in-Err-places_in-clause-found
returns-in-Err-places_in-clause-found c = λ bytes n rest fits len some few e.
    let one = after_first_line c.in-Some.rest.now bytes n rest c.args.text.now c.in-Some.ensures.some e in
    let two = c.in_ok-second.ensures.found (image_words bytes) (places_words n ++ 10 ∷ rest) (image_lacks bytes) one in
    let three = c.in_ok-third.ensures.found (places_words n) rest (places_lack n few) two.1 in
    c.fault_on-in-Err-places_in.ensures ∙ c.in-Err-places_in.ensures.found n some few three.0

pub returns-clause-found : goal.returns-clause-found
returns-clause-found c = λ bytes n rest fits len some few e.
    let one = after_first_line c.in-Some.rest.now bytes n rest c.args.text.now c.in-Some.ensures.some e in
    let two = c.in_ok-second.ensures.found (image_words bytes) (places_words n ++ 10 ∷ rest) (image_lacks bytes) one in
    let three = c.in_ok-third.ensures.found (places_words n) rest (places_lack n few) two.1 in
    (c.in-Ok.ensures.found bytes fits len two.0, c.in-Ok-places_in.ensures.found n some few three.0, three.1)
