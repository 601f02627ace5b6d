-- The worked run over three places: the worlds on the way.
use Rattle.std.proofs.Common.{ℕ, Some, None}
use Rattle.x10_model.specs.Maps.{with_entry}
use Rattle.x10_model.specs.Places as places
use Rattle.x10_model.specs.Places.{root, Message, Effect, Waits, Works, Spawns, Shifts, Opens, Closes, Ends}
use Rattle.x10_model.specs.Worlds.{Taken, World, opening, net_after, book_after, book_with}
use Rattle.x10_model.specs.Relay.{relaying}
use Rattle.x10_model.proofs.RelayMoves.{inner, home1, home2, home3, home4, home5, home6, home7, home8, middle1, middle2, middle3, middle4, last1, last2, last3, last4, goes_there, begins_other, comes_back}

-- after a move of a place's one activity, whose message, if there is one, has the number
abbrev pub moved : World → ℕ → places.Place → Effect → ℕ → World
moved w here new effect number = record {
  net = net_after w.net here new effect number;
  book = book_after w.book (w.book.belongs here 0) here effect number;
}

-- after a place took in the message with a number
abbrev pub took : World → ℕ → ℕ → places.Place → Message → World
took w here number new message = record {
  net = record {
    places = with_entry w.net.places here (Some new);
    posts = with_entry w.net.posts number Taken;
    enclosing = w.net.enclosing;
  };
  book = book_with w.book (w.book.carries number) here 0 message;
}

abbrev pub w0 : World
w0 = opening relaying 0

abbrev pub w1 : World
w1 = moved w0 0 home1 (Opens 1 root) 9

abbrev pub w2 : World
w2 = moved w1 0 home2 Works 9

abbrev pub w3 : World
w3 = moved w2 0 home3 (Shifts goes_there inner) 0

abbrev pub w4 : World
w4 = took w3 1 0 middle1 goes_there

abbrev pub w5 : World
w5 = moved w4 1 middle2 Works 9

abbrev pub w6 : World
w6 = moved w5 1 middle3 (Spawns begins_other 0 inner) 1

abbrev pub w7 : World
w7 = moved w6 1 middle4 (Ends inner (Some comes_back)) 2

abbrev pub w8 : World
w8 = took w7 0 2 home4 comes_back

abbrev pub w9 : World
w9 = moved w8 0 home4 (Waits 1) 9

abbrev pub w10 : World
w10 = took w9 2 1 last1 begins_other

abbrev pub w11 : World
w11 = moved w10 2 last2 Works 9

abbrev pub w12 : World
w12 = moved w11 2 last3 Works 9

abbrev pub w13 : World
w13 = moved w12 2 last4 (Ends inner None) 9

abbrev pub w14 : World
w14 = moved w13 0 home5 (Closes 1) 9

abbrev pub w15 : World
w15 = moved w14 0 home6 Works 9

abbrev pub w16 : World
w16 = moved w15 0 home7 Works 9

abbrev pub w17 : World
w17 = moved w16 0 home8 (Ends root None) 9
