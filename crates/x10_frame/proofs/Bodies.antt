-- What follows the head of a frame, and where its parts stand.
use Rattle.std.proofs.Common.{◌≡◌, ℕ, ◌-◌, ◌^◌, List, [], ◌++◌, length, drop, Option, Result, Ok, Err, refl, ◌∙◌}
use Rattle.std.specs.Int.{w32}
use Rattle.x10_model.specs.declared.version.FrameVersion.{FrameVersion}
use Rattle.x10_model.specs.Frames.{Graph, Frame, counts_bytes}
use Rattle.x10_model.specs.Frames as frames
use Rattle.x10_model.specs.Readers.{Reader, IsBytes, bind, done, number, times}
use Rattle.x10_model.specs.ReadingFrames.{FrameFault, Short, graph_at}
use Rattle.x10_model.proofs.ReaderLaws.{Takes, Takes-then, bind_is}
use Rattle.x10_model.proofs.PartLaws.{number_reads, each_reads, wide32}
use Rattle.x10_model.specs.Offsets.{StandsAt, EndsWith}
use Rattle.x10_model.proofs.Offsets.{place_is}
use Rattle.x10_frame.specs.declared.body.Body.{Body}
use Rattle.x10_frame.specs.declared.head.Head.{Head}
use Rattle.x10_frame.specs.declared.head.What.{What}
use Rattle.x10_frame.specs.declared.head.What.TheVariants as what
use Rattle.x10_frame.specs.declared.fault.FrameFault.{FrameFault as RustFault}
use Rattle.x10_frame.specs.Faults.{named, IsFault, IsFaultOrMemory}
use Rattle.x10_frame.specs.Heads.{head, BringsGraph, IsGraphHead, head_of, graph_of, sent_of, received_of, with_graph, most_roots, counts_at, graph_after}
use Rattle.x10_frame.specs.Bodies.{IsGraph, GivesGraph, IsBody, GivesBody}
use Rattle.x10_bytes.proofs.Loops.{lenient, early}

nothing_at : (bytes : List ℕ) (at : ℕ) → StandsAt bytes at []
nothing_at bytes at = record { rest = drop at bytes; is = refl }

-- ---- a graph

record WithGraph (h : Head) (g : Graph) : Type 0 where
  head_is : head_of (with_graph h g) ≡ h
  graph_is : graph_of (with_graph h g) ≡ g
  sent_is : sent_of (with_graph h g) ≡ []
  received_is : received_of (with_graph h g) ≡ []

with_graph_is : (from to : ℕ) (w : What) (g : Graph) → BringsGraph w → WithGraph (head from to w) g
with_graph_is from to (what.Spawn under function) g i = record { head_is = refl; graph_is = refl; sent_is = refl; received_is = refl }
with_graph_is from to (what.Shift waiting under function) g i = record { head_is = refl; graph_is = refl; sent_is = refl; received_is = refl }
with_graph_is from to (what.Back waiting) g i = record { head_is = refl; graph_is = refl; sent_is = refl; received_is = refl }
with_graph_is from to (what.Report number) g i = absurd i

pub graph_body : (v : FrameVersion) (places : ℕ) (h : Head) (frame : List ℕ) (start count : ℕ) (texts rails nodes bytes rest : List ℕ) → IsGraphHead h
    → IsGraph v frame start count texts rails nodes rest (graph_at v places (most_roots h) bytes)
    → IsBody v frame h start count texts rails nodes rest (graph_after v places h bytes)
unfolding done
graph_body v places h frame start count texts rails nodes bytes rest i g =
    let w = with_graph_is h.from h.to h.what g.graph i in
    record {
      frame = with_graph h g.graph;
      reads = bind_is (graph_at v places (most_roots h)) (λ graph. done (with_graph h graph)) bytes g.graph rest g.reads;
      head_is = w.head_is;
      has = record {
        graph_at = rw w.graph_is g.has;
        counts_at = rw (w.sent_is, w.received_is) (nothing_at frame start);
      };
    }

pub of_graph : {X : Type 0} (v : FrameVersion) (places : ℕ) (h : Head) (frame bytes : List ℕ) (body : X → Body) (rest : X → List ℕ)
    (r : Result X RustFault) → IsGraphHead h → GivesGraph v frame body rest r (graph_at v places (most_roots h) bytes)
    → GivesBody v frame h body rest r (graph_after v places h bytes)
of_graph v places h frame bytes body rest (Ok x) i g = graph_body v places h frame (body x).start (body x).roots (body x).texts.items
    (body x).rails.items (body x).nodes.items bytes (rest x) i g
of_graph v places h frame bytes body rest (Err e) i g = early (graph_at v places (most_roots h)) (λ graph. done (with_graph h graph)) bytes
    (named e) g

-- ---- the counts of a report

abbrev pub AreCounts : ℕ → (from rest : List ℕ) → Type 0
AreCounts places from rest = (counts : List ℕ) × (times places (number w32 Short) from ≡ Ok (counts, rest))

abbrev from_sent : (places from to finish : ℕ) → List ℕ → Reader FrameFault Frame
from_sent places from to finish sent = bind (times places (number w32 Short)) (λ received. done (frames.Report from to finish sent received))

counts_is : (places from to finish : ℕ) (bytes : List ℕ) → counts_at places from to finish bytes
    ≡ bind (times places (number w32 Short)) (from_sent places from to finish) bytes
unfolding counts_at
counts_is places from to finish bytes = refl

pub sent_fault : (places from to finish : ℕ) (bytes : List ℕ) (f : Option FrameFault) → IsFault f (times places (number w32 Short) bytes)
    → IsFaultOrMemory f (counts_at places from to finish bytes)
sent_fault places from to finish bytes f e = rw counts_is (early (times places (number w32 Short)) (from_sent places from to finish) bytes f
    (lenient f (times places (number w32 Short) bytes) e))

at_sent : (places from to finish : ℕ) (bytes rest : List ℕ) → (s : AreCounts places bytes rest)
    → counts_at places from to finish bytes ≡ from_sent places from to finish s.0 rest
at_sent places from to finish bytes rest s = counts_is places from to finish bytes
    ∙ bind_is (times places (number w32 Short)) (from_sent places from to finish) bytes s.0 rest s.1

pub received_fault : (places from to finish : ℕ) (b0 b1 : List ℕ) (f : Option FrameFault) → AreCounts places b0 b1
    → IsFault f (times places (number w32 Short) b1) → IsFaultOrMemory f (counts_at places from to finish b0)
received_fault places from to finish b0 b1 f s e = rw (at_sent places from to finish b0 b1 s)
    (early (times places (number w32 Short)) (λ received. done (frames.Report from to finish s.0 received)) b1 f
    (lenient f (times places (number w32 Short) b1) e))

counts_take : (places : ℕ) (from rest : List ℕ) → IsBytes from → (s : AreCounts places from rest) → Takes from (counts_bytes s.0) rest
counts_take places from rest b s = ((each_reads (λ s _. s) (λ (_ : ℕ). number_reads w32 (2 ^ 32) wide32 Short) places 0).takes from s.0 rest b s.1).0

pub counts_body : (v : FrameVersion) (places from to finish : ℕ) (frame b0 b1 b2 texts rails nodes : List ℕ) → IsBytes b0 → EndsWith frame b0
    → texts ≡ [] → rails ≡ [] → nodes ≡ [] → AreCounts places b0 b1 → AreCounts places b1 b2
    → IsBody v frame (head from to (what.Report finish)) (length frame - length b0) 0 texts rails nodes b2 (counts_at places from to finish b0)
unfolding done
counts_body v places from to finish frame b0 b1 b2 texts rails nodes b e ht hr hn s r =
    let one = counts_take places b0 b1 b s in
    let two = counts_take places b1 b2 one.rest_fits r in
    let both = Takes-then b0 (counts_bytes s.0) b1 (counts_bytes r.0) b2 one two in
    rw (ht, hr, hn) (record {
      frame = frames.Report from to finish s.0 r.0;
      reads = at_sent places from to finish b0 b1 s ∙ bind_is (times places (number w32 Short))
          (λ received. done (frames.Report from to finish s.0 received)) b1 r.0 b2 r.1;
      head_is = refl;
      has = record {
        graph_at = record { count_is = refl; roots_at = nothing_at frame (length frame - length b0); texts_at = tt; rails_at = tt; nodes_at = tt };
        counts_at = place_is frame b0 (counts_bytes s.0 ++ counts_bytes r.0) b2 e both.parts;
      };
    })
