-- What was written part after part is the spelling of the frame.
use Rattle.std.proofs.Common.{◌≡◌, ℕ, List, [], ◌++◌, length, refl, ◌∙◌, append_assoc, flat_map}
use Rattle.std.specs.Int.{w16, to_be_bytes}
use Rattle.x10_model.specs.declared.version.FrameVersion.{FrameVersion}
use Rattle.x10_model.specs.declared.version.FrameVersion.TheVariants.{Narrow, Wide}
use Rattle.x10_model.specs.Frames.{Graph, Report, item_bytes, blob_bytes, node_bytes, graph_bytes, launch_bytes, counts_bytes, spelling}
use Rattle.x10_frame.specs.declared.head.Head.{Head}
use Rattle.x10_frame.specs.declared.head.What.{What}
use Rattle.x10_frame.specs.declared.head.What.TheVariants as what
use Rattle.x10_frame.specs.Heads.{head, BringsGraph, IsGraphHead, frame_with, with_graph}
use Rattle.x10_frame.specs.Writing.{head_bytes, sizes_bytes, draft}

-- the head, and then all that follows
six : (h s r t l n : List ℕ) → ((((h ++ s) ++ r) ++ t) ++ l) ++ n ≡ h ++ (s ++ (r ++ (t ++ (l ++ n))))
six h s r t l n =
    append_assoc (((h ++ s) ++ r) ++ t) l n
    ∙ append_assoc ((h ++ s) ++ r) t (l ++ n)
    ∙ append_assoc (h ++ s) r (t ++ (l ++ n))
    ∙ append_assoc h s (r ++ (t ++ (l ++ n)))

abbrev after_head : FrameVersion → Graph → List ℕ
after_head v g = sizes_bytes v (length g.roots) (length g.texts) (length g.rails) (length g.nodes)
    ++ (flat_map (item_bytes v) g.roots ++ (flat_map blob_bytes g.texts ++ (flat_map blob_bytes g.rails ++ flat_map (node_bytes v) g.nodes)))

spelled : (v : FrameVersion) (from to : ℕ) (w : What) (g : Graph) → BringsGraph w
    → head_bytes v (head from to w) ++ after_head v g ≡ spelling v (frame_with from to w g)
unfolding spelling launch_bytes graph_bytes
spelled Narrow from to (what.Spawn under function) g i = refl
spelled Narrow from to (what.Shift waiting under function) g i = refl
spelled Narrow from to (what.Back waiting) g i = refl
spelled Wide from to (what.Spawn under function) g i = refl
spelled Wide from to (what.Shift waiting under function) g i = refl
spelled Wide from to (what.Back waiting) g i = refl
spelled v from to (what.Report number) g i = absurd i

pub draft_is : (v : FrameVersion) (h : Head) (g : Graph) → IsGraphHead h → draft v h g ≡ spelling v (with_graph h g)
draft_is v h g i = six (head_bytes v h) (sizes_bytes v (length g.roots) (length g.texts) (length g.rails) (length g.nodes))
    (flat_map (item_bytes v) g.roots) (flat_map blob_bytes g.texts) (flat_map blob_bytes g.rails) (flat_map (node_bytes v) g.nodes) ∙ spelled v h.from h.to h.what g i

report_spelled : (v : FrameVersion) (from to number : ℕ) (sent received : List ℕ)
    → ((head_bytes v (head from to (what.Report number)) ++ to_be_bytes w16 (length sent)) ++ counts_bytes sent) ++ counts_bytes received
    ≡ spelling v (Report from to number sent received)
unfolding spelling
report_spelled v from to number sent received = append_assoc (head_bytes v (head from to (what.Report number)) ++ to_be_bytes w16 (length sent))
    (counts_bytes sent) (counts_bytes received)

pub report_is : (v : FrameVersion) (from to number places : ℕ) (sent received start b1 b2 b3 b4 : List ℕ) → places ≡ length sent → start ≡ []
    → b1 ≡ start ++ head_bytes v (head from to (what.Report number)) → b2 ≡ b1 ++ to_be_bytes w16 places → b3 ≡ b2 ++ counts_bytes sent
    → b4 ≡ b3 ++ counts_bytes received → b4 ≡ spelling v (Report from to number sent received)
report_is v from to number places sent received start b1 b2 b3 b4 len e e1 e2 e3 e4 =
    rw (e4, e3, e2, e1, e, len) (report_spelled v from to number sent received)
