-- The lines that tell a frame, a line for each thing that it says. A line feed ends each line.
use Rattle.std.specs.Prelude.{◌≡◌, ℕ, ◌+◌, List, [], ◌∷◌, ◌++◌, length, codes, decimal}
use Rattle.std.specs.Fmt.{signed_decimal}
use Rattle.std.specs.List.{flat_map}
use Rattle.x10_model.specs.declared.version.FrameVersion.{FrameVersion}
use Rattle.x10_model.specs.Frames.{Item, Node, Graph, Frame, FitsFrame, byte_of, spelling, IntItem, PlaceItem, TextItem, RailItem, ObjectItem, NullItem, RefItem}
use Rattle.x10_asm.specs.Listing.{spaced, quoted}
use Rattle.x10_frame.specs.Heads.{head_of, graph_of, sent_of, received_of}
use Rattle.x10_model.specs.declared.finish.Finish.{Finish}
use Rattle.x10_frame.specs.declared.head.Head.{Head}
use Rattle.x10_frame.specs.declared.head.What.{What}
use Rattle.x10_frame.specs.declared.head.What.TheVariants as what

-- ---- before the graph or the counts

-- what the frame is, its version, and from which place it is to which
abbrev pub first_line : List ℕ → (version from to : ℕ) → List ℕ
first_line name version from to = codes "frame: " ++ (name
    ++ (codes ", version " ++ (decimal version ++ (codes ", from place "
    ++ (decimal from ++ (codes " to place " ++ (decimal to ++ 10 ∷ [])))))))

-- the stay that waits for the frame, or for the one that will come back
abbrev pub waiting_line : (key place : ℕ) → List ℕ
waiting_line key place = codes "waiting: stay "
    ++ (decimal key ++ (codes " of place " ++ (decimal place ++ 10 ∷ [])))

-- a finish, by its number at its home
abbrev pub finish_line : (number home : ℕ) → List ℕ
finish_line number home = codes "finish: "
    ++ (decimal number ++ (codes " of place " ++ (decimal home ++ 10 ∷ [])))

-- what begins, and under which finish
abbrev pub launch_lines : Finish → (function : ℕ) → List ℕ
launch_lines under function = finish_line under.number under.home
    ++ (codes "function: " ++ (decimal function ++ 10 ∷ []))

-- the lines of what a frame is sent for, in a version
abbrev pub what_lines : (version from to : ℕ) → What → List ℕ
what_lines version from to (what.Spawn under function) =
    first_line (codes "Spawn") version from to ++ launch_lines under function
what_lines version from to (what.Shift waiting under function) =
    first_line (codes "Shift") version from to
    ++ (waiting_line waiting from ++ launch_lines under function)
what_lines version from to (what.Back waiting) =
    first_line (codes "Back") version from to ++ waiting_line waiting to
what_lines version from to (what.Report number) =
    first_line (codes "Report") version from to ++ finish_line number to

-- the lines of a head
abbrev pub head_lines : ℕ → Head → List ℕ
head_lines version h = what_lines version h.from h.to h.what

-- ---- the graph

-- a value: a number as it is, and what else it is in words
abbrev pub item_text : Item → List ℕ
item_text (IntItem z) = signed_decimal z
item_text (PlaceItem p) = codes "place " ++ decimal p
item_text (TextItem i) = codes "text " ++ decimal i
item_text (RailItem i) = codes "rail " ++ decimal i
item_text (ObjectItem i) = codes "object " ++ decimal i
item_text NullItem = codes "null"
item_text (RefItem home id class) = codes "global reference "
    ++ (decimal id ++ (codes " of place " ++ (decimal home
    ++ (codes ", class " ++ decimal class))))

-- the lines of items that are numbered from one number on
abbrev pub numbered : {X : Type 0} → (ℕ → X → List ℕ) → ℕ → List X → List ℕ
numbered line n [] = []
numbered line n (x ∷ rest) = line n x ++ numbered line (n + 1) rest

-- numbers in decimal, each with a space before it
abbrev pub count_words : List ℕ → List ℕ
count_words counts = flat_map (λ n. spaced (decimal n)) counts

-- a value that is passed
abbrev pub root_line : ℕ → Item → List ℕ
root_line n i = codes "root " ++ (decimal n ++ (codes ": " ++ (item_text i ++ 10 ∷ [])))

-- a text, quoted as in assembler text
abbrev pub text_line : ℕ → List ℕ → List ℕ
text_line n text = codes "text "
    ++ (decimal n ++ (codes ":" ++ (spaced (quoted text) ++ 10 ∷ [])))

-- a rail's length, and its bytes
abbrev pub rail_line : ℕ → List ℕ → List ℕ
rail_line n bytes = codes "rail " ++ (decimal n ++ (codes ", length "
    ++ (decimal (length bytes) ++ (codes ":" ++ (count_words bytes ++ 10 ∷ [])))))

-- a field of an object
abbrev pub field_line : ℕ → ℕ → Item → List ℕ
field_line object n i = codes "object " ++ (decimal object ++ (codes ", field "
    ++ (decimal n ++ (codes ": " ++ (item_text i ++ 10 ∷ [])))))

-- an object's class, and its fields
abbrev pub object_lines : ℕ → Node → List ℕ
object_lines n object = (codes "object " ++ (decimal n
    ++ (codes ": class " ++ (decimal object.class ++ 10 ∷ []))))
    ++ numbered (field_line n) 0 object.fields

-- what is passed, and the texts, rails and objects that this leads to
abbrev pub graph_lines : Graph → List ℕ
graph_lines g = numbered root_line 0 g.roots
    ++ (numbered text_line 0 g.texts
    ++ (numbered rail_line 0 g.rails ++ numbered object_lines 0 g.nodes))

-- ---- the counts

-- how many activities were sent to each place, and how many were received from each
abbrev pub count_lines_of : (sent received : List ℕ) → List ℕ
count_lines_of [] received = []
count_lines_of (n ∷ rest) received = codes "sent:" ++ (count_words (n ∷ rest)
    ++ (codes "\nreceived:" ++ (count_words received ++ 10 ∷ [])))

-- the counts of a report; no other frame has any
abbrev pub count_lines : Frame → List ℕ
count_lines f = count_lines_of (sent_of f) (received_of f)

-- ---- the whole

-- all lines of a frame, in a version
unfoldable pub frame_text : ℕ → Frame → List ℕ
frame_text version f = head_lines version (head_of f)
    ++ (graph_lines (graph_of f) ++ count_lines f)

-- the text is that of the frame that the bytes are, where there are so many places
pub record IsTold (places : ℕ) (bytes text : List ℕ) : Type 0 where
  pub frame : Frame
  pub version : FrameVersion
  pub fits : FitsFrame version places frame
  pub spelled : bytes ≡ spelling version frame
  pub text_is : text ≡ frame_text (byte_of version) frame
