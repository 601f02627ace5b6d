-- Reading a whole frame: what its two steps make together.
use Rattle.std.proofs.Common.{◌≡◌, ◌≢◌, ℕ, ◌^◌, ◌<◌, List, [], ◌∷◌, length, Option, Some, None, Result, Ok, Err, IfOk, refl, sym, ap, subst, ◌∙◌, arith}
use Rattle.x10_model.specs.declared.version.FrameVersion.{FrameVersion}
use Rattle.x10_model.specs.declared.version.FrameVersion.TheVariants.{Narrow, Wide}
use Rattle.x10_model.specs.Frames.{Frame, FitsFrame, IsSpelled, spelling}
use Rattle.x10_model.specs.Readers.{Reader, IsBytes, bind, given, byte, all_of, ended}
use Rattle.x10_model.specs.ReadingFrames.{FrameFault, Trailing, version_at, after_version, parts_at, frame_at}
use Rattle.x10_model.proofs.ReaderLaws.{bind_is}
use Rattle.x10_model.proofs.FrameLaws.{frame_again, frame_takes}
use Rattle.x10_frame.specs.declared.head.Head.{Head}
use Rattle.x10_frame.specs.declared.fault.FrameFault.{FrameFault as RustFault}
use Rattle.x10_frame.specs.Faults.{IsFault, IsFaultOrMemory, Gives}
use Rattle.x10_frame.specs.Heads.{head_of, head_at, after_head}
use Rattle.x10_frame.specs.Bodies.{HasBody, IsBody}
use Rattle.x10_frame.specs.Views.{frame_in, IsView}
use Rattle.x10_bytes.proofs.Loops.{lenient, early}
use Rattle.x10_frame.proofs.Heads.{after_is}

-- ---- faults

parts_fault : (places : ℕ) (bytes : List ℕ) (f : FrameFault) → parts_at places bytes ≡ Err f → frame_at places bytes ≡ Err f
unfolding frame_at all_of
parts_fault places bytes f e = rw e refl

fault_of_parts : (places : ℕ) (bytes : List ℕ) (f : Option FrameFault) → IsFaultOrMemory f (parts_at places bytes)
    → IsFaultOrMemory f (frame_at places bytes)
fault_of_parts places bytes None h = tt
fault_of_parts places bytes (Some f) h = parts_fault places bytes f h

abbrev after_first : ℕ → FrameVersion → Reader FrameFault Frame
after_first places v = after_version v places

by_version : (places : ℕ) (bytes : List ℕ) → parts_at places bytes ≡ bind version_at (after_first places) bytes
unfolding parts_at
by_version places bytes = refl

pub version_fault : (places : ℕ) (bytes : List ℕ) (f : Option FrameFault) → IsFault f (version_at bytes) → IsFaultOrMemory f (frame_at places bytes)
version_fault places bytes f e = fault_of_parts places bytes f
    (rw by_version (early version_at (after_first places) bytes f (lenient f (version_at bytes) e)))

at_version : (v : FrameVersion) (places : ℕ) (bytes r0 : List ℕ) → version_at bytes ≡ Ok (v, r0) → parts_at places bytes ≡ after_version v places r0
at_version v places bytes r0 e = by_version places bytes ∙ bind_is version_at (after_first places) bytes v r0 e

pub head_fault : (v : FrameVersion) (places : ℕ) (bytes r0 : List ℕ) (f : Option FrameFault) → version_at bytes ≡ Ok (v, r0)
    → IsFault f (head_at places r0) → IsFaultOrMemory f (frame_at places bytes)
head_fault v places bytes r0 f version e = fault_of_parts places bytes f
    (rw (at_version v places bytes r0 version, after_is) (early (head_at places) (after_head v places) r0 f (lenient f (head_at places r0) e)))

at_head : (v : FrameVersion) (places : ℕ) (bytes r0 : List ℕ) (h : Head) (rest : List ℕ) → version_at bytes ≡ Ok (v, r0)
    → head_at places r0 ≡ Ok (h, rest) → parts_at places bytes ≡ after_head v places h rest
at_head v places bytes r0 h rest version e = at_version v places bytes r0 version ∙ after_is v places r0
    ∙ bind_is (head_at places) (after_head v places) r0 h rest e

pub body_fault : (v : FrameVersion) (places : ℕ) (bytes r0 : List ℕ) (h : Head) (rest : List ℕ) (f : Option FrameFault)
    → version_at bytes ≡ Ok (v, r0) → head_at places r0 ≡ Ok (h, rest) → IsFaultOrMemory f (after_head v places h rest)
    → IsFaultOrMemory f (frame_at places bytes)
body_fault v places bytes r0 h rest f version head e = fault_of_parts places bytes f (rw (at_head v places bytes r0 h rest version head) e)

-- ---- all steps

pub record Steps (v : FrameVersion) (places : ℕ) (bytes r0 : List ℕ) (h : Head) (r1 : List ℕ) (start count : ℕ)
    (texts rails nodes r2 : List ℕ) : Type 0 where
  pub few : places < 2 ^ 16
  pub small : IsBytes bytes
  pub version : version_at bytes ≡ Ok (v, r0)
  pub head : head_at places r0 ≡ Ok (h, r1)
  pub body : IsBody v bytes h start count texts rails nodes r2 (after_head v places h r1)

parts_are : (v : FrameVersion) (places : ℕ) (bytes r0 : List ℕ) (h : Head) (r1 : List ℕ) (start count : ℕ) (texts rails nodes r2 : List ℕ)
    → (s : Steps v places bytes r0 h r1 start count texts rails nodes r2) → parts_at places bytes ≡ Ok (s.body.frame, r2)
parts_are v places bytes r0 h r1 start count texts rails nodes r2 s = at_head v places bytes r0 h r1 s.version s.head ∙ s.body.reads

more_left : (f : Frame) (rest : List ℕ) → length rest ≢ 0 → ended Trailing (Ok (f, rest)) ≡ Err Trailing
more_left f [] h = absurd (h refl)
more_left f (b ∷ rest) h = refl

none_left : (f : Frame) (rest : List ℕ) → length rest ≡ 0 → ended Trailing (Ok (f, rest)) ≡ Ok f
none_left f [] h = refl
none_left f (b ∷ rest) h = absurd (omega arith)

pub trailing : (v : FrameVersion) (places : ℕ) (bytes r0 : List ℕ) (h : Head) (r1 : List ℕ) (start count : ℕ) (texts rails nodes r2 : List ℕ)
    → Steps v places bytes r0 h r1 start count texts rails nodes r2 → length r2 ≢ 0 → frame_at places bytes ≡ Err Trailing
unfolding frame_at all_of
trailing v places bytes r0 h r1 start count texts rails nodes r2 s more =
    rw (parts_are v places bytes r0 h r1 start count texts rails nodes r2 s) (more_left s.body.frame r2 more)

pub read_is : (v : FrameVersion) (places : ℕ) (bytes r0 : List ℕ) (h : Head) (r1 : List ℕ) (start count : ℕ) (texts rails nodes r2 : List ℕ)
    → (s : Steps v places bytes r0 h r1 start count texts rails nodes r2) → length r2 ≡ 0 → frame_at places bytes ≡ Ok s.body.frame
unfolding frame_at all_of
read_is v places bytes r0 h r1 start count texts rails nodes r2 s end =
    rw (parts_are v places bytes r0 h r1 start count texts rails nodes r2 s) (none_left s.body.frame r2 end)

-- ---- the view

-- the version that was read is the one in which the bytes are spelled
version_again : (v : FrameVersion) (f : Frame) → IfOk (version_at (spelling v f)) (λ x. x.0 ≡ v)
unfolding version_at bind given byte spelling
version_again Narrow f = refl
version_again Wide f = refl

same_version : (v w : FrameVersion) (r0 bytes : List ℕ) (f : Frame) → version_at bytes ≡ Ok (v, r0) → bytes ≡ spelling w f → v ≡ w
same_version v w r0 bytes f e is = rw (← is, e) at (version_again w f)

spelled_in : (v : FrameVersion) (places : ℕ) (bytes r0 : List ℕ) (f : Frame) → places < 2 ^ 16 → IsBytes bytes → version_at bytes ≡ Ok (v, r0)
    → frame_at places bytes ≡ Ok f → FitsFrame v places f × (bytes ≡ spelling v f)
spelled_in v places bytes r0 f few small version e =
    let law = frame_takes places few bytes f small e in
    subst (λ w. FitsFrame w places f × (bytes ≡ spelling w f)) (sym (same_version v law.version r0 bytes f version law.is)) (law.fits, law.is)

abbrev read_frame : Frame → Result Frame FrameFault
read_frame f = Ok f

pub frame_in_is : (places : ℕ) (bytes : List ℕ) (f : Frame) → frame_at places bytes ≡ Ok f → frame_in places bytes ≡ f
unfolding frame_in
frame_in_is places bytes f e = rw e refl

pub is_view : (v : FrameVersion) (places : ℕ) (bytes r0 : List ℕ) (h : Head) (r1 : List ℕ) (start count : ℕ) (texts rails nodes r2 : List ℕ)
    → Steps v places bytes r0 h r1 start count texts rails nodes r2 → length r2 ≡ 0 → IsView v bytes places h start count texts rails nodes
is_view v places bytes r0 h r1 start count texts rails nodes r2 s end =
    let e = read_is v places bytes r0 h r1 start count texts rails nodes r2 s end in
    let is : frame_in places bytes ≡ s.body.frame = frame_in_is places bytes s.body.frame e in
    let law = spelled_in v places bytes r0 s.body.frame s.few s.small s.version e in
    record {
      few = s.few;
      fits = subst (FitsFrame v places) (sym is) law.0;
      spelled = law.1 ∙ ap (spelling v) (sym is);
      head_is = ap head_of is ∙ s.body.head_is;
      has = subst (HasBody v bytes start count texts rails nodes) (sym is) s.body.has;
    }

pub is_in : (places : ℕ) (bytes : List ℕ) (f : Frame) → frame_at places bytes ≡ Ok f → frame_at places bytes ≡ Ok (frame_in places bytes)
is_in places bytes f e = e ∙ ap read_frame (sym (frame_in_is places bytes f e))

-- ---- the clauses of reading

pub found : (places : ℕ) (bytes : List ℕ) (r : Result Frame RustFault) → places < 2 ^ 16 → IsBytes bytes → Gives (λ v. v) r (frame_at places bytes)
    → IfOk r (λ f. IsSpelled places f bytes)
found places bytes (Ok f) few b e = frame_takes places few bytes f b e
found places bytes (Err f) few b e = tt

pub only : (places : ℕ) (bytes : List ℕ) (r : Result Frame RustFault) (f : Frame) → places < 2 ^ 16 → Gives (λ v. v) r (frame_at places bytes)
    → IsSpelled places f bytes → Gives (λ v. v) r (read_frame f)
only places bytes r f few e s = subst (λ (o : Result Frame FrameFault). Gives (λ v. v) r o)
    (ap (frame_at places) s.is ∙ frame_again s.version places few f s.fits) e
