-- What the commands' answers say of a file.
use Rattle.std.proofs.Common.{◌≡◌, ℕ, ◌<◌, List, length, Option, Some, None, Bool, true, false, Result, Ok, refl, sym, ap, subst, ◌∙◌, inl, inr, slice_get, arith}
use Rattle.std.specs.Prelude.{◌⊎◌}
use Rattle.std.specs.Io.KnownBytes.{Appends, Keeps}
use Rattle.x10_model.specs.Modules.{Module, FitsImage}
use Rattle.x10_model.specs.Images.{spelling}
use Rattle.x10_model.specs.ReadingImages.{ImageFault, module_at}
use Rattle.x10_model.specs.Structure as structure
use Rattle.x10_model.specs.Structure.{bounds_of}
use Rattle.x10_model.specs.Verified.{IsVerified}
use Rattle.x10_model.proofs.ImageLaws.{module_again}
use Rattle.x10_bounds.specs.Faults.{named, IsFaultOrMemory}
use Rattle.x10_bounds.specs.declared.fault.BoundCause.{BoundCause}
use Rattle.x10_bounds.specs.declared.fault.BoundCause.TheVariants as bound
use Rattle.x10_bounds.specs.declared.fault.BoundFault.{BoundFault}
use Rattle.x10_verify.specs.Certified.{Certified}
use Rattle.x10_verify.specs.Faults.{HasBounds, IsStructureFault, RefutesBy, Refutes}
use Rattle.x10_verify.specs.Verdict.{IsFirstOut, IsFirstWithout}
use Rattle.x10_verify.specs.declared.fault.VerifyCause.{VerifyCause}
use Rattle.x10_verify.specs.declared.fault.VerifyCause.TheVariants as cause
use Rattle.x10_verify.specs.declared.fault.VerifyFault.{VerifyFault}
use Rattle.x10_world.specs.Endings.{IsImageOf, lines_in}
use Rattle.x10_workers.specs.Reports.{AreLinesBy, IsTold}
use Rattle.x10_cli.specs.Lines.{all_lines}
use Rattle.x10_cli.proofs.UndoneLemmas.{none_appended}
use Rattle.x10_world.specs.Opening.{IsForbidden}
use Rattle.x10_kinds.specs.declared.stop.Stop.{Stop}
use Rattle.x10_kinds.specs.declared.stop.Stop.TheVariants as stop
use Rattle.x10_workers.specs.declared.halt.WorkFault.{WorkFault}
use Rattle.x10_workers.specs.declared.halt.WorkFault.TheVariants as work
use Rattle.x10_world.specs.declared.fault.OpenFault.{OpenFault}
use Rattle.x10_world.specs.declared.fault.OpenFault.TheVariants as opened
use Rattle.x10_frame.specs.declared.fault.FrameFault.{FrameFault}
use Rattle.x10_frame.specs.declared.fault.FrameFault.TheVariants as frame
use Rattle.x10_cli.specs.declared.fault.Fault.{Fault}
use Rattle.x10_cli.specs.declared.fault.Fault.TheVariants as fault
use Rattle.x10_task.specs.declared.task.Verb.TheVariants as verb
use Rattle.x10_cli.specs.Answers.{IsImage, IsVerifiedImage, CanBeDone, IsStatus, LeavesStopped, Prints, lines_told, verdict_line, places_for, of_verify, of_bounds, of_frame, of_open, of_stop, of_work, status_of}

abbrev answer : Module → Result Module ImageFault
answer m = Ok m

-- bytes are the image of one module
same_module : (m n : Module) (bytes : List ℕ) → FitsImage m → bytes ≡ spelling m → FitsImage n → bytes ≡ spelling n → m ≡ n
same_module m n bytes fm em fn en =
    let h : answer m ≡ answer n = sym (module_again m fm) ∙ ap module_at (sym em ∙ en) ∙ module_again n fn in
    cc

-- ---- the verifier

broken : (m : Module) (bounds : List ℕ) (c : Option structure.BoundCause) (f pc : ℕ) → IsStructureFault m c f pc → bounds_of m ≡ Ok bounds → ⊥
broken m bounds None f pc r e = r
broken m bounds (Some c) f pc r e = absurd (let h = sym r ∙ e in cc)

out_of_range : (m : Module) (bounds : List ℕ) (f pc : ℕ) → IsFirstOut m f pc → IsVerified m bounds → ⊥
out_of_range m bounds f pc out v = out.out.out (v.in_range f pc out.function out.out.instr out.is_function out.out.is_instr)

without : (m : Module) (bounds : List ℕ) (f : ℕ) → IsFirstWithout m f → IsVerified m bounds → ⊥
without m bounds f out v = out.without (v.assignments f out.function out.is_function)

not_by : (m : Module) (bounds : List ℕ) (c : VerifyCause) (fault : VerifyFault) (f pc : ℕ) → RefutesBy c m f pc → status_of (of_verify c fault) ≡ 1
    → IsVerified m bounds → ⊥
not_by m bounds (cause.Structure c) fault f pc r is v = broken m bounds (named c) f pc r v.bounds_are
not_by m bounds cause.Index fault f pc r is v = out_of_range m bounds f pc r.1 v
not_by m bounds cause.Unset fault f pc r is v = without m bounds f r.2 v
not_by m bounds cause.Kind fault f pc r is v = without m bounds f r.2 v
not_by m bounds cause.Home fault f pc r is v = without m bounds f r.2 v
not_by m bounds cause.Result fault f pc r is v = without m bounds f r.2 v
not_by m bounds cause.Memory fault f pc r is v = absurd (omega (arith, is))

pub not_verified : (bytes : List ℕ) (m : Module) (f : VerifyFault) (told : Fault) → IsImage bytes m → Refutes m f → told ≡ of_verify f.cause f
    → status_of told ≡ 1 → IsVerifiedImage bytes → ⊥
not_verified bytes m f told image r e is (c, done) =
    let same = same_module c.program m bytes done.certified.fits done.spelled image.fits image.spelled in
    not_by m c.bounds f.cause f f.function f.pc r (ap status_of (sym e) ∙ is) (subst (λ n. IsVerified n c.bounds) same done.certified.verified)

-- ---- bounds

no_bounds_by : (m : Module) (c : BoundCause) (f : BoundFault) → IsFaultOrMemory (named c) f (bounds_of m) → status_of (of_bounds c f) ≡ 1
    → HasBounds m → ⊥
no_bounds_by m bound.Memory f g is b = absurd (omega (arith, is))
no_bounds_by m bound.Nesting f g is b = absurd (let h = sym g ∙ b.1 in cc)
no_bounds_by m bound.Jump f g is b = absurd (let h = sym g ∙ b.1 in cc)
no_bounds_by m bound.LoopSlot f g is b = absurd (let h = sym g ∙ b.1 in cc)
no_bounds_by m bound.CallOrder f g is b = absurd (let h = sym g ∙ b.1 in cc)
no_bounds_by m bound.Atomic f g is b = absurd (let h = sym g ∙ b.1 in cc)
no_bounds_by m bound.TooLarge f g is b = absurd (let h = sym g ∙ b.1 in cc)

pub no_bounds : (bytes : List ℕ) (m : Module) (f : BoundFault) (told : Fault) → IsImage bytes m → IsFaultOrMemory (named f.cause) f (bounds_of m)
    → told ≡ of_bounds f.cause f → status_of told ≡ 1 → CanBeDone verb.Bounds None bytes → ⊥
no_bounds bytes m f told image g e is done =
    let same = same_module done.0 m bytes done.1.fits done.1.spelled image.fits image.spelled in
    no_bounds_by m f.cause f g (ap status_of (sym e) ∙ is) (subst HasBounds same done.2)

-- ---- a frame

-- memory alone is no refusal
pub refuses_none : (f : FrameFault) (told : Fault) → told ≡ of_frame f → f ≡ frame.Memory → status_of told ≡ 1 → ⊥
refuses_none f told e m s =
    let h : 2 ≡ 1 = sym (ap status_of (e ∙ ap of_frame m)) ∙ s in
    omega (arith, h)

-- ---- places

forbidden_by : (f : OpenFault) → status_of (of_open f) ≡ 1 → f ≡ opened.Places
forbidden_by opened.Places is = refl
forbidden_by opened.Memory is = absurd (omega (arith, is))

forbidden_again : (c d : Certified) (places : Option ℕ) → c.program ≡ d.program → IsForbidden c (places_for places c)
    → IsForbidden d (places_for places d)
forbidden_again c d None e h = subst (λ (m : Module). (m.least_places < m.least_places) ⊎ (64 < m.least_places)) e h
forbidden_again c d (Some n) e h = subst (λ (m : Module). (n < m.least_places) ⊎ (64 < n)) e h

pub not_permitted : (bytes : List ℕ) (c : Certified) (places : Option ℕ) (n : ℕ) → IsImageOf bytes c → IsForbidden c n → n ≡ places_for places c
    → CanBeDone verb.Run places bytes → ⊥
not_permitted bytes c places n image forbidden en done =
    let same = same_module c.program done.0.program bytes image.certified.fits image.spelled done.1.certified.fits done.1.spelled in
    done.2 (forbidden_again c done.0 places same (subst (IsForbidden c) en forbidden))

pub not_open : (bytes : List ℕ) (c : Certified) (places : Option ℕ) (n : ℕ) (f : OpenFault) (told : Fault) → IsImageOf bytes c
    → (f ≡ opened.Places → IsForbidden c n) → n ≡ places_for places c → told ≡ of_open f → status_of told ≡ 1 → CanBeDone verb.Run places bytes → ⊥
not_open bytes c places n f told image forbids en e is done =
    not_permitted bytes c places n image (forbids (forbidden_by f (ap status_of (sym e) ∙ is))) en done

-- what stops a run isn't a refusal
stopped_by : (why : Stop) → status_of (of_stop why) ≡ 1 → ⊥
stopped_by (stop.Limit limit) is = omega (arith, is)
stopped_by stop.Memory is = omega (arith, is)
stopped_by stop.Stopped is = omega (arith, is)

pub refused_by : (f : WorkFault) → status_of (of_work f) ≡ 1 → f ≡ work.Places
refused_by (work.Stop place why report) is = absurd (stopped_by why is)
refused_by (work.Turns report) is = absurd (omega (arith, is))
refused_by (work.Refused place why) is = absurd (omega (arith, is))
refused_by (work.Differs turn) is = absurd (omega (arith, is))
refused_by work.Memory is = absurd (omega (arith, is))
refused_by work.Places is = refl
refused_by work.Thread is = absurd (omega (arith, is))

pub not_worked : (bytes : List ℕ) (c : Certified) (places : Option ℕ) (n : ℕ) (f : WorkFault) (told : Fault) → IsImageOf bytes c
    → (f ≡ work.Places → IsForbidden c n) → n ≡ places_for places c → told ≡ of_work f → status_of told ≡ 1 → CanBeDone verb.Run places bytes → ⊥
not_worked bytes c places n f told image forbids en e is done =
    not_permitted bytes c places n image (forbids (refused_by f (ap status_of (sym e) ∙ is))) en done

-- what a run with threads left that didn't end
pub work_left : (json : Bool) (bytes : List ℕ) (v : Certified) (asked : Option ℕ) (n turns : ℕ) (f : WorkFault) (a b : Option (List ℕ))
    → IsImageOf bytes v → n ≡ places_for asked v → IsTold n turns f → Appends a b (all_lines json 0 (lines_told f))
    → LeavesStopped verb.Run json true asked bytes a b
work_left json bytes v asked n turns (work.Stop place why report) a b is en told p =
    inr (
      v,
      report.log.items,
      lines_in report.outputs.items,
      is,
      subst (λ k. AreLinesBy k report.log.items (lines_in report.outputs.items)) en told,
      p,
    )
work_left json bytes v asked n turns (work.Turns report) a b is en told p =
    inr (
      v,
      report.log.items,
      lines_in report.outputs.items,
      is,
      subst (λ k. AreLinesBy k report.log.items (lines_in report.outputs.items)) en told.0,
      p,
    )
work_left json bytes v asked n turns (work.Refused place why) a b is en told p = inl (none_appended a b p)
work_left json bytes v asked n turns (work.Differs turn) a b is en told p = inl (none_appended a b p)
work_left json bytes v asked n turns work.Memory a b is en told p = inl (none_appended a b p)
work_left json bytes v asked n turns work.Places a b is en told p = inl (none_appended a b p)
work_left json bytes v asked n turns work.Thread a b is en told p = inl (none_appended a b p)

pub work_kept : (json : Bool) (f : WorkFault) (told : Fault) (a b : Option (List ℕ)) → told ≡ of_work f
    → Appends a b (all_lines json 0 (lines_told f)) → status_of told ≡ 1 → Keeps a b
work_kept json f told a b e p s = none_appended a b (subst (λ (g : WorkFault). Appends a b (all_lines json 0 (lines_told g)))
    (refused_by f (ap status_of (sym e) ∙ s)) p)

-- ---- statuses

pub status_told : (n : ℕ) (f : Fault) → (n ≡ status_of f) ⊎ (n ≡ 4) → IsStatus n
status_told n f (inl e) = inr (f, e)
status_told n f (inr e) = inr (fault.File, e)

-- ---- the verdict

pub printed_verdict : (bytes : List ℕ) (c : Certified) (image : Module) (functions entry at bound : ℕ) (old new : Option (List ℕ)) → IsImageOf bytes c
    → image ≡ c.program → functions ≡ length image.functions → entry ≡ image.entry → at ≡ entry → slice_get c.bounds at ≡ Some bound
    → Appends old new (verdict_line functions bound) → Prints verb.Verify false None bytes old new
printed_verdict bytes c image functions entry at bound old new is same count first place got line =
    let from : at ≡ c.program.entry = place ∙ first ∙ ap (λ (m : Module). m.entry) same in
    let many : functions ≡ length c.program.functions = count ∙ ap (λ (m : Module). length m.functions) same in
    (c, bound, is, subst (λ (n : ℕ). slice_get c.bounds n ≡ Some bound) from got, subst (λ (n : ℕ). Appends old new (verdict_line n bound)) many line)
