-- Texts of shares have no fault.
use Rattle.std.proofs.Common.{◌≡◌, ◌⊎◌, inl, inr, ℕ, ◌≤◌, Bool, List, [], length, Option, Some, None, if◌then◌else◌, refl, sym, ap, ◌∙◌, arith}
use Rattle.std.proofs.lemmas.Bool.{eq-eqb}
use Rattle.heesch_cert.specs.declared.header.Header.{Header}
use Rattle.heesch_cert.specs.declared.entry.Entry.{Entry}
use Rattle.heesch_reader.specs.declared.progress.Progress.{Progress}
use Rattle.heesch_parts.specs.declared.stage.Stage.{Stage}
use Rattle.heesch_parts.specs.Stages.{start, fault_at_end, fault_between, end_fault}
use Rattle.heesch_parts.specs.Shares.{AreShares}
use Rattle.heesch_parts.specs.Faults.{HasFault}
use Rattle.heesch_parts.proofs.OneFault.{no_fault}
use Rattle.heesch_parts.proofs.WholeShares.{full_header, whole_lines_text, whole_forms, shares_walk}

-- the text may end behind the last share
pub may_end : (s : Stage) (k : ℕ) → s.progress ≡ None → s.shares ≡ Some k → s.share ≡ k → end_fault s ≡ None
may_end s k progress shares share =
    ap (λ (p : Option Progress). fault_at_end p s) progress ∙ ap (λ (x : Option ℕ). fault_between x s.share) shares ∙ ap (λ (b : Bool). if b then None else Some 11) (eq-eqb s.share k share)

known : (shares : List (List Entry)) (s : Stage) → 1 ≤ length shares → (shares ≡ []) ⊎ (s.shares ≡ Some (length shares)) → s.shares ≡ Some (length shares)
known shares s some (inl none) = let bad = ap length none in absurd (omega (arith, bad, some))
known shares s some (inr is) = is

pub shares_have_no_fault : (most : ℕ) (text : List ℕ) (header : Header) (shares : List (List Entry)) (line number : ℕ) → AreShares text header shares → length text ≤ most → HasFault most text line number → ⊥
shares_have_no_fault most text header shares line number a few f =
    let k = length shares in
    let w = shares_walk start 1 k 0 header shares a.header_is (record { progress = refl; may = refl; next = omega arith; agrees = tt; entries = refl }) a.each (omega (arith, a.all)) in
    let full = full_header header a.header_is.joins in
    let share : w.reached.share ≡ k = omega (arith, w.ready.next) in
    no_fault most text _ w.reached line number (a.text_is ∙ sym (whole_lines_text 1 k header shares full)) (whole_forms 1 k header shares a.header_is a.each (omega arith) (omega arith) a.most a.all) w.walk
    (may_end w.reached k w.ready.progress (known shares w.reached a.some w.known) share) few f
