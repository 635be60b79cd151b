-- An entry of which each part holds is true, and the least part that fails where the triples do or a search does.
use Rattle.std.proofs.Common.{◌≡◌, ◌∙◌, sym, subst, ℕ, zero, suc, ◌<◌, ◌≤◌, List, Bool, true, false, arith, inl, inr, true≢false}
use Rattle.std.specs.Prelude.{◌↔◌, IsTrue, Option, Some, None, MatchOption}
use Rattle.std.proofs.lemmas.Bool.{cases_lt}
use Rattle.heesch_grid.specs.declared.Cell.{Cell}
use Rattle.heesch_grid.specs.Geometry.{Geometry}
use Rattle.heesch_cert.specs.declared.limits.Limits.{Limits}
use Rattle.heesch_cert.specs.declared.entry.Entry.{Entry}
use Rattle.heesch_cert.specs.Parts.{IsLeastFailing, PartHolds}
use Rattle.heesch_cert.specs.TrueEntry.{ShapeHolds, FormHolds, CoverHolds, ClassesHold, FreeHolds, WallHolds, OpenHolds, BareHolds, TriplesHold, IsTrueEntry}
use Rattle.heesch_audit.specs.Portions.{PartsHold}
use Rattle.heesch_audit.specs.Shapes.{AreCanonical}
use Rattle.heesch_audit.specs.Walls.{IsSearchFailure}

-- an entry is true where its shape, the parts 2 to 8 and its triples are
pub true_where : (g : Geometry) (limits : Limits) (entry : Entry) → ShapeHolds g entry → PartsHold g limits entry → TriplesHold g limits entry.cells entry.verdict entry.evidence → IsTrueEntry g limits entry
true_where g limits entry shape parts triples = record {
  shape = shape;
  form = parts 2 (omega arith) (omega arith);
  cover = parts 3 (omega arith) (omega arith);
  classes = parts 4 (omega arith) (omega arith);
  free = parts 5 (omega arith) (omega arith);
  wall = parts 6 (omega arith) (omega arith);
  wider = parts 7 (omega arith) (omega arith);
  bare = parts 8 (omega arith) (omega arith);
  triples = triples;
}

-- where the shape and the parts 2 to 8 hold, and the triples don't, they are the least that fails
pub least_last : (g : Geometry) (limits : Limits) (entry : Entry) → ShapeHolds g entry → PartsHold g limits entry → (¬ TriplesHold g limits entry.cells entry.verdict entry.evidence) → IsLeastFailing g limits entry 9
least_last g limits entry shape parts fails = record { before = before; fails = fails }
  where
    before : (k : ℕ) → k < 9 → PartHolds g limits entry k
    before zero l = tt
    before (suc zero) l = shape
    before (suc (suc n)) l = parts (suc (suc n)) (omega arith) (omega (arith, l))

-- where the shape is looked at as cells that are canonical, no part from 2 to 8 fails, and this is whether the triples hold
module _ (g : Geometry) (limits : Limits) (entry : Entry) (shape cells : List Cell) (same : shape ≡ cells) (is : cells ≡ entry.cells) (canonical : AreCanonical g cells)
    (failing : Option ℕ) (none : failing ≡ None) (told : MatchOption failing (PartsHold g limits entry) (λ part. (part ≤ 8) × IsLeastFailing g limits entry part))
    (yes : Bool) (settled : IsTrue yes ↔ TriplesHold g limits shape entry.verdict entry.evidence) where
  form_shape : ShapeHolds g entry
  form_shape = subst (AreCanonical g) is canonical

  parts : PartsHold g limits entry
  parts = subst (λ (o : Option ℕ). MatchOption o (PartsHold g limits entry) (λ part. (part ≤ 8) × IsLeastFailing g limits entry part)) none told

  triples : IsTrue yes ↔ TriplesHold g limits entry.cells entry.verdict entry.evidence
  triples = subst (λ (cs : List Cell). IsTrue yes ↔ TriplesHold g limits cs entry.verdict entry.evidence) (same ∙ is) settled

  -- the entry is true where they do, and else they are the least that fails
  pub all_hold : yes ≡ true → IsTrueEntry g limits entry
  all_hold e = true_where g limits entry form_shape parts (triples.0 e)

  pub last_fails : yes ≡ false → IsLeastFailing g limits entry 9
  last_fails e = least_last g limits entry form_shape parts (λ h. true≢false (sym (triples.1 h) ∙ e))

-- where the parts before the searches hold, the first of the searches that fails is the least part that fails
module _ (g : Geometry) (limits : Limits) (entry : Entry) (shape : ShapeHolds g entry) (form : FormHolds g limits entry) (cover : CoverHolds g entry.cells entry.evidence) (classes : ClassesHold g entry.cells entry.verdict entry.evidence) (free : FreeHolds g entry.cells entry.verdict entry.evidence) where
  before_wall : (k : ℕ) → k < 6 → PartHolds g limits entry k
  before_wall zero l = tt
  before_wall (suc zero) l = shape
  before_wall (suc (suc zero)) l = form
  before_wall (suc (suc (suc zero))) l = cover
  before_wall (suc (suc (suc (suc zero)))) l = classes
  before_wall (suc (suc (suc (suc (suc zero))))) l = free
  before_wall (suc (suc (suc (suc (suc (suc n)))))) l = absurd (omega (arith, l))

  before_wider : WallHolds g limits entry.cells entry.verdict entry.evidence → (k : ℕ) → k < 7 → PartHolds g limits entry k
  before_wider wall k l =
      elim (cases_lt k 6) [
        | inl low ↦ before_wall k low
        | inr from ↦
            let same : 6 ≡ k = omega (arith, from, l) in
            subst (PartHolds g limits entry) same wall
      ]

  before_bare : WallHolds g limits entry.cells entry.verdict entry.evidence → OpenHolds g entry.cells entry.evidence → (k : ℕ) → k < 8 → PartHolds g limits entry k
  before_bare wall wider k l =
      elim (cases_lt k 7) [
        | inl low ↦ before_wider wall k low
        | inr from ↦
            let same : 7 ≡ k = omega (arith, from, l) in
            subst (PartHolds g limits entry) same wider
      ]

  pub parts_hold : WallHolds g limits entry.cells entry.verdict entry.evidence → OpenHolds g entry.cells entry.evidence → BareHolds g limits entry.cells entry.verdict entry.evidence → PartsHold g limits entry
  parts_hold wall wider bare k from few =
      elim (cases_lt k 8) [
        | inl low ↦ before_bare wall wider k low
        | inr top ↦
            let same : 8 ≡ k = omega (arith, top, few) in
            subst (PartHolds g limits entry) same bare
      ]

  pub least_search : (o : Option ℕ) → IsSearchFailure g limits entry.cells entry.verdict entry.evidence o → MatchOption o (PartsHold g limits entry) (λ part. (part ≤ 8) × IsLeastFailing g limits entry part)
  least_search None h = parts_hold h.0 h.1 h.2
  least_search (Some part) h =
      let answer = λ (k : ℕ). (k ≤ 8) × IsLeastFailing g limits entry k in
      elim h [
        | inl six ↦ subst answer (sym six.0) (omega arith, record { before = before_wall; fails = six.1 })
        | inr later ↦
            elim later [
              | inl seven ↦ subst answer (sym seven.0) (omega arith, record { before = before_wider seven.1; fails = seven.2 })
              | inr eight ↦ subst answer (sym eight.0) (omega arith, record { before = before_bare eight.1 eight.2; fails = eight.3 })
            ]
      ]
