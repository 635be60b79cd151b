-- The outer text of good records that are all is valid.
use Rattle.std.proofs.Common.{◌≡◌, ℕ, ◌+◌, ◌≤◌, List, [], ◌∷◌, ◌++◌, length, inr, refl, sym, ap, subst, ◌∙◌, append_assoc, arith}
use Rattle.heesch_grid.specs.declared.Cell.{Cell}
use Rattle.heesch_grid.specs.Geometry.{Geometry}
use Rattle.heesch_grid.specs.Names.{geometry_of}
use Rattle.heesch_cert.specs.declared.entry.Evidence.{Evidence}
use Rattle.heesch_cert.specs.declared.entry.Evidence.TheVariants as evidences
use Rattle.heesch_cert.specs.declared.header.Header.{Header}
use Rattle.heesch_cert.specs.declared.limits.Limits.{Limits}
use Rattle.heesch_cert.specs.declared.verdict.Verdict.{Verdict}
use Rattle.heesch_cert.specs.declared.verdict.Verdict.TheVariants as verdicts
use Rattle.heesch_cert.specs.Limits.{AreLimits}
use Rattle.heesch_cert.specs.TrueEntry.{FormFits, first_number}
use Rattle.heesch_text.specs.Catalogue.{end_text}
use Rattle.heesch_cert.specs.declared.verdict.Phase.TheVariants as phases
use Rattle.heesch_check.specs.Catalogues.{AreAll, behind_block, block_of}
use Rattle.heesch_check.proofs.Blocks.{IsNext}
use Rattle.heesch_outer.specs.declared.answers.OuterEntry.{OuterEntry}
use Rattle.heesch_outer.specs.Outers.{outers_text, record_text, records_text}
use Rattle.heesch_outer_check.specs.Records.{AreGoodRecords, AreRecords}
use Rattle.heesch_outer_check.specs.Answers.{IsValidOuters}
use Rattle.heesch_outer_check.proofs.Rows.{record_block}

-- ---- the numbers of true entries are small

few_fits : (g : Geometry) (limits : Limits) → AreLimits limits → (shape : List Cell) (verdict : Verdict) (evidence : Evidence) → FormFits g limits shape verdict evidence → first_number verdict ≤ 6
few_fits g limits are shape (verdicts.Tiles kind domain classes) evidence form = omega arith
few_fits g limits are shape (verdicts.Heesch h m) (evidences.Cover tiling classes) form = absurd form
few_fits g limits are shape (verdicts.Levels h) (evidences.Cover tiling classes) form = absurd form
few_fits g limits are shape (verdicts.Holes h) (evidences.Cover tiling classes) form = absurd form
few_fits g limits are shape (verdicts.Turns h phase at) (evidences.Cover tiling classes) form = absurd form
few_fits g limits are shape (verdicts.Size h phase at) (evidences.Cover tiling classes) form = absurd form
few_fits g limits are shape (verdicts.Heesch h m) (evidences.Search free wall bare wider triples) form = let l = are.levels_range.1 in let e = form.1.0 in let k = form.1.1 in omega arith
few_fits g limits are shape (verdicts.Levels h) (evidences.Search free wall bare wider triples) form = let l = are.levels_range.1 in let e = form.1.0 in omega arith
few_fits g limits are shape (verdicts.Holes h) (evidences.Search free wall bare wider triples) form = let l = are.levels_range.1 in let e = form.1.0 in omega arith
few_fits g limits are shape (verdicts.Turns h phases.Free at) (evidences.Search free wall bare wider triples) form = let l = are.levels_range.1 in let e = form.1.0 in let k = form.1.1 in omega arith
few_fits g limits are shape (verdicts.Turns h phases.Bare at) (evidences.Search free wall bare wider triples) form = let l = are.levels_range.1 in let e = form.1.0 in let k = form.1.1 in omega arith
few_fits g limits are shape (verdicts.Size h phases.Free at) (evidences.Search free wall bare wider triples) form = let l = are.levels_range.1 in let e = form.1.0 in let k = form.1.1 in omega arith
few_fits g limits are shape (verdicts.Size h phases.Bare at) (evidences.Search free wall bare wider triples) form = let l = are.levels_range.1 in let e = form.1.0 in let k = form.1.1 in omega arith

-- ---- good records in their order

records_next : (es : List OuterEntry) (count : ℕ) → IsNext (records_text es ++ end_text count)
records_next [] count = inr refl
records_next (e ∷ es) count = inr refl

-- their texts are blocks
stand : (header : Header) → AreLimits header.limits → (before : ℕ) (es : List OuterEntry) (count : ℕ) → AreGoodRecords header before es → AreRecords header before (records_text es ++ end_text count) es (end_text count)
stand header limits before [] count good = refl
stand header limits before (e ∷ es) count good =
    let behind = records_text es ++ end_text count in
    let t = good.0.is_true in
    let few = few_fits (geometry_of header.grid) header.limits limits e.entry.cells e.entry.verdict e.entry.evidence t.form in
    let s = record_block e (omega (arith, few)) good.0.entry_forms good.0.answer_forms behind (records_next es count) in
    let whole : records_text (e ∷ es) ++ end_text count ≡ record_text e ++ behind = append_assoc (record_text e) (records_text es) (end_text count) in (
      good.0,
      ap block_of whole ∙ s.0,
      subst (λ (x : List ℕ). AreRecords header (before + 1) x es (end_text count)) (sym (ap behind_block whole ∙ s.1)) (stand header limits (before + 1) es count good.1),
    )

pub written_is_valid : (header : Header) → AreLimits header.limits → (es : List OuterEntry) → AreGoodRecords header 0 es → AreAll header header.subject (length es) → IsValidOuters header (outers_text es) (length es)
written_is_valid header limits es good all = record {
  es = es;
  rest = end_text (length es);
  records = stand header limits 0 es (length es) good;
  ends = record { text = refl; all = all };
  count_is = refl;
}
