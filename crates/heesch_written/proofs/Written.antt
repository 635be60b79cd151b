-- The lines of true entries.
use Rattle.std.proofs.Common.{◌≡◌, ◌≢◌, ℕ, ◌+◌, ◌≤◌, List, [], ◌++◌, length, Option, ap, ◌∙◌, arith}
use Rattle.std.specs.List.{AllByRecursion, flat_map}
use Rattle.heesch_grid.specs.declared.Cell.{Cell}
use Rattle.heesch_grid.specs.Geometry.{Geometry, IsGrid}
use Rattle.heesch_grid.specs.Polyform.{IsFreePolyform}
use Rattle.heesch_grid.proofs.GrowthOfLists.{image_length}
use Rattle.heesch_cert.specs.declared.limits.Limits.{Limits}
use Rattle.heesch_cert.specs.declared.verdict.Verdict.{Verdict}
use Rattle.heesch_cert.specs.declared.verdict.Verdict.TheVariants as verdicts
use Rattle.heesch_cert.specs.declared.entry.Layers.{Layers}
use Rattle.heesch_cert.specs.declared.entry.Wall.{Wall}
use Rattle.heesch_cert.specs.declared.entry.Bare.{Bare}
use Rattle.heesch_cert.specs.declared.entry.TripleProof.{TripleProof}
use Rattle.heesch_cert.specs.declared.entry.Evidence.{Evidence}
use Rattle.heesch_cert.specs.declared.entry.Evidence.TheVariants as evidences
use Rattle.heesch_cert.specs.Limits.{AreLimits}
use Rattle.heesch_cert.specs.Reduced.{HasReducedCover}
use Rattle.heesch_cert.specs.TrueEntry.{FormFits, FitsVerdict, ClassesHold, CoverHolds, FreeHolds, WallHolds, OpenHolds, BareHolds, TriplesHold, first_number, last_number}
use Rattle.heesch_written.specs.Near.{ShapesAreNear, CoronasAreNear, HolesAreNear, ClassesAreNear}
use Rattle.heesch_text.specs.Catalogue.{layer_lines, wall_lines, bare_lines, wider_lines, wider_count, triple_lines, after_layers, evidence_lines, brief_lines}
use Rattle.heesch_text.specs.Naturals.{HasNaturals}
use Rattle.heesch_line.specs.Forms.{IsVerdict, IsLine}
use Rattle.heesch_written.specs.Statements.{TrueEntriesHaveLines, TrueEntriesHaveBriefLines}
use Rattle.heesch_written.proofs.Lists.{all_append, all_given}
use Rattle.heesch_written.proofs.Proven.{IsLineIf}
use Rattle.heesch_written.proofs.Covers.{small_triple, tiles_hold, few_classes}
use Rattle.heesch_written.proofs.Searches.{IsBounded, bounded, layers_hold, triples_hold, bare_holds, wall_holds, wider_holds}

-- ---- the shape

free_length : (g : Geometry) → IsGrid g → (n : ℕ) (shape : List Cell) → IsFreePolyform g n shape → length shape ≡ n
free_length g law n shape f = image_length g law f.cells shape f.polyform.is_set.rising f.canonical.is_image ∙ f.size

some_cells : (shape : List Cell) (n : ℕ) → length shape ≡ n → 1 ≤ n → shape ≢ []
some_cells shape n e l = λ (f : shape ≡ []). let k = ap length f in omega arith

-- ---- the verdict

search_fits : (g : Geometry) (limits : Limits) (shape : List Cell) (verdict : Verdict) (free : Layers) (wall : Wall) (bare : Bare) (wider : Option Layers) (triples : List TripleProof)
    → FormFits g limits shape verdict (evidences.Search free wall bare wider triples) → FitsVerdict limits wall bare wider verdict
search_fits g limits shape (verdicts.Tiles kind domain classes) free wall bare wider triples f = f.1
search_fits g limits shape (verdicts.Heesch h m) free wall bare wider triples f = f.1
search_fits g limits shape (verdicts.Levels h) free wall bare wider triples f = f.1
search_fits g limits shape (verdicts.Holes h) free wall bare wider triples f = f.1
search_fits g limits shape (verdicts.Turns h phase at) free wall bare wider triples f = f.1
search_fits g limits shape (verdicts.Size h phase at) free wall bare wider triples f = f.1

verdict_holds : (g : Geometry) (limits : Limits) → AreLimits limits → (shape : List Cell) (verdict : Verdict) (e : Evidence) → FormFits g limits shape verdict e → ClassesHold g shape verdict e → IsVerdict verdict
verdict_holds g limits are shape (verdicts.Tiles kind domain count) (evidences.Cover tiling classes) f c =
    let d = are.domain_range.1 in let e = f.0 in let k = f.2 in
    let few = few_classes classes.members c.0.numbered in
    let one = c.0.one_each in let same = c.0.count_is in let said = c.1 in
    (omega arith, omega arith)
verdict_holds g limits are shape verdict (evidences.Cover tiling classes) f c = absurd f
verdict_holds g limits are shape verdict (evidences.Search free wall bare wider triples) f c =
    (bounded limits are wall bare wider verdict (search_fits g limits shape verdict free wall bare wider triples f)).numbers

-- ---- the evidence

module _ (coronas : CoronasAreNear) (holes : HolesAreNear) (near_classes : ClassesAreNear) (g : Geometry) (law : IsGrid g) (limits : Limits) (are : AreLimits limits) (n : ℕ) (shape : List Cell) (low : 1 ≤ n) (high : n ≤ 32) (is_free : IsFreePolyform g n shape) where
  cells_few : length shape ≤ 32
  cells_few = let e = free_length g law n shape is_free in omega arith

  evidence_holds : (verdict : Verdict) (e : Evidence) → FormFits g limits shape verdict e → CoverHolds g shape e → ClassesHold g shape verdict e → FreeHolds g shape verdict e → WallHolds g limits shape verdict e → OpenHolds g shape e
      → BareHolds g limits shape verdict e → TriplesHold g limits shape verdict e → HasReducedCover g e → AllByRecursion IsLineIf (evidence_lines verdict e)
  evidence_holds (verdicts.Tiles kind domain count) (evidences.Cover tiling classes) f cover c free wall wider bare triples reduced =
      let small = small_triple g law tiling.triple (length shape) domain cover.is_triple f.1 cells_few (let d = are.domain_range.1 in let k = f.2 in omega arith) in
      (λ n. small, tiles_hold g law tiling.triple small tiling.places classes.members reduced (near_classes g law n shape tiling.triple tiling.places classes.count classes.members low high is_free small.small reduced c.0))
  evidence_holds verdict (evidences.Cover tiling classes) f cover c free wall wider bare triples reduced = absurd f
  evidence_holds verdict (evidences.Search free wall bare wider triples) f cover c layers wall_shows wider_shows bare_shows triples_show reduced =
      let b : IsBounded verdict wall wider = bounded limits are wall bare wider verdict (search_fits g limits shape verdict free wall bare wider triples f) in
      let level = length free.layers + 1 in
      let walls = wall_lines level wall in
      let bares = bare_lines level (wider_count wider) (last_number verdict) bare in
      let first = coronas g law n shape free.layers layers.1.0 low high is_free (let e = layers.0 in let k = b.first in omega arith) layers.1.1 layers.1.2.0 in (
        λ n. n,
        all_append IsLineIf (layer_lines free.layers) (after_layers level (last_number verdict) wall bare wider triples)
            (layers_hold g law free.layers first)
            (all_append IsLineIf (walls ++ bares ++ wider_lines wider) (flat_map triple_lines triples)
            (all_append IsLineIf (walls ++ bares) (wider_lines wider)
            (all_append IsLineIf walls bares
            (wall_holds g law n shape low high is_free holes limits (first_number verdict + 1) (omega arith) level wall b.next wall_shows)
            (bare_holds g limits shape (last_number verdict) level (wider_count wider) (last_number verdict) bare bare_shows.1))
            (wider_holds g law n shape low high is_free coronas wider b.few wider_shows))
            (triples_hold g law limits are shape cells_few verdict triples triples_show)),
      )

-- ---- the entry

pub brief_lines_hold : ShapesAreNear → TrueEntriesHaveBriefLines
brief_lines_hold shapes g limits e law are t =
    let s = t.shape in (
      record { some = some_cells e.cells s.0 (free_length g law s.0 e.cells s.3) s.1; each = shapes g law s.0 e.cells s.2 s.3 },
      (verdict_holds g limits are e.cells e.verdict e.evidence t.form t.classes, tt),
    )

pub lines_hold : ShapesAreNear → CoronasAreNear → HolesAreNear → ClassesAreNear → TrueEntriesHaveLines
lines_hold shapes coronas holes classes g limits e law are t reduced n =
    let s = t.shape in
    let evidence = evidence_holds coronas holes classes g law limits are s.0 e.cells s.1 s.2 s.3 e.verdict e.evidence t.form t.cover t.classes t.free t.wall t.wider t.bare t.triples reduced in
    all_append IsLine (brief_lines e) (evidence_lines e.verdict e.evidence) (brief_lines_hold shapes g limits e law are t) (all_given HasNaturals IsLine (evidence_lines e.verdict e.evidence) evidence n.1.1)
