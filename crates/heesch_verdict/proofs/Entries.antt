-- Entries that are put together from what was found are true.
use Rattle.std.proofs.Common.{◌≡◌, refl, sym, subst, ℕ, List, length, Result}
use Rattle.std.specs.Prelude.{IfOk, Ok, Err}
use Rattle.heesch_io.specs.declared.fault.NoMemory.{NoMemory}
use Rattle.heesch_grid.specs.declared.Cell.{Cell}
use Rattle.heesch_grid.specs.Geometry.{Geometry}
use Rattle.heesch_grid.specs.Lattice.{Triple}
use Rattle.heesch_grid.specs.Listing.{ListsExactly}
use Rattle.heesch_grid.specs.Symmetry.{AreClasses}
use Rattle.heesch_cert.specs.declared.limits.Limits.{Limits}
use Rattle.heesch_cert.specs.declared.tiling.Tiling.{Tiling}
use Rattle.heesch_cert.specs.declared.tiling.Classes.{Classes}
use Rattle.heesch_cert.specs.declared.verdict.Kind.{Kind}
use Rattle.heesch_cert.specs.declared.verdict.Kind.TheVariants.{Periodic}
use Rattle.heesch_cert.specs.declared.verdict.Verdict.{Verdict}
use Rattle.heesch_cert.specs.declared.verdict.Verdict.TheVariants.{Tiles}
use Rattle.heesch_cert.specs.declared.entry.TripleProof.{TripleProof}
use Rattle.heesch_cert.specs.declared.entry.Evidence.TheVariants.{Cover}
use Rattle.heesch_cert.specs.TrueEntry.{area_before, HasNoPlain, IsSearchedTriple, IsTrueEntry, IsUndecided, TriplesShow}
use Rattle.heesch_verdict.specs.declared.settled.Settled.{Settled}
use Rattle.heesch_verdict.specs.declared.settled.Settled.TheVariants.{Cover as FirstCover, Triples}
use Rattle.heesch_torus.specs.Domains.{AreUpTo}
use Rattle.heesch_verdict.specs.Domains.{AreDomains, AreSettled, IsSettledFor}
use Rattle.heesch_verdict.specs.declared.judged.Judged.{Judged}
use Rattle.heesch_verdict.specs.Earliest.{HasEarliestCover, WritesEarliest}
use Rattle.heesch_verdict.specs.Judged.{IsJudged}
use Rattle.heesch_verdict.specs.Shapes.{IsCanonicalShape}
use Rattle.heesch_verdict.specs.Tilings.{IsFirstCover, IsTiled}

module _ (g : Geometry) (limits : Limits) (shape : List Cell) (s : IsCanonicalShape g shape) where
  -- a periodic tiling, where no plain one is admitted
  pub periodic : (tiling : Tiling) → HasNoPlain g limits shape → IsFirstCover g limits shape tiling → IsTiled g limits shape (record { kind = Periodic; tiling = tiling })
  periodic tiling none c = record { is_cover = c.is_cover; few = c.few; of_kind = (none, c.many); earliest = c.earliest }

  tiled_true : (kind : Kind) (tiling : Tiling) (domain : ℕ) (classes : Classes) → domain ≡ length tiling.places → IsTiled g limits shape (record { kind = kind; tiling = tiling }) → AreClasses g shape tiling.triple tiling.places classes.count classes.members → IsTrueEntry g limits (record { cells = shape; verdict = Tiles kind domain classes.count; evidence = Cover tiling classes })
  tiled_true kind tiling domain classes e t c =
      subst (λ (n : ℕ). IsTrueEntry g limits (record { cells = shape; verdict = Tiles kind n classes.count; evidence = Cover tiling classes })) (sym e)
      (record {
        shape = (length shape, s.is_shape.polyform.some, s.is_shape.few, record { cells = shape; polyform = s.is_shape.polyform; size = refl; canonical = s.canonical });
        form = (refl, t.is_cover.of_domain.area, t.few, t.of_kind);
        cover = t.is_cover.cover;
        classes = (c, refl);
        free = tt;
        wall = tt;
        wider = tt;
        bare = tt;
        triples = tt;
      })

  -- the verdict of a tiling, with its classes
  pub tiled_judged : (kind : Kind) (tiling : Tiling) (domain : ℕ) (classes : Classes) → domain ≡ length tiling.places → IsTiled g limits shape (record { kind = kind; tiling = tiling }) → AreClasses g shape tiling.triple tiling.places classes.count classes.members → IsJudged g limits shape (record { verdict = Tiles kind domain classes.count; evidence = Cover tiling classes })
  tiled_judged kind tiling domain classes e t c = record { entry = tiled_true kind tiling domain classes e t c; reduced = t.is_cover.reduced; earliest = t.earliest }

-- ---- searches
module _ (g : Geometry) (limits : Limits) (shape : List Cell) where
  -- the triples of the domains, settled in order
  all_settled : (verdict : Verdict) (triples : List Triple) → AreUpTo g (length shape) limits.domain triples → (settled : List TripleProof) → AreSettled g shape limits.turns triples settled → IsUndecided verdict → TriplesShow g limits shape verdict settled
  all_settled verdict triples a settled s undecided = record {
    all_searched = λ u. subst (ListsExactly area_before (IsSearchedTriple g limits (length shape))) (sym s.same) a;
    settled = s.settles;
    none_else = λ decided. absurd (decided undecided);
  }

  -- the searches of all triples end as an undecided verdict asks
  settled_for : (verdict : Verdict) (triples : List Triple) → AreUpTo g (length shape) limits.domain triples → IsUndecided verdict → (settled : Settled) → AreDomains g limits shape triples settled → IsSettledFor g limits shape verdict settled
  settled_for verdict triples a undecided (FirstCover tiling) s = s
  settled_for verdict triples a undecided (Triples settled) s = all_settled verdict triples a settled s undecided

  pub settled_result : (verdict : Verdict) (triples : List Triple) → AreUpTo g (length shape) limits.domain triples → IsUndecided verdict → (r : Result Settled NoMemory) → IfOk r (AreDomains g limits shape triples) → IfOk r (IsSettledFor g limits shape verdict)
  settled_result verdict triples a undecided (Ok settled) s = settled_for verdict triples a undecided settled s
  settled_result verdict triples a undecided (Err e) s = tt

-- what is judged, with the shape's cells, is a true entry, and has the earliest cover
module _ (g : Geometry) (limits : Limits) (shape cells : List Cell) (is : cells ≡ shape) (judged : Judged) (j : IsJudged g limits shape judged) where
  pub true_entry : IsTrueEntry g limits (record { cells = cells; verdict = judged.verdict; evidence = judged.evidence })
  true_entry = subst (λ (xs : List Cell). IsTrueEntry g limits (record { cells = xs; verdict = judged.verdict; evidence = judged.evidence })) (sym is) j.entry

  pub earliest_cover : HasEarliestCover g limits (record { cells = cells; verdict = judged.verdict; evidence = judged.evidence })
  earliest_cover = subst (λ (xs : List Cell). WritesEarliest g limits xs judged.verdict judged.evidence) (sym is) j.earliest
