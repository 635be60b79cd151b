-- The ends of the searches for coronas.
use Rattle.std.proofs.Common.{◌≡◌, ◌+◌, ◌-◌, ◌≤◌, refl, sym, subst, ◌∙◌, ℕ, List, [], length, true, false, Result, arith}
use Rattle.std.specs.Prelude.{Option, Some, None, IfOk}
use Rattle.std.proofs.lemmas.List.Elements.{All-nil}
use Rattle.std.proofs.lemmas.Result.{IfOk-weaker}
use Rattle.heesch_io.specs.declared.fault.NoMemory.{NoMemory}
use Rattle.heesch_grid.specs.declared.Cell.{Cell}
use Rattle.heesch_grid.specs.declared.isometries.Iso.{Iso}
use Rattle.heesch_grid.specs.Cells.{cells_before}
use Rattle.heesch_grid.specs.Geometry.{Geometry}
use Rattle.heesch_grid.specs.Listing.{IsRising}
use Rattle.heesch_cert.specs.declared.limits.Limits.{Limits}
use Rattle.heesch_cert.specs.declared.entry.Layers.{Layers}
use Rattle.heesch_cert.specs.declared.entry.Bare.{Bare}
use Rattle.heesch_cert.specs.declared.entry.Bare.TheVariants.{Absent as NoBare, Same as BareSame, Refuted as BareRefuted, Spent as BareSpent, Size as BareSize, Open as BareOpen}
use Rattle.heesch_cert.specs.declared.entry.Wall.{Wall}
use Rattle.heesch_cert.specs.declared.entry.Wall.TheVariants.{Absent as NoWall, Refuted as WallRefuted, Spent as WallSpent, Size as WallSize}
use Rattle.heesch_cert.specs.declared.entry.Evidence.TheVariants.{Search}
use Rattle.heesch_cert.specs.declared.entry.TripleProof.{TripleProof}
use Rattle.heesch_cert.specs.declared.proof.Proof.{Proof}
use Rattle.heesch_cert.specs.declared.verdict.Verdict.{Verdict}
use Rattle.heesch_cert.specs.declared.verdict.Verdict.TheVariants.{Tiles, Heesch, Levels, Holes, Turns, Size}
use Rattle.heesch_cert.specs.Proofs.{IsTooLarge}
use Rattle.heesch_cert.specs.TrueEntry.{BareShows, IsWallRefuted, FitsVerdict, FormFits, HasNoPlain, OpenShows, TriplesShow, WallShows, first_number, last_number}
use Rattle.heesch_levels.specs.Answer.{SpellsCoronas, RefutesLevel, IsSpentLevel}
use Rattle.heesch_verdict.specs.declared.bare.Opened.{Opened}
use Rattle.heesch_verdict.specs.declared.walled.Walled.{Walled}
use Rattle.heesch_verdict.specs.Ends.{EndsOpen, HoledBehind, IsLevelEnd, IsOpenEnd, IsOpened, OpenFits, IsWalled}
use Rattle.heesch_verdict.specs.Earliest.{WritesEarliest}
use Rattle.heesch_verdict.specs.Judged.{IsJudged}
use Rattle.heesch_verdict.specs.Shapes.{IsCanonicalShape}

-- no layers are no coronas
pub no_layers : (g : Geometry) (shape : List Cell) (layers : List (List Iso)) → layers ≡ [] → SpellsCoronas g shape 0 true (record { layers = layers })
no_layers g shape layers is =
    subst (λ (ls : List (List Iso)). SpellsCoronas g shape 0 true (record { layers = ls })) (sym is)
    (record {
      count = refl;
      tiles = [];
      spelled = record { isometries = tt; rising = All-nil (IsRising cells_before) };
      coronas = tt;
      free = λ _. (tt, tt);
    })

module _ (g : Geometry) (limits : Limits) (shape : List Cell) (h m : ℕ) (wider : Option Layers) (ends : IsLevelEnd limits h m wider) (shows : OpenShows g shape wider) where
  pub ends_refuted : (proof : Proof) → RefutesLevel limits.version g shape m false limits.size proof → IsOpenEnd g limits shape h (record { m = m; bare = BareRefuted proof; wider = wider })
  ends_refuted proof r = record { ends = ends; shows = (r.refutes, r.no_cut refl); wider = shows }

  pub ends_spent : (proof : Proof) → IsSpentLevel limits.version g shape m false limits.turns limits.size proof → IsOpenEnd g limits shape h (record { m = m; bare = BareSpent proof; wider = wider })
  ends_spent proof r = record { ends = ends; shows = (r.is_spent, r.no_cut refl); wider = shows }

  pub ends_large : IsTooLarge limits.version g shape m limits.size → IsOpenEnd g limits shape h (record { m = m; bare = BareSize; wider = wider })
  ends_large r = record { ends = ends; shows = r; wider = shows }

-- coronas with holes allowed, as what the search for more of them has found
pub open_shows : (g : Geometry) (shape : List Cell) (n : ℕ) (layers : Layers) → SpellsCoronas g shape n false layers → OpenShows g shape (Some layers)
open_shows g shape n layers s = (s.tiles, s.spelled, s.coronas)

-- the level above them is the end of it
pub level_end : (g : Geometry) (limits : Limits) (shape : List Cell) (h m : ℕ) (layers : Layers) → h + 2 ≤ m → m ≤ limits.levels → SpellsCoronas g shape (m - 1) false layers → IsLevelEnd limits h m (Some layers)
level_end g limits shape h m layers above below s = (omega (arith, above), below, ((λ e. absurd (omega (arith, above, e))), s.count))

-- or the limit is
pub ends_open : (g : Geometry) (limits : Limits) (shape : List Cell) (h : ℕ) (layers : Layers) → h + 1 ≤ limits.levels → SpellsCoronas g shape limits.levels false layers → IsOpenEnd g limits shape h (record { m = limits.levels; bare = BareOpen; wider = Some layers })
ends_open g limits shape h layers below s = record {
  ends = (below, (layers, refl, s.count));
  shows = tt;
  wider = open_shows g shape limits.levels layers s;
}

-- the search with holes allowed, behind a refutation with cuts
module _ (limits : Limits) (h m : ℕ) (wider : Option Layers) where
  fits_open : (wall : Wall) → IsWallRefuted wall → (bare : Bare) → EndsOpen limits h m wider bare → OpenFits limits h m wall wider bare
  fits_open wall r NoBare e = absurd e
  fits_open wall r BareSame e = absurd e
  fits_open wall r (BareRefuted proof) e = (r, e)
  fits_open wall r (BareSpent proof) e = (r, e)
  fits_open wall r BareSize e = (r, e)
  fits_open wall r BareOpen e = (r, e)

opened_behind : (g : Geometry) (limits : Limits) (shape : List Cell) (h j : ℕ) (wall : Wall) (layers : Layers) → HoledBehind g shape j wall (Some layers) → (opened : Opened) → IsOpenEnd g limits shape h opened → IsOpened g limits shape h wall opened
opened_behind g limits shape h j NoWall layers behind opened e = absurd (let bad : Some layers ≡ None = behind in cc)
opened_behind g limits shape h j (WallSpent proof) layers behind opened e = absurd (let bad : Some layers ≡ None = behind in cc)
opened_behind g limits shape h j WallSize layers behind opened e = absurd (let bad : Some layers ≡ None = behind in cc)
opened_behind g limits shape h j (WallRefuted proof) layers behind opened e = record {
  fits = fits_open limits h opened.m opened.wider (WallRefuted proof) tt opened.bare e.ends;
  same = ((λ is. absurd (subst (EndsOpen limits h opened.m opened.wider) is e.ends)), (λ none. absurd (behind.0 none)));
  shows = e.shows;
  wider = e.wider;
}

-- so what the search with holes allowed answers is opened
pub opened_result : (g : Geometry) (limits : Limits) (shape : List Cell) (h : ℕ) (wall : Wall) (holed : Option Layers) (layers : Layers) → HoledBehind g shape (h + 1) wall holed → holed ≡ Some layers → (r : Result Opened NoMemory) → IfOk r (IsOpenEnd g limits shape h) → IfOk r (IsOpened g limits shape h wall)
opened_result g limits shape h wall holed layers behind is r =
    IfOk-weaker r (IsOpenEnd g limits shape h) (IsOpened g limits shape h wall) (opened_behind g limits shape h (h + 1) wall layers (subst (HoledBehind g shape (h + 1) wall) is behind))

-- the form of searches, whatever the verdict, and that they write no cover
module _ (g : Geometry) (limits : Limits) (shape : List Cell) where
  form_of : (verdict : Verdict) (free : Layers) (wall : Wall) (bare : Bare) (wider : Option Layers) (triples : List TripleProof) → HasNoPlain g limits shape × FitsVerdict limits wall bare wider verdict → FormFits g limits shape verdict (Search free wall bare wider triples) × WritesEarliest g limits shape verdict (Search free wall bare wider triples)
  form_of (Tiles kind domain classes) free wall bare wider triples f = (f, tt)
  form_of (Heesch h m) free wall bare wider triples f = (f, tt)
  form_of (Levels h) free wall bare wider triples f = (f, tt)
  form_of (Holes h) free wall bare wider triples f = (f, tt)
  form_of (Turns h phase at) free wall bare wider triples f = (f, tt)
  form_of (Size h phase at) free wall bare wider triples f = (f, tt)

-- the verdict of the ends that were found, with the triples settled as it asks
pub coronas_judged : (g : Geometry) (limits : Limits) (shape : List Cell) → IsCanonicalShape g shape → HasNoPlain g limits shape → (walled : Walled) → IsWalled g limits shape walled → (opened : Opened) → IsOpened g limits shape walled.h walled.wall opened
    → (verdict : Verdict) → FitsVerdict limits walled.wall opened.bare opened.wider verdict → first_number verdict ≡ walled.h → BareShows g limits shape (last_number verdict) opened.bare → (triples : List TripleProof) → TriplesShow g limits shape verdict triples
    → IsJudged g limits shape (record { verdict = verdict; evidence = Search walled.free walled.wall opened.bare opened.wider triples })
coronas_judged g limits shape s none walled w opened o verdict fits first last triples settled = record {
  entry = record {
    shape = (length shape, s.is_shape.polyform.some, s.is_shape.few, record { cells = shape; polyform = s.is_shape.polyform; size = refl; canonical = s.canonical });
    form = form.0;
    cover = tt;
    classes = tt;
    free = (w.coronas.count ∙ sym first, (w.coronas.tiles, w.coronas.spelled, w.coronas.free refl));
    wall = subst (λ (n : ℕ). WallShows g limits shape (n + 1) walled.wall) (sym first) w.shows;
    wider = o.wider;
    bare = (o.same, last);
    triples = settled;
  };
  reduced = tt;
  earliest = form.1;
}
  where
    form : FormFits g limits shape verdict (Search walled.free walled.wall opened.bare opened.wider triples) × WritesEarliest g limits shape verdict (Search walled.free walled.wall opened.bare opened.wider triples)
    form = form_of g limits shape verdict walled.free walled.wall opened.bare opened.wider triples (none, fits)
