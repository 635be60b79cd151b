-- How the searches for coronas ended.
use Rattle.std.specs.Prelude.{◌≡◌, ◌≤◌, ◌+◌, ℕ, true, false, Option, Some, None, List, length}
use Rattle.heesch_grid.specs.declared.Cell.{Cell}
use Rattle.heesch_grid.specs.Geometry.{Geometry}
use Rattle.heesch_cert.specs.declared.limits.Limits.{Limits}
use Rattle.heesch_cert.specs.declared.entry.Layers.{Layers}
use Rattle.heesch_cert.specs.declared.entry.Wall.{Wall}
use Rattle.heesch_cert.specs.declared.entry.Wall.TheVariants.{Absent as NoWall, Refuted as WallRefuted, Spent as WallSpent, Size as WallSize}
use Rattle.heesch_cert.specs.declared.entry.Bare.{Bare}
use Rattle.heesch_cert.specs.declared.entry.Bare.TheVariants.{Absent as NoBare, Same as BareSame, Refuted as BareRefuted, Spent as BareSpent, Size as BareSize, Open as BareOpen}
use Rattle.heesch_cert.specs.Proofs.{HasNoCut}
use Rattle.heesch_cert.specs.TrueEntry.{IsWallRefuted, IsBelow, WallShows, BareShows, SameWhereNoCut, OpenShows}
use Rattle.heesch_levels.specs.Answer.{SpellsCoronas}
use Rattle.heesch_verdict.specs.declared.walled.Walled.{Walled}
use Rattle.heesch_verdict.specs.declared.bare.Opened.{Opened}

-- as many coronas as the limit where no more were sought, else fewer
abbrev pub EndsAt : Limits → ℕ → Wall → Type 0
EndsAt limits h NoWall = h ≡ limits.levels
EndsAt limits h (WallRefuted proof) = h + 1 ≤ limits.levels
EndsAt limits h (WallSpent proof) = h + 1 ≤ limits.levels
EndsAt limits h WallSize = h + 1 ≤ limits.levels

-- behind a refutation with cuts, j coronas with holes allowed; elsewhere nothing, and a refutation is without cuts
abbrev pub HoledBehind : Geometry → List Cell → ℕ → Wall → Option Layers → Type 0
HoledBehind g shape j (WallRefuted proof) (Some layers) = (¬ HasNoCut proof) × SpellsCoronas g shape j false layers
HoledBehind g shape j (WallRefuted proof) None = HasNoCut proof
HoledBehind g shape j _ holed = holed ≡ None

-- h hole-free coronas, how the search for one more ended, and what that tells of coronas with holes
pub record IsWalled (g : Geometry) (limits : Limits) (shape : List Cell) (walled : Walled) : Type 0 where
  pub coronas : SpellsCoronas g shape walled.h true walled.free
  pub shows : WallShows g limits shape (walled.h + 1) walled.wall
  pub ends : EndsAt limits walled.h walled.wall
  pub holed : HoledBehind g shape (walled.h + 1) walled.wall walled.holed

-- m is above h and at most the limit, and below it coronas were found
abbrev pub IsLevelEnd : Limits → ℕ → ℕ → Option Layers → Type 0
IsLevelEnd limits h m wider = (h + 1 ≤ m) × (m ≤ limits.levels) × IsBelow h m wider

-- how the search with holes allowed ended at level m, after a refutation with cuts at h + 1
abbrev pub EndsOpen : Limits → ℕ → ℕ → Option Layers → Bare → Type 0
EndsOpen limits h m wider NoBare = ⊥
EndsOpen limits h m wider BareSame = ⊥
EndsOpen limits h m wider (BareRefuted proof) = IsLevelEnd limits h m wider
EndsOpen limits h m wider (BareSpent proof) = IsLevelEnd limits h m wider
EndsOpen limits h m wider BareSize = IsLevelEnd limits h m wider
EndsOpen limits h m wider BareOpen = (h + 1 ≤ limits.levels) × ((layers : Layers) × (wider ≡ Some layers) × (length layers.layers ≡ limits.levels))

-- so, with what shows it: the proof at m, and the coronas below
pub record IsOpenEnd (g : Geometry) (limits : Limits) (shape : List Cell) (h : ℕ) (opened : Opened) : Type 0 where
  pub ends : EndsOpen limits h opened.m opened.wider opened.bare
  pub shows : BareShows g limits shape opened.m opened.bare
  pub wider : OpenShows g shape opened.wider

-- the same behind any wall: no search where it isn't refuted, and none of its own where the refutation has no cut
abbrev pub OpenFits : Limits → ℕ → ℕ → Wall → Option Layers → Bare → Type 0
OpenFits limits h m wall wider NoBare = (¬ IsWallRefuted wall) × (m ≡ h + 1) × (wider ≡ None)
OpenFits limits h m wall wider BareSame = IsWallRefuted wall × (m ≡ h + 1) × (m ≤ limits.levels) × (wider ≡ None)
OpenFits limits h m wall wider bare = IsWallRefuted wall × EndsOpen limits h m wider bare

-- so, with what shows it; a refutation without cuts is the only one that serves twice
pub record IsOpened (g : Geometry) (limits : Limits) (shape : List Cell) (h : ℕ) (wall : Wall) (opened : Opened) : Type 0 where
  pub fits : OpenFits limits h opened.m wall opened.wider opened.bare
  pub same : SameWhereNoCut wall opened.bare
  pub shows : BareShows g limits shape opened.m opened.bare
  pub wider : OpenShows g shape opened.wider
