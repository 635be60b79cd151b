-- The answer about layers of tiles: the first that applies.
use Rattle.std.specs.Prelude.{◌≡◌, ℕ, ◌<◌, ◌≤◌, Bool, true, false, List, length}
use Rattle.heesch_grid.specs.declared.Cell.{Cell}
use Rattle.heesch_grid.specs.Listing.{IsFirst}
use Rattle.heesch_grid.specs.Geometry.{Geometry}
use Rattle.heesch_grid.specs.Corona.{cells_of, AreCoronas, AreHoleFreeCoronas}
use Rattle.heesch_grid.specs.Hole.{IsHoleFree, IsGreatestHole}
use Rattle.heesch_corona.specs.declared.check.CoronaAnswer.{CoronaAnswer}
use Rattle.heesch_corona.specs.declared.check.CoronaAnswer.TheVariants.{Meets, Loose, Uncovered, Hole, Holds}
use Rattle.heesch_corona.specs.Tiles.{patch_at}
use Rattle.heesch_corona.specs.Rules.{DoMeet, PairBefore, IsLoose, IsUncovered, GapBefore, NoneMeet, NoneLoose, NoneHoled, AreRuled}

-- the first level whose patch has a hole, and its greatest hole
pub record IsFirstHoled (g : Geometry) (shape : List Cell) (tiles : List (List (List Cell))) (level : ℕ) (hole : List Cell) : Type 0 where
  pub from : 1 ≤ level
  pub to : level ≤ length tiles
  pub some : 0 < length hole
  pub greatest : IsGreatestHole g (cells_of (patch_at shape tiles level)) hole
  pub below : (k : ℕ) → 1 ≤ k → k < level → IsHoleFree g (cells_of (patch_at shape tiles k))

-- the least pair that meets; else the least loose tile; else the least uncovered cell; else, where it is asked, the first hole; else none of these
abbrev pub IsAnswer : Geometry → List Cell → List (List (List Cell)) → Bool → CoronaAnswer → Type 0
IsAnswer g shape tiles hole_free (Meets i j) = IsFirst PairBefore (DoMeet shape tiles) (i, j)
IsAnswer g shape tiles hole_free (Loose i) = NoneMeet shape tiles × IsFirst (λ m n. m < n) (IsLoose g shape tiles) i
IsAnswer g shape tiles hole_free (Uncovered level cell) = NoneMeet shape tiles × NoneLoose g shape tiles × IsFirst GapBefore (IsUncovered g shape tiles) (level, cell)
IsAnswer g shape tiles hole_free (Hole level cells) = AreRuled g shape tiles × (hole_free ≡ true) × IsFirstHoled g shape tiles level cells
IsAnswer g shape tiles hole_free Holds = AreRuled g shape tiles × (hole_free ≡ true → NoneHoled g shape tiles)

-- the layers are coronas, hole-free ones where that is asked
abbrev pub AreAsked : Geometry → List Cell → Bool → List (List (List Cell)) → Type 0
AreAsked g shape true tiles = AreHoleFreeCoronas g shape tiles
AreAsked g shape false tiles = AreCoronas g shape tiles
