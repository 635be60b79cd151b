-- The shape of a line, by its first 33 cells.
use Rattle.std.proofs.Common.{◌≡◌, ◌∙◌, ℕ, List, sym, subst}
use Rattle.std.specs.List.{AllByRecursion}
use Rattle.std.proofs.ByRecursion as recursive
use Rattle.heesch_grid.specs.declared.Cell.{Cell}
use Rattle.heesch_grid.specs.Geometry.{Geometry, IsGrid}
use Rattle.heesch_grid.specs.Polyform.{IsCanonicalListOf}
use Rattle.heesch_grid.proofs.GrowthOfLists.{canonical_of_image}
use Rattle.heesch_grid.specs.Vectors.{IsWithin}
use Rattle.heesch_line.specs.Scanning.{IsLineOf}
use Rattle.heesch_given.specs.Given.{IsShapeLine}

-- the first cells of a line lie near 0
pub near : (line : List ℕ) (first cells : List Cell) → IsLineOf line first → cells ≡ first → AllByRecursion (IsWithin 100000) cells
near line first cells l same = subst (AllByRecursion (IsWithin 100000)) (sym (same ∙ l.first_are)) (recursive.All-take (IsWithin 100000) 33 l.all l.are)

-- the canonical list of a line is its own
pub self_canonical : (g : Geometry) → IsGrid g → (line : List ℕ) (shape : List Cell) → IsShapeLine g line shape → IsCanonicalListOf g shape shape
self_canonical g law line shape x =
    let p = x.is_canonical in canonical_of_image g law p.shape shape shape p.polyform.is_set.rising p.is_canonical.is_image p.is_canonical
