-- Layers that spell coronas.
use Rattle.std.specs.Prelude.{ℕ, ◌<◌, List, [], ◌∷◌, take, ⊤}
use Rattle.heesch_grid.specs.declared.Cell.{Cell}
use Rattle.heesch_grid.specs.declared.isometries.Iso.{Iso}
use Rattle.heesch_grid.specs.Geometry.{Geometry}
use Rattle.heesch_grid.specs.Corona.{AreCoronas, StaysHoleFree}
use Rattle.heesch_cert.specs.TrueEntry.{Spells}
use Rattle.heesch_corona.specs.declared.check.CoronaAnswer.{CoronaAnswer}
use Rattle.heesch_corona.specs.declared.check.CoronaAnswer.TheVariants.{Hole, Holds}

-- the layers of tiles are coronas of the shape, whose patches of the levels 1 to k are hole-free
abbrev pub AreCoronasUpTo : Geometry → List Cell → ℕ → List (List (List Cell)) → Type 0
AreCoronasUpTo g shape k tiles = AreCoronas g shape tiles × StaysHoleFree g (shape ∷ []) (take k tiles)

-- the layers spell coronas whose patches of the levels 1 to k are hole-free
abbrev pub SpellCoronas : Geometry → List Cell → ℕ → List (List Iso) → Type 0
SpellCoronas g shape k layers = (tiles : List (List (List Cell))) × Spells g shape layers tiles × AreCoronasUpTo g shape k tiles

-- nothing is amiss with layers, but that a patch of a level above k may have a hole
abbrev pub HoldsUpTo : ℕ → CoronaAnswer → Type 0
HoldsUpTo k Holds = ⊤
HoldsUpTo k (Hole level cells) = k < level
HoldsUpTo k answer = ⊥
