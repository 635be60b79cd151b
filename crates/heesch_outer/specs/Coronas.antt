-- Outer coronas: holes may stand in the outermost corona alone.
-- They restate Kaplan's coronas with holes in the last one, and the outer number is his Hh.
use Rattle.std.specs.Prelude.{◌≡◌, ℕ, ◌+◌, ◌-◌, List, [], ◌∷◌, take, length}
use Rattle.heesch_grid.specs.declared.Cell.{Cell}
use Rattle.heesch_grid.specs.Geometry.{Geometry}
use Rattle.heesch_grid.specs.Corona.{StaysHoleFree, AreCoronas}

-- all layers but the last
abbrev pub inner_layers : List (List (List Cell)) → List (List (List Cell))
inner_layers layers = take (length layers - 1) layers

-- the layers are coronas of the shape, and each patch from the first layer on but the last is hole-free
abbrev pub AreOuterCoronas : Geometry → List Cell → List (List (List Cell)) → Type 0
AreOuterCoronas g shape layers = AreCoronas g shape layers × StaysHoleFree g (shape ∷ []) (inner_layers layers)

-- k outer coronas of the shape exist
abbrev pub HasOuterCoronas : Geometry → List Cell → ℕ → Type 0
HasOuterCoronas g shape k = (layers : List (List (List Cell))) × (length layers ≡ k) × AreOuterCoronas g shape layers

-- k outer coronas exist, and k + 1 don't
abbrev pub HasOuterNumber : Geometry → List Cell → ℕ → Type 0
HasOuterNumber g shape k = HasOuterCoronas g shape k × (¬ HasOuterCoronas g shape (k + 1))
