-- The tiling of an assignment.
use Rattle.std.specs.Prelude.{ℕ, ◌-◌, Bool, false, List, map, filter, slice_index_or}
use Rattle.std.specs.List.{enumerate_from}
use Rattle.heesch_grid.specs.declared.isometries.Iso.{Iso}
use Rattle.heesch_grid.specs.Lattice.{Triple}
use Rattle.heesch_cert.specs.declared.tiling.Tiling.{Tiling}
use Rattle.heesch_torus.specs.Variables.{TorusVariable}

-- the variables that are true, with their numbers
abbrev pub chosen : List Bool → List TorusVariable → List (ℕ × TorusVariable)
chosen values vars = filter (λ (x : ℕ × TorusVariable). slice_index_or values (x.0 - 1) false) (enumerate_from 1 vars)

-- their isometries, in number order
abbrev pub chosen_places : List Bool → List TorusVariable → List Iso
chosen_places values vars = map (λ (x : ℕ × TorusVariable). x.1.by) (chosen values vars)

-- the tiling by these isometries
abbrev pub chosen_tiling : Triple → List Bool → List TorusVariable → Tiling
chosen_tiling t values vars = record { triple = t; places = chosen_places values vars }
