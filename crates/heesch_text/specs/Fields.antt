-- The text of each field of a line: integers are decimal, and words are separated by single spaces.
use Rattle.std.specs.Prelude.{ℕ, List, [], ◌∷◌, ◌++◌, codes, decimal, if◌then◌else◌}
use Rattle.std.specs.Fmt.{signed_decimal}
use Rattle.std.specs.List.{flat_map}
use Rattle.heesch_grid.specs.declared.Cell.{Cell}
use Rattle.heesch_grid.specs.declared.isometries.Iso.{Iso}
use Rattle.heesch_grid.specs.Lattice.{Triple}
use Rattle.heesch_cnf.specs.declared.literal.Lit.{Lit}

-- each item behind a space
abbrev pub spaced : {X : Type 0} → (X → List ℕ) → List X → List ℕ
spaced text items = flat_map (λ x. codes " " ++ text x) items

-- `A,B`, two integers
abbrev pub cell_text : Cell → List ℕ
cell_text c = signed_decimal c.a ++ codes "," ++ signed_decimal c.b

-- the cells, with single spaces between them
abbrev pub cells_text : List Cell → List ℕ
cells_text [] = []
cells_text (c ∷ cells) = cell_text c ++ spaced cell_text cells

-- `P Q S`, three natural numbers
abbrev pub triple_text : Triple → List ℕ
triple_text t = decimal t.p ++ codes " " ++ decimal t.q ++ codes " " ++ decimal t.s

-- `TURN DA DB`, a natural number and two integers
abbrev pub iso_text : Iso → List ℕ
iso_text i = decimal i.turn ++ codes " " ++ signed_decimal i.da ++ codes " " ++ signed_decimal i.db

-- `TURN,DA,DB`, the same with commas
abbrev pub place_text : Iso → List ℕ
place_text i = decimal i.turn ++ codes "," ++ signed_decimal i.da ++ codes "," ++ signed_decimal i.db

-- the number of the variable, with `-` before it where the literal is negative
abbrev pub lit_text : Lit → List ℕ
lit_text l = (if l.positive then [] else codes "-") ++ decimal l.var
