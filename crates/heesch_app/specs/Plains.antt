-- The text of a list of shapes with their plain tilings.
use Rattle.std.specs.Prelude.{ℕ, List, [], ◌∷◌, ◌++◌, Option, Some, None, codes}
use Rattle.std.specs.Fmt.{signed_decimal}
use Rattle.heesch_grid.specs.declared.Cell.{Cell}
use Rattle.heesch_tiling.specs.declared.found.Plain.{Plain}
use Rattle.heesch_tiling.specs.declared.found.Plain.TheVariants.{Translation, HalfTurn}
use Rattle.heesch_text.specs.Fields.{cells_text, triple_text}

-- `translation P Q S`, `halfturn P Q S DA DB`, or `none`
abbrev pub plain_text : Option Plain → List ℕ
plain_text (Some (Translation t)) = codes "translation " ++ triple_text t
plain_text (Some (HalfTurn t da db)) = codes "halfturn " ++ triple_text t ++ codes " " ++ signed_decimal da ++ codes " " ++ signed_decimal db
plain_text None = codes "none"

-- a line: the cells, a space, the tiling, and a newline
abbrev pub plain_line : List Cell → Option Plain → List ℕ
plain_line cells tiling = cells_text cells ++ codes " " ++ plain_text tiling ++ codes "\n"

-- a line for each shape with its tiling
abbrev pub plain_list_text : List (List Cell) → List (Option Plain) → List ℕ
plain_list_text [] tilings = []
plain_list_text (cells ∷ shapes) [] = []
plain_list_text (cells ∷ shapes) (tiling ∷ tilings) = plain_line cells tiling ++ plain_list_text shapes tilings
