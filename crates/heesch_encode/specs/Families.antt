-- The clauses of the families, for one variable.
use Rattle.std.specs.Prelude.{ℕ, ◌+◌, ◌==◌, ◌&&◌, ◌||◌, not, nat_le, nat_lt, cond, List, [], ◌∷◌, map, filter}
use Rattle.std.specs.List.{enumerate_from}
use Rattle.heesch_cnf.specs.declared.literal.Lit.{Lit}
use Rattle.heesch_grid.specs.declared.Cell.{Cell}
use Rattle.heesch_grid.specs.Cells.{has, meet}
use Rattle.heesch_grid.specs.Geometry.{Geometry}
use Rattle.heesch_grid.specs.Placement.{touch}
use Rattle.heesch_grid.specs.Clauses.{clause_of, no_variable, is_numbered}
use Rattle.heesch_grid.specs.CoronaFormula.{Variable, covers}
use Rattle.heesch_cert.specs.Literals.{literals}
use Rattle.heesch_encode.specs.declared.families.Family.{Family}
use Rattle.heesch_encode.specs.declared.families.Family.TheVariants.{Covering, Support, Apart}

-- family 2, where the variable is of a level below j
abbrev pub covering_at : (List Cell → List Cell) → List Cell → ℕ → List Variable → ℕ × Variable → List (List Lit)
covering_at around shape j vars x =
    cond (nat_lt x.1.level j) (map (λ c. clause_of literals (is_numbered x.0) (covers (x.1.level + 1) c) vars) (filter (λ c. not (has shape c)) (around x.1.tile))) []

-- family 3, where it is of level 2 or more
abbrev pub support_at : Geometry → List Variable → ℕ × Variable → List (List Lit)
support_at g vars x =
    cond (nat_le 2 x.1.level) (clause_of literals (is_numbered x.0) (λ y. (y.1.level + 1 == x.1.level) && touch g y.1.tile x.1.tile) vars ∷ []) []

-- family 4, with the later variables
abbrev pub apart_at : List Variable → ℕ × Variable → List (List Lit)
apart_at vars u = map (λ v. clause_of literals (λ x. is_numbered u.0 x || is_numbered v.0 x) no_variable vars) (filter (λ v. nat_lt u.0 v.0 && meet u.1.tile v.1.tile) (enumerate_from 1 vars))

-- the clauses of a family
abbrev pub clauses_at : Family → Geometry → (List Cell → List Cell) → List Cell → ℕ → List Variable → ℕ × Variable → List (List Lit)
clauses_at Covering g around shape j vars x = covering_at around shape j vars x
clauses_at Support g around shape j vars x = support_at g vars x
clauses_at Apart g around shape j vars x = apart_at vars x
