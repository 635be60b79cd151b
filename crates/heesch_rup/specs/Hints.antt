-- The hints of a line.
use Rattle.std.specs.Prelude.{ℕ, ◌≤◌, Option, Some, None, List}
use Rattle.heesch_cnf.specs.declared.log.Line.{Line}
use Rattle.heesch_cnf.specs.declared.log.Line.TheVariants.{Learn, Given}

-- the hints of a line, and none where its clause is given
abbrev pub hints_of : Line → Option (List ℕ)
hints_of (Learn clause hints) = Some hints
hints_of (Given clause) = None

-- the number of one of so many clauses, from 1
abbrev pub IsNumberUpTo : ℕ → ℕ → Type 0
IsNumberUpTo count n = (1 ≤ n) × (n ≤ count)
