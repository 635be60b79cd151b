-- What a collector has after it took clauses.
use Rattle.std.specs.Prelude.{◌≡◌, ◌+◌, ◌<◌, ⊤, List, ◌++◌, Result, Ok, Err}
use Rattle.heesch_cnf.specs.declared.literal.Lit.{Lit}
use Rattle.heesch_grid.specs.Clauses.{formula_size}
use Rattle.heesch_encode.specs.declared.stop.EncodeStop.{EncodeStop}
use Rattle.heesch_encode.specs.declared.stop.EncodeStop.TheVariants.{TooLarge, NoMemory}
use Rattle.heesch_encode.specs.declared.collector.Collector.{Collector}

-- it has less room by their literals, and has them last
pub record Takes (old new : Collector) (clauses : List (List Lit)) : Type 0 where
  pub room : new.room + formula_size clauses ≡ old.room
  pub vars : new.formula.vars ≡ old.formula.vars
  pub kept : new.formula.clauses ≡ old.formula.clauses ++ clauses

-- all were taken, or there is too little room for them, or memory was refused
abbrev pub IsTaken : Result (Unit {0}) EncodeStop → Collector → Collector → List (List Lit) → Type 0
IsTaken (Ok x) old new clauses = Takes old new clauses
IsTaken (Err TooLarge) old new clauses = old.room < formula_size clauses
IsTaken (Err NoMemory) old new clauses = ⊤
