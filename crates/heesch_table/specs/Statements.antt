-- What is proved of the counts.
use Rattle.std.specs.Prelude.{nat_lt, List, Any, IsTrue}
use Rattle.heesch_cert.specs.declared.verdict.Verdict.{Verdict}
use Rattle.heesch_grid.specs.Listing.{ListsExactly}
use Rattle.heesch_table.specs.Verdicts.{has_heesch}
use Rattle.heesch_table.specs.Counts.{heesch_numbers}

-- the Heesch numbers of a list of verdicts are just those that one of the verdicts has, each once and rising
abbrev pub NumbersAreThoseThatOccur : Type 0
NumbersAreThoseThatOccur = (verdicts : List Verdict) → ListsExactly nat_lt (λ number. Any (λ verdict. IsTrue (has_heesch number verdict)) verdicts) (heesch_numbers verdicts)
