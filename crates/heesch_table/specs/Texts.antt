-- The text of a tally, one line for each count.
use Rattle.std.specs.Prelude.{ℕ, Bool, List, ◌++◌, codes, decimal}
use Rattle.std.specs.List.{flat_map}
use Rattle.heesch_cert.specs.declared.verdict.Verdict.{Verdict}
use Rattle.heesch_table.specs.declared.verdicts.VerdictCounts.{VerdictCounts}
use Rattle.heesch_table.specs.Counts.{Counts, counts_of}

-- a line: what is counted, and the count
abbrev pub count_line : List ℕ → ℕ → List ℕ
count_line label count = label ++ decimal count ++ codes "\n"

-- `translation N`, `halfturn N`, `periodic N`, `isohedral N`
abbrev pub tilings_text : VerdictCounts → List ℕ
tilings_text c = count_line (codes "translation ") c.translation ++ count_line (codes "halfturn ") c.halfturn ++ count_line (codes "periodic ") c.periodic ++ count_line (codes "isohedral ") c.isohedral

-- `heesch H N`
abbrev pub heesch_line : ℕ × ℕ → List ℕ
heesch_line e = codes "heesch " ++ decimal e.0 ++ count_line (codes " ") e.1

-- such a line for each
abbrev pub heesch_text : List (ℕ × ℕ) → List ℕ
heesch_text entries = flat_map heesch_line entries

-- `undecided levels N`, `undecided holes N`, `undecided turns N`, `undecided size N`
abbrev pub undecided_text : VerdictCounts → List ℕ
undecided_text c = count_line (codes "undecided levels ") c.levels ++ count_line (codes "undecided holes ") c.holes ++ count_line (codes "undecided turns ") c.turns ++ count_line (codes "undecided size ") c.size

-- `shapes N`, `holed N`, and the counts of the verdicts
abbrev pub counts_text : Counts → List ℕ
counts_text c = count_line (codes "shapes ") c.shapes ++ count_line (codes "holed ") c.holed ++ tilings_text c.verdicts ++ heesch_text c.heesch ++ undecided_text c.verdicts

-- the tally of a list of shapes
abbrev pub tally_text : List (Bool × Verdict) → List ℕ
tally_text found = counts_text (counts_of found)
