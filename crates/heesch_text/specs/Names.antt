-- The words that name a version, the kind of a tiling and the end of a search.
use Rattle.std.specs.Prelude.{ℕ, List, codes}
use Rattle.heesch_cert.specs.declared.verdict.Kind.{Kind}
use Rattle.heesch_cert.specs.declared.verdict.Kind.TheVariants.{Translation, HalfTurn, Periodic}
use Rattle.heesch_cert.specs.declared.verdict.Phase.{Phase}
use Rattle.heesch_cert.specs.declared.verdict.Phase.TheVariants.{Free, Bare}
use Rattle.heesch_cnf.specs.declared.version.Version.{Version}
use Rattle.heesch_cnf.specs.declared.version.Version.TheVariants.{One, Two}
use Rattle.heesch_text.specs.declared.line.Outcome.{Outcome}
use Rattle.heesch_text.specs.declared.line.Outcome.TheVariants.{Refuted, Spent, Size as TooLarge}
use Rattle.heesch_text.specs.declared.line.BareOutcome.{BareOutcome}
use Rattle.heesch_text.specs.declared.line.BareOutcome.TheVariants.{Same, Open, Searched}

-- the number of a version, between spaces
abbrev pub version_text : Version → List ℕ
version_text One = codes " 1 "
version_text Two = codes " 2 "

-- the kind of a tiling
abbrev pub kind_text : Kind → List ℕ
kind_text Translation = codes "translation"
kind_text HalfTurn = codes "halfturn"
kind_text Periodic = codes "periodic"

-- the search that met a limit
abbrev pub phase_text : Phase → List ℕ
phase_text Free = codes "free"
phase_text Bare = codes "bare"

-- how a search ended
abbrev pub outcome_text : Outcome → List ℕ
outcome_text Refuted = codes "refuted"
outcome_text Spent = codes "spent"
outcome_text TooLarge = codes "size"

-- how the search with holes allowed ended
abbrev pub bare_text : BareOutcome → List ℕ
bare_text Same = codes "same"
bare_text Open = codes "open"
bare_text (Searched outcome) = outcome_text outcome
