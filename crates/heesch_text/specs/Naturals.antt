-- Natural numbers that fit 32 bits, as those of the lines that the program writes do.
use Rattle.std.specs.Prelude.{ℕ, ◌<◌, ◌^◌, ⊤}
use Rattle.std.specs.List.{AllByRecursion}
use Rattle.heesch_cnf.specs.declared.literal.Lit.{Lit}
use Rattle.heesch_cert.specs.declared.verdict.Verdict.{Verdict}
use Rattle.heesch_cert.specs.declared.verdict.Verdict.TheVariants as verdicts
use Rattle.heesch_text.specs.declared.line.Line.{Line}
use Rattle.heesch_text.specs.declared.line.Line.TheVariants as lines

-- the number fits 32 bits
abbrev pub IsNatural : ℕ → Type 0
IsNatural n = n < 2 ^ 32

-- the numbers of the verdict fit 32 bits
abbrev pub VerdictHasNaturals : Verdict → Type 0
VerdictHasNaturals (verdicts.Tiles kind domain classes) = IsNatural domain × IsNatural classes
VerdictHasNaturals (verdicts.Heesch h m) = IsNatural h × IsNatural m
VerdictHasNaturals (verdicts.Levels h) = IsNatural h
VerdictHasNaturals (verdicts.Holes h) = IsNatural h
VerdictHasNaturals (verdicts.Turns h phase at) = IsNatural h × IsNatural at
VerdictHasNaturals (verdicts.Size h phase at) = IsNatural h × IsNatural at

-- the natural numbers of the line fit 32 bits, where its form doesn't bound them closer
abbrev pub HasNaturals : Line → Type 0
HasNaturals (lines.Verdict verdict) = VerdictHasNaturals verdict
HasNaturals (lines.Tile place member) = IsNatural member.class
HasNaturals (lines.Coronas count) = IsNatural count
HasNaturals (lines.Wall level outcome) = IsNatural level
HasNaturals (lines.Bare level outcome) = IsNatural level
HasNaturals (lines.Open count) = IsNatural count
HasNaturals (lines.Learn clause hints) = AllByRecursion (λ (l : Lit). IsNatural l.var) clause × AllByRecursion IsNatural hints
HasNaturals (lines.Cut cut) = IsNatural cut.level × AllByRecursion IsNatural cut.border
HasNaturals (lines.Empty hints) = AllByRecursion IsNatural hints
HasNaturals line = ⊤
