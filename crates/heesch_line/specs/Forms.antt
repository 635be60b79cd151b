-- The forms of a line: the ranges of its numbers, and which of its lists have an item at least.
use Rattle.std.specs.Prelude.{◌≡◌, ◌⊎◌, ℕ, codes, ◌<◌, ◌≤◌, ◌≢◌, ◌++◌, List, [], ℤ, pos, neg_ℤ, ◌≤ℤ◌}
use Rattle.std.specs.List.{AllByRecursion}
use Rattle.heesch_grid.specs.declared.isometries.Iso.{Iso}
use Rattle.heesch_grid.specs.Vectors.{IsWithin}
use Rattle.heesch_cnf.specs.declared.literal.Lit.{Lit}
use Rattle.heesch_lattice.specs.Reduction.{IsSmallTriple}
use Rattle.heesch_cert.specs.declared.verdict.Verdict.{Verdict}
use Rattle.heesch_cert.specs.Limits.{AreLimits}
use Rattle.heesch_cert.specs.Sizes.{IsSubject}
use Rattle.heesch_text.specs.declared.line.Line.{Line}
use Rattle.heesch_text.specs.declared.line.Line.TheVariants as lines
use Rattle.heesch_text.specs.Naturals.{IsNatural, VerdictHasNaturals}

-- the integer lies within 100,000 of 0
abbrev pub IsInteger : ℤ → Type 0
IsInteger z = (neg_ℤ (pos 100000) ≤ℤ z) × (z ≤ℤ pos 100000)

-- the turn is 0 to 11, and the translation lies within 100,000 of 0
pub record IsPlace (i : Iso) : Type 0 where
  pub turn_range : i.turn < 12
  pub da_range : IsInteger i.da
  pub db_range : IsInteger i.db

-- the variable is a number from 1
abbrev pub IsLiteral : Lit → Type 0
IsLiteral l = (1 ≤ l.var) × IsNatural l.var

-- there is an item, and this holds of each
pub record AreSome {X : Type 0} (P : X → Type 0) (items : List X) : Type 0 where
  pub some : items ≢ []
  pub each : AllByRecursion P items

-- the numbers of a verdict fit 32 bits
abbrev pub IsVerdict : Verdict → Type 0
IsVerdict verdict = VerdictHasNaturals verdict

-- the line has a form of a catalogue's line
abbrev pub IsLine : Line → Type 0
IsLine (lines.Header header) = IsSubject header.limits.version header.grid header.subject × AreLimits header.limits
IsLine (lines.Shape cells) = AreSome (IsWithin 100000) cells
IsLine (lines.Verdict verdict) = IsVerdict verdict
IsLine (lines.Lattice triple) = IsSmallTriple triple
IsLine (lines.Tile place member) = IsPlace place × IsNatural member.class × IsPlace member.by
IsLine (lines.Coronas count) = IsNatural count
IsLine (lines.Layer places) = AreSome IsPlace places
IsLine (lines.Wall level outcome) = IsNatural level
IsLine (lines.Bare level outcome) = IsNatural level
IsLine (lines.Open count) = IsNatural count
IsLine (lines.Triple triple refuted) = IsSmallTriple triple
IsLine (lines.Learn clause hints) = AreSome IsLiteral clause × AreSome IsNatural hints
IsLine (lines.Cut cut) = IsNatural cut.level × AreSome (IsWithin 100000) cut.hole × AllByRecursion IsNatural cut.border
IsLine (lines.Empty hints) = AreSome IsNatural hints
IsLine lines.Spent = Unit {0}
IsLine (lines.End count) = IsNatural count

-- no byte is a newline
abbrev pub HasNoNewline : List ℕ → Type 0
HasNoNewline bytes = AllByRecursion (λ b. b ≢ 10) bytes

-- the word stands at the front of the bytes
abbrev pub BeginsWith : List ℕ → List ℕ → Type 0
BeginsWith word bytes = (rest : List ℕ) × (bytes ≡ word ++ rest)

-- the bytes begin as a line with a list does
abbrev pub BeginsAsList : List ℕ → Type 0
BeginsAsList bytes =
    BeginsWith (codes "shape ") bytes ⊎ BeginsWith (codes "layer") bytes ⊎ BeginsWith (codes "learn") bytes
    ⊎ BeginsWith (codes "cut ") bytes ⊎ BeginsWith (codes "empty") bytes

-- the line is that of a shape
abbrev pub IsShape : Line → Type 0
IsShape (lines.Shape cells) = Unit {0}
IsShape _ = ⊥

-- the line is the last one of a catalogue
abbrev pub IsEnd : Line → Type 0
IsEnd (lines.End count) = Unit {0}
IsEnd _ = ⊥
