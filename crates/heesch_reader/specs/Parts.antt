-- The part at fault, in the words of the format, of the lines behind a header.
use Rattle.std.specs.Prelude.{◌≡◌, ◌≢◌, ◌⊎◌, ℕ, Bool, true, false, List, [], ◌∷◌, ◌++◌, Some, codes}
use Rattle.std.specs.List.{AllByRecursion}
use Rattle.heesch_grid.specs.declared.Cell.{Cell}
use Rattle.heesch_text.specs.declared.line.Line.{Line}
use Rattle.heesch_text.specs.declared.line.Line.TheVariants as lines
use Rattle.heesch_grammar.specs.declared.spot.Spot.{Spot}
use Rattle.heesch_grammar.specs.Grammar.{steps}
use Rattle.heesch_grammar.specs.Statements.{start}
use Rattle.heesch_grammar.specs.Entries.{AreEntryLines}
use Rattle.heesch_line.specs.Forms.{IsEnd, IsShape}
use Rattle.heesch_reader.specs.declared.item.Part.TheVariants as parts
use Rattle.heesch_reader.specs.declared.progress.Progress.TheVariants as stages
use Rattle.heesch_reader.specs.Faults.{begins, begins_next, part_of}

-- no `end` line is among them
abbrev pub HaveNoEnd : List Line → Type 0
HaveNoEnd ls = AllByRecursion (λ line. IsEnd line → ⊥) ls

-- a `shape` line is among them, and these are the lines from the last one on
pub record EndWithEntry (ls entry : List Line) : Type 0 where
  pub earlier : List Line
  pub cells : List Cell
  pub body : List Line
  pub split : ls ≡ earlier ++ entry
  pub entry_is : entry ≡ lines.Shape cells ∷ body
  pub last : AllByRecursion (λ line. IsShape line → ⊥) body

-- a `shape` line stands before, and the lines from the last one on aren't those of an entry
pub record BreakOff (brief : Bool) (ls : List Line) : Type 0 where
  pub entry : List Line
  pub ends : EndWithEntry ls entry
  pub no_entry : AreEntryLines brief entry → ⊥

-- an entry stands before, and the faulty line has a byte and begins neither a shape nor an end
pub record IsNoNext (ls : List Line) (bytes : List ℕ) : Type 0 where
  pub entry : List Line
  pub ends : EndWithEntry ls entry
  pub has_byte : bytes ≢ []
  pub neither : begins_next bytes ≡ false

-- an entry is at fault: no end stands before, and the faulty line begins a shape, or an entry breaks off before it, or it is no line that may follow one
pub record IsEntryFault (brief : Bool) (ls : List Line) (bytes : List ℕ) : Type 0 where
  pub no_end : HaveNoEnd ls
  pub why : (begins bytes (codes "shape ") ≡ true) ⊎ BreakOff brief ls ⊎ IsNoNext ls bytes

-- behind a header and lines that may stand, the part is that of an entry exactly where an entry is at fault, and else that of the end
pub record NamesPart (brief : Bool) (ls : List Line) (spot : Spot) (bytes : List ℕ) : Type 0 where
  pub entry : IsEntryFault brief ls bytes → part_of (stages.Behind brief spot) bytes ≡ parts.Entry
  pub end : (IsEntryFault brief ls bytes → ⊥) → part_of (stages.Behind brief spot) bytes ≡ parts.End

abbrev pub PartsAreTheFormats : Type 0
PartsAreTheFormats = (brief : Bool) (ls : List Line) (spot : Spot) (bytes : List ℕ) → steps brief start ls ≡ Some spot → NamesPart brief ls spot bytes
