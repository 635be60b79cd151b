-- The lines of one entry, and what an entry holds.
use Rattle.std.specs.Prelude.{◌≡◌, ℕ, ◌+◌, Bool, true, false, List, [], ◌∷◌, length, Option, Some, option_and_then, ⊤}
use Rattle.heesch_grid.specs.declared.Cell.{Cell}
use Rattle.heesch_grid.specs.Lattice.{Triple}
use Rattle.heesch_cert.specs.declared.verdict.Verdict.{Verdict}
use Rattle.heesch_cert.specs.declared.entry.Evidence.{Evidence}
use Rattle.heesch_cert.specs.declared.entry.Evidence.TheVariants as evidences
use Rattle.heesch_cert.specs.declared.entry.Entry.{Entry}
use Rattle.heesch_text.specs.declared.line.Line.{Line}
use Rattle.heesch_text.specs.declared.line.Line.TheVariants as lines
use Rattle.heesch_cert.specs.TrueEntry.{last_number}
use Rattle.heesch_grammar.specs.declared.place.Place.{Place}
use Rattle.heesch_grammar.specs.declared.place.Place.TheVariants as places
use Rattle.heesch_grammar.specs.declared.spot.Spot.{Spot}
use Rattle.heesch_grammar.specs.Parts.{places_at, members_at, search_at}
use Rattle.heesch_grammar.specs.Grammar.{next, steps, is_whole}

-- from this spot on, each of the lines may stand, an entry may end behind them, and one of them is a `shape` line
pub record LeadOver (brief : Bool) (s : Spot) (ls : List Line) : Type 0 where
  pub behind : Spot
  pub reached : steps brief s ls ≡ Some behind
  pub whole : is_whole behind.place ≡ true
  pub one_more : behind.shapes ≡ s.shapes + 1

-- the lines are those of one entry: they lead from between two entries over one `shape` line to where an entry may end
pub record AreEntryLines (brief : Bool) (ls : List Line) : Type 0 where
  pub before : Spot
  pub between : before.place ≡ places.Between
  pub over : LeadOver brief before ls

-- the evidence holds nothing beyond its lines: the number of classes is the verdict's, and each tile has one place and one member
-- (all else stands in the lines: where there is no line, there is no wall, no `bare` and no `open`; a proof that ends with `spent` has no last hints)
abbrev pub HoldsEvidence : Verdict → Evidence → Type 0
HoldsEvidence verdict (evidences.Cover tiling classes) = (classes.count ≡ last_number verdict) × (length classes.members ≡ length tiling.places)
HoldsEvidence verdict (evidences.Search free wall bare wider triples) = ⊤

-- the entry holds nothing beyond its lines
abbrev pub HoldsItsLines : Entry → Type 0
HoldsItsLines e = HoldsEvidence e.verdict e.evidence

-- ---- inside an entry

-- where lines lead inside an entry, one after the other, if each of them may stand
abbrev pub follow : Bool → Place → List Line → Option Place
follow brief p [] = Some p
follow brief p (line ∷ ls) = option_and_then (λ q. follow brief q ls) (next brief p line)

-- from this place of a full text, the lines lead to where an entry may end
pub record Lead (p : Place) (ls : List Line) : Type 0 where
  pub end : Place
  pub reached : follow false p ls ≡ Some end
  pub whole : is_whole end ≡ true

-- the lines begin with a `shape` line and a `verdict` line, which these stand behind
pub record Begin (ls : List Line) : Type 0 where
  pub cells : List Cell
  pub verdict : Verdict
  pub rest : List Line
  pub split : ls ≡ lines.Shape cells ∷ lines.Verdict verdict ∷ rest

-- the lines begin with a `lattice` line, and the evidence is what stands there, with so many classes
pub record HasLattice (ls : List Line) : Type 0 where
  pub triple : Triple
  pub rest : List Line
  pub split : ls ≡ lines.Lattice triple ∷ rest

pub record IsCoverAt (count : ℕ) (ls : List Line) (e : Evidence) : Type 0 where
  pub triple : Triple
  pub rest : List Line
  pub split : ls ≡ lines.Lattice triple ∷ rest
  pub is_cover : e ≡ evidences.Cover (record { triple = triple; places = places_at rest }) (record { count = count; members = members_at rest })

-- the lines begin with a `coronas` line, and the evidence is what stands there
pub record HasCoronas (ls : List Line) : Type 0 where
  pub count : ℕ
  pub rest : List Line
  pub split : ls ≡ lines.Coronas count ∷ rest

pub record IsSearchAt (ls : List Line) (e : Evidence) : Type 0 where
  pub count : ℕ
  pub rest : List Line
  pub split : ls ≡ lines.Coronas count ∷ rest
  pub is_search : e ≡ search_at count rest
