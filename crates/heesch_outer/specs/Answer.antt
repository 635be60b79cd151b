-- Which answers on the outer number of an entry's shape are allowed.
use Rattle.std.specs.Prelude.{◌≡◌, ℕ, ◌+◌, List, length}
use Rattle.heesch_grid.specs.declared.Cell.{Cell}
use Rattle.heesch_grid.specs.Geometry.{Geometry}
use Rattle.heesch_cert.specs.declared.limits.Limits.{Limits}
use Rattle.heesch_cert.specs.declared.proof.Proof.{Proof}
use Rattle.heesch_cert.specs.declared.verdict.Verdict.{Verdict}
use Rattle.heesch_cert.specs.declared.verdict.Verdict.TheVariants.{Tiles as TilesVerdict}
use Rattle.heesch_cert.specs.declared.entry.Layers.{Layers}
use Rattle.heesch_cert.specs.declared.entry.Wall.{Wall}
use Rattle.heesch_cert.specs.declared.entry.Wall.TheVariants.{Refuted as WallRefuted}
use Rattle.heesch_cert.specs.declared.entry.Bare.{Bare}
use Rattle.heesch_cert.specs.declared.entry.Bare.TheVariants.{Same as BareSame}
use Rattle.heesch_cert.specs.declared.entry.Evidence.{Evidence}
use Rattle.heesch_cert.specs.declared.entry.Evidence.TheVariants.{Cover, Search}
use Rattle.heesch_cert.specs.declared.entry.Entry.{Entry}
use Rattle.heesch_cert.specs.TrueEntry.{Spells, first_number}
use Rattle.heesch_outer.specs.declared.answer.OuterAnswer.{OuterAnswer}
use Rattle.heesch_outer.specs.declared.answer.OuterAnswer.TheVariants.{Tiles, Unknown, More, Same, Spent}
use Rattle.heesch_outer.specs.Coronas.{AreOuterCoronas}
use Rattle.heesch_outer.specs.Proofs.{RefutesOuter, IsSpentOuter}

-- the layers, k of them, spell outer coronas of the shape
pub record SpellsOuterCoronas (g : Geometry) (shape : List Cell) (k : ℕ) (layers : Layers) : Type 0 where
  pub count : length layers.layers ≡ k
  pub tiles : List (List (List Cell))
  pub spelled : Spells g shape layers.layers tiles
  pub coronas : AreOuterCoronas g shape tiles

-- after a search of its own with holes allowed in the outermost corona alone: h + 1 outer coronas, or a proof that is outer for h and refutes or is spent
abbrev pub IsSearched : Geometry → Limits → List Cell → ℕ → OuterAnswer → Type 0
IsSearched g limits shape h Tiles = ⊥
IsSearched g limits shape h Unknown = ⊥
IsSearched g limits shape h (More layers) = SpellsOuterCoronas g shape (h + 1) layers
IsSearched g limits shape h (Same proof) = RefutesOuter g limits shape h proof
IsSearched g limits shape h (Spent proof) = IsSpentOuter g limits shape h proof

-- where the wall's refutation serves with holes allowed too, that proof; else such a search
abbrev pub IsBeyondWall : Geometry → Limits → List Cell → ℕ → Proof → Bare → OuterAnswer → Type 0
IsBeyondWall g limits shape h proof BareSame answer = answer ≡ Same proof
IsBeyondWall g limits shape h proof bare answer = IsSearched g limits shape h answer

-- unknown where the Heesch number is; else h is that number
abbrev pub IsBehindWall : Geometry → Limits → List Cell → ℕ → Wall → Bare → OuterAnswer → Type 0
IsBehindWall g limits shape h (WallRefuted proof) bare answer = IsBeyondWall g limits shape h proof bare answer
IsBehindWall g limits shape h wall bare answer = answer ≡ Unknown

-- a tiling where the verdict is one, and else by the searches
abbrev pub FitsOuter : Geometry → Limits → List Cell → Verdict → Evidence → OuterAnswer → Type 0
FitsOuter g limits shape (TilesVerdict kind domain classes) evidence answer = answer ≡ Tiles
FitsOuter g limits shape verdict (Cover tiling classes) answer = ⊥
FitsOuter g limits shape verdict (Search free wall bare wider triples) answer = IsBehindWall g limits shape (first_number verdict) wall bare answer

-- the answer is allowed for the entry
abbrev pub IsOuterAnswer : Geometry → Limits → Entry → OuterAnswer → Type 0
IsOuterAnswer g limits entry answer = FitsOuter g limits entry.cells entry.verdict entry.evidence answer
