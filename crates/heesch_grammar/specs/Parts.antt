-- What stands at the front of the lines of an entry, part by part, and the lines behind it.
use Rattle.std.specs.Prelude.{ℕ, suc, List, [], ◌∷◌, ◌++◌, length, drop, Option, Some, None}
use Rattle.heesch_grid.specs.declared.isometries.Iso.{Iso}
use Rattle.heesch_grid.specs.Lattice.{Triple}
use Rattle.heesch_grid.specs.Symmetry.{Member}
use Rattle.heesch_cert.specs.declared.proof.Step.{Step}
use Rattle.heesch_cert.specs.declared.proof.Step.TheVariants as steps
use Rattle.heesch_cert.specs.declared.proof.Proof.{Proof}
use Rattle.heesch_cert.specs.declared.entry.Layers.{Layers}
use Rattle.heesch_cert.specs.declared.entry.Wall.{Wall}
use Rattle.heesch_cert.specs.declared.entry.Wall.TheVariants as walls
use Rattle.heesch_cert.specs.declared.entry.Bare.{Bare}
use Rattle.heesch_cert.specs.declared.entry.Bare.TheVariants as bares
use Rattle.heesch_cert.specs.declared.entry.TripleProof.{TripleProof}
use Rattle.heesch_cert.specs.declared.entry.Evidence.{Evidence}
use Rattle.heesch_cert.specs.declared.entry.Evidence.TheVariants as evidences
use Rattle.heesch_text.specs.declared.line.Outcome.{Outcome}
use Rattle.heesch_text.specs.declared.line.Outcome.TheVariants as outcomes
use Rattle.heesch_text.specs.declared.line.BareOutcome.{BareOutcome}
use Rattle.heesch_text.specs.declared.line.BareOutcome.TheVariants as bare_outcomes
use Rattle.heesch_text.specs.declared.line.Line.{Line}
use Rattle.heesch_text.specs.declared.line.Line.TheVariants as lines

-- ---- a proof

-- the proof with these steps before its own
abbrev pub with_steps : List Step → Proof → Proof
with_steps steps proof = record { steps = steps ++ proof.steps; last = proof.last }

-- the proof at the front: the step lines, and the hints of the line behind them where it is `empty`
abbrev pub proof_at : List Line → Proof
proof_at (lines.Learn clause hints ∷ ls) = with_steps (steps.Learn clause hints ∷ []) (proof_at ls)
proof_at (lines.Cut cut ∷ ls) = with_steps (steps.Cut cut ∷ []) (proof_at ls)
proof_at (lines.Empty hints ∷ ls) = record { steps = []; last = Some hints }
proof_at ls = record { steps = []; last = None }

-- the lines behind that line
abbrev pub behind_proof : List Line → List Line
behind_proof (lines.Learn clause hints ∷ ls) = behind_proof ls
behind_proof (lines.Cut cut ∷ ls) = behind_proof ls
behind_proof (line ∷ ls) = ls
behind_proof [] = []

-- ---- layers

-- the layers at the front, at most so many
abbrev pub layers_at : ℕ → List Line → List (List Iso)
layers_at (suc n) (lines.Layer places ∷ ls) = places ∷ layers_at n ls
layers_at n ls = []

-- the lines behind them
abbrev pub behind_layers : ℕ → List Line → List Line
behind_layers (suc n) (lines.Layer places ∷ ls) = behind_layers n ls
behind_layers (suc n) (line ∷ ls) = ls
behind_layers n ls = ls

-- ---- a lattice

-- the lattice of a `lattice` line at the front
abbrev pub lattice_at : List Line → Option Triple
lattice_at (lines.Lattice triple ∷ ls) = Some triple
lattice_at ls = None

-- ---- tiles

-- the place and the member of a tile line
abbrev pub tile_of : Line → Option (Iso × Member)
tile_of (lines.Tile place member) = Some (place, member)
tile_of line = None

-- the places of the tiles at the front
abbrev pub places_at : List Line → List Iso
places_at (lines.Tile place member ∷ ls) = place ∷ places_at ls
places_at ls = []

-- the members of the tiles at the front
abbrev pub members_at : List Line → List Member
members_at (lines.Tile place member ∷ ls) = member ∷ members_at ls
members_at ls = []

-- ---- a wall

-- how the search ended, where a `wall` line comes next
abbrev pub wall_end : List Line → Option Outcome
wall_end (lines.Wall level outcome ∷ ls) = Some outcome
wall_end ls = None

-- the wall of a search that ended so, its line at the front
abbrev pub wall_as : Option Outcome → List Line → Wall
wall_as None ls = walls.Absent
wall_as (Some outcomes.Refuted) ls = walls.Refuted (proof_at (drop 1 ls))
wall_as (Some outcomes.Spent) ls = walls.Spent (proof_at (drop 1 ls))
wall_as (Some outcomes.Size) ls = walls.Size

-- the lines behind it
abbrev pub behind_wall_as : Option Outcome → List Line → List Line
behind_wall_as None ls = ls
behind_wall_as (Some outcomes.Refuted) ls = behind_proof (drop 1 ls)
behind_wall_as (Some outcomes.Spent) ls = behind_proof (drop 1 ls)
behind_wall_as (Some outcomes.Size) ls = drop 1 ls

-- the wall at the front, if there is one
abbrev pub wall_at : List Line → Wall
wall_at ls = wall_as (wall_end ls) ls

-- the lines behind it
abbrev pub behind_wall : List Line → List Line
behind_wall ls = behind_wall_as (wall_end ls) ls

-- ---- a search with holes allowed

-- how it ended, where a `bare` line comes next
abbrev pub bare_end : List Line → Option BareOutcome
bare_end (lines.Bare level outcome ∷ ls) = Some outcome
bare_end ls = None

-- the end of a search with holes allowed that ended so, its line at the front
abbrev pub bare_as : Option BareOutcome → List Line → Bare
bare_as None ls = bares.Absent
bare_as (Some bare_outcomes.Same) ls = bares.Same
bare_as (Some bare_outcomes.Open) ls = bares.Open
bare_as (Some (bare_outcomes.Searched outcomes.Refuted)) ls = bares.Refuted (proof_at (drop 1 ls))
bare_as (Some (bare_outcomes.Searched outcomes.Spent)) ls = bares.Spent (proof_at (drop 1 ls))
bare_as (Some (bare_outcomes.Searched outcomes.Size)) ls = bares.Size

-- the lines behind it
abbrev pub behind_bare_as : Option BareOutcome → List Line → List Line
behind_bare_as None ls = ls
behind_bare_as (Some bare_outcomes.Same) ls = drop 1 ls
behind_bare_as (Some bare_outcomes.Open) ls = drop 1 ls
behind_bare_as (Some (bare_outcomes.Searched outcomes.Refuted)) ls = behind_proof (drop 1 ls)
behind_bare_as (Some (bare_outcomes.Searched outcomes.Spent)) ls = behind_proof (drop 1 ls)
behind_bare_as (Some (bare_outcomes.Searched outcomes.Size)) ls = drop 1 ls

-- the end of a search with holes allowed at the front, if there is one
abbrev pub bare_at : List Line → Bare
bare_at ls = bare_as (bare_end ls) ls

-- the lines behind it
abbrev pub behind_bare : List Line → List Line
behind_bare ls = behind_bare_as (bare_end ls) ls

-- ---- layers found with holes allowed

-- their number, where an `open` line comes next
abbrev pub open_count : List Line → Option ℕ
open_count (lines.Open count ∷ ls) = Some count
open_count ls = None

-- so many layers, their number at the front
abbrev pub wider_as : Option ℕ → List Line → Option Layers
wider_as None ls = None
wider_as (Some count) ls = Some (record { layers = layers_at count (drop 1 ls) })

-- the lines behind them
abbrev pub behind_wider_as : Option ℕ → List Line → List Line
behind_wider_as None ls = ls
behind_wider_as (Some count) ls = behind_layers count (drop 1 ls)

-- the layers with their number at the front, if there are any
abbrev pub wider_at : List Line → Option Layers
wider_at ls = wider_as (open_count ls) ls

-- the lines behind them
abbrev pub behind_wider : List Line → List Line
behind_wider ls = behind_wider_as (open_count ls) ls

-- ---- triples with their proofs

-- the triple of a triple line
abbrev pub triple_of : Line → Option Triple
triple_of (lines.Triple triple refuted) = Some triple
triple_of line = None

-- the triples at the front, each with its proof, at most so many
abbrev pub few_triples : ℕ → List Line → List TripleProof
few_triples (suc n) (lines.Triple triple refuted ∷ ls) = record { triple = triple; proof = proof_at ls } ∷ few_triples n (behind_proof ls)
few_triples n ls = []

-- all triples at the front
abbrev pub triples_at : List Line → List TripleProof
triples_at ls = few_triples (length ls) ls

-- ---- the evidence of a search

-- with these layers, and the lines behind them, behind the wall, behind the search with holes allowed, and behind its layers
abbrev pub search_of : List (List Iso) → (behind_layers behind_wall behind_bare behind_wider : List Line) → Evidence
search_of layers ls walled bared opened =
    evidences.Search (record { layers = layers }) (wall_at ls) (bare_at walled) (wider_at bared) (triples_at opened)

-- with these layers, and these lines behind them
abbrev pub search_behind : List (List Iso) → List Line → Evidence
search_behind layers ls = search_of layers ls (behind_wall ls) (behind_bare (behind_wall ls)) (behind_wider (behind_bare (behind_wall ls)))

-- behind a `coronas` line with this number
abbrev pub search_at : ℕ → List Line → Evidence
search_at count ls = search_behind (layers_at count ls) (behind_layers count ls)
