-- Steps of proofs that may be judged, and their logs.
use Rattle.std.specs.Prelude.{◌≡◌, ◌≤◌, ℕ, All, List, [], ◌∷◌, ⊤}
use Rattle.heesch_grid.specs.Geometry.{Geometry}
use Rattle.heesch_grid.specs.CoronaFormula.{Variable}
use Rattle.heesch_grid.specs.Vectors.{IsWithin}
use Rattle.heesch_cnf.specs.declared.literal.Lit.{Lit}
use Rattle.heesch_cnf.specs.declared.log.Line.{Line}
use Rattle.heesch_cnf.specs.declared.log.Line.TheVariants.{Learn as LearnLine, Given}
use Rattle.heesch_cnf.specs.declared.log.Log.{Log}
use Rattle.heesch_cert.specs.Cuts.{IsLawful, cut_clause}
use Rattle.heesch_cert.specs.declared.proof.Cut.{Cut as TheCut}
use Rattle.heesch_cert.specs.declared.proof.Step.{Step}
use Rattle.heesch_cert.specs.declared.proof.Step.TheVariants.{Learn, Cut}
use Rattle.heesch_cert.specs.declared.proof.Proof.{Proof}
use Rattle.heesch_cert.specs.Proofs.{log_of}
use Rattle.heesch_place.specs.Universes.{Levels}

-- the cut is lawful over the universe, of a level up to k, and its hole lies within 100,000 of 0
pub record IsAdmittedCut (g : Geometry) (u : Levels) (k : ℕ) (cut : TheCut) : Type 0 where
  pub near : All (IsWithin 100000) cut.hole
  pub up_to : cut.level ≤ k
  pub lawful : IsLawful g u.shape u.level u.vars cut

-- a step that is a cut is such a one
abbrev pub IsAdmittedStep : Geometry → Levels → ℕ → Step → Type 0
IsAdmittedStep g u k (Learn clause hints) = ⊤
IsAdmittedStep g u k (Cut cut) = IsAdmittedCut g u k cut

-- each step of the proof is admitted
abbrev pub IsAdmitted : Geometry → Levels → ℕ → Proof → Type 0
IsAdmitted g u k proof = All (IsAdmittedStep g u k) proof.steps

-- the clause that a step gives: a cut its own, and a learnt step none
abbrev pub given_clause : List Variable → Step → List Lit
given_clause vars (Learn clause hints) = []
given_clause vars (Cut cut) = cut_clause vars cut

-- the line of a step, where it gives this clause if it is a cut
abbrev pub line_with : Step → List Lit → Line
line_with (Learn clause hints) given = LearnLine clause hints
line_with (Cut cut) given = Given given

-- the lines of steps, where each cut gives the clause at its place, and the empty one where there is none
abbrev pub lines_with : List Step → List (List Lit) → List Line
lines_with [] given = []
lines_with (step ∷ steps) [] = line_with step [] ∷ lines_with steps []
lines_with (step ∷ steps) (clause ∷ given) = line_with step clause ∷ lines_with steps given

-- the proof is admitted, and this is its log
abbrev pub IsLogOf : Geometry → Levels → ℕ → Proof → Log → Type 0
IsLogOf g u k proof log = IsAdmitted g u k proof × (log ≡ log_of u.vars proof)
