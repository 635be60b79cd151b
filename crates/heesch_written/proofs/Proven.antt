-- The lines of a proof whose cuts have near holes.
use Rattle.std.proofs.Common.{◌≡◌, ◌≢◌, ℕ, ◌≤◌, ◌⊎◌, inl, inr, List, [], ◌∷◌, map, length, Option, Some, None, All}
use Rattle.std.specs.Prelude.{IsTrue, ⊤}
use Rattle.std.specs.List.{AllByRecursion}
use Rattle.std.proofs.lemmas.List.Elements.{recursion_from_All, All-weaker}
use Rattle.std.proofs.lemmas.Bool.{false≢true}
use Rattle.heesch_grid.specs.declared.Cell.{Cell}
use Rattle.heesch_grid.specs.CoronaFormula.{Variable}
use Rattle.heesch_grid.specs.Geometry.{Geometry, IsGrid}
use Rattle.heesch_grid.specs.Lattice.{Triple}
use Rattle.heesch_grid.specs.Polyform.{IsFreePolyform}
use Rattle.heesch_cnf.specs.declared.version.Version.{Version}
use Rattle.heesch_cnf.specs.declared.literal.Lit.{Lit}
use Rattle.heesch_cnf.specs.declared.log.Line.{Line as LogLine}
use Rattle.heesch_cnf.specs.declared.log.Line.TheVariants.{Learn}
use Rattle.heesch_cnf.specs.Clauses.{IsClause}
use Rattle.heesch_cnf.specs.Literals.{Values}
use Rattle.heesch_cnf.specs.Lines.{reaches_conflict, LineHolds, LinesHold, HasFinal}
use Rattle.heesch_cert.specs.declared.proof.Step.{Step}
use Rattle.heesch_cert.specs.declared.proof.Step.TheVariants as steps
use Rattle.heesch_cert.specs.declared.proof.Proof.{Proof}
use Rattle.heesch_cert.specs.Formulas.{IsCountedFormula}
use Rattle.heesch_cert.specs.Proofs.{line_of_step, log_of, IsLawfulStep, IsLearnStep, HasNoCut, RefutesCoronas, IsSpentOnCoronas, RefutesTorus, IsSpentOnTorus, SettlesTriple}
use Rattle.heesch_written.specs.Near.{IsNearHole, HolesAreNear}
use Rattle.heesch_text.specs.declared.line.Line.{Line}
use Rattle.heesch_text.specs.declared.line.Line.TheVariants as lines
use Rattle.heesch_text.specs.Catalogue.{step_line, last_line, proof_lines}
use Rattle.heesch_text.specs.Naturals.{IsNatural, HasNaturals}
use Rattle.heesch_line.specs.Forms.{IsLine, IsLiteral}
use Rattle.heesch_written.proofs.Lists.{all_append, all_weaker, all_both}

-- the line has a form of a catalogue's line, if its numbers fit 32 bits
abbrev pub IsLineIf : Line → Type 0
IsLineIf line = HasNaturals line → IsLine line

-- ---- a learnt line

some_hints : (clauses : List (List Lit)) (values : Values) (hints : List ℕ) → IsTrue (reaches_conflict clauses values hints) → hints ≢ []
some_hints clauses values [] h = absurd (false≢true h)
some_hints clauses values (n ∷ hints) h = λ e. cc

-- the variable is one of these, from 1
abbrev InRange : ℕ → Lit → Type 0
InRange vars l = (1 ≤ l.var) × (l.var ≤ vars)

abbrev HasNatural : Lit → Type 0
HasNatural l = IsNatural l.var

literals : (vars : ℕ) (clause : List Lit) → IsClause vars clause → AllByRecursion HasNatural clause → AllByRecursion IsLiteral clause
literals vars clause h n =
    all_weaker (λ l. InRange vars l × HasNatural l) IsLiteral (λ l x. (x.0.0, x.1)) clause (all_both (InRange vars) HasNatural clause (recursion_from_All (InRange vars) clause h.in_range) n)

learnt : (vars : ℕ) (clauses : List (List Lit)) (clause : List Lit) (hints : List ℕ) → LineHolds vars clauses (Learn clause hints) → IsLineIf (lines.Learn clause hints)
learnt vars clauses clause hints h = λ n. (record { some = h.0; each = literals vars clause h.1.0 n.0 }, record { some = some_hints clauses _ hints h.1.1.conflict; each = n.1 })

-- ---- the steps

-- the line holds after some clauses
abbrev HoldsAfter : ℕ → LogLine → Type 0
HoldsAfter vars line = (clauses : List (List Lit)) × LineHolds vars clauses line

each_holds : (vars : ℕ) (clauses : List (List Lit)) (ls : List LogLine) → LinesHold vars clauses ls → AllByRecursion (HoldsAfter vars) ls
each_holds vars clauses ls h = recursion_from_All (HoldsAfter vars) ls (λ i d lt. (_, h i lt d))

-- the hole of a cut is near
abbrev IsNearStep : Step → Type 0
IsNearStep (steps.Learn clause hints) = ⊤
IsNearStep (steps.Cut cut) = IsNearHole cut.hole

step_lines : (vars : List Variable) (count : ℕ) (done : List Step) → AllByRecursion (HoldsAfter count) (map (line_of_step vars) done) → AllByRecursion IsNearStep done → AllByRecursion IsLineIf (map step_line done)
step_lines vars count [] h k = tt
step_lines vars count (steps.Learn clause hints ∷ done) h k = (learnt count h.0.0 clause hints h.0.1, step_lines vars count done h.1 k.1)
step_lines vars count (steps.Cut cut ∷ done) h k = (λ n. (n.0, record { some = k.0.some; each = k.0.near }, n.1), step_lines vars count done h.1 k.1)

-- ---- a proof

-- the last line has hints, where there is one
abbrev EndsWell : Option (List ℕ) → Type 0
EndsWell None = ⊤
EndsWell (Some hints) = hints ≢ []

final_ends : (clauses : List (List Lit)) (last : Option (List ℕ)) → HasFinal clauses last → EndsWell last
final_ends clauses None h = absurd h
final_ends clauses (Some hints) h = some_hints clauses _ hints h.conflict

spent_ends : (last : Option (List ℕ)) → last ≡ None → EndsWell last
spent_ends None e = tt
spent_ends (Some hints) e = absurd cc

last_written : (last : Option (List ℕ)) → EndsWell last → IsLineIf (last_line last)
last_written None h = λ n. tt
last_written (Some hints) h = λ n. record { some = h; each = n }

written : (vars : List Variable) (count : ℕ) (clauses : List (List Lit)) (proof : Proof) → LinesHold count clauses (log_of vars proof).lines → AllByRecursion IsNearStep proof.steps → EndsWell proof.last → AllByRecursion IsLineIf (proof_lines proof)
written vars count clauses proof h k e =
    all_append IsLineIf (map step_line proof.steps) (last_line proof.last ∷ []) (step_lines vars count proof.steps (each_holds count clauses (map (line_of_step vars) proof.steps) h) k) (last_written proof.last e, tt)

-- ---- proofs without cuts

learn_near : (step : Step) → IsLearnStep step → IsNearStep step
learn_near (steps.Learn clause hints) h = tt
learn_near (steps.Cut cut) h = absurd h

all_near : (proof : Proof) → HasNoCut proof → AllByRecursion IsNearStep proof.steps
all_near proof h = recursion_from_All IsNearStep proof.steps (All-weaker IsLearnStep IsNearStep learn_near proof.steps h)

pub refuted_without : (version : Version) (g : Geometry) (shape : List Cell) (j size : ℕ) (proof : Proof) → RefutesCoronas version g shape j size proof → HasNoCut proof → AllByRecursion IsLineIf (proof_lines proof)
refuted_without version g shape j size proof r h = written r.vars r.count r.clauses proof r.refutes.lines (all_near proof h) (final_ends _ proof.last r.refutes.final)

pub spent_without : (version : Version) (g : Geometry) (shape : List Cell) (j turns size : ℕ) (proof : Proof) → IsSpentOnCoronas version g shape j turns size proof → HasNoCut proof → AllByRecursion IsLineIf (proof_lines proof)
spent_without version g shape j turns size proof r h = written r.vars r.count r.clauses proof r.is_spent.lines (all_near proof h) (spent_ends proof.last r.is_spent.unfinished)

pub settled : (g : Geometry) (shape : List Cell) (turns : ℕ) (t : Triple) (proof : Proof) → SettlesTriple g shape turns t proof → AllByRecursion IsLineIf (proof_lines proof)
settled g shape turns t proof s = by_end s.settled
  where
    by_end : RefutesTorus g shape t (log_of [] proof) ⊎ IsSpentOnTorus g shape turns t (log_of [] proof) → AllByRecursion IsLineIf (proof_lines proof)
    by_end (inl r) = written [] (length r.vars) r.clauses proof r.refutes.lines (all_near proof s.no_cut) (final_ends _ proof.last r.refutes.final)
    by_end (inr r) = written [] (length r.vars) r.clauses proof r.is_spent.lines (all_near proof s.no_cut) (spent_ends proof.last r.is_spent.unfinished)

-- ---- proofs with cuts

module _ (near : HolesAreNear) (version : Version) (g : Geometry) (law : IsGrid g) (n : ℕ) (shape : List Cell) (low : 1 ≤ n) (high : n ≤ 32) (free : IsFreePolyform g n shape) (j : ℕ) (j_low : 1 ≤ j) (j_high : j ≤ 6) where
  lawful_near : (vars : List Variable) (count : ℕ) (clauses : List (List Lit)) → IsCountedFormula version g shape j vars count clauses → (step : Step) → IsLawfulStep g shape j vars step → IsNearStep step
  lawful_near vars count clauses f (steps.Learn clause hints) h = tt
  lawful_near vars count clauses f (steps.Cut cut) h = near version g law n shape j vars count clauses cut low high free j_low j_high f h

  cuts_near : (vars : List Variable) (count : ℕ) (clauses : List (List Lit)) → IsCountedFormula version g shape j vars count clauses → (done : List Step) → All (IsLawfulStep g shape j vars) done → AllByRecursion IsNearStep done
  cuts_near vars count clauses f done h = recursion_from_All IsNearStep done (All-weaker (IsLawfulStep g shape j vars) IsNearStep (lawful_near vars count clauses f) done h)

  pub refuted : (size : ℕ) (proof : Proof) → RefutesCoronas version g shape j size proof → AllByRecursion IsLineIf (proof_lines proof)
  refuted size proof r = written r.vars r.count r.clauses proof r.refutes.lines (cuts_near r.vars r.count r.clauses r.formula proof.steps r.lawful) (final_ends _ proof.last r.refutes.final)

  pub spent : (turns size : ℕ) (proof : Proof) → IsSpentOnCoronas version g shape j turns size proof → AllByRecursion IsLineIf (proof_lines proof)
  spent turns size proof r = written r.vars r.count r.clauses proof r.is_spent.lines (cuts_near r.vars r.count r.clauses r.formula proof.steps r.lawful) (spent_ends proof.last r.is_spent.unfinished)
