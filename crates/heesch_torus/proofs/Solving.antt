-- What a solver that was opened on a formula and asked once has found.
use Rattle.std.proofs.Common.{◌≡◌, sym, ap, subst, ◌∙◌, ℕ, List, [], ◌++◌, length, Bool}
use Rattle.std.specs.Prelude.{None}
use Rattle.std.proofs.lemmas.List.Elements.{All-contains, Contains-append_left}
use Rattle.heesch_cnf.specs.declared.literal.Lit.{Lit}
use Rattle.heesch_cnf.specs.declared.log.Line.{Line}
use Rattle.heesch_cnf.specs.declared.log.Line.TheVariants.{Learn, Given}
use Rattle.heesch_cnf.specs.declared.log.Log.{Log}
use Rattle.heesch_cnf.specs.Clauses.{IsSatisfied, Satisfies}
use Rattle.heesch_cnf.specs.Lines.{clauses_of, clauses_with, FinalHolds, LinesAreNew, Refutes, IsSpent}
use Rattle.heesch_cnf.specs.Meaning.{IsLearn, LearnsAlone}
use Rattle.heesch_cdcl.specs.Learning.{LearnsMore}
use Rattle.heesch_cdcl.specs.Problem.{Problem, IsSolver, SameProblem}
use Rattle.heesch_cnf.specs.Clauses.{assignment_of}
use Rattle.heesch_cdcl.specs.Found.{IsFound}
use Rattle.heesch_cdcl.specs.declared.solver.Found.TheVariants.{Model, Refuted, Spent}
use Rattle.heesch_cert.specs.Proofs.{IsLearnLine, HasNoGiven}
use Rattle.heesch_grid.proofs.ListFacts.{All-from_members}

abbrev opened : ℕ → List (List Lit) → ℕ → Problem
opened vars clauses turns = record { vars = vars; clauses = clauses; turns = turns; log = record { lines = []; last = None }; model = None }

first_ones : (v : ℕ → Bool) (xs ys : List (List Lit)) → Satisfies v (xs ++ ys) → Satisfies v xs
first_ones v xs ys s = All-from_members (IsSatisfied v) xs (λ c m. All-contains (IsSatisfied v) (xs ++ ys) c s (Contains-append_left xs ys c m))

module _ (vars : ℕ) (clauses : List (List Lit)) (turns : ℕ) (old new : Problem) (is : old ≡ opened vars clauses turns) (same : SameProblem old new) where
  vars_is : new.vars ≡ vars
  vars_is = same.vars ∙ ap (λ (p : Problem). p.vars) is

  clauses_is : new.clauses ≡ clauses
  clauses_is = same.clauses ∙ ap (λ (p : Problem). p.clauses) is

  turns_is : new.turns ≡ turns
  turns_is = same.turns ∙ ap (λ (p : Problem). p.turns) is

  pub solved_model : (values : List Bool) → IsFound new (Model values) → (length values ≡ vars) × Satisfies (assignment_of values) clauses
  solved_model values found =
      let model = found.1 in
      (model.count ∙ vars_is, subst (Satisfies (assignment_of values)) clauses_is (first_ones (assignment_of values) new.clauses (clauses_of new.log.lines) model.satisfies))

  alone : LearnsMore old.log.lines new.log.lines → LearnsAlone new.log.lines
  alone learns = subst LearnsAlone (sym (learns.1.0 ∙ ap (λ (p : Problem). p.log.lines ++ learns.0) is)) learns.1.1

  pub solved_refuted : (log : Log) → log ≡ new.log → LearnsMore old.log.lines new.log.lines → IsSolver new → IsFound new Refuted → LearnsAlone log.lines × Refutes vars clauses log × LinesAreNew clauses log.lines
  solved_refuted log e learns valid found =
      subst (λ (l : Log). LearnsAlone l.lines × Refutes vars clauses l × LinesAreNew clauses l.lines) (sym e)
      (alone learns, subst (λ n. Refutes n clauses new.log) vars_is (subst (λ cs. Refutes new.vars cs new.log) clauses_is found), subst (λ cs. LinesAreNew cs new.log.lines) clauses_is valid.fresh)

  pub solved_spent : (log : Log) → log ≡ new.log → LearnsMore old.log.lines new.log.lines → IsSolver new → IsFound new Spent → LearnsAlone log.lines × IsSpent vars clauses turns log × ((hints : List ℕ) → ¬ FinalHolds (clauses_with clauses log.lines) hints)
  solved_spent log e learns valid found =
      let spent : IsSpent new.vars new.clauses new.turns new.log = record { used = found.0; lines = valid.hold; new_lines = valid.fresh; unfinished = found.1.0 } in
      subst (λ (l : Log). LearnsAlone l.lines × IsSpent vars clauses turns l × ((hints : List ℕ) → ¬ FinalHolds (clauses_with clauses l.lines) hints)) (sym e) (
        alone learns,
        subst (λ n. IsSpent n clauses turns new.log) vars_is (subst (λ cs. IsSpent new.vars cs turns new.log) clauses_is (subst (λ k. IsSpent new.vars new.clauses k new.log) turns_is spent)),
        subst (λ (cs : List (List Lit)). (hints : List ℕ) → ¬ FinalHolds (clauses_with cs new.log.lines) hints) clauses_is found.1.1,
      )

learn_line : (line : Line) → IsLearn line → IsLearnLine line
learn_line (Learn clause hints) h = h
learn_line (Given clause) h = h

pub none_given : (log : Log) → LearnsAlone log.lines → HasNoGiven log
none_given log alone = λ k d l. learn_line _ (alone k d l)
