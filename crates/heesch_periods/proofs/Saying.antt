-- What a judged log says of covers of the triple.
use Rattle.std.proofs.Common.{subst, ℕ, ◌^◌, ◌≤◌, List, length}
use Rattle.heesch_grid.specs.declared.Cell.{Cell}
use Rattle.heesch_grid.specs.Geometry.{Geometry, IsGrid}
use Rattle.heesch_grid.specs.Lattice.{Triple, IsTriple}
use Rattle.heesch_grid.specs.Polyform.{IsPolyform}
use Rattle.heesch_cnf.specs.declared.literal.Lit.{Lit}
use Rattle.heesch_cnf.specs.declared.log.Log.{Log}
use Rattle.heesch_cnf.specs.Lines.{IsSpent, Refutes, clauses_with}
use Rattle.heesch_cdcl.proofs.Counting.{few_lines}
use Rattle.heesch_cdcl.proofs.Newness.{no_final}
use Rattle.heesch_cert.specs.Proofs.{RefutesTorus}
use Rattle.heesch_cert.proofs.TorusSound.{refuted_torus_means_no_cover}
use Rattle.heesch_torus.specs.Answer.{IsRefutation, IsSpentSearch}
use Rattle.heesch_torus.specs.Formula.{IsFormulaOf}
use Rattle.heesch_torus.proofs.Solving.{none_given}
use Rattle.heesch_periods.specs.Judged.{IsSpentAlone, RefutesAlone}

module _ (g : Geometry) (shape : List Cell) (t : Triple) (count : ℕ) (clauses : List (List Lit)) (is : IsFormulaOf g shape t count clauses) (log : Log) where
  pub refutation : IsGrid g → IsPolyform g shape → IsTriple t → RefutesAlone count clauses log → IsRefutation g shape t log
  refutation law form triple r =
      let none = none_given log r.alone in
      let refutes : RefutesTorus g shape t log = record { vars = is.sets; clauses = clauses; is_formula = is.is_formula; refutes = subst (λ n. Refutes n clauses log) is.count r.refutes.refutes } in
      record {
        alone = none;
        refutes = refutes;
        new_lines = record { sets = is.sets; clauses = clauses; is_formula = is.is_formula; new_lines = r.refutes.new_lines };
        none = refuted_torus_means_no_cover g shape t log law form triple none refutes;
      }

  pub spent_search : (turns : ℕ) → IsSpentAlone count clauses turns log → IsSpentSearch g shape t turns log
  spent_search turns r =
      let spent : IsSpent (length is.sets) clauses turns log = subst (λ n. IsSpent n clauses turns log) is.count r.is_spent.is_spent in
      let open_still = r.is_spent.open_still in
      record {
        alone = none_given log r.alone;
        spent = record { vars = is.sets; clauses = clauses; is_formula = is.is_formula; is_spent = spent };
        unfinished = record {
          sets = is.sets;
          clauses = clauses;
          is_formula = is.is_formula;
          no_final = λ hints final. no_final open_still.0 (clauses_with clauses log.lines) hints open_still.1 final;
          few = subst (λ n. n ≤ 3 ^ length is.sets) spent.used (few_lines (length is.sets) clauses log.lines spent.lines spent.new_lines);
        };
      }
