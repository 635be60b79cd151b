use Rattle.std.proofs.Common.{◌+◌, ◌-◌, ◌≤◌, length, sym, ap, subst}
use Rattle.heesch_cnf.specs.Flat.{Clauses}
use Rattle.heesch_torus.specs.Formula.{AddsClauses, marked_among}
use Rattle.heesch_torus.proofs.Excluding.{adds_marked, adds_unmarked, pair_few, no_pair_few}
use Rattle.heesch_torus.proofs.pairs.add_marked.Goals as goal
use Rattle.heesch_torus.proofs.pairs.add_marked.Goals.{then-marks-other+in_ok-add, else-marks-other}

pub loop-other-preserved : goal.loop-other-preserved
loop-other-preserved c =
    let old = c.args.formula.now in
    let mid = c.loop-other.formula in
    let u = c.args.at + 1 in
    let v = c.loop-other.other in
    let low = c.loop-other.auto.other in
    elim c.if-marks-other.branch [
      | then-marks-other+in_ok-add w ↦
          let new = w.add.new.self in
          let adds : AddsClauses (marked_among c.args.marks.now (c.args.at + 1) (c.loop-other.other + 1 - ((c.args.at + 1) + 1))) c.args.formula.now.vars c.args.formula.now.clauses w.add.new.self.vars w.add.new.self.clauses =
          adds_marked c.args.marks.now u v low old.vars old.clauses mid.vars mid.clauses w.pair_clause.result new.vars new.clauses w.if-marks-other.true w.pair_clause.ensures (ap (λ (f : Clauses). f.vars) w.in_ok-add.ensures.ok) (ap (λ (f : Clauses). f.clauses) w.in_ok-add.ensures.ok) c.loop-other.invariant.adds in
          record {
            adds = subst (λ (f : Clauses). AddsClauses (marked_among c.args.marks.now (c.args.at + 1) (c.loop-other.other + 1 - ((c.args.at + 1) + 1))) c.args.formula.now.vars c.args.formula.now.clauses f.vars f.clauses) (sym w.formula-is) adds;
            few = subst (λ (f : Clauses). length f.clauses ≤ length c.args.formula.now.clauses + (c.loop-other.other + 1 - ((c.args.at + 1) + 1))) (sym w.formula-is) (pair_few mid.clauses w.pair_clause.result new.clauses (length old.clauses) u v low (ap (λ (f : Clauses). f.clauses) w.in_ok-add.ensures.ok) c.loop-other.invariant.few);
          }
      | else-marks-other w ↦
          let adds : AddsClauses (marked_among c.args.marks.now (c.args.at + 1) (c.loop-other.other + 1 - ((c.args.at + 1) + 1))) c.args.formula.now.vars c.args.formula.now.clauses c.loop-other.formula.vars c.loop-other.formula.clauses =
          adds_unmarked c.args.marks.now u v low old.vars old.clauses mid.vars mid.clauses w.if-marks-other.false c.loop-other.invariant.adds in
          record {
            adds = subst (λ (f : Clauses). AddsClauses (marked_among c.args.marks.now (c.args.at + 1) (c.loop-other.other + 1 - ((c.args.at + 1) + 1))) c.args.formula.now.vars c.args.formula.now.clauses f.vars f.clauses) (sym w.formula-is) adds;
            few = subst (λ (f : Clauses). length f.clauses ≤ length c.args.formula.now.clauses + (c.loop-other.other + 1 - ((c.args.at + 1) + 1))) (sym w.formula-is) (no_pair_few (length mid.clauses) (length old.clauses) u v low c.loop-other.invariant.few);
          }
    ]
