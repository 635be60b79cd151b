use Rattle.std.proofs.Common.{◌≡◌, ℕ, ◌+◌, ◌≤◌, List, [], ◌∷◌, map, length, get_or, true, false, refl, sym, ap, ◌∙◌, subst, arith}
use Rattle.std.proofs.lemmas.List.{length-map}
use Rattle.heesch_cnf.specs.Flat.{Clauses}
use Rattle.heesch_cert.specs.Literals.{literals}
use Rattle.heesch_tiling.specs.Counting.{in_window}
use Rattle.heesch_torus.specs.Covering.{AreNumbers, lists_before}
use Rattle.heesch_torus.specs.Formula.{AddsClauses}
use Rattle.heesch_torus.specs.Variables.{TorusVariable, sets_of}
use Rattle.heesch_torus.proofs.Formulas.{lists_few}
use Rattle.heesch_torus.proofs.Numbering.{covering_numbers, one_longer, adds_list, adds_no_list}
use Rattle.heesch_torus.proofs.clauses.covering_clauses.Goals as goal
use Rattle.heesch_torus.proofs.clauses.covering_clauses.Goals.{then-is_cell+in_ok-add_clause, else-is_cell}

pub pair_at-requires : goal.pair_at-requires
pair_at-requires g c =
    let incidence = c.args.incidence.now in
    let few = lists_few g.G.Grid.geometry g.met.G.Grid.laws incidence.sets.now.triple incidence.small (sets_of incidence.sets.now.variables.now) incidence.lists.now incidence.covering incidence.lists.now refl in
    omega (arith, few, c.loop-k-test.true)

pub add_clause-requires-clause-room : goal.add_clause-requires-clause-room
add_clause-requires-clause-room g c =
    let incidence = c.args.incidence.now in
    let few = lists_few g.G.Grid.geometry g.met.G.Grid.laws incidence.sets.now.triple incidence.small (sets_of incidence.sets.now.variables.now) incidence.lists.now incidence.covering incidence.lists.now refl in
    omega (arith, few, c.loop-k-test.true, c.loop-k.invariant.few)

pub add_clause-requires-clause-numbers : goal.add_clause-requires-clause-numbers
add_clause-requires-clause-numbers g c =
    let incidence = c.args.incidence.now in
    let list : List ℕ = c.as_slice.result.now in
    let count : length (sets_of c.args.incidence.now.sets.now.variables.now) ≡ c.loop-k.formula.vars = length-map c.args.incidence.now.sets.now.variables.now (λ (x : TorusVariable). x.cells) ∙ sym c.loop-k.invariant.adds.same in
    let is : c.as_slice.result.now ≡ get_or c.args.incidence.now.lists.now c.loop-k.k c.as_slice.result.now = subst (λ (l : List ℕ). l ≡ get_or c.args.incidence.now.lists.now c.loop-k.k l) (sym c.as_slice.ensures) c.index-lists-k.is in
    subst (λ n. AreNumbers n c.as_slice.result.now) count
    (subst (AreNumbers (length (sets_of c.args.incidence.now.sets.now.variables.now))) (sym is) (covering_numbers g.G.Grid.geometry incidence.sets.now.triple (sets_of incidence.sets.now.variables.now) incidence.lists.now incidence.covering c.loop-k.k list c.loop-k-test.true))

pub loop-k-preserved : goal.loop-k-preserved
loop-k-preserved g c =
    let lists = c.args.incidence.now.lists.now in
    let vars = length c.args.incidence.now.sets.now.variables.now in
    elim c.if-is_cell.branch [
      | then-is_cell+in_ok-add_clause w ↦
          let cell : g.G.Grid.geometry.is_cell (in_window g.G.Grid.geometry c.args.incidence.now.sets.now.triple c.loop-k.k) ≡ true = ap g.G.Grid.geometry.is_cell (sym c.pair_at.ensures.is) ∙ sym c.is_cell.ensures ∙ w.if-is_cell.true in
          let new = w.add_clause.new.formula in
          let list = c.index-lists-k.result in
          let adds : AddsClauses (map (map literals.plus) (lists_before g.G.Grid.geometry c.args.incidence.now.sets.now.triple c.args.incidence.now.lists.now (c.loop-k.k + 1))) (length c.args.incidence.now.sets.now.variables.now) [] w.add_clause.new.formula.vars w.add_clause.new.formula.clauses =
          adds_list g.G.Grid.geometry c.args.incidence.now.sets.now.triple lists c.loop-k.k list vars [] c.loop-k.formula.vars c.loop-k.formula.clauses new.vars new.clauses cell c.loop-k-test.true c.index-lists-k.is c.loop-k.invariant.adds
          (subst (λ (l : List ℕ). AddsClauses (map literals.plus l ∷ []) c.loop-k.formula.vars c.loop-k.formula.clauses w.add_clause.new.formula.vars w.add_clause.new.formula.clauses) w.as_slice.ensures w.in_ok-add_clause.ensures) in
          record {
            adds = subst (λ (f : Clauses). AddsClauses (map (map literals.plus) (lists_before g.G.Grid.geometry c.args.incidence.now.sets.now.triple c.args.incidence.now.lists.now (c.loop-k.k + 1))) (length c.args.incidence.now.sets.now.variables.now) [] f.vars f.clauses) (sym w.formula-is) adds;
            few = subst (λ (f : Clauses). length f.clauses ≤ c.loop-k.k + 1) (sym w.formula-is) (let before = c.loop-k.invariant.few in let more = one_longer c.loop-k.formula.clauses (map literals.plus w.as_slice.result.now) new.clauses 0 c.loop-k.k w.in_ok-add_clause.ensures.clauses (omega (arith, before)) in omega (arith, more));
          }
      | else-is_cell w ↦
          let none : g.G.Grid.geometry.is_cell (in_window g.G.Grid.geometry c.args.incidence.now.sets.now.triple c.loop-k.k) ≡ false = ap g.G.Grid.geometry.is_cell (sym c.pair_at.ensures.is) ∙ sym c.is_cell.ensures ∙ w.if-is_cell.false in
          let adds : AddsClauses (map (map literals.plus) (lists_before g.G.Grid.geometry c.args.incidence.now.sets.now.triple c.args.incidence.now.lists.now (c.loop-k.k + 1))) (length c.args.incidence.now.sets.now.variables.now) [] c.loop-k.formula.vars c.loop-k.formula.clauses =
          adds_no_list g.G.Grid.geometry c.args.incidence.now.sets.now.triple lists c.loop-k.k vars [] c.loop-k.formula.vars c.loop-k.formula.clauses none c.loop-k.invariant.adds in
          record {
            adds = subst (λ (f : Clauses). AddsClauses (map (map literals.plus) (lists_before g.G.Grid.geometry c.args.incidence.now.sets.now.triple c.args.incidence.now.lists.now (c.loop-k.k + 1))) (length c.args.incidence.now.sets.now.variables.now) [] f.vars f.clauses) (sym w.formula-is) adds;
            few = subst (λ (f : Clauses). length f.clauses ≤ c.loop-k.k + 1) (sym w.formula-is) (let few = c.loop-k.invariant.few in omega (arith, few));
          }
    ]

pub returns-clause-few : goal.returns-clause-few
returns-clause-few g c =
    let incidence = c.args.incidence.now in
    let few = lists_few g.G.Grid.geometry g.met.G.Grid.laws incidence.sets.now.triple incidence.small (sets_of incidence.sets.now.variables.now) incidence.lists.now incidence.covering incidence.lists.now refl in
    omega (arith, few, c.loop-k.invariant.few, c.loop-k.auto.k-end)
