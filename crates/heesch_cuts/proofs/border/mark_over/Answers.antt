use Rattle.std.proofs.Common.{◌≡◌, ◌≤◌, ℕ, true, length, sym, ap, subst, ◌∙◌, All, set, arith}
use Rattle.std.proofs.lemmas.List.Elements.{All-weaker}
use Rattle.heesch_place.specs.Universes.{covering}
use Rattle.heesch_cuts.specs.Marks.{is_in}
use Rattle.heesch_cuts.proofs.Covering.{covering_range}
use Rattle.heesch_cuts.proofs.Marking.{marked-set_same}
use Rattle.heesch_cuts.proofs.Bordering.{chosen_of, chosen_more, covered_by, number_below}
use Rattle.heesch_cuts.proofs.border.mark_over.Given as given
use Rattle.heesch_cuts.proofs.border.mark_over.Goals as goal
use Rattle.heesch_cuts.proofs.border.mark_over.Goals.{In-Some}

pub first_chosen-requires : goal.first_chosen-requires
first_chosen-requires g c =
    let vars = c.args.universe.now.vars in
    let most = length c.args.model.now in
    let fits : (n : ℕ) → (1 ≤ n) × (n ≤ length vars) → (1 ≤ n) × (n ≤ most) = λ n h. (h.0, let l = h.1 in let v = c.requires.values in omega (arith, l, v)) in
    subst (λ ns. All (λ n. (1 ≤ n) × (n ≤ most)) ns) (sym c.covered_by.ensures) (All-weaker (λ n. (1 ≤ n) × (n ≤ length vars)) (λ n. (1 ≤ n) × (n ≤ most)) fits (covering vars c.args.level c.args.d) (covering_range vars c.args.level c.args.d))

-- the number is that of a variable over the cell
over : (g : given.Over) (c : In-Some g) → is_in (covering c.args.universe.now.vars c.args.level c.args.d) c.in-Some.n ≡ true
over g c = ap (λ ns. is_in ns c.in-Some.n) (sym c.covered_by.ensures) ∙ c.in-Some.ensures.some.0

pub bounds-marks-n : goal.bounds-marks-n
bounds-marks-n g c = number_below c.args.universe.now.vars c.args.level c.args.d c.in-Some.n (length c.args.marks.now) c.requires.room (over g (goal.at.bounds-marks-n g c).In-Some)

pub returns-in-Some-clause-chosen : goal.returns-in-Some-clause-chosen
returns-in-Some-clause-chosen g c =
    let vars = c.args.universe.now.vars in
    let n = c.in-Some.n in
    chosen_more vars c.args.model.now c.args.level c.args.marks.now n c.requires.chosen (chosen_of vars c.args.model.now c.args.level c.args.d n (over g (goal.at.returns-in-Some-clause-chosen g c).In-Some) c.in-Some.ensures.some.1)

pub returns-in-Some-clause-covered : goal.returns-in-Some-clause-covered
returns-in-Some-clause-covered g c =
    let vars = c.args.universe.now.vars in
    let n = c.in-Some.n in
    let marks = c.args.marks.now in
    let i = over g (goal.at.returns-in-Some-clause-covered g c).In-Some in
    λ _. covered_by vars c.args.model.now c.args.level (set marks n true) c.args.d n i (marked-set_same marks n (number_below vars c.args.level c.args.d n (length marks) c.requires.room i))
