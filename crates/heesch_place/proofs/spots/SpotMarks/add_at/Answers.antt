use Rattle.std.proofs.Common.{◌≡◌, ℕ, ◌+◌, ◌-◌, ◌*◌, Bool, List, ◌++◌, take, drop, length, ap, sym, subst, ◌∙◌, arith}
use Rattle.heesch_place.specs.Found.{FromOne, Joins}
use Rattle.heesch_place.specs.Spots.{IsSet, MarkedSpots, cell_place, width}
use Rattle.heesch_place.proofs.Marks.{rewritten}
use Rattle.heesch_place.proofs.spots.SpotMarks.add_at.Goals as goal
use Rattle.heesch_place.proofs.spots.SpotMarks.add_at.Goals.{After-as_mut_slice}

abbrev base : After-as_mut_slice → ℕ
base c = let m = c.args.self.now in cell_place (width m.radius) (m.radius - c.args.reach) c.args.c * m.forms

-- the place as the code computes it, and the marks as it sees them
base_is : (c : After-as_mut_slice) → c.cell_place.result * c.self.inside.forms ≡ base c
base_is c =
    let m = c.args.self.now in
    ap (λ n. n * c.self.inside.forms) (c.cell_place.ensures.is ∙ ap (λ r. cell_place (width m.radius) (r - c.args.reach) c.args.c) (ap (λ (m : MarkedSpots). m.radius) c.self.view_is))
    ∙ ap (λ k. cell_place (width m.radius) (m.radius - c.args.reach) c.args.c * k) (ap (λ (m : MarkedSpots). m.forms) c.self.view_is)

marks_are : (c : After-as_mut_slice) → c.as_mut_slice.result.now ≡ c.args.self.now.marks
marks_are c = c.as_mut_slice.ensures.value ∙ ap (λ (m : MarkedSpots). m.marks) c.self.view_is

pub set_all-requires : goal.set_all-requires
set_all-requires c offset m =
    let h = c.requires.places offset m in
    omega (arith, h, base_is c, ap length (marks_are c))

pub returns-clause-added : goal.returns-clause-added
returns-clause-added c =
    let at = (goal.at.returns-clause-added c).After-as_mut_slice in
    let J : ℕ → List Bool → List Bool → Type 0 = λ b old new. Joins (FromOne (λ offset place. place ≡ b + offset) c.args.offsets.now) (IsSet old) (IsSet new) in
    let new = c.set_all.new.marks in
    let whole = rewritten c.self.inside.marks.len new c.self.inside.marks.items (omega (arith, c.self.inside.marks.ok.0, ap length c.as_mut_slice.ensures.value, c.set_all.auto.marks)) in
    let all = take c.self.inside.marks.len (new ++ drop (length new) c.self.inside.marks.items) in
    subst (λ b. J b c.args.self.now.marks all) (base_is at) (subst (λ o. J (c.cell_place.result * c.self.inside.forms) o all) (marks_are at) (subst (λ n. J (c.cell_place.result * c.self.inside.forms) c.as_mut_slice.result.now n) (sym whole) c.set_all.ensures))
