use Rattle.std.proofs.Common.{◌≡◌, List, true, refl, sym, inl, inr, ◌∙◌, Contains, subst, true≢false}
use Rattle.std.specs.Prelude.{◌↔◌}
use Rattle.arrayvec.specs.ArrayVec.{ArrayVec}
use Rattle.heesch_grid.specs.declared.Cell.{Cell}
use Rattle.heesch_torus.specs.Variables.{TorusVariable, sets_of}
use Rattle.heesch_torus.proofs.Finding.{found_exactly, adds_seen}
use Rattle.heesch_torus.proofs.found.Found.add.Goals as goal
use Rattle.heesch_torus.proofs.found.Found.add.Goals.{After-contains_key}

-- the look-up finds the set exactly where it is there
found : (c : After-contains_key) → (c.contains_key.result ≡ true) ↔ Contains (sets_of c.args.self.now) c.args.set.items
found c =
    subst (λ (vs : List TorusVariable). (c.contains_key.result ≡ true) ↔ Contains (sets_of vs) c.args.set.items) c.self.view_is
    (found_exactly (λ (k : ArrayVec Cell). k.items) c.args.set.items c.self.inside.sets.entries c.contains_key.result c.contains_key.ensures)

pub returns-then-contains_key : goal.returns-then-contains_key
returns-then-contains_key c = inl ((found (goal.at.returns-then-contains_key c).After-contains_key).0 c.if-contains_key.true, refl)

pub returns : goal.returns
returns c =
    let fresh : ¬ Contains (sets_of c.args.self.now) c.args.set.items = λ m. true≢false (sym ((found (goal.at.returns c).After-contains_key).1 m) ∙ c.if-contains_key.false) in
    inr (fresh, adds_seen (λ (k : ArrayVec Cell). k.items) c.args.set c.args.by c.self.inside.sets.entries c.insert.new.self.entries c.args.self.now c.in_ok-insert.ensures.entries c.self.view_is fresh)
