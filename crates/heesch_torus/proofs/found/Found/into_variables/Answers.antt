use Rattle.std.proofs.Common.{List, ap, subst, sym, ◌∙◌}
use Rattle.std.proofs.lemmas.List.{map-id}
use Rattle.std.proofs.lemmas.Map.Iter.{iter_end}
use Rattle.arrayvec.specs.ArrayVec.{ArrayVec}
use Rattle.heesch_grid.specs.declared.Cell.{Cell}
use Rattle.heesch_grid.specs.declared.isometries.Iso.{Iso}
use Rattle.heesch_grid.specs.Cells.{cells_before}
use Rattle.heesch_grid.specs.Listing.{IsRising}
use Rattle.heesch_torus.specs.Variables.{TorusVariable, sets_of}
use Rattle.heesch_torus.proofs.Finding.{seen, rising_seen}
use Rattle.heesch_torus.proofs.found.Found.into_variables.Goals as goal

pub returns-in_err-push-clause-rising : goal.returns-in_err-push-clause-rising
returns-in_err-push-clause-rising c = subst (λ (vs : List TorusVariable). IsRising cells_before (sets_of vs)) c.self.view_is (rising_seen (λ (k : ArrayVec Cell). k.items) c.self.inside.sets.entries c.into_iter-residues-iterator.ensures.into_iter_gives.5)

pub returns-clause-rising : goal.returns-clause-rising
returns-clause-rising c = subst (λ (vs : List TorusVariable). IsRising cells_before (sets_of vs)) c.self.view_is (rising_seen (λ (k : ArrayVec Cell). k.items) c.self.inside.sets.entries c.into_iter-residues-iterator.ensures.into_iter_gives.5)

pub returns-clause-all : goal.returns-clause-all
returns-clause-all c =
    let all = iter_end (λ (p : ArrayVec Cell × Iso). p) c.self.inside.sets.entries c.loop-residues.yielded c.into_iter-residues-iterator.result c.loop-residues.residues-iterator c.next.new.self c.next.result c.into_iter-residues-iterator.ensures.into_iter_gives.0 c.loop-residues.yielded_by c.in-None.is c.next.ensures.steps in
    c.loop-residues.invariant ∙ ap (seen (λ (k : ArrayVec Cell). k.items)) (sym (map-id c.loop-residues.yielded) ∙ all.0) ∙ c.self.view_is
