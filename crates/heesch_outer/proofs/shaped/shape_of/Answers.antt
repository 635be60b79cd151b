use Rattle.std.proofs.Common.{◌≡◌, refl, sym, subst, true, List, Result}
use Rattle.std.specs.Prelude.{IfErr, IfOk, IsOk, Ok, Err}
use Rattle.heesch_grid.specs.declared.Cell.{Cell}
use Rattle.heesch_grid.specs.Cells.{IsCellListOf, has}
use Rattle.heesch_grid.specs.Geometry.{Geometry, IsGrid}
use Rattle.heesch_grid.specs.Polyform.{IsCanonicalListOf}
use Rattle.heesch_grid.specs.Vectors.{IsWithin}
use Rattle.heesch_shape.specs.Walks.{IsShape}
use Rattle.heesch_shape.specs.Faults.{IsFault}
use Rattle.heesch_shape.specs.declared.faults.ShapeFault.{ShapeFault}
use Rattle.heesch_logs.proofs.Equal.{all_has}
use Rattle.heesch_audit.specs.Shapes.{AreCanonical, IsCanonicalShape}
use Rattle.heesch_audit.proofs.Canonical.{form_of, no_fault, shape_itself}
use Rattle.heesch_outer.proofs.Entries.{cells_near}
use Rattle.heesch_outer.proofs.shaped.shape_of.Goals as goal

never_err : {S E : Type 0} (P : E → Type 0) → ((e : E) → ¬ P e) → (r : Result S E) → IfErr r P → IsOk r
never_err P never (Ok s) h = refl
never_err P never (Err e) h = absurd (never e h)

module _ (g : Geometry) (law : IsGrid g) (cells : List Cell) (are : AreCanonical g cells) where
  near : (c : Cell) → has cells c ≡ true → IsWithin 100000 c
  near = all_has 100000 cells (cells_near g law cells are)

  canonical : (shape : List Cell) → IsShape g shape → shape ≡ cells → IsCanonicalShape g shape
  canonical shape form same = record {
    is_shape = form;
    canonical = subst (λ s. IsCanonicalListOf g s s) (sym same) (form_of g law cells are).canonical;
    near = λ c h. near c (subst (λ s. has s c ≡ true) same h);
  }

pub of-requires : goal.of-requires
of-requires g c = near g.G.Grid.geometry g.met.G.Grid.laws c.args.cells.now c.requires

pub unwrap-requires : goal.unwrap-requires
unwrap-requires g c =
    let geometry = g.G.Grid.geometry in
    let cells = c.args.cells.now in
    let never : (f : ShapeFault) → ¬ IsFault geometry cells f = λ f h. no_fault geometry g.met.G.Grid.laws cells f h c.requires in
    never_err (IsFault geometry cells) never c.of.result c.of.ensures.fault

pub returns-clause-same : goal.returns-clause-same
returns-clause-same g c =
    let cells = c.args.cells.now in
    let geometry = g.G.Grid.geometry in
    shape_itself geometry g.met.G.Grid.laws cells c.unwrap.result (subst (λ r. IfOk r (IsShape geometry)) c.unwrap.ensures c.of.ensures.shape) (subst (λ r. IfOk r (λ s. IsCellListOf cells s)) c.unwrap.ensures c.of.ensures.list) c.requires

pub returns-clause-canonical : goal.returns-clause-canonical
returns-clause-canonical g c =
    let cells = c.args.cells.now in
    let geometry = g.G.Grid.geometry in
    let form : IsShape geometry c.unwrap.result = subst (λ r. IfOk r (IsShape geometry)) c.unwrap.ensures c.of.ensures.shape in
    canonical geometry g.met.G.Grid.laws cells c.requires c.unwrap.result form
    (shape_itself geometry g.met.G.Grid.laws cells c.unwrap.result form (subst (λ r. IfOk r (λ s. IsCellListOf cells s)) c.unwrap.ensures c.of.ensures.list) c.requires)
