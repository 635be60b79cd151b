use Rattle.std.proofs.Common.{◌≡◌, List, [], ◌∷◌, ◌++◌, take, Err, refl, sym, subst, ◌∙◌, inl, inr, rules}
use Rattle.std.specs.List.{AllByRecursion}
use Rattle.std.proofs.ByRecursion as recursive
use Rattle.heesch_grid.specs.declared.Cell.{Cell}
use Rattle.heesch_grid.specs.Vectors.{IsWithin}
use Rattle.heesch_line.specs.Lists.{AreCells}
use Rattle.heesch_line.specs.Scanning.{IsScanned}
use Rattle.heesch_shape.specs.Faults.{IsFault, IsFaultless}
use Rattle.heesch_given.specs.Given.{IsCanonicalOf, IsNoShape}
use Rattle.heesch_given.specs.Steps.{EndsLine}
use Rattle.heesch_given.proofs.Reading.{shape_line, no_shape}
use Rattle.heesch_given.proofs.lines.GivenLines.end_line.Goals as goal

pub returns-in-Err-NotALine : goal.returns-in-Err-NotALine
returns-in-Err-NotALine g c = λ line scanned.
    let none = rw c.in-Err-NotALine.field-0-is at c.in-Err-NotALine.ensures.none in
    let read : IsScanned line c.replace-line.result = subst (IsScanned line) (sym c.replace-line.ensures.value) scanned in
    subst (λ e. EndsLine g.G.Grid.geometry line c.args.self.now.shapes.items c.args.self.now.shapes.items c.replace-line.new.dest (Err e)) (sym c.fault.ensures) (refl, inr (none line read refl, refl))

pub canonical_of-requires : goal.canonical_of-requires
canonical_of-requires g c =
    let line = c.requires.0 in
    let read : IsScanned line c.replace-line.result = subst (IsScanned line) (sym c.replace-line.ensures.value) c.requires.1 in
    let l = c.in-Ok.ensures.ok line read in
    near l.all c.as_slice.result.now l.are (c.as_slice.ensures ∙ l.first_are)
  where
    near : (all first : List Cell) → AreCells all → first ≡ take 33 all → AllByRecursion (IsWithin 100000) first
    near all first are same = subst (AllByRecursion (IsWithin 100000)) (sym same) (recursive.All-take (IsWithin 100000) 33 all are)

pub returns-in-Err : goal.returns-in-Err
returns-in-Err g c = λ line scanned.
    let read : IsScanned line c.replace-line.result = subst (IsScanned line) (sym c.replace-line.ensures.value) scanned in
    let cells : c.as_slice.result.now ≡ c.in-Ok.cells = c.as_slice.ensures in
    let fault = subst (λ (xs : List Cell). IsFault g.G.Grid.geometry xs c.in-Err.fault) cells c.in-Err.ensures.fault in
    let none : IsNoShape g.G.Grid.geometry line c.number.result = subst (IsNoShape g.G.Grid.geometry line) (sym c.number.ensures) (no_shape g.G.Grid.geometry line c.in-Ok.cells c.in-Err.fault (c.in-Ok.ensures.ok line read) fault) in
    subst (λ e. EndsLine g.G.Grid.geometry line c.args.self.now.shapes.items c.args.self.now.shapes.items c.replace-line.new.dest (Err e)) (sym c.fault-in-Err.ensures) (refl, inl none)

pub returns : goal.returns
returns g c = λ line scanned.
    let read : IsScanned line c.replace-line.result = subst (IsScanned line) (sym c.replace-line.ensures.value) scanned in
    let cells : c.as_slice.result.now ≡ c.in-Ok.cells = c.as_slice.ensures in
    let is = subst (λ (xs : List Cell). IsCanonicalOf g.G.Grid.geometry xs c.in-Ok-canonical_of.shape) cells c.in-Ok-canonical_of.ensures.ok in
    let faultless = subst (IsFaultless g.G.Grid.geometry) cells c.in-Ok-canonical_of.ensures.faultless in
    let added : c.push.new.self.items ≡ c.args.self.now.shapes.items ++ c.in-Ok-canonical_of.shape ∷ [] = search rules in (
      record { canonical = c.in-Ok-canonical_of.shape; shape = shape_line g.G.Grid.geometry line c.in-Ok.cells c.in-Ok-canonical_of.shape (c.in-Ok.ensures.ok line read) is faultless; added = added },
      subst (IsScanned []) (sym c.replace-line.ensures.after) c.new.ensures,
    )
