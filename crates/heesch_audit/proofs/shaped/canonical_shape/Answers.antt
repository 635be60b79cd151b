use Rattle.std.proofs.Common.{◌≡◌, sym, ◌∙◌, true≢false}
use Rattle.heesch_audit.proofs.Canonical.{are_canonical, canonical_shape, made_itself, no_fault}
use Rattle.heesch_logs.proofs.Equal.{all_has, cells_equal}
use Rattle.heesch_audit.proofs.shaped.canonical_shape.Goals as goal

pub of-requires : goal.of-requires
of-requires g c = all_has 100000 c.args.cells.now c.requires

pub returns-in_default-clause-none : goal.returns-in_default-clause-none
returns-in_default-clause-none g c = no_fault g.G.Grid.geometry g.met.G.Grid.laws c.args.cells.now c.in_default.field-0 c.in_default.ensures.fault

pub returns-then-eq-clause-same : goal.returns-then-eq-clause-same
returns-then-eq-clause-same g c = sym c.cells.ensures.cells ∙ (cells_equal c.cells.result.now c.args.cells.now c.eq.result c.eq.ensures).0 c.if-eq.true

pub returns-then-eq-clause-canonical : goal.returns-then-eq-clause-canonical
returns-then-eq-clause-canonical g c = canonical_shape g.G.Grid.geometry g.met.G.Grid.laws c.in-Ok.shape c.canonical-canonical.result c.in-Ok.ensures.shape c.canonical-canonical.ensures.shape c.canonical-canonical.ensures.canonical

pub returns-then-eq-clause-part : goal.returns-then-eq-clause-part
returns-then-eq-clause-part g c = are_canonical g.G.Grid.geometry c.args.cells.now c.in-Ok.shape c.canonical-canonical.result c.in-Ok.ensures.shape c.canonical-canonical.ensures.canonical (sym c.cells.ensures.cells ∙ (cells_equal c.cells.result.now c.args.cells.now c.eq.result c.eq.ensures).0 c.if-eq.true)

pub returns-clause-none : goal.returns-clause-none
returns-clause-none g c are =
    let same : c.canonical-canonical.result ≡ c.args.cells.now = made_itself g.G.Grid.geometry g.met.G.Grid.laws c.args.cells.now c.in-Ok.shape c.canonical-canonical.result c.in-Ok.ensures.shape c.in-Ok.ensures.list c.canonical-canonical.ensures.canonical are in
    true≢false (sym ((cells_equal c.cells.result.now c.args.cells.now c.eq.result c.eq.ensures).1 (c.cells.ensures.cells ∙ same)) ∙ c.if-eq.false)
