-- A refutation with cuts of the levels 1 to h leaves no h + 1 outer coronas.
use Rattle.std.proofs.Common.{◌≡◌, refl, sym, subst, ℕ, zero, suc, ◌+◌, ◌-◌, ◌≤◌, not-suc-le-zero, le_of_suc-le-suc, List, [], ◌∷◌, ◌++◌, length, take, arith}
use Rattle.std.proofs.lemmas.List.{length-take-le}
use Rattle.heesch_grid.specs.declared.Cell.{Cell}
use Rattle.heesch_grid.specs.Geometry.{Geometry, IsGrid}
use Rattle.heesch_grid.specs.Polyform.{IsPolyform}
use Rattle.heesch_grid.specs.Hole.{IsHoleFree}
use Rattle.heesch_grid.specs.Corona.{cells_of, AreCoronasOf, StaysHoleFree}
use Rattle.heesch_grid.specs.CoronaFormula.{Variable}
use Rattle.heesch_grid.proofs.LayerFacts.{patch_before}
use Rattle.heesch_cnf.proofs.Refuted.{refuted_unsatisfiable_lem}
use Rattle.heesch_cert.specs.declared.limits.Limits.{Limits}
use Rattle.heesch_cert.specs.declared.proof.Proof.{Proof}
use Rattle.heesch_cert.specs.declared.proof.Step.{Step}
use Rattle.heesch_cert.specs.Proofs.{log_of, IsLawfulStep, RefutesCoronas}
use Rattle.heesch_cert.proofs.CutSound.{hole_free_at, cut_holds, coronas_satisfy_counted, given_hold}
use Rattle.heesch_cert.proofs.Versions.{universe_of}
use Rattle.heesch_outer.specs.Coronas.{inner_layers}
use Rattle.heesch_levels.specs.UpTo.{IsStepUpTo, HasCutsUpTo}
use Rattle.heesch_outer.specs.Statements.{OuterRefutationsLeaveNone}

-- the patch of a level needs no later layer
patch_of_first : (patch : List (List Cell)) (layers : List (List (List Cell))) (m k : ℕ) → k ≤ m → patch_before patch (take m layers) k ≡ patch_before patch layers k
patch_of_first patch layers m zero l = refl
patch_of_first patch layers zero (suc k) l = absurd (not-suc-le-zero l)
patch_of_first patch [] (suc m) (suc k) l = refl
patch_of_first patch (layer ∷ layers) (suc m) (suc k) l = patch_of_first (patch ++ layer) layers m k (le_of_suc-le-suc l)

-- the patches of the inner levels are hole-free
hole_free_inside : (g : Geometry) (patch : List (List Cell)) (layers : List (List (List Cell))) → StaysHoleFree g patch (inner_layers layers) → (k : ℕ) → 1 ≤ k → k ≤ length layers - 1 → IsHoleFree g (cells_of (patch_before patch layers k))
hole_free_inside g patch layers free k some inside =
    let long : length (inner_layers layers) ≡ length layers - 1 = length-take-le (length layers - 1) layers (omega arith) in
    subst (λ tiles. IsHoleFree g (cells_of tiles)) (patch_of_first patch layers (length layers - 1) k inside)
    (hole_free_at g (inner_layers layers) patch free k some (subst (λ n. k ≤ n) (sym long) inside))

-- a lawful step that is no cut above h
abbrev IsInnerStep : Geometry → List Cell → ℕ → List Variable → ℕ → Step → Type 0
IsInnerStep g shape j vars h step = IsLawfulStep g shape j vars step × IsStepUpTo h step

no_outer : (g : Geometry) (limits : Limits) (shape : List Cell) (h : ℕ) (proof : Proof) → IsGrid g → IsPolyform g shape → (layers : List (List (List Cell))) → length layers ≡ h + 1 → AreCoronasOf g shape (shape ∷ []) layers → StaysHoleFree g (shape ∷ []) (inner_layers layers)
    → RefutesCoronas limits.version g shape (length layers) limits.size proof → HasCutsUpTo h proof → ⊥
no_outer g limits shape h proof law form layers count coronas free r inner =
    let model = coronas_satisfy_counted limits.version g law shape form layers (omega (arith, count)) coronas r.vars r.count r.clauses r.formula in
    refuted_unsatisfiable_lem r.count r.clauses (log_of r.vars proof) r.refutes model.0 model.2
    (given_hold model.0 r.vars (IsInnerStep g shape (length layers) r.vars h)
    (λ cut l. cut_holds g law shape form layers coronas r.vars (universe_of limits.version g shape (length layers) r.vars r.count r.clauses r.formula) model.0 model.1 cut l.0
    (hole_free_inside g (shape ∷ []) layers free cut.level l.0.level_from (let low = l.1 in omega (arith, count, low))))
    proof.steps (λ k d below. (r.lawful k d below, inner k d below)))

pub outer_refutations_leave_none : OuterRefutationsLeaveNone
outer_refutations_leave_none g limits shape h proof law form r o =
    no_outer g limits shape h proof law form o.0 o.1 o.2.0 o.2.1 (subst (λ n. RefutesCoronas limits.version g shape n limits.size proof) (sym o.1) r.ends) r.outer_cuts
