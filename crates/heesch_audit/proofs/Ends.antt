-- What a search shows that no formula is needed for.
use Rattle.std.proofs.Common.{ℕ, List, sym, subst}
use Rattle.std.specs.Prelude.{◌↔◌}
use Rattle.heesch_grid.specs.declared.Cell.{Cell}
use Rattle.heesch_grid.specs.Geometry.{Geometry}
use Rattle.heesch_cert.specs.declared.limits.Limits.{Limits}
use Rattle.heesch_cert.specs.declared.entry.Wall.{Wall}
use Rattle.heesch_cert.specs.declared.entry.Bare.{Bare}
use Rattle.heesch_cert.specs.declared.entry.Bare.TheVariants.{Absent as NoBare, Same as BareSame, Refuted as BareRefuted, Spent as BareSpent, Size as BareSize, Open as BareOpen}
use Rattle.heesch_cert.specs.TrueEntry.{BareShows, SameWhereNoCut}
use Rattle.heesch_cert.specs.declared.proof.Proof.{Proof}
use Rattle.heesch_cert.specs.Proofs.{HasNoCut}
use Rattle.heesch_audit.specs.declared.proof_end.ProofEnd.{ProofEnd}
use Rattle.heesch_audit.specs.declared.proof_end.ProofEnd.TheVariants.{Refuted, Spent}
use Rattle.heesch_audit.specs.Ends.{BareEnds, EndsCoronas}
use Rattle.heesch_audit.specs.Formulas.{AsksFormula}
use Rattle.heesch_audit.specs.Near.{IsNearBare}
use Rattle.heesch_logs.specs.Near.{IsNearProof}

-- a search that no formula is needed for shows nothing
pub not_asked : (g : Geometry) (limits : Limits) (shape : List Cell) (m : ℕ) (bare : Bare) → (¬ AsksFormula bare) → BareShows g limits shape m bare
not_asked g limits shape m NoBare h = tt
not_asked g limits shape m BareSame h = tt
not_asked g limits shape m (BareRefuted proof) h = absurd (h tt)
not_asked g limits shape m (BareSpent proof) h = absurd (h tt)
not_asked g limits shape m BareSize h = absurd (h tt)
not_asked g limits shape m BareOpen h = tt

-- one that ended with a proof shows what the proof does, and has no cut
pub bare_by : (g : Geometry) (limits : Limits) (shape : List Cell) (m : ℕ) (end : ProofEnd) (proof : Proof) (bare : Bare) → BareEnds end proof bare → BareShows g limits shape m bare ↔ (EndsCoronas end g limits shape m proof × HasNoCut proof)
bare_by g limits shape m Refuted proof bare is = subst (λ (b : Bare). BareShows g limits shape m b ↔ (EndsCoronas Refuted g limits shape m proof × HasNoCut proof)) (sym is) ((λ s. s), (λ s. s))
bare_by g limits shape m Spent proof bare is = subst (λ (b : Bare). BareShows g limits shape m b ↔ (EndsCoronas Spent g limits shape m proof × HasNoCut proof)) (sym is) ((λ s. s), (λ s. s))

-- where that proof has no cut, and the search is the same as that behind the wall exactly where it may be
pub bare_answered : (g : Geometry) (limits : Limits) (shape : List Cell) (m : ℕ) (end : ProofEnd) (proof : Proof) (wall : Wall) (bare : Bare) → BareEnds end proof bare → SameWhereNoCut wall bare → HasNoCut proof → EndsCoronas end g limits shape m proof ↔ (SameWhereNoCut wall bare × BareShows g limits shape m bare)
bare_answered g limits shape m end proof wall bare is same no_cut =
    let both = bare_by g limits shape m end proof bare is in
    ((λ ends. (same, both.1 (ends, no_cut))), (λ shows. (both.0 shows.1).0))

-- the proof is near where the search is
pub bare_near : (end : ProofEnd) (proof : Proof) (bare : Bare) → BareEnds end proof bare → IsNearBare bare → IsNearProof proof
bare_near Refuted proof bare is near = subst IsNearBare is near
bare_near Spent proof bare is near = subst IsNearBare is near
