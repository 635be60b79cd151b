-- What the answers on logs say of proofs.
use Rattle.std.proofs.Common.{◌≡◌, sym, subst, ◌∙◌, ℕ, ◌≤◌, List, [], arith, inl, inr, All, Result}
use Rattle.std.specs.Prelude.{◌↔◌, ◌⊎◌, Some, None, IfOk, Ok, Err}
use Rattle.heesch_grid.specs.declared.Cell.{Cell}
use Rattle.heesch_grid.specs.Clauses.{formula_size}
use Rattle.heesch_grid.specs.CoronaFormula.{Variable}
use Rattle.heesch_grid.specs.Geometry.{Geometry, IsGrid}
use Rattle.heesch_grid.specs.Lattice.{Triple}
use Rattle.heesch_grid.specs.Polyform.{IsPolyform}
use Rattle.heesch_cnf.specs.declared.literal.Lit.{Lit}
use Rattle.heesch_cnf.specs.declared.log.Log.{Log}
use Rattle.heesch_cnf.specs.Flat.{Clauses}
use Rattle.heesch_cnf.specs.Lines.{Refutes, IsSpent}
use Rattle.heesch_cert.specs.declared.limits.Limits.{Limits}
use Rattle.heesch_cert.specs.declared.proof.Proof.{Proof}
use Rattle.heesch_cert.specs.Formulas.{IsCountedFormula}
use Rattle.heesch_cert.specs.Proofs.{HasNoCut, IsLawfulStep, IsTooLarge, SettlesTriple, RefutesTorus, IsSpentOnTorus, log_of}
use Rattle.heesch_cert.proofs.Exactly.{refutes_exactly, spent_exactly, too_large_exactly, refutes_torus_exactly, spent_torus_exactly}
use Rattle.heesch_place.specs.Universes.{Levels}
use Rattle.heesch_torus.specs.Formula.{IsFormulaOf}
use Rattle.heesch_audit.specs.declared.proof_end.ProofEnd.{ProofEnd}
use Rattle.heesch_audit.specs.declared.proof_end.ProofEnd.TheVariants.{Refuted, Spent}
use Rattle.heesch_audit.specs.Ends.{EndsCoronas, IsEndOf, LogEnds}
use Rattle.heesch_audit.specs.Formulas.{IsFormulaAt}
use Rattle.heesch_logs.specs.Admitted.{IsAdmitted, IsLogOf}
use Rattle.heesch_logs.specs.Near.{IsNearProof}
use Rattle.heesch_logs.proofs.Admitting.{admitted_where_lawful, lawful_steps}
use Rattle.heesch_logs.proofs.Equal.{through}
use Rattle.heesch_logs.proofs.Refuted.{open_not_refuted}

-- ---- logs

module _ (vars : ℕ) (clauses : List (List Lit)) (log : Log) where
  -- a log with a final line is not spent, and one without refutes nothing
  pub ended_so : (end : ProofEnd) (turns : ℕ) → IsEndOf log end → LogEnds end vars clauses turns log ↔ (Refutes vars clauses log ⊎ IsSpent vars clauses turns log)
  ended_so Refuted turns (hints, last) = ((λ r. inl r), (λ h. elim h [ inl r ↦ r | inr p ↦ absurd (never (sym last ∙ p.unfinished)) ]))
    where
      never : Some hints ≡ None → ⊥
      never e = cc
  ended_so Spent turns last = ((λ p. inr p), (λ h. elim h [ inl r ↦ absurd (open_not_refuted vars clauses log last r) | inr p ↦ p ]))

pub if_ok_more : {T E : Type 0} (P Q : T → Type 0) → ((x : T) → P x → Q x) → (r : Result T E) → IfOk r P → IfOk r Q
if_ok_more P Q f (Ok x) p = f x p
if_ok_more P Q f (Err e) p = tt

-- ---- proofs over a corona formula

module _ (limits : Limits) (g : Geometry) (law : IsGrid g) (shape : List Cell) (form : IsPolyform g shape) (j : ℕ) where
  -- a formula of few literals isn't too large
  fits_not : (vars : List Variable) (count : ℕ) (clauses : List (List Lit)) → IsCountedFormula limits.version g shape j vars count clauses → formula_size clauses ≤ limits.size → ¬ IsTooLarge limits.version g shape j limits.size
  fits_not vars count clauses formula fits large =
      let above = (too_large_exactly limits.version g law shape form j vars count clauses formula limits.size).0 large in
      omega (arith, above, fits)

  pub too_large_not_ended : (end : ProofEnd) (proof : Proof) → IsTooLarge limits.version g shape j limits.size → ¬ EndsCoronas end g limits shape j proof
  too_large_not_ended Refuted proof large r = fits_not r.vars r.count r.clauses r.formula r.fits large
  too_large_not_ended Spent proof large r = fits_not r.vars r.count r.clauses r.formula r.fits large

  module _ (u : Levels) (f : Clauses) (at : IsFormulaAt limits.version g shape j limits.size u f) where
    pub not_too_large : ¬ IsTooLarge limits.version g shape j limits.size
    not_too_large large = fits_not u.vars f.vars f.clauses at.counted at.fits large

    module _ (proof : Proof) where
      exactly : (end : ProofEnd) → EndsCoronas end g limits shape j proof ↔ ((formula_size f.clauses ≤ limits.size) × All (IsLawfulStep g shape j u.vars) proof.steps × LogEnds end f.vars f.clauses limits.turns (log_of u.vars proof))
      exactly Refuted = refutes_exactly limits.version g law shape form j u.vars f.vars f.clauses at.counted limits.size proof
      exactly Spent = spent_exactly limits.version g law shape form j u.vars f.vars f.clauses at.counted limits.turns limits.size proof

      pub unlawful_not_ended : (end : ProofEnd) (k : ℕ) → k ≡ u.level → IsNearProof proof → (¬ IsAdmitted g u k proof) → ¬ EndsCoronas end g limits shape j proof
      unlawful_not_ended end k same near fails r =
          let P : List Cell → ℕ → Type 0 = λ cells n. All (IsLawfulStep g cells n u.vars) proof.steps in
          fails (admitted_where_lawful g u k same proof near (subst (λ cells. P cells u.level) (sym at.same_shape) (subst (P shape) (sym at.same_level) ((exactly end).0 r).1)))

      pub ends_coronas : (log : Log) (k : ℕ) → IsLogOf g u k proof log → (end : ProofEnd) → LogEnds end f.vars f.clauses limits.turns log ↔ EndsCoronas end g limits shape j proof
      ends_coronas log k is end =
          let P : List Cell → ℕ → Type 0 = λ cells n. All (IsLawfulStep g cells n u.vars) proof.steps in
          let lawful : P shape j = subst (P shape) at.same_level (subst (λ cells. P cells u.level) at.same_shape (lawful_steps g u k proof is.0)) in (
            (λ r. (exactly end).1 (at.fits, lawful, subst (LogEnds end f.vars f.clauses limits.turns) is.1 r)),
            (λ r. subst (LogEnds end f.vars f.clauses limits.turns) (sym is.1) ((exactly end).0 r).2),
          )

-- ---- proofs over a torus formula

module _ (g : Geometry) (shape : List Cell) (turns : ℕ) (t : Triple) (proof : Proof) (f : Clauses) (of : IsFormulaOf g shape t f.vars f.clauses) (log : Log) (no_cut : HasNoCut proof) (is : log ≡ log_of [] proof) where
  refutes : Refutes f.vars f.clauses log ↔ RefutesTorus g shape t (log_of [] proof)
  refutes =
      let exactly = refutes_torus_exactly g shape t of.sets f.clauses of.is_formula (log_of [] proof) in (
        (λ r. exactly.1 (subst (λ n. Refutes n f.clauses (log_of [] proof)) of.count (subst (Refutes f.vars f.clauses) is r))),
        (λ r. subst (Refutes f.vars f.clauses) (sym is) (subst (λ n. Refutes n f.clauses (log_of [] proof)) (sym of.count) (exactly.0 r))),
      )

  spent : IsSpent f.vars f.clauses turns log ↔ IsSpentOnTorus g shape turns t (log_of [] proof)
  spent =
      let exactly = spent_torus_exactly g shape t of.sets f.clauses of.is_formula turns (log_of [] proof) in (
        (λ r. exactly.1 (subst (λ n. IsSpent n f.clauses turns (log_of [] proof)) of.count (subst (IsSpent f.vars f.clauses turns) is r))),
        (λ r. subst (IsSpent f.vars f.clauses turns) (sym is) (subst (λ n. IsSpent n f.clauses turns (log_of [] proof)) (sym of.count) (exactly.0 r))),
      )

  either : (Refutes f.vars f.clauses log ⊎ IsSpent f.vars f.clauses turns log) ↔ SettlesTriple g shape turns t proof
  either = (
    (λ h. record { no_cut = no_cut; settled = elim h [ inl r ↦ inl (refutes.0 r) | inr p ↦ inr (spent.0 p) ] }),
    (λ s. elim s.settled [ inl r ↦ inl (refutes.1 r) | inr p ↦ inr (spent.1 p) ]),
  )

  pub settles : (end : ProofEnd) → IsEndOf log end → LogEnds end f.vars f.clauses turns log ↔ SettlesTriple g shape turns t proof
  settles end is_end = through (ended_so f.vars f.clauses log end turns is_end) either
