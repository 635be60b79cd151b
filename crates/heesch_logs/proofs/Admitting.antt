-- Admitted steps and lawful ones.
use Rattle.std.proofs.Common.{◌≡◌, ℕ, All, arith, get_or}
use Rattle.std.proofs.lemmas.List.Elements.{All-weaker}
use Rattle.heesch_grid.specs.Geometry.{Geometry}
use Rattle.heesch_cert.specs.declared.proof.Proof.{Proof}
use Rattle.heesch_cert.specs.declared.proof.Step.{Step}
use Rattle.heesch_cert.specs.declared.proof.Step.TheVariants.{Learn, Cut}
use Rattle.heesch_cert.specs.Proofs.{IsLawfulStep}
use Rattle.heesch_place.specs.Universes.{Levels}
use Rattle.heesch_logs.specs.Admitted.{IsAdmitted, IsAdmittedStep}
use Rattle.heesch_logs.specs.Near.{IsNearProof, IsNearStep}

module _ (g : Geometry) (u : Levels) (k : ℕ) where
  lawful_step : (step : Step) → IsAdmittedStep g u k step → IsLawfulStep g u.shape u.level u.vars step
  lawful_step (Learn clause hints) admitted = tt
  lawful_step (Cut cut) admitted = admitted.lawful

  -- an admitted proof has lawful cuts
  pub lawful_steps : (proof : Proof) → IsAdmitted g u k proof → All (IsLawfulStep g u.shape u.level u.vars) proof.steps
  lawful_steps proof admitted = All-weaker (IsAdmittedStep g u k) (IsLawfulStep g u.shape u.level u.vars) lawful_step proof.steps admitted

  module _ (same : k ≡ u.level) where
    admitted_step : (step : Step) → IsNearStep step → IsLawfulStep g u.shape u.level u.vars step → IsAdmittedStep g u k step
    admitted_step (Learn clause hints) near lawful = tt
    admitted_step (Cut cut) near lawful = record { near = near; up_to = (let low = lawful.level_to in omega (arith, low, same)); lawful = lawful }

    -- where its holes lie near 0, a proof with lawful cuts is admitted
    pub admitted_where_lawful : (proof : Proof) → IsNearProof proof → All (IsLawfulStep g u.shape u.level u.vars) proof.steps → IsAdmitted g u k proof
    admitted_where_lawful proof near lawful = λ i d below. admitted_step (get_or proof.steps i d) (near i d below) (lawful i d below)
