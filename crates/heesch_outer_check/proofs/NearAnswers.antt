-- The answer of a record that can be read lies near 0.
use Rattle.heesch_check.proofs.Near.{layers_near, proof_near}
use Rattle.heesch_outer.specs.declared.answer.OuterAnswer.{OuterAnswer}
use Rattle.heesch_outer.specs.declared.answer.OuterAnswer.TheVariants as outers
use Rattle.heesch_outer.specs.Found.{IsNearAnswer}
use Rattle.heesch_outer_check.specs.ReadableRecords.{HasLineForms}

pub answer_near : (answer : OuterAnswer) → HasLineForms answer → IsNearAnswer answer
answer_near outers.Tiles f = tt
answer_near outers.Unknown f = tt
answer_near (outers.More layers) f = layers_near layers.layers f
answer_near (outers.Same proof) f = proof_near proof f
answer_near (outers.Spent proof) f = proof_near proof f
