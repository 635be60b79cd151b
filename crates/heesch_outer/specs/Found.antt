-- Answers that are near enough to be checked.
use Rattle.std.specs.Prelude.{⊤}
use Rattle.heesch_logs.specs.Near.{AreNearLayers, IsNearProof}
use Rattle.heesch_outer.specs.declared.answer.OuterAnswer.{OuterAnswer}
use Rattle.heesch_outer.specs.declared.answer.OuterAnswer.TheVariants.{More, Same, Spent}

-- the answer's translations and the cells of its cuts' holes lie within 100,000 of 0
abbrev pub IsNearAnswer : OuterAnswer → Type 0
IsNearAnswer (More layers) = AreNearLayers layers.layers
IsNearAnswer (Same proof) = IsNearProof proof
IsNearAnswer (Spent proof) = IsNearProof proof
IsNearAnswer answer = ⊤
