use Rattle.std.proofs.Common.{refl, inl, inr}
use Rattle.std.proofs.lemmas.Bool.{false≢true}
use Rattle.heesch_check.proofs.judging.Judge.answer_early.Goals as goal

pub returns-then-are_all : goal.returns-then-are_all
returns-then-are_all g c = inl (c.if-are_all.ensures.0 refl, refl)

pub returns : goal.returns
returns g c = inr ((λ all. false≢true (c.if-are_all.ensures.1 all)), refl)
