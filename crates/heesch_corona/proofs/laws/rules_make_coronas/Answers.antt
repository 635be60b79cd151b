use Rattle.heesch_corona.proofs.Coronas.{rules_make_coronas, rules_make_hole_free}
use Rattle.heesch_corona.proofs.laws.rules_make_coronas.Goals as goal

pub returns-clause-coronas : goal.returns-clause-coronas
returns-clause-coronas c = rules_make_coronas

pub returns-clause-hole_free : goal.returns-clause-hole_free
returns-clause-hole_free c = rules_make_hole_free
