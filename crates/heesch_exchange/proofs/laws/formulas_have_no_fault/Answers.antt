use Rattle.heesch_exchange.proofs.NoFault.{formula_has_none}
use Rattle.heesch_exchange.proofs.laws.formulas_have_no_fault.Goals as goal

pub returns : goal.returns
returns c = formula_has_none
