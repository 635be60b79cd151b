use Rattle.heesch_exchange.proofs.OneFault.{one_formula_fault}
use Rattle.heesch_exchange.proofs.laws.formulas_have_one_fault.Goals as goal

pub returns : goal.returns
returns c = λ most version g j size input line number at other law. one_formula_fault most version g j size input law line number at other
