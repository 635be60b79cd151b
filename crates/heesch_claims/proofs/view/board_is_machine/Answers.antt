use Rattle.heesch_claims.proofs.Law.{board_is_machine}
use Rattle.heesch_claims.proofs.view.board_is_machine.Goals as goal

pub returns-clause-points : goal.returns-clause-points
returns-clause-points c count s r = r.points

pub returns-clause-reached : goal.returns-clause-reached
returns-clause-reached c count s r = r.reached

pub returns-clause-machine : goal.returns-clause-machine
returns-clause-machine c = board_is_machine
