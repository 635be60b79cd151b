use Rattle.heesch_check.proofs.judging.Judge.answer.Goals as goal

pub returns-in-Fault : goal.returns-in-Fault
returns-in-Fault g c = rw c.in-Fault.is (c.fault_behind.ensures c.args.self.now.header)
