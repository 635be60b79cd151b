use Rattle.heesch_cdcl.proofs.verdicts.Verdicts.clear.Given as goal

abbrev pub decreases-loop-var : goal.decreases-loop-var
decreases-loop-var l = goal.left-loop-var l
