use Rattle.heesch_cdcl.proofs.verdicts.Verdicts.+follows.Given as goal

abbrev pub decreases-follows : goal.decreases-follows
decreases-follows l = l.depth
