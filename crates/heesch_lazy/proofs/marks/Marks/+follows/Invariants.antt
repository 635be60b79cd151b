use Rattle.heesch_lazy.proofs.marks.Marks.+follows.Given as goal

abbrev pub decreases-follows : goal.decreases-follows
decreases-follows l = l.depth
