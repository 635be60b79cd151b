use Rattle.heesch_logic_tests.proofs.tests.claims.+draw_each.Given as goal

abbrev pub decreases-draw_each : goal.decreases-draw_each
decreases-draw_each l = l.others
