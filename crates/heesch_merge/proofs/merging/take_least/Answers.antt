use Rattle.std.proofs.Common.{rules}
use Rattle.heesch_merge.proofs.Fronts.{taken_left, taken_right, taken_both, taken_none}
use Rattle.heesch_merge.proofs.merging.take_least.Goals as goal

pub returns-in-Less-clause-taken : goal.returns-in-Less-clause-taken
returns-in-Less-clause-taken g c = taken_left _ _ _ c.pop_front.result (search rules) c.pop_front.ensures.items c.requires.right

pub returns-in-Greater-clause-taken : goal.returns-in-Greater-clause-taken
returns-in-Greater-clause-taken g c = taken_right _ _ _ c.pop_front-in-Greater.result (search rules) c.pop_front-in-Greater.ensures.items c.requires.left

pub returns-in-Equal-clause-taken : goal.returns-in-Equal-clause-taken
returns-in-Equal-clause-taken g c = taken_both _ _ _ _ c.pop_front-in-Equal-2.result c.pop_front-in-Equal.result (search rules) c.pop_front-in-Equal-2.ensures.items c.pop_front-in-Equal.ensures.items (search rules)

pub returns-in-Equal-clause-none : goal.returns-in-Equal-clause-none
returns-in-Equal-clause-none g c = taken_none _ _ c.pop_front-in-Equal-2.result (search rules) (search rules)
