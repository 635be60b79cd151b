use Rattle.heesch_outer_check.proofs.Answers.{more_missed, none_missed, none_of, same_missed, spent_missed}
use Rattle.heesch_outer_check.proofs.answer.read_searched.Goals as goal

pub returns-in_default-2 : goal.returns-in_default-2
returns-in_default-2 c =
    more_missed c.args.h c.args.bytes.now c.in-Some.rest.now c.requires c.in-Some.ensures (none_of _ _ c.in_ok-layers.field-0 c.in_default-2.is c.in_ok-layers.ensures)

pub returns-in_default-3 : goal.returns-in_default-3
returns-in_default-3 c =
    same_missed c.args.h c.args.bytes.now c.in-Some-after_number.rest.now c.requires c.in-Some-after_number.ensures (none_of _ _ c.in_ok-proof.field-0 c.in_default-3.is c.in_ok-proof.ensures)

pub returns-in_default-after : goal.returns-in_default-after
returns-in_default-after c = none_missed c.args.h c.args.bytes.now c.in_default.ensures c.in_default-after_number.ensures c.in_default-after.ensures

pub returns-in_default-4 : goal.returns-in_default-4
returns-in_default-4 c =
    spent_missed c.args.h c.args.bytes.now c.in-Some-after.rest.now c.requires c.in-Some-after.ensures (none_of _ _ c.in_ok-proof-2.field-0 c.in_default-4.is c.in_ok-proof-2.ensures)
