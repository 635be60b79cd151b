use Rattle.std.proofs.Common.{◌∙◌}
use Rattle.heesch_rup.proofs.newness.are_new.Goals as goal

pub are_new_in_chunks-requires-clause-listed : goal.are_new_in_chunks-requires-clause-listed
are_new_in_chunks-requires-clause-listed g c κs within = record {
  form = c.vars-vars.ensures.form;
  slots = c.in_ok-listed.ensures.room;
  lists = c.in_ok-listed.ensures.lists;
  all = c.in_ok-listed.ensures.count ∙ c.len-count.ensures.count;
}
