use Rattle.heesch_grid.proofs.FromDefinitions.{polyforms_have_one_canonical_list, images_share_canonical_lists, free_lists_are_unique}
use Rattle.heesch_grid.proofs.laws.canonical_lists_stand_for_polyforms.Goals as goal

pub returns : goal.returns
returns c = record { once = polyforms_have_one_canonical_list; same = images_share_canonical_lists; free = free_lists_are_unique }
