use Rattle.std.proofs.Common.{List, [], ◌∷◌}
use Rattle.std.specs.List.{AllByRecursion}
use Rattle.heesch_grid.specs.declared.isometries.Iso.{Iso}
use Rattle.heesch_text.specs.Naturals.{HasNaturals}
use Rattle.heesch_text.specs.Catalogue.{layer_lines}
use Rattle.heesch_text.proofs.Kept.{kept_through}
use Rattle.heesch_text.proofs.evidence.append_layers.Goals as goal

layers_natural : (layers : List (List Iso)) → AllByRecursion HasNaturals (layer_lines layers)
layers_natural [] = tt
layers_natural (places ∷ layers) = (tt, layers_natural layers)

pub returns-in_err-append_layer_line-clause-kept : goal.returns-in_err-append_layer_line-clause-kept
returns-in_err-append_layer_line-clause-kept c = kept_through _ _ _ _ c.loop-places.invariant c.append_layer_line.ensures.kept

pub returns-clause-naturals : goal.returns-clause-naturals
returns-clause-naturals c = layers_natural c.args.layers.now
