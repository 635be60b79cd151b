use Rattle.std.proofs.Common.{Global, Vec, List, map, sym, subst}
use Rattle.heesch_place.specs.declared.spots.Spot.{Spot}
use Rattle.heesch_place.specs.Spots.{AreInReach, AreWithinEach}
use Rattle.heesch_place.proofs.prototile.Prototile.of.Goals as goal

abbrev items : Vec Spot Global → List Spot
items v = v.items

pub reach_of-reach-requires-clause-near : goal.reach_of-reach-requires-clause-near
reach_of-reach-requires-clause-near g c = subst (λ vs. AreWithinEach 20000 (map items vs)) (sym c.as_slice.ensures.value) c.in_ok-beside.ensures.near

pub invariant_of-result : goal.invariant_of-result
invariant_of-result g c = record {
  are_beside = c.in_ok-beside.ensures.listed;
  in_reach = subst (λ vs. AreInReach c.args.forms.now.forms (map items vs) c.reach_of-reach.result) c.as_slice.ensures.value c.reach_of-reach.ensures.reach;
  small = c.reach_of-reach.ensures.small;
  are_barred = c.in_ok-barred.ensures;
}
