use Rattle.std.proofs.Common.{◌≤◌, length, take, All}
use Rattle.heesch_tiling.specs.Counting.{IsInRange}
use Rattle.heesch_orbit.specs.Found.{AreFound}
use Rattle.heesch_orbit.proofs.classing.classes_of.Given as goal

abbrev pub invariant-loop-to : goal.invariant-loop-to
invariant-loop-to g l =
    record {
      range : All (IsInRange g.G.Grid.geometry) l.representatives.items;
      few : length l.representatives.items ≤ l.to-index;
      found : AreFound g.G.Grid.geometry l.turned l.triple l.places (take l.to-index l.places) l.representatives.items l.members;
    }
