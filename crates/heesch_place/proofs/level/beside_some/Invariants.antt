use Rattle.std.proofs.Common.{◌≡◌, take, length}
use Rattle.heesch_place.specs.Found.{FromOne, Joins}
use Rattle.heesch_place.specs.Spots.{IsBeside, IsSet, tile_at}
use Rattle.heesch_place.proofs.Beside.{HasPlace}
use Rattle.heesch_place.proofs.level.beside_some.Given as goal

abbrev pub invariant-loop-spot : goal.invariant-loop-spot
invariant-loop-spot g l = record {
  radius : l.marks.radius ≡ l.initial.marks.radius;
  forms : l.marks.forms ≡ l.initial.marks.forms;
  long : length l.marks.marks ≡ length l.initial.marks.marks;
  joins : Joins (FromOne (λ t. HasPlace (IsBeside g.G.Grid.geometry l.prototile.formed.forms (tile_at l.prototile.formed.forms t)) l.initial.marks.radius l.initial.marks.forms) (take l.spot-index l.inner)) (IsSet l.initial.marks.marks) (IsSet l.marks.marks);
}
