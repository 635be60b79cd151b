use Rattle.std.proofs.Common.{◌≡◌, take, length}
use Rattle.heesch_place.specs.Found.{FromOne, Joins}
use Rattle.heesch_place.specs.Spots.{Covers, IsSet}
use Rattle.heesch_place.proofs.Beside.{HasPlace}
use Rattle.heesch_place.proofs.forms.Forms.over.Given as goal

abbrev pub invariant-loop-c : goal.invariant-loop-c
invariant-loop-c g l = record {
  radius : l.marks.radius ≡ l.initial.marks.radius;
  forms : l.marks.forms ≡ l.initial.marks.forms;
  long : length l.marks.marks ≡ length l.initial.marks.marks;
  joins : Joins (FromOne (λ c. HasPlace (Covers l.self.forms c) l.initial.marks.radius l.initial.marks.forms) (take l.c-index l.cells)) (IsSet l.initial.marks.marks) (IsSet l.marks.marks);
}
