-- A board begins as the machine does, and its steps are the machine's events.
use Rattle.std.proofs.Common.{◌≡◌, suc, List, [], ◌∷◌, map, length, ap, refl}
use Rattle.heesch_claims.specs.declared.view.View.{View}
use Rattle.heesch_claims.specs.Views.{shown, shown_by, BoardIsMachine}
use Rattle.heesch_claims.proofs.Sound.{reached_is_sound}
use Rattle.heesch_claims.proofs.Keeps.{starts, split_moves, draw_moves, join_moves}

length_shown : (l : List View) → length (map shown l) ≡ length l
length_shown [] = refl
length_shown (v ∷ vs) = ap suc (length_shown vs)

pub board_is_machine : BoardIsMachine
board_is_machine = record {
  begins = λ n small. (starts n small, refl);
  splits = split_moves;
  draws = draw_moves;
  joins = join_moves;
  made = λ n s. length_shown s.views;
  bounded = λ n s r. (reached_is_sound (shown_by n s) r.reached).1.past;
}
