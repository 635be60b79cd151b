use Rattle.std.proofs.Common.{◌≡◌, ◌||◌, ℕ, take}
use Rattle.std.specs.List.{list_any}
use Rattle.heesch_place.specs.Universes.{covering}
use Rattle.heesch_cuts.specs.Marks.{is_marked, is_in}
use Rattle.heesch_cuts.proofs.clauses.mark_fillers.Given as goal

abbrev pub invariant-loop-c : goal.invariant-loop-c
invariant-loop-c g l =
    (n : ℕ) → is_marked l.marks n ≡ (is_marked l.initial.marks n || list_any (λ c. is_in (covering l.universe.vars l.level c) n) (take l.c-index l.cells))
