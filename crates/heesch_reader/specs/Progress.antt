-- How far the lines of a catalogue lead, from the header on.
use Rattle.std.specs.Prelude.{◌≡◌, Bool, false, List, [], ◌∷◌, Option, Some, None, option_map, option_and_then}
use Rattle.std.specs.List.{AllByRecursion}
use Rattle.heesch_text.specs.declared.line.Line.{Line}
use Rattle.heesch_text.specs.declared.line.Line.TheVariants as lines
use Rattle.heesch_grammar.specs.Grammar.{step, is_whole}
use Rattle.heesch_grammar.specs.Statements.{start, between_entries}
use Rattle.heesch_line.specs.Forms.{IsLine}
use Rattle.heesch_reader.specs.declared.progress.Progress.{Progress}
use Rattle.heesch_reader.specs.declared.progress.Progress.TheVariants as stages

-- where a line leads, if it may stand: a header first, and behind it what the grammar says
abbrev pub next : Progress → Line → Option Progress
next stages.Start (lines.Header header) = Some (stages.Behind header.brief start)
next stages.Start line = None
next (stages.Behind brief spot) line = option_map (λ t. stages.Behind brief t) (step brief spot line)

-- where lines lead, one after the other, if each of them may stand
abbrev pub walk : Progress → List Line → Option Progress
walk p [] = Some p
walk p (line ∷ ls) = option_and_then (λ q. walk q ls) (next p line)

-- whether an entry may end here, or none has begun
abbrev pub may_end : Progress → Bool
may_end stages.Start = false
may_end (stages.Behind brief spot) = is_whole spot.place

-- with the same number of entries, and none begun
abbrev pub between : Progress → Progress
between stages.Start = stages.Start
between (stages.Behind brief spot) = stages.Behind brief (between_entries spot)

-- the lines have forms of a catalogue's lines, and lead from the one place to the other
pub record Lead (p : Progress) (ls : List Line) (q : Progress) : Type 0 where
  pub forms : AllByRecursion IsLine ls
  pub reached : walk p ls ≡ Some q
