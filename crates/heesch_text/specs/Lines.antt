-- The text of each line of a catalogue.
use Rattle.std.specs.Prelude.{ℕ, List, ◌++◌, decimal, codes, if◌then◌else◌}
use Rattle.std.specs.List.{flat_map}
use Rattle.heesch_cert.specs.declared.header.Header.{Header}
use Rattle.heesch_cert.specs.declared.limits.Limits.{Limits}
use Rattle.heesch_cert.specs.declared.verdict.Verdict.{Verdict}
use Rattle.heesch_cert.specs.declared.verdict.Verdict.TheVariants as verdicts
use Rattle.heesch_text.specs.declared.line.Line.{Line}
use Rattle.heesch_text.specs.declared.line.Line.TheVariants as lines
use Rattle.heesch_text.specs.Fields.{spaced, cells_text, iso_text, place_text, lit_text, triple_text}
use Rattle.heesch_grid.specs.Names.{grid_word}
use Rattle.heesch_text.specs.Names.{version_text, kind_text, phase_text, outcome_text, bare_text}
use Rattle.heesch_cert.specs.Sizes.{subject_word}

-- `heesch` or `brief`, the version, the grid and the subject
abbrev pub title_text : Header → List ℕ
title_text h = (if h.brief then codes "brief" else codes "heesch") ++ version_text h.limits.version ++ grid_word h.grid ++ codes " " ++ subject_word h.subject

-- each limit behind its name
abbrev pub limits_text : Limits → List ℕ
limits_text l = codes " turns " ++ decimal l.turns ++ codes " levels " ++ decimal l.levels ++ codes " domain " ++ decimal l.domain ++ codes " size " ++ decimal l.size

-- a verdict without the word before it
abbrev pub verdict_text : Verdict → List ℕ
verdict_text (verdicts.Tiles kind domain classes) = codes "tiles " ++ kind_text kind ++ codes " domain " ++ decimal domain ++ codes " classes " ++ decimal classes
verdict_text (verdicts.Heesch h m) = codes "heesch " ++ decimal h ++ codes " nontiler " ++ decimal m
verdict_text (verdicts.Levels h) = codes "undecided levels " ++ decimal h
verdict_text (verdicts.Holes h) = codes "undecided holes " ++ decimal h
verdict_text (verdicts.Turns h phase at) = codes "undecided turns " ++ decimal h ++ codes " " ++ phase_text phase ++ codes " " ++ decimal at
verdict_text (verdicts.Size h phase at) = codes "undecided size " ++ decimal h ++ codes " " ++ phase_text phase ++ codes " " ++ decimal at

-- a line without its newline
abbrev pub words_of : Line → List ℕ
words_of (lines.Header header) = title_text header ++ limits_text header.limits
words_of (lines.Shape cells) = codes "shape " ++ cells_text cells
words_of (lines.Verdict verdict) = codes "verdict " ++ verdict_text verdict
words_of (lines.Lattice triple) = codes "lattice " ++ triple_text triple
words_of (lines.Tile place member) = codes "tile " ++ iso_text place ++ codes " class " ++ decimal member.class ++ codes " by " ++ iso_text member.by
words_of (lines.Coronas count) = codes "coronas " ++ decimal count
words_of (lines.Layer places) = codes "layer" ++ spaced place_text places
words_of (lines.Wall level outcome) = codes "wall " ++ decimal level ++ codes " " ++ outcome_text outcome
words_of (lines.Bare level outcome) = codes "bare " ++ decimal level ++ codes " " ++ bare_text outcome
words_of (lines.Open count) = codes "open " ++ decimal count
words_of (lines.Triple triple refuted) = codes "triple " ++ triple_text triple ++ (if refuted then codes " refuted" else codes " spent")
words_of (lines.Learn clause hints) = codes "learn" ++ spaced lit_text clause ++ codes " :" ++ spaced decimal hints
words_of (lines.Cut cut) = codes "cut " ++ decimal cut.level ++ codes " : " ++ cells_text cut.hole ++ codes " :" ++ spaced decimal cut.border
words_of (lines.Empty hints) = codes "empty" ++ spaced decimal hints
words_of lines.Spent = codes "spent"
words_of (lines.End count) = codes "end " ++ decimal count

-- a line with its newline
abbrev pub line_text : Line → List ℕ
line_text line = words_of line ++ codes "\n"

-- lines, each with its newline
abbrev pub text_of : List Line → List ℕ
text_of ls = flat_map line_text ls
