-- The text of an answer on an outer number, which follows the text of its entry.
use Rattle.std.specs.Prelude.{ℕ, ◌+◌, List, [], ◌++◌, codes, decimal}
use Rattle.heesch_text.specs.declared.line.Line.{Line}
use Rattle.heesch_text.specs.Catalogue.{layer_lines, proof_lines}
use Rattle.heesch_text.specs.Lines.{text_of}
use Rattle.heesch_outer.specs.declared.answer.OuterAnswer.{OuterAnswer}
use Rattle.heesch_outer.specs.declared.answer.OuterAnswer.TheVariants.{Tiles, Unknown, More, Same, Spent}

-- the lines of the layers or of the proof that show the answer
abbrev pub answer_lines : OuterAnswer → List Line
answer_lines (More layers) = layer_lines layers.layers
answer_lines (Same proof) = proof_lines proof
answer_lines (Spent proof) = proof_lines proof
answer_lines answer = []

-- a label, a number and a newline
abbrev pub number_line : List ℕ → ℕ → List ℕ
number_line label n = label ++ decimal n ++ codes "\n"

-- the outer number, or what is known of it, of a shape whose entry has the number h, with the layers or the proof that show it
abbrev pub answer_text : ℕ → OuterAnswer → List ℕ
answer_text h Tiles = codes "hh tiles\n"
answer_text h Unknown = codes "hh undecided\n"
answer_text h (More layers) = number_line (codes "hc ") h ++ number_line (codes "hh ") (h + 1) ++ text_of (layer_lines layers.layers)
answer_text h (Same proof) = number_line (codes "hc ") h ++ number_line (codes "hh ") h ++ text_of (proof_lines proof)
answer_text h (Spent proof) = number_line (codes "hc ") h ++ codes "hh spent\n" ++ text_of (proof_lines proof)
