-- Lines in one text are the same lines, as far as both go.
use Rattle.std.proofs.Common.{◌≡◌, ◌⊎◌, ℕ, List, [], ◌∷◌, ◌++◌, refl, ◌∙◌, append_assoc}
use Rattle.std.specs.List.{AllByRecursion}
use Rattle.std.proofs.lemmas.List.Concat.{flat_map-append}
use Rattle.heesch_reader.proofs.SameLines.{GoesOnBy, along_by}
use Rattle.heesch_parts.specs.declared.part_line.PartLine.{PartLine}
use Rattle.heesch_parts.specs.PartLines.{part_words, part_text, parts_text, IsPartLine}
use Rattle.heesch_parts.proofs.PartWords.{parts_tell, part_free}

pub part_front : (line : PartLine) (ls : List PartLine) (more : List ℕ) → parts_text (line ∷ ls) ++ more ≡ part_words line ++ 10 ∷ (parts_text ls ++ more)
part_front line ls more = append_assoc (part_text line) (parts_text ls) more ∙ append_assoc (part_words line) (10 ∷ []) (parts_text ls ++ more)

pub parts_append : (a b : List PartLine) → parts_text (a ++ b) ≡ parts_text a ++ parts_text b
parts_append a b = flat_map-append part_text a b

-- the second lines go on from the first
abbrev pub GoOn : List PartLine → List PartLine → List ℕ → List ℕ → Type 0
GoOn ls ms a b = GoesOnBy part_text IsPartLine ls ms a b

-- of two beginnings of one text by lines, one goes on from the other
pub along : (ls ms : List PartLine) (a b : List ℕ) → AllByRecursion IsPartLine ls → AllByRecursion IsPartLine ms → parts_text ls ++ a ≡ parts_text ms ++ b → GoOn ls ms a b ⊎ GoOn ms ls b a
along ls ms a b f g e = along_by part_text part_words IsPartLine (λ l. refl) part_free parts_tell ls ms a b f g e
