-- The first words of lines.
use Rattle.std.proofs.Common.{◌≡◌, ℕ, Bool, true, false, List, ◌++◌, Some, None, ◌↔◌, refl, ap, sym, ◌∙◌}
use Rattle.std.specs.Prelude.{codes, decimal, if◌then◌else◌}
use Rattle.heesch_grid.specs.Names.{grid_word}
use Rattle.heesch_cert.specs.declared.header.Header.{Header}
use Rattle.heesch_text.specs.declared.line.Line.{Line}
use Rattle.heesch_text.specs.declared.line.Line.TheVariants as lines
use Rattle.heesch_text.specs.Fields.{cells_text}
use Rattle.heesch_text.specs.Names.{version_text}
use Rattle.heesch_cert.specs.Sizes.{subject_word}
use Rattle.heesch_text.specs.Lines.{limits_text, words_of}
use Rattle.heesch_line.specs.Forms.{BeginsWith, IsShape, IsEnd}
use Rattle.heesch_line.specs.Reading.{literal_at}
use Rattle.heesch_line.proofs.Steps.{none_some}

other_title : (word : List ℕ) → ((rest : List ℕ) → literal_at word (codes "brief" ++ rest) ≡ None) → ((rest : List ℕ) → literal_at word (codes "heesch" ++ rest) ≡ None)
    → (brief : Bool) (a b c d e : List ℕ) → literal_at word ((if brief then codes "brief" else codes "heesch") ++ a ++ b ++ c ++ d ++ e) ≡ None
other_title word first second true a b c d e = first (a ++ b ++ c ++ d ++ e)
other_title word first second false a b c d e = second (a ++ b ++ c ++ d ++ e)

-- a header begins with neither of its words
no_title : (word : List ℕ) → ((rest : List ℕ) → literal_at word (codes "brief" ++ rest) ≡ None) → ((rest : List ℕ) → literal_at word (codes "heesch" ++ rest) ≡ None)
    → (h : Header) (rest : List ℕ) → literal_at word (word ++ rest) ≡ Some rest → words_of (lines.Header h) ≡ word ++ rest → ⊥
no_title word brief heesch h rest found e =
    let other = other_title word brief heesch h.brief (version_text h.limits.version) (grid_word h.grid) (codes " ") (subject_word h.subject) (limits_text h.limits) in
    none_some rest (sym other ∙ ap (literal_at word) e ∙ found)

-- the first word tells the kind
first_words : (line : Line) (rest : List ℕ) → (words_of line ≡ codes "shape " ++ rest → IsShape line) × (words_of line ≡ codes "end " ++ rest → IsEnd line)
first_words (lines.Header h) rest =
    ((λ e. absurd (no_title (codes "shape ") (λ r. refl) (λ r. refl) h rest refl e)), (λ e. absurd (no_title (codes "end ") (λ r. refl) (λ r. refl) h rest refl e)))
first_words (lines.Shape cells) rest = ((λ e. tt), (λ e. none_some rest (ap (literal_at (codes "end ")) e)))
first_words (lines.End count) rest = ((λ e. none_some rest (ap (literal_at (codes "shape ")) e)), (λ e. tt))
first_words line rest = ((λ e. none_some rest (ap (literal_at (codes "shape ")) e)), (λ e. none_some rest (ap (literal_at (codes "end ")) e)))

shape_word : (line : Line) → IsShape line → BeginsWith (codes "shape ") (words_of line)
shape_word (lines.Shape cells) is = (cells_text cells, refl)
shape_word line is = absurd is

-- a line begins with this word exactly where it is of this kind
pub begins_shape : (line : Line) → BeginsWith (codes "shape ") (words_of line) ↔ IsShape line
begins_shape line = (λ begins. (first_words line begins.0).0 begins.1, shape_word line)

end_word : (line : Line) → IsEnd line → BeginsWith (codes "end ") (words_of line)
end_word (lines.End count) is = (decimal count, refl)
end_word line is = absurd is

-- a line begins with this word exactly where it is of this kind
pub begins_end : (line : Line) → BeginsWith (codes "end ") (words_of line) ↔ IsEnd line
begins_end line = (λ begins. (first_words line begins.0).1 begins.1, end_word line)
