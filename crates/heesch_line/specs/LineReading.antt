-- The lines of a catalogue at the front of a text, by their first words.
use Rattle.std.specs.Prelude.{ℕ, List, [], ◌∷◌, length, ◌==◌, Bool, true, false, Option, Some, codes}
use Rattle.heesch_cert.specs.declared.verdict.Phase.{Phase}
use Rattle.heesch_cert.specs.declared.verdict.Verdict.{Verdict}
use Rattle.heesch_cert.specs.declared.verdict.Verdict.TheVariants as verdicts
use Rattle.heesch_text.specs.declared.line.Line.{Line}
use Rattle.heesch_text.specs.declared.line.Line.TheVariants as lines
use Rattle.heesch_line.specs.Reading.{◌>>=◌, given, by_words, names, nothing, made, parted, both_at, literal_at, number_at, iso_at, lit_at, three_numbers_at, triple_of, version_at, grid_at, kind_at, phase_at, outcome_at, bare_outcome_at, subject_at, limits_at, more_words_at, some_words_at, cells_at}

unfoldable pub header_at : Bool → List ℕ → Option (Line × List ℕ)
header_at brief bytes = do
  version ← version_at bytes
  grid ← grid_at version.1
  second ← literal_at (codes " ") grid.1
  subject ← subject_at version.0 grid.0 second
  limits ← limits_at version.0 subject.1
  Some (lines.Header (record { brief = brief; grid = grid.0; subject = subject.0; limits = limits.0 }), limits.1)

unfoldable pub shape_at : List ℕ → Option (Line × List ℕ)
shape_at bytes = made lines.Shape cells_at bytes

unfoldable pub tiles_at : List ℕ → Option (Verdict × List ℕ)
tiles_at bytes = parted (λ t c. verdicts.Tiles t.0 t.1 c) (both_at kind_at (codes " domain ") number_at) (codes " classes ") number_at bytes

unfoldable pub heesch_at : List ℕ → Option (Verdict × List ℕ)
heesch_at bytes = parted verdicts.Heesch number_at (codes " nontiler ") number_at bytes

-- where a search stopped
unfoldable pub stop_at : List ℕ → Option ((ℕ × Phase × ℕ) × List ℕ)
stop_at bytes = parted (λ s at. (s.0, s.1, at)) (both_at number_at (codes " ") phase_at) (codes " ") number_at bytes

-- what stands behind the first word of a verdict
abbrev pub verdict_rows : List (List ℕ × (List ℕ → Option (Verdict × List ℕ)))
verdict_rows =
    (codes "tiles ", tiles_at) ∷ (codes "heesch ", heesch_at)
    ∷ (codes "undecided levels ", made verdicts.Levels number_at) ∷ (codes "undecided holes ", made verdicts.Holes number_at)
    ∷ (codes "undecided turns ", made (λ s. verdicts.Turns s.0 s.1 s.2) stop_at)
    ∷ (codes "undecided size ", made (λ s. verdicts.Size s.0 s.1 s.2) stop_at) ∷ []

unfoldable pub verdict_at : List ℕ → Option (Verdict × List ℕ)
verdict_at bytes = by_words verdict_rows nothing bytes

unfoldable pub verdict_line_at : List ℕ → Option (Line × List ℕ)
verdict_line_at bytes = made lines.Verdict verdict_at bytes

unfoldable pub end_at : List ℕ → Option (Line × List ℕ)
end_at bytes = made lines.End number_at bytes

unfoldable pub lattice_at : List ℕ → Option (Line × List ℕ)
lattice_at bytes = do
  numbers ← three_numbers_at bytes
  triple ← triple_of numbers.0.0 numbers.0.1 numbers.0.2
  Some (lines.Lattice triple, numbers.1)

unfoldable pub tile_at : List ℕ → Option (Line × List ℕ)
tile_at bytes = parted (λ t by. lines.Tile t.0 (record { class = t.1; by = by })) (both_at (iso_at 32) (codes " class ") number_at) (codes " by ") (iso_at 32) bytes

unfoldable pub coronas_at : List ℕ → Option (Line × List ℕ)
coronas_at bytes = made lines.Coronas number_at bytes

unfoldable pub layer_at : List ℕ → Option (Line × List ℕ)
layer_at bytes = made lines.Layer (some_words_at (iso_at 44)) bytes

unfoldable pub open_at : List ℕ → Option (Line × List ℕ)
open_at bytes = made lines.Open number_at bytes

unfoldable pub wall_at : List ℕ → Option (Line × List ℕ)
wall_at bytes = parted lines.Wall number_at (codes " ") outcome_at bytes

unfoldable pub bare_at : List ℕ → Option (Line × List ℕ)
bare_at bytes = parted lines.Bare number_at (codes " ") bare_outcome_at bytes

-- whether a triple was refuted, by the word behind it
abbrev pub refuted_rows : List (List ℕ × (List ℕ → Option (Bool × List ℕ)))
refuted_rows = (codes " refuted", names true) ∷ (codes " spent", names false) ∷ []

unfoldable pub triple_line_at : List ℕ → Option (Line × List ℕ)
triple_line_at bytes = do
  numbers ← three_numbers_at bytes
  triple ← triple_of numbers.0.0 numbers.0.1 numbers.0.2
  refuted ← by_words refuted_rows nothing numbers.1
  Some (lines.Triple triple refuted.0, refuted.1)

unfoldable pub learn_at : List ℕ → Option (Line × List ℕ)
learn_at bytes = parted lines.Learn (some_words_at lit_at) (codes " :") (some_words_at number_at) bytes

unfoldable pub cut_at : List ℕ → Option (Line × List ℕ)
cut_at bytes =
    parted (λ c border. lines.Cut (record { level = c.0; hole = c.1; border = border })) (both_at number_at (codes " : ") cells_at) (codes " :") (more_words_at number_at []) bytes

unfoldable pub empty_at : List ℕ → Option (Line × List ℕ)
empty_at bytes = made lines.Empty (some_words_at number_at) bytes

-- what stands behind the first word of a line of a search
abbrev pub search_rows : List (List ℕ × (List ℕ → Option (Line × List ℕ)))
search_rows =
    (codes "learn", learn_at) ∷ (codes "cut ", cut_at) ∷ (codes "empty", empty_at) ∷ (codes "wall ", wall_at)
    ∷ (codes "bare ", bare_at) ∷ (codes "triple ", triple_line_at) ∷ (codes "spent", names lines.Spent) ∷ []

unfoldable pub search_line_at : List ℕ → Option (Line × List ℕ)
search_line_at bytes = by_words search_rows nothing bytes

-- what stands behind the first word of a line of a cover or of coronas
abbrev pub cover_rows : List (List ℕ × (List ℕ → Option (Line × List ℕ)))
cover_rows =
    (codes "layer", layer_at) ∷ (codes "lattice ", lattice_at) ∷ (codes "tile ", tile_at) ∷ (codes "coronas ", coronas_at)
    ∷ (codes "open ", open_at) ∷ []

unfoldable pub cover_line_at : List ℕ → Option (Line × List ℕ)
cover_line_at bytes = by_words cover_rows search_line_at bytes

-- what stands behind the first word of any other line
abbrev pub front_rows : List (List ℕ × (List ℕ → Option (Line × List ℕ)))
front_rows =
    (codes "shape ", shape_at) ∷ (codes "verdict ", verdict_line_at) ∷ (codes "end ", end_at) ∷ (codes "heesch", header_at false)
    ∷ (codes "brief", header_at true) ∷ []

unfoldable pub front_line_at : List ℕ → Option (Line × List ℕ)
front_line_at bytes = by_words front_rows cover_line_at bytes

unfoldable pub line_at : List ℕ → Option Line
line_at bytes = front_line_at bytes >>= λ line. given (length line.1 == 0) line.0
