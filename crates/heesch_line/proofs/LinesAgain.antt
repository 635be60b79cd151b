-- Lines: what is spelled so is read.
use Rattle.std.proofs.Common.{◌≡◌, ◌≢◌, ℕ, Bool, true, false, List, [], ◌++◌, Option, Some, None, refl, sym, ap, ◌∙◌}
use Rattle.std.specs.Prelude.{codes, decimal}
use Rattle.std.proofs.lemmas.List.{append-nil}
use Rattle.heesch_grid.specs.declared.Cell.{Cell}
use Rattle.heesch_grid.specs.declared.isometries.Iso.{Iso}
use Rattle.heesch_grid.specs.declared.GridName.{GridName}
use Rattle.heesch_grid.specs.Lattice.{Triple}
use Rattle.heesch_grid.specs.Names.{grid_word}
use Rattle.heesch_grid.specs.Symmetry.{Member}
use Rattle.heesch_cnf.specs.declared.literal.Lit.{Lit}
use Rattle.heesch_lattice.specs.Reduction.{IsSmallTriple}
use Rattle.heesch_cert.specs.declared.header.Subject.{Subject}
use Rattle.heesch_cert.specs.declared.limits.Limits.{Limits}
use Rattle.heesch_cert.specs.Limits.{AreLimits}
use Rattle.heesch_cert.specs.declared.verdict.Phase.{Phase}
use Rattle.heesch_cert.specs.declared.verdict.Verdict.{Verdict}
use Rattle.heesch_cert.specs.declared.verdict.Verdict.TheVariants as verdicts
use Rattle.heesch_text.specs.declared.line.Outcome.{Outcome}
use Rattle.heesch_text.specs.declared.line.BareOutcome.{BareOutcome}
use Rattle.heesch_text.specs.declared.line.Line.{Line}
use Rattle.heesch_text.specs.declared.line.Line.TheVariants as lines
use Rattle.heesch_text.specs.Fields.{spaced, cells_text, lit_text, triple_text}
use Rattle.heesch_text.specs.Names.{version_text, kind_text, phase_text, outcome_text, bare_text}
use Rattle.heesch_cert.specs.Sizes.{subject_word, IsSubject}
use Rattle.heesch_text.specs.Lines.{limits_text, verdict_text, words_of}
use Rattle.heesch_text.specs.Naturals.{IsNatural}
use Rattle.heesch_line.specs.Forms.{IsVerdict, IsLine}
use Rattle.heesch_line.specs.Reading.{parted, number_at, outcome_at, bare_outcome_at}
use Rattle.heesch_line.specs.LineReading.{header_at, shape_at, tiles_at, heesch_at, stop_at, verdict_at, verdict_line_at, end_at, lattice_at, tile_at, coronas_at, layer_at, open_at, wall_at, bare_at, triple_line_at, learn_at, cut_at, empty_at, search_line_at, cover_line_at, front_line_at, line_at}
use Rattle.heesch_line.proofs.Steps.{some_is, none_some}
use Rattle.heesch_line.proofs.Numbers.{number_again, Stops}
use Rattle.heesch_line.proofs.FieldLaws.{regroup2, regroup3, regroup5, iso_words, iso_again, three_numbers_again, fits_triple, triple_natural, version_again, grid_again, kind_again, phase_again, outcome_again, bare_outcome_again, subject_again, limits_again}
use Rattle.heesch_line.proofs.WordLaws.{Ends, numbers_again, all_numbers_again, literals_again, places_again, cells_again}

-- where a search stopped
stop_again : (h : ℕ) (phase : Phase) (at : ℕ) (rest : List ℕ) → IsNatural h → IsNatural at → Stops rest → stop_at ((decimal h ++ codes " " ++ phase_text phase ++ codes " " ++ decimal at) ++ rest) ≡ Some ((h, phase, at), rest)
unfolding stop_at
stop_again h phase at rest natural natural_at stops =
    let regroup = regroup5 (decimal h) (codes " ") (phase_text phase) (codes " ") (decimal at) rest in
    let s0 = number_again h (codes " " ++ (phase_text phase ++ (codes " " ++ (decimal at ++ rest)))) natural refl in
    let s2 = phase_again phase (codes " " ++ (decimal at ++ rest)) in
    let s4 = number_again at rest natural_at stops in
    rw (regroup, s0, s2, s4) refl

verdict_again : (v : Verdict) (rest : List ℕ) → IsVerdict v → Stops rest → Ends rest → verdict_at (verdict_text v ++ rest) ≡ Some (v, rest)
unfolding verdict_at tiles_at heesch_at
verdict_again (verdicts.Tiles kind domain classes) rest fits stops ends =
    let regroup = regroup5 (kind_text kind) (codes " domain ") (decimal domain) (codes " classes ") (decimal classes) rest in
    let s0 = kind_again kind (codes " domain " ++ (decimal domain ++ (codes " classes " ++ (decimal classes ++ rest)))) in
    let s2 = number_again domain (codes " classes " ++ (decimal classes ++ rest)) fits.0 refl in
    let s4 = number_again classes rest fits.1 stops in
    rw (regroup, s0, s2, s4) refl
verdict_again (verdicts.Heesch h m) rest fits stops ends =
    let regroup = regroup3 (decimal h) (codes " nontiler ") (decimal m) rest in
    let s0 = number_again h (codes " nontiler " ++ (decimal m ++ rest)) fits.0 refl in
    let s2 = number_again m rest fits.1 stops in
    rw (regroup, s0, s2) refl
verdict_again (verdicts.Levels h) rest fits stops ends =
    let s0 = number_again h rest fits stops in
    rw s0 refl
verdict_again (verdicts.Holes h) rest fits stops ends =
    let s0 = number_again h rest fits stops in
    rw s0 refl
verdict_again (verdicts.Turns h phase at) rest fits stops ends = rw (stop_again h phase at rest fits.0 fits.1 stops) refl
verdict_again (verdicts.Size h phase at) rest fits stops ends = rw (stop_again h phase at rest fits.0 fits.1 stops) refl

-- a header without its first word
title_again : (brief : Bool) (grid : GridName) (subject : Subject) (limits : Limits) (rest : List ℕ) → IsSubject limits.version grid subject → AreLimits limits → Stops rest
    → header_at brief ((version_text limits.version ++ grid_word grid ++ codes " " ++ subject_word subject ++ limits_text limits) ++ rest) ≡ Some (lines.Header (record { brief = brief; grid = grid; subject = subject; limits = limits }), rest)
unfolding header_at
title_again brief grid subject limits rest fits within stops =
    let regroup = regroup5 (version_text limits.version) (grid_word grid) (codes " ") (subject_word subject) (limits_text limits) rest in
    let v = version_again limits.version (grid_word grid ++ (codes " " ++ (subject_word subject ++ (limits_text limits ++ rest)))) in
    let s0 = grid_again grid (codes " " ++ (subject_word subject ++ (limits_text limits ++ rest))) in
    let s2 = subject_again limits.version grid subject (limits_text limits ++ rest) fits refl in
    let s3 = limits_again limits rest within stops in
    rw (regroup, v, s0, s2, s3) refl

header_again : (brief : Bool) (grid : GridName) (subject : Subject) (limits : Limits) (rest : List ℕ) → IsSubject limits.version grid subject × AreLimits limits → Stops rest → Ends rest → front_line_at (words_of (lines.Header (record { brief = brief; grid = grid; subject = subject; limits = limits })) ++ rest) ≡ Some (lines.Header (record { brief = brief; grid = grid; subject = subject; limits = limits }), rest)
unfolding front_line_at
header_again true grid subject limits rest fits stops ends = rw (title_again true grid subject limits rest fits.0 fits.1 stops) refl
header_again false grid subject limits rest fits stops ends = rw (title_again false grid subject limits rest fits.0 fits.1 stops) refl

shape_again : (cells : List Cell) (rest : List ℕ) → IsLine (lines.Shape cells) → Stops rest → Ends rest → front_line_at (words_of (lines.Shape cells) ++ rest) ≡ Some (lines.Shape cells, rest)
unfolding front_line_at shape_at
shape_again cells rest fits stops ends =
    let s0 = cells_again cells rest fits stops ends in
    rw s0 refl

verdict_line_again : (v : Verdict) (rest : List ℕ) → IsLine (lines.Verdict v) → Stops rest → Ends rest → front_line_at (words_of (lines.Verdict v) ++ rest) ≡ Some (lines.Verdict v, rest)
unfolding front_line_at verdict_line_at
verdict_line_again v rest fits stops ends =
    let s0 = verdict_again v rest fits stops ends in
    rw s0 refl

end_again : (count : ℕ) (rest : List ℕ) → IsLine (lines.End count) → Stops rest → Ends rest → front_line_at (words_of (lines.End count) ++ rest) ≡ Some (lines.End count, rest)
unfolding front_line_at end_at
end_again count rest fits stops ends =
    let s0 = number_again count rest fits stops in
    rw s0 refl

layer_again : (places : List Iso) (rest : List ℕ) → IsLine (lines.Layer places) → Stops rest → Ends rest → front_line_at (words_of (lines.Layer places) ++ rest) ≡ Some (lines.Layer places, rest)
unfolding front_line_at cover_line_at layer_at
layer_again places rest fits stops ends =
    let s0 = places_again places rest fits stops ends in
    rw s0 refl

tile_again : (place : Iso) (member : Member) (rest : List ℕ) → IsLine (lines.Tile place member) → Stops rest → Ends rest → front_line_at (words_of (lines.Tile place member) ++ rest) ≡ Some (lines.Tile place member, rest)
unfolding front_line_at cover_line_at tile_at
tile_again place member rest fits stops ends =
    let regroup = regroup5 (iso_words 32 place) (codes " class ") (decimal member.class) (codes " by ") (iso_words 32 member.by) rest in
    let s0 = iso_again 32 place (codes " class " ++ (decimal member.class ++ (codes " by " ++ (iso_words 32 member.by ++ rest)))) refl fits.0 refl in
    let s2 = number_again member.class (codes " by " ++ (iso_words 32 member.by ++ rest)) fits.1 refl in
    let s4 = iso_again 32 member.by rest refl fits.2 stops in
    rw (regroup, s0, s2, s4) refl

coronas_again : (count : ℕ) (rest : List ℕ) → IsLine (lines.Coronas count) → Stops rest → Ends rest → front_line_at (words_of (lines.Coronas count) ++ rest) ≡ Some (lines.Coronas count, rest)
unfolding front_line_at cover_line_at coronas_at
coronas_again count rest fits stops ends =
    let s0 = number_again count rest fits stops in
    rw s0 refl

open_again : (count : ℕ) (rest : List ℕ) → IsLine (lines.Open count) → Stops rest → Ends rest → front_line_at (words_of (lines.Open count) ++ rest) ≡ Some (lines.Open count, rest)
unfolding front_line_at cover_line_at open_at
open_again count rest fits stops ends =
    let s0 = number_again count rest fits stops in
    rw s0 refl

lattice_again : (t : Triple) (rest : List ℕ) → IsLine (lines.Lattice t) → Stops rest → Ends rest → front_line_at (words_of (lines.Lattice t) ++ rest) ≡ Some (lines.Lattice t, rest)
unfolding front_line_at cover_line_at lattice_at
lattice_again t rest fits stops ends =
    let s0 = three_numbers_again t.p t.q t.s rest (triple_natural t.p t.q t.s fits).0 (triple_natural t.p t.q t.s fits).1 (triple_natural t.p t.q t.s fits).2 stops in
    rw (s0, fits_triple t.p t.q t.s fits) refl

triple_again : (t : Triple) (refuted : Bool) (rest : List ℕ) → IsSmallTriple t → Stops rest → Ends rest → front_line_at (words_of (lines.Triple t refuted) ++ rest) ≡ Some (lines.Triple t refuted, rest)
unfolding front_line_at cover_line_at search_line_at triple_line_at
triple_again t true rest fits stops ends =
    let regroup = regroup2 (triple_text t) (codes " refuted") rest in
    let s0 = three_numbers_again t.p t.q t.s (codes " refuted" ++ rest) (triple_natural t.p t.q t.s fits).0 (triple_natural t.p t.q t.s fits).1 (triple_natural t.p t.q t.s fits).2 refl in
    rw (regroup, s0, fits_triple t.p t.q t.s fits) refl
triple_again t false rest fits stops ends =
    let regroup = regroup2 (triple_text t) (codes " spent") rest in
    let s0 = three_numbers_again t.p t.q t.s (codes " spent" ++ rest) (triple_natural t.p t.q t.s fits).0 (triple_natural t.p t.q t.s fits).1 (triple_natural t.p t.q t.s fits).2 refl in
    rw (regroup, s0, fits_triple t.p t.q t.s fits) refl

-- a level, and how a search at it ended
level_again : {X : Type 0} (text : X → List ℕ) (at : List ℕ → Option (X × List ℕ)) (make : ℕ → X → Line) (level : ℕ) (x : X) (rest : List ℕ)
    → IsNatural level → at (text x ++ rest) ≡ Some (x, rest) → parted make number_at (codes " ") at ((decimal level ++ codes " " ++ text x) ++ rest) ≡ Some (make level x, rest)
level_again text at make level x rest natural again =
    let regroup = regroup3 (decimal level) (codes " ") (text x) rest in
    let s0 = number_again level (codes " " ++ (text x ++ rest)) natural refl in
    rw (regroup, s0, again) refl

wall_again : (level : ℕ) (outcome : Outcome) (rest : List ℕ) → IsLine (lines.Wall level outcome) → Stops rest → Ends rest → front_line_at (words_of (lines.Wall level outcome) ++ rest) ≡ Some (lines.Wall level outcome, rest)
unfolding front_line_at cover_line_at search_line_at wall_at
wall_again level outcome rest fits stops ends = level_again outcome_text outcome_at lines.Wall level outcome rest fits (outcome_again outcome rest)

bare_again : (level : ℕ) (outcome : BareOutcome) (rest : List ℕ) → IsLine (lines.Bare level outcome) → Stops rest → Ends rest → front_line_at (words_of (lines.Bare level outcome) ++ rest) ≡ Some (lines.Bare level outcome, rest)
unfolding front_line_at cover_line_at search_line_at bare_at
bare_again level outcome rest fits stops ends = level_again bare_text bare_outcome_at lines.Bare level outcome rest fits (bare_outcome_again outcome rest)

learn_again : (clause : List Lit) (hints : List ℕ) (rest : List ℕ) → IsLine (lines.Learn clause hints) → Stops rest → Ends rest → front_line_at (words_of (lines.Learn clause hints) ++ rest) ≡ Some (lines.Learn clause hints, rest)
unfolding front_line_at cover_line_at search_line_at learn_at
learn_again clause hints rest fits stops ends =
    let regroup = regroup3 (spaced lit_text clause) (codes " :") (spaced decimal hints) rest in
    let s0 = literals_again clause (codes " :" ++ (spaced decimal hints ++ rest)) fits.0 refl refl in
    let s2 = numbers_again hints rest fits.1 stops ends in
    rw (regroup, s0, s2) refl

cut_again : (level : ℕ) (hole : List Cell) (border : List ℕ) (rest : List ℕ) → IsLine (lines.Cut (record { level = level; hole = hole; border = border })) → Stops rest → Ends rest → front_line_at (words_of (lines.Cut (record { level = level; hole = hole; border = border })) ++ rest) ≡ Some (lines.Cut (record { level = level; hole = hole; border = border }), rest)
unfolding front_line_at cover_line_at search_line_at cut_at
cut_again level hole border rest fits stops ends =
    let regroup = regroup5 (decimal level) (codes " : ") (cells_text hole) (codes " :") (spaced decimal border) rest in
    let s0 = number_again level (codes " : " ++ (cells_text hole ++ (codes " :" ++ (spaced decimal border ++ rest)))) fits.0 refl in
    let s2 = cells_again hole (codes " :" ++ (spaced decimal border ++ rest)) fits.1 refl refl in
    let s4 = all_numbers_again border rest fits.2 stops ends in
    rw (regroup, s0, s2, s4) refl

empty_again : (hints : List ℕ) (rest : List ℕ) → IsLine (lines.Empty hints) → Stops rest → Ends rest → front_line_at (words_of (lines.Empty hints) ++ rest) ≡ Some (lines.Empty hints, rest)
unfolding front_line_at cover_line_at search_line_at empty_at
empty_again hints rest fits stops ends =
    let s0 = numbers_again hints rest fits stops ends in
    rw s0 refl

front_again : (line : Line) (rest : List ℕ) → IsLine line → Stops rest → Ends rest → front_line_at (words_of line ++ rest) ≡ Some (line, rest)
unfolding front_line_at cover_line_at search_line_at
front_again (lines.Header h) rest fits stops ends = header_again h.brief h.grid h.subject h.limits rest fits stops ends
front_again (lines.Shape cells) rest fits stops ends = shape_again cells rest fits stops ends
front_again (lines.Verdict v) rest fits stops ends = verdict_line_again v rest fits stops ends
front_again (lines.Lattice t) rest fits stops ends = lattice_again t rest fits stops ends
front_again (lines.Tile place member) rest fits stops ends = tile_again place member rest fits stops ends
front_again (lines.Coronas count) rest fits stops ends = coronas_again count rest fits stops ends
front_again (lines.Layer places) rest fits stops ends = layer_again places rest fits stops ends
front_again (lines.Wall level outcome) rest fits stops ends = wall_again level outcome rest fits stops ends
front_again (lines.Bare level outcome) rest fits stops ends = bare_again level outcome rest fits stops ends
front_again (lines.Open count) rest fits stops ends = open_again count rest fits stops ends
front_again (lines.Triple t refuted) rest fits stops ends = triple_again t refuted rest fits stops ends
front_again (lines.Learn clause hints) rest fits stops ends = learn_again clause hints rest fits stops ends
front_again (lines.Cut cut) rest fits stops ends = cut_again cut.level cut.hole cut.border rest fits stops ends
front_again (lines.Empty hints) rest fits stops ends = empty_again hints rest fits stops ends
front_again lines.Spent rest fits stops ends = refl
front_again (lines.End count) rest fits stops ends = end_again count rest fits stops ends

-- a line's words are read as this line
pub line_again : (line : Line) → IsLine line → line_at (words_of line) ≡ Some line
unfolding line_at
line_again line fits =
    let front = front_again line [] fits refl refl in
    let whole : front_line_at (words_of line) ≡ Some (line, []) = rw (append-nil (words_of line)) at front in
    rw whole refl

-- two lines with the same words are the same
pub words_tell : (line other : Line) → IsLine line → IsLine other → words_of line ≡ words_of other → line ≡ other
words_tell line other fits fit same = some_is line other (sym (line_again line fits) ∙ ap line_at same ∙ line_again other fit)

-- bytes of which no line is read are the words of none
pub no_line : (bytes : List ℕ) → line_at bytes ≡ None → (line : Line) → IsLine line → words_of line ≢ bytes
no_line bytes nothing line fits same = none_some line (sym nothing ∙ ap line_at (sym same) ∙ line_again line fits)
