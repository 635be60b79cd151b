-- The words of a line have no newline.
use Rattle.std.proofs.Common.{◌≡◌, ◌≢◌, ℕ, suc, ◌<◌, Bool, true, false, not, ◌&&◌, eqb, List, [], ◌∷◌, ◌++◌, length, get_or, refl, arith, ℤ, pos, negsuc}
use Rattle.std.specs.Prelude.{codes, decimal, if◌then◌else◌}
use Rattle.std.specs.Fmt.{signed_decimal}
use Rattle.std.specs.Int.{IsInRange}
use Rattle.std.specs.List.{AllByRecursion}
use Rattle.std.proofs.lemmas.Bool.Decides.{nat_tests}
use Rattle.std.proofs.lemmas.Int.{ints}
use Rattle.heesch_grid.specs.declared.Cell.{Cell}
use Rattle.heesch_grid.specs.declared.isometries.Iso.{Iso}
use Rattle.heesch_grid.specs.declared.GridName.{GridName}
use Rattle.heesch_grid.specs.declared.GridName.TheVariants.{Square, Hex, Iamond, Kite}
use Rattle.heesch_grid.specs.Lattice.{Triple}
use Rattle.heesch_grid.specs.Names.{grid_word}
use Rattle.heesch_grid.specs.Vectors.{IsWithin}
use Rattle.heesch_cnf.specs.declared.literal.Lit.{Lit}
use Rattle.heesch_lattice.specs.Reduction.{IsSmallTriple}
use Rattle.heesch_cert.specs.declared.header.Header.{Header}
use Rattle.heesch_cert.specs.declared.header.Subject.{Subject}
use Rattle.heesch_cert.specs.declared.header.Subject.TheVariants.{Size, Given}
use Rattle.heesch_cnf.specs.declared.version.Version.{Version}
use Rattle.heesch_cnf.specs.declared.version.Version.TheVariants.{One, Two}
use Rattle.heesch_cert.specs.declared.limits.Limits.{Limits}
use Rattle.heesch_cert.specs.Limits.{AreLimits}
use Rattle.heesch_cert.specs.Sizes.{IsSubject, subject_word}
use Rattle.heesch_cert.specs.declared.verdict.Kind.{Kind}
use Rattle.heesch_cert.specs.declared.verdict.Kind.TheVariants.{Translation, HalfTurn, Periodic}
use Rattle.heesch_cert.specs.declared.verdict.Phase.{Phase}
use Rattle.heesch_cert.specs.declared.verdict.Phase.TheVariants.{Free as FreePhase, Bare as BarePhase}
use Rattle.heesch_cert.specs.declared.verdict.Verdict.{Verdict}
use Rattle.heesch_cert.specs.declared.verdict.Verdict.TheVariants as verdicts
use Rattle.heesch_text.specs.declared.line.Outcome.{Outcome}
use Rattle.heesch_text.specs.declared.line.Outcome.TheVariants as outcomes
use Rattle.heesch_text.specs.declared.line.BareOutcome.{BareOutcome}
use Rattle.heesch_text.specs.declared.line.BareOutcome.TheVariants as bares
use Rattle.heesch_text.specs.declared.line.Line.{Line}
use Rattle.heesch_text.specs.declared.line.Line.TheVariants as lines
use Rattle.heesch_text.specs.Fields.{spaced, cell_text, cells_text, iso_text, place_text, lit_text, triple_text}
use Rattle.heesch_text.specs.Names.{version_text, kind_text, phase_text, outcome_text, bare_text}
use Rattle.heesch_text.specs.Lines.{title_text, limits_text, verdict_text, words_of}
use Rattle.heesch_text.specs.Naturals.{IsNatural}
use Rattle.heesch_line.specs.Forms.{IsInteger, IsPlace, IsLiteral, IsVerdict, IsLine, HasNoNewline}
use Rattle.heesch_line.proofs.Numbers.{decimal_digits}
use Rattle.heesch_cert.proofs.FewCells.{few_cells}
use Rattle.heesch_line.proofs.FieldLaws.{triple_natural}

-- no byte is a newline
abbrev pub free : List ℕ → Bool
free [] = true
free (b ∷ bytes) = not (eqb b 10) && free bytes

pub record Free (bytes : List ℕ) : Type 0 where
  pub is : free bytes ≡ true

both : (a b : Bool) → a ≡ true → b ≡ true → (a && b) ≡ true
both true b h k = k
both false b h k = absurd cc

pub parts : (a b : Bool) → (a && b) ≡ true → (a ≡ true) × (b ≡ true)
parts true b h = (refl, h)
parts false b h = absurd cc

free_append : (a b : List ℕ) → free a ≡ true → free b ≡ true → free (a ++ b) ≡ true
free_append [] b h k = k
free_append (x ∷ xs) b h k =
    let p = parts (not (eqb x 10)) (free xs) h in
    both (not (eqb x 10)) (free (xs ++ b)) p.0 (free_append xs b p.1 k)

pub both_free : {a b : List ℕ} → Free a → Free b → Free (a ++ b)
both_free {a} {b} h k = record { is = free_append a b h.is k.is }

word_free : (word : List ℕ) → free word ≡ true → Free word
word_free word h = record { is = h }

digits_free : (ds : List ℕ) → ((i : ℕ) → i < length ds → IsInRange 48 57 (get_or ds i 0)) → free ds ≡ true
digits_free [] digits = refl
digits_free (d ∷ ds) digits =
    let range = digits 0 (omega arith) in
    let other : not (eqb d 10) ≡ true = grind (arith, nat_tests) in
    both (not (eqb d 10)) (free ds) other (digits_free ds (λ i lt. digits (suc i) (omega arith)))

decimal_free : (n : ℕ) → IsNatural n → Free (decimal n)
decimal_free n fits = record { is = digits_free (decimal n) (decimal_digits n fits) }

signed_free : (z : ℤ) → IsInteger z → Free (signed_decimal z)
signed_free (pos n) fits = decimal_free n (omega (arith, ints))
signed_free (negsuc n) fits = record { is = (decimal_free (suc n) (omega (arith, ints))).is }

comma : Free (codes ",")
comma = word_free (codes ",") refl

space : Free (codes " ")
space = word_free (codes " ") refl

colon : Free (codes " :")
colon = word_free (codes " :") refl

cell_free : (c : Cell) → IsWithin 100000 c → Free (cell_text c)
cell_free c fits = both_free (both_free (signed_free c.a (fits.a_low, fits.a_high)) comma) (signed_free c.b (fits.b_low, fits.b_high))

spaced_free : {X : Type 0} (text : X → List ℕ) (Fits : X → Type 0) → ((x : X) → Fits x → Free (text x)) → (xs : List X) → AllByRecursion Fits xs → Free (spaced text xs)
spaced_free text Fits law [] fits = record { is = refl }
spaced_free text Fits law (x ∷ xs) fits = both_free (both_free space (law x fits.0)) (spaced_free text Fits law xs fits.1)

pub cells_free : (cells : List Cell) → AllByRecursion (IsWithin 100000) cells → Free (cells_text cells)
cells_free [] fits = record { is = refl }
cells_free (c ∷ cs) fits = both_free (cell_free c fits.0) (spaced_free cell_text (IsWithin 100000) cell_free cs fits.1)

small_turn : (i : Iso) → IsPlace i → IsNatural i.turn
small_turn i fits = let small = fits.turn_range in omega arith

iso_free : (i : Iso) → IsPlace i → Free (iso_text i)
iso_free i fits = both_free (both_free (both_free (both_free (decimal_free i.turn (small_turn i fits)) space) (signed_free i.da fits.da_range)) space) (signed_free i.db fits.db_range)

place_free : (i : Iso) → IsPlace i → Free (place_text i)
place_free i fits = both_free (both_free (both_free (both_free (decimal_free i.turn (small_turn i fits)) comma) (signed_free i.da fits.da_range)) comma) (signed_free i.db fits.db_range)

lit_free : (l : Lit) → IsLiteral l → Free (lit_text l)
lit_free l fits = both_free (sign l.positive) (decimal_free l.var fits.1)
  where
    sign : (positive : Bool) → Free (if positive then [] else codes "-")
    sign true = record { is = refl }
    sign false = record { is = refl }

triple_free : (t : Triple) → IsSmallTriple t → Free (triple_text t)
triple_free t fits =
    let natural = triple_natural t.p t.q t.s fits in
    both_free (both_free (both_free (both_free (decimal_free t.p natural.0) space) (decimal_free t.q natural.1)) space) (decimal_free t.s natural.2)

grid_free : (x : GridName) → Free (grid_word x)
grid_free Square = record { is = refl }
grid_free Hex = record { is = refl }
grid_free Iamond = record { is = refl }
grid_free Kite = record { is = refl }

kind_free : (x : Kind) → Free (kind_text x)
kind_free Translation = record { is = refl }
kind_free HalfTurn = record { is = refl }
kind_free Periodic = record { is = refl }

version_free : (x : Version) → Free (version_text x)
version_free One = record { is = refl }
version_free Two = record { is = refl }

phase_free : (x : Phase) → Free (phase_text x)
phase_free FreePhase = record { is = refl }
phase_free BarePhase = record { is = refl }

outcome_free : (x : Outcome) → Free (outcome_text x)
outcome_free outcomes.Refuted = record { is = refl }
outcome_free outcomes.Spent = record { is = refl }
outcome_free outcomes.Size = record { is = refl }

bare_free : (x : BareOutcome) → Free (bare_text x)
bare_free bares.Same = record { is = refl }
bare_free bares.Open = record { is = refl }
bare_free (bares.Searched outcome) = outcome_free outcome

subject_free : (version : Version) (grid : GridName) (x : Subject) → IsSubject version grid x → Free (subject_word x)
subject_free version grid Given fits = record { is = refl }
subject_free version grid (Size n) fits = let most = few_cells version grid in decimal_free n (omega arith)

number_behind : (word : List ℕ) (n : ℕ) → free word ≡ true → IsNatural n → Free (word ++ decimal n)
number_behind word n h fits = both_free (word_free word h) (decimal_free n fits)

limits_free : (l : Limits) → AreLimits l → Free (limits_text l)
limits_free l fits =
    let turns_range = fits.turns_range in
    let levels_range = fits.levels_range in
    let domain_range = fits.domain_range in
    let size_range = fits.size_range in
    let natural : IsNatural l.turns × IsNatural l.levels × IsNatural l.domain × IsNatural l.size = (omega arith, omega arith, omega arith, omega arith) in
    let turns = both_free (word_free (codes " turns ") refl) (decimal_free l.turns natural.0) in
    let levels = both_free (both_free turns (word_free (codes " levels ") refl)) (decimal_free l.levels natural.1) in
    let domain = both_free (both_free levels (word_free (codes " domain ") refl)) (decimal_free l.domain natural.2) in
    both_free (both_free domain (word_free (codes " size ") refl)) (decimal_free l.size natural.3)

title_free : (h : Header) → IsSubject h.limits.version h.grid h.subject → Free (title_text h)
title_free h fits = both_free (both_free (both_free (both_free (brief h.brief) (version_free h.limits.version)) (grid_free h.grid)) space) (subject_free h.limits.version h.grid h.subject fits)
  where
    brief : (b : Bool) → Free (if b then codes "brief" else codes "heesch")
    brief true = record { is = refl }
    brief false = record { is = refl }

stop_free : (word : List ℕ) (h : ℕ) (phase : Phase) (at : ℕ) → free word ≡ true → IsNatural h → IsNatural at → Free (word ++ decimal h ++ codes " " ++ phase_text phase ++ codes " " ++ decimal at)
stop_free word h phase at known first second = both_free (both_free (both_free (both_free (number_behind word h known first) space) (phase_free phase)) space) (decimal_free at second)

verdict_free : (v : Verdict) → IsVerdict v → Free (verdict_text v)
verdict_free (verdicts.Tiles kind domain classes) fits =
    let named = both_free (word_free (codes "tiles ") refl) (kind_free kind) in
    let counted = both_free (both_free named (word_free (codes " domain ") refl)) (decimal_free domain fits.0) in
    both_free (both_free counted (word_free (codes " classes ") refl)) (decimal_free classes fits.1)
verdict_free (verdicts.Heesch h m) fits = both_free (both_free (number_behind (codes "heesch ") h refl fits.0) (word_free (codes " nontiler ") refl)) (decimal_free m fits.1)
verdict_free (verdicts.Levels h) fits = number_behind (codes "undecided levels ") h refl fits
verdict_free (verdicts.Holes h) fits = number_behind (codes "undecided holes ") h refl fits
verdict_free (verdicts.Turns h phase at) fits = stop_free (codes "undecided turns ") h phase at refl fits.0 fits.1
verdict_free (verdicts.Size h phase at) fits = stop_free (codes "undecided size ") h phase at refl fits.0 fits.1

line_free : (line : Line) → IsLine line → Free (words_of line)
line_free (lines.Header h) fits = both_free (title_free h fits.0) (limits_free h.limits fits.1)
line_free (lines.Shape cells) fits = both_free (word_free (codes "shape ") refl) (cells_free cells fits.each)
line_free (lines.Verdict v) fits = both_free (word_free (codes "verdict ") refl) (verdict_free v fits)
line_free (lines.Lattice t) fits = both_free (word_free (codes "lattice ") refl) (triple_free t fits)
line_free (lines.Tile place member) fits =
    let placed = both_free (word_free (codes "tile ") refl) (iso_free place fits.0) in
    let classed = both_free (both_free placed (word_free (codes " class ") refl)) (decimal_free member.class fits.1) in
    both_free (both_free classed (word_free (codes " by ") refl)) (iso_free member.by fits.2)
line_free (lines.Coronas count) fits = number_behind (codes "coronas ") count refl fits
line_free (lines.Layer places) fits = both_free (word_free (codes "layer") refl) (spaced_free place_text IsPlace place_free places fits.each)
line_free (lines.Wall level outcome) fits = both_free (both_free (number_behind (codes "wall ") level refl fits) space) (outcome_free outcome)
line_free (lines.Bare level outcome) fits = both_free (both_free (number_behind (codes "bare ") level refl fits) space) (bare_free outcome)
line_free (lines.Open count) fits = number_behind (codes "open ") count refl fits
line_free (lines.Triple t true) fits = both_free (both_free (word_free (codes "triple ") refl) (triple_free t fits)) (word_free (codes " refuted") refl)
line_free (lines.Triple t false) fits = both_free (both_free (word_free (codes "triple ") refl) (triple_free t fits)) (word_free (codes " spent") refl)
line_free (lines.Learn clause hints) fits = both_free (both_free (both_free (word_free (codes "learn") refl) (spaced_free lit_text IsLiteral lit_free clause fits.0.each)) colon) (spaced_free decimal IsNatural decimal_free hints fits.1.each)
line_free (lines.Cut cut) fits =
    let holed = both_free (both_free (number_behind (codes "cut ") cut.level refl fits.0) (word_free (codes " : ") refl)) (cells_free cut.hole fits.1.each) in
    both_free (both_free holed colon) (spaced_free decimal IsNatural decimal_free cut.border fits.2)
line_free (lines.Empty hints) fits = both_free (word_free (codes "empty") refl) (spaced_free decimal IsNatural decimal_free hints fits.each)
line_free lines.Spent fits = record { is = refl }
line_free (lines.End count) fits = number_behind (codes "end ") count refl fits

each_other : (bytes : List ℕ) → free bytes ≡ true → HasNoNewline bytes
each_other [] h = tt
each_other (b ∷ bytes) h =
    let p = parts (not (eqb b 10)) (free bytes) h in
    (differs p.0, each_other bytes p.1)
  where
    differs : not (eqb b 10) ≡ true → b ≢ 10
    differs t = grind (arith, nat_tests)

-- the words of a line have no newline
pub no_newline : (line : Line) → IsLine line → HasNoNewline (words_of line)
no_newline line fits = each_other (words_of line) (line_free line fits).is
