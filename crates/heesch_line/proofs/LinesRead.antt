-- Lines: what is read is spelled so.
use Rattle.std.proofs.Common.{◌≡◌, ℕ, Bool, true, false, eqb, List, [], ◌++◌, length, Option, Some, refl, sym, ap, subst, ◌∙◌}
use Rattle.std.specs.Prelude.{codes, decimal, if◌then◌else◌}
use Rattle.std.specs.List.{AllByRecursion}
use Rattle.std.proofs.lemmas.Bool.{eqb-true}
use Rattle.std.proofs.lemmas.List.{append-nil, nil_from_length}
use Rattle.heesch_grid.specs.declared.Cell.{Cell}
use Rattle.heesch_grid.specs.declared.isometries.Iso.{Iso}
use Rattle.heesch_grid.specs.Lattice.{Triple}
use Rattle.heesch_grid.specs.Vectors.{IsWithin}
use Rattle.heesch_lattice.specs.Reduction.{lattice, IsSmallTriple}
use Rattle.heesch_cert.specs.Sizes.{IsSubject}
use Rattle.heesch_cert.specs.declared.verdict.Kind.{Kind}
use Rattle.heesch_cert.specs.declared.verdict.Phase.{Phase}
use Rattle.heesch_cert.specs.declared.verdict.Verdict.{Verdict}
use Rattle.heesch_cert.specs.declared.verdict.Verdict.TheVariants as verdicts
use Rattle.heesch_text.specs.declared.line.Line.{Line}
use Rattle.heesch_text.specs.declared.line.Line.TheVariants as lines
use Rattle.heesch_text.specs.Fields.{spaced, cells_text, lit_text, place_text}
use Rattle.heesch_text.specs.Names.{version_text, kind_text, phase_text, outcome_text, bare_text}
use Rattle.heesch_text.specs.Lines.{verdict_text, words_of}
use Rattle.heesch_text.specs.Naturals.{IsNatural}
use Rattle.heesch_line.specs.Forms.{IsVerdict, IsLine, AreSome, IsPlace, IsLiteral}
use Rattle.heesch_line.specs.Reading.{◌>>=◌, by_words, names, nothing, made, parted, both_at, literal_at, number_at, iso_at, lit_at, is_triple, three_numbers_at, triple_of, version_at, grid_at, kind_at, phase_at, outcome_at, bare_outcome_at, subject_at, limits_at, more_words_at, some_words_at, cells_at}
use Rattle.heesch_line.specs.LineReading.{header_at, shape_at, tiles_at, heesch_at, stop_at, verdict_at, verdict_line_at, end_at, lattice_at, tile_at, coronas_at, layer_at, open_at, wall_at, bare_at, triple_line_at, learn_at, cut_at, empty_at, search_line_at, cover_line_at, front_line_at, line_at}
use Rattle.heesch_line.specs.LineReading.{verdict_rows, refuted_rows, search_rows, cover_rows, front_rows}
use Rattle.heesch_line.proofs.Steps.{some, some_is, none_some, bind_some, given_some, Takes, ◌▸◌, literal_part, IsRead, is_read, ReadsBehind, by_words_read, named, made_read, parted_read, read_first, both_read}
use Rattle.heesch_line.proofs.Numbers.{number_read}
use Rattle.heesch_line.proofs.FieldLaws.{numbers_text, AreNatural, iso_words, version_read, iso_read, three_numbers_read, triple_fits, grid_read, kind_read, phase_read, outcome_read, bare_outcome_read, subject_read, limits_read}
use Rattle.heesch_line.proofs.WordLaws.{numbers_read, all_numbers_read, literals_read, places_read, cells_read}

-- the kind of a tiling and its domain
abbrev tiling_text : Kind × ℕ → List ℕ
tiling_text t = kind_text t.0 ++ codes " domain " ++ decimal t.1

abbrev IsTiling : Kind × ℕ → Type 0
IsTiling t = Unit {0} × IsNatural t.1

tiles_read : ReadsBehind verdict_text IsVerdict (codes "tiles ", tiles_at)
unfolding tiles_at
tiles_read =
    let two = both_read kind_text (λ _. Unit {0}) decimal IsNatural kind_at (codes " domain ") number_at kind_read number_read in
    parted_read tiling_text IsTiling decimal IsNatural verdict_text IsVerdict (codes "tiles ") (both_at kind_at (codes " domain ") number_at) (codes " classes ") number_at (λ t c. verdicts.Tiles t.0 t.1 c) two number_read (λ a b. refl) (λ a b f g. (f.1, g))

heesch_read : ReadsBehind verdict_text IsVerdict (codes "heesch ", heesch_at)
unfolding heesch_at
heesch_read = parted_read decimal IsNatural decimal IsNatural verdict_text IsVerdict (codes "heesch ") number_at (codes " nontiler ") number_at verdicts.Heesch number_read number_read (λ a b. refl) (λ a b f g. (f, g))

-- where a search stopped
abbrev stop_text : ℕ × Phase × ℕ → List ℕ
stop_text s = decimal s.0 ++ codes " " ++ phase_text s.1 ++ codes " " ++ decimal s.2

abbrev IsStop : ℕ × Phase × ℕ → Type 0
IsStop s = IsNatural s.0 × IsNatural s.2

stop_read : (bytes : List ℕ) (x : (ℕ × Phase × ℕ) × List ℕ) → stop_at bytes ≡ Some x → IsRead stop_text IsStop bytes x
unfolding stop_at
stop_read bytes x e =
    let two = both_read decimal IsNatural phase_text (λ _. Unit {0}) number_at (codes " ") phase_at number_read phase_read in
    read_first stop_text IsStop (parted (λ s at. (s.0, s.1, at)) (both_at number_at (codes " ") phase_at) (codes " ") number_at)
    (parted_read (λ (s : ℕ × Phase). decimal s.0 ++ codes " " ++ phase_text s.1) (λ (s : ℕ × Phase). IsNatural s.0 × Unit {0}) decimal IsNatural stop_text IsStop [] (both_at number_at (codes " ") phase_at) (codes " ") number_at
    (λ s at. (s.0, s.1, at)) two number_read (λ a b. refl) (λ a b f g. (f.0, g))) bytes x e

levels_read : ReadsBehind verdict_text IsVerdict (codes "undecided levels ", made verdicts.Levels number_at)
levels_read = made_read decimal IsNatural verdict_text IsVerdict (codes "undecided levels ") number_at verdicts.Levels number_read (λ a. refl) (λ a h. h)

holes_read : ReadsBehind verdict_text IsVerdict (codes "undecided holes ", made verdicts.Holes number_at)
holes_read = made_read decimal IsNatural verdict_text IsVerdict (codes "undecided holes ") number_at verdicts.Holes number_read (λ a. refl) (λ a h. h)

turns_read : ReadsBehind verdict_text IsVerdict (codes "undecided turns ", made (λ s. verdicts.Turns s.0 s.1 s.2) stop_at)
turns_read = made_read stop_text IsStop verdict_text IsVerdict (codes "undecided turns ") stop_at (λ s. verdicts.Turns s.0 s.1 s.2) stop_read (λ a. refl) (λ a h. h)

size_read : ReadsBehind verdict_text IsVerdict (codes "undecided size ", made (λ s. verdicts.Size s.0 s.1 s.2) stop_at)
size_read = made_read stop_text IsStop verdict_text IsVerdict (codes "undecided size ") stop_at (λ s. verdicts.Size s.0 s.1 s.2) stop_read (λ a. refl) (λ a h. h)

verdict_read : (bytes : List ℕ) (x : Verdict × List ℕ) → verdict_at bytes ≡ Some x → IsRead verdict_text IsVerdict bytes x
unfolding verdict_at
verdict_read bytes x e = by_words_read verdict_text IsVerdict verdict_rows nothing bytes x (tiles_read, (heesch_read, (levels_read, (holes_read, (turns_read, (size_read, tt)))))) (λ n. absurd (none_some x n)) e

abbrev brief_word : Bool → List ℕ
brief_word brief = if brief then codes "brief" else codes "heesch"

header_read : (brief : Bool) (all bytes : List ℕ) (x : Line × List ℕ) → Takes all (brief_word brief) bytes → header_at brief bytes ≡ Some x → IsRead words_of IsLine all x
unfolding header_at
header_read brief all bytes x front e =
    let v = bind_some (version_at bytes) _ x e in
    let fv = version_read bytes v.0 v.1 in
    let g = bind_some (grid_at v.0.1) _ x v.2 in
    let fg = grid_read v.0.1 g.0 g.1 in
    let m = bind_some (literal_at (codes " ") g.0.1) _ x g.2 in
    let s = bind_some (subject_at v.0.0 g.0.0 m.0) _ x m.2 in
    let fs = subject_read v.0.0 g.0.0 m.0 s.0 s.1 in
    let z = bind_some (limits_at v.0.0 s.0.1) _ x s.2 in
    let fz = limits_read v.0.0 s.0.1 z.0 z.1 in
    let version_takes : Takes bytes (version_text z.0.0.version) v.0.1 = subst (λ n. Takes bytes (version_text n) v.0.1) (sym fz.fits.1) fv.takes in
    let subject_fits : IsSubject z.0.0.version g.0.0 s.0.0 = subst (λ n. IsSubject n g.0.0 s.0.0) (sym fz.fits.1) fs.fits in
    let made : Line × List ℕ = (lines.Header (record { brief = brief; grid = g.0.0; subject = s.0.0; limits = z.0.0 }), z.0.1) in
    is_read {made = made} words_of IsLine all (some_is made x z.2) (front ▸ version_takes ▸ fg.takes ▸ literal_part (codes " ") g.0.1 m.0 m.1 ▸ fs.takes ▸ fz.takes) (subject_fits, fz.fits.0)

shape_read : ReadsBehind words_of IsLine (codes "shape ", shape_at)
unfolding shape_at
shape_read = made_read cells_text (AreSome (IsWithin 100000)) words_of IsLine (codes "shape ") cells_at lines.Shape cells_read (λ a. refl) (λ a h. h)

verdict_line_read : ReadsBehind words_of IsLine (codes "verdict ", verdict_line_at)
unfolding verdict_line_at
verdict_line_read = made_read verdict_text IsVerdict words_of IsLine (codes "verdict ") verdict_at lines.Verdict verdict_read (λ a. refl) (λ a h. h)

end_read : ReadsBehind words_of IsLine (codes "end ", end_at)
unfolding end_at
end_read = made_read decimal IsNatural words_of IsLine (codes "end ") number_at lines.End number_read (λ a. refl) (λ a h. h)

-- a tile's place and its class
abbrev placed_text : Iso × ℕ → List ℕ
placed_text t = iso_words 32 t.0 ++ codes " class " ++ decimal t.1

tile_read : ReadsBehind words_of IsLine (codes "tile ", tile_at)
unfolding tile_at
tile_read =
    let two = both_read (iso_words 32) IsPlace decimal IsNatural (iso_at 32) (codes " class ") number_at (iso_read 32) number_read in
    parted_read placed_text (λ t. IsPlace t.0 × IsNatural t.1) (iso_words 32) IsPlace words_of IsLine (codes "tile ") (both_at (iso_at 32) (codes " class ") number_at) (codes " by ") (iso_at 32)
    (λ t by. lines.Tile t.0 (record { class = t.1; by = by })) two (iso_read 32) (λ a b. refl) (λ a b f g. (f.0, f.1, g))

coronas_read : ReadsBehind words_of IsLine (codes "coronas ", coronas_at)
unfolding coronas_at
coronas_read = made_read decimal IsNatural words_of IsLine (codes "coronas ") number_at lines.Coronas number_read (λ a. refl) (λ a h. h)

layer_read : ReadsBehind words_of IsLine (codes "layer", layer_at)
unfolding layer_at
layer_read = made_read (spaced place_text) (AreSome IsPlace) words_of IsLine (codes "layer") (some_words_at (iso_at 44)) lines.Layer places_read (λ a. refl) (λ a h. h)

open_read : ReadsBehind words_of IsLine (codes "open ", open_at)
unfolding open_at
open_read = made_read decimal IsNatural words_of IsLine (codes "open ") number_at lines.Open number_read (λ a. refl) (λ a h. h)

wall_read : ReadsBehind words_of IsLine (codes "wall ", wall_at)
unfolding wall_at
wall_read = parted_read decimal IsNatural outcome_text (λ _. Unit {0}) words_of IsLine (codes "wall ") number_at (codes " ") outcome_at lines.Wall number_read outcome_read (λ a b. refl) (λ a b fits _. fits)

bare_read : ReadsBehind words_of IsLine (codes "bare ", bare_at)
unfolding bare_at
bare_read = parted_read decimal IsNatural bare_text (λ _. Unit {0}) words_of IsLine (codes "bare ") number_at (codes " ") bare_outcome_at lines.Bare number_read bare_outcome_read (λ a b. refl) (λ a b fits _. fits)

-- three numbers that are those of a triple, and what is made of it and of the bytes behind them
triple_read : {X : Type 0} (make : Triple → List ℕ → Option X) (bytes : List ℕ) (x : X) → (three_numbers_at bytes >>= λ n. triple_of n.0.0 n.0.1 n.0.2 >>= λ triple. make triple n.1) ≡ some x
    → (n : (ℕ × ℕ × ℕ) × List ℕ) × IsRead numbers_text AreNatural bytes n × IsSmallTriple (lattice n.0.0 n.0.1 n.0.2) × (make (lattice n.0.0 n.0.1 n.0.2) n.1 ≡ some x)
triple_read make bytes x e =
    let n = bind_some (three_numbers_at bytes) _ x e in
    let t = bind_some (triple_of n.0.0.0 n.0.0.1 n.0.0.2) _ x n.2 in
    let g = given_some (is_triple n.0.0.0 n.0.0.1 n.0.0.2) (lattice n.0.0.0 n.0.0.1 n.0.0.2) t.0 t.1 in
    (n.0, three_numbers_read bytes n.0 n.1, triple_fits n.0.0.0 n.0.0.1 n.0.0.2 g.0, ap (λ (u : Triple). make u n.0.1) g.1 ∙ t.2)

lattice_read : (all bytes : List ℕ) (x : Line × List ℕ) → Takes all (codes "lattice ") bytes → lattice_at bytes ≡ Some x → IsRead words_of IsLine all x
unfolding lattice_at
lattice_read all bytes x front e =
    let (n, read, small, is) = triple_read (λ triple rest. some (lines.Lattice triple, rest)) bytes x e in
    let made : Line × List ℕ = (lines.Lattice (lattice n.0.0 n.0.1 n.0.2), n.1) in
    is_read {made = made} words_of IsLine all (some_is made x is) (front ▸ read.takes) small

-- the word behind a triple
abbrev refuted_text : Bool → List ℕ
refuted_text refuted = if refuted then codes " refuted" else codes " spent"

refuted_read : (bytes : List ℕ) (x : Bool × List ℕ) → by_words refuted_rows nothing bytes ≡ Some x → IsRead refuted_text (λ _. Unit {0}) bytes x
refuted_read bytes x e = by_words_read refuted_text (λ _. Unit {0}) refuted_rows nothing bytes x (named refuted_text true, (named refuted_text false, tt)) (λ n. absurd (none_some x n)) e

triple_line_read : (all bytes : List ℕ) (x : Line × List ℕ) → Takes all (codes "triple ") bytes → triple_line_at bytes ≡ Some x → IsRead words_of IsLine all x
unfolding triple_line_at
triple_line_read all bytes x front e =
    let (n, read, small, is) = triple_read (λ triple rest. by_words refuted_rows nothing rest >>= λ refuted. some (lines.Triple triple refuted.0, refuted.1)) bytes x e in
    let r = bind_some (by_words refuted_rows nothing n.1) _ x is in
    let fr = refuted_read n.1 r.0 r.1 in
    let made : Line × List ℕ = (lines.Triple (lattice n.0.0 n.0.1 n.0.2) r.0.0, r.0.1) in
    is_read {made = made} words_of IsLine all (some_is made x r.2) (front ▸ read.takes ▸ fr.takes) small

learn_read : ReadsBehind words_of IsLine (codes "learn", learn_at)
unfolding learn_at
learn_read = parted_read (spaced lit_text) (AreSome IsLiteral) (spaced decimal) (AreSome IsNatural) words_of IsLine (codes "learn") (some_words_at lit_at) (codes " :") (some_words_at number_at) lines.Learn literals_read numbers_read (λ a b. refl) (λ a b fits fit. (fits, fit))

-- a cut's level and its hole
abbrev hole_text : ℕ × List Cell → List ℕ
hole_text c = decimal c.0 ++ codes " : " ++ cells_text c.1

cut_read : ReadsBehind words_of IsLine (codes "cut ", cut_at)
unfolding cut_at
cut_read =
    let two = both_read decimal IsNatural cells_text (AreSome (IsWithin 100000)) number_at (codes " : ") cells_at number_read cells_read in
    parted_read hole_text (λ c. IsNatural c.0 × AreSome (IsWithin 100000) c.1) (spaced decimal) (AllByRecursion IsNatural) words_of IsLine (codes "cut ") (both_at number_at (codes " : ") cells_at) (codes " :") (more_words_at number_at [])
    (λ c border. lines.Cut (record { level = c.0; hole = c.1; border = border })) two all_numbers_read (λ a b. refl) (λ a b f g. (f.0, f.1, g))

empty_read : ReadsBehind words_of IsLine (codes "empty", empty_at)
unfolding empty_at
empty_read = made_read (spaced decimal) (AreSome IsNatural) words_of IsLine (codes "empty") (some_words_at number_at) lines.Empty numbers_read (λ a. refl) (λ a h. h)

spent_read : ReadsBehind words_of IsLine (codes "spent", names lines.Spent)
spent_read all bytes x front e = is_read words_of IsLine all (some_is (lines.Spent, bytes) x e) front tt

search_line_read : (bytes : List ℕ) (x : Line × List ℕ) → search_line_at bytes ≡ Some x → IsRead words_of IsLine bytes x
unfolding search_line_at
search_line_read bytes x e =
    by_words_read words_of IsLine search_rows nothing bytes x (learn_read, (cut_read, (empty_read, (wall_read, (bare_read, (triple_line_read, (spent_read, tt))))))) (λ n. absurd (none_some x n)) e

cover_line_read : (bytes : List ℕ) (x : Line × List ℕ) → cover_line_at bytes ≡ Some x → IsRead words_of IsLine bytes x
unfolding cover_line_at
cover_line_read bytes x e =
    by_words_read words_of IsLine cover_rows search_line_at bytes x (layer_read, (lattice_read, (tile_read, (coronas_read, (open_read, tt))))) (search_line_read bytes x) e

front_line_read : (bytes : List ℕ) (x : Line × List ℕ) → front_line_at bytes ≡ Some x → IsRead words_of IsLine bytes x
unfolding front_line_at
front_line_read bytes x e =
    by_words_read words_of IsLine front_rows cover_line_at bytes x (shape_read, (verdict_line_read, (end_read, (header_read false, (header_read true, tt))))) (cover_line_read bytes x) e

-- a line that was read has a form of a line, and just these bytes
pub line_read : (bytes : List ℕ) (line : Line) → line_at bytes ≡ Some line → IsLine line × (words_of line ≡ bytes)
unfolding line_at
line_read bytes line e =
    let f = bind_some (front_line_at bytes) _ line e in
    let g = given_some (eqb (length f.0.1) 0) f.0.0 line f.2 in
    let nothing : f.0.1 ≡ [] = nil_from_length f.0.1 (eqb-true _ _ g.0) in
    let read = front_line_read bytes f.0 f.1 in
    let parts = read.takes.parts in
    (subst (λ (l : Line). IsLine l) g.1 read.fits, ap words_of (sym g.1) ∙ sym (parts ∙ ap (λ (r : List ℕ). words_of f.0.0 ++ r) nothing ∙ append-nil (words_of f.0.0)))
