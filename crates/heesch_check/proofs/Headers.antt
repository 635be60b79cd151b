-- Inputs that begin with no header that isn't brief.
use Rattle.std.proofs.Common.{◌≡◌, ℕ, ◌≤◌, ◌^◌, if◌then◌else◌, Bool, true, false, List, [], ◌∷◌, ◌++◌, length, Some, None, codes, refl, sym, ap, ◌∙◌, append_assoc, arith, length-append}
use Rattle.std.specs.Prelude.{decimal}
use Rattle.std.proofs.lemmas.Bool.{false≢true}
use Rattle.std.proofs.lemmas.Fmt.{length-decimal-le}
use Rattle.heesch_grid.specs.declared.GridName.{GridName}
use Rattle.heesch_grid.specs.declared.GridName.TheVariants.{Square, Hex, Iamond, Kite}
use Rattle.heesch_grid.specs.Names.{grid_word}
use Rattle.heesch_cert.specs.declared.header.Header.{Header}
use Rattle.heesch_cert.specs.declared.header.Subject.{Subject}
use Rattle.heesch_cert.specs.declared.header.Subject.TheVariants.{Size, Given}
use Rattle.heesch_cert.specs.declared.limits.Limits.{Limits}
use Rattle.heesch_cert.specs.Limits.{AreLimits}
use Rattle.heesch_cnf.specs.declared.version.Version.{Version}
use Rattle.heesch_cnf.specs.declared.version.Version.TheVariants.{One, Two}
use Rattle.heesch_cert.specs.Sizes.{IsSubject, subject_word}
use Rattle.heesch_cert.proofs.FewCells.{few_cells}
use Rattle.heesch_text.specs.declared.line.Line.{Line}
use Rattle.heesch_text.specs.declared.line.Line.TheVariants as lines
use Rattle.heesch_text.specs.Names.{version_text}
use Rattle.heesch_text.specs.Lines.{limits_text, words_of, text_of}
use Rattle.heesch_text.specs.Catalogue.{header_text}
use Rattle.heesch_line.specs.Forms.{IsLine, HasNoNewline}
use Rattle.heesch_line.proofs.LinesAgain.{words_tell}
use Rattle.heesch_line.proofs.Newlines.{no_newline}
use Rattle.heesch_reader.specs.declared.item.Item.{Item}
use Rattle.heesch_reader.specs.declared.item.Item.TheVariants as items
use Rattle.heesch_reader.specs.declared.item.Part.{Part}
use Rattle.heesch_reader.specs.declared.progress.Progress.{Progress}
use Rattle.heesch_reader.specs.declared.progress.Progress.TheVariants as stages
use Rattle.heesch_reader.specs.Progress.{next, walk}
use Rattle.heesch_reader.specs.Items.{lines_of}
use Rattle.heesch_reader.specs.Feeding.{BeginEntry}
use Rattle.heesch_reader.proofs.Walking.{no_first_shape}
use Rattle.heesch_check.specs.Answers.{HasNoHeader}
use Rattle.heesch_reader.proofs.SameLines.{line_front, one_first_line}
use Rattle.heesch_check.proofs.Seen.{IsRead}
use Rattle.heesch_check.proofs.Stopping.{StopsAt}

pub header_front : (header : Header) (body : List ℕ) → header_text header ++ body ≡ words_of (lines.Header header) ++ 10 ∷ body
header_front header body = append_assoc (words_of (lines.Header header)) (10 ∷ []) body

-- the first item is another header, or a brief one
pub brief_header : (input : List ℕ) (first : Header) (back : List Item) (held : List Line) (tail : List ℕ) (reached : Progress) → IsRead input (items.Header first ∷ back) held tail reached → first.brief ≡ true → HasNoHeader input
brief_header input first back held tail reached read brief header body headed =
    let form = read.lead.forms.0 in
    let bytes : words_of (lines.Header first) ++ 10 ∷ (text_of (lines_of back ++ held) ++ tail) ≡ words_of (lines.Header header) ++ 10 ∷ body =
    sym (line_front (lines.Header first) (lines_of back ++ held) tail) ∙ sym read.text ∙ headed.text ∙ header_front header body in
    let words = one_first_line (words_of (lines.Header first)) (words_of (lines.Header header)) (text_of (lines_of back ++ held) ++ tail) body (no_newline (lines.Header first) form) (no_newline (lines.Header header) headed.form) bytes in
    let same : lines.Header first ≡ lines.Header header = words_tell (lines.Header first) (lines.Header header) form headed.form words.0 in
    let one : first ≡ header = cc in
    false≢true (sym headed.full ∙ ap (λ (x : Header). x.brief) (sym one) ∙ brief)

-- the first item is a header
pub first_is_header : (input : List ℕ) (item : Item) (back : List Item) (held : List Line) (tail : List ℕ) (reached : Progress) → IsRead input (item ∷ back) held tail reached → ((header : Header) → item ≡ items.Header header → ⊥) → ⊥
first_is_header input (items.Header header) back held tail reached read not = not header refl
first_is_header input (items.Entry line entry) back held tail reached read not = let e = read.lead.reached in absurd cc
first_is_header input (items.Brief line cells verdict) back held tail reached read not = let e = read.lead.reached in absurd cc
first_is_header input (items.End count) back held tail reached read not = let e = read.lead.reached in absurd cc

nothing_held : (held : List Line) (reached : Progress) → BeginEntry held → walk stages.Start held ≡ Some reached → (held ≡ []) × (stages.Start ≡ reached)
nothing_held [] reached b e = (refl, cc)
nothing_held (line ∷ held) reached b e = absurd (no_first_shape line held reached b.0 e)

-- reading stops before a header
pub stops_before : (input : List ℕ) (held : List Line) (tail : List ℕ) (reached : Progress) (part : Part) → IsRead input [] held tail reached → StopsAt held tail reached part → HasNoHeader input
stops_before input held tail reached part read stop header body headed =
    let n = nothing_held held reached read.one_entry read.lead.reached in
    let bytes : tail ≡ words_of (lines.Header header) ++ 10 ∷ body = ap (λ (x : List Line). text_of x ++ tail) (sym n.0) ∙ sym read.text ∙ headed.text ∙ header_front header body in
    let none : next reached (lines.Header header) ≡ None = stop.stops (lines.Header header) body headed.form bytes in
    let bad : next stages.Start (lines.Header header) ≡ None = ap (λ (x : Progress). next x (lines.Header header)) n.1 ∙ none in
    absurd cc

-- ---- an input without a newline for long

short_line : (words body left more : List ℕ) → HasNoNewline left → words ++ 10 ∷ body ≡ left ++ more → length left ≤ length words
short_line words body [] more h e = omega arith
short_line [] body (b ∷ left) more h e = let t : 10 ≡ b = cc in absurd (h.0 (sym t))
short_line (w ∷ words) body (b ∷ left) more h e = let s = short_line words body left more h.1 cc in omega (arith, s)

brief_length : (brief : Bool) → length (if brief then codes "brief" else codes "heesch") ≤ 6
brief_length true = omega arith
brief_length false = omega arith

grid_length : (grid : GridName) → length (grid_word grid) ≤ 6
grid_length Square = omega arith
grid_length Hex = omega arith
grid_length Iamond = omega arith
grid_length Kite = omega arith

version_length : (version : Version) → length (version_text version) ≤ 3
version_length One = omega arith
version_length Two = omega arith

subject_length : (version : Version) (grid : GridName) (subject : Subject) → IsSubject version grid subject → length (subject_word subject) ≤ 10
subject_length version grid (Size n) is = let low = few_cells version grid in let high = is.1 in length-decimal-le 10 n (omega arith) (omega (arith, low, high)) (omega (arith, low, high))
subject_length version grid Given is = omega arith

limits_length : (l : Limits) → AreLimits l → length (limits_text l) ≤ 80
limits_length l are =
    let t = are.turns_range.1 in
    let v = are.levels_range.1 in
    let d = are.domain_range.1 in
    let s = are.size_range.1 in
    let a : length (decimal l.turns) ≤ 10 = length-decimal-le 10 l.turns (omega arith) (omega (arith, t)) (omega (arith, t)) in
    let b : length (decimal l.levels) ≤ 10 = length-decimal-le 10 l.levels (omega arith) (omega (arith, v)) (omega (arith, v)) in
    let c : length (decimal l.domain) ≤ 10 = length-decimal-le 10 l.domain (omega arith) (omega (arith, d)) (omega (arith, d)) in
    let e : length (decimal l.size) ≤ 10 = length-decimal-le 10 l.size (omega arith) (omega (arith, s)) (omega (arith, s)) in
    simp length-append (omega (arith, a, b, c, e))

pub header_length : (h : Header) → IsLine (lines.Header h) → length (words_of (lines.Header h)) ≤ 200
header_length h form =
    let a = brief_length h.brief in
    let b = grid_length h.grid in
    let c = subject_length h.limits.version h.grid h.subject form.0 in
    let d = limits_length h.limits form.1 in
    joined (if h.brief then codes "brief" else codes "heesch") (version_text h.limits.version) (grid_word h.grid) (codes " ") (subject_word h.subject) (limits_text h.limits) a (version_length h.limits.version) b (omega arith) c d
  where
    joined : (a b c d e f : List ℕ) → length a ≤ 6 → length b ≤ 3 → length c ≤ 6 → length d ≤ 1 → length e ≤ 10 → length f ≤ 80 → length ((a ++ b ++ c ++ d ++ e) ++ f) ≤ 200
    joined a b c d e f p q r s t u = simp length-append (omega arith)

-- the input is too long, with no line that ended
pub long_before : (input front behind : List ℕ) (byte : ℕ) (held : List Line) (left : List ℕ) (reached : Progress) → input ≡ front ++ byte ∷ behind → length front ≡ 2 ^ 40 → IsRead front [] held left reached → HasNoNewline left → HasNoHeader input
long_before input front behind byte held left reached text long read one_line header body headed =
    let n = nothing_held held reached read.one_entry read.lead.reached in
    let alone : front ≡ left = read.text ∙ ap (λ (x : List Line). text_of x ++ left) n.0 in
    let bytes : words_of (lines.Header header) ++ 10 ∷ body ≡ left ++ byte ∷ behind = sym (header_front header body) ∙ sym headed.text ∙ text ∙ ap (λ (x : List ℕ). x ++ byte ∷ behind) alone in
    let short = short_line (words_of (lines.Header header)) body left (byte ∷ behind) one_line bytes in
    let few = header_length header headed.form in
    let many : length left ≡ 2 ^ 40 = ap length (sym alone) ∙ long in
    omega (arith, short, few, many)
