-- The words of the lines of a share text tell the line.
use Rattle.std.proofs.Common.{◌≡◌, ◌≢◌, ℕ, Bool, true, false, List, [], ◌∷◌, ◌++◌, codes, Result, Ok, Err, refl, sym, ap, subst, ◌∙◌, arith}
use Rattle.heesch_cert.specs.declared.header.Header.{Header}
use Rattle.heesch_text.specs.declared.line.Line.{Line}
use Rattle.heesch_text.specs.declared.line.Line.TheVariants as lines
use Rattle.heesch_text.specs.Lines.{words_of}
use Rattle.heesch_line.specs.Forms.{IsLine, HasNoNewline}
use Rattle.heesch_line.specs.declared.fault.LineFault.{LineFault}
use Rattle.heesch_line.specs.declared.fault.LineFault.TheVariants as faults
use Rattle.heesch_line.proofs.LinesAgain.{words_tell}
use Rattle.heesch_line.proofs.Newlines.{no_newline}
use Rattle.heesch_reader.specs.Faults.{begins}
use Rattle.heesch_parts.specs.declared.part_line.PartLine.{PartLine}
use Rattle.heesch_parts.specs.declared.part_line.PartLine.TheVariants as parts
use Rattle.heesch_parts.specs.PartLines.{numbers_text, part_words, IsShare, IsPartLine, NamesNoShare, ReadsShare, MakesShare}

-- ---- the numbers of a share stand as those of an `empty` line do

empty_form : (i k : ℕ) → IsShare i k → IsLine (lines.Empty (i ∷ k ∷ []))
empty_form i k s = record { some = λ e. absurd cc; each = (omega (arith, s.last, s.most), (omega (arith, s.most), tt)) }

numbers_tell : (i k j m : ℕ) → IsShare i k → IsShare j m → numbers_text i k ≡ numbers_text j m → (i ≡ j) × (k ≡ m)
numbers_tell i k j m s t e =
    let same : lines.Empty (i ∷ k ∷ []) ≡ lines.Empty (j ∷ m ∷ []) = words_tell (lines.Empty (i ∷ k ∷ [])) (lines.Empty (j ∷ m ∷ [])) (empty_form i k s) (empty_form j m t) (ap (λ (x : List ℕ). codes "empty" ++ x) e) in
    let first : i ≡ j = cc in
    let second : k ≡ m = cc in
    (first, second)

-- another line than an `empty` line
pub not_empty : (numbers : List ℕ) (line : Line) → IsLine line → words_of line ≡ codes "empty" ++ numbers → ((hints : List ℕ) → line ≡ lines.Empty hints → ⊥) → NamesNoShare numbers
not_empty numbers line form words other = λ i k s e.
    other (i ∷ k ∷ []) (words_tell line (lines.Empty (i ∷ k ∷ [])) form (empty_form i k s) (words ∙ ap (λ (x : List ℕ). codes "empty" ++ x) (sym e)))

-- an `empty` line
pub makes : (numbers bytes hints : List ℕ) (r : Result PartLine LineFault) → bytes ≡ codes "empty" ++ numbers → IsLine (lines.Empty hints) → words_of (lines.Empty hints) ≡ bytes → MakesShare hints r → ReadsShare numbers r
makes numbers bytes hints (Ok (parts.Share i k)) all form words m =
    let two : words_of (lines.Empty (i ∷ k ∷ [])) ≡ codes "empty" ++ numbers = subst (λ (x : List ℕ). words_of (lines.Empty x) ≡ codes "empty" ++ numbers) m.1 (words ∙ all) in
    (m.0, cc)
makes numbers bytes hints (Ok (parts.Catalogue line)) all form words m = m
makes numbers bytes hints (Err faults.NotALine) all form words m = λ i k s e.
    let same = words_tell (lines.Empty hints) (lines.Empty (i ∷ k ∷ [])) form (empty_form i k s) (words ∙ all ∙ ap (λ (x : List ℕ). codes "empty" ++ x) (sym e)) in
    let two : hints ≡ i ∷ k ∷ [] = cc in
    m i k s two
makes numbers bytes hints (Err faults.NoMemory) all form words m = tt

abbrev fail : LineFault → Result Line LineFault
fail fault = Err fault

-- no line
pub fails : (numbers bytes : List ℕ) (fault : LineFault) → bytes ≡ codes "empty" ++ numbers → (fail fault ≡ fail faults.NotALine → (line : Line) → IsLine line → words_of line ≢ bytes) → ReadsShare numbers (Err fault)
fails numbers bytes faults.NotALine all none = λ i k s e. none refl (lines.Empty (i ∷ k ∷ [])) (empty_form i k s) (ap (λ (x : List ℕ). codes "empty" ++ x) e ∙ sym all)
fails numbers bytes faults.NoMemory all none = tt

-- ---- no line of a catalogue begins with `share`

shared : (line : Line) (rest : List ℕ) → words_of line ≡ codes "share" ++ rest → begins (words_of line) (codes "share") ≡ true
shared line rest e = ap (λ (x : List ℕ). begins x (codes "share")) e

header_not_shared : (brief : Bool) (h : Header) → h.brief ≡ brief → begins (words_of (lines.Header h)) (codes "share") ≡ true → ⊥
header_not_shared true h e b = let c = rw e at b in absurd cc
header_not_shared false h e b = let c = rw e at b in absurd cc

not_shared : (line : Line) → begins (words_of line) (codes "share") ≡ true → ⊥
not_shared (lines.Header header) e = header_not_shared header.brief header refl e
not_shared line e = absurd cc

pub not_share : (line : Line) (rest : List ℕ) → words_of line ≡ codes "share" ++ rest → ⊥
not_share line rest e = not_shared line (shared line rest e)

-- ---- any line

pub parts_tell : (line other : PartLine) → IsPartLine line → IsPartLine other → part_words line ≡ part_words other → line ≡ other
parts_tell (parts.Share i k) (parts.Share j m) s t e =
    let numbers : numbers_text i k ≡ numbers_text j m = cc in
    let same = numbers_tell i k j m s t numbers in
    let first = same.0 in
    let second = same.1 in
    cc
parts_tell (parts.Share i k) (parts.Catalogue line) s t e = absurd (not_share line (numbers_text i k) (sym e))
parts_tell (parts.Catalogue line) (parts.Share i k) s t e = absurd (not_share line (numbers_text i k) e)
parts_tell (parts.Catalogue line) (parts.Catalogue other) s t e = ap parts.Catalogue (words_tell line other s t e)

pub part_free : (line : PartLine) → IsPartLine line → HasNoNewline (part_words line)
part_free (parts.Share i k) s =
    let free : HasNoNewline (codes "empty" ++ numbers_text i k) = no_newline (lines.Empty (i ∷ k ∷ [])) (empty_form i k s) in
    (λ e. absurd cc, (λ e. absurd cc, (λ e. absurd cc, (λ e. absurd cc, (λ e. absurd cc, free.1.1.1.1.1)))))
part_free (parts.Catalogue line) s = no_newline line s
