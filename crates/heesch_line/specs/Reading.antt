-- The fields of a line at the front of a text: what stands there, with the bytes behind it, or None. What is read has just
-- the text that was read, and each text is read as what it spells: see `line_read` and `line_again` in proofs.
use Rattle.std.specs.Prelude.{◌≡◌, ℕ, zero, suc, ◌*◌, ◌^◌, List, [], ◌∷◌, ◌++◌, length, take, drop, Bool, true, false, not, ◌&&◌, ◌||◌, nat_lt, nat_le, ◌==◌, slice_index, if◌then◌else◌, Option, Some, None, Result, Ok, Err, ℤ, pos, neg_ℤ, codes}
use Rattle.std.specs.List.{prefix_len}
use Rattle.std.specs.Char.{is_ascii_digit}
use Rattle.std.specs.Str.Parse.{digits_value}
use Rattle.heesch_grid.specs.declared.Cell.{Cell}
use Rattle.heesch_grid.specs.declared.isometries.Iso.{Iso}
use Rattle.heesch_grid.specs.declared.GridName.{GridName}
use Rattle.heesch_grid.specs.declared.GridName.TheVariants.{Square, Hex, Iamond, Kite}
use Rattle.heesch_grid.specs.Lattice.{Triple}
use Rattle.heesch_cnf.specs.declared.literal.Lit.{Lit}
use Rattle.heesch_lattice.specs.Reduction.{lattice}
use Rattle.heesch_cnf.specs.declared.version.Version.{Version}
use Rattle.heesch_cnf.specs.declared.version.Version.TheVariants.{One, Two}
use Rattle.heesch_cert.specs.declared.limits.Limits.{Limits}
use Rattle.heesch_cert.specs.declared.header.Subject.{Subject}
use Rattle.heesch_cert.specs.declared.header.Subject.TheVariants.{Size, Given}
use Rattle.heesch_cert.specs.declared.verdict.Kind.{Kind}
use Rattle.heesch_cert.specs.declared.verdict.Kind.TheVariants.{Translation, HalfTurn, Periodic}
use Rattle.heesch_cert.specs.declared.verdict.Phase.{Phase}
use Rattle.heesch_cert.specs.declared.verdict.Phase.TheVariants.{Free, Bare}
use Rattle.heesch_text.specs.declared.line.Outcome.{Outcome}
use Rattle.heesch_text.specs.declared.line.Outcome.TheVariants as outcomes
use Rattle.heesch_text.specs.declared.line.BareOutcome.{BareOutcome}
use Rattle.heesch_text.specs.declared.line.BareOutcome.TheVariants as bares
use Rattle.heesch_cert.specs.Sizes.{most_cells}
use Rattle.heesch_line.specs.declared.fault.LineFault.{LineFault}
use Rattle.heesch_line.specs.declared.fault.LineFault.TheVariants.{NotALine, NoMemory}

-- a field, and another one behind it
infixl 10 ◌>>=◌
abbrev pub ◌>>=◌ : {A B : Type 0} → Option A → (A → Option B) → Option B
(Some x) >>= f = f x
None >>= f = None

-- a value, where a test passes
abbrev pub given : {A : Type 0} → Bool → A → Option A
given true x = Some x
given false x = None

-- what follows a word where it is there, and another way where it isn't
abbrev pub behind : {A B : Type 0} → Option A → (A → Option B) → Option B → Option B
behind (Some x) f other = f x
behind None f other = other

-- nothing was there to read, unless memory ran out
abbrev pub Fails : {Y : Type 0} → LineFault → Option Y → Type 0
Fails NoMemory read = Unit {0}
Fails NotALine read = read ≡ None

-- what a function answered, seen by view, is what was there to read, unless memory ran out
abbrev pub Gives : {X Y : Type 0} → (X → Y) → Result X LineFault → Option Y → Type 0
Gives view (Ok x) read = read ≡ Some (view x)
Gives view (Err e) read = Fails e read

-- the bytes behind a word
abbrev pub literal_at : List ℕ → List ℕ → Option (List ℕ)
literal_at [] bytes = Some bytes
literal_at (c ∷ cs) [] = None
literal_at (c ∷ cs) (b ∷ bytes) = if b == c then literal_at cs bytes else None

-- one to ten digits, with no 0 before others, of a number of 32 bits
abbrev pub is_plain : List ℕ → Bool
is_plain ds = (nat_lt 0 (length ds) && nat_le (length ds) 10) && ((length ds == 1 || not (slice_index ds 0 == 48)) && nat_lt (digits_value 10 ds) (2 ^ 32))

-- how many digits stand at the front
abbrev pub digits_len : List ℕ → ℕ
digits_len bytes = prefix_len is_ascii_digit bytes

-- a natural number, by all the digits at the front
unfoldable pub number_at : List ℕ → Option (ℕ × List ℕ)
number_at bytes = given (is_plain (take (digits_len bytes) bytes)) (digits_value 10 (take (digits_len bytes) bytes), drop (digits_len bytes) bytes)

-- a natural number behind a word
abbrev pub labelled_at : List ℕ → List ℕ → Option (ℕ × List ℕ)
labelled_at word bytes = literal_at word bytes >>= λ rest. number_at rest

-- what is made of a field
abbrev pub made : {A X : Type 0} → (A → X) → (List ℕ → Option (A × List ℕ)) → List ℕ → Option (X × List ℕ)
made make field bytes = field bytes >>= λ a. Some (make a.0, a.1)

-- what is made of two fields with this word between them
abbrev pub parted : {A B X : Type 0} → (A → B → X) → (List ℕ → Option (A × List ℕ)) → List ℕ → (List ℕ → Option (B × List ℕ)) → List ℕ → Option (X × List ℕ)
parted make first between second bytes = first bytes >>= λ a. (literal_at between a.1 >>= λ word. second word) >>= λ b. Some (make a.0 b.0, b.1)

-- two fields with this word between them
abbrev pub both_at : {A B : Type 0} → (List ℕ → Option (A × List ℕ)) → List ℕ → (List ℕ → Option (B × List ℕ)) → List ℕ → Option ((A × B) × List ℕ)
both_at first between second bytes = parted (λ a b. (a, b)) first between second bytes

-- the first byte is `-`
abbrev pub is_minus : List ℕ → Bool
is_minus bytes = slice_index bytes 0 == 45

-- an integer within 100,000 of 0, but no `-0`
unfoldable pub integer_at : List ℕ → Option (ℤ × List ℕ)
integer_at bytes =
    if is_minus bytes then (number_at (drop 1 bytes) >>= λ n. given (nat_lt 0 n.0 && nat_le n.0 100000) (neg_ℤ (pos n.0), n.1))
    else (number_at bytes >>= λ n. given (nat_le n.0 100000) (pos n.0, n.1))

-- a cell
unfoldable pub cell_at : List ℕ → Option (Cell × List ℕ)
cell_at bytes = do
  a ← integer_at bytes
  comma ← literal_at (codes ",") a.1
  b ← integer_at comma
  Some (record { a = a.0; b = b.0 }, b.1)

-- an isometry, with this byte between its numbers
unfoldable pub iso_at : ℕ → List ℕ → Option (Iso × List ℕ)
iso_at between bytes = do
  turn ← number_at bytes
  first ← literal_at (between ∷ []) turn.1
  da ← integer_at first
  second ← literal_at (between ∷ []) da.1
  db ← integer_at second
  given (nat_lt turn.0 12) (record { turn = turn.0; da = da.0; db = db.0 }, db.1)

-- a literal
unfoldable pub lit_at : List ℕ → Option (Lit × List ℕ)
lit_at bytes =
    if is_minus bytes then (number_at (drop 1 bytes) >>= λ n. given (nat_lt 0 n.0) (record { var = n.0; positive = false }, n.1))
    else (number_at bytes >>= λ n. given (nat_lt 0 n.0) (record { var = n.0; positive = true }, n.1))

-- the numbers are those of a triple
abbrev pub is_triple : ℕ → ℕ → ℕ → Bool
is_triple p q s = (nat_lt 0 p && nat_lt 0 q) && (nat_lt s p && nat_le (p * q) 4096)

-- the triple of these numbers
abbrev pub triple_of : ℕ → ℕ → ℕ → Option Triple
triple_of p q s = given (is_triple p q s) (lattice p q s)

-- three numbers
unfoldable pub three_numbers_at : List ℕ → Option ((ℕ × ℕ × ℕ) × List ℕ)
three_numbers_at bytes = parted (λ n s. (n.0, n.1, s)) (both_at number_at (codes " ") number_at) (codes " ") number_at bytes

-- what is read behind the first of these words that stands at the front, and what is read in another way where none does
abbrev pub by_words : {X : Type 0} → List (List ℕ × (List ℕ → Option (X × List ℕ))) → (List ℕ → Option (X × List ℕ)) → List ℕ → Option (X × List ℕ)
by_words [] other bytes = other bytes
by_words (row ∷ rows) other bytes = behind (literal_at row.0 bytes) row.1 (by_words rows other bytes)

-- a word that names a value
abbrev pub names : {X : Type 0} → X → List ℕ → Option (X × List ℕ)
names x rest = Some (x, rest)

-- no other way
abbrev pub nothing : {X : Type 0} → List ℕ → Option (X × List ℕ)
nothing bytes = None

-- the names of the grids
abbrev pub grid_rows : List (List ℕ × (List ℕ → Option (GridName × List ℕ)))
grid_rows = (codes "square", names Square) ∷ (codes "hex", names Hex) ∷ (codes "iamond", names Iamond) ∷ (codes "kite", names Kite) ∷ []

-- the word of a grid
unfoldable pub grid_at : List ℕ → Option (GridName × List ℕ)
grid_at bytes = by_words grid_rows nothing bytes

-- the names of the kinds of tilings
abbrev pub kind_rows : List (List ℕ × (List ℕ → Option (Kind × List ℕ)))
kind_rows = (codes "translation", names Translation) ∷ (codes "halfturn", names HalfTurn) ∷ (codes "periodic", names Periodic) ∷ []

-- the word of a kind of tilings
unfoldable pub kind_at : List ℕ → Option (Kind × List ℕ)
kind_at bytes = by_words kind_rows nothing bytes

-- the names of the searches
abbrev pub phase_rows : List (List ℕ × (List ℕ → Option (Phase × List ℕ)))
phase_rows = (codes "free", names Free) ∷ (codes "bare", names Bare) ∷ []

-- the word of a search
unfoldable pub phase_at : List ℕ → Option (Phase × List ℕ)
phase_at bytes = by_words phase_rows nothing bytes

-- the names of the ends of a search
abbrev pub outcome_rows : List (List ℕ × (List ℕ → Option (Outcome × List ℕ)))
outcome_rows = (codes "refuted", names outcomes.Refuted) ∷ (codes "spent", names outcomes.Spent) ∷ (codes "size", names outcomes.Size) ∷ []

-- the word of an end of a search
unfoldable pub outcome_at : List ℕ → Option (Outcome × List ℕ)
outcome_at bytes = by_words outcome_rows nothing bytes

-- the names of the ends that a search with holes allowed alone has
abbrev pub bare_rows : List (List ℕ × (List ℕ → Option (BareOutcome × List ℕ)))
bare_rows = (codes "same", names bares.Same) ∷ (codes "open", names bares.Open) ∷ []

-- the word of an end of a search with holes allowed
unfoldable pub bare_outcome_at : List ℕ → Option (BareOutcome × List ℕ)
bare_outcome_at bytes = by_words bare_rows (made bares.Searched outcome_at) bytes

-- the names of the versions
abbrev pub version_rows : List (List ℕ × (List ℕ → Option (Version × List ℕ)))
version_rows = (codes " 1 ", names One) ∷ (codes " 2 ", names Two) ∷ []

-- the number of a version, between spaces
unfoldable pub version_at : List ℕ → Option (Version × List ℕ)
version_at bytes = by_words version_rows nothing bytes

-- a size of the grid and the version, or `given` where the version has the grid
unfoldable pub subject_at : Version → GridName → List ℕ → Option (Subject × List ℕ)
subject_at version grid bytes =
    behind (literal_at (codes "given") bytes) (λ rest. given (nat_le 1 (most_cells version grid)) (Given, rest))
    (number_at bytes >>= λ n. given (nat_lt 0 n.0 && nat_le n.0 (most_cells version grid)) (Size n.0, n.1))

-- the number is between others
abbrev pub is_between : ℕ → ℕ → ℕ → Bool
is_between low high n = nat_le low n && nat_le n high

-- the limits lie in their ranges
abbrev pub are_limits : Limits → Bool
are_limits l = (is_between 1 1000000 l.turns && is_between 1 6 l.levels) && (is_between 1 12 l.domain && is_between 1 60000000 l.size)

-- the limits of this version and these numbers
abbrev pub limits_of : (version : Version) (turns levels domain size : ℕ) → Limits
limits_of version turns levels domain size = record { turns = turns; levels = levels; domain = domain; size = size; version = version }

-- the four limits, under a version
unfoldable pub limits_at : Version → List ℕ → Option (Limits × List ℕ)
limits_at version bytes = do
  turns ← labelled_at (codes " turns ") bytes
  levels ← labelled_at (codes " levels ") turns.1
  domain ← labelled_at (codes " domain ") levels.1
  size ← labelled_at (codes " size ") domain.1
  given (are_limits (limits_of version turns.0 levels.0 domain.0 size.0)) (limits_of version turns.0 levels.0 domain.0 size.0, size.1)

-- a further word: a space, and behind it no colon
abbrev pub has_word : List ℕ → Bool
has_word bytes = slice_index bytes 0 == 32 && not (slice_index bytes 1 == 58)

-- words, each behind a space, as far as they go; at most so many
unfoldable pub words_at : {X : Type 0} → (List ℕ → Option (X × List ℕ)) → ℕ → List ℕ → Option (List X × List ℕ)
words_at word zero bytes = Some ([], bytes)
words_at word (suc n) bytes =
    if has_word bytes then (word (drop 1 bytes) >>= λ x. words_at word n x.1 >>= λ others. Some (x.0 ∷ others.0, others.1))
    else Some ([], bytes)

-- further words of a list
abbrev pub more_words_at : {X : Type 0} → (List ℕ → Option (X × List ℕ)) → List X → List ℕ → Option (List X × List ℕ)
more_words_at word items bytes = words_at word (length bytes) bytes >>= λ others. Some (items ++ others.0, others.1)

-- one word or more, each behind a space
abbrev pub some_words_at : {X : Type 0} → (List ℕ → Option (X × List ℕ)) → List ℕ → Option (List X × List ℕ)
some_words_at word bytes = more_words_at word [] bytes >>= λ found. given (nat_lt 0 (length found.0)) found

-- one cell or more
unfoldable pub cells_at : List ℕ → Option (List Cell × List ℕ)
cells_at bytes = cell_at bytes >>= λ first. more_words_at cell_at (first.0 ∷ []) first.1

-- cells, and behind them a newline or nothing
abbrev pub line_end : List Cell → List ℕ → Option (List Cell × List ℕ)
line_end cells rest =
    if length rest == 0 then Some (cells, rest)
    else (literal_at (codes "\n") rest >>= λ after. Some (cells, after))

-- a line of a list
unfoldable pub list_line_at : List ℕ → Option (List Cell × List ℕ)
list_line_at bytes =
    behind (literal_at (codes "\n") bytes) (λ rest. Some ([], rest))
    (cells_at bytes >>= λ cells. line_end cells.0 cells.1)
