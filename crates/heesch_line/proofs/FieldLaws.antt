-- Places, triples, limits, names and lists: what is read is spelled so, and what is spelled so is read.
use Rattle.std.proofs.Common.{◌≡◌, ℕ, ◌*◌, ◌<◌, ◌≤◌, true, false, ◌&&◌, eqb, ltb, leb, List, [], ◌∷◌, ◌++◌, Some, None, refl, ap, append_assoc, arith, inl, inr}
use Rattle.std.specs.Prelude.{codes, decimal}
use Rattle.std.specs.Fmt.{signed_decimal}
use Rattle.std.specs.Char.{is_ascii_digit}
use Rattle.std.proofs.lemmas.Bool.Decides.{nat_tests}
use Rattle.heesch_grid.specs.declared.isometries.Iso.{Iso}
use Rattle.heesch_grid.specs.declared.GridName.{GridName}
use Rattle.heesch_grid.specs.declared.GridName.TheVariants.{Square, Hex, Iamond, Kite}
use Rattle.heesch_grid.specs.Names.{grid_word}
use Rattle.heesch_lattice.specs.Reduction.{lattice, IsSmallTriple}
use Rattle.heesch_cnf.specs.declared.version.Version.{Version}
use Rattle.heesch_cnf.specs.declared.version.Version.TheVariants.{One, Two}
use Rattle.heesch_cert.specs.declared.limits.Limits.{Limits}
use Rattle.heesch_cert.specs.Limits.{AreLimits}
use Rattle.heesch_cert.specs.declared.header.Subject.{Subject}
use Rattle.heesch_cert.specs.declared.header.Subject.TheVariants.{Size, Given}
use Rattle.heesch_cert.specs.declared.verdict.Kind.{Kind}
use Rattle.heesch_cert.specs.declared.verdict.Kind.TheVariants.{Translation, HalfTurn, Periodic}
use Rattle.heesch_cert.specs.declared.verdict.Phase.{Phase}
use Rattle.heesch_cert.specs.declared.verdict.Phase.TheVariants.{Free, Bare}
use Rattle.heesch_text.specs.declared.line.Outcome.{Outcome}
use Rattle.heesch_text.specs.declared.line.Outcome.TheVariants as outcomes
use Rattle.heesch_text.specs.declared.line.BareOutcome.{BareOutcome}
use Rattle.heesch_text.specs.declared.line.BareOutcome.TheVariants as bares
use Rattle.heesch_text.specs.Names.{version_text, kind_text, phase_text, outcome_text, bare_text}
use Rattle.heesch_cert.specs.Sizes.{subject_word, most_cells, IsSubject}
use Rattle.heesch_text.specs.Lines.{limits_text}
use Rattle.heesch_cert.proofs.FewCells.{few_cells}
use Rattle.heesch_text.specs.Naturals.{IsNatural}
use Rattle.heesch_line.specs.Forms.{IsPlace}
use Rattle.heesch_line.specs.Reading.{◌>>=◌, given, nothing, made, parted, both_at, literal_at, number_at, labelled_at, integer_at, iso_at, is_triple, three_numbers_at, grid_at, kind_at, version_at, phase_at}
use Rattle.heesch_line.specs.Reading.{outcome_at, bare_outcome_at, subject_at, are_limits, limits_of, limits_at, grid_rows, kind_rows, version_rows, phase_rows, outcome_rows, bare_rows}
use Rattle.heesch_line.proofs.Steps.{some, none_some, bind_some, given_some, behind_some, both_true, ◌▸◌, literal_part, IsRead, is_read, word_read, ReadsBehind, by_words_read, named, made_read, parted_read, read_first, both_read}
use Rattle.heesch_line.proofs.Numbers.{number_read, number_again, integer_read, integer_again, Stops, labelled_parts, eqb_same, BeginsWithDigit, decimal_begins}

pub regroup2 : (t0 t1 r : List ℕ) → (t0 ++ t1) ++ r ≡ t0 ++ (t1 ++ r)
regroup2 t0 t1 r = append_assoc t0 t1 r

pub regroup3 : (t0 t1 t2 r : List ℕ) → ((t0 ++ t1) ++ t2) ++ r ≡ t0 ++ (t1 ++ (t2 ++ r))
regroup3 t0 t1 t2 r = simp append_assoc

pub regroup4 : (t0 t1 t2 t3 r : List ℕ) → (((t0 ++ t1) ++ t2) ++ t3) ++ r ≡ t0 ++ (t1 ++ (t2 ++ (t3 ++ r)))
regroup4 t0 t1 t2 t3 r = simp append_assoc

pub regroup5 : (t0 t1 t2 t3 t4 r : List ℕ) → ((((t0 ++ t1) ++ t2) ++ t3) ++ t4) ++ r ≡ t0 ++ (t1 ++ (t2 ++ (t3 ++ (t4 ++ r))))
regroup5 t0 t1 t2 t3 t4 r = simp append_assoc

pub regroup7 : (t0 t1 t2 t3 t4 t5 t6 r : List ℕ) → ((((((t0 ++ t1) ++ t2) ++ t3) ++ t4) ++ t5) ++ t6) ++ r ≡ t0 ++ (t1 ++ (t2 ++ (t3 ++ (t4 ++ (t5 ++ (t6 ++ r))))))
regroup7 t0 t1 t2 t3 t4 t5 t6 r = simp append_assoc

-- ---- places

-- an isometry with this byte between its numbers
abbrev pub iso_words : ℕ → Iso → List ℕ
iso_words between i = decimal i.turn ++ (between ∷ []) ++ signed_decimal i.da ++ (between ∷ []) ++ signed_decimal i.db

below_test : (n m : ℕ) → ltb n m ≡ true → n < m
below_test n m h = grind (arith, nat_tests)

test_below : (n m : ℕ) → n < m → ltb n m ≡ true
test_below n m h = grind (arith, nat_tests)

pub iso_read : (between : ℕ) (bytes : List ℕ) (x : Iso × List ℕ) → iso_at between bytes ≡ Some x → IsRead (iso_words between) IsPlace bytes x
unfolding iso_at
iso_read between bytes x e =
    let t = bind_some (number_at bytes) _ x e in
    let ft = number_read bytes t.0 t.1 in
    let l = bind_some (literal_at (between ∷ []) t.0.1) _ x t.2 in
    let a = bind_some (integer_at l.0) _ x l.2 in
    let fa = integer_read l.0 a.0 a.1 in
    let m = bind_some (literal_at (between ∷ []) a.0.1) _ x a.2 in
    let b = bind_some (integer_at m.0) _ x m.2 in
    let fb = integer_read m.0 b.0 b.1 in
    let made : Iso × List ℕ = (record { turn = t.0.0; da = a.0.0; db = b.0.0 }, b.0.1) in
    let g = given_some (ltb t.0.0 12) made x b.2 in
    is_read {made = made} (iso_words between) IsPlace bytes g.1 (ft.takes ▸ literal_part (between ∷ []) t.0.1 l.0 l.1 ▸ fa.takes ▸ literal_part (between ∷ []) a.0.1 m.0 m.1 ▸ fb.takes) (record { turn_range = below_test t.0.0 12 g.0; da_range = fa.fits; db_range = fb.fits })

pub iso_again : (between : ℕ) (i : Iso) (rest : List ℕ) → is_ascii_digit between ≡ false → IsPlace i → Stops rest → iso_at between (iso_words between i ++ rest) ≡ Some (i, rest)
unfolding iso_at
iso_again between i rest other fits stops =
    let b : List ℕ = between ∷ [] in
    let regroup = regroup5 (decimal i.turn) b (signed_decimal i.da) b (signed_decimal i.db) rest in
    let small = fits.turn_range in
    let natural : IsNatural i.turn = omega arith in
    let turn = number_again i.turn (b ++ (signed_decimal i.da ++ (b ++ (signed_decimal i.db ++ rest)))) natural other in
    let first = integer_again i.da (b ++ (signed_decimal i.db ++ rest)) fits.da_range other in
    let second = integer_again i.db rest fits.db_range stops in
    rw (regroup, turn, eqb_same between, first, eqb_same between, second, test_below i.turn 12 small) refl

-- ---- triples

-- three numbers
abbrev pub numbers_text : ℕ × ℕ × ℕ → List ℕ
numbers_text n = decimal n.0 ++ codes " " ++ decimal n.1 ++ codes " " ++ decimal n.2

abbrev pub AreNatural : ℕ × ℕ × ℕ → Type 0
AreNatural n = IsNatural n.0 × IsNatural n.1 × IsNatural n.2

-- two numbers
abbrev pair_text : ℕ × ℕ → List ℕ
pair_text n = decimal n.0 ++ codes " " ++ decimal n.1

abbrev ArePair : ℕ × ℕ → Type 0
ArePair n = IsNatural n.0 × IsNatural n.1

pub three_numbers_read : (bytes : List ℕ) (x : (ℕ × ℕ × ℕ) × List ℕ) → three_numbers_at bytes ≡ Some x → IsRead numbers_text AreNatural bytes x
unfolding three_numbers_at
three_numbers_read bytes x e =
    let two = both_read decimal IsNatural decimal IsNatural number_at (codes " ") number_at number_read number_read in
    read_first numbers_text AreNatural (parted (λ n s. (n.0, n.1, s)) (both_at number_at (codes " ") number_at) (codes " ") number_at)
    (parted_read pair_text ArePair decimal IsNatural numbers_text AreNatural [] (both_at number_at (codes " ") number_at) (codes " ") number_at (λ n s. (n.0, n.1, s)) two number_read (λ n s. refl) (λ n s f g. (f.0, f.1, g))) bytes x e

pub three_numbers_again : (p : ℕ) (q : ℕ) (s : ℕ) (rest : List ℕ) → IsNatural p → IsNatural q → IsNatural s → Stops rest → three_numbers_at (numbers_text (p, q, s) ++ rest) ≡ Some ((p, q, s), rest)
unfolding three_numbers_at
three_numbers_again p q s rest np nq ns stops =
    let regroup = regroup5 (decimal p) (codes " ") (decimal q) (codes " ") (decimal s) rest in
    let s0 = number_again p (codes " " ++ (decimal q ++ (codes " " ++ (decimal s ++ rest)))) np refl in
    let s2 = number_again q (codes " " ++ (decimal s ++ rest)) nq refl in
    let s4 = number_again s rest ns stops in
    rw (regroup, s0, s2, s4) refl

triple_tests : (p q s : ℕ) → is_triple p q s ≡ true → (1 ≤ p) × (1 ≤ q) × (s < p) × (p * q ≤ 4096)
triple_tests p q s h =
    let outer = both_true (ltb 0 p && ltb 0 q) (ltb s p && leb (p * q) 4096) h in
    let first = both_true (ltb 0 p) (ltb 0 q) outer.0 in
    let second = both_true (ltb s p) (leb (p * q) 4096) outer.1 in
    (below_test 0 p first.0, below_test 0 q first.1, below_test s p second.0, small (p * q) second.1)
  where
    small : (n : ℕ) → leb n 4096 ≡ true → n ≤ 4096
    small n h = grind (arith, nat_tests)

test_triple : (p q s area : ℕ) → 1 ≤ p → 1 ≤ q → s < p → area ≤ 4096 → ((ltb 0 p && ltb 0 q) && (ltb s p && leb area 4096)) ≡ true
test_triple p q s area hp hq hs ha = grind (arith, nat_tests)

pub triple_fits : (p q s : ℕ) → is_triple p q s ≡ true → IsSmallTriple (lattice p q s)
triple_fits p q s h =
    let t = triple_tests p q s h in
    record { is_triple = record { p_positive = t.0; q_positive = t.1; s_below = t.2 }; small = t.3 }

pub fits_triple : (p q s : ℕ) → IsSmallTriple (lattice p q s) → is_triple p q s ≡ true
fits_triple p q s h = test_triple p q s (p * q) h.is_triple.p_positive h.is_triple.q_positive h.is_triple.s_below h.small

pub triple_natural : (p q s : ℕ) → IsSmallTriple (lattice p q s) → IsNatural p × IsNatural q × IsNatural s
triple_natural p q s h =
    let hp = h.is_triple.p_positive in
    let hq = h.is_triple.q_positive in
    let hs = h.is_triple.s_below in
    let small = h.small in
    let first : p ≤ p * q = grind arith in
    let second : q ≤ p * q = grind arith in
    (omega arith, omega arith, omega arith)

-- ---- names

pub grid_read : (bytes : List ℕ) (x : GridName × List ℕ) → grid_at bytes ≡ Some x → IsRead grid_word (λ _. Unit {0}) bytes x
unfolding grid_at
grid_read bytes x e = by_words_read grid_word (λ _. Unit {0}) grid_rows nothing bytes x (named grid_word Square, (named grid_word Hex, (named grid_word Iamond, (named grid_word Kite, tt)))) (λ n. absurd (none_some x n)) e

pub kind_read : (bytes : List ℕ) (x : Kind × List ℕ) → kind_at bytes ≡ Some x → IsRead kind_text (λ _. Unit {0}) bytes x
unfolding kind_at
kind_read bytes x e = by_words_read kind_text (λ _. Unit {0}) kind_rows nothing bytes x (named kind_text Translation, (named kind_text HalfTurn, (named kind_text Periodic, tt))) (λ n. absurd (none_some x n)) e

pub version_read : (bytes : List ℕ) (x : Version × List ℕ) → version_at bytes ≡ Some x → IsRead version_text (λ _. Unit {0}) bytes x
unfolding version_at
version_read bytes x e = by_words_read version_text (λ _. Unit {0}) version_rows nothing bytes x (named version_text One, (named version_text Two, tt)) (λ n. absurd (none_some x n)) e

pub phase_read : (bytes : List ℕ) (x : Phase × List ℕ) → phase_at bytes ≡ Some x → IsRead phase_text (λ _. Unit {0}) bytes x
unfolding phase_at
phase_read bytes x e = by_words_read phase_text (λ _. Unit {0}) phase_rows nothing bytes x (named phase_text Free, (named phase_text Bare, tt)) (λ n. absurd (none_some x n)) e

pub outcome_read : (bytes : List ℕ) (x : Outcome × List ℕ) → outcome_at bytes ≡ Some x → IsRead outcome_text (λ _. Unit {0}) bytes x
unfolding outcome_at
outcome_read bytes x e = by_words_read outcome_text (λ _. Unit {0}) outcome_rows nothing bytes x (named outcome_text outcomes.Refuted, (named outcome_text outcomes.Spent, (named outcome_text outcomes.Size, tt))) (λ n. absurd (none_some x n)) e

searched_read : ReadsBehind bare_text (λ _. Unit {0}) ([], made bares.Searched outcome_at)
searched_read = made_read outcome_text (λ _. Unit {0}) bare_text (λ _. Unit {0}) [] outcome_at bares.Searched outcome_read (λ outcome. refl) (λ outcome fits. tt)

pub bare_outcome_read : (bytes : List ℕ) (x : BareOutcome × List ℕ) → bare_outcome_at bytes ≡ Some x → IsRead bare_text (λ _. Unit {0}) bytes x
unfolding bare_outcome_at
bare_outcome_read bytes x e = by_words_read bare_text (λ _. Unit {0}) bare_rows (made bares.Searched outcome_at) bytes x (named bare_text bares.Same, (named bare_text bares.Open, tt)) (searched_read bytes bytes x (record { parts = refl })) e

size_tests : (n most : ℕ) → (ltb 0 n && leb n most) ≡ true → (1 ≤ n) × (n ≤ most)
size_tests n most h = (grind (arith, nat_tests), grind (arith, nat_tests))

size_read : (version : Version) (grid : GridName) (bytes : List ℕ) (x : Subject × List ℕ) → (number_at bytes >>= λ n. given (ltb 0 n.0 && leb n.0 (most_cells version grid)) (Size n.0, n.1)) ≡ some x → IsRead subject_word (IsSubject version grid) bytes x
size_read version grid bytes x e =
    let n = bind_some (number_at bytes) _ x e in
    let made : Subject × List ℕ = (Size n.0.0, n.0.1) in
    let g = given_some (ltb 0 n.0.0 && leb n.0.0 (most_cells version grid)) made x n.2 in
    is_read {made = made} subject_word (IsSubject version grid) bytes g.1 (number_read bytes n.0 n.1).takes (size_tests n.0.0 (most_cells version grid) g.0)

some_test : (most : ℕ) → leb 1 most ≡ true → 1 ≤ most
some_test most h = grind (arith, nat_tests)

pub subject_read : (version : Version) (grid : GridName) (bytes : List ℕ) (x : Subject × List ℕ) → subject_at version grid bytes ≡ Some x → IsRead subject_word (IsSubject version grid) bytes x
unfolding subject_at
subject_read version grid bytes x e =
    elim (behind_some (literal_at (codes "given") bytes) _ _ x e) [
      | inl a0 ↦
          let made : Subject × List ℕ = (Given, a0.0) in
          let g = given_some (leb 1 (most_cells version grid)) made x a0.2 in
          word_read {X = Subject} subject_word (IsSubject version grid) bytes (codes "given") Given x a0.0 a0.1 refl (some_test (most_cells version grid) g.0) (ap (λ (y : Subject × List ℕ). Some y) g.1)
      | inr n0 ↦
          size_read version grid bytes x n0.1
    ]

pub grid_again : (x : GridName) (rest : List ℕ) → grid_at (grid_word x ++ rest) ≡ Some (x, rest)
unfolding grid_at
grid_again Square rest = refl
grid_again Hex rest = refl
grid_again Iamond rest = refl
grid_again Kite rest = refl

pub kind_again : (x : Kind) (rest : List ℕ) → kind_at (kind_text x ++ rest) ≡ Some (x, rest)
unfolding kind_at
kind_again Translation rest = refl
kind_again HalfTurn rest = refl
kind_again Periodic rest = refl

pub version_again : (x : Version) (rest : List ℕ) → version_at (version_text x ++ rest) ≡ Some (x, rest)
unfolding version_at
version_again One rest = refl
version_again Two rest = refl

pub phase_again : (x : Phase) (rest : List ℕ) → phase_at (phase_text x ++ rest) ≡ Some (x, rest)
unfolding phase_at
phase_again Free rest = refl
phase_again Bare rest = refl

pub outcome_again : (x : Outcome) (rest : List ℕ) → outcome_at (outcome_text x ++ rest) ≡ Some (x, rest)
unfolding outcome_at
outcome_again outcomes.Refuted rest = refl
outcome_again outcomes.Spent rest = refl
outcome_again outcomes.Size rest = refl

pub bare_outcome_again : (x : BareOutcome) (rest : List ℕ) → bare_outcome_at (bare_text x ++ rest) ≡ Some (x, rest)
unfolding bare_outcome_at outcome_at
bare_outcome_again bares.Same rest = refl
bare_outcome_again bares.Open rest = refl
bare_outcome_again (bares.Searched outcomes.Refuted) rest = refl
bare_outcome_again (bares.Searched outcomes.Spent) rest = refl
bare_outcome_again (bares.Searched outcomes.Size) rest = refl

no_word : (c : ℕ) (cs bytes rest : List ℕ) → 57 < c → BeginsWithDigit bytes → literal_at (c ∷ cs) (bytes ++ rest) ≡ None
no_word c cs bytes rest letter begins =
    let range = begins.in_range in
    let other : eqb begins.digit c ≡ false = grind (arith, nat_tests) in
    rw (begins.is, other) refl

tests_size : (n most : ℕ) → (1 ≤ n) × (n ≤ most) → (ltb 0 n && leb n most) ≡ true
tests_size n most h = grind (arith, nat_tests)

test_some : (most : ℕ) → 1 ≤ most → leb 1 most ≡ true
test_some most h = grind (arith, nat_tests)

pub subject_again : (version : Version) (grid : GridName) (x : Subject) (rest : List ℕ) → IsSubject version grid x → Stops rest → subject_at version grid (subject_word x ++ rest) ≡ Some (x, rest)
unfolding subject_at
subject_again version grid Given rest fits stops = rw (test_some (most_cells version grid) fits) refl
subject_again version grid (Size n) rest fits stops =
    let most = few_cells version grid in
    let natural : IsNatural n = omega arith in
    let other = no_word 103 (codes "iven") (decimal n) rest (omega arith) (decimal_begins n natural) in
    rw (other, number_again n rest natural stops, tests_size n (most_cells version grid) fits) refl

-- ---- limits

between_tests : (low high n : ℕ) → (leb low n && leb n high) ≡ true → (low ≤ n) × (n ≤ high)
between_tests low high n h = (grind (arith, nat_tests), grind (arith, nat_tests))

tests_between : (low high n : ℕ) → (low ≤ n) × (n ≤ high) → (leb low n && leb n high) ≡ true
tests_between low high n h = grind (arith, nat_tests)

pub limits_fit : (l : Limits) → are_limits l ≡ true → AreLimits l
limits_fit l h =
    let outer = both_true _ _ h in
    let first = both_true _ _ outer.0 in
    let second = both_true _ _ outer.1 in
    record { turns_range = between_tests 1 1000000 l.turns first.0; levels_range = between_tests 1 6 l.levels first.1; domain_range = between_tests 1 12 l.domain second.0; size_range = between_tests 1 60000000 l.size second.1 }

pub fit_limits : (l : Limits) → AreLimits l → are_limits l ≡ true
fit_limits l h = rw (tests_between 1 1000000 l.turns h.turns_range, tests_between 1 6 l.levels h.levels_range, tests_between 1 12 l.domain h.domain_range, tests_between 1 60000000 l.size h.size_range) refl

-- limits under this version, in their ranges
abbrev pub AreLimitsOf : Version → Limits → Type 0
AreLimitsOf version l = AreLimits l × (l.version ≡ version)

pub limits_read : (version : Version) (bytes : List ℕ) (x : Limits × List ℕ) → limits_at version bytes ≡ Some x → IsRead limits_text (AreLimitsOf version) bytes x
unfolding limits_at
limits_read version bytes x e =
    let t = bind_some (labelled_at (codes " turns ") bytes) _ x e in
    let ft = labelled_parts (codes " turns ") bytes t.0 t.1 in
    let l = bind_some (labelled_at (codes " levels ") t.0.1) _ x t.2 in
    let fl = labelled_parts (codes " levels ") t.0.1 l.0 l.1 in
    let d = bind_some (labelled_at (codes " domain ") l.0.1) _ x l.2 in
    let fd = labelled_parts (codes " domain ") l.0.1 d.0 d.1 in
    let z = bind_some (labelled_at (codes " size ") d.0.1) _ x d.2 in
    let fz = labelled_parts (codes " size ") d.0.1 z.0 z.1 in
    let made : Limits × List ℕ = (limits_of version t.0.0 l.0.0 d.0.0 z.0.0, z.0.1) in
    let g = given_some (are_limits (limits_of version t.0.0 l.0.0 d.0.0 z.0.0)) made x z.2 in
    is_read {made = made} limits_text (AreLimitsOf version) bytes g.1 (ft.1 ▸ ft.2.takes ▸ fl.1 ▸ fl.2.takes ▸ fd.1 ▸ fd.2.takes ▸ fz.1 ▸ fz.2.takes) (limits_fit (limits_of version t.0.0 l.0.0 d.0.0 z.0.0) g.0, refl)

pub limits_again : (l : Limits) (rest : List ℕ) → AreLimits l → Stops rest → limits_at l.version (limits_text l ++ rest) ≡ Some (l, rest)
unfolding limits_at
limits_again l rest fits stops =
    let turns_range = fits.turns_range in
    let levels_range = fits.levels_range in
    let domain_range = fits.domain_range in
    let size_range = fits.size_range in
    let natural : IsNatural l.turns × IsNatural l.levels × IsNatural l.domain × IsNatural l.size = (omega arith, omega arith, omega arith, omega arith) in
    let regroup = regroup7 (decimal l.turns) (codes " levels ") (decimal l.levels) (codes " domain ") (decimal l.domain) (codes " size ") (decimal l.size) rest in
    let turns = number_again l.turns (codes " levels " ++ (decimal l.levels ++ (codes " domain " ++ (decimal l.domain ++ (codes " size " ++ (decimal l.size ++ rest)))))) natural.0 refl in
    let levels = number_again l.levels (codes " domain " ++ (decimal l.domain ++ (codes " size " ++ (decimal l.size ++ rest)))) natural.1 refl in
    let domain = number_again l.domain (codes " size " ++ (decimal l.size ++ rest)) natural.2 refl in
    let size = number_again l.size rest natural.3 stops in
    rw (regroup, turns, levels, domain, size, fit_limits l fits) refl
