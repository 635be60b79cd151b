-- The `shape` lines among lines, each with its number, and the entries that begin on them.
use Rattle.std.proofs.Common.{◌≡◌, ◌⊎◌, inl, inr, ℕ, suc, ◌+◌, List, [], ◌∷◌, ◌++◌, map, length, Option, Some, None, refl, sym, ap, subst, ◌∙◌, arith}
use Rattle.std.specs.List.{AllByRecursion}
use Rattle.std.proofs.lemmas.List.{append-nil, length-append}
use Rattle.heesch_grid.specs.declared.Cell.{Cell}
use Rattle.heesch_grid.specs.declared.GridName.{GridName}
use Rattle.heesch_grid.specs.Geometry.{Geometry}
use Rattle.heesch_cert.specs.declared.verdict.Verdict.{Verdict}
use Rattle.heesch_text.specs.declared.line.Line.{Line}
use Rattle.heesch_text.specs.declared.line.Line.TheVariants as lines
use Rattle.heesch_text.specs.Catalogue.{evidence_lines}
use Rattle.heesch_shape.specs.Faults.{IsFaultless}
use Rattle.heesch_reader.specs.declared.item.Item.{Item}
use Rattle.heesch_reader.specs.declared.item.Item.TheVariants as items
use Rattle.heesch_reader.specs.Items.{item_lines, lines_of, IsItemAt, AreItemsAt}
use Rattle.heesch_reader.specs.Feeding.{IsInside}
use Rattle.heesch_reader.proofs.EntryLines.{IsEvidence, body_lines, body_inside, evidence_inside}
use Rattle.heesch_reader.proofs.ItemLines.{lines_append}
use Rattle.heesch_table.specs.Entries.{entries_of, IsEntryAt, IsOfGrid, AreShapes}

-- a `shape` line's number and cells
abbrev pub Told : Type 0
Told = ℕ × List Cell

-- those of lines that stand behind so many
abbrev pub told : ℕ → List Line → List Told
told n [] = []
told n (lines.Shape cells ∷ ls) = (n + 1, cells) ∷ told (n + 1) ls
told n (line ∷ ls) = told (n + 1) ls

at_sum : (n k : ℕ) (ls : List Line) → told (n + 1 + k) ls ≡ told (n + suc k) ls
at_sum n k ls = let e : n + 1 + k ≡ n + suc k = omega arith in ap (λ (x : ℕ). told x ls) e

one_on : (n : ℕ) (a b : List Line) → told (n + 1) (a ++ b) ≡ told (n + 1) a ++ told (n + 1 + length a) b → told (n + 1) (a ++ b) ≡ told (n + 1) a ++ told (n + suc (length a)) b
one_on n a b h = h ∙ ap (λ (x : List Told). told (n + 1) a ++ x) (at_sum n (length a) b)

pub told_append : (n : ℕ) (a b : List Line) → told n (a ++ b) ≡ told n a ++ told (n + length a) b
told_append n [] b = let e : n ≡ n + 0 = omega arith in ap (λ (x : ℕ). told x b) e
told_append n (lines.Shape cells ∷ a) b = ap (λ (x : List Told). (n + 1, cells) ∷ x) (one_on n a b (told_append (n + 1) a b))
told_append n (lines.Header header ∷ a) b = one_on n a b (told_append (n + 1) a b)
told_append n (lines.Verdict verdict ∷ a) b = one_on n a b (told_append (n + 1) a b)
told_append n (lines.Lattice triple ∷ a) b = one_on n a b (told_append (n + 1) a b)
told_append n (lines.Tile place member ∷ a) b = one_on n a b (told_append (n + 1) a b)
told_append n (lines.Coronas count ∷ a) b = one_on n a b (told_append (n + 1) a b)
told_append n (lines.Layer places ∷ a) b = one_on n a b (told_append (n + 1) a b)
told_append n (lines.Wall level outcome ∷ a) b = one_on n a b (told_append (n + 1) a b)
told_append n (lines.Bare level outcome ∷ a) b = one_on n a b (told_append (n + 1) a b)
told_append n (lines.Open count ∷ a) b = one_on n a b (told_append (n + 1) a b)
told_append n (lines.Triple triple refuted ∷ a) b = one_on n a b (told_append (n + 1) a b)
told_append n (lines.Learn clause hints ∷ a) b = one_on n a b (told_append (n + 1) a b)
told_append n (lines.Cut cut ∷ a) b = one_on n a b (told_append (n + 1) a b)
told_append n (lines.Empty hints ∷ a) b = one_on n a b (told_append (n + 1) a b)
told_append n (lines.Spent ∷ a) b = one_on n a b (told_append (n + 1) a b)
told_append n (lines.End count ∷ a) b = one_on n a b (told_append (n + 1) a b)

-- lines inside an entry tell no shape
inside_one : (n : ℕ) (line : Line) (ls : List Line) → IsInside line → told n (line ∷ ls) ≡ told (n + 1) ls
inside_one n (lines.Header header) ls i = absurd i
inside_one n (lines.Shape cells) ls i = absurd i
inside_one n (lines.End count) ls i = absurd i
inside_one n line ls i = refl

inside_told : (n : ℕ) (ls : List Line) → AllByRecursion IsInside ls → told n ls ≡ []
inside_told n [] h = refl
inside_told n (line ∷ ls) h = inside_one n line ls h.0 ∙ inside_told (n + 1) ls h.1

-- an entry tells one
item_told : (n : ℕ) (item : Item) (line : ℕ) (cells : List Cell) → IsItemAt n item → IsEntryAt item line cells → told n (item_lines item) ≡ (line, cells) ∷ []
item_told n (items.Header header) line cells at is = absurd is
item_told n (items.Entry first entry) line cells at is = rw (is.0, is.1, at.0) (ap (λ (x : List Told). (n + 1, entry.cells) ∷ x) (inside_told (n + 1) (body_lines entry) (body_inside entry)))
item_told n (items.Brief first given verdict) line cells at is = rw (is.0, is.1, at) refl
item_told n (items.End count) line cells at is = absurd is

item_at : (n : ℕ) (front : List Item) (item : Item) → AreItemsAt n (front ++ item ∷ []) → IsItemAt (n + length (lines_of front)) item
item_at n [] item h = let e : n ≡ n + 0 = omega arith in subst (λ (x : ℕ). IsItemAt x item) e h.0
item_at n (x ∷ front) item h =
    let e : n + length (item_lines x) + length (lines_of front) ≡ n + length (item_lines x ++ lines_of front) = omega (arith, length-append (item_lines x) (lines_of front)) in
    subst (λ (k : ℕ). IsItemAt k item) e (item_at (n + length (item_lines x)) front item h.1)

-- the last entry's shape is told last
pub last_told : (front : List Item) (item : Item) (line : ℕ) (cells : List Cell) → AreItemsAt 0 (front ++ item ∷ []) → IsEntryAt item line cells → told 0 (lines_of (front ++ item ∷ [])) ≡ told 0 (lines_of front) ++ (line, cells) ∷ []
last_told front item line cells h is =
    let alone : lines_of (item ∷ []) ≡ item_lines item = append-nil (item_lines item) in
    ap (told 0) (lines_append front (item ∷ []) ∙ ap (λ (x : List Line). lines_of front ++ x) alone) ∙ told_append 0 (lines_of front) (item_lines item)
    ∙ ap (λ (x : List Told). told 0 (lines_of front) ++ x) (item_told (0 + length (lines_of front)) item line cells (item_at 0 front item h) is)

-- ---- shapes

abbrev pub AreFaultless : Geometry → List Told → Type 0
AreFaultless g ts = AllByRecursion (λ t. IsFaultless g t.1) ts

all_on : {X : Type 0} (P : X → Type 0) (xs ys : List X) → AllByRecursion P xs → AllByRecursion P ys → AllByRecursion P (xs ++ ys)
all_on P [] ys h k = k
all_on P (x ∷ xs) ys h k = (h.0, all_on P xs ys h.1 k)

pub shapes_told : (g : Geometry) (n : ℕ) (found : List Item) → AreShapes g (entries_of found) → AreFaultless g (told n (lines_of found))
shapes_told g n [] h = tt
shapes_told g n (items.Header header ∷ found) h = shapes_told g (n + 1) found h
shapes_told g n (items.Entry line entry ∷ found) h = (
  h.0,
  subst (AreFaultless g) (sym (told_append (n + 1) (body_lines entry) (lines_of found)))
      (all_on (λ (t : Told). IsFaultless g t.1) (told (n + 1) (body_lines entry)) (told (n + 1 + length (body_lines entry)) (lines_of found))
      (subst (AreFaultless g) (sym (inside_told (n + 1) (body_lines entry) (body_inside entry))) tt) (shapes_told g (n + 1 + length (body_lines entry)) found h.1)),
)
shapes_told g n (items.Brief line cells verdict ∷ found) h = (h.0, shapes_told g (n + 1 + 1) found h.1)
shapes_told g n (items.End count ∷ found) h = shapes_told g (n + 1) found h

-- what is told further on is faultless too
pub faultless_at : (g : Geometry) (front back : List Told) (t : Told) → AreFaultless g (front ++ t ∷ back) → IsFaultless g t.1
faultless_at g [] back t h = h.0
faultless_at g (x ∷ front) back t h = faultless_at g front back t h.1

-- ---- the grid

-- the grid that the first line names
abbrev pub grid_named : List Line → Option GridName
grid_named (lines.Header header ∷ ls) = Some header.grid
grid_named ls = None

pub grid_is : (grid : GridName) (x : Item) (found : List Item) (more : List Line) → IsOfGrid grid (x ∷ found) → grid_named (lines_of (x ∷ found) ++ more) ≡ Some grid
grid_is grid (items.Header header) found more h = ap (λ (y : GridName). Some y) h
grid_is grid (items.Entry line entry) found more h = absurd h
grid_is grid (items.Brief line cells verdict) found more h = absurd h
grid_is grid (items.End count) found more h = absurd h

named : (front : List Item) (item : Item) (grid : GridName) (more : List Line) → IsOfGrid grid (front ++ item ∷ []) → grid_named (lines_of (front ++ item ∷ []) ++ more) ≡ Some grid
named [] item grid more h = grid_is grid item [] more h
named (x ∷ front) item grid more h = grid_is grid x (front ++ item ∷ []) more h

of_all : (all : List Item) (grid other : GridName) → IsOfGrid other all → grid_named (lines_of all ++ []) ≡ Some grid → grid ≡ other
of_all [] grid other h e = absurd cc
of_all (x ∷ all) grid other h e = let t = sym e ∙ grid_is other x all [] h in cc

-- items whose lines begin alike are of one grid
pub same_grid : (front : List Item) (item : Item) (all : List Item) (over : List Line) (grid other : GridName) → IsOfGrid grid (front ++ item ∷ []) → IsOfGrid other all → lines_of all ≡ lines_of (front ++ item ∷ []) ++ over → grid ≡ other
same_grid front item all over grid other h k e = of_all all grid other k (ap grid_named (append-nil (lines_of all) ∙ e) ∙ named front item grid over h)

-- ---- lists

-- the last of the one list is that of the other, or stands further in front
pub last_or_front : {X : Type 0} (xs ys more : List X) (x y : X) → xs ++ x ∷ [] ≡ (ys ++ y ∷ []) ++ more → (x ≡ y) ⊎ ((behind : List X) × (xs ≡ ys ++ y ∷ behind))
last_or_front [] [] more x y e = inl cc
last_or_front [] (z ∷ []) more x y e = absurd cc
last_or_front [] (z ∷ w ∷ ys) more x y e = absurd cc
last_or_front (z ∷ xs) [] more x y e = let t : z ≡ y = cc in inr (xs, ap (λ u. u ∷ xs) t)
last_or_front (z ∷ xs) (w ∷ ys) more x y e =
    let t : z ≡ w = cc in
    let rest : xs ++ x ∷ [] ≡ (ys ++ y ∷ []) ++ more = cc in
    elim (last_or_front xs ys more x y rest) [
      | inl same ↦ inl same
      | inr f ↦ inr (f.0, ap (λ u. u ∷ xs) t ∙ ap (λ (u : List _). w ∷ u) f.1)
    ]

-- ---- cells and verdicts

-- the cells of the shapes
abbrev pub shapes_in : List Line → List (List Cell)
shapes_in [] = []
shapes_in (lines.Shape cells ∷ ls) = cells ∷ shapes_in ls
shapes_in (line ∷ ls) = shapes_in ls

-- the verdicts
abbrev pub verdicts_in : List Line → List Verdict
verdicts_in [] = []
verdicts_in (lines.Verdict verdict ∷ ls) = verdict ∷ verdicts_in ls
verdicts_in (line ∷ ls) = verdicts_in ls

shapes_append : (a b : List Line) → shapes_in (a ++ b) ≡ shapes_in a ++ shapes_in b
shapes_append [] b = refl
shapes_append (lines.Shape cells ∷ a) b = ap (λ (x : List (List Cell)). cells ∷ x) (shapes_append a b)
shapes_append (line ∷ a) b = shapes_append a b

verdicts_append : (a b : List Line) → verdicts_in (a ++ b) ≡ verdicts_in a ++ verdicts_in b
verdicts_append [] b = refl
verdicts_append (lines.Verdict verdict ∷ a) b = ap (λ (x : List Verdict). verdict ∷ x) (verdicts_append a b)
verdicts_append (line ∷ a) b = verdicts_append a b

-- evidence tells none of both
no_shape : (line : Line) (ls : List Line) → IsEvidence line → (shapes_in (line ∷ ls) ≡ shapes_in ls) × (verdicts_in (line ∷ ls) ≡ verdicts_in ls)
no_shape (lines.Header header) ls i = absurd i
no_shape (lines.Shape cells) ls i = absurd i
no_shape (lines.Verdict verdict) ls i = absurd i
no_shape (lines.End count) ls i = absurd i
no_shape line ls i = (refl, refl)

none_told : (ls : List Line) → AllByRecursion IsEvidence ls → (shapes_in ls ≡ []) × (verdicts_in ls ≡ [])
none_told [] h = (refl, refl)
none_told (line ∷ ls) h = let n = no_shape line ls h.0 in let r = none_told ls h.1 in (n.0 ∙ r.0, n.1 ∙ r.1)

pub cells_are : (found : List Item) → map (λ (e : List Cell × Verdict). e.0) (entries_of found) ≡ shapes_in (lines_of found)
cells_are [] = refl
cells_are (items.Header header ∷ found) = cells_are found
cells_are (items.Entry line entry ∷ found) =
    ap (λ (x : List (List Cell)). entry.cells ∷ x) (cells_are found ∙ sym (shapes_append (evidence_lines entry.verdict entry.evidence) (lines_of found)
    ∙ ap (λ (x : List (List Cell)). x ++ shapes_in (lines_of found)) (none_told (evidence_lines entry.verdict entry.evidence) (evidence_inside entry.verdict entry.evidence)).0))
cells_are (items.Brief line cells verdict ∷ found) = ap (λ (x : List (List Cell)). cells ∷ x) (cells_are found)
cells_are (items.End count ∷ found) = cells_are found

pub verdicts_are : (found : List Item) → map (λ (e : List Cell × Verdict). e.1) (entries_of found) ≡ verdicts_in (lines_of found)
verdicts_are [] = refl
verdicts_are (items.Header header ∷ found) = verdicts_are found
verdicts_are (items.Entry line entry ∷ found) =
    ap (λ (x : List Verdict). entry.verdict ∷ x) (verdicts_are found ∙ sym (verdicts_append (evidence_lines entry.verdict entry.evidence) (lines_of found)
    ∙ ap (λ (x : List Verdict). x ++ verdicts_in (lines_of found)) (none_told (evidence_lines entry.verdict entry.evidence) (evidence_inside entry.verdict entry.evidence)).1))
verdicts_are (items.Brief line cells verdict ∷ found) = ap (λ (x : List Verdict). verdict ∷ x) (verdicts_are found)
verdicts_are (items.End count ∷ found) = verdicts_are found

-- pairs are known by both their sides
pub pairs : {A B : Type 0} (xs ys : List (A × B)) → map (λ (e : A × B). e.0) xs ≡ map (λ (e : A × B). e.0) ys → map (λ (e : A × B). e.1) xs ≡ map (λ (e : A × B). e.1) ys → xs ≡ ys
pairs [] [] e f = refl
pairs [] (y ∷ ys) e f = absurd cc
pairs (x ∷ xs) [] e f = absurd cc
pairs (x ∷ xs) (y ∷ ys) e f =
    let left : x.0 ≡ y.0 = cc in
    let right : x.1 ≡ y.1 = cc in
    let one : x ≡ y = ap (λ u. (u, x.1)) left ∙ ap (λ u. (y.0, u)) right in
    ap (λ u. u ∷ xs) one ∙ ap (λ u. y ∷ u) (pairs xs ys (cc) (cc))

pub no_lines : (item : Item) (found : List Item) → lines_of (item ∷ found) ≡ [] → ⊥
no_lines (items.Header header) found e = absurd cc
no_lines (items.Entry line entry) found e = absurd cc
no_lines (items.Brief line cells verdict) found e = absurd cc
no_lines (items.End count) found e = absurd cc
