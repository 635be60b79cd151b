-- A text gives one list of shapes, with one fault.
use Rattle.std.proofs.Common.{◌≡◌, ◌≢◌, ℕ, suc, ◌+◌, ◌<◌, ◌≤◌, List, [], ◌∷◌, ◌++◌, length, map, Option, Some, None, refl, sym, ap, subst, ◌∙◌, append_assoc, arith, ◌⊎◌, inl, inr}
use Rattle.std.specs.List.{AllByRecursion}
use Rattle.std.proofs.lemmas.List.{append-nil}
use Rattle.heesch_grid.specs.declared.Cell.{Cell}
use Rattle.heesch_text.specs.Fields.{cells_text}
use Rattle.heesch_text.specs.Shapes.{list_text}
use Rattle.heesch_line.specs.declared.list.ListStop.{ListStop}
use Rattle.heesch_line.specs.declared.list.ListStop.TheVariants.{NotText, TooManyShapes, NoMemory}
use Rattle.heesch_line.specs.Lists.{lines_of, AreCells, IsListText, AreRead}
use Rattle.heesch_line.specs.Reading.{list_line_at}
use Rattle.heesch_line.proofs.Steps.{some_is}
use Rattle.heesch_line.proofs.Newlines.{cells_free}
use Rattle.heesch_line.proofs.ListLaws.{first_line, list_line_again}

-- cells are told by their text
pub cells_tell : (a b : List Cell) → AreCells a → AreCells b → cells_text a ≡ cells_text b → a ≡ b
cells_tell a b fits fit same =
    let whole : (cells_text a ++ 10 ∷ []) ≡ cells_text b ++ 10 ∷ [] = ap (λ (t : List ℕ). t ++ 10 ∷ []) same in
    let both : (a, []) ≡ (b, []) = some_is {A = List Cell × List ℕ} (a, []) (b, []) (sym (list_line_again a [] fits) ∙ ap list_line_at whole ∙ list_line_again b [] fit) in
    ap (λ (x : List Cell × List ℕ). x.0) both

-- the lines after so many shapes: none, or a first one that no list has, or those that are too many
record NotListed (tail : List (List ℕ)) : Type 0 where
  line : List ℕ
  back : List (List ℕ)
  lines : tail ≡ line ∷ back
  other : (cells : List Cell) → AreCells cells → line ≢ cells_text cells

abbrev Tail : ℕ → List (List ℕ) → Type 0
Tail n tail = (tail ≡ []) ⊎ (NotListed tail ⊎ (n ≡ 10000))

no_more : (n m : ℕ) (tail back : List (List ℕ)) (cells : List Cell) → Tail n tail → AreCells cells → tail ≡ cells_text cells ∷ back → n < m → m ≤ 10000 → ⊥
no_more n m tail back cells (inl none) fits same lt le = let both = sym none ∙ same in cc
no_more n m tail back cells (inr (inl other)) fits same lt le =
    let both : other.line ∷ other.back ≡ cells_text cells ∷ back = sym other.lines ∙ same in
    let first : other.line ≡ cells_text cells = cc in
    other.other cells fits first
no_more n m tail back cells (inr (inr full)) fits same lt le = absurd (omega arith)

at_length : (n m : ℕ) (tail : List (List ℕ)) → n ≡ m → Tail n tail → Tail m tail
at_length n m tail e h = subst (λ (k : ℕ). Tail k tail) e h

same_front : (k : ℕ) (first second : List (List Cell)) (t u : List (List ℕ)) → AllByRecursion AreCells first → AllByRecursion AreCells second
    → map cells_text first ++ t ≡ map cells_text second ++ u → Tail (k + length first) t → Tail (k + length second) u → k + length first ≤ 10000 → k + length second ≤ 10000 → (first ≡ second) × (t ≡ u)
same_front k [] [] t u fits fit same tail end le lt = (refl, same)
same_front k [] (c ∷ second) t u fits fit same tail end le lt = absurd (no_more (k + 0) (k + suc (length second)) t (map cells_text second ++ u) c tail fit.0 same (omega arith) lt)
same_front k (c ∷ first) [] t u fits fit same tail end le lt = absurd (no_more (k + 0) (k + suc (length first)) u (map cells_text first ++ t) c end fits.0 (sym same) (omega arith) le)
same_front k (c ∷ first) (d ∷ second) t u fits fit same tail end le lt =
    let heads : cells_text c ≡ cells_text d = cc in
    let tails : map cells_text first ++ t ≡ map cells_text second ++ u = cc in
    let one = cells_tell c d fits.0 fit.0 heads in
    let more : k + suc (length first) ≡ suc k + length first = omega arith in
    let longer : k + suc (length second) ≡ suc k + length second = omega arith in
    let others = same_front (suc k) first second t u fits.1 fit.1 tails (at_length _ _ t more tail) (at_length _ _ u longer end) (omega arith) (omega arith) in
    let joined : (c ∷ first) ≡ d ∷ second = let same_others = others.0 in cc in
    (joined, others.1)

-- what a text says of the shapes of its first lines
record Ended (text : List ℕ) (shapes : List (List Cell)) (stop : Option ListStop) : Type 0 where
  tail : List (List ℕ)
  lines : lines_of text ≡ map cells_text shapes ++ tail
  cells : AllByRecursion AreCells shapes
  most : length shapes ≤ 10000
  ends : Tail (length shapes) tail

ended : (text : List ℕ) (shapes : List (List Cell)) (stop : Option ListStop) → AreRead text shapes stop → Ended text shapes stop
ended text shapes None h = record { tail = []; lines = h.lines ∙ sym (append-nil (map cells_text shapes)); cells = h.cells; most = h.most; ends = inl refl }
ended text shapes (Some (NotText line)) h =
    let early = h.in_time in
    record { tail = h.line ∷ h.goes_on.back; lines = h.goes_on.lines; cells = h.goes_on.cells; most = omega arith; ends = inr (inl (record { line = h.line; back = h.goes_on.back; lines = refl; other = h.not_listed })) }
ended text shapes (Some (TooManyShapes line)) h =
    let full = h.full in
    record { tail = h.line ∷ h.goes_on.back; lines = h.goes_on.lines; cells = h.goes_on.cells; most = omega arith; ends = inr (inr h.full) }
ended text shapes (Some NoMemory) h = absurd h

same_shapes : (text : List ℕ) (first second : List (List Cell)) (stop other : Option ListStop) (a : Ended text first stop) (b : Ended text second other) → (first ≡ second) × (a.tail ≡ b.tail)
same_shapes text first second stop other a b =
    let at : (n : ℕ) → n ≡ 0 + n = λ n. omega arith in
    let most = a.most in
    let most_too = b.most in
    same_front 0 first second a.tail b.tail a.cells b.cells (sym a.lines ∙ b.lines) (at_length _ _ a.tail (at (length first)) a.ends) (at_length _ _ b.tail (at (length second)) b.ends) (omega arith) (omega arith)

same_stop : (text : List ℕ) (first second : List (List Cell)) (stop other : Option ListStop) (h : AreRead text first stop) (k : AreRead text second other) → first ≡ second → (ended text first stop h).tail ≡ (ended text second other k).tail → stop ≡ other
unfolding ended
same_stop text first second None None h k same tails = refl
same_stop text first second None (Some (NotText line)) h k same tails = absurd cc
same_stop text first second None (Some (TooManyShapes line)) h k same tails = absurd cc
same_stop text first second (Some (NotText line)) None h k same tails = absurd cc
same_stop text first second (Some (TooManyShapes line)) None h k same tails = absurd cc
same_stop text first second (Some (NotText line)) (Some (NotText other)) h k same tails =
    let one = h.number_is in
    let two = k.number_is in
    let lengths = ap length same in
    let numbers : line ≡ other = omega arith in
    ap (λ (n : ℕ). Some (NotText n)) numbers
same_stop text first second (Some (NotText line)) (Some (TooManyShapes other)) h k same tails =
    let early = h.in_time in
    let full = k.full in
    let lengths = ap length same in
    absurd (omega arith)
same_stop text first second (Some (TooManyShapes line)) (Some (NotText other)) h k same tails =
    let early = k.in_time in
    let full = h.full in
    let lengths = ap length same in
    absurd (omega arith)
same_stop text first second (Some (TooManyShapes line)) (Some (TooManyShapes other)) h k same tails =
    let numbers : line ≡ other = h.number_is ∙ sym k.number_is in
    ap (λ (n : ℕ). Some (TooManyShapes n)) numbers
same_stop text first second (Some NoMemory) other h k same tails = absurd h
same_stop text first second None (Some NoMemory) h k same tails = absurd k
same_stop text first second (Some (NotText line)) (Some NoMemory) h k same tails = absurd k
same_stop text first second (Some (TooManyShapes line)) (Some NoMemory) h k same tails = absurd k

-- one answer for a text
pub one_list : (text : List ℕ) (first second : List (List Cell)) (stop other : Option ListStop) → AreRead text first stop → AreRead text second other → (first ≡ second) × (stop ≡ other)
one_list text first second stop other h k =
    let same = same_shapes text first second stop other (ended text first stop h) (ended text second other k) in
    (same.0, same_stop text first second stop other h k same.0 same.1)

written_lines : (shapes : List (List Cell)) → AllByRecursion AreCells shapes → lines_of (list_text shapes) ≡ map cells_text shapes
written_lines [] fits = refl
written_lines (cells ∷ shapes) fits =
    let regroup : list_text (cells ∷ shapes) ≡ cells_text cells ++ 10 ∷ list_text shapes = append_assoc (cells_text cells) (10 ∷ []) (list_text shapes) in
    ap lines_of regroup ∙ first_line (cells_text cells) (list_text shapes) (cells_free cells fits.0).is ∙ ap (λ (t : List (List ℕ)). cells_text cells ∷ t) (written_lines shapes fits.1)

-- a list that was written is read
pub written : (shapes : List (List Cell)) → AllByRecursion AreCells shapes → length shapes ≤ 10000 → IsListText (list_text shapes) shapes
written shapes fits most = record { lines = written_lines shapes fits; cells = fits; most = most }
