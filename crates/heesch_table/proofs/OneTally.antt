-- An input has one tally.
use Rattle.std.proofs.Common.{◌≡◌, ℕ, Bool, true, false, List, [], ◌∷◌, ◌++◌, Some, refl, sym, ap, subst, ◌∙◌}
use Rattle.std.specs.List.{AllZip}
use Rattle.std.proofs.lemmas.List.{append-nil}
use Rattle.heesch_grid.specs.declared.Cell.{Cell}
use Rattle.heesch_grid.specs.declared.GridName.{GridName}
use Rattle.heesch_grid.specs.Geometry.{Geometry}
use Rattle.heesch_grid.specs.Names.{geometry_of}
use Rattle.heesch_text.specs.declared.line.Line.{Line}
use Rattle.heesch_reader.specs.declared.item.Item.{Item}
use Rattle.heesch_reader.specs.Items.{lines_of, with_items, none_appended}
use Rattle.heesch_cert.specs.declared.verdict.Verdict.{Verdict}
use Rattle.heesch_table.specs.Holed.{IsHoled}
use Rattle.heesch_table.specs.Texts.{tally_text}
use Rattle.heesch_table.specs.Entries.{entries_of, IsOfGrid, IsCounted}
use Rattle.heesch_table.specs.Tabulating.{IsTallied}
use Rattle.heesch_table.proofs.Cuts.{Cut, same_cut}
use Rattle.heesch_table.proofs.Shapes.{grid_named, grid_is, no_lines, shapes_in, verdicts_in, cells_are, verdicts_are, pairs}
use Rattle.heesch_table.proofs.OneTabulation.{whole_cut}

-- the entries of two lists of items with the same lines are the same
same_entries : (f g : List Item) → lines_of f ≡ lines_of g → entries_of f ≡ entries_of g
same_entries f g e = pairs (entries_of f) (entries_of g) (cells_are f ∙ ap shapes_in e ∙ sym (cells_are g)) (verdicts_are f ∙ ap verdicts_in e ∙ sym (verdicts_are g))

counted_once : (g : Geometry) (es : List (List Cell × Verdict)) (xs ys : List (Bool × Verdict)) → AllZip (IsCounted g) es xs → AllZip (IsCounted g) es ys → xs ≡ ys
counted_once g [] [] [] h k = refl
counted_once g [] [] (y ∷ ys) h k = absurd k
counted_once g [] (x ∷ xs) ys h k = absurd h
counted_once g (e ∷ es) [] ys h k = absurd h
counted_once g (e ∷ es) (x ∷ xs) [] h k = absurd k
counted_once g (e ∷ es) (x ∷ xs) (y ∷ ys) h k =
    let holed : x.0 ≡ y.0 = one_holed g e.0 x.0 y.0 h.0.0 k.0.0 in
    let verdict : x.1 ≡ y.1 = h.0.1 ∙ sym k.0.1 in
    let one : x ≡ y = ap (λ (b : Bool). (b, x.1)) holed ∙ ap (λ (v : Verdict). (y.0, v)) verdict in
    ap (λ (u : Bool × Verdict). u ∷ xs) one ∙ ap (λ (u : List (Bool × Verdict)). y ∷ u) (counted_once g es xs ys h.1 k.1)
  where
    one_holed : (g : Geometry) (cells : List Cell) (a b : Bool) → IsHoled g cells a → IsHoled g cells b → a ≡ b
    one_holed g cells true true h k = refl
    one_holed g cells false false h k = refl
    one_holed g cells true false h k = absurd (h k)
    one_holed g cells false true h k = absurd (k h)

same_grids : (f g : List Item) (grid other : GridName) → (with_items none_appended f).ended ≡ true → IsOfGrid grid f → IsOfGrid other g → lines_of f ≡ lines_of g → grid ≡ other
same_grids [] g grid other some h k e = absurd cc
same_grids (x ∷ f) [] grid other some h k e = absurd (no_lines x f e)
same_grids (x ∷ f) (y ∷ g) grid other some h k e = let t = sym (grid_is grid x f [] h) ∙ ap (λ (ls : List Line). grid_named (ls ++ [])) e ∙ grid_is other y g [] k in cc

pub one_tally : (input text other : List ℕ) → IsTallied (Some input) text → IsTallied (Some input) other → text ≡ other
one_tally input text other s t =
    let a = whole_cut s.read.input s.all s.read.catalogue in
    let b = subst (λ (x : List ℕ). Cut x (lines_of t.all ++ []) [] t.read.catalogue.reached) (t.read.all_of ∙ sym s.read.all_of) (whole_cut t.read.input t.all t.read.catalogue) in
    let same = same_cut s.read.input (lines_of s.all ++ []) (lines_of t.all ++ []) [] [] s.read.catalogue.reached t.read.catalogue.reached a b in
    let ls : lines_of s.all ≡ lines_of t.all = sym (append-nil (lines_of s.all)) ∙ same.0 ∙ append-nil (lines_of t.all) in
    let grids = same_grids s.all t.all s.grid t.grid s.read.catalogue.ended s.of_grid t.of_grid ls in
    let over = subst (λ (x : GridName). AllZip (IsCounted (geometry_of x)) (entries_of t.all) t.counted) (sym grids) t.counts in
    let counted = counted_once (geometry_of s.grid) (entries_of s.all) s.counted t.counted s.counts (subst (λ (es : List (List Cell × Verdict)). AllZip (IsCounted (geometry_of s.grid)) es t.counted) (sym (same_entries s.all t.all ls)) over) in
    s.text_is ∙ ap tally_text counted ∙ sym t.text_is
