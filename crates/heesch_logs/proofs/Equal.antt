-- What answers and tests of equality say, and members that were found.
use Rattle.std.proofs.Common.{◌≡◌, ◌∙◌, ℕ, refl, sym, ap, List, Bool, true, false, ◌&&◌, ◌==◌, All, true≢false, eqb-true, eq-eqb}
use Rattle.std.specs.Prelude.{◌↔◌, IsTrue}
use Rattle.std.specs.Bool.{Decides}
use Rattle.std.specs.Cmp.Lexicographic.{pointwise}
use Rattle.std.specs.Ordering.{int_eq}
use Rattle.std.proofs.lemmas.Bool.{and_from, and_parts}
use Rattle.std.proofs.lemmas.Bool.Decides.{Decides-int_eq}
use Rattle.std.proofs.lemmas.List.Elements.{All-contains}
use Rattle.std.proofs.lemmas.Slice.Eq.{slice_eq-Decides}
use Rattle.heesch_grid.specs.declared.Cell.{Cell}
use Rattle.heesch_grid.specs.declared.isometries.Iso.{Iso}
use Rattle.heesch_grid.specs.Cells.{has, same_cell}
use Rattle.heesch_grid.specs.Pairs.{has-true, same_cell-is, same_cell-true}
use Rattle.heesch_grid.specs.Vectors.{IsWithin}

pub all_has : (n : ℕ) (cells : List Cell) → All (IsWithin n) cells → (c : Cell) → has cells c ≡ true → IsWithin n c
all_has n cells h c m = All-contains (IsWithin n) cells c h (has-true cells c m)

pub cells_equal : (xs ys : List Cell) (r : Bool) → r ≡ pointwise same_cell xs ys → Decides r (xs ≡ ys)
cells_equal xs ys r e = slice_eq-Decides (λ c d. (same_cell-true c d, same_cell-is c d)) xs ys r e

pub granted : {P : Type 0} → P → IsTrue true ↔ P
granted p = ((λ e. p), (λ h. refl))

pub refused : {P : Type 0} → (¬ P) → IsTrue false ↔ P
refused not_so = ((λ e. absurd (true≢false (sym e))), (λ h. absurd (not_so h)))

pub isos_equal : (x y : Iso) (r : Bool) → r ≡ (x.turn == y.turn && (int_eq x.da y.da && int_eq x.db y.db)) → Decides r (x ≡ y)
isos_equal x y r e = (
  (λ t.
      let outer = and_parts (x.turn == y.turn) (int_eq x.da y.da && int_eq x.db y.db) (sym e ∙ t) in
      let inner = and_parts (int_eq x.da y.da) (int_eq x.db y.db) outer.1 in
      let turn : x.turn ≡ y.turn = eqb-true x.turn y.turn outer.0 in
      let da : x.da ≡ y.da = (Decides-int_eq x.da y.da).0 inner.0 in
      let db : x.db ≡ y.db = (Decides-int_eq x.db y.db).0 inner.1 in
      λ i. record { turn = turn i; da = da i; db = db i }),
  (λ same.
      e
      ∙ and_from (x.turn == y.turn) (int_eq x.da y.da && int_eq x.db y.db) (eq-eqb x.turn y.turn (ap (λ (z : Iso). z.turn) same))
      (and_from (int_eq x.da y.da) (int_eq x.db y.db) ((Decides-int_eq x.da y.da).1 (ap (λ (z : Iso). z.da) same)) ((Decides-int_eq x.db y.db).1 (ap (λ (z : Iso). z.db) same)))),
)

-- one test after the other
pub through : {A B C : Type 0} → A ↔ B → B ↔ C → A ↔ C
through p q = ((λ a. q.0 (p.0 a)), (λ c. p.1 (q.1 c)))

pub back : {A B : Type 0} → A ↔ B → B ↔ A
back p = (p.1, p.0)

-- two tests that agree
pub agreeing : {P Q : Type 0} (a b : Bool) → IsTrue a ↔ P → IsTrue b ↔ Q → (IsTrue a ↔ IsTrue b) ↔ (P ↔ Q)
agreeing a b p q = (
  (λ h. ((λ x. q.0 (h.0 (p.1 x))), (λ y. p.0 (h.1 (q.1 y))))),
  (λ h. ((λ x. q.1 (h.0 (p.0 x))), (λ y. p.1 (h.1 (q.0 y))))),
)
