-- The tests of cells and of sets of cells decide what they say, and cell order is strict.
use Rattle.std.proofs.Common.{◌≡◌, refl, sym, ap, subst, ◌∙◌, List, [], ◌∷◌, Bool, true, false, ◌&&◌, ◌||◌, ◌==◌, inl, inr, arith, Contains, true≢false, le-ltb}
use Rattle.std.specs.Prelude.{ℤ, int_lt, nat_lt}
use Rattle.std.specs.Ordering.{int_eq}
use Rattle.std.specs.Cmp.{signed_Decides}
use Rattle.std.proofs.lemmas.Int.{ints}
use Rattle.std.proofs.lemmas.Bool.{and_parts, or_cases, cases_Bool}
use Rattle.heesch_grid.specs.declared.Cell.{Cell}
use Rattle.heesch_grid.specs.Cells.{same_cell, cell_before, cells_before, has, meet}
use Rattle.heesch_grid.specs.CoronaFormula.{Variable, variable_before}
use Rattle.heesch_grid.proofs.ListFacts.{member_cases, member_here, member_there, no_member}
use Rattle.heesch_grid.specs.Pairs.{same_cell-is, has-true, or-left, or-right}

pub has-is : (xs : List Cell) (c : Cell) → Contains xs c → has xs c ≡ true
has-is [] c m = absurd (no_member c m)
has-is (x ∷ xs) c m =
    elim (member_cases x xs c m) [
      | inl e ↦ or-left (same_cell c x) (has xs c) (same_cell-is c x (sym e))
      | inr h ↦ or-right (same_cell c x) (has xs c) (has-is xs c h)
    ]

pub has-false : (xs : List Cell) (c : Cell) → has xs c ≡ false → ¬ Contains xs c
has-false xs c f m = true≢false (sym (has-is xs c m) ∙ f)

-- two sets meet exactly where they share a cell
pub meet-true : (xs ys : List Cell) → meet xs ys ≡ true → (c : Cell) × Contains xs c × Contains ys c
meet-true [] ys t = absurd (true≢false (sym t))
meet-true (x ∷ xs) ys t =
    elim (or_cases (has ys x) (meet xs ys) t) [
      | inl h ↦ (x, member_here x xs, has-true ys x h)
      | inr h ↦ let r : (c : Cell) × Contains xs c × Contains ys c = meet-true xs ys h in (r.0, member_there x xs r.0 r.1, r.2)
    ]

pub meet-is : (xs ys : List Cell) (c : Cell) → Contains xs c → Contains ys c → meet xs ys ≡ true
meet-is [] ys c m n = absurd (no_member c m)
meet-is (x ∷ xs) ys c m n =
    elim (member_cases x xs c m) [
      | inl e ↦ or-left (has ys x) (meet xs ys) (has-is ys x (subst (λ z. Contains ys z) (sym e) n))
      | inr h ↦ or-right (has ys x) (meet xs ys) (meet-is xs ys c h n)
    ]

int_lt-irreflexive : (x : ℤ) → int_lt x x ≡ false
int_lt-irreflexive x = grind (arith, ints)

int_lt-asymmetric : (x y : ℤ) → int_lt x y ≡ true → int_lt y x ≡ false
int_lt-asymmetric x y t = grind (arith, ints)

int_lt-ne : (x y : ℤ) → int_lt x y ≡ true → int_eq y x ≡ false
int_lt-ne x y t = elim (cases_Bool (int_eq y x)) [ inl e ↦ absurd (true≢false (sym t ∙ ap (int_lt x) ((signed_Decides y x).0 e) ∙ int_lt-irreflexive x)) | inr f ↦ f ]

and-irreflexive : (a b : Bool) → b ≡ false → (a && b) ≡ false
and-irreflexive true b e = e
and-irreflexive false b e = refl

or-false : (a b : Bool) → a ≡ false → b ≡ false → (a || b) ≡ false
or-false true b e f = e
or-false false b e f = f

and-false_left : (a b : Bool) → a ≡ false → (a && b) ≡ false
and-false_left true b e = absurd (true≢false e)
and-false_left false b e = refl

pub cell_before-irreflexive : (c : Cell) → cell_before c c ≡ false
cell_before-irreflexive c = or-false (int_lt c.b c.b) (int_eq c.b c.b && int_lt c.a c.a) (int_lt-irreflexive c.b) (and-irreflexive (int_eq c.b c.b) (int_lt c.a c.a) (int_lt-irreflexive c.a))

pub cell_before-asymmetric : (c d : Cell) → cell_before c d ≡ true → cell_before d c ≡ false
cell_before-asymmetric c d t =
    elim (or_cases (int_lt c.b d.b) (int_eq c.b d.b && int_lt c.a d.a) t) [
      | inl l ↦ or-false (int_lt d.b c.b) (int_eq d.b c.b && int_lt d.a c.a) (int_lt-asymmetric c.b d.b l) (and-false_left (int_eq d.b c.b) (int_lt d.a c.a) (int_lt-ne c.b d.b l))
      | inr h ↦
          let both : (int_eq c.b d.b ≡ true) × (int_lt c.a d.a ≡ true) = and_parts (int_eq c.b d.b) (int_lt c.a d.a) h in
          or-false (int_lt d.b c.b) (int_eq d.b c.b && int_lt d.a c.a)
          (ap (int_lt d.b) ((signed_Decides c.b d.b).0 both.0) ∙ int_lt-irreflexive d.b)
          (and-irreflexive (int_eq d.b c.b) (int_lt d.a c.a) (int_lt-asymmetric c.a d.a both.1))
    ]

pub cells_before-irreflexive : (xs : List Cell) → cells_before xs xs ≡ false
cells_before-irreflexive [] = refl
cells_before-irreflexive (c ∷ cs) = or-false (cell_before c c) (same_cell c c && cells_before cs cs) (cell_before-irreflexive c) (and-irreflexive (same_cell c c) (cells_before cs cs) (cells_before-irreflexive cs))

pub variable_before-irreflexive : (x : Variable) → variable_before x x ≡ false
variable_before-irreflexive x =
    or-false (nat_lt x.level x.level) (x.level == x.level && cells_before x.tile x.tile) (le-ltb x.level x.level (omega arith)) (and-irreflexive (x.level == x.level) (cells_before x.tile x.tile) (cells_before-irreflexive x.tile))
