-- Each cell of a pattern's grid is carried to each other by an isometry, where a turn carries the cell of each kind to each kind.
use Rattle.std.proofs.Common.{◌≡◌, ℕ, suc, ◌<◌, ◌≤◌, Bool, true, List, [], ◌∷◌, get_or, length, ℤ, pos, ◌+ℤ◌, ◌-ℤ◌, ◌*ℤ◌, sym, ap, ◌∙◌, arith, inl, inr}
use Rattle.std.specs.List.{list_any, list_all}
use Rattle.std.proofs.lemmas.Int.{ints}
use Rattle.std.proofs.lemmas.Bool.{or_cases, true≢false}
use Rattle.heesch_grid.specs.declared.Cell.{Cell}
use Rattle.heesch_grid.specs.declared.isometries.Iso.{Iso}
use Rattle.heesch_grid.specs.Geometry.{IsIsometry, apply}
use Rattle.heesch_grid.specs.Pattern.{Pattern, kind_of, congruent, grid_of, turned, identity}
use Rattle.heesch_grid.specs.Vectors.{minus, plus, times}
use Rattle.heesch_grid.specs.Pairs.{Cell-eta, turned_add, turned_times}
use Rattle.heesch_grid.specs.KindLemmas.{kind_found, moved_from}
use Rattle.heesch_grid.specs.Integers.{mul_sub}

-- whether a turn carries the cell o to one that is congruent to r
abbrev pub turns_to : Pattern → Cell → Cell → Bool
turns_to p o r = list_any (λ t. congruent p.unit (turned t o) r) p.turns

-- whether a turn carries the cell of each kind to each kind
abbrev pub kinds_alike : Pattern → Bool
kinds_alike p = list_all (λ k. list_all (λ l. turns_to p k.cell l.cell) p.kinds) p.kinds

-- the place of an item that passes
place_of : {X : Type 0} (t : X → Bool) (xs : List X) (d : X) → list_any t xs ≡ true → (i : ℕ) × (i < length xs) × (t (get_or xs i d) ≡ true)
place_of t [] d h = absurd (true≢false (sym h))
place_of t (x ∷ xs) d h =
    elim (or_cases (t x) (list_any t xs) h) [
      | inl e ↦ (0, omega arith, e)
      | inr o ↦ let r = place_of t xs d o in (suc r.0, omega (arith, r.1), r.2)
    ]

-- one coordinate of a cell that is turned and then moved
moved_to : (n : ℕ) (z x o q y r s : ℤ) → z ≡ (o +ℤ (pos n *ℤ q)) → o ≡ (r +ℤ (pos n *ℤ s)) → x ≡ (r +ℤ (pos n *ℤ y)) → (z +ℤ (pos n *ℤ ((y -ℤ s) -ℤ q))) ≡ x
moved_to n z x o q y r s e f g =
    omega (arith, ints, e, f, g, mul_sub (pos n) (y -ℤ s) q, mul_sub (pos n) y s)

pub alike : (p : Pattern) → 1 ≤ p.unit → kinds_alike p ≡ true → (c d : Cell) → (grid_of p).is_cell c ≡ true → (grid_of p).is_cell d ≡ true → (by : Iso) × IsIsometry (grid_of p) by × (apply (grid_of p) by c ≡ d)
alike p low test c d c_in d_in =
    let n = p.unit in
    let k = kind_of n p.kinds c in
    let l = kind_of n p.kinds d in
    let first = kind_found n (λ k. list_all (λ l. turns_to p k.cell l.cell) p.kinds) p.kinds c test c_in in
    let second = kind_found n (λ l. turns_to p k.cell l.cell) p.kinds d first.0 d_in in
    let place = place_of (λ t. congruent n (turned t k.cell) l.cell) p.turns identity second.0 in
    let t = get_or p.turns place.0 identity in
    let q = moved_from n c k.cell low first.1 in
    let y = moved_from n d l.cell low second.1 in
    let s = moved_from n (turned t k.cell) l.cell low place.2 in
    let e : turned t c ≡ plus (turned t k.cell) (times n (turned t q.0)) =
    ap (turned t) q.1 ∙ turned_add t k.cell (times n q.0) ∙ ap (plus (turned t k.cell)) (turned_times t q.0 n) in
    let move : Cell = minus (minus y.0 s.0) (turned t q.0) in
    let by : Iso = record { turn = place.0; da = move.a; db = move.b } in (
      by,
      place.1,
      Cell-eta (apply (grid_of p) by c) d
          (moved_to n (turned t c).a d.a (turned t k.cell).a (turned t q.0).a y.0.a l.cell.a s.0.a (ap (λ z. z.a) e) (ap (λ z. z.a) s.1) (ap (λ z. z.a) y.1))
          (moved_to n (turned t c).b d.b (turned t k.cell).b (turned t q.0).b y.0.b l.cell.b s.0.b (ap (λ z. z.b) e) (ap (λ z. z.b) s.1) (ap (λ z. z.b) y.1)),
    )
