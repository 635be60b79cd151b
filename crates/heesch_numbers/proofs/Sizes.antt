-- How many literals the clauses of families 1 to 3 have.
use Rattle.std.proofs.Common.{◌≡◌, refl, sym, ap, ◌∙◌, ℕ, ◌+◌, ◌-◌, ◌≤◌, List, [], ◌∷◌, filter, length, Bool, true, false, cond, not, ◌&&◌, inl, inr, arith, Contains, filter_map, ltb-true, ne_eqb, eq-eqb, eqb-true}
use Rattle.std.specs.Prelude.{IsTrue, Some, None, Option, nat_lt, nat_le, ◌==◌}
use Rattle.std.specs.List.{enumerate_from, cons_option}
use Rattle.std.proofs.lemmas.Bool.{and_left, and_right}
use Rattle.std.proofs.lemmas.List.{length-map}
use Rattle.std.proofs.lemmas.List.FromFn.{length-enumerate_from}
use Rattle.std.proofs.lemmas.List.Elements.{All-contains}
use Rattle.heesch_cnf.specs.declared.literal.Lit.{Lit}
use Rattle.heesch_grid.specs.declared.Cell.{Cell}
use Rattle.heesch_grid.specs.Listing.{IsRising}
use Rattle.heesch_grid.specs.Cells.{has}
use Rattle.heesch_grid.specs.Geometry.{Geometry}
use Rattle.heesch_grid.specs.Placement.{touch}
use Rattle.heesch_grid.specs.Integers.{same_truth}
use Rattle.heesch_grid.specs.Clauses.{clause_of, formula_size, is_numbered, no_variable}
use Rattle.heesch_grid.specs.CoronaFormula.{Variable, IsNumbered, covers}
use Rattle.heesch_grid.proofs.ListFacts.{member_cases, member_here, member_there, no_member}
use Rattle.heesch_grid.proofs.ClauseFacts.{entry_made, entries_rising}
use Rattle.heesch_cert.specs.Literals.{literals}
use Rattle.heesch_place.specs.Universes.{covering}
use Rattle.heesch_encode.specs.Meeting.{numbers_of, supporting}
use Rattle.heesch_encode.specs.Families.{support_at}
use Rattle.heesch_encode.proofs.ClauseLists.{choice_is}
use Rattle.heesch_encode.proofs.Pieces.{covering_piece, support_is}
use Rattle.heesch_numbers.proofs.Rooms.{size_one}

abbrev Entry : Type 0
Entry = ℕ × Variable

module _ (n : ℕ) (p : Entry → Bool) where
  abbrev lit_for : Entry → Option Lit
  lit_for x = cond (x.0 == n) (Some (literals.minus x.0)) (cond (p x) (Some (literals.plus x.0)) None)

  passed : (x : Entry) (ls : List Lit) (xs : List Entry) (m : ℕ) → (b c : Bool) → b ≡ false → length ls ≡ m + length xs → length (cons_option (cond b (Some (literals.minus x.0)) (cond c (Some (literals.plus x.0)) None)) ls) ≡ m + length (cond c (x ∷ xs) xs)
  passed x ls xs m true c e h = absurd (let bad : true ≡ false = e in cc)
  passed x ls xs m false true e h = omega (arith, h)
  passed x ls xs m false false e h = h

  size_without : (xs : List Entry) → ((x : Entry) → Contains xs x → (x.0 == n) ≡ false) → length (filter_map lit_for xs) ≡ 0 + length (filter p xs)
  size_without [] h = refl
  size_without (x ∷ xs) h = passed x (filter_map lit_for xs) (filter p xs) 0 (x.0 == n) (p x) (h x (member_here x xs)) (size_without xs (λ y m. h y (member_there x xs y m)))

  negated_first : (x : Entry) (ls : List Lit) (xs : List Entry) → (b c : Bool) → b ≡ true → c ≡ false → length ls ≡ 0 + length xs → length (cons_option (cond b (Some (literals.minus x.0)) (cond c (Some (literals.plus x.0)) None)) ls) ≡ 1 + length (cond c (x ∷ xs) xs)
  negated_first x ls xs true true e f h = absurd (let bad : true ≡ false = f in cc)
  negated_first x ls xs false c e f h = absurd (let bad : false ≡ true = e in cc)
  negated_first x ls xs true false e f h = omega (arith, h)

  size_with : (xs : List Entry) (v : Variable) → IsRising (λ (x y : Entry). nat_lt x.0 y.0) xs → Contains xs (n, v) → p (n, v) ≡ false → length (filter_map lit_for xs) ≡ 1 + length (filter p xs)
  size_with [] v r m off = absurd (no_member (n, v) m)
  size_with (x ∷ xs) v r m off =
      elim (member_cases x xs (n, v) m) [
        | inl e ↦
            let number : x.0 ≡ n = ap (λ (z : Entry). z.0) e in
            negated_first x (filter_map lit_for xs) (filter p xs) (x.0 == n) (p x) (eq-eqb x.0 n number) (ap p e ∙ off)
            (size_without xs (λ y k. let less = ltb-true x.0 y.0 (All-contains (λ (y : Entry). IsTrue (nat_lt x.0 y.0)) xs y r.0 k) in ne_eqb y.0 n (λ s. omega (arith, less, number, s))))
        | inr k ↦
            let less = ltb-true x.0 n (All-contains (λ (y : Entry). IsTrue (nat_lt x.0 y.0)) xs (n, v) r.0 k) in
            passed x (filter_map lit_for xs) (filter p xs) 1 (x.0 == n) (p x) (ne_eqb x.0 n (λ s. omega (arith, less, s))) (size_with xs v r.1 k off)
      ]

pub choice_size : (vars : List Variable) (c : Cell) → length (clause_of literals no_variable (covers 1 c) vars) ≡ length (covering vars 1 c)
choice_size vars c = ap length (sym (choice_is vars (covers 1 c))) ∙ length-map (covering vars 1 c) literals.plus

pub implication_size : (vars : List Variable) (p : Entry → Bool) (n : ℕ) (v : Variable) → IsNumbered vars n v → p (n, v) ≡ false → length (clause_of literals (is_numbered n) p vars) ≡ 1 + length (numbers_of (filter p (enumerate_from 1 vars)))
implication_size vars p n v number off =
    let long = length-map (filter p (enumerate_from 1 vars)) (λ (x : Entry). x.0) in
    let size = size_with n p (enumerate_from 1 vars) v (entries_rising vars 1) (entry_made vars n v number) off in
    omega (arith, long, size)

-- ---- the clauses of a variable

module _ (vars : List Variable) (n : ℕ) (v : Variable) (number : IsNumbered vars n v) where
  -- family 2: of a cell around its tile, in the shape or outside
  pub covering_none : (shape : List Cell) (level : ℕ) (c : Cell) → has shape c ≡ true → formula_size (covering_piece shape vars n level c) ≡ 0
  covering_none shape level c t = ap (λ b. formula_size (cond (not b) (clause_of literals (is_numbered n) (covers (level + 1) c) vars ∷ []) [])) t

  pub covering_one : (shape : List Cell) (level : ℕ) (c : Cell) → has shape c ≡ false → has v.tile c ≡ false → formula_size (covering_piece shape vars n level c) ≡ length (covering vars (level + 1) c) + 1
  covering_one shape level c f out =
      let one = ap (λ b. formula_size (cond (not b) (clause_of literals (is_numbered n) (covers (level + 1) c) vars ∷ []) [])) f in
      let size = size_one (clause_of literals (is_numbered n) (covers (level + 1) c) vars) in
      let all = implication_size vars (covers (level + 1) c) n v number (and_right (nat_le v.level (level + 1)) (has v.tile c) out) in
      omega (arith, one, size, all)

  -- family 3
  pub support_one : (g : Geometry) (of : ℕ) (tile : List Cell) → of ≡ v.level → 2 ≤ of → tile ≡ v.tile → formula_size (support_at g vars (n, v)) ≡ length (supporting g vars (of - 1) tile) + 1
  support_one g of tile at two is =
      let clause : List Lit = clause_of literals (is_numbered n) (λ y. (y.1.level + 1 == v.level) && touch g y.1.tile v.tile) vars in
      let one = ap formula_size (sym (support_is g vars n of v at two)) in
      let size = size_one clause in
      let all = implication_size vars (λ y. (y.1.level + 1 == v.level) && touch g y.1.tile v.tile) n v number (and_left (v.level + 1 == v.level) (touch g v.tile v.tile) (ne_eqb (v.level + 1) v.level (λ e. omega arith))) in
      let at_back = sym at in
      let is_back = sym is in
      let same : numbers_of (filter (λ (y : Entry). (y.1.level + 1 == v.level) && touch g y.1.tile v.tile) (enumerate_from 1 vars)) ≡ supporting g vars (of - 1) tile =
      (λ i. numbers_of (filter (λ (y : Entry). (y.1.level + 1 == at_back i) && touch g y.1.tile (is_back i)) (enumerate_from 1 vars)))
      ∙ sym (λ i. numbers_of (filter (λ (y : Entry). one_below y.1.level of two i && touch g y.1.tile tile) (enumerate_from 1 vars)))
      in
      let long = ap length same in
      omega (arith, one, size, all, long)
    where
      one_below : (l of : ℕ) → 2 ≤ of → (l == of - 1) ≡ (l + 1 == of)
      one_below l of two = same_truth (l == of - 1) (l + 1 == of) (λ t. let e = eqb-true l (of - 1) t in eq-eqb (l + 1) of (omega arith)) (λ t. let e = eqb-true (l + 1) of t in eq-eqb l (of - 1) (omega arith))

kept_few : (p : Entry → Bool) (xs : List Entry) → length (filter p xs) ≤ length xs
kept_few p [] = omega arith
kept_few p (x ∷ xs) = let r = kept_few p xs in elim (p x) as (λ b. length (cond b (x ∷ filter p xs) (filter p xs)) ≤ length (x ∷ xs)) [ true ↦ omega (arith, r) | false ↦ omega (arith, r) ]

-- no more support a tile than there are
pub supporting_few : (g : Geometry) (vars : List Variable) (level : ℕ) (tile : List Cell) → length (supporting g vars level tile) ≤ length vars
supporting_few g vars level tile =
    let test = λ (x : Entry). x.1.level == level && touch g x.1.tile tile in
    let few = kept_few test (enumerate_from 1 vars) in
    let same = length-map (filter test (enumerate_from 1 vars)) (λ (x : Entry). x.0) in
    let long = length-enumerate_from 1 vars in
    omega (arith, few, same, long)
