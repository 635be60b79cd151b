-- Numbers of variables: those that exist, and those that cover a cell.
use Rattle.std.proofs.Common.{◌≡◌, refl, sym, ap, subst, ◌∙◌, ℕ, zero, suc, ◌-◌, ◌<◌, ◌≤◌, true, ◌&&◌, List, [], ◌∷◌, length, filter, All, Contains, Some, None, arith, eq-eqb, eqb-true}
use Rattle.std.specs.Prelude.{nat_eq, nat_le, unwrap_or}
use Rattle.std.specs.List.{enumerate_from, slice_get}
use Rattle.heesch_grid.specs.declared.Cell.{Cell}
use Rattle.heesch_grid.specs.Cells.{has}
use Rattle.heesch_grid.specs.Integers.{same_truth}
use Rattle.heesch_grid.specs.CoronaFormula.{Variable, covers, IsNumbered}
use Rattle.heesch_grid.proofs.ListFacts.{member_filter, filter_member, All-from_members, any_member, member_any}
use Rattle.heesch_grid.proofs.ClauseFacts.{entry_at, entry_same}
use Rattle.heesch_grid.proofs.WindowFacts.{member_map, map_member}
use Rattle.heesch_place.specs.Universes.{covering}
use Rattle.heesch_cuts.specs.Marks.{is_in}

abbrev pub Entry : Type 0
Entry = ℕ × Variable

-- ---- numbers

module _ {X : Type 0} where
  pub get_below : (xs : List X) (k : ℕ) (x : X) → slice_get xs k ≡ Some x → k < length xs
  get_below [] k x e = absurd (let n : None ≡ Some x = e in cc)
  get_below (y ∷ ys) zero x e = omega arith
  get_below (y ∷ ys) (suc k) x e = let l = get_below ys k x e in omega arith

  pub get_at : (xs : List X) (k : ℕ) → k < length xs → (x : X) × (slice_get xs k ≡ Some x)
  get_at [] k l = absurd (omega arith)
  get_at (y ∷ ys) zero l = (y, refl)
  get_at (y ∷ ys) (suc k) l = get_at ys k (omega arith)

-- each number from 1 to the count has a variable, and only these
pub numbered : (vars : List Variable) (n : ℕ) → 1 ≤ n → n ≤ length vars → (x : Variable) × IsNumbered vars n x
numbered vars n low high = let r = get_at vars (n - 1) (omega arith) in (r.0, (low, r.1))

pub number_range : (vars : List Variable) (n : ℕ) (x : Variable) → IsNumbered vars n x → (1 ≤ n) × (n ≤ length vars)
number_range vars n x h = let l = get_below vars (n - 1) x h.1 in let low = h.0 in (low, omega arith)

-- a number has one variable
pub number_same : (vars : List Variable) (n : ℕ) (x y : Variable) → IsNumbered vars n x → IsNumbered vars n y → x ≡ y
number_same vars n x y h k = ap (λ o. unwrap_or o x) (sym h.1 ∙ k.1)

-- ---- covering

-- a number that covers the cell is that of a variable that does
pub covering_entry : (vars : List Variable) (k : ℕ) (c : Cell) (n : ℕ) → Contains (covering vars k c) n → (x : Entry) × Contains (enumerate_from 1 vars) x × (x.0 ≡ n) × (covers k c x ≡ true)
covering_entry vars k c n m =
    let r : (x : Entry) × Contains (filter (covers k c) (enumerate_from 1 vars)) x × (x.0 ≡ n) = map_member (λ (x : Entry). x.0) (filter (covers k c) (enumerate_from 1 vars)) n m in
    let f = filter_member (covers k c) (enumerate_from 1 vars) r.0 r.1 in
    (r.0, f.0, r.2, f.1)

pub entry_covering : (vars : List Variable) (k : ℕ) (c : Cell) (x : Entry) → Contains (enumerate_from 1 vars) x → covers k c x ≡ true → Contains (covering vars k c) x.0
entry_covering vars k c x m t = member_map (λ (x : Entry). x.0) (filter (covers k c) (enumerate_from 1 vars)) x (member_filter (covers k c) (enumerate_from 1 vars) x m t)

pub covering_range : (vars : List Variable) (k : ℕ) (c : Cell) → All (λ n. (1 ≤ n) × (n ≤ length vars)) (covering vars k c)
covering_range vars k c =
    All-from_members (λ n. (1 ≤ n) × (n ≤ length vars)) (covering vars k c)
    (λ n m. let r = covering_entry vars k c n m in let a = entry_at vars 1 r.0 r.1 in subst (λ j. (1 ≤ j) × (j ≤ length vars)) r.2 (number_range vars r.0.0 r.0.1 a))

pub covering_below : (vars : List Variable) (k : ℕ) (c : Cell) (count : ℕ) → length vars < count → All (λ n. n < count) (covering vars k c)
covering_below vars k c count room i d l = let h = covering_range vars k c i d l in let high = h.1 in omega arith

-- whether an entry's number covers the cell
pub covering_is : (vars : List Variable) (k : ℕ) (c : Cell) (x : Entry) → Contains (enumerate_from 1 vars) x → is_in (covering vars k c) x.0 ≡ covers k c x
covering_is vars k c x m =
    same_truth (is_in (covering vars k c) x.0) (covers k c x)
    (λ t. let r = any_member (nat_eq x.0) (covering vars k c) t in let y = covering_entry vars k c r.0 r.1 in covers_same y.0 (y.2 ∙ sym (eqb-true x.0 r.0 r.2)) y.1 y.3)
    (λ t. member_any (nat_eq x.0) (covering vars k c) x.0 (entry_covering vars k c x m t) (eq-eqb x.0 x.0 refl))
  where
    covers_same : (y : Entry) → y.0 ≡ x.0 → Contains (enumerate_from 1 vars) y → covers k c y ≡ true → covers k c x ≡ true
    covers_same y e n t = ap (λ (v : Variable). nat_le v.level k && has v.tile c) (sym (entry_same vars y x n m e)) ∙ t
