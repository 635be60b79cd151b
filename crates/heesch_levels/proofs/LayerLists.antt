-- The layers of the true variables, and their order.
use Rattle.std.proofs.Common.{◌≡◌, refl, sym, ap, subst, ◌∙◌, ℕ, ◌+◌, ◌-◌, ◌<◌, List, [], ◌∷◌, ◌++◌, length, take, Bool, true, false, cond, ◌&&◌, map, filter, inl, inr, arith, All, eqb-true, eq-eqb, ltb-true, append-nil}
use Rattle.std.proofs.lemmas.List.{map-append, take_more, length-take}
use Rattle.std.specs.Prelude.{IsTrue, Some, nat_lt, ◌==◌}
use Rattle.std.specs.List.{enumerate_from, range_with_len, AllZip, slice_get}
use Rattle.std.proofs.lemmas.Option.{slice_get_cases}
use Rattle.std.proofs.lemmas.Slice.Zip.{all_zipped_more}
use Rattle.std.proofs.lemmas.List.Elements.{All-contains, filter-append}
use Rattle.std.proofs.lemmas.Bool.{and_parts, and_from, or_cases}
use Rattle.heesch_grid.specs.declared.Cell.{Cell}
use Rattle.heesch_grid.specs.Cells.{cells_before}
use Rattle.heesch_grid.specs.Listing.{IsRising}
use Rattle.heesch_grid.specs.CoronaFormula.{Variable, variable_before, IsNumbered}
use Rattle.heesch_grid.specs.Statements.{chosen_layer, chosen_layers}
use Rattle.heesch_grid.proofs.ListFacts.{All-from_members, filter_member}
use Rattle.heesch_grid.proofs.ClauseFacts.{entry_variable}
use Rattle.heesch_grid.proofs.WindowFacts.{map_member}

enumerate_append : {X : Type 0} (n : ℕ) (xs ys : List X) → enumerate_from n (xs ++ ys) ≡ enumerate_from n xs ++ enumerate_from (n + length xs) ys
enumerate_append n [] ys = ap (λ k. enumerate_from k ys) (let e : n ≡ n + 0 = omega arith in e)
enumerate_append n (x ∷ xs) ys =
    ap (λ es. (n, x) ∷ es) (enumerate_append (n + 1) xs ys ∙ ap (λ k. enumerate_from (n + 1) xs ++ enumerate_from k ys) (let e : n + 1 + length xs ≡ n + length (x ∷ xs) = omega arith in e))

-- whether the variable of a number is a true one of the level
abbrev pub is_chosen : (ℕ → Bool) → ℕ → ℕ × Variable → Bool
is_chosen values k x = (x.1.level == k) && values x.0

-- one variable more in the layer
pub chosen_more : (values : ℕ → Bool) (k : ℕ) (vars : List Variable) (x : Variable) → is_chosen values k (1 + length vars, x) ≡ true → chosen_layer values (vars ++ x ∷ []) k ≡ chosen_layer values vars k ++ x.tile ∷ []
chosen_more values k vars x t =
    ap (λ es. map (λ (y : ℕ × Variable). y.1.tile) (filter (is_chosen values k) es)) (enumerate_append 1 vars (x ∷ []))
    ∙ ap (map (λ (y : ℕ × Variable). y.1.tile)) (filter-append (is_chosen values k) (enumerate_from 1 vars) ((1 + length vars, x) ∷ []))
    ∙ map-append (λ (y : ℕ × Variable). y.1.tile) (filter (is_chosen values k) (enumerate_from 1 vars)) (filter (is_chosen values k) ((1 + length vars, x) ∷ []))
    ∙ ap (λ b. chosen_layer values vars k ++ map (λ (y : ℕ × Variable). y.1.tile) (cond b ((1 + length vars, x) ∷ []) [])) t

-- no variable more
pub chosen_same : (values : ℕ → Bool) (k : ℕ) (vars : List Variable) (x : Variable) → is_chosen values k (1 + length vars, x) ≡ false → chosen_layer values (vars ++ x ∷ []) k ≡ chosen_layer values vars k
chosen_same values k vars x f =
    ap (λ es. map (λ (y : ℕ × Variable). y.1.tile) (filter (is_chosen values k) es)) (enumerate_append 1 vars (x ∷ []))
    ∙ ap (map (λ (y : ℕ × Variable). y.1.tile)) (filter-append (is_chosen values k) (enumerate_from 1 vars) ((1 + length vars, x) ∷ []))
    ∙ ap (λ b. map (λ (y : ℕ × Variable). y.1.tile) (filter (is_chosen values k) (enumerate_from 1 vars) ++ cond b ((1 + length vars, x) ∷ []) [])) f
    ∙ ap (map (λ (y : ℕ × Variable). y.1.tile)) (append-nil (filter (is_chosen values k) (enumerate_from 1 vars)))

-- ---- the tiles of a layer rise

same_level : (x y : Variable) (k : ℕ) → x.level ≡ k → y.level ≡ k → variable_before x y ≡ true → cells_before x.tile y.tile ≡ true
same_level x y k a b t =
    elim (or_cases (nat_lt x.level y.level) ((x.level == y.level) && cells_before x.tile y.tile) t) [
      | inl l ↦ let less = ltb-true x.level y.level l in absurd (omega arith)
      | inr r ↦ (and_parts (x.level == y.level) (cells_before x.tile y.tile) r).1
    ]

chosen_level : (values : ℕ → Bool) (k : ℕ) (x : ℕ × Variable) → is_chosen values k x ≡ true → x.1.level ≡ k
chosen_level values k x t = eqb-true x.1.level k (and_parts (x.1.level == k) (values x.0) t).0

abbrev tiles_from : (ℕ → Bool) → ℕ → ℕ → List Variable → List (List Cell)
tiles_from values k n vars = map (λ (x : ℕ × Variable). x.1.tile) (filter (is_chosen values k) (enumerate_from n vars))

-- the tiles of a level after a variable of it come after its own
tiles_after : (values : ℕ → Bool) (k n : ℕ) (v : Variable) (vars : List Variable) → v.level ≡ k → All (λ y. IsTrue (variable_before v y)) vars → All (λ tile. IsTrue (cells_before v.tile tile)) (tiles_from values k n vars)
tiles_after values k n v vars here after = All-from_members (λ tile. IsTrue (cells_before v.tile tile)) (tiles_from values k n vars) (λ tile m.
    let found = map_member (λ (x : ℕ × Variable). x.1.tile) (filter (is_chosen values k) (enumerate_from n vars)) tile m in
    let passes = filter_member (is_chosen values k) (enumerate_from n vars) found.0 found.1 in
    let later = All-contains (λ y. IsTrue (variable_before v y)) vars found.0.1 after (entry_variable vars n found.0 passes.0) in
    subst (λ t. IsTrue (cells_before v.tile t)) found.2 (same_level v found.0.1 k here (chosen_level values k found.0 passes.1) later))

one_rises : (b : Bool) (tile : List Cell) (tiles : List (List Cell)) → (b ≡ true → All (λ t. IsTrue (cells_before tile t)) tiles) → IsRising cells_before tiles → IsRising cells_before (cond b (tile ∷ tiles) tiles)
one_rises true tile tiles after r = (after refl, r)
one_rises false tile tiles after r = r

tiles_cond : (b : Bool) (x : ℕ × Variable) (xs : List (ℕ × Variable)) → map (λ (y : ℕ × Variable). y.1.tile) (cond b (x ∷ xs) xs) ≡ cond b (x.1.tile ∷ map (λ (y : ℕ × Variable). y.1.tile) xs) (map (λ (y : ℕ × Variable). y.1.tile) xs)
tiles_cond true x xs = refl
tiles_cond false x xs = refl

tiles_rise : (values : ℕ → Bool) (k n : ℕ) (vars : List Variable) → IsRising variable_before vars → IsRising cells_before (tiles_from values k n vars)
tiles_rise values k n [] r = tt
tiles_rise values k n (v ∷ vars) r =
    subst (IsRising cells_before) (sym (tiles_cond (is_chosen values k (n, v)) (n, v) (filter (is_chosen values k) (enumerate_from (n + 1) vars))))
    (one_rises (is_chosen values k (n, v)) v.tile (tiles_from values k (n + 1) vars) (λ t. tiles_after values k (n + 1) v vars (chosen_level values k (n, v) t) r.0) (tiles_rise values k (n + 1) vars r.1))

-- the tiles of each layer rise
pub layers_rise : (values : ℕ → Bool) (vars : List Variable) (j : ℕ) → IsRising variable_before vars → All (IsRising cells_before) (chosen_layers values vars j)
layers_rise values vars j r =
    All-from_members (IsRising cells_before) (chosen_layers values vars j) (λ layer m.
    let found = map_member (chosen_layer values vars) (range_with_len 1 j) layer m in
    subst (IsRising cells_before) found.2 (tiles_rise values found.0 1 vars r))

-- ---- one variable after the other

-- the variable at a place, which the first ones up to it end with
pub record IsVariableAt (vars : List Variable) (i : ℕ) : Type 0 where
  pub variable : Variable
  pub numbered : IsNumbered vars (i + 1) variable
  pub more : take (i + 1) vars ≡ take i vars ++ variable ∷ []

pub variable_at : (vars : List Variable) (i : ℕ) → i < length vars → IsVariableAt vars i
variable_at vars i low =
    elim (slice_get_cases vars i).1 [
      | inl f ↦ record {
        variable = f.0;
        numbered = (omega arith, subst (λ n. slice_get vars n ≡ Some f.0) (let e : i ≡ i + 1 - 1 = omega arith in e) f.2);
        more = take_more vars i f.0 low ∙ ap (λ x. take i vars ++ x ∷ []) f.3;
      }
      | inr none ↦ absurd (let past = none.0 in omega arith)
    ]

module _ {I : Type 0} (R : I → List Cell → Type 0) (values : ℕ → Bool) (k : ℕ) (vars : List Variable) (i : ℕ) (low : i < length vars) where
  number_is : 1 + length (take i vars) ≡ i + 1
  number_is = omega (arith, length-take i vars)

  pub zip_chosen : (x : IsVariableAt vars i) (layer : List I) (by : I) → AllZip R layer (chosen_layer values (take i vars) k) → x.variable.level ≡ k → values (i + 1) ≡ true → R by x.variable.tile → AllZip R (layer ++ by ∷ []) (chosen_layer values (take (i + 1) vars) k)
  zip_chosen x layer by zip level true_value r =
      let chosen : is_chosen values k (1 + length (take i vars), x.variable) ≡ true = and_from (x.variable.level == k) (values (1 + length (take i vars))) (eq-eqb x.variable.level k level) (ap values number_is ∙ true_value) in
      subst (λ tiles. AllZip R (layer ++ by ∷ []) tiles) (sym (ap (λ vs. chosen_layer values vs k) x.more ∙ chosen_more values k (take i vars) x.variable chosen))
      (all_zipped_more R layer (chosen_layer values (take i vars) k) by x.variable.tile zip r)

  pub zip_same : (x : IsVariableAt vars i) (layer : List I) → AllZip R layer (chosen_layer values (take i vars) k) → ((x.variable.level == k) && values (i + 1)) ≡ false → AllZip R layer (chosen_layer values (take (i + 1) vars) k)
  zip_same x layer zip not_chosen =
      let f : is_chosen values k (1 + length (take i vars), x.variable) ≡ false = ap (λ n. (x.variable.level == k) && values n) number_is ∙ not_chosen in
      subst (λ tiles. AllZip R layer tiles) (sym (ap (λ vs. chosen_layer values vs k) x.more ∙ chosen_same values k (take i vars) x.variable f)) zip
