-- The places of a model of the torus formula are a periodic cover.
use Rattle.std.proofs.Common.{◌≡◌, refl, sym, ap, subst, ◌∙◌, ℕ, ◌+◌, ◌-◌, ◌<◌, ◌≤◌, List, [], ◌∷◌, ◌++◌, map, filter, length, Bool, true, false, cond, ◌||◌, ◌&&◌, inl, inr, arith, All, Contains, true≢false, lt-ltb, ltb-true, eqb-true}
use Rattle.std.specs.Prelude.{IsTrue, nat_lt, slice_index_or}
use Rattle.std.specs.List.{AllZip, enumerate_from}
use Rattle.std.proofs.lemmas.Bool.{and_from, or_cases, cases_Bool, cases_order}
use Rattle.std.proofs.lemmas.List.{map-append}
use Rattle.std.proofs.lemmas.List.Elements.{All-contains, Contains-append_left, Contains-append_right}
use Rattle.heesch_cnf.specs.declared.literal.Lit.{Lit}
use Rattle.heesch_grid.specs.declared.Cell.{Cell}
use Rattle.heesch_grid.specs.declared.isometries.Iso.{Iso}
use Rattle.heesch_grid.specs.Listing.{IsRising, ListsExactly}
use Rattle.heesch_grid.specs.Cells.{same_cell, cell_before, cells_before, has, meet}
use Rattle.heesch_grid.specs.Clauses.{clause_holds, clause_of, Satisfies, no_variable, is_numbered}
use Rattle.heesch_grid.specs.CoronaFormula.{exclusion_clauses}
use Rattle.heesch_grid.specs.Geometry.{Geometry, IsGrid, IsIsometry, image}
use Rattle.heesch_grid.specs.Lattice.{Triple, IsTriple, IsReduced}
use Rattle.heesch_grid.specs.Polyform.{IsPolyform}
use Rattle.heesch_grid.specs.Tiling.{IsPeriodicCover}
use Rattle.heesch_grid.specs.TorusFormula.{IsReducedFrom, GivesResidues, IsWithinTriple, IsIsometryOf, torus_clauses}
use Rattle.heesch_grid.specs.Pairs.{has-true, same_cell-true}
use Rattle.heesch_grid.proofs.ListFacts.{member_cases, member_here, member_there, no_member, All-from_members, filter_member, member_filter, rising_filter}
use Rattle.heesch_grid.proofs.CellFacts.{has-false, meet-is}
use Rattle.heesch_grid.proofs.ClauseFacts.{reason, entries_rising}
use Rattle.heesch_grid.proofs.WindowFacts.{map_member, member_map, member_flat_map}
use Rattle.heesch_tiling.specs.Counting.{residue, tile_cells, tile_residues, residues, times_in}
use Rattle.heesch_tiling.proofs.Areas.{fills, times_some}
use Rattle.heesch_tiling.proofs.Covers.{covers}
use Rattle.heesch_tiling.proofs.Tallies.{times_append}
use Rattle.heesch_cnf.specs.Clauses.{assignment_of}
use Rattle.heesch_cnf.specs.Clauses.{Satisfies as LogSatisfies}
use Rattle.heesch_cert.specs.Literals.{literals}
use Rattle.heesch_cert.proofs.Bridge.{log_satisfied}
use Rattle.heesch_torus.specs.Formula.{reduced_cells}
use Rattle.heesch_torus.specs.Answer.{AreChosenPlaces, IsChosenCover}
use Rattle.heesch_torus.specs.Chosen.{chosen, chosen_places, chosen_tiling}
use Rattle.heesch_torus.specs.Variables.{TorusVariable, sets_of, HasIsometry, AreVariables}
use Rattle.heesch_torus.proofs.Repeating.{Shorter, fits}
use Rattle.heesch_torus.proofs.Images.{in_grid, from_tile, in_tile, tile_count}
use Rattle.heesch_torus.proofs.Numbering.{rising_map, reduced_listed}

abbrev pub Entry : Type 0
Entry = ℕ × List Cell

abbrev pub Numbered : Type 0
Numbered = ℕ × TorusVariable

-- ---- how often a residue set's cell stands among the residues of its tile

pub times_member : (xs : List Cell) (c : Cell) → 1 ≤ times_in xs c → Contains xs c
times_member [] c l = absurd (omega arith)
times_member (x ∷ xs) c l = by_test (times_member xs c) (same_cell c x) refl l
  where
    by_test : (1 ≤ times_in xs c → Contains xs c) → (b : Bool) → same_cell c x ≡ b → 1 ≤ length (cond b (x ∷ filter (same_cell c) xs) (filter (same_cell c) xs)) → Contains (x ∷ xs) c
    by_test later true t l = subst (λ z. Contains (x ∷ xs) z) (sym (same_cell-true c x t)) (member_here x xs)
    by_test later false t l = member_there x xs c (later l)

-- what stands twice leaves a shorter list with the same members
shorter_from_two : (xs : List Cell) (c : Cell) → 2 ≤ times_in xs c → Shorter xs
shorter_from_two [] c l = absurd (omega arith)
shorter_from_two (x ∷ xs) c l = by_test (shorter_from_two xs c) (same_cell c x) refl l
  where
    by_test : (2 ≤ times_in xs c → Shorter xs) → (b : Bool) → same_cell c x ≡ b → 2 ≤ length (cond b (x ∷ filter (same_cell c) xs) (filter (same_cell c) xs)) → Shorter (x ∷ xs)
    by_test later true t l = record {
      list = xs;
      less = omega arith;
      keeps = λ d m. elim (member_cases x xs d m) [
        | inl e ↦ subst (λ z. Contains xs z) (same_cell-true c x t ∙ e) (times_member xs c (omega arith))
        | inr h ↦ h
      ];
    }
    by_test later false t l =
        let s : Shorter xs = later l in
        record {
          list = x ∷ s.list;
          less = let less = s.less in omega arith;
          keeps = λ d m. elim (member_cases x xs d m) [
            | inl e ↦ subst (λ z. Contains (x ∷ s.list) z) e (member_here x s.list)
            | inr h ↦ member_there x s.list d (s.keeps d h)
          ];
        }

module _ (g : Geometry) (law : IsGrid g) (shape : List Cell) (form : IsPolyform g shape) (t : Triple) (triple : IsTriple t) where
  pub tile_times : (r : List Cell) (by : Iso) → GivesResidues g shape t r by → (c : Cell) → times_in (tile_residues g shape t by) c ≡ length (cond (has r c) (c ∷ []) [])
  tile_times r by k c =
      let turn : IsIsometry g by = k.is_isometry in
      elim (cases_Bool (has r c)) [
        | inl h ↦
            let some = times_some (tile_residues g shape t by) c (in_tile g law shape (in_grid g shape form) t triple by turn c (All-contains (IsReducedFrom g t (image g by shape)) r c k.lists.only (has-true r c h))) in
            elim (cases_order (times_in (tile_residues g shape t by) c) 1) [
              | inl e ↦ e ∙ ap (λ b. length (cond b (c ∷ []) [])) (sym h)
              | inr o ↦ elim o [
                | inl none ↦ absurd (omega arith)
                | inr two ↦
                    let s : Shorter (tile_residues g shape t by) = shorter_from_two (tile_residues g shape t by) c two in
                    let few = fits r s.list k.lists.rising (λ d m. s.keeps d (in_tile g law shape (in_grid g shape form) t triple by turn d (All-contains (IsReducedFrom g t (image g by shape)) r d k.lists.only m))) in
                    let all = k.all_differ in
                    let count = tile_count g law shape (in_grid g shape form) t triple by turn in
                    let less = s.less in
                    absurd (omega arith)
              ]
            ]
        | inr f ↦
            let none : times_in (tile_residues g shape t by) c ≡ 0 = elim (cases_order (times_in (tile_residues g shape t by) c) 0) [
              | inl e ↦ e
              | inr o ↦ elim o [
                | inl less ↦ absurd (omega arith)
                | inr more ↦ absurd (has-false r c f (k.lists.every c (from_tile g law shape (in_grid g shape form) t triple by turn c (times_member (tile_residues g shape t by) c more))))
              ]
            ] in
            none ∙ ap (λ b. length (cond b (c ∷ []) [])) (sym f)
      ]

  abbrev has_cell : Cell → Numbered → Bool
  has_cell c x = has x.1.cells c

  abbrev by_of : Numbered → Iso
  by_of x = x.1.by

  -- the times of all places are as many as variables that have the cell
  all_times : (cs : List Numbered) → ((x : Numbered) → Contains cs x → GivesResidues g shape t x.1.cells x.1.by) → (c : Cell) → times_in (residues g shape t (map by_of cs)) c ≡ length (filter (has_cell c) cs)
  all_times [] h c = refl
  all_times (x ∷ cs) h c =
      let rest = all_times cs (λ y m. h y (member_there x cs y m)) c in
      let first = tile_times x.1.cells x.1.by (h x (member_here x cs)) c in
      let split : residues g shape t (map by_of (x ∷ cs)) ≡ tile_residues g shape t x.1.by ++ residues g shape t (map by_of cs) = map-append (residue g t) (image g x.1.by shape) (tile_cells g shape (map by_of cs)) in
      let both = ap (λ ys. times_in ys c) split ∙ times_append (tile_residues g shape t x.1.by) (residues g shape t (map by_of cs)) c in
      one (has_cell c x) first rest both
    where
      one : (b : Bool) → times_in (tile_residues g shape t x.1.by) c ≡ length (cond b (c ∷ []) []) → times_in (residues g shape t (map by_of cs)) c ≡ length (filter (has_cell c) cs) → times_in (residues g shape t (map by_of (x ∷ cs))) c ≡ times_in (tile_residues g shape t x.1.by) c + times_in (residues g shape t (map by_of cs)) c → times_in (residues g shape t (map by_of (x ∷ cs))) c ≡ length (cond b (x ∷ filter (has_cell c) cs) (filter (has_cell c) cs))
      one true p q r = omega arith
      one false p q r = omega arith

-- ---- what a model chooses

-- the numbered sets of numbered variables
abbrev entry_of : Numbered → Entry
entry_of x = (x.0, x.1.cells)

entries_map : (n : ℕ) (vars : List TorusVariable) → enumerate_from n (sets_of vars) ≡ map entry_of (enumerate_from n vars)
entries_map n [] = refl
entries_map n (x ∷ vars) = ap (λ es. (n, x.cells) ∷ es) (entries_map (n + 1) vars)

to_entry : (vars : List TorusVariable) (x : Numbered) → Contains (enumerate_from 1 vars) x → Contains (enumerate_from 1 (sets_of vars)) (entry_of x)
to_entry vars x m = subst (λ es. Contains es (entry_of x)) (sym (entries_map 1 vars)) (member_map entry_of (enumerate_from 1 vars) x m)

from_entry : (vars : List TorusVariable) (e : Entry) → Contains (enumerate_from 1 (sets_of vars)) e → (x : Numbered) × Contains (enumerate_from 1 vars) x × (entry_of x ≡ e)
from_entry vars e m = map_member entry_of (enumerate_from 1 vars) e (subst (λ es. Contains es e) (entries_map 1 vars) m)

pub of_variable : (n : ℕ) (vars : List TorusVariable) (x : Numbered) → Contains (enumerate_from n vars) x → Contains vars x.1
of_variable n [] x m = absurd (no_member x m)
of_variable n (v ∷ vars) x m =
    elim (member_cases (n, v) (enumerate_from (n + 1) vars) x m) [
      | inl e ↦ subst (λ (y : Numbered). Contains (v ∷ vars) y.1) e (member_here v vars)
      | inr h ↦ member_there v vars x.1 (of_variable (n + 1) vars x h)
    ]

rising_entries : (n : ℕ) (vars : List TorusVariable) → IsRising cells_before (sets_of vars) → IsRising (λ (x y : Numbered). cells_before x.1.cells y.1.cells) (enumerate_from n vars)
rising_entries n [] r = tt
rising_entries n (v ∷ vars) r = (
  All-from_members (λ (y : Numbered). IsTrue (cells_before v.cells y.1.cells)) (enumerate_from (n + 1) vars) (λ y m. All-contains (λ z. IsTrue (cells_before v.cells z)) (sets_of vars) y.1.cells r.0 (member_map (λ (x : TorusVariable). x.cells) vars y.1 (of_variable (n + 1) vars y m))),
  rising_entries (n + 1) vars r.1,
)

-- two entries of a list that has more than one
pub record TwoOf (ys : List Numbered) : Type 0 where
  pub one : Numbered
  pub other : Numbered
  pub first : Contains ys one
  pub second : Contains ys other
  pub less : one.0 < other.0

pub two_of : (ys : List Numbered) → IsRising (λ (x y : Numbered). nat_lt x.0 y.0) ys → 2 ≤ length ys → TwoOf ys
two_of [] r l = absurd (omega arith)
two_of (x ∷ []) r l = absurd (omega arith)
two_of (x ∷ y ∷ ys) r l = record {
  one = x;
  other = y;
  first = member_here x (y ∷ ys);
  second = member_there x (y ∷ ys) y (member_here y ys);
  less = ltb-true x.0 y.0 (All-contains (λ (z : Numbered). IsTrue (nat_lt x.0 z.0)) (y ∷ ys) y r.0 (member_here y ys));
}

pub member_some : {X : Type 0} (xs : List X) (x : X) → Contains xs x → 1 ≤ length xs
member_some [] x m = absurd (no_member x m)
member_some (y ∷ xs) x m = omega arith

module _ (g : Geometry) (law : IsGrid g) (shape : List Cell) (form : IsPolyform g shape) (t : Triple) (triple : IsTriple t) (vars : List TorusVariable) (are : AreVariables g shape t vars) (values : List Bool) (all_cells : List Cell) (listed : ListsExactly cell_before (IsReduced g t) all_cells) where
  abbrev value : ℕ → Bool
  value v = slice_index_or values (v - 1) false

  abbrev sets : List (List Cell)
  sets = sets_of vars

  abbrev is_true : Numbered → Bool
  is_true x = value x.0

  chosen_gives : (x : Numbered) → Contains (chosen values vars) x → HasIsometry g shape t x.1
  chosen_gives x m = All-contains (HasIsometry g shape t) vars x.1 are.isometries (of_variable 1 vars x (filter_member is_true (enumerate_from 1 vars) x m).0)

  -- the chosen variables that have a reduced cell
  abbrev pub with_cell : Cell → List Numbered
  with_cell r = filter (λ (x : Numbered). has x.1.cells r) (chosen values vars)

  -- where each reduced cell is that of one, their places are a cover
  pub once_covers : ((r : Cell) → IsReduced g t r → 1 ≤ length (with_cell r)) → ((r : Cell) → IsReduced g t r → 2 ≤ length (with_cell r) → ⊥) → IsPeriodicCover g shape t (chosen_places values vars)
  once_covers covered not_twice = covers g law shape form t triple (chosen_places values vars) isometries once
    where
      once : (r : Cell) → IsReduced g t r → times_in (residues g shape t (chosen_places values vars)) r ≡ 1
      once r red =
          let times = all_times g law shape form t triple (chosen values vars) (λ x m. (chosen_gives x m).holds.1) r in
          elim (cases_order (length (with_cell r)) 1) [
            | inl e ↦ times ∙ e
            | inr o ↦ elim o [
              | inl none ↦ let some = covered r red in absurd (omega arith)
              | inr two ↦ absurd (not_twice r red two)
            ]
          ]

      isometries : All (IsIsometry g) (chosen_places values vars)
      isometries = All-from_members (IsIsometry g) (chosen_places values vars) (λ by m. let x = map_member (λ (x : Numbered). x.1.by) (chosen values vars) by m in subst (λ b. IsIsometry g b) x.2 (chosen_gives x.0 x.1).holds.1.is_isometry)

  module _ (model : Satisfies literals value (torus_clauses literals all_cells (sets_of vars))) where
    abbrev cover_clauses : List (List Lit)
    cover_clauses = map (λ c. clause_of literals no_variable (λ (x : Entry). has x.1 c) sets) all_cells

    clause_true : (cl : List Lit) → Contains (cover_clauses ++ exclusion_clauses literals meet sets) cl → clause_holds literals value cl ≡ true
    clause_true cl m = All-contains (λ cl. IsTrue (clause_holds literals value cl)) (cover_clauses ++ exclusion_clauses literals meet sets) cl model m

    -- two true variables, the first of a lesser number, share no cell
    apart : (u v : Entry) → Contains (enumerate_from 1 sets) u → Contains (enumerate_from 1 sets) v → u.0 < v.0 → value u.0 ≡ true → value v.0 ≡ true → (r : Cell) → Contains u.1 r → Contains v.1 r → ⊥
    apart u v m n l tu tv r a b =
        let negated : Entry → Bool = λ x. is_numbered u.0 x || is_numbered v.0 x in
        let cl : List Lit = clause_of literals negated no_variable sets in
        let clauses_of : Entry → List (List Lit) = λ u. map (λ (v : Entry). clause_of literals (λ x. is_numbered u.0 x || is_numbered v.0 x) no_variable sets) (filter (λ v. nat_lt u.0 v.0 && meet u.1 v.1) (enumerate_from 1 sets)) in
        let inner : Contains (clauses_of u) cl =
        member_map (λ (v : Entry). clause_of literals (λ x. is_numbered u.0 x || is_numbered v.0 x) no_variable sets) (filter (λ v. nat_lt u.0 v.0 && meet u.1 v.1) (enumerate_from 1 sets)) v
        (member_filter (λ (v : Entry). nat_lt u.0 v.0 && meet u.1 v.1) (enumerate_from 1 sets) v n (and_from (nat_lt u.0 v.0) (meet u.1 v.1) (lt-ltb u.0 v.0 l) (meet-is u.1 v.1 r a b))) in
        let w = reason literals value negated no_variable sets (clause_true cl (Contains-append_right cover_clauses (exclusion_clauses literals meet sets) cl (member_flat_map clauses_of (enumerate_from 1 sets) u cl m inner))) in
        elim w.2 [
          | inr q ↦ true≢false (sym q.0)
          | inl q ↦ elim (or_cases (is_numbered u.0 w.0) (is_numbered v.0 w.0) q.0) [
            | inl h ↦ true≢false (sym tu ∙ ap value (sym (eqb-true w.0.0 u.0 h)) ∙ q.1)
            | inr h ↦ true≢false (sym tv ∙ ap value (sym (eqb-true w.0.0 v.0 h)) ∙ q.1)
          ]
        ]

    covered : (r : Cell) → IsReduced g t r → 1 ≤ length (with_cell r)
    covered r red =
        let cl : List Lit = clause_of literals no_variable (λ (x : Entry). has x.1 r) sets in
        let w = reason literals value no_variable (λ (x : Entry). has x.1 r) sets (clause_true cl (Contains-append_left cover_clauses (exclusion_clauses literals meet sets) cl (member_map (λ c. clause_of literals no_variable (λ (x : Entry). has x.1 c) sets) all_cells r (listed.every r red)))) in
        elim w.2 [
          | inl q ↦ absurd (true≢false (sym q.0))
          | inr q ↦
              let x = from_entry vars w.0 w.1 in
              let t_x : value x.0.0 ≡ true = ap (λ (e : Entry). value e.0) x.2 ∙ q.1 in
              let h_x : has x.0.1.cells r ≡ true = ap (λ (e : Entry). has e.1 r) x.2 ∙ q.0 in
              member_some (with_cell r) x.0 (member_filter (λ (x : Numbered). has x.1.cells r) (chosen values vars) x.0 (member_filter is_true (enumerate_from 1 vars) x.0 x.1 t_x) h_x)
        ]

    not_twice : (r : Cell) → 2 ≤ length (with_cell r) → ⊥
    not_twice r l =
        let order : Numbered → Numbered → Bool = λ (x y : Numbered). nat_lt x.0 y.0 in
        let two : TwoOf (with_cell r) = two_of (with_cell r) (rising_filter order (λ (x : Numbered). has x.1.cells r) (chosen values vars) (rising_filter order is_true (enumerate_from 1 vars) (entries_rising vars 1))) l in
        let a = filter_member (λ (x : Numbered). has x.1.cells r) (chosen values vars) two.one two.first in
        let b = filter_member (λ (x : Numbered). has x.1.cells r) (chosen values vars) two.other two.second in
        let c = filter_member is_true (enumerate_from 1 vars) two.one a.0 in
        let d = filter_member is_true (enumerate_from 1 vars) two.other b.0 in
        apart (entry_of two.one) (entry_of two.other) (to_entry vars two.one c.0) (to_entry vars two.other d.0) two.less c.1 d.1 r (has-true two.one.1.cells r a.1) (has-true two.other.1.cells r b.1)

    pub model_covers : IsPeriodicCover g shape t (chosen_places values vars)
    model_covers = once_covers covered (λ r red l. not_twice r l)

  zipped : (cs : List Numbered) → ((x : Numbered) → Contains cs x → HasIsometry g shape t x.1) → AllZip (IsIsometryOf g shape t) (map (λ (x : Numbered). x.1.cells) cs) (map (λ (x : Numbered). x.1.by) cs)
  zipped [] h = tt
  zipped (x ∷ cs) h = (h x (member_here x cs), zipped cs (λ y m. h y (member_there x cs y m)))

  pub are_chosen : AreChosenPlaces g shape t (chosen_places values vars)
  are_chosen = record {
    sets = map (λ (x : Numbered). x.1.cells) (chosen values vars);
    rising = rising_map (λ (x : Numbered). x.1.cells) cells_before (chosen values vars) (rising_filter (λ (x y : Numbered). cells_before x.1.cells y.1.cells) is_true (enumerate_from 1 vars) (rising_entries 1 vars are.listed.rising));
    isometries = zipped (chosen values vars) chosen_gives;
    within = All-from_members (λ by. IsIsometry g by × IsWithinTriple t by) (chosen_places values vars) (λ by m.
        let x = map_member (λ (x : Numbered). x.1.by) (chosen values vars) by m in
        let h : HasIsometry g shape t x.0.1 = chosen_gives x.0 x.1 in
        subst (λ b. IsIsometry g b × IsWithinTriple t b) x.2 (h.holds.1.is_isometry, h.holds.0));
  }

-- where these places are a periodic cover, the tiling by them is chosen
pub chosen_cover : (g : Geometry) (law : IsGrid g) (shape : List Cell) (form : IsPolyform g shape) (t : Triple) (triple : IsTriple t) (vars : List TorusVariable) (are : AreVariables g shape t vars) (values : List Bool) → IsPeriodicCover g shape t (chosen_places values vars) → IsChosenCover g shape t (chosen_tiling t values vars)
chosen_cover g law shape form t triple vars are values cover = record {
  triple = refl;
  cover = cover;
  count = (fills g law shape form t triple (chosen_places values vars) cover.isometries cover).area;
  chosen = are_chosen g law shape form t triple vars are values (reduced_cells g t) (reduced_listed g t law triple);
}

-- and so of a model in the solver's words
pub tiles_by_model : (g : Geometry) (law : IsGrid g) (shape : List Cell) (form : IsPolyform g shape) (t : Triple) (triple : IsTriple t) (vars : List TorusVariable) (are : AreVariables g shape t vars) (values : List Bool) (clauses : List (List Lit)) → clauses ≡ torus_clauses literals (reduced_cells g t) (sets_of vars) → LogSatisfies (assignment_of values) clauses → IsChosenCover g shape t (chosen_tiling t values vars)
tiles_by_model g law shape form t triple vars are values clauses is model =
    let all : Satisfies literals (assignment_of values) (torus_clauses literals (reduced_cells g t) (sets_of vars)) = subst (λ cs. Satisfies literals (assignment_of values) cs) is (log_satisfied (assignment_of values) clauses model) in
    chosen_cover g law shape form t triple vars are values (model_covers g law shape form t triple vars are values (reduced_cells g t) (reduced_listed g t law triple) all)
