-- The clause of a cut from marks of its border and of what fills its hole.
use Rattle.std.proofs.Common.{◌≡◌, refl, sym, ap, ◌∙◌, ℕ, ◌+◌, Bool, ◌&&◌, List, [], ◌∷◌, ◌++◌, length, filter_map, Contains, Option, Some, None, arith}
use Rattle.std.specs.Prelude.{nat_eq, nat_le, option_to_list}
use Rattle.std.specs.List.{list_any, enumerate_from, range_with_len, cons_option}
use Rattle.std.proofs.lemmas.Bool.{and_parts, and_from}
use Rattle.std.proofs.lemmas.List.Elements.{filter_map-append}
use Rattle.heesch_grid.specs.declared.Cell.{Cell}
use Rattle.heesch_grid.specs.Cells.{has, meet}
use Rattle.heesch_grid.specs.Integers.{same_truth}
use Rattle.heesch_grid.specs.Pairs.{has-true}
use Rattle.heesch_grid.specs.CoronaFormula.{Variable}
use Rattle.heesch_grid.proofs.ListFacts.{member_here, member_there, any_member, member_any}
use Rattle.heesch_grid.proofs.CellFacts.{has-is, meet-true, meet-is}
use Rattle.heesch_cnf.specs.declared.literal.Lit.{Lit}
use Rattle.heesch_cert.specs.declared.proof.Cut.{Cut}
use Rattle.heesch_cert.specs.Cuts.{cut_clause}
use Rattle.heesch_place.specs.Universes.{covering}
use Rattle.heesch_cuts.specs.Marks.{is_marked, is_in, literal_of}
use Rattle.heesch_cuts.proofs.Marking.{range_more}
use Rattle.heesch_cuts.proofs.Covering.{Entry, covering_is}

-- one more number's literal
pub literals_more : (f : ℕ → Option Lit) (n m : ℕ) → m ≡ n + 1 → filter_map f (range_with_len 1 (n + 1)) ≡ filter_map f (range_with_len 1 n) ++ option_to_list (f m)
literals_more f n m e =
    let same : 1 + n ≡ m = omega arith in
    ap (filter_map f) (range_more 1 n) ∙ filter_map-append f (range_with_len 1 n) ((1 + n) ∷ []) ∙ ap (λ xs. filter_map f (range_with_len 1 n) ++ xs) (one (f (1 + n)) ∙ ap (λ k. option_to_list (f k)) same)
  where
    one : (o : Option Lit) → cons_option o [] ≡ option_to_list o
    one None = refl
    one (Some l) = refl

-- a walk over the numbers is one over the variables
pub over_numbers : (f : ℕ → Option Lit) (h : Entry → Option Lit) (vars : List Variable) (n : ℕ) → ((x : Entry) → Contains (enumerate_from n vars) x → f x.0 ≡ h x) → filter_map f (range_with_len n (length vars)) ≡ filter_map h (enumerate_from n vars)
over_numbers f h [] n e = refl
over_numbers f h (v ∷ vars) n e =
    let rest = over_numbers f h vars (n + 1) (λ x m. e x (member_there (n, v) (enumerate_from (n + 1) vars) x m)) in
    ap (λ o. cons_option o (filter_map f (range_with_len (n + 1) (length vars)))) (e (n, v) (member_here (n, v) (enumerate_from (n + 1) vars))) ∙ ap (cons_option (h (n, v))) rest

-- whether an entry's number covers a cell of the hole
pub fills_is : (vars : List Variable) (k : ℕ) (hole : List Cell) (x : Entry) → Contains (enumerate_from 1 vars) x → list_any (λ c. is_in (covering vars k c) x.0) hole ≡ (nat_le x.1.level k && meet x.1.tile hole)
fills_is vars k hole x m =
    let fills : Cell → Bool = λ c. is_in (covering vars k c) x.0 in
    let low = nat_le x.1.level k in
    same_truth (list_any fills hole) (low && meet x.1.tile hole)
    (λ t. let r = any_member fills hole t in let both = and_parts low (has x.1.tile r.0) (sym (covering_is vars k r.0 x m) ∙ r.2) in and_from low (meet x.1.tile hole) both.0 (meet-is x.1.tile hole r.0 (has-true x.1.tile r.0 both.1) r.1))
    (λ t. let both = and_parts low (meet x.1.tile hole) t in let r = meet-true x.1.tile hole both.1 in member_any fills hole r.0 r.2 (covering_is vars k r.0 x m ∙ and_from low (has x.1.tile r.0) both.0 (has-is x.1.tile r.0 r.1)))

pub clause_is : (vars : List Variable) (cut : Cut) (border fillers : List Bool) → ((n : ℕ) → is_marked border n ≡ is_in cut.border n) → ((n : ℕ) → is_marked fillers n ≡ list_any (λ c. is_in (covering vars cut.level c) n) cut.hole) → filter_map (λ n. literal_of (is_marked border n) (is_marked fillers n) n) (range_with_len 1 (length vars)) ≡ cut_clause vars cut
clause_is vars cut border fillers b f =
    over_numbers (λ n. literal_of (is_marked border n) (is_marked fillers n) n)
    (λ x. literal_of (list_any (nat_eq x.0) cut.border) (nat_le x.1.level cut.level && meet x.1.tile cut.hole) x.0)
    vars 1
    (λ x m. ap (λ t. literal_of t (is_marked fillers x.0) x.0) (b x.0) ∙ ap (λ t. literal_of (is_in cut.border x.0) t x.0) (f x.0 ∙ fills_is vars cut.level cut.hole x m))
