-- The later variables whose tiles meet that of one, as a list.
use Rattle.std.proofs.Common.{◌≡◌, refl, sym, ap, subst, ◌∙◌, ℕ, ◌+◌, ◌<◌, ◌≤◌, List, map, filter, length, get_or, Bool, true, false, ◌&&◌, inl, inr, arith, All, Contains, lt-ltb, ltb-true, le-leb}
use Rattle.std.specs.Prelude.{nat_lt, nat_le}
use Rattle.std.specs.List.{enumerate_from}
use Rattle.std.proofs.lemmas.Bool.{and_parts, and_from, cases_order}
use Rattle.std.proofs.lemmas.List.Elements.{All-contains, Contains-get_or}
use Rattle.std.proofs.lemmas.List.FromFn.{length-enumerate_from}
use Rattle.std.proofs.lemmas.List.Sums.{length-filter, count_by-le-length}
use Rattle.std.proofs.lemmas.List.{length-map}
use Rattle.heesch_grid.specs.declared.Cell.{Cell}
use Rattle.heesch_grid.specs.Cells.{has, meet}
use Rattle.heesch_grid.specs.Pairs.{has-true}
use Rattle.heesch_grid.specs.Geometry.{Geometry}
use Rattle.heesch_grid.specs.Listing.{IsRising}
use Rattle.heesch_grid.specs.CoronaFormula.{Variable, IsVariable, IsUniverse, IsNumbered}
use Rattle.heesch_grid.specs.OwnerFormula.{holders}
use Rattle.heesch_grid.proofs.ListFacts.{any_member, member_any, filter_member, member_filter}
use Rattle.heesch_grid.proofs.WindowFacts.{map_member, member_map}
use Rattle.heesch_grid.proofs.ClauseFacts.{entry_at, entry_made, entry_same, entry_variable}
use Rattle.heesch_encode.specs.Meeting.{meeting_after}
use Rattle.heesch_encode.proofs.ClauseLists.{numbers_rising, entry_range}
use Rattle.heesch_encode.proofs.Pieces.{filter_same}
use Rattle.heesch_encode.proofs.Rising.{rising_at}
use Rattle.heesch_pairwise.specs.Later.{later_of}

abbrev pub Entry : Type 0
Entry = ℕ × Variable

-- a variable that has the cell
pub holder_member : (vars : List Variable) (c : Cell) (m : ℕ) → Contains (holders vars c) m → (y : Variable) × IsNumbered vars m y × (has y.tile c ≡ true)
holder_member vars c m inside =
    let test = λ (y : Entry). has y.1.tile c in
    let r = map_member (λ (y : Entry). y.0) (filter test (enumerate_from 1 vars)) m inside in
    let f = filter_member test (enumerate_from 1 vars) r.0 r.1 in
    (r.0.1, subst (λ k. IsNumbered vars k r.0.1) r.2 (entry_at vars 1 r.0 f.0), f.1)

pub member_holder : (vars : List Variable) (c : Cell) (m : ℕ) (y : Variable) → IsNumbered vars m y → has y.tile c ≡ true → Contains (holders vars c) m
member_holder vars c m y number inside =
    let test = λ (y : Entry). has y.1.tile c in
    member_map (λ (y : Entry). y.0) (filter test (enumerate_from 1 vars)) (m, y) (member_filter test (enumerate_from 1 vars) (m, y) (entry_made vars m y number) inside)

module _ (vars : List Variable) (n : ℕ) (x : Variable) where
  abbrev later_test : Entry → Bool
  later_test y = nat_lt n y.0 && meet x.tile y.1.tile

  -- it is a list of them in rising order
  pub later_rising : IsRising nat_lt (later_of vars (n, x))
  later_rising = numbers_rising vars later_test

  pub later_member : (m : ℕ) → Contains (later_of vars (n, x)) m → (y : Variable) × IsNumbered vars m y × (n < m) × (meet x.tile y.tile ≡ true) × (m ≤ length vars)
  later_member m inside =
      let r = map_member (λ (y : Entry). y.0) (filter later_test (enumerate_from 1 vars)) m inside in
      let f = filter_member later_test (enumerate_from 1 vars) r.0 r.1 in
      let p = and_parts (nat_lt n r.0.0) (meet x.tile r.0.1.tile) f.1 in (
        r.0.1,
        subst (λ k. IsNumbered vars k r.0.1) r.2 (entry_at vars 1 r.0 f.0),
        subst (λ k. n < k) r.2 (ltb-true n r.0.0 p.0),
        p.1,
        subst (λ k. k ≤ length vars) r.2 (entry_range vars r.0 f.0).1,
      )

  pub member_later : (m : ℕ) (y : Variable) → IsNumbered vars m y → n < m → meet x.tile y.tile ≡ true → Contains (later_of vars (n, x)) m
  member_later m y number less met =
      member_map (λ (y : Entry). y.0) (filter later_test (enumerate_from 1 vars)) (m, y)
      (member_filter later_test (enumerate_from 1 vars) (m, y) (entry_made vars m y number) (and_from (nat_lt n m) (meet x.tile y.tile) (lt-ltb n m less) met))

  -- and as many as there are variables at most
  pub later_few : length (later_of vars (n, x)) ≤ length vars
  later_few =
      let named = length-map (filter later_test (enumerate_from 1 vars)) (λ (y : Entry). y.0) in
      let kept = length-filter later_test (enumerate_from 1 vars) in
      let few = count_by-le-length later_test (enumerate_from 1 vars) in
      let long = length-enumerate_from 1 vars in
      omega arith

  -- each has a cell of the tile
  pub later_cell : (m : ℕ) → Contains (later_of vars (n, x)) m → (c : Cell) × Contains x.tile c × Contains (holders vars c) m
  later_cell m inside =
      let y = later_member m inside in
      let c = any_member (has y.0.tile) x.tile y.3 in
      (c.0, c.1, member_holder vars c.0 m y.0 y.1 c.2)

  pub cell_later : (c : Cell) (m : ℕ) → Contains x.tile c → Contains (holders vars c) m → n < m → Contains (later_of vars (n, x)) m
  cell_later c m own inside less =
      let y = holder_member vars c m inside in
      member_later m y.0 y.1 less (member_any (has y.0.tile) x.tile c own y.2)

  -- those of all levels are among the variables of a universe
  pub later_is : (g : Geometry) (shape : List Cell) (j : ℕ) (tile : List Cell) → IsUniverse g shape j vars → tile ≡ x.tile → meeting_after vars n j tile ≡ later_of vars (n, x)
  later_is g shape j tile universe is =
      (λ i. meeting_after vars n j (is i))
      ∙ ap (map (λ (y : Entry). y.0)) (filter_same (λ (y : Entry). (nat_lt n y.0 && nat_le y.1.level j) && meet x.tile y.1.tile) later_test (enumerate_from 1 vars) agree)
    where
      and_true : (b : Bool) → (b && true) ≡ b
      and_true true = refl
      and_true false = refl

      agree : (y : Entry) → Contains (enumerate_from 1 vars) y → ((nat_lt n y.0 && nat_le y.1.level j) && meet x.tile y.1.tile) ≡ later_test y
      agree y m =
          let high : y.1.level ≤ j = (All-contains (IsVariable g shape j) vars y.1 universe.only (entry_variable vars 1 y m)).level_to in
          ap (λ b. (nat_lt n y.0 && b) && meet x.tile y.1.tile) (le-leb y.1.level j high) ∙ ap (λ b. b && meet x.tile y.1.tile) (and_true (nat_lt n y.0))
