-- The conditions of a lawful cut, one by one.
use Rattle.std.proofs.Common.{◌≡◌, refl, sym, ap, subst, ◌∙◌, ℕ, zero, suc, ◌+◌, ◌<◌, ◌≤◌, ◌⊎◌, Bool, true, false, not, ◌&&◌, ◌||◌, List, [], ◌∷◌, length, get_or, take, All, Contains, Some, arith, inl, inr, true≢false, eq-eqb, eqb-true, le-leb}
use Rattle.std.specs.Prelude.{IsTrue, nat_lt, nat_eq, nat_le, ◌↔◌}
use Rattle.std.specs.List.{list_all, slice_get}
use Rattle.std.proofs.lemmas.Bool.{and_parts, and_from, or_cases, cases_Bool, not-true}
use Rattle.std.proofs.lemmas.List.{take_all}
use Rattle.std.proofs.lemmas.List.Elements.{All-contains}
use Rattle.std.proofs.lemmas.List.Folds.{list_all_more, list_all_at}
use Rattle.std.proofs.lemmas.Option.{get_or_from_slice_get}
use Rattle.heesch_grid.specs.declared.Cell.{Cell}
use Rattle.heesch_grid.specs.Listing.{IsRising}
use Rattle.heesch_grid.specs.Cells.{cell_before, has, meet}
use Rattle.heesch_grid.specs.Geometry.{Geometry, IsGrid, IsCell, Adjacent}
use Rattle.heesch_grid.specs.Polyform.{IsCellSet}
use Rattle.heesch_grid.specs.Pairs.{has-true, or-left, or-right}
use Rattle.heesch_grid.specs.CoronaFormula.{Variable, covers, IsNumbered}
use Rattle.heesch_grid.proofs.ListFacts.{no_member, member_cases, All-from_members, any_member, member_any}
use Rattle.heesch_grid.proofs.CellFacts.{has-is, has-false}
use Rattle.heesch_grid.proofs.GridFacts.{adjacent_exact}
use Rattle.heesch_grid.proofs.TileFacts.{Apart-from, Apart-member}
use Rattle.heesch_grid.proofs.ClauseFacts.{entry_at, entry_made}
use Rattle.heesch_grid.proofs.Connected.{test_by_members}
use Rattle.heesch_cert.specs.declared.proof.Cut.{Cut}
use Rattle.heesch_cert.specs.Cuts.{IsBorderVariable, IsInBorder, IsLawful}
use Rattle.heesch_place.specs.Universes.{covering}
use Rattle.heesch_cuts.specs.Marks.{is_marked, is_in}
use Rattle.heesch_cuts.specs.Enclosing.{IsOutside, is_covered, is_held, are_held}
use Rattle.heesch_cuts.proofs.Covering.{Entry, numbered, number_same, covering_entry, entry_covering}

-- ---- tests of each element

-- what each element passes, every member does
pub member_of_all : {X : Type 0} (p : X → Bool) (xs : List X) → list_all p xs ≡ true → (x : X) → Contains xs x → p x ≡ true
member_of_all p [] t x m = absurd (no_member x m)
member_of_all p (y ∷ ys) t x m =
    let both = and_parts (p y) (list_all p ys) t in
    elim (member_cases y ys x m) [ inl e ↦ ap p (sym e) ∙ both.0 | inr n ↦ member_of_all p ys both.1 x n ]

pub all_less : (p : Cell → Bool) (xs : List Cell) (i : ℕ) (r : Cell) → i < length xs → slice_get xs i ≡ Some r → p r ≡ false → false ≡ list_all p xs
all_less p xs i r less e f = sym (list_all_at p xs i r less (ap p (get_or_from_slice_get xs i r r e) ∙ f))

pub all_more : (p : Cell → Bool) (xs : List Cell) (i : ℕ) (r : Cell) → i < length xs → slice_get xs i ≡ Some r → p r ≡ true → list_all p (take i xs) ≡ true → list_all p (take (i + 1) xs) ≡ true
all_more p xs i r less e t h = list_all_more p xs i r less ∙ and_from (list_all p (take i xs)) (p (get_or xs i r)) h (ap p (get_or_from_slice_get xs i r r e) ∙ t)

pub all_at_end : (p : Cell → Bool) (xs : List Cell) (i : ℕ) → length xs ≤ i → list_all p (take i xs) ≡ true → true ≡ list_all p xs
all_at_end p xs i past h = sym (ap (list_all p) (sym (take_all i xs past)) ∙ h)

-- ---- the hole

pub some_length : (n : ℕ) → nat_eq n 0 ≡ false → 0 < n
some_length zero e = absurd (true≢false e)
some_length (suc n) e = omega arith

module _ (g : Geometry) (shape hole : List Cell) where
  abbrev is_outsider : Cell → Bool
  is_outsider c = g.is_cell c && not (has shape c)

  outsiders : 0 < length hole → IsRising cell_before hole → list_all is_outsider hole ≡ true → IsOutside g shape hole
  outsiders some rising t =
      let passes : (c : Cell) → Contains hole c → is_outsider c ≡ true = member_of_all is_outsider hole t in
      record {
        some = some;
        is_set = record { rising = rising; in_grid = All-from_members (IsCell g) hole (λ c m. (and_parts (g.is_cell c) (not (has shape c)) (passes c m)).0) };
        outside = Apart-from shape hole (λ c m n. has-false shape c (not-true (has shape c) (and_parts (g.is_cell c) (not (has shape c)) (passes c n)).1) m);
      }

  all_outsiders : IsOutside g shape hole → list_all is_outsider hole ≡ true
  all_outsiders o =
      test_by_members is_outsider hole (λ c m. and_from (g.is_cell c) (not (has shape c)) (All-contains (IsCell g) hole c o.is_set.in_grid m)
      (elim (cases_Bool (has shape c)) [ inl t ↦ absurd (Apart-member shape hole c o.outside (has-true shape c t) m) | inr f ↦ ap not f ]))

  pub outside_is : 0 < length hole → IsRising cell_before hole → (r : Bool) → r ≡ list_all (λ c. g.is_cell c && not (has shape c)) hole → IsTrue r ↔ IsOutside g shape hole
  outside_is some rising r e = ((λ t. outsiders some rising (sym e ∙ t)), (λ o. e ∙ all_outsiders o))

-- ---- the border

pub border_variable_is : (vars : List Variable) (k : ℕ) (hole : List Cell) (n : ℕ) → 1 ≤ n → n ≤ length vars → (level : ℕ) → ((x : Variable) → IsNumbered vars n x → level ≡ x.level) → level ≤ k → (tile : List Cell) → ((x : Variable) → IsNumbered vars n x → tile ≡ x.tile) → (r : Bool) → r ≡ not (meet tile hole) → IsTrue r ↔ IsBorderVariable vars k hole n
border_variable_is vars k hole n low high level levels below tile tiles r e =
    let x = numbered vars n low high in (
      (λ t. record { variable = x.0; is_variable = x.1; level = subst (λ l. l ≤ k) (levels x.0 x.1) below; apart = ap (λ t. meet t hole) (sym (tiles x.0 x.1)) ∙ not-true (meet tile hole) (sym e ∙ t) }),
      (λ b. let v : IsBorderVariable vars k hole n = b in e ∙ ap not (ap (λ t. meet t hole) (tiles v.variable v.is_variable) ∙ v.apart)),
    )

-- ---- what encloses the hole

module _ (g : Geometry) (law : IsGrid g) (shape : List Cell) (vars : List Variable) (k : ℕ) (hole : List Cell) (marks : List Bool) (border : List ℕ) (marked : (n : ℕ) → is_marked marks n ≡ is_in border n) where
  -- each cell beside the hole is in it, in the shape or in a placement of the border
  abbrev pub IsEnclosed : Type 0
  IsEnclosed = (c d : Cell) → Contains hole c → Adjacent g c d → Contains hole d ⊎ (Contains shape d ⊎ IsInBorder vars border d)

  covered_in : (d : Cell) → is_covered vars k marks d ≡ true → IsInBorder vars border d
  covered_in d t =
      let r = any_member (is_marked marks) (covering vars k d) t in
      let x = covering_entry vars k d r.0 r.1 in
      let q = any_member (nat_eq r.0) border (sym (marked r.0) ∙ r.2) in
      let a = entry_at vars 1 x.0 x.1 in
      record {
        number = r.0;
        in_border = subst (λ n. Contains border n) (sym (eqb-true r.0 q.0 q.2)) q.1;
        variable = x.0.1;
        is_variable = subst (λ n. IsNumbered vars n x.0.1) x.2 a;
        member = has-true x.0.1.tile d (and_parts (nat_le x.0.1.level k) (has x.0.1.tile d) x.3).1;
      }

  in_covered : All (IsBorderVariable vars k hole) border → (d : Cell) → IsInBorder vars border d → is_covered vars k marks d ≡ true
  in_covered variables d b =
      let v : IsBorderVariable vars k hole b.number = All-contains (IsBorderVariable vars k hole) border b.number variables b.in_border in
      let same : v.variable ≡ b.variable = number_same vars b.number v.variable b.variable v.is_variable b.is_variable in
      let low : b.variable.level ≤ k = subst (λ (x : Variable). x.level ≤ k) same v.level in
      let x : Entry = (b.number, b.variable) in
      let covers_it : covers k d x ≡ true = and_from (nat_le b.variable.level k) (has b.variable.tile d) (le-leb b.variable.level k low) (has-is b.variable.tile d b.member) in
      member_any (is_marked marks) (covering vars k d) b.number (entry_covering vars k d x (entry_made vars b.number b.variable b.is_variable) covers_it) (marked b.number ∙ member_any (nat_eq b.number) border b.number b.in_border (eq-eqb b.number b.number refl))

  pub enclosed_is : IsCellSet g hole → All (IsBorderVariable vars k hole) border → (r : Bool) → r ≡ list_all (are_held g shape vars k hole marks) hole → IsTrue r ↔ IsEnclosed
  enclosed_is set variables r e = (there, back)
    where
      cell_of : (c : Cell) → Contains hole c → IsCell g c
      cell_of c m = All-contains (IsCell g) hole c set.in_grid m

      there : r ≡ true → IsEnclosed
      there t c d m a =
          let beside : has (g.adjacent c) d ≡ true = (adjacent_exact g law c d (cell_of c m)).1 a in
          let h = member_of_all (is_held shape vars k hole marks) (g.adjacent c) (member_of_all (are_held g shape vars k hole marks) hole (sym e ∙ t) c m) d (has-true (g.adjacent c) d beside) in
          elim (or_cases (has hole d) (has shape d || is_covered vars k marks d) h) [
            | inl i ↦ inl (has-true hole d i)
            | inr o ↦ elim (or_cases (has shape d) (is_covered vars k marks d) o) [ inl s ↦ inr (inl (has-true shape d s)) | inr b ↦ inr (inr (covered_in d b)) ]
          ]

      held_by : (d : Cell) → Contains hole d ⊎ (Contains shape d ⊎ IsInBorder vars border d) → is_held shape vars k hole marks d ≡ true
      held_by d w =
          elim w [
            | inl i ↦ or-left (has hole d) (has shape d || is_covered vars k marks d) (has-is hole d i)
            | inr o ↦ or-right (has hole d) (has shape d || is_covered vars k marks d)
                (elim o [ inl s ↦ or-left (has shape d) (is_covered vars k marks d) (has-is shape d s) | inr b ↦ or-right (has shape d) (is_covered vars k marks d) (in_covered variables d b) ])
          ]

      back : IsEnclosed → r ≡ true
      back h =
          e ∙ test_by_members (are_held g shape vars k hole marks) hole
          (λ c m. test_by_members (is_held shape vars k hole marks) (g.adjacent c)
          (λ d n. held_by d (h c d m ((adjacent_exact g law c d (cell_of c m)).0 (has-is (g.adjacent c) d n)))))

-- ---- the five conditions together

-- a cut whose level, hole and border are so is lawful where the hole is enclosed
pub lawful_is : (g : Geometry) (shape : List Cell) (j : ℕ) (vars : List Variable) (cut : Cut) → 1 ≤ cut.level → cut.level ≤ j → IsOutside g shape cut.hole → IsRising nat_lt cut.border → All (IsBorderVariable vars cut.level cut.hole) cut.border → (r : Bool) → IsTrue r ↔ ((c d : Cell) → Contains cut.hole c → Adjacent g c d → Contains cut.hole d ⊎ (Contains shape d ⊎ IsInBorder vars cut.border d)) → IsTrue r ↔ IsLawful g shape j vars cut
lawful_is g shape j vars cut low high o rising border r e = (
  (λ t. record { level_from = low; level_to = high; some = o.some; is_set = o.is_set; outside = o.outside; rising = rising; border = border; enclosed = e.0 t }),
  (λ l. let all : IsLawful g shape j vars cut = l in e.1 all.enclosed),
)
