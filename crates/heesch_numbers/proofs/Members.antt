-- The literals of the clauses of the families, as sets.
use Rattle.std.proofs.Common.{◌≡◌, refl, sym, ap, subst, ◌∙◌, ℕ, zero, suc, ◌+◌, ◌-◌, ◌<◌, ◌≤◌, List, [], ◌∷◌, map, filter, length, get_or, Bool, true, false, cond, not, ◌&&◌, inl, inr, arith, All, Contains, true≢false, eq-eqb, eqb-true, ne_eqb, ltb-true, lt-ltb}
use Rattle.std.specs.Prelude.{Some, None, unwrap_or, ◌==◌, flat_map, nat_lt, nat_le}
use Rattle.std.specs.List.{enumerate_from, slice_get}
use Rattle.std.proofs.lemmas.Bool.{and_parts, and_from, and_left, and_right, cases_Bool, cases_lt, not-true}
use Rattle.std.proofs.lemmas.List.{length-map, get_or-map}
use Rattle.std.proofs.lemmas.List.Elements.{All-contains, Contains-get_or}
use Rattle.heesch_cnf.specs.declared.literal.Lit.{Lit}
use Rattle.heesch_cnf.specs.declared.values.Left.{Left}
use Rattle.heesch_cnf.specs.Literals.{Values}
use Rattle.heesch_cnf.specs.Left.{IsLeft}
use Rattle.heesch_grid.specs.declared.Cell.{Cell}
use Rattle.heesch_grid.specs.Listing.{ListsExactly}
use Rattle.heesch_grid.specs.Cells.{cell_before, has, meet, origin}
use Rattle.heesch_grid.specs.Geometry.{Geometry, IsGrid, IsAround}
use Rattle.heesch_grid.specs.Placement.{touch}
use Rattle.heesch_grid.specs.Clauses.{clause_of, is_numbered, no_variable}
use Rattle.heesch_grid.specs.CoronaFormula.{Variable, IsNumbered, covers}
use Rattle.heesch_grid.proofs.ListFacts.{member_cases, member_here, member_there, no_member, filter_member, member_filter, All-from_members}
use Rattle.heesch_grid.proofs.WindowFacts.{map_member, member_map, flat_map_member, member_flat_map}
use Rattle.heesch_grid.proofs.CellFacts.{meet-is}
use Rattle.heesch_grid.proofs.ClauseFacts.{entry_at, entry_made, entry_same}
use Rattle.heesch_grid.specs.Pairs.{has-true}
use Rattle.heesch_grid.proofs.TileFacts.{contact, touch_by}
use Rattle.heesch_cert.specs.Literals.{literals}
use Rattle.heesch_place.specs.Universes.{covering}
use Rattle.heesch_encode.specs.Families.{covering_at, support_at}
use Rattle.heesch_encode.specs.Literals.{plus_all}
use Rattle.heesch_encode.specs.Meeting.{covering_after}
use Rattle.heesch_encode.proofs.ClauseLists.{IsLiteral, clause_listed, choice_is, entry_range}
use Rattle.heesch_encode.proofs.Rings.{IsMeeting, meeting_found, found_meeting}
use Rattle.heesch_numbers.specs.Seen.{IsSeen}
use Rattle.heesch_numbers.specs.Common.{tile_of, supporters_at, outside}
use Rattle.heesch_numbers.proofs.Seeing.{seen_left}

-- ---- a clause of variables alone

pub choice_left : (values : Values) (vars : List Variable) (c : Cell) (numbers : List ℕ) (left : Left) → numbers ≡ covering vars 1 c → IsSeen values (plus_all numbers) left → IsLeft values (clause_of literals no_variable (covers 1 c) vars) left
choice_left values vars c numbers left is seen =
    let clause : List Lit = clause_of literals no_variable (covers 1 c) vars in
    let same : plus_all numbers ≡ clause = ap plus_all is ∙ choice_is vars (covers 1 c) in
    seen_left values clause clause (clause_listed vars no_variable (covers 1 c)).rising (λ l m. m) (λ l m. m) left (subst (λ ls. IsSeen values ls left) same seen)

-- ---- a negated variable among those that pass

module _ (vars : List Variable) (p : ℕ × Variable → Bool) (n : ℕ) (v : Variable) (entry : Contains (enumerate_from 1 vars) (n, v)) (off : p (n, v) ≡ false) (numbers : List ℕ)
    (all : (x : ℕ × Variable) → Contains (enumerate_from 1 vars) x → p x ≡ true → Contains numbers x.0) (only : (m : ℕ) → Contains numbers m → (w : Variable) × Contains (enumerate_from 1 vars) (m, w) × (p (m, w) ≡ true)) where
  abbrev clause : List Lit
  clause = clause_of literals (is_numbered n) p vars

  abbrev seen : List Lit
  seen = literals.minus n ∷ plus_all numbers

  passing : (x : ℕ × Variable) → Contains (enumerate_from 1 vars) x → p x ≡ true → (x.0 == n) ≡ false
  passing x m t =
      elim (cases_Bool (x.0 == n)) [
        | inr f ↦ f
        | inl e ↦
            let number : x.0 ≡ n = eqb-true x.0 n e in
            let value : x.1 ≡ v = entry_same vars x (n, v) m entry number in
            let same : x ≡ (n, v) = λ i. (number i, value i) in
            absurd (true≢false (sym t ∙ ap p same ∙ off))
      ]

  literal_seen : (l : Lit) (x : ℕ × Variable) → Contains (enumerate_from 1 vars) x → (b c : Bool) → (x.0 == n) ≡ b → p x ≡ c → cond b (Some (literals.minus x.0)) (cond c (Some (literals.plus x.0)) None) ≡ Some l → Contains seen l
  literal_seen l x m true c eb ec e =
      let is : literals.minus n ≡ l = ap literals.minus (sym (eqb-true x.0 n eb)) ∙ ap (λ o. unwrap_or o l) e in
      subst (λ z. Contains seen z) is (member_here (literals.minus n) (plus_all numbers))
  literal_seen l x m false true eb ec e =
      let is : literals.plus x.0 ≡ l = ap (λ o. unwrap_or o l) e in
      subst (λ z. Contains seen z) is (member_there (literals.minus n) (plus_all numbers) (literals.plus x.0) (member_map literals.plus numbers x.0 (all x m ec)))
  literal_seen l x m false false eb ec e = absurd cc

  to : (l : Lit) → Contains clause l → Contains seen l
  to l m = let s = All-contains (IsLiteral vars (is_numbered n) p) clause l (clause_listed vars (is_numbered n) p).only m in literal_seen l s.of s.is_in (s.of.0 == n) (p s.of) refl refl s.gives

  back : (l : Lit) → Contains seen l → Contains clause l
  back l m =
      (clause_listed vars (is_numbered n) p).every l
      (elim (member_cases (literals.minus n) (plus_all numbers) l m) [
        | inl e ↦ record { of = (n, v); is_in = entry; gives = ap (λ b. cond b (Some (literals.minus n)) (cond (p (n, v)) (Some (literals.plus n)) None)) (eq-eqb n n refl) ∙ ap (λ z. Some z) e }
        | inr k ↦
            let r = map_member literals.plus numbers l k in
            let o = only r.0 r.1 in
            record {
              of = (r.0, o.0);
              is_in = o.1;
              gives = ap (λ b. cond b (Some (literals.minus r.0)) (cond (p (r.0, o.0)) (Some (literals.plus r.0)) None)) (passing (r.0, o.0) o.1 o.2) ∙ ap (λ b. cond b (Some (literals.plus r.0)) None) o.2 ∙ ap (λ z. Some z) r.2;
            }
      ])

  -- what is left of the clause, as of the literals that were seen
  pub implication_left : (values : Values) (left : Left) → IsSeen values seen left → IsLeft values clause left
  implication_left values left h = seen_left values clause seen (clause_listed vars (is_numbered n) p).rising to back left h

-- family 2: the cell is none of the variable's
pub covering_left : (values : Values) (vars : List Variable) (n most : ℕ) (v : Variable) (c : Cell) (numbers : List ℕ) (left : Left) → IsNumbered vars n v → has v.tile c ≡ false → numbers ≡ covering vars most c → IsSeen values (literals.minus n ∷ plus_all numbers) left →
    IsLeft values (clause_of literals (is_numbered n) (covers most c) vars) left
covering_left values vars n most v c numbers left number outside is seen =
    implication_left vars (covers most c) n v (entry_made vars n v number) (and_right _ (has v.tile c) outside) (covering vars most c)
    (λ x m t. member_map (λ (x : ℕ × Variable). x.0) (filter (covers most c) (enumerate_from 1 vars)) x (member_filter (covers most c) (enumerate_from 1 vars) x m t))
    (λ m k.
    let r = map_member (λ (x : ℕ × Variable). x.0) (filter (covers most c) (enumerate_from 1 vars)) m k in
    let f = filter_member (covers most c) (enumerate_from 1 vars) r.0 r.1 in
    let pair : r.0 ≡ (m, r.0.1) = λ i. (r.2 i, r.0.1) in
    (r.0.1, subst (Contains (enumerate_from 1 vars)) pair f.0, subst (λ z. covers most c z ≡ true) pair f.1))
    values left (subst (λ ns. IsSeen values (literals.minus n ∷ plus_all ns) left) is seen)

-- ---- family 3

-- the tile of a number is that of its entry
pub tile_at : (vars : List Variable) (m : ℕ) (w : Variable) → Contains (enumerate_from 1 vars) (m, w) → tile_of vars m ≡ w.tile
tile_at vars m w is_in = go vars (m - 1) (entry_at vars 1 (m, w) is_in).1
  where
    go : (vs : List Variable) (i : ℕ) → slice_get vs i ≡ Some w → (get_or vs i (record { level = 0; tile = [] })).tile ≡ w.tile
    go [] i e = absurd (let bad : None ≡ Some w = e in cc)
    go (x ∷ vs) zero e = ap (λ o. (unwrap_or o x).tile) e
    go (x ∷ vs) (suc i) e = go vs i e

module _ (g : Geometry) (law : IsGrid g) (vars : List Variable) (n above of : ℕ) (v : Variable) (ring : List Cell) (number : IsNumbered vars n v) (two : 2 ≤ of) (at : of ≡ v.level) (is_ring : ListsExactly cell_before (IsAround g v.tile) ring)
    (low : (m : ℕ) (x : Variable) → IsNumbered vars m x → m ≤ above → x.level < of - 1) (high : (m : ℕ) (x : Variable) → IsNumbered vars m x → above < m → of - 1 ≤ x.level) where
  abbrev test : ℕ × Variable → Bool
  test y = (y.1.level + 1 == v.level) && touch g y.1.tile v.tile

  abbrev found : List ℕ
  found = flat_map (supporters_at vars v.tile above (of - 1)) ring

  supporter_found : (x : ℕ × Variable) → Contains (enumerate_from 1 vars) x → test x ≡ true → Contains found x.0
  supporter_found x m t =
      let both = and_parts (x.1.level + 1 == v.level) (touch g x.1.tile v.tile) t in
      let level = eqb-true (x.1.level + 1) v.level both.0 in
      let k = contact g x.1.tile v.tile both.1 in
      let out : ¬ Contains v.tile k.first = λ i. true≢false (sym (meet-is x.1.tile v.tile k.first k.in_first i) ∙ k.apart) in
      let in_ring : Contains ring k.first = is_ring.every k.first (record { outside = out; member = k.second; inside = k.in_second; touching = law.touching_back k.first k.second k.touching }) in
      let after : above < x.0 = elim (cases_lt above x.0) [ inl l ↦ l | inr l ↦ let less = low x.0 x.1 (entry_at vars 1 x m) l in absurd (omega arith) ] in
      let all = found_meeting vars above (of - 1) (k.first ∷ []) x.0 (record { of = x.1; is_in = m; after = after; level = omega (arith, level, at); cell = k.first; given = member_here k.first []; own = k.in_first }) in
      let here = flat_map_member (covering_after vars above (of - 1)) (k.first ∷ []) x.0 all in
      let same : k.first ≡ here.0 = elim (member_cases k.first [] here.0 here.1) [ inl e ↦ e | inr none ↦ absurd (no_member here.0 none) ] in
      member_flat_map (supporters_at vars v.tile above (of - 1)) ring k.first x.0 in_ring
      (member_filter (λ m. not (meet (tile_of vars m) v.tile)) (covering_after vars above (of - 1) k.first) x.0 (subst (λ c. Contains (covering_after vars above (of - 1) c) x.0) (sym same) here.2)
      (ap not (ap (λ t. meet t v.tile) (tile_at vars x.0 x.1 m) ∙ k.apart)))

  found_supports : (m : ℕ) → Contains found m → (w : Variable) × Contains (enumerate_from 1 vars) (m, w) × (test (m, w) ≡ true)
  found_supports m k =
      let r = flat_map_member (supporters_at vars v.tile above (of - 1)) ring m k in
      let f = filter_member (λ m. not (meet (tile_of vars m) v.tile)) (covering_after vars above (of - 1) r.0) m r.2 in
      let s : IsMeeting vars above (of - 1) ring m = meeting_found vars above (of - 1) ring m (member_flat_map (covering_after vars above (of - 1)) ring r.0 m r.1 f.0) in
      let up = high m s.of (entry_at vars 1 (m, s.of) s.is_in) s.after in
      let level = s.level in
      let apart : meet s.of.tile v.tile ≡ false = sym (ap (λ t. meet t v.tile) (tile_at vars m s.of s.is_in)) ∙ not-true (meet (tile_of vars m) v.tile) f.1 in
      let a = All-contains (IsAround g v.tile) ring s.cell is_ring.only s.given in (
        s.of,
        s.is_in,
        and_from (s.of.level + 1 == v.level) (touch g s.of.tile v.tile) (eq-eqb (s.of.level + 1) v.level (omega (arith, up, level, at, two)))
            (touch_by g s.of.tile v.tile (record { apart = apart; first = s.cell; second = a.member; in_first = s.own; in_second = a.inside; touching = law.touching_back a.member s.cell a.touching })),
      )

  pub support_left : (values : Values) (left : Left) → IsSeen values (literals.minus n ∷ plus_all found) left → IsLeft values (clause_of literals (is_numbered n) test vars) left
  support_left values left seen =
      implication_left vars test n v (entry_made vars n v number) (and_left (v.level + 1 == v.level) (touch g v.tile v.tile) (ne_eqb (v.level + 1) v.level (λ e. omega arith))) found supporter_found found_supports values left seen

-- ---- the clauses of family 2 of a variable

pub covering_place : (around : List Cell → List Cell) (shape : List Cell) (j : ℕ) (vars : List Variable) (n place : ℕ) (v : Variable) → place < length (covering_at around shape j vars (n, v)) →
    (v.level < j) × (place < length (outside shape (around v.tile))) × (get_or (covering_at around shape j vars (n, v)) place [] ≡ clause_of literals (is_numbered n) (covers (v.level + 1) (get_or (outside shape (around v.tile)) place origin)) vars)
covering_place around shape j vars n place v less = go (nat_lt v.level j) refl less
  where
    each : Cell → List Lit
    each c = clause_of literals (is_numbered n) (covers (v.level + 1) c) vars

    go : (b : Bool) → nat_lt v.level j ≡ b → place < length (cond b (map each (outside shape (around v.tile))) []) →
        (v.level < j) × (place < length (outside shape (around v.tile))) × (get_or (cond b (map each (outside shape (around v.tile))) []) place [] ≡ each (get_or (outside shape (around v.tile)) place origin))
    go false e l = absurd (omega arith)
    go true e l =
        let long = length-map (outside shape (around v.tile)) each in
        let fits : place < length (outside shape (around v.tile)) = omega (arith, l, long) in
        (ltb-true v.level j e, fits, get_or-map each (outside shape (around v.tile)) place origin [] fits)

-- a cell around a tile and outside the shape is none of the tile's
pub outside_apart : (g : Geometry) (tile shape cells : List Cell) (place : ℕ) (c : Cell) → ListsExactly cell_before (IsAround g tile) cells → place < length (outside shape cells) → c ≡ get_or (outside shape cells) place origin → has tile c ≡ false
outside_apart g tile shape cells place c listed l is =
    let m = filter_member (λ d. not (has shape d)) cells (get_or (outside shape cells) place origin) (Contains-get_or (outside shape cells) place origin l) in
    let a = All-contains (IsAround g tile) cells (get_or (outside shape cells) place origin) listed.only m.0 in
    ap (has tile) is ∙ elim (cases_Bool (has tile (get_or (outside shape cells) place origin))) [ inr f ↦ f | inl t ↦ absurd (a.outside (has-true tile (get_or (outside shape cells) place origin) t)) ]

-- the variables of these numbers are the universe's
pub after_range : (vars : List Variable) (above most : ℕ) (c : Cell) → All (λ n. (1 ≤ n) × (n ≤ length vars)) (covering_after vars above most c)
after_range vars above most c =
    All-from_members (λ n. (1 ≤ n) × (n ≤ length vars)) (covering_after vars above most c) (λ n m.
    let f = filter_member (nat_lt above) (covering vars most c) n m in
    let r = map_member (λ (x : ℕ × Variable). x.0) (filter (covers most c) (enumerate_from 1 vars)) n f.0 in
    subst (λ k. (1 ≤ k) × (k ≤ length vars)) r.2 (entry_range vars r.0 (filter_member (covers most c) (enumerate_from 1 vars) r.0 r.1).0))

pub covering_length : (around : List Cell → List Cell) (shape : List Cell) (j : ℕ) (vars : List Variable) (n : ℕ) (v : Variable) → v.level < j → length (covering_at around shape j vars (n, v)) ≡ length (outside shape (around v.tile))
covering_length around shape j vars n v l =
    ap (λ b. length (cond b (map (λ c. clause_of literals (is_numbered n) (covers (v.level + 1) c) vars) (outside shape (around v.tile))) [])) (lt-ltb v.level j l)
    ∙ length-map (outside shape (around v.tile)) (λ c. clause_of literals (is_numbered n) (covers (v.level + 1) c) vars)

-- a variable of a level below 2 has no clause of family 3
pub no_support : (g : Geometry) (vars : List Variable) (n level : ℕ) (v : Variable) → level ≡ v.level → level < 2 → [] ≡ support_at g vars (n, v)
no_support g vars n level v at below = sym (ap (λ b. cond b (clause_of literals (is_numbered n) (λ y. (y.1.level + 1 == v.level) && touch g y.1.tile v.tile) vars ∷ []) []) (not_two v.level (omega (arith, at, below))))
  where
    not_two : (l : ℕ) → l < 2 → nat_le 2 l ≡ false
    not_two zero h = refl
    not_two (suc zero) h = refl
    not_two (suc (suc l)) h = absurd (omega arith)
