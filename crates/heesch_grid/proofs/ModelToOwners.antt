-- A model of the first formula gives one of the second that agrees with it on the universe: the owner variables of a cell are the bits of the rank of what is chosen there.
use Rattle.std.proofs.Common.{◌≡◌, sym, ap, subst, ◌∙◌, ℕ, zero, suc, ◌+◌, ◌-◌, ◌<◌, ◌≤◌, lt-ltb, le-ltb, ltb-true, eqb-true, ◌&&◌, List, [], ◌∷◌, ◌++◌, map, filter, length, flat_map, Bool, true, false, cond, not, ◌||◌, inl, inr, arith, Contains, true≢false}
use Rattle.std.specs.Prelude.{IsTrue, nat_lt}
use Rattle.std.specs.List.{enumerate_from, range_with_len}
use Rattle.std.proofs.lemmas.List.Elements.{All-contains, All-append, All-map, Contains-append_left, Contains-append_right}
use Rattle.std.proofs.lemmas.Bool.{cases_Bool, or_cases, and_from}
use Rattle.heesch_grid.specs.declared.Cell.{Cell}
use Rattle.heesch_grid.specs.Listing.{IsRising}
use Rattle.heesch_grid.specs.Cells.{has, meet}
use Rattle.heesch_grid.specs.Geometry.{Geometry}
use Rattle.heesch_grid.specs.Clauses.{Literals, clause_holds, clause_of, Satisfies, no_variable, is_numbered}
use Rattle.heesch_grid.specs.CoronaFormula.{Variable, first_clauses, covering_clauses, support_clauses, apart_clauses, corona_clauses}
use Rattle.heesch_grid.specs.OwnerFormula.{holders, bit, owner_count, signed, rank_clauses, owner_clauses, owned_corona_clauses}
use Rattle.heesch_grid.specs.Pairs.{has-true, or-left, or-right}
use Rattle.heesch_grid.proofs.ListFacts.{member_cases, member_here, member_there, no_member, member_filter, filter_member, rising_filter, All-from_members}
use Rattle.heesch_grid.proofs.CellFacts.{meet-is}
use Rattle.heesch_grid.proofs.WindowFacts.{member_map, map_member, member_flat_map, flat_map_member}
use Rattle.heesch_grid.proofs.ClauseFacts.{entry_variable, entries_rising, reason}
use Rattle.heesch_grid.proofs.UniverseClauses.{Entry, entry_below, cover_kept}

-- ---- numbers

range_below : (n a x : ℕ) → Contains (range_with_len a n) x → x < a + n
range_below zero a x m = absurd (no_member x m)
range_below (suc n) a x m =
    elim (member_cases a (range_with_len (a + 1) n) x m) [
      | inl e ↦ omega arith
      | inr h ↦ let r : x < a + 1 + n = range_below n (a + 1) x h in omega arith
    ]

rising_numbers : (xs : List Entry) → IsRising (λ (x y : Entry). nat_lt x.0 y.0) xs → IsRising nat_lt (map (λ (x : Entry). x.0) xs)
rising_numbers [] r = tt
rising_numbers (x ∷ xs) r = (All-map (λ n. IsTrue (nat_lt x.0 n)) (λ (y : Entry). y.0) xs r.0, rising_numbers xs r.1)

holders_rising : (vars : List Variable) (c : Cell) → IsRising nat_lt (holders vars c)
holders_rising vars c =
    rising_numbers (filter (λ (x : Entry). has x.1.tile c) (enumerate_from 1 vars)) (rising_filter (λ (x y : Entry). nat_lt x.0 y.0) (λ (x : Entry). has x.1.tile c) (enumerate_from 1 vars) (entries_rising vars 1))

-- the rank of the first chosen number, counted from r, or 0
abbrev chosen_rank : (ℕ → Bool) → ℕ → List ℕ → ℕ
chosen_rank model r [] = 0
chosen_rank model r (n ∷ ns) = cond (model n) r (chosen_rank model (r + 1) ns)

chosen_rank_is : (model : ℕ → Bool) (ns : List ℕ) (r : ℕ) → IsRising nat_lt ns
    → ((n m : ℕ) → Contains ns n → Contains ns m → n < m → model n ≡ true → model m ≡ true → ⊥)
    → (x : ℕ × ℕ) → Contains (enumerate_from r ns) x → model x.1 ≡ true → chosen_rank model r ns ≡ x.0
chosen_rank_is model [] r rising one x m t = absurd (no_member x m)
chosen_rank_is model (n ∷ ns) r rising one x m t =
    elim (member_cases (r, n) (enumerate_from (r + 1) ns) x m) [
      | inl e ↦ ap (λ b. cond b r (chosen_rank model (r + 1) ns)) (ap model (ap (λ y. y.1) e) ∙ t) ∙ ap (λ y. y.0) e
      | inr h ↦
          let inside : Contains ns x.1 = entry_variable ns (r + 1) x h in
          let later : n < x.1 = ltb-true n x.1 (All-contains (λ k. IsTrue (nat_lt n k)) ns x.1 rising.0 inside) in
          elim (cases_Bool (model n)) [
            | inl u ↦ absurd (one n x.1 (member_here n ns) (member_there n ns x.1 inside) later u t)
            | inr f ↦ ap (λ b. cond b r (chosen_rank model (r + 1) ns)) f ∙ chosen_rank_is model ns (r + 1) rising.1 (λ a b ma mb. one a b (member_there n ns a ma) (member_there n ns b mb)) x h t
          ]
    ]

-- ---- the assignment

-- the value of an owner variable of these cells, whose owner variables are numbered from `start` on
abbrev owner_value : List Variable → (ℕ → Bool) → ℕ → List Cell → ℕ → Bool
owner_value vars model start [] n = false
owner_value vars model start (c ∷ cells) n = cond (nat_lt n (start + owner_count vars c)) (bit (n - start) (chosen_rank model 0 (holders vars c))) (owner_value vars model (start + owner_count vars c) cells n)

-- the model on the universe's variables, and the ranks of what is chosen on the others
abbrev pub with_owners : List Variable → List Cell → (ℕ → Bool) → ℕ → Bool
with_owners vars owned model n = cond (nat_lt (length vars) n) (owner_value vars model (length vars + 1) owned n) (model n)

-- it has the model's values up to the universe's last number
pub keeps_below : (vars : List Variable) (owned : List Cell) (model : ℕ → Bool) (n : ℕ) → n ≤ length vars → with_owners vars owned model n ≡ model n
keeps_below vars owned model n l = ap (λ b. cond b (owner_value vars model (length vars + 1) owned n) (model n)) (le-ltb (length vars) n l)

pub keeps_universe : (vars : List Variable) (owned : List Cell) (model : ℕ → Bool) (x : Entry) → Contains (enumerate_from 1 vars) x → with_owners vars owned model x.0 ≡ model x.0
keeps_universe vars owned model x m = keeps_below vars owned model x.0 (let low : x.0 < 1 + length vars = entry_below vars 1 x m in omega arith)

module _ {L : Type 0} (ls : Literals L) (g : Geometry) (around : List Cell → List Cell) (shape : List Cell) (j : ℕ) (vars : List Variable) (owned : List Cell) (model : ℕ → Bool) (models : Satisfies ls model (corona_clauses ls g around shape j vars)) where
  abbrev values : ℕ → Bool
  values = with_owners vars owned model

  abbrev common : List (List L)
  common = first_clauses ls around shape vars ++ covering_clauses ls around shape j vars ++ support_clauses ls g vars

  abbrev four : List (List L)
  four = apart_clauses ls vars

  member_holds : (c : List L) → Contains (common ++ four) c → clause_holds ls model c ≡ true
  member_holds c m = All-contains (λ c. IsTrue (clause_holds ls model c)) (common ++ four) c models m

  -- ---- the owner clauses

  -- of two holders of a cell one isn't chosen
  abbrev both_numbers : ℕ → ℕ → Entry → Bool
  both_numbers n m x = is_numbered n x || is_numbered m x

  not_both : (c : Cell) (n m : ℕ) → Contains (holders vars c) n → Contains (holders vars c) m → n < m → model n ≡ true → model m ≡ true → ⊥
  not_both c n m hn hm less tn tm =
      let passing : List Entry = filter (λ (x : Entry). has x.1.tile c) (enumerate_from 1 vars) in
      let p = map_member (λ (x : Entry). x.0) passing n hn in
      let q = map_member (λ (x : Entry). x.0) passing m hm in
      let u : Entry = p.0 in
      let v : Entry = q.0 in
      let pu = filter_member (λ (x : Entry). has x.1.tile c) (enumerate_from 1 vars) u p.1 in
      let pv = filter_member (λ (x : Entry). has x.1.tile c) (enumerate_from 1 vars) v q.1 in
      let eu : u.0 ≡ n = p.2 in
      let ev : v.0 ≡ m = q.2 in
      let meets : meet u.1.tile v.1.tile ≡ true = meet-is u.1.tile v.1.tile c (has-true u.1.tile c pu.1) (has-true v.1.tile c pv.1) in
      let test : (nat_lt u.0 v.0 && meet u.1.tile v.1.tile) ≡ true = and_from (nat_lt u.0 v.0) (meet u.1.tile v.1.tile) (lt-ltb u.0 v.0 (omega arith)) meets in
      let clause : List L = clause_of ls (both_numbers u.0 v.0) no_variable vars in
      let inside : Contains four clause =
      member_flat_map (λ (u : Entry). map (λ (v : Entry). clause_of ls (both_numbers u.0 v.0) no_variable vars) (filter (λ (v : Entry). nat_lt u.0 v.0 && meet u.1.tile v.1.tile) (enumerate_from 1 vars))) (enumerate_from 1 vars) u clause pu.0
      (member_map (λ (v : Entry). clause_of ls (both_numbers u.0 v.0) no_variable vars) (filter (λ (v : Entry). nat_lt u.0 v.0 && meet u.1.tile v.1.tile) (enumerate_from 1 vars)) v (member_filter (λ (v : Entry). nat_lt u.0 v.0 && meet u.1.tile v.1.tile) (enumerate_from 1 vars) v pv.0 test))
      in
      let r = reason ls model (both_numbers u.0 v.0) no_variable vars (member_holds clause (Contains-append_right common four clause inside)) in
      elim r.2 [
        | inr a ↦ true≢false (sym a.0)
        | inl f ↦ elim (or_cases (is_numbered u.0 r.0) (is_numbered v.0 r.0) f.0) [
          | inl e ↦ true≢false (sym (ap model (eqb-true r.0.0 u.0 e ∙ eu) ∙ tn) ∙ f.1)
          | inr e ↦ true≢false (sym (ap model (eqb-true r.0.0 v.0 e ∙ ev) ∙ tm) ∙ f.1)
        ]
      ]

  signed_holds : (b : Bool) (n : ℕ) → values n ≡ b → ls.holds values (signed ls b n) ≡ true
  signed_holds true n e = ls.plus_holds values n ∙ e
  signed_holds false n e = ls.minus_holds values n ∙ ap not e

  -- the assignment gives the owner variables of these cells their values
  abbrev GivesOwners : ℕ → List Cell → Type 0
  GivesOwners start cells = (n : ℕ) → start ≤ n → values n ≡ owner_value vars model start cells n

  bit_at : (c : Cell) (cells : List Cell) (start t : ℕ) → GivesOwners start (c ∷ cells) → t < owner_count vars c → values (start + t) ≡ bit t (chosen_rank model 0 (holders vars c))
  bit_at c cells start t gives low =
      let first : nat_lt (start + t) (start + owner_count vars c) ≡ true = lt-ltb (start + t) (start + owner_count vars c) (omega arith) in
      let back : start + t - start ≡ t = omega arith in
      gives (start + t) (omega arith)
      ∙ ap (λ b. cond b (bit (start + t - start) (chosen_rank model 0 (holders vars c))) (owner_value vars model (start + owner_count vars c) cells (start + t))) first
      ∙ ap (λ k. bit k (chosen_rank model 0 (holders vars c))) back

  rank_holds : (c : Cell) (cells : List Cell) (start : ℕ) → GivesOwners start (c ∷ cells) → (x : ℕ × ℕ) → Contains (enumerate_from 0 (holders vars c)) x → (t : ℕ) → t < owner_count vars c → clause_holds ls values (ls.minus x.1 ∷ signed ls (bit t x.0) (start + t) ∷ []) ≡ true
  rank_holds c cells start gives x m t low =
      let inside : Contains (holders vars c) x.1 = entry_variable (holders vars c) 0 x m in
      let passing : List Entry = filter (λ (y : Entry). has y.1.tile c) (enumerate_from 1 vars) in
      let p = map_member (λ (y : Entry). y.0) passing x.1 inside in
      let entry = (filter_member (λ (y : Entry). has y.1.tile c) (enumerate_from 1 vars) p.0 p.1).0 in
      let kept : values x.1 ≡ model x.1 = subst (λ n. values n ≡ model n) p.2 (keeps_universe vars owned model p.0 entry) in
      elim (cases_Bool (model x.1)) [
        | inr f ↦ or-left (ls.holds values (ls.minus x.1)) (ls.holds values (signed ls (bit t x.0) (start + t)) || false) (ls.minus_holds values x.1 ∙ ap not (kept ∙ f))
        | inl u ↦
            let rank : chosen_rank model 0 (holders vars c) ≡ x.0 = chosen_rank_is model (holders vars c) 0 (holders_rising vars c) (not_both c) x m u in
            or-right (ls.holds values (ls.minus x.1)) (ls.holds values (signed ls (bit t x.0) (start + t)) || false)
            (or-left (ls.holds values (signed ls (bit t x.0) (start + t))) false (signed_holds (bit t x.0) (start + t) (bit_at c cells start t gives low ∙ ap (bit t) rank)))
      ]

  owners_hold : (cells : List Cell) (start : ℕ) → GivesOwners start cells → Satisfies ls values (owner_clauses ls vars start cells)
  owners_hold [] start gives = All-from_members (λ c. IsTrue (clause_holds ls values c)) [] (λ c m. absurd (no_member c m))
  owners_hold (c ∷ cells) start gives =
      All-append (λ k. IsTrue (clause_holds ls values k)) (flat_map (rank_clauses ls start (owner_count vars c)) (enumerate_from 0 (holders vars c))) (owner_clauses ls vars (start + owner_count vars c) cells)
      (All-from_members (λ k. IsTrue (clause_holds ls values k)) (flat_map (rank_clauses ls start (owner_count vars c)) (enumerate_from 0 (holders vars c))) (λ k m.
      let r = flat_map_member (rank_clauses ls start (owner_count vars c)) (enumerate_from 0 (holders vars c)) k m in
      let s = map_member (λ t. ls.minus r.0.1 ∷ signed ls (bit t r.0.0) (start + t) ∷ []) (range_with_len 0 (owner_count vars c)) k r.2 in
      subst (λ k. clause_holds ls values k ≡ true) s.2 (rank_holds c cells start gives r.0 r.1 s.0 (let low = range_below (owner_count vars c) 0 s.0 s.1 in omega arith))))
      (owners_hold cells (start + owner_count vars c) (λ n low. gives n (omega arith) ∙ ap (λ b. cond b (bit (n - start) (chosen_rank model 0 (holders vars c))) (owner_value vars model (start + owner_count vars c) cells n)) (le-ltb n (start + owner_count vars c) low)))

  pub owners_satisfy : Satisfies ls values (owned_corona_clauses ls g around shape j vars owned)
  owners_satisfy =
      All-append (λ c. IsTrue (clause_holds ls values c)) common (owner_clauses ls vars (length vars + 1) owned)
      (cover_kept ls vars model values (keeps_universe vars owned model) g around shape j (All-from_members (λ c. IsTrue (clause_holds ls model c)) common (λ c m. member_holds c (Contains-append_left common four c m))))
      (owners_hold owned (length vars + 1) (λ n low. ap (λ b. cond b (owner_value vars model (length vars + 1) owned n) (model n)) (lt-ltb (length vars) n (omega arith))))
