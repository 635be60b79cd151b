-- Ranks, owned cells, and the clauses of owner variables, one after the other.
use Rattle.std.proofs.Common.{◌≡◌, sym, ap, subst, ◌∙◌, ℕ, ◌+◌, ◌/◌, ◌^◌, ◌<◌, ◌≤◌, List, [], ◌∷◌, ◌++◌, map, filter, length, get_or, take, drop, All, true, ◌&&◌, arith, Contains, Err, le-leb, leb-true, eq-eqb, nat_eq, bit_and}
use Rattle.std.specs.Prelude.{nat_le, flat_map, ◌==◌, sum_by}
use Rattle.std.specs.List.{enumerate_from, range_with_len, dedup}
use Rattle.std.proofs.Common.{IsPermutation, IsSorted}
use Rattle.std.proofs.lemmas.Bool.{and_parts, and_from}
use Rattle.std.proofs.lemmas.List.{take_all, take_more, append-nil, append_assoc, take-append-drop}
use Rattle.std.proofs.lemmas.List.Concat.{flat_map_single}
use Rattle.std.proofs.lemmas.List.FromFn.{get_or-range_with_len, get_or-enumerate_from, length-range_with_len, length-enumerate_from}
use Rattle.std.proofs.lemmas.Nat.Bits.{shr_and_one}
use Rattle.std.proofs.lemmas.List.Sums.{sum_by-cons}
use Rattle.std.proofs.lemmas.List.Elements.{All-contains, Contains-get_or}
use Rattle.heesch_cnf.specs.declared.literal.Lit.{Lit}
use Rattle.heesch_grid.specs.declared.Cell.{Cell}
use Rattle.heesch_grid.specs.Listing.{ListsExactly}
use Rattle.heesch_grid.specs.Cells.{cell_before, cell_cmp, has, same_cell}
use Rattle.heesch_grid.specs.Geometry.{Geometry}
use Rattle.heesch_grid.specs.Pairs.{has-true}
use Rattle.heesch_grid.specs.CoronaFormula.{Variable, IsVariable, IsUniverse, covers}
use Rattle.heesch_grid.specs.OwnerFormula.{holders, IsOwned, bit, signed, owner_count, rank_clauses, owner_clauses}
use Rattle.heesch_grid.proofs.ListFacts.{member_filter, filter_member, All-from_members}
use Rattle.heesch_grid.proofs.WindowFacts.{map_member, flat_map_member, member_flat_map}
use Rattle.heesch_grid.proofs.ClauseFacts.{entry_variable}
use Rattle.heesch_cert.specs.Literals.{literals}
use Rattle.heesch_place.specs.Universes.{covering}
use Rattle.heesch_encode.specs.declared.collector.Collector.{Collector}
use Rattle.heesch_encode.specs.declared.stop.EncodeStop.{EncodeStop}
use Rattle.heesch_encode.specs.Owners.{is_first_holder}
use Rattle.heesch_encode.specs.Taking.{Takes, IsTaken}
use Rattle.heesch_encode.proofs.ClauseLists.{entry_range}
use Rattle.heesch_encode.proofs.Pieces.{filter_same, piece_taken, piece_stopped}
use Rattle.heesch_encode.proofs.Rings.{cells_listed}
use Rattle.heesch_encode.proofs.Takings.{takes_more, stopped_within}

abbrev Entry : Type 0
Entry = ℕ × Variable

-- ---- holders

-- a cell's holders are those that have it among the variables of all levels
pub holders_are : (g : Geometry) (shape : List Cell) (j : ℕ) (vars : List Variable) (c : Cell) → IsUniverse g shape j vars → covering vars j c ≡ holders vars c
holders_are g shape j vars c universe =
    ap (map (λ (x : Entry). x.0)) (filter_same (covers j c) (λ (x : Entry). has x.1.tile c) (enumerate_from 1 vars) (λ x m.
    let v = All-contains (IsVariable g shape j) vars x.1 universe.only (entry_variable vars 1 x m) in
    ap (λ b. b && has x.1.tile c) (le-leb x.1.level j v.level_to)))

pub holders_range : (vars : List Variable) (c : Cell) → All (λ n. (1 ≤ n) × (n < length vars + 1)) (holders vars c)
holders_range vars c =
    All-from_members (λ n. (1 ≤ n) × (n < length vars + 1)) (holders vars c) (λ n m.
    let r = map_member (λ (x : Entry). x.0) (filter (λ (x : Entry). has x.1.tile c) (enumerate_from 1 vars)) n m in
    let range = entry_range vars r.0 (filter_member (λ (x : Entry). has x.1.tile c) (enumerate_from 1 vars) r.0 r.1).0 in
    subst (λ k. (1 ≤ k) × (k < length vars + 1)) r.2 (range.0, omega (arith, range.1)))

-- ---- the owned cells

abbrev pub found_cells : List Variable → Entry → List Cell
found_cells vars x = filter (is_first_holder vars x.0) x.1.tile

module _ (vars : List Variable) (c : Cell) where
  found_owned : Contains (flat_map (found_cells vars) (enumerate_from 1 vars)) c → IsOwned vars c
  found_owned m =
      let r = flat_map_member (found_cells vars) (enumerate_from 1 vars) c m in
      let t = (filter_member (is_first_holder vars r.0.0) r.0.1.tile c r.2).1 in
      leb-true 2 (length (holders vars c)) (and_parts (nat_le 2 (length (holders vars c))) (get_or (holders vars c) 0 0 == r.0.0) t).0

  owned_found : IsOwned vars c → Contains (flat_map (found_cells vars) (enumerate_from 1 vars)) c
  owned_found two =
      let n = get_or (holders vars c) 0 0 in
      let r = map_member (λ (x : Entry). x.0) (filter (λ (x : Entry). has x.1.tile c) (enumerate_from 1 vars)) n (Contains-get_or (holders vars c) 0 0 (omega (arith, two))) in
      let f = filter_member (λ (x : Entry). has x.1.tile c) (enumerate_from 1 vars) r.0 r.1 in
      let first : is_first_holder vars r.0.0 c ≡ true = and_from (nat_le 2 (length (holders vars c))) (n == r.0.0) (le-leb 2 (length (holders vars c)) two) (eq-eqb n r.0.0 (sym r.2)) in
      member_flat_map (found_cells vars) (enumerate_from 1 vars) r.0 c f.0 (member_filter (is_first_holder vars r.0.0) r.0.1.tile c (has-true r.0.1.tile c f.1) first)

pub owned_listed : (vars : List Variable) (all ys zs : List Cell) → all ≡ flat_map (found_cells vars) (enumerate_from 1 vars) → IsPermutation all ys → IsSorted cell_cmp ys → zs ≡ dedup same_cell ys → ListsExactly cell_before (IsOwned vars) zs
owned_listed vars all ys zs is p sorted made =
    cells_listed (IsOwned vars) all ys zs (λ c m. found_owned vars c (subst (λ ws. Contains ws c) is m)) (λ c o. subst (λ ws. Contains ws c) (sym is) (owned_found vars c o)) p sorted made

-- ---- the clause of a rank and a bit

abbrev pub bit_clause : ℕ → ℕ × ℕ → ℕ → List Lit
bit_clause start ranked t = literals.minus ranked.1 ∷ signed literals (bit t ranked.0) (start + t) ∷ []

abbrev pub bit_piece : ℕ → ℕ × ℕ → ℕ → List (List Lit)
bit_piece start ranked t = bit_clause start ranked t ∷ []

pub bits_are : (start count : ℕ) (ranked : ℕ × ℕ) → flat_map (bit_piece start ranked) (range_with_len 0 count) ≡ rank_clauses literals start count ranked
bits_are start count ranked = flat_map_single (bit_clause start ranked) (range_with_len 0 count)

-- the bit as it is read
pub bit_read : (rank t n : ℕ) → signed literals (nat_eq (bit_and (rank / 2 ^ t) 1) 1) n ≡ signed literals (bit t rank) n
bit_read rank t n = ap (λ m. signed literals (nat_eq m 1) n) (shr_and_one rank t)

-- one bit after another
module _ (start count : ℕ) (ranked : ℕ × ℕ) (t : ℕ) (less : t < count) (now : List Lit) (is : now ≡ bit_clause start ranked t) (a b c : Collector) (before : Takes a b (flat_map (bit_piece start ranked) (take t (range_with_len 0 count)))) where
  bit_place : t < length (range_with_len 0 count)
  bit_place = omega (arith, less, length-range_with_len 0 count)

  bit_here : now ∷ [] ≡ bit_piece start ranked (get_or (range_with_len 0 count) t 0)
  bit_here =
      let from : 0 + t ≡ t = omega arith in
      ap (λ z. z ∷ []) is ∙ ap (bit_piece start ranked) (sym (get_or-range_with_len 0 count t 0 less ∙ from))

  pub bit_taken : Takes b c (now ∷ []) → Takes a c (flat_map (bit_piece start ranked) (take (t + 1) (range_with_len 0 count)))
  bit_taken h = piece_taken (bit_piece start ranked) (range_with_len 0 count) a b c t 0 bit_place before (subst (Takes b c) bit_here h)

  pub bit_stopped : (e : EncodeStop) → IsTaken (Err e) b c (now ∷ []) → IsTaken (Err e) a c (rank_clauses literals start count ranked)
  bit_stopped e h =
      subst (IsTaken (Err e) a c) (bits_are start count ranked) (piece_stopped (bit_piece start ranked) (range_with_len 0 count) e a b c t 0 bit_place before (subst (IsTaken (Err e) b c) bit_here h))

pub bits_taken : (start count : ℕ) (ranked : ℕ × ℕ) (t : ℕ) → count ≤ t → (a b : Collector) → Takes a b (flat_map (bit_piece start ranked) (take t (range_with_len 0 count))) → Takes a b (rank_clauses literals start count ranked)
bits_taken start count ranked t all a b h =
    let whole : take t (range_with_len 0 count) ≡ range_with_len 0 count = take_all t (range_with_len 0 count) (omega (arith, all, length-range_with_len 0 count)) in
    subst (Takes a b) (ap (flat_map (bit_piece start ranked)) whole ∙ bits_are start count ranked) h

-- one rank after another
module _ (start count : ℕ) (numbers : List ℕ) (i : ℕ) (less : i < length numbers) (a b c : Collector) (before : Takes a b (flat_map (rank_clauses literals start count) (take i (enumerate_from 0 numbers)))) where
  rank_place : i < length (enumerate_from 0 numbers)
  rank_place = omega (arith, less, length-enumerate_from 0 numbers)

  rank_here : rank_clauses literals start count (i, get_or numbers i 0) ≡ rank_clauses literals start count (get_or (enumerate_from 0 numbers) i (0, 0))
  rank_here =
      let from : 0 + i ≡ i = omega arith in
      ap (rank_clauses literals start count) (sym (get_or-enumerate_from 0 numbers i (0, 0) less ∙ (λ k. (from k, get_or numbers i 0))))

  pub rank_taken : Takes b c (rank_clauses literals start count (i, get_or numbers i 0)) → Takes a c (flat_map (rank_clauses literals start count) (take (i + 1) (enumerate_from 0 numbers)))
  rank_taken h = piece_taken (rank_clauses literals start count) (enumerate_from 0 numbers) a b c i (0, 0) rank_place before (subst (Takes b c) rank_here h)

  pub rank_stopped : (e : EncodeStop) → IsTaken (Err e) b c (rank_clauses literals start count (i, get_or numbers i 0)) → IsTaken (Err e) a c (flat_map (rank_clauses literals start count) (enumerate_from 0 numbers))
  rank_stopped e h = piece_stopped (rank_clauses literals start count) (enumerate_from 0 numbers) e a b c i (0, 0) rank_place before (subst (IsTaken (Err e) b c) rank_here h)

-- ---- the clauses of one cell after another

module _ (vars : List Variable) where
  abbrev pub total : List Cell → ℕ
  total cells = sum_by (owner_count vars) cells

  abbrev pub cell_clauses : ℕ → Cell → List (List Lit)
  cell_clauses start c = flat_map (rank_clauses literals start (owner_count vars c)) (enumerate_from 0 (holders vars c))

  pub owners_split : (start : ℕ) (xs ys : List Cell) → owner_clauses literals vars start (xs ++ ys) ≡ owner_clauses literals vars start xs ++ owner_clauses literals vars (start + total xs) ys
  owners_split start [] ys = let e : start ≡ start + 0 = omega arith in ap (λ n. owner_clauses literals vars n ys) e
  owners_split start (x ∷ xs) ys =
      let s = sum_by-cons (owner_count vars) x xs in
      let e : (start + owner_count vars x) + total xs ≡ start + total (x ∷ xs) = omega arith in
      ap (λ zs. cell_clauses start x ++ zs) (owners_split (start + owner_count vars x) xs ys ∙ ap (λ n. owner_clauses literals vars (start + owner_count vars x) xs ++ owner_clauses literals vars n ys) e)
      ∙ sym (append_assoc (cell_clauses start x) (owner_clauses literals vars (start + owner_count vars x) xs) (owner_clauses literals vars (start + total (x ∷ xs)) ys))

  pub owners_more : (start : ℕ) (cells : List Cell) (i : ℕ) (d : Cell) → i < length cells → owner_clauses literals vars start (take (i + 1) cells) ≡ owner_clauses literals vars start (take i cells) ++ cell_clauses (start + total (take i cells)) (get_or cells i d)
  owners_more start cells i d l =
      ap (owner_clauses literals vars start) (take_more cells i d l) ∙ owners_split start (take i cells) (get_or cells i d ∷ [])
      ∙ ap (λ zs. owner_clauses literals vars start (take i cells) ++ zs) (append-nil (cell_clauses (start + total (take i cells)) (get_or cells i d)))

  pub owners_rest : (start : ℕ) (cells : List Cell) (i : ℕ) → owner_clauses literals vars start cells ≡ owner_clauses literals vars start (take i cells) ++ owner_clauses literals vars (start + total (take i cells)) (drop i cells)
  owners_rest start cells i = ap (owner_clauses literals vars start) (sym (take-append-drop i cells)) ∙ owners_split start (take i cells) (drop i cells)

  module _ (start now : ℕ) (cells : List Cell) (i : ℕ) (d : Cell) (less : i < length cells) (at : now ≡ start + total (take i cells)) where
    here : cell_clauses now (get_or cells i d) ≡ cell_clauses (start + total (take i cells)) (get_or cells i d)
    here = ap (λ n. cell_clauses n (get_or cells i d)) at

    pub owners_taken : (a b c : Collector) → Takes a b (owner_clauses literals vars start (take i cells)) → Takes b c (cell_clauses now (get_or cells i d)) → Takes a c (owner_clauses literals vars start (take (i + 1) cells))
    owners_taken a b c s t =
        subst (Takes a c) (ap (λ zs. owner_clauses literals vars start (take i cells) ++ zs) here ∙ sym (owners_more start cells i d less)) (takes_more a b c (owner_clauses literals vars start (take i cells)) (cell_clauses now (get_or cells i d)) s t)

    pub owners_stopped : (e : EncodeStop) (a b c : Collector) → Takes a b (owner_clauses literals vars start (take i cells)) → IsTaken (Err e) b c (cell_clauses now (get_or cells i d)) → IsTaken (Err e) a c (owner_clauses literals vars start cells)
    owners_stopped e a b c s t =
        stopped_within e a b c (owner_clauses literals vars start (take i cells)) (cell_clauses now (get_or cells i d)) (owner_clauses literals vars (start + total (take (i + 1) cells)) (drop (i + 1) cells)) (owner_clauses literals vars start cells)
        (owners_rest start cells (i + 1)
        ∙ ap (λ zs. zs ++ owner_clauses literals vars (start + total (take (i + 1) cells)) (drop (i + 1) cells)) (owners_more start cells i d less ∙ ap (λ zs. owner_clauses literals vars start (take i cells) ++ zs) (sym here))) s t
