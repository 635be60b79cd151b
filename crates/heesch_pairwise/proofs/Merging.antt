-- The variables that have the cells of a tile, merged: those that are passed, and the next one.
use Rattle.std.proofs.Common.{◌≡◌, refl, sym, ap, subst, ◌∙◌, ℕ, ◌+◌, ◌<◌, ◌≤◌, List, [], ◌∷◌, ◌++◌, length, get_or, take, inl, inr, ◌⊎◌, arith, All, Contains, get_or-set_same, get_or-set_other}
use Rattle.std.specs.Prelude.{nat_lt, min, slice_set}
use Rattle.std.proofs.lemmas.Bool.{cases_lt, cases_eq}
use Rattle.std.proofs.lemmas.List.{take_more, length-take, get_or-take, get_or_default, get_or_past}
use Rattle.std.proofs.lemmas.List.Elements.{All-nil, All-more, All-weaker, Contains-get_or, Contains-append_cases, Contains-append_left, Contains-push}
use Rattle.heesch_grid.specs.declared.Cell.{Cell}
use Rattle.heesch_grid.specs.Cells.{origin}
use Rattle.heesch_grid.specs.Listing.{IsRising}
use Rattle.heesch_grid.specs.CoronaFormula.{Variable}
use Rattle.heesch_grid.specs.OwnerFormula.{holders}
use Rattle.heesch_grid.proofs.ListFacts.{member_cases, no_member}
use Rattle.heesch_encode.proofs.Rising.{rising_at, never_falls}
use Rattle.heesch_numbers.proofs.OwnersByNumber.{holders_rising}
use Rattle.heesch_pairwise.specs.Later.{later_of, no_number, ArePassed, ArePassedAt, IsNextAfter}
use Rattle.heesch_pairwise.proofs.LaterLists.{later_rising, later_member, later_cell, cell_later}

-- ---- one list

module _ (numbers : List ℕ) (n : ℕ) where
  pub none_passed : ArePassed numbers 0 n
  none_passed = record { within = omega arith; low = All-nil (λ m. m ≤ n) }

  pub one_passed : (count : ℕ) → ArePassed numbers count n → count < length numbers → get_or numbers count 0 ≤ n → ArePassed numbers (count + 1) n
  one_passed count p less low = record { within = omega arith; low = All-more (λ m. m ≤ n) numbers count 0 less p.low low }

  pub more_passed : (count other : ℕ) → n ≤ other → ArePassed numbers count n → ArePassed numbers count other
  more_passed count other le p = record { within = p.within; low = All-weaker (λ m. m ≤ n) (λ m. m ≤ other) (λ m h. omega (arith, h, le)) (take count numbers) p.low }

  -- the number behind those that are passed is at most any above n
  pub head_least : IsRising nat_lt numbers → (count m : ℕ) → ArePassed numbers count n → Contains numbers m → n < m → get_or numbers count no_number ≤ m
  head_least rising count m p (k, l, e) above =
      let at = get_or_default numbers k 0 m l in
      elim (cases_lt k count) [
        | inl before ↦
            let within = p.within in
            let long = length-take count numbers in
            let low : get_or (take count numbers) k 0 ≤ n = p.low k 0 (omega arith) in
            let same = get_or-take count numbers k 0 before in
            absurd (omega arith)
        | inr behind ↦
            let head = get_or_default numbers count no_number 0 (omega arith) in
            let less = never_falls numbers rising count k 0 behind l in
            omega arith
      ]

  -- and there is none, or it is one of the numbers
  pub head_found : (count : ℕ) → (get_or numbers count no_number ≡ no_number) ⊎ Contains numbers (get_or numbers count no_number)
  head_found count = elim (cases_lt count (length numbers)) [ inl l ↦ inr (Contains-get_or numbers count no_number l) | inr past ↦ inl (get_or_past numbers count no_number past) ]

-- ---- the lists of all cells

module _ (vars : List Variable) (cells : List Cell) where
  pub counts_more : (counts : List ℕ) (i count n : ℕ) → i < length counts → ArePassed (holders vars (get_or cells i origin)) count n → ArePassedAt vars cells counts n → ArePassedAt vars cells (slice_set counts i count) n
  counts_more counts i count n fits here all j l =
      elim (cases_eq j i) [
        | inl e ↦
            subst (λ k. ArePassed (holders vars (get_or cells k origin)) (get_or (slice_set counts i count) k 0) n) (sym e)
            (subst (λ v. ArePassed (holders vars (get_or cells i origin)) v n) (sym (get_or-set_same counts i count 0 fits)) here)
        | inr ne ↦ subst (λ v. ArePassed (holders vars (get_or cells j origin)) v n) (sym (get_or-set_other counts i j count 0 ne)) (all j l)
      ]

  pub counts_up : (counts : List ℕ) (n other : ℕ) → n ≤ other → ArePassedAt vars cells counts n → ArePassedAt vars cells counts other
  counts_up counts n other le all j l = more_passed (holders vars (get_or cells j origin)) n (get_or counts j 0) other le (all j l)

  pub counts_none : (counts : List ℕ) (n : ℕ) → ((i : ℕ) → get_or counts i 0 ≡ 0) → ArePassedAt vars cells counts n
  counts_none counts n none j l = subst (λ v. ArePassed (holders vars (get_or cells j origin)) v n) (sym (none j)) (none_passed (holders vars (get_or cells j origin)) n)

  pub next_none : (n : ℕ) → IsNextAfter vars (take 0 cells) n no_number
  next_none n = record { least = λ c m own inside above. absurd (no_member c own); found = inl refl }

  -- one cell more
  module _ (i n : ℕ) (less : i < length cells) (numbers : List ℕ) (is : numbers ≡ holders vars (get_or cells i origin)) (count : ℕ) (passed : ArePassed numbers count n) (above : n < get_or numbers count no_number) where
    own_cell : Contains (take (i + 1) cells) (get_or cells i origin)
    own_cell = subst (λ cs. Contains cs (get_or cells i origin)) (sym (take_more cells i origin less)) (Contains-push (take i cells) (get_or cells i origin))

    kept_cell : (c : Cell) → Contains (take i cells) c → Contains (take (i + 1) cells) c
    kept_cell c m = subst (λ cs. Contains cs c) (sym (take_more cells i origin less)) (Contains-append_left (take i cells) (get_or cells i origin ∷ []) c m)

    cell_cases : (c : Cell) → Contains (take (i + 1) cells) c → Contains (take i cells) c ⊎ (get_or cells i origin ≡ c)
    cell_cases c m =
        elim (Contains-append_cases (take i cells) (get_or cells i origin ∷ []) c (subst (λ cs. Contains cs c) (take_more cells i origin less) m)) [
          | inl before ↦ inl before
          | inr here ↦ elim (member_cases (get_or cells i origin) [] c here) [ inl e ↦ inr e | inr none ↦ absurd (no_member c none) ]
        ]

    pub next_more : (least next : ℕ) → next ≡ min least (get_or numbers count no_number) → IsNextAfter vars (take i cells) n least → IsNextAfter vars (take (i + 1) cells) n next
    next_more least next min_is was = record {
      least = λ c m own inside over. elim (cell_cases c own) [
        | inl before ↦ let h = was.least c m before inside over in omega (arith, h, min_is)
        | inr e ↦
            let here : Contains numbers m = subst (λ zs. Contains zs m) (sym (is ∙ ap (holders vars) e)) inside in
            let h = head_least numbers n (subst (IsRising nat_lt) (sym is) (holders_rising vars (get_or cells i origin))) count m passed here over in
            omega (arith, h, min_is)
      ];
      found = elim (cases_lt least (get_or numbers count no_number)) [
        | inl low ↦
            let same : least ≡ next = omega (arith, low, min_is) in
            elim was.found [
              | inl none ↦ inl (sym same ∙ none)
              | inr f ↦ inr (f.0, kept_cell f.0 f.1, subst (λ k. Contains (holders vars f.0) k) same f.2, subst (λ k. n < k) same f.3)
            ]
        | inr high ↦
            let same : get_or numbers count no_number ≡ next = omega (arith, high, min_is) in
            elim (head_found numbers n count) [
              | inl none ↦ inl (sym same ∙ none)
              | inr inside ↦ inr (get_or cells i origin, own_cell, subst (λ k. Contains (holders vars (get_or cells i origin)) k) same (subst (λ zs. Contains zs (get_or numbers count no_number)) is inside), subst (λ k. n < k) same above)
            ]
      ];
    }

-- ---- the later variables, one after another

module _ (vars : List Variable) (few : length vars < 2147483648) (n : ℕ) (x : Variable) where
  abbrev later : List ℕ
  later = later_of vars (n, x)

  pub later_above : (i : ℕ) → i < length later → (n < get_or later i 0) × (get_or later i 0 ≤ length vars)
  later_above i l = let y = later_member vars n x (get_or later i 0) (Contains-get_or later i 0 l) in (y.2, y.4)

  next_at : (i now next : ℕ) → i < length later → n ≤ now → now < get_or later i 0 → ((j : ℕ) → j < i → get_or later j 0 ≤ now) → IsNextAfter vars x.tile now next → next ≡ get_or later i 0
  next_at i now next l low above before is =
      let member : Contains later (get_or later i 0) = Contains-get_or later i 0 l in
      let c = later_cell vars n x (get_or later i 0) member in
      let small = (later_above i l).1 in
      let most = is.least c.0 (get_or later i 0) c.1 c.2 above in
      elim is.found [
        | inl none ↦ absurd (omega (arith, none, small, few, most))
        | inr f ↦
            let there = cell_later vars n x f.0 next f.1 f.2 (let over = f.3 in omega (arith, over, low)) in
            let k : ℕ = there.0 in
            let at = there.2 in
            let same = get_or_default later k 0 next there.1 in
            let over = f.3 in
            elim (cases_lt k i) [
              | inl less ↦ let b = before k less in absurd (omega (arith, b, at, same, over))
              | inr behind ↦ let rise = never_falls later (later_rising vars n x) i k 0 behind there.1 in omega (arith, rise, at, same, most)
            ]
      ]

  pub first_is : (next : ℕ) → 0 < length later → IsNextAfter vars x.tile n next → next ≡ get_or later 0 0
  first_is next l is = next_at 0 n next l (omega arith) (later_above 0 l).0 (λ j less. absurd (omega arith)) is

  pub next_is : (i next : ℕ) → i + 1 < length later → IsNextAfter vars x.tile (get_or later i 0) next → next ≡ get_or later (i + 1) 0
  next_is i next l is =
      let here = (later_above i (omega arith)).0 in
      next_at (i + 1) (get_or later i 0) next l (omega (arith, here)) (rising_at later (later_rising vars n x) i (i + 1) 0 (omega arith) l) (λ j less. never_falls later (later_rising vars n x) j i 0 (omega arith) (omega arith)) is
