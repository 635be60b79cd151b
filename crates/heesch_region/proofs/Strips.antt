-- The strips of a window: one word stands for cells that differ by units, and so do their neighbours.
use Rattle.std.proofs.Common.{◌≡◌, ◌≢◌, refl, sym, ap, subst, ◌∙◌, ℕ, suc, ◌+◌, ◌*◌, ◌-◌, ◌/◌, ◌%◌, ◌<◌, ◌≤◌, ℤ, pos, neg_ℤ, ◌+ℤ◌, ◌-ℤ◌, ◌*ℤ◌, ◌≤ℤ◌, nat_abs, Bool, true, false, List, [], ◌∷◌, length, Some, ◌⊎◌, inl, inr, arith, true≢false, Contains}
use Rattle.std.specs.List.{slice_get}
use Rattle.std.proofs.lemmas.Int.{ints}
use Rattle.std.proofs.lemmas.Nat.{div-add-mod', div-mul-add, mod-mul-add, div_below, mul-add-lt, mul-le}
use Rattle.std.proofs.lemmas.Bool.{cases_Bool}
use Rattle.std.proofs.lemmas.List.Elements.{All-contains}
use Rattle.heesch_grid.specs.declared.Cell.{Cell}
use Rattle.heesch_grid.specs.declared.isometries.Iso.{Iso}
use Rattle.heesch_grid.specs.Cells.{cell}
use Rattle.heesch_grid.specs.Geometry.{Geometry, IsCell, Adjacent, moved, apply, IsGrid}
use Rattle.heesch_grid.specs.Vectors.{IsWithin, minus}
use Rattle.heesch_grid.specs.Pairs.{Cell-eta}
use Rattle.heesch_grid.proofs.GridFacts.{adjacent_near}
use Rattle.heesch_grid.proofs.IsometryFacts.{moved_twice, moved_none}
use Rattle.heesch_grid.proofs.ListFacts.{member_cases, member_at, no_member}
use Rattle.heesch_region.specs.declared.window.Window.{Window}
use Rattle.heesch_region.specs.Bits.{bit_of, AreNarrowed, AreSettled}
use Rattle.heesch_region.specs.Windows.{bits, size, column, row, is_inner, strip, place, cell_of, is_marked}
use Rattle.heesch_region.specs.Floods.{IsNarrowed, IsSettled, counted}
use Rattle.heesch_region.proofs.Places.{IsIn, IsInner, inner-true, inner-is, mod_less, along, pair_of_place, place_of_pair, pair_inside, row_of, spot_of, strip_of, distance}
use Rattle.heesch_region.proofs.Boxes.{first_is, strip_rows}
use Rattle.heesch_region.proofs.Marking.{marked-true, marked-is}

-- the place in a list of a member
pub index_of : (xs : List Cell) (c : Cell) → Contains xs c → (k : ℕ) × (k < length xs) × (slice_get xs k ≡ Some c)
index_of [] c m = absurd (no_member c m)
index_of (x ∷ xs) c m =
    elim (member_cases x xs c m) [
      | inl e ↦ (0, omega arith, ap Some e)
      | inr k ↦ let r = index_of xs c k in (suc r.0, omega (arith, r.1), r.2)
    ]

-- how a neighbour of the first cell of a strip lies in the window
record Numbers (low d : Cell) (u tall : ℕ) : Type 0 where
  a_low : low.a ≤ℤ d.a
  b_low : low.b ≤ℤ d.b
  columns : nat_abs (d.a -ℤ low.a) ≤ 64 * u + 9
  rows_less : nat_abs (d.b -ℤ low.b) < tall

numbers : (low d f : Cell) (u r q tall : ℕ) → IsWithin 4 (minus d f) → f.a ≡ low.a +ℤ pos (64 * u + r) → f.b ≡ low.b +ℤ pos q → 1 ≤ u → u ≤ 6 → r < u → 4 ≤ q → q + 4 < tall → Numbers low d u tall
numbers low d f u r q tall w fa fb some few l rl rh =
    let wal = w.a_low in
    let wah = w.a_high in
    let wbl = w.b_low in
    let wbh = w.b_high in
    let a_low : low.a ≤ℤ d.a = omega (arith, ints, wal, fa, some) in
    let b_low : low.b ≤ℤ d.b = omega (arith, ints, wbl, fb, rl) in
    let x = distance low.a d.a a_low in
    let y = distance low.b d.b b_low in
    record { a_low = a_low; b_low = b_low; columns = omega (arith, ints, x, wah, fa, l, few); rows_less = omega (arith, ints, y, wbh, fb, rh) }

module _ (g : Geometry) (law : IsGrid g) where
  -- translations keep cells and adjacent cells
  abbrev shift : ℤ → Iso
  shift x = record { turn = 0; da = x; db = pos 0 }

  turns : 0 < g.turns
  turns = let r = law.turns_range in omega (arith, r.0)

  shifted : (x : ℤ) (c : Cell) → apply g (shift x) c ≡ moved g x (pos 0) c
  shifted x c = ap (moved g x (pos 0)) (law.identity c)

  pub cell_moved : (x : ℤ) (c : Cell) → IsCell g c → IsCell g (moved g x (pos 0) c)
  cell_moved x c h = subst (IsCell g) (shifted x c) (law.cells_kept (shift x) turns c h)

  pub adjacent_moved : (x : ℤ) (c d : Cell) → Adjacent g c d → Adjacent g (moved g x (pos 0) c) (moved g x (pos 0) d)
  adjacent_moved x c d h =
      subst (λ y. Adjacent g y (moved g x (pos 0) d)) (shifted x c) (subst (λ y. Adjacent g (apply g (shift x) c) y) (shifted x d) (law.adjacent_kept (shift x) turns c d h))

  pub moved_back : (x : ℕ) (c : Cell) → moved g (neg_ℤ (pos x)) (pos 0) (moved g (pos x) (pos 0) c) ≡ c
  moved_back x c = moved_twice g law (pos x) (pos 0) (neg_ℤ (pos x)) (pos 0) c ∙ moved_none g law (pos x +ℤ neg_ℤ (pos x)) (pos 0 +ℤ pos 0) c (omega (arith, ints)) refl

  pub moved_forth : (x : ℕ) (c : Cell) → moved g (pos x) (pos 0) (moved g (neg_ℤ (pos x)) (pos 0) c) ≡ c
  moved_forth x c = moved_twice g law (neg_ℤ (pos x)) (pos 0) (pos x) (pos 0) c ∙ moved_none g law (neg_ℤ (pos x) +ℤ pos x) (pos 0 +ℤ pos 0) c (omega (arith, ints)) refl

module _ (g : Geometry) (law : IsGrid g) (w : Window) (same_unit : w.unit ≡ g.unit) where
  -- a translation by units, as cells
  moved-is : (x : ℕ) (c : Cell) → cell (c.a +ℤ pos (w.unit * x)) c.b ≡ moved g (pos x) (pos 0) c
  moved-is x c =
      ap (λ u. cell (c.a +ℤ pos (u * x)) c.b) same_unit ∙ Cell-eta (cell (c.a +ℤ pos (g.unit * x)) c.b) (moved g (pos x) (pos 0) c) refl (none c.b g.unit)
    where
      none : (b : ℤ) (u : ℕ) → b ≡ b +ℤ pos u *ℤ pos 0
      none b u = let e : u * 0 ≡ 0 = omega arith in omega (arith, ints, ap pos e)

  module _ (n : ℕ) (from : 4 * w.unit ≤ n) (to : n + 4 * w.unit < w.tall * w.unit) where
    abbrev first : Cell
    first = cell_of w (n * bits w + 64)

    pub below : n < w.tall * w.unit
    below = omega (arith, to)

    first_place : n * bits w + 64 < 64 * size w
    first_place =
        let border : 3 ≤ w.words = w.border in
        subst (λ m. n * bits w + 64 < m) (swap w.words w.unit w.tall) (mul-add-lt n (bits w) 64 (w.tall * w.unit) below (omega (arith, border)))
      where
        swap : (words unit tall : ℕ) → 64 * words * (tall * unit) ≡ 64 * (tall * unit * words)
        swap words unit tall = omega arith

    first_in : IsIn w first
    first_in = pair_inside w (n * bits w + 64) first_place

    first_spot : column w first / w.unit ≡ 64
    first_spot = spot_of w (n * bits w + 64) ∙ mod-mul-add n (bits w) 64 (let border : 3 ≤ w.words = w.border in omega (arith, border))

    start : (x : ℕ) → 64 * (n * w.words + 1) + x ≡ n * bits w + 64 + x
    start x = go n w.words
      where
        go : (n words : ℕ) → 64 * (n * words + 1) + x ≡ n * (64 * words) + 64 + x
        go n words = omega arith

    -- the cell at a bit of the strip
    pub at_bit : (x : ℕ) → x < 64 * (w.words - 2) → cell_of w (64 * (n * w.words + 1) + x) ≡ moved g (pos x) (pos 0) first
    at_bit x l =
        ap (cell_of w) (start x ∙ ap (λ m. m + x) (sym (place_of_pair w (n * bits w + 64))))
        ∙ along w first x first_in (let border : 3 ≤ w.words = w.border in omega (arith, border, first_spot, l))
        ∙ moved-is x first

    -- where an inner cell of the strip stands
    pub record Stands (c : Cell) : Type 0 where
      pub spot : ℕ
      pub less : spot < 64 * (w.words - 2)
      pub at : place w c ≡ 64 * (n * w.words + 1) + spot
      pub is : c ≡ moved g (pos spot) (pos 0) first

    pub stands : (c : Cell) → IsInner w c → strip w c ≡ n → Stands c
    stands c i e =
        let low = i.spot_low in
        let high = i.spot_high in
        let x : ℕ = column w c / w.unit - 64 in
        let less : x < 64 * (w.words - 2) = room (column w c / w.unit) w.words w.border low high in
        let at : place w c ≡ 64 * (n * w.words + 1) + x = ap (λ m. m * bits w + column w c / w.unit) e ∙ split n w.words (column w c / w.unit) low in
        record { spot = x; less = less; at = at; is = sym (pair_of_place w c i.inside) ∙ ap (cell_of w) at ∙ at_bit x less }
      where
        room : (k words : ℕ) → 3 ≤ words → 64 ≤ k → k + 64 < 64 * words → k - 64 < 64 * (words - 2)
        room k words b low high = omega (arith, b, low, high)

        split : (n words k : ℕ) → 64 ≤ k → n * (64 * words) + k ≡ 64 * (n * words + 1) + (k - 64)
        split n words k low = omega (arith, low)

    first_cell : (c : Cell) (s : Stands c) → IsCell g c → IsCell g first
    first_cell c s h = subst (IsCell g) (ap (moved g (neg_ℤ (pos s.spot)) (pos 0)) s.is ∙ moved_back g law s.spot first) (cell_moved g law (neg_ℤ (pos s.spot)) c h)

    pub neighbour_of : (f : Cell) → f ≡ first → IsCell g f → (i : ℕ) (d : Cell) → slice_get (g.adjacent f) i ≡ Some d → Adjacent g first d
    neighbour_of f e f_in i d at =
        subst (λ y. Adjacent g y d) e (All-contains (Adjacent g f) (g.adjacent f) d (law.adjacent_listed f f_in).0.only (member_at (g.adjacent f) i d at))

    -- the words of the strip are there
    pub words_there : n * w.words + 1 + (w.words - 2) ≤ size w
    words_there =
        let l : (n + 1) * w.words ≤ w.tall * w.unit * w.words = mul-le (n + 1) w.words (w.tall * w.unit) w.words (omega (arith, below)) (omega arith) in
        let border : 3 ≤ w.words = w.border in
        omega (arith, l, border)

    -- a neighbour of the first cell, and the cells as far from it
    module _ (d : Cell) (a : Adjacent g first d) where
      near : IsWithin 4 (minus d first)
      near = adjacent_near g law first d a

      firsts : first ≡ cell (w.low.a +ℤ pos (64 * w.unit + n % w.unit)) (w.low.b +ℤ pos (n / w.unit))
      firsts = first_is w n

      rows : (4 ≤ n / w.unit) × (n / w.unit + 4 < w.tall)
      rows = strip_rows n w.unit w.tall w.some from to

      found : Numbers w.low d w.unit w.tall
      found = numbers w.low d first w.unit (n % w.unit) (n / w.unit) w.tall near (ap (λ (c : Cell). c.a) firsts) (ap (λ (c : Cell). c.b) firsts) w.some w.few (mod_less n w.unit w.some) rows.0 rows.1

      pub neighbour_in : IsIn w d
      neighbour_in = record { a_low = found.a_low; a_high = fits (column w d) w.unit w.words w.some w.border found.columns; b_low = found.b_low; b_high = found.rows_less }
        where
          fits : (k u words : ℕ) → 1 ≤ u → 3 ≤ words → k ≤ 64 * u + 9 → k < 64 * words * u
          fits k u words some border l =
              let m : 192 * u ≤ 64 * words * u = mul-le 192 u (64 * words) u (omega (arith, border)) (omega arith) in
              omega (arith, m, l, some)

      spot_few : column w d / w.unit ≤ 73
      spot_few = few (column w d) w.unit w.some found.columns
        where
          few : (k u : ℕ) → 1 ≤ u → k ≤ 64 * u + 9 → k / u ≤ 73
          few k u some l = let h = div_below k u 74 (omega (arith, some)) (omega (arith, some, l)) in omega (arith, h)

      strip_less : strip w d < w.tall * w.unit
      strip_less = let l = mul-add-lt (row w d) w.unit (column w d % w.unit) w.tall found.rows_less (mod_less (column w d) w.unit w.some) in omega (arith, l)

      -- the reading of bits from here on stays within the strip
      pub reads : place w d + 64 * (w.words - 2) < 64 * size w
      reads = go (strip w d) (column w d / w.unit) w.words w.tall w.unit w.border spot_few strip_less
        where
          go : (s k words tall unit : ℕ) → 3 ≤ words → k ≤ 73 → s < tall * unit → s * (64 * words) + k + 64 * (words - 2) < 64 * (tall * unit * words)
          go s k words tall unit border l less =
              let m = mul-add-lt s (64 * words) (k + 64 * (words - 2)) (tall * unit) less (omega (arith, border, l)) in
              subst (λ z. s * (64 * words) + k + 64 * (words - 2) < z) (swap words unit tall) (omega (arith, m))
            where
              swap : (words unit tall : ℕ) → 64 * words * (tall * unit) ≡ 64 * (tall * unit * words)
              swap words unit tall = omega arith

      pub neighbour_at : (x : ℕ) → x < 64 * (w.words - 2) → cell_of w (place w d + x) ≡ moved g (pos x) (pos 0) d
      neighbour_at x l = along w d x neighbour_in (let border : 3 ≤ w.words = w.border in omega (arith, border, spot_few, l)) ∙ moved-is x d

      pub neighbour_marked : (words : List ℕ) (x : ℕ) → x < 64 * (w.words - 2) → bit_of words (place w d + x) ≡ 1 → is_marked w words (moved g (pos x) (pos 0) d) ≡ true
      neighbour_marked words x l h =
          subst (λ c. is_marked w words c ≡ true) (neighbour_at x l)
          (marked-is w words (cell_of w (place w d + x)) (pair_inside w (place w d + x) (omega (arith, reads, l))) (ap (bit_of words) (place_of_pair w (place w d + x)) ∙ h))

      -- what is true of the bits is true of the cells
      pub narrowed_cells : (taken old new : List ℕ) → AreNarrowed taken (n * w.words + 1) (place w d) (w.words - 2) old new → IsNarrowed g (is_marked w taken) (is_marked w old) (is_marked w new)
      narrowed_cells taken old new h =
          record {
            only = λ c m. let t = marked-true w new c m in marked-is w old c t.0 (h.only (place w c) t.1);
            keeps = λ test closed before c m.
                let t = marked-true w old c (before c m) in
                marked-is w new c t.0
                (h.keeps (λ k. test (cell_of w k)) (λ x l k.
                let at = at_bit x l in
                elim (closed (moved g (pos x) (pos 0) first) (moved g (pos x) (pos 0) d) (ap test (sym at) ∙ k) (adjacent_moved g law (pos x) first d a)) [
                  | inl t ↦ inl (ap (bit_of taken) (sym (place_of_pair w (64 * (n * w.words + 1) + x)) ∙ ap (place w) at) ∙ (marked-true w taken (moved g (pos x) (pos 0) first) t).1)
                  | inr t ↦ inr (ap test (neighbour_at x l) ∙ t)
                ]) (λ k t. ap (bit_of old) (sym (place_of_pair w k)) ∙ (marked-true w old (cell_of w k) (before (cell_of w k) t)).1) (place w c) (ap test (pair_of_place w c t.0) ∙ m));
          }

    -- a strip is settled where the bits are settled for each neighbour
    pub settled_cells : (taken kept : List ℕ) → ((c : Cell) → is_marked w kept c ≡ true → (is_inner w c ≡ true) × IsCell g c) → ((k : ℕ) (d : Cell) → k < g.adjacent_count → slice_get (g.adjacent first) k ≡ Some d → AreSettled taken kept (n * w.words + 1) (place w d) (64 * (w.words - 2))) → IsSettled g w (is_marked w taken) (is_marked w kept) n
    settled_cells taken kept cells settled c d m in_strip a =
        let i = cells c m in
        let s = stands c (inner-true w c i.0) in_strip in
        let x = s.spot in
        let first_is_cell = first_cell c s i.1 in
        let listed = law.adjacent_listed first first_is_cell in
        let d' : Cell = moved g (neg_ℤ (pos x)) (pos 0) d in
        let a' : Adjacent g first d' = subst (λ y. Adjacent g y d') (ap (moved g (neg_ℤ (pos x)) (pos 0)) s.is ∙ moved_back g law x first) (adjacent_moved g law (neg_ℤ (pos x)) c d a) in
        let k = index_of (g.adjacent first) d' (listed.0.every d' a') in
        let t = marked-true w kept c m in
        elim (settled k.0 d' (let l = k.1 in omega (arith, l, listed.1)) k.2 x s.less (ap (bit_of kept) (sym s.at) ∙ t.1)) [
          | inl h ↦ inl (marked-is w taken c t.0 (ap (bit_of taken) s.at ∙ h))
          | inr h ↦ inr (subst (λ y. is_marked w kept y ≡ true) (moved_forth g law x d) (neighbour_marked d' a' kept x s.less h))
        ]

    pub settled_none : (taken kept : List ℕ) → ((c : Cell) → is_marked w kept c ≡ true → (is_inner w c ≡ true) × IsCell g c) → g.is_cell first ≡ false → IsSettled g w (is_marked w taken) (is_marked w kept) n
    settled_none taken kept cells none c d m in_strip a =
        let i = cells c m in
        absurd (true≢false (sym (first_cell c (stands c (inner-true w c i.0) in_strip) i.1) ∙ none))

  -- the cell of a bit is inner just where its word is and its strip
  pub word_parts : (number j : ℕ) → j < 64 → ((64 * number + j) / bits w ≡ number / w.words) × ((64 * number + j) % bits w ≡ 64 * (number % w.words) + j)
  word_parts number j l =
      let border : 3 ≤ w.words = w.border in
      let at : number % w.words < w.words = mod_less number w.words (omega (arith, border)) in
      let split : 64 * number + j ≡ number / w.words * bits w + (64 * (number % w.words) + j) = parts number w.words (number / w.words) (number % w.words) j (div-add-mod' number w.words) in
      let less : 64 * (number % w.words) + j < bits w = omega (arith, at, l) in
      (ap (λ m. m / bits w) split ∙ div-mul-add (number / w.words) (bits w) (64 * (number % w.words) + j) less, ap (λ m. m % bits w) split ∙ mod-mul-add (number / w.words) (bits w) (64 * (number % w.words) + j) less)
    where
      parts : (number words q r j : ℕ) → q * words + r ≡ number → 64 * number + j ≡ q * (64 * words) + (64 * r + j)
      parts number words q r j e = omega (arith, e)

  pub record IsBorderWord (number : ℕ) : Type 0 where
    pub which : (number % w.words ≡ 0) ⊎ ((number % w.words + 1 ≡ w.words) ⊎ (((4 * w.unit ≤ number / w.words) × (number / w.words + 4 * w.unit < w.tall * w.unit)) → ⊥))

  pub border_word : (number j : ℕ) → j < 64 → IsBorderWord number → is_inner w (cell_of w (64 * number + j)) ≡ false
  border_word number j l b = elim (cases_Bool (is_inner w (cell_of w (64 * number + j)))) [
    | inl t ↦
        let i = inner-true w (cell_of w (64 * number + j)) t in
        let p = word_parts number j l in
        let spot = spot_of w (64 * number + j) ∙ p.1 in
        let low = i.spot_low in
        let high = i.spot_high in
        elim b.which [
          | inl e ↦ absurd (omega (arith, spot, low, l, e))
          | inr rest ↦ elim rest [
            | inl e ↦ absurd (omega (arith, spot, high, l, e))
            | inr never ↦ absurd (never (strip_from (row w (cell_of w (64 * number + j))) (number / w.words) w.unit w.tall w.some (row_of w (64 * number + j) ∙ ap (λ m. m / w.unit) p.0) i.row_low i.row_high))
          ]
        ]
    | inr f ↦ f
  ]
    where
      strip_from : (r s u tall : ℕ) → 1 ≤ u → r ≡ s / u → 4 ≤ r → r + 4 < tall → (4 * u ≤ s) × (s + 4 * u < tall * u)
      strip_from r s u tall some e low high =
          let d = div-add-mod' s u in
          let m = mod_less s u some in
          let a : 4 * u ≤ s / u * u = mul-le 4 u (s / u) u (omega (arith, e, low)) (omega arith) in
          let b : (s / u + 5) * u ≤ tall * u = mul-le (s / u + 5) u tall u (omega (arith, e, high)) (omega arith) in
          (omega (arith, a, d), omega (arith, b, d, m))

  pub inner_word : (number j : ℕ) → j < 64 → (number % w.words ≢ 0) → (number % w.words + 1 ≢ w.words) → (from : 4 * w.unit ≤ number / w.words) (to : number / w.words + 4 * w.unit < w.tall * w.unit) → (is_inner w (cell_of w (64 * number + j)) ≡ true) × (g.is_cell (cell_of w (64 * number + j)) ≡ g.is_cell (cell_of w (number / w.words * bits w + 64)))
  inner_word number j l some_at not_last from to =
      let p = word_parts number j l in
      let m : ℕ = 64 * number + j in
      let border : 3 ≤ w.words = w.border in
      let at : number % w.words < w.words = mod_less number w.words (omega (arith, border)) in
      let rows = strip_rows (number / w.words) w.unit w.tall w.some from to in
      let row_is : row w (cell_of w m) ≡ number / w.words / w.unit = row_of w m ∙ ap (λ k. k / w.unit) p.0 in
      let spot_is : column w (cell_of w m) / w.unit ≡ 64 * (number % w.words) + j = spot_of w m ∙ p.1 in
      let fits : m < 64 * size w = whole number (number / w.words) (number % w.words) w.words (w.tall * w.unit) j (div-add-mod' number w.words) at (omega (arith, to)) l in
      let i : IsInner w (cell_of w m) = record {
        inside = pair_inside w m fits;
        spot_low = low_spot (column w (cell_of w m) / w.unit) (number % w.words) j spot_is some_at;
        spot_high = high_spot (column w (cell_of w m) / w.unit) (number % w.words) w.words j spot_is at not_last l;
        row_low = omega (arith, row_is, rows.0);
        row_high = omega (arith, row_is, rows.1);
      } in
      let s = stands (number / w.words) from to (cell_of w m) i (strip_of w m ∙ p.0) in
      (inner-is w (cell_of w m) i, alike (g.is_cell (cell_of w m)) (g.is_cell (cell_of w (number / w.words * bits w + 64))) (first_cell (number / w.words) from to (cell_of w m) s) (λ h. subst (IsCell g) (sym s.is) (cell_moved g law (pos s.spot) (cell_of w (number / w.words * bits w + 64)) h)))
    where
      alike : (a b : Bool) → (a ≡ true → b ≡ true) → (b ≡ true → a ≡ true) → a ≡ b
      alike true b p q = sym (p refl)
      alike false true p q = q refl
      alike false false p q = refl

      low_spot : (k at j : ℕ) → k ≡ 64 * at + j → at ≢ 0 → 64 ≤ k
      low_spot k at j e ne = omega (arith, e, ne)

      high_spot : (k at words j : ℕ) → k ≡ 64 * at + j → at < words → at + 1 ≢ words → j < 64 → k + 64 < 64 * words
      high_spot k at words j e l ne m = omega (arith, e, l, ne, m)

      whole : (number q r words strips j : ℕ) → q * words + r ≡ number → r < words → q < strips → j < 64 → 64 * number + j < 64 * (strips * words)
      whole number q r words strips j e l less m = let h : number < words * strips = subst (λ z. z < words * strips) e (mul-add-lt q words r strips less l) in omega (arith, h, m)

pub narrowed_then : {g : Geometry} {taken old mid new : Cell → Bool} → IsNarrowed g taken old mid → IsNarrowed g taken mid new → IsNarrowed g taken old new
narrowed_then p q =
    record { only = λ c h. p.only c (q.only c h); keeps = λ test closed before. q.keeps test closed (p.keeps test closed before) }

-- ---- strips inside the border, counted from either end

pub counted_below : (upward : Bool) (count k : ℕ) → k < count → counted upward count k < count
counted_below true count k l = omega (arith, l)
counted_below false count k l = l

pub counted_twice : (upward : Bool) (count k : ℕ) → k < count → counted upward count (counted upward count k) ≡ k
counted_twice true count k l = omega (arith, l)
counted_twice false count k l = refl

pub strips_inside : (n u tall : ℕ) → 9 ≤ tall → 4 * u ≤ n → n + 4 * u < tall * u → n - 4 * u < (tall - 8) * u
strips_inside n u tall rows from to = go (tall - 8) (omega (arith, rows))
  where
    go : (t : ℕ) → tall ≡ t + 8 → n - 4 * u < t * u
    go t e = let h = subst (λ m. n + 4 * u < m * u) e to in omega (arith, h, from)

pub inner_strip : (w : Window) (c : Cell) → IsInner w c → (4 * w.unit ≤ strip w c) × (strip w c + 4 * w.unit < w.tall * w.unit)
inner_strip w c i = go (row w c) (column w c % w.unit) w.unit w.tall (mod_less (column w c) w.unit w.some) i.row_low i.row_high
  where
    go : (r s u tall : ℕ) → s < u → 4 ≤ r → r + 4 < tall → (4 * u ≤ r * u + s) × (r * u + s + 4 * u < tall * u)
    go r s u tall l low high =
        let a : 4 * u ≤ r * u = mul-le 4 u r u low (omega arith) in
        let b : (r + 5) * u ≤ tall * u = mul-le (r + 5) u tall u (omega (arith, high)) (omega arith) in
        (omega (arith, a), omega (arith, b, l))
