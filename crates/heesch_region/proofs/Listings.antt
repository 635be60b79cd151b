-- The list of the pairs that are marked and not taken.
use Rattle.std.proofs.Common.{◌≡◌, sym, ap, subst, ◌∙◌, ℕ, ◌+◌, ◌*◌, ◌/◌, ◌%◌, ◌<◌, ◌≤◌, Bool, true, false, not, ◌&&◌, List, [], ◌∷◌, ◌++◌, ◌⊎◌, inl, inr, arith, true≢false, Contains}
use Rattle.std.specs.Prelude.{nat_lt, IsTrue, Result, Ok, Err, IfOk}
use Rattle.std.proofs.lemmas.Nat.{mul-le, mul-add-lt}
use Rattle.std.proofs.lemmas.List.Elements.{All-contains, Contains-append_left, Contains-append_right, Contains-append_cases}
use Rattle.std.proofs.lemmas.Bool.{and_parts, cases_Bool}
use Rattle.heesch_grid.specs.declared.Cell.{Cell}
use Rattle.heesch_grid.specs.Listing.{IsRising, ListsExactly}
use Rattle.heesch_grid.specs.Cells.{cell_before}
use Rattle.heesch_grid.proofs.ListFacts.{All-from_members, member_cases, member_here, no_member}
use Rattle.heesch_region.specs.declared.window.Window.{Window}
use Rattle.heesch_region.specs.Bits.{bit_of}
use Rattle.heesch_region.specs.Windows.{wide, row, column, order, place, is_marked}
use Rattle.heesch_region.specs.Marks.{IsListed}
use Rattle.heesch_region.proofs.Places.{IsIn, order_before, order_same, order_below, mod_less, spot_below}
use Rattle.heesch_region.proofs.Marking.{marked-true, marked-is}

last_number : (m n : ℕ) → m < n + 1 → (m < n) ⊎ (m ≡ n)
last_number m n l = elim (cases_Bool (nat_lt m n)) [ inl t ↦ inl (below m n t) | inr f ↦ inr (equal m n l f) ]
  where
    below : (m n : ℕ) → nat_lt m n ≡ true → m < n
    below m n h = grind arith

    equal : (m n : ℕ) → m < n + 1 → nat_lt m n ≡ false → m ≡ n
    equal m n l f = grind arith

rising_last : (xs : List Cell) (c : Cell) → IsRising cell_before xs → ((x : Cell) → Contains xs x → cell_before x c ≡ true) → IsRising cell_before (xs ++ c ∷ [])
rising_last [] c r h = (All-from_members (λ y. IsTrue (cell_before c y)) [] (λ y m. absurd (no_member y m)), tt)
rising_last (x ∷ xs) c r h = (
  All-from_members (λ y. IsTrue (cell_before x y)) (xs ++ c ∷ []) (λ y m. elim (Contains-append_cases xs (c ∷ []) y m) [
    | inl k ↦ All-contains (λ y. IsTrue (cell_before x y)) xs y r.0 k
    | inr k ↦ subst (λ z. cell_before x z ≡ true) (one c y k) (h x (member_here x xs))
  ]),
  rising_last xs c r.1 (λ y m. h y (Contains-append_right (x ∷ []) xs y m)),
)
  where
    one : (c y : Cell) → Contains (c ∷ []) y → c ≡ y
    one c y k = elim (member_cases c [] y k) [ inl e ↦ e | inr n ↦ absurd (no_member y n) ]

abbrev pub is_left : Window → List ℕ → List ℕ → Cell → Bool
is_left w kept taken c = is_marked w kept c && not (is_marked w taken c)

module _ (w : Window) (kept taken : List ℕ) where
  left_in : (c : Cell) → is_left w kept taken c ≡ true → IsIn w c
  left_in c h = (marked-true w kept c (and_parts (is_marked w kept c) (not (is_marked w taken c)) h).0).0

  pub listed_more : (at : ℕ) (c : Cell) (xs : List Cell) → IsIn w c → order w c ≡ at → is_left w kept taken c ≡ true → IsListed w kept taken at xs → IsListed w kept taken (at + 1) (xs ++ c ∷ [])
  listed_more at c xs i p h old =
      let P : Cell → Type 0 = λ c. (is_left w kept taken c ≡ true) × (order w c < at) in
      let Q : Cell → Type 0 = λ c. (is_left w kept taken c ≡ true) × (order w c < at + 1) in
      record {
        rising = rising_last xs c old.rising (λ x m. let q = All-contains P xs x old.only m in order_before w x c (left_in x q.0) i (let l = q.1 in omega (arith, l, p)));
        only = All-from_members Q (xs ++ c ∷ []) (λ x m. elim (Contains-append_cases xs (c ∷ []) x m) [
          | inl k ↦ let q = All-contains P xs x old.only k in (q.0, let l = q.1 in omega (arith, l))
          | inr k ↦ elim (member_cases c [] x k) [ inl e ↦ subst Q e (h, omega (arith, p)) | inr n ↦ absurd (no_member x n) ]
        ]);
        every = λ x q. elim (last_number (order w x) at q.1) [
          | inl l ↦ Contains-append_left xs (c ∷ []) x (old.every x (q.0, l))
          | inr e ↦ Contains-append_right xs (c ∷ []) x (subst (λ z. Contains (c ∷ []) z) (order_same w c x i (left_in x q.0) (p ∙ sym e)) (member_here c []))
        ];
      }

  pub listed_same : (at : ℕ) (c : Cell) (xs : List Cell) → IsIn w c → order w c ≡ at → is_left w kept taken c ≡ false → IsListed w kept taken at xs → IsListed w kept taken (at + 1) xs
  listed_same at c xs i p h old =
      let P : Cell → Type 0 = λ c. (is_left w kept taken c ≡ true) × (order w c < at) in
      let Q : Cell → Type 0 = λ c. (is_left w kept taken c ≡ true) × (order w c < at + 1) in
      record {
        rising = old.rising;
        only = All-from_members Q xs (λ x m. let q = All-contains P xs x old.only m in (q.0, let l = q.1 in omega (arith, l)));
        every = λ x q. elim (last_number (order w x) at q.1) [
          | inl l ↦ old.every x (q.0, l)
          | inr e ↦ absurd (true≢false (sym q.0 ∙ ap (is_left w kept taken) (sym (order_same w c x i (left_in x q.0) (p ∙ sym e))) ∙ h))
        ];
      }

  -- a row where each set bit is taken has nothing to list
  pub listed_skip : (r : ℕ) (xs : List Cell) → ((n : ℕ) → 64 * (r * (w.unit * w.words)) ≤ n → n < 64 * ((r + 1) * (w.unit * w.words)) → bit_of kept n ≡ 1 → bit_of taken n ≡ 1) → IsListed w kept taken (r * wide w) xs → IsListed w kept taken ((r + 1) * wide w) xs
  listed_skip r xs clear old =
      let P : Cell → Type 0 = λ c. (is_left w kept taken c ≡ true) × (order w c < r * wide w) in
      let Q : Cell → Type 0 = λ c. (is_left w kept taken c ≡ true) × (order w c < (r + 1) * wide w) in
      record {
        rising = old.rising;
        only = All-from_members Q xs (λ x m. let q = All-contains P xs x old.only m in (q.0, let l = q.1 in omega (arith, l)));
        every = λ x q. elim (cases_Bool (nat_lt (order w x) (r * wide w))) [
          | inl t ↦ old.every x (q.0, below (order w x) (r * wide w) t)
          | inr f ↦ absurd (none x q.0 (above (order w x) (r * wide w) f) q.1)
        ];
      }
    where
      below : (m n : ℕ) → nat_lt m n ≡ true → m < n
      below m n h = grind arith

      above : (m n : ℕ) → nat_lt m n ≡ false → n ≤ m
      above m n h = grind arith

      -- the row of a number
      in_row : (q k l r : ℕ) → k < l → r * l ≤ q * l + k → q * l + k < (r + 1) * l → q ≡ r
      in_row q k l r less from to = elim (cases_Bool (nat_lt q r)) [
        | inl t ↦ let h : (q + 1) * l ≤ r * l = mul-le (q + 1) l r l (next (below q r t)) (omega arith) in absurd (omega (arith, h, less, from))
        | inr f ↦ elim (cases_Bool (nat_lt r q)) [
          | inl t ↦ let h : (r + 1) * l ≤ q * l = mul-le (r + 1) l q l (next (below r q t)) (omega arith) in absurd (omega (arith, h, to))
          | inr e ↦ let a = above q r f in let b = above r q e in omega (arith, a, b)
        ]
      ]
        where
          next : {m n : ℕ} → m < n → m + 1 ≤ n
          next l = omega (arith, l)

      bounds : (r s u k words : ℕ) → s < u → k < 64 * words → (64 * (r * (u * words)) ≤ (r * u + s) * (64 * words) + k) × ((r * u + s) * (64 * words) + k < 64 * ((r + 1) * (u * words)))
      bounds r s u k words l m =
          let a : r * u * (64 * words) ≤ (r * u + s) * (64 * words) = mul-le (r * u) (64 * words) (r * u + s) (64 * words) (omega arith) (omega arith) in
          let c : (r * u + s) * (64 * words) + k < 64 * words * ((r + 1) * u) = mul-add-lt (r * u + s) (64 * words) k ((r + 1) * u) (omega (arith, l)) m in
          (subst (λ n. n ≤ (r * u + s) * (64 * words) + k) (first r u words) (omega (arith, a)), subst (λ n. (r * u + s) * (64 * words) + k < n) (second r u words) c)
        where
          first : (r u words : ℕ) → r * u * (64 * words) ≡ 64 * (r * (u * words))
          first r u words = omega arith

          second : (r u words : ℕ) → 64 * words * ((r + 1) * u) ≡ 64 * ((r + 1) * (u * words))
          second r u words = omega arith

      none : (c : Cell) → is_left w kept taken c ≡ true → r * wide w ≤ order w c → order w c < (r + 1) * wide w → ⊥
      none c h from to =
          let both = and_parts (is_marked w kept c) (not (is_marked w taken c)) h in
          let m = marked-true w kept c both.0 in
          let at : row w c ≡ r = in_row (row w c) (column w c) (wide w) r m.0.a_high from to in
          let b = bounds (row w c) (column w c % w.unit) w.unit (column w c / w.unit) w.words (mod_less (column w c) w.unit w.some) (spot_below w c m.0) in
          let t = clear (place w c) (subst (λ q. 64 * (q * (w.unit * w.words)) ≤ place w c) at b.0) (subst (λ q. place w c < 64 * ((q + 1) * (w.unit * w.words))) at b.1) m.1 in
          not_true (is_marked w taken c) both.1 (marked-is w taken c m.0 t)
        where
          not_true : (b : Bool) → not b ≡ true → b ≡ true → ⊥
          not_true true h k = true≢false (sym h)
          not_true false h k = true≢false (sym k)

  pub listed_all : (at : ℕ) (xs : List Cell) → at ≡ w.tall → IsListed w kept taken (at * wide w) xs → ListsExactly cell_before (λ c. is_left w kept taken c ≡ true) xs
  listed_all at xs e old =
      let P : Cell → Type 0 = λ c. (is_left w kept taken c ≡ true) × (order w c < at * wide w) in
      record {
        rising = old.rising;
        only = All-from_members (λ c. is_left w kept taken c ≡ true) xs (λ x m. (All-contains P xs x old.only m).0);
        every = λ x q. old.every x (q, subst (λ n. order w x < n * wide w) (sym e) (order_below w x (left_in x q)));
      }

-- what follows from a fact of an answer
pub if_ok : {X E : Type 0} (P Q : X → Type 0) (r : Result X E) → ((x : X) → P x → Q x) → IfOk r P → IfOk r Q
if_ok P Q (Ok x) f h = f x h
if_ok P Q (Err e) f h = h
