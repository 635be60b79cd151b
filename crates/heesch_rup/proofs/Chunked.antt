-- Lines in chunks of 1,024, and the answers on the chunks.
use Rattle.std.proofs.Common.{inl, inr, ◌≡◌, ℕ, zero, suc, ◌+◌, ◌*◌, ◌/◌, ◌%◌, ◌<◌, ◌≤◌, min, Option, None, Some, List, [], ◌∷◌, length, get_or, sym, ap, ◌∙◌, subst, arith}
use Rattle.std.specs.Int.{div_ceil}
use Rattle.std.specs.List.{AllZip, range_with_len}
use Rattle.std.proofs.lemmas.Bool.{cases_lt}
use Rattle.std.proofs.lemmas.Grind.{div_ceil_times}
use Rattle.std.proofs.lemmas.List.FromFn.{length-range_with_len}
use Rattle.std.proofs.lemmas.Slice.Zip.{AllZip-long}
use Rattle.heesch_cnf.specs.declared.literal.Lit.{Lit}
use Rattle.heesch_cnf.specs.declared.log.Line.{Line}
use Rattle.heesch_cnf.specs.Lines.{HoldsAtLine, LinesAreNew}
use Rattle.heesch_rup.specs.Answer.{AreNewBetween, IsFirstFailing}

-- a chunk begins below the end, and the chunks reach it
pub chunk_begins : (n chunks k : ℕ) → chunks ≡ div_ceil n 1024 → k < chunks → k * 1024 < n
chunk_begins n chunks k is lt =
    let same : chunks ≡ n / 1024 + min 1 (n % 1024) = is in
    omega (arith, same, lt, (div_ceil_times n 1024 (omega arith)).1)

pub chunks_reach : (n chunks : ℕ) → chunks ≡ div_ceil n 1024 → n ≤ chunks * 1024
chunks_reach n chunks is =
    let same : chunks ≡ n / 1024 + min 1 (n % 1024) = is in
    omega (arith, same, (div_ceil_times n 1024 (omega arith)).0)

-- what is told of each number from a first one
told_from : {Y : Type 0} (P : ℕ → Y → Type 0) (a n : ℕ) (ys : List Y) → AllZip P (range_with_len a n) ys → (k : ℕ) (d : Y) → k < n → P (a + k) (get_or ys k d)
told_from P a zero ys h k d lt = absurd (omega arith)
told_from P a (suc n) [] h k d lt = absurd h
told_from P a (suc n) (y ∷ ys) h zero d lt = let same : a ≡ a + 0 = omega arith in subst (λ m. P m y) same h.0
told_from P a (suc n) (y ∷ ys) h (suc k) d lt = let same : a + 1 + k ≡ a + suc k = omega arith in subst (λ m. P m (get_or ys k d)) same (told_from P (a + 1) n ys h.1 k d (omega arith))

module _ {Y : Type 0} (P : ℕ → Y → Type 0) (n : ℕ) (ys : List Y) (told : AllZip P (range_with_len 0 n) ys) where
  told_at : (k : ℕ) (d : Y) → k < n → P k (get_or ys k d)
  told_at k d lt = let same : 0 + k ≡ k = omega arith in subst (λ m. P m (get_or ys k d)) same (told_from P 0 n ys told k d lt)

  pub told_length : length ys ≡ n
  told_length = AllZip-long P (range_with_len 0 n) ys told ∙ length-range_with_len 0 n

  -- the same of the items that are these, where one of them is known
  pub told_of : (items : List Y) → items ≡ ys → (k : ℕ) (d y : Y) → k < length items → get_or items k d ≡ y → P k y
  told_of items same k d y lt is =
      let below : k < n = omega (arith, lt, ap length same, told_length) in
      subst (P k) (ap (λ (l : List Y). get_or l k d) (sym same) ∙ is) (told_at k d below)

-- the answer on the chunk of a number, where the lines before it hold
module _ (vars : ℕ) (clauses : List (List Lit)) (lines : List Line) (n k : ℕ) (before : (i : ℕ) → i < k * 1024 → i < n → HoldsAtLine vars clauses lines i) where
  abbrev IsAnswer : Option ℕ → Type 0
  IsAnswer = IsFirstFailing vars clauses lines (k * 1024) (min (k * 1024 + 1024) n)

  pub chunk_holds : (answer : Option ℕ) → IsAnswer answer → answer ≡ None → (i : ℕ) → i < (k + 1) * 1024 → i < n → HoldsAtLine vars clauses lines i
  chunk_holds answer told none i lt below = elim (cases_lt i (k * 1024)) [
    | inl less ↦ before i less below
    | inr past ↦ subst IsAnswer none told i past (omega (arith, lt, below))
  ]

  pub chunk_fails : (answer : Option ℕ) → IsAnswer answer → (at : ℕ) → answer ≡ Some at → IsFirstFailing vars clauses lines 0 n (Some at)
  chunk_fails answer told at some =
      let here = subst IsAnswer some told in (
        omega arith,
        omega (arith, here.1),
        λ i le lt. elim (cases_lt i (k * 1024)) [
          | inl less ↦ before i less (omega (arith, here.1, lt))
          | inr past ↦ here.2 i past lt
        ],
        here.3,
      )

-- the same of whether lines are new
module _ (clauses : List (List Lit)) (lines : List Line) (n k : ℕ) where
  pub chunk_is_new : AreNewBetween clauses lines 0 (min (k * 1024) n) → AreNewBetween clauses lines (k * 1024) (min (k * 1024 + 1024) n) → AreNewBetween clauses lines 0 (min ((k + 1) * 1024) n)
  chunk_is_new before here i d le lt = elim (cases_lt i (k * 1024)) [
    | inl less ↦ before i d (omega arith) (omega (arith, less, lt))
    | inr past ↦ here i d past (omega (arith, lt))
  ]

  pub chunk_of_new : n ≡ length lines → LinesAreNew clauses lines → AreNewBetween clauses lines (k * 1024) (min (k * 1024 + 1024) n)
  chunk_of_new long fresh i d le lt = fresh i d (omega (arith, lt, long))
