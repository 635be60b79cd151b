-- Bytes cut into blocks.
use Rattle.std.proofs.Common.{◌≡◌, ℕ, zero, suc, ◌+◌, ◌<◌, ◌≤◌, ◌==◌, ◌&&◌, if◌then◌else◌, Bool, true, false, List, [], ◌∷◌, ◌++◌, length, get_or, take, drop, codes, refl, sym, ap, subst, ◌∙◌, arith}
use Rattle.std.proofs.lemmas.List.{drop-drop}
use Rattle.heesch_reader.specs.Faults.{begins, begins_next}
use Rattle.heesch_check.specs.Catalogues.{block_of, behind_block}
use Rattle.heesch_outer_check.specs.Rounds.{AreBlocks, EndsAt}

-- ---- one block

-- the block goes on behind so many bytes
pub record GoesOn (bytes : List ℕ) (i : ℕ) : Type 0 where
  pub block : block_of bytes ≡ take i bytes ++ block_of (drop i bytes)
  pub behind : behind_block bytes ≡ behind_block (drop i bytes)

pub front : (bytes : List ℕ) → GoesOn bytes 0
front bytes = record { block = refl; behind = refl }

next_is : (i : ℕ) → suc i ≡ i + 1
next_is i = omega arith

-- a byte that doesn't end it is of it
pub goes_further : (bytes : List ℕ) (i d : ℕ) → i < length bytes → (get_or bytes i d == 10 && begins_next (drop (i + 1) bytes)) ≡ false → GoesOn bytes i → GoesOn bytes (i + 1)
goes_further bytes i d lt e on =
    let s = step bytes i lt (subst (λ (n : ℕ). (get_or bytes i d == 10 && begins_next (drop n bytes)) ≡ false) (sym (next_is i)) e) in
    subst (GoesOn bytes) (next_is i) (record { block = on.block ∙ s.0; behind = on.behind ∙ s.1 })
  where
    step : (xs : List ℕ) (k : ℕ) → k < length xs → (get_or xs k d == 10 && begins_next (drop (suc k) xs)) ≡ false
        → (take k xs ++ block_of (drop k xs) ≡ take (suc k) xs ++ block_of (drop (suc k) xs)) × (behind_block (drop k xs) ≡ behind_block (drop (suc k) xs))
    step [] k less same = absurd (omega (arith, less))
    step (x ∷ xs) zero less same = (ap (λ (t : Bool). if t then x ∷ [] else x ∷ block_of xs) same, ap (λ (t : Bool). if t then xs else behind_block xs) same)
    step (x ∷ xs) (suc k) less same = let s = step xs k (omega (arith, less)) same in (ap (λ (ys : List ℕ). x ∷ ys) s.0, s.1)

-- a byte that ends it is its last
pub ends_here : (bytes : List ℕ) (i d : ℕ) → i < length bytes → (get_or bytes i d == 10 && begins_next (drop (i + 1) bytes)) ≡ true → GoesOn bytes i → EndsAt bytes (i + 1)
ends_here bytes i d lt e on =
    let s = step bytes i lt (subst (λ (n : ℕ). (get_or bytes i d == 10 && begins_next (drop n bytes)) ≡ true) (sym (next_is i)) e) in
    subst (EndsAt bytes) (next_is i) (record { block = sym (on.block ∙ s.0); behind = sym (on.behind ∙ s.1) })
  where
    step : (xs : List ℕ) (k : ℕ) → k < length xs → (get_or xs k d == 10 && begins_next (drop (suc k) xs)) ≡ true
        → (take k xs ++ block_of (drop k xs) ≡ take (suc k) xs) × (behind_block (drop k xs) ≡ drop (suc k) xs)
    step [] k less same = absurd (omega (arith, less))
    step (x ∷ xs) zero less same = (ap (λ (t : Bool). if t then x ∷ [] else x ∷ block_of xs) same, ap (λ (t : Bool). if t then xs else behind_block xs) same)
    step (x ∷ xs) (suc k) less same = let s = step xs k (omega (arith, less)) same in (ap (λ (ys : List ℕ). x ∷ ys) s.0, s.1)

-- where it goes on behind all bytes, it ends there
pub ends_last : (bytes : List ℕ) (i : ℕ) → length bytes ≤ i → GoesOn bytes i → EndsAt bytes i
ends_last bytes i past on =
    let s = step bytes i past in
    record { block = sym (on.block ∙ s.0); behind = sym (on.behind ∙ s.1) }
  where
    step : (xs : List ℕ) (k : ℕ) → length xs ≤ k → (take k xs ++ block_of (drop k xs) ≡ take k xs) × (behind_block (drop k xs) ≡ drop k xs)
    step [] zero less = (refl, refl)
    step [] (suc k) less = (refl, refl)
    step (x ∷ xs) zero less = absurd (omega (arith, less))
    step (x ∷ xs) (suc k) less = let s = step xs k (omega (arith, less)) in (ap (λ (ys : List ℕ). x ∷ ys) s.0, s.1)

-- ---- blocks

-- one more block behind others
pub more_blocks : (bytes : List ℕ) (blocks : List (List ℕ)) (rest : List ℕ) → AreBlocks bytes blocks rest → begins rest (codes "shape ") ≡ true → AreBlocks bytes (blocks ++ block_of rest ∷ []) (behind_block rest)
more_blocks bytes [] rest are begin = (subst (λ (x : List ℕ). begins x (codes "shape ") ≡ true) (sym are) begin, ap block_of (sym are), ap behind_block are)
more_blocks bytes (block ∷ blocks) rest are begin = (are.0, are.1, more_blocks (behind_block bytes) blocks rest are.2 begin)

-- the same of a copy of the block that stands behind so many bytes
pub next_block : (bytes : List ℕ) (blocks : List (List ℕ)) (far more : ℕ) (rest copy : List ℕ) → AreBlocks bytes blocks (drop far bytes) → rest ≡ drop far bytes → begins rest (codes "shape ") ≡ true → EndsAt rest more → copy ≡ take more rest
    → AreBlocks bytes (blocks ++ copy ∷ []) (drop (far + more) bytes)
next_block bytes blocks far more rest copy are is begin ends same =
    let here : AreBlocks bytes blocks rest = subst (AreBlocks bytes blocks) (sym is) are in
    let behind : behind_block rest ≡ drop (far + more) bytes = sym ends.behind ∙ ap (drop more) is ∙ drop-drop more far bytes in
    subst (AreBlocks bytes (blocks ++ copy ∷ [])) behind
    (subst (λ (b : List ℕ). AreBlocks bytes (blocks ++ b ∷ []) (behind_block rest)) (sym (same ∙ ends.block)) (more_blocks bytes blocks rest here begin))

-- where nothing was cut yet
pub no_blocks : (bytes : List ℕ) → AreBlocks bytes [] (drop 0 bytes)
no_blocks bytes = refl
