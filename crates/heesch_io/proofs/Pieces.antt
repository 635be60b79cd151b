-- Lists that lie one after another in one list: how many, where each lies, and one more behind them.
use Rattle.std.proofs.Common.{◌≡◌, ℕ, zero, suc, ◌+◌, ◌-◌, ◌<◌, ◌≤◌, List, [], ◌∷◌, ◌++◌, length, get_or, take, drop, slice_range, sym, ap, ◌∙◌, refl, subst, arith, length-drop}
use Rattle.std.proofs.lemmas.List.{drop-append-le, take-append-le, take_all, drop_at}
use Rattle.heesch_io.specs.Pieces.{pieces, AreEnds, start_at}

pub length-pieces : {X : Type 0} → (items : List X) (start : ℕ) (ends : List ℕ) → length (pieces items start ends) ≡ length ends
length-pieces items start [] = refl
length-pieces items start (e ∷ es) = ap (λ n. suc n) (length-pieces items e es)

-- the start is at most the size
ends-size : (start : ℕ) (ends : List ℕ) (size : ℕ) → AreEnds start ends size → start ≤ size
ends-size start [] size a = omega arith
ends-size start (e ∷ es) size a = let le = ends-size e es size a.1 in let low = a.0 in omega arith

-- a piece begins before it ends
pub start-end : (start : ℕ) (ends : List ℕ) (size i : ℕ) → AreEnds start ends size → i < length ends → start_at start ends i ≤ get_or ends i 0
start-end start [] size i a lt = absurd (omega arith)
start-end start (e ∷ es) size zero a lt = a.0
start-end start (e ∷ es) size (suc i) a lt = start-end e es size i a.1 (omega arith)

-- and ends within the list
pub end-size : (start : ℕ) (ends : List ℕ) (size i : ℕ) → AreEnds start ends size → i < length ends → get_or ends i 0 ≤ size
end-size start [] size i a lt = absurd (omega arith)
end-size start (e ∷ es) size zero a lt = ends-size e es size a.1
end-size start (e ∷ es) size (suc i) a lt = end-size e es size i a.1 (omega arith)

-- the piece of an index
pub pieces-at : {X : Type 0} → (items : List X) (start : ℕ) (ends : List ℕ) (i : ℕ) → i < length ends → get_or (pieces items start ends) i [] ≡ slice_range items (start_at start ends i) (get_or ends i 0)
pieces-at items start [] i lt = absurd (omega arith)
pieces-at items start (e ∷ es) zero lt = refl
pieces-at items start (e ∷ es) (suc i) lt = pieces-at items e es i (omega arith)

-- a range within the first list
range-append : {X : Type 0} → (xs ys : List X) (i j : ℕ) → i ≤ j → j ≤ length xs → slice_range (xs ++ ys) i j ≡ slice_range xs i j
range-append xs ys i j le fits =
    ap (take (j - i)) (drop-append-le i xs ys (omega arith)) ∙ take-append-le (j - i) (drop i xs) ys (omega (arith, length-drop i xs))

-- the range of the second list
range-last : {X : Type 0} → (xs ys : List X) (j : ℕ) → j ≡ length xs + length ys → slice_range (xs ++ ys) (length xs) j ≡ ys
range-last xs ys j is = ap (take (j - length xs)) (drop_at xs ys (length xs) refl) ∙ take_all (j - length xs) ys (omega arith)

-- one more piece
pub pieces-push : {X : Type 0} → (xs ys : List X) (start : ℕ) (ends : List ℕ) (j : ℕ) → AreEnds start ends (length xs) → j ≡ length xs + length ys → pieces (xs ++ ys) start (ends ++ j ∷ []) ≡ pieces xs start ends ++ ys ∷ []
pieces-push xs ys start [] j a is = ap (λ piece. piece ∷ []) (subst (λ s. slice_range (xs ++ ys) s j ≡ ys) (sym a) (range-last xs ys j is))
pieces-push xs ys start (e ∷ es) j a is =
    ap (λ piece. piece ∷ pieces (xs ++ ys) e (es ++ j ∷ [])) (range-append xs ys start e a.0 (ends-size e es (length xs) a.1))
    ∙ ap (λ rest. slice_range xs start e ∷ rest) (pieces-push xs ys e es j a.1 is)

pub AreEnds-push : (start : ℕ) (ends : List ℕ) (size j : ℕ) → AreEnds start ends size → size ≤ j → AreEnds start (ends ++ j ∷ []) j
AreEnds-push start [] size j a le = (omega (arith, a), refl)
AreEnds-push start (e ∷ es) size j a le = (a.0, AreEnds-push e es size j a.1 le)
