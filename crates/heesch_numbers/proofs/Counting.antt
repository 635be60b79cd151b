-- Sums of counts, and the clause of a number in a list that comes in parts.
use Rattle.std.proofs.Common.{◌≡◌, refl, sym, ap, ◌∙◌, ℕ, zero, suc, ◌+◌, ◌-◌, ◌<◌, ◌≤◌, List, [], ◌∷◌, ◌++◌, map, length, get_or, take, drop, All, inl, inr, arith}
use Rattle.std.specs.Prelude.{flat_map, sum}
use Rattle.std.specs.List.Sorted.{IsNonDecreasingBy}
use Rattle.std.proofs.lemmas.Bool.{cases_order}
use Rattle.std.proofs.lemmas.List.{get_or-take, get_or-drop, length-take, length-drop, length-map}
use Rattle.std.proofs.lemmas.List.Concat.{length-flat_map, get_or-flat_map}
use Rattle.std.proofs.lemmas.List.Sums.{sum_by-cons, sum-map}
use Rattle.heesch_io.specs.Pieces.{AreEnds, start_at}
use Rattle.heesch_numbers.specs.Counts.{gaps, FallsIn}

pub length-gaps : (start : ℕ) (ends : List ℕ) → length (gaps start ends) ≡ length ends
length-gaps start [] = refl
length-gaps start (e ∷ es) = ap (λ n. suc n) (length-gaps e es)

starts : (start : ℕ) (ends : List ℕ) (size : ℕ) → AreEnds start ends size → start ≤ size
starts start [] size a = omega arith
starts start (e ∷ es) size a = let le = starts e es size a.1 in let low = a.0 in omega arith

pub sum-gaps : (start : ℕ) (ends : List ℕ) (size : ℕ) → AreEnds start ends size → start + sum (gaps start ends) ≡ size
sum-gaps start [] size a = omega (arith, a)
sum-gaps start (e ∷ es) size a =
    let s = sum_by-cons (λ (n : ℕ). n) (e - start) (gaps e es) in
    let low = a.0 in
    let rest = sum-gaps e es size a.1 in
    omega (arith, s, low, rest)

-- the sum before a part is where it begins
pub sum-before : (start : ℕ) (ends : List ℕ) (size i : ℕ) → AreEnds start ends size → i ≤ length ends → start + sum (take i (gaps start ends)) ≡ start_at start ends i
sum-before start ends size zero a l = omega arith
sum-before start [] size (suc i) a l = absurd (omega arith)
sum-before start (e ∷ es) size (suc i) a l =
    let s = sum_by-cons (λ (n : ℕ). n) (e - start) (take i (gaps e es)) in
    let low = a.0 in
    let rest = sum-before e es size i a.1 (omega arith) in
    omega (arith, s, low, rest)

-- where a part that isn't the first begins, as it is read
pub start-sum : (ends : List ℕ) (size part : ℕ) → AreEnds 0 ends size → part ≤ length ends → ¬ (part ≡ 0) → get_or ends (part - 1) 0 ≡ sum (take part (gaps 0 ends))
start-sum ends size part a l some =
    let s = sum-before 0 ends size part a l in
    let k : part ≡ suc (part - 1) = omega (arith, some) in
    let r : start_at 0 ends part ≡ get_or ends (part - 1) 0 = ap (λ n. get_or (0 ∷ ends) n 0) k in
    omega (arith, s, r)

pub gap-at : (start : ℕ) (ends : List ℕ) (i : ℕ) → i < length ends → get_or (gaps start ends) i 0 ≡ get_or ends i 0 - start_at start ends i
gap-at start [] i l = absurd (omega arith)
gap-at start (e ∷ es) zero l = refl
gap-at start (e ∷ es) (suc i) l = gap-at e es i (omega arith)

pub gaps-push : (start : ℕ) (ends : List ℕ) (size count : ℕ) → AreEnds start ends size → gaps start (ends ++ (size + count) ∷ []) ≡ gaps start ends ++ count ∷ []
gaps-push start [] size count a = let e : size + count - start ≡ count = omega (arith, a) in ap (λ n. n ∷ []) e
gaps-push start (e ∷ es) size count a = ap (λ ns. (e - start) ∷ ns) (gaps-push e es size count a.1)

end-from : (start : ℕ) (ends : List ℕ) (size i d : ℕ) → AreEnds start ends size → i < length ends → start ≤ get_or ends i d
end-from start [] size i d a l = absurd (omega arith)
end-from start (e ∷ es) size zero d a l = a.0
end-from start (e ∷ es) size (suc i) d a l = let low = a.0 in let rest = end-from e es size i d a.1 (omega arith) in omega arith

pub ends-rise : (start : ℕ) (ends : List ℕ) (size : ℕ) → AreEnds start ends size → IsNonDecreasingBy (λ (n : ℕ). n) ends
ends-rise start [] size a i j d le l = absurd (omega arith)
ends-rise start (e ∷ es) size a zero zero d le l = omega arith
ends-rise start (e ∷ es) size a zero (suc j) d le l = end-from e es size j d a.1 (omega arith)
ends-rise start (e ∷ es) size a (suc i) zero d le l = absurd (omega arith)
ends-rise start (e ∷ es) size a (suc i) (suc j) d le l = ends-rise e es size a.1 i j d (omega arith) (omega arith)

-- the last end is the size
last-end : (start : ℕ) (ends : List ℕ) (size : ℕ) → AreEnds start ends size → 0 < length ends → get_or ends (length ends - 1) 0 ≡ size
last-end start [] size a l = absurd (omega arith)
last-end start (e ∷ []) size a l = a.1
last-end start (e ∷ f ∷ es) size a l = let k : length (e ∷ f ∷ es) - 1 ≡ suc (length (f ∷ es) - 1) = omega arith in ap (λ n. get_or (e ∷ f ∷ es) n 0) k ∙ last-end e (f ∷ es) size a.1 (omega arith)

-- where a place falls, by the ends before it
module _ (ends : List ℕ) (size place part : ℕ) (a : AreEnds 0 ends size) (to : place < size) (bound : part ≤ length ends) (below : All (λ m. m ≤ place) (take part ends)) (above : All (λ m. place < m) (drop part ends)) where
  part_within : part < length ends
  part_within =
      elim (cases_order part (length ends)) [
        | inr o ↦ elim o [ inl l ↦ l | inr l ↦ absurd (omega arith) ]
        | inl e ↦
            elim (cases_order 0 (length ends)) [
              | inl none ↦ absurd (no_ends ends a (sym none))
              | inr o ↦ elim o [
                | inr l ↦ absurd (omega arith)
                | inl l ↦
                    let k : ℕ = length ends - 1 in
                    let less : k < part = omega (arith, e, l) in
                    let long = length-take part ends in
                    let h : get_or (take part ends) k 0 ≤ place = below k 0 (omega (arith, long, less, bound)) in
                    let is : get_or (take part ends) k 0 ≡ get_or ends k 0 = get_or-take part ends k 0 less in
                    let last = last-end 0 ends size a l in
                    absurd (omega (arith, h, is, last, to))
              ]
            ]
      ]
    where
      no_ends : (es : List ℕ) → AreEnds 0 es size → length es ≡ 0 → ⊥
      no_ends [] b e = omega (arith, b, to)
      no_ends (x ∷ es) b e = omega arith

  end_behind : place < get_or ends part 0
  end_behind =
      let long = length-drop part ends in
      let h : place < get_or (drop part ends) 0 0 = above 0 0 (omega (arith, long, part_within)) in
      let same : part + 0 ≡ part = omega arith in
      let is : get_or (drop part ends) 0 0 ≡ get_or ends part 0 = get_or-drop part ends 0 0 ∙ ap (λ k. get_or ends k 0) same in
      omega (arith, h, is)

  start_before : start_at 0 ends part ≤ place
  start_before = go part bound below
    where
      go : (p : ℕ) → p ≤ length ends → All (λ m. m ≤ place) (take p ends) → start_at 0 ends p ≤ place
      go zero b h = omega arith
      go (suc p) b h =
          let long = length-take (suc p) ends in
          let less : p < suc p = omega arith in
          let k : get_or (take (suc p) ends) p 0 ≤ place = h p 0 (omega (arith, long, b)) in
          let is : get_or (take (suc p) ends) p 0 ≡ get_or ends p 0 = get_or-take (suc p) ends p 0 less in
          omega (arith, k, is)

  pub falls : (start : ℕ) → start ≡ sum (take part (gaps 0 ends)) → (start ≤ place) × FallsIn (gaps 0 ends) place part (place - start)
  falls start is =
      let less = start_before in
      let reach = end_behind in
      let gap = gap-at 0 ends part part_within in
      let sums = sum-before 0 ends size part a bound in
      let long = length-gaps 0 ends in
      let in_range = part_within in (
        omega (arith, less, is, sums),
        record {
          part_is = omega (arith, in_range, long);
          within = omega (arith, gap, reach, is, less, sums);
          before = omega (arith, sums, is, less);
        },
      )

-- ---- the thing at a place

module _ {X Y : Type 0} (f : X → List Y) (xs : List X) where
  abbrev pub counts_of : List ℕ
  counts_of = map (λ x. length (f x)) xs

  sum-counts : (ys : List X) → sum (map (λ x. length (f x)) ys) ≡ length (flat_map f ys)
  sum-counts ys = sum-map (λ x. length (f x)) ys ∙ sym (length-flat_map f ys)

  -- there are as many as the parts have
  pub all_counted : sum counts_of ≡ length (flat_map f xs)
  all_counted = sum-counts xs

  take-map : (i : ℕ) (ys : List X) → take i (map (λ x. length (f x)) ys) ≡ map (λ x. length (f x)) (take i ys)
  take-map zero ys = refl
  take-map (suc i) [] = refl
  take-map (suc i) (y ∷ ys) = ap (λ ns. length (f y) ∷ ns) (take-map i ys)

  map-at : (i : ℕ) (ys : List X) (e : X) → i < length ys → get_or (map (λ x. length (f x)) ys) i 0 ≡ length (f (get_or ys i e))
  map-at i [] e l = absurd (omega arith)
  map-at zero (y ∷ ys) e l = refl
  map-at (suc i) (y ∷ ys) e l = map-at i ys e (omega arith)

  -- the thing at a place is that at its place in its part
  pub found : (place part rest : ℕ) (e : X) (d : Y) → FallsIn counts_of place part rest → (part < length xs) × (rest < length (f (get_or xs part e))) × (get_or (flat_map f xs) place d ≡ get_or (f (get_or xs part e)) rest d)
  found place part rest e d falls =
      let long = length-map xs (λ x. length (f x)) in
      let in_range = falls.part_is in
      let to = falls.within in
      let l : part < length xs = omega (arith, long, in_range) in
      let at = map-at part xs e l in
      let fits : rest < length (f (get_or xs part e)) = omega (arith, at, to) in
      let sums = falls.before in
      let start = ap sum (take-map part xs) ∙ sum-counts (take part xs) in
      let split : place ≡ length (flat_map f (take part xs)) + rest = omega (arith, sums, start) in
      (l, fits, ap (λ k. get_or (flat_map f xs) k d) split ∙ get_or-flat_map f xs part rest e d l fits)
