-- Candidates by their places in a list.
use Rattle.std.proofs.Common.{◌≡◌, refl, sym, ap, ◌∙◌, ℕ, ◌+◌, ◌-◌, ◌<◌, ◌≤◌, Bool, true, false, cond, List, [], ◌∷◌, ◌++◌, length, get_or, set, take, drop, filter, inl, inr, arith}
use mir.Val.{bool_byte}
use Rattle.std.proofs.lemmas.Bool.{cases_Bool}
use Rattle.std.proofs.lemmas.List.{get_or_append_left, get_or_default, get_or-drop, get_or-take, take_more_set, take-set, length-drop, append_assoc, append-nil}
use Rattle.std.proofs.lemmas.List.Elements.{filter_more}

-- what stands in a list that has grown since
pub candidate_at : (old new added : List ℕ) (from k x : ℕ) → new ≡ old ++ added → from ≤ k → k < length old → x ≡ get_or new k x → x ≡ get_or (drop from old) (k - from) 0
candidate_at old new added from k x grown low l read =
    read
    ∙ ap (λ xs. get_or xs k x) grown
    ∙ get_or_append_left old added x k l
    ∙ get_or_default old k x 0 l
    ∙ ap (λ n. get_or old n 0) (sum from k low)
    ∙ sym (get_or-drop from old (k - from) 0)
  where
    sum : (from k : ℕ) → from ≤ k → k ≡ from + (k - from)
    sum from k l = omega arith

pub next_place : (from k : ℕ) → from ≤ k → k - from + 1 ≡ k + 1 - from
next_place from k l = omega arith

pub within_drop : (old : List ℕ) (from k : ℕ) → from ≤ k → k < length old → k - from < length (drop from old)
within_drop old from k low l = let e = length-drop from old in omega (arith, e)

kept_more : (p : ℕ → Bool) (old mid : List ℕ) (from k x : ℕ) (b : Bool) → mid ≡ old ++ filter p (take (k - from) (drop from old)) → x ≡ get_or (drop from old) (k - from) 0 → from ≤ k → k < length old → p x ≡ b → mid ++ cond b (x ∷ []) [] ≡ old ++ filter p (take (k + 1 - from) (drop from old))
kept_more p old mid from k x b is at low l test =
    ap (λ xs. xs ++ cond b (x ∷ []) []) is
    ∙ append_assoc old (filter p (take (k - from) (drop from old))) (cond b (x ∷ []) [])
    ∙ ap (λ t. old ++ (filter p (take (k - from) (drop from old)) ++ cond t (x ∷ []) [])) (sym test)
    ∙ ap (λ y. old ++ (filter p (take (k - from) (drop from old)) ++ cond (p y) (y ∷ []) [])) at
    ∙ ap (λ ys. old ++ ys) (sym (filter_more p (drop from old) (k - from) 0 (within_drop old from k low l)))
    ∙ ap (λ n. old ++ filter p (take n (drop from old))) (next_place from k low)

pub kept_yes : (p : ℕ → Bool) (old mid : List ℕ) (from k x : ℕ) → mid ≡ old ++ filter p (take (k - from) (drop from old)) → x ≡ get_or (drop from old) (k - from) 0 → from ≤ k → k < length old → p x ≡ true → mid ++ (x ∷ []) ≡ old ++ filter p (take (k + 1 - from) (drop from old))
kept_yes p old mid from k x is at low l test = kept_more p old mid from k x true is at low l test

pub kept_no : (p : ℕ → Bool) (old mid : List ℕ) (from k x : ℕ) → mid ≡ old ++ filter p (take (k - from) (drop from old)) → x ≡ get_or (drop from old) (k - from) 0 → from ≤ k → k < length old → p x ≡ false → mid ≡ old ++ filter p (take (k + 1 - from) (drop from old))
kept_no p old mid from k x is at low l test = sym (append-nil mid) ∙ kept_more p old mid from k x false is at low l test

-- the next candidate is written behind those that are kept, and stays where the test keeps it
pub written : (p : ℕ → Bool) (old now : List ℕ) (from k top x r : ℕ) → take top now ≡ old ++ filter p (take (k - from) (drop from old)) → x ≡ get_or (drop from old) (k - from) 0 → from ≤ k → k < length old → top < length now → r ≡ cond (p x) 1 0 → take (top + r) (set now top x) ≡ old ++ filter p (take (k + 1 - from) (drop from old))
written p old now from k top x r kept at low less within count =
    elim (cases_Bool (p x)) [
      | inl t ↦
          ap (λ n. take (top + n) (set now top x)) (count ∙ ap (λ b. cond b 1 0) t)
          ∙ take_more_set now top x within
          ∙ kept_yes p old (take top now) from k x kept at low less t
      | inr t ↦
          ap (λ n. take n (set now top x)) (ap (λ n. top + n) (count ∙ ap (λ b. cond b 1 0) t) ∙ none top)
          ∙ take-set now top x
          ∙ kept_no p old (take top now) from k x kept at low less t
    ]
  where
    none : (n : ℕ) → n + 0 ≡ n
    none n = omega arith

-- what stands below those that are written is as it was
pub candidate_below : (old now added : List ℕ) (from k top x : ℕ) → take top now ≡ old ++ added → from ≤ k → k < length old → k < top → x ≡ get_or now k x → x ≡ get_or (drop from old) (k - from) 0
candidate_below old now added from k top x grown low less below read =
    candidate_at old (take top now) added from k x grown low less (read ∙ sym (get_or-take top now k x below))

-- a test as a number
pub byte_is : (b : Bool) → bool_byte b ≡ cond b 1 0
byte_is true = refl
byte_is false = refl

pub byte_at_most : (b : Bool) (r : ℕ) → r ≡ cond b 1 0 → r ≤ 1
byte_at_most true r e = omega (arith, e)
byte_at_most false r e = omega (arith, e)
