-- Several writes at the end of a text.
use Rattle.std.proofs.Common.{◌≡◌, ℕ, ◌≤◌, List, [], ◌++◌, length, take, sym, ap, ◌∙◌, refl, append_assoc, arith}
use Rattle.std.proofs.lemmas.List.{append-nil, take_at, take-take, length-append}

-- a write after another one keeps what stood before both
pub kept_through : (old t mid new : List ℕ) → mid ≡ old ++ t → take (length mid) new ≡ mid → take (length old) new ≡ old
kept_through old t mid new e k =
    let short : length old ≤ length mid = omega (arith, ap length e, length-append old t) in
    sym (take-take (length old) (length mid) new short) ∙ ap (λ (x : List ℕ). take (length old) x) (k ∙ e) ∙ take_at old t (length old) refl

-- six writes, one, and four more, where a last empty one stands behind the six and the four
pub eleven_writes : (o0 o1 o2 a b c d e f h i j k l : List ℕ) → o1 ≡ o0 ++ (a ++ (b ++ (c ++ (d ++ (e ++ (f ++ [])))))) → o2 ≡ o1 ++ h → o2 ++ (i ++ (j ++ (k ++ (l ++ [])))) ≡ o0 ++ (a ++ b ++ (c ++ d ++ e ++ f) ++ h ++ (i ++ j ++ k ++ l))
eleven_writes o0 o1 o2 a b c d e f h i j k l p q = rw (q, p) (simp (append_assoc, append-nil))
