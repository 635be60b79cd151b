-- A word at the front of a text.
use Rattle.std.proofs.Common.{◌≡◌, ℕ, Bool, true, false, cond, ◌&&◌, eqb, List, [], ◌∷◌, length, take, drop, Option, Some, None, MatchOption, Bor, ◌+◌, refl}
use lib.Pointwise.{pointwise}
use Rattle.std.specs.Prelude.{nat_eq}
use Rattle.heesch_line.specs.Reading.{literal_at}

found_step : {A : Type 0} (t p : Bool) (x y : Option A) → (t && p) ≡ true → (p ≡ true → x ≡ y) → cond t x None ≡ y
found_step true p x y h f = f h
found_step false p x y h f = absurd cc

missing_step : {A : Type 0} (t p : Bool) (x : Option A) → (t && p) ≡ false → (p ≡ false → x ≡ None) → cond t x None ≡ None
missing_step true p x h f = f h
missing_step false p x h f = refl

-- the test of `strip_prefix`
pub literal_found : (word bytes : List ℕ) → pointwise nat_eq (take (length word) bytes) word ≡ true → literal_at word bytes ≡ Some (drop (length word) bytes)
literal_found [] bytes h = refl
literal_found (c ∷ cs) [] h = absurd cc
literal_found (c ∷ cs) (b ∷ bytes) h = found_step (eqb b c) (pointwise nat_eq (take (length cs) bytes) cs) (literal_at cs bytes) (Some (drop (length cs) bytes)) h (literal_found cs bytes)

pub literal_missing : (word bytes : List ℕ) → pointwise nat_eq (take (length word) bytes) word ≡ false → literal_at word bytes ≡ None
literal_missing [] bytes h = absurd cc
literal_missing (c ∷ cs) [] h = refl
literal_missing (c ∷ cs) (b ∷ bytes) h = missing_step (eqb b c) (pointwise nat_eq (take (length cs) bytes) cs) (literal_at cs bytes) h (literal_missing cs bytes)

-- what `strip_prefix` says of its answer
pub literal_answer : (word bytes : List ℕ) (r : Option (Bor (List ℕ)))
    → MatchOption r (pointwise nat_eq (take (length word) bytes) word ≡ false) (λ x. (pointwise nat_eq (take (length word) bytes) word ≡ true) × (x.now ≡ drop (length word) bytes) × (length x.now + length word ≡ length bytes))
    → MatchOption r (literal_at word bytes ≡ None) (λ x. literal_at word bytes ≡ Some x.now)
literal_answer word bytes None h = literal_missing word bytes h
literal_answer word bytes (Some x) h = rw h.1 (literal_found word bytes h.0)
