-- What reads give of the bytes that a source tells it has left.
use Rattle.std.proofs.Common.{◌≡◌, ℕ, ◌<◌, ◌≤◌, List, [], ◌∷◌, ◌++◌, length, take, Option, Some, None, refl, sym, ap, subst, ◌∙◌, append_assoc, append-nil, arith}
use Rattle.std.specs.Io.KnownBytes.{Consumes, IsAtEnd}
use Rattle.heesch_io.specs.Input.{IsAllOf}
use Rattle.std.proofs.lemmas.List.{take-append-le}

-- known bytes lose what two reads give
pub consumes_both : (old between new : Option (List ℕ)) (xs ys : List ℕ) → Consumes old between xs → Consumes between new ys → Consumes old new (xs ++ ys)
consumes_both None between new xs ys first second = tt
consumes_both (Some all) None new xs ys first second = absurd first
consumes_both (Some all) (Some rest) None xs ys first second = absurd second
consumes_both (Some all) (Some rest) (Some left) xs ys first second = first ∙ ap (λ r. xs ++ r) second ∙ sym (append_assoc xs ys left)

-- and none where none is given
pub consumes_none : (old : Option (List ℕ)) → Consumes old old []
consumes_none None = tt
consumes_none (Some all) = refl

-- at the end all was given
pub all_given : (old new : Option (List ℕ)) (xs : List ℕ) → Consumes old new xs → IsAtEnd new → IsAllOf old xs
all_given None new xs lost at_end = tt
all_given (Some all) None xs lost at_end = absurd lost
all_given (Some all) (Some left) xs lost at_end = sym (lost ∙ ap (λ r. xs ++ r) at_end ∙ append-nil xs)

-- what was given is a front of all
pub front_given : (old new : Option (List ℕ)) (xs : List ℕ) → Consumes old new xs → (rest : List ℕ) × IsAllOf old (xs ++ rest)
front_given None new xs lost = ([], tt)
front_given (Some all) None xs lost = absurd lost
front_given (Some all) (Some left) xs lost = (left, sym lost)

-- one byte was read into room for one
pub one_byte : (before now : Option (List ℕ)) (count : ℕ) (room : List ℕ) → length room ≡ 1 → count ≤ 1 → 0 < count → Consumes before now (take count room) → (byte : ℕ) × Consumes before now (byte ∷ [])
one_byte before now count [] long most some c = absurd (omega arith)
one_byte before now count (byte ∷ x ∷ room) long most some c = absurd (omega arith)
one_byte before now count (byte ∷ []) long most some c = let n : count ≡ 1 = omega arith in (byte, subst (λ (k : ℕ). Consumes before now (take k (byte ∷ []))) n c)

-- what was read stands first in the room
pub front_read : (before now : Option (List ℕ)) (count : ℕ) (room rest : List ℕ) → count ≤ length room → Consumes before now (take count room) → Consumes before now (take count (room ++ rest))
front_read before now count room rest le c = subst (λ (bytes : List ℕ). Consumes before now bytes) (sym (take-append-le count room rest le)) c
