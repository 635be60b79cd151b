-- The front of an input.
use Rattle.std.proofs.Common.{◌≡◌, ◌∙◌, ◌≤◌, ◌+◌, ℕ, List, [], ◌++◌, length, take, drop, take-append-drop, take_all, append-nil, refl, ap, sym, subst, arith}
use Rattle.std.specs.Prelude.{Option, Some, None}
use Rattle.std.specs.Io.KnownBytes.{Consumes, IsAtEnd}
use Rattle.std.proofs.lemmas.List.{length-take, take_at}
use Rattle.heesch_io.specs.Input.{IsAllOf}
use Rattle.heesch_reader.specs.Taking.{input_max}
use Rattle.heesch_app.specs.Inputs.{IsFrontOf}

-- what was read up to the end of the input is its front
pub ended_front : (left before now : Option (List ℕ)) (bytes piece : List ℕ) (count : ℕ) → Consumes left before bytes → Consumes before now (take count piece) → count ≡ 0 → IsAtEnd now → length bytes ≤ input_max + 1 → IsFrontOf left bytes
ended_front None before now bytes piece count c d none e few = (bytes, tt, sym (take_all (input_max + 1) bytes few))
ended_front (Some xs) None now bytes piece count c d none e few = absurd c
ended_front (Some xs) (Some ys) None bytes piece count c d none e few = absurd d
ended_front (Some xs) (Some ys) (Some zs) bytes piece count c d none e few =
    let nothing : ys ≡ [] = d ∙ ap (λ n. take n piece ++ zs) none ∙ e in
    let whole : xs ≡ bytes = c ∙ ap (λ t. bytes ++ t) nothing ∙ append-nil bytes in
    (xs, refl, sym (ap (take (input_max + 1)) whole ∙ take_all (input_max + 1) bytes few))

-- and so is as much as is read and one more
pub full_front : (left now : Option (List ℕ)) (bytes : List ℕ) → Consumes left now bytes → length bytes ≡ input_max + 1 → IsFrontOf left bytes
full_front None now bytes c long = (bytes, tt, sym (take_all (input_max + 1) bytes (omega (arith, long))))
full_front (Some xs) None bytes c long = absurd c
full_front (Some xs) (Some ys) bytes c long = (xs, refl, sym (ap (take (input_max + 1)) c ∙ take_at bytes ys (input_max + 1) long))

-- a front that is no longer than is read is the whole input
pub whole_front : (left : Option (List ℕ)) (bytes : List ℕ) → IsFrontOf left bytes → length bytes ≤ input_max → IsAllOf left bytes
whole_front left bytes (input, all, front) few =
    let long = length-take (input_max + 1) input in
    let same : length bytes ≡ length (take (input_max + 1) input) = ap length front in
    let short : length input ≤ input_max + 1 = omega (arith, long, same, few) in
    subst (IsAllOf left) (sym (front ∙ take_all (input_max + 1) input short)) all

-- the whole input is a front and what is behind it
pub split_front : (left : Option (List ℕ)) (bytes : List ℕ) → IsFrontOf left bytes → (rest : List ℕ) × IsAllOf left (bytes ++ rest)
split_front left bytes (input, all, front) =
    let rest = drop (input_max + 1) input in
    let parts : bytes ++ rest ≡ input = ap (λ t. t ++ rest) front ∙ take-append-drop (input_max + 1) input in
    (rest, subst (IsAllOf left) (sym parts) all)
