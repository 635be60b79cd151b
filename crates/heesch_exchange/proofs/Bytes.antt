-- Texts without a byte, and how a text that has it is cut there.
use Rattle.std.proofs.Common.{◌≡◌, ◌≢◌, ℕ, suc, ◌<◌, true, List, [], ◌∷◌, ◌++◌, length, get_or, refl, sym, ◌∙◌, arith}
use Rattle.std.specs.Int.{IsInRange}
use Rattle.std.specs.List.{AllByRecursion}
pub use Rattle.std.proofs.ByRecursion.{All-append as all_append}
use Rattle.std.proofs.lemmas.Bool.{eqb-true}
use Rattle.heesch_exchange.specs.Models.{is_spaced}

-- no byte is this one
abbrev pub HasNo : ℕ → List ℕ → Type 0
HasNo byte bytes = AllByRecursion (λ b. b ≢ byte) bytes

-- nothing, or this byte first
abbrev pub Stops : ℕ → List ℕ → Type 0
Stops k [] = Unit {0}
Stops k (b ∷ bytes) = b ≡ k

pub all_front : {X : Type 0} (P : X → Type 0) (xs ys : List X) → AllByRecursion P (xs ++ ys) → AllByRecursion P xs
all_front P [] ys h = tt
all_front P (x ∷ xs) ys h = (h.0, all_front P xs ys h.1)

pub all_back : {X : Type 0} (P : X → Type 0) (xs ys : List X) → AllByRecursion P (xs ++ ys) → AllByRecursion P ys
all_back P [] ys h = h
all_back P (x ∷ xs) ys h = all_back P xs ys h.1

-- two cuts of one text at the first such byte are the same
pub cut_same : (k : ℕ) (a r b s : List ℕ) → HasNo k a → HasNo k b → Stops k r → Stops k s → a ++ r ≡ b ++ s → (a ≡ b) × (r ≡ s)
cut_same k [] r [] s ha hb hr hs e = (refl, e)
cut_same k [] [] (y ∷ b) s ha hb hr hs e = absurd cc
cut_same k [] (x ∷ r) (y ∷ b) s ha hb hr hs e =
    let first : x ≡ y = cc in
    absurd (hb.0 (sym first ∙ hr))
cut_same k (x ∷ a) r [] [] ha hb hr hs e = absurd cc
cut_same k (x ∷ a) r [] (y ∷ s) ha hb hr hs e =
    let first : x ≡ y = cc in
    absurd (ha.0 (first ∙ hs))
cut_same k (x ∷ a) r (y ∷ b) s ha hb hr hs e =
    let first : x ≡ y = cc in
    let others : a ++ r ≡ b ++ s = cc in
    let more = cut_same k a r b s ha.1 hb.1 hr hs others in
    let same : a ≡ b = more.0 in
    (cc, more.1)

pub spaced_stops : (r : List ℕ) → is_spaced r ≡ true → Stops 32 r
spaced_stops [] h = tt
spaced_stops (b ∷ r) h = eqb-true b 32 h

-- digits have no lower byte
pub digits_have_no : (k : ℕ) (ds : List ℕ) → k < 48 → ((i : ℕ) → i < length ds → IsInRange 48 57 (get_or ds i 0)) → HasNo k ds
digits_have_no k [] low digits = tt
digits_have_no k (d ∷ ds) low digits =
    let first = digits 0 (omega arith) in
    let other : d ≢ k = λ e. let low_too : k < 48 = low in absurd (omega arith) in
    (other, digits_have_no k ds low (λ i lt. digits (suc i) (omega arith)))
