-- Steps of reading: what a text begins with where a step succeeds.
use Rattle.std.proofs.Common.{◌≡◌, ℕ, Bool, true, false, cond, ◌&&◌, eqb, List, [], ◌∷◌, ◌++◌, Option, Some, None, refl, sym, ap, subst, ◌∙◌, append_assoc, ◌⊎◌, inl, inr}
use Rattle.std.proofs.lemmas.Bool.{eqb-true}
use Rattle.std.specs.List.{AllByRecursion}
use Rattle.heesch_line.specs.Reading.{◌>>=◌, given, behind, by_words, names, made, parted, both_at, literal_at}

abbrev pub some : {A : Type 0} → A → Option A
some x = Some x

abbrev pub none : {A : Type 0} → Option A
none = None

pub some_is : {A : Type 0} (x y : A) → some x ≡ some y → x ≡ y
some_is x y e = cc

pub none_some : {A : Type 0} (x : A) → none {A = A} ≡ some x → ⊥
none_some x e = cc

-- the value of a step that did not fail
pub bind_some : {A B : Type 0} (r : Option A) (f : A → Option B) (y : B) → (r >>= f) ≡ Some y → (x : A) × (r ≡ Some x) × (f x ≡ Some y)
bind_some (Some x) f y e = (x, refl, e)
bind_some None f y e = absurd cc

-- a test that passed
pub given_some : {A : Type 0} (b : Bool) (x y : A) → given b x ≡ Some y → (b ≡ true) × (x ≡ y)
given_some true x y e = (refl, cc)
given_some false x y e = absurd cc

-- one of two ways
pub behind_some : {A B : Type 0} (r : Option A) (f : A → Option B) (other : Option B) (y : B) → behind r f other ≡ Some y → ((x : A) × (r ≡ Some x) × (f x ≡ Some y)) ⊎ ((r ≡ None) × (other ≡ Some y))
behind_some (Some x) f other y e = inl (x, refl, e)
behind_some None f other y e = inr (refl, e)

pub both_true : (a b : Bool) → (a && b) ≡ true → (a ≡ true) × (b ≡ true)
both_true true b e = (refl, e)
both_true false b e = absurd cc

-- a text is a front and a rest
pub record Takes (bytes text rest : List ℕ) : Type 0 where
  pub parts : bytes ≡ text ++ rest

-- a front, and behind it another one
infixl 6 ◌▸◌
pub ◌▸◌ : {a x b y c : List ℕ} → Takes a x b → Takes b y c → Takes a (x ++ y) c
◌▸◌ {a} {x} {b} {y} {c} p q = record { parts = p.parts ∙ ap (λ (t : List ℕ). x ++ t) q.parts ∙ sym (append_assoc x y c) }

pub same_takes : {a x y b : List ℕ} → Takes a x b → x ≡ y → Takes a y b
same_takes {a} {x} {y} {b} p e = record { parts = p.parts ∙ ap (λ (t : List ℕ). t ++ b) e }

literal_step : (b c : ℕ) (cs bytes rest : List ℕ) (t : Bool) → eqb b c ≡ t → cond t (literal_at cs bytes) None ≡ Some rest → (literal_at cs bytes ≡ Some rest → bytes ≡ cs ++ rest) → b ∷ bytes ≡ (c ∷ cs) ++ rest
literal_step b c cs bytes rest true h e f =
    let same : b ≡ c = eqb-true b c h in
    let others = f e in
    cc
literal_step b c cs bytes rest false h e f = absurd cc

pub literal_takes : (word bytes rest : List ℕ) → literal_at word bytes ≡ Some rest → bytes ≡ word ++ rest
literal_takes [] bytes rest e = cc
literal_takes (c ∷ cs) [] rest e = absurd cc
literal_takes (c ∷ cs) (b ∷ bytes) rest e = literal_step b c cs bytes rest (eqb b c) refl e (literal_takes cs bytes rest)

pub literal_part : (word bytes rest : List ℕ) → literal_at word bytes ≡ Some rest → Takes bytes word rest
literal_part word bytes rest e = record { parts = literal_takes word bytes rest e }

-- what was read is a value of this form, and its text stands at the front
pub record IsRead {X : Type 0} (text : X → List ℕ) (Fits : X → Type 0) (bytes : List ℕ) (x : X × List ℕ) : Type 0 where
  pub takes : Takes bytes (text x.0) x.1
  pub fits : Fits x.0

pub is_read : {X : Type 0} {made x : X × List ℕ} (text : X → List ℕ) (Fits : X → Type 0) (bytes : List ℕ) → made ≡ x → Takes bytes (text made.0) made.1 → Fits made.0 → IsRead text Fits bytes x
is_read {X} {made} {x} text Fits bytes same takes fits = subst (λ (y : X × List ℕ). IsRead text Fits bytes y) same (record { takes = takes; fits = fits })

-- a word that stands for a value
pub word_read : {X : Type 0} (text : X → List ℕ) (Fits : X → Type 0) (bytes word : List ℕ) (value : X) (x : X × List ℕ) (rest : List ℕ) → literal_at word bytes ≡ Some rest → text value ≡ word → Fits value
    → some (value, rest) ≡ some x → IsRead text Fits bytes x
word_read text Fits bytes word value x rest e t fits h = is_read text Fits bytes (some_is (value, rest) x h) (same_takes (literal_part word bytes rest e) (sym t)) fits

-- ---- rows of words

-- how a field or a line is read behind a word
abbrev pub Row : Type 0 → Type 0
Row X = List ℕ × (List ℕ → Option (X × List ℕ))

-- what is read behind the word is a value of this form, and the word and what was read are its text
abbrev pub ReadsBehind : {X : Type 0} → (X → List ℕ) → (X → Type 0) → Row X → Type 0
ReadsBehind {X} text Fits row = (all bytes : List ℕ) (x : X × List ℕ) → Takes all row.0 bytes → row.1 bytes ≡ Some x → IsRead text Fits all x

-- a value by the first of these words
pub by_words_read : {X : Type 0} (text : X → List ℕ) (Fits : X → Type 0) (rows : List (Row X)) (other : List ℕ → Option (X × List ℕ)) (bytes : List ℕ) (x : X × List ℕ)
    → AllByRecursion (ReadsBehind text Fits) rows → (other bytes ≡ Some x → IsRead text Fits bytes x) → by_words rows other bytes ≡ Some x → IsRead text Fits bytes x
by_words_read text Fits [] other bytes x reads last e = last e
by_words_read text Fits (row ∷ rows) other bytes x reads last e = elim (behind_some (literal_at row.0 bytes) row.1 (by_words rows other bytes) x e) [
  | inl a ↦ reads.0 bytes a.0 x (literal_part row.0 bytes a.0 a.1) a.2
  | inr n ↦ by_words_read text Fits rows other bytes x reads.1 last n.1
]

-- a word that names a value
pub named : {X : Type 0} (text : X → List ℕ) (value : X) → ReadsBehind text (λ _. Unit {0}) (text value, names value)
named text value all bytes x front e = is_read text (λ _. Unit {0}) all (some_is (value, bytes) x e) front tt

-- what is made of one field
pub made_read : {A X : Type 0} (text : A → List ℕ) (Fits : A → Type 0) (words : X → List ℕ) (Form : X → Type 0) (word : List ℕ) (field : List ℕ → Option (A × List ℕ)) (make : A → X)
    → ((bytes : List ℕ) (a : A × List ℕ) → field bytes ≡ Some a → IsRead text Fits bytes a) → ((a : A) → words (make a) ≡ word ++ text a) → ((a : A) → Fits a → Form (make a))
    → ReadsBehind words Form (word, made make field)
made_read {A} {X} text Fits words Form word field make read spelled fits all bytes x front e =
    let a = bind_some (field bytes) _ x e in
    let part = read bytes a.0 a.1 in
    let whole : X × List ℕ = (make a.0.0, a.0.1) in
    is_read {made = whole} words Form all (some_is whole x a.2) (same_takes (front ▸ part.takes) (sym (spelled a.0.0))) (fits a.0.0 part.fits)

-- what is made of two fields with a word between them
pub parted_read : {A B X : Type 0} (text : A → List ℕ) (Fits : A → Type 0) (text_b : B → List ℕ) (Fits_b : B → Type 0) (words : X → List ℕ) (Form : X → Type 0)
    (word : List ℕ) (first : List ℕ → Option (A × List ℕ)) (between : List ℕ) (second : List ℕ → Option (B × List ℕ)) (make : A → B → X)
    → ((bytes : List ℕ) (a : A × List ℕ) → first bytes ≡ Some a → IsRead text Fits bytes a) → ((bytes : List ℕ) (b : B × List ℕ) → second bytes ≡ Some b → IsRead text_b Fits_b bytes b)
    → ((a : A) (b : B) → words (make a b) ≡ ((word ++ text a) ++ between) ++ text_b b) → ((a : A) (b : B) → Fits a → Fits_b b → Form (make a b))
    → ReadsBehind words Form (word, parted make first between second)
parted_read {A} {B} {X} text Fits text_b Fits_b words Form word first between second make read_a read_b spelled fits all bytes x front e =
    let a = bind_some (first bytes) _ x e in
    let part = read_a bytes a.0 a.1 in
    let c = bind_some (literal_at between a.0.1 >>= λ word. second word) _ x a.2 in
    let l = bind_some (literal_at between a.0.1) second c.0 c.1 in
    let last = read_b l.0 c.0 l.2 in
    let whole : X × List ℕ = (make a.0.0 c.0.0, c.0.1) in
    is_read {made = whole} words Form all (some_is whole x c.2) (same_takes (front ▸ part.takes ▸ literal_part between a.0.1 l.0 l.1 ▸ last.takes) (sym (spelled a.0.0 c.0.0))) (fits a.0.0 c.0.0 part.fits last.fits)

-- where nothing stands before it
pub read_first : {X : Type 0} (text : X → List ℕ) (Fits : X → Type 0) (at : List ℕ → Option (X × List ℕ)) → ReadsBehind text Fits ([], at) → (bytes : List ℕ) (x : X × List ℕ) → at bytes ≡ Some x → IsRead text Fits bytes x
read_first text Fits at reads bytes x e = reads bytes bytes x (record { parts = refl }) e

-- two fields, and the word between them
pub both_read : {A B : Type 0} (text : A → List ℕ) (Fits : A → Type 0) (text_b : B → List ℕ) (Fits_b : B → Type 0)
    (first : List ℕ → Option (A × List ℕ)) (between : List ℕ) (second : List ℕ → Option (B × List ℕ))
    → ((bytes : List ℕ) (a : A × List ℕ) → first bytes ≡ Some a → IsRead text Fits bytes a) → ((bytes : List ℕ) (b : B × List ℕ) → second bytes ≡ Some b → IsRead text_b Fits_b bytes b)
    → (bytes : List ℕ) (x : (A × B) × List ℕ) → both_at first between second bytes ≡ Some x → IsRead (λ p. text p.0 ++ between ++ text_b p.1) (λ p. Fits p.0 × Fits_b p.1) bytes x
both_read {A} {B} text Fits text_b Fits_b first between second read_a read_b bytes x e =
    read_first (λ (p : A × B). text p.0 ++ between ++ text_b p.1) (λ (p : A × B). Fits p.0 × Fits_b p.1) (both_at first between second)
    (parted_read text Fits text_b Fits_b (λ (p : A × B). text p.0 ++ between ++ text_b p.1) (λ (p : A × B). Fits p.0 × Fits_b p.1) [] first between second (λ a b. (a, b)) read_a read_b (λ a b. refl) (λ a b f g. (f, g))) bytes x e
