-- The words of a line: that they tell its literals, and what isn't the words of literals.
use Rattle.std.proofs.Common.{◌≡◌, ◌≢◌, ℕ, ◌<◌, Bool, true, false, eqb, List, [], ◌∷◌, ◌++◌, length, refl, sym, ap, subst, ◌∙◌, append_assoc, arith}
use Rattle.std.specs.Prelude.{codes}
use Rattle.std.specs.List.{AllByRecursion}
use Rattle.std.proofs.lemmas.List.{append-nil}
use Rattle.heesch_cnf.specs.declared.literal.Lit.{Lit}
use Rattle.heesch_text.specs.Fields.{spaced, lit_text}
use Rattle.heesch_line.specs.Forms.{IsLiteral}
use Rattle.heesch_line.specs.Scanning.{HasNoSpace}
use Rattle.heesch_exchange.specs.Models.{is_spaced}
use Rattle.heesch_exchange.specs.Lines.{words_text, NoWords, ReadsWords}
use Rattle.heesch_exchange.proofs.Bytes.{Stops, all_append, cut_same, spaced_stops}
use Rattle.heesch_exchange.proofs.Literals.{lit_not_zero, lit_has_no, lit_same}

abbrev pub AreLiterals : List Lit → Type 0
AreLiterals literals = AllByRecursion IsLiteral literals

-- the words behind the first literal
words_more : (l : Lit) (g : List Lit) (last : Bool) → words_text (l ∷ g) last ≡ 32 ∷ (lit_text l ++ words_text g last)
words_more l g true = append_assoc (32 ∷ lit_text l) (spaced lit_text g) (codes " 0")
words_more l g false = append_assoc (32 ∷ lit_text l) (spaced lit_text g) []

words_stop : (g : List Lit) (last : Bool) → Stops 32 (words_text g last)
words_stop [] true = refl
words_stop [] false = tt
words_stop (l ∷ g) last = refl

space_low : 32 < 45
space_low = omega arith

-- the words tell the literals, and whether `0` is the last
pub words_same : (g h : List Lit) (s t : Bool) → AreLiterals g → AreLiterals h → words_text g s ≡ words_text h t → (g ≡ h) × (s ≡ t)
words_same [] [] true true fits fit e = (refl, refl)
words_same [] [] false false fits fit e = (refl, refl)
words_same [] [] true false fits fit e = absurd cc
words_same [] [] false true fits fit e = absurd cc
words_same [] (m ∷ h) false t fits fit e = let both = e ∙ words_more m h t in absurd cc
words_same [] (m ∷ h) true t fits fit e =
    let both : 32 ∷ 48 ∷ [] ≡ 32 ∷ (lit_text m ++ words_text h t) = e ∙ words_more m h t in
    let others : lit_text m ++ words_text h t ≡ 48 ∷ [] = cc in
    absurd (lit_not_zero m (words_text h t) [] fit.0 others)
words_same (l ∷ g) [] s false fits fit e = let both = sym e ∙ words_more l g s in absurd cc
words_same (l ∷ g) [] s true fits fit e =
    let both : 32 ∷ 48 ∷ [] ≡ 32 ∷ (lit_text l ++ words_text g s) = sym e ∙ words_more l g s in
    let others : lit_text l ++ words_text g s ≡ 48 ∷ [] = cc in
    absurd (lit_not_zero l (words_text g s) [] fits.0 others)
words_same (l ∷ g) (m ∷ h) s t fits fit e =
    let both : 32 ∷ (lit_text l ++ words_text g s) ≡ 32 ∷ (lit_text m ++ words_text h t) = sym (words_more l g s) ∙ e ∙ words_more m h t in
    let others : lit_text l ++ words_text g s ≡ lit_text m ++ words_text h t = cc in
    let cut = cut_same 32 (lit_text l) (words_text g s) (lit_text m) (words_text h t) (lit_has_no 32 l space_low fits.0) (lit_has_no 32 m space_low fit.0) (words_stop g s) (words_stop h t) others in
    let one : l ≡ m = lit_same l m fits.0 fit.0 cut.0 in
    let more = words_same g h s t fits.1 fit.1 cut.1 in
    let rest : g ≡ h = more.0 in
    (cc, more.1)

-- ---- words that are none

-- where words of literals begin with a word, the first literal is this word
record FirstWord (word behind : List ℕ) (literals : List Lit) (last : Bool) : Type 0 where
  first : Lit
  others : List Lit
  literals_are : literals ≡ first ∷ others
  word_is : lit_text first ≡ word
  behind_is : behind ≡ words_text others last

first_word : (word behind : List ℕ) (g : List Lit) (last : Bool) → HasNoSpace word → is_spaced behind ≡ true → word ≢ 48 ∷ [] → AreLiterals g → 32 ∷ (word ++ behind) ≡ words_text g last → FirstWord word behind g last
first_word word behind [] false free stops other fits e = absurd cc
first_word word behind [] true free stops other fits e =
    let rest : word ++ behind ≡ (48 ∷ []) ++ [] = cc in
    let zero : HasNoSpace (48 ∷ []) = (λ k. absurd (omega arith), tt) in
    let cut = cut_same 32 word behind (48 ∷ []) [] free zero (spaced_stops behind stops) tt rest in
    absurd (other cut.0)
first_word word behind (l ∷ g) last free stops other fits e =
    let both : 32 ∷ (word ++ behind) ≡ 32 ∷ (lit_text l ++ words_text g last) = e ∙ words_more l g last in
    let rest : word ++ behind ≡ lit_text l ++ words_text g last = cc in
    let cut = cut_same 32 word behind (lit_text l) (words_text g last) free (lit_has_no 32 l space_low fits.0) (spaced_stops behind stops) (words_stop g last) rest in
    record { first = l; others = g; literals_are = refl; word_is = sym cut.0; behind_is = cut.1 }

-- a first word that is no literal
pub other_word : (word behind : List ℕ) → HasNoSpace word → is_spaced behind ≡ true → word ≢ 48 ∷ [] → ((l : Lit) → IsLiteral l → lit_text l ≡ word → ⊥) → NoWords (32 ∷ (word ++ behind))
other_word word behind free stops other none g last are =
    let found = first_word word behind g last free stops other are.form are.words_are in
    let form : AreLiterals (found.first ∷ found.others) = subst AreLiterals found.literals_are are.form in
    none found.first form.0 found.word_is

-- a literal, and behind it what is none
pub none_behind : (l : Lit) (behind : List ℕ) → IsLiteral l → is_spaced behind ≡ true → NoWords behind → NoWords (32 ∷ (lit_text l ++ behind))
none_behind l behind fits stops none g last are =
    let no_zero : lit_text l ≢ 48 ∷ [] = λ e. lit_not_zero l [] [] fits (append-nil (lit_text l) ∙ e) in
    let found = first_word (lit_text l) behind g last (lit_has_no 32 l space_low fits) stops no_zero are.form are.words_are in
    let form : AreLiterals (found.first ∷ found.others) = subst AreLiterals found.literals_are are.form in
    none found.others last (record { words_are = found.behind_is; form = form.1 })

-- `0`, and something behind it
pub behind_zero : (behind : List ℕ) → behind ≢ [] → NoWords (32 ∷ 48 ∷ behind)
behind_zero behind some [] false are = let e = are.words_are in absurd cc
behind_zero behind some [] true are =
    let e = are.words_are in
    let nothing : behind ≡ [] = cc in
    some nothing
behind_zero behind some (l ∷ g) last are =
    let e : 32 ∷ 48 ∷ behind ≡ 32 ∷ (lit_text l ++ words_text g last) = are.words_are ∙ words_more l g last in
    let rest : lit_text l ++ words_text g last ≡ 48 ∷ behind = cc in
    lit_not_zero l (words_text g last) behind are.form.0 rest

-- something that begins with no space
pub unspaced : (rest : List ℕ) → rest ≢ [] → ((r : List ℕ) → rest ≢ 32 ∷ r) → NoWords rest
unspaced rest some other [] false are = some are.words_are
unspaced rest some other [] true are = other (48 ∷ []) are.words_are
unspaced rest some other (l ∷ g) last are = other (lit_text l ++ words_text g last) (are.words_are ∙ words_more l g last)

-- ---- words read one by one

pub record HasReadWords (words : List ℕ) (before now : List Lit) (rest : List ℕ) : Type 0 where
  pub literals : List Lit
  pub appended : now ≡ before ++ literals
  pub words_are : words ≡ spaced lit_text literals ++ rest
  pub form : AreLiterals literals
  pub back : NoWords rest → NoWords words

pub starts : (words : List ℕ) (before : List Lit) → HasReadWords words before before words
starts words before = record { literals = []; appended = sym (append-nil before); words_are = refl; form = tt; back = λ h. h }

spaced_push : (literals : List Lit) (l : Lit) → spaced lit_text (literals ++ l ∷ []) ≡ spaced lit_text literals ++ (32 ∷ lit_text l)
spaced_push [] l = append-nil (32 ∷ lit_text l)
spaced_push (m ∷ literals) l = ap (λ (t : List ℕ). (32 ∷ lit_text m) ++ t) (spaced_push literals l) ∙ sym (append_assoc (32 ∷ lit_text m) (spaced lit_text literals) (32 ∷ lit_text l))

pub goes_on : (words : List ℕ) (before now : List Lit) (rest word behind : List ℕ) (l : Lit) → HasReadWords words before now rest → rest ≡ 32 ∷ (word ++ behind) → is_spaced behind ≡ true → IsLiteral l → lit_text l ≡ word
    → HasReadWords words before (now ++ l ∷ []) behind
goes_on words before now rest word behind l so rest_is stops fits spelled =
    let here : rest ≡ 32 ∷ (lit_text l ++ behind) = rest_is ∙ ap (λ (t : List ℕ). 32 ∷ (t ++ behind)) (sym spelled) in
    let regroup : spaced lit_text so.literals ++ (32 ∷ (lit_text l ++ behind)) ≡ (spaced lit_text so.literals ++ (32 ∷ lit_text l)) ++ behind = sym (append_assoc (spaced lit_text so.literals) (32 ∷ lit_text l) behind) in
    record {
      literals = so.literals ++ l ∷ [];
      appended = ap (λ (t : List Lit). t ++ l ∷ []) so.appended ∙ append_assoc before so.literals (l ∷ []);
      words_are = so.words_are ∙ ap (λ (t : List ℕ). spaced lit_text so.literals ++ t) here ∙ regroup ∙ ap (λ (t : List ℕ). t ++ behind) (sym (spaced_push so.literals l));
      form = all_append IsLiteral so.literals (l ∷ []) so.form (fits, tt);
      back = λ none. so.back (subst NoWords (sym here) (none_behind l behind fits stops none));
    }

-- the end of the words
pub ends : (words : List ℕ) (before now : List Lit) (rest : List ℕ) (last : Bool) → HasReadWords words before now rest → rest ≡ words_text [] last → ReadsWords words before now last
ends words before now rest true so e = record { literals = so.literals; words_are = record { words_are = so.words_are ∙ ap (λ (t : List ℕ). spaced lit_text so.literals ++ t) e; form = so.form }; appended = so.appended }
ends words before now rest false so e = record { literals = so.literals; words_are = record { words_are = so.words_are ∙ ap (λ (t : List ℕ). spaced lit_text so.literals ++ t) e; form = so.form }; appended = so.appended }

-- what the test for no bytes says
pub some_bytes : (bytes : List ℕ) → false ≡ eqb (length bytes) 0 → bytes ≢ []
some_bytes [] e = λ _. absurd cc
some_bytes (b ∷ bytes) e = λ n. cc
