-- Answer lines: that they tell their literals, and what may follow the first of them.
use Rattle.std.proofs.Common.{◌≡◌, ◌≢◌, ℕ, true, false, not, List, [], ◌∷◌, ◌++◌, map, refl, sym, ap, ◌∙◌, append_assoc}
use Rattle.std.specs.List.{AllByRecursion}
use Rattle.std.proofs.lemmas.List.{append-nil}
use Rattle.std.proofs.lemmas.List.Elements.{filter-append}
use Rattle.heesch_cnf.specs.declared.literal.Lit.{Lit}
use Rattle.heesch_text.specs.Fields.{spaced, lit_text}
use Rattle.heesch_line.specs.Forms.{IsLiteral}
use Rattle.heesch_exchange.specs.Models.{is_comment, answers, values_line, last_line, joined}
use Rattle.heesch_exchange.specs.Lines.{words_text}
use Rattle.heesch_exchange.proofs.Bytes.{all_front, all_back}
use Rattle.heesch_exchange.proofs.WordLists.{AreLiterals, words_same}

abbrev pub AreGroups : List (List Lit) → Type 0
AreGroups groups = AllByRecursion AreLiterals groups

pub groups_form : (groups : List (List Lit)) → AreLiterals (joined groups) → AreGroups groups
groups_form [] form = tt
groups_form (g ∷ groups) form = (all_front IsLiteral g (joined groups) form, groups_form groups (all_back IsLiteral g (joined groups) form))

-- ---- one line

tail_of : (a b : List ℕ) → 118 ∷ a ≡ 118 ∷ b → a ≡ b
tail_of a b e = cc

pub values_same : (g h : List Lit) → AreLiterals g → AreLiterals h → values_line g ≡ values_line h → g ≡ h
values_same g h fits fit e =
    let words : spaced lit_text g ≡ spaced lit_text h = tail_of (spaced lit_text g) (spaced lit_text h) e in
    (words_same g h false false fits fit (ap (λ (t : List ℕ). t ++ []) words)).0

pub values_not_last : (g h : List Lit) → AreLiterals g → AreLiterals h → values_line g ≢ last_line h
values_not_last g h fits fit e =
    let words : spaced lit_text g ≡ words_text h true = tail_of (spaced lit_text g) (words_text h true) e in
    let differ = (words_same g h false true fits fit (append-nil (spaced lit_text g) ∙ words)).1 in
    cc

pub last_same : (g h : List Lit) → AreLiterals g → AreLiterals h → last_line g ≡ last_line h → g ≡ h
last_same g h fits fit e = (words_same g h true true fits fit (tail_of (words_text g true) (words_text h true) e)).0

-- ---- lines

-- what is behind the lines of the first groups
pub record RestOf (gs hs : List (List Lit)) (last : List Lit) (rest : List (List ℕ)) : Type 0 where
  pub back : List (List Lit)
  pub groups_are : hs ≡ gs ++ back
  pub rest_is : rest ≡ map values_line back ++ last_line last ∷ []

pub rest_of : (gs hs : List (List Lit)) (last : List Lit) (rest : List (List ℕ)) → AreGroups gs → AreGroups hs → AreLiterals last → map values_line gs ++ rest ≡ map values_line hs ++ last_line last ∷ [] → RestOf gs hs last rest
rest_of [] hs last rest fits fit form e = record { back = hs; groups_are = refl; rest_is = e }
rest_of (g ∷ gs) [] last rest fits fit form e =
    let first : values_line g ≡ last_line last = cc in
    absurd (values_not_last g last fits.0 form first)
rest_of (g ∷ gs) (h ∷ hs) last rest fits fit form e =
    let first : values_line g ≡ values_line h = cc in
    let others : map values_line gs ++ rest ≡ map values_line hs ++ last_line last ∷ [] = cc in
    let more = rest_of gs hs last rest fits.1 fit.1 form others in
    let same : h ≡ g = sym (values_same g h fits.0 fit.0 first) in
    let groups : hs ≡ gs ++ more.back = more.groups_are in
    record { back = more.back; groups_are = cc; rest_is = more.rest_is }

pub joined_append : (gs hs : List (List Lit)) → joined (gs ++ hs) ≡ joined gs ++ joined hs
joined_append [] hs = refl
joined_append (g ∷ gs) hs = ap (λ (t : List Lit). g ++ t) (joined_append gs hs) ∙ sym (append_assoc g (joined gs) (joined hs))

pub map_push : (gs : List (List Lit)) (g : List Lit) → map values_line (gs ++ g ∷ []) ≡ map values_line gs ++ values_line g ∷ []
map_push [] g = refl
map_push (h ∷ gs) g = ap (λ (t : List (List ℕ)). values_line h ∷ t) (map_push gs g)

-- ---- comments among lines

pub answers_append : (a b : List (List ℕ)) → answers (a ++ b) ≡ answers a ++ answers b
answers_append a b = filter-append (λ line. not (is_comment line)) a b

pub answer_first : (line : List ℕ) (back : List (List ℕ)) → is_comment line ≡ false → answers (line ∷ back) ≡ line ∷ answers back
answer_first line back h = rw h refl

pub comment_first : (line : List ℕ) (back : List (List ℕ)) → is_comment line ≡ true → answers (line ∷ back) ≡ answers back
comment_first line back h = rw h refl
