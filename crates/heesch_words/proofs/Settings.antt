-- Settings, the words that spell them, and what holds them.
use Rattle.std.proofs.Common.{◌≡◌, ◌≤◌, ◌≢◌, ℕ, zero, suc, ◌+◌, Bool, true, false, if◌then◌else◌, count_by, codes, List, [], ◌∷◌, ◌++◌, refl, sym, ap, ◌∙◌, ◌-◌, length, get_or, take, drop, map, subst, append_assoc, arith, decimal}
use Rattle.std.specs.Prelude.{Option, None, Some}
use Rattle.std.specs.List.{flat_map, filter_map, AllByRecursion}
use Rattle.std.specs.Option.{option_to_list}
use Rattle.std.proofs.lemmas.List.Elements.{filter_map-append}
use Rattle.std.proofs.lemmas.List.{append-nil, take_rest}
use Rattle.std.proofs.lemmas.List.Sums.{sum_by-append}
use Rattle.std.proofs.lemmas.Fmt.{decimal_injective}
use Rattle.heesch_words.specs.declared.options.Options.{Options}
use Rattle.heesch_words.specs.Options.{Name, Workers, Turns, Levels, Domain, Size, Version, Setting, Number, Brief, name_word, setting_words, number_of, is_brief, held, IsInRange, AreHeld, AreOptions}
use Rattle.heesch_words.proofs.InRange.{bounds_of, few}
use Rattle.heesch_words.specs.Reading.{BeginWith, CannotAdd}

-- the words begin with those of settings that are held, and others follow
pub record AreRead (words : List (List ℕ)) (options : Options) (others : List (List ℕ)) : Type 0 where
  pub settings : List Setting
  pub spelled : words ≡ flat_map setting_words settings ++ others
  pub in_range : AllByRecursion IsInRange settings
  pub held : AreHeld settings options

-- One option alone: the values that the settings have of it, and the one that is held.

-- the first value of an option is held after it
pub values_of_first : (value_of : Setting → Option ℕ) (settings : List Setting) (setting : Setting) (n : ℕ)
    → filter_map value_of settings ≡ [] → value_of setting ≡ Some n → filter_map value_of (settings ++ setting ∷ []) ≡ n ∷ []
values_of_first value_of settings setting n none is =
    filter_map-append value_of settings (setting ∷ []) ∙ rw (none, is) refl

-- another option's values stay
pub values_stay : (value_of : Setting → Option ℕ) (settings : List Setting) (setting : Setting)
    → value_of setting ≡ None → filter_map value_of (settings ++ setting ∷ []) ≡ filter_map value_of settings
values_stay value_of settings setting is =
    filter_map-append value_of settings (setting ∷ []) ∙ rw is (append-nil _)

-- where one value more can be held, none was held
pub none_before : (value_of : Setting → Option ℕ) (settings : List Setting) (setting : Setting) (n : ℕ) (old new : Option ℕ)
    → filter_map value_of settings ≡ option_to_list old → value_of setting ≡ Some n
    → filter_map value_of (settings ++ setting ∷ []) ≡ option_to_list new → old ≡ None
none_before value_of settings setting n None new before is after = refl
none_before value_of settings setting n (Some m) None before is after =
    let both : m ∷ n ∷ [] ≡ [] = rw (before, is) at (sym (filter_map-append value_of settings (setting ∷ [])) ∙ after) in cc
none_before value_of settings setting n (Some m) (Some k) before is after =
    let both : m ∷ n ∷ [] ≡ k ∷ [] = rw (before, is) at (sym (filter_map-append value_of settings (setting ∷ [])) ∙ after) in cc

-- the values of the first settings can be held where those of all are
pub value_of_part : (value_of : Setting → Option ℕ) (first others : List Setting) (held : Option ℕ)
    → filter_map value_of (first ++ others) ≡ option_to_list held → (part : Option ℕ) × (filter_map value_of first ≡ option_to_list part)
value_of_part value_of first others held all = go (filter_map value_of first) held (sym (filter_map-append value_of first others) ∙ all)
  where
    go : (xs : List ℕ) (o : Option ℕ) → xs ++ filter_map value_of others ≡ option_to_list o → (part : Option ℕ) × (xs ≡ option_to_list part)
    go [] o is = (None, refl)
    go (x ∷ []) o is = (Some x, refl)
    go (x ∷ y ∷ xs) None is = cc
    go (x ∷ y ∷ xs) (Some z) is = cc

-- a list shows what is held
pub same_value : (x y : Option ℕ) → option_to_list x ≡ option_to_list y → x ≡ y
same_value None None is = refl
same_value None (Some y) is = cc
same_value (Some x) None is = cc
same_value (Some x) (Some y) is = cc

-- The option `--brief`.

-- settings have it as often as their parts
pub count_by-append : (first others : List Setting) → count_by is_brief (first ++ others) ≡ count_by is_brief first + count_by is_brief others
count_by-append first others = sum_by-append (λ s. if is_brief s then 1 else 0) first others

-- what the first settings have of it can be held where all of them can
brief_of_part : (first others : List Setting) (brief : Bool) → count_by is_brief (first ++ others) ≡ (if brief then 1 else 0)
    → (part : Bool) × (count_by is_brief first ≡ (if part then 1 else 0))
brief_of_part first others brief all = go (count_by is_brief first) brief (sym (count_by-append first others) ∙ all)
  where
    go : (n : ℕ) (b : Bool) → n + count_by is_brief others ≡ (if b then 1 else 0) → (part : Bool) × (n ≡ (if part then 1 else 0))
    go zero b is = (false, refl)
    go (suc zero) b is = (true, refl)
    go (suc (suc n)) true is = absurd (omega arith)
    go (suc (suc n)) false is = absurd (omega arith)

-- a count tells whether it is held
same_brief : (n : ℕ) (x y : Bool) → n ≡ (if x then 1 else 0) → n ≡ (if y then 1 else 0) → x ≡ y
same_brief n true true first second = refl
same_brief n true false first second = absurd (omega arith)
same_brief n false true first second = absurd (omega arith)
same_brief n false false first second = refl

-- All options together.

-- the options that hold some numbers
abbrev holding : (Name → Option ℕ) → Bool → Options
holding number brief = record {
  workers = number Workers;
  turns = number Turns;
  levels = number Levels;
  domain = number Domain;
  size = number Size;
  version = number Version;
  brief = brief;
}

-- options that hold the same are the same
same_fields : (x y : Options) → ((name : Name) → held name x ≡ held name y) → x.brief ≡ y.brief → x ≡ y
same_fields x y numbers brief =
    let workers : x.workers ≡ y.workers = numbers Workers in
    let turns : x.turns ≡ y.turns = numbers Turns in
    let levels : x.levels ≡ y.levels = numbers Levels in
    let domain : x.domain ≡ y.domain = numbers Domain in
    let size : x.size ≡ y.size = numbers Size in
    let version : x.version ≡ y.version = numbers Version in
    let first : x ≡ holding (λ name. held name x) x.brief = refl in
    let second : y ≡ holding (λ name. held name y) y.brief = refl in
    cc

-- settings tell what is held
pub same_options : (settings : List Setting) (x y : Options) → AreHeld settings x → AreHeld settings y → x ≡ y
same_options settings x y first second =
    same_fields x y (λ name. same_value _ _ (sym (first.numbers name) ∙ second.numbers name)) (same_brief _ _ _ first.brief second.brief)

held_by : (number : Name → Option ℕ) (brief : Bool) (name : Name) → held name (holding number brief) ≡ number name
held_by number brief name = grind arith

-- the first settings can be held where all are
pub part_is_held : (first others : List Setting) (options : Options) → AreHeld (first ++ others) options → (part : Options) × AreHeld first part
part_is_held first others options all =
    let parts : (name : Name) → (part : Option ℕ) × (filter_map (number_of name) first ≡ option_to_list part) =
    λ name. value_of_part (number_of name) first others (held name options) (all.numbers name) in
    let (brief, is) = brief_of_part first others options.brief all.brief in (
      holding (λ name. (parts name).0) brief,
      record { numbers = λ name. (parts name).1 ∙ ap option_to_list (sym (held_by (λ name. (parts name).0) brief name)); brief = is },
    )

-- the options' words differ
pub same_name : (x y : Name) → name_word x ≡ name_word y → x ≡ y
same_name Workers Workers is = refl
same_name Turns Turns is = refl
same_name Levels Levels is = refl
same_name Domain Domain is = refl
same_name Size Size is = refl
same_name Version Version is = refl
same_name x y is = absurd (grind arith)

pub not_brief : (name : Name) → name_word name ≢ codes "--brief"
not_brief name is = grind arith

-- the words of settings in their ranges begin with one setting alone
pub same_setting : (x y : Setting) (others more : List (List ℕ)) → IsInRange x → IsInRange y
    → setting_words x ++ others ≡ setting_words y ++ more → (x ≡ y) × (others ≡ more)
same_setting (Number x m) (Number y n) others more first second is =
    let words : name_word x ≡ name_word y = cc in
    let texts : decimal m ≡ decimal n = cc in
    let (_, high) = bounds_of x m first in
    let (_, high') = bounds_of y n second in
    let names : x ≡ y = same_name x y words in
    let numbers : m ≡ n = decimal_injective m n (omega (arith, high, few x)) (omega (arith, high', few y)) texts in
    (cc, cc)
same_setting (Number x m) Brief others more first second is =
    let words : name_word x ≡ codes "--brief" = cc in absurd (not_brief x words)
same_setting Brief (Number y n) others more first second is =
    let words : name_word y ≡ codes "--brief" = cc in absurd (not_brief y words)
same_setting Brief Brief others more first second is = (refl, cc)

-- a setting is spelled by some words
pub not_unspelled : (setting : Setting) (others : List (List ℕ)) → [] ≢ setting_words setting ++ others
not_unspelled (Number name n) others is = cc
not_unspelled Brief others is = cc

-- settings whose words begin with those of the first ones begin with them
pub settings_after : (first given : List Setting) (others : List (List ℕ)) → AllByRecursion IsInRange first → AllByRecursion IsInRange given
    → flat_map setting_words given ≡ flat_map setting_words first ++ others
    → (after : List Setting) × (given ≡ first ++ after) × (flat_map setting_words after ≡ others) × AllByRecursion IsInRange after
settings_after [] given others _ in_range is = (given, refl, is, in_range)
settings_after (x ∷ first) [] others _ in_range is = absurd (not_unspelled x _ (is ∙ append_assoc (setting_words x) _ _))
settings_after (x ∷ first) (y ∷ given) others (x_in, first_in) (y_in, given_in) is =
    let (same, rest) = same_setting y x _ _ y_in x_in (is ∙ append_assoc (setting_words x) _ _) in
    let (after, is_after, spelled, in_range) = settings_after first given others first_in given_in rest in
    (after, cc, spelled, in_range)

-- words give the same options at each reading
pub one_reading : (words : List (List ℕ)) (x y : Options) → AreOptions words x → AreOptions words y → x ≡ y
one_reading words x y first second =
    let (after, is_after, spelled, _) = settings_after first.settings second.settings [] first.in_range second.in_range
    (sym second.spelled ∙ first.spelled ∙ sym (append-nil _)) in
    let same : second.settings ≡ first.settings = is_after ∙ ap (λ (s : List Setting). first.settings ++ s) (empty after spelled) ∙ append-nil _ in
    let held : AreHeld first.settings y = subst (λ (s : List Setting). AreHeld s y) same second.held in
    same_options first.settings x y first.held held
  where
    empty : (settings : List Setting) → flat_map setting_words settings ≡ [] → settings ≡ []
    empty [] is = refl
    empty (s ∷ settings) is = absurd (not_unspelled s _ (sym is))

-- where words follow of which no setting can be added, the words are not those of options
pub none_follows : {X : Type 0} (text_of : X → List ℕ) (words : List (List ℕ)) (old options : Options) (rest : List X) (first : X) (name : List ℕ)
    → AreRead words old (map text_of rest) → 1 ≤ length rest → first ≡ get_or rest 0 first → name ≡ text_of first
    → ((setting : Setting) (more : List (List ℕ)) → BeginWith setting (name ∷ map text_of (take (length rest - 1) (drop 1 rest))) more → CannotAdd setting old)
    → ¬ AreOptions words options
none_follows text_of words old options [] first name read some is named refused given = absurd (omega arith)
none_follows text_of words old options (x ∷ rest) first name read some is named refused given =
    let (after, is_after, spelled, in_range) = settings_after read.settings given.settings (map text_of (x ∷ rest)) read.in_range given.in_range
    (sym given.spelled ∙ read.spelled) in
    let held : AreHeld (read.settings ++ after) options = subst (λ (s : List Setting). AreHeld s options) is_after given.held in
    let others : take (length (x ∷ rest) - 1) rest ≡ rest = take_rest (x ∷ rest) 1 in
    go after (spelled ∙ rw (others, named, is) refl) in_range held
  where
    go : (after : List Setting) → flat_map setting_words after ≡ name ∷ map text_of (take (length (x ∷ rest) - 1) rest) → AllByRecursion IsInRange after → AreHeld (read.settings ++ after) options → ⊥
    go [] spelled in_range held = cc
    go (s ∷ after) spelled (s_in, after_in) held =
        let again : AreHeld ((read.settings ++ s ∷ []) ++ after) options =
        subst (λ (x : List Setting). AreHeld x options) (sym (append_assoc read.settings (s ∷ []) after)) held in
        let (new, part) = part_is_held (read.settings ++ s ∷ []) after options again in
        refused s (flat_map setting_words after) (record { spelled = sym spelled; in_range = s_in }) read.settings new read.held part
