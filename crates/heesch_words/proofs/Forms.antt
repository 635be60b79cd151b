-- The words of the forms.
use Rattle.std.proofs.Common.{◌≡◌, ◌≢◌, ◌<◌, ◌≤◌, ◌^◌, ◌-◌, ℕ, List, [], ◌∷◌, ◌++◌, refl, sym, ap, ◌∙◌, subst, Bool, get_or, length, take, drop, map, codes, decimal, true, false, arith}
use Rattle.std.specs.List.{flat_map}
use Rattle.std.proofs.Math.Seq.{drop-append_seam}
use Rattle.std.proofs.lemmas.Fmt.{decimal_injective, decimal_is_IsNumeral}
use Rattle.std.proofs.lemmas.List.{take_rest, drop-map}
use Rattle.std.specs.Str.Parse.{AllDigits}
use Rattle.heesch_cert.specs.declared.header.Subject.{Subject}
use Rattle.heesch_cert.specs.declared.header.Subject.TheVariants.{Size, Given}
use Rattle.heesch_cert.specs.declared.limits.Limits.{Limits}
use Rattle.heesch_cert.specs.Sizes.{most_cells, HasGrid, IsSubject, subject_word}
use Rattle.heesch_cert.proofs.FewCells.{few_cells}
use Rattle.heesch_cnf.specs.declared.version.Version.{Version}
use Rattle.heesch_cnf.specs.declared.version.Version.TheVariants.{Two}
use Rattle.heesch_grid.specs.declared.GridName.{GridName}
use Rattle.heesch_grid.specs.declared.GridName.TheVariants.{Square, Hex, Iamond, Kite}
use Rattle.heesch_grid.specs.Names.{grid_word}
use Rattle.heesch_words.specs.declared.options.Options.{Options}
use Rattle.heesch_words.specs.declared.requests.Request.{Request}
use Rattle.heesch_words.specs.declared.requests.Request.TheVariants.{List as ListRequest, Plain as PlainRequest, Classify as ClassifyRequest, Check as CheckRequest, CheckOuter as CheckOuterRequest, Table as TableRequest, Sample as SampleRequest, Formula as FormulaRequest, Answer as AnswerRequest, Share as ShareRequest, Join as JoinRequest, Outer as OuterRequest}
use Rattle.heesch_words.specs.Options.{Setting, Number, Brief, Workers, Turns, Levels, Domain, Size as SizeOption, Version as VersionOption, setting_words, AreOptions, HasWorkersAlone, HasSizeAndVersionAlone, workers_of, limits_of}
use Rattle.heesch_words.specs.Requests.{Asks, HasForm, HaveOptions, HasCheckForm, HasCheckOuterForm, HasListForm, HasSampleForm, HasClassifyForm, HasFormulaForm, HasShareForm, form_word}
use Rattle.heesch_words.proofs.Settings.{one_reading}

-- Words before options.

-- what follows the first words, as a slice of the words
others_are : {X : Type 0} (text_of : X → List ℕ) (words : List X) (k : ℕ) (first others : List (List ℕ))
    → length first ≡ k → map text_of words ≡ first ++ others → map text_of (take (length words - k) (drop k words)) ≡ others
others_are text_of words k first others long spelled =
    let seam : drop k (first ++ others) ≡ others = subst (λ (n : ℕ). drop n (first ++ others) ≡ others) long (drop-append_seam first others) in
    ap (map text_of) (take_rest words k) ∙ sym (drop-map text_of k words) ∙ ap (drop k) spelled ∙ seam

-- where the words after the first ones are not options, the words are not those with options
pub no_options : {X : Type 0} (text_of : X → List ℕ) (words : List X) (k : ℕ) (first : List (List ℕ)) (options : Options)
    → length first ≡ k → ((options : Options) → ¬ AreOptions (map text_of (take (length words - k) (drop k words))) options)
    → ¬ HaveOptions first (map text_of words) options
no_options text_of words k first options long refused have =
    let same = others_are text_of words k first have.others long have.spelled in
    refused options (subst (λ (w : List (List ℕ)). AreOptions w options) (sym same) have.given)

-- the same of options other than `--brief`
pub no_full_options : {X : Type 0} (text_of : X → List ℕ) (words : List X) (k : ℕ) (first : List (List ℕ)) (options : Options)
    → length first ≡ k → ((options : Options) → AreOptions (map text_of (take (length words - k) (drop k words))) options → options.brief ≢ false)
    → HaveOptions first (map text_of words) options → options.brief ≢ false
no_full_options text_of words k first options long refused have =
    let same = others_are text_of words k first have.others long have.spelled in
    refused options (subst (λ (w : List (List ℕ)). AreOptions w options) (sym same) have.given)

-- the options that were read are those of the words
read_options : {X : Type 0} (text_of : X → List ℕ) (words : List X) (k : ℕ) (first : List (List ℕ)) (options read : Options)
    → length first ≡ k → AreOptions (map text_of (take (length words - k) (drop k words))) read
    → HaveOptions first (map text_of words) options → options ≡ read
read_options text_of words k first options read long given have =
    let same = others_are text_of words k first have.others long have.spelled in
    one_reading have.others options read have.given (subst (λ (w : List (List ℕ)). AreOptions w read) same given)

-- texts that are the same with others behind them, and as long, are the same
same_parts : (xs ys us vs : List (List ℕ)) → length xs ≡ length ys → xs ++ us ≡ ys ++ vs → (xs ≡ ys) × (us ≡ vs)
same_parts [] [] us vs long is = (refl, is)
same_parts [] (y ∷ ys) us vs long is = absurd (omega arith)
same_parts (x ∷ xs) [] us vs long is = absurd (omega arith)
same_parts (x ∷ xs) (y ∷ ys) us vs long is =
    let heads : x ≡ y = cc in
    let tails : xs ++ us ≡ ys ++ vs = cc in
    let (parts, others) = same_parts xs ys us vs (omega arith) tails in
    (cc, others)

-- words have one choice of so many first words and of options
one_choice : (words first first' : List (List ℕ)) (options options' : Options) → length first ≡ length first'
    → HaveOptions first words options → HaveOptions first' words options' → (first ≡ first') × (options ≡ options')
one_choice words first first' options options' long have have' =
    let (same, others) = same_parts first first' have.others have'.others long (sym have.spelled ∙ have'.spelled) in
    (same, one_reading have'.others options options' (subst (λ (w : List (List ℕ)). AreOptions w options) others have.given) have'.given)

-- The words of grids, numbers and subjects.

-- the words of the grids differ
same_grid : (x y : GridName) → grid_word x ≡ grid_word y → x ≡ y
same_grid Square Square is = refl
same_grid Hex Hex is = refl
same_grid Iamond Iamond is = refl
same_grid Kite Kite is = refl
same_grid x y is = absurd (grind arith)

one_size : (version version' : Version) (grid grid' : GridName) (n n' : ℕ)
    → n ≤ most_cells version grid → n' ≤ most_cells version' grid' → decimal n ≡ decimal n' → n ≡ n'
one_size version version' grid grid' n n' first second is =
    let few = few_cells version grid in
    let few' = few_cells version' grid' in
    decimal_injective n n' (omega (arith, first)) (omega (arith, second)) is

-- `given` is no number
not_given : (n : ℕ) → n < 2 ^ 64 → decimal n ≢ codes "given"
not_given n fits is =
    let digits : AllDigits 10 (codes "given") = subst (AllDigits 10) is (decimal_is_IsNumeral n fits).0.1 in
    absurd (omega (arith, digits.0))

one_subject : (version version' : Version) (grid grid' : GridName) (x y : Subject)
    → IsSubject version grid x → IsSubject version' grid' y → subject_word x ≡ subject_word y → x ≡ y
one_subject version version' grid grid' (Size n) (Size n') first second is = ap Size (one_size version version' grid grid' n n' first.1 second.1 is)
one_subject version version' grid grid' (Size n) Given first second is =
    let few = few_cells version grid in absurd (not_given n (omega (arith, first.1)) is)
one_subject version version' grid grid' Given (Size n) first second is =
    let few = few_cells version' grid' in absurd (not_given n (omega (arith, second.1)) (sym is))
one_subject version version' grid grid' Given Given first second is = refl

-- Words that are refused.

-- words whose options are others than the workers' have no form that takes these alone
pub list_not_alone : {X : Type 0} (text_of : X → List ℕ) (words : List X) (read : Options)
    → AreOptions (map text_of (take (length words - 2) (drop 2 words))) read → ¬ HasWorkersAlone read
    → (grid : GridName) (n workers : ℕ) → ¬ HasListForm (map text_of words) grid n workers
list_not_alone text_of words read given others grid n workers has =
    let same : has.options ≡ read = read_options text_of words 2 _ has.options read refl given has.have in
    others (subst HasWorkersAlone same has.alone)

pub check_not_alone : (words : List (List ℕ)) (read : Options) → AreOptions words read → ¬ HasWorkersAlone read
    → (workers : ℕ) → ¬ HasCheckForm words workers
check_not_alone words read given others workers has =
    let same : has.options ≡ read = one_reading words has.options read has.given given in
    others (subst HasWorkersAlone same has.alone)

-- the first word names one grid
first_grid : {X : Type 0} (text_of : X → List ℕ) (words : List X) (first : X) (grid grid' : GridName) (others : List (List ℕ)) (options : Options)
    → 1 ≤ length words → first ≡ get_or words 0 first → text_of first ≡ grid_word grid
    → HaveOptions (grid_word grid' ∷ others) (map text_of words) options → grid' ≡ grid
first_grid text_of [] first grid grid' others options some is named have = absurd (omega arith)
first_grid text_of (x ∷ words) first grid grid' others options some is named have =
    let spelled : text_of x ∷ map text_of words ≡ (grid_word grid' ∷ others) ++ have.others = have.spelled in
    let first_is : first ≡ x = is in
    same_grid grid' grid cc

-- where the version that was read doesn't have the grid that the first word names, the words have no form of a sample
pub sample_no_grid : {X : Type 0} (text_of : X → List ℕ) (words : List X) (first : X) (read : Options) (version : Version) (grid : GridName)
    → 4 ≤ length words → first ≡ get_or words 0 first → text_of first ≡ grid_word grid → version ≡ (limits_of read).version
    → AreOptions (map text_of (take (length words - 4) (drop 4 words))) read → ¬ HasGrid version grid
    → (grid' : GridName) (n count seed : ℕ) (limits : Limits) (workers : ℕ) → ¬ HasSampleForm (map text_of words) grid' n count seed limits workers
sample_no_grid text_of words first read version grid some is named of given none grid' n count seed limits workers has =
    let same : has.options ≡ read = read_options text_of words 4 _ has.options read refl given has.have in
    let grids : grid' ≡ grid = first_grid text_of words first grid grid' _ has.options (omega arith) is named has.have in
    let versions : limits.version ≡ version = ap (λ (l : Limits). l.version) (has.limits_is ∙ ap limits_of same) ∙ sym of in
    none (subst (λ (g : GridName). HasGrid version g) grids (subst (λ (v : Version). HasGrid v grid') versions has.has_grid))

-- nor those of a formula
pub formula_no_grid : {X : Type 0} (text_of : X → List ℕ) (words : List X) (first : X) (read : Options) (version : Version) (grid : GridName)
    → 2 ≤ length words → first ≡ get_or words 0 first → text_of first ≡ grid_word grid → version ≡ (limits_of read).version
    → AreOptions (map text_of (take (length words - 2) (drop 2 words))) read → ¬ HasGrid version grid
    → (grid' : GridName) (level size : ℕ) (version' : Version) → ¬ HasFormulaForm (map text_of words) grid' level size version'
formula_no_grid text_of words first read version grid some is named of given none grid' level size version' has =
    let same : has.options ≡ read = read_options text_of words 2 _ has.options read refl given has.have in
    let grids : grid' ≡ grid = first_grid text_of words first grid grid' _ has.options (omega arith) is named has.have in
    let versions : version' ≡ version = has.version_is ∙ ap (λ (o : Options). (limits_of o).version) same ∙ sym of in
    none (subst (λ (g : GridName). HasGrid version g) grids (subst (λ (v : Version). HasGrid v grid') versions has.has_grid))

-- nor have words with other options than a formula's its form
pub formula_not_alone : {X : Type 0} (text_of : X → List ℕ) (words : List X) (read : Options)
    → AreOptions (map text_of (take (length words - 2) (drop 2 words))) read → ¬ HasSizeAndVersionAlone read
    → (grid : GridName) (level size : ℕ) (version : Version) → ¬ HasFormulaForm (map text_of words) grid level size version
formula_not_alone text_of words read given others grid level size version has =
    let same : has.options ≡ read = read_options text_of words 2 _ has.options read refl given has.have in
    others (subst HasSizeAndVersionAlone same has.alone)

-- where the second word names no subject in the range of the version that was read, the words have no form of a catalogue
pub subject_refused : {X : Type 0} (text_of : X → List ℕ) (words : List X) (first second : X) (read : Options) (version : Version) (grid : GridName)
    → 2 ≤ length words → first ≡ get_or words 0 first → second ≡ get_or words 1 second
    → text_of first ≡ grid_word grid → version ≡ (limits_of read).version
    → AreOptions (map text_of (take (length words - 2) (drop 2 words))) read
    → ((subject : Subject) → IsSubject version grid subject → text_of second ≢ subject_word subject)
    → (grid' : GridName) (subject : Subject) (limits : Limits) (workers : ℕ) (brief : Bool) → ¬ HasClassifyForm (map text_of words) grid' subject limits workers brief
subject_refused text_of [] first second read version grid some is is' named of given refused grid' subject limits workers brief has = absurd (omega arith)
subject_refused text_of (x ∷ []) first second read version grid some is is' named of given refused grid' subject limits workers brief has = absurd (omega arith)
subject_refused text_of (x ∷ y ∷ words) first second read version grid some is is' named of given refused grid' subject limits workers brief has =
    let same : has.options ≡ read = read_options text_of (x ∷ y ∷ words) 2 _ has.options read refl given has.have in
    let spelled : text_of x ∷ text_of y ∷ map text_of words ≡ grid_word grid' ∷ subject_word subject ∷ has.have.others = has.have.spelled in
    let first_is : first ≡ x = is in
    let second_is : second ≡ y = is' in
    let grids : grid' ≡ grid = same_grid grid' grid cc in
    let versions : limits.version ≡ version = ap (λ (l : Limits). l.version) (has.limits_is ∙ ap limits_of same) ∙ sym of in
    let in_range : IsSubject version grid' subject = subst (λ (v : Version). IsSubject v grid' subject) versions has.in_range in
    refused subject (subst (λ (g : GridName). IsSubject version g subject) grids in_range) cc

-- the options of the form of a share are those that were read
share_options : {X : Type 0} (text_of : X → List ℕ) (words : List X) (read : Options) (grid : GridName) (n i k : ℕ) (limits : Limits) (workers : ℕ)
    → AreOptions (map text_of (take (length words - 4) (drop 4 words))) read → (has : HasShareForm (map text_of words) grid n i k limits workers) → has.options ≡ read
share_options text_of words read grid n i k limits workers given has = read_options text_of words 4 _ has.options read refl given has.have

-- the number of a share isn't among those of so many as the fourth word says
pub share_number_refused : {X : Type 0} (text_of : X → List ℕ) (words : List X) (third fourth : X) (all : ℕ)
    → 4 ≤ length words → third ≡ get_or words 2 third → fourth ≡ get_or words 3 fourth
    → text_of fourth ≡ decimal all → all ≤ 1000 → ((m : ℕ) → 1 ≤ m → m ≤ all → text_of third ≢ decimal m)
    → (grid : GridName) (n i k : ℕ) (limits : Limits) (workers : ℕ) → ¬ HasShareForm (map text_of words) grid n i k limits workers
share_number_refused text_of [] third fourth all some is is' named few none grid n i k limits workers has = absurd (omega arith)
share_number_refused text_of (w ∷ []) third fourth all some is is' named few none grid n i k limits workers has = absurd (omega arith)
share_number_refused text_of (w ∷ x ∷ []) third fourth all some is is' named few none grid n i k limits workers has = absurd (omega arith)
share_number_refused text_of (w ∷ x ∷ y ∷ []) third fourth all some is is' named few none grid n i k limits workers has = absurd (omega arith)
share_number_refused text_of (w ∷ x ∷ y ∷ z ∷ words) third fourth all some is is' named few none grid n i k limits workers has =
    let spelled : text_of w ∷ text_of x ∷ text_of y ∷ text_of z ∷ map text_of words ≡ grid_word grid ∷ decimal n ∷ decimal i ∷ decimal k ∷ has.have.others = has.have.spelled in
    let third_is : third ≡ y = is in
    let fourth_is : fourth ≡ z = is' in
    let shares : decimal k ≡ decimal all = cc in
    let same : k ≡ all = decimal_injective k all (omega (arith, has.share.most)) (omega (arith, few)) shares in
    none i has.share.number.0 (omega (arith, has.share.number.1, same)) cc

-- the size isn't one of the grid in the version that was read
pub share_size_refused : {X : Type 0} (text_of : X → List ℕ) (words : List X) (first second : X) (read : Options) (version : Version) (grid : GridName)
    → 4 ≤ length words → first ≡ get_or words 0 first → second ≡ get_or words 1 second
    → text_of first ≡ grid_word grid → version ≡ (limits_of read).version
    → AreOptions (map text_of (take (length words - 4) (drop 4 words))) read
    → ((m : ℕ) → 1 ≤ m → m ≤ most_cells version grid → text_of second ≢ decimal m)
    → (grid' : GridName) (n i k : ℕ) (limits : Limits) (workers : ℕ) → ¬ HasShareForm (map text_of words) grid' n i k limits workers
share_size_refused text_of [] first second read version grid some is is' named of given none grid' n i k limits workers has = absurd (omega arith)
share_size_refused text_of (w ∷ []) first second read version grid some is is' named of given none grid' n i k limits workers has = absurd (omega arith)
share_size_refused text_of (w ∷ x ∷ words) first second read version grid some is is' named of given none grid' n i k limits workers has =
    let same : has.options ≡ read = share_options text_of (w ∷ x ∷ words) read grid' n i k limits workers given has in
    let spelled : text_of w ∷ text_of x ∷ map text_of words ≡ grid_word grid' ∷ decimal n ∷ decimal i ∷ decimal k ∷ has.have.others = has.have.spelled in
    let first_is : first ≡ w = is in
    let second_is : second ≡ x = is' in
    let grids : grid' ≡ grid = same_grid grid' grid cc in
    let versions : limits.version ≡ version = ap (λ (l : Limits). l.version) (has.limits_is ∙ ap limits_of same) ∙ sym of in
    let in_range : IsSubject version grid (Size n) = subst (λ (g : GridName). IsSubject version g (Size n)) grids (subst (λ (v : Version). IsSubject v grid' (Size n)) versions has.in_range) in
    none n in_range.0 in_range.1 cc

-- Words ask for one thing at most.

-- words have one form of a list
one_list : (words : List (List ℕ)) (grid grid' : GridName) (n n' workers workers' : ℕ)
    → HasListForm words grid n workers → HasListForm words grid' n' workers' → (grid ≡ grid') × (n ≡ n') × (workers ≡ workers')
one_list words grid grid' n n' workers workers' first second =
    let (parts, same) = one_choice words _ _ first.options second.options refl first.have second.have in
    let grids : grid_word grid ≡ grid_word grid' = cc in
    let sizes : decimal n ≡ decimal n' = cc in
    (same_grid grid grid' grids, one_size Two Two grid grid' n n' first.size.1 second.size.1 sizes, first.workers_is ∙ ap workers_of same ∙ sym second.workers_is)

-- words have one form of a catalogue
one_classify : (words : List (List ℕ)) (grid grid' : GridName) (subject subject' : Subject) (limits limits' : Limits) (workers workers' : ℕ) (brief brief' : Bool)
    → HasClassifyForm words grid subject limits workers brief → HasClassifyForm words grid' subject' limits' workers' brief'
    → (grid ≡ grid') × (subject ≡ subject') × (limits ≡ limits') × (workers ≡ workers') × (brief ≡ brief')
one_classify words grid grid' subject subject' limits limits' workers workers' brief brief' first second =
    let (parts, same) = one_choice words _ _ first.options second.options refl first.have second.have in
    let grids : grid_word grid ≡ grid_word grid' = cc in
    let subjects : subject_word subject ≡ subject_word subject' = cc in (
      same_grid grid grid' grids,
      one_subject limits.version limits'.version grid grid' subject subject' first.in_range second.in_range subjects,
      first.limits_is ∙ ap limits_of same ∙ sym second.limits_is,
      first.workers_is ∙ ap workers_of same ∙ sym second.workers_is,
      first.brief_is ∙ ap (λ (o : Options). o.brief) same ∙ sym second.brief_is,
    )

-- words with the form of a brief catalogue have that of no full one
pub brief_not_full : (words : List (List ℕ)) (grid grid' : GridName) (subject subject' : Subject) (limits limits' : Limits) (workers workers' : ℕ) (brief : Bool)
    → HasClassifyForm words grid subject limits workers brief → brief ≡ true → ¬ HasClassifyForm words grid' subject' limits' workers' false
brief_not_full words grid grid' subject subject' limits limits' workers workers' brief first is second =
    let (grids, subjects, limits_are, counts, briefs) = one_classify words grid grid' subject subject' limits limits' workers workers' brief false first second in
    cc

-- words have one form of a formula
one_formula : (words : List (List ℕ)) (grid grid' : GridName) (level level' size size' : ℕ) (version version' : Version)
    → HasFormulaForm words grid level size version → HasFormulaForm words grid' level' size' version'
    → (grid ≡ grid') × (level ≡ level') × (size ≡ size') × (version ≡ version')
one_formula words grid grid' level level' size size' version version' first second =
    let (parts, same) = one_choice words _ _ first.options second.options refl first.have second.have in
    let grids : grid_word grid ≡ grid_word grid' = cc in
    let levels : decimal level ≡ decimal level' = cc in (
      same_grid grid grid' grids,
      decimal_injective level level' (omega (arith, first.level_range.1)) (omega (arith, second.level_range.1)) levels,
      first.size_is ∙ ap (λ (o : Options). (limits_of o).size) same ∙ sym second.size_is,
      first.version_is ∙ ap (λ (o : Options). (limits_of o).version) same ∙ sym second.version_is,
    )

-- four words and four words
four_same : {a b c d x y z w : List ℕ} → a ∷ b ∷ c ∷ d ∷ [] ≡ x ∷ y ∷ z ∷ w ∷ [] → (a ≡ x) × (b ≡ y) × (c ≡ z) × (d ≡ w)
four_same is = ((cc), (cc), (cc), (cc))

-- no option is spelled `outer`
setting_not_outer : (settings : List Setting) (others : List (List ℕ)) → codes "outer" ∷ others ≡ flat_map setting_words settings → ⊥
setting_not_outer [] others is = absurd cc
setting_not_outer (Brief ∷ settings) others is = absurd cc
setting_not_outer (Number Workers n ∷ settings) others is = absurd cc
setting_not_outer (Number Turns n ∷ settings) others is = absurd cc
setting_not_outer (Number Levels n ∷ settings) others is = absurd cc
setting_not_outer (Number Domain n ∷ settings) others is = absurd cc
setting_not_outer (Number SizeOption n ∷ settings) others is = absurd cc
setting_not_outer (Number VersionOption n ∷ settings) others is = absurd cc

-- so words with the form of the check of a catalogue have none of the check of an outer text
check_not_outer : (words : List (List ℕ)) (workers : ℕ) → HasCheckForm words workers → (grid : GridName) (subject : Subject) (limits : Limits) (workers' : ℕ) → ¬ HasCheckOuterForm words grid subject limits workers'
check_not_outer words workers first grid subject limits workers' second = setting_not_outer first.given.settings second.others (sym second.spelled ∙ first.given.spelled)

-- words that begin with `outer` aren't the options of a check
pub outer_no_options : {X : Type 0} (text_of : X → List ℕ) (words : List X) (first : X) → 1 ≤ length words → first ≡ get_or words 0 first → text_of first ≡ codes "outer"
    → (workers : ℕ) → ¬ HasCheckForm (map text_of words) workers
outer_no_options text_of [] first some is named workers has = absurd (omega arith)
outer_no_options text_of (x ∷ words) first some is named workers has =
    let first_is : first ≡ x = is in
    let outer : text_of x ≡ codes "outer" = cc in
    setting_not_outer has.given.settings (map text_of words) (ap (λ w. w ∷ map text_of words) (sym outer) ∙ has.given.spelled)

-- words behind `outer` that have no form give none
pub outer_refused : {X : Type 0} (text_of : X → List ℕ) (words : List X)
    → ((grid : GridName) (subject : Subject) (limits : Limits) (workers : ℕ) → ¬ HasClassifyForm (map text_of (take (length words - 1) (drop 1 words))) grid subject limits workers false)
    → (grid : GridName) (subject : Subject) (limits : Limits) (workers : ℕ) → ¬ HasCheckOuterForm (map text_of words) grid subject limits workers
outer_refused text_of words none grid subject limits workers has =
    let others : map text_of (take (length words - 1) (drop 1 words)) ≡ has.others = others_are text_of words 1 (codes "outer" ∷ []) has.others refl has.spelled in
    none grid subject limits workers (subst (λ (w : List (List ℕ)). HasClassifyForm w grid subject limits workers false) (sym others) has.has)

-- words have one form of each kind
one_of_form : (words : List (List ℕ)) (x y : Request) → form_word x ≡ form_word y → HasForm words x → HasForm words y → x ≡ y
one_of_form words (ListRequest grid n workers) (ListRequest grid' n' workers') is first second =
    let (grids, sizes, counts) = one_list words grid grid' n n' workers workers' first second in
    cc
one_of_form words (PlainRequest grid n workers) (PlainRequest grid' n' workers') is first second =
    let (grids, sizes, counts) = one_list words grid grid' n n' workers workers' first second in
    cc
one_of_form words (ClassifyRequest grid subject limits workers brief) (ClassifyRequest grid' subject' limits' workers' brief') is first second =
    let (grids, subjects, limits_are, counts, briefs) = one_classify words grid grid' subject subject' limits limits' workers workers' brief brief' first second in
    cc
one_of_form words (CheckRequest workers) (CheckRequest workers') is first second =
    let same = one_reading words first.options second.options first.given second.given in
    let same_workers : workers ≡ workers' = first.workers_is ∙ ap workers_of same ∙ sym second.workers_is in
    cc
one_of_form words (CheckRequest workers) (CheckOuterRequest grid subject limits workers') is first second = absurd (check_not_outer words workers first grid subject limits workers' second)
one_of_form words (CheckOuterRequest grid subject limits workers') (CheckRequest workers) is first second = absurd (check_not_outer words workers second grid subject limits workers' first)
one_of_form words (CheckOuterRequest grid subject limits workers) (CheckOuterRequest grid' subject' limits' workers') is first second =
    let spelled : codes "outer" ∷ first.others ≡ codes "outer" ∷ second.others = sym first.spelled ∙ second.spelled in
    let same : second.others ≡ first.others = cc in
    let (grids, subjects, limits_are, counts, briefs) = one_classify first.others grid grid' subject subject' limits limits' workers workers' false false first.has (subst (λ (w : List (List ℕ)). HasClassifyForm w grid' subject' limits' workers' false) same second.has) in
    cc
one_of_form words TableRequest TableRequest is first second = refl
one_of_form words (SampleRequest grid n count seed limits workers) (SampleRequest grid' n' count' seed' limits' workers') is first second =
    let (parts, same) = one_choice words _ _ first.options second.options refl first.have second.have in
    let (grids, sizes, counts, seeds) = four_same parts in
    let same_grids : grid ≡ grid' = same_grid grid grid' grids in
    let same_sizes : n ≡ n' = decimal_injective n n' (omega (arith, first.in_range.cells.1)) (omega (arith, second.in_range.cells.1)) sizes in
    let same_counts : count ≡ count' = decimal_injective count count' (omega (arith, first.in_range.shapes.1)) (omega (arith, second.in_range.shapes.1)) counts in
    let same_seeds : seed ≡ seed' = decimal_injective seed seed' (omega (arith, first.in_range.seed_range)) (omega (arith, second.in_range.seed_range)) seeds in
    let same_limits : limits ≡ limits' = first.limits_is ∙ ap limits_of same ∙ sym second.limits_is in
    let same_workers : workers ≡ workers' = first.workers_is ∙ ap workers_of same ∙ sym second.workers_is in
    cc
one_of_form words (FormulaRequest grid level size version) (FormulaRequest grid' level' size' version') is first second =
    let (grids, levels, sizes, versions) = one_formula words grid grid' level level' size size' version version' first second in
    cc
one_of_form words (AnswerRequest grid level size version) (AnswerRequest grid' level' size' version') is first second =
    let (grids, levels, sizes, versions) = one_formula words grid grid' level level' size size' version version' first second in
    cc
one_of_form words (ShareRequest grid n i k limits workers) (ShareRequest grid' n' i' k' limits' workers') is first second =
    let (parts, same) = one_choice words _ _ first.options second.options refl first.have second.have in
    let (grids, sizes, numbers, counts) = four_same parts in
    let same_grids : grid ≡ grid' = same_grid grid grid' grids in
    let same_sizes : n ≡ n' = one_size limits.version limits'.version grid grid' n n' first.in_range.1 second.in_range.1 sizes in
    let same_numbers : i ≡ i' = decimal_injective i i' (omega (arith, first.share.number.1, first.share.most)) (omega (arith, second.share.number.1, second.share.most)) numbers in
    let same_counts : k ≡ k' = decimal_injective k k' (omega (arith, first.share.most)) (omega (arith, second.share.most)) counts in
    let same_limits : limits ≡ limits' = first.limits_is ∙ ap limits_of same ∙ sym second.limits_is in
    let same_workers : workers ≡ workers' = first.workers_is ∙ ap workers_of same ∙ sym second.workers_is in
    cc
one_of_form words JoinRequest JoinRequest is first second = refl
one_of_form words (OuterRequest grid subject limits workers) (OuterRequest grid' subject' limits' workers') is first second =
    let (grids, subjects, limits_are, counts, briefs) = one_classify words grid grid' subject subject' limits limits' workers workers' false false first second in
    cc
one_of_form words x y is first second = absurd (grind arith)

-- words ask for one thing at most
pub one_request : (words : List (List ℕ)) (x y : Request) → Asks words x → Asks words y → x ≡ y
one_request words x y first second =
    let spelled : form_word x ∷ first.others ≡ form_word y ∷ second.others = sym first.spelled ∙ second.spelled in
    let forms : form_word x ≡ form_word y = cc in
    let others : second.others ≡ first.others = cc in
    one_of_form first.others x y forms first.has (subst (λ (w : List (List ℕ)). HasForm w y) others second.has)
