-- What stands beside a character in lines: just what is recorded.
use Rattle.std.proofs.Common.{◌≡◌, ℕ, ◌+◌, ◌≤◌, Bool, true, false, cond, not, ◌==◌, ◌&&◌, ◌||◌, List, [], ◌∷◌, length, Option, Some, None, refl, sym, ap, ◌∙◌, subst, arith}
use Rattle.std.specs.Prelude.{is_some, sum_by, bytes_eq}
use Rattle.std.specs.Option.{option_and_then, option_or}
use Rattle.std.specs.List.{list_any}
use Rattle.std.proofs.lemmas.Bool.{and_from, and_parts, false≢true, not_from_false, or_left, or_right}
use Rattle.std.proofs.lemmas.Bool.Decides.{same_from_decides}
use Rattle.std.proofs.lemmas.List.Sums.{sum_by-cons}
use Rattle.std.proofs.lemmas.Slice.Eq.{bytes_eq-Decides}
use Rattle.icu_collator_types.specs.declared.elements.Element.{Element}
use Rattle.collate_lines.specs.Record.{Layer, Record, root, tailoring, nothing, class, mapping, compatibility, weights, range, digit, setting, is_same_layer}
use Rattle.collate_rules.specs.GivenWeights.{elements_of}
use Rattle.collate_rules.specs.Meaning.{elements_in, first_found, recorded_in}
use Rattle.collate_rules.specs.RecordRules.{begins_with, is_alone, is_further, is_given, is_replaced}
use Rattle.collate_rules.specs.Rules.{is_beside}
use Rattle.collate_words.specs.Sayings.{SaidBeside, element_sum, elements_beside, own_count}
use Rattle.collate_compile.specs.Beginnings.{elements_begun, texts_begun}
use Rattle.collate_compile.specs.BesideLines.{gathered, prefix_in, prefix_of, prefixes_in, suffix_in, suffix_of, suffixes_in}
use Rattle.collate_compile.specs.LineSayings.{begins_line}
use Rattle.collate_compile.proofs.gathering.GatherLemmas.{AreKept, elements_at, found_size, gathered-beside, gathered_kept, kept_none, said_of, sum-gathered}

bytes_eq-swap : (xs ys : List ℕ) → bytes_eq xs ys ≡ bytes_eq ys xs
bytes_eq-swap xs ys =
    same_from_decides (bytes_eq xs ys) (bytes_eq ys xs) (bytes_eq-Decides xs ys)
    (λ h. sym ((bytes_eq-Decides ys xs).0 h), λ e. (bytes_eq-Decides ys xs).1 (sym e))

-- ---- A line

-- a text or a prefix of other characters
module _ (key : List ℕ) where
  no_key : (s t : Bool) (es : List Element)
      → option_and_then (elements_at key) (cond s None None) ≡ cond (s && true && (t && false)) (Some es) None
  no_key false t es = refl
  no_key true false es = refl
  no_key true true es = refl

  no_prefix : (s t : Bool) (es : List Element)
      → option_and_then (elements_at key) (cond s None None) ≡ cond (s && false && t) (Some es) None
  no_prefix false t es = refl
  no_prefix true t es = refl

  no_text : (s t : Bool) (es : List Element)
      → option_and_then (elements_at key) (cond s None None) ≡ cond (s && t && false) (Some es) None
  no_text false t es = refl
  no_text true false es = refl
  no_text true true es = refl

  no_one : (s t u : Bool) (es : List Element)
      → option_and_then (elements_at key) (cond s None None) ≡ cond (s && t && (u && false)) (Some es) None
  no_one false t u es = refl
  no_one true false u es = refl
  no_one true true false es = refl
  no_one true true true es = refl

suffix_here : (key : List ℕ) (s t : Bool) (said : SaidBeside)
    → option_and_then (elements_at key) (cond s (cond t (Some said) None) None) ≡ cond
    (s && true && (t && bytes_eq key said.characters)) (Some said.elements) None
suffix_here key false t said = refl
suffix_here key true false said = refl
suffix_here key true true said = ap (λ (b : Bool). cond b (Some said.elements) None) (bytes_eq-swap said.characters key)

suffix_found : (layer : Layer) (c d : ℕ) (ds : List ℕ) (line : Record)
    → said_of (suffix_in layer c) (d ∷ ds) line ≡ elements_in layer [] (c ∷ d ∷ ds) line
suffix_found layer c d ds (weights other [] [] es) = no_text (d ∷ ds) (is_same_layer layer other) true es
suffix_found layer c d ds (weights other [] (x ∷ []) es) = no_key (d ∷ ds) (is_same_layer layer other) (c == x) es
suffix_found layer c d ds (weights other [] (x ∷ y ∷ ys) es) =
    suffix_here (d ∷ ds) (is_same_layer layer other) (c == x) (record { characters = y ∷ ys; elements = es })
suffix_found layer c d ds (weights other (b ∷ bs) text es) =
    no_prefix (d ∷ ds) (is_same_layer layer other) (bytes_eq (c ∷ d ∷ ds) text) es
suffix_found layer c d ds nothing = refl
suffix_found layer c d ds (class e k) = refl
suffix_found layer c d ds (mapping e es x) = refl
suffix_found layer c d ds (compatibility e es) = refl
suffix_found layer c d ds (range r) = refl
suffix_found layer c d ds (digit e v) = refl
suffix_found layer c d ds (setting s) = refl

prefix_here : (key : List ℕ) (s t : Bool) (said : SaidBeside)
    → option_and_then (elements_at key) (cond s (cond t (Some said) None) None) ≡ cond
    (s && bytes_eq key said.characters && (t && true)) (Some said.elements) None
prefix_here key false t said = refl
prefix_here key true false said = no_text key true (bytes_eq key said.characters) said.elements
prefix_here key true true said =
    ap (λ (b : Bool). cond b (Some said.elements) None)
    (bytes_eq-swap said.characters key ∙ as_is (bytes_eq key said.characters))
  where
    as_is : (b : Bool) → b ≡ (b && true)
    as_is true = refl
    as_is false = refl

prefix_found : (layer : Layer) (c b : ℕ) (bs : List ℕ) (line : Record)
    → said_of (prefix_in layer c) (b ∷ bs) line ≡ elements_in layer (b ∷ bs) (c ∷ []) line
prefix_found layer c b bs (weights other [] text es) =
    no_prefix (b ∷ bs) (is_same_layer layer other) (bytes_eq (c ∷ []) text) es
prefix_found layer c b bs (weights other (x ∷ xs) [] es) =
    no_text (b ∷ bs) (is_same_layer layer other) (bytes_eq (b ∷ bs) (x ∷ xs)) es
prefix_found layer c b bs (weights other (x ∷ xs) (d ∷ []) es) =
    prefix_here (b ∷ bs) (is_same_layer layer other) (c == d) (record { characters = x ∷ xs; elements = es })
prefix_found layer c b bs (weights other (x ∷ xs) (d ∷ e ∷ ds) es) =
    no_one (b ∷ bs) (is_same_layer layer other) (bytes_eq (b ∷ bs) (x ∷ xs)) (c == d) es
prefix_found layer c b bs nothing = refl
prefix_found layer c b bs (class e k) = refl
prefix_found layer c b bs (mapping e es x) = refl
prefix_found layer c b bs (compatibility e es) = refl
prefix_found layer c b bs (range r) = refl
prefix_found layer c b bs (digit e v) = refl
prefix_found layer c b bs (setting s) = refl

-- ---- All lines

first_found-same : {A B : Type 0} (f g : A → Option B) (xs : List A) → ((x : A) → f x ≡ g x)
    → first_found f xs ≡ first_found g xs
first_found-same f g [] same = refl
first_found-same {A} {B} f g (x ∷ xs) same =
    ap (λ (o : Option B). elim o [ Some y ↦ Some y | None ↦ first_found f xs ]) (same x)
    ∙ ap (λ (later : Option B). elim (g x) [ Some y ↦ Some y | None ↦ later ]) (first_found-same f g xs same)

else_found : {B : Type 0} (o p : Option B) → option_or o p ≡ (elim o [ Some x ↦ Some x | None ↦ p ])
else_found None p = refl
else_found (Some x) p = refl

-- what two layers say one after the other
module _ (of_layer : Layer → Record → Option SaidBeside) (prefix text key : List ℕ)
    (found : (layer : Layer) (line : Record) → said_of (of_layer layer) key line ≡ elements_in layer prefix text line) where
  recorded : (lines : List Record)
      → elements_beside (gathered (of_layer root) lines (gathered (of_layer tailoring) lines [])) key ≡ recorded_in
      lines prefix text
  recorded lines =
      let of_root = first_found (elements_in root prefix text) lines in
      gathered-beside (of_layer root) lines (gathered (of_layer tailoring) lines []) key
      ∙ ap (λ (o : Option (List Element)). option_or o (first_found (said_of (of_layer root) key) lines))
      (gathered-beside (of_layer tailoring) lines [] key)
      ∙ ap (λ (o : Option (List Element)). option_or o (first_found (said_of (of_layer root) key) lines))
      (first_found-same (said_of (of_layer tailoring) key) (elements_in tailoring prefix text) lines (found tailoring))
      ∙ ap (option_or (first_found (elements_in tailoring prefix text) lines))
      (first_found-same (said_of (of_layer root) key) (elements_in root prefix text) lines (found root))
      ∙ else_found (first_found (elements_in tailoring prefix text) lines) of_root

pub suffixes_recorded : (lines : List Record) (c d : ℕ) (ds : List ℕ)
    → elements_beside (suffixes_in lines c) (d ∷ ds) ≡ recorded_in lines [] (c ∷ d ∷ ds)
suffixes_recorded lines c d ds =
    recorded (λ layer. suffix_in layer c) [] (c ∷ d ∷ ds) (d ∷ ds) (λ layer line. suffix_found layer c d ds line) lines

pub prefixes_recorded : (lines : List Record) (c b : ℕ) (bs : List ℕ)
    → elements_beside (prefixes_in lines c) (b ∷ bs) ≡ recorded_in lines (b ∷ bs) (c ∷ [])
prefixes_recorded lines c b bs =
    recorded (λ layer. prefix_in layer c) (b ∷ bs) (c ∷ []) (b ∷ bs)
    (λ layer line. prefix_found layer c b bs line) lines

pub suffixes_kept : (lines : List Record) (c : ℕ) → AreKept (suffixes_in lines c)
suffixes_kept lines c =
    gathered_kept (suffix_in root c) lines _ (gathered_kept (suffix_in tailoring c) lines [] kept_none)

pub prefixes_kept : (lines : List Record) (c : ℕ) → AreKept (prefixes_in lines c)
prefixes_kept lines c =
    gathered_kept (prefix_in root c) lines _ (gathered_kept (prefix_in tailoring c) lines [] kept_none)

-- ---- How much there is

by_layer : (layer : Layer) (n : ℕ) (f : Bool → ℕ) → f false ≡ 0 → f true ≤ n
    → f (is_same_layer root layer) + f (is_same_layer tailoring layer) ≤ n
by_layer root n f none one = omega arith
by_layer tailoring n f none one = omega arith

-- what stands beside a character, by what a line says of it in one layer, and in both
module _ (taken : List Element → ℕ) where
  abbrev pub size_of : SaidBeside → ℕ
  size_of said = taken said.elements

  abbrev size_beside : Layer → ℕ → Record → ℕ
  size_beside layer c line = found_size size_of (suffix_in layer c line) + found_size size_of (prefix_in layer c line)

  -- what a line takes beside a character
  abbrev pub beside_begun : ℕ → Record → ℕ
  beside_begun c line = cond (begins_line c line) (cond (is_beside line) (taken (elements_of line)) 0) 0

  beside_once : (c : ℕ) (line : Record) → size_beside root c line + size_beside tailoring c line ≤ beside_begun c line
  beside_once c (weights layer prefix text es) =
      by_layer layer (beside_begun c (weights layer prefix text es))
      (λ b. found_size size_of (cond b (suffix_of c prefix text es) None)
      + found_size size_of (cond b (prefix_of c prefix text es) None)) refl
      (of_key prefix text)
    where
      of_same : (b : Bool) (said : SaidBeside) → size_of said ≡ taken es
          → found_size size_of (cond b (Some said) None) ≤ cond b (taken es) 0
      of_same true said e = omega (arith, e)
      of_same false said e = omega arith

      of_key : (prefix text : List ℕ)
          → found_size size_of (suffix_of c prefix text es) + found_size size_of (prefix_of c prefix text es)
          ≤ beside_begun c (weights layer prefix text es)
      of_key [] [] = omega arith
      of_key [] (x ∷ []) = omega arith
      of_key [] (x ∷ y ∷ ys) = omega (arith, of_same (c == x) (record { characters = y ∷ ys; elements = es }) refl)
      of_key (b ∷ bs) [] = omega arith
      of_key (b ∷ bs) (x ∷ []) = omega (arith, of_same (c == x) (record { characters = b ∷ bs; elements = es }) refl)
      of_key (b ∷ bs) (x ∷ y ∷ ys) = omega arith
  beside_once c nothing = omega arith
  beside_once c (class e k) = omega arith
  beside_once c (mapping e es x) = omega arith
  beside_once c (compatibility e es) = omega arith
  beside_once c (range r) = omega arith
  beside_once c (digit e v) = omega arith
  beside_once c (setting s) = omega arith

  beside_counted : (lines : List Record) (c : ℕ)
      → (sum_by (λ line. found_size size_of (suffix_in root c line)) lines
      + sum_by (λ line. found_size size_of (suffix_in tailoring c line)) lines)
      + (sum_by (λ line. found_size size_of (prefix_in root c line)) lines
      + sum_by (λ line. found_size size_of (prefix_in tailoring c line)) lines)
      ≤ sum_by (beside_begun c) lines
  beside_counted [] c = omega arith
  beside_counted (line ∷ lines) c =
      omega (
        arith,
        beside_counted lines c,
        beside_once c line,
        sum_by-cons (λ l. found_size size_of (suffix_in root c l)) line lines,
        sum_by-cons (λ l. found_size size_of (suffix_in tailoring c l)) line lines,
        sum_by-cons (λ l. found_size size_of (prefix_in root c l)) line lines,
        sum_by-cons (λ l. found_size size_of (prefix_in tailoring c l)) line lines,
        sum_by-cons (beside_begun c) line lines,
      )

  -- as much as the lines take beside the character
  pub few_beside : (lines : List Record) (c : ℕ)
      → sum_by size_of (suffixes_in lines c) + sum_by size_of (prefixes_in lines c) ≤ sum_by (beside_begun c) lines
  few_beside lines c =
      omega (
        arith,
        beside_counted lines c,
        sum-gathered (suffix_in root c) size_of lines (gathered (suffix_in tailoring c) lines []),
        sum-gathered (suffix_in tailoring c) size_of lines [],
        sum-gathered (prefix_in root c) size_of lines (gathered (prefix_in tailoring c) lines []),
        sum-gathered (prefix_in tailoring c) size_of lines [],
      )

-- ---- How many elements a character has alone

-- what a line gives of them
abbrev alone_begun : ℕ → Record → ℕ
alone_begun c line = cond (begins_line c line) (cond (is_beside line) 0 (length (elements_of line))) 0

alone_once : (c : ℕ) (line : Record)
    → own_count (elements_in root [] (c ∷ []) line) + own_count (elements_in tailoring [] (c ∷ []) line)
    ≤ alone_begun c line
alone_once c (weights layer prefix text es) =
    by_layer layer (alone_begun c (weights layer prefix text es))
    (λ b. own_count (cond (b && bytes_eq [] prefix && bytes_eq (c ∷ []) text) (Some es) None)) refl (of_key prefix text)
  where
    one : (b : Bool) → own_count (cond (b && true) (Some es) None) ≤ cond b (length es) 0
    one true = omega arith
    one false = omega arith

    none : (b : Bool) (n : ℕ) → own_count (cond (b && false) (Some es) None) ≤ n
    none true n = omega arith
    none false n = omega arith

    of_key : (prefix text : List ℕ)
        → own_count (cond (bytes_eq [] prefix && bytes_eq (c ∷ []) text) (Some es) None)
        ≤ alone_begun c (weights layer prefix text es)
    of_key [] [] = omega arith
    of_key [] (x ∷ []) = one (c == x)
    of_key [] (x ∷ y ∷ ys) = none (c == x) _
    of_key (b ∷ bs) text = omega arith
alone_once c nothing = omega arith
alone_once c (class e k) = omega arith
alone_once c (mapping e es x) = omega arith
alone_once c (compatibility e es) = omega arith
alone_once c (range r) = omega arith
alone_once c (digit e v) = omega arith
alone_once c (setting s) = omega arith

found_few : (found : Record → Option (List Element)) (lines : List Record)
    → own_count (first_found found lines) ≤ sum_by (λ line. own_count (found line)) lines
found_few found [] = omega arith
found_few found (line ∷ lines) = by (found line) refl (found_few found lines)
  where
    by : (o : Option (List Element)) → found line ≡ o
        → own_count (first_found found lines) ≤ sum_by (λ l. own_count (found l)) lines
        → own_count (elim o [ Some es ↦ Some es | None ↦ first_found found lines ])
        ≤ sum_by (λ l. own_count (found l)) (line ∷ lines)
    by (Some es) e later =
        let here = ap own_count e in omega (arith, here, sum_by-cons (λ l. own_count (found l)) line lines)
    by None e later = omega (arith, later, sum_by-cons (λ l. own_count (found l)) line lines)

alone_counted : (lines : List Record) (c : ℕ)
    → sum_by (λ line. own_count (elements_in root [] (c ∷ []) line)) lines
    + sum_by (λ line. own_count (elements_in tailoring [] (c ∷ []) line)) lines
    ≤ sum_by (alone_begun c) lines
alone_counted [] c = omega arith
alone_counted (line ∷ lines) c =
    omega (
      arith,
      alone_counted lines c,
      alone_once c line,
      sum_by-cons (λ l. own_count (elements_in root [] (c ∷ []) l)) line lines,
      sum_by-cons (λ l. own_count (elements_in tailoring [] (c ∷ []) l)) line lines,
      sum_by-cons (alone_begun c) line lines,
    )

few_alone : (lines : List Record) (c : ℕ) → own_count (recorded_in lines [] (c ∷ [])) ≤ sum_by (alone_begun c) lines
few_alone lines c = by (first_found (elements_in tailoring [] (c ∷ [])) lines) refl
  where
    by : (o : Option (List Element)) → first_found (elements_in tailoring [] (c ∷ [])) lines ≡ o
        → own_count (elim o [ Some es ↦ Some es | None ↦ first_found (elements_in root [] (c ∷ [])) lines ])
        ≤ sum_by (alone_begun c) lines
    by (Some es) e =
        let here = ap own_count e in
        omega (arith, here, found_few (elements_in tailoring [] (c ∷ [])) lines, alone_counted lines c)
    by None e = omega (arith, found_few (elements_in root [] (c ∷ [])) lines, alone_counted lines c)

-- ---- All that lines give of a character

all_begun : (lines : List Record) (c : ℕ)
    → sum_by (alone_begun c) lines + sum_by (beside_begun length c) lines ≤ elements_begun lines c
all_begun [] c = omega arith
all_begun (line ∷ lines) c =
    omega (
      arith,
      all_begun lines c,
      either (begins_line c line) (is_beside line) (length (elements_of line)),
      sum_by-cons (alone_begun c) line lines,
      sum_by-cons (beside_begun length c) line lines,
      sum_by-cons (λ l. cond (begins_line c l) (length (elements_of l)) 0) line lines,
    )
  where
    either : (b s : Bool) (n : ℕ) → cond b (cond s 0 n) 0 + cond b (cond s n 0) 0 ≤ cond b n 0
    either true true n = omega arith
    either true false n = omega arith
    either false s n = omega arith

-- no more elements than lines give that begin with the character
pub few_elements : (lines : List Record) (c : ℕ)
    → own_count (recorded_in lines [] (c ∷ [])) + element_sum (suffixes_in lines c) + element_sum (prefixes_in lines c)
    ≤ elements_begun lines c
few_elements lines c = omega (arith, few_alone lines c, few_beside length lines c, all_begun lines c)

as_sum : {A : Type 0} (xs : List A) → sum_by (λ x. 1) xs ≡ length xs
as_sum [] = refl
as_sum (x ∷ xs) = omega (arith, as_sum xs, sum_by-cons (λ y. 1) x xs)

-- no more texts than such lines have
pub few_texts : (lines : List Record) (c : ℕ)
    → length (suffixes_in lines c) + length (prefixes_in lines c) ≤ texts_begun lines c
few_texts lines c =
    omega (arith, few_beside (λ es. 1) lines c, as_sum (suffixes_in lines c), as_sum (prefixes_in lines c))

-- ---- What is recorded beside a character counts

or_more : (a b c d : Bool) → (a ≡ true → c ≡ true) → (b ≡ true → d ≡ true) → (a || b) ≡ true → (c || d) ≡ true
or_more true b c d f g h = or_left c d (f refl)
or_more false true c d f g h = or_right c d (g refl)
or_more false false c d f g h = absurd (false≢true h)

pub any_weaker : {A : Type 0} (p q : A → Bool) (xs : List A) → ((x : A) → p x ≡ true → q x ≡ true)
    → list_any p xs ≡ true → list_any q xs ≡ true
any_weaker p q [] f h = absurd (false≢true h)
any_weaker p q (x ∷ xs) f h = or_more (p x) (list_any p xs) (q x) (list_any q xs) (f x) (any_weaker p q xs f) h

some_of_cond : {B : Type 0} (b : Bool) (x : B) → is_some (cond b (Some x) None) ≡ true → b ≡ true
some_of_cond true x h = refl
some_of_cond false x h = h

module _ (records : List Record) (c : ℕ) (prefix text : List ℕ) (begins : begins_with c text ≡ true)
    (beside : is_alone prefix text ≡ false) where
  -- at a line of these keys
  at_key : (layer : Layer) (before key : List ℕ) (es : List Element) → is_replaced records layer prefix text ≡ false
      → bytes_eq prefix before ≡ true → bytes_eq text key ≡ true
      → is_further records c (weights layer before key es) ≡ true
  at_key layer before key es kept p t =
      let same_prefix : prefix ≡ before = (bytes_eq-Decides prefix before).0 p in
      let same_text : text ≡ key = (bytes_eq-Decides text key).0 t in
      subst (λ (ds : List ℕ). is_further records c (weights layer before ds es) ≡ true) same_text
      (subst (λ (bs : List ℕ). is_further records c (weights layer bs text es) ≡ true) same_prefix
      (and_from (begins_with c text && not (is_alone prefix text)) (not (is_replaced records layer prefix text))
      (and_from (begins_with c text) (not (is_alone prefix text)) begins (not_from_false (is_alone prefix text) beside))
      (not_from_false (is_replaced records layer prefix text) kept)))

  further_line : (layer : Layer) → is_replaced records layer prefix text ≡ false → (line : Record)
      → is_some (elements_in layer prefix text line) ≡ true
      → is_further records c line ≡ true
  further_line root kept (weights root before key es) h =
      let parts = and_parts (true && bytes_eq prefix before) (bytes_eq text key)
      (some_of_cond _ es h) in at_key root before key es kept parts.0 parts.1
  further_line tailoring kept (weights tailoring before key es) h =
      let parts = and_parts (true && bytes_eq prefix before) (bytes_eq text key)
      (some_of_cond _ es h) in at_key tailoring before key es kept parts.0 parts.1
  further_line root kept (weights tailoring before key es) h = absurd (false≢true h)
  further_line tailoring kept (weights root before key es) h = absurd (false≢true h)
  further_line layer kept nothing h = absurd (false≢true h)
  further_line layer kept (class e k) h = absurd (false≢true h)
  further_line layer kept (mapping e es x) h = absurd (false≢true h)
  further_line layer kept (compatibility e es) h = absurd (false≢true h)
  further_line layer kept (range r) h = absurd (false≢true h)
  further_line layer kept (digit e v) h = absurd (false≢true h)
  further_line layer kept (setting s) h = absurd (false≢true h)

  -- what is recorded beside the character is a further record
  pub recorded_further : (is_given tailoring prefix text records || is_given root prefix text records) ≡ true
      → list_any (is_further records c) records ≡ true
  recorded_further h = by (is_given tailoring prefix text records) refl h
    where
      by : (b : Bool) → is_given tailoring prefix text records ≡ b → (b || is_given root prefix text records) ≡ true
          → list_any (is_further records c) records ≡ true
      by true e k =
          any_weaker (λ line. is_some (elements_in tailoring prefix text line)) (is_further records c) records
          (further_line tailoring refl) e
      by false e k =
          any_weaker (λ line. is_some (elements_in root prefix text line)) (is_further records c) records
          (further_line root e) k
