-- Of accepted lines: an entry's parts say what the lines record, and it can be written.
use Rattle.std.proofs.Common.{◌≡◌, ◌≢◌, ℕ, ◌^◌, ◌<◌, ◌≤◌, Bool, true, false, cond, not, ◌==◌, ◌&&◌, ◌||◌, List, [], ◌∷◌, length, Option, Some, None, map, refl, sym, ap, ◌∙◌, subst, arith, All, Bor}
use Rattle.std.specs.Prelude.{IfSome, bytes_eq, is_some}
use Rattle.std.specs.Char.{IsScalar}
use Rattle.std.specs.Option.{option_copied}
use Rattle.std.specs.List.{list_all, list_any}
use Rattle.std.proofs.lemmas.Bool.{and_parts, and_right, cond-true, eqb-true, false≢true, leb-true, not_from_false, or_left, or_right, true_from_ne_false}
use Rattle.std.proofs.lemmas.List.Elements.{All-head, All-nil, All-tail, All-weaker}
use Rattle.std.proofs.lemmas.Slice.Eq.{bytes_eq-Decides}
use Rattle.icu_normalizer_core.specs.BuiltIn.{is_jamo}
use Rattle.icu_normalizer_core.specs.Canonical.{Canonical, is_starter}
use Rattle.icu_normalizer_core.specs.Sameness.{AreSameCanonical}
use Rattle.icu_collator_types.specs.declared.elements.Element.{Element}
use Rattle.icu_collator_core.specs.ContextRules.{begins_with_mark, ends_in_mark, holds_starter, is_prefix_character, is_recorded_in, may_be_digit}
use Rattle.collate_lines.specs.Record.{Record, nothing, class, mapping, compatibility, weights, range, digit, setting, Layer, root, tailoring, is_same_layer}
use Rattle.collate_rules.specs.Accepted.{AreAccepted}
use Rattle.collate_rules.specs.GivenWeights.{KeepsWidths}
use Rattle.collate_rules.specs.Meaning.{canonical_of, digit_in, elements_in, first_found, recorded_in, weights_of}
use Rattle.collate_rules.specs.RecordRules.{begins_with, breaks_digits, breaks_prefixes, digit_of, is_alone, is_bad_digit, is_badly_prefixed, is_further, is_given}
use Rattle.collate_rules.proofs.records.RecordedLemmas.{first_found-is_some, recorded_given}
use Rattle.collate_words.specs.declared.entry.Beside.{Beside}
use Rattle.collate_words.specs.declared.entry.Entry.{Entry}
use Rattle.collate_words.specs.Entries.{said_beside, saying_of}
use Rattle.collate_words.specs.Fits.{AreBeside, AreFit, IsBeside, IsDigitAlone, IsFit}
use Rattle.collate_words.specs.Sayings.{SaidBeside, Saying, element_sum, elements_beside, own_count, texts_beside}
use Rattle.collate_compile.specs.Beginnings.{IsWithinLines}
use Rattle.collate_compile.specs.BesideLines.{gathered, prefix_in, prefix_of, prefixes_in, suffix_in, suffix_of, suffixes_in}
use Rattle.collate_compile.specs.LineSayings.{IsSaidAfter, IsSaidBehind, IsSayingOf, offset_of}
use Rattle.collate_compile.proofs.gathering.AcceptedLineLemmas.{CanWrite, CanWriteLine, accepted_can_write, accepted_digits, accepted_prefixes, accepted_widths}
use Rattle.collate_compile.proofs.gathering.BesideLemmas.{any_weaker, few_elements, few_texts, prefixes_kept, prefixes_recorded, recorded_further, suffixes_kept, suffixes_recorded}
use Rattle.collate_compile.proofs.gathering.GatheringFlagLemmas.{AreScalarsBeside, all_begin_same, one_ends_same, one_holds_same}
use Rattle.collate_compile.proofs.laws.MeaningLemmas.{all_scalars}
use Rattle.collate_compile.proofs.gathering.GatherLemmas.{All-gathered, IsFoundIn}

-- ---- What is found first is of a line

found_of : {B : Type 0} (f : Record → Option B) (P : Record → Type 0) (Q : B → Type 0) (lines : List Record)
    → ((line : Record) (y : B) → P line → f line ≡ Some y → Q y)
    → All P lines → (y : B) → first_found f lines ≡ Some y → Q y
found_of f P Q [] each all y = λ e. cc
found_of {B} f P Q (line ∷ lines) each all y =
    elim (f line) as (λ o. (f line ≡ o → (elim o [ Some z ↦ Some z | None ↦ first_found f lines ]) ≡ Some y → Q y)) [
      | Some z ↦ λ is e. let same : z ≡ y = cc in subst Q same (each line z (All-head P line lines all) is)
      | None ↦ λ is e. found_of f P Q lines each (All-tail P line lines all) y e
    ] refl

-- ---- What is recorded can be written

elements_fit : (layer : Layer) (prefix text : List ℕ) (line : Record) (es : List Element) → CanWriteLine line
    → elements_in layer prefix text line ≡ Some es → AreFit es
elements_fit layer prefix text (weights other before key fs) es can h =
    at (is_same_layer layer other && bytes_eq prefix before && bytes_eq text key) h
  where
    at : (b : Bool) → cond b (Some fs) None ≡ Some es → AreFit es
    at true e = let same : fs ≡ es = cc in subst AreFit same can.elements
    at false e = cc
elements_fit layer prefix text nothing es can h = cc
elements_fit layer prefix text (class c k) es can h = cc
elements_fit layer prefix text (mapping c ds x) es can h = cc
elements_fit layer prefix text (compatibility c ds) es can h = cc
elements_fit layer prefix text (range r) es can h = cc
elements_fit layer prefix text (digit c v) es can h = cc
elements_fit layer prefix text (setting s) es can h = cc

pub recorded_fit : (lines : List Record) (prefix text : List ℕ) → All CanWriteLine lines
    → IfSome (recorded_in lines prefix text) AreFit
recorded_fit lines prefix text all = at (first_found (elements_in tailoring prefix text) lines) refl
  where
    by_root : (o : Option (List Element)) → first_found (elements_in root prefix text) lines ≡ o → IfSome o AreFit
    by_root None e = tt
    by_root (Some es) e =
        found_of (elements_in root prefix text) CanWriteLine AreFit lines (elements_fit root prefix text) all es e

    at : (o : Option (List Element)) → first_found (elements_in tailoring prefix text) lines ≡ o
        → IfSome (elim o [ Some fs ↦ Some fs | None ↦ first_found (elements_in root prefix text) lines ]) AreFit
    at None e = by_root (first_found (elements_in root prefix text) lines) refl
    at (Some es) e =
        found_of (elements_in tailoring prefix text) CanWriteLine AreFit lines
        (elements_fit tailoring prefix text) all es e

-- ---- What stands beside can be written

suffix_fits : (layer : Layer) (c : ℕ) (line : Record) → CanWriteLine line → IfSome (suffix_in layer c line) (IsBeside 7)
suffix_fits layer c (weights other prefix text es) can = at (is_same_layer layer other) prefix text can
  where
    here : (b : Bool) (x e : ℕ) (ds : List ℕ) → CanWrite [] (x ∷ e ∷ ds) es
        → IfSome (cond b (Some (record { characters = e ∷ ds; elements = es })) None) (IsBeside 7)
    here false x e ds k = tt
    here true x e ds k = record {
      some = omega arith;
      short = let short : length (x ∷ e ∷ ds) ≤ 8 = k.short in omega arith;
      scalars = All-tail IsScalar x (e ∷ ds) (all_scalars (x ∷ e ∷ ds) k.key.whole);
      elements = k.elements;
    }

    at : (b : Bool) (before key : List ℕ) → CanWrite before key es
        → IfSome (cond b (suffix_of c before key es) None) (IsBeside 7)
    at false before key k = tt
    at true [] [] k = tt
    at true [] (x ∷ []) k = tt
    at true [] (x ∷ e ∷ ds) k = here (c == x) x e ds k
    at true (b ∷ bs) key k = tt
suffix_fits layer c nothing can = tt
suffix_fits layer c (class d k) can = tt
suffix_fits layer c (mapping d ds x) can = tt
suffix_fits layer c (compatibility d ds) can = tt
suffix_fits layer c (range r) can = tt
suffix_fits layer c (digit d v) can = tt
suffix_fits layer c (setting s) can = tt

prefix_fits : (layer : Layer) (c : ℕ) (line : Record) → CanWriteLine line → IfSome (prefix_in layer c line) (IsBeside 3)
prefix_fits layer c (weights other prefix text es) can = at (is_same_layer layer other) prefix text can
  where
    here : (t : Bool) (x b : ℕ) (bs : List ℕ) → CanWrite (b ∷ bs) (x ∷ []) es
        → IfSome (cond t (Some (record { characters = b ∷ bs; elements = es })) None) (IsBeside 3)
    here false x b bs k = tt
    here true x b bs k =
        record {
          some = omega arith;
          short = k.key.short;
          scalars = all_scalars (b ∷ bs) k.key.before;
          elements = k.elements;
        }

    at : (t : Bool) (before key : List ℕ) → CanWrite before key es
        → IfSome (cond t (prefix_of c before key es) None) (IsBeside 3)
    at false before key k = tt
    at true [] key k = tt
    at true (b ∷ bs) [] k = tt
    at true (b ∷ bs) (x ∷ []) k = here (c == x) x b bs k
    at true (b ∷ bs) (x ∷ y ∷ ys) k = tt
prefix_fits layer c nothing can = tt
prefix_fits layer c (class d k) can = tt
prefix_fits layer c (mapping d ds x) can = tt
prefix_fits layer c (compatibility d ds) can = tt
prefix_fits layer c (range r) can = tt
prefix_fits layer c (digit d v) can = tt
prefix_fits layer c (setting s) can = tt

suffixes_fit : (lines : List Record) (c : ℕ) → All CanWriteLine lines → All (IsBeside 7) (suffixes_in lines c)
suffixes_fit lines c all =
    All-gathered (suffix_in root c) (IsBeside 7) lines (gathered (suffix_in tailoring c) lines [])
    (All-weaker CanWriteLine (λ line. IfSome (suffix_in root c line) (IsBeside 7)) (suffix_fits root c) lines all)
    (All-gathered (suffix_in tailoring c) (IsBeside 7) lines []
    (All-weaker CanWriteLine (λ line. IfSome (suffix_in tailoring c line) (IsBeside 7))
    (suffix_fits tailoring c) lines all) (All-nil (IsBeside 7)))

prefixes_fit : (lines : List Record) (c : ℕ) → All CanWriteLine lines → All (IsBeside 3) (prefixes_in lines c)
prefixes_fit lines c all =
    All-gathered (prefix_in root c) (IsBeside 3) lines (gathered (prefix_in tailoring c) lines [])
    (All-weaker CanWriteLine (λ line. IfSome (prefix_in root c line) (IsBeside 3)) (prefix_fits root c) lines all)
    (All-gathered (prefix_in tailoring c) (IsBeside 3) lines []
    (All-weaker CanWriteLine (λ line. IfSome (prefix_in tailoring c line) (IsBeside 3))
    (prefix_fits tailoring c) lines all) (All-nil (IsBeside 3)))

-- ---- What is said beside is recorded

both : {A : Type 0} (P Q : A → Type 0) (xs : List A) → All P xs → All Q xs → All (λ x. P x × Q x) xs
both P Q xs p q = λ k d lt. (p k d lt, q k d lt)

behind_said : (lines : List Record) (c : ℕ) → All CanWriteLine lines → All (IsSaidBehind lines c) (suffixes_in lines c)
behind_said lines c all =
    All-weaker (λ said. IsBeside 7 said × IsFoundIn (suffixes_in lines c) said) (IsSaidBehind lines c) at
    (suffixes_in lines c)
    (both (IsBeside 7) (IsFoundIn (suffixes_in lines c)) (suffixes_in lines c) (suffixes_fit lines c all)
    (suffixes_kept lines c).found)
  where
    by : (characters : List ℕ) (es : List Element) → 0 < length characters
        → elements_beside (suffixes_in lines c) characters ≡ Some es → recorded_in lines [] (c ∷ characters) ≡ Some es
    by [] es some e = absurd (omega arith)
    by (d ∷ ds) es some e = sym (suffixes_recorded lines c d ds) ∙ e

    at : (said : SaidBeside) → IsBeside 7 said × IsFoundIn (suffixes_in lines c) said → IsSaidBehind lines c said
    at said h = by said.characters said.elements h.0.some h.1

after_said : (lines : List Record) (c : ℕ) → All CanWriteLine lines → All (IsSaidAfter lines c) (prefixes_in lines c)
after_said lines c all =
    All-weaker (λ said. IsBeside 3 said × IsFoundIn (prefixes_in lines c) said) (IsSaidAfter lines c) at
    (prefixes_in lines c)
    (both (IsBeside 3) (IsFoundIn (prefixes_in lines c)) (prefixes_in lines c) (prefixes_fit lines c all)
    (prefixes_kept lines c).found)
  where
    by : (characters : List ℕ) (es : List Element) → 0 < length characters
        → elements_beside (prefixes_in lines c) characters ≡ Some es → recorded_in lines characters (c ∷ []) ≡ Some es
    by [] es some e = absurd (omega arith)
    by (b ∷ bs) es some e = sym (prefixes_recorded lines c b bs) ∙ e

    at : (said : SaidBeside) → IsBeside 3 said × IsFoundIn (prefixes_in lines c) said → IsSaidAfter lines c said
    at said h = by said.characters said.elements h.0.some h.1

-- a list whose elements are nothing is empty
none_of : {A : Type 0} (P : A → Type 0) (xs : List A) → All P xs → ((x : A) → P x → ⊥) → xs ≡ []
none_of P [] all none = refl
none_of P (x ∷ xs) all none = absurd (none x (All-head P x xs all))

-- one element of a list that is not empty
one_of : {A : Type 0} (P : A → Type 0) (xs : List A) → All P xs → xs ≢ [] → (x : A) × P x
one_of P [] all some = absurd (some refl)
one_of P (x ∷ xs) all some = (x, All-head P x xs all)

given_by : (lines : List Record) (prefix text : List ℕ) (es : List Element) → recorded_in lines prefix text ≡ Some es
    → (is_given tailoring prefix text lines || is_given root prefix text lines) ≡ true
given_by lines prefix text es e = recorded_given lines prefix text ∙ ap (λ (o : Option (List Element)). is_some o) e

-- ---- V11: a digit stands alone

-- a digit of whom that were so would break the rule
digit_breaks : (lines : List Record) (c v : ℕ) → breaks_digits lines lines ≡ false
    → first_found (digit_in c) lines ≡ Some v
    → ((w : ℕ) → is_bad_digit lines lines (digit c w) ≡ true) → ⊥
digit_breaks lines c v keeps e bad =
    false≢true (sym keeps ∙ any_weaker (λ line. is_some (digit_in c line)) (is_bad_digit lines lines) lines at
    (sym (first_found-is_some (digit_in c) lines) ∙ ap (λ (o : Option ℕ). is_some o) e))
  where
    at : (line : Record) → is_some (digit_in c line) ≡ true → is_bad_digit lines lines line ≡ true
    at (digit d w) h = by (c == d) refl h
      where
        by : (b : Bool) → (c == d) ≡ b → is_some (cond b (Some w) None) ≡ true
            → is_bad_digit lines lines (digit d w) ≡ true
        by true is k = subst (λ (x : ℕ). is_bad_digit lines lines (digit x w) ≡ true) (eqb-true c d is) (bad w)
        by false is k = absurd (false≢true k)
    at nothing h = absurd (false≢true h)
    at (class d k) h = absurd (false≢true h)
    at (mapping d ds x) h = absurd (false≢true h)
    at (compatibility d ds) h = absurd (false≢true h)
    at (weights layer prefix text es) h = absurd (false≢true h)
    at (range r) h = absurd (false≢true h)
    at (setting s) h = absurd (false≢true h)

digit_low : (lines : List Record) (c : ℕ) → All KeepsWidths lines → (v : ℕ) → first_found (digit_in c) lines ≡ Some v
    → v ≤ 9
digit_low lines c all = found_of (digit_in c) KeepsWidths (λ v. v ≤ 9) lines at all
  where
    at : (line : Record) (v : ℕ) → KeepsWidths line → digit_in c line ≡ Some v → v ≤ 9
    at (digit d w) v keeps h = by (c == d) h
      where
        by : (b : Bool) → cond b (Some w) None ≡ Some v → v ≤ 9
        by true e = let same : w ≡ v = cc in subst (λ n. n ≤ 9) same (leb-true w 9 keeps)
        by false e = cc
    at nothing v keeps h = cc
    at (class d k) v keeps h = cc
    at (mapping d ds x) v keeps h = cc
    at (compatibility d ds) v keeps h = cc
    at (weights layer prefix text es) v keeps h = cc
    at (range r) v keeps h = cc
    at (setting s) v keeps h = cc

-- ---- V10: what has prefixes is recorded alone

last_false : (p s d j r : Bool) → r ≡ false → not (p && (s && (d && (j && r)))) ≡ true
last_false p s d j r e =
    not_from_false (p && (s && (d && (j && r))))
    (and_right p (s && (d && (j && r))) (and_right s (d && (j && r)) (and_right d (j && r) (and_right j r e))))

prefix_breaks : (lines : List Record) (c b : ℕ) (bs : List ℕ) (es : List Element) → breaks_prefixes lines lines ≡ false
    → recorded_in lines (b ∷ bs) (c ∷ []) ≡ Some es
    → is_recorded_in (weights_of lines) [] (c ∷ []) ≡ false → ⊥
prefix_breaks lines c b bs es keeps recorded alone =
    by (is_given tailoring (b ∷ bs) (c ∷ []) lines) refl (given_by lines (b ∷ bs) (c ∷ []) es recorded)
  where
    bad : (layer of_layer : Layer) (before key : List ℕ) (fs : List Element)
        → (is_same_layer layer of_layer && bytes_eq (b ∷ bs) before && bytes_eq (c ∷ []) key) ≡ true
        → is_badly_prefixed lines lines (weights of_layer before key fs) ≡ true
    bad layer of_layer before key fs h =
        let outer = and_parts (is_same_layer layer of_layer && bytes_eq (b ∷ bs) before) (bytes_eq (c ∷ []) key) h in
        let inner = and_parts (is_same_layer layer of_layer) (bytes_eq (b ∷ bs) before) outer.0 in
        let same_prefix : b ∷ bs ≡ before = (bytes_eq-Decides (b ∷ bs) before).0 inner.1 in
        let same_text : c ∷ [] ≡ key = (bytes_eq-Decides (c ∷ []) key).0 outer.1 in
        subst (λ (ds : List ℕ). is_badly_prefixed lines lines (weights of_layer before ds fs) ≡ true) same_text
        (subst (λ (ps : List ℕ). is_badly_prefixed lines lines (weights of_layer ps (c ∷ []) fs) ≡ true) same_prefix
        (last_false (list_all (is_prefix_character (canonical_of lines) (digit_of lines)) (b ∷ bs))
        (is_starter (canonical_of lines) c) (not (is_some (digit_of lines c))) (not (is_jamo c))
        (is_recorded_in (weights_of lines) [] (c ∷ [])) alone))

    at : (layer : Layer) (line : Record) → is_some (elements_in layer (b ∷ bs) (c ∷ []) line) ≡ true
        → is_badly_prefixed lines lines line ≡ true
    at layer (weights of_layer before key fs) h =
        bad layer of_layer before key fs
        (some_of (is_same_layer layer of_layer && bytes_eq (b ∷ bs) before && bytes_eq (c ∷ []) key) h)
      where
        some_of : (t : Bool) → is_some (cond t (Some fs) None) ≡ true → t ≡ true
        some_of true k = refl
        some_of false k = k
    at layer nothing h = absurd (false≢true h)
    at layer (class d k) h = absurd (false≢true h)
    at layer (mapping d ds x) h = absurd (false≢true h)
    at layer (compatibility d ds) h = absurd (false≢true h)
    at layer (range r) h = absurd (false≢true h)
    at layer (digit d w) h = absurd (false≢true h)
    at layer (setting s) h = absurd (false≢true h)

    by : (t : Bool) → is_given tailoring (b ∷ bs) (c ∷ []) lines ≡ t
        → (t || is_given root (b ∷ bs) (c ∷ []) lines) ≡ true → ⊥
    by true e h =
        false≢true (sym keeps ∙ any_weaker (λ line. is_some (elements_in tailoring (b ∷ bs) (c ∷ []) line))
        (is_badly_prefixed lines lines) lines (at tailoring) e)
    by false e h =
        false≢true (sym keeps ∙ any_weaker (λ line. is_some (elements_in root (b ∷ bs) (c ∷ []) line))
        (is_badly_prefixed lines lines) lines (at root) h)

-- ---- An entry

-- the parts of an entry of a character, by canonical data
pub record AreParts (canonical : Canonical) (lines : List Record) (c : ℕ) (saying : Saying) : Type 0 where
  pub own : saying.own ≡ recorded_in lines [] (c ∷ [])
  pub offset : saying.offset ≡ cond (is_some (recorded_in lines [] (c ∷ []))) None (offset_of lines c)
  pub small : IfSome saying.offset (λ bits. bits < 2 ^ 64)
  pub digit : saying.digit ≡ first_found (digit_in c) lines
  pub suffixes : saying.suffixes ≡ suffixes_in lines c
  pub prefixes : saying.prefixes ≡ prefixes_in lines c
  pub all_begin : saying.all_begin ≡ list_all (begins_with_mark canonical) (texts_beside saying.suffixes)
  pub one_ends : saying.one_ends ≡ list_any (ends_in_mark canonical) (texts_beside saying.suffixes)
  pub one_holds : saying.one_holds ≡ list_any (holds_starter canonical) (texts_beside saying.suffixes)

module _ (canonical : Canonical) (lines : List Record) (accepted : AreAccepted lines)
    (same : AreSameCanonical canonical (canonical_of lines))
    (c : ℕ) (saying : Saying) (parts : AreParts canonical lines c saying) where
  abbrev can : All CanWriteLine lines
  can = accepted_can_write lines accepted

  scalars : All AreScalarsBeside saying.suffixes
  scalars =
      subst (All AreScalarsBeside) (sym parts.suffixes)
      (All-weaker (IsBeside 7) AreScalarsBeside (λ said fit. fit.scalars) (suffixes_in lines c)
      (suffixes_fit lines c can))

  pub entry_says : IsSayingOf lines c saying
  entry_says = record {
    own = parts.own;
    offset = parts.offset;
    digit = parts.digit;
    suffixes =
        λ d ds. ap (λ (saids : List SaidBeside). elements_beside saids (d ∷ ds)) parts.suffixes
        ∙ suffixes_recorded lines c d ds;
    prefixes =
        λ b bs. ap (λ (saids : List SaidBeside). elements_beside saids (b ∷ bs)) parts.prefixes
        ∙ prefixes_recorded lines c b bs;
    behind = subst (All (IsSaidBehind lines c)) (sym parts.suffixes) (behind_said lines c can);
    after = subst (All (IsSaidAfter lines c)) (sym parts.prefixes) (after_said lines c can);
    all_begin = parts.all_begin ∙ all_begin_same canonical (canonical_of lines) same saying.suffixes scalars;
    one_ends = parts.one_ends ∙ one_ends_same canonical (canonical_of lines) same saying.suffixes scalars;
    one_holds = parts.one_holds ∙ one_holds_same canonical (canonical_of lines) same saying.suffixes scalars;
  }

  -- what stands beside a digit would be a further record of it
  further_breaks : (v : ℕ) → first_found (digit_in c) lines ≡ Some v → (prefix text : List ℕ) (es : List Element)
      → begins_with c text ≡ true → is_alone prefix text ≡ false
      → recorded_in lines prefix text ≡ Some es → ⊥
  further_breaks v e prefix text es begins beside recorded =
      digit_breaks lines c v (accepted_digits lines accepted) e
      (λ w. or_right _ (list_any (is_further lines c) lines)
      (recorded_further lines c prefix text begins beside (given_by lines prefix text es recorded)))

  own_alone : (v : ℕ) → first_found (digit_in c) lines ≡ Some v → is_some saying.own ≡ true
  own_alone v e =
      true_from_ne_false _ (λ none.
      digit_breaks lines c v (accepted_digits lines accepted) e
      (λ w. or_left (not (may_be_digit (canonical_of lines) (is_recorded_in (weights_of lines)) c)) _
      (not_from_false _ (and_right _ _
      (and_right _ (is_recorded_in (weights_of lines) [] (c ∷ []))
      (sym (ap (λ (o : Option (List Element)). is_some o) parts.own) ∙ none))))))

  digit_alone : (o : Option ℕ) → first_found (digit_in c) lines ≡ o → IfSome o (IsDigitAlone saying)
  digit_alone None e = tt
  digit_alone (Some v) e = record {
    low = digit_low lines c (accepted_widths lines accepted) v e;
    own = own_alone v e;
    no_suffixes = parts.suffixes ∙ none_of (λ said. IsBeside 7 said × IsSaidBehind lines c said) (suffixes_in lines c)
        (both (IsBeside 7) (IsSaidBehind lines c) (suffixes_in lines c) (suffixes_fit lines c can)
        (behind_said lines c can)) (λ said h. no_suffix said.characters said.elements h.0.some h.1);
    no_prefixes = parts.prefixes ∙ none_of (λ said. IsBeside 3 said × IsSaidAfter lines c said) (prefixes_in lines c)
        (both (IsBeside 3) (IsSaidAfter lines c) (prefixes_in lines c) (prefixes_fit lines c can)
        (after_said lines c can)) (λ said h. no_prefix said.characters said.elements h.0.some h.1);
  }
    where
      no_suffix : (characters : List ℕ) (es : List Element) → 0 < length characters
          → recorded_in lines [] (c ∷ characters) ≡ Some es → ⊥
      no_suffix [] es some is = absurd (omega arith)
      no_suffix (d ∷ ds) es some is = further_breaks v e [] (c ∷ d ∷ ds) es (c_is c) refl is
        where
          c_is : (n : ℕ) → (n == n) ≡ true
          c_is n = grind arith

      no_prefix : (characters : List ℕ) (es : List Element) → 0 < length characters
          → recorded_in lines characters (c ∷ []) ≡ Some es → ⊥
      no_prefix [] es some is = absurd (omega arith)
      no_prefix (b ∷ bs) es some is = further_breaks v e (b ∷ bs) (c ∷ []) es (c_is c) refl is
        where
          c_is : (n : ℕ) → (n == n) ≡ true
          c_is n = grind arith

  prefixed_alone : saying.prefixes ≢ [] → is_some saying.own ≡ true
  prefixed_alone some =
      let one = one_of (λ said. IsBeside 3 said × IsSaidAfter lines c said) (prefixes_in lines c)
      (both (IsBeside 3) (IsSaidAfter lines c) (prefixes_in lines c) (prefixes_fit lines c can)
      (after_said lines c can)) (λ none. some (parts.prefixes ∙ none)) in
      true_from_ne_false _ (λ alone. at one.0.characters one.0.elements one.1.0.some one.1.1
      (sym (ap (λ (o : Option (List Element)). is_some o) parts.own) ∙ alone))
    where
      at : (characters : List ℕ) (es : List Element) → 0 < length characters
          → recorded_in lines characters (c ∷ []) ≡ Some es → is_recorded_in (weights_of lines) [] (c ∷ []) ≡ false → ⊥
      at [] es more is alone = absurd (omega arith)
      at (b ∷ bs) es more is alone = prefix_breaks lines c b bs es (accepted_prefixes lines accepted) is alone

  pub entry_fits : IsFit saying
  entry_fits = record {
    own = subst (λ (o : Option (List Element)). IfSome o AreFit) (sym parts.own) (recorded_fit lines [] (c ∷ []) can);
    offset = parts.small;
    own_first =
        λ some. parts.offset
        ∙ cond-true _ None (offset_of lines c) (sym (ap (λ (o : Option (List Element)). is_some o) parts.own) ∙ some);
    digit =
        subst (λ (o : Option ℕ). IfSome o (IsDigitAlone saying)) (sym parts.digit)
        (digit_alone (first_found (digit_in c) lines) refl);
    suffixes =
        subst (AreBeside 7) (sym parts.suffixes)
        (record { each = suffixes_fit lines c can; different = (suffixes_kept lines c).different });
    prefixes =
        subst (AreBeside 3) (sym parts.prefixes)
        (record { each = prefixes_fit lines c can; different = (prefixes_kept lines c).different });
    prefixed = prefixed_alone;
  }

  pub entry_few : IsWithinLines lines c saying
  entry_few = record {
    elements = omega (
      arith,
      few_elements lines c,
      ap own_count parts.own,
      ap element_sum parts.suffixes,
      ap element_sum parts.prefixes,
    );
    texts = omega (arith, few_texts lines c, ap length parts.suffixes, ap length parts.prefixes);
  }

-- ---- As it is made

some_copied : {A : Type 0} (o : Option (Bor A)) → is_some (option_copied o) ≡ is_some o
some_copied None = refl
some_copied (Some x) = refl

module _ (canonical : Canonical) (lines : List Record) (c : ℕ) (entry : Entry) (is_recorded : Bool)
    (suffixes : List Beside) where
  pub entry_parts : option_copied entry.own ≡ recorded_in lines [] (c ∷ []) → is_recorded ≡ is_some entry.own
      → entry.offset ≡ cond is_recorded None (offset_of lines c)
      → IfSome entry.offset (λ bits. bits < 2 ^ 64) → entry.digit ≡ first_found (digit_in c) lines
      → map said_beside entry.suffixes.items ≡ suffixes_in lines c
      → map said_beside entry.prefixes.items ≡ prefixes_in lines c → suffixes ≡ entry.suffixes.items
      → entry.flags.all_begin ≡ list_all (begins_with_mark canonical) (texts_beside (map said_beside suffixes))
      → entry.flags.one_ends ≡ list_any (ends_in_mark canonical) (texts_beside (map said_beside suffixes))
      → entry.flags.one_holds ≡ list_any (holds_starter canonical) (texts_beside (map said_beside suffixes))
      → AreParts canonical lines c (saying_of entry)
  entry_parts own told offset small value behind before same begin end hold =
      record {
        own = own;
        offset =
            offset
            ∙ ap (λ (b : Bool). cond b None (offset_of lines c))
            (told ∙ sym (some_copied entry.own) ∙ ap (λ (o : Option (List Element)). is_some o) own);
        small = small;
        digit = value;
        suffixes = behind;
        prefixes = before;
        all_begin =
            begin
            ∙ ap (λ (saids : List Beside). list_all (begins_with_mark canonical) (texts_beside (map said_beside saids)))
            same;
        one_ends =
            end
            ∙ ap (λ (saids : List Beside). list_any (ends_in_mark canonical) (texts_beside (map said_beside saids)))
            same;
        one_holds =
            hold
            ∙ ap (λ (saids : List Beside). list_any (holds_starter canonical) (texts_beside (map said_beside saids)))
            same;
      }
