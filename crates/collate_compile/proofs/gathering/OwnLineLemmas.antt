-- What lines say of a character is what those of them say that say something of it.
use Rattle.std.proofs.Common.{◌≡◌, ℕ, ◌+◌, ◌<◌, Bool, true, false, cond, ◌==◌, ◌&&◌, ◌||◌, List, [], ◌∷◌, ◌++◌, length, take, get_or, Option, Some, None, filter, map, refl, sym, ap, ◌∙◌, Bor}
use Rattle.std.specs.Prelude.{bytes_eq}
use Rattle.std.specs.BTreeMap.{BTreeMap}
use Rattle.std.specs.Global.{Vec}
use Rattle.std.specs.List.{list_any}
use Rattle.std.proofs.lemmas.List.{append-nil, map-append, take_more}
use Rattle.std.proofs.lemmas.List.Concat.{flat_map-append}
use Rattle.std.proofs.lemmas.List.Elements.{filter-append}
use Rattle.icu_collator_core.specs.Weights.{Range}
use Rattle.collate_lines.specs.declared.record.Record.{Record as Line}
use Rattle.collate_lines.specs.Record.{Record, said, nothing, class, mapping, compatibility, weights, range, digit, setting, Layer, root, tailoring, is_same_layer}
use Rattle.collate_rules.specs.GivenWeights.{given_ranges, ranges_of}
use Rattle.collate_rules.specs.Meaning.{digit_in, elements_in, first_found, range_in, span_of}
use Rattle.collate_rules.specs.RecordRules.{begins_with}
use Rattle.collate_words.specs.Sayings.{SaidBeside}
use Rattle.collate_compile.specs.BesideLines.{gathered, prefix_in, prefix_of, prefixes_in, suffix_in, suffix_of, suffixes_in, with_found}
use Rattle.collate_compile.specs.LineSayings.{begins_line, begins_tailored_line}
use Rattle.collate_compile.specs.NotedLines.{HasOwn, character_of, held_by, is_own, own_lines, said_in}

-- ---- One more line

-- what a line adds to those of a character
abbrev added : ℕ → Record → Option ℕ → List Record
added c line o = cond (elim o as (λ _. Bool) [ Some d ↦ c == d | None ↦ false ]) (line ∷ []) []

own_more : (c : ℕ) (lines : List Record) (line : Record)
    → own_lines c (lines ++ line ∷ []) ≡ own_lines c lines ++ added c line (character_of line)
own_more c lines line =
    filter-append (is_own c) lines (line ∷ []) ∙ ap (λ (ls : List Record). own_lines c lines ++ ls) (one (is_own c line) refl)
  where
    one : (b : Bool) → is_own c line ≡ b → filter (is_own c) (line ∷ []) ≡ cond (is_own c line) (line ∷ []) []
    one true e = refl
    one false e = refl

pub own_noted : (old new : BTreeMap ℕ (Vec (Bor Line))) (lines : List Record) (line : Record) (d : ℕ) → Some d ≡ character_of line
    → HasOwn old lines → ((c : ℕ) → said_in new c ≡ said_in old c ++ cond (c == d) (line ∷ []) []) → HasOwn new (lines ++ line ∷ [])
own_noted old new lines line d is has put = λ c.
    put c ∙ ap (λ (ls : List Record). ls ++ cond (c == d) (line ∷ []) []) (has c)
    ∙ ap (λ (o : Option ℕ). own_lines c lines ++ added c line o) is ∙ sym (own_more c lines line)

pub own_past : (own : BTreeMap ℕ (Vec (Bor Line))) (lines : List Record) (line : Record) → None ≡ character_of line
    → HasOwn own lines → HasOwn own (lines ++ line ∷ [])
own_past own lines line is has = λ c.
    has c ∙ sym (append-nil (own_lines c lines))
    ∙ ap (λ (o : Option ℕ). own_lines c lines ++ added c line o) is ∙ sym (own_more c lines line)

-- ---- A line that says nothing of a character

-- what is found in none of the lines that a test leaves out is found in the others
found_kept : {A B : Type 0} (f : A → Option B) (p : A → Bool) → ((x : A) → p x ≡ false → f x ≡ None) → (xs : List A)
    → first_found f (filter p xs) ≡ first_found f xs
found_kept f p none [] = refl
found_kept {A} {B} f p none (x ∷ xs) = by (p x) refl (found_kept f p none xs)
  where
    by : (b : Bool) → p x ≡ b → first_found f (filter p xs) ≡ first_found f xs
        → first_found f (cond b (x ∷ filter p xs) (filter p xs)) ≡ first_found f (x ∷ xs)
    by true e later = ap (λ (o : Option B). elim (f x) as (λ _. Option B) [ Some y ↦ Some y | None ↦ o ]) later
    by false e later =
        later ∙ sym (ap (λ (o : Option B). elim o as (λ _. Option B) [ Some y ↦ Some y | None ↦ first_found f xs ]) (none x e))

any_kept : {A : Type 0} (q p : A → Bool) → ((x : A) → p x ≡ false → q x ≡ false) → (xs : List A)
    → list_any q (filter p xs) ≡ list_any q xs
any_kept q p none [] = refl
any_kept q p none (x ∷ xs) = by (p x) refl (any_kept q p none xs)
  where
    by : (b : Bool) → p x ≡ b → list_any q (filter p xs) ≡ list_any q xs
        → list_any q (cond b (x ∷ filter p xs) (filter p xs)) ≡ list_any q (x ∷ xs)
    by true e later = ap (λ (t : Bool). q x || t) later
    by false e later = later ∙ sym (ap (λ (t : Bool). t || list_any q xs) (none x e))

gathered_kept_in : {A : Type 0} (found : A → Option SaidBeside) (p : A → Bool) → ((x : A) → p x ≡ false → found x ≡ None)
    → (xs : List A) (saids : List SaidBeside) → gathered found (filter p xs) saids ≡ gathered found xs saids
gathered_kept_in found p none [] saids = refl
gathered_kept_in found p none (x ∷ xs) saids = by (p x) refl (λ more. gathered_kept_in found p none xs more)
  where
    by : (b : Bool) → p x ≡ b
        → ((more : List SaidBeside) → gathered found (filter p xs) more ≡ gathered found xs more)
        → gathered found (cond b (x ∷ filter p xs) (filter p xs)) saids ≡ gathered found xs (with_found saids (found x))
    by true e later = later (with_found saids (found x))
    by false e later =
        later saids ∙ ap (λ (o : Option SaidBeside). gathered found xs (with_found saids o)) (sym (none x e))

-- ---- What is said of a character

not_begun : (c : ℕ) (line : Record) → is_own c line ≡ false → begins_line c line ≡ false
not_begun c (weights layer prefix [] es) e = refl
not_begun c (weights layer prefix (d ∷ ds) es) e = e
not_begun c nothing e = refl
not_begun c (class d k) e = refl
not_begun c (mapping d ds x) e = refl
not_begun c (compatibility d ds) e = refl
not_begun c (range r) e = refl
not_begun c (digit d v) e = refl
not_begun c (setting s) e = refl

not_begun_tailored : (c : ℕ) (line : Record) → is_own c line ≡ false → begins_tailored_line c line ≡ false
not_begun_tailored c (weights layer prefix text es) e = by (is_same_layer tailoring layer)
  where
    by : (b : Bool) → (b && begins_with c text) ≡ false
    by true = not_begun c (weights layer prefix text es) e
    by false = refl
not_begun_tailored c nothing e = refl
not_begun_tailored c (class d k) e = refl
not_begun_tailored c (mapping d ds x) e = refl
not_begun_tailored c (compatibility d ds) e = refl
not_begun_tailored c (range r) e = refl
not_begun_tailored c (digit d v) e = refl
not_begun_tailored c (setting s) e = refl

no_digit : (c : ℕ) (line : Record) → is_own c line ≡ false → digit_in c line ≡ None
no_digit c (digit d v) e = ap (λ (b : Bool). cond b (Some v) None) e
no_digit c nothing e = refl
no_digit c (class d k) e = refl
no_digit c (mapping d ds x) e = refl
no_digit c (compatibility d ds) e = refl
no_digit c (weights layer prefix text es) e = refl
no_digit c (range r) e = refl
no_digit c (setting s) e = refl

-- where the last of three tests fails, nothing is given
third : {B : Type 0} (a b c : Bool) (x : B) → c ≡ false → cond (a && b && c) (Some x) None ≡ None
third true true c x e = ap (λ (t : Bool). cond t (Some x) None) e
third true false c x e = refl
third false b c x e = refl

not_alone : (layer : Layer) (c : ℕ) (line : Record) → is_own c line ≡ false → elements_in layer [] (c ∷ []) line ≡ None
not_alone layer c (weights other prefix text es) e =
    third (is_same_layer layer other) (bytes_eq [] prefix) (bytes_eq (c ∷ []) text) es (by text e)
  where
    by : (key : List ℕ) → is_own c (weights other prefix key es) ≡ false → bytes_eq (c ∷ []) key ≡ false
    by [] h = refl
    by (d ∷ ds) h = ap (λ (b : Bool). b && bytes_eq [] ds) h
not_alone layer c nothing e = refl
not_alone layer c (class d k) e = refl
not_alone layer c (mapping d ds x) e = refl
not_alone layer c (compatibility d ds) e = refl
not_alone layer c (range r) e = refl
not_alone layer c (digit d v) e = refl
not_alone layer c (setting s) e = refl

-- where nothing is found in the layer, nothing is in any
none_in : {B : Type 0} (b : Bool) (o : Option B) → o ≡ None → cond b o None ≡ None
none_in true o e = e
none_in false o e = refl

no_suffix : (layer : Layer) (c : ℕ) (line : Record) → is_own c line ≡ false → suffix_in layer c line ≡ None
no_suffix layer c (weights other prefix text es) e =
    none_in (is_same_layer layer other) (suffix_of c prefix text es) (by prefix text e)
  where
    by : (before key : List ℕ) → is_own c (weights other before key es) ≡ false → suffix_of c before key es ≡ None
    by [] [] h = refl
    by [] (d ∷ []) h = refl
    by [] (d ∷ x ∷ xs) h = ap (λ (b : Bool). cond b (Some (record { characters = x ∷ xs; elements = es })) None) h
    by (b ∷ bs) key h = refl
no_suffix layer c nothing e = refl
no_suffix layer c (class d k) e = refl
no_suffix layer c (mapping d ds x) e = refl
no_suffix layer c (compatibility d ds) e = refl
no_suffix layer c (range r) e = refl
no_suffix layer c (digit d v) e = refl
no_suffix layer c (setting s) e = refl

no_prefix : (layer : Layer) (c : ℕ) (line : Record) → is_own c line ≡ false → prefix_in layer c line ≡ None
no_prefix layer c (weights other prefix text es) e =
    none_in (is_same_layer layer other) (prefix_of c prefix text es) (by prefix text e)
  where
    by : (before key : List ℕ) → is_own c (weights other before key es) ≡ false → prefix_of c before key es ≡ None
    by [] key h = refl
    by (b ∷ bs) [] h = refl
    by (b ∷ bs) (d ∷ []) h = ap (λ (t : Bool). cond t (Some (record { characters = b ∷ bs; elements = es })) None) h
    by (b ∷ bs) (d ∷ x ∷ xs) h = refl
no_prefix layer c nothing e = refl
no_prefix layer c (class d k) e = refl
no_prefix layer c (mapping d ds x) e = refl
no_prefix layer c (compatibility d ds) e = refl
no_prefix layer c (range r) e = refl
no_prefix layer c (digit d v) e = refl
no_prefix layer c (setting s) e = refl

module _ (c : ℕ) (lines : List Record) where
  pub begun_own : list_any (begins_line c) (own_lines c lines) ≡ list_any (begins_line c) lines
  begun_own = any_kept (begins_line c) (is_own c) (not_begun c) lines

  pub tailored_own : list_any (begins_tailored_line c) (own_lines c lines) ≡ list_any (begins_tailored_line c) lines
  tailored_own = any_kept (begins_tailored_line c) (is_own c) (not_begun_tailored c) lines

  pub digit_own : first_found (digit_in c) (own_lines c lines) ≡ first_found (digit_in c) lines
  digit_own = found_kept (digit_in c) (is_own c) (no_digit c) lines

  pub alone_own : (layer : Layer)
      → first_found (elements_in layer [] (c ∷ [])) (own_lines c lines) ≡ first_found (elements_in layer [] (c ∷ [])) lines
  alone_own layer = found_kept (elements_in layer [] (c ∷ [])) (is_own c) (not_alone layer c) lines

  pub suffixes_own : suffixes_in (own_lines c lines) c ≡ suffixes_in lines c
  suffixes_own =
      gathered_kept_in (suffix_in root c) (is_own c) (no_suffix root c) lines (gathered (suffix_in tailoring c) (own_lines c lines) [])
      ∙ ap (gathered (suffix_in root c) lines) (gathered_kept_in (suffix_in tailoring c) (is_own c) (no_suffix tailoring c) lines [])

  pub prefixes_own : prefixes_in (own_lines c lines) c ≡ prefixes_in lines c
  prefixes_own =
      gathered_kept_in (prefix_in root c) (is_own c) (no_prefix root c) lines (gathered (prefix_in tailoring c) (own_lines c lines) [])
      ∙ ap (gathered (prefix_in root c) lines) (gathered_kept_in (prefix_in tailoring c) (is_own c) (no_prefix tailoring c) lines [])

-- ---- Ranges

pub range_found : (c : ℕ) (lines : List Record) → first_found (held_by c) (given_ranges lines) ≡ first_found (range_in c) lines
range_found c [] = refl
range_found c (range r ∷ lines) =
    ap (λ (o : Option Range). elim (held_by c (span_of r)) as (λ _. Option Range) [ Some y ↦ Some y | None ↦ o ]) (range_found c lines)
range_found c (nothing ∷ lines) = range_found c lines
range_found c (class d k ∷ lines) = range_found c lines
range_found c (mapping d ds x ∷ lines) = range_found c lines
range_found c (compatibility d ds ∷ lines) = range_found c lines
range_found c (weights layer prefix text es ∷ lines) = range_found c lines
range_found c (digit d v ∷ lines) = range_found c lines
range_found c (setting s ∷ lines) = range_found c lines

-- one more line
pub ranges_more : (lines : List Line) (i : ℕ) (line : Line) → i < length lines → line ≡ get_or lines i line
    → given_ranges (map said (take (i + 1) lines)) ≡ given_ranges (map said (take i lines)) ++ ranges_of (said line)
ranges_more lines i line within is =
    ap (λ (ls : List Line). given_ranges (map said ls))
    (take_more lines i line within ∙ sym (ap (λ (l : Line). take i lines ++ l ∷ []) is))
    ∙ ap given_ranges (map-append said (take i lines) (line ∷ []))
    ∙ flat_map-append ranges_of (map said (take i lines)) (said line ∷ [])
    ∙ ap (λ (rs : List Range). given_ranges (map said (take i lines)) ++ rs) (append-nil (ranges_of (said line)))
