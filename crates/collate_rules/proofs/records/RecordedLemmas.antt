-- What is recorded, by the lines of each layer.
use Rattle.std.proofs.Common.{◌≡◌, ℕ, Bool, true, false, cond, ◌==◌, ◌&&◌, ◌||◌, List, [], ◌∷◌, Option, Some, None, refl, sym, ◌∙◌, ap}
use Rattle.std.specs.Prelude.{bytes_eq, is_some}
use Rattle.std.specs.List.{list_any}
use Rattle.std.proofs.lemmas.Bool.{and_right, or_left}
use Rattle.icu_collator_types.specs.declared.elements.Element.{Element}
use Rattle.icu_collator_core.specs.ContextRules.{is_recorded_in}
use Rattle.collate_lines.specs.Record.{Record, nothing, class, mapping, compatibility, weights, range, digit, setting, Layer, root, tailoring}
use Rattle.collate_rules.specs.Meaning.{elements_in, first_found, weights_of}
use Rattle.collate_rules.specs.NotedLines.{records_alone}
use Rattle.collate_rules.specs.RecordRules.{is_given}

some_else : {B : Type 0} (o later : Option B) → is_some (elim o [ Some z ↦ Some z | None ↦ later ]) ≡ (is_some o || is_some later)
some_else (Some y) later = refl
some_else None later = refl

pub first_found-is_some : {A B : Type 0} (f : A → Option B) (xs : List A) → is_some (first_found f xs) ≡ list_any (λ x. is_some (f x)) xs
first_found-is_some f [] = refl
first_found-is_some f (x ∷ xs) = some_else (f x) (first_found f xs) ∙ ap (λ (b : Bool). is_some (f x) || b) (first_found-is_some f xs)

-- a text is recorded where a line of either layer records it
pub recorded_given : (records : List Record) (prefix text : List ℕ)
    → (is_given tailoring prefix text records || is_given root prefix text records) ≡ is_recorded_in (weights_of records) prefix text
recorded_given records prefix text =
    sym (some_else (first_found (elements_in tailoring prefix text) records) (first_found (elements_in root prefix text) records)
    ∙ ap (λ (b : Bool). b || is_some (first_found (elements_in root prefix text) records)) (first_found-is_some (elements_in tailoring prefix text) records)
    ∙ ap (λ (b : Bool). is_given tailoring prefix text records || b) (first_found-is_some (elements_in root prefix text) records))

pub given_in_tailoring : (records : List Record) (prefix text : List ℕ) → is_given tailoring prefix text records ≡ true
    → true ≡ is_recorded_in (weights_of records) prefix text
given_in_tailoring records prefix text h =
    sym (or_left (is_given tailoring prefix text records) (is_given root prefix text records) h) ∙ recorded_given records prefix text

pub given_in_root : (records : List Record) (prefix text : List ℕ) (b : Bool) → is_given tailoring prefix text records ≡ false
    → b ≡ is_given root prefix text records → b ≡ is_recorded_in (weights_of records) prefix text
given_in_root records prefix text b none is =
    is ∙ sym (ap (λ (x : Bool). x || is_given root prefix text records) none) ∙ recorded_given records prefix text

-- ---- Characters by themselves

both_any : {A : Type 0} (p q r : A → Bool) (xs : List A) → ((x : A) → (p x || q x) ≡ r x) → (list_any p xs || list_any q xs) ≡ list_any r xs
both_any p q r [] same = refl
both_any p q r (x ∷ xs) same = step (p x) (list_any p xs) (q x) (list_any q xs) (r x) (list_any r xs) (same x) (both_any p q r xs same)
  where
    step : (a b c d e f : Bool) → (a || c) ≡ e → (b || d) ≡ f → ((a || b) || (c || d)) ≡ (e || f)
    step true b c d e f h g = ap (λ (x : Bool). x || f) h
    step false true true d e f h g = ap (λ (x : Bool). x || f) h
    step false true false d e f h g = g ∙ ap (λ (x : Bool). x || f) h
    step false false true d e f h g = ap (λ (x : Bool). x || f) h
    step false false false d e f h g = g ∙ ap (λ (x : Bool). x || f) h

-- whether a prefix and a text are none, and this character alone
abbrev is_lone_key : ℕ → List ℕ → List ℕ → Bool
is_lone_key c [] (d ∷ []) = c == d
is_lone_key c _ _ = false

lone_key : (c : ℕ) (layer : Layer) (prefix text : List ℕ) (es : List Element) → is_lone_key c prefix text ≡ records_alone c (weights layer prefix text es)
lone_key c layer [] [] es = refl
lone_key c layer [] (d ∷ []) es = refl
lone_key c layer [] (d ∷ e ∷ ds) es = refl
lone_key c layer (b ∷ bs) text es = refl

same_key : (c : ℕ) (prefix text : List ℕ) → (bytes_eq [] prefix && bytes_eq (c ∷ []) text) ≡ is_lone_key c prefix text
same_key c [] [] = refl
same_key c [] (d ∷ []) = by (c == d)
  where
    by : (b : Bool) → (b && true) ≡ b
    by true = refl
    by false = refl
same_key c [] (d ∷ e ∷ ds) = and_right (c == d) false refl
same_key c (b ∷ bs) text = refl

some_cond : {B : Type 0} (b : Bool) (x : B) → is_some (cond b (Some x) None) ≡ b
some_cond true x = refl
some_cond false x = refl

some_or : (b : Bool) → (b || false) ≡ b
some_or true = refl
some_or false = refl

-- a line of either layer records a character alone
either_layer : (c : ℕ) (line : Record) → (is_some (elements_in tailoring [] (c ∷ []) line) || is_some (elements_in root [] (c ∷ []) line)) ≡ records_alone c line
either_layer c nothing = refl
either_layer c (class d k) = refl
either_layer c (mapping d ds x) = refl
either_layer c (compatibility d ds) = refl
either_layer c (weights root prefix text es) = some_cond (bytes_eq [] prefix && bytes_eq (c ∷ []) text) es ∙ same_key c prefix text ∙ lone_key c root prefix text es
either_layer c (weights tailoring prefix text es) =
    ap (λ (b : Bool). b || false) (some_cond (bytes_eq [] prefix && bytes_eq (c ∷ []) text) es)
    ∙ some_or (bytes_eq [] prefix && bytes_eq (c ∷ []) text) ∙ same_key c prefix text ∙ lone_key c tailoring prefix text es
either_layer c (range r) = refl
either_layer c (digit d v) = refl
either_layer c (setting s) = refl

pub recorded_alone : (records : List Record) (c : ℕ) → list_any (records_alone c) records ≡ is_recorded_in (weights_of records) [] (c ∷ [])
recorded_alone records c =
    sym (both_any (λ line. is_some (elements_in tailoring [] (c ∷ []) line)) (λ line. is_some (elements_in root [] (c ∷ []) line)) (records_alone c) records (either_layer c))
    ∙ recorded_given records [] (c ∷ [])
