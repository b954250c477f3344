-- What is recorded stands in a line, and the line keeps the rules.
use Rattle.std.proofs.Common.{◌≡◌, ℕ, suc, ◌<◌, Bool, true, false, ◌&&◌, List, [], ◌∷◌, length, Option, Some, None, refl, sym, ap, ◌∙◌, arith, ⊎_elim}
use Rattle.std.specs.Prelude.{bytes_eq}
use Rattle.std.specs.List.{list_any}
use Rattle.std.proofs.lemmas.Bool.{and_parts, eq-eqb, false≢true, or_cases, true≢false}
use Rattle.std.proofs.lemmas.List.Folds.{list_any_at}
use Rattle.std.proofs.lemmas.Option.{cond_some, none-some, unwrap_or-slice_get}
use Rattle.std.proofs.lemmas.Slice.Eq.{bytes_eq-Decides}
use Rattle.icu_collator_types.specs.declared.elements.Element.{Element}
use Rattle.collate_lines.specs.Record.{Record, nothing, class, mapping, compatibility, weights, range, digit, setting, Layer, root, tailoring, is_same_layer}
use Rattle.collate_lines.specs.Repeats.{record_at}
use Rattle.collate_rules.specs.Meaning.{elements_in, first_found, recorded_in}
use Rattle.collate_rules.proofs.lookups.FoundLemmas.{found_at}
use Rattle.collate_compile.specs.LineSayings.{begins_line}

-- ---- Lines

same_text : (xs ys : List ℕ) → bytes_eq xs ys ≡ true → xs ≡ ys
same_text xs ys = (bytes_eq-Decides xs ys).0

same_layer : (a b : Layer) → is_same_layer a b ≡ true → a ≡ b
same_layer root root h = refl
same_layer tailoring tailoring h = refl
same_layer root tailoring h = absurd (false≢true h)
same_layer tailoring root h = absurd (false≢true h)

-- the line that gives a text its elements
pub elements_line : (layer : Layer) (prefix text : List ℕ) (line : Record) (es : List Element)
    → elements_in layer prefix text line ≡ Some es
    → line ≡ weights layer prefix text es
elements_line layer prefix text (weights other before key fs) es h =
    let told = cond_some (is_same_layer layer other && bytes_eq prefix before && bytes_eq text key) fs es h in
    let outer = and_parts (is_same_layer layer other && bytes_eq prefix before) (bytes_eq text key) told.0 in
    let inner = and_parts (is_same_layer layer other) (bytes_eq prefix before) outer.0 in
    let layers : layer ≡ other = same_layer layer other inner.0 in
    let prefixes : prefix ≡ before = same_text prefix before inner.1 in
    let texts : text ≡ key = same_text text key outer.1 in
    let equal : fs ≡ es = told.1 in
    cc
elements_line layer prefix text nothing es h = absurd (none-some es h)
elements_line layer prefix text (class c k) es h = absurd (none-some es h)
elements_line layer prefix text (mapping c ds x) es h = absurd (none-some es h)
elements_line layer prefix text (compatibility c ds) es h = absurd (none-some es h)
elements_line layer prefix text (range r) es h = absurd (none-some es h)
elements_line layer prefix text (digit c v) es h = absurd (none-some es h)
elements_line layer prefix text (setting s) es h = absurd (none-some es h)

-- a line records a text
pub record IsLine (lines : List Record) (prefix text : List ℕ) (es : List Element) : Type 0 where
  pub layer : Layer
  pub index : ℕ
  pub inside : index < length lines
  pub says : record_at lines index ≡ weights layer prefix text es

found_line : (layer : Layer) (lines : List Record) (prefix text : List ℕ) (es : List Element)
    → first_found (elements_in layer prefix text) lines ≡ Some es → IsLine lines prefix text es
found_line layer lines prefix text es h =
    let w = found_at (elements_in layer prefix text) lines es h in
    record {
      layer = layer;
      index = w.0;
      inside = w.1;
      says = elements_line layer prefix text
          (record_at lines w.0) es w.2;
    }

pub recorded_line : (lines : List Record) (prefix text : List ℕ) (es : List Element)
    → recorded_in lines prefix text ≡ Some es
    → IsLine lines prefix text es
recorded_line lines prefix text es h = at (first_found (elements_in tailoring prefix text) lines) refl h
  where
    at : (o : Option (List Element)) → first_found (elements_in tailoring prefix text) lines ≡ o
        → (elim o [ Some fs ↦ Some fs | None ↦ first_found (elements_in root prefix text) lines ]) ≡ Some es
        → IsLine lines prefix text es
    at (Some fs) is k = found_line tailoring lines prefix text es (is ∙ k)
    at None is k = found_line root lines prefix text es k

-- what no line passes, the line at an index doesn't
pub none_at : (test : Record → Bool) (lines : List Record) (i : ℕ) → (list_any test lines ≡ true → ⊥) → i < length lines
    → test (record_at lines i) ≡ true → ⊥
none_at test lines i none lt h =
    none (list_any_at test lines i nothing lt (ap test (sym (unwrap_or-slice_get lines i nothing)) ∙ h))

pub any_at : (test : Record → Bool) (lines : List Record) (i : ℕ) → i < length lines → test (record_at lines i) ≡ true
    → list_any test lines ≡ true
any_at test lines i lt h = list_any_at test lines i nothing lt (ap test (sym (unwrap_or-slice_get lines i nothing)) ∙ h)

-- a line that passes, where one does
pub line_index : (test : Record → Bool) (lines : List Record) → list_any test lines ≡ true
    → (i : ℕ) × (i < length lines) × (test (record_at lines i) ≡ true)
line_index test [] h = absurd (false≢true h)
line_index test (line ∷ lines) h =
    ⊎_elim (λ (here : test line ≡ true). (0, omega arith, here))
    (λ (there : list_any test lines ≡ true). let w = line_index test lines there in (
      suc w.0,
      (let inside = w.1 in omega (arith, inside)),
      w.2,
    ))
    (or_cases (test line) (list_any test lines) h)

-- nothing is recorded of what begins no line
pub unbegun : (lines : List Record) (c : ℕ) (prefix cs : List ℕ) → list_any (begins_line c) lines ≡ false
    → recorded_in lines prefix (c ∷ cs) ≡ None
unbegun lines c prefix cs none = at (recorded_in lines prefix (c ∷ cs)) refl
  where
    at : (o : Option (List Element)) → recorded_in lines prefix (c ∷ cs) ≡ o → o ≡ None
    at None is = refl
    at (Some es) is =
        let line = recorded_line lines prefix (c ∷ cs) es is in
        absurd
        (true≢false
        (sym (any_at (begins_line c) lines line.index line.inside (ap (begins_line c) line.says ∙ eq-eqb c c refl))
        ∙ none))
