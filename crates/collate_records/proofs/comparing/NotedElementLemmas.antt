-- Elements that are noted of the lines of a file, by prefix and text.
use Rattle.std.proofs.Common.{◌≡◌, ℕ, ◌+◌, ◌<◌, Bool, true, false, cond, ◌&&◌, List, [], ◌∷◌, ◌++◌, length, take, get_or, Option, Some, None, map, refl, sym, ap, ◌∙◌, Bor}
use Rattle.std.specs.Prelude.{bytes_eq, is_none}
use Rattle.std.specs.BTreeMap.{get, is_at}
use Rattle.std.specs.Cmp.{tied_then}
use Rattle.std.specs.Cmp.Lexicographic.{slice_cmp}
use Rattle.std.specs.Map.{lookup}
use Rattle.std.specs.Option.{option_copied, option_or}
use Rattle.std.specs.Ordering.{is_eq, nat_cmp}
use Rattle.std.proofs.lemmas.Bool.{and_parts, false≢true}
use Rattle.std.proofs.lemmas.Cmp.{nat_list_eq_equiv}
use Rattle.std.proofs.lemmas.List.{map-append, take_more}
use Rattle.std.proofs.lemmas.Map.Text.{is_eq-slice_cmp}
use Rattle.std.proofs.lemmas.Slice.Eq.{bytes_eq-Decides}
use Rattle.icu_collator_types.specs.declared.elements.Element.{Element}
use Rattle.collate_lines.specs.declared.record.Record.{Record as Line}
use Rattle.collate_lines.specs.Record.{Record, Layer, root, tailoring, said}
use Rattle.collate_rules.specs.Meaning.{elements_in, first_found}
use Rattle.collate_rules.proofs.lookups.RuleLookupLemmas.{first_found-push}
use Rattle.collate_records.specs.NotedFile.{HasElements, Key, Noted, elements_at, key_cmp, pointed}

abbrev Found : Type 0
Found = Option (List Element)

or_none : (o : Found) → option_or o None ≡ o
or_none None = refl
or_none (Some es) = refl

or_joined : (o p q : Found) → option_or (option_or o p) q ≡ option_or o (option_or p q)
or_joined None p q = refl
or_joined (Some es) p q = refl

-- what is found is nothing, if nothing is pointed to
pub nothing_copied : {X : Type 0} (o : Option (Bor X)) (found : Option X) → option_copied o ≡ found → is_none o ≡ true → found ≡ None
nothing_copied None found copied none = sym copied
nothing_copied (Some x) found copied none = absurd (false≢true none)

-- ---- One more key

-- a key is that of these lists where its prefix and its text are theirs
at_lists : (key : Key) (p t : List ℕ) → is_at (key_cmp key) (pointed p, pointed t) ≡ (bytes_eq p key.0.now && bytes_eq t key.1.now)
at_lists key p t =
    sym (tied_then (slice_cmp nat_cmp key.0.now p) (slice_cmp nat_cmp key.1.now t))
    ∙ ap (λ (b : Bool). b && is_eq (slice_cmp nat_cmp key.1.now t)) (is_eq-slice_cmp key.0.now p ∙ nat_list_eq_equiv.symm key.0.now p)
    ∙ ap (λ (b : Bool). bytes_eq p key.0.now && b) (is_eq-slice_cmp key.1.now t ∙ nat_list_eq_equiv.symm key.1.now t)

module _ (old new : Noted) (key : Key) (es : Bor (List Element)) where
  -- a key of which nothing is noted
  pub elements_put : get key_cmp old key ≡ None
      → ((q : Key) → get key_cmp new q ≡ cond (is_at (key_cmp key) q) (Some es) (get key_cmp old q))
      → (p t : List ℕ) → elements_at new p t ≡ option_or (elements_at old p t) (cond (bytes_eq p key.0.now && bytes_eq t key.1.now) (Some es.now) None)
  elements_put none put p t =
      ap (λ (o : Option (Bor (List Element))). option_copied o) (put (pointed p, pointed t))
      ∙ ap (λ (b : Bool). option_copied (cond b (Some es) (get key_cmp old (pointed p, pointed t)))) (at_lists key p t)
      ∙ by (bytes_eq p key.0.now && bytes_eq t key.1.now) refl
    where
      by : (b : Bool) → (bytes_eq p key.0.now && bytes_eq t key.1.now) ≡ b
          → option_copied (cond b (Some es) (get key_cmp old (pointed p, pointed t))) ≡ option_or (elements_at old p t) (cond b (Some es.now) None)
      by false e = sym (or_none (elements_at old p t))
      by true e =
          let parts = and_parts (bytes_eq p key.0.now) (bytes_eq t key.1.now) e in
          let here : elements_at old p t ≡ None =
          ap (λ (l : List ℕ). elements_at old l t) ((bytes_eq-Decides p key.0.now).0 parts.0)
          ∙ ap (λ (l : List ℕ). elements_at old key.0.now l) ((bytes_eq-Decides t key.1.now).0 parts.1)
          ∙ ap (λ (o : Option (Bor (List Element))). option_copied o) none in
          sym (ap (λ (o : Found). option_or o (Some es.now)) here)

-- ---- One more line

-- a map has beside what another has what lines of a layer record
abbrev pub HasLayer : Noted → Noted → Layer → List Line → Type 0
HasLayer old new layer lines = (prefix text : List ℕ)
    → elements_at new prefix text ≡ option_or (elements_at old prefix text) (first_found (elements_in layer prefix text) (map said lines))

pub no_line : (noted : Noted) (layer : Layer) → HasLayer noted noted layer []
no_line noted layer prefix text = sym (or_none (elements_at noted prefix text))

pub line_more : (old noted new : Noted) (layer : Layer) (lines : List Line) (i : ℕ) (line : Line) → i < length lines → line ≡ get_or lines i line
    → HasLayer old noted layer (take i lines)
    → ((prefix text : List ℕ) → elements_at new prefix text ≡ option_or (elements_at noted prefix text) (elements_in layer prefix text (said line)))
    → HasLayer old new layer (take (i + 1) lines)
line_more old noted new layer lines i line within is has put prefix text =
    let f : Record → Found = elements_in layer prefix text in
    let more : map said (take (i + 1) lines) ≡ map said (take i lines) ++ said line ∷ [] =
    ap (map said) (take_more lines i line within ∙ sym (ap (λ (l : Line). take i lines ++ l ∷ []) is))
    ∙ map-append said (take i lines) (line ∷ []) in
    put prefix text ∙ ap (λ (o : Found). option_or o (f (said line))) (has prefix text)
    ∙ or_joined (elements_at old prefix text) (first_found f (map said (take i lines))) (f (said line))
    ∙ ap (option_or (elements_at old prefix text)) (sym (ap (first_found f) more ∙ first_found-push f (map said (take i lines)) (said line)))

-- ---- Both layers

either_layer : (tailored of_root : Found)
    → option_or (option_or None tailored) of_root ≡ elim tailored as (λ _. Found) [ Some es ↦ Some es | None ↦ of_root ]
either_layer None of_root = refl
either_layer (Some es) of_root = refl

pub both_layers : (none tailored all : Noted) (lines : List Line) → none.entries ≡ [] → HasLayer none tailored tailoring lines
    → HasLayer tailored all root lines → HasElements all (map said lines)
both_layers none tailored all lines empty first second prefix text =
    let of_layer : Layer → Found = λ layer. first_found (elements_in layer prefix text) (map said lines) in
    let nothing_there : elements_at none prefix text ≡ None = nowhere none empty prefix text in
    second prefix text ∙ ap (λ (o : Found). option_or o (of_layer root)) (first prefix text ∙ ap (λ (o : Found). option_or o (of_layer tailoring)) nothing_there)
    ∙ either_layer (of_layer tailoring) (of_layer root)
  where
    nowhere : (noted : Noted) → noted.entries ≡ [] → (p t : List ℕ) → elements_at noted p t ≡ None
    nowhere noted e p t = ap (λ (es : List (Key × Bor (List Element))). option_copied (lookup (is_at (key_cmp (pointed p, pointed t))) es)) e
