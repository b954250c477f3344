-- What two files say differently is found by their lines.
use Rattle.std.proofs.Common.{◌≡◌, ℕ, arith, ◌⊎◌, inl, inr, ⊎_elim, Bool, true, false, cond, List, [], ◌∷◌, map, refl, sym, ap, ◌∙◌, subst, Option, Some, None}
use Rattle.std.specs.Prelude.{bytes_eq, ◌&&◌, ◌==◌}
use Rattle.std.specs.List.{All, AllByRecursion, list_any}
use Rattle.std.specs.Option.{unwrap_or}
use Rattle.std.proofs.lemmas.Bool.{and_parts, cond_both, eqb-true, or_cases, or_left, or_right}
use Rattle.std.proofs.lemmas.Bool.Decides.{nat_tests}
use Rattle.std.proofs.lemmas.List.Elements.{All-from_recursion, All-map, recursion_from_All}
use Rattle.std.proofs.lemmas.Slice.Eq.{bytes_eq-Decides}
use Rattle.icu_collator_types.specs.declared.elements.Element.{Element}
use Rattle.collate_lines.specs.declared.record.Record.{Record as Line}
use Rattle.collate_lines.specs.Record.{Record, nothing, class, mapping, compatibility, weights, range, digit, setting, Layer, root, tailoring, is_same_layer, said}
use Rattle.collate_rules.specs.Meaning.{compress_in, elements_in, first_found, is_compressible_in, recorded_in, reorder_in, set_to}
use Rattle.collate_records.specs.Changes.{begins_with, GivesSame, place_of}

pub self_equal : (l : ℕ) → (l == l) ≡ true
self_equal l = grind (arith, nat_tests)

-- ---- records of a text

-- nothing is found, or both files give the same
abbrev Alike : List Record → List Record → List ℕ → List ℕ → Option (List Element) → Type 0
Alike a b prefix text found = (found ≡ None) ⊎ (recorded_in a prefix text ≡ recorded_in b prefix text)

module _ (a b : List Record) (layer : Layer) (prefix : List ℕ) (c : ℕ) (rest : List ℕ) where
  weights_alike : (of_layer : Layer) (before key : List ℕ) (es : List Element) → GivesSame a b c (weights of_layer before key es)
      → Alike a b prefix (c ∷ rest) (elements_in layer prefix (c ∷ rest) (weights of_layer before key es))
  weights_alike of_layer before key es given =
      cond_both (is_same_layer layer of_layer && bytes_eq prefix before && bytes_eq (c ∷ rest) key) (Some es) None (Alike a b prefix (c ∷ rest))
      (λ is.
      let parts = and_parts (is_same_layer layer of_layer && bytes_eq prefix before) (bytes_eq (c ∷ rest) key) is
      in let before_is : prefix ≡ before = (bytes_eq-Decides prefix before).0 (and_parts (is_same_layer layer of_layer) (bytes_eq prefix before) parts.0).1
      in let text_is : c ∷ rest ≡ key = (bytes_eq-Decides (c ∷ rest) key).0 parts.1
      in let same : recorded_in a before key ≡ recorded_in b before key = given (subst (λ t. begins_with c t ≡ true) text_is (self_equal c))
      in inr (subst (λ p. recorded_in a p (c ∷ rest) ≡ recorded_in b p (c ∷ rest)) (sym before_is) (subst (λ t. recorded_in a before t ≡ recorded_in b before t) (sym text_is) same)))
      (λ _. inl refl)

  line_alike : (r : Record) → GivesSame a b c r → Alike a b prefix (c ∷ rest) (elements_in layer prefix (c ∷ rest) r)
  line_alike (weights of_layer before key es) given = weights_alike of_layer before key es given
  line_alike nothing given = inl refl
  line_alike (class d k) given = inl refl
  line_alike (mapping d ds x) given = inl refl
  line_alike (compatibility d ds) given = inl refl
  line_alike (range r) given = inl refl
  line_alike (digit d v) given = inl refl
  line_alike (setting s) given = inl refl

  either_alike : (found later : Option (List Element)) → Alike a b prefix (c ∷ rest) found → Alike a b prefix (c ∷ rest) later
      → Alike a b prefix (c ∷ rest) (elim found as (λ _. Option (List Element)) [ Some y ↦ Some y | None ↦ later ])
  either_alike None later first second = second
  either_alike (Some y) later first second = first

  found_alike : (rs : List Record) → AllByRecursion (GivesSame a b c) rs → Alike a b prefix (c ∷ rest) (first_found (elements_in layer prefix (c ∷ rest)) rs)
  found_alike [] given = inl refl
  found_alike (r ∷ rs) given =
      either_alike (elements_in layer prefix (c ∷ rest) r) (first_found (elements_in layer prefix (c ∷ rest)) rs) (line_alike r given.0) (found_alike rs given.1)

module _ (a b : List Record) (c : ℕ) where
  -- what the lines give, of either layer
  lines_alike : (prefix rest : List ℕ) (rs : List Record) → AllByRecursion (GivesSame a b c) rs → Alike a b prefix (c ∷ rest) (recorded_in rs prefix (c ∷ rest))
  lines_alike prefix rest rs given =
      either_alike a b tailoring prefix c rest
      (first_found (elements_in tailoring prefix (c ∷ rest)) rs) (first_found (elements_in root prefix (c ∷ rest)) rs)
      (found_alike a b tailoring prefix c rest rs given) (found_alike a b root prefix c rest rs given)

  pub both_alike : (prefix rest : List ℕ) → AllByRecursion (GivesSame a b c) a → AllByRecursion (GivesSame a b c) b
      → recorded_in a prefix (c ∷ rest) ≡ recorded_in b prefix (c ∷ rest)
  both_alike prefix rest of_a of_b =
      ⊎_elim (λ none. ⊎_elim (λ other. none ∙ sym other) (λ same. same) (lines_alike prefix rest b of_b)) (λ same. same) (lines_alike prefix rest a of_a)

  pub given_alike : (r : Record) → ((prefix rest : List ℕ) → recorded_in a prefix (c ∷ rest) ≡ recorded_in b prefix (c ∷ rest)) → GivesSame a b c r
  given_alike (weights layer prefix [] es) same = λ is. absurd (cc)
  given_alike (weights layer prefix (d ∷ rest) es) same = λ is. subst (λ x. recorded_in a prefix (x ∷ rest) ≡ recorded_in b prefix (x ∷ rest)) (eqb-true c d is) (same prefix rest)
  given_alike nothing same = tt
  given_alike (class d k) same = tt
  given_alike (mapping d ds x) same = tt
  given_alike (compatibility d ds) same = tt
  given_alike (range r) same = tt
  given_alike (digit d v) same = tt
  given_alike (setting s) same = tt

-- both files record the same of each text that begins with a character, if each line of both gives the same
pub recorded_alike : (a b : List Line) (c : ℕ) → All (λ r. GivesSame (map said a) (map said b) c (said r)) a → All (λ r. GivesSame (map said a) (map said b) c (said r)) b
    → (prefix rest : List ℕ) → recorded_in (map said a) prefix (c ∷ rest) ≡ recorded_in (map said b) prefix (c ∷ rest)
recorded_alike a b c of_a of_b prefix rest =
    let Gives : Record → Type 0 = GivesSame (map said a) (map said b) c
    in both_alike (map said a) (map said b) c prefix rest (recursion_from_All Gives (map said a) (All-map Gives said a of_a)) (recursion_from_All Gives (map said b) (All-map Gives said b of_b))

-- and then each line gives the same
pub all_given_alike : (a b : List Record) (c : ℕ) (lines : List Line)
    → ((prefix rest : List ℕ) → recorded_in a prefix (c ∷ rest) ≡ recorded_in b prefix (c ∷ rest)) → All (λ r. GivesSame a b c (said r)) lines
all_given_alike a b c lines same = All-from_recursion (λ r. GivesSame a b c (said r)) lines (each lines)
  where
    each : (ls : List Line) → AllByRecursion (λ r. GivesSame a b c (said r)) ls
    each [] = tt
    each (l ∷ ls) = (given_alike a b c (said l) same, each ls)

-- ---- compressible leads

either_true : (x y : Bool) → (x ≡ true → y ≡ true) → (y ≡ true → x ≡ true) → x ≡ y
either_true true y h g = sym (h refl)
either_true false true h g = g refl
either_true false false h g = refl

-- what holds of each lead of a list holds of one that is found in it
found_lead : (P : ℕ → Type 0) (leads : List ℕ) (lead : ℕ) → AllByRecursion P leads → list_any (λ other. other == lead) leads ≡ true → P lead
found_lead P [] lead each e = absurd (cc)
found_lead P (l ∷ ls) lead each e =
    ⊎_elim (λ here. subst P (eqb-true l lead here) each.0) (λ later. found_lead P ls lead each.1 later) (or_cases (l == lead) (list_any (λ other. other == lead) ls) e)

-- each lead of a list is found in it
lead_found : (whole leads : List ℕ) → ((lead : ℕ) → list_any (λ other. other == lead) leads ≡ true → list_any (λ other. other == lead) whole ≡ true)
    → AllByRecursion (λ lead. list_any (λ other. other == lead) whole ≡ true) leads
lead_found whole [] within = tt
lead_found whole (l ∷ ls) within =
    (within l (or_left (l == l) (list_any (λ other. other == l) ls) (self_equal l)), lead_found whole ls (λ m h. within m (or_right (l == m) (list_any (λ other. other == m) ls) h)))

abbrev IsCompressible : List Record → ℕ → Type 0
IsCompressible records lead = is_compressible_in records lead ≡ true

compressible_there : (a b : List Record) → All (IsCompressible b) (set_to compress_in [] a) → (lead : ℕ) → IsCompressible a lead → IsCompressible b lead
compressible_there a b each lead is =
    let leads = set_to compress_in [] a
    in let here : List ℕ → Bool = list_any (λ other. other == lead)
    in ⊎_elim (λ always. or_left (lead == 0xfe) (here (set_to compress_in [] b)) always)
    (λ found. found_lead (IsCompressible b) leads lead (recursion_from_All (IsCompressible b) leads each) found)
    (or_cases (lead == 0xfe) (here leads) is)

-- the same leads are compressible, if each that either file sets so is in the other
pub compressible_alike : (a b : List Record) → All (IsCompressible b) (set_to compress_in [] a) → All (IsCompressible a) (set_to compress_in [] b)
    → (lead : ℕ) → is_compressible_in a lead ≡ is_compressible_in b lead
compressible_alike a b there back lead =
    either_true (is_compressible_in a lead) (is_compressible_in b lead) (compressible_there a b there lead) (compressible_there b a back lead)

-- and then each is
pub set_compressible : (a b : List Record) → ((lead : ℕ) → is_compressible_in a lead ≡ is_compressible_in b lead) → All (IsCompressible b) (set_to compress_in [] a)
set_compressible a b same =
    let leads = set_to compress_in [] a
    in All-from_recursion (IsCompressible b) leads (each leads (lead_found leads leads (λ lead h. h)))
  where
    each : (ls : List ℕ) → AllByRecursion (λ lead. list_any (λ other. other == lead) (set_to compress_in [] a) ≡ true) ls → AllByRecursion (IsCompressible b) ls
    each [] h = tt
    each (l ∷ ls) h = (sym (same l) ∙ or_right (l == 0xfe) (list_any (λ other. other == l) (set_to compress_in [] a)) h.0, each ls h.1)

-- ---- leads that take the places of others

-- a lead has none in its place, or what holds of each that has one holds of it
found_place : (P : ℕ → Type 0) (pairs : List (ℕ × ℕ)) (lead : ℕ) → AllByRecursion (λ pair. P pair.0) pairs
    → (first_found (λ pair. cond (pair.0 == lead) (Some pair.1) None) pairs ≡ None) ⊎ P lead
found_place P [] lead each = inl refl
found_place P (p ∷ ps) lead each =
    let later = first_found (λ (pair : ℕ × ℕ). cond (pair.0 == lead) (Some pair.1) None) ps
    in cond_both (p.0 == lead) (Some p.1) None (λ (o : Option ℕ). (elim o as (λ _. Option ℕ) [ Some y ↦ Some y | None ↦ later ] ≡ None) ⊎ P lead)
    (λ here. inr (subst P (eqb-true p.0 lead here) each.0)) (λ _. found_place P ps lead each.1)

abbrev ArePlacedAlike : List Record → List Record → ℕ → Type 0
ArePlacedAlike a b lead = place_of a lead ≡ place_of b lead

place_here : (a b records : List Record) (lead : ℕ) → All (λ pair. ArePlacedAlike a b pair.0) (set_to reorder_in [] records)
    → (place_of records lead ≡ lead) ⊎ ArePlacedAlike a b lead
place_here a b records lead each =
    let pairs = set_to reorder_in [] records
    in ⊎_elim (λ none. inl (ap (λ o. unwrap_or o lead) none)) (λ same. inr same)
    (found_place (ArePlacedAlike a b) pairs lead (recursion_from_All (λ pair. ArePlacedAlike a b pair.0) pairs each))

-- each lead has the same in its place, if those have that either file moves
pub placed_alike : (a b : List Record) → All (λ pair. ArePlacedAlike a b pair.0) (set_to reorder_in [] a) → All (λ pair. ArePlacedAlike a b pair.0) (set_to reorder_in [] b)
    → (lead : ℕ) → place_of a lead ≡ place_of b lead
placed_alike a b of_a of_b lead =
    ⊎_elim (λ none. ⊎_elim (λ other. none ∙ sym other) (λ same. same) (place_here a b b lead of_b)) (λ same. same) (place_here a b a lead of_a)
