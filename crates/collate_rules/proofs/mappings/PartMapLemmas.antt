-- What maps note of parts, one part after another.
use Rattle.std.proofs.Common.{◌≡◌, ℕ, ◌==◌, ◌&&◌, List, [], ◌∷◌, ◌++◌, Bool, true, false, cond, not, Option, Some, None, refl, sym, ap, ◌∙◌, arith}
use Rattle.std.specs.declared.cmp.Ordering.{Ordering}
use Rattle.std.specs.declared.cmp.Ordering.TheVariants.{Less, Equal, Greater}
use Rattle.std.specs.Option.{is_some, option_map, option_or}
use Rattle.std.specs.Ordering.{is_eq, nat_cmp, ordering_then}
use Rattle.std.proofs.lemmas.Bool.{and_parts, eqb-true, false≢true}
use Rattle.std.proofs.lemmas.Bool.Decides.{nat_tests}
use Rattle.std.specs.BTreeMap.{BTreeMap, get}
use Rattle.icu_normalizer_core.specs.BuiltIn.{is_built_in}
use Rattle.icu_normalizer_core.specs.Properties.{mapped_to}
use Rattle.icu_normalizer_core.specs.declared.decomposed.Decomposed.{Decomposed}
use Rattle.icu_normalizer_core.specs.declared.decomposed.Decomposed.TheVariants.{Default, Expansion, Singleton}
use Rattle.collate_lines.specs.Record.{Record}
use Rattle.collate_rules.specs.declared.canonical_part.CanonicalPart.{CanonicalPart}
use Rattle.collate_rules.specs.declared.canonical_part.CanonicalPart.TheVariants.{Class, Kmap, Map}
use Rattle.collate_rules.specs.declared.step.Step.{Step}
use Rattle.collate_rules.specs.CanonicalParts.{in_full, step_items}
use Rattle.collate_rules.specs.Meaning.{class_in, compatibility_in, composed_in, first_found, mapping_in}
use Rattle.collate_rules.specs.NotedLines.{HasClasses}
use Rattle.collate_rules.specs.PartMaps.{HasCompatibilities, HasExclusions, HasMappings, HasPairs, class_in_part, compatibility_in_part, excluded_in, exclusion_in_part, mapping_in_part, pair_cmp, pair_in_part}
use Rattle.collate_rules.proofs.lookups.RuleLookupLemmas.{first_found-push, first_found-skip}

-- what one more item says of a character, if it is the item's
abbrev at_character : {V : Type 0} → ℕ → Option (ℕ × V) → Option V
at_character {V} c o = elim o as (λ _. Option V) [ Some w ↦ cond (c == w.0) (Some w.1) None | None ↦ None ]

map_or : {V B : Type 0} (view : V → B) (o p : Option V) → option_map view (option_or o p) ≡ option_or (option_map view o) (option_map view p)
map_or view (Some y) p = refl
map_or view None p = refl

map_cond : {V B : Type 0} (view : V → B) (b : Bool) (v : V) → option_map view (cond b (Some v) None) ≡ cond b (Some (view v)) None
map_cond view true v = refl
map_cond view false v = refl

-- maps from characters to what lines say of them first
module _ {V B : Type 0} (view : V → B) (said_in : ℕ → Record → Option B) (part_in : CanonicalPart → Option (ℕ × V))
    (by_part : (c : ℕ) (part : CanonicalPart) → said_in c (in_full part) ≡ option_map view (at_character c (part_in part))) where
  abbrev Has : BTreeMap ℕ V → List Record → Type 0
  Has noted lines = (c : ℕ) → option_map view (get nat_cmp noted c) ≡ first_found (said_in c) lines

  noted_push : (old new : BTreeMap ℕ V) (lines : List Record) (part : CanonicalPart) (d : ℕ) (v : V) → Some (d, v) ≡ part_in part → Has old lines
      → ((c : ℕ) → get nat_cmp new c ≡ option_or (get nat_cmp old c) (cond (c == d) (Some v) None)) → Has new (lines ++ in_full part ∷ [])
  noted_push old new lines part d v is has put c =
      let says : said_in c (in_full part) ≡ option_map view (cond (c == d) (Some v) None) =
      by_part c part ∙ ap (λ (o : Option (ℕ × V)). option_map view (at_character c o)) (sym is) in
      ap (option_map view) (put c)
      ∙ map_or view (get nat_cmp old c) (cond (c == d) (Some v) None)
      ∙ ap (λ (o : Option B). option_or o (option_map view (cond (c == d) (Some v) None))) (has c)
      ∙ ap (option_or (first_found (said_in c) lines)) (sym says)
      ∙ sym (first_found-push (said_in c) lines (in_full part))

  noted_skip : (noted : BTreeMap ℕ V) (lines : List Record) (part : CanonicalPart) → None ≡ part_in part → Has noted lines
      → Has noted (lines ++ in_full part ∷ [])
  noted_skip noted lines part is has c =
      let none : said_in c (in_full part) ≡ None = by_part c part ∙ ap (λ (o : Option (ℕ × V)). option_map view (at_character c o)) (sym is) in
      has c ∙ sym (first_found-skip (said_in c) lines (in_full part) none)

mapping_by_part : (c : ℕ) (part : CanonicalPart) → mapping_in c (in_full part) ≡ option_map mapped_to (at_character c (mapping_in_part part))
mapping_by_part c (Class d k) = refl
mapping_by_part c (Map d step x) = sym (map_cond mapped_to (c == d) step)
mapping_by_part c (Kmap d step) = refl

compatibility_by_part : (c : ℕ) (part : CanonicalPart) → compatibility_in c (in_full part) ≡ option_map step_items (at_character c (compatibility_in_part part))
compatibility_by_part c (Class d k) = refl
compatibility_by_part c (Map d step x) = refl
compatibility_by_part c (Kmap d step) = sym (map_cond step_items (c == d) step)

pub mapping_push : (old new : BTreeMap ℕ Decomposed) (lines : List Record) (part : CanonicalPart) (d : ℕ) (v : Decomposed) → Some (d, v) ≡ mapping_in_part part
    → HasMappings old lines → ((c : ℕ) → get nat_cmp new c ≡ option_or (get nat_cmp old c) (cond (c == d) (Some v) None)) → HasMappings new (lines ++ in_full part ∷ [])
mapping_push = noted_push mapped_to mapping_in mapping_in_part mapping_by_part

pub mapping_skip : (noted : BTreeMap ℕ Decomposed) (lines : List Record) (part : CanonicalPart) → None ≡ mapping_in_part part → HasMappings noted lines
    → HasMappings noted (lines ++ in_full part ∷ [])
mapping_skip = noted_skip mapped_to mapping_in mapping_in_part mapping_by_part

pub compatibility_push : (old new : BTreeMap ℕ Step) (lines : List Record) (part : CanonicalPart) (d : ℕ) (v : Step) → Some (d, v) ≡ compatibility_in_part part
    → HasCompatibilities old lines → ((c : ℕ) → get nat_cmp new c ≡ option_or (get nat_cmp old c) (cond (c == d) (Some v) None))
    → HasCompatibilities new (lines ++ in_full part ∷ [])
compatibility_push = noted_push step_items compatibility_in compatibility_in_part compatibility_by_part

pub compatibility_skip : (noted : BTreeMap ℕ Step) (lines : List Record) (part : CanonicalPart) → None ≡ compatibility_in_part part → HasCompatibilities noted lines
    → HasCompatibilities noted (lines ++ in_full part ∷ [])
compatibility_skip = noted_skip step_items compatibility_in compatibility_in_part compatibility_by_part

-- maps to what lines say of them first, as it is
module _ {V : Type 0} (said_in : ℕ → Record → Option V) (part_in : CanonicalPart → Option (ℕ × V))
    (by_part : (c : ℕ) (part : CanonicalPart) → said_in c (in_full part) ≡ at_character c (part_in part)) where
  abbrev HasPlain : BTreeMap ℕ V → List Record → Type 0
  HasPlain noted lines = (c : ℕ) → get nat_cmp noted c ≡ first_found (said_in c) lines

  plain_push : (old new : BTreeMap ℕ V) (lines : List Record) (part : CanonicalPart) (d : ℕ) (v : V) → Some (d, v) ≡ part_in part → HasPlain old lines
      → ((c : ℕ) → get nat_cmp new c ≡ option_or (get nat_cmp old c) (cond (c == d) (Some v) None)) → HasPlain new (lines ++ in_full part ∷ [])
  plain_push old new lines part d v is has put c =
      let says : said_in c (in_full part) ≡ cond (c == d) (Some v) None = by_part c part ∙ ap (λ (o : Option (ℕ × V)). at_character c o) (sym is) in
      put c ∙ ap (λ (o : Option V). option_or o (cond (c == d) (Some v) None)) (has c)
      ∙ ap (option_or (first_found (said_in c) lines)) (sym says) ∙ sym (first_found-push (said_in c) lines (in_full part))

  plain_skip : (noted : BTreeMap ℕ V) (lines : List Record) (part : CanonicalPart) → None ≡ part_in part → HasPlain noted lines
      → HasPlain noted (lines ++ in_full part ∷ [])
  plain_skip noted lines part is has c =
      let none : said_in c (in_full part) ≡ None = by_part c part ∙ ap (λ (o : Option (ℕ × V)). at_character c o) (sym is) in
      has c ∙ sym (first_found-skip (said_in c) lines (in_full part) none)

class_by_part : (c : ℕ) (part : CanonicalPart) → class_in c (in_full part) ≡ at_character c (class_in_part part)
class_by_part c (Class d k) = refl
class_by_part c (Map d step x) = refl
class_by_part c (Kmap d step) = refl

pub class_push : (old new : BTreeMap ℕ ℕ) (lines : List Record) (part : CanonicalPart) (d k : ℕ) → Some (d, k) ≡ class_in_part part → HasClasses old lines
    → ((c : ℕ) → get nat_cmp new c ≡ option_or (get nat_cmp old c) (cond (c == d) (Some k) None)) → HasClasses new (lines ++ in_full part ∷ [])
class_push = plain_push class_in class_in_part class_by_part

pub class_skip : (noted : BTreeMap ℕ ℕ) (lines : List Record) (part : CanonicalPart) → None ≡ class_in_part part → HasClasses noted lines
    → HasClasses noted (lines ++ in_full part ∷ [])
class_skip = plain_skip class_in class_in_part class_by_part

exclusion_by_part : (c : ℕ) (part : CanonicalPart) → excluded_in c (in_full part) ≡ at_character c (exclusion_in_part part)
exclusion_by_part c (Class d k) = refl
exclusion_by_part c (Map d step x) = refl
exclusion_by_part c (Kmap d step) = refl

pub exclusion_push : (old new : BTreeMap ℕ Bool) (lines : List Record) (part : CanonicalPart) (d : ℕ) (x : Bool) → Some (d, x) ≡ exclusion_in_part part → HasExclusions old lines
    → ((c : ℕ) → get nat_cmp new c ≡ option_or (get nat_cmp old c) (cond (c == d) (Some x) None)) → HasExclusions new (lines ++ in_full part ∷ [])
exclusion_push = plain_push excluded_in exclusion_in_part exclusion_by_part

pub exclusion_skip : (noted : BTreeMap ℕ Bool) (lines : List Record) (part : CanonicalPart) → None ≡ exclusion_in_part part → HasExclusions noted lines
    → HasExclusions noted (lines ++ in_full part ∷ [])
exclusion_skip = plain_skip excluded_in exclusion_in_part exclusion_by_part

-- pairs
abbrev at_pair : ℕ → ℕ → Option ((ℕ × ℕ) × ℕ) → Option ℕ
at_pair a b o = elim o as (λ _. Option ℕ) [ Some w ↦ cond ((a == w.0.0) && (b == w.0.1)) (Some w.1) None | None ↦ None ]

built_in_pair : (c : ℕ) (x y : Bool) → cond (x && y && not true) (Some c) None ≡ None
built_in_pair c true true = refl
built_in_pair c true false = refl
built_in_pair c false true = refl
built_in_pair c false false = refl

free_pair : (c : ℕ) (x y : Bool) → cond (x && y && not false) (Some c) None ≡ cond (x && y) (Some c) None
free_pair c true true = refl
free_pair c true false = refl
free_pair c false true = refl
free_pair c false false = refl

pair_by : (a b d e c : ℕ) (z : Bool) → cond ((a == d) && (b == e) && not z) (Some c) None ≡ at_pair a b (cond z None (Some ((d, e), c)))
pair_by a b d e c true = built_in_pair c (a == d) (b == e)
pair_by a b d e c false = free_pair c (a == d) (b == e)

pair_by_part : (a b : ℕ) (part : CanonicalPart) → composed_in a b (in_full part) ≡ at_pair a b (pair_in_part part)
pair_by_part a b (Class c k) = refl
pair_by_part a b (Kmap c step) = refl
pair_by_part a b (Map c Default x) = refl
pair_by_part a b (Map c (Singleton d) x) = refl
pair_by_part a b (Map c (Expansion d e) true) = refl
pair_by_part a b (Map c (Expansion d e) false) = pair_by a b d e c (is_built_in c)

pub pair_push : (old new : BTreeMap (ℕ × ℕ) ℕ) (lines : List Record) (part : CanonicalPart) (p : ℕ × ℕ) (c : ℕ) → Some (p, c) ≡ pair_in_part part → HasPairs old lines
    → ((a b : ℕ) → get pair_cmp new (a, b) ≡ option_or (get pair_cmp old (a, b)) (cond ((a == p.0) && (b == p.1)) (Some c) None)) → HasPairs new (lines ++ in_full part ∷ [])
pair_push old new lines part p c is has put a b =
    let says : composed_in a b (in_full part) ≡ cond ((a == p.0) && (b == p.1)) (Some c) None = pair_by_part a b part ∙ ap (λ (o : Option ((ℕ × ℕ) × ℕ)). at_pair a b o) (sym is) in
    put a b ∙ ap (λ (o : Option ℕ). option_or o (cond ((a == p.0) && (b == p.1)) (Some c) None)) (has a b)
    ∙ ap (option_or (first_found (composed_in a b) lines)) (sym says) ∙ sym (first_found-push (composed_in a b) lines (in_full part))

pub pair_skip : (noted : BTreeMap (ℕ × ℕ) ℕ) (lines : List Record) (part : CanonicalPart) → None ≡ pair_in_part part → HasPairs noted lines
    → HasPairs noted (lines ++ in_full part ∷ [])
pair_skip noted lines part is has a b =
    let none : composed_in a b (in_full part) ≡ None = pair_by_part a b part ∙ ap (λ (o : Option ((ℕ × ℕ) × ℕ)). at_pair a b o) (sym is) in
    has a b ∙ sym (first_found-skip (composed_in a b) lines (in_full part) none)

-- the order of pairs tells pairs apart
tied : (x y : Ordering) → is_eq (ordering_then x y) ≡ (is_eq x && is_eq y)
tied Less y = refl
tied Equal y = refl
tied Greater y = refl

number_at : (m n : ℕ) → is_eq (nat_cmp m n) ≡ (n == m)
number_at m n = grind (arith, nat_tests)

pub pair_at : (p : ℕ × ℕ) (a b : ℕ) → is_eq (pair_cmp p (a, b)) ≡ ((a == p.0) && (b == p.1))
pair_at p a b =
    tied (nat_cmp p.0 a) (nat_cmp p.1 b)
    ∙ ap (λ (t : Bool). t && is_eq (nat_cmp p.1 b)) (number_at p.0 a)
    ∙ ap (λ (t : Bool). (a == p.0) && t) (number_at p.1 b)

-- two characters that a pair is read at are the pair
at_itself : (p : ℕ × ℕ) (a b : ℕ) → ((a == p.0) && (b == p.1)) ≡ true → (a, b) ≡ p
at_itself p a b h =
    let both = and_parts (a == p.0) (b == p.1) h in
    let first : a ≡ p.0 = eqb-true a p.0 both.0 in
    let second : b ≡ p.1 = eqb-true b p.1 both.1 in
    ap (λ (n : ℕ). (n, b)) first ∙ ap (λ (n : ℕ). (p.0, n)) second

some_stays : {B : Type 0} (o q : Option B) → is_some o ≡ true → o ≡ option_or o q
some_stays (Some y) q h = refl
some_stays None q h = absurd (false≢true h)

none_gives : {B : Type 0} (o q : Option B) → is_some o ≡ false → q ≡ option_or o q
none_gives (Some y) q h = absurd (false≢true (sym h))
none_gives None q h = refl

or_none : {B : Type 0} (o : Option B) → o ≡ option_or o None
or_none (Some y) = refl
or_none None = refl

module _ (old : BTreeMap (ℕ × ℕ) ℕ) (p : ℕ × ℕ) (c : ℕ) where
  kept_by : (a b : ℕ) (t : Bool) → ((a == p.0) && (b == p.1)) ≡ t → is_some (get pair_cmp old p) ≡ true
      → get pair_cmp old (a, b) ≡ option_or (get pair_cmp old (a, b)) (cond t (Some c) None)
  kept_by a b true e h =
      some_stays (get pair_cmp old (a, b)) (Some c) (ap (λ (q : ℕ × ℕ). is_some (get pair_cmp old q)) (at_itself p a b e) ∙ h)
  kept_by a b false e h = or_none (get pair_cmp old (a, b))

  -- where the pair is noted, nothing changes
  pub pair_kept : (a b : ℕ) → is_some (get pair_cmp old p) ≡ true
      → get pair_cmp old (a, b) ≡ option_or (get pair_cmp old (a, b)) (cond ((a == p.0) && (b == p.1)) (Some c) None)
  pair_kept a b = kept_by a b ((a == p.0) && (b == p.1)) refl

  put_by : (a b : ℕ) (t : Bool) → ((a == p.0) && (b == p.1)) ≡ t → is_some (get pair_cmp old p) ≡ false
      → cond t (Some c) (get pair_cmp old (a, b)) ≡ option_or (get pair_cmp old (a, b)) (cond t (Some c) None)
  put_by a b true e h =
      none_gives (get pair_cmp old (a, b)) (Some c) (ap (λ (q : ℕ × ℕ). is_some (get pair_cmp old q)) (at_itself p a b e) ∙ h)
  put_by a b false e h = or_none (get pair_cmp old (a, b))

  -- where it isn't, it is noted
  pub pair_put : (new : BTreeMap (ℕ × ℕ) ℕ) (a b : ℕ) → is_some (get pair_cmp old p) ≡ false
      → get pair_cmp new (a, b) ≡ cond (is_eq (pair_cmp p (a, b))) (Some c) (get pair_cmp old (a, b))
      → get pair_cmp new (a, b) ≡ option_or (get pair_cmp old (a, b)) (cond ((a == p.0) && (b == p.1)) (Some c) None)
  pair_put new a b h updated =
      updated ∙ ap (λ (t : Bool). cond t (Some c) (get pair_cmp old (a, b))) (pair_at p a b)
      ∙ put_by a b ((a == p.0) && (b == p.1)) refl h
