-- What lines give to compatibility mappings: pairs of a character and what it is mapped to.
use Rattle.std.proofs.Common.{◌≡◌, ℕ, ◌<◌, inl, inr, Bool, true, false, cond, ◌==◌, eqb, List, [], ◌∷◌, length, map, Option, Some, None, refl, sym, ap, ◌∙◌, arith, subst, take_all}
use Rattle.std.specs.Prelude.{flat_map, nat_eq}
use Rattle.std.specs.Cmp.{nat_eq_equiv}
use Rattle.std.specs.List.{All, AllByRecursion, IsDistinct, find, list_any}
use Rattle.std.specs.Option.{unwrap_or}
use Rattle.std.proofs.lemmas.Bool.{cond-false, cond-true, eq-eqb, or_left, eqb-true}
use Rattle.std.proofs.lemmas.Bool.Decides.{nat_tests}
use Rattle.std.proofs.lemmas.Option.{cond_some, none-some}
use Rattle.std.proofs.lemmas.List.Elements.{All-cons, All-head, All-nil, All-tail, All-weaker}
use Rattle.std.proofs.Math.Bool.{or-false}
use Rattle.icu_normalizer_core.specs.declared.builder.given.GivenCompatibility.{GivenCompatibility}
use Rattle.icu_normalizer_core.specs.CompatibilityMaps.{given_compatibility}
use Rattle.collate_lines.specs.declared.rule.Rule.TheVariants.{V14}
use Rattle.collate_lines.specs.Record.{Record, nothing, class, mapping, compatibility, weights, range, digit, setting}
use Rattle.collate_lines.specs.Repeats.{is_second, record_at}
use Rattle.collate_rules.specs.Meaning.{compatibility_in, first_found}
use Rattle.collate_rules.specs.Offenders.{NoneOffends}
use Rattle.collate_rules.proofs.lookups.FoundLemmas.{found_at}
use Rattle.collate_records.specs.Maps.{compatibilities_in, compatibility_pair}
use Rattle.collate_records.proofs.lookups.LookedUpKeyLemmas.{IsKind, distinct_to}
use Rattle.collate_records.proofs.maps.MapLineLemmas.{All-flat_map}

-- ---- What is found

-- what the first pair of a character maps it to
abbrev pub first_for : ℕ → List (ℕ × List ℕ) → Option (List ℕ)
first_for c pairs = first_found (λ p. cond (c == p.0) (Some p.1) None) pairs

abbrev either_found : Option (List ℕ) → Option (List ℕ) → Option (List ℕ)
either_found here later = elim here [ Some y ↦ Some y | None ↦ later ]

-- it is what a line says first
pub first_for-lines : (c : ℕ) (records : List Record) → first_for c (flat_map compatibilities_in records) ≡ first_found (compatibility_in c) records
first_for-lines c [] = refl
first_for-lines c (nothing ∷ rs) = first_for-lines c rs
first_for-lines c (class d k ∷ rs) = first_for-lines c rs
first_for-lines c (mapping d ds x ∷ rs) = first_for-lines c rs
first_for-lines c (compatibility d ds ∷ rs) = ap (λ (o : Option (List ℕ)). either_found (cond (c == d) (Some ds) None) o) (first_for-lines c rs)
first_for-lines c (weights l p t es ∷ rs) = first_for-lines c rs
first_for-lines c (range r ∷ rs) = first_for-lines c rs
first_for-lines c (digit d v ∷ rs) = first_for-lines c rs
first_for-lines c (setting s ∷ rs) = first_for-lines c rs

abbrev listed_among : Option GivenCompatibility → List ℕ
listed_among o = elim o [ Some g ↦ g.mapping.items | None ↦ [] ]

listed_by : (s t : Bool) (g : GivenCompatibility) (later : Option GivenCompatibility) (after : Option (List ℕ)) → s ≡ t → listed_among later ≡ unwrap_or after []
    → listed_among (cond s (Some g) later) ≡ unwrap_or (either_found (cond t (Some g.mapping.items) None) after) []
listed_by true true g later after e h = refl
listed_by false false g later after e h = h
listed_by true false g later after e h = absurd (cc)
listed_by false true g later after e h = absurd (cc)

-- the mapping that counts of those that are given is that of the first pair
pub given_for : (c : ℕ) (given : List GivenCompatibility) → given_compatibility given c ≡ unwrap_or (first_for c (map compatibility_pair given)) []
given_for c [] = refl
given_for c (g ∷ gs) =
    listed_by (eqb g.character c) (eqb c g.character) g (find (λ h. h.character == c) gs) (first_for c (map compatibility_pair gs)) (nat_eq_equiv.symm g.character c) (given_for c gs)

-- ---- All of them

-- what holds of what each item comes to holds of each item so
pub each_mapped : {A B : Type 0} (P : B → Type 0) (f : A → B) (xs : List A) → All P (map f xs) → All (λ x. P (f x)) xs
each_mapped P f [] h = All-nil (λ x. P (f x))
each_mapped P f (x ∷ xs) h =
    All-cons (λ y. P (f y)) x xs (All-head P (f x) (map f xs) h) (each_mapped P f xs (All-tail P (f x) (map f xs) h))

line_pairs : (P : ℕ × List ℕ → Type 0) (Q : Record → Type 0) → ((c : ℕ) (ds : List ℕ) → Q (compatibility c ds) → P (c, ds)) → (r : Record) → Q r → All P (compatibilities_in r)
line_pairs P Q one nothing q = All-nil P
line_pairs P Q one (class c k) q = All-nil P
line_pairs P Q one (mapping c ds x) q = All-nil P
line_pairs P Q one (compatibility c ds) q = All-cons P (c, ds) [] (one c ds q) (All-nil P)
line_pairs P Q one (weights l p t es) q = All-nil P
line_pairs P Q one (range s) q = All-nil P
line_pairs P Q one (digit c v) q = All-nil P
line_pairs P Q one (setting s) q = All-nil P

-- what holds of a compatibility mapping that a line gives holds of all
pub all_pairs : (P : ℕ × List ℕ → Type 0) (Q : Record → Type 0) → ((c : ℕ) (ds : List ℕ) → Q (compatibility c ds) → P (c, ds))
    → (records : List Record) → All Q records → All P (flat_map compatibilities_in records)
all_pairs P Q one records all =
    All-flat_map P compatibilities_in records (All-weaker Q (λ r. All P (compatibilities_in r)) (line_pairs P Q one) records all)

-- ---- One for each character

-- the character of a line that gives a compatibility mapping
abbrev compatibility_key : Record → List ℕ
compatibility_key (compatibility c ds) = c ∷ []
compatibility_key _ = []

compatibility_second : (c : ℕ) (cs : List ℕ) (t : Record) → list_any (λ d. eqb c d) (compatibility_key t) ≡ is_second t (compatibility c cs)
compatibility_second c cs nothing = refl
compatibility_second c cs (class d l) = refl
compatibility_second c cs (mapping d ds x) = refl
compatibility_second c cs (compatibility d ds) = or-false (eqb c d) ∙ nat_eq_equiv.symm c d
compatibility_second c cs (weights l p t es) = refl
compatibility_second c cs (range r) = refl
compatibility_second c cs (digit d v) = refl
compatibility_second c cs (setting s) = refl

compatibility_kind : IsKind compatibility_key
compatibility_kind nothing = inl refl
compatibility_kind (class c k) = inl refl
compatibility_kind (mapping c ds x) = inl refl
compatibility_kind (compatibility c ds) =
    inr (c, record { is = refl; second = compatibility_second c ds; names = λ q h. or_left (eqb q c) (list_any (λ d. eqb q d) ds) h })
compatibility_kind (weights l p t es) = inl refl
compatibility_kind (range r) = inl refl
compatibility_kind (digit d v) = inl refl
compatibility_kind (setting s) = inl refl

compatibility_keys : (records : List Record) → map (λ p. p.0) (flat_map compatibilities_in records) ≡ flat_map compatibility_key records
compatibility_keys [] = refl
compatibility_keys (nothing ∷ rs) = compatibility_keys rs
compatibility_keys (class d k ∷ rs) = compatibility_keys rs
compatibility_keys (mapping d ds x ∷ rs) = compatibility_keys rs
compatibility_keys (compatibility d ds ∷ rs) = ap (λ (cs : List ℕ). d ∷ cs) (compatibility_keys rs)
compatibility_keys (weights l p t es ∷ rs) = compatibility_keys rs
compatibility_keys (range r ∷ rs) = compatibility_keys rs
compatibility_keys (digit d v ∷ rs) = compatibility_keys rs
compatibility_keys (setting s ∷ rs) = compatibility_keys rs

-- a pair is the first of its character
abbrev IsFirstAmong : List (ℕ × List ℕ) → ℕ × List ℕ → Type 0
IsFirstAmong pairs p = first_for p.0 pairs ≡ Some p.1

turned : (a b : ℕ) → nat_eq a b ≡ false → (b == a) ≡ false
turned a b e = grind (arith, nat_tests)

first_along : (p : ℕ × List ℕ) (ps qs : List (ℕ × List ℕ)) → AllByRecursion (λ y. nat_eq p.0 y ≡ false) (map (λ q. q.0) qs) → All (IsFirstAmong ps) qs → All (IsFirstAmong (p ∷ ps)) qs
first_along p ps [] apart all = All-nil (IsFirstAmong (p ∷ ps))
first_along p ps (q ∷ qs) apart all =
    All-cons (IsFirstAmong (p ∷ ps)) q qs
    (ap (λ (o : Option (List ℕ)). either_found o (first_for q.0 ps)) (cond-false (q.0 == p.0) (Some p.1) None (turned p.0 q.0 apart.0)) ∙ All-head (IsFirstAmong ps) q qs all)
    (first_along p ps qs apart.1 (All-tail (IsFirstAmong ps) q qs all))

-- pairs of different characters are each the first of its own
each_first : (ps : List (ℕ × List ℕ)) → IsDistinct nat_eq (map (λ p. p.0) ps) → All (IsFirstAmong ps) ps
unfolding IsDistinct
each_first [] distinct = All-nil (IsFirstAmong [])
each_first (p ∷ ps) distinct =
    All-cons (IsFirstAmong (p ∷ ps)) p ps
    (ap (λ (o : Option (List ℕ)). either_found o (first_for p.0 ps)) (cond-true (p.0 == p.0) (Some p.1) None (eq-eqb p.0 p.0 refl)))
    (first_along p ps ps distinct.0 (each_first ps distinct.1))

-- where no line is for the same thing as an earlier one, each compatibility mapping that a line gives is found
pub each_found : (records : List Record) → NoneOffends V14 records → All (λ p. first_found (compatibility_in p.0) records ≡ Some p.1) (flat_map compatibilities_in records)
each_found records once =
    let distinct = distinct_to compatibility_key compatibility_kind records once (length records) (omega arith) in
    let keys : IsDistinct eqb (map (λ p. p.0) (flat_map compatibilities_in records)) =
    subst (IsDistinct eqb) (ap (flat_map compatibility_key) (take_all (length records) records (omega arith)) ∙ sym (compatibility_keys records)) distinct in
    All-weaker (IsFirstAmong (flat_map compatibilities_in records)) (λ p. first_found (compatibility_in p.0) records ≡ Some p.1)
    (λ p e. sym (first_for-lines p.0 records) ∙ e) (flat_map compatibilities_in records) (each_first (flat_map compatibilities_in records) keys)

-- ---- The line that gives one

compatibility_in-some : (c : ℕ) (ds : List ℕ) (s : Record) → compatibility_in c s ≡ Some ds → s ≡ compatibility c ds
compatibility_in-some c ds nothing e = absurd (none-some ds e)
compatibility_in-some c ds (class d l) e = absurd (none-some ds e)
compatibility_in-some c ds (mapping d es x) e = absurd (none-some ds e)
compatibility_in-some c ds (compatibility d es) e = let w = cond_some (c == d) es ds e in let same : c ≡ d = eqb-true c d w.0 in let equal : es ≡ ds = w.1 in cc
compatibility_in-some c ds (weights l p t es) e = absurd (none-some ds e)
compatibility_in-some c ds (range r) e = absurd (none-some ds e)
compatibility_in-some c ds (digit d v) e = absurd (none-some ds e)
compatibility_in-some c ds (setting s) e = absurd (none-some ds e)

pub compatibility_line : (records : List Record) (c : ℕ) (ds : List ℕ) → first_found (compatibility_in c) records ≡ Some ds
    → (i : ℕ) × (i < length records) × (record_at records i ≡ compatibility c ds)
compatibility_line records c ds e =
    let w = found_at (compatibility_in c) records ds e in (w.0, w.1, compatibility_in-some c ds (record_at records w.0) w.2)
