-- What lines set: nothing more by a line that sets nothing.
use Rattle.std.proofs.Common.{◌≡◌, ℕ, ◌+◌, ◌<◌, Bool, true, false, ◌&&◌, ◌||◌, ◌==◌, List, [], ◌∷◌, ◌++◌, length, get_or, map, take, Option, None, refl, sym, ◌∙◌, ap, subst, arith, below_more}
use Rattle.std.specs.Prelude.{replicate, unwrap_or}
use Rattle.std.specs.Bool.{IsTrue}
use Rattle.std.specs.List.{list_any}
use Rattle.std.proofs.lemmas.Bool.{eqb-true, false≢true}
use Rattle.std.proofs.lemmas.List.{length-map, map_more, take-map}
use Rattle.icu_collator_core.specs.SettingRules.{is_amid_numbers}
use Rattle.collate_lines.specs.declared.record.Record.{Record as Line}
use Rattle.collate_lines.specs.Record.{Record, nothing, class, mapping, compatibility, weights, range, digit, setting, said}
use Rattle.collate_rules.specs.Meaning.{compress_in, groups_in, numeric_in, reorder_in, set_to}
use Rattle.collate_rules.specs.SettingLines.{are_bad_settings, breaks_settings, compress_of, groups_of, is_setting, numeric_of, reorder_of}
use Rattle.collate_rules.proofs.lookups.RuleLookupLemmas.{first_found-skip}

-- what a line sets, of what the rule looks at
record SetsNothing (line : Record) : Type 0 where
  pub numeric : numeric_in line ≡ None
  pub groups : groups_in line ≡ None
  pub compress : compress_in line ≡ None
  pub reorder : reorder_in line ≡ None

sets_nothing : (line : Record) → is_setting line ≡ false → SetsNothing line
sets_nothing nothing h = record { numeric = refl; groups = refl; compress = refl; reorder = refl }
sets_nothing (class c k) h = record { numeric = refl; groups = refl; compress = refl; reorder = refl }
sets_nothing (mapping c ds x) h = record { numeric = refl; groups = refl; compress = refl; reorder = refl }
sets_nothing (compatibility c ds) h = record { numeric = refl; groups = refl; compress = refl; reorder = refl }
sets_nothing (weights l p t es) h = record { numeric = refl; groups = refl; compress = refl; reorder = refl }
sets_nothing (range r) h = record { numeric = refl; groups = refl; compress = refl; reorder = refl }
sets_nothing (digit c v) h = record { numeric = refl; groups = refl; compress = refl; reorder = refl }
sets_nothing (setting s) h = absurd (false≢true (sym h))

set_past : {A : Type 0} (found : Record → Option A) (default : A) (lines : List Record) (line : Record) → found line ≡ None
    → set_to found default (lines ++ line ∷ []) ≡ set_to found default lines
set_past {A} found default lines line none = ap (λ (o : Option A). unwrap_or o default) (first_found-skip found lines line none)

settings_past : (counted : ℕ) (lines : List Record) (line : Record) → is_setting line ≡ false → breaks_settings counted (lines ++ line ∷ []) ≡ breaks_settings counted lines
settings_past counted lines line h =
    let sets = sets_nothing line h in
    let more = lines ++ line ∷ [] in
    ap (λ (n : ℕ). are_bad_settings counted n (groups_of more) (compress_of more) (reorder_of more)) (set_past numeric_in 0x10 lines line sets.numeric)
    ∙ ap (λ (gs : List ℕ). are_bad_settings counted (numeric_of lines) gs (compress_of more) (reorder_of more)) (set_past groups_in (replicate 4 0x300) lines line sets.groups)
    ∙ ap (λ (ls : List ℕ). are_bad_settings counted (numeric_of lines) (groups_of lines) ls (reorder_of more)) (set_past compress_in [] lines line sets.compress)
    ∙ ap (λ (ps : List (ℕ × ℕ)). are_bad_settings counted (numeric_of lines) (groups_of lines) (compress_of lines) ps) (set_past reorder_in [] lines line sets.reorder)

-- the defaults keep the rule
pub none_set : (counted : ℕ) → breaks_settings counted [] ≡ false
none_set counted = by (0x10 == counted) refl
  where
    by : (b : Bool) → (0x10 == counted) ≡ b → breaks_settings counted [] ≡ false
    by true e = let same : 0x10 ≡ counted = eqb-true 0x10 counted e in subst (λ (n : ℕ). breaks_settings n [] ≡ false) same refl
    by false e = ap (λ (b : Bool). (b && list_any (is_amid_numbers counted) (replicate 4 0x300)) || false || false) e

-- ---- Line by line

-- the lines up to line i, with line i read as x
up_to : (lines : List Line) (i : ℕ) (x : Line) → i < length lines → x ≡ get_or lines i x
    → take (i + 1) (map said lines) ≡ take i (map said lines) ++ said x ∷ []
up_to lines i x within read =
    take-map said (i + 1) lines ∙ map_more said lines i x within
    ∙ ap (λ (y : Line). map said (take i lines) ++ said y ∷ []) (sym read)
    ∙ ap (λ (ss : List Record). ss ++ said x ∷ []) (sym (take-map said i lines))

-- no line up to line i breaks the rule
pub record IsKept (counted : ℕ) (lines : List Line) (i : ℕ) : Type 0 where
  pub before : (k : ℕ) → k < i → breaks_settings counted (take (k + 1) (map said lines)) ≡ true → ⊥
  pub now : breaks_settings counted (take i (map said lines)) ≡ false

kept_more : (counted : ℕ) (lines : List Line) (i : ℕ) → IsKept counted lines i → breaks_settings counted (take (i + 1) (map said lines)) ≡ false → IsKept counted lines (i + 1)
kept_more counted lines i kept unset = record {
  before = below_more (λ k. breaks_settings counted (take (k + 1) (map said lines)) ≡ true → ⊥) i kept.before (λ h. false≢true (sym unset ∙ h));
  now = unset;
}

pub kept_past : (counted : ℕ) (lines : List Line) (i : ℕ) (x : Line) → i < length lines → x ≡ get_or lines i x → is_setting (said x) ≡ false
    → IsKept counted lines i → IsKept counted lines (i + 1)
kept_past counted lines i x within read none kept =
    kept_more counted lines i kept
    (ap (breaks_settings counted) (up_to lines i x within read) ∙ settings_past counted (take i (map said lines)) (said x) none ∙ kept.now)

tested : (counted : ℕ) (lines part : List Line) (i : ℕ) (b : Bool) → b ≡ breaks_settings counted (map said part) → part ≡ take (i + 1) lines
    → b ≡ breaks_settings counted (take (i + 1) (map said lines))
tested counted lines part i b told is =
    told ∙ ap (λ (ls : List Line). breaks_settings counted (map said ls)) is ∙ ap (breaks_settings counted) (sym (take-map said (i + 1) lines))

pub kept_tested : (counted : ℕ) (lines part : List Line) (i : ℕ) (b : Bool) → b ≡ breaks_settings counted (map said part) → part ≡ take (i + 1) lines
    → b ≡ false → IsKept counted lines i → IsKept counted lines (i + 1)
kept_tested counted lines part i b told is unset kept = kept_more counted lines i kept (sym (tested counted lines part i b told is) ∙ unset)

-- the first line with which the rule is broken
IsFirst : ℕ → List Line → ℕ → Type 0
IsFirst counted lines i =
    (i < length (map said lines)) × IsTrue (breaks_settings counted (take (i + 1) (map said lines)))
    × ((j : ℕ) → j < i → IsTrue (breaks_settings counted (take (j + 1) (map said lines))) → ⊥)

pub first_broken : (counted : ℕ) (lines part : List Line) (i : ℕ) (b : Bool) → counted ≡ numeric_of (map said lines) → i < length lines
    → b ≡ breaks_settings counted (map said part) → part ≡ take (i + 1) lines → b ≡ true → IsKept counted lines i
    → (i < length (map said lines)) × IsTrue (breaks_settings (numeric_of (map said lines)) (take (i + 1) (map said lines)))
    × ((j : ℕ) → j < i → IsTrue (breaks_settings (numeric_of (map said lines)) (take (j + 1) (map said lines))) → ⊥)
unfolding IsFirst
first_broken counted lines part i b same within told is set kept =
    subst (λ (n : ℕ). IsFirst n lines i) same
    (omega (arith, length-map lines said, within), sym (tested counted lines part i b told is) ∙ set, kept.before)
