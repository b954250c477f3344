-- Lines of one kind: each is for a character of its own, which it names.
use Rattle.std.proofs.Common.{◌≡◌, ℕ, zero, suc, ◌+◌, ◌<◌, ◌≤◌, ◌⊎◌, inl, inr, ⊎_elim, Bool, true, false, cond, ◌||◌, eqb, List, [], ◌∷◌, ◌++◌, length, take, Option, Some, None, refl, sym, ap, ◌∙◌, subst, arith, append-nil}
use Rattle.std.specs.Prelude.{flat_map}
use Rattle.std.specs.Cmp.{nat_eq_equiv}
use Rattle.std.specs.List.{list_any, IsDistinct}
use Rattle.std.specs.Set.{is_member, unique_keys}
use Rattle.std.proofs.lemmas.Bool.{eqb-true, false≢true, or_cases, or_parts, or_left, or_right, false_from_ne_true}
use Rattle.std.proofs.lemmas.Grind.{flat_map-append}
use Rattle.std.proofs.lemmas.List.{take_more}
use Rattle.std.proofs.lemmas.List.Folds.{list_any-append}
use Rattle.std.proofs.lemmas.Map.Keys.{IsDistinct-push}
use Rattle.std.proofs.lemmas.Option.{unwrap_or-slice_get}
use Rattle.std.proofs.Math.Bool.{or-false}
use Rattle.collate_lines.specs.declared.rule.Rule.TheVariants.{V14}
use Rattle.collate_lines.specs.Record.{Record, nothing, class, mapping, compatibility, weights, range, digit, setting}
use Rattle.collate_rules.specs.Meaning.{first_found, mapping_in}
use Rattle.collate_lines.specs.Repeats.{record_at, is_second, Repeats}
use Rattle.collate_rules.specs.Rules.{named, different}
use Rattle.collate_rules.specs.Offenders.{NoneOffends}
use Rattle.collate_lines.specs.Keys.{class_key, mapping_key}

-- a line is for one character, which it names, as others of its kind are for theirs
pub record IsKeyOf (key : Record → List ℕ) (s : Record) (c : ℕ) : Type 0 where
  pub is : key s ≡ c ∷ []
  pub second : (t : Record) → list_any (λ d. eqb c d) (key t) ≡ is_second t s
  pub names : (q : ℕ) → eqb q c ≡ true → list_any (λ d. eqb q d) (named s) ≡ true

-- a kind of lines: those that are for one character each
abbrev pub IsKind : (Record → List ℕ) → Type 0
IsKind key = (s : Record) → (key s ≡ []) ⊎ ((c : ℕ) × IsKeyOf key s c)

turned : (c d : ℕ) → (eqb c d || false) ≡ eqb d c
turned c d = or-false (eqb c d) ∙ nat_eq_equiv.symm c d

class_second : (c k : ℕ) (t : Record) → list_any (λ d. eqb c d) (class_key t) ≡ is_second t (class c k)
class_second c k nothing = refl
class_second c k (class d l) = turned c d
class_second c k (mapping d ds x) = refl
class_second c k (compatibility d ds) = refl
class_second c k (weights l p t es) = refl
class_second c k (range r) = refl
class_second c k (digit d v) = refl
class_second c k (setting s) = refl

pub class_kind : IsKind class_key
class_kind nothing = inl refl
class_kind (class c k) = inr (c, record { is = refl; second = class_second c k; names = λ q h. or_left (eqb q c) false h })
class_kind (mapping c ds x) = inl refl
class_kind (compatibility d ds) = inl refl
class_kind (weights l p t es) = inl refl
class_kind (range r) = inl refl
class_kind (digit d v) = inl refl
class_kind (setting s) = inl refl

mapping_second : (c : ℕ) (cs : List ℕ) (x : Bool) (t : Record) → list_any (λ d. eqb c d) (mapping_key t) ≡ is_second t (mapping c cs x)
mapping_second c cs x nothing = refl
mapping_second c cs x (class d l) = refl
mapping_second c cs x (mapping d ds y) = turned c d
mapping_second c cs x (compatibility d ds) = refl
mapping_second c cs x (weights l p t es) = refl
mapping_second c cs x (range r) = refl
mapping_second c cs x (digit d v) = refl
mapping_second c cs x (setting s) = refl

pub mapping_kind : IsKind mapping_key
mapping_kind nothing = inl refl
mapping_kind (class c k) = inl refl
mapping_kind (mapping c ds x) = inr (c, record { is = refl; second = mapping_second c ds x; names = λ q h. or_left (eqb q c) (list_any (λ d. eqb q d) ds) h })
mapping_kind (compatibility d ds) = inl refl
mapping_kind (weights l p t es) = inl refl
mapping_kind (range r) = inl refl
mapping_kind (digit d v) = inl refl
mapping_kind (setting s) = inl refl

-- how many different numbers stand in a list
picked : (b : Bool) (n c : ℕ) (cs : List ℕ) → n ≡ length cs → cond b n (1 + n) ≡ length (cond b cs (c ∷ cs))
picked true n c cs e = e
picked false n c cs e = omega arith

pub different-unique : (xs : List ℕ) → different xs ≡ length (unique_keys eqb xs)
unfolding different
different-unique [] = refl
different-unique (x ∷ xs) = picked (list_any (λ d. eqb x d) xs) (different xs) x (unique_keys eqb xs) (different-unique xs)

-- each of them is kept
pub is_member-unique : (q : ℕ) (xs : List ℕ) → is_member eqb (unique_keys eqb xs) q ≡ is_member eqb xs q
is_member-unique q [] = refl
is_member-unique q (x ∷ xs) = by (is_member eqb xs x) refl (is_member-unique q xs)
  where
    kept : (t : Bool) → eqb q x ≡ t → is_member eqb xs x ≡ true → is_member eqb xs q ≡ (t || is_member eqb xs q)
    kept true same is = subst (λ (n : ℕ). is_member eqb xs n ≡ true) (sym (eqb-true q x same)) is
    kept false same is = refl

    by : (b : Bool) → is_member eqb xs x ≡ b → is_member eqb (unique_keys eqb xs) q ≡ is_member eqb xs q
        → is_member eqb (cond b (unique_keys eqb xs) (x ∷ unique_keys eqb xs)) q ≡ (eqb q x || is_member eqb xs q)
    by true e r = r ∙ kept (eqb q x) refl e
    by false e r = ap (λ (t : Bool). eqb q x || t) r

module _ (key : Record → List ℕ) (kind : IsKind key) where
  -- whether a line of the kind is for a character that an earlier one is for
  any_key : (s : Record) (c : ℕ) → IsKeyOf key s c → (xs : List Record) → list_any (λ d. eqb c d) (flat_map key xs) ≡ list_any (λ t. is_second t s) xs
  any_key s c is_key [] = refl
  any_key s c is_key (x ∷ xs) =
      list_any-append (λ d. eqb c d) (key x) (flat_map key xs)
      ∙ ap (λ (b : Bool). b || list_any (λ d. eqb c d) (flat_map key xs)) (is_key.second x)
      ∙ ap (λ (b : Bool). is_second x s || b) (any_key s c is_key xs)

  -- the characters of the lines up to line i
  keys_to : (records : List Record) (i : ℕ) → i < length records → flat_map key (take (i + 1) records) ≡ flat_map key (take i records) ++ key (record_at records i)
  keys_to records i h =
      ap (λ (ss : List Record). flat_map key ss) (take_more records i nothing h ∙ ap (λ (s : Record). take i records ++ s ∷ []) (sym (unwrap_or-slice_get records i nothing)))
      ∙ flat_map-append key (take i records) (record_at records i ∷ [])
      ∙ ap (λ (cs : List ℕ). flat_map key (take i records) ++ cs) (append-nil (key (record_at records i)))

  distinct_more : (records : List Record) (i : ℕ) → i < length records → (Repeats records i → ⊥)
      → IsDistinct eqb (flat_map key (take i records)) → IsDistinct eqb (flat_map key (take (i + 1) records))
  distinct_more records i h fresh distinct =
      let before = flat_map key (take i records) in
      subst (IsDistinct eqb) (sym (keys_to records i h)) (⊎_elim
      (λ none. subst (λ (cs : List ℕ). IsDistinct eqb (before ++ cs)) (sym none) (subst (IsDistinct eqb) (sym (append-nil before)) distinct))
      (λ w. subst (λ (cs : List ℕ). IsDistinct eqb (before ++ cs)) (sym w.1.is)
      (IsDistinct-push nat_eq_equiv before w.0 distinct (any_key (record_at records i) w.0 w.1 (take i records) ∙ false_from_ne_true _ fresh)))
      (kind (record_at records i)))

  pub distinct_to : (records : List Record) → NoneOffends V14 records → (i : ℕ) → i ≤ length records → IsDistinct eqb (flat_map key (take i records))
  unfolding IsDistinct
  distinct_to records once zero h = tt
  distinct_to records once (suc i) h =
      let before : i < length records = omega arith in
      let more = distinct_more records i before (once i before) (distinct_to records once i (omega arith)) in
      let same : i + 1 ≡ suc i = omega arith in
      subst (λ (n : ℕ). IsDistinct eqb (flat_map key (take n records))) same more

  -- a character that a line of the kind is for is named
  names : (s : Record) (q : ℕ) → list_any (λ d. eqb q d) (key s) ≡ true → list_any (λ d. eqb q d) (named s) ≡ true
  names s q h =
      ⊎_elim
      (λ none. absurd (false≢true (sym (ap (list_any (λ d. eqb q d)) none) ∙ h)))
      (λ w. w.1.names q (sym (or-false (eqb q w.0)) ∙ sym (ap (list_any (λ d. eqb q d)) w.1.is) ∙ h))
      (kind s)

  pub key_named : (q : ℕ) (xs : List Record) → list_any (λ d. eqb q d) (flat_map key xs) ≡ true → list_any (λ d. eqb q d) (flat_map named xs) ≡ true
  key_named q [] h = h
  key_named q (x ∷ xs) h =
      list_any-append (λ d. eqb q d) (named x) (flat_map named xs)
      ∙ ⊎_elim
      (λ here. or_left _ _ (names x q here))
      (λ later. or_right (list_any (λ d. eqb q d) (named x)) _ (key_named q xs later))
      (or_cases _ _ (sym (list_any-append (λ d. eqb q d) (key x) (flat_map key xs)) ∙ h))

turned_false : (d c : ℕ) → eqb d c ≡ false → eqb c d ≡ false
turned_false d c h = nat_eq_equiv.symm c d ∙ h

abbrev either_found : {B : Type 0} → Option B → Option B → Option B
either_found here later = elim here [ Some y ↦ Some y | None ↦ later ]

passed : {B : Type 0} (b : Bool) (here later : Option B) → b ≡ false → later ≡ None → either_found (cond b here None) later ≡ None
passed true here later e h = absurd (false≢true (sym e))
passed false here later e h = h

-- where no line is for the same thing, none gives the character a mapping
pub mapping-absent : (c : ℕ) (cs : List ℕ) (x : Bool) (xs : List Record) → list_any (λ t. is_second t (mapping c cs x)) xs ≡ false → first_found (mapping_in c) xs ≡ None
mapping-absent c cs x [] h = refl
mapping-absent c cs x (nothing ∷ xs) h = mapping-absent c cs x xs h
mapping-absent c cs x (class d l ∷ xs) h = mapping-absent c cs x xs h
mapping-absent c cs x (mapping d ds y ∷ xs) h = let w = or_parts (eqb d c) _ h in passed (eqb c d) (Some ds) _ (turned_false d c w.0) (mapping-absent c cs x xs w.1)
mapping-absent c cs x (compatibility d ds ∷ xs) h = mapping-absent c cs x xs h
mapping-absent c cs x (weights l p t es ∷ xs) h = mapping-absent c cs x xs h
mapping-absent c cs x (range r ∷ xs) h = mapping-absent c cs x xs h
mapping-absent c cs x (digit d v ∷ xs) h = mapping-absent c cs x xs h
mapping-absent c cs x (setting s ∷ xs) h = mapping-absent c cs x xs h
