-- The units of the characters that a key spells are the key, if its units have 16 bits.
use Rattle.std.proofs.Common.{◌≡◌, ℕ, ◌<◌, ◌≤◌, ◌⊎◌, inl, inr, ⊎_elim, Bool, true, false, cond, List, [], ◌∷◌, ◌++◌, Option, Some, None, refl, ap, sym, ◌∙◌, subst, arith}
use Rattle.std.specs.Prelude.{◌&&◌, flat_map, leb, ltb}
use Rattle.std.specs.List.{list_all}
use Rattle.std.specs.Option.{option_map}
use Rattle.std.proofs.lemmas.Bool.{and_from, and_parts, cases_lt, false≢true, le-leb, le-ltb, leb-true, lt-ltb}
use Rattle.std.proofs.lemmas.List.Folds.{list_all-append}
use Rattle.std.proofs.lemmas.Option.{none-some, same_Some}
use lib.Utf8.{low_scalar, scalar, scalars}
use Rattle.icu_char16trie.specs.Cursors.{units_of}
use Rattle.icu_normalizer_core.specs.BuiltIn.{is_within}
use Rattle.icu_normalizer_core.proofs.decoded.ScalarLemmas.{scalar_below}
use Rattle.icu_collator_core.specs.ContextRules.{characters_of_units, is_lower_half, is_upper_half, joined_halves}
use Rattle.icu_collator_core.proofs.meaning.ContextTextLemmas.{lower, one_unit, two_halves, upper}

-- ---- Units

abbrev pub is_small : ℕ → Bool
is_small unit = leb unit 0xffff

-- two halves are the units of what they join to
halves_of : (unit next : ℕ) → is_upper_half unit ≡ true → is_lower_half next ≡ true → units_of (joined_halves unit next) ≡ unit ∷ next ∷ []
halves_of unit next first second =
    let low = and_parts (leb 0xd800 unit) (leb unit 0xdbff) first in
    let high = and_parts (leb 0xdc00 next) (leb next 0xdfff) second in
    let a = leb-true 0xd800 unit low.0 in
    let b = leb-true unit 0xdbff low.1 in
    let c = leb-true 0xdc00 next high.0 in
    let d = leb-true next 0xdfff high.1 in
    let front : upper (joined_halves unit next) ≡ unit = omega (arith, a, b, c, d) in
    let behind : lower (joined_halves unit next) ≡ next = omega (arith, a, b, c, d) in
    two_halves (joined_halves unit next) (omega (arith, a, c))
    ∙ ap (λ (u : ℕ). u ∷ lower (joined_halves unit next) ∷ []) front ∙ ap (λ (u : ℕ). unit ∷ u ∷ []) behind

high_scalar : (c : ℕ) → 0xe000 ≤ c → c < 0x110000 → scalar c ≡ true
high_scalar c more less =
    ap (λ (b : Bool). cond b true (leb 57344 c && ltb c 1114112)) (le-ltb c 55296 (omega (arith, more)))
    ∙ and_from (leb 57344 c) (ltb c 1114112) (le-leb 57344 c more) (lt-ltb c 1114112 less)

-- what two halves join to is a character
joined_scalar : (unit next : ℕ) → is_upper_half unit ≡ true → is_lower_half next ≡ true → scalar (joined_halves unit next) ≡ true
joined_scalar unit next first second =
    let low = and_parts (leb 0xd800 unit) (leb unit 0xdbff) first in
    let high = and_parts (leb 0xdc00 next) (leb next 0xdfff) second in
    let a = leb-true 0xd800 unit low.0 in
    let b = leb-true unit 0xdbff low.1 in
    let c = leb-true 0xdc00 next high.0 in
    let d = leb-true next 0xdfff high.1 in
    high_scalar (joined_halves unit next) (omega (arith, a, c)) (omega (arith, a, b, c, d))

-- a unit that is no half is one
single_scalar : (unit : ℕ) → is_small unit ≡ true → is_within 0xd800 0xdfff unit ≡ false → scalar unit ≡ true
single_scalar unit small whole =
    let few = leb-true unit 0xffff small in
    ⊎_elim
    (λ (below : unit < 0xd800). low_scalar unit below)
    (λ (from : 0xd800 ≤ unit). ⊎_elim
    (λ (above : 0xdfff < unit). high_scalar unit (omega (arith, above)) (omega (arith, few)))
    (λ (upto : unit ≤ 0xdfff). absurd (false≢true (sym whole ∙ and_from (leb 0xd800 unit) (leb unit 0xdfff) (le-leb 0xd800 unit from) (le-leb unit 0xdfff upto))))
    (cases_lt 0xdfff unit))
    (cases_lt unit 0xd800)

-- a branch that gives something, with what it was taken for
parted : (b d : Bool) (x y : Option (List ℕ)) (cs : List ℕ) → cond b (cond d x None) y ≡ Some cs
    → ((d ≡ true) × (x ≡ Some cs)) ⊎ ((b ≡ false) × (y ≡ Some cs))
parted true true x y cs e = inl (refl, e)
parted true false x y cs e = absurd (none-some cs e)
parted false d x y cs e = inr (refl, e)

-- characters, and their units
abbrev Spells : List ℕ → List ℕ → Type 0
Spells units cs = (flat_map units_of cs ≡ units) × (scalars cs ≡ true)

-- one character more, of these units
one_more : (c : ℕ) (units rest : List ℕ) (spelled : Option (List ℕ)) (cs : List ℕ) → units_of c ≡ units → scalar c ≡ true
    → option_map (λ xs. c ∷ xs) spelled ≡ Some cs → ((xs : List ℕ) → spelled ≡ Some xs → Spells rest xs) → Spells (units ++ rest) cs
one_more c units rest None cs own s e back = absurd (none-some cs e)
one_more c units rest (Some xs) cs own s e back =
    let w = back xs refl in
    subst (λ ys. Spells (units ++ rest) ys) (same_Some (c ∷ xs) cs e)
    (ap (λ (us : List ℕ). us ++ flat_map units_of xs) own ∙ ap (λ (us : List ℕ). units ++ us) w.0, and_from (scalar c) (scalars xs) s w.1)

one_back : (unit : ℕ) (rest : List ℕ) (spelled : Option (List ℕ)) (cs : List ℕ) → is_small unit ≡ true → is_within 0xd800 0xdfff unit ≡ false
    → option_map (λ xs. unit ∷ xs) spelled ≡ Some cs → ((xs : List ℕ) → spelled ≡ Some xs → Spells rest xs) → Spells (unit ∷ rest) cs
one_back unit rest spelled cs small whole e back =
    let few = leb-true unit 0xffff small in
    one_more unit (unit ∷ []) rest spelled cs (one_unit unit (omega (arith, few))) (single_scalar unit small whole) e back

pub key_back : (key cs : List ℕ) → list_all is_small key ≡ true → characters_of_units key ≡ Some cs → Spells key cs
unfolding characters_of_units
key_back [] cs small e = subst (λ ys. Spells [] ys) (same_Some [] cs e) (refl, refl)
key_back (unit ∷ []) cs small e =
    ⊎_elim
    (λ (no : (false ≡ true) × (None ≡ Some cs)). absurd (none-some cs no.1))
    (λ (one : (is_within 0xd800 0xdfff unit ≡ false) × (Some (unit ∷ []) ≡ Some cs)).
    one_back unit [] (Some []) cs (and_parts (is_small unit) true small).0 one.0 one.1
    (λ xs same. subst (λ ys. Spells [] ys) (same_Some [] xs same) (refl, refl)))
    (parted (is_within 0xd800 0xdfff unit) false None (Some (unit ∷ [])) cs e)
key_back (unit ∷ next ∷ rest) cs small e =
    let joined = option_map (λ xs. joined_halves unit next ∷ xs) (characters_of_units rest) in
    let single = option_map (λ xs. unit ∷ xs) (characters_of_units (next ∷ rest)) in
    let here = and_parts (is_small unit) (list_all is_small (next ∷ rest)) small in
    let later = and_parts (is_small next) (list_all is_small rest) here.1 in
    ⊎_elim
    (λ (two : ((is_upper_half unit && is_lower_half next) ≡ true) × (joined ≡ Some cs)).
    let both = and_parts (is_upper_half unit) (is_lower_half next) two.0 in
    one_more (joined_halves unit next) (unit ∷ next ∷ []) rest (characters_of_units rest) cs (halves_of unit next both.0 both.1)
    (joined_scalar unit next both.0 both.1) two.1 (λ xs same. key_back rest xs later.1 same))
    (λ (one : (is_within 0xd800 0xdfff unit ≡ false) × (single ≡ Some cs)).
    one_back unit (next ∷ rest) (characters_of_units (next ∷ rest)) cs here.0 one.0 one.1 (λ xs same. key_back (next ∷ rest) xs here.1 same))
    (parted (is_within 0xd800 0xdfff unit) (is_upper_half unit && is_lower_half next) joined single cs e)

-- ---- The units of characters have 16 bits

units_small : (c : ℕ) → scalar c ≡ true → list_all is_small (units_of c) ≡ true
units_small c s =
    let bound = scalar_below c s in
    ⊎_elim
    (λ (less : c < 0x10000). ap (list_all is_small) (one_unit c less) ∙ and_from (is_small c) true (le-leb c 0xffff (omega (arith, less))) refl)
    (λ (more : 0x10000 ≤ c).
    ap (list_all is_small) (two_halves c more)
    ∙ and_from (is_small (upper c)) (is_small (lower c) && true) (le-leb (upper c) 0xffff (omega (arith, more, bound)))
    (and_from (is_small (lower c)) true (le-leb (lower c) 0xffff (omega arith)) refl))
    (cases_lt c 0x10000)

pub text_small : (cs : List ℕ) → scalars cs ≡ true → list_all is_small (flat_map units_of cs) ≡ true
text_small [] s = refl
text_small (c ∷ cs) s =
    let both = and_parts (scalar c) (scalars cs) s in
    list_all-append is_small (units_of c) (flat_map units_of cs)
    ∙ and_from (list_all is_small (units_of c)) (list_all is_small (flat_map units_of cs)) (units_small c both.0) (text_small cs both.1)
