-- What stands beside a character, and keys: with each there is the other, and a key spells one text.
use Rattle.std.proofs.Common.{◌≡◌, ⊎_elim, ℕ, ◌*◌, ◌<◌, ◌≤◌, Bool, true, false, cond, not, List, [], ◌∷◌, length, map, reverse, Some, refl, ap, sym, subst, ◌∙◌, arith}
use Rattle.std.specs.Prelude.{flat_map, All}
use Rattle.std.specs.Char.{IsScalar}
use Rattle.std.specs.List.{AllZip, Contains, find, list_all}
use Rattle.std.specs.Str.{bytes_eq}
use Rattle.std.proofs.lemmas.Bool.{and_from, and_parts, not-true}
use Rattle.std.proofs.lemmas.List.{reverse-reverse, length-reverse}
use Rattle.std.proofs.lemmas.List.Elements.{All-head, All-tail}
use Rattle.std.proofs.lemmas.List.Sorted.{All-permutation, IsPermutation-reverse}
use Rattle.std.proofs.lemmas.Option.{none-some, same_Some}
use Rattle.std.proofs.lemmas.Slice.Eq.{bytes_eq-Decides}
use lib.Utf8.{scalar, scalars}
use Rattle.icu_char16trie.specs.Cursors.{units_of}
use Rattle.icu_collator_core.specs.ContextRules.{characters_of_units}
use Rattle.icu_collator_core.proofs.apart.GrowthLemmas.{first_in, first_or_later, later_in, none_in}
use Rattle.icu_collator_core.proofs.meaning.ContextTextLemmas.{units_spell}
use Rattle.icu_collator_core.proofs.meaning.KeyValueLemmas.{units_few}
use Rattle.collate_words.specs.ContextKeys.{key_text}
use Rattle.collate_words.specs.Fits.{are_different}
use Rattle.collate_words.specs.Sayings.{SaidBeside, texts_beside}

-- ---- Two lists side by side

pub zip_back : {A B : Type 0} (R : A → B → Type 0) (xs : List A) (ys : List B) (y : B) → AllZip R xs ys → Contains ys y
    → (x : A) × Contains xs x × R x y
zip_back R [] [] y all has = absurd (none_in y has)
zip_back R [] (z ∷ ys) y all has = absurd all
zip_back R (x ∷ xs) [] y all has = absurd all
zip_back R (x ∷ xs) (z ∷ ys) y all has =
    ⊎_elim
    (λ (same : z ≡ y). (x, first_in x xs, subst (λ w. R x w) same all.0))
    (λ (later : Contains ys y). let w = zip_back R xs ys y all.1 later in (w.0, later_in x w.0 xs w.1, w.2))
    (first_or_later z y ys has)

pub zip_forth : {A B : Type 0} (R : A → B → Type 0) (xs : List A) (ys : List B) (x : A) → AllZip R xs ys → Contains xs x
    → (y : B) × Contains ys y × R x y
zip_forth R [] [] x all has = absurd (none_in x has)
zip_forth R [] (y ∷ ys) x all has = absurd all
zip_forth R (z ∷ xs) [] x all has = absurd all
zip_forth R (z ∷ xs) (y ∷ ys) x all has =
    ⊎_elim
    (λ (same : z ≡ x). (y, first_in y ys, subst (λ w. R w y) same all.0))
    (λ (later : Contains xs x). let w = zip_forth R xs ys x all.1 later in (w.0, later_in y w.0 ys w.1, w.2))
    (first_or_later z x xs has)

pub zip_weaker : {A B : Type 0} (R S : A → B → Type 0) → ((x : A) (y : B) → R x y → S x y) → (xs : List A) (ys : List B)
    → AllZip R xs ys → AllZip S xs ys
zip_weaker R S weaker [] [] all = all
zip_weaker R S weaker [] (y ∷ ys) all = absurd all
zip_weaker R S weaker (x ∷ xs) [] all = absurd all
zip_weaker R S weaker (x ∷ xs) (y ∷ ys) all = (weaker x y all.0, zip_weaker R S weaker xs ys all.1)

-- ---- Items of mapped lists

pub in_map : {A B : Type 0} (f : A → B) (xs : List A) (x : A) → Contains xs x → Contains (map f xs) (f x)
in_map f [] x has = absurd (none_in x has)
in_map f (y ∷ ys) x has =
    ⊎_elim
    (λ (same : y ≡ x). subst (λ z. Contains (map f (y ∷ ys)) (f z)) same (first_in (f y) (map f ys)))
    (λ (later : Contains ys x). later_in (f y) (f x) (map f ys) (in_map f ys x later))
    (first_or_later y x ys has)

pub of_map : {A B : Type 0} (f : A → B) (xs : List A) (b : B) → Contains (map f xs) b → (x : A) × Contains xs x
    × (f x ≡ b)
of_map f [] b has = absurd (none_in b has)
of_map f (y ∷ ys) b has =
    ⊎_elim
    (λ (same : f y ≡ b). (y, first_in y ys, same))
    (λ (later : Contains (map f ys) b). let w = of_map f ys b later in (w.0, later_in y w.0 ys w.1, w.2))
    (first_or_later (f y) b (map f ys) has)

all_pass : {A B : Type 0} (p : B → Bool) (f : A → B) (xs : List A) (x : A) → list_all p (map f xs) ≡ true
    → Contains xs x → p (f x) ≡ true
all_pass p f [] x h has = absurd (none_in x has)
all_pass p f (y ∷ ys) x h has =
    let both = and_parts (p (f y)) (list_all p (map f ys)) h in
    ⊎_elim
    (λ (same : y ≡ x). ap (λ z. p (f z)) (sym same) ∙ both.0)
    (λ (later : Contains ys x). all_pass p f ys x both.1 later)
    (first_or_later y x ys has)

-- ---- The first that passes a test

found_step : {A : Type 0} (p : A → Bool) (y x : A) (ys : List A) (b : Bool) → p y ≡ b → cond b (Some y) (find p ys)
    ≡ Some x
    → (find p ys ≡ Some x → Contains ys x × (p x ≡ true)) → Contains (y ∷ ys) x × (p x ≡ true)
found_step p y x ys true is h later =
    let same = same_Some y x h in (subst (λ z. Contains (y ∷ ys) z) same (first_in y ys), ap p (sym same) ∙ is)
found_step p y x ys false is h later = let w = later h in (later_in y x ys w.0, w.1)

pub found_in : {A : Type 0} (p : A → Bool) (xs : List A) (x : A) → find p xs ≡ Some x → Contains xs x × (p x ≡ true)
found_in p [] x e = absurd (none-some x e)
found_in p (y ∷ ys) x e = found_step p y x ys (p y) refl e (λ h. found_in p ys x h)

-- where texts are different, what has a text is found by it
pub found_by_text : (saids : List SaidBeside) (said : SaidBeside) → are_different (texts_beside saids) ≡ true
    → Contains saids said
    → find (λ other. bytes_eq other.characters said.characters) saids ≡ Some said
found_by_text [] said different has = absurd (none_in said has)
found_by_text (first ∷ saids) said different has =
    let both = and_parts (list_all (λ other. not (bytes_eq first.characters other)) (texts_beside saids))
    (are_different (texts_beside saids)) different in
    ⊎_elim
    (λ (same : first ≡ said).
    ap (λ b. cond b (Some first) (find (λ other. bytes_eq other.characters said.characters) saids))
    ((bytes_eq-Decides first.characters said.characters).1 (ap (λ s. s.characters) same))
    ∙ ap (λ s. Some s) same)
    (λ (later : Contains saids said).
    ap (λ b. cond b (Some first) (find (λ other. bytes_eq other.characters said.characters) saids))
    (not-true (bytes_eq first.characters said.characters)
    (all_pass (λ other. not (bytes_eq first.characters other)) (λ s. s.characters) saids said both.0 later))
    ∙ found_by_text saids said both.1 later)
    (first_or_later first said saids has)

-- ---- Texts of keys

scalars_of : (cs : List ℕ) → All IsScalar cs → scalars cs ≡ true
scalars_of [] all = refl
scalars_of (c ∷ cs) all = and_from (scalar c) (scalars cs) (All-head IsScalar c cs all)
    (scalars_of cs (All-tail IsScalar c cs all))

turned_scalars : (backward : Bool) (cs : List ℕ) → All IsScalar cs → scalars (key_text backward cs) ≡ true
turned_scalars true cs all = scalars_of (reverse cs) (All-permutation IsScalar cs (reverse cs)
    (IsPermutation-reverse cs) all)
turned_scalars false cs all = scalars_of cs all

turned_twice : (backward : Bool) (cs : List ℕ) → key_text backward (key_text backward cs) ≡ cs
turned_twice true cs = reverse-reverse cs
turned_twice false cs = refl

turned_length : (backward : Bool) (cs : List ℕ) → length (key_text backward cs) ≡ length cs
turned_length true cs = length-reverse cs
turned_length false cs = refl

-- a key spells its text
pub key_spells : (backward : Bool) (cs : List ℕ) → All IsScalar cs
    → characters_of_units (flat_map units_of (key_text backward cs)) ≡ Some (key_text backward cs)
key_spells backward cs all = units_spell (key_text backward cs) (turned_scalars backward cs all)

-- different texts have different keys
pub same_text : (backward : Bool) (cs ds : List ℕ) → All IsScalar cs → All IsScalar ds
    → flat_map units_of (key_text backward cs) ≡ flat_map units_of (key_text backward ds) → cs ≡ ds
same_text backward cs ds first second e =
    let turned : key_text backward cs ≡ key_text backward ds =
    same_Some (key_text backward cs) (key_text backward ds)
    (sym (key_spells backward cs first) ∙ ap characters_of_units e ∙ key_spells backward ds second) in
    sym (turned_twice backward cs) ∙ ap (key_text backward) turned ∙ turned_twice backward ds

-- a key has at most two units a character
pub key_short : (backward : Bool) (cs : List ℕ) → All IsScalar cs
    → length (flat_map units_of (key_text backward cs)) ≤ 2 * length cs
key_short backward cs all =
    let bound = units_few (flat_map units_of (key_text backward cs)) (key_text backward cs)
    (key_spells backward cs all) in
    let same = turned_length backward cs in
    omega (arith, bound, same)

-- and at least one, where there is a character
no_units : (key cs : List ℕ) → characters_of_units key ≡ Some cs → 0 < length cs → 0 < length key
unfolding characters_of_units
no_units [] cs e some = absurd (let none = ap length (same_Some [] cs e) in omega (arith, none, some))
no_units (unit ∷ units) cs e some = omega arith

pub key_some : (backward : Bool) (cs : List ℕ) → All IsScalar cs → 0 < length cs
    → 0 < length (flat_map units_of (key_text backward cs))
key_some backward cs all some =
    let same = turned_length backward cs in
    no_units (flat_map units_of (key_text backward cs)) (key_text backward cs) (key_spells backward cs all)
    (omega (arith, same, some))
