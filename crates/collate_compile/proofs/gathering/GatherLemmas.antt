-- What is gathered: it is found by its characters, as the first of what lines say; its texts are different.
use Rattle.std.proofs.Common.{◌≡◌, ℕ, ◌+◌, ◌≤◌, Bool, true, false, cond, not, ◌||◌, List, [], ◌∷◌, ◌++◌, Option, Some, None, refl, sym, ap, ◌∙◌, arith, All}
use Rattle.std.specs.Prelude.{IfSome, is_some, option_map, sum_by, bytes_eq}
use Rattle.std.specs.Option.{option_and_then, option_or}
use Rattle.std.specs.List.{find, list_all}
use Rattle.std.proofs.lemmas.Bool.{and_from, and_parts, cond-true, false≢true, or_parts, not_from_false}
use Rattle.std.proofs.lemmas.List.Elements.{All-head, All-push, All-tail, All-weaker, All-nil}
use Rattle.std.proofs.lemmas.List.Folds.{find-append}
use Rattle.std.proofs.lemmas.List.Sums.{sum_by-cons, sum_by_push}
use Rattle.std.proofs.lemmas.Slice.Eq.{bytes_eq-Decides}
use Rattle.icu_collator_types.specs.declared.elements.Element.{Element}
use Rattle.collate_rules.specs.Meaning.{first_found}
use Rattle.collate_words.specs.Fits.{are_different}
use Rattle.collate_words.specs.Sayings.{SaidBeside, elements_beside, texts_beside}
use Rattle.collate_compile.specs.BesideLines.{gathered, has_beside, with_beside, with_found}

-- ---- Options

or_none : {B : Type 0} (o : Option B) → option_or o None ≡ o
or_none None = refl
or_none (Some x) = refl

or_some : {B : Type 0} (o p : Option B) → is_some o ≡ true → option_or o p ≡ o
or_some None p h = absurd (false≢true h)
or_some (Some x) p h = refl

or_absent : {B : Type 0} (o p : Option B) → is_some o ≡ false → option_or o p ≡ p
or_absent None p h = refl
or_absent (Some x) p h = absurd (false≢true (sym h))

or_or : {B : Type 0} (o p q : Option B)
    → option_or (option_or o p) q ≡ option_or o (elim p [ Some z ↦ Some z | None ↦ q ])
or_or None None q = refl
or_or None (Some y) q = refl
or_or (Some x) p q = refl

map_or : {A B : Type 0} (f : A → B) (o p : Option A)
    → option_map f (option_or o p) ≡ option_or (option_map f o) (option_map f p)
map_or f None p = refl
map_or f (Some x) p = refl

-- ---- One more

-- the elements of what is said with these characters
abbrev pub elements_at : List ℕ → SaidBeside → Option (List Element)
elements_at key said = cond (bytes_eq said.characters key) (Some said.elements) None

at_one : (key : List ℕ) (said : SaidBeside) → elements_beside (said ∷ []) key ≡ elements_at key said
at_one key said = by (bytes_eq said.characters key)
  where
    by : (b : Bool)
        → option_map (λ (s : SaidBeside). s.elements) (cond b (Some said) None) ≡ cond b (Some said.elements) None
    by true = refl
    by false = refl

beside-append : (saids more : List SaidBeside) (key : List ℕ)
    → elements_beside (saids ++ more) key ≡ option_or (elements_beside saids key) (elements_beside more key)
beside-append saids more key =
    let p : SaidBeside → Bool = λ s. bytes_eq s.characters key in
    ap (option_map (λ (s : SaidBeside). s.elements)) (find-append p saids more)
    ∙ map_or (λ (s : SaidBeside). s.elements) (find p saids) (find p more)

beside-push : (saids : List SaidBeside) (said : SaidBeside) (key : List ℕ)
    → elements_beside (saids ++ said ∷ []) key ≡ option_or (elements_beside saids key) (elements_at key said)
beside-push saids said key =
    beside-append saids (said ∷ []) key ∙ ap (option_or (elements_beside saids key)) (at_one key said)

some_by : {A B : Type 0} (f : A → B) (x : A) (o : Option A) (b t : Bool) → is_some (option_map f o) ≡ t
    → is_some (option_map f (cond b (Some x) o)) ≡ (b || t)
some_by f x o true t h = refl
some_by f x o false t h = h

pub beside-is_some : (saids : List SaidBeside) (key : List ℕ)
    → is_some (elements_beside saids key) ≡ has_beside saids key
beside-is_some [] key = refl
beside-is_some (s ∷ ss) key =
    some_by (λ (t : SaidBeside). t.elements) s (find (λ t. bytes_eq t.characters key) ss) (bytes_eq s.characters key)
    (has_beside ss key) (beside-is_some ss key)

-- what is said is found, if nothing was found before
found_with : (saids : List SaidBeside) (said : SaidBeside) (key : List ℕ)
    → elements_beside (with_beside saids said) key ≡ option_or (elements_beside saids key) (elements_at key said)
found_with saids said key = by (has_beside saids said.characters) refl
  where
    hidden : has_beside saids said.characters ≡ true → (b : Bool) → bytes_eq said.characters key ≡ b
        → elements_beside saids key ≡ option_or (elements_beside saids key) (cond b (Some said.elements) None)
    hidden h false e = sym (or_none (elements_beside saids key))
    hidden h true e =
        let same : said.characters ≡ key = (bytes_eq-Decides said.characters key).0 e in
        sym (or_some (elements_beside saids key) (Some said.elements)
        (beside-is_some saids key ∙ sym (ap (has_beside saids) same) ∙ h))

    by : (b : Bool) → has_beside saids said.characters ≡ b
        → elements_beside (cond b saids (saids ++ said ∷ [])) key ≡ option_or (elements_beside saids key)
        (elements_at key said)
    by true h = hidden h (bytes_eq said.characters key) refl
    by false h = beside-push saids said key

found_with_one : (saids : List SaidBeside) (o : Option SaidBeside) (key : List ℕ)
    → elements_beside (with_found saids o) key ≡ option_or (elements_beside saids key)
    (option_and_then (elements_at key) o)
found_with_one saids None key = sym (or_none (elements_beside saids key))
found_with_one saids (Some said) key = found_with saids said key

-- ---- Different texts, each of which finds what it stands with

different-push : (saids : List SaidBeside) (said : SaidBeside) → are_different (texts_beside saids) ≡ true
    → has_beside saids said.characters ≡ false → are_different (texts_beside (saids ++ said ∷ [])) ≡ true
different-push [] said h none = refl
different-push (s ∷ ss) said h none =
    let p : List ℕ → Bool = λ other. not (bytes_eq s.characters other) in
    let parts = and_parts (list_all p (texts_beside ss)) (are_different (texts_beside ss)) h in
    let nones = or_parts (bytes_eq s.characters said.characters) (has_beside ss said.characters) none in
    and_from (list_all p (texts_beside (ss ++ said ∷ []))) (are_different (texts_beside (ss ++ said ∷ [])))
    (all_push p ss parts.0 (not_from_false (bytes_eq s.characters said.characters) nones.0))
    (different-push ss said parts.1 nones.1)
  where
    all_push : (p : List ℕ → Bool) (ss : List SaidBeside) → list_all p (texts_beside ss) ≡ true
        → p said.characters ≡ true → list_all p (texts_beside (ss ++ said ∷ [])) ≡ true
    all_push p [] h k = and_from (p said.characters) true k refl
    all_push p (t ∷ ts) h k =
        let parts = and_parts (p t.characters) (list_all p (texts_beside ts)) h in
        and_from (p t.characters) (list_all p (texts_beside (ts ++ said ∷ []))) parts.0 (all_push p ts parts.1 k)

-- something said is found by its characters
abbrev pub IsFoundIn : List SaidBeside → SaidBeside → Type 0
IsFoundIn saids said = elements_beside saids said.characters ≡ Some said.elements

pub record AreKept (saids : List SaidBeside) : Type 0 where
  pub different : are_different (texts_beside saids) ≡ true
  pub found : All (IsFoundIn saids) saids

pub kept_none : AreKept []
kept_none = record { different = refl; found = All-nil (IsFoundIn []) }

kept_with : (saids : List SaidBeside) (said : SaidBeside) → AreKept saids → AreKept (with_beside saids said)
kept_with saids said kept = by (has_beside saids said.characters) refl
  where
    at_itself : has_beside saids said.characters ≡ false → IsFoundIn (saids ++ said ∷ []) said
    at_itself h =
        beside-push saids said said.characters
        ∙ or_absent (elements_beside saids said.characters) (elements_at said.characters said)
        (beside-is_some saids said.characters ∙ h)
        ∙ cond-true (bytes_eq said.characters said.characters) (Some said.elements) None
        ((bytes_eq-Decides said.characters said.characters).1 refl)

    stays : (s : SaidBeside) → IsFoundIn saids s → IsFoundIn (saids ++ said ∷ []) s
    stays s h =
        beside-push saids said s.characters
        ∙ ap (λ (o : Option (List Element)). option_or o (elements_at s.characters said)) h

    by : (b : Bool) → has_beside saids said.characters ≡ b → AreKept (cond b saids (saids ++ said ∷ []))
    by true h = kept
    by false h = record {
      different = different-push saids said kept.different h;
      found =
          All-push (IsFoundIn (saids ++ said ∷ [])) saids said
          (All-weaker (IsFoundIn saids) (IsFoundIn (saids ++ said ∷ [])) stays saids kept.found) (at_itself h);
    }

kept_with_one : (saids : List SaidBeside) (o : Option SaidBeside) → AreKept saids → AreKept (with_found saids o)
kept_with_one saids None kept = kept
kept_with_one saids (Some said) kept = kept_with saids said kept

-- what is found takes, if something is
abbrev pub found_size : (SaidBeside → ℕ) → Option SaidBeside → ℕ
found_size size None = 0
found_size size (Some said) = size said

sum-with_one : (size : SaidBeside → ℕ) (saids : List SaidBeside) (o : Option SaidBeside)
    → sum_by size (with_found saids o) ≤ sum_by size saids + found_size size o
sum-with_one size saids None = omega arith
sum-with_one size saids (Some said) = by (has_beside saids said.characters)
  where
    by : (b : Bool) → sum_by size (cond b saids (saids ++ said ∷ [])) ≤ sum_by size saids + size said
    by true = omega arith
    by false = omega (arith, sum_by_push size saids said)

all_with_one : (P : SaidBeside → Type 0) (saids : List SaidBeside) (o : Option SaidBeside) → All P saids → IfSome o P
    → All P (with_found saids o)
all_with_one P saids None all h = all
all_with_one P saids (Some said) all h = by (has_beside saids said.characters)
  where
    by : (b : Bool) → All P (cond b saids (saids ++ said ∷ []))
    by true = all
    by false = All-push P saids said all h

-- ---- All of a list

module _ {A : Type 0} (found : A → Option SaidBeside) where
  -- what a list says of these characters
  abbrev pub said_of : List ℕ → A → Option (List Element)
  said_of key x = option_and_then (elements_at key) (found x)

  pub gathered-beside : (xs : List A) (saids : List SaidBeside) (key : List ℕ)
      → elements_beside (gathered found xs saids) key ≡ option_or (elements_beside saids key)
      (first_found (said_of key) xs)
  gathered-beside [] saids key = sym (or_none (elements_beside saids key))
  gathered-beside (x ∷ xs) saids key =
      gathered-beside xs (with_found saids (found x)) key
      ∙ ap (λ (o : Option (List Element)). option_or o (first_found (said_of key) xs))
      (found_with_one saids (found x) key)
      ∙ or_or (elements_beside saids key) (said_of key x) (first_found (said_of key) xs)

  pub gathered_kept : (xs : List A) (saids : List SaidBeside) → AreKept saids → AreKept (gathered found xs saids)
  gathered_kept [] saids kept = kept
  gathered_kept (x ∷ xs) saids kept = gathered_kept xs (with_found saids (found x)) (kept_with_one saids (found x) kept)

  pub sum-gathered : (size : SaidBeside → ℕ) (xs : List A) (saids : List SaidBeside)
      → sum_by size (gathered found xs saids) ≤ sum_by size saids + sum_by (λ x. found_size size (found x)) xs
  sum-gathered size [] saids = omega arith
  sum-gathered size (x ∷ xs) saids =
      omega (
        arith,
        sum-gathered size xs (with_found saids (found x)),
        sum-with_one size saids (found x),
        sum_by-cons (λ y. found_size size (found y)) x xs,
      )

  pub All-gathered : (P : SaidBeside → Type 0) (xs : List A) (saids : List SaidBeside)
      → All (λ x. IfSome (found x) P) xs → All P saids → All P (gathered found xs saids)
  All-gathered P [] saids each all = all
  All-gathered P (x ∷ xs) saids each all =
      All-gathered P xs (with_found saids (found x)) (All-tail (λ y. IfSome (found y) P) x xs each)
      (all_with_one P saids (found x) all (All-head (λ y. IfSome (found y) P) x xs each))
