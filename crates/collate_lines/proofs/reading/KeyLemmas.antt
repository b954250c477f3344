-- Prefixes, each with a text, in a set: looked up and added to.
use Rattle.std.proofs.Common.{◌≡◌, ℕ, Bool, true, false, ◌&&◌, ◌||◌, List, [], ◌∷◌, refl, sym, ◌∙◌, ap}
use Rattle.std.specs.Prelude.{bytes_eq}
use Rattle.std.specs.declared.cmp.Ordering.{Ordering}
use Rattle.std.specs.declared.cmp.Ordering.TheVariants.{Less, Equal, Greater}
use Rattle.std.specs.BTreeSet.{BTreeSet, contains_by, insert_key}
use Rattle.std.specs.Cmp.{tied_then}
use Rattle.std.specs.Cmp.Lexicographic.{slice_cmp}
use Rattle.std.specs.Global.{Vec}
use Rattle.std.specs.List.{list_any}
use Rattle.std.specs.Ordering.{is_eq, match_ordering, nat_cmp, ordering_then}
use Rattle.std.proofs.lemmas.Bool.{and_parts}
use Rattle.std.proofs.lemmas.Map.Text.{is_eq-slice_cmp}
use Rattle.std.proofs.lemmas.Slice.Eq.{bytes_eq-Decides}
use Rattle.std.proofs.Math.Bool.{or-false, or-true}

or_turned : (a b : Bool) → (a || b) ≡ (b || a)
or_turned true b = sym (or-true b)
or_turned false b = sym (or-false b)

or_joined : (a b c : Bool) → (a || (b || c)) ≡ ((a || b) || c)
or_joined true b c = refl
or_joined false b c = refl

or_again : (a b : Bool) → (a || b) ≡ ((a || b) || a)
or_again true b = refl
or_again false b = sym (or-false b)

-- whether a key passes, after one more
module _ {K : Type 0} (cmp : K → K → Ordering) (test : K → Bool) (k : K) (same : (x : K) → cmp k x ≡ Equal → test k ≡ test x) where
  pub any_inserted : (xs : List K) → list_any test (insert_key cmp xs k) ≡ (list_any test xs || test k)
  any_inserted [] = or-false (test k)
  any_inserted (x ∷ xs) = by (cmp k x) refl (any_inserted xs)
    where
      by : (o : Ordering) → cmp k x ≡ o → list_any test (insert_key cmp xs k) ≡ (list_any test xs || test k)
          → list_any test (match_ordering o (k ∷ x ∷ xs) (x ∷ xs) (x ∷ insert_key cmp xs k)) ≡ (list_any test (x ∷ xs) || test k)
      by Less e rest = or_turned (test k) (list_any test (x ∷ xs))
      by Equal e rest = or_again (test x) (list_any test xs) ∙ ap (λ (b : Bool). list_any test (x ∷ xs) || b) (sym (same x e))
      by Greater e rest = ap (λ (b : Bool). test x || b) rest ∙ or_joined (test x) (list_any test xs) (test k)

-- a prefix and a text
abbrev pub Key : Type 0
Key = Vec ℕ × Vec ℕ

abbrev pub Keys : Type 0
Keys = BTreeSet Key

-- how keys are ordered: by their prefixes, then by their texts
abbrev pub key_cmp : Key → Key → Ordering
key_cmp x y = ordering_then (slice_cmp nat_cmp x.0.items y.0.items) (slice_cmp nat_cmp x.1.items y.1.items)

abbrev pub is_key : List ℕ → List ℕ → Key → Bool
is_key prefix text key = bytes_eq prefix key.0.items && bytes_eq text key.1.items

both_same : (a b c d : Bool) → a ≡ c → b ≡ d → (a && b) ≡ (c && d)
both_same a b c d e f = ap (λ (x : Bool). x && b) e ∙ ap (λ (y : Bool). c && y) f

-- keys are the same where their prefixes and their texts are
tied_key : (x y : Key) → is_eq (key_cmp x y) ≡ is_key x.0.items x.1.items y
tied_key x y =
    sym (tied_then (slice_cmp nat_cmp x.0.items y.0.items) (slice_cmp nat_cmp x.1.items y.1.items))
    ∙ both_same _ _ _ _ (is_eq-slice_cmp x.0.items y.0.items) (is_eq-slice_cmp x.1.items y.1.items)

-- whether a prefix and a text are among them
abbrev pub has_key : Keys → List ℕ → List ℕ → Bool
has_key keys prefix text = list_any (is_key prefix text) keys.keys

any_alike : {K : Type 0} (p q : K → Bool) (xs : List K) → ((x : K) → p x ≡ q x) → list_any p xs ≡ list_any q xs
any_alike p q [] same = refl
any_alike p q (x ∷ xs) same = ap (λ (b : Bool). b || list_any p xs) (same x) ∙ ap (λ (b : Bool). q x || b) (any_alike p q xs same)

-- a key is looked up
pub key_found : (noted : Keys) (key : Key) (prefix text : List ℕ) → key.0.items ≡ prefix → key.1.items ≡ text
    → contains_by (key_cmp key) noted ≡ has_key noted prefix text
key_found noted key prefix text first second =
    any_alike (λ x. is_eq (key_cmp key x)) (is_key key.0.items key.1.items) noted.keys (tied_key key)
    ∙ ap (λ (p : List ℕ). has_key noted p key.1.items) first ∙ ap (λ (t : List ℕ). has_key noted prefix t) second

-- a key more
pub key_put : (old new : Keys) (key : Key) (prefix text : List ℕ) → key.0.items ≡ prefix → key.1.items ≡ text
    → new.keys ≡ insert_key key_cmp old.keys key
    → (p t : List ℕ) → has_key new p t ≡ (has_key old p t || (bytes_eq p prefix && bytes_eq t text))
key_put old new key prefix text first second put p t =
    ap (list_any (is_key p t)) put ∙ any_inserted key_cmp (is_key p t) key same old.keys
    ∙ ap (λ (b : Bool). has_key old p t || b)
    (ap (λ (l : List ℕ). bytes_eq p l && bytes_eq t key.1.items) first ∙ ap (λ (l : List ℕ). bytes_eq p prefix && bytes_eq t l) second)
  where
    same : (x : Key) → key_cmp key x ≡ Equal → is_key p t key ≡ is_key p t x
    same x e =
        let parts = and_parts (bytes_eq key.0.items x.0.items) (bytes_eq key.1.items x.1.items) (sym (tied_key key x) ∙ ap is_eq e) in
        both_same _ _ _ _ (ap (λ (l : List ℕ). bytes_eq p l) ((bytes_eq-Decides key.0.items x.0.items).0 parts.0))
        (ap (λ (l : List ℕ). bytes_eq t l) ((bytes_eq-Decides key.1.items x.1.items).0 parts.1))
