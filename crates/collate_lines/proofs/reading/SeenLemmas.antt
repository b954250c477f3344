-- What was seen after one more line.
use Rattle.std.proofs.Common.{◌≡◌, ℕ, Bool, true, false, not, ◌&&◌, ◌||◌, List, [], ◌∷◌, Bor, refl, sym, ap, ◌∙◌, bytes_eq}
use Rattle.std.specs.List.{list_any}
use Rattle.std.specs.BTreeSet.{insert_key}
use Rattle.std.specs.HashSet.{HashSet, contains, PutsKey}
use Rattle.std.specs.declared.hash.FoldHasher.{FoldHasher}
use Rattle.std.specs.declared.hash.BuildHasherDefault.{BuildHasherDefault}
use Rattle.std.proofs.lemmas.List.Sorted.{list_any-IsPermutation}
use Rattle.std.proofs.lemmas.Slice.Eq.{bytes_eq-Decides}
use Rattle.std.proofs.lemmas.Cmp.{nat_list_eq_equiv}
use Rattle.std.proofs.Math.Bool.{or-false, or-true}
use Rattle.icu_collator_types.specs.declared.elements.Element.{Element}
use Rattle.collate_lines.specs.declared.seen.Seen.{Seen}
use Rattle.collate_lines.specs.Record.{Record, nothing, class, mapping, compatibility, weights, range, digit, setting, Setting, root, tailoring}
use Rattle.collate_lines.specs.Repeats.{is_second, setting_name}
use Rattle.collate_lines.specs.Seen.{is_seen}
use Rattle.collate_lines.proofs.reading.KeyLemmas.{Key, Keys, has_key, key_cmp, key_put}

not_not : (b : Bool) → false ≡ not b → b ≡ true
not_not true e = refl
not_not false e = absurd (cc)

or_turned : (a b : Bool) → (a || b) ≡ (b || a)
or_turned true b = sym (or-true b)
or_turned false b = sym (or-false b)

module _ {K : Type 0} (eq : K → K → Bool) (test : K → Bool) (k : K) (same : (x : K) → eq k x ≡ true → test x ≡ test k) where
  -- a key that equals one of these passes a test as that one does
  any_along : (xs : List K) → list_any (eq k) xs ≡ true → test k ≡ true → list_any test xs ≡ true
  any_along [] found passes = found
  any_along (x ∷ xs) found passes = by (eq k x) (λ rest. any_along xs rest passes) refl
    where
      by : (b : Bool) → (list_any (eq k) xs ≡ true → list_any test xs ≡ true) → eq k x ≡ b → list_any test (x ∷ xs) ≡ true
      by true later e = ap (λ (c : Bool). c || list_any test xs) (same x e ∙ passes)
      by false later e =
          ap (λ (c : Bool). test x || c) (later (sym (ap (λ (c : Bool). c || list_any (eq k) xs) e) ∙ found)) ∙ or-true (test x)

  -- whether a key passes, after one more
  puts_key : {S : Type 0} (old new : HashSet K S) (added : Bool) → added ≡ not (contains eq old k) → PutsKey old new k added
      → list_any test new.keys ≡ (list_any test old.keys || test k)
  puts_key old new true is moved = sym (list_any-IsPermutation test (k ∷ old.keys) new.keys moved) ∙ or_turned (test k) (list_any test old.keys)
  puts_key old new false is stays = ap (list_any test) stays ∙ by (test k) refl
    where
      by : (b : Bool) → test k ≡ b → list_any test old.keys ≡ (list_any test old.keys || test k)
      by true e = any_along old.keys (not_not (contains eq old k) is) e ∙ sym (ap (λ (c : Bool). list_any test old.keys || c) e ∙ or-true (list_any test old.keys))
      by false e = sym (ap (λ (c : Bool). list_any test old.keys || c) e ∙ or-false (list_any test old.keys))

abbrev pub Names : Type 0
Names = HashSet (Bor (List ℕ)) (BuildHasherDefault FoldHasher)

abbrev pub is_same_name : Bor (List ℕ) → Bor (List ℕ) → Bool
is_same_name x y = bytes_eq x.now y.now

-- a key more
key_seen : (old new : Keys) (key : Key) (prefix text p t : List ℕ) → key.0.items ≡ prefix → key.1.items ≡ text → new.keys ≡ insert_key key_cmp old.keys key
    → has_key new p t ≡ (has_key old p t || (bytes_eq prefix p && bytes_eq text t))
key_seen old new key prefix text p t first second put =
    key_put old new key prefix text first second put p t
    ∙ ap (λ (b : Bool). has_key old p t || (b && bytes_eq t text)) (nat_list_eq_equiv.symm p prefix)
    ∙ ap (λ (b : Bool). has_key old p t || (bytes_eq prefix p && b)) (nat_list_eq_equiv.symm t text)

-- a w line more
pub root_seen : (seen : Seen) (keys : Keys) (key : Key) (prefix text : List ℕ) (es : List Element) → key.0.items ≡ prefix → key.1.items ≡ text
    → keys.keys ≡ insert_key key_cmp seen.root.keys key
    → (other : Record) → is_seen (record seen { root = keys }) other ≡ (is_seen seen other || is_second (weights root prefix text es) other)
root_seen seen keys key prefix text es first second put nothing = refl
root_seen seen keys key prefix text es first second put (class c k) = sym (or-false _)
root_seen seen keys key prefix text es first second put (mapping c ds x) = sym (or-false _)
root_seen seen keys key prefix text es first second put (compatibility c ds) = sym (or-false _)
root_seen seen keys key prefix text es first second put (weights root p t fs) = key_seen seen.root keys key prefix text p t first second put
root_seen seen keys key prefix text es first second put (weights tailoring p t fs) = sym (or-false _)
root_seen seen keys key prefix text es first second put (range r) = refl
root_seen seen keys key prefix text es first second put (digit c v) = sym (or-false _)
root_seen seen keys key prefix text es first second put (setting s) = sym (or-false _)

-- a t line more
pub tailoring_seen : (seen : Seen) (keys : Keys) (key : Key) (prefix text : List ℕ) (es : List Element) → key.0.items ≡ prefix → key.1.items ≡ text
    → keys.keys ≡ insert_key key_cmp seen.tailoring.keys key
    → (other : Record) → is_seen (record seen { tailoring = keys }) other ≡ (is_seen seen other || is_second (weights tailoring prefix text es) other)
tailoring_seen seen keys key prefix text es first second put nothing = refl
tailoring_seen seen keys key prefix text es first second put (class c k) = sym (or-false _)
tailoring_seen seen keys key prefix text es first second put (mapping c ds x) = sym (or-false _)
tailoring_seen seen keys key prefix text es first second put (compatibility c ds) = sym (or-false _)
tailoring_seen seen keys key prefix text es first second put (weights root p t fs) = sym (or-false _)
tailoring_seen seen keys key prefix text es first second put (weights tailoring p t fs) = key_seen seen.tailoring keys key prefix text p t first second put
tailoring_seen seen keys key prefix text es first second put (range r) = refl
tailoring_seen seen keys key prefix text es first second put (digit c v) = sym (or-false _)
tailoring_seen seen keys key prefix text es first second put (setting s) = sym (or-false _)

-- a setting more
name_seen : (old new : Names) (name : Bor (List ℕ)) (added : Bool) (is_name other : List ℕ) → name.now ≡ is_name
    → added ≡ not (contains is_same_name old name) → PutsKey old new name added
    → list_any (λ (n : Bor (List ℕ)). bytes_eq other n.now) new.keys ≡ (list_any (λ (n : Bor (List ℕ)). bytes_eq other n.now) old.keys || bytes_eq is_name other)
name_seen old new name added is_name other named is puts =
    puts_key is_same_name (λ (n : Bor (List ℕ)). bytes_eq other n.now) name
    (λ x e. ap (λ (l : List ℕ). bytes_eq other l) (sym ((bytes_eq-Decides name.now x.now).0 e))) old new added is puts
    ∙ ap (λ (b : Bool). list_any (λ (n : Bor (List ℕ)). bytes_eq other n.now) old.keys || b)
    (nat_list_eq_equiv.symm other name.now ∙ ap (λ (l : List ℕ). bytes_eq l other) named)

pub setting_seen : (seen : Seen) (names : Names) (name : Bor (List ℕ)) (added : Bool) (s : Setting) → name.now ≡ setting_name s
    → added ≡ not (contains is_same_name seen.settings name) → PutsKey seen.settings names name added
    → (other : Record) → is_seen (record seen { settings = names }) other ≡ (is_seen seen other || is_second (setting s) other)
setting_seen seen names name added s named is puts nothing = refl
setting_seen seen names name added s named is puts (class c k) = sym (or-false _)
setting_seen seen names name added s named is puts (mapping c ds x) = sym (or-false _)
setting_seen seen names name added s named is puts (compatibility c ds) = sym (or-false _)
setting_seen seen names name added s named is puts (weights root p t fs) = sym (or-false _)
setting_seen seen names name added s named is puts (weights tailoring p t fs) = sym (or-false _)
setting_seen seen names name added s named is puts (range r) = refl
setting_seen seen names name added s named is puts (digit c v) = sym (or-false _)
setting_seen seen names name added s named is puts (setting r) = name_seen seen.settings names name added (setting_name s) (setting_name r) named is puts
